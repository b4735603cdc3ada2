-- The rows of plain reading stand whole in their bytes, and the flag of a posting is a byte.
use Prim.Native.Nat.{ℕ, zero, suc, ◌+◌, ◌≤◌, ◌<◌}
use native.Mathlib.Omega.{arith}
use mathlib.Core.Path.{◌≡◌, refl, subst}
use mathlib.Core.Bool.{Bool, true, false, cond}
use mathlib.Core.List.{List, [], ◌∷◌, map}
use borrow.Author.Tests.{leb-true, ltb-false}
use lib.Dec.{leb, ltb}
use lib.ListN.{length, get_or, take, drop, length-drop}
use lib.Seq.{get_or-drop, length-take-le}
use Rattle.decimal.specs.Exact.{twos_of, word_limit}
use Rattle.text.specs.Permitted.{clean, size_limit}
use Rattle.text.proofs.PermittedLaws.{clean_bytes}
use Rattle.text.specs.Every.{Every}
use Rattle.text.proofs.EveryLaws.{every_append}
use Rattle.amount.specs.declared.detail.Detail.{Detail}
use Rattle.amount.proofs.RowCounts.{posting_kind, refusal_kind, any_kinds, Second, unset, within, day, flagged, Rising}
use Rattle.row.specs.declared.table.Row.{Row}
use Rattle.row.specs.Row.{row_of, feeds}
use Rattle.row.specs.Details.{spanned}
use Rattle.row.specs.steps.Holding.{Held}
use Rattle.row.proofs.LineLaws.{feeds_le}
use Rattle.row.proofs.ReadBack.{bits_low}
use Rattle.entry.specs.Entry.{Reads, detail_row, rows_of, got, refuse, entry_of}
use Rattle.entry.proofs.EntryForms.{entry_form, entry_sound}
use Rattle.entry.proofs.EntryTold.{form_placed, form_date, form_kind_low}
use Rattle.entry.proofs.EntryLines.{OnLine}
use Rattle.ledger.specs.Plain.{move, moved, Reading, accepted, denied, after, read_from, part_at, part, plain}
use Rattle.ledger.proofs.PlainLaws.{read_got, read_refuse, Accepts, part_kept}

-- what a row holds beside its span and line, in a text of n bytes
record Sized (n : ℕ) (r : Row) : Type 0 where
  p : r.p ≤ n + 100000000
  q : r.q ≤ n
  flag : r.kind ≡ posting_kind → r.p < 256
  bits : r.bits < word_limit

abbrev Bytes : List ℕ → Type 0
Bytes s = (i : ℕ) → get_or s i 0 < 256

-- ---- the rows of an entry

module _ (s : List ℕ) (B : Bytes s) where
  second_low : (d : Detail) → Second s d → (d.p ≤ length s + 100000000) × (d.kind ≡ posting_kind → d.p < 256)
  second_low d (unset e) = (omega (arith, e), λ k. omega (arith, e))
  second_low d (within n h) = (omega arith, λ k. absurd (n k))
  second_low d (day e h) = (omega arith, λ k. omega (arith, e))
  second_low d (flagged e i h) = (omega (arith, h, B i), λ k. omega (arith, h, B i))

  details_sized : (u : List ℕ) (k j : ℕ) (ds : List Detail) → Rising any_kinds s k j ds → Every (Sized (length s)) (map (detail_row u) ds)
  unfolding detail_row row_of
  details_sized u k j [] r = tt
  details_sized u k j (d ∷ ds) r =
      let f = r.1 in
      let l = second_low d f.second in
      (record { p = l.0; q = f.q_in; flag = l.1; bits = bits_low d.value f.small }, details_sized u d.start j ds r.2)

  entry_sized : (n : ℕ) (rs : List Row) → entry_of s ≡ got n rs → Every (Sized (length s)) rs
  unfolding rows_of row_of twos_of
  entry_sized n rs e =
      let f = entry_form s n rs e in
      let r = form_placed s n f.0 f.1 in
      let k = entry_sound s n rs e in
      let low = form_kind_low s n f.0 f.1 in
      rw f.2 (
        record { p = omega (arith, form_date s n f.0 f.1); q = omega (arith, r.1, k.1); flag = λ z. absurd (omega arith); bits = omega arith },
        details_sized (take n s) 1 n f.0.details r.0,
      )

-- ---- further on: a posting's p is no place

unspanned : (k : ℕ) → k ≡ posting_kind → spanned k ≡ false
unfolding spanned
unspanned k e = rw e

moved_sized : (a l n m : ℕ) (rs : List Row) → a + n ≤ m → Every (Sized n) rs → Every (Sized m) (moved a l rs)
unfolding move
moved_sized a l n m [] h e = tt
moved_sized a l n m (r ∷ rs) h (e, es) = (
  record {
    p = far (spanned r.kind) r.p 100000000 e.p;
    q = omega (arith, far (spanned r.kind) r.q 0 (omega (arith, e.q)));
    flag = λ z. rw (unspanned r.kind z) (e.flag z);
    bits = e.bits;
  },
  moved_sized a l n m rs h es,
)
  where
    far : (b : Bool) (x k : ℕ) → x ≤ n + k → cond b (a + x) x ≤ m + k
    far true x k g = omega arith
    far false x k g = omega arith

-- ---- a reading of what is left of a text of m bytes

module _ (m : ℕ) where
  after_sized : (xs : List Row) (w : Reading) → Every (Sized m) xs → Accepts (Every (Sized m)) w → Accepts (Every (Sized m)) (after xs w)
  after_sized xs (accepted ys) h k = every_append (Sized m) xs ys h k
  after_sized xs (denied n p) h k = tt

  read_step : (f a l : ℕ) (s : List ℕ) → 0 < length s → a + length s ≤ m → Bytes s
      → ((b k : ℕ) (z : List ℕ) → b + length z ≤ m → Bytes z → Accepts (Every (Sized m)) (read_from f b k z)) → Accepts (Every (Sized m)) (read_from (suc f) a l s)
  read_step f a l s h g B ih = go (entry_of s) refl
    where
      go : (r : Reads) → entry_of s ≡ r → Accepts (Every (Sized m)) (read_from (suc f) a l s)
      go (got n rs) e =
          rw (read_got f a l s n rs h e)
          (after_sized (moved a l rs) (read_from f (a + n) (l + feeds (take n s)) (drop n s)) (moved_sized a l (length s) m rs g (entry_sized s B n rs e))
          (ih (a + n) (l + feeds (take n s)) (drop n s) (omega (arith, length-drop n s, entry_sound s n rs e)) (λ i. rw (get_or-drop n s i 0) (B (n + i)))))
      go (refuse k p) e = rw (read_refuse f a l s k p h e) tt

  read_sized : (f a l : ℕ) (s : List ℕ) → a + length s ≤ m → Bytes s → Accepts (Every (Sized m)) (read_from f a l s)
  unfolding read_from
  read_sized zero a l s h B = tt
  read_sized (suc f) a l [] h B = tt
  read_sized (suc f) a l (c ∷ s) h B = read_step f a l (c ∷ s) (omega arith) h B (λ b k z. read_sized f b k z)

part_sized : (s : List ℕ) (rs : List Row) → part s ≡ accepted rs → Every (Sized (length s)) rs
unfolding part_at
part_sized s rs e = subst (Accepts (Every (Sized (length s)))) e (go (ltb (clean s) (length s)) refl)
  where
    go : (b : Bool) → ltb (clean s) (length s) ≡ b → Accepts (Every (Sized (length s))) (cond b (denied 2 (0 + clean s)) (read_from (length s) 0 1 s))
    go true f = tt
    go false f = read_sized (length s) (length s) 0 1 s (omega arith) (clean_bytes s (ltb-false (clean s) (length s) f))

-- ---- a ledger

pub record WholeRow (r : Row) : Type 0 where
  pub held : Held r
  pub flag : r.kind ≡ posting_kind → r.p < 256

rows_held : (s : List ℕ) (rs : List Row) → length s ≤ size_limit → Every (OnLine refusal_kind 0 1 s) rs → Every (Sized (length s)) rs → Every WholeRow rs
rows_held s [] h e f = tt
rows_held s (r ∷ rs) h (e, es) (f, fs) = (
  record {
    held =
        record {
          kind = omega (arith, e.kind);
          start = omega (arith, e.place, e.inside);
          end = omega (arith, e.ends);
          line = omega (arith, e.lines, e.inside, feeds_le (take e.into s), length-take-le e.into s e.inside);
          p = omega (arith, f.p);
          q = omega (arith, f.q);
          bits = f.bits;
        };
    flag = f.flag;
  },
  rows_held s rs h es fs,
)

pub plain_held : (s : List ℕ) (rs : List Row) → plain s ≡ accepted rs → Every WholeRow rs
unfolding plain
plain_held s rs e = go (leb (length s) size_limit) refl e
  where
    go : (b : Bool) → leb (length s) size_limit ≡ b → cond b (part s) (denied 1 0) ≡ accepted rs → Every WholeRow rs
    go true l f = rows_held s rs (leb-true (length s) size_limit l) (part_kept s rs f).lines (part_sized s rs f)
    go false l f = absurd (let z : ◌≡◌ {A = ℕ} 0 1 = cc in omega arith)
