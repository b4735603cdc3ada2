-- Laws by which the code of the table does what is asked.
use mathlib.Core.Path.{◌≡◌, sym, ap, ◌∙◌}
use mathlib.Core.List.{List, [], ◌∷◌, ◌++◌}
use Prim.Native.Nat.{ℕ, ◌+◌, ◌-◌, ◌*◌, ◌<◌, ◌≤◌}
use native.Mathlib.Omega.{arith}
use borrow.Author.Tests.{le-leb, lt-leb}
use borrow.Rule.Slice.PartMut.{put_mid}
use lib.ListN.{length, take, drop, length-take, length-drop}
use lib.Seq.{sets, sets-eq}
use Rattle.row.specs.Field.{le, un, field_at}
use Rattle.row.specs.Row.{at_kind, at_start, at_end, at_line, at_p, at_q, at_value, fields_width, field_bytes, fields_in, width, row_bytes, row_in, room}
use Rattle.row.specs.steps.Pouring.{pour, place_of, pour_at}
use Rattle.row.specs.declared.table.Row.{Row}
use Rattle.row.proofs.PouredLaws.{poured_lent, poured_rest}
use Rattle.row.proofs.PourLaws.{pour_short, pour_fits, pour_none, pour_at_full, head_last}

-- ---- a field that is read, or is not all in the table

module _ (t : List ℕ) (at width : ℕ) where
  pub field_wide : 8 < width → 0 ≡ field_at t at width
  field_wide h = rw (lt-leb width 8 h)

  pub field_past : width ≤ 8 → length t < at → 0 ≡ field_at t at width
  field_past h l = rw (le-leb width 8 h, lt-leb at (length t) l)

  pub field_cut : width ≤ 8 → at ≤ length t → length t - at < width → 0 ≡ field_at t at width
  field_cut h l k = rw (le-leb width 8 h, le-leb at (length t) l, lt-leb width (length t - at) k)

  pub field_read : {x : ℕ} → width ≤ 8 → at ≤ length t → width ≤ length t - at → x ≡ un (take width (drop at t)) → x ≡ field_at t at width
  field_read h l k e = rw (le-leb width 8 h, le-leb at (length t) l, le-leb width (length t - at) k) e

pub ruleset fields = (field_wide, field_past, field_cut, field_read)

-- ---- a row that is read back

module _ (t : List ℕ) where
  pub start_read : {a : ℕ} → a ≡ un (take 4 (drop at_start t)) → a ≡ (row_in t).start
  unfolding row_in fields_in
  start_read e = e

  pub fields_read : {k a e l p q b : ℕ} → k ≡ un (take 4 (drop at_kind t)) → a ≡ un (take 4 (drop at_start t)) → e ≡ un (take 4 (drop at_end t))
      → l ≡ un (take 4 (drop at_line t)) → p ≡ un (take 4 (drop at_p t)) → q ≡ un (take 4 (drop at_q t)) → b ≡ un (take 8 (drop at_value t))
      → record { kind = k; start = a; end = e; line = l; p = p; q = q; bits = b } ≡ fields_in t
  unfolding fields_in
  fields_read ek ea ee el ep eq eb = rw (ek, ea, ee, el, ep, eq, eb)

  pub row_read : {r : Row} → r ≡ fields_in t → r ≡ row_in t
  unfolding row_in
  row_read e = e

pub ruleset reads = (start_read, fields_read, row_read)

-- ---- a row that is stored

-- the seven stores are one
pub fields_put : (r : Row) (t : List ℕ) {a b c d e f g : List ℕ} → fields_width ≤ length t
    → a ≡ sets t at_kind (le 4 r.kind) → b ≡ sets a at_start (le 4 r.start) → c ≡ sets b at_end (le 4 r.end) → d ≡ sets c at_line (le 4 r.line)
    → e ≡ sets d at_p (le 4 r.p) → f ≡ sets e at_q (le 4 r.q) → g ≡ sets f at_value (le 8 r.bits) → g ≡ field_bytes r ++ drop fields_width t
unfolding field_bytes
fields_put r t h ea eb ec ed ee ef eg = rw (eg, ef, ee, ed, ec, eb, ea) (sets-eq (field_bytes r) t 0 h)

pub row_put : (r : Row) (t : List ℕ) {u : List ℕ} → width ≤ length t → u ≡ field_bytes r ++ drop fields_width t → u ≡ pour (r ∷ []) t
unfolding row_bytes
row_put r t h e = e ∙ sym (rw (pour_fits r [] t h, pour_none))

pub row_none : (rs : List Row) (t : List ℕ) → length t < width → t ≡ pour rs t
row_none rs t h = sym (pour_short rs t h)

-- row n alone, lent on
pub row_lent : (n : ℕ) (r : Row) (t : List ℕ) {e : ℕ} {m : List ℕ} → n < room t → e ≡ n * width + width
    → m ≡ pour (r ∷ []) (take (e - n * width) (drop (n * width) t)) → put_mid (n * width) (e - n * width) t m ≡ pour_at n (r ∷ []) t
row_lent n r t {e} h ee em =
    let y = take (e - n * width) (drop (n * width) t) in
    let l : width ≤ length y = rw (length-take, length-drop) (omega arith) in
    poured_lent width row_bytes n r t (omega arith) ee (em ∙ rw (pour_fits r [] y l, pour_none))

pub row_full : (n : ℕ) (r : Row) (t : List ℕ) → room t ≤ n → t ≡ pour_at n (r ∷ []) t
row_full n r t h = sym (pour_at_full n (r ∷ []) t h)

-- ---- the rest of a table, lent on from row n

pub lent_on : (n : ℕ) (rs : List Row) (t : List ℕ) {a : ℕ} {m : List ℕ} → a ≡ place_of n (length t)
    → m ≡ pour rs (take (length t - a) (drop a t))
    → put_mid a (length t - a) t m ≡ pour_at n rs t
lent_on n rs t ea em = poured_rest width row_bytes n rs t ea em

-- details behind the head, into the rest of the table that was lent on, and then the head
pub head_and_rest : (r : Row) (rs : List Row) (t : List ℕ) {k : ℕ} {m u : List ℕ} → k ≡ place_of 1 (length t)
    → m ≡ pour rs (take (length t - k) (drop k t)) → u ≡ pour (r ∷ []) (put_mid k (length t - k) t m) → u ≡ pour (r ∷ rs) t
head_and_rest r rs t ek em eu = eu ∙ ap (pour (r ∷ [])) (lent_on 1 rs t ek em) ∙ head_last r rs t

pub ruleset rows = (row_put, row_none, row_lent, row_full)
