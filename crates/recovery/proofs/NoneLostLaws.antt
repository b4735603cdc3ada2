-- Where strict recovering reading refuses no block, each line that starts with a digit starts a directive.
use Prim.Native.Nat.{ℕ, zero, suc, ◌+◌, ◌-◌, ◌≤◌, ◌<◌}
use native.Mathlib.Nat.{zero-add}
use native.Mathlib.Omega.{arith}
use mathlib.Core.Path.{◌≡◌, refl, sym, ◌∙◌, ap, subst}
use mathlib.Core.Bool.{Bool, true, false, cond}
use mathlib.Core.Logic.{◌⊎◌, inl, inr, ⊎_elim}
use mathlib.Core.List.{List, [], ◌∷◌, ◌++◌, map, map-append, append_assoc}
use lib.Dec.{ltb, leb}
use lib.IntN.{pos}
use lib.ListN.{length, get_or, take, drop, length-take, length-drop}
use lib.Seq.{get_or-take, get_or-drop}
use Rattle.text.proofs.EveryLaws.{every_left, every_right}
use Rattle.text.specs.Bytes.{is_digit}
use Rattle.text.specs.Permitted.{clean, size_limit}
use Rattle.text.proofs.TestLaws.{absurd_bool}
use Rattle.row.specs.declared.table.Row.{Row}
use Rattle.row.specs.Row.{row_of, feeds}
use Rattle.text.specs.Boundaries.{cuts}
use Rattle.row.proofs.PourLaws.{le_or_lt}
use Rattle.entry.specs.Entry.{detail_row, rows_of, Reads, got, refuse, entry_of}
use Rattle.entry.proofs.EntryForms.{entry_form, entry_sound}
use Rattle.entry.proofs.EntryTold.{form_kind_low, digit_kind}
use Rattle.ledger.specs.Plain.{move, moved, Reading, accepted, denied, read_from, part_at, part}
use Rattle.ledger.specs.Strict.{lost_line, objection, part_by}
use Rattle.ledger.specs.Strictness.{Passes}
use Rattle.ledger.specs.declared.scan.Profile.TheVariants.{Strict}
use Rattle.ledger.proofs.PlainLaws.{read_got, read_refuse, after_accepted}
use Rattle.recovery.specs.Recovering.{block_length, block_rows, recover_by, recovered_by}
use Rattle.recovery.specs.NoneLost.{DigitLine, NoneRefused, DirectiveAt, NoneLost}
use Rattle.recovery.proofs.BlockLaws.{block_le, block_some, recover_step}
use Rattle.recovery.proofs.ProfileLaws.{strict_passes}

-- ---- a directive's row among rows

left_of : (xs ys : List Row) (a : ℕ) → DirectiveAt xs a → DirectiveAt (xs ++ ys) a
left_of xs ys a d =
    record {
      before = d.before;
      row = d.row;
      behind = d.behind ++ ys;
      split = ap (λ z. z ++ ys) d.split ∙ append_assoc d.before (d.row ∷ d.behind) ys;
      place = d.place;
      from = d.from;
      upto = d.upto;
    }

right_of : (xs ys : List Row) (a : ℕ) → DirectiveAt ys a → DirectiveAt (xs ++ ys) a
right_of xs ys a d =
    record {
      before = xs ++ d.before;
      row = d.row;
      behind = d.behind;
      split = ap (λ z. xs ++ z) d.split ∙ sym (append_assoc xs d.before (d.row ∷ d.behind));
      place = d.place;
      from = d.from;
      upto = d.upto;
    }

further_on : (b l a : ℕ) (rs : List Row) → DirectiveAt rs a → DirectiveAt (moved b l rs) (b + a)
unfolding move
further_on b l a rs d =
    record {
      before = moved b l d.before;
      row = move b l d.row;
      behind = moved b l d.behind;
      split = ap (moved b l) d.split ∙ map-append (move b l) d.before (d.row ∷ d.behind);
      place = ap (λ i. b + i) d.place;
      from = d.from;
      upto = d.upto;
    }

none_parts : (xs ys : List Row) → NoneRefused (xs ++ ys) → NoneRefused xs × NoneRefused ys
none_parts xs ys h = (every_left _ xs ys h, every_right _ xs ys h)

-- ---- the first entry of a text that starts with a digit

module _ (x : List ℕ) (h : 0 < length x) (d : is_digit (get_or x 0 0) ≡ true) where
  -- the row of a blank entry there is refused
  own_row_lem : (n k dt q : ℕ) → 0 < n → Passes x (move 0 1 (row_of k 0 n 0 dt q (pos 0)) ∷ []) → k ≡ 1 → ⊥
  unfolding objection move row_of lost_line
  own_row_lem n k dt q l p e =
      let z : 0 + n - (0 + 0) ≡ n = omega arith in
      let b : is_digit (get_or (take n x) 0 0) ≡ true = rw (get_or-take n x 0 0 l) d in
      let w : ◌≡◌ {A = ℕ} 16 0 = rw (e, z, b) at p.0 in
      omega arith

  first_read : (f : ℕ) (us : List Row) → read_from (suc f) 0 1 x ≡ accepted us → Passes x us → DirectiveAt us 0
  unfolding rows_of move row_of
  first_read f us e p = go (entry_of x) refl
    where
      go : (r : Reads) → entry_of x ≡ r → DirectiveAt us 0
      go (got n rs) q =
          let z = entry_form x n rs q in
          let k = z.0.kind in
          let s = entry_sound x n rs q in
          let w = after_accepted (moved 0 1 rs) (read_from f (0 + n) (1 + feeds (take n x)) (drop n x)) us (sym (read_got f 0 1 x n rs h q) ∙ e) in
          let all : us ≡ moved 0 1 (rows_of x n z.0) ++ w.0 = w.2 ∙ ap (λ y. moved 0 1 y ++ w.0) z.2 in
          let own = subst (Passes x) all p in
          record {
            before = [];
            row = move 0 1 (row_of k 0 n 0 z.0.date (length z.0.details) (pos 0));
            behind = moved 0 1 (map (detail_row (take n x)) z.0.details) ++ w.0;
            split = all;
            place = omega arith;
            from = ⊎_elim (λ (b : k ≡ 1). absurd (own_row_lem n k z.0.date (length z.0.details) s.0 (own.0, tt) b)) (λ (b : 6 ≤ k). b) (digit_kind x d n z.0 z.1);
            upto = form_kind_low x n z.0 z.1;
          }
      go (refuse k q) r = absurd (let y : denied k (0 + q) ≡ accepted us = sym (read_refuse f 0 1 x k q h r) ∙ e in let z : ◌≡◌ {A = ℕ} 0 1 = cc in omega arith)

  first_part : (us : List Row) → part x ≡ accepted us → Passes x us → DirectiveAt us 0
  unfolding part_at
  first_part us e p = go (ltb (clean x) (length x)) e
    where
      go : (b : Bool) → cond b (denied 2 (0 + clean x)) (read_from (length x) 0 1 x) ≡ accepted us → DirectiveAt us 0
      go true e = absurd (let z : ◌≡◌ {A = ℕ} 0 1 = cc in omega arith)
      go false e =
          let f = length x - 1 in
          let b : length x ≡ suc f = omega arith in
          first_read f us (ap (λ i. read_from i 0 1 x) (sym b) ∙ e) p

  first_block_lem : (a l n : ℕ) → NoneRefused (block_rows a l n (part_by Strict x)) → DirectiveAt (block_rows a l n (part_by Strict x)) (a + 0)
  unfolding block_rows row_of
  first_block_lem a l n = go (part_by Strict x) refl
    where
      go : (w : Reading) → part_by Strict x ≡ w → NoneRefused (block_rows a l n w) → DirectiveAt (block_rows a l n w) (a + 0)
      go (accepted us) e h = let k = strict_passes x us e in further_on a l 0 us (first_part us k.0 k.1)
      go (denied k p) e h = absurd (h.0 refl)

-- ---- no line but a block's first starts so inside it

no_cut : (s : List ℕ) (q : ℕ) → suc q < block_length s → cuts (get_or s q 0) (get_or s (suc q) 0) ≡ false
unfolding block_length
no_cut [] q h = absurd (omega arith)
no_cut (b ∷ s) q h = go (cuts b (get_or s 0 0)) refl q h (λ r k. no_cut s r k)
  where
    go : (t : Bool) → cuts b (get_or s 0 0) ≡ t → (q : ℕ) → suc q < suc (cond t 0 (block_length s)) → ((r : ℕ) → suc r < block_length s → cuts (get_or s r 0) (get_or s (suc r) 0) ≡ false)
        → cuts (get_or (b ∷ s) q 0) (get_or s q 0) ≡ false
    go true e q h ih = absurd (omega arith)
    go false e zero h ih = e
    go false e (suc q) h ih = ih q (omega arith)

digit_cuts : (b n : ℕ) → b ≡ 10 → is_digit n ≡ true → cuts b n ≡ true
digit_cuts b n e d = rw (e, d)

inside_block : (s : List ℕ) (q : ℕ) → suc q < block_length s → DigitLine s (suc q) → ⊥
inside_block s q h d =
    let z : suc q - 1 ≡ q = omega arith in
    ⊎_elim
    (λ (e : suc q ≡ 0). omega arith)
    (λ (e : get_or s (suc q - 1) 0 ≡ 10). absurd_bool (sym (no_cut s q h) ∙ digit_cuts (get_or s q 0) (get_or s (suc q) 0) (ap (λ i. get_or s i 0) (sym z) ∙ e) d.digit))
    d.starts

-- a line behind n bytes
line_behind : (n p : ℕ) (s : List ℕ) → n ≤ p → DigitLine s p → DigitLine (drop n s) (p - n)
line_behind n p s h d =
    let z : n + (p - n) ≡ p = omega arith in
    record { starts = first (p - n) refl; digit = rw (get_or-drop n s (p - n) 0, z) d.digit }
  where
    first : (i : ℕ) → p - n ≡ i → (i ≡ 0) ⊎ (get_or (drop n s) (i - 1) 0 ≡ 10)
    first zero e = inl refl
    first (suc i) e =
        ⊎_elim
        (λ (f : p ≡ 0). absurd (omega arith))
        (λ (f : get_or s (p - 1) 0 ≡ 10).
        let y : n + (suc i - 1) ≡ p - 1 = omega arith in
        inr (rw (get_or-drop n s (suc i - 1) 0, y) f))
        d.starts

-- ---- block by block

module _ (f a l : ℕ) (s : List ℕ) (h : 0 < length s) where
  abbrev n : ℕ
  n = block_length s

  abbrev B : List Row
  B = block_rows a l n (part_by Strict (take n s))

  abbrev R : List Row
  R = recover_by Strict f (a + n) (l + feeds (take n s)) (drop n s)

  at_first : (p : ℕ) → p < n → NoneRefused B → DigitLine s p → DirectiveAt B (a + p)
  at_first zero b k d =
      let some = block_some s h in
      first_block_lem (take n s) (rw length-take (omega (arith, block_le s))) (rw (get_or-take n s 0 0 some) d.digit) a l n k
  at_first (suc q) b k d = absurd (inside_block s q b d)

  lost_step : NoneRefused (recover_by Strict (suc f) a l s) → (p : ℕ) → DigitLine s p
      → (NoneRefused R → (q : ℕ) → DigitLine (drop n s) q → DirectiveAt R (a + n + q)) → DirectiveAt (recover_by Strict (suc f) a l s) (a + p)
  lost_step k p d ih =
      let e = recover_step Strict f a l s h in
      let y = none_parts B R (subst NoneRefused e k) in
      subst (λ z. DirectiveAt z (a + p)) (sym e)
      (⊎_elim
      (λ (g : n ≤ p).
      let z : a + n + (p - n) ≡ a + p = omega arith in
      right_of B R (a + p) (subst (DirectiveAt R) z (ih y.1 (p - n) (line_behind n p s g d))))
      (λ (g : p < n). left_of B R (a + p) (at_first p g y.0 d))
      (le_or_lt n p))

no_digit : (p : ℕ) → DigitLine [] p → ⊥
unfolding is_digit
no_digit p d = absurd_bool d.digit

lost_from : (f a l : ℕ) (s : List ℕ) → length s ≤ f → NoneRefused (recover_by Strict f a l s) → (p : ℕ) → DigitLine s p → DirectiveAt (recover_by Strict f a l s) (a + p)
lost_from zero a l [] g k p d = absurd (no_digit p d)
lost_from zero a l (c ∷ s) g k p d = absurd (omega arith)
lost_from (suc f) a l [] g k p d = absurd (no_digit p d)
lost_from (suc f) a l (c ∷ s) g k p d =
    let n = block_length (c ∷ s) in
    let z : length (drop n (c ∷ s)) ≤ f = rw length-drop (omega (arith, block_some (c ∷ s) (omega arith))) in
    lost_step f a l (c ∷ s) (omega arith) k p d (λ y q e. lost_from f (a + n) (l + feeds (take n (c ∷ s))) (drop n (c ∷ s)) z y q e)

pub none_lost : NoneLost
unfolding recovered_by
none_lost s rs e k a d = go (leb (length s) size_limit) e
  where
    go : (b : Bool) → cond b (accepted (recover_by Strict (length s) 0 0 s)) (denied 1 0) ≡ accepted rs → DirectiveAt rs a
    go true e =
        let z : recover_by Strict (length s) 0 0 s ≡ rs = cc in
        subst (λ y. DirectiveAt y a) z (rw (zero-add a) at (lost_from (length s) 0 0 s (omega arith) (subst NoneRefused (sym z) k) a d))
    go false e = absurd (let z : ◌≡◌ {A = ℕ} 0 1 = cc in omega arith)
