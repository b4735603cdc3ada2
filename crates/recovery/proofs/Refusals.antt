-- A refused block gives one refusal row, between the rows of what stands before and behind it.
use Prim.Native.Nat.{ℕ, suc, ◌+◌, ◌-◌, ◌<◌, ◌≤◌}
use native.Mathlib.Nat.{zero-add}
use native.Mathlib.Omega.{arith}
use mathlib.Core.Path.{◌≡◌, refl, sym, ap, ◌∙◌}
use mathlib.Core.Bool.{true, false}
use mathlib.Core.List.{List, [], ◌∷◌, ◌++◌, append-nil}
use lib.ListN.{length, drop_of_length-le, length-append}
use lib.Seq.{take_all}
use Rattle.text.proofs.TestLaws.{and_left, and_right}
use Rattle.row.specs.Row.{feeds}
use Rattle.text.specs.Boundaries.{holds}
use Rattle.ledger.specs.Plain.{accepted, denied}
use Rattle.ledger.specs.Strict.{part_by}
use Rattle.ledger.specs.declared.scan.Profile.{Profile}
use Rattle.recovery.specs.Recovering.{block_rows, recover_by}
use Rattle.recovery.specs.Demand3.{starts_tail, ends_line, cut_apart, OneRefusalRow}
use Rattle.recovery.proofs.BlockLaws.{block_whole, recover_nil, recover_step, recover_bound, append_none, recover_append}
use Rattle.recovery.proofs.CallLaws.{starts_is, ends_is, recovered_is}
use Rattle.recovery.proofs.ProfileLaws.{by_part, by_some}

apart_more : (p x t : List ℕ) → 0 < length x → cut_apart p x ≡ true → cut_apart p (x ++ t) ≡ true
unfolding cut_apart starts_tail
apart_more [] x t h c = refl
apart_more (b ∷ p) [] t h c = absurd (omega arith)
apart_more (b ∷ p) (d ∷ x) t h c = c

module _ (K : Profile) where
  apart_rows : (f g h a l : ℕ) (p t : List ℕ) → cut_apart p t ≡ true → length p + length t ≤ f → length p ≤ g → length t ≤ h
      → recover_by K f a l (p ++ t) ≡ recover_by K g a l p ++ recover_by K h (a + length p) (l + feeds p) t
  unfolding cut_apart feeds
  apart_rows f g h a l [] t c hf hg hh = append_none K t f g h a l (omega arith) hh
  apart_rows f g h a l (b ∷ p) [] c hf hg hh =
      rw (append-nil p, recover_nil K h (a + length (b ∷ p)) (l + feeds (b ∷ p)), append-nil (recover_by K g a l (b ∷ p))) (recover_bound K f g a l (b ∷ p) (omega arith) hg)
  apart_rows f g h a l (b ∷ p) (d ∷ t) c hf hg hh =
      recover_append K (d ∷ t) (starts_is (d ∷ t) (and_right (ends_line (b ∷ p)) (starts_tail (d ∷ t)) c)) f g h a l (b ∷ p) hf hg hh
      (ends_is (b ∷ p) (and_left (ends_line (b ∷ p)) (starts_tail (d ∷ t)) c))

  one_block : (f a l : ℕ) (x : List ℕ) → 0 < length x → holds x ≡ false → recover_by K (suc f) a l x ≡ block_rows a l (length x) (part_by K x)
  one_block f a l x h e =
      let n = block_whole x e in
      rw (recover_step K f a l x h, n, take_all (length x) x (omega arith), drop_of_length-le x {i = length x} (omega arith), recover_nil K)
      (append-nil (block_rows a l (length x) (part_by K x)))

  pub one_refusal_row : OneRefusalRow K
  unfolding block_rows
  one_refusal_row p x t k q r =
      let n : length (p ++ (x ++ t)) ≡ length p + (length x + length t) = length-append p (x ++ t) ∙ ap (λ z. length p + z) (length-append x t) in
      let e : part_by K x ≡ denied k q = sym (by_part K x (omega (arith, r.size))) ∙ r.refused in
      let some : 0 < length x = by_some K x k q e in
      let m = length x - 1 in
      let sx : suc m ≡ length x = omega arith in
      let ps = recover_by K (length p) 0 0 p in
      let ts = recover_by K (length t) (length p + length x) (feeds p + feeds x) t in
      let first : recover_by K (length (p ++ (x ++ t))) 0 0 (p ++ (x ++ t)) ≡ ps ++ recover_by K (length (x ++ t)) (0 + length p) (0 + feeds p) (x ++ t) =
      apart_rows (length (p ++ (x ++ t))) (length p) (length (x ++ t)) 0 0 p (x ++ t) (apart_more p x t some r.from) (omega (arith, length-append x t)) (omega arith) (omega arith) in
      let second : recover_by K (length (x ++ t)) (length p) (feeds p) (x ++ t) ≡ recover_by K (suc m) (length p) (feeds p) x ++ ts =
      apart_rows (length (x ++ t)) (suc m) (length t) (length p) (feeds p) x t r.upto (omega (arith, length-append x t)) (omega arith) (omega arith) in
      recovered_is K (p ++ (x ++ t)) r.size
      ∙ ap accepted (first ∙ rw (zero-add (length p), zero-add (feeds p)) (ap (λ z. ps ++ z) (second ∙ rw (one_block m (length p) (feeds p) x some r.one, e))))
