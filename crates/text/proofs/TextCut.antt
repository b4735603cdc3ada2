-- A text that ends in a line feed, and that text with more behind it, which starts with a boundary's byte: they share
-- every line of the first. Below n, its length, a place stands inside a line; at n itself only what reads a line from
-- its start is asked.
use Prim.Native.Nat.{ℕ, suc, ◌+◌, ◌<◌}
use native.Mathlib.Omega.{arith}
use native.Mathlib.Decide.{dec_lt}
use mathlib.Core.Path.{◌≡◌, sym, ◌∙◌, ap, subst}
use mathlib.Core.Bool.{true, false}
use mathlib.Core.List.{List, [], ◌∷◌, ◌++◌}
use borrow.Author.Tests.{eqb-false, le-ltb, lt-ltb}
use lib.Dec.{eqb}
use lib.ListN.{length, get_or, length-append, get_or-append}
use lib.Seq.{get_or-append_seam}
use Rattle.text.specs.Lines.{empty_at}
use Rattle.text.specs.Leaves.{token, gap, empty_line}
use Rattle.text.proofs.Steps.{get_d_past}
use Rattle.text.specs.Boundaries.{is_start}
use Rattle.text.proofs.InLine.{start_bounds, line_end_misses, gap_misses, gap_ends}
use Rattle.text.proofs.Alike.{Same, Upto, upto, miss_same}
use Rattle.text.proofs.SharedLines.{Shared, gap_alike, empty_alike}

-- xs is the text, ys the rest, s both
module _ (front t : List ℕ) (b : ℕ) (B : is_start b ≡ true) where
  abbrev pub xs : List ℕ
  xs = front ++ (10 ∷ [])

  abbrev pub ys : List ℕ
  ys = b ∷ t

  abbrev pub s : List ℕ
  s = xs ++ ys

  abbrev pub n : ℕ
  n = length xs

  longer : n < length s
  longer = omega (arith, length-append xs ys)

  pub same_byte : (at : ℕ) → at < n → get_or s at 0 ≡ get_or xs at 0
  same_byte at h = get_or-append xs ys 0 at h

  -- at n itself stands b on the one, nothing on the other
  pub seam : get_or s n 0 ≡ b
  seam = get_or-append_seam xs b t 0

  pub past_end : get_or xs n 0 ≡ 0
  past_end = get_d_past xs n (omega arith)

  -- below n, or at n
  pub at_seam : (P : ℕ → Type 0) → ((at : ℕ) → at < n → P at) → P n → (at : ℕ) → at < suc n → P at
  at_seam P f g at h = elim (dec_lt at n) [ yes l ↦ f at l | no l ↦ subst P (let e : n ≡ at = omega arith in e) g ]

  -- behind a byte that is no line feed the text goes on
  goes_on_lem : (at : ℕ) → at < n → eqb (get_or s at 0) 10 ≡ false → at + 1 < n
  goes_on_lem at h e = elim (dec_lt (at + 1) n) [
    | yes l ↦ l
    | no l ↦
        let z : at ≡ length front = omega (arith, length-append front (10 ∷ [])) in
        absurd (eqb-false (get_or s at 0) 10 e (same_byte at h ∙ ap (λ k. get_or xs k 0) z ∙ get_or-append_seam front 10 [] 0))
  ]

  pub cut : Shared (Unit {0}) s xs (Upto n) (Upto (suc n))
  cut = record {
    byte = λ i j S. ap (λ k. get_or xs k 0) (sym S.same) ∙ sym (same_byte i (omega (arith, S.same, S.below)));
    next = λ i j S e. record { same = omega (arith, S.same); below = omega (arith, S.same, goes_on_lem i (omega (arith, S.same, S.below)) e) };
    past = λ i j S e. record { same = omega (arith, S.same); below = omega (arith, S.below) };
    inside = λ i j S. omega (arith, S.same, S.below, longer);
    equal = λ i j S q. S.same;
  }

  pub gap_same : {A : Type 0} (at : ℕ) → at < suc n → Same n (gap {A = A} s at) (gap xs at)
  unfolding gap token
  gap_same {A} =
      at_seam (λ at. Same n (gap {A = A} s at) (gap xs at)) (λ at h. gap_alike cut (upto at h))
      (miss_same n (gap s n) (gap xs n) (ap token (gap_misses xs t b (start_bounds b B))) (ap token (gap_ends xs)))

  pub empty_same : {A : Type 0} (at : ℕ) → at < suc n → Same (suc n) (empty_line {A = A} s at) (empty_line xs at)
  unfolding empty_line empty_at token
  empty_same {A} =
      at_seam (λ at. Same (suc n) (empty_line {A = A} s at) (empty_line xs at)) (λ at h. empty_alike cut (upto at h))
      (miss_same (suc n) (empty_line s n) (empty_line xs n) (rw (lt-ltb n (length s) longer, line_end_misses xs t b (start_bounds b B))) (rw (le-ltb n n (omega arith))))
