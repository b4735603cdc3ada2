-- What is left of a text at a place.
use Prim.Native.Nat.{ℕ, ◌+◌, ◌≤◌}
use native.Mathlib.Omega.{arith}
use mathlib.Core.Path.{◌≡◌, refl, sym, ◌∙◌, ap, subst}
use mathlib.Core.List.{List, [], ◌∷◌, ◌++◌, append_assoc}
use lib.ListN.{length, drop, get_or, length-append, length-drop}
use lib.Seq.{drop-drop, get_or-drop, drop-append_seam}

-- from i on the text s is t
pub record At (s : List ℕ) (i : ℕ) (t : List ℕ) : Type 0 where
  pub here : drop i s ≡ t
  pub fits : i + length t ≡ length s

pub at_start_lem : (t : List ℕ) → At t 0 t
at_start_lem t = record { here = refl; fits = omega arith }

pub at_drop : (s : List ℕ) (i : ℕ) → i ≤ length s → At s i (drop i s)
at_drop s i h = record { here = refl; fits = omega (arith, length-drop i s) }

module _ {s : List ℕ} {i : ℕ} where
  pub at_in : {t : List ℕ} → At s i t → i ≤ length s
  at_in A = omega (arith, A.fits)

  pub at_next : (xs ys : List ℕ) → At s i (xs ++ ys) → At s (i + length xs) ys
  at_next xs ys A = record {
    here = sym (drop-drop (length xs) i s) ∙ ap (drop (length xs)) A.here ∙ drop-append_seam xs ys;
    fits = omega (arith, A.fits, length-append xs ys);
  }

  pub at_one : {x : ℕ} {t : List ℕ} → At s i (x ∷ t) → At s (i + 1) t
  at_one {x} {t} A = at_next (x ∷ []) t A

  -- a byte further on
  pub at_far : {t : List ℕ} (k : ℕ) → At s i t → get_or s (i + k) 0 ≡ get_or t k 0
  at_far k A = sym (get_or-drop i s k 0) ∙ ap (λ l. get_or l k 0) A.here

  pub at_byte : {t : List ℕ} → At s i t → get_or s i 0 ≡ get_or t 0 0
  at_byte A = let e : i ≡ i + 0 = omega arith in rw e (at_far 0 A)

  pub at_more : (xs ys zs : List ℕ) → At s i ((xs ++ ys) ++ zs) → At s i (xs ++ (ys ++ zs))
  at_more xs ys zs A = subst (At s i) (append_assoc xs ys zs) A

-- a place is told by what is left there
pub at_place : {s : List ℕ} {i j : ℕ} (w post : List ℕ) → At s i (w ++ post) → At s j post → j ≡ i + length w
at_place w post A B = omega (arith, A.fits, B.fits, length-append w post)
