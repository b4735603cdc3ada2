-- Strings, whose content may hold line feeds: where they end, and how they read in a text that is cut off.
use Rattle.std.specs.Prelude.{None, Option, Some}
use Prim.Native.Nat.{ℕ, ◌+◌, ◌≤◌, ◌<◌}
use native.Mathlib.Omega.{arith}
use native.Mathlib.Decide.{dec_lt}
use mathlib.Core.Path.{◌≡◌, refl, sym, ◌∙◌, ap}
use mathlib.Core.Bool.{Bool, true, false, cond}
use mathlib.Core.List.{List, [], ◌∷◌, ◌++◌, append-nil}
use borrow.Author.Tests.{lt-leb, le-leb, leb-true, leb-false}
use lib.Dec.{eqb, leb}
use lib.ListN.{length, drop, get_or, length-append, length-drop, get_or-append}
use lib.Seq.{drop-append-le, get_or-append_seam}
use Rattle.text.specs.Bytes.{is_ordinary, is_escaped}
use Rattle.text.specs.Strings.{str_from, esc_from, string_at}
use Rattle.text.proofs.Steps.{get_d_past}

-- ---- what is read up to n at most, and a miss else

abbrev pub within : ℕ → Option ℕ → Option ℕ
within n (Some j) = cond (leb j n) (Some j) None
within n None = None

within_cond : (n : ℕ) (b : Bool) (x y : Option ℕ) → within n (cond b x y) ≡ cond b (within n x) (within n y)
within_cond n true x y = refl
within_cond n false x y = refl

cond_both : (b : Bool) (x : Option ℕ) → cond b x x ≡ x
cond_both true x = refl
cond_both false x = refl

within_le : (n j : ℕ) → within n (Some j) ≡ Some j → j ≤ n
within_le n j e = go (leb j n) refl e
  where
    go : (b : Bool) → leb j n ≡ b → cond b (Some j) None ≡ Some j → j ≤ n
    go true h e = leb-true j n h
    go false h e = absurd (let z : ◌≡◌ {A = ℕ} 0 1 = cc in omega arith)

within_lt : (n j : ℕ) → within n (Some j) ≡ None → n < j
within_lt n j e = go (leb j n) refl e
  where
    go : (b : Bool) → leb j n ≡ b → cond b (Some j) None ≡ None → n < j
    go true h e = absurd (let z : ◌≡◌ {A = ℕ} 0 1 = cc in omega arith)
    go false h e = leb-false j n h

-- ---- a string that starts at n or after it ends past n

mutual
  unfolding str_from esc_from

  str_ahead : (t : List ℕ) (ordinary : Bool) (i n : ℕ) → n ≤ i → within n (str_from ordinary t i) ≡ None
  str_ahead [] ordinary i n h = refl
  str_ahead (x ∷ t) ordinary i n h =
      simp (within_cond, esc_ahead t (i + 1) n (omega arith), str_ahead t true (i + 1) n (omega arith), lt-leb (i + 1) n (omega arith), cond_both)

  esc_ahead : (t : List ℕ) (i n : ℕ) → n ≤ i → within n (esc_from t i) ≡ None
  esc_ahead [] i n h = refl
  esc_ahead (x ∷ t) i n h = simp (within_cond, str_ahead t false (i + 1) n (omega arith), cond_both)

pub string_ahead : (s : List ℕ) (at j : ℕ) → string_at s at ≡ Some j → at < j
unfolding string_at
string_ahead s at j e = within_lt at j (ap (within at) (sym e) ∙ simp (within_cond, str_ahead (drop (at + 1) s) false (at + 1) at (omega arith), cond_both))

-- ---- cut at the end of r, the reading of r ++ t is the reading of r

mutual
  unfolding str_from esc_from

  str_cut : (r t : List ℕ) (ordinary : Bool) (i n : ℕ) → n ≡ i + length r → str_from ordinary r i ≡ within n (str_from ordinary (r ++ t) i)
  str_cut [] t ordinary i n e = sym (str_ahead t ordinary i n (omega arith))
  str_cut (x ∷ r) t ordinary i n e =
      simp (within_cond, esc_cut r t (i + 1) n (omega arith), str_cut r t true (i + 1) n (omega arith), le-leb (i + 1) n (omega arith))

  esc_cut : (r t : List ℕ) (i n : ℕ) → n ≡ i + length r → esc_from r i ≡ within n (esc_from (r ++ t) i)
  esc_cut [] t i n e = sym (esc_ahead t i n (omega arith))
  esc_cut (x ∷ r) t i n e = simp (within_cond, str_cut r t false (i + 1) n (omega arith))

-- the string on xs is the string on xs ++ t where that ends within xs, and a miss else
pub string_cut : (xs t : List ℕ) (at : ℕ) → string_at xs at ≡ within (length xs) (string_at (xs ++ t) at)
unfolding string_at
string_cut xs t at = elim (dec_lt at (length xs)) [
  | yes l ↦
      rw (get_or-append xs t 0 at l, drop-append-le (at + 1) xs t (omega arith), within_cond)
      (ap (λ r. cond (eqb (get_or xs at 0) 34) r None) (str_cut (drop (at + 1) xs) t false (at + 1) (length xs) (omega (arith, length-drop (at + 1) xs))))
  | no l ↦ rw (get_d_past xs at (omega arith)) (simp (within_cond, str_ahead (drop (at + 1) (xs ++ t)) false (at + 1) (length xs) (omega arith), cond_both))
]

pub string_ends : (s : List ℕ) (at j : ℕ) → string_at s at ≡ Some j → j ≤ length s
string_ends s at j e = within_le (length s) j (rw e at (sym (rw append-nil at (string_cut s [] at))))

-- ---- in a text that ends in a line feed a string ends before that line feed

mutual
  unfolding str_from esc_from is_ordinary is_escaped

  str_last : (r : List ℕ) (ordinary : Bool) (i n : ℕ) → n ≡ i + length r
      → within n (str_from ordinary (r ++ (10 ∷ [])) i) ≡ str_from ordinary (r ++ (10 ∷ [])) i
  str_last [] ordinary i n e = refl
  str_last (x ∷ r) ordinary i n e =
      simp (within_cond, esc_last r (i + 1) n (omega arith), str_last r true (i + 1) n (omega arith), le-leb (i + 1) n (omega arith))

  esc_last : (r : List ℕ) (i n : ℕ) → n ≡ i + length r → within n (esc_from (r ++ (10 ∷ [])) i) ≡ esc_from (r ++ (10 ∷ [])) i
  esc_last [] i n e = refl
  esc_last (x ∷ r) i n e = simp (within_cond, str_last r false (i + 1) n (omega arith))

pub string_stays : (front : List ℕ) (at j : ℕ) → string_at (front ++ (10 ∷ [])) at ≡ Some j → j ≤ length front
unfolding string_at
string_stays front at j e = elim (dec_lt at (length front)) [
  | yes l ↦ within_le (length front) j (rw e at kept l)
  | no l ↦
      let last : at ≡ length front = omega (arith, string_ahead s at j e, string_ends s at j e, length-append front (10 ∷ [])) in
      let none : string_at s at ≡ None = rw (last, get_or-append_seam front 10 [] 0) in
      absurd (let z : ◌≡◌ {A = ℕ} 0 1 = cc in omega arith)
]
  where
    s : List ℕ
    s = front ++ (10 ∷ [])

    kept : at < length front → within (length front) (string_at s at) ≡ string_at s at
    kept l =
        rw (
          within_cond,
          drop-append-le (at + 1) front (10 ∷ []) (omega arith),
          str_last (drop (at + 1) front) false (at + 1) (length front) (omega (arith, length-drop (at + 1) front)),
        )
