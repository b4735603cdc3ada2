-- A property of each thing in a list: of two lists, and of another property that follows. A number that is one of a
-- list: what holds of each holds of it, and it is one of a longer list.
use Prim.Native.Nat.{ℕ}
use mathlib.Core.Path.{sym, subst}
use mathlib.Core.Logic.{inl, inr}
use mathlib.Core.List.{List, [], ◌∷◌, ◌++◌}
use Rattle.text.specs.Every.{Every, OneOf}

module _ {A : Type 0} (P : A → Type 0) where
  pub every_append : (xs ys : List A) → Every P xs → Every P ys → Every P (xs ++ ys)
  every_append [] ys p q = q
  every_append (x ∷ xs) ys p q = (p.0, every_append xs ys p.1 q)

  pub every_left : (xs ys : List A) → Every P (xs ++ ys) → Every P xs
  every_left [] ys h = tt
  every_left (x ∷ xs) ys h = (h.0, every_left xs ys h.1)

  pub every_right : (xs ys : List A) → Every P (xs ++ ys) → Every P ys
  every_right [] ys h = h
  every_right (x ∷ xs) ys h = every_right xs ys h.1

pub every_map : {A : Type 0} {P Q : A → Type 0} → ((x : A) → P x → Q x) → (xs : List A) → Every P xs → Every Q xs
every_map f [] h = tt
every_map f (x ∷ xs) h = (f x h.0, every_map f xs h.1)

pub one_has : (P : ℕ → Type 0) (ms : List ℕ) (n : ℕ) → Every P ms → OneOf ms n → P n
one_has P [] n h k = absurd k
one_has P (m ∷ ms) n h (inl e) = subst P (sym e) h.0
one_has P (m ∷ ms) n h (inr k) = one_has P ms n h.1 k

pub one_left : (ms ns : List ℕ) (n : ℕ) → OneOf ms n → OneOf (ms ++ ns) n
one_left [] ns n h = absurd h
one_left (m ∷ ms) ns n (inl e) = inl e
one_left (m ∷ ms) ns n (inr h) = inr (one_left ms ns n h)

pub one_right : (ms ns : List ℕ) (n : ℕ) → OneOf ns n → OneOf (ms ++ ns) n
one_right [] ns n h = h
one_right (m ∷ ms) ns n h = inr (one_right ms ns n h)
