-- What tests say.
use Rattle.text.specs.declared.stop.Stop.{Stop}
use Rattle.text.specs.steps.Told.{required}
use Rattle.std.specs.Result.{result_ok}
use Rattle.std.specs.Prelude.{Err, Ok, Result, None, Option, Some}
use Prim.Native.Nat.{ℕ}
use mathlib.Core.Path.{◌≡◌, refl, sym, ◌∙◌, ap}
use mathlib.Core.Bool.{Bool, true, false, ◌&&◌, ◌||◌, false≢true}

pub absurd_bool : {A : Type 0} → false ≡ true → A
absurd_bool e = absurd (false≢true e)

pub or_left : (a b : Bool) → (a || b) ≡ false → a ≡ false
or_left true b e = e
or_left false b e = refl

pub or_right : (a b : Bool) → (a || b) ≡ false → b ≡ false
or_right true b e = absurd_bool (sym e)
or_right false b e = e

pub or_second : (a b : Bool) → b ≡ true → (a || b) ≡ true
or_second true b e = refl
or_second false b e = e

pub and_left : (a b : Bool) → (a && b) ≡ true → a ≡ true
and_left true b e = refl
and_left false b e = e

pub and_right : (a b : Bool) → (a && b) ≡ true → b ≡ true
and_right true b e = e
and_right false b e = absurd_bool e

-- a byte that passes a test is none that fails it
pub differ : (p : ℕ → Bool) (x y : ℕ) → p x ≡ true → p y ≡ false → x ≡ y → ⊥
differ p x y e n f = absurd_bool (sym n ∙ ap p (sym f) ∙ e)

-- in particular no line feed, where the line feed fails it
pub apart : (p : ℕ → Bool) → p 10 ≡ false → (x : ℕ) → p x ≡ true → x ≡ 10 → ⊥
apart p n x e = differ p x 10 e n

-- what is the same under `Ok` is the same
pub ok_pair : {A B E : Type 0} {a c : A} {b d : B} → ◌≡◌ {A = Result (A × B) E} (Ok (a, b)) (Ok (c, d)) → (a ≡ c) × (b ≡ d)
ok_pair {A = A} {B = B} {E = E} {a = a} {b = b} e = let f : Result (A × B) E → A = first a in let g : Result (A × B) E → B = second b in (ap f e, ap g e)
  where
    first : A → Result (A × B) E → A
    first z (Ok p) = p.0
    first z (Err e) = z

    second : B → Result (A × B) E → B
    second z (Ok p) = p.1
    second z (Err e) = z

pub some_pair : {A B : Type 0} {a c : A} {b d : B} → ◌≡◌ {A = Option (A × B)} (Some (a, b)) (Some (c, d)) → (a ≡ c) × (b ≡ d)
some_pair {A = A} {B = B} {a = a} {b = b} e = let f : Option (A × B) → A = first a in let g : Option (A × B) → B = second b in (ap f e, ap g e)
  where
    first : A → Option (A × B) → A
    first z (Some p) = p.0
    first z None = z

    second : B → Option (A × B) → B
    second z (Some p) = p.1
    second z None = z

-- what `ok_or` and a `?` behind it tell of an option
pub ok_some : {A E : Type 0} {o : Option A} {r : Result A E} (x : A) → o ≡ result_ok r → r ≡ Ok x → o ≡ Some x
ok_some x p q = rw q at p

pub err_none : {A E : Type 0} {o : Option A} {r : Result A E} (e : E) → o ≡ result_ok r → r ≡ Err e → o ≡ None
err_none e p q = rw q at p

-- and what a required reader's answer tells of the reader's own
pub required_ok : {A : Type 0} (at : ℕ) {x r : Result A Stop} (y : A) → r ≡ required at x → r ≡ Ok y → x ≡ Ok y
required_ok {A = A} at {x = x} y p q = go x (sym q ∙ p)
  where
    go : (x : Result A Stop) → Ok y ≡ required at x → x ≡ Ok y
    go (Ok z) e = sym e
    go (Err Stop.Miss) e = cc
    go (Err (Stop.Hard k i)) e = cc

pub ruleset tried = (ok_some, err_none)
