-- What was read, from what a reader that is put together has read: each way of putting together, undone.
use Rattle.text.specs.declared.stop.Cause.{Cause}
use Rattle.text.specs.declared.stop.Stop.{Stop}
use Rattle.std.specs.Prelude.{None, Option, Some, Err, Ok, Result}
use Prim.Native.Nat.{ℕ}
use native.Mathlib.Omega.{arith}
use mathlib.Core.Path.{◌≡◌, refl, ◌∙◌, ap}
use mathlib.Core.List.{List, [], ◌++◌}
use mathlib.Core.Logic.{◌⊎◌, inl, inr}
use Rattle.text.specs.Answer.{Ans, To, Miss, Hard, ◌then◌, ◌and◌, ◌else◌, more, must, maybe}
use Rattle.text.specs.Leaves.{token}
use Rattle.text.specs.steps.Accounts.{account_answer}

pub to_inv : {A : Type 0} (i j : ℕ) (x y : A) → To i x ≡ To j y → (i ≡ j) × (y ≡ x)
to_inv i j x y e = (cc, cc)

pub not_miss : {A B : Type 0} {j : ℕ} {x : A} → ◌≡◌ {A = Ans A} Miss (To j x) → B
not_miss e = absurd (let z : ◌≡◌ {A = ℕ} 0 1 = cc in omega arith)

pub not_hard : {A B : Type 0} {k : Cause} {p j : ℕ} {x : A} → ◌≡◌ {A = Ans A} (Hard k p) (To j x) → B
not_hard e = absurd (let z : ◌≡◌ {A = ℕ} 0 1 = cc in omega arith)

module _ {A : Type 0} where
  pub and_inv : (a : Ans (List A)) (g : ℕ → Ans (List A)) (j : ℕ) (x : List A) → (a and g) ≡ To j x
      → (i : ℕ) × (ys : List A) × (zs : List A) × (a ≡ To i ys) × (g i ≡ To j zs) × (x ≡ ys ++ zs)
  unfolding ◌and◌ more
  and_inv (To i ys) g j x e = on (g i) refl e
    where
      on : (c : Ans (List A)) → g i ≡ c → more ys c ≡ To j x
          → (i' : ℕ) × (ys' : List A) × (zs : List A) × (◌≡◌ {A = Ans (List A)} (To i ys) (To i' ys')) × (g i' ≡ To j zs) × (x ≡ ys' ++ zs)
      on (To k zs) p q = let n : k ≡ j = cc in (i, ys, zs, refl, p ∙ ap (λ m. To m zs) n, cc)
      on Miss p q = not_miss q
      on (Hard k z) p q = not_hard q
  and_inv Miss g j x e = not_miss e
  and_inv (Hard k p) g j x e = not_hard e

  pub must_inv : (n : Cause) (i : ℕ) (a : Ans A) (j : ℕ) (x : A) → must n i a ≡ To j x → a ≡ To j x
  unfolding must
  must_inv n i (To k y) j x e = e
  must_inv n i Miss j x e = not_hard e
  must_inv n i (Hard k p) j x e = e

  pub else_inv : (a b : Ans A) (j : ℕ) (x : A) → (a else b) ≡ To j x → (a ≡ To j x) ⊎ ((a ≡ Miss) × (b ≡ To j x))
  unfolding ◌else◌
  else_inv (To k y) b j x e = inl e
  else_inv Miss b j x e = inr (refl, e)
  else_inv (Hard k p) b j x e = not_hard e

  pub maybe_inv : (i : ℕ) (a : Ans (List A)) (j : ℕ) (x : List A) → maybe i a ≡ To j x → (a ≡ To j x) ⊎ ((a ≡ Miss) × (j ≡ i) × (x ≡ []))
  unfolding maybe
  maybe_inv i (To k y) j x e = inl e
  maybe_inv i Miss j x e = inr (refl, cc, cc)
  maybe_inv i (Hard k p) j x e = not_hard e

  pub token_inv : (r : Option ℕ) (j : ℕ) (x : List A) → token r ≡ To j x → (r ≡ Some j) × (x ≡ [])
  unfolding token
  token_inv (Some k) j x e = (cc, cc)
  token_inv None j x e = not_miss e

  pub account_inv : (r : Result ℕ Stop) (j : ℕ) (x : List A) → account_answer r ≡ To j x → (r ≡ Ok j) × (x ≡ [])
  unfolding account_answer
  account_inv (Ok k) j x e = (cc, cc)
  account_inv (Err Stop.Miss) j x e = not_miss e
  account_inv (Err (Stop.Hard k p)) j x e = not_hard e

pub then_inv : {A B : Type 0} (a : Ans A) (g : ℕ → A → Ans B) (j : ℕ) (x : B) → (a then g) ≡ To j x → (i : ℕ) × (y : A) × (a ≡ To i y) × (g i y ≡ To j x)
unfolding ◌then◌
then_inv (To i y) g j x e = (i, y, refl, e)
then_inv Miss g j x e = not_miss e
then_inv (Hard k p) g j x e = not_hard e
