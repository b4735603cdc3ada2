-- What is sorted: equal ones stay as they stood.
use Rattle.std.specs.Prelude.{Bool, cond, List, [], ◌∷◌}

-- one goes before the first that it may precede
unfoldable pub insert : {A : Type 0} → (A → A → Bool) → A → List A → List A
insert le r [] = r ∷ []
insert le r (x ∷ xs) = cond (le r x) (r ∷ x ∷ xs) (x ∷ insert le r xs)

unfoldable pub sorted : {A : Type 0} → (A → A → Bool) → List A → List A
sorted le [] = []
sorted le (r ∷ rs) = insert le r (sorted le rs)
