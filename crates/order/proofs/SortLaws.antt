-- Laws of the sort, for any order in which of two things one may precede the other and what may precede passes through.
use Prim.Native.Nat.{suc}
use mathlib.Core.Path.{◌≡◌, refl, sym, ap, ◌∙◌}
use mathlib.Core.Bool.{Bool, true, false, cond}
use mathlib.Core.List.Permᴰ
use mathlib.Core.List.{List, [], ◌∷◌, ◌++◌, Permᴰ}
use lib.ListN.{length}
use Rattle.text.proofs.TestLaws.{absurd_bool}
use Rattle.order.specs.Sorted.{insert, sorted}
use Rattle.order.specs.steps.Buffers.{Leads, Ordered}
use Rattle.order.specs.Groups.{those}
use Rattle.order.specs.steps.Merge.{merge}

pub perm_length : {A : Type 0} {xs ys : List A} → Permᴰ xs ys → length xs ≡ length ys
perm_length Permᴰ.nil = refl
perm_length (Permᴰ.cons e h) = ap suc (perm_length h)
perm_length (Permᴰ.swap e f) = refl
perm_length (Permᴰ.trans h k) = perm_length h ∙ perm_length k

module _ {A : Type 0} (le : A → A → Bool) where
  abbrev pub Either : Type 0
  Either = (x y : A) → le x y ≡ false → le y x ≡ true

  abbrev pub Through : Type 0
  Through = (x y z : A) → le x y ≡ true → le y z ≡ true → le x z ≡ true

  pub insert_none : (x : A) → insert le x [] ≡ x ∷ []
  unfolding insert
  insert_none x = refl

  pub insert_head : (x y : A) (ys : List A) → le x y ≡ true → insert le x (y ∷ ys) ≡ x ∷ y ∷ ys
  unfolding insert
  insert_head x y ys e = rw e

  pub insert_on : (x y : A) (ys : List A) → le x y ≡ false → insert le x (y ∷ ys) ≡ y ∷ insert le x ys
  unfolding insert
  insert_on x y ys e = rw e

  pub merge_left : (x y : A) (xs ys : List A) → le x y ≡ true → merge le (x ∷ xs) (y ∷ ys) ≡ x ∷ merge le xs (y ∷ ys)
  unfolding merge
  merge_left x y xs ys e = rw e

  pub merge_right : (x y : A) (xs ys : List A) → le x y ≡ false → merge le (x ∷ xs) (y ∷ ys) ≡ y ∷ merge le (x ∷ xs) ys
  unfolding merge
  merge_right x y xs ys e = rw e

  pub merge_none : (ys : List A) → merge le [] ys ≡ ys
  unfolding merge
  merge_none [] = refl
  merge_none (y ∷ ys) = refl

  pub merge_only : (xs : List A) → merge le xs [] ≡ xs
  unfolding merge
  merge_only [] = refl
  merge_only (x ∷ xs) = refl

  one_none : (x : A) → insert le x (merge le [] []) ≡ merge le (insert le x []) []
  unfolding insert merge
  one_none x = refl

  one_some : (x b : A) (q : List A) (k : Bool) → le x b ≡ k → insert le x q ≡ merge le (insert le x []) q
      → insert le x (merge le [] (b ∷ q)) ≡ merge le (insert le x []) (b ∷ q)
  one_some x b q true e h = rw (merge_none, insert_none, insert_head x b q e, merge_left x b [] q e, merge_none)
  one_some x b q false e h = rw (merge_none, insert_none, insert_on x b q e, merge_right x b [] q e, h, insert_none)

  -- ---- the same records

  insert_perm : (x : A) (ys : List A) → Permᴰ (insert le x ys) (x ∷ ys)
  unfolding insert
  insert_perm x [] = Permᴰ.refl (x ∷ [])
  insert_perm x (y ∷ ys) = go (le x y) (insert_perm x ys)
    where
      go : (b : Bool) → Permᴰ (insert le x ys) (x ∷ ys) → Permᴰ (cond b (x ∷ y ∷ ys) (y ∷ insert le x ys)) (x ∷ y ∷ ys)
      go true h = Permᴰ.refl (x ∷ y ∷ ys)
      go false h = Permᴰ.trans (Permᴰ.cons refl h) (Permᴰ.swap refl refl)

  -- the sorted records are the records, each as often as before
  pub sorted_perm : (xs : List A) → Permᴰ (sorted le xs) xs
  unfolding sorted
  sorted_perm [] = Permᴰ.nil
  sorted_perm (x ∷ xs) = Permᴰ.trans (insert_perm x (sorted le xs)) (Permᴰ.cons refl (sorted_perm xs))

  -- ---- equal ones stay as they stood

  -- any two that pass the test may precede each other
  abbrev pub Alike : (A → Bool) → Type 0
  Alike p = (x y : A) → p x ≡ true → p y ≡ true → le x y ≡ true

  module _ (p : A → Bool) (alike : Alike p) where
    insert_those : (x : A) (ys : List A) → those p (insert le x ys) ≡ those p (x ∷ ys)
    unfolding those
    insert_those x [] = rw insert_none
    insert_those x (y ∷ ys) = go (le x y) refl (p x) refl (p y) refl (insert_those x ys)
      where
        go : (b : Bool) → le x y ≡ b → (c : Bool) → p x ≡ c → (d : Bool) → p y ≡ d → those p (insert le x ys) ≡ those p (x ∷ ys)
            → those p (insert le x (y ∷ ys)) ≡ those p (x ∷ y ∷ ys)
        go true e c f d g h = rw (insert_head x y ys e)
        go false e true f true g h = absurd_bool (sym e ∙ alike x y f g)
        go false e true f false g h = rw (insert_on x y ys e, g, h, f)
        go false e false f d g h = rw (insert_on x y ys e, h, f)

    pub sorted_those : (xs : List A) → those p (sorted le xs) ≡ those p xs
    unfolding those sorted
    sorted_those [] = refl
    sorted_those (x ∷ xs) = insert_those x (sorted le xs) ∙ rw (sorted_those xs)

  module _ (either : Either) (through : Through) where
    -- ---- in order

    leads_on : (x y : A) (ys : List A) → le x y ≡ true → Leads le y ys → Leads le x ys
    leads_on x y [] e h = tt
    leads_on x y (z ∷ ys) e h = (through x y z e h.0, leads_on x y ys e h.1)

    leads_insert : (x y : A) (ys : List A) → le y x ≡ true → Leads le y ys → Leads le y (insert le x ys)
    unfolding insert
    leads_insert x y [] e h = (e, tt)
    leads_insert x y (z ∷ ys) e h = go (le x z) (leads_insert x y ys e h.1)
      where
        go : (b : Bool) → Leads le y (insert le x ys) → Leads le y (cond b (x ∷ z ∷ ys) (z ∷ insert le x ys))
        go true k = (e, h)
        go false k = (h.0, k)

    insert_ordered : (x : A) (ys : List A) → Ordered le ys → Ordered le (insert le x ys)
    unfolding insert
    insert_ordered x [] h = (tt, tt)
    insert_ordered x (y ∷ ys) h = go (le x y) refl (insert_ordered x ys h.1)
      where
        go : (b : Bool) → le x y ≡ b → Ordered le (insert le x ys) → Ordered le (cond b (x ∷ y ∷ ys) (y ∷ insert le x ys))
        go true e k = ((e, leads_on x y ys e h.0), h)
        go false e k = (leads_insert x y ys (either x y e) h.0, k)

    pub sorted_ordered : (xs : List A) → Ordered le (sorted le xs)
    unfolding sorted
    sorted_ordered [] = tt
    sorted_ordered (x ∷ xs) = insert_ordered x (sorted le xs) (sorted_ordered xs)

    -- ---- sorted by halves

    module _ (x a b : A) (p q : List A) where
      insert_heads : (m n k : Bool) → le a b ≡ m → le x a ≡ n → le x b ≡ k
          → insert le x (merge le p (b ∷ q)) ≡ merge le (insert le x p) (b ∷ q)
          → insert le x (merge le (a ∷ p) q) ≡ merge le (insert le x (a ∷ p)) q
          → insert le x (merge le (a ∷ p) (b ∷ q)) ≡ merge le (insert le x (a ∷ p)) (b ∷ q)
      insert_heads true true k e f g h i =
          rw (merge_left a b p q e, insert_head x a (merge le p (b ∷ q)) f, insert_head x a p f, merge_left x b (a ∷ p) q (through x a b f e), merge_left a b p q e)
      insert_heads true false k e f g h i =
          rw (merge_left a b p q e, insert_on x a (merge le p (b ∷ q)) f, insert_on x a p f, merge_left a b (insert le x p) q e, h)
      insert_heads false n true e f g h i =
          rw (merge_right a b p q e, insert_head x b (merge le (a ∷ p) q) g, insert_head x a p (through x b a g (either a b e)), merge_left x b (a ∷ p) q g, merge_right a b p q e)
      insert_heads false true false e f g h i =
          rw (merge_right a b p q e, insert_on x b (merge le (a ∷ p) q) g, i, insert_head x a p f, merge_right x b (a ∷ p) q g)
      insert_heads false false false e f g h i =
          rw (merge_right a b p q e, insert_on x b (merge le (a ∷ p) q) g, i, insert_on x a p f, merge_right a b (insert le x p) q e)

    insert_merge : (x : A) (p q : List A) → insert le x (merge le p q) ≡ merge le (insert le x p) q
    insert_merge x [] [] = one_none x
    insert_merge x [] (b ∷ q) = one_some x b q (le x b) refl (rw merge_none at (insert_merge x [] q))
    insert_merge x (a ∷ p) [] = rw (merge_only (a ∷ p), merge_only (insert le x (a ∷ p)))
    insert_merge x (a ∷ p) (b ∷ q) =
        insert_heads x a b p q (le a b) (le x a) (le x b) refl refl refl (insert_merge x p (b ∷ q)) (insert_merge x (a ∷ p) q)

    -- the halves, each sorted, in one
    pub sorted_halves : (xs ys : List A) → sorted le (xs ++ ys) ≡ merge le (sorted le xs) (sorted le ys)
    unfolding sorted
    sorted_halves [] ys = sym (merge_none (sorted le ys))
    sorted_halves (x ∷ xs) ys = rw (sorted_halves xs ys) (insert_merge x (sorted le xs) (sorted le ys))
