-- Lists that are alike, one by one: so are the same things in two orders, when they are sorted, and the first of each.
use mathlib.Core.Path.{◌≡◌, refl, sym, ◌∙◌}
use mathlib.Core.Bool.{Bool, true, false, cond, not}
use mathlib.Core.List.{List, [], ◌∷◌, Permᴰ}
use Rattle.text.proofs.TestLaws.{absurd_bool, and_left, and_right}
use Rattle.order.specs.Sorted.{insert, sorted}
use Rattle.order.specs.Groups.{those, alike, heads}
use Rattle.order.proofs.SortLaws.{Either, Through, insert_none, insert_head, insert_on}
use Rattle.order.proofs.GroupLaws.{both_ways, alike_self, alike_through}

pub those_same : {A : Type 0} (p q : A → Bool) → ((x : A) → p x ≡ q x) → (xs : List A) → those p xs ≡ those q xs
unfolding those
those_same p q h [] = refl
those_same p q h (x ∷ xs) = rw (h x, those_same p q h xs)

module _ {A : Type 0} (le : A → A → Bool) (either : Either le) (through : Through le) where
  -- lists that are alike, one by one
  abbrev pub Likes : List A → List A → Type 0
  Likes [] [] = Unit {0}
  Likes [] (y ∷ ys) = ⊥
  Likes (x ∷ xs) [] = ⊥
  Likes (x ∷ xs) (y ∷ ys) = (alike le x y ≡ true) × Likes xs ys

  likes_self : (xs : List A) → Likes xs xs
  likes_self [] = tt
  likes_self (x ∷ xs) = (alike_self le either through x, likes_self xs)

  likes_through : (xs ys zs : List A) → Likes xs ys → Likes ys zs → Likes xs zs
  likes_through [] [] zs h k = k
  likes_through [] (y ∷ ys) zs h k = absurd h
  likes_through (x ∷ xs) [] zs h k = absurd h
  likes_through (x ∷ xs) (y ∷ ys) [] h k = absurd k
  likes_through (x ∷ xs) (y ∷ ys) (z ∷ zs) h k =
      (alike_through le either through x y z h.0 ∙ k.0, likes_through xs ys zs h.1 k.1)

  alike_order : (x y v w : A) → alike le x y ≡ true → alike le v w ≡ true → le x v ≡ le y w
  unfolding alike
  alike_order x y v w e f =
      both_ways (le x v) (le y w)
      (λ h. through y x w (and_right (le x y) (le y x) e) (through x v w h (and_left (le v w) (le w v) f)))
      (λ h. through x y v (and_left (le x y) (le y x) e) (through y w v h (and_right (le v w) (le w v) f)))

  insert_likes : (x y : A) (vs ws : List A) → alike le x y ≡ true → Likes vs ws → Likes (insert le x vs) (insert le y ws)
  unfolding insert
  insert_likes x y [] [] e h = (e, tt)
  insert_likes x y [] (w ∷ ws) e h = absurd h
  insert_likes x y (v ∷ vs) [] e h = absurd h
  insert_likes x y (v ∷ vs) (w ∷ ws) e h = rw (alike_order x y v w e h.0) (go (le y w) (insert_likes x y vs ws e h.1))
    where
      go : (b : Bool) → Likes (insert le x vs) (insert le y ws)
          → Likes (cond b (x ∷ v ∷ vs) (v ∷ insert le x vs)) (cond b (y ∷ w ∷ ws) (w ∷ insert le y ws))
      go true k = (e, h)
      go false k = (h.0, k)

  -- two in front of a list, in either order
  front_swap : (a b : A) (l : List A) (m n : Bool) → le a b ≡ m → le b a ≡ n
      → Likes (cond m (a ∷ b ∷ l) (b ∷ a ∷ l)) (cond n (b ∷ a ∷ l) (a ∷ b ∷ l))
  unfolding alike
  front_swap a b l true true e f = (rw (e, f), (rw (e, f), likes_self l))
  front_swap a b l true false e f = likes_self (a ∷ b ∷ l)
  front_swap a b l false true e f = likes_self (b ∷ a ∷ l)
  front_swap a b l false false e f = absurd_bool (sym f ∙ either a b e)

  insert_step : (x y : A) (ys : List A) → insert le x (y ∷ ys) ≡ cond (le x y) (x ∷ y ∷ ys) (y ∷ insert le x ys)
  unfolding insert
  insert_step x y ys = refl

  fails : (x y z : A) → le y z ≡ true → le x z ≡ false → le x y ≡ false
  fails x y z e f = go (le x y) refl
    where
      go : (b : Bool) → le x y ≡ b → b ≡ false
      go true g = sym (through x y z g e) ∙ f
      go false g = refl

  insert_swap : (a b : A) (l : List A) → Likes (insert le a (insert le b l)) (insert le b (insert le a l))
  insert_swap a b [] =
      rw (insert_none le a, insert_none le b, insert_step a b [], insert_step b a [], insert_none le a, insert_none le b)
      (front_swap a b [] (le a b) (le b a) refl refl)
  insert_swap a b (c ∷ l) = go (le a c) (le b c) refl refl (insert_swap a b l)
    where
      go : (m n : Bool) → le a c ≡ m → le b c ≡ n → Likes (insert le a (insert le b l)) (insert le b (insert le a l))
          → Likes (insert le a (insert le b (c ∷ l))) (insert le b (insert le a (c ∷ l)))
      go true true e f k =
          rw (
            insert_head le a c l e,
            insert_head le b c l f,
            insert_step a b (c ∷ l),
            insert_step b a (c ∷ l),
            insert_head le a c l e,
            insert_head le b c l f,
          )
          (front_swap a b (c ∷ l) (le a b) (le b a) refl refl)
      go true false e f k =
          rw (insert_head le a c l e, insert_on le b c l f, insert_head le a c (insert le b l) e, insert_on le b a (c ∷ l) (fails b a c e f), insert_on le b c l f)
          (likes_self (a ∷ c ∷ insert le b l))
      go false true e f k =
          rw (insert_on le a c l e, insert_head le b c l f, insert_head le b c (insert le a l) f, insert_on le a b (c ∷ l) (fails a b c f e), insert_on le a c l e)
          (likes_self (b ∷ c ∷ insert le a l))
      go false false e f k =
          rw (insert_on le a c l e, insert_on le b c l f, insert_on le a c (insert le b l) e, insert_on le b c (insert le a l) f) (alike_self le either through c, k)

  pub sorted_likes : {xs ys : List A} → Permᴰ xs ys → Likes (sorted le xs) (sorted le ys)
  unfolding sorted
  sorted_likes Permᴰ.nil = tt
  sorted_likes (Permᴰ.cons {a = a} {b = b} {l₁ = l} {l₂ = m} e h) =
      rw (← e) (insert_likes a a (sorted le l) (sorted le m) (alike_self le either through a) (sorted_likes h))
  sorted_likes (Permᴰ.swap {a = a} {b = b} {l = l} e f) = rw (← e, ← f) (insert_swap a b (sorted le l))
  sorted_likes (Permᴰ.trans {l₁ = l} {l₂ = m} {l₃ = n} h k) =
      likes_through (sorted le l) (sorted le m) (sorted le n) (sorted_likes h) (sorted_likes k)

  alike_both : (x y v w : A) → alike le x y ≡ true → alike le v w ≡ true → alike le x v ≡ alike le y w
  unfolding alike
  alike_both x y v w e f = rw (alike_order x y v w e f, alike_order v w x y f e)

  others_likes : (x y : A) (vs ws : List A) → alike le x y ≡ true → Likes vs ws
      → Likes (those (λ v. not (alike le x v)) vs) (those (λ w. not (alike le y w)) ws)
  unfolding those
  others_likes x y [] [] e h = tt
  others_likes x y [] (w ∷ ws) e h = absurd h
  others_likes x y (v ∷ vs) [] e h = absurd h
  others_likes x y (v ∷ vs) (w ∷ ws) e h = rw (alike_both x y v w e h.0) (go (alike le y w) (others_likes x y vs ws e h.1))
    where
      go : (b : Bool) → Likes (those (λ v. not (alike le x v)) vs) (those (λ w. not (alike le y w)) ws)
          → Likes (cond (not b) (v ∷ those (λ v. not (alike le x v)) vs) (those (λ v. not (alike le x v)) vs))
          (cond (not b) (w ∷ those (λ w. not (alike le y w)) ws) (those (λ w. not (alike le y w)) ws))
      go true k = k
      go false k = (h.0, k)

  pub heads_likes : (vs ws : List A) → Likes vs ws → Likes (heads le vs) (heads le ws)
  unfolding heads
  heads_likes [] [] h = tt
  heads_likes [] (w ∷ ws) h = absurd h
  heads_likes (v ∷ vs) [] h = absurd h
  heads_likes (v ∷ vs) (w ∷ ws) h = (h.0, others_likes v w (heads le vs) (heads le ws) h.0 (heads_likes vs ws h.1))
