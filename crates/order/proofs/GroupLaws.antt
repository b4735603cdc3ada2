-- Laws of those that are alike: neither their number nor their sum goes by the order in which they stand.
use Prim.Native.Nat.{ℕ, zero, suc}
use mathlib.Core.Path.{◌≡◌, refl, sym, ap, ◌∙◌}
use mathlib.Core.Bool.{Bool, true, false, cond, ◌&&◌, not}
use mathlib.Core.List.Permᴰ
use mathlib.Core.List.{List, [], ◌∷◌, ◌++◌, map, Permᴰ}
use lib.IntN.{ℤ, ◌+ℤ◌, +ℤ_assoc, +ℤ_comm}
use lib.ListN.{take, drop}
use Rattle.text.proofs.TestLaws.{absurd_bool, and_left, and_right}
use Rattle.order.specs.Sorted.{sorted}
use Rattle.order.specs.steps.Buffers.{Leads, Ordered}
use Rattle.order.specs.Sums.{sum_of}
use Rattle.order.specs.Groups.{those, alike, heads}
use Rattle.order.specs.steps.Runs.{leading}
use Rattle.order.proofs.SortLaws.{Either, Through, sorted_those}

-- ---- any order of the same records

pub those_perm : {A : Type 0} (p : A → Bool) {xs ys : List A} → Permᴰ xs ys → Permᴰ (those p xs) (those p ys)
unfolding those
those_perm p Permᴰ.nil = Permᴰ.nil
those_perm p (Permᴰ.cons {a = a} {b = b} {l₁ = l} {l₂ = m} e h) = go (p b) (ap p e) (those_perm p h)
  where
    go : (t : Bool) → p a ≡ t → Permᴰ (those p l) (those p m) → Permᴰ (cond (p a) (a ∷ those p l) (those p l)) (cond t (b ∷ those p m) (those p m))
    go true f k = rw f (Permᴰ.cons e k)
    go false f k = rw f k
those_perm p (Permᴰ.swap {a = a} {b = b} {l = l} e f) = rw (← e, ← f) (go (p a) (p b))
  where
    go : (t u : Bool) → Permᴰ (cond t (a ∷ cond u (b ∷ those p l) (those p l)) (cond u (b ∷ those p l) (those p l)))
        (cond u (b ∷ cond t (a ∷ those p l) (those p l)) (cond t (a ∷ those p l) (those p l)))
    go true true = Permᴰ.swap refl refl
    go true false = Permᴰ.refl (a ∷ those p l)
    go false true = Permᴰ.refl (b ∷ those p l)
    go false false = Permᴰ.refl (those p l)
those_perm p (Permᴰ.trans h k) = Permᴰ.trans (those_perm p h) (those_perm p k)

sum_swap : (a b s : ℤ) → a +ℤ (b +ℤ s) ≡ b +ℤ (a +ℤ s)
sum_swap a b s = sym (+ℤ_assoc a b s) ∙ ap (λ (z : ℤ). z +ℤ s) (+ℤ_comm a b) ∙ +ℤ_assoc b a s

pub sum_perm : {A : Type 0} (v : A → ℤ) {xs ys : List A} → Permᴰ xs ys → sum_of (map v xs) ≡ sum_of (map v ys)
unfolding sum_of
sum_perm v Permᴰ.nil = refl
sum_perm v (Permᴰ.cons e h) = rw (e, sum_perm v h)
sum_perm v (Permᴰ.swap {a = a} {b = b} {l = l} e f) = rw (← e, ← f) (sum_swap (v a) (v b) (sum_of (map v l)))
sum_perm v (Permᴰ.trans h k) = sum_perm v h ∙ sum_perm v k

-- ---- those of those

pub both_ways : (a b : Bool) → (a ≡ true → b ≡ true) → (b ≡ true → a ≡ true) → a ≡ b
both_ways true b f g = sym (f refl)
both_ways false true f g = g refl
both_ways false false f g = refl

module _ {A : Type 0} (p q : A → Bool) where
  those_swap : (xs : List A) → those p (those q xs) ≡ those q (those p xs)
  unfolding those
  those_swap [] = refl
  those_swap (x ∷ xs) = go (p x) (q x) refl refl (those_swap xs)
    where
      go : (a b : Bool) → p x ≡ a → q x ≡ b → those p (those q xs) ≡ those q (those p xs)
          → those p (cond b (x ∷ those q xs) (those q xs)) ≡ those q (cond a (x ∷ those p xs) (those p xs))
      go true true e f k = rw (e, f, k)
      go true false e f k = rw (f, k)
      go false true e f k = rw (e, k)
      go false false e f k = k

  those_twice : (xs : List A) → ((x : A) → q x ≡ p x) → those p (those q xs) ≡ those p xs
  unfolding those
  those_twice [] h = refl
  those_twice (x ∷ xs) h = go (p x) refl (h x) (those_twice xs h)
    where
      go : (a : Bool) → p x ≡ a → q x ≡ p x → those p (those q xs) ≡ those p xs
          → those p (cond (q x) (x ∷ those q xs) (those q xs)) ≡ cond a (x ∷ those p xs) (those p xs)
      go true e f k = rw (f, e, e, k)
      go false e f k = rw (f, e, k)

those_append : {A : Type 0} (p : A → Bool) (xs ys : List A) → those p (xs ++ ys) ≡ those p xs ++ those p ys
unfolding those
those_append p [] ys = refl
those_append p (x ∷ xs) ys = go (p x) (those_append p xs ys)
  where
    go : (a : Bool) → those p (xs ++ ys) ≡ those p xs ++ those p ys
        → cond a (x ∷ those p (xs ++ ys)) (those p (xs ++ ys)) ≡ cond a (x ∷ those p xs) (those p xs) ++ those p ys
    go true k = rw k
    go false k = k

none_others : {A : Type 0} (p : A → Bool) (xs : List A) → those p xs ≡ [] → those (λ x. not (p x)) xs ≡ xs
unfolding those
none_others p [] e = refl
none_others p (x ∷ xs) e = go (p x) e (none_others p xs)
  where
    go : (a : Bool) → cond a (x ∷ those p xs) (those p xs) ≡ [] → (those p xs ≡ [] → those (λ x. not (p x)) xs ≡ xs)
        → cond (not a) (x ∷ those (λ x. not (p x)) xs) (those (λ x. not (p x)) xs) ≡ x ∷ xs
    go true f k = cc
    go false f k = rw (k f)

-- ---- runs of an ordered list

module _ {A : Type 0} (le : A → A → Bool) (either : Either le) (through : Through le) where
  self : (x : A) → le x x ≡ true
  self x = go (le x x) refl
    where
      go : (b : Bool) → le x x ≡ b → b ≡ true
      go true e = refl
      go false e = sym e ∙ either x x e

  pub alike_self : (x : A) → alike le x x ≡ true
  unfolding alike
  alike_self x = rw (self x)

  apart : (x y : A) → le x y ≡ true → alike le x y ≡ false → le y x ≡ false
  unfolding alike
  apart x y e f = rw e at f

  like_above : (x y : A) → alike le x y ≡ true → le x y ≡ true
  unfolding alike
  like_above x y e = and_left (le x y) (le y x) e

  like_below : (x y : A) → alike le x y ≡ true → le y x ≡ true
  unfolding alike
  like_below x y e = and_right (le x y) (le y x) e

  -- those of a key stay as they stood: the first of them is the first in the file
  pub sorted_alike : (r : A) (xs : List A) → those (alike le r) (sorted le xs) ≡ those (alike le r) xs
  sorted_alike r xs = sorted_those le (alike le r) (λ x y e f. through x r y (like_below r x e) (like_above r y f)) xs

  -- behind one that is not like x none is
  past : (x y : A) (ys : List A) → le y x ≡ false → Leads le y ys → those (alike le x) ys ≡ []
  unfolding those alike
  past x y [] e h = refl
  past x y (z ∷ ys) e h = go (le x z) (le z x) refl (past x y ys e h.1)
    where
      go : (a b : Bool) → le z x ≡ b → those (alike le x) ys ≡ [] → cond (a && b) (z ∷ those (alike le x) ys) (those (alike le x) ys) ≡ []
      go true true f k = absurd_bool (sym e ∙ through y z x h.0 f)
      go true false f k = k
      go false b f k = k

  run_rest : (x : A) (ys : List A) → Leads le x ys → Ordered le ys → those (alike le x) ys ≡ take (leading le x ys) ys
  unfolding those leading
  run_rest x [] h o = refl
  run_rest x (y ∷ ys) h o = go (alike le x y) refl (run_rest x ys h.1 o.1)
    where
      go : (b : Bool) → alike le x y ≡ b → those (alike le x) ys ≡ take (leading le x ys) ys
          → cond b (y ∷ those (alike le x) ys) (those (alike le x) ys) ≡ take (cond b (suc (leading le x ys)) 0) (y ∷ ys)
      go true e k = rw k
      go false e k = past x y ys (apart x y h.0 e) o.0

  -- the run at the front has all that are like its first
  pub run_all : (x : A) (ys : List A) → Ordered le (x ∷ ys) → those (alike le x) (x ∷ ys) ≡ x ∷ take (leading le x ys) ys
  unfolding those
  run_all x ys o = rw (alike_self x, run_rest x ys o.0 o.1)

  -- ---- the first of each run

  pub alike_through : (x y z : A) → alike le x y ≡ true → alike le x z ≡ alike le y z
  unfolding alike
  alike_through x y z e =
      let f = and_left (le x y) (le y x) e in
      let g = and_right (le x y) (le y x) e in
      rw (
        both_ways (le x z) (le y z) (λ h. through y x z g h) (λ h. through x y z f h),
        both_ways (le z x) (le z y) (λ h. through z x y h f) (λ h. through z y x h g),
      )

  -- those that are not like x
  abbrev others : A → List A → List A
  others x ys = those (λ y. not (alike le x y)) ys

  heads_others : (x : A) (ys : List A) → others x (heads le ys) ≡ heads le (others x ys)
  unfolding those heads
  heads_others x [] = refl
  heads_others x (y ∷ ys) = go (alike le x y) refl (heads_others x ys)
    where
      go : (b : Bool) → alike le x y ≡ b → others x (heads le ys) ≡ heads le (others x ys)
          → cond (not b) (y ∷ others x (others y (heads le ys))) (others x (others y (heads le ys))) ≡ heads le (cond (not b) (y ∷ others x ys) (others x ys))
      go true e k =
          those_twice (λ z. not (alike le x z)) (λ z. not (alike le y z)) (heads le ys) (λ z. ap not (sym (alike_through x y z e))) ∙ k
      go false e k = ap (λ (l : List A). y ∷ l) (those_swap (λ z. not (alike le x z)) (λ z. not (alike le y z)) (heads le ys) ∙ rw k)

  run_others : (x : A) (ys : List A) → Leads le x ys → Ordered le ys → others x ys ≡ drop (leading le x ys) ys
  unfolding those leading
  run_others x [] h o = refl
  run_others x (y ∷ ys) h o = go (alike le x y) refl (run_others x ys h.1 o.1)
    where
      go : (b : Bool) → alike le x y ≡ b → others x ys ≡ drop (leading le x ys) ys
          → cond (not b) (y ∷ others x ys) (others x ys) ≡ drop (cond b (suc (leading le x ys)) 0) (y ∷ ys)
      go true e k = k
      go false e k = ap (λ (l : List A). y ∷ l) (none_others (alike le x) ys (past x y ys (apart x y h.0 e) o.0))

  pub run_heads : (x : A) (ys : List A) → Ordered le (x ∷ ys) → heads le (x ∷ ys) ≡ x ∷ heads le (drop (leading le x ys) ys)
  unfolding heads
  run_heads x ys o = rw (heads_others x ys, run_others x ys o.0 o.1)

  -- ---- what a pass over the runs has behind it

  -- none of these is like one that x may precede
  abbrev pub Fresh : A → List A → Type 0
  Fresh x ps = (z : A) → le x z ≡ true → those (alike le z) ps ≡ []

  -- x may be preceded by each
  abbrev Below : A → List A → Type 0
  Below x [] = Unit {0}
  Below x (g ∷ gs) = (le g x ≡ true) × Below x gs

  run_below : (x : A) (ys : List A) → Below x (take (leading le x ys) ys)
  unfolding leading
  run_below x [] = tt
  run_below x (y ∷ ys) = go (alike le x y) refl (run_below x ys)
    where
      go : (b : Bool) → alike le x y ≡ b → Below x (take (leading le x ys) ys) → Below x (take (cond b (suc (leading le x ys)) 0) (y ∷ ys))
      go true e k = (like_below x y e, k)
      go false e k = tt

  none_like : (x y z : A) (gs : List A) → le y x ≡ false → le y z ≡ true → Below x gs → those (alike le z) gs ≡ []
  unfolding those alike
  none_like x y z [] e h k = refl
  none_like x y z (g ∷ gs) e h k = go (le z g) refl (none_like x y z gs e h k.1)
    where
      go : (b : Bool) → le z g ≡ b → those (alike le z) gs ≡ [] → cond (b && le g z) (g ∷ those (alike le z) gs) (those (alike le z) gs) ≡ []
      go true f m = absurd_bool (sym e ∙ through y z x h (through z g x f k.0))
      go false f m = m

  fresh_next : (x y : A) (ps gs : List A) → le y x ≡ false → le x y ≡ true → Below x gs → Fresh x ps → Fresh y (ps ++ (x ∷ gs))
  fresh_next x y ps gs e f k h z l =
      those_append (alike le z) ps (x ∷ gs) ∙ rw (h z (through x y z f l), none_like x y z (x ∷ gs) e l (self x, k))

  leading_stop : (x y : A) (ys zs : List A) → drop (leading le x ys) ys ≡ y ∷ zs → Leads le x ys → (alike le x y ≡ false) × (le x y ≡ true)
  unfolding leading
  leading_stop x y [] zs e h = (cc, cc)
  leading_stop x y (w ∷ ys) zs e h = go (alike le x w) refl e (λ d. leading_stop x y ys zs d h.1)
    where
      go : (b : Bool) → alike le x w ≡ b → drop (cond b (suc (leading le x ys)) 0) (w ∷ ys) ≡ y ∷ zs
          → (drop (leading le x ys) ys ≡ y ∷ zs → (alike le x y ≡ false) × (le x y ≡ true)) → (alike le x y ≡ false) × (le x y ≡ true)
      go true f d r = r d
      go false f d r = let q : w ≡ y = cc in (rw (← q) f, rw (← q) h.0)

  -- the run behind x starts with y
  pub fresh_run : (x y : A) (ps ys zs : List A) → Ordered le (x ∷ ys) → drop (leading le x ys) ys ≡ y ∷ zs → Fresh x ps
      → Fresh y (ps ++ (x ∷ take (leading le x ys) ys))
  fresh_run x y ps ys zs o d h =
      let w = leading_stop x y ys zs d o.0 in
      fresh_next x y ps (take (leading le x ys) ys) (apart x y w.1 w.0) w.1 (run_below x ys) h

  pub ordered_drop : (k : ℕ) (xs : List A) → Ordered le xs → Ordered le (drop k xs)
  ordered_drop zero xs o = o
  ordered_drop (suc k) [] o = o
  ordered_drop (suc k) (x ∷ xs) o = ordered_drop k xs o.1

  -- the first of a run has all that are like it in the run
  pub all_in_run : (x : A) (ps ys : List A) → Fresh x ps → those (alike le x) (ps ++ ys) ≡ those (alike le x) ys
  all_in_run x ps ys h = those_append (alike le x) ps ys ∙ rw (h x (self x))
