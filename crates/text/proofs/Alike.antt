-- Two answers of the same sort, which leave places that are alike.
--     K     which places are alike
--     Q     whether what is read must be equal, and the place of a refusal: where Q holds, they are
--     Same  the same answer, which ends before n
use Rattle.text.specs.declared.stop.Cause.{Cause}
use Prim.Native.Nat.{ℕ, zero, suc, ◌+◌, ◌≤◌, ◌<◌}
use native.Mathlib.Omega.{arith}
use mathlib.Core.Path.{◌≡◌, refl}
use mathlib.Core.Bool.{Bool, true, false, cond}
use mathlib.Core.List.{List, [], ◌++◌}
use Rattle.text.specs.Answer.{Ans, To, Miss, Hard, ◌then◌, must, ◌else◌, more, ◌and◌, maybe, many}
use Rattle.text.proofs.Joins.{Reach}

pub data Alike {A : Type 0} (Q : Type 0) (K : ℕ → ℕ → Type 0) : Ans A → Ans A → Type 0 where
  both_to : (i j : ℕ) (x y : A) → K i j → (Q → x ≡ y) → Alike Q K (To i x) (To j y)
  both_miss : Alike Q K Miss Miss
  both_hard : (k : Cause) (p q : ℕ) → (Q → p ≡ q) → Alike Q K (Hard k p) (Hard k q)

-- ---- joins

module _ {A : Type 0} {Q : Type 0} {K : ℕ → ℕ → Type 0} where
  more_alike : {a b : Ans (List A)} (xs ys : List A) → (Q → xs ≡ ys) → Alike Q K a b → Alike Q K (more xs a) (more ys b)
  unfolding more
  more_alike xs ys f (both_to i j x y k e) = both_to i j (xs ++ x) (ys ++ y) k (λ q. rw (f q, e q))
  more_alike xs ys f both_miss = both_miss
  more_alike xs ys f (both_hard k p q e) = both_hard k p q e

  -- what ends from i and j on
  pub alike_from : {i j m n : ℕ} {a b : Ans A} → Alike Q K a b → Reach m i a → Reach n j b → Alike Q (λ c d. K c d × (i ≤ c) × (j ≤ d)) a b
  alike_from (both_to c d x y k e) r t = both_to c d x y (k, r.ends.0, t.ends.0) e
  alike_from both_miss r t = both_miss
  alike_from (both_hard k p q e) r t = both_hard k p q e

module _ {A : Type 0} {Q : Type 0} {K M : ℕ → ℕ → Type 0} where
  pub alike_map : {a b : Ans A} → ((i j : ℕ) → K i j → M i j) → Alike Q K a b → Alike Q M a b
  alike_map f (both_to i j x y k e) = both_to i j x y (f i j k) e
  alike_map f both_miss = both_miss
  alike_map f (both_hard k p q e) = both_hard k p q e

  pub then_alike : {B : Type 0} {a b : Ans B} (g h : ℕ → B → Ans A) → Alike Q K a b
      → ((i j : ℕ) (x y : B) → K i j → (Q → x ≡ y) → Alike Q M (g i x) (h j y)) → Alike Q M (a then g) (b then h)
  unfolding ◌then◌
  then_alike g h (both_to i j x y k e) f = f i j x y k e
  then_alike g h both_miss f = both_miss
  then_alike g h (both_hard k p q e) f = both_hard k p q e

  pub and_alike : {a b : Ans (List A)} (g h : ℕ → Ans (List A)) → Alike Q K a b → ((i j : ℕ) → K i j → Alike Q M (g i) (h j)) → Alike Q M (a and g) (b and h)
  unfolding ◌and◌
  and_alike g h (both_to i j x y k e) f = more_alike x y e (f i j k)
  and_alike g h both_miss f = both_miss
  and_alike g h (both_hard k p q e) f = both_hard k p q e

module _ {A : Type 0} {Q : Type 0} {K : ℕ → ℕ → Type 0} where
  pub else_alike : {a b c d : Ans A} → Alike Q K a b → Alike Q K c d → Alike Q K (a else c) (b else d)
  unfolding ◌else◌
  else_alike (both_to i j x y k e) T = both_to i j x y k e
  else_alike both_miss T = T
  else_alike (both_hard k p q e) T = both_hard k p q e

  pub must_alike : {a b : Ans A} (n : Cause) (i j : ℕ) → (Q → i ≡ j) → Alike Q K a b → Alike Q K (must n i a) (must n j b)
  unfolding must
  must_alike n i j f (both_to l m x y k e) = both_to l m x y k e
  must_alike n i j f both_miss = both_hard n i j f
  must_alike n i j f (both_hard k p q e) = both_hard k p q e

  pub maybe_alike : {a b : Ans (List A)} (i j : ℕ) → K i j → Alike Q K a b → Alike Q K (maybe i a) (maybe j b)
  unfolding maybe
  maybe_alike i j h (both_to m n x y k e) = both_to m n x y k e
  maybe_alike i j h both_miss = both_to i j [] [] h (λ _. refl)
  maybe_alike i j h (both_hard k p q e) = both_hard k p q e

  -- a choice by a test, where f and g make answers of what is chosen
  pub cond_alike : {R : Type 0} (f g : R → Ans A) (c : Bool) (x y u v : R) → (c ≡ true → Alike Q K (f x) (g y)) → (c ≡ false → Alike Q K (f u) (g v))
      → Alike Q K (f (cond c x u)) (g (cond c y v))
  cond_alike f g true x y u v t e = t refl
  cond_alike f g false x y u v t e = e refl

  -- an answer that is tested for
  pub if_alike : (c : Bool) (x y : Ans A) → (c ≡ true → Alike Q K x y) → Alike Q K (cond c x Miss) (cond c y Miss)
  if_alike true x y f = f refl
  if_alike false x y f = both_miss

  -- repetition of readers that take a byte at least: the bounds on the turns do not count, if they are enough
  module _ (m n : ℕ) (within : (i j : ℕ) → K i j → (i ≤ m) × (j ≤ n)) (f g : ℕ → Ans (List A)) (F : (i j : ℕ) → K i j → Alike Q K (f i) (g j))
      (R : (i : ℕ) → i ≤ m → Reach m (i + 1) (f i)) (T : (j : ℕ) → j ≤ n → Reach n (j + 1) (g j)) where
    pub many_alike : (d e i j : ℕ) → K i j → m < i + d → n < j + e → Alike Q K (many f d i) (many g e j)
    unfolding many
    many_alike zero e i j S p q = absurd (omega (arith, within i j S))
    many_alike (suc d) zero i j S p q = absurd (omega (arith, within i j S))
    many_alike (suc d) (suc e) i j S p q =
        let w = within i j S in
        maybe_alike i j S (and_alike (many f d) (many g e) (alike_from (F i j S) (R i w.0) (T j w.1)) (λ a b P. many_alike d e a b P.0 (omega (arith, P.1)) (omega (arith, P.2))))

-- ---- the same answer

pub record Upto (n i j : ℕ) : Type 0 where
  pub same : i ≡ j
  pub below : j < n

pub upto : {n : ℕ} (i : ℕ) → i < n → Upto n i i
upto i h = record { same = refl; below = h }

abbrev pub Same : {A : Type 0} → ℕ → Ans A → Ans A → Type 0
Same n a b = Alike (Unit {0}) (Upto n) a b

module _ {A : Type 0} where
  pub same_eq : {n : ℕ} {a b : Ans A} → Same n a b → a ≡ b
  same_eq (both_to i j x y k e) = rw (k.same, e tt)
  same_eq both_miss = refl
  same_eq (both_hard k p q e) = rw (e tt)

  pub same_ends : {n j : ℕ} {a : Ans A} {x : A} → Same n a (To j x) → j < n
  same_ends (both_to i j x y k e) = k.below

  pub same_below : {n m : ℕ} {a b : Ans A} → n ≤ m → Same n a b → Same m a b
  same_below h S = alike_map (λ i j k. record { same = k.same; below = omega (arith, k.below) }) S

  pub to_same : (n j : ℕ) (x : A) → j < n → Same n (To j x) (To j x)
  to_same n j x h = both_to j j x x (upto j h) (λ _. refl)

  pub miss_same : (n : ℕ) (a b : Ans A) → a ≡ Miss → b ≡ Miss → Same n a b
  miss_same n a b p q = rw (p, q) both_miss

  pub reach_same : (n i : ℕ) (a : Ans A) → Reach n i a → Same (suc n) a a
  reach_same n i (To j x) r = to_same (suc n) j x (omega arith)
  reach_same n i Miss r = both_miss
  reach_same n i (Hard k p) r = both_hard k p p (λ _. refl)

pub many_turns : {A : Type 0} (n : ℕ) (f : ℕ → Ans (List A)) → ((i : ℕ) → i ≤ n → Reach n (i + 1) (f i))
    → (d e i : ℕ) → i ≤ n → n < i + d → n < i + e → many f d i ≡ many f e i
many_turns n f R d e i h p q =
    same_eq {n = suc n} (many_alike n n (λ i j S. omega (arith, S.same, S.below)) f f
    (λ i j S. rw S.same (reach_same n (j + 1) (f j) (R j (omega (arith, S.below))))) R R d e i i (upto i (omega arith)) p q)
