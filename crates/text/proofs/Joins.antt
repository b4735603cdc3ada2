-- Laws of the joins of readers, over their answers alone.
--     Reach   what is read ends at i or after it, and within n; a refusal stands within n, with one of these numbers
use Rattle.text.specs.declared.stop.Cause.{Cause}
use Prim.Native.Nat.{ℕ, zero, suc, ◌≤◌}
use native.Mathlib.Omega.{arith}
use mathlib.Core.Path.{◌≡◌, refl, ap}
use mathlib.Core.Bool.{Bool, true, false, cond}
use mathlib.Core.Logic.{inl, inr}
use mathlib.Core.List.{List, [], ◌∷◌, ◌++◌, append_assoc}
use Rattle.text.specs.Every.{OneOf}
use Rattle.text.specs.Refusals.{too_deep, missing, missing_gap, missing_part, cause_number}
use Rattle.text.specs.Answer.{Ans, To, Miss, Hard, ◌then◌, must, ◌else◌, more, ◌and◌, maybe, many}

-- ---- the numbers by which a reading refuses

abbrev pub reading_numbers : List ℕ
reading_numbers = cause_number too_deep ∷ cause_number missing ∷ cause_number missing_gap ∷ cause_number missing_part ∷ []

pub record Listed (k : Cause) : Type 0 where
  pub has : OneOf reading_numbers (cause_number k)

pub deep : Listed too_deep
deep = record { has = inl refl }

pub required : Listed missing
required = record { has = inr (inl refl) }

pub word_gap : Listed missing_gap
word_gap = record { has = inr (inr (inl refl)) }

pub second_part : Listed missing_part
second_part = record { has = inr (inr (inr (inl refl))) }

-- ---- Reach

abbrev pub Ends : {A : Type 0} → ℕ → ℕ → Ans A → Type 0
Ends n i (To j x) = (i ≤ j) × (j ≤ n)
Ends n i Miss = Unit {0}
Ends n i (Hard k p) = (p ≤ n) × Listed k

pub record Reach {A : Type 0} (n i : ℕ) (a : Ans A) : Type 0 where
  pub ends : Ends n i a

pub to_reach : {A : Type 0} (n i j : ℕ) (x : A) → i ≤ j → j ≤ n → Reach n i (To j x)
to_reach n i j x h l = record { ends = (h, l) }

pub miss_reach : {A : Type 0} (n i : ℕ) → Reach {A = A} n i Miss
miss_reach n i = record { ends = tt }

pub hard_reach : {A : Type 0} (n i : ℕ) {k : Cause} (w : Listed k) (p : ℕ) → p ≤ n → Reach {A = A} n i (Hard k p)
hard_reach n i w p h = record { ends = (h, w) }

-- a choice by a test, where f makes an answer of what is chosen
pub cond_reach : {R A : Type 0} (f : R → Ans A) (n i : ℕ) (b : Bool) (x y : R)
    → (b ≡ true → Reach n i (f x)) → (b ≡ false → Reach n i (f y)) → Reach n i (f (cond b x y))
cond_reach f n i true x y g h = g refl
cond_reach f n i false x y g h = h refl

pub then_reach : {A B : Type 0} (n i k : ℕ) (a : Ans A) (g : ℕ → A → Ans B) → Reach n i a
    → ((j : ℕ) (x : A) → i ≤ j → j ≤ n → Reach n k (g j x)) → Reach n k (a then g)
unfolding ◌then◌
then_reach n i k (To j x) g r f = f j x r.ends.0 r.ends.1
then_reach n i k Miss g r f = miss_reach n k
then_reach n i k (Hard l p) g r f = hard_reach n k r.ends.1 p r.ends.0

module _ {A : Type 0} (n : ℕ) where
  pub reach_from : (i j : ℕ) (a : Ans A) → j ≤ i → Reach n i a → Reach n j a
  reach_from i j (To k x) h r = record { ends = omega arith }
  reach_from i j Miss h r = miss_reach n j
  reach_from i j (Hard k p) h r = hard_reach n j r.ends.1 p r.ends.0

  pub must_reach : (i : ℕ) {m : Cause} (w : Listed m) (at : ℕ) (a : Ans A) → at ≤ n → Reach n i a → Reach n i (must m at a)
  unfolding must
  must_reach i w at (To k x) h r = r
  must_reach i w at Miss h r = hard_reach n i w at h
  must_reach i w at (Hard k p) h r = r

  pub else_reach : (i : ℕ) (a b : Ans A) → Reach n i a → Reach n i b → Reach n i (a else b)
  unfolding ◌else◌
  else_reach i (To k x) b r q = r
  else_reach i Miss b r q = q
  else_reach i (Hard k p) b r q = r

module _ {A : Type 0} (n : ℕ) where
  more_reach : (k : ℕ) (xs : List A) (a : Ans (List A)) → Reach n k a → Reach n k (more xs a)
  unfolding more
  more_reach k xs (To m ys) r = record { ends = r.ends }
  more_reach k xs Miss r = r
  more_reach k xs (Hard l p) r = r

  pub and_reach : (i k : ℕ) (a : Ans (List A)) (g : ℕ → Ans (List A)) → Reach n i a
      → ((j : ℕ) → i ≤ j → j ≤ n → Reach n k (g j)) → Reach n k (a and g)
  unfolding ◌and◌
  and_reach i k (To j xs) g r f = more_reach k xs (g j) (f j r.ends.0 r.ends.1)
  and_reach i k Miss g r f = miss_reach n k
  and_reach i k (Hard l p) g r f = hard_reach n k r.ends.1 p r.ends.0

  pub maybe_reach : (i at : ℕ) (a : Ans (List A)) → i ≤ at → at ≤ n → Reach n i a → Reach n i (maybe at a)
  unfolding maybe
  maybe_reach i at (To k x) h l r = r
  maybe_reach i at Miss h l r = to_reach n i at [] h l
  maybe_reach i at (Hard k p) h l r = r

  pub many_reach : (f : ℕ → Ans (List A)) → ((i : ℕ) → i ≤ n → Reach n i (f i)) → (d i : ℕ) → i ≤ n → Reach n i (many f d i)
  unfolding many
  many_reach f r zero i h = to_reach n i i [] (omega arith) h
  many_reach f r (suc d) i h =
      maybe_reach i i (f i and many f d) (omega arith) h
      (and_reach i i (f i) (many f d) (r i h) (λ j p q. reach_from n j i (many f d j) p (many_reach f r d j q)))

-- ---- chains

module _ {A : Type 0} where
  pub and_assoc : (a : Ans (List A)) (g h : ℕ → Ans (List A)) → ((a and g) and h) ≡ (a and λ j. g j and h)
  unfolding ◌and◌ more
  and_assoc (To j xs) g h = on (g j)
    where
      two : (ys : List A) (c : Ans (List A)) → more (xs ++ ys) c ≡ more xs (more ys c)
      two ys (To k zs) = ap (To k) (append_assoc xs ys zs)
      two ys Miss = refl
      two ys (Hard k p) = refl

      on : (c : Ans (List A)) → (more xs c and h) ≡ more xs (c and h)
      on (To k ys) = two ys (h k)
      on Miss = refl
      on (Hard k p) = refl
  and_assoc Miss g h = refl
  and_assoc (Hard k p) g h = refl

  -- what a chain read, its parts read
  pub and_parts : (a : Ans (List A)) (g : ℕ → Ans (List A)) (j : ℕ) (x : List A) → (a and g) ≡ To j x
      → (i : ℕ) × (ys : List A) × (k : ℕ) × (zs : List A) × (a ≡ To i ys) × (g i ≡ To k zs)
  unfolding ◌and◌ more
  and_parts (To i ys) g j x e = on (g i) refl e
    where
      on : (c : Ans (List A)) → g i ≡ c → more ys c ≡ To j x
          → (i' : ℕ) × (ys' : List A) × (k : ℕ) × (zs : List A) × (◌≡◌ {A = Ans (List A)} (To i ys) (To i' ys')) × (g i' ≡ To k zs)
      on (To k zs) p q = (i, ys, k, zs, refl, p)
      on Miss p q = absurd (let z : ◌≡◌ {A = ℕ} 0 1 = cc in omega arith)
      on (Hard k z) p q = absurd (let z : ◌≡◌ {A = ℕ} 0 1 = cc in omega arith)
  and_parts Miss g j x e = absurd (let z : ◌≡◌ {A = ℕ} 0 1 = cc in omega arith)
  and_parts (Hard k p) g j x e = absurd (let z : ◌≡◌ {A = ℕ} 0 1 = cc in omega arith)

-- a choice that never is
pub else_none : {A : Type 0} (a : Ans A) → (a else Miss) ≡ a
unfolding ◌else◌
else_none (To j x) = refl
else_none Miss = refl
else_none (Hard k p) = refl
