-- Locality of readers with strings, which may cross the cut at n: what an answer on the longer text says of the answer
-- on the text that ends there.
--     misses     a miss stays one
--     refuses    of a refusal nothing is said
--     reads      what ends before m is read the same
--     crosses    what else is read ends past n, and a string of its rows crosses n; the other misses, where t is true
use Rattle.text.specs.declared.stop.Cause.{Cause}
use Prim.Native.Nat.{ℕ, zero, suc, ◌+◌, ◌≤◌, ◌<◌}
use native.Mathlib.Omega.{arith}
use mathlib.Core.Path.{◌≡◌, refl, ◌∙◌, ap}
use mathlib.Core.Bool.{Bool, true, false, cond, ◌||◌, ◌&&◌}
use mathlib.Core.List.{List, [], ◌∷◌, ◌++◌}
use lib.Dec.{eqb, ltb}
use Rattle.text.specs.Answer.{Ans, To, Miss, Hard, ◌then◌, must, ◌else◌, more, ◌and◌, maybe, many}
use Rattle.text.proofs.TestLaws.{absurd_bool, or_second}
use Rattle.text.proofs.Joins.{Reach, reach_from, many_reach, and_assoc}
use Rattle.text.proofs.Alike.{Same, both_to, both_miss, both_hard}
use Rattle.amount.specs.Kinds.{payee_kind, narration_kind, booking_kind, string_kind, string_meta_kind}
use Rattle.amount.specs.declared.detail.Detail.{Detail}
use Rattle.amount.specs.Details.{Rows}
use Rattle.row.proofs.SureLaws.{Sure, sure_to, sure_hard, sure_many}

-- ---- strings that cross n

-- kinds whose span is one of demand 3's strings (`row_strings_lem` of the crate entry); of kind 35 the value is one
abbrev pub spans_string : ℕ → Bool
spans_string k = eqb k payee_kind || eqb k narration_kind || eqb k booking_kind || eqb k string_kind

-- from lo to hi stand the byte before n and the byte at n
abbrev pub crosses_at : ℕ → ℕ → ℕ → Bool
crosses_at n lo hi = ltb lo n && ltb n hi

-- the string of a row does so
unfoldable pub torn_by : ℕ → Detail → Bool
torn_by n d = cond (spans_string d.kind) (crosses_at n d.start d.end) (eqb d.kind string_meta_kind && crosses_at n d.p d.q)

unfoldable pub torn : ℕ → List Detail → Bool
torn n [] = false
torn n (d ∷ ds) = torn_by n d || torn n ds

or_keeps : (a b c : Bool) → (a || b) ≡ true → (b ≡ true → c ≡ true) → (a || c) ≡ true
or_keeps true b c e f = refl
or_keeps false b c e f = f e

pub torn_left : (n : ℕ) (xs ys : List Detail) → torn n xs ≡ true → torn n (xs ++ ys) ≡ true
unfolding torn
torn_left n [] ys h = absurd_bool h
torn_left n (x ∷ xs) ys h = or_keeps (torn_by n x) (torn n xs) (torn n (xs ++ ys)) h (torn_left n xs ys)

pub torn_right : (n : ℕ) (xs ys : List Detail) → torn n ys ≡ true → torn n (xs ++ ys) ≡ true
unfolding torn
torn_right n [] ys h = h
torn_right n (x ∷ xs) ys h = or_second (torn_by n x) (torn n (xs ++ ys)) (torn_right n xs ys h)

-- ---- two answers, where w takes the rows out of what was read

abbrev pub Lost : {A : Type 0} → Bool → Ans A → Type 0
Lost true b = b ≡ Miss
Lost false b = Unit {0}

pub data Agree {A : Type 0} (w : A → List Detail) (n m : ℕ) (t : Bool) : Ans A → Ans A → Type 0 where
  misses : Agree w n m t Miss Miss
  refuses : {b : Ans A} (k : Cause) (p : ℕ) → Agree w n m t (Hard k p) b
  reads : (j : ℕ) (x : A) → j < m → Agree w n m t (To j x) (To j x)
  crosses : {b : Ans A} (j : ℕ) (x : A) → n < j → torn n (w x) ≡ true → Lost t b → Agree w n m t (To j x) b

-- the answers of readers that make rows
abbrev pub Agrees : ℕ → ℕ → Bool → Rows → Rows → Type 0
Agrees n m t a b = Agree (λ (ds : List Detail). ds) n m t a b

lost_miss : {A : Type 0} (t : Bool) (b : Ans A) → b ≡ Miss → Lost t b
lost_miss true b e = e
lost_miss false b e = tt

pub lost_map : {A B : Type 0} (t : Bool) (f : Ans A → Ans B) (b : Ans A) → f Miss ≡ Miss → Lost t b → Lost t (f b)
lost_map true f b e l = ap f l ∙ e
lost_map false f b e l = tt

module _ {A : Type 0} {w : A → List Detail} {n m : ℕ} {t : Bool} where
  pub same_agree : {a b : Ans A} → Same m a b → Agree w n m t a b
  same_agree (both_to i j x y k e) = rw (k.same, e tt) (reads j y k.below)
  same_agree both_miss = misses
  same_agree (both_hard k p q e) = refuses k p

  pub agree_below : (k : ℕ) {a b : Ans A} → m ≤ k → Agree w n m t a b → Agree w n k t a b
  agree_below k h misses = misses
  agree_below k h (refuses i p) = refuses i p
  agree_below k h (reads j x l) = reads j x (omega arith)
  agree_below k h (crosses j x l e o) = crosses j x l e o

  pub must_agree : (i : Cause) (at : ℕ) {a b : Ans A} → Agree w n m t a b → Agree w n m false (must i at a) (must i at b)
  unfolding must
  must_agree i at misses = refuses i at
  must_agree i at (refuses k p) = refuses k p
  must_agree i at (reads j x l) = reads j x l
  must_agree i at (crosses j x l e o) = crosses j x l e tt

  pub else_agree : {a b c d : Ans A} → Agree w n m t a b → Agree w n m false c d → Agree w n m false (a else c) (b else d)
  unfolding ◌else◌
  else_agree misses q = q
  else_agree (refuses k p) q = refuses k p
  else_agree (reads j x l) q = reads j x l
  else_agree (crosses j x l e o) q = crosses j x l e tt

  -- what follows may know what the first read, in which no string crosses
  pub then_at : {B : Type 0} {k : ℕ} {a b : Ans B} {g h : ℕ → B → Ans A} → Same k a b → ((j : ℕ) (x : B) → a ≡ To j x → j < k → Agree w n m t (g j x) (h j x))
      → Agree w n m t (a then g) (b then h)
  unfolding ◌then◌
  then_at (both_to i j x y k e) f = rw (k.same, e tt) (f j y (rw (k.same, e tt)) k.below)
  then_at both_miss f = misses
  then_at (both_hard k p q e) f = refuses k p

-- a choice whose second misses wherever the first reads
pub else_strict : {A : Type 0} {w : A → List Detail} {n m : ℕ} {a b c d : Ans A} → Agree w n m true a b → Agree w n m true c d → ((j : ℕ) (x : A) → a ≡ To j x → d ≡ Miss)
    → Agree w n m true (a else c) (b else d)
unfolding ◌else◌
else_strict misses q f = q
else_strict (refuses k p) q f = refuses k p
else_strict (reads j x l) q f = reads j x l
else_strict {d = d} (crosses j x l e o) q f = crosses j x l e (ap (λ z. z else d) o ∙ f j x refl)

module _ {n m : ℕ} {t : Bool} where
  pub more_agree : (xs : List Detail) {a b : Rows} → Agrees n m t a b → Agrees n m t (more xs a) (more xs b)
  unfolding more
  more_agree xs misses = misses
  more_agree xs (refuses k p) = refuses k p
  more_agree xs (reads j ys l) = reads j (xs ++ ys) l
  more_agree xs (crosses {b} j ys l e o) = crosses j (xs ++ ys) l (torn_right n xs ys e) (lost_map t (more xs) b refl o)

  pub and_at : {k : ℕ} {a b : Rows} {g h : ℕ → Rows} → Same k a b → ((j : ℕ) (x : List Detail) → a ≡ To j x → j < k → Agrees n m t (g j) (h j))
      → Agrees n m t (a and g) (b and h)
  unfolding ◌and◌
  and_at (both_to i j x y k e) f = rw (k.same, e tt) (more_agree y (f j y (rw (k.same, e tt)) k.below))
  and_at both_miss f = misses
  and_at (both_hard k p q e) f = refuses k p

  pub and_agree : {k : ℕ} {a b : Rows} {g h : ℕ → Rows} → Same k a b → ((j : ℕ) → j < k → Agrees n m t (g j) (h j)) → Agrees n m t (a and g) (b and h)
  and_agree S f = and_at S (λ j x e l. f j l)

  pub maybe_agree : (at : ℕ) {a b : Rows} → at < m → Agrees n m t a b → Agrees n m false (maybe at a) (maybe at b)
  unfolding maybe
  maybe_agree at h misses = reads at [] h
  maybe_agree at h (refuses k p) = refuses k p
  maybe_agree at h (reads j x l) = reads j x l
  maybe_agree at h (crosses j x l e o) = crosses j x l e tt

  pub assoc_agree : (a b : Rows) (g h k l : ℕ → Rows) → Agrees n m t (a and λ j. g j and k) (b and λ j. h j and l) → Agrees n m t ((a and g) and k) ((b and h) and l)
  assoc_agree a b g h k l p = rw (and_assoc a g k, and_assoc b h l) p

-- what follows rows that cross
pub torn_more : (N n m : ℕ) (t : Bool) (j : ℕ) (xs : List Detail) (b c : Rows) → n < j → torn n xs ≡ true → Reach N j c → Lost t b → (c ≡ Miss → b ≡ Miss) → Agrees n m t (more xs c) b
unfolding more
torn_more N n m t j xs b (To l ys) h e r o f = crosses l (xs ++ ys) (omega (arith, r.ends.0)) (torn_left n xs ys e) o
torn_more N n m t j xs b Miss h e r o f = rw (f refl) misses
torn_more N n m t j xs b (Hard k p) h e r o f = refuses k p

module _ (N : ℕ) {n m : ℕ} where
  -- the first may cross, and then misses on the cut text
  pub and_strict : {t : Bool} {i k : ℕ} {a b : Rows} {g h : ℕ → Rows} → Agrees n k true a b → Reach N i a → ((j : ℕ) → j < k → Agrees n m t (g j) (h j))
      → ((j : ℕ) → i ≤ j → j ≤ N → Reach N j (g j)) → Agrees n m t (a and g) (b and h)
  unfolding ◌and◌
  and_strict misses r f u = misses
  and_strict (refuses k p) r f u = refuses k p
  and_strict (reads j x l) r f u = more_agree x (f j l)
  and_strict {t} {g = g} {h = h} (crosses {b} j x l e o) r f u =
      let lost : (b and h) ≡ Miss = ap (λ z. z and h) o in
      torn_more N n m t j x (b and h) (g j) l e (u j r.ends.0 r.ends.1) (lost_miss t (b and h) lost) (λ _. lost)

  -- or what follows never misses
  pub and_loose : {i k : ℕ} {a b : Rows} {g h : ℕ → Rows} → Agrees n k false a b → Reach N i a → ((j : ℕ) → i ≤ j → j < k → Agrees n m false (g j) (h j))
      → ((j : ℕ) → i ≤ j → j ≤ N → Reach N j (g j)) → ((j : ℕ) → Sure (g j)) → Agrees n m false (a and g) (b and h)
  unfolding ◌and◌
  and_loose misses r f u v = misses
  and_loose (refuses k p) r f u v = refuses k p
  and_loose (reads j x l) r f u v = more_agree x (f j r.ends.0 l)
  and_loose {g = g} {h = h} (crosses {b} j x l e o) r f u v =
      torn_more N n m false j x (b and h) (g j) l e (u j r.ends.0 r.ends.1) tt (λ q. never (g j) (v j) q)
    where
      never : (c : Rows) → Sure c → c ≡ Miss → (b and h) ≡ Miss
      never c sure_to q = absurd (let z : ◌≡◌ {A = ℕ} 0 1 = cc in omega arith)
      never c sure_hard q = absurd (let z : ◌≡◌ {A = ℕ} 0 1 = cc in omega arith)

-- repetition of a reader that takes a byte at least: the bounds on the turns do not count, if they are enough
pub many_agree : (n N : ℕ) (f g : ℕ → Rows) → n ≤ N → ((i : ℕ) → i < suc n → Agrees n (suc n) false (f i) (g i)) → ((i : ℕ) → i ≤ N → Reach N (i + 1) (f i))
    → (d e i : ℕ) → i < suc n → suc n ≤ i + d → suc n ≤ i + e → Agrees n (suc n) false (many f d i) (many g e i)
unfolding many
many_agree n N f g l S R zero e i h p q = absurd (omega arith)
many_agree n N f g l S R (suc d) zero i h p q = absurd (omega arith)
many_agree n N f g l S R (suc d) (suc e) i h p q =
    maybe_agree i h (and_loose N (S i h) (R i (omega arith)) (λ j u v. many_agree n N f g l S R d e j v (omega arith) (omega arith))
    (λ j u v. many_reach N f (λ k w. reach_from N (k + 1) k (f k) (omega arith) (R k w)) d j v) (sure_many f d))
