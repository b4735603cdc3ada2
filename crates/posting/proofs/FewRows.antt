-- How many rows a posting makes at most: one of the account, one of the amount, two of the cost, one of the price.
use Rattle.text.specs.declared.stop.Cause.{Cause}
use Prim.Native.Nat.{ℕ, ◌+◌, ◌≤◌}
use native.Mathlib.Omega.{arith}
use mathlib.Core.Path.{◌≡◌, subst}
use mathlib.Core.List.{List, [], ◌∷◌, ◌++◌}
use lib.ListN.{length, length-append}
use Rattle.text.specs.Run.{blanks}
use Rattle.text.specs.Answer.{Ans, To, Miss, Hard, ◌then◌, ◌else◌, more, ◌and◌, maybe}
use Rattle.text.specs.Leaves.{gap, date, byte, comma}
use Rattle.amount.specs.declared.detail.Detail.{Detail}
use Rattle.amount.specs.Details.{Rows}
use Rattle.amount.specs.Amounts.{amount}
use Rattle.amount.proofs.RowCounts.{Bare, gap_bare, byte_bare}
use Rattle.posting.specs.Costs.{inside, cost}
use Rattle.posting.specs.steps.Lots.{optional_cost}
use Rattle.amount.proofs.OneRows.{OneRow, row, none, hard}
use Rattle.posting.proofs.LotLaws.{amount_row}
use Rattle.posting.proofs.PostingFew.{held}

-- ---- at most n rows, where w takes the rows out of what was read

abbrev Counted : {A : Type 0} → (A → List Detail) → ℕ → Ans A → Type 0
Counted w n (To j x) = length (w x) ≤ n
Counted w n Miss = Unit {0}
Counted w n (Hard k p) = Unit {0}

pub record Most {A : Type 0} (w : A → List Detail) (n : ℕ) (a : Ans A) : Type 0 where
  pub rows : Counted w n a

abbrev pub Few : ℕ → Rows → Type 0
Few n a = Most (λ rs. rs) n a

module _ {A : Type 0} {w : A → List Detail} (n : ℕ) where
  to_few : (j : ℕ) (x : A) → length (w x) ≤ n → Most w n (To j x)
  to_few j x h = record { rows = h }

  miss_few : Most w n Miss
  miss_few = record { rows = tt }

  hard_few : (k : Cause) (p : ℕ) → Most w n (Hard k p)
  hard_few k p = record { rows = tt }

  else_few : (a b : Ans A) → Most w n a → Most w n b → Most w n (a else b)
  unfolding ◌else◌
  else_few (To j x) b h g = h
  else_few Miss b h g = g
  else_few (Hard k p) b h g = h

pub few_at : (n e : ℕ) (ds : List Detail) (a : Rows) → Few n a → a ≡ To e ds → length ds ≤ n
few_at n e ds a h q = (subst (Few n) q h).rows

-- what follows may know the rows of the first
then_few : {A B : Type 0} (w : A → List Detail) {v : B → List Detail} (n m : ℕ) (a : Ans A) (g : ℕ → A → Ans B) → Most w n a
    → ((j : ℕ) (x : A) → length (w x) ≤ n → Most v m (g j x)) → Most v m (a then g)
unfolding ◌then◌
then_few w n m (To j x) g h f = f j x h.rows
then_few w n m Miss g h f = miss_few m
then_few w n m (Hard k p) g h f = hard_few m k p

then_any : {A B : Type 0} {v : B → List Detail} (m : ℕ) (a : Ans A) (g : ℕ → A → Ans B) → ((j : ℕ) (x : A) → Most v m (g j x)) → Most v m (a then g)
unfolding ◌then◌
then_any m (To j x) g f = f j x
then_any m Miss g f = miss_few m
then_any m (Hard k p) g f = hard_few m k p

and_few : (n m k : ℕ) (a : Rows) (g : ℕ → Rows) → n + m ≡ k → Few n a → ((j : ℕ) → Few m (g j)) → Few k (a and g)
unfolding ◌and◌ more
and_few n m k (To j xs) g e h f = on (g j) (f j)
  where
    on : (c : Rows) → Few m c → Few k (more xs c)
    on (To l ys) u = to_few k l (xs ++ ys) (omega (arith, length-append xs ys, h.rows, u.rows))
    on Miss u = miss_few k
    on (Hard l p) u = hard_few k l p
and_few n m k Miss g e h f = miss_few k
and_few n m k (Hard l p) g e h f = hard_few k l p

maybe_few : (n i : ℕ) (a : Rows) → Few n a → Few n (maybe i a)
unfolding maybe
maybe_few n i (To j xs) h = h
maybe_few n i Miss h = to_few n i [] (omega arith)
maybe_few n i (Hard k p) h = h

row_few : (a : Rows) → OneRow a → Few 1 a
row_few a (row j d h) = to_few 1 j (d ∷ []) (omega arith)
row_few a none = miss_few 1
row_few a (hard k p) = hard_few 1 k p

bare_few : (a : Rows) → Bare a → Few 0 a
bare_few (To j xs) e = rw e.none (to_few 0 j [] (omega arith))
bare_few Miss e = miss_few 0
bare_few (Hard k p) e = hard_few 0 k p

-- ---- the rules

module _ (s : List ℕ) where
  amount_few : (k at : ℕ) → 1 ≤ k → Few 1 (amount k s at)
  amount_few k at h = row_few _ (amount_row k s at h)

  inside_few : (at : ℕ) → Most (held s) 1 (inside s at)
  unfolding inside
  inside_few at =
      let A = amount_few 26 at (omega arith) in
      else_few 1 _ _ (then_few _ 1 1 (amount 26 s at) _ A (λ i rs h. then_any 1 (comma s i) _ (λ j _. then_any 1 (date s j) _ (λ e d. to_few 1 e _ h))))
      (else_few 1 _ _
      (then_any 1 (date s at) _ (λ i d. then_any 1 (comma s i) _ (λ j _. then_few _ 1 1 (amount 26 s j) _ (amount_few 26 j (omega arith)) (λ e rs h. to_few 1 e _ h))))
      (else_few 1 _ _ (then_few _ 1 1 (amount 26 s at) _ A (λ e rs h. to_few 1 e _ h))
      (else_few 1 _ _ (then_any 1 (date s at) _ (λ e d. to_few 1 e _ (omega arith))) (to_few 1 at _ (omega arith)))))

  cost_few : (at : ℕ) → Few 2 (cost s at)
  unfolding cost
  cost_few at =
      and_few 0 2 2 (byte 123 s at) _ (omega arith) (bare_few _ (byte_bare s at 123)) (λ i.
      then_few (held s) 1 2 (inside s (blanks s i)) _ (inside_few (blanks s i)) (λ e l h.
      and_few 0 2 2 (byte 125 s (blanks s e)) _ (omega arith) (bare_few _ (byte_bare s (blanks s e) 125)) (λ f. to_few 2 f _ (omega arith))))

  spaced_few : (n : ℕ) (f : ℕ → Rows) → ((i : ℕ) → Few n (f i)) → (at : ℕ) → Few n (maybe at (gap s at and f))
  spaced_few n f h at = maybe_few n at _ (and_few 0 n n (gap s at) f (omega arith) (bare_few _ (gap_bare s at)) h)

  pub optional_cost_few : (at : ℕ) → Few 2 (optional_cost s at)
  unfolding optional_cost
  optional_cost_few at = spaced_few 2 (cost s) cost_few at
