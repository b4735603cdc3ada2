-- Rule 10: what refuses a value of an amount's row has number 6, 7 or 8, whatever the row's kind and place.
use Rattle.std.specs.Prelude.{Ok}
use Rattle.decimal.specs.Faults.{Value}
use Prim.Native.Nat.{ℕ}
use mathlib.Core.Path.{◌≡◌, refl, sym, ◌∙◌, subst}
use mathlib.Core.List.{List, [], ◌∷◌}
use Rattle.text.specs.Answer.{Ans, To, Miss, Hard, ◌then◌, more, ◌and◌, maybe, must}
use Rattle.text.specs.Leaves.{gap, hard_gap, currency}
use Rattle.text.specs.Refusals.{missing}
use Rattle.text.specs.steps.Told.{Reading}
use Rattle.text.proofs.EveryLaws.{every_append}
use Rattle.text.proofs.Inversions.{must_inv}
use Rattle.text.proofs.TestLaws.{ok_pair}
use Rattle.amount.specs.declared.detail.Detail.{Detail}
use Rattle.amount.specs.Details.{Rows}
use Rattle.amount.specs.Expression.{expression}
use Rattle.amount.specs.Amounts.{amount, hard_currency, hard_amount, price_of}
use Rattle.amount.specs.steps.Answers.{one_of, pair_of}
use Rattle.amount.proofs.ValueSizes.{Numbered, NumberedRow, NumberedRows, ReadNumbered, small_numbered, read_small}
use Rattle.amount.proofs.RowCounts.{Bare, must_bare, gap_bare, hard_gap_bare, currency_bare}

pub one_numbered : (e : ℕ) (d : Detail) → Numbered d.value → ReadNumbered (To e (d ∷ []))
one_numbered e d h = record { holds = (h, tt) }

more_numbered : (xs : List Detail) (a : Rows) → NumberedRows xs → ReadNumbered a → ReadNumbered (more xs a)
unfolding more
more_numbered xs (To e ys) h g = record { holds = every_append NumberedRow xs ys h g.holds }
more_numbered xs Miss h g = record { holds = tt }
more_numbered xs (Hard k p) h g = record { holds = tt }

pub and_numbered : (a : Rows) (f : ℕ → Rows) → ReadNumbered a → ((e : ℕ) → ReadNumbered (f e)) → ReadNumbered (a and f)
unfolding ◌and◌
and_numbered (To e ds) f h g = more_numbered ds (f e) h.holds (g e)
and_numbered Miss f h g = record { holds = tt }
and_numbered (Hard k p) f h g = record { holds = tt }

then_numbered : (a : Ans Value) (f : ℕ → Value → Rows) → ((e : ℕ) (v : Value) → a ≡ To e v → ReadNumbered (f e v)) → ReadNumbered (a then f)
unfolding ◌then◌
then_numbered (To e v) f h = h e v refl
then_numbered Miss f h = record { holds = tt }
then_numbered (Hard k p) f h = record { holds = tt }

pub maybe_numbered : (at : ℕ) (a : Rows) → ReadNumbered a → ReadNumbered (maybe at a)
unfolding maybe
maybe_numbered at (To e ds) h = h
maybe_numbered at Miss h = record { holds = tt }
maybe_numbered at (Hard k p) h = h

-- a reader that makes no rows
pub bare_numbered : (a : Rows) → Bare a → ReadNumbered a
bare_numbered (To e ds) b = record { holds = subst NumberedRows (sym b.none) tt }
bare_numbered Miss b = record { holds = tt }
bare_numbered (Hard k p) b = record { holds = tt }

pub amount_numbered : (k : ℕ) (s : List ℕ) (at : ℕ) → ReadNumbered (amount k s at)
unfolding amount
amount_numbered k s at =
    then_numbered (expression s at) _ (λ e v w.
    and_numbered (gap s e) _ (bare_numbered _ (gap_bare s e)) (λ c.
    and_numbered (currency s c) _ (bare_numbered _ (currency_bare s c)) (λ d.
    one_numbered d _ (small_numbered v (read_small s at e v w)))))

pub hard_amount_numbered : (k : ℕ) (s : List ℕ) (at : ℕ) → ReadNumbered (hard_amount k s at)
unfolding hard_amount
hard_amount_numbered k s at =
    then_numbered (must missing at (expression s at)) _ (λ e v w.
    and_numbered (hard_gap missing s e) _ (bare_numbered _ (hard_gap_bare s e missing)) (λ c.
    and_numbered (must missing c (currency s c)) _ (bare_numbered _ (must_bare missing c _ (currency_bare s c))) (λ d.
    one_numbered d _ (small_numbered v (read_small s at e v (must_inv missing at (expression s at) e v w))))))

pub price_of_numbered : (s : List ℕ) (at : ℕ) → ReadNumbered (price_of s at)
unfolding price_of hard_currency
price_of_numbered s at =
    and_numbered _ _
    (and_numbered (must missing at (currency s at)) _ (bare_numbered _ (must_bare missing at _ (currency_bare s at))) (λ e. one_numbered e _ tt)) (λ e.
    and_numbered (hard_gap missing s e) _ (bare_numbered _ (hard_gap_bare s e missing)) (λ g.
    hard_amount_numbered _ s g))

-- ---- the code's answer r

pub one_of_numbered : (a : Rows) (r : Reading Detail) (e : ℕ) (d : Detail) → ReadNumbered a → r ≡ one_of a → r ≡ Ok (e, d) → Numbered d.value
unfolding one_of
one_of_numbered (To j []) r e d h p q = cc
one_of_numbered (To j (x ∷ xs)) r e d h p q = let z = ok_pair (sym p ∙ q) in subst (λ (y : Detail). Numbered y.value) z.1 h.holds.0
one_of_numbered Miss r e d h p q = cc
one_of_numbered (Hard k n) r e d h p q = cc

pub pair_of_numbered : (a : Rows) (r : Reading (Detail × Detail)) (e : ℕ) (c d : Detail) → ReadNumbered a → r ≡ pair_of a → r ≡ Ok (e, (c, d)) → Numbered c.value × Numbered d.value
unfolding pair_of
pair_of_numbered (To j []) r e c d h p q = cc
pair_of_numbered (To j (x ∷ [])) r e c d h p q = cc
pair_of_numbered (To j (x ∷ y ∷ xs)) r e c d h p q =
    let z = ok_pair (sym p ∙ q) in subst (λ (v : Detail × Detail). Numbered v.0.value × Numbered v.1.value) z.1 (h.holds.0, h.holds.1.0)
pair_of_numbered Miss r e c d h p q = cc
pair_of_numbered (Hard k n) r e c d h p q = cc
