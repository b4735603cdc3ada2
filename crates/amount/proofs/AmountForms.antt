-- How the code follows rule 10, each answer from what the code knows where it gives it.
use Rattle.text.specs.steps.Told.{Reading, required}
use Rattle.text.specs.declared.stop.Stop.{Stop}
use Rattle.text.specs.declared.stop.Cause.{Cause}
use Rattle.decimal.specs.Faults.{Value}
use Rattle.std.specs.Prelude.{None, Option, Some, Err, Ok, Result}
use Prim.Native.Nat.{ℕ}
use mathlib.Core.Path.{◌≡◌, refl, sym, ap, ◌∙◌}
use mathlib.Core.List.{List, [], ◌∷◌}
use Rattle.text.proofs.TestLaws.{absurd_bool, ok_pair, tried}
use Rattle.text.specs.Answer.{Ans, To, Miss, Hard, ◌then◌, more, ◌and◌, must}
use Rattle.text.specs.Leaves.{token, gap, hard_gap, currency}
use Rattle.text.specs.Lines.{gap_at}
use Rattle.text.specs.Currencies.{currency_at}
use Rattle.text.specs.Refusals.{too_deep, missing}
use Rattle.amount.specs.Details.{Rows, span, valued}
use Rattle.amount.specs.Expression.{expression}
use Rattle.amount.specs.Amounts.{amount, hard_currency, hard_amount, price_of}
use Rattle.amount.specs.steps.Answers.{answer_of, one_of, amount_end, priced_from, pair_of}
use Rattle.amount.specs.declared.detail.Detail.{Detail}
use Rattle.amount.proofs.Forms.{was_read}
use Rattle.amount.proofs.Refusals.{Three, expression_three}

-- ---- after the expression: g is the gap's answer, u the currency's

module _ (k : ℕ) (s : List ℕ) (at e : ℕ) (v : Value) (g : Option ℕ) (p : g ≡ gap_at s e) where
  pub end_gap : g ≡ None → Err (Stop.Hard missing e) ≡ one_of (amount_end k s at e v)
  unfolding amount_end hard_gap gap token must ◌and◌ one_of
  end_gap q = rw (← p, q)

  module _ (c : ℕ) (q : g ≡ Some c) (u : Option ℕ) (w : u ≡ currency_at s c) where
    pub end_read : (d : ℕ) → u ≡ Some d → Ok (d, (valued k at e c d v)) ≡ one_of (amount_end k s at e v)
    unfolding amount_end hard_gap gap currency token must ◌and◌ more one_of
    end_read d n = rw (← p, q, ← w, n)

    pub end_unit : u ≡ None → Err (Stop.Hard missing c) ≡ one_of (amount_end k s at e v)
    unfolding amount_end hard_gap gap currency token must ◌and◌ more one_of
    end_unit n = rw (← p, q, ← w, n)

-- ---- a required amount: x is the expression's answer

module _ (k : ℕ) (s : List ℕ) (at : ℕ) (x : Reading Value) (p : x ≡ answer_of (expression s at)) where
  pub required_read : (e : ℕ) (v : Value) (o : Reading Detail) → x ≡ Ok (e, v) → o ≡ one_of (amount_end k s at e v) → o ≡ one_of (hard_amount k s at)
  unfolding hard_amount amount_end must ◌then◌
  required_read e v o q w = rw (was_read (expression s at) x e v p q) w

  pub required_stop : (r : Result (ℕ × Value) Stop) (stop : Stop) → r ≡ required at x → r ≡ Err stop → Err stop ≡ one_of (hard_amount k s at)
  unfolding answer_of hard_amount must ◌then◌ one_of
  required_stop r stop f q = go (expression s at) refl
    where
      told : (a : Ans Value) → expression s at ≡ a → ◌≡◌ {A = Result (ℕ × Value) Stop} (Err stop) (required at (answer_of a))
      told a g = sym q ∙ f ∙ ap (required at) p ∙ ap (λ z. required at (answer_of z)) g

      go : (a : Ans Value) → expression s at ≡ a → ◌≡◌ {A = Reading Detail} (Err stop) (one_of (must missing at (expression s at) then λ e v. hard_gap missing s e and λ c. must missing c (currency s c) and λ d. To d (valued k at e c d v ∷ [])))
      go (To e v) g = let z = told (To e v) g in cc
      go Miss g = let z = told Miss g in rw g cc
      go (Hard n i) g = let z = told (Hard n i) g in rw g cc

-- ---- a required amount and the plain one: both read one row, or refusal 4 stands for a miss, or both are refusal 3

data Both : Rows → Rows → Type 0 where
  row : (j : ℕ) (d : Detail) → Both (To j (d ∷ [])) (To j (d ∷ []))
  lacks : (i : ℕ) → Both (Hard missing i) Miss
  deep : (i : ℕ) → Both (Hard too_deep i) (Hard too_deep i)

module _ (k : ℕ) (s : List ℕ) (at : ℕ) where
  both_ends : (e : ℕ) (v : Value) (g : Option ℕ) → gap_at s e ≡ g
      → Both (hard_gap missing s e and λ c. must missing c (currency s c) and λ d. To d (valued k at e c d v ∷ [])) (gap s e and λ c. currency s c and λ d. To d (valued k at e c d v ∷ []))
  unfolding hard_gap gap currency token must ◌and◌ more
  both_ends e v None p = rw p (lacks e)
  both_ends e v (Some c) p = rw p (go (currency_at s c) refl)
    where
      go : (u : Option ℕ) → currency_at s c ≡ u
          → Both (more [] (must missing c (token (currency_at s c)) and λ d. To d (valued k at e c d v ∷ []))) (more [] (token (currency_at s c) and λ d. To d (valued k at e c d v ∷ [])))
      go (Some d) q = rw q (row d (valued k at e c d v))
      go None q = rw q (lacks c)

  both_amounts : Both (hard_amount k s at) (amount k s at)
  unfolding hard_amount amount must ◌then◌
  both_amounts = go (expression s at) (expression_three s at)
    where
      go : (a : Ans Value) → Three a
          → Both (must missing at a then λ e v. hard_gap missing s e and λ c. must missing c (currency s c) and λ d. To d (valued k at e c d v ∷ []))
          (a then λ e v. gap s e and λ c. currency s c and λ d. To d (valued k at e c d v ∷ []))
      go (To e v) T = both_ends e v (gap_at s e) refl
      go Miss T = lacks at
      go (Hard n i) T = rw T (deep i)

-- what the plain amount answers where the required one has a hard miss
abbrev plainly : Cause → ℕ → Rows
plainly Cause.Missing i = Miss
plainly cause i = Hard cause i

-- what the arms of a match on a required amount's answer a tell
was_row : {h r : Rows} (a : Reading Detail) (j : ℕ) (d : Detail) → Both h r → a ≡ one_of h → a ≡ Ok (j, d) → (h ≡ To j (d ∷ [])) × (r ≡ To j (d ∷ []))
unfolding one_of
was_row a j d (row i c) p q = let e = ok_pair (sym p ∙ q) in (rw (e.0, e.1), rw (e.0, e.1))
was_row a j d (lacks i) p q = (cc, cc)
was_row a j d (deep i) p q = (cc, cc)

was_none : {h r : Rows} (a : Reading Detail) → Both h r → a ≡ one_of h → a ≡ (Err Stop.Miss) → ⊥
unfolding one_of
was_none a (row i c) p q = absurd_bool (cc)
was_none a (lacks i) p q = absurd_bool (cc)
was_none a (deep i) p q = absurd_bool (cc)

was_hard : {h r : Rows} (a : Reading Detail) (n : Cause) (i : ℕ) → Both h r → a ≡ one_of h → a ≡ Err (Stop.Hard n i) → (h ≡ Hard n i) × (r ≡ plainly n i)
unfolding one_of
was_hard a n i (row j c) p q = (cc, cc)
was_hard a n i (lacks j) p q = (cc, let e : n ≡ missing = cc in rw e)
was_hard a n i (deep j) p q = (cc, let e : n ≡ too_deep = cc in rw e cc)

module _ (k : ℕ) (s : List ℕ) (at : ℕ) (a : Reading Detail) (p : a ≡ one_of (hard_amount k s at)) where
  pub amount_read : (j : ℕ) (d : Detail) → a ≡ Ok (j, d) → Ok (j, d) ≡ one_of (amount k s at)
  unfolding one_of
  amount_read j d q = rw (was_row a j d (both_amounts k s at) p q).1

  pub amount_none : a ≡ (Err Stop.Miss) → (Err Stop.Miss) ≡ one_of (amount k s at)
  amount_none q = absurd (was_none a (both_amounts k s at) p q)

  pub amount_lacks : (i : ℕ) → a ≡ Err (Stop.Hard Cause.Missing i) → Err Stop.Miss ≡ one_of (amount k s at)
  unfolding one_of
  amount_lacks i q = rw (was_hard a Cause.Missing i (both_amounts k s at) p q).1

  amount_hard : (cause : Cause) (i : ℕ) → plainly cause i ≡ Hard cause i → a ≡ Err (Stop.Hard cause i) → Err (Stop.Hard cause i) ≡ one_of (amount k s at)
  unfolding one_of
  amount_hard cause i e q = rw ((was_hard a cause i (both_amounts k s at) p q).1, e)

  pub amount_deep : (i : ℕ) → a ≡ Err (Stop.Hard Cause.TooDeep i) → Err (Stop.Hard Cause.TooDeep i) ≡ one_of (amount k s at)
  amount_deep i q = amount_hard Cause.TooDeep i refl q

  pub amount_gap : (i : ℕ) → a ≡ Err (Stop.Hard Cause.MissingGap i) → Err (Stop.Hard Cause.MissingGap i) ≡ one_of (amount k s at)
  amount_gap i q = amount_hard Cause.MissingGap i refl q

  pub amount_part : (i : ℕ) → a ≡ Err (Stop.Hard Cause.MissingPart i) → Err (Stop.Hard Cause.MissingPart i) ≡ one_of (amount k s at)
  amount_part i q = amount_hard Cause.MissingPart i refl q

-- ---- prices: g is the gap's answer, a the amount's, u the currency's

module _ (s : List ℕ) (at e : ℕ) (g : Option ℕ) (p : g ≡ gap_at s e) where
  pub priced_gap : g ≡ None → Err (Stop.Hard missing e) ≡ pair_of (priced_from s at e)
  unfolding priced_from hard_gap gap token must ◌and◌ more pair_of
  priced_gap q = rw (← p, q)

  module _ (j : ℕ) (q : g ≡ Some j) (a : Reading Detail) (w : a ≡ one_of (hard_amount 26 s j)) where
    pub priced_read : (f : ℕ) (d : Detail) → a ≡ Ok (f, d) → Ok (f, ((span 31 at e), d)) ≡ pair_of (priced_from s at e)
    unfolding priced_from hard_gap gap token must ◌and◌ more pair_of
    priced_read f d n = rw (← p, q, (was_row a f d (both_amounts 26 s j) w n).0)

    pub priced_stop : (stop : Stop) → a ≡ Err stop → Err stop ≡ pair_of (priced_from s at e)
    unfolding priced_from hard_gap gap token must ◌and◌ more pair_of
    priced_stop Stop.Miss n = absurd (was_none a (both_amounts 26 s j) w n)
    priced_stop (Stop.Hard n i) m = rw (← p, q, (was_hard a n i (both_amounts 26 s j) w m).0)

module _ (s : List ℕ) (at : ℕ) (u : Option ℕ) (p : u ≡ currency_at s at) where
  pub price_read : (e : ℕ) (o : Reading (Detail × Detail)) → u ≡ Some e → o ≡ pair_of (priced_from s at e) → o ≡ pair_of (price_of s at)
  unfolding price_of priced_from hard_currency currency token must ◌and◌ more
  price_read e o q w = rw (← p, q) w

  pub price_miss : u ≡ None → Err (Stop.Hard missing at) ≡ pair_of (price_of s at)
  unfolding price_of hard_currency currency token must ◌and◌ pair_of
  price_miss q = rw (← p, q)

pub ruleset end_laws = (tried, end_gap, end_read, end_unit)

pub ruleset required_laws = (required_read, required_stop)

pub ruleset amount_laws = (amount_read, amount_none, amount_lacks, amount_deep, amount_gap, amount_part)

pub ruleset priced_laws = (tried, priced_gap, priced_read, priced_stop)

pub ruleset price_laws = (tried, price_read, price_miss)
