-- The balance directive as it is read and written, each answer from what the code knows where it gives it.
use Rattle.text.proofs.TestLaws.{required_ok, tried}
use Rattle.text.specs.declared.stop.Stop.{Stop}
use Rattle.text.specs.steps.Told.{Reading, required}
use Rattle.text.specs.declared.stop.Cause.{Cause}
use Rattle.decimal.specs.Faults.{Value}
use Rattle.std.specs.Prelude.{None, Option, Some, Err, Ok, Result}
use Prim.Native.Nat.{ℕ, ◌+◌, ◌≤◌}
use native.Mathlib.Omega.{arith}
use mathlib.Core.Path.{◌≡◌, refl, ap, sym, ◌∙◌, subst}
use mathlib.Core.List.{List, [], ◌∷◌, map}
use borrow.Author.Tests.{ne_eqb}
use lib.ListN.{length, get_or}
use Rattle.text.specs.Run.{blanks}
use Rattle.text.specs.Answer.{Ans, To, Miss, Hard, ◌then◌, must, ◌and◌, maybe}
use Rattle.text.specs.Leaves.{token, gap, hard_gap, currency}
use Rattle.text.specs.Lines.{gap_at}
use Rattle.text.specs.Currencies.{currency_at}
use Rattle.text.proofs.Steps.{get_d_past}
use Rattle.text.specs.Refusals.{missing}
use Rattle.amount.specs.Details.{Rows, valued}
use Rattle.amount.specs.Expression.{expression}
use Rattle.amount.specs.steps.Answers.{answer_of, option_of}
use Rattle.amount.specs.declared.detail.Detail.{Detail}
use Rattle.amount.proofs.Forms.{was_read, was_miss, was_hard}
use Rattle.row.specs.steps.Pouring.{pour_at}
use Rattle.row.specs.steps.Writing.{laid, outs, some_row, Did}
use Rattle.row.specs.declared.writer.Out.{Out}
use Rattle.row.proofs.SureLaws.{Sure, sure_to, sure_hard, sure_must, sure_and}
use Rattle.row.proofs.DidLaws.{did_read}
use Rattle.row.proofs.TokenLaws.{then_read, must_token_read, must_token_miss}
use Rattle.amount.proofs.OneRows.{OneRow, row, token_to, token_miss, byte_at, byte_token, byte_row, then_row}
use Rattle.content.specs.Contents.{hard_account, tolerance, balance_of}
use Rattle.content.specs.steps.Parts.{past_gap, tolerance_of, tolerance_read, balance_end, balance_amount}
use Rattle.content.proofs.RowLaws.{some_read, some_stop, join_read, join_stop}
use Rattle.content.proofs.ContentLaws.{gap_sure, account_room}

-- ---- the tolerance's expression at i: x is the code's answer

module _ (s : List ℕ) (at i : ℕ) (x : Reading Value) (p : x ≡ answer_of (expression s i)) where
  pub tolerance_to : (e : ℕ) (v : Value) → x ≡ Ok (e, v) → Ok (e, Some (valued 27 i e 0 0 v)) ≡ option_of (tolerance_read s at i)
  unfolding tolerance_read ◌then◌ maybe option_of
  tolerance_to e v q = rw (was_read (expression s i) x e v p q)

  pub tolerance_none : x ≡ Err Stop.Miss → Ok (at, None) ≡ option_of (tolerance_read s at i)
  unfolding tolerance_read ◌then◌ maybe option_of
  tolerance_none q = rw (was_miss (expression s i) x p q)

  pub tolerance_hard : (k : Cause) (j : ℕ) → x ≡ Err (Stop.Hard k j) → Err (Stop.Hard k j) ≡ option_of (tolerance_read s at i)
  unfolding tolerance_read ◌then◌ maybe option_of
  tolerance_hard k j q = rw (was_hard (expression s i) x k j p q)

-- ---- blanks and `~` before it: b is past the blanks

module _ (s : List ℕ) (at b : ℕ) (p : b ≡ blanks s at) where
  -- the rows after `~`
  abbrev rest : ℕ → Rows
  rest i = expression s (blanks s i) then λ e v. To e (valued 27 (blanks s i) e 0 0 v ∷ [])

  pub tilde_on : (i : ℕ) (r : Reading (Option Detail)) → get_or s b 0 ≡ 126 → i ≡ blanks s (b + 1) → r ≡ option_of (tolerance_read s at i) → r ≡ option_of (tolerance_of s at)
  unfolding tolerance_of tolerance tolerance_read byte_at
  tilde_on i r q w k =
      rw (← p, byte_token 126 s b, token_to (Some (b + 1)) (byte_at 126 s b) (rw q) rest (b + 1) refl, ← w) k

  pub tilde_no : (get_or s b 0 ≡ 126 → ⊥) → Ok (at, None) ≡ option_of (tolerance_of s at)
  unfolding tolerance_of tolerance byte_at maybe option_of
  tilde_no q = rw (← p, byte_token 126 s b, token_miss None (byte_at 126 s b) (rw (ne_eqb (get_or s b 0) 126 q)) rest refl)

  pub tilde_past : length s ≤ b → Ok (at, None) ≡ option_of (tolerance_of s at)
  tilde_past h = tilde_no (λ q. omega (arith, get_d_past s b h))

tolerance_row : (s : List ℕ) (at : ℕ) → OneRow (tolerance s at)
unfolding tolerance
tolerance_row s at =
    byte_row 126 s (blanks s at) _ (λ i. then_row (expression s (blanks s i)) _ (λ e v. row e (valued 27 (blanks s i) e 0 0 v) (omega arith)))

-- ---- gap and currency after the amount of g to e: x is the gap's answer, y the currency's

module _ (base g e : ℕ) (v : Value) (n : Option Detail) (s : List ℕ) (at : ℕ) (o : Out) (t : List ℕ) (x : Option ℕ) (p : x ≡ gap_at s at) where
  abbrev ended : ℕ → ℕ → Rows
  ended c d = To d (valued 26 g e c d v ∷ some_row n)

  abbrev unit : ℕ → Rows
  unit c = must missing c (token (currency_at s c)) and ended c

  pub end_gap : (u : List ℕ) → x ≡ None → Did base (balance_end g e v n s at) o t u (Err (Stop.Hard missing at))
  unfolding balance_end hard_gap gap currency
  end_gap u q = must_token_miss base o t x (gap_at s at) p unit missing at u q

  module _ (c : ℕ) (q : x ≡ Some c) (y : Option ℕ) (w : y ≡ currency_at s c) where
    pub end_unit : (u : List ℕ) → y ≡ None → Did base (balance_end g e v n s at) o t u (Err (Stop.Hard missing c))
    unfolding balance_end hard_gap gap currency
    end_unit u k =
        must_token_read base o t x (gap_at s at) p unit missing at c u (Err (Stop.Hard missing c)) q (must_token_miss base o t y (currency_at s c) w (ended c) missing c u k)

    pub end_read : (d : ℕ) (m : Out) (u : List ℕ) → y ≡ Some d → m ≡ outs o (valued 26 g e c d v ∷ some_row n)
        → u ≡ pour_at o.rows (map (laid base) (valued 26 g e c d v ∷ some_row n)) t → Did base (balance_end g e v n s at) o t u (Ok (d, m))
    unfolding balance_end hard_gap gap currency
    end_read d m u k i j =
        must_token_read base o t x (gap_at s at) p unit missing at c u (Ok (d, m)) q
        (must_token_read base o t y (currency_at s c) w (ended c) missing c d u (Ok (d, m)) k (did_read base o t (ended c d) d _ m u refl (i, j)))

-- ---- the amount: x is the expression's answer, y the tolerance's

module _ (base : ℕ) (s : List ℕ) (at : ℕ) (o : Out) (t : List ℕ) (x : Reading Value) (p : x ≡ answer_of (expression s at)) where
  abbrev after : ℕ → Value → ℕ → List Detail → Rows
  after e v f ts = hard_gap missing s f and λ c. must missing c (currency s c) and λ d. To d (valued 26 at e c d v ∷ ts)

  pub amount_stop : (r : Result (ℕ × Value) Stop) (stop : Stop) → r ≡ required at x → r ≡ Err stop → Did base (balance_amount s at) o t t (Err stop)
  unfolding answer_of balance_amount must ◌then◌
  amount_stop r stop f q = go (expression s at) refl
    where
      told : (a : Ans Value) → expression s at ≡ a → ◌≡◌ {A = Result (ℕ × Value) Stop} (Err stop) (required at (answer_of a))
      told a g = sym q ∙ f ∙ ap (required at) p ∙ ap (λ z. required at (answer_of z)) g

      go : (a : Ans Value) → expression s at ≡ a → Did base (must missing at (expression s at) then λ e v. tolerance_of s e then after e v) o t t (Err stop)
      go (To e v) g = let z = told (To e v) g in cc
      go Miss g = let z : stop ≡ Stop.Hard missing at = let w = told Miss g in cc in rw (g, z) refl
      go (Hard n i) g = let z : stop ≡ Stop.Hard n i = let w = told (Hard n i) g in cc in rw (g, z) refl

  module _ (e : ℕ) (v : Value) (q : x ≡ Ok (e, v)) (y : Reading (Option Detail)) (w : y ≡ option_of (tolerance_of s e)) where
    amount_is : balance_amount s at ≡ (tolerance_of s e then after e v)
    unfolding balance_amount must ◌then◌
    amount_is = rw (was_read (expression s at) x e v p q)

    pub amount_end_lem : (f : ℕ) (d : Option Detail) (u : List ℕ) (r : Reading Out) → y ≡ Ok (f, d) → Did base (balance_end at e v d s f) o t u r → Did base (balance_amount s at) o t u r
    unfolding tolerance_of balance_end
    amount_end_lem f d u r k D = rw amount_is (then_read base o t (tolerance_of s e) (after e v) f (some_row d) u r (some_read e y f d (tolerance_row s e) w k) D)

    pub amount_halt : (stop : Stop) → y ≡ Err stop → Did base (balance_amount s at) o t t (Err stop)
    unfolding tolerance_of ◌then◌
    amount_halt stop k = let z = some_stop e y stop (tolerance_row s e) w k in subst (λ (f : Stop). Did base (balance_amount s at) o t t (Err f)) (sym z.2) (rw (amount_is, z.3) refl)

-- ---- the whole

module _ (s : List ℕ) where
  then_sure : {A : Type 0} (a : Ans A) (f : ℕ → A → Rows) (n : Cause) (i : ℕ) → ((e : ℕ) (x : A) → Sure (f e x)) → Sure (must n i a then f)
  unfolding must ◌then◌
  then_sure (To e x) f n i h = h e x
  then_sure Miss f n i h = sure_hard
  then_sure (Hard k p) f n i h = sure_hard

  maybe_then_sure : (a : Rows) (f : ℕ → List Detail → Rows) (i : ℕ) → ((e : ℕ) (x : List Detail) → Sure (f e x)) → Sure (maybe i a then f)
  unfolding maybe ◌then◌
  maybe_then_sure (To e x) f i h = h e x
  maybe_then_sure Miss f i h = h i []
  maybe_then_sure (Hard k p) f i h = sure_hard

  amount_sure : (at : ℕ) → Sure (balance_amount s at)
  unfolding balance_amount tolerance_of hard_gap
  amount_sure at =
      then_sure (expression s at) _ missing at (λ e v.
      maybe_then_sure (tolerance s e) _ e (λ f ts.
      sure_and _ (sure_must missing f (gap s f)) (λ c. sure_and _ (sure_must missing c (currency s c)) (λ d. sure_to))))

  balance_is : (at : ℕ) → balance_of s at ≡ (hard_account s at and past_gap balance_amount s)
  unfolding balance_of past_gap balance_amount tolerance_of
  balance_is at = refl

  balance_sure : (at : ℕ) → Sure (past_gap balance_amount s at)
  balance_sure = gap_sure balance_amount s amount_sure

module _ (base : ℕ) (s : List ℕ) (at : ℕ) (o : Out) (t v : List ℕ) (r : Reading Out) where
  module _ (D : Did base (hard_account s at) o t v r) where
    pub balance_read : (e : ℕ) (m : Out) (u : List ℕ) (q : Reading Out) → r ≡ Ok (e, m) → Did base (past_gap balance_amount s e) m v u q → Did base (balance_of s at) o t u q
    balance_read = join_read base o t v r (hard_account s at) (balance_of s at) (past_gap balance_amount s) (balance_is s at) (balance_sure s) D

    pub balance_stop : (stop : Stop) → r ≡ Err stop → Did base (balance_of s at) o t v (Err stop)
    balance_stop = join_stop base o t v r (hard_account s at) (balance_of s at) (past_gap balance_amount s) (balance_is s at) (balance_sure s) D

pub ruleset tolerance_laws = (tolerance_to, tolerance_none, tolerance_hard)

pub ruleset tilde_laws = (tilde_on, tilde_no, tilde_past)

pub ruleset end_laws = (tried, end_gap, end_unit, end_read)

pub ruleset amount_laws = (required_ok, amount_stop, amount_end_lem, amount_halt)

pub ruleset balance_laws = (balance_read, balance_stop, account_room)
