-- The contents of directives as they are written, each answer from what the code knows where it gives it.
use Rattle.text.specs.Accounts.{account}
use Rattle.text.proofs.TestLaws.{required_ok, tried}
use Rattle.text.specs.steps.Told.{Reading, required}
use Rattle.text.specs.declared.stop.Cause.{Cause}
use Rattle.text.specs.declared.stop.Stop.{Stop}
use Rattle.std.specs.Prelude.{None, Option, Some, Err, Ok, Result}
use Prim.Native.Nat.{ℕ, ◌+◌, ◌-◌}
use native.Mathlib.Omega.{arith}
use mathlib.Core.Path.{◌≡◌, refl, ap, sym, ◌∙◌}
use mathlib.Core.List.{List, [], ◌∷◌}
use Rattle.text.specs.Answer.{To, must, ◌and◌}
use Rattle.text.specs.Leaves.{token, gap, hard_gap, string, currency}
use Rattle.text.specs.steps.Accounts.{account_at, account_answer}
use Rattle.text.specs.Lines.{gap_at}
use Rattle.text.specs.Strings.{string_at}
use Rattle.text.specs.Currencies.{currency_at}
use Rattle.text.proofs.AccountLaws.{account_answers}
use Rattle.amount.specs.Details.{Rows, span, quoted}
use Rattle.text.specs.Refusals.{missing}
use Rattle.amount.specs.Expression.{expression}
use Rattle.amount.specs.Amounts.{hard_currency, hard_amount, price_of}
use Rattle.amount.specs.steps.Answers.{pair_of}
use Rattle.amount.specs.declared.detail.Detail.{Detail}
use Rattle.row.specs.steps.Pouring.{pour_at}
use Rattle.row.specs.steps.Writing.{laid, noted, Did, Room}
use Rattle.row.specs.declared.writer.Out.{Out}
use Rattle.row.proofs.OutLaws.{noted_room, wrote_one, wrote_then}
use Rattle.row.proofs.SureLaws.{Sure, sure_must, sure_and}
use Rattle.row.proofs.DidLaws.{did_read, did_hard, did_emit, must_read, must_miss}
use Rattle.row.proofs.TokenLaws.{token_read, token_miss, must_token_read, must_token_miss, must_account_read, must_account_miss, must_account_hard}
use Rattle.posting.proofs.MetaLaws.{string_fits, string_takes}
use Rattle.amount.proofs.OneRows.{row, token_row}
use Rattle.content.specs.Contents.{hard_account, hard_string, pad_of, event_of}
use Rattle.content.specs.steps.Parts.{past_gap}
use Rattle.content.proofs.RowLaws.{Makes, makes, refuses, makes_sure, makes_and, makes_token, makes_then, makes_one, pair_read, pair_stop, one_more_lem, join_read, join_stop}

-- ---- an account, a currency, a string, each required: x is what the code read

module _ (base : ℕ) (s : List ℕ) (at : ℕ) (o : Out) (t : List ℕ) where
  module _ (x : Result ℕ Stop) (p : x ≡ account_at s at) where
    pub account_to : (e : ℕ) (d : Detail) (m : Out) (u : List ℕ) → x ≡ Ok e → d ≡ span 25 at e → m ≡ noted o d → u ≡ pour_at o.rows (laid base d ∷ []) t
        → Did base (hard_account s at) o t u (Ok (e, m))
    unfolding hard_account
    account_to e d m u q w k l =
        must_account_read base o t s at x p (λ e. To e (span 25 at e ∷ [])) missing at e u (Ok (e, m)) q
        (did_emit base o t e (span 25 at e) d m u k l w)

    pub account_stop : (r : Result ℕ Stop) (stop : Stop) → r ≡ required at x → r ≡ Err stop → Did base (hard_account s at) o t t (Err stop)
    unfolding hard_account
    account_stop r stop f q = go x refl
      where
        told : (y : Result ℕ Stop) → x ≡ y → ◌≡◌ {A = Result ℕ Stop} (Err stop) (required at y)
        told y g = sym q ∙ f ∙ ap (required at) g

        go : (y : Result ℕ Stop) → x ≡ y → Did base (must missing at (account s at) and λ e. To e (span 25 at e ∷ [])) o t t (Err stop)
        go (Ok e) g = let z = told (Ok e) g in cc
        go (Err Stop.Miss) g =
            let z : stop ≡ Stop.Hard missing at = let w = told (Err Stop.Miss) g in cc in
            rw z (must_account_miss base o t s at x p (λ e. To e (span 25 at e ∷ [])) missing at t g)
        go (Err (Stop.Hard k i)) g =
            let z : stop ≡ Stop.Hard k i = let w = told (Err (Stop.Hard k i)) g in cc in
            rw z (must_account_hard base o t s at x p (λ e. To e (span 25 at e ∷ [])) missing at k i t g)

  module _ (x : Option ℕ) (p : x ≡ currency_at s at) where
    pub currency_to : (e : ℕ) (d : Detail) (m : Out) (u : List ℕ) → x ≡ Some e → d ≡ span 31 at e → m ≡ noted o d → u ≡ pour_at o.rows (laid base d ∷ []) t
        → Did base (hard_currency s at) o t u (Ok (e, m))
    unfolding hard_currency currency
    currency_to e d m u q w k l =
        must_token_read base o t x (currency_at s at) p (λ e. To e (span 31 at e ∷ [])) missing at e u (Ok (e, m)) q (did_emit base o t e (span 31 at e) d m u k l w)

    pub currency_none : (u : List ℕ) → x ≡ None → Did base (hard_currency s at) o t u (Err (Stop.Hard missing at))
    unfolding hard_currency currency
    currency_none u q = must_token_miss base o t x (currency_at s at) p (λ e. To e (span 31 at e ∷ [])) missing at u q

  module _ (x : Option ℕ) (p : x ≡ string_at s at) where
    abbrev text_row : ℕ → Rows
    text_row e = To e (span 34 (at + 1) (e - 1) ∷ [])

    pub string_to : (e : ℕ) (d : Detail) (m : Out) (u : List ℕ) → x ≡ Some e → d ≡ span 34 (at + 1) (e - 1) → m ≡ noted o d → u ≡ pour_at o.rows (laid base d ∷ []) t
        → Did base (hard_string s at) o t u (Ok (e, m))
    unfolding hard_string quoted string
    string_to e d m u q w k l =
        must_read base o t u (Ok (e, m)) at (token (string_at s at) and text_row)
        (token_read base o t x (string_at s at) p text_row e u (Ok (e, m)) q (did_emit base o t e (span 34 (at + 1) (e - 1)) d m u k l w)) missing e m refl

    pub string_none : (u : List ℕ) → x ≡ None → Did base (hard_string s at) o t u (Err (Stop.Hard missing at))
    unfolding hard_string quoted string
    string_none u q = must_miss base o t t (Err Stop.Miss) at (token (string_at s at) and text_row) (token_miss base o t x (string_at s at) p text_row q) missing u refl

-- each makes one row

makes_account : (k : Cause) (at : ℕ) (x : Result ℕ Stop) → Makes 0 (must k at (account_answer x))
unfolding account_answer must
makes_account k at (Ok j) = makes j [] refl
makes_account k at (Err Stop.Miss) = refuses k at
makes_account k at (Err (Stop.Hard n p)) = refuses n p

module _ (s : List ℕ) (at : ℕ) where
  pub account_one : Makes 1 (hard_account s at)
  unfolding hard_account
  account_one = rw (account_answers s at) (makes_and 0 1 _ (makes_account missing at (account_at s at)) (λ e. makes e _ refl))

  pub string_one : Makes 1 (hard_string s at)
  unfolding hard_string quoted string
  string_one = makes_one missing at (token_row (string_at s at) _ (λ e. row e (span 34 (at + 1) (e - 1)) (omega arith)))

-- ---- a required gap, and then a reader f: x is what the code read

module _ (base : ℕ) (f : List ℕ → ℕ → Rows) (s : List ℕ) (at : ℕ) (o : Out) (t : List ℕ) (x : Option ℕ) (p : x ≡ gap_at s at) where
  pub gap_to : (j : ℕ) (u : List ℕ) (q : Reading Out) → x ≡ Some j → Did base (f s j) o t u q → Did base (past_gap f s at) o t u q
  unfolding past_gap hard_gap gap
  gap_to j u q h d = must_token_read base o t x (gap_at s at) p (f s) missing at j u q h d

  pub gap_none : (u : List ℕ) → x ≡ None → Did base (past_gap f s at) o t u (Err (Stop.Hard missing at))
  unfolding past_gap hard_gap gap
  gap_none u h = must_token_miss base o t x (gap_at s at) p (f s) missing at u h

pub gap_sure : (f : List ℕ → ℕ → Rows) (s : List ℕ) → ((at : ℕ) → Sure (f s at)) → (at : ℕ) → Sure (past_gap f s at)
unfolding past_gap hard_gap
gap_sure f s h at = sure_and (f s) (sure_must missing at (gap s at)) h

pub ruleset gap_laws = (tried, gap_to, gap_none)

-- ---- pad and event: what stands after the first part

module _ (s : List ℕ) where
  pad_is : (at : ℕ) → pad_of s at ≡ (hard_account s at and past_gap hard_account s)
  unfolding pad_of past_gap
  pad_is at = refl

  pad_sure : (at : ℕ) → Sure (past_gap hard_account s at)
  pad_sure = gap_sure hard_account s (λ at. makes_sure (account_one s at))

  event_is : (at : ℕ) → event_of s at ≡ (hard_string s at and past_gap hard_string s)
  unfolding event_of past_gap
  event_is at = refl

  event_sure : (at : ℕ) → Sure (past_gap hard_string s at)
  event_sure = gap_sure hard_string s (λ at. makes_sure (string_one s at))

module _ (base : ℕ) (s : List ℕ) (at : ℕ) (o : Out) (t v : List ℕ) (r : Reading Out) where
  module _ (D : Did base (hard_account s at) o t v r) where
    pub pad_read : (e : ℕ) (m : Out) (u : List ℕ) (q : Reading Out) → r ≡ Ok (e, m) → Did base (past_gap hard_account s e) m v u q → Did base (pad_of s at) o t u q
    pad_read = join_read base o t v r (hard_account s at) (pad_of s at) (past_gap hard_account s) (pad_is s at) (pad_sure s) D

    pub pad_stop : (stop : Stop) → r ≡ Err stop → Did base (pad_of s at) o t v (Err stop)
    pad_stop = join_stop base o t v r (hard_account s at) (pad_of s at) (past_gap hard_account s) (pad_is s at) (pad_sure s) D

  module _ (D : Did base (hard_string s at) o t v r) where
    pub event_read : (e : ℕ) (m : Out) (u : List ℕ) (q : Reading Out) → r ≡ Ok (e, m) → Did base (past_gap hard_string s e) m v u q → Did base (event_of s at) o t u q
    event_read = join_read base o t v r (hard_string s at) (event_of s at) (past_gap hard_string s) (event_is s at) (event_sure s) D

    pub event_stop : (stop : Stop) → r ≡ Err stop → Did base (event_of s at) o t v (Err stop)
    event_stop = join_stop base o t v r (hard_string s at) (event_of s at) (past_gap hard_string s) (event_is s at) (event_sure s) D

  -- there is room for what follows
  pub account_room : (n e : ℕ) (m : Out) → Did base (hard_account s at) o t v r → r ≡ Ok (e, m) → Room (n + 1) o → Room n m
  account_room n e m D q l = omega (arith, one_more_lem base o t v r (hard_account s at) D e m q (account_one s at))

  pub string_room : (n e : ℕ) (m : Out) → Did base (hard_string s at) o t v r → r ≡ Ok (e, m) → Room (n + 1) o → Room n m
  string_room n e m D q l = omega (arith, one_more_lem base o t v r (hard_string s at) D e m q (string_one s at))

-- ---- price: x is the code's answer, u and w its rows, m is held and v is the table after the first

price_two : (s : List ℕ) (at : ℕ) → Makes 2 (price_of s at)
unfolding price_of hard_currency hard_gap hard_amount gap currency
price_two s at =
    makes_and 1 1 _ (makes_and 0 1 _ (makes_token missing at (currency_at s at)) (λ e. makes e _ refl)) (λ e.
    makes_and 0 1 _ (makes_token missing e (gap_at s e)) (λ g.
    makes_then 1 missing g (expression s g) _ (λ f v.
    makes_and 0 1 _ (makes_token missing f (gap_at s f)) (λ c.
    makes_and 0 1 _ (makes_token missing c (currency_at s c)) (λ d. makes d _ refl)))))

module _ (base : ℕ) (s : List ℕ) (at : ℕ) (o : Out) (t : List ℕ) (x : Reading (Detail × Detail)) (p : x ≡ pair_of (price_of s at)) where
  module _ (e : ℕ) (u w : Detail) (q : x ≡ Ok (e, (u, w))) (m : Out) (v : List ℕ) (k : m ≡ noted o u) (l : v ≡ pour_at o.rows (laid base u ∷ []) t) where
    pub price_to : (n : Out) (z : List ℕ) → n ≡ noted m w → z ≡ pour_at m.rows (laid base w ∷ []) v → Did base (price_of s at) o t z (Ok (e, n))
    price_to n z i j =
        did_read base o t (price_of s at) e (u ∷ w ∷ []) n z (pair_read x e u w (price_two s at) p q)
        (wrote_then base o t (u ∷ []) (w ∷ []) m n v z (wrote_one base o t u m v k l) (wrote_one base m v w n z i j))

  pub price_stop : (stop : Stop) → x ≡ Err stop → Did base (price_of s at) o t t (Err stop)
  price_stop stop q = let z = pair_stop x stop (price_two s at) p q in rw z.2 (did_hard base o t (price_of s at) z.0 z.1 t z.3)

pub ruleset account_laws = (required_ok, account_to, account_stop)

pub ruleset currency_laws = (tried, currency_to, currency_none)

pub ruleset string_laws = (tried, string_fits, string_takes, string_to, string_none)

pub ruleset pad_laws = (pad_read, pad_stop, account_room)

pub ruleset event_laws = (event_read, event_stop, string_room)

pub ruleset price_laws = (noted_room, price_to, price_stop)
