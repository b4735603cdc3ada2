-- Laws by which code that writes rows follows tokens, which make no row. The code read x where the rule has y.
use Rattle.text.specs.steps.Told.{Reading}
use Rattle.text.specs.declared.stop.Cause.{Cause}
use Rattle.text.specs.declared.stop.Stop.{Stop}
use Rattle.std.specs.Prelude.{None, Option, Some, Err, Ok, Result}
use Prim.Native.Nat.{ℕ}
use mathlib.Core.Path.{◌≡◌, refl}
use mathlib.Core.List.{List, []}
use Rattle.text.specs.Answer.{Ans, To, Miss, Hard, ◌then◌, must, ◌and◌, maybe}
use Rattle.text.specs.Leaves.{token}
use Rattle.text.specs.Accounts.{account}
use Rattle.text.specs.steps.Accounts.{account_at, account_answer}
use Rattle.text.proofs.AccountLaws.{account_answers}
use Rattle.amount.specs.Details.{Rows}
use Rattle.row.specs.steps.Writing.{Did}
use Rattle.row.specs.declared.writer.Out.{Out}
use Rattle.row.proofs.OutLaws.{poured_none}
use Rattle.row.proofs.DidLaws.{did_none, did_bare}

module _ (base : ℕ) (o : Out) (t : List ℕ) where
  -- ---- an answer without rows, and then g

  module _ (a : Rows) (g : ℕ → Rows) where
    pub bare_read : (e : ℕ) (u : List ℕ) (q : Reading Out) → a ≡ To e [] → Did base (g e) o t u q → Did base (a and g) o t u q
    unfolding ◌and◌
    bare_read e u q h k = rw h (did_bare base (g e) o t u q k)

    pub bare_miss : a ≡ Miss → Did base (a and g) o t t (Err Stop.Miss)
    unfolding ◌and◌
    bare_miss h = rw h (refl, poured_none o.rows t)

    pub bare_hard : (k : Cause) (p : ℕ) (u : List ℕ) → a ≡ Hard k p → Did base (a and g) o t u (Err (Stop.Hard k p))
    unfolding ◌and◌
    bare_hard k p u h = rw h refl

  -- ---- an answer with a value, and then f

  module _ {A : Type 0} (a : Ans A) (f : ℕ → A → Rows) where
    pub then_read : (e : ℕ) (z : A) (u : List ℕ) (q : Reading Out) → a ≡ To e z → Did base (f e z) o t u q → Did base (a then f) o t u q
    unfolding ◌then◌
    then_read e z u q h k = rw h k

  -- ---- a token

  module _ (x y : Option ℕ) (v : x ≡ y) where
    module _ (g : ℕ → Rows) where
      pub token_read : (e : ℕ) (u : List ℕ) (q : Reading Out) → x ≡ Some e → Did base (g e) o t u q → Did base (token y and g) o t u q
      unfolding token
      token_read e u q h = bare_read (token y) g e u q (rw (← v, h))

      pub token_miss : x ≡ None → Did base (token y and g) o t t (Err Stop.Miss)
      unfolding token
      token_miss h = bare_miss (token y) g (rw (← v, h))

      pub must_token_read : (n : Cause) (i e : ℕ) (u : List ℕ) (q : Reading Out) → x ≡ Some e → Did base (g e) o t u q
          → Did base (must n i (token y) and g) o t u q
      unfolding token must
      must_token_read n i e u q h = bare_read (must n i (token y)) g e u q (rw (← v, h))

      pub must_token_miss : (n : Cause) (i : ℕ) (u : List ℕ) → x ≡ None → Did base (must n i (token y) and g) o t u (Err (Stop.Hard n i))
      unfolding token must
      must_token_miss n i u h = bare_hard (must n i (token y)) g n i u (rw (← v, h))

      pub maybe_token_read : (i e : ℕ) (u : List ℕ) (q : Reading Out) → x ≡ Some e → Did base (g e) o t u q
          → Did base (maybe i (token y) and g) o t u q
      unfolding token maybe
      maybe_token_read i e u q h = bare_read (maybe i (token y)) g e u q (rw (← v, h))

      pub maybe_token_miss : (i : ℕ) (u : List ℕ) (q : Reading Out) → x ≡ None → Did base (g i) o t u q
          → Did base (maybe i (token y) and g) o t u q
      unfolding token maybe
      maybe_token_miss i u q h = bare_read (maybe i (token y)) g i u q (rw (← v, h))

    -- with nothing after it
    pub token_end : (e : ℕ) → x ≡ Some e → Did base (token y) o t t (Ok (e, o))
    unfolding token
    token_end e h = rw (← v, h) (did_none base o t e)

    pub token_end_miss : x ≡ None → Did base (token y) o t t (Err Stop.Miss)
    unfolding token
    token_end_miss h = rw (← v, h) (refl, poured_none o.rows t)

    pub must_token_end : (n : Cause) (i e : ℕ) → x ≡ Some e → Did base (must n i (token y)) o t t (Ok (e, o))
    unfolding token must
    must_token_end n i e h = rw (← v, h) (did_none base o t e)

    pub must_token_end_miss : (n : Cause) (i : ℕ) (u : List ℕ) → x ≡ None → Did base (must n i (token y)) o t u (Err (Stop.Hard n i))
    unfolding token must
    must_token_end_miss n i u h = rw (← v, h) refl

  -- ---- an account

  module _ (s : List ℕ) (at : ℕ) (x : Result ℕ Stop) (v : x ≡ account_at s at) (g : ℕ → Rows) where
    pub account_read : (e : ℕ) (u : List ℕ) (q : Reading Out) → x ≡ Ok e → Did base (g e) o t u q → Did base (account s at and g) o t u q
    unfolding account_answer
    account_read e u q h = bare_read (account s at) g e u q (rw (account_answers s at, ← v, h))

    pub account_miss : x ≡ (Err Stop.Miss) → Did base (account s at and g) o t t (Err Stop.Miss)
    unfolding account_answer
    account_miss h = bare_miss (account s at) g (rw (account_answers s at, ← v, h))

    pub account_hard : (k : Cause) (p : ℕ) (u : List ℕ) → x ≡ Err (Stop.Hard k p) → Did base (account s at and g) o t u (Err (Stop.Hard k p))
    unfolding account_answer
    account_hard k p u h = bare_hard (account s at) g k p u (rw (account_answers s at, ← v, h))

    pub account_stop : (stop : Stop) → x ≡ Err stop → Did base (account s at and g) o t t (Err stop)
    account_stop Stop.Miss h = account_miss h
    account_stop (Stop.Hard k p) h = account_hard k p t h

    pub must_account_read : (m : Cause) (i e : ℕ) (u : List ℕ) (q : Reading Out) → x ≡ Ok e → Did base (g e) o t u q
        → Did base (must m i (account s at) and g) o t u q
    unfolding account_answer must
    must_account_read m i e u q h = bare_read (must m i (account s at)) g e u q (rw (account_answers s at, ← v, h))

    pub must_account_miss : (m : Cause) (i : ℕ) (u : List ℕ) → x ≡ (Err Stop.Miss) → Did base (must m i (account s at) and g) o t u (Err (Stop.Hard m i))
    unfolding account_answer must
    must_account_miss m i u h = bare_hard (must m i (account s at)) g m i u (rw (account_answers s at, ← v, h))

    pub must_account_hard : (m : Cause) (i : ℕ) (k : Cause) (p : ℕ) (u : List ℕ) → x ≡ Err (Stop.Hard k p) → Did base (must m i (account s at) and g) o t u (Err (Stop.Hard k p))
    unfolding account_answer must
    must_account_hard m i k p u h = bare_hard (must m i (account s at)) g k p u (rw (account_answers s at, ← v, h))

pub ruleset tokens = (
  token_read,
  token_miss,
  must_token_read,
  must_token_miss,
  maybe_token_read,
  maybe_token_miss,
  token_end,
  token_end_miss,
  must_token_end,
  must_token_end_miss,
  account_read,
  account_miss,
  account_hard,
  must_account_read,
  must_account_miss,
  must_account_hard,
)
