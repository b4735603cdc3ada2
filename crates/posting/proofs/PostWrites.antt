-- A posting as it is written, each answer from what the code knows where it gives it.
use Rattle.text.proofs.TestLaws.{tried}
use Rattle.text.specs.steps.Told.{Reading}
use Rattle.text.specs.declared.stop.Cause.{Cause}
use Rattle.text.specs.declared.stop.Stop.{Stop}
use Rattle.std.specs.Prelude.{None, Option, Some, Err, Ok, Result}
use Prim.Native.Nat.{ℕ, ◌+◌, ◌≤◌}
use native.Mathlib.Omega.{arith}
use mathlib.Core.Path.{◌≡◌, refl, ◌∙◌, ap}
use mathlib.Core.Bool.{Bool, true, false, cond}
use mathlib.Core.List.{List, [], ◌∷◌}
use lib.ListN.{get_or}
use Rattle.text.specs.Answer.{Ans, To, Miss, ◌then◌, ◌else◌, ◌and◌, maybe}
use Rattle.text.specs.Leaves.{token, gap, line_end}
use Rattle.text.specs.steps.Accounts.{account_at}
use Rattle.text.specs.Lines.{gap_at, line_end_at}
use Rattle.text.specs.Permitted.{size_limit}
use Rattle.amount.specs.Details as details
use Rattle.amount.specs.Amounts.{amount}
use Rattle.amount.specs.steps.Answers.{one_of}
use Rattle.amount.specs.declared.detail.Detail.{Detail}
use Rattle.row.specs.steps.Pouring.{pour_at}
use Rattle.row.specs.steps.Writing.{laid, noted, Did, Room, Writable}
use Rattle.row.specs.declared.writer.Out.{Out}
use Rattle.row.proofs.OutLaws.{rows_noted, rows_outs, wrote_one, written}
use Rattle.row.proofs.SureLaws.{Sure, sure_and, sure_more, sure_maybe}
use Rattle.row.proofs.DidLaws.{did_none, did_more, maybe_sure, was_read, and_read, and_stop}
use Rattle.row.proofs.TokenLaws.{token_read, token_end, token_end_miss, token_miss as token-off, account_read, account_stop}
use Rattle.posting.specs.Postings.{is_flag, flag, posting_flag, units, posting_line}
use Rattle.posting.specs.steps.Lots.{optional_price, optional_cost}
use Rattle.posting.specs.steps.Parts.{flag_gap, costs_of, units_of, units_end, holder_of, flagged_of}
use Rattle.amount.proofs.OneRows.{one_read, one_miss, one_hard, token_to, token_miss}
use Rattle.posting.proofs.LotLaws.{amount_row}
use Rattle.posting.proofs.FewRows.{few_at, optional_cost_few}

-- ---- after the amount: x is the cost's answer

price_sure : (s : List ℕ) (at : ℕ) → Sure (optional_price s at)
unfolding optional_price
price_sure s at = sure_maybe at _

costs_sure : (s : List ℕ) (at : ℕ) → Sure (costs_of s at)
unfolding costs_of optional_cost
costs_sure s at = sure_and (optional_price s) (sure_maybe at _) (λ e. price_sure s e)

module _ (base : ℕ) (s : List ℕ) (at : ℕ) (o : Out) (t v : List ℕ) (x : Reading Out) (d : Did base (optional_cost s at) o t v x) where
  pub costs_room : (e : ℕ) (m : Out) → x ≡ Ok (e, m) → base ≤ size_limit → Room 4 o → Writable 1 base m
  costs_room e m q h l =
      let z = was_read base o t v x (optional_cost s at) e m d q in
      (h, omega (arith, ap (λ (y : Out). y.rows) z.2.0, rows_outs z.0 o, few_at 2 e z.0 (optional_cost s at) (optional_cost_few s at) z.1))

  pub costs_read : (e : ℕ) (m : Out) (u : List ℕ) (r : Reading Out) → x ≡ Ok (e, m) → Did base (optional_price s e) m v u r → Did base (costs_of s at) o t u r
  unfolding costs_of
  costs_read e m u r q h = and_read base o t v x (optional_cost s at) (optional_price s) d e m u r q h

  pub costs_stop : (stop : Stop) → x ≡ Err stop → Did base (costs_of s at) o t v (Err stop)
  unfolding costs_of
  costs_stop stop q = and_stop base o t v x (optional_cost s at) (optional_price s) d stop q

pub ruleset costs_laws = (costs_room, costs_read, costs_stop)

-- ---- optional units: g is the gap's answer, x the amount's

module _ (s : List ℕ) where
  -- after the gap
  abbrev amounted : ℕ → details.Rows
  amounted g = amount 26 s g and costs_of s

  units_is : (at : ℕ) → units_of s at ≡ maybe at (token (gap_at s at) and amounted)
  unfolding units_of units gap costs_of optional_cost optional_price
  units_is at = refl

module _ (base : ℕ) (s : List ℕ) (at : ℕ) (o : Out) (t : List ℕ) (g : Option ℕ) (p : g ≡ gap_at s at) where
  pub units_bare : g ≡ None → Did base (units_of s at) o t t (Ok (at, o))
  unfolding maybe
  units_bare q = rw (units_is s at, token_miss g (gap_at s at) p (amounted s) q) (did_none base o t at)

  module _ (j : ℕ) (q : g ≡ Some j) (x : Reading Detail) (v : x ≡ one_of (amount 26 s j)) where
    units_on : units_of s at ≡ maybe at (amount 26 s j and costs_of s)
    units_on = units_is s at ∙ ap (maybe at) (token_to g (gap_at s at) p (amounted s) j q)

    pub units_none : x ≡ (Err Stop.Miss) → Did base (units_of s at) o t t (Ok (at, o))
    unfolding maybe ◌and◌
    units_none k = rw (units_on, one_miss x (amount_row 26 s j (omega arith)) v k) (did_none base o t at)

    pub units_hard : (n : Cause) (i : ℕ) (u : List ℕ) → x ≡ Err (Stop.Hard n i) → Did base (units_of s at) o t u (Err (Stop.Hard n i))
    unfolding maybe ◌and◌
    units_hard n i u k = rw (units_on, one_hard (amount 26 s j) x n i v k) refl

    pub units_read : (e : ℕ) (d : Detail) (m : Out) (w u : List ℕ) (r : Reading Out) → x ≡ Ok (e, d) → m ≡ noted o d → w ≡ pour_at o.rows (laid base d ∷ []) t
        → Did base (costs_of s e) m w u r → Did base (units_of s at) o t u r
    unfolding ◌and◌
    units_read e d m w u r k f h z =
        rw (units_on, one_read x e d (amount_row 26 s j (omega arith)) v k)
        (maybe_sure base o t u r at (sure_more (d ∷ []) (costs_sure s e))
        (did_more base o t (d ∷ []) (costs_of s e) m w u r (written base o t (d ∷ []) m w (wrote_one base o t d m w f h)) z))

-- a row more leaves room
module _ (o : Out) (d : Detail) (m : Out) (p : m ≡ noted o d) (base : ℕ) (h : base ≤ size_limit) where
  pub units_room : Room 5 o → Writable 4 base m
  units_room l = (h, omega (arith, ap (λ (y : Out). y.rows) p, rows_noted o d))

  pub holder_room : Room 6 o → Writable 5 base m
  holder_room l = (h, omega (arith, ap (λ (y : Out). y.rows) p, rows_noted o d))

pub ruleset units_laws = (units_bare, units_none, units_hard, units_read, units_room)

-- ---- units, line end: x is the answer of the units, l that of the line end

module _ (base : ℕ) (s : List ℕ) (at : ℕ) (o : Out) (t : List ℕ) (l : Option ℕ) (p : l ≡ line_end_at s at) where
  line_to : (f : ℕ) → l ≡ Some f → Did base (line_end s at) o t t (Ok (f, o))
  unfolding line_end
  line_to f q = token_end base o t l (line_end_at s at) p f q

  line_no : l ≡ None → Did base (line_end s at) o t t (Err Stop.Miss)
  unfolding line_end
  line_no q = token_end_miss base o t l (line_end_at s at) p q

module _ (base : ℕ) (s : List ℕ) (at : ℕ) (o : Out) (t v : List ℕ) (x : Reading Out) (d : Did base (units_of s at) o t v x) where
  module _ (e : ℕ) (m : Out) (q : x ≡ Ok (e, m)) (l : Option ℕ) (w : l ≡ line_end_at s e) where
    pub ended_read : (f : ℕ) → l ≡ Some f → Did base (units_end s at) o t v (Ok (f, m))
    unfolding units_end
    ended_read f k = and_read base o t v x (units_of s at) (line_end s) d e m v (Ok (f, m)) q (line_to base s e m v l w f k)

    pub ended_open : l ≡ None → Did base (units_end s at) o t v (Err Stop.Miss)
    unfolding units_end
    ended_open k = and_read base o t v x (units_of s at) (line_end s) d e m v (Err Stop.Miss) q (line_no base s e m v l w k)

  pub ended_stop : (stop : Stop) → x ≡ Err stop → Did base (units_end s at) o t v (Err stop)
  unfolding units_end
  ended_stop stop q = and_stop base o t v x (units_of s at) (line_end s) d stop q

pub ruleset ended_laws = (tried, ended_read, ended_open, ended_stop)

-- ---- account, units, line end: x is the account's answer

module _ (base flag : ℕ) (s : List ℕ) (at : ℕ) (o : Out) (t : List ℕ) where
  -- after the account
  abbrev held : ℕ → details.Rows
  held e = To e (details.named 33 at e flag 0 ∷ []) and units_end s

  module _ (x : Result ℕ Stop) (p : x ≡ account_at s at) where
    pub holder_read : (e : ℕ) (z : Detail) (m : Out) (w u : List ℕ) (r : Reading Out) → x ≡ Ok e → z ≡ details.named 33 at e flag 0 → m ≡ noted o z
        → w ≡ pour_at o.rows (laid base z ∷ []) t → Did base (units_end s e) m w u r → Did base (holder_of flag s at) o t u r
    unfolding holder_of ◌and◌
    holder_read e z m w u r q k f g h =
        account_read base o t s at x p held e u r q
        (rw (← k) (did_more base o t (z ∷ []) (units_end s e) m w u r (written base o t (z ∷ []) m w (wrote_one base o t z m w f g)) h))

    pub holder_stop : (stop : Stop) → x ≡ Err stop → Did base (holder_of flag s at) o t t (Err stop)
    unfolding holder_of
    holder_stop stop q = account_stop base o t s at x p held stop q

pub ruleset holder_laws = (holder_room, holder_read, holder_stop)

-- ---- optionally flag and gap: x is their answer

module _ (s : List ℕ) (at : ℕ) where
  -- what the code's answer says of the rule's
  abbrev flagged : Option ℕ → Ans ℕ
  flagged (Some j) = To j (get_or s at 0)
  flagged None = To at 0

  flag_is : posting_flag s at ≡ flagged (flag_gap s at)
  unfolding posting_flag flag gap flag_gap token ◌then◌ ◌else◌
  flag_is = go (is_flag (get_or s at 0))
    where
      on : (r : Option ℕ) → ((token {A = ℕ} r then λ g _. To g (get_or s at 0)) else To at 0) ≡ flagged r
      on (Some j) = refl
      on None = refl

      go : (b : Bool) → (((cond b (To (at + 1) []) Miss) then λ f (_ : List Detail). token {A = ℕ} (gap_at s f) then λ g _. To g (get_or s at 0)) else To at 0) ≡ flagged (cond b (gap_at s (at + 1)) None)
      go true = on (gap_at s (at + 1))
      go false = refl

  module _ (base : ℕ) (o : Out) (t : List ℕ) (x : Option ℕ) (p : x ≡ flag_gap s at) (u : List ℕ) (r : Reading Out) where
    pub flagged_read : (j c b : ℕ) → x ≡ Some j → c ≡ get_or s at 0 → b ≡ c → Did base (holder_of b s j) o t u r → Did base (flagged_of s at) o t u r
    unfolding flagged_of ◌then◌
    flagged_read j c b q k l h = rw (flag_is, ← p, q, ← k, ← l) h

    pub flagged_plain : x ≡ None → Did base (holder_of 0 s at) o t u r → Did base (flagged_of s at) o t u r
    unfolding flagged_of ◌then◌
    flagged_plain q h = rw (flag_is, ← p, q) h

pub ruleset flagged_laws = (flagged_read, flagged_plain)

-- ---- gap, and what follows it: g is the gap's answer

module _ (base : ℕ) (s : List ℕ) (at : ℕ) (o : Out) (t : List ℕ) (g : Option ℕ) (p : g ≡ gap_at s at) where
  line_is : posting_line s at ≡ (token (gap_at s at) and flagged_of s)
  unfolding posting_line gap flagged_of holder_of units_end units_of
  line_is = refl

  pub line_on : (u : List ℕ) (j : ℕ) (r : Reading Out) → g ≡ Some j → Did base (flagged_of s j) o t u r → Did base (posting_line s at) o t u r
  line_on u j r q h = rw line_is (token_read base o t g (gap_at s at) p (flagged_of s) j u r q h)

  pub line_miss : g ≡ None → Did base (posting_line s at) o t t (Err Stop.Miss)
  line_miss q = rw line_is (token-off base o t g (gap_at s at) p (flagged_of s) q)

pub ruleset line_laws = (tried, line_on, line_miss)
