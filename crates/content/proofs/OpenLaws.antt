-- The open directive as it is read and written, each answer from what the code knows where it gives it.
use Rattle.text.proofs.TestLaws.{tried}
use Rattle.text.specs.steps.Told.{Reading}
use Rattle.text.specs.declared.stop.Stop.{Stop}
use Rattle.text.specs.declared.stop.Cause.{Cause}
use Rattle.std.specs.Prelude.{None, Option, Some, Err, Ok}
use Prim.Native.Nat.{ℕ, suc, ◌+◌, ◌-◌, ◌≤◌}
use native.Mathlib.Omega.{arith}
use mathlib.Core.Path.{◌≡◌, refl, sym, ap, subst}
use mathlib.Core.List.{List, [], ◌∷◌}
use lib.ListN.{length}
use Rattle.text.specs.Bytes.{is_blank}
use Rattle.text.specs.Run.{blanks}
use Rattle.text.specs.Answer.{To, Miss, ◌and◌, maybe}
use Rattle.text.specs.Leaves.{gap, comma, string, currency}
use Rattle.text.specs.Lines.{gap_at, comma_at}
use Rattle.text.specs.Strings.{string_at}
use Rattle.text.specs.Currencies.{currency_at}
use Rattle.text.proofs.Steps.{run_ends}
use Rattle.text.proofs.Joins.{Reach, and_assoc}
use Rattle.text.specs.Permitted.{size_limit}
use Rattle.amount.specs.Details.{span, quoted}
use Rattle.amount.specs.steps.Answers.{one_of}
use Rattle.amount.specs.declared.detail.Detail.{Detail}
use Rattle.amount.proofs.RowCounts.{maybe_fits}
use Rattle.row.specs.steps.Pouring.{pour_at}
use Rattle.row.specs.steps.Writing.{laid, noted, Did, Room}
use Rattle.row.specs.declared.writer.Out.{Out}
use Rattle.row.proofs.OutLaws.{rows_noted}
use Rattle.row.proofs.SureLaws.{Sure, sure_to, sure_maybe, sure_many, sure_and}
use Rattle.row.proofs.DidLaws.{did_none, did_emit, and_read, maybe_sure}
use Rattle.posting.proofs.PostingEnds.{optional_reach, spaced_reach}
use Rattle.posting.proofs.PostingFew.{spaced_fits}
use Rattle.posting.proofs.MetaLaws.{string_fits, string_takes}
use Rattle.amount.proofs.OneRows.{OneRow, row, one_read, one_miss, one_hard, token_to, token_miss, token_row}
use Rattle.text.proofs.LineLaws.{comma_past}
use Rattle.row.proofs.ManyLaws.{Runs, runs_start}
use Rattle.row.proofs.SingleLaws.{Single, single_laws}
use Rattle.content.specs.Contents.{hard_account, one_currency, further, currencies, booking, open_of}
use Rattle.content.specs.steps.Parts.{gap_currency, furthers, currencies_of, booking_of, listed_of}
use Rattle.content.proofs.ContentEnds.{hard_account_reach, one_currency_reach, currencies_reach, further_reach}
use Rattle.content.proofs.ContentFew.{hard_account_fits, currencies_fits, further_fits}
use Rattle.content.proofs.RowLaws.{no_more, join_read, join_stop}

-- ---- readers of one row: x is what the code read first

module _ (s : List ℕ) (at : ℕ) where
  module _ (x : Option ℕ) (p : x ≡ currency_at s at) where
    pub one_to : (e : ℕ) (d : Detail) → x ≡ Some e → d ≡ span 31 at e → Ok (e, d) ≡ one_of (one_currency s at)
    unfolding one_currency currency one_of
    one_to e d q w = rw (token_to x (currency_at s at) p (λ e. To e (span 31 at e ∷ [])) e q, w)

    pub one_none : x ≡ None → (Err Stop.Miss) ≡ one_of (one_currency s at)
    unfolding one_currency currency one_of
    one_none q = rw (token_miss x (currency_at s at) p (λ e. To e (span 31 at e ∷ [])) q)

  module _ (x : Option ℕ) (p : x ≡ gap_at s at) where
    pub gap_currency_on : (j : ℕ) (r : Reading Detail) → x ≡ Some j → r ≡ one_of (one_currency s j) → r ≡ one_of (gap_currency s at)
    unfolding gap_currency gap
    gap_currency_on j r q w = rw (token_to x (gap_at s at) p (one_currency s) j q) w

    pub gap_currency_none : x ≡ None → (Err Stop.Miss) ≡ one_of (gap_currency s at)
    unfolding gap_currency gap one_of
    gap_currency_none q = rw (token_miss x (gap_at s at) p (one_currency s) q)

    pub booking_none : x ≡ None → (Err Stop.Miss) ≡ one_of (booking s at)
    unfolding booking gap one_of
    booking_none q = rw (token_miss x (gap_at s at) p (quoted (span 32) s) q)

    -- y is the string's answer
    module _ (j : ℕ) (q : x ≡ Some j) (y : Option ℕ) (w : y ≡ string_at s j) where
      pub booking_to : (e : ℕ) (d : Detail) → y ≡ Some e → d ≡ span 32 (j + 1) (e - 1) → Ok (e, d) ≡ one_of (booking s at)
      unfolding booking gap quoted string one_of
      booking_to e d k l =
          rw (token_to x (gap_at s at) p (quoted (span 32) s) j q, token_to y (string_at s j) w (λ e. To e (span 32 (j + 1) (e - 1) ∷ [])) e k, l)

      pub booking_bare : y ≡ None → (Err Stop.Miss) ≡ one_of (booking s at)
      unfolding booking gap quoted string one_of
      booking_bare k = rw (token_to x (gap_at s at) p (quoted (span 32) s) j q, token_miss y (string_at s j) w (λ e. To e (span 32 (j + 1) (e - 1) ∷ [])) k)

  module _ (x : Option ℕ) (p : x ≡ comma_at s at) where
    pub further_on : (j : ℕ) (r : Reading Detail) → x ≡ Some j → r ≡ one_of (one_currency s j) → r ≡ one_of (further s at)
    unfolding further comma
    further_on j r q w = rw (token_to x (comma_at s at) p (one_currency s) j q) w

    pub further_none : x ≡ None → (Err Stop.Miss) ≡ one_of (further s at)
    unfolding further comma one_of
    further_none q = rw (token_miss x (comma_at s at) p (one_currency s) q)

  one_row : OneRow (one_currency s at)
  unfolding one_currency currency
  one_row = token_row (currency_at s at) _ (λ e. row e (span 31 at e) (omega arith))

module _ (s : List ℕ) (at : ℕ) where
  gap_currency_row : OneRow (gap_currency s at)
  unfolding gap_currency gap
  gap_currency_row = token_row (gap_at s at) _ (λ j. one_row s j)

  further_row : OneRow (further s at)
  unfolding further comma
  further_row = token_row (comma_at s at) _ (λ j. one_row s j)

  booking_row : OneRow (booking s at)
  unfolding booking gap quoted string
  booking_row = token_row (gap_at s at) _ (λ j. token_row (string_at s j) _ (λ e. row e (span 32 (j + 1) (e - 1)) (omega arith)))

-- ---- an optional booking: x is the code's answer

module _ (base : ℕ) (s : List ℕ) (at : ℕ) (o : Out) (t : List ℕ) (x : Reading Detail) (p : x ≡ one_of (booking s at)) where
  pub booking_read : (e : ℕ) (d : Detail) (m : Out) (u : List ℕ) → x ≡ Ok (e, d) → m ≡ noted o d → u ≡ pour_at o.rows (laid base d ∷ []) t
      → Did base (booking_of s at) o t u (Ok (e, m))
  unfolding booking_of maybe
  booking_read e d m u q k l = rw (one_read x e d (booking_row s at) p q) (did_emit base o t e d d m u k l refl)

  pub booking_gone : x ≡ (Err Stop.Miss) → Did base (booking_of s at) o t t (Ok (at, o))
  unfolding booking_of maybe
  booking_gone q = rw (one_miss x (booking_row s at) p q) (did_none base o t at)

  pub booking_hard : (k : Cause) (i : ℕ) (u : List ℕ) → x ≡ Err (Stop.Hard k i) → Did base (booking_of s at) o t u (Err (Stop.Hard k i))
  unfolding booking_of maybe
  booking_hard k i u q = rw (one_hard (booking s at) x k i p q) refl

-- ---- the loop over the currencies after the first

module _ (s : List ℕ) where
  further_end : further s (length s) ≡ Miss
  unfolding further comma
  further_end =
      let n = length s in
      token_miss None (comma_at s n) (comma_past s n (blanks s n) refl (rw (run_ends is_blank s n (omega arith)) (omega arith))) (one_currency s) refl

  pub further_single : Single (length s) (further s)
  further_single = record { stepping = record { text = s; reach = further_reach s; fits = further_fits s; ends = further_end }; row = further_row s }

  pub furthers_start : (base at : ℕ) (o : Out) (t : List ℕ) → at ≤ length s → o.rows ≤ at → Runs base (length s) (further s) (furthers s at) o t at o t
  unfolding furthers
  furthers_start base at o t = runs_start base (length s) (further s) at o t

-- ---- optionally gap and currencies: x is the code's answer to the gap and the first

module _ (s : List ℕ) (at : ℕ) where
  currencies_are : currencies_of s at ≡ maybe at (gap_currency s at and furthers s)
  unfolding currencies_of currencies gap_currency furthers
  currencies_are = ap (maybe at) (sym (and_assoc (gap s at) (one_currency s) (furthers s)))

  gap_currency_reach : at ≤ length s → Reach (length s) (at + 1) (gap_currency s at)
  unfolding gap_currency
  gap_currency_reach h = spaced_reach s (one_currency s) (one_currency_reach s) at h

  module _ (base : ℕ) (o : Out) (t : List ℕ) (x : Reading Detail) (p : x ≡ one_of (gap_currency s at)) where
    module _ (e : ℕ) (d : Detail) (q : x ≡ Ok (e, d)) (m : Out) (v : List ℕ) (k : m ≡ noted o d) (l : v ≡ pour_at o.rows (laid base d ∷ []) t) where
      currencies_ends : at ≤ length s → (at + 1 ≤ e) × (e ≤ length s)
      currencies_ends i = (subst (Reach (length s) (at + 1)) (one_read x e d (gap_currency_row s at) p q) (gap_currency_reach i)).ends

      pub currencies_within : at ≤ length s → e ≤ length s
      currencies_within i = (currencies_ends i).1

      pub currencies_few : at ≤ length s → o.rows ≤ at → m.rows ≤ e
      currencies_few i f = omega (arith, (currencies_ends i).0, ap (λ (z : Out). z.rows) k, rows_noted o d)

      pub currencies_read : (u : List ℕ) (r : Reading Out) → Did base (furthers s e) m v u r → Did base (currencies_of s at) o t u r
      unfolding furthers
      currencies_read u r D =
          let c : Did base (gap_currency s at) o t v (Ok (e, m)) = rw (one_read x e d (gap_currency_row s at) p q) (did_emit base o t e d d m v k l refl) in
          let a : Did base (gap_currency s at and furthers s) o t u r = and_read base o t v (Ok (e, m)) (gap_currency s at) (furthers s) c e m u r refl D in
          let z : Sure (gap_currency s at and furthers s) = rw (one_read x e d (gap_currency_row s at) p q) (sure_and (furthers s) sure_to (λ j. sure_many (further s) (suc (length s)) j)) in
          rw currencies_are (maybe_sure base o t u r at z a)

    pub currencies_none : x ≡ (Err Stop.Miss) → Did base (currencies_of s at) o t t (Ok (at, o))
    unfolding maybe ◌and◌
    currencies_none q = rw (currencies_are, one_miss x (gap_currency_row s at) p q) (did_none base o t at)

    pub currencies_hard : (k : Cause) (i : ℕ) (u : List ℕ) → x ≡ Err (Stop.Hard k i) → Did base (currencies_of s at) o t u (Err (Stop.Hard k i))
    unfolding maybe ◌and◌
    currencies_hard k i u q = rw (currencies_are, one_hard (gap_currency s at) x k i p q) refl

-- ---- after the account, and the whole

module _ (s : List ℕ) where
  listed_is : (at : ℕ) → listed_of s at ≡ (currencies_of s at and booking_of s)
  unfolding listed_of
  listed_is at = refl

  booking_sure : (at : ℕ) → Sure (booking_of s at)
  unfolding booking_of
  booking_sure at = sure_maybe at (booking s at)

  open_is : (at : ℕ) → open_of s at ≡ (hard_account s at and listed_of s)
  unfolding open_of listed_of currencies_of booking_of
  open_is at = refl

  listed_sure : (at : ℕ) → Sure (listed_of s at)
  unfolding listed_of currencies_of
  listed_sure at = sure_and (booking_of s) (sure_maybe at (gap s at and λ g. currencies s g)) booking_sure

module _ (base : ℕ) (s : List ℕ) (at : ℕ) (o : Out) (t v : List ℕ) (r : Reading Out) where
  module _ (D : Did base (currencies_of s at) o t v r) where
    pub listed_read : (e : ℕ) (m : Out) (u : List ℕ) (q : Reading Out) → r ≡ Ok (e, m) → Did base (booking_of s e) m v u q → Did base (listed_of s at) o t u q
    listed_read = join_read base o t v r (currencies_of s at) (listed_of s at) (booking_of s) (listed_is s at) (booking_sure s) D

    pub listed_stop : (stop : Stop) → r ≡ Err stop → Did base (listed_of s at) o t v (Err stop)
    listed_stop = join_stop base o t v r (currencies_of s at) (listed_of s at) (booking_of s) (listed_is s at) (booking_sure s) D

  module _ (D : Did base (hard_account s at) o t v r) where
    pub open_read : (e : ℕ) (m : Out) (u : List ℕ) (q : Reading Out) → r ≡ Ok (e, m) → Did base (listed_of s e) m v u q → Did base (open_of s at) o t u q
    open_read = join_read base o t v r (hard_account s at) (open_of s at) (listed_of s) (open_is s at) (listed_sure s) D

    pub open_stop : (stop : Stop) → r ≡ Err stop → Did base (open_of s at) o t v (Err stop)
    open_stop = join_stop base o t v r (hard_account s at) (open_of s at) (listed_of s) (open_is s at) (listed_sure s) D

  -- there is room for what follows
  module _ (e : ℕ) (m : Out) where
    module _ (D : Did base (hard_account s at) o t v r) (q : r ≡ Ok (e, m)) (l : o.rows ≤ at) (i : at ≤ length s) where
      open_ends : (e ≤ length s) × (m.rows ≤ e)
      open_ends = no_more base o t v r (hard_account s at) D e m q (length s) (at + 1) at (hard_account_reach s at i) (hard_account_fits s at i) l

      pub open_within : e ≤ length s
      open_within = open_ends.0

      pub open_few : m.rows ≤ e
      open_few = open_ends.1

    pub listed_room : Did base (currencies_of s at) o t v r → r ≡ Ok (e, m) → o.rows ≤ at → at ≤ length s → length s ≤ size_limit → Room 1 m
    unfolding currencies_of
    listed_room D q l i n =
        omega (
          arith,
          no_more base o t v r (currencies_of s at) D e m q (length s) at at (optional_reach (length s) at _ i (spaced_reach s (currencies s) (currencies_reach s) at i))
              (maybe_fits at _ (spaced_fits s (currencies s) (currencies_fits s) at i)) l,
        )

pub ruleset one_laws = (tried, one_to, one_none)

pub ruleset gap_currency_laws = (tried, gap_currency_on, gap_currency_none)

pub ruleset gap_booking_laws = (tried, string_fits, string_takes, booking_none, booking_to, booking_bare)

pub ruleset further_laws = (tried, further_on, further_none)

pub ruleset booking_laws = (booking_read, booking_gone, booking_hard)

pub ruleset furthers_laws = (further_single, furthers_start, single_laws)

pub ruleset currencies_laws = (currencies_within, currencies_few, currencies_read, currencies_none, currencies_hard)

pub ruleset listed_laws = (listed_read, listed_stop, listed_room)

pub ruleset open_laws = (open_read, open_stop, open_within, open_few)
