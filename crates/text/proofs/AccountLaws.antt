-- The answers at accounts, each from what the code knows where it gives it.
use Rattle.text.specs.declared.stop.Stop.{Stop}
use Rattle.std.specs.Prelude.{Err, Ok}
use Prim.Native.Nat.{ℕ, zero, suc, ◌+◌, ◌-◌, ◌≤◌, ◌<◌}
use native.Mathlib.Decide.{dec_lt}
use native.Mathlib.Omega.{arith}
use mathlib.Core.Path.{◌≡◌, refl, sym, ◌∙◌}
use mathlib.Core.Bool.{Bool, true, false, cond, not, ◌&&◌, ◌||◌, and-true}
use mathlib.Core.List.{List, [], ◌∷◌}
use borrow.Author.Tests.{ne_eqb, eqb-true, eqb-false, le-leb, lt-leb}
use lib.Dec.{eqb, leb}
use lib.ListN.{length, drop, get_or, drop_of_length-le}
use Rattle.text.specs.Bytes.{is_capital, is_small, is_digit, in_account, starts_part}
use Rattle.text.specs.Run.{run_to}
use Rattle.text.specs.Refusals.{missing_part}
use Rattle.text.specs.Answer as answer
use Rattle.text.specs.Answer.{Ans, must, ◌and◌, more, maybe, many}
use Rattle.text.specs.Leaves.{byte}
use Rattle.text.specs.Accounts.{account_part, next_part, account}
use Rattle.text.specs.steps.Accounts.{part_follows, parts_from, account_at, account_answer}
use Rattle.text.specs.steps.Windows.{goes_on, first_stop}
use Rattle.text.proofs.TestLaws.{absurd_bool, or_left, and_right}
use Rattle.text.proofs.Steps.{drop_step, head_drop, get_d_past, run_on, run_stops, run_ends, run_from_lem, run_out, run_same, such_within}
use Rattle.text.proofs.WindowLaws.{first_says}

-- ---- whether an account goes on

-- the colon among the code's tests
colon_on : (next : ℕ) → starts_part next ≡ goes_on 58 next
unfolding goes_on in_account is_capital is_small is_digit
colon_on next = refl

-- any other byte: up to the colon means up to the digits' end
other_on : (b next : ℕ) → (b ≡ 58 → ⊥) → (is_small b || is_capital b || (leb 48 b && leb b 58) || eqb b 45) ≡ goes_on b next
unfolding goes_on in_account is_digit
other_on b next n = rw (up_to, ne_eqb b 58 n) (turned (is_small b) (is_capital b) (leb 48 b && leb b 57) (eqb b 45))
  where
    up_to : leb b 58 ≡ leb b 57
    up_to = elim (dec_lt b 58) [ yes h ↦ rw (le-leb b 58 (omega arith), le-leb b 57 (omega arith)) | no h ↦ rw (lt-leb b 58 (omega arith), lt-leb b 57 (omega arith)) ]

    turned : (m c d h : Bool) → (m || c || d || h) ≡ ((c || m || d || h) || false)
    turned true true d h = refl
    turned true false d h = refl
    turned false true d h = refl
    turned false false true h = refl
    turned false false false true = refl
    turned false false false false = refl

-- m, c and p are what the code's tests gave of the byte and the next
pub goes_on_lem : (b next : ℕ) (m c p : Bool) → m ≡ is_small b → c ≡ is_capital b → p ≡ starts_part next
    → ((m || c || (leb 48 b && leb b 58) || eqb b 45) && (not (eqb b 58) || p)) ≡ goes_on b next
unfolding is_small is_capital
goes_on_lem b next m c p u v w = rw (u, v, w) (go (eqb b 58) refl)
  where
    go : (t : Bool) → eqb b 58 ≡ t → ((is_small b || is_capital b || (leb 48 b && leb b 58) || eqb b 45) && (not t || starts_part next)) ≡ goes_on b next
    go true e = rw (eqb-true b 58 e) (colon_on next)
    go false e = and-true (is_small b || is_capital b || (leb 48 b && leb b 58) || eqb b 45) ∙ other_on b next (eqb-false b 58 e)

-- ---- where an account ends: at the first place where it does not go on

module _ (s : List ℕ) where
  parts_step : (i : ℕ) → i < length s → parts_from (drop i s) i ≡ cond (goes_on (get_or s i 0) (get_or s (i + 1) 0)) (parts_from (drop (i + 1) s) (i + 1)) i
  unfolding parts_from goes_on
  parts_step i h = rw (drop_step s i h, head_drop s (i + 1))

  parts_on : (i : ℕ) → i < length s → goes_on (get_or s i 0) (get_or s (i + 1) 0) ≡ true → parts_from (drop i s) i ≡ parts_from (drop (i + 1) s) (i + 1)
  parts_on i h e = parts_step i h ∙ rw e refl

  parts_off : (i : ℕ) → i < length s → goes_on (get_or s i 0) (get_or s (i + 1) 0) ≡ false → parts_from (drop i s) i ≡ i
  parts_off i h e = parts_step i h ∙ rw e refl

  parts_past : (i : ℕ) → length s ≤ i → parts_from (drop i s) i ≡ i
  unfolding parts_from
  parts_past i h = rw (drop_of_length-le s h)

-- The invariant is that the answer a is the end of what is left at i.
module _ (a : ℕ) (s : List ℕ) (i : ℕ) (v : a ≡ parts_from (drop i s) i) where
  -- byte by byte: n is the next byte, and r what the code's test gave
  module _ (n : ℕ) (r : Bool) (h : i < length s) (w : n ≡ get_or s (i + 1) 0) (u : r ≡ goes_on (get_or s i 0) n) where
    pub account_on : r ≡ true → a ≡ parts_from (drop (i + 1) s) (i + 1)
    account_on t = v ∙ parts_on s i h (rw (← w, ← u) t)

    pub account_stops : r ≡ false → i ≡ a
    account_stops t = sym (v ∙ parts_off s i h (rw (← w, ← u) t))

  pub account_ends : length s ≤ i → i ≡ a
  account_ends h = sym (v ∙ parts_past s i h)

  -- in windows: f is the first stop in one
  module _ (f : ℕ) (k : 16 < length s) (h : i < length s - 16) (u : f ≡ first_stop (λ (j : ℕ). goes_on (get_or s (i + j) 0) (get_or s (i + j + 1) 0)) 16 16) where
    says : (f < 16 → i + f ≡ a) × (16 ≤ f → a ≡ parts_from (drop (i + 16) s) (i + 16))
    says =
        first_says
        (λ (j : ℕ). parts_from (drop j s) j)
        (λ (j : ℕ). goes_on (get_or s j 0) (get_or s (j + 1) 0))
        (length s)
        (parts_on s)
        (parts_off s)
        a
        i
        16
        f
        v
        (omega arith)
        u

    pub parts_stop : (w : ℕ) → w ≡ f → f < 16 → i + w ≡ a
    parts_stop w e = rw e says.0

    pub parts_passed : 16 ≤ f → a ≡ parts_from (drop (i + 16) s) (i + 16)
    parts_passed = says.1

pub ruleset short_laws = (account_on, account_stops, account_ends)

pub ruleset parts_laws = (parts_stop, parts_passed)

-- ---- the first part of an account that ends at j: its end is the first colon, or j

-- a colon is no byte of a part
pub colon_out : in_account 58 ≡ false
unfolding in_account is_capital is_small is_digit
colon_out = refl

pub none_past : in_account 0 ≡ false
unfolding in_account is_capital is_small is_digit
none_past = refl

-- where the account goes on with a byte that is no colon, that is one of a part, and where it does not, none
part_on : (b n : ℕ) → goes_on b n ≡ true → (b ≡ 58 → ⊥) → in_account b ≡ true
unfolding goes_on
part_on b n e c = go (in_account b) (rw (ne_eqb b 58 c) at e)
  where
    go : (t : Bool) → (t || false) ≡ true → t ≡ true
    go true e = refl
    go false e = e

part_off : (b n : ℕ) → goes_on b n ≡ false → in_account b ≡ false
unfolding goes_on
part_off b n e = or_left (in_account b) (eqb b 58 && starts_part n) e

on_part : (b n : ℕ) → in_account b ≡ true → goes_on b n ≡ true
unfolding goes_on
on_part b n e = rw e

pub part_account : (b : ℕ) → starts_part b ≡ true → in_account b ≡ true
unfolding starts_part in_account
part_account b e = go (is_capital b) (is_small b) (is_digit b) (eqb b 45) e
  where
    go : (c l d m : Bool) → (c || d) ≡ true → (c || l || d || m) ≡ true
    go true l d m e = refl
    go false true true m e = refl
    go false false true m e = refl
    go false l false m e = absurd_bool e

-- the parts end where they are read from or behind it, and within the text
pub parts_from_lem : (s : List ℕ) (i : ℕ) → (i ≤ parts_from s i) × (parts_from s i ≤ i + length s)
unfolding parts_from
parts_from_lem [] i = omega arith
parts_from_lem (b ∷ s) i = go (in_account b || (eqb b 58 && starts_part (get_or s 0 0))) (parts_from s (i + 1)) (parts_from_lem s (i + 1))
  where
    go : (c : Bool) (j : ℕ) → (i + 1 ≤ j) × (j ≤ i + 1 + length s) → (i ≤ cond c j i) × (cond c j i ≤ i + suc (length s))
    go true j h = omega arith
    go false j h = omega arith

-- an account that is read from i on and ends at j goes on at i, or ends there
module _ (s : List ℕ) (i j : ℕ) (v : j ≡ parts_from (drop i s) i) where
  pub part_within : i < j → i < length s
  part_within l = elim (dec_lt i (length s)) [ yes h ↦ h | no h ↦ absurd (omega (arith, v ∙ parts_past s i (omega arith))) ]

  goes : i < j → goes_on (get_or s i 0) (get_or s (i + 1) 0) ≡ true
  goes l = go (goes_on (get_or s i 0) (get_or s (i + 1) 0)) refl
    where
      go : (t : Bool) → goes_on (get_or s i 0) (get_or s (i + 1) 0) ≡ t → t ≡ true
      go true e = refl
      go false e = absurd (omega (arith, v ∙ parts_off s i (part_within l) e))

  ends : j ≤ i → goes_on (get_or s i 0) (get_or s (i + 1) 0) ≡ false
  unfolding goes_on
  ends l = elim (dec_lt i (length s)) [ yes h ↦ go h (goes_on (get_or s i 0) (get_or s (i + 1) 0)) refl | no h ↦ rw (get_d_past s i (omega arith), none_past) ]
    where
      go : i < length s → (t : Bool) → goes_on (get_or s i 0) (get_or s (i + 1) 0) ≡ t → t ≡ false
      go h true e = absurd (omega (arith, v ∙ parts_on s i h e, (parts_from_lem (drop (i + 1) s) (i + 1)).0))
      go h false e = refl

  -- The invariant is this, and that its first part ends at a.
  module _ (a : ℕ) (w : a ≡ run_to in_account s i) where
    module _ (l : i < j) where
      pub part_colon : get_or s i 0 ≡ 58 → i ≡ a
      part_colon c = sym (w ∙ run_stops in_account s i (part_within l) (rw c colon_out))

      pub part_next : (get_or s i 0 ≡ 58 → ⊥) → a ≡ run_to in_account s (i + 1)
      part_next c = w ∙ run_on in_account s i (part_within l) (part_on (get_or s i 0) (get_or s (i + 1) 0) (goes l) c)

    pub part_last : j ≤ i → j ≡ a
    part_last l =
        let e : j ≡ i = omega (arith, v, (parts_from_lem (drop i s) i).0) in
        rw e
        (elim (dec_lt i (length s)) [
          | yes h ↦ sym (w ∙ run_stops in_account s i h (part_off (get_or s i 0) (get_or s (i + 1) 0) (ends l)))
          | no h ↦ sym (w ∙ run_ends in_account s i (omega arith))
        ])

  pub account_next : i < j → j ≡ parts_from (drop (i + 1) s) (i + 1)
  account_next l = v ∙ parts_on s i (part_within l) (goes l)

pub ruleset first_laws = (part_within, part_colon, account_next, part_next, part_last)

-- ---- an account

-- the byte behind a part is none of one, and what is left there is what was left in the part
past_part : (s : List ℕ) (i e : ℕ) → e ≡ run_to in_account s i → in_account (get_or s e 0) ≡ false
past_part s i e f = elim (dec_lt e (length s)) [ yes h ↦ run_out in_account s i e f h | no h ↦ rw (get_d_past s e (omega arith)) none_past ]

part_left : (s : List ℕ) (i e : ℕ) → e ≡ run_to in_account s i → parts_from (drop i s) i ≡ parts_from (drop e s) e
part_left s = run_same in_account s (λ (i : ℕ). parts_from (drop i s) i) (λ i h o. parts_on s i h (on_part (get_or s i 0) (get_or s (i + 1) 0) o))

-- so a part follows where the account goes on
follow_on : (s : List ℕ) (e : ℕ) → in_account (get_or s e 0) ≡ false → goes_on (get_or s e 0) (get_or s (e + 1) 0) ≡ part_follows s e
unfolding goes_on part_follows
follow_on s e o = rw o

pub account_past : (s : List ℕ) (at : ℕ) → length s ≤ at → (Err Stop.Miss) ≡ account_at s at
unfolding account_at starts_part is_capital is_digit
account_past s at h = rw (get_d_past s at h)

module _ (s : List ℕ) (at : ℕ) (r : Bool) (p : r ≡ starts_part (get_or s at 0)) where
  pub account_no : r ≡ false → (Err Stop.Miss) ≡ account_at s at
  unfolding account_at
  account_no q = cc

  -- whose first part ends at e, and its parts at j: they end there too if no second one follows
  module _ (q : r ≡ true) (e j : ℕ) (f : e ≡ run_to in_account s (at + 1)) (w : j ≡ parts_from (drop (at + 1) s) (at + 1)) where
    -- what is left at the first part's end
    rest : j ≡ parts_from (drop e s) e
    rest = w ∙ part_left s (at + 1) e f

    follows : (t : Bool) → part_follows s e ≡ t → account_at s at ≡ cond t (Ok j) (Err (Stop.Hard missing_part at))
    unfolding account_at
    follows t u = let k = rest in cc

    goes_follows : goes_on (get_or s e 0) (get_or s (e + 1) 0) ≡ part_follows s e
    goes_follows = follow_on s e (past_part s (at + 1) e f)

    pub account_read : e < j → Ok j ≡ account_at s at
    account_read l = sym (follows true (sym goes_follows ∙ goes s e j rest l))

    pub account_hard : j ≤ e → (Err (Stop.Hard missing_part at)) ≡ account_at s at
    account_hard l = sym (follows false (sym goes_follows ∙ ends s e j rest l))

pub ruleset account_laws = (account_read, account_hard, account_no, account_past)

-- ---- rule 6's parts end where the bytes do

-- the end of a part behind a place and a `:` there
abbrev next_end : List ℕ → ℕ → ℕ
next_end s i = run_to in_account s (i + 1 + 1)

-- from behind one part on: behind the next is left what was left before it
module _ (s : List ℕ) (i : ℕ) (o : in_account (get_or s i 0) ≡ false) where
  next_left : part_follows s i ≡ true → parts_from (drop i s) i ≡ parts_from (drop (next_end s i) s) (next_end s i)
  unfolding part_follows
  next_left e =
      let n = part_account (get_or s (i + 1) 0) (and_right (eqb (get_or s i 0) 58) (starts_part (get_or s (i + 1) 0)) e) in
      let l = such_within in_account s (i + 1) (get_or s (i + 1) 0) none_past refl n in
      parts_on s i (omega arith) (follow_on s i o ∙ e) ∙ parts_on s (i + 1) l (on_part (get_or s (i + 1) 0) (get_or s (i + 1 + 1) 0) n) ∙ part_left s (i + 1 + 1) _ refl

  none_left : part_follows s i ≡ false → parts_from (drop i s) i ≡ i
  none_left e = elim (dec_lt i (length s)) [ yes h ↦ parts_off s i h (follow_on s i o ∙ e) | no h ↦ parts_past s i (omega arith) ]

module _ {A : Type 0} (s : List ℕ) where
  abbrev next_of : Bool → ℕ → Ans (List A)
  next_of t i = cond t (answer.To (next_end s i) []) answer.Miss

  next_is : (i : ℕ) → next_part s i ≡ next_of (part_follows s i) i
  unfolding next_part account_part part_follows byte ◌and◌ more
  next_is i = go (eqb (get_or s i 0) 58) (starts_part (get_or s (i + 1) 0)) refl
    where
      go : (a b : Bool) → starts_part (get_or s (i + 1) 0) ≡ b → (cond a (answer.To (i + 1) []) answer.Miss and λ j. account_part {A = A} s j) ≡ next_of (a && b) i
      go true true e = rw e
      go true false e = rw e
      go false b e = refl

  parts_many : (d i : ℕ) → length s ≤ i + d → in_account (get_or s i 0) ≡ false → many (next_part {A = A} s) d i ≡ answer.To (parts_from (drop i s) i) []
  unfolding many maybe ◌and◌ more
  parts_many zero i h o = rw (parts_past s i (omega arith))
  parts_many (suc d) i h o =
      rw (next_is i) (go (part_follows s i) refl (parts_many d (next_end s i) (omega (arith, run_from_lem in_account s (i + 1 + 1) _ refl)) (past_part s (i + 1 + 1) _ refl)))
    where
      go : (t : Bool) → part_follows s i ≡ t → many (next_part {A = A} s) d (next_end s i) ≡ answer.To (parts_from (drop (next_end s i) s) (next_end s i)) []
          → maybe i (next_of t i and many (next_part s) d) ≡ answer.To (parts_from (drop i s) i) []
      go true e u = rw (u, next_left s i o e)
      go false e u = rw (none_left s i o e)

  pub account_answers : (at : ℕ) → account s at ≡ account_answer {A = A} (account_at s at)
  unfolding account account_part account_at account_answer must ◌and◌ more
  account_answers at = go (starts_part (get_or s at 0)) (run_to in_account s (at + 1)) refl
    where
      -- after a first part that ends at e
      second : (e : ℕ) → in_account (get_or s e 0) ≡ false → (t : Bool) → part_follows s e ≡ t
          → more [] (must missing_part at (next_of t e) and λ f. many (next_part s) (suc (length s)) f) ≡ account_answer (cond t (Ok (parts_from (drop e s) e)) (Err (Stop.Hard missing_part at)))
      second e o true u = rw (parts_many (suc (length s)) (next_end s e) (omega arith) (past_part s (e + 1 + 1) _ refl), next_left s e o u)
      second e o false u = refl

      go : (t : Bool) (e : ℕ) → e ≡ run_to in_account s (at + 1)
          → (cond t (answer.To e []) answer.Miss and λ e. must missing_part at (next_part s e) and λ f. many (next_part s) (suc (length s)) f)
          ≡ account_answer {A = A} (cond t (cond (part_follows s e) (Ok (parts_from (drop e s) e)) (Err (Stop.Hard missing_part at))) (Err Stop.Miss))
      go true e f = rw (next_is e) (second e (past_part s (at + 1) e f) (part_follows s e) refl)
      go false e f = refl
