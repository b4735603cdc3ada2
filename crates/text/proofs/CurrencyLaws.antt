-- The answers at currencies, each from what the code knows where it gives it.
use Rattle.std.specs.Prelude.{None, Some}
use Prim.Native.Nat.{ℕ, ◌+◌, ◌-◌, ◌^◌, ◌≤◌, ◌<◌}
use native.Mathlib.Decide.{dec_lt}
use native.Mathlib.Omega.{arith}
use mathlib.Core.Path.{◌≡◌, refl, sym, ◌∙◌}
use mathlib.Core.Bool.{Bool, true, false}
use mathlib.Core.List.{List}
use mir.Syntax.{w64}
use mir.Val.{Fits}
use lib.ListN.{length, get_or}
use Rattle.text.specs.Bytes.{is_capital, is_digit, in_currency, starts_part}
use Rattle.text.specs.Run.{run_to}
use Rattle.text.specs.Currencies.{currency_at}
use Rattle.text.proofs.Steps.{get_d_past, such_within, run_on, run_stops, run_ends, run_ind, run_behind}

-- a capital is a currency's byte, and may end one
capital_in : (b : ℕ) → is_capital b ≡ true → in_currency b ≡ true
unfolding in_currency
capital_in b e = rw e

capital_ends : (b : ℕ) → is_capital b ≡ true → starts_part b ≡ true
unfolding starts_part
capital_ends b e = rw e

none_past : in_currency 0 ≡ false
unfolding in_currency is_capital is_digit
none_past = refl

-- a run that starts with no byte of it is empty, and behind a byte of it a run ends with one
run_none : (p : ℕ → Bool) (s : List ℕ) (i : ℕ) → p (get_or s i 0) ≡ false → run_to p s i ≡ i
run_none p s i e = elim (dec_lt i (length s)) [ yes h ↦ run_stops p s i h e | no h ↦ run_ends p s i (omega arith) ]

run_last : (p : ℕ → Bool) (s : List ℕ) (i e : ℕ) → p (get_or s (i - 1) 0) ≡ true → e ≡ run_to p s i → p (get_or s (e - 1) 0) ≡ true
run_last p s i e b f =
    run_ind
    p
    s
    (λ (i e : ℕ). p (get_or s (i - 1) 0) ≡ true → p (get_or s (e - 1) 0) ≡ true)
    (λ i h b. b)
    (λ i h o b. b)
    (λ i e h o u b. u (let k : i + 1 - 1 ≡ i = omega arith in rw k o))
    i
    e
    f
    b

module _ (s : List ℕ) (at : ℕ) where
  pub currency_past : length s ≤ at → None ≡ currency_at s at
  unfolding currency_at is_capital
  currency_past h = rw (get_d_past s at h)

  module _ (r : Bool) (p : r ≡ is_capital (get_or s at 0)) where
    pub currency_no : r ≡ false → None ≡ currency_at s at
    unfolding currency_at
    currency_no q = cc

    -- after a capital: the end c of the capitals, and whether the byte d there is one of a currency
    module _ (q : r ≡ true) (c d : ℕ) (x : Bool) (k : c ≡ run_to is_capital s (at + 1)) (g : d ≡ get_or s c 0) (v : x ≡ in_currency d) where
      behind : run_to in_currency s (at + 1) ≡ run_to in_currency s c
      behind = run_behind is_capital s in_currency capital_in (at + 1) c k

      last_ends : starts_part (get_or s (c - 1) 0) ≡ true
      last_ends =
          let n : at + 1 - 1 ≡ at = omega arith in
          capital_ends (get_or s (c - 1) 0) (run_last is_capital s (at + 1) c (rw n (sym p ∙ q)) k)

      -- if it is none, the run ends with a capital
      pub currency_short : x ≡ false → Some c ≡ currency_at s at
      unfolding currency_at
      currency_short n =
          let f : run_to in_currency s (at + 1) ≡ c = behind ∙ run_none in_currency s c (rw (← g, ← v) n) in
          let l = last_ends in
          cc

      -- else the run goes on behind it
      module _ (o : x ≡ true) where
        other_within : c < length s
        other_within = such_within in_currency s c d none_past g (sym v ∙ o)

        pub currency_fits : length s < 2 ^ 64 → Fits w64 (c + 1)
        currency_fits h = record { fits = omega (arith, other_within) }

        -- up to e; b is its last byte, and t says whether that may end a currency
        module _ (t : Bool) (e b : ℕ) (w : e ≡ run_to in_currency s (c + 1)) (h : b ≡ get_or s (e - 1) 0) (u : t ≡ starts_part b) where
          ends : e ≡ run_to in_currency s (at + 1)
          ends = w ∙ sym (behind ∙ run_on in_currency s c other_within (rw (← g, ← v) o))

          pub currency_read : t ≡ true → Some e ≡ currency_at s at
          unfolding currency_at
          currency_read i = let f = ends in cc

          pub currency_ends : t ≡ false → None ≡ currency_at s at
          unfolding currency_at
          currency_ends i = let f = ends in cc

pub ruleset currency_laws = (currency_short, currency_fits, currency_read, currency_ends, currency_no, currency_past)
