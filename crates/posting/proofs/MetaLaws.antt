-- The answers at metadata, each from what the code knows where it gives it.
use Rattle.text.proofs.TestLaws.{tried}
use Rattle.text.specs.declared.stop.Stop.{Stop}
use Rattle.text.specs.steps.Told.{Reading}
use Rattle.text.specs.declared.stop.Cause.{Cause}
use Rattle.decimal.specs.Faults.{Value}
use Rattle.std.specs.Prelude.{None, Option, Some, Err, Ok}
use Prim.Native.Nat.{ℕ, ◌+◌, ◌-◌, ◌^◌, ◌≤◌, ◌<◌}
use native.Mathlib.Omega.{arith}
use mathlib.Core.Path.{◌≡◌, refl, sym, ◌∙◌}
use mathlib.Core.Bool.{Bool, true, false}
use mathlib.Core.List.{List, [], ◌∷◌}
use borrow.Author.Tests.{ne_eqb}
use mir.Syntax.{w64}
use mir.Val.{Fits}
use lib.ListN.{length, get_or}
use Rattle.text.specs.Bytes.{is_small, in_tag}
use Rattle.text.specs.Run.{run_to}
use Rattle.text.specs.Answer.{To, more, ◌then◌, ◌else◌, ◌and◌}
use Rattle.text.specs.Leaves.{token, gap, currency, string, line_end}
use Rattle.text.specs.Lines.{gap_at, line_end_at}
use Rattle.text.specs.Strings.{string_at}
use Rattle.text.specs.Currencies.{currency_at}
use Rattle.text.proofs.Steps.{get_d_past}
use Rattle.text.proofs.StringSame.{string_ahead, string_ends}
use Rattle.amount.specs.Details.{named, valued, quoted}
use Rattle.amount.specs.Expression.{expression}
use Rattle.amount.specs.steps.Answers.{answer_of, one_of}
use Rattle.amount.specs.declared.detail.Detail.{Detail}
use Rattle.amount.proofs.Forms.{was_read, was_miss, was_hard}
use Rattle.posting.specs.Metadata.{key_at, key, value, meta_line}
use Rattle.posting.specs.steps.Lines.{unit_value, number_value, value_end, gap_value, colon_value, keyed_line}
use Rattle.amount.proofs.OneRows.{OneRow, row, one_read, one_miss, one_hard, token_to, token_miss, byte_at, byte_token, token_row, byte_row, row_token, else_row, then_row}

-- ---- the key

module _ (s : List ℕ) (at : ℕ) where
  pub key_past : length s ≤ at → None ≡ key_at s at
  unfolding key_at is_small
  key_past h = rw (get_d_past s at h)

  module _ (r : Bool) (p : r ≡ is_small (get_or s at 0)) where
    pub key_no : r ≡ false → None ≡ key_at s at
    unfolding key_at
    key_no q = cc

    pub key_read : (e : ℕ) → r ≡ true → e ≡ run_to in_tag s (at + 1) → Some e ≡ key_at s at
    unfolding key_at
    key_read e q v = cc

-- ---- a value: x is the answer of the reader that is tried

module _ (a b : ℕ) (s : List ℕ) (at : ℕ) where
  module _ (x : Option ℕ) (p : x ≡ currency_at s at) where
    pub unit_read : (e : ℕ) (d : Detail) → x ≡ Some e → d ≡ named 37 a b at e → Ok (e, d) ≡ one_of (unit_value a b s at)
    unfolding unit_value currency one_of
    unit_read e d q w = rw (token_to x (currency_at s at) p (λ e. To e (named 37 a b at e ∷ [])) e q, w)

    pub unit_miss : x ≡ None → (Err Stop.Miss) ≡ one_of (unit_value a b s at)
    unfolding unit_value currency one_of
    unit_miss q = rw (token_miss x (currency_at s at) p (λ e. To e (named 37 a b at e ∷ [])) q)

  module _ (x : Reading Value) (p : x ≡ answer_of (expression s at)) where
    pub number_read : (e : ℕ) (v : Value) → x ≡ Ok (e, v) → Ok (e, (valued 36 a b at e v)) ≡ one_of (number_value a b s at)
    unfolding number_value ◌then◌ ◌else◌ one_of
    number_read e v q = rw (was_read (expression s at) x e v p q)

    pub number_next : (o : Reading Detail) → x ≡ (Err Stop.Miss) → o ≡ one_of (unit_value a b s at) → o ≡ one_of (number_value a b s at)
    unfolding number_value ◌then◌ ◌else◌
    number_next o q w = rw (was_miss (expression s at) x p q) w

    pub number_hard : (k : Cause) (i : ℕ) → x ≡ Err (Stop.Hard k i) → Err (Stop.Hard k i) ≡ one_of (number_value a b s at)
    unfolding number_value ◌then◌ ◌else◌ one_of
    number_hard k i q = rw (was_hard (expression s at) x k i p q)

  module _ (x : Option ℕ) (p : x ≡ string_at s at) where
    pub value_read : (e : ℕ) (d : Detail) → x ≡ Some e → d ≡ named 35 a b (at + 1) (e - 1) → Ok (e, d) ≡ one_of (value a b s at)
    unfolding value quoted string ◌else◌ one_of
    value_read e d q w = rw (token_to x (string_at s at) p (λ e. To e (named 35 a b (at + 1) (e - 1) ∷ [])) e q, w)

    pub value_next : (o : Reading Detail) → x ≡ None → o ≡ one_of (number_value a b s at) → o ≡ one_of (value a b s at)
    unfolding value quoted string ◌else◌ number_value unit_value
    value_next o q w = rw (token_miss x (string_at s at) p (λ e. To e (named 35 a b (at + 1) (e - 1) ∷ [])) q) w

  pub value_row : OneRow (value a b s at)
  unfolding value quoted string currency
  value_row =
      else_row _ _ (token_row (string_at s at) _ (λ e. row e (named 35 a b (at + 1) (e - 1)) (omega arith)))
      (else_row _ _ (then_row (expression s at) _ (λ e v. row e (valued 36 a b at e v) (omega arith)))
      (token_row (currency_at s at) _ (λ e. row e (named 37 a b at e) (omega arith))))

-- a string has its quotes
module _ (s : List ℕ) (at : ℕ) (x : Option ℕ) (e : ℕ) (p : x ≡ string_at s at) (q : x ≡ Some e) where
  pub string_fits : length s < 2 ^ 64 → Fits w64 (at + 1)
  string_fits l = record { fits = omega (arith, string_ahead s at e (sym p ∙ q), string_ends s at e (sym p ∙ q)) }

  pub string_takes : 1 ≤ e
  string_takes = omega (arith, string_ahead s at e (sym p ∙ q))

-- ---- value, line end: x is the value's answer, l the line end's

module _ (a b : ℕ) (s : List ℕ) (at : ℕ) (x : Reading Detail) (p : x ≡ one_of (value a b s at)) where
  module _ (e : ℕ) (d : Detail) (q : x ≡ Ok (e, d)) (l : Option ℕ) (w : l ≡ line_end_at s e) where
    pub end_read : (f : ℕ) → l ≡ Some f → Ok (f, d) ≡ one_of (value_end a b s at)
    unfolding value_end line_end token ◌and◌ more one_of
    end_read f n = rw (one_read x e d (value_row a b s at) p q, ← w, n)

    pub end_open : l ≡ None → (Err Stop.Miss) ≡ one_of (value_end a b s at)
    unfolding value_end line_end token ◌and◌ more one_of
    end_open n = rw (one_read x e d (value_row a b s at) p q, ← w, n)

  pub end_stop : (stop : Stop) → x ≡ Err stop → Err stop ≡ one_of (value_end a b s at)
  unfolding value_end ◌and◌ one_of
  end_stop Stop.Miss q = rw (one_miss x (value_row a b s at) p q)
  end_stop (Stop.Hard k i) q = rw (one_hard (value a b s at) x k i p q)

-- ---- a gap, `:` or key, and what follows it, which answers o

module _ (a b : ℕ) (s : List ℕ) (at : ℕ) (x : Option ℕ) (p : x ≡ gap_at s at) where
  pub gap_value_on : (j : ℕ) (o : Reading Detail) → x ≡ Some j → o ≡ one_of (value_end a b s j) → o ≡ one_of (gap_value a b s at)
  unfolding gap_value gap
  gap_value_on j o q w = rw (token_to x (gap_at s at) p (value_end a b s) j q) w

  pub gap_value_miss : x ≡ None → (Err Stop.Miss) ≡ one_of (gap_value a b s at)
  unfolding gap_value gap one_of
  gap_value_miss q = rw (token_miss x (gap_at s at) p (value_end a b s) q)

module _ (a : ℕ) (s : List ℕ) (b : ℕ) where
  pub colon_on : (o : Reading Detail) → get_or s b 0 ≡ 58 → o ≡ one_of (gap_value a b s (b + 1)) → o ≡ one_of (colon_value a s b)
  unfolding colon_value byte_at
  colon_on o q w = rw (byte_token 58 s b, token_to (Some (b + 1)) (byte_at 58 s b) (rw q) (gap_value a b s) (b + 1) refl) w

  pub colon_no : (get_or s b 0 ≡ 58 → ⊥) → (Err Stop.Miss) ≡ one_of (colon_value a s b)
  unfolding colon_value byte_at one_of
  colon_no q = rw (byte_token 58 s b, token_miss None (byte_at 58 s b) (rw (ne_eqb (get_or s b 0) 58 q)) (gap_value a b s) refl)

  pub colon_past : length s ≤ b → (Err Stop.Miss) ≡ one_of (colon_value a s b)
  colon_past h = colon_no (λ q. omega (arith, get_d_past s b h))

module _ (s : List ℕ) (at : ℕ) where
  module _ (x : Option ℕ) (p : x ≡ key_at s at) where
    pub keyed_on : (j : ℕ) (o : Reading Detail) → x ≡ Some j → o ≡ one_of (colon_value at s j) → o ≡ one_of (keyed_line s at)
    unfolding keyed_line key
    keyed_on j o q w = rw (token_to x (key_at s at) p (colon_value at s) j q) w

    pub keyed_miss : x ≡ None → (Err Stop.Miss) ≡ one_of (keyed_line s at)
    unfolding keyed_line key one_of
    keyed_miss q = rw (token_miss x (key_at s at) p (colon_value at s) q)

  module _ (x : Option ℕ) (p : x ≡ gap_at s at) where
    pub meta_on : (j : ℕ) (o : Reading Detail) → x ≡ Some j → o ≡ one_of (keyed_line s j) → o ≡ one_of (meta_line s at)
    unfolding meta_line gap keyed_line colon_value gap_value value_end
    meta_on j o q w = rw (token_to x (gap_at s at) p (keyed_line s) j q) w

    pub meta_none : x ≡ None → (Err Stop.Miss) ≡ one_of (meta_line s at)
    unfolding meta_line gap one_of keyed_line colon_value gap_value value_end
    meta_none q = rw (token_miss x (gap_at s at) p (keyed_line s) q)

  pub meta_row : OneRow (meta_line s at)
  unfolding meta_line gap key line_end
  meta_row =
      token_row (gap_at s at) _ (λ k.
      token_row (key_at s k) _ (λ c.
      byte_row 58 s c _ (λ d.
      token_row (gap_at s d) _ (λ v. row_token (value k c s v) (line_end_at s) (value_row k c s v)))))

pub ruleset key_laws = (key_past, key_no, key_read)

pub ruleset unit_laws = (tried, unit_read, unit_miss)

pub ruleset number_laws = (number_read, number_next, number_hard)

pub ruleset value_laws = (string_fits, string_takes, value_read, value_next)

pub ruleset end_laws = (tried, end_read, end_open, end_stop)

pub ruleset line_laws = (tried, gap_value_on, gap_value_miss, colon_on, colon_no, colon_past, keyed_on, keyed_miss, meta_on, meta_none)
