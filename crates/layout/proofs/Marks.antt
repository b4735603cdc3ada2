-- Gaps, commas, line ends, single bytes and words where they are written, and what may follow a token.
use Prim.Native.Nat.{ℕ, ◌+◌}
use native.Mathlib.Omega.{arith}
use mathlib.Core.Path.{◌≡◌, refl, subst}
use mathlib.Core.Bool.{Bool, true, false, cond, and-false}
use mathlib.Core.List.{List, [], ◌∷◌, ◌++◌}
use borrow.Author.Tests.{leb-true, lt-leb, ne_eqb, eq-eqb, lt-ltb, le-ltb}
use lib.Dec.{eqb, leb}
use lib.ListN.{length, get_or, drop}
use Rattle.text.specs.Strings.{string_at}
use Rattle.text.specs.Bytes.{is_blank, is_space, is_digit, is_capital, is_small, starts_part, in_account, in_currency, in_tag, in_link}
use Rattle.text.specs.Lines.{gap_at, comma_at, comment_end, eol_at, line_end_at}
use Rattle.text.specs.Words.{starts_with, word_at}
use Rattle.text.specs.Answer.{Ans, To, Miss}
use Rattle.text.specs.Leaves.{token, gap, comma, line_end, string, byte, word}
use Rattle.text.proofs.TestLaws.{differ, and_left}
use Rattle.text.proofs.Joins.{Reach}
use Rattle.text.proofs.Ats.{At, at_next, at_one, at_byte, at_drop}
use Rattle.amount.specs.Literal.{in_literal}
use Rattle.amount.specs.Expression.{is_plus, is_times}
use Rattle.amount.specs.declared.detail.Detail.{Detail}
use Rattle.layout.specs.Written.{size_text, value_text}
use Rattle.layout.proofs.Numbers.{size_head}
use Rattle.layout.proofs.Values.{stops_at, after_blanks, Calm, Dull, Form, one_space, shown}
use Rattle.layout.proofs.Tokens.{Currency, Account}
use Rattle.layout.proofs.Readings.{Reads, none_reads, token_reads}

-- ---- what may follow a token

pub record After (t : List ℕ) : Type 0 where
  pub account : in_account (get_or t 0 0) ≡ false
  pub colon : eqb (get_or t 0 0) 58 ≡ false
  pub currency : in_currency (get_or t 0 0) ≡ false
  pub tag : in_tag (get_or t 0 0) ≡ false
  pub link : in_link (get_or t 0 0) ≡ false

module _ (t : List ℕ) where
  pub after_line : After (10 ∷ t)
  unfolding in_account in_currency in_tag in_link is_capital is_small is_digit
  after_line = record { account = refl; colon = refl; currency = refl; tag = refl; link = refl }

  pub after_space : After (32 ∷ t)
  unfolding in_account in_currency in_tag in_link is_capital is_small is_digit
  after_space = record { account = refl; colon = refl; currency = refl; tag = refl; link = refl }

  pub after_comma_lem : After (44 ∷ t)
  unfolding in_account in_currency in_tag in_link is_capital is_small is_digit
  after_comma_lem = record { account = refl; colon = refl; currency = refl; tag = refl; link = refl }

  pub after_brace : After (125 ∷ t)
  unfolding in_account in_currency in_tag in_link is_capital is_small is_digit
  after_brace = record { account = refl; colon = refl; currency = refl; tag = refl; link = refl }

  pub calm_line : Calm (10 ∷ t)
  unfolding in_literal is_digit is_plus is_times after_blanks is_blank
  calm_line = record { ends = refl; plus = refl; times = refl }

  pub calm_tilde : Calm (32 ∷ 126 ∷ t)
  unfolding in_literal is_digit is_plus is_times after_blanks is_blank
  calm_tilde = record { ends = refl; plus = refl; times = refl }

capital_blank : (b : ℕ) → is_capital b ≡ true → is_blank b ≡ false
unfolding is_capital is_blank
capital_blank b e = rw (ne_eqb b 32 (differ is_capital b 32 e refl), ne_eqb b 9 (differ is_capital b 9 e refl))

capital_plus : (b : ℕ) → is_capital b ≡ true → is_plus b ≡ false
unfolding is_capital is_plus
capital_plus b e = rw (ne_eqb b 43 (differ is_capital b 43 e refl), ne_eqb b 45 (differ is_capital b 45 e refl))

capital_times : (b : ℕ) → is_capital b ≡ true → is_times b ≡ false
unfolding is_capital is_times
capital_times b e = rw (ne_eqb b 42 (differ is_capital b 42 e refl), ne_eqb b 47 (differ is_capital b 47 e refl))

pub part_blank : (b : ℕ) → starts_part b ≡ true → is_blank b ≡ false
unfolding starts_part is_capital is_digit is_blank
part_blank b e = rw (ne_eqb b 32 (differ starts_part b 32 e refl), ne_eqb b 9 (differ starts_part b 9 e refl))

space_literal : in_literal 32 ≡ false
unfolding in_literal is_digit
space_literal = refl

after_blank : (b : ℕ) (t : List ℕ) → is_blank b ≡ false → after_blanks (32 ∷ b ∷ t) ≡ b
unfolding after_blanks is_blank
after_blank b t e = rw e

pub calm_currency : (w t : List ℕ) → Currency w → Calm (32 ∷ (w ++ t))
calm_currency w t C =
    rw C.is
    (let e = after_blank C.head (C.tail ++ t) (capital_blank C.head C.capital) in
    record { ends = space_literal; plus = rw e (capital_plus C.head C.capital); times = rw e (capital_times C.head C.capital) })

-- a token's first byte is no blank
pub currency_blank : (w t : List ℕ) → Currency w → is_blank (get_or (w ++ t) 0 0) ≡ false
currency_blank w t C = rw C.is (capital_blank C.head C.capital)

pub account_blank : (w t : List ℕ) → Account w → is_blank (get_or (w ++ t) 0 0) ≡ false
account_blank w t C = rw C.is (part_blank C.head C.starts)

-- ---- gaps, lines, bytes, words

module _ {s : List ℕ} {i : ℕ} where
  pub gap_reads : {t : List ℕ} → is_blank (get_or t 0 0) ≡ false → At s i (32 ∷ t) → Reads s (gap s i) [] t
  unfolding gap gap_at
  gap_reads {t} e A =
      let r = one_space s i A e in
      token_reads (rw (r, lt-ltb i (i + 1) (omega arith))) (at_one A)

  pub gap_misses : {t : List ℕ} → is_blank (get_or t 0 0) ≡ false → At s i t → gap {A = Detail} s i ≡ Miss
  unfolding gap gap_at token
  gap_misses {t} e A = rw (stops_at s is_blank i t A e, le-ltb i i (omega arith))

  pub line_reads : {t : List ℕ} → At s i (10 ∷ t) → Reads s (line_end s i) [] t
  unfolding line_end line_end_at comment_end eol_at is_blank
  line_reads {t} A =
      let r = stops_at s is_blank i (10 ∷ t) A refl in
      token_reads (rw (r, at_byte A) (rw (at_byte A))) (at_one A)

  pub byte_reads : {b : ℕ} {t : List ℕ} → At s i (b ∷ t) → Reads s (byte b s i) [] t
  unfolding byte
  byte_reads {b} A = none_reads (rw (at_byte A, eq-eqb b b refl)) (at_one A)

starts_with_lem : (w t : List ℕ) → starts_with w (w ++ t) ≡ true
unfolding starts_with
starts_with_lem [] t = refl
starts_with_lem (x ∷ w) t = rw (eq-eqb x x refl) (starts_with_lem w t)

module _ {s : List ℕ} {i : ℕ} where
  pub word_reads : (w t : List ℕ) → At s i (w ++ t) → Reads s (word w s i) [] t
  unfolding word word_at
  word_reads w t A = token_reads (rw (A.here, starts_with_lem w t)) (at_next w t A)

  pub word_misses : (w t : List ℕ) → starts_with w t ≡ false → At s i t → word {A = Detail} w s i ≡ Miss
  unfolding word word_at token
  word_misses w t e A = rw (A.here, e)

-- ---- places that were read to

pub reached : {A : Type 0} {s : List ℕ} {i j : ℕ} {a : Ans A} {x : A} → Reach (length s) i a → a ≡ To j x → At s j (drop j s)
reached {A} {s} {i} {j} R e = at_drop s j (subst (Reach (length s) i) e R).ends.1

-- ---- what starts no expression, and no string

capital_literal : (b : ℕ) → is_capital b ≡ true → in_literal b ≡ false
unfolding is_capital in_literal is_digit
capital_literal b e =
    let l = leb-true 65 b (and_left (leb 65 b) (leb b 90) e) in
    rw (lt-leb b 57 (omega arith), and-false (leb 48 b), ne_eqb b 46 (λ f. absurd (omega arith)), ne_eqb b 44 (λ f. absurd (omega arith)))

capital_dull : (b : ℕ) → is_capital b ≡ true → Dull b
unfolding is_capital is_space in_literal is_digit
capital_dull b e = record {
  minus = ne_eqb b 45 (differ is_capital b 45 e refl);
  paren = differ is_capital b 40 e refl;
  space = ne_eqb b 32 (differ is_capital b 32 e refl);
  literal = capital_literal b e;
}

pub currency_dull : (w t : List ℕ) → Currency w → Dull (get_or (w ++ t) 0 0)
currency_dull w t C = rw C.is (capital_dull C.head C.capital)

pub brace_dull : Dull 125
unfolding is_space in_literal is_digit
brace_dull = record { minus = refl; paren = λ e. absurd (omega arith); space = refl; literal = refl }

pub comma_is : {s : List ℕ} {i : ℕ} (t : List ℕ) → is_blank (get_or t 0 0) ≡ false → At s i (44 ∷ 32 ∷ t) → (j : ℕ) × (comma {A = Detail} s i ≡ To j []) × At s j t
unfolding comma comma_at token
comma_is {s} {i} t e A =
    (i + 1 + 1, rw (stops_at s is_blank i (44 ∷ 32 ∷ t) A (shown 44 (omega arith)), at_byte A, one_space s (i + 1) (at_one A) e), at_one (at_one A))

pub string_misses : {s : List ℕ} {i : ℕ} {t : List ℕ} → eqb (get_or t 0 0) 34 ≡ false → At s i t → string {A = Detail} s i ≡ Miss
unfolding string string_at token
string_misses e A = rw (at_byte A, e)

capital_quote : (b : ℕ) → is_capital b ≡ true → eqb b 34 ≡ false
unfolding is_capital
capital_quote b e = ne_eqb b 34 (differ is_capital b 34 e refl)

digit_quote : (b : ℕ) → is_digit b ≡ true → eqb b 34 ≡ false
unfolding is_digit
digit_quote b e = ne_eqb b 34 (differ is_digit b 34 e refl)

pub currency_quote : (w t : List ℕ) → Currency w → eqb (get_or (w ++ t) 0 0) 34 ≡ false
currency_quote w t C = rw C.is (capital_quote C.head C.capital)

pub value_quote : (v : ℕ) (t : List ℕ) → Form v → eqb (get_or (value_text v ++ t) 0 0) 34 ≡ false
value_quote v t F = rw F.text (go F.minus)
  where
    go : (m : Bool) → eqb (get_or (cond m (45 ∷ size_text F.size) (size_text F.size) ++ t) 0 0) 34 ≡ false
    go true = refl
    go false = let h = size_head F.size in rw h.2 (digit_quote h.0 h.3)
