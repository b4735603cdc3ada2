-- The tokens as readers that answer as every rule does, at a place of a text. Accounts has the account.
use Rattle.text.specs.declared.stop.Cause.{Cause}
use Rattle.std.specs.Prelude.{ℕ, ◌+◌, cond, List, [], eqb, get_or, None, Option, Some}
use Rattle.text.specs.Answer.{Ans, To, Miss, must}
use Rattle.text.specs.Lines.{gap_at, comma_at, line_end_at, empty_at}
use Rattle.text.specs.Dates.{date_at}
use Rattle.text.specs.Strings.{string_at}
use Rattle.text.specs.Currencies.{currency_at}
use Rattle.text.specs.Words.{word_at}
use Rattle.text.specs.Tags.{tag_at, link_at}

-- a token makes no rows
unfoldable pub token : {A : Type 0} → Option ℕ → Ans (List A)
token (Some j) = To j []
token None = Miss

unfoldable pub dated : Option (ℕ × ℕ) → Ans ℕ
dated (Some (j, d)) = To j d
dated None = Miss

module _ {A : Type 0} (s : List ℕ) (at : ℕ) where
  unfoldable pub gap : Ans (List A)
  gap = token (gap_at s at)

  unfoldable pub comma : Ans (List A)
  comma = token (comma_at s at)

  unfoldable pub line_end : Ans (List A)
  line_end = token (line_end_at s at)

  unfoldable pub empty_line : Ans (List A)
  empty_line = token (empty_at s at)

  unfoldable pub string : Ans (List A)
  string = token (string_at s at)

  unfoldable pub currency : Ans (List A)
  currency = token (currency_at s at)

  unfoldable pub tag : Ans (List A)
  tag = token (tag_at s at)

  unfoldable pub link : Ans (List A)
  link = token (link_at s at)

-- a gap that is required
unfoldable pub hard_gap : {A : Type 0} → Cause → List ℕ → ℕ → Ans (List A)
hard_gap n s at = must n at (gap s at)

unfoldable pub date : List ℕ → ℕ → Ans ℕ
date s at = dated (date_at s at)

unfoldable pub word : {A : Type 0} → List ℕ → List ℕ → ℕ → Ans (List A)
word w s at = token (word_at w s at)

-- one byte
unfoldable pub byte : {A : Type 0} → ℕ → List ℕ → ℕ → Ans (List A)
byte b s at = cond (eqb (get_or s at 0) b) (To (at + 1) []) Miss
