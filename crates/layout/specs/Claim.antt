-- M-103. "For a ledger that plain reading accepts and whose blank entries hold no quote, reading the output gives the
-- same kinds, dates, values and texts (save of entries, expressions and braces) in the same order, and writing the
-- output again gives the same bytes, as long as the output keeps the size limit."
use Rattle.std.specs.Prelude.{ℕ, ◌≤◌, ◌≡◌, Bool, true, false, ◌&&◌, ◌||◌, not, List, [], ◌∷◌, eqb, length}
use Prim.Native.Char.{code}
use Rattle.text.specs.Permitted.{size_limit}
use Rattle.amount.specs.Kinds.{blank_kind}
use Rattle.row.specs.declared.table.Row.{Row}
use Rattle.ledger.specs.Plain.{accepted, plain}
use Rattle.layout.specs.Meaning.{Item, meaning}
use Rattle.layout.specs.Written.{written}

unfoldable pub holds_quote : List ℕ → Bool
holds_quote [] = false
holds_quote (b ∷ s) = eqb b (code "\"") || holds_quote s

-- no blank entry holds a quote
unfoldable pub quiet : List Item → Bool
quiet [] = true
quiet (d ∷ ds) = not (eqb d.kind blank_kind && holds_quote d.text) && quiet ds

-- of a ledger s with the rows rs: the output reads as rows of the same meaning, and written again it is the same
pub record Rewritten (s : List ℕ) (rs : List Row) : Type 0 where
  pub rows : List Row
  pub reads : plain (written s rs) ≡ accepted rows
  pub same : meaning (written s rs) rows ≡ meaning s rs
  pub again : written (written s rs) rows ≡ written s rs

abbrev pub Claim : Type 0
Claim = (s : List ℕ) (rs : List Row) → plain s ≡ accepted rs → quiet (meaning s rs) ≡ true → length (written s rs) ≤ size_limit → Rewritten s rs
