-- The classes by the names that the code has for them.
use Rattle.std.specs.Prelude.{ℕ, Bool}
use Rattle.text.specs.Bytes.{is_blank, is_space, is_capital, in_comment, in_line}
use Rattle.text.specs.declared.run.Class.{Class}
use Rattle.text.specs.declared.run.Class.TheVariants.{Blank, Space, Capital, Comment, Line}

abbrev pub in_class : Class → ℕ → Bool
in_class Blank = is_blank
in_class Space = is_space
in_class Capital = is_capital
in_class Comment = in_comment
in_class Line = in_line
