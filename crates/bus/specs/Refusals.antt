-- The numbers that writing and reading a packet are refused with.
use Rattle.std.specs.Prelude.{ℕ}

-- a buffer that is too short
abbrev pub too_short : ℕ
too_short = 9

-- a bad detail span, or a row count over the table
abbrev pub not_valid : ℕ
not_valid = 10

-- a text over 65,535 bytes
abbrev pub too_long : ℕ
too_long = 18

-- a field cut short, or the packet ended where a text is due
abbrev pub cut_short : ℕ
cut_short = 19

-- a tag that is unknown or not its kind's, a wrong order, or a wrong row length
abbrev pub wrong_field : ℕ
wrong_field = 20
