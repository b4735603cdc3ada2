-- Words and classes of bytes without a line feed, which stay inside a line. And the boundary: the first byte after a
-- text that ends in one.
use Rattle.std.specs.Prelude.{None}
use Prim.Native.Nat.{ℕ, ◌<◌}
use native.Mathlib.Omega.{arith}
use mathlib.Core.Path.{◌≡◌, refl}
use mathlib.Core.Bool.{Bool, true, false, ◌||◌}
use mathlib.Core.List.{List, [], ◌∷◌, ◌++◌}
use borrow.Author.Tests.{ne_eqb, lt-leb, le-ltb}
use lib.Dec.{eqb}
use lib.ListN.{length, length-append}
use lib.Seq.{get_or-append_seam}
use Rattle.text.specs.Bytes.{is_blank, is_digit, is_small, is_capital, in_comment, starts_part, in_account, in_currency, in_tag, in_link, in_line}
use Rattle.text.specs.Run.{blanks}
use Rattle.text.specs.Boundaries.{is_start}
use Rattle.text.specs.Lines.{gap_at, comment_end, eol_at, line_end_at}
use Rattle.text.proofs.TestLaws.{differ}
use Rattle.text.proofs.Steps.{run_stops, run_ends}

-- a line feed stands in a text
unfoldable pub has_lf : List ℕ → Bool
has_lf [] = false
has_lf (x ∷ r) = eqb x 10 || has_lf r

-- none of the classes of the tokens' bytes holds it
pub record NoLF : Type 0 where
  pub blank : is_blank 10 ≡ false
  pub line : in_line 10 ≡ false
  pub comment : in_comment 10 ≡ false
  pub part : starts_part 10 ≡ false
  pub account : in_account 10 ≡ false
  pub capital : is_capital 10 ≡ false
  pub currency : in_currency 10 ≡ false
  pub tag : in_tag 10 ≡ false
  pub link : in_link 10 ≡ false

pub no_lf : NoLF
unfolding is_blank in_line in_comment starts_part in_account is_capital is_small is_digit in_currency in_tag in_link
no_lf = record { blank = refl; line = refl; comment = refl; part = refl; account = refl; capital = refl; currency = refl; tag = refl; link = refl }

-- ---- the boundary

-- what the byte there is not; a digit or a small letter is none of these
pub record Boundary (b : ℕ) : Type 0 where
  pub blank : is_blank b ≡ false
  pub comment : eqb b 59 ≡ false
  pub lf : eqb b 10 ≡ false
  pub cr : eqb b 13 ≡ false

pub start_not : (b c : ℕ) → is_start b ≡ true → is_start c ≡ false → eqb b c ≡ false
start_not b c h k = ne_eqb b c (differ (λ x. is_start x) b c h k)

pub start_bounds : (b : ℕ) → is_start b ≡ true → Boundary b
unfolding is_digit is_small is_blank
start_bounds b h = record {
  blank = rw (start_not b 32 h refl, start_not b 9 h refl);
  comment = start_not b 59 h refl;
  lf = start_not b 10 h refl;
  cr = start_not b 13 h refl;
}

-- so no line end and no gap stands at it
module _ (xs t : List ℕ) (b : ℕ) (B : Boundary b) where
  more : length xs < length (xs ++ b ∷ t)
  more = omega (arith, length-append xs (b ∷ t))

  no_blanks : blanks (xs ++ b ∷ t) (length xs) ≡ length xs
  no_blanks = run_stops is_blank (xs ++ b ∷ t) (length xs) more (rw (get_or-append_seam xs b t 0) B.blank)

  pub line_end_misses : line_end_at (xs ++ b ∷ t) (length xs) ≡ None
  unfolding line_end_at comment_end eol_at
  line_end_misses =
      rw (no_blanks, get_or-append_seam xs b t 0, B.comment, get_or-append_seam xs b t 0, B.lf, B.cr, lt-leb (length (xs ++ b ∷ t)) (length xs) more)

  pub gap_misses : gap_at (xs ++ b ∷ t) (length xs) ≡ None
  unfolding gap_at
  gap_misses = rw (no_blanks, le-ltb (length xs) (length xs) (omega arith))

-- nor at the end of a text
pub gap_ends : (xs : List ℕ) → gap_at xs (length xs) ≡ None
unfolding gap_at
gap_ends xs = rw (run_ends is_blank xs (length xs) (omega arith), le-ltb (length xs) (length xs) (omega arith))
