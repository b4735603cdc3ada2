-- Which forms an entry's first byte leaves: a directive starts with a digit, each of the words with a small letter.
use Rattle.std.specs.Prelude.{None, Err, Ok}
use Prim.Native.Nat.{ℕ, ◌≤◌, ◌<◌}
use native.Mathlib.Omega.{arith}
use mathlib.Core.Path.{◌≡◌, refl, sym, ap, ◌∙◌}
use mathlib.Core.Bool.{Bool, true, false, ◌&&◌}
use mathlib.Core.List.{List, [], ◌∷◌}
use borrow.Author.Tests.{ne_eqb, lt-leb}
use lib.ListN.{get_or}
use Rattle.text.specs.declared.stop.Stop.{Stop}
use Rattle.text.specs.steps.Told.{Reading}
use Rattle.text.specs.Bytes.{bytes, is_digit, is_small}
use Rattle.text.specs.Dates.{as_shape, like_shape, date_shape, date_at}
use Rattle.text.specs.Words.{starts_with, word_at}
use Rattle.text.specs.Answer.{Ans, To, Miss, Hard, ◌then◌, ◌else◌}
use Rattle.text.specs.Leaves.{date, dated}
use Rattle.text.proofs.TestLaws.{differ}
use Rattle.amount.proofs.ByteSteps.{digit_range}
use Rattle.row.specs.declared.writer.Out.{Out}
use Rattle.entry.specs.declared.directive.Formed.{Formed}
use Rattle.entry.specs.Forms.{directive, blank, form_of}
use Rattle.entry.specs.steps.Formed.{DidForm}
use Rattle.entry.specs.steps.Undated.{blank_formed, option_form, undated}
use Rattle.entry.proofs.KeywordLaws.{poptag_off, pushtag_off, include_off, option_off}
use Rattle.entry.proofs.UndatedLaws.{form_else, blank_done, form_kept, form_next, form_hard}

-- a small letter is no digit
digit_alone : (b : ℕ) → is_digit b ≡ true → is_small b ≡ false
unfolding is_small
digit_alone b h = let r = digit_range b h in rw (lt-leb 97 b (omega (arith, r.1))) refl

module _ (s : List ℕ) where
  no_shape : (r : List ℕ) → is_digit (get_or r 0 0) ≡ false → like_shape date_shape r ≡ false
  unfolding like_shape as_shape
  no_shape [] h = refl
  no_shape (b ∷ r) h = rw h refl

  no_directive : is_digit (get_or s 0 0) ≡ false → directive s ≡ Miss
  unfolding directive date dated date_at ◌then◌
  no_directive h = rw (no_shape s h) refl

  other_start : (c : ℕ) (ws r : List ℕ) → is_small c ≡ true → is_small (get_or r 0 0) ≡ false → starts_with (c ∷ ws) r ≡ false
  unfolding starts_with
  other_start c ws [] p h = refl
  other_start c ws (b ∷ r) p h = rw (ne_eqb b c (λ e. differ is_small c b p h (sym e))) refl

  no_word : (c : ℕ) (ws : List ℕ) → is_small c ≡ true → is_small (get_or s 0 0) ≡ false → word_at (c ∷ ws) s 0 ≡ None
  unfolding word_at
  no_word c ws p h = rw (other_start c ws s p h) refl

  no_undated : is_small (get_or s 0 0) ≡ false → undated s ≡ blank s
  unfolding undated ◌else◌ bytes is_small
  no_undated h =
      rw (
        option_off s (no_word 111 _ refl h),
        include_off s (no_word 105 _ refl h),
        pushtag_off s (no_word 112 _ refl h),
        poptag_off s (no_word 112 _ refl h),
      ) refl

module _ (base : ℕ) (s : List ℕ) (o : Out) (t : List ℕ) (b : ℕ) (v : b ≡ get_or s 0 0) (d : Bool) (e : d ≡ is_digit b) where
  -- a line that starts so is no directive
  module _ (n : d ≡ false) where
    pub first_undated : (u : List ℕ) (q : Reading Formed) → DidForm base (undated s) o t u q → DidForm base (form_of s) o t u q
    unfolding ◌else◌
    first_undated u q k = rw (form_else s, no_directive s (ap is_digit (sym v) ∙ sym e ∙ n)) k

    -- and neither one of the words
    pub first_blank : (c : Bool) (q : Reading Formed) → c ≡ is_small b → c ≡ false → q ≡ blank_formed s o → DidForm base (form_of s) o t t q
    first_blank c q w m h = first_undated t q (rw (no_undated s (ap is_small (sym v) ∙ sym w ∙ m), h) (blank_done base s o t))

  -- to which a directive's reader answered f
  module _ (y : d ≡ true) (u : List ℕ) (f : Reading Formed) (w : DidForm base (directive s) o t u f) where
    pub first_missed : (q : Reading Formed) → f ≡ Err Stop.Miss → q ≡ blank_formed s o → DidForm base (form_of s) o t u q
    first_missed q h k =
        form_next base s o t u f w u q h
        (rw (no_undated s (digit_alone (get_or s 0 0) (ap is_digit (sym v) ∙ sym e ∙ y)), k) (blank_done base s o u))

pub ruleset first_laws = (first_undated, first_blank, first_missed, form_kept, form_hard)
