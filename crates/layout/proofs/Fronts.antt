-- Where the output goes on with an entry's own word, or ends, no line of the entry before goes on.
use Rattle.std.specs.Prelude.{None}
use Prim.Native.Nat.{ℕ, ◌<◌}
use native.Mathlib.Omega.{arith}
use mathlib.Core.Bool.{not, false, true, Bool, cond, ◌||◌, or-true, and-false}
use mathlib.Core.Path.{◌≡◌, refl}
use mathlib.Core.List.{List, []}
use borrow.Author.Tests.{lt-leb, leb-true, ne_eqb, ltb-true}
use lib.Dec.{leb, eqb, ltb}
use lib.ListN.{length, get_or}
use Rattle.text.specs.Bytes.{is_blank, is_digit, is_small, is_capital, in_tag}
use Rattle.text.specs.Lines.{comment_end, eol_at, line_end_at, empty_at}
use Rattle.text.specs.Answer.{Miss, ◌and◌, ◌else◌}
use Rattle.text.specs.Leaves.{token, empty_line}
use Rattle.text.proofs.TestLaws.{differ, and_left}
use Rattle.text.proofs.Ats.{At, at_byte}
use Rattle.amount.specs.declared.detail.Detail.{Detail}
use Rattle.posting.specs.Metadata.{meta_line, meta_step}
use Rattle.posting.specs.Postings.{posting_line, posting, body_step, is_flag}
use Rattle.layout.proofs.Values.{stops_at}
use Rattle.layout.proofs.Marks.{gap_misses}
use Rattle.layout.proofs.Compose.{Boundary}

-- no blank, comment or line end
pub record Sharp (b : ℕ) : Type 0 where
  pub blank : is_blank b ≡ false
  pub comment : eqb b 59 ≡ false
  pub feed : eqb b 10 ≡ false
  pub return : eqb b 13 ≡ false

sharp_end : Sharp 0
unfolding is_blank
sharp_end = record { blank = refl; comment = refl; feed = refl; return = refl }

pub sharp_digit : (b : ℕ) → is_digit b ≡ true → Sharp b
unfolding is_digit is_blank
sharp_digit b e = record {
  blank = rw (ne_eqb b 32 (differ is_digit b 32 e refl), ne_eqb b 9 (differ is_digit b 9 e refl));
  comment = ne_eqb b 59 (differ is_digit b 59 e refl);
  feed = ne_eqb b 10 (differ is_digit b 10 e refl);
  return = ne_eqb b 13 (differ is_digit b 13 e refl);
}

pub sharp_small : (b : ℕ) → is_small b ≡ true → Sharp b
unfolding is_small is_blank
sharp_small b e = record {
  blank = rw (ne_eqb b 32 (differ is_small b 32 e refl), ne_eqb b 9 (differ is_small b 9 e refl));
  comment = ne_eqb b 59 (differ is_small b 59 e refl);
  feed = ne_eqb b 10 (differ is_small b 10 e refl);
  return = ne_eqb b 13 (differ is_small b 13 e refl);
}

line_off : (s : List ℕ) (i : ℕ) (t : List ℕ) → At s i t → Sharp (get_or t 0 0) → i < length s → line_end_at s i ≡ None
unfolding line_end_at comment_end eol_at
line_off s i t A S h = rw (stops_at s is_blank i t A S.blank, at_byte A, S.comment) (rw (at_byte A, S.feed, S.return, lt-leb (length s) i h))

module _ (s : List ℕ) (i : ℕ) (t : List ℕ) (A : At s i t) (S : Sharp (get_or t 0 0)) where
  empty_misses : empty_line {A = Detail} s i ≡ Miss
  unfolding empty_line empty_at token
  empty_misses = go (ltb i (length s)) refl
    where
      no_end : i < length s → line_end_at s i ≡ None
      no_end h = line_off s i t A S h

      go : (b : Bool) → ltb i (length s) ≡ b → token {A = Detail} (cond b (line_end_at s i) None) ≡ Miss
      go true e = rw (no_end (ltb-true i (length s) e))
      go false e = refl

  meta_stops : meta_step s i ≡ Miss
  unfolding meta_step meta_line ◌and◌ ◌else◌
  meta_stops = rw (gap_misses S.blank A) empty_misses

  body_stops : body_step s i ≡ Miss
  unfolding body_step posting posting_line ◌and◌ ◌else◌
  body_stops = rw (gap_misses S.blank A) empty_misses

pub sharp_boundary : (r v : List ℕ) → Sharp (get_or v 0 0) → (in_tag (get_or r 0 0) ≡ false → in_tag (get_or v 0 0) ≡ false) → Boundary r v
sharp_boundary r v S f = record {
  meta = λ s u n m A B h. meta_stops u m v B S;
  body = λ s u n m A B h k. body_stops u m v B S;
  tag = f;
}

pub ends_boundary : Boundary [] []
ends_boundary = sharp_boundary [] [] sharp_end (λ h. h)

pub digit_tag : (b : ℕ) → is_digit b ≡ true → in_tag b ≡ true
unfolding in_tag
digit_tag b e = rw (e, or-true (is_capital b || is_small b))

pub small_tag : (b : ℕ) → is_small b ≡ true → in_tag b ≡ true
unfolding in_tag
small_tag b e = rw (e, or-true (is_capital b))

-- a small letter is no digit and no flag

pub small_digit : (b : ℕ) → is_small b ≡ true → is_digit b ≡ false
unfolding is_small is_digit
small_digit b e = rw (lt-leb b 57 (omega (arith, leb-true 97 b (and_left (leb 97 b) (leb b 122) e)))) (and-false (leb 48 b))

pub small_flag : (b : ℕ) → is_small b ≡ true → is_flag b ≡ false
unfolding is_flag
small_flag b e = rw e (and-false (not (eqb b 0)))
