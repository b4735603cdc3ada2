-- The answers at gaps, commas and line ends, each from what the code knows where it gives it.
use Rattle.std.specs.Prelude.{None, Option, Some}
use Prim.Native.Nat.{ℕ, ◌+◌, ◌≤◌, ◌<◌}
use native.Mathlib.Omega.{arith}
use mathlib.Core.Path.{◌≡◌}
use mathlib.Core.List.{List}
use borrow.Author.Tests.{ne_eqb, lt-ltb, le-ltb, le-leb, lt-leb}
use lib.ListN.{length, get_or}
use Rattle.text.specs.Run.{blanks}
use Rattle.text.specs.Lines.{gap_at, comma_at, comment_end, eol_at, line_end_at}
use Rattle.text.proofs.Steps.{get_d_past}

module _ (s : List ℕ) (at : ℕ) where
  pub gap_read : (e : ℕ) → e ≡ blanks s at → at < e → Some e ≡ gap_at s at
  unfolding gap_at
  gap_read e v h = cc (lt-ltb at e h)

  pub gap_miss : (e : ℕ) → e ≡ blanks s at → e ≤ at → None ≡ gap_at s at
  unfolding gap_at
  gap_miss e v h = cc (le-ltb at e h)

  -- a comma; b is past the blanks
  module _ (b : ℕ) (p : b ≡ blanks s at) where
    pub comma_read : (e : ℕ) → get_or s b 0 ≡ 44 → e ≡ blanks s (b + 1) → Some e ≡ comma_at s at
    unfolding comma_at
    comma_read e q w = rw (← p, q, w)

    pub comma_no : (get_or s b 0 ≡ 44 → ⊥) → None ≡ comma_at s at
    unfolding comma_at
    comma_no q = rw (← p, ne_eqb (get_or s b 0) 44 q)

    pub comma_past : length s ≤ b → None ≡ comma_at s at
    comma_past h = comma_no (λ q. omega (arith, get_d_past s b h))

  -- the end of a line; b is the byte after a CR
  pub eol_lf : get_or s at 0 ≡ 10 → Some (at + 1) ≡ eol_at s at
  unfolding eol_at
  eol_lf e = rw e

  pub eol_crlf : (b : ℕ) → get_or s at 0 ≡ 13 → b ≡ get_or s (at + 1) 0 → b ≡ 10 → Some (at + 2) ≡ eol_at s at
  unfolding eol_at
  eol_crlf b e f g = rw (e, ← f, g)

  pub eol_cr : (b : ℕ) → at < length s → get_or s at 0 ≡ 13 → b ≡ get_or s (at + 1) 0 → (b ≡ 10 → ⊥) → None ≡ eol_at s at
  unfolding eol_at
  eol_cr b h e f g = rw (e, ← f, ne_eqb b 10 g, lt-leb _ _ h)

  pub eol_miss : at < length s → (get_or s at 0 ≡ 10 → ⊥) → (get_or s at 0 ≡ 13 → ⊥) → None ≡ eol_at s at
  unfolding eol_at
  eol_miss h e f = rw (ne_eqb _ _ e, ne_eqb _ _ f, lt-leb _ _ h)

  pub eol_end : length s ≤ at → Some at ≡ eol_at s at
  unfolding eol_at
  eol_end h = rw (get_d_past s at h, le-leb _ _ h)

  -- blanks up to b, a comment up to e
  pub line_read : (b e : ℕ) (r : Option ℕ) → b ≡ blanks s at → e ≡ comment_end s b → r ≡ eol_at s e → r ≡ line_end_at s at
  unfolding line_end_at
  line_read b e r p q u = cc

pub ruleset gap_laws = (gap_read, gap_miss)

pub ruleset comma_laws = (comma_read, comma_no, comma_past)

pub ruleset eol_laws = (eol_lf, eol_crlf, eol_cr, eol_miss, eol_end)

pub ruleset line_laws = line_read
