-- Where a block ends, and the code that looks for it at line starts alone.
use Prim.Native.Nat.{ℕ, suc, ◌+◌, ◌≤◌, ◌<◌}
use native.Mathlib.Nat.{add-zero}
use native.Mathlib.Omega.{arith}
use mathlib.Core.Path.{◌≡◌, sym, ◌∙◌}
use mathlib.Core.Bool.{Bool, true, false, cond, ◌||◌}
use mathlib.Core.List.{List}
use borrow.Author.Tests.{not-true, not-false}
use lib.Dec.{eqb}
use lib.ListN.{length, get_or, drop, drop_of_length-le}
use Rattle.text.specs.Bytes.{is_digit, is_small, in_line}
use Rattle.text.specs.Run.{run_to}
use Rattle.text.proofs.Steps.{drop_step, head_drop, run_same, run_out}
use Rattle.text.specs.Boundaries.{is_start, cuts}
use Rattle.recovery.specs.Recovering.{block_length}

-- ---- from a place on

module _ (s : List ℕ) where
  block_step : (i : ℕ) → i < length s → block_length (drop i s) ≡ suc (cond (cuts (get_or s i 0) (get_or s (i + 1) 0)) 0 (block_length (drop (i + 1) s)))
  unfolding block_length
  block_step i h = rw (drop_step s i h, head_drop s (i + 1))

  -- a byte but a line feed is passed
  block_on : (i : ℕ) → i < length s → in_line (get_or s i 0) ≡ true → i + block_length (drop i s) ≡ i + 1 + block_length (drop (i + 1) s)
  unfolding in_line
  block_on i h e = rw (block_step i h, not-true (eqb (get_or s i 0) 10) e) (omega arith)

  block_end : (i : ℕ) → length s ≤ i → i + block_length (drop i s) ≡ i
  unfolding block_length
  block_end i h = rw (drop_of_length-le s {i = i} h) (add-zero i)

  -- ---- a turn of the code: the block ends where it ends from place i on

  module _ (i : ℕ) (g : i + block_length (drop i s) ≡ block_length s) where
    pub length_end : length s ≤ i → i ≡ block_length s
    length_end h = sym (block_end i h) ∙ g

    module _ (feed : ℕ) (e : feed ≡ run_to in_line s i) where
      run_over : feed + block_length (drop feed s) ≡ block_length s
      run_over = sym (run_same in_line s (λ (j : ℕ). j + block_length (drop j s)) block_on i feed e) ∙ g

      pub length_past : length s ≤ feed → feed ≡ block_length s
      length_past h = sym (block_end feed h) ∙ run_over

      -- x is the byte behind the line feed, y what the code's test of it gave
      module _ (h : feed < length s) (x : ℕ) (ex : x ≡ get_or s (feed + 1) 0) (y : Bool) (ey : y ≡ is_start x) where
        feed_step : feed + suc (cond y 0 (block_length (drop (feed + 1) s))) ≡ block_length s
        unfolding in_line
        feed_step =
            let f : eqb (get_or s feed 0) 10 ≡ true = not-false (eqb (get_or s feed 0) 10) (run_out in_line s i feed e h) in
            rw (ey, ex) (rw (block_step feed h, f) at run_over)

        pub length_boundary : y ≡ true → feed + 1 ≡ block_length s
        length_boundary t = omega (arith, rw t at feed_step)

        pub length_turn : y ≡ false → feed + 1 + block_length (drop (feed + 1) s) ≡ block_length s
        length_turn t = omega (arith, rw t at feed_step)

pub length_start : (s : List ℕ) → 0 + block_length (drop 0 s) ≡ block_length s
length_start s = omega arith

-- c and d are what the code's tests of a byte gave
pub start_byte : (b : ℕ) (c d : Bool) → c ≡ is_digit b → d ≡ is_small b → (c || d) ≡ is_start b
start_byte b c d e f = rw (e, f)

pub ruleset start_laws = start_byte

pub ruleset length_laws = (length_start, length_end, length_past, length_boundary, length_turn)
