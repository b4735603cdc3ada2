-- Lines that are neither metadata nor empty: after blanks a capital or a digit stands.
use Rattle.text.specs.declared.stop.Stop.{Stop}
use Rattle.std.specs.Prelude.{None, Some, Err, Option}
use Prim.Native.Nat.{ℕ, ◌≤◌, ◌<◌}
use native.Mathlib.Omega.{arith}
use mathlib.Core.Path.{◌≡◌, refl, sym, ◌∙◌}
use mathlib.Core.Bool.{Bool, true, false, cond, ◌||◌}
use mathlib.Core.List.{List}
use borrow.Author.Tests.{ne_eqb, lt-leb, leb-true}
use lib.Dec.{ltb, leb}
use lib.ListN.{length, get_or}
use Rattle.text.specs.Bytes.{is_digit, is_small, is_capital, starts_part}
use Rattle.text.specs.Run.{blanks}
use Rattle.text.specs.Answer.{Miss, ◌and◌, ◌else◌}
use Rattle.text.specs.Leaves.{token, gap, empty_line}
use Rattle.text.specs.Lines.{gap_at, comment_end, eol_at, line_end_at, empty_at}
use Rattle.text.proofs.Steps.{byte_within}
use Rattle.text.proofs.TestLaws.{and_left, and_right}
use Rattle.row.specs.steps.Writing.{Did}
use Rattle.row.specs.declared.writer.Out.{Out}
use Rattle.row.proofs.DidLaws.{did_miss}
use Rattle.posting.specs.Metadata.{key_at, key, meta_line, meta_step}
use Rattle.posting.specs.steps.Lines.{value_end, gap_value, colon_value, keyed_line}
use Rattle.amount.proofs.OneRows.{token_to, token_miss}

part_bounds : (c : ℕ) → starts_part c ≡ true → (48 ≤ c) × (c ≤ 90) × (c ≡ 59 → ⊥)
unfolding starts_part is_capital is_digit
part_bounds c h = go (is_capital c) refl h
  where
    go : (t : Bool) → is_capital c ≡ t → (t || is_digit c) ≡ true → (48 ≤ c) × (c ≤ 90) × (c ≡ 59 → ⊥)
    go true e h =
        let a = leb-true 65 c (and_left (leb 65 c) (leb c 90) e) in
        let b = leb-true c 90 (and_right (leb 65 c) (leb c 90) e) in
        (omega arith, b, λ q. omega arith)
    go false e h =
        let a = leb-true 48 c (and_left (leb 48 c) (leb c 57) h) in
        let b = leb-true c 57 (and_right (leb 48 c) (leb c 57) h) in
        (a, omega arith, λ q. omega arith)

part_not_small : (c : ℕ) → c ≤ 90 → is_small c ≡ false
unfolding is_small
part_not_small c h = rw (lt-leb 97 c (omega arith))

module _ (s : List ℕ) (at : ℕ) (h : starts_part (get_or s (blanks s at) 0) ≡ true) where
  bounds : (48 ≤ get_or s (blanks s at) 0) × (get_or s (blanks s at) 0 ≤ 90) × (get_or s (blanks s at) 0 ≡ 59 → ⊥)
  bounds = part_bounds (get_or s (blanks s at) 0) h

  inside : blanks s at < length s
  inside = byte_within s (blanks s at) (get_or s (blanks s at) 0) refl (omega (arith, bounds.0))

  other_key : keyed_line s (blanks s at) ≡ Miss
  unfolding keyed_line key key_at
  other_key = rw (part_not_small (get_or s (blanks s at) 0) bounds.1) (token_miss None None refl _ refl)

  other_line : meta_line s at ≡ Miss
  unfolding meta_line gap gap_at keyed_line colon_value gap_value value_end
  other_line = go (ltb at (blanks s at))
    where
      go : (t : Bool) → (token (cond t (Some (blanks s at)) None) and keyed_line s) ≡ Miss
      go true = token_to (Some (blanks s at)) (Some (blanks s at)) refl (keyed_line s) (blanks s at) refl ∙ other_key
      go false = token_miss None None refl (keyed_line s) refl

  other_empty : empty_at s at ≡ None
  unfolding empty_at line_end_at comment_end eol_at
  other_empty =
      let b = bounds in
      let c = get_or s (blanks s at) 0 in
      rw (ne_eqb c 59 b.2, ne_eqb c 10 (λ q. omega arith), ne_eqb c 13 (λ q. omega arith), lt-leb (length s) (blanks s at) inside) (go (ltb at (length s)))
    where
      go : (t : Bool) → ◌≡◌ {A = Option ℕ} (cond t None None) None
      go true = refl
      go false = refl

  other_step : meta_step s at ≡ Miss
  unfolding meta_step ◌else◌ empty_line token
  other_step = rw (other_line, other_empty)

pub step_other : (base : ℕ) (s : List ℕ) (at : ℕ) (o : Out) (t : List ℕ) (b : Bool) → b ≡ starts_part (get_or s (blanks s at) 0) → b ≡ true
    → Did base (meta_step s at) o t t (Err Stop.Miss)
step_other base s at o t b e h = did_miss base o t (meta_step s at) (other_step s at (sym e ∙ h))
