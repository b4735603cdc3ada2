-- Recovering reading: its answers and its table, each from what the code knows where it answers.
use Rattle.text.specs.declared.stop.Refused.{Refused}
use Rattle.ledger.proofs.ReadLaws.{too_short_by}
use Rattle.text.specs.Refusals.{refused_with}
use Rattle.std.specs.Prelude.{Err, Ok}
use Prim.Native.Nat.{ℕ, suc, ◌*◌, ◌-◌, ◌≤◌, ◌<◌}
use native.Mathlib.Omega.{arith}
use mathlib.Core.Path.{◌≡◌, sym, ◌∙◌, ap, subst}
use mathlib.Core.List.{List, map}
use borrow.Author.Tests.{le-leb, lt-leb}
use borrow.Rule.Slice.PartMut.{put_mid}
use lib.ListN.{length, take, drop, length-map}
use Rattle.text.specs.Permitted.{size_limit}
use Rattle.amount.proofs.RowCounts.{refusal_kind}
use Rattle.row.specs.declared.table.Row.{Row}
use Rattle.row.specs.Row.{room, width}
use Rattle.row.specs.steps.Pouring.{pour}
use Rattle.row.specs.steps.Sweep.{lines_set}
use Rattle.ledger.specs.Plain.{accepted, denied}
use Rattle.ledger.specs.Answers.{answer, left}
use Rattle.ledger.specs.steps.Scan.{with_line}
use Rattle.ledger.specs.declared.scan.Profile.{Profile}
use Rattle.ledger.proofs.LinedRows.{lines_left}
use Rattle.recovery.specs.Recovering.{recover_by, recovered_by}
use Rattle.recovery.specs.steps.Front.{unlined, Front}
use Rattle.recovery.proofs.FrontLaws.{front_filled}
use Rattle.recovery.proofs.BlocksLaws.{recover_kept}

module _ (K : Profile) where
  -- ---- refusal 1

  module _ (s : List ℕ) (h : size_limit < length s) where
    recovered_large : recovered_by K s ≡ denied 1 0
    unfolding recovered_by
    recovered_large = rw (lt-leb (length s) size_limit h)

    pub large_answer : (room : ℕ) (r : Refused) → r ≡ refused_with 1 0 0 → Err r ≡ answer (recovered_by K s) room
    unfolding answer
    large_answer room r q = rw (recovered_large, q)

    pub large_left : (t : List ℕ) → t ≡ left (recovered_by K s) t
    unfolding left
    large_left t = rw recovered_large

  -- ---- n rows are wanted

  module _ (s : List ℕ) (l : length s ≤ size_limit) (n : ℕ) (e : n ≡ length (unlined K s)) (t : List ℕ) where
    abbrev all_rows : List Row
    all_rows = recover_by K (length s) 0 0 s

    recovered_rows : recovered_by K s ≡ accepted all_rows
    unfolding recovered_by
    recovered_rows = rw (le-leb (length s) size_limit l)

    wanted : n ≡ length all_rows
    unfolding unlined
    wanted = e ∙ length-map all_rows (with_line 0)

    module _ (h : room t < n) where
      short : room t < length all_rows
      short = omega (arith, wanted)

      pub short_answer : Err (refused_with 9 0 n) ≡ answer (recovered_by K s) (room t)
      unfolding answer
      short_answer = ap (λ (z : ℕ). too_short_by z) wanted ∙ rw (recovered_rows, lt-leb (length all_rows) (room t) short)

      pub short_left : t ≡ left (recovered_by K s) t
      unfolding left
      short_left = rw (recovered_rows, lt-leb (length all_rows) (room t) short)

    module _ (h : n ≤ room t) where
      enough : length all_rows ≤ room t
      enough = omega (arith, wanted)

      pub rows_answer : Ok n ≡ answer (recovered_by K s) (room t)
      unfolding answer
      rows_answer = ap Ok wanted ∙ rw (recovered_rows, le-leb (length all_rows) (room t) enough)

      pub rows_left : (v u : List ℕ) → length v ≡ length (take (n * width - 0) (drop 0 t)) → Front (unlined K s) (take (n * width - 0) (drop 0 t)) v
          → u ≡ lines_set s n (put_mid 0 (n * width - 0) t v) → u ≡ left (recovered_by K s) t
      unfolding unlined
      rows_left v u k p q =
          let z : n * width - 0 ≡ n * width = omega arith in
          q
          ∙ ap (λ x. lines_set s n (put_mid 0 x t v)) z
          ∙ ap (lines_set s n) (front_filled (map (with_line 0) all_rows) n t v e (omega arith) (rw z at k) (subst (λ x. Front (map (with_line 0) all_rows) (take x (drop 0 t)) v) z p))
          ∙ ap (λ x. lines_set s x (pour (map (with_line 0) all_rows) t)) wanted
          ∙ lines_left (suc refusal_kind) s all_rows t (recover_kept K (length s) 0 0 s) l enough
          ∙ ap (λ x. left x t) (sym recovered_rows)

pub ruleset recover_laws = (large_answer, large_left, short_answer, short_left, rows_answer, rows_left)
