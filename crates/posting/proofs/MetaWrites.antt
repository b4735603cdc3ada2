-- Metadata as it is written, each answer from what the code knows where it gives it.
use Rattle.text.proofs.TestLaws.{tried}
use Rattle.text.specs.declared.stop.Stop.{Stop}
use Rattle.text.specs.steps.Told.{Reading}
use Rattle.text.specs.declared.stop.Cause.{Cause}
use Rattle.std.specs.Prelude.{None, Option, Some, Err, Ok}
use Prim.Native.Nat.{ℕ, ◌≤◌}
use native.Mathlib.Omega.{arith}
use mathlib.Core.Path.{◌≡◌, refl}
use mathlib.Core.List.{List, [], ◌∷◌}
use borrow.Author.Tests.{le-ltb}
use lib.ListN.{length}
use Rattle.text.specs.Answer.{Miss, ◌else◌}
use Rattle.text.specs.Leaves.{token, gap, empty_line}
use Rattle.text.specs.Lines.{gap_at, empty_at}
use Rattle.text.proofs.InLine.{gap_ends}
use Rattle.amount.specs.steps.Answers.{one_of}
use Rattle.amount.specs.declared.detail.Detail.{Detail}
use Rattle.amount.proofs.RowCounts.{fits_wide}
use Rattle.row.specs.steps.Pouring.{pour_at}
use Rattle.row.specs.steps.Writing.{laid, noted, Did}
use Rattle.row.specs.declared.writer.Out.{Out}
use Rattle.row.proofs.OutLaws.{poured_none}
use Rattle.row.proofs.DidLaws.{did_none, did_emit}
use Rattle.posting.specs.Metadata.{meta_line, meta_step, metadata}
use Rattle.posting.proofs.PostingEnds.{meta_step_reach}
use Rattle.posting.proofs.PostingFew.{meta_step_fits}
use Rattle.amount.proofs.OneRows.{one_read, one_miss, one_hard, token_miss}
use Rattle.posting.proofs.MetaLaws.{meta_row}
use Rattle.posting.proofs.OtherLines.{step_other}
use Rattle.row.proofs.ManyLaws.{Stepping, Runs, runs_start, runs_laws}

-- ---- a line: x is the answer of the metadata line, l that of the empty line

module _ (base : ℕ) (s : List ℕ) (at : ℕ) (o : Out) (t : List ℕ) (x : Reading Detail) (p : x ≡ one_of (meta_line s at)) where
  pub step_read : (e : ℕ) (d : Detail) (m : Out) (u : List ℕ) → x ≡ Ok (e, d) → m ≡ noted o d → u ≡ pour_at o.rows (laid base d ∷ []) t
      → Did base (meta_step s at) o t u (Ok (e, m))
  unfolding meta_step ◌else◌
  step_read e d m u q w v = rw (one_read x e d (meta_row s at) p q) (did_emit base o t e d d m u w v refl)

  module _ (q : x ≡ (Err Stop.Miss)) (l : Option ℕ) (w : l ≡ empty_at s at) where
    pub step_empty : (e : ℕ) → l ≡ Some e → Did base (meta_step s at) o t t (Ok (e, o))
    unfolding meta_step ◌else◌ empty_line token
    step_empty e n = rw (one_miss x (meta_row s at) p q, ← w, n) (did_none base o t e)

    pub step_miss : l ≡ None → Did base (meta_step s at) o t t (Err Stop.Miss)
    unfolding meta_step ◌else◌ empty_line token
    step_miss n = rw (one_miss x (meta_row s at) p q, ← w, n) (refl, poured_none o.rows t)

  pub step_hard : (k : Cause) (i : ℕ) (u : List ℕ) → x ≡ Err (Stop.Hard k i) → Did base (meta_step s at) o t u (Err (Stop.Hard k i))
  unfolding meta_step ◌else◌
  step_hard k i u q = rw (one_hard (meta_line s at) x k i p q) refl

-- ---- the loop

module _ (s : List ℕ) where
  line_end_lem : meta_line s (length s) ≡ Miss
  unfolding meta_line gap
  line_end_lem = token_miss (gap_at s (length s)) (gap_at s (length s)) refl _ (gap_ends s)

  step_end : meta_step s (length s) ≡ Miss
  unfolding meta_step ◌else◌ empty_line empty_at token
  step_end = rw (line_end_lem, le-ltb (length s) (length s) (omega arith))

  pub meta_stepping : Stepping (length s) (meta_step s)
  meta_stepping = record { text = s; reach = meta_step_reach s; fits = λ i h. fits_wide _ i _ (omega arith) (meta_step_fits s i h); ends = step_end }

  pub meta_start : (base at : ℕ) (o : Out) (t : List ℕ) → at ≤ length s → o.rows ≤ at → Runs base (length s) (meta_step s) (metadata s at) o t at o t
  unfolding metadata
  meta_start base at o t = runs_start base (length s) (meta_step s) at o t

pub ruleset step_laws = (tried, step_other, step_read, step_empty, step_miss, step_hard)

pub ruleset metadata_laws = (meta_stepping, meta_start, runs_laws)
