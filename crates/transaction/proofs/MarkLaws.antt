-- The answers at tags and links, each from what the code knows where it gives it.
use Rattle.text.proofs.TestLaws.{tried}
use Rattle.text.specs.steps.Told.{Reading}
use Rattle.text.specs.declared.stop.Stop.{Stop}
use Rattle.std.specs.Prelude.{None, Option, Some, Err, Ok}
use Prim.Native.Nat.{ℕ, ◌+◌, ◌^◌, ◌≤◌, ◌<◌}
use native.Mathlib.Omega.{arith}
use mathlib.Core.Path.{◌≡◌, sym, ◌∙◌, subst}
use mathlib.Core.List.{List, [], ◌∷◌}
use mir.Syntax.{w64}
use mir.Val.{Fits}
use lib.ListN.{length}
use Rattle.text.specs.Bytes.{is_blank, in_tag, in_link}
use Rattle.text.specs.Run.{blanks}
use Rattle.text.specs.Answer.{To, Miss, ◌else◌, ◌and◌}
use Rattle.text.specs.Leaves.{token, tag, link}
use Rattle.text.specs.Tags.{tag_at, link_at}
use Rattle.text.proofs.Steps.{run_ends}
use Rattle.text.proofs.Joins.{Reach}
use Rattle.text.proofs.TagLaws.{marked_past}
use Rattle.text.proofs.TokenEnds.{tag_reach, link_reach}
use Rattle.amount.specs.Details.{span}
use Rattle.amount.specs.steps.Answers.{one_of}
use Rattle.amount.specs.declared.detail.Detail.{Detail}
use Rattle.row.specs.declared.writer.Out.{Out}
use Rattle.amount.proofs.OneRows.{OneRow, row, token_to, token_miss, token_row, else_row}
use Rattle.row.proofs.ManyLaws.{Runs, runs_start}
use Rattle.row.proofs.SingleLaws.{Single, single_laws}
use Rattle.transaction.specs.Transaction.{mark, marks}
use Rattle.transaction.specs.steps.Heads.{link_mark}
use Rattle.transaction.proofs.TransactionEnds.{mark_reach}
use Rattle.amount.proofs.RowCounts.{fits_wide}
use Rattle.transaction.proofs.TransactionFew.{mark_fits}

-- ---- a link: x is its answer

module _ (s : List ℕ) (b : ℕ) (x : Option ℕ) (p : x ≡ link_at s b) where
  pub link_read : (e : ℕ) (d : Detail) → x ≡ Some e → d ≡ span 24 (b + 1) e → Ok (e, d) ≡ one_of (link_mark s b)
  unfolding link_mark link one_of
  link_read e d q w = rw (token_to x (link_at s b) p (λ e. To e (span 24 (b + 1) e ∷ [])) e q, w)

  pub link_miss : x ≡ None → (Err Stop.Miss) ≡ one_of (link_mark s b)
  unfolding link_mark link one_of
  link_miss q = rw (token_miss x (link_at s b) p (λ e. To e (span 24 (b + 1) e ∷ [])) q)

  pub link_fits : (e : ℕ) → x ≡ Some e → length s < 2 ^ 64 → Fits w64 (b + 1)
  unfolding link token
  link_fits e q l =
      let r = subst (λ (z : Option ℕ). Reach (length s) (b + 1) (token {A = Detail} z)) (sym p ∙ q) (link_reach s b) in
      record { fits = omega (arith, r.ends) }

pub ruleset link_laws = (tried, link_read, link_miss, link_fits)

-- ---- a mark: b is past the blanks, x the tag's answer

module _ (s : List ℕ) (at b : ℕ) (h : b ≡ blanks s at) (x : Option ℕ) (p : x ≡ tag_at s b) where
  pub mark_tag : (e : ℕ) (d : Detail) → x ≡ Some e → d ≡ span 23 (b + 1) e → Ok (e, d) ≡ one_of (mark s at)
  unfolding mark tag ◌else◌ one_of
  mark_tag e d q w = rw (← h, token_to x (tag_at s b) p (λ e. To e (span 23 (b + 1) e ∷ [])) e q, w)

  pub mark_link : (o : Reading Detail) → x ≡ None → o ≡ one_of (link_mark s b) → o ≡ one_of (mark s at)
  unfolding mark link_mark tag ◌else◌
  mark_link o q w = rw (← h, token_miss x (tag_at s b) p (λ e. To e (span 23 (b + 1) e ∷ [])) q) w

  pub tag_fits : (e : ℕ) → x ≡ Some e → length s < 2 ^ 64 → Fits w64 (b + 1)
  unfolding tag token
  tag_fits e q l =
      let r = subst (λ (z : Option ℕ). Reach (length s) (b + 1) (token {A = Detail} z)) (sym p ∙ q) (tag_reach s b) in
      record { fits = omega (arith, r.ends) }

pub ruleset mark_laws = (mark_tag, mark_link, tag_fits)

-- ---- marks

module _ (s : List ℕ) where
  mark_row : (at : ℕ) → OneRow (mark s at)
  unfolding mark tag link
  mark_row at =
      let b = blanks s at in
      else_row _ _ (token_row (tag_at s b) _ (λ e. row e (span 23 (b + 1) e) (omega arith))) (token_row (link_at s b) _ (λ e. row e (span 24 (b + 1) e) (omega arith)))

  mark_end : mark s (length s) ≡ Miss
  unfolding mark tag link token ◌and◌ ◌else◌
  mark_end =
      let N = length s in
      rw (run_ends is_blank s N (omega arith), ← marked_past 35 in_tag s N (omega arith) (omega arith), ← marked_past 94 in_link s N (omega arith) (omega arith))

  pub mark_single : Single (length s) (mark s)
  mark_single =
      record { stepping = record { text = s; reach = mark_reach s; fits = λ i h. fits_wide _ i _ (omega arith) (mark_fits s i h); ends = mark_end }; row = mark_row }

  pub marks_start : (base at : ℕ) (o : Out) (t : List ℕ) → at ≤ length s → o.rows ≤ at → Runs base (length s) (mark s) (marks s at) o t at o t
  unfolding marks
  marks_start base at o t = runs_start base (length s) (mark s) at o t

pub ruleset marks_laws = (mark_single, marks_start, single_laws)
