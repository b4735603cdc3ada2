-- Postings with their metadata, and the lines after a transaction's head, each answer from what the code knows where it
-- gives it.
use Rattle.text.proofs.TestLaws.{tried}
use Rattle.text.specs.declared.stop.Stop.{Stop}
use Rattle.text.specs.steps.Told.{Reading}
use Rattle.text.specs.declared.stop.Cause.{Cause}
use Rattle.std.specs.Prelude.{None, Option, Some, Err, Ok}
use Prim.Native.Nat.{ℕ, suc, ◌+◌, ◌-◌, ◌≤◌, ◌<◌}
use native.Mathlib.Omega.{arith}
use mathlib.Core.Path.{◌≡◌, refl, ap, subst}
use mathlib.Core.List.{List}
use borrow.Author.Tests.{le-ltb}
use lib.ListN.{length}
use Rattle.text.specs.Answer.{Miss, ◌else◌, ◌and◌, many}
use Rattle.text.specs.Leaves.{token, gap, empty_line}
use Rattle.text.specs.Lines.{gap_at, empty_at}
use Rattle.text.proofs.Joins.{Reach}
use Rattle.text.specs.Permitted.{size_limit}
use Rattle.amount.specs.declared.detail.Detail.{Detail}
use Rattle.amount.specs.Details.{Rows}
use Rattle.amount.proofs.RowCounts.{fits_at}
use Rattle.row.specs.steps.Writing.{Did, Readable}
use Rattle.row.specs.declared.writer.Out.{Out}
use Rattle.row.proofs.OutLaws.{rows_outs, poured_none}
use Rattle.row.proofs.DidLaws.{did_none, was_read, and_read, and_stop, else_kept, else_miss, else_hard}
use Rattle.posting.specs.Metadata.{metadata}
use Rattle.posting.specs.Postings.{posting_line, posting, body_step, body}
use Rattle.posting.proofs.PostingEnds.{posting_line_reach, body_step_reach}
use Rattle.posting.proofs.PostingFew.{posting_line_fits, body_step_fits}
use Rattle.amount.proofs.OneRows.{token_miss}
use Rattle.row.proofs.ManyLaws.{Stepping, Turns, turns_start, turns_out, turns_next, turns_stop, turns_halt}
use Rattle.text.proofs.InLine.{gap_ends}

-- ---- a posting and its metadata: x is the posting's answer

module _ (base : ℕ) (s : List ℕ) (at : ℕ) (o : Out) (t v : List ℕ) (x : Reading Out) (d : Did base (posting_line s at) o t v x) where
  pub posting_room : (e : ℕ) (m : Out) → x ≡ Ok (e, m) → base ≤ size_limit → length s ≤ size_limit → at ≤ length s → o.rows ≤ at → Readable base s e m
  posting_room e m q b n h l =
      let z = was_read base o t v x (posting_line s at) e m d q in
      let f = fits_at at e z.0 (posting_line s at) (posting_line_fits s at h) z.1 in
      let r = (subst (Reach (length s) (at + 1)) z.1 (posting_line_reach s at h)).ends in
      (b, n, r.1, omega (arith, ap (λ (y : Out). y.rows) z.2.0, rows_outs z.0 o, f.1))

  pub posting_read : (e : ℕ) (m : Out) (u : List ℕ) (r : Reading Out) → x ≡ Ok (e, m) → Did base (metadata s e) m v u r → Did base (posting s at) o t u r
  unfolding posting
  posting_read e m u r q h = and_read base o t v x (posting_line s at) (metadata s) d e m u r q h

  pub posting_stop : (stop : Stop) → x ≡ Err stop → Did base (posting s at) o t v (Err stop)
  unfolding posting
  posting_stop stop q = and_stop base o t v x (posting_line s at) (metadata s) d stop q

pub ruleset posting_laws = (posting_room, posting_read, posting_stop)

-- ---- a posting, else an empty line: x is the posting's answer, l that of the empty line

module _ (base : ℕ) (s : List ℕ) (at : ℕ) (o : Out) (t v : List ℕ) (x : Reading Out) (d : Did base (posting s at) o t v x) where
  pub body_kept : (y : ℕ × Out) → x ≡ Ok y → Did base (body_step s at) o t v x
  unfolding body_step
  body_kept y q = else_kept base o t v x (posting s at) (empty_line s at) d y q

  module _ (q : x ≡ (Err Stop.Miss)) (l : Option ℕ) (w : l ≡ empty_at s at) where
    pub body_empty : (e : ℕ) → l ≡ Some e → Did base (body_step s at) o t v (Ok (e, o))
    unfolding body_step empty_line token
    body_empty e k = else_miss base o t v x (posting s at) (token (empty_at s at)) d v (Ok (e, o)) q (rw (← w, k) (did_none base o v e))

    pub body_miss : l ≡ None → Did base (body_step s at) o t v (Err Stop.Miss)
    unfolding body_step empty_line token
    body_miss k = else_miss base o t v x (posting s at) (token (empty_at s at)) d v (Err Stop.Miss) q (rw (← w, k) (refl, poured_none o.rows v))

  pub body_hard : (k : Cause) (p : ℕ) (u : List ℕ) → x ≡ Err (Stop.Hard k p) → Did base (body_step s at) o t u (Err (Stop.Hard k p))
  unfolding body_step
  body_hard k p u q = else_hard base o t v x (posting s at) (empty_line s at) d k p u q

pub ruleset body_step_laws = (tried, body_kept, body_empty, body_miss, body_hard)

-- ---- the loop

module _ (s : List ℕ) where
  empty_end : empty_line {A = Detail} s (length s) ≡ Miss
  unfolding empty_line empty_at token
  empty_end = rw (le-ltb (length s) (length s) (omega arith))

  posting_end : posting s (length s) ≡ Miss
  unfolding posting posting_line gap ◌and◌
  posting_end = rw (token_miss (gap_at s (length s)) (gap_at s (length s)) refl _ (gap_ends s))

  body_end : body_step s (length s) ≡ Miss
  unfolding body_step ◌else◌
  body_end = rw (posting_end, empty_end)

  pub body_stepping : Stepping (length s) (body_step s)
  body_stepping = record { text = s; reach = body_step_reach s; fits = body_step_fits s; ends = body_end }

  pub body_start : (base d at : ℕ) (o : Out) (t : List ℕ) → at ≤ length s → o.rows ≤ at
      → Turns base (length s) (body_step s) (many (body_step s) d at) o t d at o t
  body_start base d at o t = turns_start base (length s) (body_step s) d at o t

  pub body_room : (base : ℕ) (a : Rows) (o₀ : Out) (t₀ : List ℕ) (d i : ℕ) (o : Out) (t : List ℕ) → Turns base (length s) (body_step s) a o₀ t₀ d i o t
      → base ≤ size_limit → length s ≤ size_limit → Readable base s i o
  body_room base a o₀ t₀ d i o t R b n = (b, n, R.inside, R.few)

-- after k of m turns
module _ (s : List ℕ) (base : ℕ) (a : Rows) (o₀ : Out) (t₀ : List ℕ) (m k i : ℕ) (o : Out) (t : List ℕ)
    (T : Turns base (length s) (body_step s) a o₀ t₀ (m - k) i o t) where
  pub body_out : m ≤ k → Did base a o₀ t₀ t (Ok (i, o))
  body_out h = turns_out base (length s) (body_step s) a o₀ t₀ (m - k) i o t T (omega (arith, h))

  module _ (v : List ℕ) (r : Reading Out) (D : Did base (body_step s i) o t v r) (h : k < m) where
    pub body_next : (e : ℕ) (x : Out) → r ≡ Ok (e, x) → length v ≡ length t → Turns base (length s) (body_step s) a o₀ t₀ (m - (k + 1)) e x v
    body_next e x q l =
        let one-less : m - k - 1 ≡ m - (k + 1) = omega arith in
        rw (← one-less) (turns_next base (length s) (body_step s) a o₀ t₀ (m - k) i o t T (body_stepping s) v r D e x q l (omega (arith, h)))

    pub body_halt : (c : Cause) (p : ℕ) (u : List ℕ) → r ≡ Err (Stop.Hard c p) → Did base a o₀ t₀ u (Err (Stop.Hard c p))
    body_halt c p u q = turns_halt base (length s) (body_step s) a o₀ t₀ (m - k) i o t T (body_stepping s) v r D c p u q (omega (arith, h))

pub ruleset body_laws = (body_stepping, body_start, body_room, body_out, body_next, body_halt, turns_stop)

-- as many steps as there may be
pub body_all : (s : List ℕ) (base at : ℕ) (o : Out) (t u : List ℕ) (r : Reading Out) → Did base (many (body_step s) (length s + 1) at) o t u r → Did base (body s at) o t u r
unfolding body
body_all s base at o t u r d = let k : length s + 1 ≡ suc (length s) = omega arith in rw k at d
