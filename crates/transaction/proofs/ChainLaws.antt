-- A transaction's parts one after the other, each answer from what the code knows where it gives it.
use Rattle.text.proofs.TestLaws.{tried}
use Rattle.text.specs.declared.stop.Stop.{Stop}
use Rattle.text.specs.steps.Told.{Reading}
use Rattle.std.specs.Prelude.{None, Option, Some, Err, Ok}
use Prim.Native.Nat.{ℕ, suc, ◌≤◌}
use native.Mathlib.Omega.{arith}
use mathlib.Core.Path.{◌≡◌, refl, sym, ◌∙◌, ap, subst}
use mathlib.Core.List.{List}
use lib.ListN.{length}
use Rattle.text.specs.Answer.{To, Miss, Hard, must, more, ◌and◌}
use Rattle.text.specs.Leaves.{token, line_end}
use Rattle.text.specs.Lines.{line_end_at}
use Rattle.text.proofs.Joins.{required, Reach, and_assoc, and_reach, must_reach, reach_from}
use Rattle.text.proofs.TokenEnds.{line_reach}
use Rattle.text.specs.Refusals.{missing}
use Rattle.amount.specs.Details.{Rows}
use Rattle.amount.specs.declared.detail.Detail.{Detail}
use Rattle.amount.proofs.RowCounts.{Kinds, any_kinds, part_kinds, FitsFrom, Fits, fits_at, fits_wide, must_fits, and_fits, maybe_fits}
use Rattle.row.specs.steps.Writing.{Did}
use Rattle.row.specs.declared.writer.Out.{Out}
use Rattle.row.proofs.OutLaws.{rows_outs}
use Rattle.row.proofs.SureLaws.{Sure, sure_must, sure_maybe, sure_many, sure_and}
use Rattle.row.proofs.DidLaws.{was_read, and_read, and_stop}
use Rattle.row.proofs.TokenLaws.{must_token_read, must_token_miss}
use Rattle.posting.specs.Metadata.{metadata}
use Rattle.posting.specs.Postings.{body}
use Rattle.posting.proofs.PostingEnds.{optional_reach, metadata_reach}
use Rattle.posting.proofs.PostingFew.{line_fits, metadata_fits}
use Rattle.posting.proofs.PostingAgree.{sure_metadata, sure_body}
use Rattle.posting.proofs.BodyWrites.{body_all}
use Rattle.transaction.specs.Transaction.{opening, texts, mark, marks, transaction}
use Rattle.transaction.specs.steps.Heads.{texts_of, marked_of, texted_of, head_of}
use Rattle.transaction.proofs.TransactionEnds.{opening_reach, texts_reach, marks_reach}
use Rattle.transaction.proofs.TransactionFew.{opening_fits, texts_fits, marks_fits}

-- ---- a part a that was read to e: its end is in the text, and no more rows are there than bytes before it

module _ (base : ℕ) (o : Out) (t v : List ℕ) (r : Reading Out) (a : Rows) (d : Did base a o t v r) (e : ℕ) (m : Out) (q : r ≡ Ok (e, m)) where
  pub part_within : (n at : ℕ) → Reach n at a → e ≤ n
  part_within n at R = let z = was_read base o t v r a e m d q in (subst (Reach n at) z.1 R).ends.1

  pub part_rows : {K : Kinds} {s : List ℕ} (at : ℕ) → FitsFrom K s at a → o.rows ≤ at → m.rows ≤ e
  part_rows at F h =
      let z = was_read base o t v r a e m d q in
      omega (arith, ap (λ (y : Out). y.rows) z.2.0, rows_outs z.0 o, (fits_at at e z.0 a F z.1).1)

-- and a line end: x is its answer
module _ (s : List ℕ) (at : ℕ) (x : Option ℕ) (p : x ≡ line_end_at s at) (f : ℕ) (q : x ≡ Some f) (h : at ≤ length s) where
  line_ends : (at ≤ f) × (f ≤ length s)
  unfolding line_end token
  line_ends = (subst (λ (z : Option ℕ). Reach (length s) at (token {A = Detail} z)) (sym p ∙ q) (line_reach s at h)).ends

  pub line_within : f ≤ length s
  line_within = line_ends.1

  pub line_rows : (k : ℕ) → k ≤ at → k ≤ f
  line_rows k l = omega (arith, line_ends)

pub ruleset chain = (part_within, part_rows, and_read, and_stop)

-- ---- the parts, which do not miss but for the opening

module _ (s : List ℕ) (at : ℕ) where
  sure_marks : Sure (marks s at)
  unfolding marks
  sure_marks = sure_many (mark s) (suc (length s)) at

  sure_texts : Sure (texts_of s at)
  unfolding texts_of
  sure_texts = sure_maybe at (texts s at)

module _ (s : List ℕ) where
  -- what follows the marks
  unfoldable pub ended : ℕ → Rows
  ended c = must missing c (line_end s c) and metadata s

  pub sure_ended : (at : ℕ) → Sure (ended at)
  unfolding ended
  sure_ended at = sure_and (metadata s) (sure_must missing at (line_end s at)) (sure_metadata s)

  pub sure_marked : (at : ℕ) → Sure (marked_of s at)
  unfolding marked_of ended
  sure_marked at = sure_and ended (sure_marks s at) sure_ended

  pub sure_texted : (at : ℕ) → Sure (texted_of s at)
  unfolding texted_of
  sure_texted at = sure_and (marked_of s) (sure_texts s at) sure_marked

-- ---- the wholes, each a part and what follows it

module _ (s : List ℕ) (at : ℕ) where
  pub marked_is : marked_of s at ≡ (marks s at and ended s)
  unfolding marked_of ended
  marked_is = refl

  pub texted_is : texted_of s at ≡ (texts_of s at and marked_of s)
  unfolding texted_of
  texted_is = refl

  pub head_is : head_of s at ≡ (opening s at and texted_of s)
  unfolding head_of
  head_is = refl

  pub texts_of_reach : at ≤ length s → Reach (length s) at (texts_of s at)
  unfolding texts_of
  texts_of_reach h = optional_reach (length s) at (texts s at) h (texts_reach s at h)

  pub texts_of_fits : at ≤ length s → FitsFrom part_kinds s at (texts_of s at)
  unfolding texts_of
  texts_of_fits h = maybe_fits at (texts s at) (texts_fits s at h)

-- a required line end, and then metadata: x is the line end's answer
module _ (base : ℕ) (s : List ℕ) (at : ℕ) (o : Out) (t : List ℕ) (x : Option ℕ) (p : x ≡ line_end_at s at) where
  pub ended_on : (f : ℕ) (u : List ℕ) (q : Reading Out) → x ≡ Some f → Did base (metadata s f) o t u q → Did base (ended s at) o t u q
  unfolding ended line_end
  ended_on f u q l k = must_token_read base o t x (line_end_at s at) p (metadata s) missing at f u q l k

  pub ended_open : (u : List ℕ) → x ≡ None → Did base (ended s at) o t u (Err (Stop.Hard missing at))
  unfolding ended line_end
  ended_open u l = must_token_miss base o t x (line_end_at s at) p (metadata s) missing at u l

pub ruleset marked_laws = (tried, chain, marked_is, sure_ended, marks_reach, marks_fits, line_within, line_rows, ended_on, ended_open)

pub ruleset texted_laws = (chain, texted_is, sure_marked, texts_of_reach, texts_of_fits)

pub ruleset head_laws = (chain, head_is, sure_texted, opening_reach, opening_fits)

-- ---- the head and what follows it

and_same : (a : Rows) (g h : ℕ → Rows) → ((j : ℕ) → g j ≡ h j) → (a and g) ≡ (a and h)
unfolding ◌and◌
and_same (To j xs) g h f = ap (more xs) (f j)
and_same Miss g h f = refl
and_same (Hard k p) g h f = refl

module _ (s : List ℕ) where
  -- the required line end and metadata, and the body
  ended_body : (c : ℕ) → (ended s c and body s) ≡ (must missing c (line_end s c) and λ d. metadata s d and body s)
  unfolding ended
  ended_body c = and_assoc (must missing c (line_end s c)) (metadata s) (body s)

  marked_body : (b : ℕ) → (marked_of s b and body s) ≡ (marks s b and λ c. must missing c (line_end s c) and λ d. metadata s d and body s)
  marked_body b =
      ap (λ a. a and body s) (marked_is s b) ∙ and_assoc (marks s b) (ended s) (body s) ∙ and_same (marks s b) (λ c. ended s c and body s) _ ended_body

  texted_body : (a : ℕ) → (texted_of s a and body s) ≡ (texts_of s a and λ b. marks s b and λ c. must missing c (line_end s c) and λ d. metadata s d and body s)
  texted_body a =
      ap (λ x. x and body s) (texted_is s a) ∙ and_assoc (texts_of s a) (marked_of s) (body s) ∙ and_same (texts_of s a) (λ b. marked_of s b and body s) _ marked_body

  -- what opens it, and all that follows
  pub opening_is : (at : ℕ) → transaction s at ≡ (opening s at and λ a. texted_of s a and body s)
  unfolding transaction texts_of
  opening_is at = sym (and_same (opening s at) (λ a. texted_of s a and body s) _ texted_body)

  pub transaction_is : (at : ℕ) → transaction s at ≡ (head_of s at and body s)
  transaction_is at = opening_is at ∙ sym (ap (λ x. x and body s) (head_is s at) ∙ and_assoc (opening s at) (texted_of s) (body s))

  -- ---- where a head ends, and its rows

  pub texted_reach : (at : ℕ) → at ≤ length s → Reach (length s) at (texted_of s at)
  unfolding texted_of marked_of
  texted_reach a h =
      let N = length s in
      and_reach N a a (texts_of s a) _ (texts_of_reach s a h) (λ b p₂ q₂.
      and_reach N b a (marks s b) _ (marks_reach s b q₂) (λ c p₃ q₃.
      and_reach N c a (must missing c (line_end s c)) _ (must_reach N c required c _ q₃ (line_reach s c q₃)) (λ d p₄ q₄.
      reach_from N d a (metadata s d) (omega arith) (metadata_reach s d q₄))))

  pub head_reach : (at : ℕ) → at ≤ length s → Reach (length s) at (head_of s at)
  unfolding head_of
  head_reach at h =
      and_reach (length s) at at (opening s at) _ (opening_reach s at h) (λ a p q. reach_from (length s) a at (texted_of s a) p (texted_reach a q))

  pub texted_unflagged : (at : ℕ) → at ≤ length s → Fits s at (texted_of s at)
  unfolding texted_of marked_of
  texted_unflagged a h =
      let N = length s in
      and_fits N a a (texts_of s a) _ (texts_of_reach s a h) (fits_wide _ a _ (omega arith) (texts_of_fits s a h)) (λ b p₂ q₂.
      and_fits N b b (marks s b) _ (marks_reach s b q₂) (fits_wide _ b _ (omega arith) (marks_fits s b q₂)) (λ c p₃ q₃.
      and_fits N c c (must missing c (line_end s c)) _ (must_reach N c required c _ q₃ (line_reach s c q₃)) (must_fits c missing c _ (line_fits s c q₃)) (λ d p₄ q₄.
      fits_wide _ d _ (omega arith) (metadata_fits s d q₄))))

  pub head_fits : (at : ℕ) → at ≤ length s → FitsFrom any_kinds s at (head_of s at)
  unfolding head_of
  head_fits at h =
      and_fits (length s) at at (opening s at) _ (opening_reach s at h) (fits_wide _ at _ (omega arith) (opening_fits s at h)) (λ a p q.
      fits_wide _ a _ (omega arith) (texted_unflagged a q))

pub ruleset transaction_laws = (chain, transaction_is, sure_body, head_reach, head_fits, body_all)
