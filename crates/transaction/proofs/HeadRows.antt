-- A transaction is its head and its body; no row of the head is a posting's.
use Prim.Native.Nat.{ℕ, ◌≤◌}
use native.Mathlib.Omega.{arith}
use mathlib.Core.Path.{◌≡◌, refl, sym, ◌∙◌, ap, subst}
use mathlib.Core.List.{List, ◌++◌}
use lib.ListN.{length}
use Rattle.text.specs.Answer.{To, Miss, Hard, ◌and◌, more, must}
use Rattle.text.specs.Leaves.{line_end}
use Rattle.text.proofs.Joins.{required, Reach, must_reach}
use Rattle.text.proofs.TokenEnds.{line_reach}
use Rattle.text.specs.Refusals.{missing}
use Rattle.amount.specs.declared.detail.Detail.{Detail}
use Rattle.amount.specs.Details.{Rows}
use Rattle.amount.proofs.RowCounts.{Kinds, head_kinds, part_kinds, meta_kinds, FitsFrom, must_fits}
use Rattle.row.proofs.SureLaws.{Sure, sure_to, sure_hard}
use Rattle.posting.specs.Postings.{body}
use Rattle.posting.proofs.PostingFew.{line_fits, metadata_fits}
use Rattle.posting.proofs.PostingAgree.{sure_body}
use Rattle.posting.proofs.StepRows.{Others, others_append, Apart, rising_others, below, above}
use Rattle.transaction.specs.Transaction.{opening, marks, transaction}
use Rattle.transaction.specs.steps.Heads.{texts_of, marked_of, texted_of, head_of}
use Rattle.transaction.proofs.TransactionEnds.{opening_reach, marks_reach}
use Rattle.transaction.proofs.TransactionFew.{opening_fits, marks_fits}
use Rattle.transaction.proofs.ChainLaws.{texts_of_reach, texts_of_fits, transaction_is}

abbrev OnlyOthers : Rows → Type 0
OnlyOthers (To j ds) = Others ds
OnlyOthers Miss = Unit {0}
OnlyOthers (Hard k p) = Unit {0}

fits_others : (K : Kinds) → Apart K → {s : List ℕ} (k : ℕ) (a : Rows) → FitsFrom K s k a → OnlyOthers a
fits_others K h {s} k (To j ds) f = rising_others K h s k j ds f.rows.0
fits_others K h k Miss f = tt
fits_others K h k (Hard i p) f = tt

and_others : (n i : ℕ) (a : Rows) (g : ℕ → Rows) → Reach n i a → OnlyOthers a → ((j : ℕ) → j ≤ n → OnlyOthers (g j)) → OnlyOthers (a and g)
unfolding ◌and◌ more
and_others n i (To j xs) g r h f = on (g j) (f j r.ends.1)
  where
    on : (a : Rows) → OnlyOthers a → OnlyOthers (more xs a)
    on (To k ys) q = others_append xs ys h q
    on Miss q = tt
    on (Hard k p) q = tt
and_others n i Miss g r h f = tt
and_others n i (Hard k p) g r h f = tt

module _ (s : List ℕ) where
  abbrev N : ℕ
  N = length s

  head_others : (at : ℕ) → at ≤ N → OnlyOthers (head_of s at)
  unfolding head_of texted_of marked_of
  head_others at h =
      and_others N at (opening s at) _ (opening_reach s at h) (fits_others head_kinds (λ k o. (omega (arith, o), omega (arith, o), λ e. omega (arith, o))) at _ (opening_fits s at h)) (λ a q₁.
      and_others N a (texts_of s a) _ (texts_of_reach s a q₁) (fits_others part_kinds below a _ (texts_of_fits s a q₁)) (λ b q₂.
      and_others N b (marks s b) _ (marks_reach s b q₂) (fits_others part_kinds below b _ (marks_fits s b q₂)) (λ c q₃.
      and_others N c (must missing c (line_end s c)) _ (must_reach N c required c _ q₃ (line_reach s c q₃)) (fits_others part_kinds below c _ (must_fits c missing c _ (line_fits s c q₃))) (λ d q₄.
      fits_others meta_kinds above d _ (metadata_fits s d q₄)))))

-- a transaction at g that was read to n: its head, to e, and its body
pub record Parted (s : List ℕ) (g n : ℕ) (ds : List Detail) : Type 0 where
  pub e : ℕ
  pub front : List Detail
  pub posts : List Detail
  pub head : head_of s g ≡ To e front
  pub rest : body s e ≡ To n posts
  pub all : ds ≡ front ++ posts
  pub others : Others front

pub transaction_parted : (s : List ℕ) (g n : ℕ) (ds : List Detail) → g ≤ length s → transaction s g ≡ To n ds → Parted s g n ds
unfolding ◌and◌ more
transaction_parted s g n ds h q = on (head_of s g) refl (sym (transaction_is s g) ∙ q)
  where
    never : {a : Rows} → Sure a → a ≡ Miss → ⊥
    never sure_to z = let y : ◌≡◌ {A = ℕ} 0 1 = cc in omega arith
    never sure_hard z = let y : ◌≡◌ {A = ℕ} 0 1 = cc in omega arith

    behind : (e : ℕ) (hs : List Detail) (b : Rows) → head_of s g ≡ To e hs → body s e ≡ b → more hs b ≡ To n ds → Parted s g n ds
    behind e hs (To m bs) w v z =
        let i : m ≡ n = cc in
        record { e = e; front = hs; posts = bs; head = w; rest = v ∙ ap (λ (x : ℕ). To x bs) i; all = cc; others = subst OnlyOthers w (head_others s g h) }
    behind e hs Miss w v z = absurd (never (sure_body s e) v)
    behind e hs (Hard k p) w v z = absurd (let y : ◌≡◌ {A = ℕ} 0 1 = cc in omega arith)

    on : (a : Rows) → head_of s g ≡ a → (a and body s) ≡ To n ds → Parted s g n ds
    on (To e hs) w z = behind e hs (body s e) w refl z
    on Miss w z = absurd (let y : ◌≡◌ {A = ℕ} 0 1 = cc in omega arith)
    on (Hard k p) w z = absurd (let y : ◌≡◌ {A = ℕ} 0 1 = cc in omega arith)
