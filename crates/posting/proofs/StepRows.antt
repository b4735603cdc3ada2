-- A step of a body: no row, or the row of a posting and those that follow it. None of these is a posting's; where the
-- first of them is an amount's, it is the posting's own, with its currency within the text and a value within the
-- limit. The body one step at a time.
use Rattle.text.specs.declared.stop.Cause.{Cause}
use Prim.Native.Nat.{ℕ, zero, suc, ◌+◌, ◌≤◌, ◌<◌}
use native.Mathlib.Omega.{arith}
use mathlib.Core.Path.{◌≡◌, refl, sym, ◌∙◌, ap, subst}
use mathlib.Core.List.{List, [], ◌∷◌, ◌++◌}
use lib.ListN.{length}
use Rattle.text.specs.Answer.{Ans, To, Miss, Hard, ◌then◌, ◌and◌, ◌else◌, more, maybe}
use Rattle.text.specs.Leaves.{gap, line_end, empty_line}
use Rattle.text.specs.Accounts.{account}
use Rattle.text.proofs.Joins.{Reach}
use Rattle.text.proofs.TokenEnds.{gap_reach, account_reach}
use Rattle.amount.specs.declared.detail.Detail.{Detail}
use Rattle.amount.specs.Details.{Rows, named}
use Rattle.amount.proofs.ValueSizes.{Small}
use Rattle.amount.proofs.RowCounts.{Kinds, flag_kind, refusal_kind, posting_kind, part_kinds, meta_kinds, Of, Second, unset, within, day, flagged, Filled, Rising, FitsFrom, maybe_fits, and_fits, Bare, gap_bare, empty_bare, account_bare}
use Rattle.row.proofs.SureLaws.{Sure, sure_to, sure_hard}
use Rattle.posting.specs.Metadata.{metadata}
use Rattle.posting.specs.Postings.{posting_flag, units, posting_line, posting, body_step, body}
use Rattle.posting.proofs.PostingEnds.{optional_reach, units_reach, posting_flag_reach, posting_line_reach}
use Rattle.posting.proofs.PostingFew.{line_fits, metadata_fits, units_fits}
use Rattle.posting.proofs.PostingAgree.{sure_body}
use Rattle.row.proofs.ManyLaws.{many_miss, many_hard, many_ends, many_on}
use Rattle.posting.proofs.BodyWrites.{body_stepping}

-- ---- details that are no postings

abbrev pub Other : Detail → Type 0
Other d = (flag_kind ≤ d.kind) × (d.kind < refusal_kind) × (d.kind ≡ posting_kind → ⊥)

abbrev pub Others : List Detail → Type 0
Others [] = Unit {0}
Others (d ∷ ds) = Other d × Others ds

pub others_append : (xs ys : List Detail) → Others xs → Others ys → Others (xs ++ ys)
others_append [] ys p q = q
others_append (x ∷ xs) ys p q = (p.0, others_append xs ys p.1 q)

-- kinds of which none is a posting's
abbrev pub Apart : Kinds → Type 0
Apart K = (k : ℕ) → Of K k → (flag_kind ≤ k) × (k < refusal_kind) × (k ≡ posting_kind → ⊥)

pub rising_others : (K : Kinds) → Apart K → (s : List ℕ) (k j : ℕ) (ds : List Detail) → Rising K s k j ds → Others ds
rising_others K h s k j [] r = tt
rising_others K h s k j (d ∷ ds) r = (h d.kind (r.0.2, r.0.3), rising_others K h s d.start j ds r.2)

abbrev pub below : Apart part_kinds
below k h = (omega (arith, h), omega (arith, h), λ e. omega (arith, h))

abbrev pub above : Apart meta_kinds
above k h = (omega (arith, h), omega (arith, h), λ e. omega (arith, h))

-- ---- a posting's amount

pub record Amounted (n : ℕ) (d : Detail) : Type 0 where
  pub p_in : d.p ≤ n
  pub q_in : d.q ≤ n
  pub small : Small d.value

-- rows that start with such an amount, if with an amount at all
abbrev pub Next : ℕ → List Detail → Type 0
Next n [] = Unit {0}
Next n (d ∷ ds) = d.kind ≡ 26 → Amounted n d

filled_amount : {s : List ℕ} (d : Detail) → Filled s d → d.kind ≡ 26 → Amounted (length s) d
filled_amount {s} d f k = record { p_in = on f.second; q_in = f.q_in; small = f.small }
  where
    on : Second s d → d.p ≤ length s
    on (unset e) = omega (arith, e)
    on (within n h) = h
    on (day e h) = absurd (omega (arith, k, e))
    on (flagged e i h) = absurd (omega (arith, k, e))

rising_next : (K : Kinds) (s : List ℕ) (k j : ℕ) (ds : List Detail) → Rising K s k j ds → Next (length s) ds
rising_next K s k j [] r = tt
rising_next K s k j (d ∷ ds) r = filled_amount d r.1

-- ---- the row of a posting, and those that follow it, in a text of n bytes

pub record Post (n : ℕ) (x : Detail) (us : List Detail) : Type 0 where
  pub kind : x.kind ≡ posting_kind
  pub start : x.start ≤ n
  pub end : x.end ≤ n
  pub others : Others us
  pub amount : Next n us

abbrev pub Shape : ℕ → List Detail → Type 0
Shape n [] = Unit {0}
Shape n (x ∷ us) = Post n x us

-- an answer whose rows start with a posting's
abbrev Led : ℕ → Rows → Type 0
Led n (To j []) = ⊥
Led n (To j (d ∷ ds)) = Post n d ds
Led n Miss = Unit {0}
Led n (Hard k p) = Unit {0}

led_bare : (n i : ℕ) (a : Rows) (g : ℕ → Rows) → Reach n i a → Bare a → ((j : ℕ) → i ≤ j → j ≤ n → Led n (g j)) → Led n (a and g)
unfolding ◌and◌ more
led_bare n i (To j xs) g r b f = rw b.none (on (g j) (f j r.ends.0 r.ends.1))
  where
    on : (a : Rows) → Led n a → Led n (more [] a)
    on (To k []) h = h
    on (To k (d ∷ ds)) h = h
    on Miss h = h
    on (Hard k p) h = h
led_bare n i Miss g r b f = tt
led_bare n i (Hard k p) g r b f = tt

led_then : {A : Type 0} (n i : ℕ) (a : Ans A) (g : ℕ → A → Rows) → Reach n i a → ((j : ℕ) (x : A) → j ≤ n → Led n (g j x)) → Led n (a then g)
unfolding ◌then◌
led_then n i (To j x) g r f = f j x r.ends.1
led_then n i Miss g r f = tt
led_then n i (Hard k p) g r f = tt

own_led : (s : List ℕ) (e : ℕ) (x : Detail) (a : Rows) → x.kind ≡ posting_kind → x.start ≤ length s → x.end ≤ length s → FitsFrom part_kinds s e a → Led (length s) (more (x ∷ []) a)
unfolding more
own_led s e x (To j us) k l m f =
    record { kind = k; start = l; end = m; others = rising_others part_kinds below s e j us f.rows.0; amount = rising_next part_kinds s e j us f.rows.0 }
own_led s e x Miss k l m f = tt
own_led s e x (Hard i p) k l m f = tt

-- and its metadata
with_metadata : (n : ℕ) (x : Detail) (us : List Detail) (e : ℕ) {s : List ℕ} (a : Rows) → Post n x us → FitsFrom meta_kinds s e a → Led n (more (x ∷ us) a)
unfolding more
with_metadata n x us e {s} (To j ms) h f =
    record {
      kind = h.kind;
      start = h.start;
      end = h.end;
      others = others_append us ms h.others (rising_others meta_kinds above s e j ms f.rows.0);
      amount = first us ms h.amount f.rows.0;
    }
  where
    first : (us ms : List Detail) → Next n us → Rising meta_kinds s e j ms → Next n (us ++ ms)
    first [] [] g r = tt
    first [] (m ∷ ms) g r = λ z. absurd (omega (arith, r.0))
    first (u ∷ us) ms g r = g
with_metadata n x us e Miss h f = tt
with_metadata n x us e (Hard k p) h f = tt

metadata_led : (n i : ℕ) {s : List ℕ} (a : Rows) (g : ℕ → Rows) → Led n a → Reach n i a → ((j : ℕ) → j ≤ n → FitsFrom meta_kinds s j (g j)) → Led n (a and g)
unfolding ◌and◌
metadata_led n i (To j []) g h r f = absurd h
metadata_led n i (To j (x ∷ us)) g h r f = with_metadata n x us j (g j) h (f j r.ends.1)
metadata_led n i Miss g h r f = tt
metadata_led n i (Hard k p) g h r f = tt

module _ (s : List ℕ) where
  abbrev N : ℕ
  N = length s

  units_led : (a e f : ℕ) → a ≤ N → e ≤ N → Led N (To e (named 33 a e f 0 ∷ []) and λ i. maybe i (units s i) and λ m. line_end s m)
  unfolding ◌and◌
  units_led a e f h l =
      own_led s e (named 33 a e f 0) _ refl h l
      (and_fits N e e (maybe e (units s e)) _ (optional_reach N e _ l (units_reach s e l)) (maybe_fits e _ (units_fits s e l)) (λ m p q. line_fits s m q))

  line_led : (at : ℕ) → at ≤ N → Led N (posting_line s at)
  unfolding posting_line
  line_led at h =
      led_bare N (at + 1) (gap s at) _ (gap_reach s at h) (gap_bare s at) (λ g p₁ q₁.
      led_then N g (posting_flag s g) _ (posting_flag_reach s g q₁) (λ a f q₂.
      led_bare N (a + 1) (account s a) _ (account_reach s a) (account_bare s a) (λ e p₃ q₃. units_led a e f q₂ q₃)))

  posting_led : (at : ℕ) → at ≤ N → Led N (posting s at)
  unfolding posting
  posting_led at h = metadata_led N (at + 1) (posting_line s at) (metadata s) (line_led at h) (posting_line_reach s at h) (λ j q. metadata_fits s j q)

  -- a posting, else an empty line
  step_of : (a b : Rows) → Led N a → Bare b → (e : ℕ) (xs : List Detail) → (a else b) ≡ To e xs → Shape N xs
  unfolding ◌else◌
  step_of (To j []) b h c e xs q = absurd h
  step_of (To j (x ∷ us)) b h c e xs q = let z : x ∷ us ≡ xs = cc in subst (Shape N) z h
  step_of Miss (To j ys) h c e xs q = let z : ys ≡ xs = cc in subst (Shape N) (sym c.none ∙ z) tt
  step_of Miss Miss h c e xs q = absurd (let z : ◌≡◌ {A = ℕ} 0 1 = cc in omega arith)
  step_of Miss (Hard k p) h c e xs q = absurd (let z : ◌≡◌ {A = ℕ} 0 1 = cc in omega arith)
  step_of (Hard k p) b h c e xs q = absurd (let z : ◌≡◌ {A = ℕ} 0 1 = cc in omega arith)

  pub step_shape : (at e : ℕ) (xs : List Detail) → at ≤ N → body_step s at ≡ To e xs → Shape N xs
  unfolding body_step
  step_shape at e xs h q = step_of (posting s at) (empty_line s at) (posting_led at h) (empty_bare s at) e xs q

  -- ---- the body one step at a time

  pub step_ends : (i e : ℕ) (xs : List Detail) → i ≤ N → body_step s i ≡ To e xs → (i + 1 ≤ e) × (e ≤ N)
  step_ends i e xs h q = many_ends N (body_step s) i (body_stepping s) h e xs q

  module _ (i n : ℕ) (ds : List Detail) (w : body s i ≡ To n ds) where
    pub body_miss : body_step s i ≡ Miss → (i ≡ n) × (ds ≡ [])
    unfolding body
    body_miss q = let z = sym (many_miss N (body_step s) i q) ∙ w in (cc, cc)

    pub body_hard : (k : Cause) (p : ℕ) → body_step s i ≡ Hard k p → ⊥
    unfolding body
    body_hard k p q = let z = sym (many_hard N (body_step s) i k p q) ∙ w in let y : ◌≡◌ {A = ℕ} 0 1 = cc in omega arith

    more_to : (xs : List Detail) (a : Rows) → maybe i (more xs a) ≡ To n ds → Sure a → (ys : List Detail) × (a ≡ To n ys) × (ds ≡ xs ++ ys)
    unfolding maybe more
    more_to xs (To j ys) q h = let z : j ≡ n = cc in (ys, ap (λ (x : ℕ). To x ys) z, cc)
    more_to xs Miss q h = absurd (never h refl)
      where
        never : {a : Rows} → Sure a → a ≡ Miss → ⊥
        never sure_to z = let y : ◌≡◌ {A = ℕ} 0 1 = cc in omega arith
        never sure_hard z = let y : ◌≡◌ {A = ℕ} 0 1 = cc in omega arith
    more_to xs (Hard k p) q h = absurd (let z : ◌≡◌ {A = ℕ} 0 1 = cc in omega arith)

    pub body_on : (e : ℕ) (xs : List Detail) → i ≤ N → body_step s i ≡ To e xs → (ys : List Detail) × (body s e ≡ To n ys) × (ds ≡ xs ++ ys)
    unfolding body
    body_on e xs h q = more_to xs (body s e) (sym (many_on N (body_step s) i (body_stepping s) h e xs q) ∙ w) (sure_body s e)

-- ---- the rows of a body start with a posting's

abbrev pub Front : List Detail → Type 0
Front [] = Unit {0}
Front (x ∷ us) = x.kind ≡ posting_kind

module _ (s : List ℕ) where
  -- where those from a later place on do
  front_by : (i n : ℕ) (ds : List Detail) → i ≤ length s → body s i ≡ To n ds
      → ((e : ℕ) (ys : List Detail) → i + 1 ≤ e → e ≤ length s → body s e ≡ To n ys → Front ys) → Front ds
  front_by i n ds h w f = go (body_step s i) refl
    where
      by_rows : (e : ℕ) (xs ys : List Detail) → Shape (length s) xs → (i + 1 ≤ e) × (e ≤ length s) → body s e ≡ To n ys → ds ≡ xs ++ ys → Front ds
      by_rows e [] ys k l v q = subst Front (sym q) (f e ys l.0 l.1 v)
      by_rows e (x ∷ us) ys k l v q = subst Front (sym q) k.kind

      go : (a : Rows) → body_step s i ≡ a → Front ds
      go (To e xs) q = let y = body_on s i n ds w e xs h q in by_rows e xs y.0 (step_shape s i e xs h q) (step_ends s i e xs h q) y.1 y.2
      go Miss q = subst Front (sym (body_miss s i n ds w q).1) tt
      go (Hard k p) q = absurd (body_hard s i n ds w k p q)

  front_from : (f i n : ℕ) (ds : List Detail) → length s ≤ i + f → i ≤ length s → body s i ≡ To n ds → Front ds
  front_from zero i n ds l h w = front_by i n ds h w (λ e ys p q v. absurd (omega arith))
  front_from (suc f) i n ds l h w = front_by i n ds h w (λ e ys p q v. front_from f e n ys (omega arith) q v)

  pub body_front : (i n : ℕ) (ds : List Detail) → i ≤ length s → body s i ≡ To n ds → Front ds
  body_front i n ds h w = front_from (length s) i n ds (omega arith) h w
