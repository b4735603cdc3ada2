-- Laws of demand 3's strings: of rows one after the other, and of strings that cross a boundary, which hold it.
use Rattle.text.specs.declared.stop.Cause.{Cause}
use Prim.Native.Nat.{ℕ, zero, suc, ◌+◌, ◌-◌, ◌<◌}
use native.Mathlib.Omega.{arith}
use mathlib.Core.Path.{◌≡◌, refl, sym, subst, ◌∙◌}
use mathlib.Core.Bool.{Bool, true, false, cond, ◌&&◌}
use mathlib.Core.List.{List, [], ◌∷◌, ◌++◌, map, append_assoc}
use borrow.Author.Tests.{ltb-true}
use lib.Dec.{eqb, ltb}
use lib.ListN.{get_or, take, drop}
use lib.Seq.{get_or-drop, get_or-take}
use Rattle.text.specs.Bytes.{bytes, is_digit, is_small, between}
use Rattle.text.specs.Every.{Every}
use Rattle.text.specs.Answer.{To, Miss, Hard, ◌and◌}
use Rattle.text.specs.Leaves.{hard_gap, date, string, word, line_end}
use Rattle.text.specs.Refusals.{missing, missing_gap}
use Rattle.text.specs.Boundaries.{is_start, cuts, holds}
use Rattle.text.proofs.TestLaws.{absurd_bool, or_second, and_left, and_right}
use Rattle.text.proofs.EveryLaws.{every_append, every_left, every_right}
use Rattle.text.proofs.Inversions.{to_inv, not_miss, not_hard, and_inv, must_inv, then_inv}
use Rattle.amount.specs.Kinds.{first_detail, string_kind}
use Rattle.amount.specs.declared.detail.Detail.{Detail}
use Rattle.amount.specs.Details.{Rows, span, quoted}
use Rattle.amount.proofs.RowCounts.{Bare, token_bare, hard_gap_bare, word_bare}
use Rattle.row.specs.declared.table.Row.{Row}
use Rattle.row.specs.Row.{row_of}
use Rattle.posting.proofs.Agree.{spans_string, crosses_at, torn_by, torn}
use Rattle.content.specs.Contents.{hard_string, event_of}
use Rattle.entry.specs.Entry.{detail_row}
use Rattle.entry.specs.Strings.{row_strings, unless, lost_event, spans, lost_strings, strings, NoneHolds}
use Rattle.entry.proofs.EntryAgree.{Clear}

-- a text that holds no boundary
abbrev Unheld : List ℕ → Type 0
Unheld x = holds x ≡ false

-- a row's string is its span or its value, by its kind
pub row_strings_lem : (t : List ℕ) (r : Row)
    → row_strings t r ≡ cond (spans_string r.kind) (between t r.start r.end ∷ []) (cond (eqb r.kind 35) (between t r.p r.q ∷ []) [])
unfolding row_strings
row_strings_lem t r = refl

-- ---- rows one after the other

pub strings_append : (t : List ℕ) (us vs : List Row) → strings t (us ++ vs) ≡ strings t us ++ strings t vs
unfolding strings
strings_append t [] vs = refl
strings_append t (r ∷ us) vs = rw (strings_append t us vs, append_assoc, append_assoc)

-- where an entry starts, of an event line whose line end misses
abbrev pub lost_of : List ℕ → Row → List (List ℕ)
lost_of t r = cond (ltb r.kind first_detail) (lost_strings (drop r.start t)) []

pub none_parts : (t : List ℕ) (r : Row) (rs : List Row) → NoneHolds (strings t (r ∷ rs)) → NoneHolds (row_strings t r) × NoneHolds (lost_of t r) × NoneHolds (strings t rs)
unfolding strings
none_parts t r rs h =
    let k = every_right Unheld (row_strings t r) (lost_of t r ++ strings t rs) h in
    (every_left Unheld (row_strings t r) (lost_of t r ++ strings t rs) h, every_left Unheld (lost_of t r) (strings t rs) k, every_right Unheld (lost_of t r) (strings t rs) k)

pub none_first : (t : List ℕ) (us vs : List Row) → NoneHolds (strings t (us ++ vs)) → NoneHolds (strings t us)
none_first t us vs h = every_left Unheld (strings t us) (strings t vs) (rw (strings_append t us vs) at h)

pub none_second : (t : List ℕ) (us vs : List Row) → NoneHolds (strings t (us ++ vs)) → NoneHolds (strings t vs)
none_second t us vs h = every_right Unheld (strings t us) (strings t vs) (rw (strings_append t us vs) at h)

-- ---- boundaries

-- past the end of a text nothing starts
pub start_zero : is_start 0 ≡ false
unfolding is_digit is_small
start_zero = refl

holds_at : (s : List ℕ) (i : ℕ) → get_or s i 0 ≡ 10 → is_start (get_or s (suc i) 0) ≡ true → holds s ≡ true
unfolding holds
holds_at [] i e f = absurd_bool (sym start_zero ∙ f)
holds_at (c ∷ s) zero e f = rw (e, f)
holds_at (c ∷ s) (suc i) e f = or_second (cuts c (get_or s 0 0)) (holds s) (holds_at s i e f)

-- ---- an event's rows are those of its strings

abbrev IsString : Detail → Type 0
IsString d = d.kind ≡ string_kind

abbrev StringsOnly : Rows → Type 0
StringsOnly a = (j : ℕ) (ds : List Detail) → a ≡ To j ds → Every IsString ds

bare_only : (a : Rows) → Bare a → StringsOnly a
bare_only (To i xs) b j ds e = rw ((to_inv i j xs ds e).1, b.none) tt
bare_only Miss b j ds e = not_miss e
bare_only (Hard k p) b j ds e = not_hard e

and_only : (a : Rows) (g : ℕ → Rows) → StringsOnly a → ((i : ℕ) → StringsOnly (g i)) → StringsOnly (a and g)
and_only a g h k j ds e =
    let p = and_inv a g j ds e in
    rw p.5 (every_append IsString p.1 p.2 (h p.0 p.1 p.3) (k p.0 j p.2 p.4))

module _ (s : List ℕ) where
  gap_only : (n : Cause) (at : ℕ) → StringsOnly (hard_gap n s at)
  gap_only n at = bare_only (hard_gap n s at) (hard_gap_bare s at n)

  string_only : (at : ℕ) → StringsOnly (hard_string s at)
  unfolding hard_string quoted string
  string_only at j ds e =
      and_only (string s at) _ (bare_only (string s at) (token_bare _))
      (λ i k xs f. rw (to_inv i k (span string_kind (at + 1) (i - 1) ∷ []) xs f).1 (refl, tt)) j ds (must_inv missing at _ j ds e)

  event_only : (at : ℕ) → StringsOnly (event_of s at)
  unfolding event_of
  event_only at = and_only (hard_string s at) _ (string_only at) (λ a. and_only (hard_gap missing s a) _ (gap_only missing a) string_only)

  unless_only : (a : Rows) (i : ℕ) (rs : List Detail) → Every IsString rs → StringsOnly (unless a (To i rs))
  unfolding unless
  unless_only (To k xs) i rs h j ds e = not_miss e
  unless_only Miss i rs h j ds e = rw (to_inv i j rs ds e).1 h
  unless_only (Hard k p) i rs h j ds e = not_miss e

  lost_only : StringsOnly (lost_event s)
  unfolding lost_event
  lost_only j ds q =
      let day = then_inv (date s 0) _ j ds q in
      and_only (hard_gap missing_gap s day.0) _ (gap_only missing_gap day.0) (λ b.
      and_only (word (bytes "event") s b) _ (bare_only _ (word_bare s b (bytes "event"))) (λ c.
      and_only (hard_gap missing_gap s c) _ (gap_only missing_gap c) (λ d k rs e.
      let both = then_inv (event_of s d) _ k rs e in
      unless_only (line_end s both.0) both.0 both.1 (event_only d both.0 both.1 both.2) k rs both.3))) j ds day.3

-- ---- a string that crosses a boundary holds it

-- m is the place of the line feed before the boundary
module _ (s : List ℕ) (m : ℕ) (lf : get_or s m 0 ≡ 10) (st : is_start (get_or s (m + 1) 0) ≡ true) where
  crossing_holds : (lo hi : ℕ) → crosses_at (m + 1) lo hi ≡ true → holds (between s lo hi) ≡ true
  crossing_holds lo hi h =
      let p : lo < m + 1 = ltb-true lo (m + 1) (and_left (ltb lo (m + 1)) (ltb (m + 1) hi) h) in
      let q : m + 1 < hi = ltb-true (m + 1) hi (and_right (ltb lo (m + 1)) (ltb (m + 1) hi) h) in
      let e : lo + (m - lo) ≡ m = omega arith in
      let f : lo + suc (m - lo) ≡ m + 1 = omega arith in
      holds_at (take (hi - lo) (drop lo s)) (m - lo)
      (get_or-take (hi - lo) (drop lo s) (m - lo) 0 (omega arith) ∙ get_or-drop lo s (m - lo) 0 ∙ rw e lf)
      (rw (get_or-take (hi - lo) (drop lo s) (suc (m - lo)) 0 (omega arith), get_or-drop lo s (suc (m - lo)) 0, f) st)

  not_crossing : (lo hi : ℕ) → Unheld (between s lo hi) → crosses_at (m + 1) lo hi ≡ false
  not_crossing lo hi h = go (crosses_at (m + 1) lo hi) refl
    where
      go : (b : Bool) → crosses_at (m + 1) lo hi ≡ b → crosses_at (m + 1) lo hi ≡ false
      go true e = absurd_bool (sym h ∙ crossing_holds lo hi e)
      go false e = e

  not_torn : (u : List ℕ) (d : Detail) → NoneHolds (row_strings s (detail_row u d)) → torn_by (m + 1) d ≡ false
  unfolding torn_by detail_row row_of
  not_torn u d h = go (spans_string d.kind) (eqb d.kind 35) (subst NoneHolds (row_strings_lem s (detail_row u d)) h)
    where
      go : (b c : Bool) → NoneHolds (cond b (between s d.start d.end ∷ []) (cond c (between s d.p d.q ∷ []) []))
          → cond b (crosses_at (m + 1) d.start d.end) (c && crosses_at (m + 1) d.p d.q) ≡ false
      go true c h = not_crossing d.start d.end h.0
      go false true h = not_crossing d.p d.q h.0
      go false false h = refl

  -- the strings of rows that are kept
  pub details_clear : (u : List ℕ) (ds : List Detail) → NoneHolds (strings s (map (detail_row u) ds)) → torn (m + 1) ds ≡ false
  unfolding torn
  details_clear u [] h = refl
  details_clear u (d ∷ ds) h =
      let p = none_parts s (detail_row u d) (map (detail_row u) ds) h in
      rw (not_torn u d p.0) (details_clear u ds p.2)

  -- and of an event that is dropped
  spans_clear : (ds : List Detail) → Every IsString ds → NoneHolds (map (λ (d : Detail). between s d.start d.end) ds) → torn (m + 1) ds ≡ false
  unfolding torn torn_by
  spans_clear [] k h = refl
  spans_clear (d ∷ ds) k h = rw (k.0, not_crossing d.start d.end h.0) (spans_clear ds k.1 h.1)

  pub lost_clear : NoneHolds (lost_strings s) → Clear (m + 1) (lost_event s)
  unfolding lost_strings spans
  lost_clear h j ds q = spans_clear ds (lost_only s j ds q) (rw q at h)
