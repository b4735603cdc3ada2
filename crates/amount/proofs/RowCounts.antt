-- The rows of a reading from k to j: they stand in order of start, start from k to j, at j only in mid-line, end at j
-- at the latest, have the kinds that their rule makes, and are no more than the bytes. What they hold fits: places of
-- the text, dates, bytes, and values within the limit. Tokens make none.
use Rattle.text.specs.declared.stop.Cause.{Cause}
use Rattle.text.specs.declared.stop.Stop.{Stop}
use Rattle.decimal.specs.Faults.{Value}
use Rattle.std.specs.Prelude.{None, Option, Some, Err, Ok, Result}
use Prim.Native.Nat.{ℕ, zero, suc, ◌+◌, ◌-◌, ◌≤◌, ◌<◌}
use native.Mathlib.Omega.{arith}
use mathlib.Core.Path.{◌≡◌, refl, subst}
use mathlib.Core.Bool.{Bool, true, false, cond, ◌||◌}
use mathlib.Core.List.{List, [], ◌∷◌, ◌++◌}
use borrow.Author.Tests.{eqb-true, ne_eqb}
use lib.Dec.{eqb}
use lib.ListN.{length, get_or, length-append}
use Rattle.text.specs.Strings.{string_at}
use Rattle.text.specs.Tags.{marked_at}
use Rattle.text.specs.Answer.{Ans, To, Miss, Hard, ◌then◌, must, ◌else◌, more, ◌and◌, maybe, many}
use Rattle.text.specs.Leaves.{token, gap, comma, line_end, empty_line, string, currency, tag, link, word, byte, hard_gap}
use Rattle.text.specs.Accounts.{account}
use Rattle.text.specs.steps.Accounts.{account_at, account_answer}
use Rattle.text.proofs.AccountLaws.{account_answers}
use Rattle.text.proofs.Joins.{Reach}
use Rattle.text.proofs.TokenEnds.{string_reach}
use Rattle.amount.specs.declared.detail.Detail.{Detail}
use Rattle.amount.specs.Details.{Rows, span, named, valued, quoted}
pub use Rattle.amount.specs.Kinds.{flag_kind, cost_kind, posting_kind, refusal_kind}
use Rattle.amount.proofs.ValueSizes.{Small, NumberedRows, ReadNumbered, small_numbered, zero_small}

-- ---- lists of rows

-- 1 where a byte that is no line feed stands before a place, else 0
unfoldable pub mid_line : List ℕ → ℕ → ℕ
mid_line s i = cond (eqb i 0 || eqb (get_or s (i - 1) 0) 10) 0 1

-- a place behind a mark
mid_line_lem : (s : List ℕ) (at m : ℕ) → get_or s at 0 ≡ m → (m ≡ 10 → ⊥) → mid_line s (at + 1) ≡ 1
unfolding mid_line
mid_line_lem s at m e h =
    let z : at + 1 - 1 ≡ at = omega arith in
    rw (ne_eqb (at + 1) 0 (λ z. omega arith), z, e, ne_eqb m 10 h)

-- kinds from `low` on that are below `high`: a flag's is the lowest of a detail; what may follow a posting's account
-- in its line and what may stand in a head is below a posting's, metadata above; a refusal row's is above those of
-- plain reading
pub record Kinds : Type 0 where
  pub low : ℕ
  pub high : ℕ

abbrev pub any_kinds : Kinds
any_kinds = record { low = flag_kind; high = refusal_kind }

-- any detail's but a flag's
abbrev pub unflagged : Kinds
unflagged = record { low = suc flag_kind; high = refusal_kind }

abbrev pub head_kinds : Kinds
head_kinds = record { low = flag_kind; high = posting_kind }

abbrev pub part_kinds : Kinds
part_kinds = record { low = suc flag_kind; high = posting_kind }

abbrev pub meta_kinds : Kinds
meta_kinds = record { low = suc posting_kind; high = refusal_kind }

-- a kind among those
abbrev pub Of : Kinds → ℕ → Type 0
Of K kind = (K.low ≤ kind) × (kind < K.high)

-- all that are among these are among those
abbrev pub Among : Kinds → Kinds → Type 0
Among K L = (L.low ≤ K.low) × (K.high ≤ L.high)

-- what p of a row is: 0, a place of the text, a cost's date, or the byte of a posting's flag
pub data Second (s : List ℕ) (d : Detail) : Type 0 where
  unset : d.p ≡ 0 → Second s d
  within : (d.kind ≡ posting_kind → ⊥) → d.p ≤ length s → Second s d
  day : d.kind ≡ cost_kind → d.p < 100000000 → Second s d
  flagged : d.kind ≡ posting_kind → (i : ℕ) → d.p ≡ get_or s i 0 → Second s d

-- what a row of the text s holds beside its span
pub record Filled (s : List ℕ) (d : Detail) : Type 0 where
  pub second : Second s d
  pub q_in : d.q ≤ length s
  pub small : Small d.value

module _ {s : List ℕ} {k a e : ℕ} where
  pub span_filled : Filled s (span k a e)
  span_filled = record { second = unset refl; q_in = omega arith; small = zero_small }

  pub valued_filled : {p q : ℕ} {v : Value} → (k ≡ posting_kind → ⊥) → p ≤ length s → q ≤ length s → Small v → Filled s (valued k a e p q v)
  valued_filled n p q h = record { second = within n p; q_in = q; small = h }

  pub named_filled : {p q : ℕ} → (k ≡ posting_kind → ⊥) → p ≤ length s → q ≤ length s → Filled s (named k a e p q)
  named_filled n p q = valued_filled n p q zero_small

-- a row from k to j: an empty tag's starts where its reading ends, behind its mark
abbrev pub Lies : Kinds → List ℕ → ℕ → ℕ → Detail → Type 0
Lies K s k j d = (k ≤ d.start) × (d.start < j + mid_line s d.start) × (K.low ≤ d.kind) × (d.kind < K.high) × (d.end ≤ j)

-- starts that rise from k to j
abbrev pub Rising : Kinds → List ℕ → ℕ → ℕ → List Detail → Type 0
Rising K s k j [] = k ≤ j
Rising K s k j (d ∷ ds) = Lies K s k j d × Filled s d × Rising K s d.start j ds

-- and are no more than the bytes
abbrev pub Placed : Kinds → List ℕ → ℕ → ℕ → List Detail → Type 0
Placed K s k j ds = Rising K s k j ds × (k + length ds ≤ j)

-- a wider reading, and more kinds
pub rising_wide : (K L : Kinds) (s : List ℕ) (k j l m : ℕ) (ds : List Detail) → Among K L → l ≤ k → j ≤ m → Rising K s k j ds → Rising L s l m ds
rising_wide K L s k j l m [] b h g r = omega arith
rising_wide K L s k j l m (d ∷ ds) b h g r =
    (omega (arith, r.0, b), r.1, rising_wide K L s d.start j d.start m ds b (omega arith) g r.2)

pub placed_wide : (K L : Kinds) (s : List ℕ) (k j l m : ℕ) (ds : List Detail) → Among K L → l ≤ k → j ≤ m → Placed K s k j ds → Placed L s l m ds
placed_wide K L s k j l m ds b h g r = (rising_wide K L s k j l m ds b h g r.0, omega (arith, r.1))

rising_append : (K : Kinds) (s : List ℕ) (k j l : ℕ) (xs ys : List Detail) → j ≤ l → Rising K s k j xs → Rising K s j l ys → Rising K s k l (xs ++ ys)
rising_append K s k j l [] ys h p q = rising_wide K K s j l k l ys (omega arith) p (omega arith) q
rising_append K s k j l (d ∷ xs) ys h p q = (omega (arith, p.0), p.1, rising_append K s d.start j l xs ys h p.2 q)

-- ---- answers on a text, where w takes the rows out of what was read

abbrev pub Rowed : {A : Type 0} → Kinds → List ℕ → (A → List Detail) → ℕ → Ans A → Type 0
Rowed K s w k (To j x) = Placed K s k j (w x)
Rowed K s w k Miss = Unit {0}
Rowed K s w k (Hard i p) = Unit {0}

pub record Holds {A : Type 0} (K : Kinds) (s : List ℕ) (w : A → List Detail) (k : ℕ) (a : Ans A) : Type 0 where
  pub rows : Rowed K s w k a

-- the answer of a reader that makes rows
abbrev pub FitsFrom : Kinds → List ℕ → ℕ → Rows → Type 0
FitsFrom K s k a = Holds K s (λ rs. rs) k a

-- none of a flag's kind
abbrev pub Fits : List ℕ → ℕ → Rows → Type 0
Fits s k a = FitsFrom unflagged s k a

-- what refuses their values
rising_numbered : (K : Kinds) (s : List ℕ) (k j : ℕ) (ds : List Detail) → Rising K s k j ds → NumberedRows ds
rising_numbered K s k j [] r = tt
rising_numbered K s k j (d ∷ ds) r = (small_numbered d.value r.1.small, rising_numbered K s d.start j ds r.2)

pub placed_numbered : (K : Kinds) (s : List ℕ) (k j : ℕ) (ds : List Detail) → Placed K s k j ds → NumberedRows ds
placed_numbered K s k j ds h = rising_numbered K s k j ds h.0

pub fits_numbered : (K : Kinds) (s : List ℕ) (k : ℕ) (a : Rows) → FitsFrom K s k a → ReadNumbered a
fits_numbered K s k (To j ds) h = record { holds = placed_numbered K s k j ds h.rows }
fits_numbered K s k Miss h = record { holds = tt }
fits_numbered K s k (Hard i p) h = record { holds = tt }

module _ {A : Type 0} {K : Kinds} {s : List ℕ} {w : A → List Detail} where
  pub to_fits : (k j : ℕ) (x : A) → Placed K s k j (w x) → Holds K s w k (To j x)
  to_fits k j x h = record { rows = h }

  pub miss_fits : (k : ℕ) → Holds K s w k Miss
  miss_fits k = record { rows = tt }

  pub hard_fits : (k : ℕ) (i : Cause) (p : ℕ) → Holds K s w k (Hard i p)
  hard_fits k i p = record { rows = tt }

  -- what was read
  pub fits_at : (k j : ℕ) (x : A) (a : Ans A) → Holds K s w k a → a ≡ To j x → Placed K s k j (w x)
  fits_at k j x a h e = (subst (Holds K s w k) e h).rows

  pub fits_from : (i k : ℕ) (a : Ans A) → k ≤ i → Holds K s w i a → Holds K s w k a
  fits_from i k (To j x) h r = to_fits k j x (placed_wide K K s i j k j (w x) (omega arith) h (omega arith) r.rows)
  fits_from i k Miss h r = miss_fits k
  fits_from i k (Hard l p) h r = hard_fits k l p

  pub fits_wide : (L : Kinds) (k : ℕ) (a : Ans A) → Among K L → Holds K s w k a → Holds L s w k a
  fits_wide L k (To j x) b r = record { rows = placed_wide K L s k j k j (w x) b (omega arith) (omega arith) r.rows }
  fits_wide L k Miss b r = record { rows = tt }
  fits_wide L k (Hard i p) b r = record { rows = tt }

  pub must_fits : (k : ℕ) (n : Cause) (at : ℕ) (a : Ans A) → Holds K s w k a → Holds K s w k (must n at a)
  unfolding must
  must_fits k n at (To j x) r = r
  must_fits k n at Miss r = hard_fits k n at
  must_fits k n at (Hard i p) r = r

  pub else_fits : (k : ℕ) (a b : Ans A) → Holds K s w k a → Holds K s w k b → Holds K s w k (a else b)
  unfolding ◌else◌
  else_fits k (To j x) b r q = r
  else_fits k Miss b r q = q
  else_fits k (Hard i p) b r q = r

-- a row alone
pub row_fits : {K : Kinds} {s : List ℕ} (k j : ℕ) (d : Detail) → Filled s d → Lies K s k j d × (d.start ≤ j) × (k + 1 ≤ j) → FitsFrom K s k (To j (d ∷ []))
row_fits k j d f h = to_fits k j (d ∷ []) ((h.0, f, h.1), h.2)

-- what follows may know the rows of the first
pub then_rows : {A B : Type 0} {K : Kinds} {s : List ℕ} (w : A → List Detail) {v : B → List Detail} (n i l k : ℕ) (a : Ans A) (g : ℕ → A → Ans B) → Reach n i a → Holds K s w l a
    → ((j : ℕ) (x : A) → i ≤ j → j ≤ n → Placed K s l j (w x) → Holds K s v k (g j x)) → Holds K s v k (a then g)
unfolding ◌then◌
then_rows w n i l k (To j x) g r h f = f j x r.ends.0 r.ends.1 h.rows
then_rows w n i l k Miss g r h f = miss_fits k
then_rows w n i l k (Hard m p) g r h f = hard_fits k m p

-- or that it was read
pub then_read : {A B : Type 0} {K : Kinds} {s : List ℕ} {v : B → List Detail} (n i k : ℕ) (a : Ans A) (g : ℕ → A → Ans B) → Reach n i a
    → ((j : ℕ) (x : A) → a ≡ To j x → i ≤ j → j ≤ n → Holds K s v k (g j x)) → Holds K s v k (a then g)
unfolding ◌then◌
then_read n i k (To j x) g r f = f j x refl r.ends.0 r.ends.1
then_read n i k Miss g r f = miss_fits k
then_read n i k (Hard m p) g r f = hard_fits k m p

pub then_fits : {A B : Type 0} {K : Kinds} {s : List ℕ} {v : B → List Detail} (n i k : ℕ) (a : Ans A) (g : ℕ → A → Ans B) → Reach n i a
    → ((j : ℕ) (x : A) → i ≤ j → j ≤ n → Holds K s v k (g j x)) → Holds K s v k (a then g)
then_fits n i k a g r f = then_read n i k a g r (λ j x e. f j x)

-- ---- rows, and what follows

pub and_fits : {K : Kinds} {s : List ℕ} (n i k : ℕ) (a : Rows) (g : ℕ → Rows) → Reach n i a → FitsFrom K s k a → ((j : ℕ) → i ≤ j → j ≤ n → FitsFrom K s j (g j)) → FitsFrom K s k (a and g)
unfolding ◌and◌ more
and_fits {K = K} {s = s} n i k (To j xs) g r u f = on (g j) (f j r.ends.0 r.ends.1)
  where
    on : (c : Rows) → FitsFrom K s j c → FitsFrom K s k (more xs c)
    on (To l ys) h = to_fits k l (xs ++ ys) (rising_append K s k j l xs ys (omega (arith, h.rows.1)) u.rows.0 h.rows.0, omega (arith, length-append xs ys))
    on Miss h = miss_fits k
    on (Hard l p) h = hard_fits k l p
and_fits n i k Miss g r u f = miss_fits k
and_fits n i k (Hard l p) g r u f = hard_fits k l p

pub maybe_fits : {K : Kinds} {s : List ℕ} (at : ℕ) (a : Rows) → FitsFrom K s at a → FitsFrom K s at (maybe at a)
unfolding maybe
maybe_fits at (To j xs) r = r
maybe_fits at Miss r = to_fits at at [] (omega arith)
maybe_fits at (Hard l p) r = r

pub many_fits : {K : Kinds} {s : List ℕ} (n : ℕ) (f : ℕ → Rows) → ((i : ℕ) → i ≤ n → Reach n (i + 1) (f i)) → ((i : ℕ) → i ≤ n → FitsFrom K s i (f i))
    → (d i : ℕ) → i ≤ n → FitsFrom K s i (many f d i)
unfolding many
many_fits n f r u zero i h = to_fits i i [] (omega arith)
many_fits n f r u (suc d) i h =
    maybe_fits i (f i and many f d) (and_fits n (i + 1) i (f i) (many f d) (r i h) (u i h) (λ j p q. many_fits n f r u d j q))

-- ---- tokens

abbrev pub Empty : Rows → Type 0
Empty (To j xs) = xs ≡ []
Empty Miss = Unit {0}
Empty (Hard k p) = Unit {0}

pub record Bare (a : Rows) : Type 0 where
  pub none : Empty a

pub token_bare : (r : Option ℕ) → Bare (token r)
unfolding token
token_bare (Some j) = record { none = refl }
token_bare None = record { none = tt }

-- a byte that is tested for
pub test_bare : (b : Bool) (j : ℕ) → Bare (cond b (To j []) Miss)
test_bare true j = record { none = refl }
test_bare false j = record { none = tt }

pub must_bare : (n : Cause) (at : ℕ) (a : Rows) → Bare a → Bare (must n at a)
unfolding must
must_bare n at (To j x) h = h
must_bare n at Miss h = record { none = tt }
must_bare n at (Hard k p) h = h

pub bare_fits : {K : Kinds} {s : List ℕ} (n k : ℕ) (a : Rows) → Reach n k a → Bare a → FitsFrom K s k a
bare_fits n k (To j xs) r e = rw e.none (to_fits k j [] (omega arith))
bare_fits n k Miss r e = miss_fits k
bare_fits n k (Hard l p) r e = hard_fits k l p

-- a token, and what follows
pub bare_and : {K : Kinds} {s : List ℕ} (n i k : ℕ) (a : Rows) (g : ℕ → Rows) → Reach n i a → Bare a → ((j : ℕ) → i ≤ j → j ≤ n → FitsFrom K s k (g j)) → FitsFrom K s k (a and g)
unfolding ◌and◌ more
bare_and {K = K} {s = s} n i k (To j xs) g r e f = on (g j) (f j r.ends.0 r.ends.1)
  where
    on : (c : Rows) → FitsFrom K s k c → FitsFrom K s k (more xs c)
    on (To l ys) h = rw e.none h
    on Miss h = h
    on (Hard l p) h = h
bare_and n i k Miss g r e f = miss_fits k
bare_and n i k (Hard l p) g r e f = hard_fits k l p

module _ (s : List ℕ) (at : ℕ) where
  pub gap_bare : Bare (gap s at)
  unfolding gap
  gap_bare = token_bare _

  pub comma_bare : Bare (comma s at)
  unfolding comma
  comma_bare = token_bare _

  pub hard_gap_bare : (n : Cause) → Bare (hard_gap n s at)
  unfolding hard_gap
  hard_gap_bare n = must_bare n at _ gap_bare

  pub line_bare : Bare (line_end s at)
  unfolding line_end
  line_bare = token_bare _

  pub empty_bare : Bare (empty_line s at)
  unfolding empty_line
  empty_bare = token_bare _

  pub account_bare : Bare (account s at)
  unfolding account_answer
  account_bare = rw (account_answers s at) (on (account_at s at))
    where
      on : (r : Result ℕ Stop) → Bare (account_answer r)
      on (Ok j) = record { none = refl }
      on (Err Stop.Miss) = record { none = tt }
      on (Err (Stop.Hard cause at)) = record { none = tt }

  pub currency_bare : Bare (currency s at)
  unfolding currency
  currency_bare = token_bare _

  pub word_bare : (w : List ℕ) → Bare (word w s at)
  unfolding word
  word_bare w = token_bare _

  pub byte_bare : (c : ℕ) → Bare (byte c s at)
  unfolding byte
  byte_bare c = test_bare (eqb (get_or s at 0) c) (at + 1)

-- ---- strings, tags and links, and what follows: it knows that behind their mark it is mid-line

marked_and : {K : Kinds} (s : List ℕ) (n i k at m : ℕ) (r : Option ℕ) (g : ℕ → Rows) → (m ≡ 10 → ⊥) → Reach n i (token {A = Detail} (cond (eqb (get_or s at 0) m) r None))
    → (mid_line s (at + 1) ≡ 1 → (j : ℕ) → i ≤ j → j ≤ n → FitsFrom K s k (g j)) → FitsFrom K s k (token (cond (eqb (get_or s at 0) m) r None) and g)
unfolding ◌and◌ token
marked_and {K = K} s n i k at m r g h reach f = go (eqb (get_or s at 0) m) refl reach
  where
    go : (t : Bool) → eqb (get_or s at 0) m ≡ t → Reach n i (token {A = Detail} (cond t r None)) → FitsFrom K s k (token (cond t r None) and g)
    go true e reach = bare_and n i k (token r) g reach (token_bare r) (f (mid_line_lem s at m (eqb-true (get_or s at 0) m e) h))
    go false e reach = miss_fits k

module _ {K : Kinds} (s : List ℕ) (n k at : ℕ) (f : ℕ → Rows) (u : mid_line s (at + 1) ≡ 1 → (e : ℕ) → at + 1 ≤ e → e ≤ n → FitsFrom K s k (f e)) where
  pub string_and : Reach n (at + 1) (string {A = Detail} s at) → FitsFrom K s k (string s at and f)
  unfolding string string_at
  string_and r = marked_and s n (at + 1) k at 34 _ f (λ z. omega arith) r u

  pub tag_and : Reach n (at + 1) (tag {A = Detail} s at) → FitsFrom K s k (tag s at and f)
  unfolding tag marked_at
  tag_and r = marked_and s n (at + 1) k at 35 _ f (λ z. omega arith) r u

  pub link_and : Reach n (at + 1) (link {A = Detail} s at) → FitsFrom K s k (link s at and f)
  unfolding link marked_at
  link_and r = marked_and s n (at + 1) k at 94 _ f (λ z. omega arith) r u

pub quoted_fits : {K : Kinds} (s : List ℕ) (row : ℕ → ℕ → Detail) (k at : ℕ) → (mid_line s (at + 1) ≡ 1 → (e : ℕ) → at + 1 ≤ e → e ≤ length s → Rising K s k e (row (at + 1) (e - 1) ∷ [])) → k ≤ at → FitsFrom K s k (quoted row s at)
unfolding quoted
quoted_fits s row k at f h = string_and s (length s) k at _ (λ m e p q. to_fits k e _ (f m e p q, omega arith)) (string_reach s at)
