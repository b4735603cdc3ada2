-- What recovering reading needs of the reading of a part, in either profile: all that its laws know of one.
use Prim.Native.Nat.{ℕ, ◌≤◌, ◌<◌}
use native.Mathlib.Omega.{arith}
use mathlib.Core.Path.{◌≡◌, refl, sym, ◌∙◌, ap, subst}
use mathlib.Core.Bool.{true}
use mathlib.Core.List.{List, [], ◌∷◌, ◌++◌}
use borrow.Author.Tests.{le-leb}
use lib.ListN.{length, get_or}
use Rattle.text.specs.Permitted.{clean, size_limit}
use Rattle.amount.proofs.RowCounts.{refusal_kind}
use Rattle.row.specs.declared.table.Row.{Row}
use Rattle.row.specs.Row.{feeds}
use Rattle.text.specs.Boundaries.{is_start}
use Rattle.entry.specs.Strings.{strings, NoneHolds}
use Rattle.entry.proofs.EntryCut.{Ends}
use Rattle.ledger.specs.Plain.{moved, accepted, denied, read_from, part_at, part, plain}
use Rattle.ledger.specs.Strict.{first_refused, strictly, part_by, reading_by}
use Rattle.ledger.specs.declared.scan.Profile.{Profile}
use Rattle.ledger.specs.declared.scan.Profile.TheVariants.{Plain, Strict}
use Rattle.ledger.proofs.PlainLaws.{Kept, part_kept}
use Rattle.ledger.proofs.ReadLaws.{judged_rows, plain_reads}
use Rattle.ledger.specs.Strictness.{Passes}
use Rattle.ledger.proofs.PassLaws.{passes_all, all_pass, passes_parts, passes_first, passes_second}
use Rattle.recovery.proofs.ReadingCut.{part_cut}

-- what is accepted has plain reading's rows
pub by_plain : (K : Profile) (s : List ℕ) (rs : List Row) → part_by K s ≡ accepted rs → part s ≡ accepted rs
by_plain Plain s rs e = e
by_plain Strict s rs e = judged_rows s (part s) rs e

pub by_kept : (K : Profile) (s : List ℕ) (rs : List Row) → part_by K s ≡ accepted rs → Kept refusal_kind 0 1 s rs
by_kept K s rs e = part_kept s rs (by_plain K s rs e)

part_nil : part [] ≡ accepted []
unfolding part_at read_from clean
part_nil = refl

pub by_nil : (K : Profile) (rs : List Row) → part_by K [] ≡ accepted rs → rs ≡ []
by_nil K rs e = go (sym part_nil ∙ by_plain K [] rs e)
  where
    go : accepted [] ≡ accepted rs → rs ≡ []
    go e = cc

pub by_some : (K : Profile) (x : List ℕ) (k q : ℕ) → part_by K x ≡ denied k q → 0 < length x
unfolding strictly first_refused
by_some Plain [] k q e = absurd (no (sym part_nil ∙ e))
  where
    no : accepted [] ≡ denied k q → ⊥
    no e = let z : ◌≡◌ {A = ℕ} 0 1 = cc in omega arith
by_some Strict [] k q e = absurd (no (ap (strictly []) (sym part_nil) ∙ e))
  where
    no : accepted [] ≡ denied k q → ⊥
    no e = let z : ◌≡◌ {A = ℕ} 0 1 = cc in omega arith
by_some Plain (b ∷ x) k q e = omega arith
by_some Strict (b ∷ x) k q e = omega arith

-- ---- within the size limit

plain_part : (s : List ℕ) → length s ≤ size_limit → plain s ≡ part s
unfolding plain
plain_part s h = rw (le-leb (length s) size_limit h)

pub by_part : (K : Profile) (s : List ℕ) → length s ≤ size_limit → reading_by K s ≡ part_by K s
by_part Plain s h = plain_part s h
by_part Strict s h = ap (strictly s) (plain_part s h)

-- a larger ledger is refused
pub by_size : (K : Profile) (s : List ℕ) (rs : List Row) → reading_by K s ≡ accepted rs → length s ≤ size_limit
by_size Plain s rs e = (plain_reads s rs e).0
by_size Strict s rs e = (plain_reads s rs (judged_rows s (plain s) rs e)).0

-- ---- cut at a boundary that no string holds

-- strict acceptance: plain acceptance, and no row is refused
pub strict_passes : (s : List ℕ) (rs : List Row) → strictly s (part s) ≡ accepted rs → (part s ≡ accepted rs) × Passes s rs
unfolding strictly
strict_passes s rs e =
    let p = judged_rows s (part s) rs e in
    (p, all_pass s rs (accepted rs) rs (ap (strictly s) (sym p) ∙ e))

passes_strict : (s : List ℕ) (rs : List Row) → part s ≡ accepted rs → Passes s rs → strictly s (part s) ≡ accepted rs
unfolding strictly
passes_strict s rs p c = ap (strictly s) p ∙ passes_all s rs (accepted rs) c

pub by_cut : (K : Profile) (x y : List ℕ) (rs : List Row) → Ends x → is_start (get_or y 0 0) ≡ true → part_by K (x ++ y) ≡ accepted rs → NoneHolds (strings (x ++ y) rs)
    → (us : List Row) × (vs : List Row) × (part_by K x ≡ accepted us) × (part_by K y ≡ accepted vs) × (rs ≡ us ++ moved (length x) (feeds x) vs)
by_cut Plain x y rs e b h w = part_cut x y rs e b h w
by_cut Strict x y rs e b h w =
    let p = strict_passes (x ++ y) rs h in
    let c = part_cut x y rs e b p.0 w in
    let k = passes_parts (x ++ y) c.0 (moved (length x) (feeds x) c.1) (subst (Passes (x ++ y)) c.4 p.1) in
    let first = passes_first refusal_kind 1 x y c.0 (part_kept x c.0 c.2).lines k.0 in
    let second = passes_second x y (feeds x) c.1 k.1 in
    (c.0, c.1, passes_strict x c.0 c.2 first, passes_strict y c.1 c.3 second, c.4)
