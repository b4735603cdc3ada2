-- The rows of a block: no more than its bytes, each on its line; and the code that reads a block.
use Rattle.text.specs.Refusals.{refused_with}
use Rattle.text.specs.declared.stop.Refused.{Refused}
use Rattle.std.specs.Prelude.{Err, Ok, Result}
use Prim.Native.Nat.{ℕ, suc, ◌+◌, ◌<◌}
use native.Mathlib.Nat.{add-zero}
use native.Mathlib.Omega.{arith}
use mathlib.Core.Path.{◌≡◌, refl, sym, ◌∙◌, ap, subst}
use mathlib.Core.List.{List, [], ◌∷◌, map}
use lib.ListN.{length, length-map}
use Rattle.decimal.specs.Exact.{twos_of}
use Rattle.amount.proofs.RowCounts.{refusal_kind}
use Rattle.row.specs.declared.table.Row.{Row}
use Rattle.row.specs.Row.{row_of, feeds}
use Rattle.row.specs.steps.Pouring.{pour}
use Rattle.ledger.specs.Plain.{move, moved, Reading, accepted, denied}
use Rattle.ledger.specs.Strict.{part_by}
use Rattle.ledger.specs.steps.Scan.{with_line, moved_reading, part_at_by, scan_answer, ScanPoured}
use Rattle.ledger.specs.declared.scan.Profile.{Profile}
use Rattle.ledger.specs.declared.scan.Profile.TheVariants.{Plain, Strict}
use Rattle.ledger.proofs.PlainLaws.{Kept, kept_move}
use Rattle.ledger.proofs.PartLaws.{part_move}
use Rattle.recovery.specs.Recovering.{block_rows}
use Rattle.recovery.specs.steps.Front.{unlined_block, Front}
use Rattle.recovery.proofs.ProfileLaws.{by_kept}
use Rattle.recovery.proofs.FrontLaws.{front_poured, front_one}

pub block_kept : (K : Profile) (a l : ℕ) (x : List ℕ) → 0 < length x → Kept (suc refusal_kind) a (l + 1) x (block_rows a l (length x) (part_by K x))
unfolding block_rows row_of feeds
block_kept K a l x h = go (part_by K x) refl
  where
    go : (w : Reading) → part_by K x ≡ w → Kept (suc refusal_kind) a (l + 1) x (block_rows a l (length x) w)
    go (accepted rs) e = rw (add-zero a) at (kept_move refusal_kind (suc refusal_kind) a l 0 1 x rs (omega arith) (by_kept K x rs e))
    go (denied k p) e =
        record {
          few = omega arith;
          order = omega arith;
          lines = (record { into = 0; inside = omega arith; early = omega arith; place = omega arith; lines = omega arith; ends = omega arith; kind = omega arith }, tt);
        }

-- ---- with no lines

moved_unlined : (a l : ℕ) (rs : List Row) → map (with_line 0) (moved a l rs) ≡ map (with_line 0) (moved a 0 rs)
unfolding move
moved_unlined a l [] = refl
moved_unlined a l (r ∷ rs) = rw (moved_unlined a l rs)

-- the line that a block starts at does not count
pub block_unlined : (K : Profile) (a l : ℕ) (x : List ℕ) → map (with_line 0) (block_rows a l (length x) (part_by K x)) ≡ unlined_block K a x
unfolding unlined_block block_rows row_of
block_unlined K a l x = go (part_by K x)
  where
    go : (w : Reading) → map (with_line 0) (block_rows a l (length x) w) ≡ map (with_line 0) (block_rows a 0 (length x) w)
    go (accepted rs) = moved_unlined a l rs
    go (denied k p) = refl

-- ---- the code: m is the scan's answer

-- the row of a refused block of n bytes at place a, as the code makes it
abbrev refused_row : ℕ → ℕ → ℕ → ℕ → Row
refused_row a n k q = record { kind = 90; start = a; end = a + n; line = 0; p = k; q = q; bits = 0 }

module _ (K : Profile) (a : ℕ) (s : List ℕ) (m : Result ℕ Refused) (e : m ≡ scan_answer (part_at_by K a s)) where
  block_moved : part_at_by K a s ≡ moved_reading a 0 (part_by K s)
  block_moved = go K
    where
      go : (k : Profile) → part_at_by k a s ≡ moved_reading a 0 (part_by k s)
      go Plain = part_move a 0 s
      go Strict = refl

  module _ (x : Refused) (i : m ≡ Err x) where
    refused_row_lem : unlined_block K a s ≡ refused_row a (length s) x.number x.place ∷ []
    unfolding unlined_block block_rows row_of scan_answer twos_of
    refused_row_lem = go (part_by K s) (sym i ∙ e ∙ ap scan_answer block_moved)
      where
        go : (w : Reading) → Err x ≡ scan_answer (moved_reading a 0 w)
            → map (with_line 0) (block_rows a 0 (length s) w) ≡ refused_row a (length s) x.number x.place ∷ []
        go (accepted rs) z = absurd (let y : ◌≡◌ {A = ℕ} 0 1 = cc in omega arith)
        go (denied j p) z =
            let y : x ≡ refused_with j (a + p) 0 = cc in
            let n : x.number ≡ j = ap (λ (r : Refused). r.number) y in
            let q : x.place ≡ a + p = ap (λ (r : Refused). r.place) y in
            rw (n, q) refl

    pub block_one : 1 ≡ length (unlined_block K a s)
    block_one = rw refused_row_lem

    pub block_refused : (t v u : List ℕ) → length v ≡ length t → u ≡ pour (refused_row a (length s) x.number x.place ∷ []) v
        → Front (unlined_block K a s) t u
    block_refused t v u l z = rw refused_row_lem (front_one _ t v u l z)

  module _ (n : ℕ) (i : m ≡ Ok n) where
    was_whole : (rs : List Row) × (part_at_by K a s ≡ accepted rs) × (map (with_line 0) rs ≡ unlined_block K a s) × (n ≡ length rs)
    unfolding unlined_block block_rows scan_answer
    was_whole = go (part_by K s) refl (sym i ∙ e ∙ ap scan_answer block_moved)
      where
        go : (w : Reading) → part_by K s ≡ w → Ok n ≡ scan_answer (moved_reading a 0 w)
            → (rs : List Row) × (part_at_by K a s ≡ accepted rs) × (map (with_line 0) rs ≡ map (with_line 0) (block_rows a 0 (length s) (part_by K s))) × (n ≡ length rs)
        go (accepted rs) f z = (moved a 0 rs, block_moved ∙ ap (moved_reading a 0) f, rw f, cc)
        go (denied j p) f z = absurd (let y : ◌≡◌ {A = ℕ} 0 1 = cc in omega arith)

    pub block_whole : n ≡ length (unlined_block K a s)
    block_whole = was_whole.3 ∙ sym (length-map was_whole.0 (with_line 0)) ∙ ap length was_whole.2

    pub block_rows_lem : (t u : List ℕ) → ScanPoured (part_at_by K a s) t u → Front (unlined_block K a s) t u
    block_rows_lem t u p =
        subst (λ rs. Front rs t u) was_whole.2 (front_poured (map (with_line 0) was_whole.0) t u (subst (λ w. ScanPoured w t u) was_whole.1 p))

pub ruleset block_laws = (block_one, block_refused, block_whole, block_rows_lem)
