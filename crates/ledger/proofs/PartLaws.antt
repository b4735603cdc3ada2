-- Plain reading of a part of a ledger: its bytes first, then its entries. A part that stands further on gives its rows
-- moved.
use Rattle.text.specs.declared.stop.Refused.{Refused}
use Rattle.text.specs.Refusals.{refused_with}
use Rattle.std.specs.Prelude.{Err, Result}
use Prim.Native.Nat.{ℕ, ◌+◌, ◌≤◌, ◌<◌}
use native.Mathlib.Nat.{zero-add, add-zero}
use mathlib.Core.Path.{◌≡◌, sym, ◌∙◌, ap}
use mathlib.Core.Bool.{Bool, true, false, cond}
use mathlib.Core.List.{List}
use borrow.Author.Tests.{lt-ltb, le-ltb}
use lib.Dec.{ltb}
use lib.ListN.{length}
use Rattle.text.specs.Permitted.{clean}
use Rattle.ledger.specs.Plain.{denied, read_from, part_at, part}
use Rattle.ledger.specs.steps.Scan.{moved_reading, scanned, scanned_by, part_at_by, scan_answer, ScanPoured}
use Rattle.ledger.specs.Strict.{strictly}
use Rattle.ledger.specs.declared.scan.Profile.{Profile}
use Rattle.ledger.specs.declared.scan.Profile.TheVariants.{Plain, Strict}
use Rattle.ledger.proofs.MoveLaws.{read_move}

pub part_move : (a l : ℕ) (s : List ℕ) → part_at a (l + 1) s ≡ moved_reading a l (part s)
unfolding part_at
part_move a l s = go (ltb (clean s) (length s))
  where
    go : (b : Bool) → cond b (denied 2 (a + clean s)) (read_from (length s) a (l + 1) s) ≡ moved_reading a l (cond b (denied 2 (0 + clean s)) (read_from (length s) 0 1 s))
    go true = rw zero-add
    go false = ap (λ k. read_from (length s) k (l + 1) s) (sym (add-zero a)) ∙ read_move (length s) a l 0 1 s

-- bytes that may all stand
pub part_scanned : (a : ℕ) (s : List ℕ) → length s ≤ clean s → part_at a 1 s ≡ scanned a s
unfolding part_at scanned
part_scanned a s h = rw (le-ltb (clean s) (length s) h)

-- the same in a profile
pub part_by_scanned : (k : Profile) (a : ℕ) (s : List ℕ) → length s ≤ clean s → part_at_by k a s ≡ scanned_by k a s
part_by_scanned Plain a s h = part_scanned a s h
part_by_scanned Strict a s h = ap (λ x. moved_reading a 0 (strictly s x)) (part_scanned 0 s h)

-- ---- what the code answers: c is the place of the first byte that may not stand

module _ (k : Profile) (a : ℕ) (s : List ℕ) (c : ℕ) (e : c ≡ clean s) where
  module _ (h : c < length s) where
    bytes_denied : (b : ℕ) → part_at b 1 s ≡ denied 2 (b + c)
    unfolding part_at
    bytes_denied b = rw (← e, lt-ltb c (length s) h)

    part_denied : (k : Profile) → part_at_by k a s ≡ denied 2 (a + c)
    unfolding strictly
    part_denied Plain = bytes_denied a
    part_denied Strict = ap (λ x. moved_reading a 0 (strictly s x)) (bytes_denied 0) ∙ ap (λ z. denied 2 (a + z)) (zero-add c)

    pub part_byte : Err (refused_with 2 (a + c) 0) ≡ scan_answer (part_at_by k a s)
    unfolding scan_answer
    part_byte = rw (part_denied k)

    pub part_byte_left : (t u : List ℕ) → ScanPoured (part_at_by k a s) t u
    part_byte_left t u = rw (part_denied k) tt

  module _ (h : length s ≤ c) where
    all_stand : part_at_by k a s ≡ scanned_by k a s
    all_stand = part_by_scanned k a s (rw e at h)

    pub part_entries : (m : Result ℕ Refused) → m ≡ scan_answer (scanned_by k a s) → m ≡ scan_answer (part_at_by k a s)
    part_entries m q = rw all_stand q

    pub part_poured : (t u : List ℕ) → ScanPoured (scanned_by k a s) t u → ScanPoured (part_at_by k a s) t u
    part_poured t u q = rw all_stand q

pub ruleset part_laws = (part_byte, part_byte_left, part_entries, part_poured)
