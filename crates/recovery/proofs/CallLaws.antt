-- The words of demand 3 as the laws have them, and both readings within the size limit.
use Prim.Native.Nat.{ℕ, ◌≤◌}
use native.Mathlib.Omega.{arith}
use mathlib.Core.Path.{◌≡◌}
use mathlib.Core.Bool.{true}
use mathlib.Core.List.{List, [], ◌∷◌}
use borrow.Author.Tests.{le-leb, eqb-true}
use lib.ListN.{length, get_or}
use Rattle.text.proofs.TestLaws.{absurd_bool}
use Rattle.text.specs.Permitted.{size_limit}
use Rattle.text.specs.Boundaries.{is_start}
use Rattle.entry.proofs.EntryCut.{Ends}
use Rattle.ledger.specs.Plain.{accepted}
use Rattle.ledger.specs.declared.scan.Profile.{Profile}
use Rattle.recovery.specs.Recovering.{recover_by, recovered_by}
use Rattle.recovery.specs.Demand3.{starts_tail, ends_line}
use Rattle.recovery.proofs.BlockLaws.{ends_cons}

pub starts_is : (t : List ℕ) → starts_tail t ≡ true → is_start (get_or t 0 0) ≡ true
unfolding starts_tail
starts_is [] e = absurd_bool e
starts_is (b ∷ t) e = e

pub ends_is : (p : List ℕ) → ends_line p ≡ true → Ends p
unfolding ends_line
ends_is [] e h = absurd (omega arith)
ends_is (b ∷ []) e h = eqb-true b 10 e
ends_is (b ∷ c ∷ s) e h = ends_cons b (c ∷ s) (omega arith) (ends_is (c ∷ s) e) h

module _ (K : Profile) where
  pub recovered_is : (s : List ℕ) → length s ≤ size_limit → recovered_by K s ≡ accepted (recover_by K (length s) 0 0 s)
  unfolding recovered_by
  recovered_is s h = rw (le-leb (length s) size_limit h)
