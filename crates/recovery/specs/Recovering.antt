-- Recovering reading, in a profile: the ledger is cut before each boundary, and each block is read as a part of its
-- own.
use Rattle.std.specs.Prelude.{ℕ, zero, suc, ◌+◌, cond, List, [], ◌∷◌, ◌++◌, leb, pos, length, get_or, take, drop}
use Rattle.text.specs.Permitted.{size_limit}
use Rattle.row.specs.declared.table.Row.{Row}
use Rattle.row.specs.Row.{row_of, feeds}
use Rattle.ledger.specs.Plain.{moved, Reading, accepted, denied}
use Rattle.text.specs.Boundaries.{cuts}
use Rattle.ledger.specs.Strict.{part_by}
use Rattle.ledger.specs.declared.scan.Profile.{Profile}
use Rattle.ledger.specs.declared.scan.Profile.TheVariants.{Plain, Strict}
use Rattle.amount.specs.Kinds.{refusal_kind}

-- the bytes of a text up to the next boundary behind its first byte, or all of them
unfoldable pub block_length : List ℕ → ℕ
block_length [] = 0
block_length (b ∷ s) = suc (cond (cuts b (get_or s 0 0)) 0 (block_length s))

-- the rows of a block of n bytes at place a, with l line feeds before it: its own, moved; or, where it is refused, one
-- row of kind 90, which names its span and line, the refusal's number and its place in the ledger
unfoldable pub block_rows : ℕ → ℕ → ℕ → Reading → List Row
block_rows a l n (accepted rs) = moved a l rs
block_rows a l n (denied k p) = row_of refusal_kind a (a + n) (l + 1) k (a + p) (pos 0) ∷ []

-- block by block, each read in a profile, from place a on, with l line feeds before it; f bounds how many
unfoldable pub recover_by : Profile → ℕ → ℕ → ℕ → List ℕ → List Row
recover_by K zero a l s = []
recover_by K (suc f) a l [] = []
recover_by K (suc f) a l (b ∷ s) =
    let n = block_length (b ∷ s) in
    let x = take n (b ∷ s) in
    block_rows a l n (part_by K x) ++ recover_by K f (a + n) (l + feeds x) (drop n (b ∷ s))

-- only 1, and 9 where the rows have no room, refuse the call
unfoldable pub recovered_by : Profile → List ℕ → Reading
recovered_by K s = cond (leb (length s) size_limit) (accepted (recover_by K (length s) 0 0 s)) (denied 1 0)

-- recovering reading as document 01 says it, and the strict form of M-110
abbrev pub recover_from : ℕ → ℕ → ℕ → List ℕ → List Row
recover_from f a l s = recover_by Plain f a l s

abbrev pub recovered : List ℕ → Reading
recovered s = recovered_by Plain s

abbrev pub recovered_strictly : List ℕ → Reading
recovered_strictly s = recovered_by Strict s
