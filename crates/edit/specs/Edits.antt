-- M-109: one block of a ledger is replaced, and the rows of the new ledger are made from the old one's: only the new
-- bytes are read.
use Rattle.std.specs.Prelude.{ℕ, ◌+◌, ◌-◌, ◌%◌, Bool, cond, ◌||◌, ◌&&◌, List, [], ◌∷◌, ◌++◌, map, eqb, ltb, leb, length, get_or, take, drop}
use Rattle.text.specs.Permitted.{size_limit}
use Rattle.row.specs.declared.table.Row.{Row}
use Rattle.row.specs.Row.{rows_in, feeds, room}
use Rattle.row.specs.Details.{spanned}
use Rattle.row.specs.Field.{field_limit}
use Rattle.ledger.specs.Plain.{Reading, accepted, denied}
use Rattle.text.specs.Boundaries.{cuts}
use Rattle.recovery.specs.Recovering.{block_length, recover_from}
use Rattle.recovery.specs.Demand3.{starts_tail, ends_line}
use Rattle.amount.specs.Kinds.{refusal_kind}

-- ---- what is replaced, in the ledger s from a to e, and by what, the bytes y

-- a block starts at 0 or at a boundary, and goes on to the next boundary or to the ledger's end
unfoldable pub is_block : List ℕ → ℕ → ℕ → Bool
is_block s a e = (eqb a 0 || cuts (get_or s (a - 1) 0) (get_or s a 0)) && eqb e (a + block_length (drop a s))

-- the new bytes are empty, or they start with a digit or small letter (the first block may start anyhow) and end in a
-- line feed unless the block is last
unfoldable pub is_new : List ℕ → ℕ → ℕ → List ℕ → Bool
is_new s a e y = eqb (length y) 0 || ((eqb a 0 || starts_tail y) && (eqb e (length s) || ends_line y))

-- the new ledger
unfoldable pub edited : List ℕ → ℕ → ℕ → List ℕ → List ℕ
edited s a e y = take a s ++ (y ++ drop e s)

-- ---- the rows of the answer, whatever rows are given

-- how far what stands behind the block is moved: what was n is k now
abbrev pub distance : ℕ → ℕ → ℕ
distance n k = k + (field_limit - n)

-- a number that far on, modulo 4,294,967,296
abbrev pub move_on : ℕ → ℕ → ℕ
move_on d x = (x + d) % field_limit

-- a row moved by so many bytes and lines, the q of a kind 90 too
unfoldable pub shift : ℕ → ℕ → Row → Row
shift d l r =
    record {
      kind = r.kind;
      start = move_on d r.start;
      end = move_on d r.end;
      line = move_on l r.line;
      p = cond (spanned r.kind) (move_on d r.p) r.p;
      q = cond (spanned r.kind || eqb r.kind refusal_kind) (move_on d r.q) r.q;
      bits = r.bits;
    }

-- the rows that pass a test, in their order
unfoldable pub such : (Row → Bool) → List Row → List Row
such t [] = []
such t (r ∷ rs) = cond (t r) (r ∷ such t rs) (such t rs)

-- rows that start before a place
abbrev pub before : ℕ → List Row → List Row
before a rs = such (λ r. ltb r.start a) rs

-- rows that start there or later
abbrev pub from : ℕ → List Row → List Row
from e rs = such (λ r. leb e r.start) rs

-- rows that start before the block, kept; the new block's rows; unless the block is last, rows that start at its end or
-- later, moved
unfoldable pub edit_rows : List ℕ → ℕ → ℕ → List ℕ → List Row → List Row
edit_rows s a e y rs =
    let x = take (e - a) (drop a s) in
    let behind = map (shift (distance (e - a) (length y)) (distance (feeds x) (feeds y))) (from e rs) in
    before a rs ++ (recover_from (length y) a (feeds (take a s)) y ++ cond (eqb e (length s)) [] behind)

-- ---- the call

-- the size of the new ledger is judged where the block is a part of the old one
unfoldable pub grows : List ℕ → ℕ → ℕ → List ℕ → Bool
grows s a e y = leb a e && (leb e (length s) && ltb size_limit (length s - (e - a) + length y))

-- 1 for either ledger; 10 for a block, row count or new bytes not as said; 9 comes last. The table t has the rows that
-- are given, k of them
unfoldable pub editing : List ℕ → List ℕ → ℕ → ℕ → ℕ → List ℕ → Reading
editing s t k a e y =
    cond (ltb size_limit (length s) || grows s a e y) (denied 1 0)
    (cond (is_block s a e && (leb k (room t) && is_new s a e y)) (accepted (edit_rows s a e y (rows_in k t))) (denied 10 0))
