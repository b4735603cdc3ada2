-- M-103 over the call: of a ledger that plain reading accepts and whose blank entries hold no quote, the bytes that an
-- accepted call wrote read as rows of the same meaning, and written again they do not change, as long as they keep the
-- size limit.
use Rattle.std.specs.Prelude.{ℕ, ◌≤◌, ◌≡◌, true, List, take}
use Rattle.text.specs.Permitted.{size_limit}
use Rattle.row.specs.declared.table.Row.{Row}
use Rattle.ledger.specs.Plain.{accepted, plain}
use Rattle.layout.specs.Meaning.{meaning}
use Rattle.layout.specs.Written.{written}
use Rattle.layout.specs.Claim.{quiet}
use Rattle.lumbrisse.specs.declared.reply.Reply.{Reply}
use Rattle.lumbrisse.specs.Promises.{WritePromise}

-- a text x has the meaning of the ledger s with the rows rs, and is written as it is
pub record SaysTheSame (s : List ℕ) (rs : List Row) (x : List ℕ) : Type 0 where
  pub rows : List Row
  pub reads : plain x ≡ accepted rows
  pub same : meaning x rows ≡ meaning s rs
  pub again : written x rows ≡ x

abbrev pub WritesTheSame : Type 0
WritesTheSame =
    (s : List ℕ) (rs : List Row) (o w : List ℕ) (r : Reply) (o' w' : List ℕ) → plain s ≡ accepted rs → quiet (meaning s rs) ≡ true → WritePromise s o w r o' w'
    → r.number ≡ 0 → r.count ≤ size_limit → SaysTheSame s rs (take r.count o')
