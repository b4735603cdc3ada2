-- M-109 over the calls: an edit of a ledger whose rows are given is recovering reading of the new ledger. As what an
-- accepted edit leaves may be given to the next, that holds for any sequence of them.
use Rattle.std.specs.Prelude.{ℕ, ◌≡◌, List}
use Rattle.recovery.specs.Recovering.{recovered}
use Rattle.edit.specs.Edits.{edited, editing}
use Rattle.edit.specs.Afresh.{Edit, RowsOf}
use Rattle.lumbrisse.specs.declared.reply.Reply.{Reply}
use Rattle.lumbrisse.specs.Promises.{TablePromise}

-- what recovering reading of s promises of a table t, which it leaves as u
abbrev pub Recovers : List ℕ → List ℕ → Reply → List ℕ → Type 0
Recovers s t r u = TablePromise (recovered s) t r u

-- an accepted one leaves the ledger's rows
abbrev pub RecoverGives : Type 0
RecoverGives = (s t : List ℕ) (r : Reply) (u : List ℕ) → Recovers s t r u → r.number ≡ 0 → RowsOf s r.count u

-- given those, an edit answers and leaves what recovering reading of the new ledger does
abbrev pub EditRecovers : Type 0
EditRecovers =
    (s rows : List ℕ) (k a e : ℕ) (y t : List ℕ) (r : Reply) (u : List ℕ) → RowsOf s k rows → Edit s a e y
    → TablePromise (editing s rows k a e y) t r u → Recovers (edited s a e y) t r u

-- and an accepted one is an edit
abbrev pub AcceptedEdits : Type 0
AcceptedEdits =
    (s rows : List ℕ) (k a e : ℕ) (y t : List ℕ) (r : Reply) (u : List ℕ) → TablePromise (editing s rows k a e y) t r u → r.number ≡ 0 → Edit s a e y
