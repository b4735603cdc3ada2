-- An edit of a ledger whose rows are given is recovering reading of the new ledger.
use Rattle.text.specs.Refusals.{refused_with}
use Rattle.std.specs.Prelude.{Err, Ok}
use Prim.Native.Nat.{ℕ}
use native.Mathlib.Omega.{arith}
use mathlib.Core.Path.{◌≡◌, sym, ◌∙◌, ap}
use mathlib.Core.Bool.{Bool, true, false, cond, ◌||◌, ◌&&◌}
use mathlib.Core.List.{List}
use lib.Dec.{ltb, leb}
use lib.ListN.{length}
use Rattle.text.specs.Permitted.{size_limit}
use Rattle.row.specs.declared.table.Row.{Row}
use Rattle.row.specs.Row.{rows_in, room}
use Rattle.ledger.specs.Plain.{Reading, accepted, denied}
use Rattle.ledger.specs.Answers.{answer, left}
use Rattle.recovery.specs.Recovering.{recovered_by, recover_from, recovered}
use Rattle.edit.specs.Edits.{is_block, is_new, grows, edit_rows, editing}
use Rattle.edit.proofs.AfreshLaws.{afresh_call, some_rows, is_edit, rows_of}
use Rattle.lumbrisse.specs.declared.reply.Reply.{Reply}
use Rattle.lumbrisse.specs.Numbers.{reply_of}
use Rattle.lumbrisse.specs.Promises.{TablePromise}
use Rattle.lumbrisse.specs.Edits.{RecoverGives, EditRecovers, AcceptedEdits}

-- ---- a reading whose refusals have numbers: where the reply's is 0, there are rows

abbrev Numbered : Reading → Type 0
Numbered (accepted rs) = Unit {0}
Numbered (denied n p) = n ≡ 0 → ⊥

recovered_numbered : (s : List ℕ) → Numbered (recovered s)
unfolding recovered_by
recovered_numbered s = go (leb (length s) size_limit) (recover_from (length s) 0 0 s)
  where
    go : (b : Bool) (rs : List Row) → Numbered (cond b (accepted rs) (denied 1 0))
    go true rs = tt
    go false rs = λ z. omega arith

editing_numbered : (s t : List ℕ) (k a e : ℕ) (y : List ℕ) → Numbered (editing s t k a e y)
unfolding editing
editing_numbered s t k a e y =
    go (ltb size_limit (length s) || grows s a e y) (is_block s a e && (leb k (room t) && is_new s a e y)) (edit_rows s a e y (rows_in k t))
  where
    go : (b c : Bool) (rs : List Row) → Numbered (cond b (denied 1 0) (cond c (accepted rs) (denied 10 0)))
    go true c rs = λ z. omega arith
    go false true rs = tt
    go false false rs = λ z. omega arith

answered : (x : Reading) (t : List ℕ) (r : Reply) (u : List ℕ) → Numbered x → TablePromise x t r u → r.number ≡ 0
    → answer x (room t) ≡ Ok r.count
unfolding answer reply_of
answered (accepted rs) t r u n p z = go (leb (length rs) (room t)) p.reply
  where
    go : (b : Bool) → r ≡ reply_of (cond b (Ok (length rs)) (Err (refused_with 9 0 (length rs))))
        → cond b (Ok (length rs)) (Err (refused_with 9 0 (length rs))) ≡ Ok r.count
    go true e = ap Ok (sym (ap (λ (x : Reply). x.count) e))
    go false e = absurd (let y : r.number ≡ 9 = ap (λ (x : Reply). x.number) e in omega arith)
answered (denied k q) t r u n p z = absurd (n (sym (ap (λ (x : Reply). x.number) p.reply) ∙ z))

-- ---- the claims

pub recover_gives : RecoverGives
recover_gives s t r u p z =
    let e = answered (recovered s) t r u (recovered_numbered s) p z in
    let some = some_rows (recovered s) (room t) r.count e in
    rows_of s r.count t u some.0 some.1 (sym (ap (λ (x : Reading). answer x (room t)) some.1) ∙ e)
    (p.rows ∙ ap (λ (x : Reading). left x t) some.1)

pub edit_recovers : EditRecovers
edit_recovers s rows k a e y t r u R g p =
    let same = afresh_call s k rows a e y R g in
    record { reply = p.reply ∙ ap reply_of (same.0 (room t)); rows = p.rows ∙ same.1 t }

pub accepted_edits : AcceptedEdits
accepted_edits s rows k a e y t r u p z =
    let some = some_rows (editing s rows k a e y) (room t) r.count (answered (editing s rows k a e y) t r u (editing_numbered s rows k a e y) p z) in
    is_edit s k rows a e y some.0 some.1
