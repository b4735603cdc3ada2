-- What an accepted packet is, and that it reads back.
use Rattle.text.specs.declared.stop.Refused.{Refused}
use Rattle.text.specs.Refusals.{refused_with}
use Rattle.std.specs.Prelude.{Err, Ok, Result}
use Prim.Native.Nat.{ℕ, ◌*◌, min}
use native.Mathlib.Omega.{arith}
use mathlib.Core.Path.{◌≡◌, refl, sym, ◌∙◌, ap}
use mathlib.Core.Bool.{Bool, true, false, cond}
use mathlib.Core.List.{List, ◌++◌}
use borrow.Author.Tests.{eq-eqb}
use lib.Dec.{eqb, leb}
use lib.ListN.{length, take, drop}
use lib.Seq.{take-append_seam}
use Rattle.decimal.specs.Exact.{largest}
use Rattle.text.proofs.TestLaws.{absurd_bool}
use Rattle.row.specs.declared.table.Row.{Row}
use Rattle.row.specs.Row.{rows_bytes, room, width}
use Rattle.ledger.specs.Plain.{accepted}
use Rattle.ledger.specs.Answers.{answer, left}
use Rattle.bus.specs.Back.{all, held_in, items}
use Rattle.bus.specs.Writing.{packet, refusing, written, written_left}
use Rattle.bus.proofs.BackLaws.{reads_back}
use Rattle.bus.proofs.RowItems.{items_rows}
use Rattle.lumbrisse.specs.declared.reply.Reply.{Reply}
use Rattle.lumbrisse.specs.Numbers.{reply_of}
use Rattle.lumbrisse.specs.Promises.{TablePromise, PacketPromise}
use Rattle.lumbrisse.specs.Packets.{TableReadsBack, ReadingReadsBack}

-- ---- an accepted packet is the defined one

module _ (s t b u : List ℕ) (k : ℕ) (r : Reply) (p : PacketPromise s t k b r u) (z : r.number ≡ 0) where
  abbrev m : ℕ
  m = length (packet s k t)

  abbrev Accepted : Result ℕ Refused → Type 0
  Accepted w = (w ≡ Ok m) × (take r.count u ≡ packet s k t)

  accepted_packet : Accepted (written s k t (length b))
  unfolding written written_left reply_of
  accepted_packet = go (eqb (refusing s k t) 0) refl (leb m (length b)) p.reply p.bytes
    where
      go : (q : Bool) → eqb (refusing s k t) 0 ≡ q → (l : Bool)
          → r ≡ reply_of (cond q (cond l (Ok m) (Err (refused_with 9 0 (min m largest)))) (Err (refused_with (refusing s k t) 0 0)))
          → u ≡ cond q (cond l (packet s k t ++ drop m b) b) b
          → Accepted (cond q (cond l (Ok m) (Err (refused_with 9 0 (min m largest)))) (Err (refused_with (refusing s k t) 0 0)))
      go true e true er eu = (refl, rw (ap (λ (x : Reply). x.count) er, eu) (take-append_seam (packet s k t) (drop m b)))
      go true e false er eu = absurd (let y : r.number ≡ 9 = ap (λ (x : Reply). x.number) er in omega arith)
      go false e l er eu = absurd_bool (sym e ∙ eq-eqb (refusing s k t) 0 (sym (ap (λ (x : Reply). x.number) er) ∙ z))

pub table_reads_back : TableReadsBack
table_reads_back s t b u k r p z =
    let a = accepted_packet s t b u k r p z in
    ap held_in a.1 ∙ reads_back s t k (length b) (length (packet s k t)) a.0

-- ---- so is the table of an accepted reading

module _ (rows : List Row) (t v : List ℕ) (q : Reply) (p : TablePromise (accepted rows) t q v) (z : q.number ≡ 0) where
  accepted_table : (q.count ≡ length rows) × (v ≡ rows_bytes rows ++ drop (length rows * width) t)
  unfolding answer left reply_of
  accepted_table = go (leb (length rows) (room t)) p.reply p.rows
    where
      go : (l : Bool) → q ≡ reply_of (cond l (Ok (length rows)) (Err (refused_with 9 0 (length rows))))
          → v ≡ cond l (rows_bytes rows ++ drop (length rows * width) t) t → (q.count ≡ length rows) × (v ≡ rows_bytes rows ++ drop (length rows * width) t)
      go true er ev = (ap (λ (x : Reply). x.count) er, ev)
      go false er ev = absurd (let y : q.number ≡ 9 = ap (λ (x : Reply). x.number) er in omega arith)

pub reading_reads_back : ReadingReadsBack
reading_reads_back s t v b u rows q r p z w y =
    let a = accepted_table rows t v q p z in
    table_reads_back s v b u q.count r w y
    ∙ ap all (ap (λ (n : ℕ). items s n v) a.0 ∙ ap (items s (length rows)) a.1 ∙ items_rows s rows (drop (length rows * width) t))
