-- What each call answers, as the four numbers of a case, and every byte of the lent buffer afterwards.
use Rattle.std.specs.Prelude.{ℕ, ◌-◌, Bool, true, cond, ◌||◌, ◌&&◌, List, [], ◌∷◌, ◌++◌, eqb, leb, length, take, drop, None, Option, Some}
use Rattle.row.specs.Row.{room}
use Rattle.ledger.specs.Plain.{Reading, plain}
use Rattle.ledger.specs.Strict.{strict}
use Rattle.ledger.specs.Answers.{answer, left}
use Rattle.recovery.specs.Recovering.{recovered, recovered_strictly}
use Rattle.edit.specs.Edits.{editing}
use Rattle.totals.specs.Totals as totals
use Rattle.rewrite.specs.Rewriting as rewrite
use Rattle.decimal.specs.declared.Form.TheVariants.{Exact, Rounding}
use Rattle.access.specs.Single.{evaluated}
use Rattle.access.specs.Contents.{content_answer, content_left}
use Rattle.access.specs.Tables.{same, in_force}
use Rattle.bus.specs.Reading.{Step}
use Rattle.bus.specs.Reading.{row_left, text_left, step_at}
use Rattle.bus.specs.Writing.{written, written_left}
use Rattle.lumbrisse.specs.Numbers.{reply_of, force_reply, evaluated_of, part_of, handed_of}
use Rattle.lumbrisse.specs.declared.reply as box
use Rattle.replay.specs.declared.case.Case.{Case}
use Rattle.replay.specs.declared.call.Reply.{Reply}

-- the numbers of an export's answer: number, place, count and value
abbrev pub of_reply : box.Reply.Reply → Reply
of_reply r = record { number = r.number; place = r.place; count = r.count; value = 0; tag = 0 }

abbrev pub of_evaluated : box.Evaluated.Evaluated → Reply
of_evaluated e = record { number = e.number; place = e.place; count = 0; value = e.bits; tag = 0 }

-- where the part starts, and its length
abbrev pub of_part : box.Part.Part → Reply
of_part p = record { number = 0; place = p.start; count = p.length; value = 0; tag = 0 }

-- a step of a packet's reader, with what it handed out
abbrev pub of_handed : box.Handed.Handed → Reply
of_handed h = record { number = h.number; place = h.place; count = h.count; value = 0; tag = h.tag }

-- that step: the reader stands at a, and its two buffers stand one behind the other, the row's with b bytes
abbrev pub step_of : ℕ → ℕ → List ℕ → List ℕ → Step
step_of a b s t = step_at s a (take b t) (drop b t)

-- a case whose row's buffer is longer than both is none
abbrev pub stepped : ℕ → ℕ → List ℕ → List ℕ → Option Reply
stepped a b s t = cond (leb b (length t)) (Some (of_handed (handed_of a (step_of a b s t)))) None

abbrev pub stepped_left : ℕ → ℕ → List ℕ → List ℕ → List ℕ
stepped_left a b s t =
    cond (leb b (length t)) (row_left (step_of a b s t) (drop a s) (take b t) ++ text_left (step_of a b s t) (drop a s) (drop b t)) t

-- an edit: the second text has the rows that are given in its first d bytes, and behind them the new bytes
abbrev pub edit_of : Case → List ℕ → List ℕ → Reading
edit_of c s u = editing s (take c.d u) c.c c.a c.b (drop c.d u)

-- a case whose rows are longer than both is none
abbrev pub edited : Case → List ℕ → List ℕ → List ℕ → Option Reply
edited c s u t = cond (leb c.d (length u)) (Some (of_reply (reply_of (answer (edit_of c s u) (room t))))) None

abbrev pub edited_left : Case → List ℕ → List ℕ → List ℕ → List ℕ
edited_left c s u t = cond (leb c.d (length u)) (left (edit_of c s u) t) t

-- ---- working space

unfoldable pub zeros : List ℕ → Bool
zeros [] = true
zeros (b ∷ y) = eqb b 0 && zeros y

-- a working space, x before and y after the call: its first d bytes are zeros, and the others as they were
abbrev pub wiped : ℕ → List ℕ → List ℕ → Bool
wiped d x y = leb d (length x) && (leb d (length y) && (zeros (take d y) && same (drop d y) (drop d x)))

-- a reply, and 1 in place of what is handed out where a working space is not as it must be
abbrev pub of_spaced : box.Reply.Reply → Bool → Reply
of_spaced r kept = record { number = r.number; place = r.place; count = r.count; value = 0; tag = cond kept 0 1 }

-- ---- totals: the second text has a working space in its first c bytes, and behind them the other

abbrev pub totals_of : Case → List ℕ → List ℕ → List ℕ → totals.Outcome
totals_of c s u t = totals.decided s c.a c.b (length t) (length (take c.c u)) (length (drop c.c u)) (plain s)

-- the same of both, which stand one behind the other, n bytes and the rest; afterwards they are the fronts of y and z
abbrev pub both_wiped : ℕ → ℕ → List ℕ → List ℕ → List ℕ → Bool
both_wiped n d u y z = wiped d (take n u) (take n y) && wiped d (drop n u) (take (length u - n) z)

abbrev pub spaces_kept : Case → List ℕ → totals.Outcome → Bool
spaces_kept c u o = both_wiped c.c c.d u (totals.work_left o (take c.c u)) (totals.work_left o (drop c.c u))

-- a case whose working space is longer than both is none
abbrev pub totalled : Case → List ℕ → List ℕ → List ℕ → Option Reply
totalled c s u t =
    let o = totals_of c s u t in
    cond (leb c.c (length u)) (Some (of_spaced (reply_of (totals.answer_of o)) (spaces_kept c u o))) None

abbrev pub totalled_left : Case → List ℕ → List ℕ → List ℕ → List ℕ
totalled_left c s u t = cond (leb c.c (length u)) (totals.items_left (totals_of c s u t) t) t

-- ---- a ledger written afresh: the second text is the working space

abbrev pub rewritten : Case → List ℕ → List ℕ → List ℕ → Option Reply
rewritten c s u t =
    Some (of_spaced (reply_of (rewrite.answered s (length t) (length u) (plain s))) (wiped c.d u (rewrite.work_left u (plain s))))

abbrev pub rewritten_left : List ℕ → List ℕ → List ℕ → List ℕ
rewritten_left s u t = rewrite.output_left s (length u) t (plain s)

-- the calls of a single expression by their form; 12 and 13 are the second engine's (M-113), which answers as the first
abbrev pub is_rounding : ℕ → Bool
is_rounding k = eqb k 3 || eqb k 12

abbrev pub is_exact : ℕ → Bool
is_exact k = eqb k 9 || eqb k 13

-- the calls that read a ledger into a row table: plain and recovering reading, and both in the strict profile (M-110)
abbrev pub is_reading : ℕ → Bool
is_reading k = eqb k 1 || eqb k 2 || eqb k 7 || eqb k 8

abbrev pub reading_of : ℕ → List ℕ → Reading
reading_of k s = cond (eqb k 1) (plain s) (cond (eqb k 2) (recovered s) (cond (eqb k 7) (strict s) (recovered_strictly s)))

-- the call of a case with two texts and a lent buffer
unfoldable pub outcome : Case → List ℕ → List ℕ → List ℕ → Option Reply
outcome c s u t =
    let k = c.call in
    let reading = Some (of_reply (reply_of (answer (reading_of k s) (room t)))) in
    let single = Some (of_evaluated (evaluated_of (evaluated Rounding s))) in
    let singleExact = Some (of_evaluated (evaluated_of (evaluated Exact s))) in
    let content = Some (of_reply (reply_of (content_answer s (length t)))) in
    let part = Some (of_part (part_of s c.a c.b)) in
    let force = Some (of_reply (force_reply (in_force s t c.a u))) in
    let packet = Some (of_reply (reply_of (written s c.a u (length t)))) in
    cond (is_reading k) reading
    (cond (is_rounding k) single
    (cond (is_exact k) singleExact
    (cond (eqb k 4) content
    (cond (eqb k 5) part
    (cond (eqb k 6) force
    (cond (eqb k 10) (totalled c s u t)
    (cond (eqb k 14) (edited c s u t)
    (cond (eqb k 15) packet
    (cond (eqb k 16) (stepped c.a c.b s t) (cond (eqb k 17) (rewritten c s u t) None))))))))))

-- the lent buffer afterwards: readings, string content, totals, an edit, a packet, a step of its reader
-- and a ledger written afresh write
unfoldable pub left_by : Case → List ℕ → List ℕ → List ℕ → List ℕ
left_by c s u t =
    let k = c.call in
    cond (is_reading k) (left (reading_of k s) t)
    (cond (eqb k 4) (content_left s t)
    (cond (eqb k 10) (totalled_left c s u t)
    (cond (eqb k 14) (edited_left c s u t) (cond (eqb k 15) (written_left s c.a u t) (cond (eqb k 16) (stepped_left c.a c.b s t) (cond (eqb k 17) (rewritten_left s u t) t))))))
