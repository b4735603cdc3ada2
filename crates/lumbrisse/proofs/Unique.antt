-- Each export's promise fixes its answer: two answers that meet it are equal, with every lent byte; and for every input
-- there is one.
use Prim.Native.Nat.{ℕ}
use mathlib.Core.Path.{◌≡◌, refl, sym, ◌∙◌}
use mathlib.Core.Bool.{Bool, true, false}
use mathlib.Core.List.{List}
use lib.ListN.{length, take, drop}
use Rattle.row.specs.Row.{room}
use Rattle.ledger.specs.Plain.{Reading, plain}
use Rattle.ledger.specs.Answers.{answer, left}
use Rattle.decimal.specs.declared.Form.{Form}
use Rattle.access.specs.Single.{evaluated}
use Rattle.access.specs.Contents.{content_answer, content_left}
use Rattle.access.specs.Spans.{good_span, span_text}
use Rattle.access.specs.Tables.{in_force}
use Rattle.bus.specs.Writing.{written, written_left}
use Rattle.bus.specs.Reading.{row_left, text_left, step_at}
use Rattle.totals.specs.Totals.{decided, answer_of, items_left, work_left}
use Rattle.rewrite.specs.Rewriting as rewrite
use Rattle.lumbrisse.specs.declared.reply.Reply.{Reply}
use Rattle.lumbrisse.specs.declared.reply.Evaluated.{Evaluated}
use Rattle.lumbrisse.specs.declared.reply.Handed.{Handed}
use Rattle.lumbrisse.specs.declared.reply.Part.{Part}
use Rattle.lumbrisse.specs.Numbers.{reply_of, force_reply, evaluated_of, part_of, handed_of}
use Rattle.lumbrisse.specs.Promises.{TablePromise, TotalsPromise, WritePromise, ContentPromise, ExpressionPromise, TagPromise, SpanPromise, PacketPromise, StepPromise}

-- both are what is defined
pub same_defined : {A : Type 0} {x r q : A} → r ≡ x → q ≡ x → r ≡ q
same_defined e f = e ∙ sym f

-- ---- two answers to one call; a table is that of plain and of recovering reading, in either profile, and of an edit

pub table_unique : {x : Reading} {t u v : List ℕ} {r q : Reply} → TablePromise x t r u → TablePromise x t q v → (r ≡ q) × (u ≡ v)
table_unique a b = (same_defined a.reply b.reply, same_defined a.rows b.rows)

pub totals_unique : {s t w u t₁ w₁ u₁ t₂ w₂ u₂ : List ℕ} {y m : ℕ} {r q : Reply} → TotalsPromise s y m t w u r t₁ w₁ u₁ → TotalsPromise s y m t w u q t₂ w₂ u₂
    → (r ≡ q) × ((t₁ ≡ t₂) × ((w₁ ≡ w₂) × (u₁ ≡ u₂)))
totals_unique a b =
    (same_defined a.reply b.reply, (same_defined a.items b.items, (same_defined a.work b.work, same_defined a.spare b.spare)))

pub content_unique : {c t u v : List ℕ} {r q : Reply} → ContentPromise c t r u → ContentPromise c t q v → (r ≡ q) × (u ≡ v)
content_unique a b = (same_defined a.reply b.reply, same_defined a.bytes b.bytes)

pub expression_unique : (form : Form) (s : List ℕ) {r q : Evaluated} → ExpressionPromise form s r → ExpressionPromise form s q → r ≡ q
expression_unique form s a b = same_defined a b

pub tag_unique : (s t : List ℕ) (k : ℕ) (tag : List ℕ) {r q : Reply} → TagPromise s t k tag r → TagPromise s t k tag q → r ≡ q
tag_unique s t k tag a b = same_defined a b

pub span_unique : {s : List ℕ} {a e : ℕ} {r q : Part} → SpanPromise s a e r → SpanPromise s a e q → r ≡ q
span_unique a b = same_defined a.part b.part

pub packet_unique : {s t b u v : List ℕ} {k : ℕ} {r q : Reply} → PacketPromise s t k b r u → PacketPromise s t k b q v → (r ≡ q) × (u ≡ v)
packet_unique a b = (same_defined a.reply b.reply, same_defined a.bytes b.bytes)

pub step_unique : {p b c u v x y : List ℕ} {at : ℕ} {r q : Handed} → StepPromise p at b c r u v → StepPromise p at b c q x y → (r ≡ q) × ((u ≡ x) × (v ≡ y))
step_unique a b = (same_defined a.answer b.answer, (same_defined a.row b.row, same_defined a.text b.text))

-- ---- an answer to every call

pub table_total : (x : Reading) (t : List ℕ) → (r : Reply) × ((u : List ℕ) × TablePromise x t r u)
table_total x t = (reply_of (answer x (room t)), (left x t, record { reply = refl; rows = refl }))

pub write_unique : {s o w o₁ w₁ o₂ w₂ : List ℕ} {r q : Reply} → WritePromise s o w r o₁ w₁ → WritePromise s o w q o₂ w₂ → (r ≡ q) × ((o₁ ≡ o₂) × (w₁ ≡ w₂))
write_unique a b = (same_defined a.reply b.reply, (same_defined a.output b.output, same_defined a.work b.work))

pub write_total : (s o w : List ℕ) → (r : Reply) × ((o' : List ℕ) × ((w' : List ℕ) × WritePromise s o w r o' w'))
write_total s o w =
    (reply_of (rewrite.answered s (length o) (length w) (plain s)), (rewrite.output_left s (length w) o (plain s), (rewrite.work_left w (plain s), record { reply = refl; output = refl; work = refl })))

pub totals_total : (s : List ℕ) (y m : ℕ) (t w u : List ℕ)
    → (r : Reply) × ((t' : List ℕ) × ((w' : List ℕ) × ((u' : List ℕ) × TotalsPromise s y m t w u r t' w' u')))
totals_total s y m t w u =
    let d = decided s y m (length t) (length w) (length u) (plain s) in
    (reply_of (answer_of d), (items_left d t, (work_left d w, (work_left d u, record { reply = refl; items = refl; work = refl; spare = refl }))))

pub content_total : (c t : List ℕ) → (r : Reply) × ((u : List ℕ) × ContentPromise c t r u)
content_total c t = (reply_of (content_answer c (length t)), (content_left c t, record { reply = refl; bytes = refl }))

pub expression_total : (form : Form) (s : List ℕ) → (r : Evaluated) × ExpressionPromise form s r
expression_total form s = (evaluated_of (evaluated form s), refl)

pub tag_total : (s t : List ℕ) (k : ℕ) (tag : List ℕ) → (r : Reply) × TagPromise s t k tag r
tag_total s t k tag = (force_reply (in_force s t k tag), refl)

-- a part that is the defined one holds the span's text
pub part_text : (s : List ℕ) (a e : ℕ) (good : Bool) → good_span s a e ≡ good → take (part_of s a e).length (drop (part_of s a e).start s) ≡ span_text s a e
unfolding part_of span_text
part_text s a e true g = rw g
part_text s a e false g = rw g

pub span_total : (s : List ℕ) (a e : ℕ) → (r : Part) × SpanPromise s a e r
span_total s a e = (part_of s a e, record { part = refl; text = part_text s a e (good_span s a e) refl })

pub packet_total : (s t : List ℕ) (k : ℕ) (b : List ℕ) → (r : Reply) × ((u : List ℕ) × PacketPromise s t k b r u)
packet_total s t k b = (reply_of (written s k t (length b)), (written_left s k t b, record { reply = refl; bytes = refl }))

pub step_total : (p : List ℕ) (at : ℕ) (b c : List ℕ) → (r : Handed) × ((u : List ℕ) × ((v : List ℕ) × StepPromise p at b c r u v))
step_total p at b c =
    let x = step_at p at b c in
    (handed_of at x, (row_left x (drop at p) b, (text_left x (drop at p) c, record { answer = refl; row = refl; text = refl })))
