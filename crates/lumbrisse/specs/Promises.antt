-- What each export promises for every input: its answer r, and every lent byte u afterwards.
use Rattle.std.specs.Prelude.{ℕ, ◌≡◌, List, length, take, drop}
use Rattle.decimal.specs.declared.Form.{Form}
use Rattle.row.specs.Row.{room}
use Rattle.ledger.specs.Plain.{Reading, plain}
use Rattle.ledger.specs.Answers.{answer, left}
use Rattle.access.specs.Single.{evaluated}
use Rattle.access.specs.Contents.{content_answer, content_left}
use Rattle.access.specs.Tables.{in_force}
use Rattle.access.specs.Spans.{span_text}
use Rattle.bus.specs.Writing.{written, written_left}
use Rattle.bus.specs.Reading.{row_left, text_left, step_at}
use Rattle.totals.specs.Totals.{decided, answer_of, items_left, work_left}
use Rattle.rewrite.specs.Rewriting as rewrite
use Rattle.lumbrisse.specs.declared.reply.Reply.{Reply}
use Rattle.lumbrisse.specs.declared.reply.Evaluated.{Evaluated}
use Rattle.lumbrisse.specs.declared.reply.Handed.{Handed}
use Rattle.lumbrisse.specs.declared.reply.Part.{Part}
use Rattle.lumbrisse.specs.Numbers.{reply_of, force_reply, evaluated_of, part_of, handed_of}

-- a reading of a ledger into a table t: plain or recovering, in either profile, or that of an edited ledger
pub record TablePromise (reading : Reading) (t : List ℕ) (r : Reply) (u : List ℕ) : Type 0 where
  pub reply : r ≡ reply_of (answer reading (room t))
  pub rows : u ≡ left reading t

-- the totals of a ledger s for a year and month into a buffer t, with the working spaces w and u
pub record TotalsPromise (s : List ℕ) (year month : ℕ) (t w u : List ℕ) (r : Reply) (t' w' u' : List ℕ) : Type 0 where
  pub reply : r ≡ reply_of (answer_of (decided s year month (length t) (length w) (length u) (plain s)))
  pub items : t' ≡ items_left (decided s year month (length t) (length w) (length u) (plain s)) t
  pub work : w' ≡ work_left (decided s year month (length t) (length w) (length u) (plain s)) w
  pub spare : u' ≡ work_left (decided s year month (length t) (length w) (length u) (plain s)) u

-- a ledger s written afresh into a buffer o, with the working space w
pub record WritePromise (s o w : List ℕ) (r : Reply) (o' w' : List ℕ) : Type 0 where
  pub reply : r ≡ reply_of (rewrite.answered s (length o) (length w) (plain s))
  pub output : o' ≡ rewrite.output_left s (length w) o (plain s)
  pub work : w' ≡ rewrite.work_left w (plain s)

-- content c into a buffer t
pub record ContentPromise (c t : List ℕ) (r : Reply) (u : List ℕ) : Type 0 where
  pub reply : r ≡ reply_of (content_answer c (length t))
  pub bytes : u ≡ content_left c t

-- the expression at a text's start, in a form
abbrev pub ExpressionPromise : Form → List ℕ → Evaluated → Type 0
ExpressionPromise form s r = r ≡ evaluated_of (evaluated form s)

abbrev pub TagPromise : List ℕ → List ℕ → ℕ → List ℕ → Reply → Type 0
TagPromise s t k tag r = r ≡ force_reply (in_force s t k tag)

-- a span from a to e of a ledger s: the part is the span's text
pub record SpanPromise (s : List ℕ) (a e : ℕ) (r : Part) : Type 0 where
  pub part : r ≡ part_of s a e
  pub text : take r.length (drop r.start s) ≡ span_text s a e

-- the packet of the first k rows of a table t, with the texts of a ledger s, into a buffer b
pub record PacketPromise (s t : List ℕ) (k : ℕ) (b : List ℕ) (r : Reply) (u : List ℕ) : Type 0 where
  pub reply : r ≡ reply_of (written s k t (length b))
  pub bytes : u ≡ written_left s k t b

-- one step of a reader that stands at a place of a packet p, with a buffer b for the row and c for the text
pub record StepPromise (p : List ℕ) (at : ℕ) (b c : List ℕ) (r : Handed) (b' c' : List ℕ) : Type 0 where
  pub answer : r ≡ handed_of at (step_at p at b c)
  pub row : b' ≡ row_left (step_at p at b c) (drop at p) b
  pub text : c' ≡ text_left (step_at p at b c) (drop at p) c
