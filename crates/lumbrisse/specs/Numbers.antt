-- The numbers of each answer, as document 01 has them: number 0 is accepted, and what an answer has not is 0.
use Rattle.decimal.specs.declared.Decimal.{Decimal}
use Rattle.text.specs.declared.stop.Refused.{Refused}
use Rattle.std.specs.Prelude.{ℕ, ◌-◌, cond, List, Err, Ok, Result, Bool, None, Some}
use Rattle.decimal.specs.Exact.{whole_of, twos_of}
use Rattle.access.specs.Spans.{good_span}
use Rattle.bus.specs.Fields.{entry_tag, detail_tag}
use Rattle.bus.specs.declared.packet.Piece.{Piece}
use Rattle.bus.specs.Reading.{Step}
use Rattle.lumbrisse.specs.declared.reply.Reply.{Reply}
use Rattle.lumbrisse.specs.declared.reply.Evaluated.{Evaluated}
use Rattle.lumbrisse.specs.declared.reply.Handed.{Handed}
use Rattle.lumbrisse.specs.declared.reply.Part.{Part}

abbrev pub replied : ℕ → ℕ → ℕ → Reply
replied n p c = record { number = n; place = p; count = c }

abbrev pub refused_reply : Refused → Reply
refused_reply r = replied r.number r.place r.count

-- how many rows, items or bytes; or a refusal's number, place and count
unfoldable pub reply_of : Result ℕ Refused → Reply
reply_of (Ok n) = replied 0 0 n
reply_of (Err r) = refused_reply r

-- a tag in force: 1 or 0
unfoldable pub force_reply : Result Bool Refused → Reply
force_reply (Ok b) = replied 0 0 (cond b 1 0)
force_reply (Err r) = refused_reply r

-- one expression: where it stops and its millionths in two's complement, or number and place of a refusal
unfoldable pub evaluated_of : Result (ℕ × Decimal) Refused → Evaluated
evaluated_of (Ok (e, d)) = record { number = 0; place = e; bits = twos_of (whole_of d) }
evaluated_of (Err r) = record { number = r.number; place = r.place; bits = 0 }

-- a span: where its text starts in the ledger, and its length; empty, at 0, for a bad span
unfoldable pub part_of : List ℕ → ℕ → ℕ → Part
part_of s a e = cond (good_span s a e) (record { start = a; length = e - a }) (record { start = 0; length = 0 })

abbrev pub handed_by : ℕ → ℕ → ℕ → ℕ → Handed
handed_by n p t c = record { number = n; place = p; tag = t; count = c }

-- a step of a packet's reader that stood at a place: the place behind what it handed out, the row's tag and the text's
-- length; at the packet's end its own place and no tag; or number, place and need of a refusal
unfoldable pub handed_of : ℕ → Step → Handed
handed_of at (Ok (Some (Piece.Entry, next))) = handed_by 0 next entry_tag 0
handed_of at (Ok (Some (Piece.Detail n, next))) = handed_by 0 next detail_tag n
handed_of at (Ok None) = handed_by 0 at 0 0
handed_of at (Err r) = handed_by r.number r.place 0 r.count
