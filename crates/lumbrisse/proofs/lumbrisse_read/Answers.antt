use mathlib.Core.Path.{◌∙◌, ap}
use Rattle.lumbrisse.specs.Numbers.{reply_of}
use Rattle.lumbrisse.proofs.lumbrisse_read.Goals as goal

pub returns : goal.returns
returns c = record { reply = c.reply_of.ensures ∙ ap reply_of c.read-a.ensures.answer; rows = c.read-a.ensures.rows }
