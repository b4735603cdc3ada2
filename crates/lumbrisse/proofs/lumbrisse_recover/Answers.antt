use mathlib.Core.Path.{◌∙◌, ap}
use Rattle.lumbrisse.specs.Numbers.{reply_of}
use Rattle.lumbrisse.proofs.lumbrisse_recover.Goals as goal

pub returns : goal.returns
returns c = record { reply = c.reply_of.ensures ∙ ap reply_of c.recover-a.ensures.answer; rows = c.recover-a.ensures.rows }
