use mathlib.Core.Path.{◌∙◌, ap}
use Rattle.lumbrisse.specs.Numbers.{reply_of}
use Rattle.lumbrisse.proofs.lumbrisse_content.Goals as goal

pub returns : goal.returns
returns c = record { reply = c.reply_of.ensures ∙ ap reply_of c.unescape-a.ensures.answer; bytes = c.unescape-a.ensures.bytes }
