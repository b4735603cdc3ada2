use mathlib.Core.Path.{◌∙◌, ap}
use Rattle.lumbrisse.specs.Numbers.{reply_of}
use Rattle.lumbrisse.proofs.lumbrisse_write.Goals as goal

pub returns : goal.returns
returns c =
    let done = c.write-a.ensures in
    record { reply = c.reply_of.ensures ∙ ap reply_of done.answer; output = done.output; work = done.work }
