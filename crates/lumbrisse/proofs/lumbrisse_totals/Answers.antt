use mathlib.Core.Path.{◌∙◌, ap}
use Rattle.lumbrisse.specs.Numbers.{reply_of}
use Rattle.lumbrisse.proofs.lumbrisse_totals.Goals as goal

pub returns : goal.returns
returns c =
    let done = c.totals-a.ensures in
    record { reply = c.reply_of.ensures ∙ ap reply_of done.answer; items = done.in_items; work = done.in_work; spare = done.in_spare }
