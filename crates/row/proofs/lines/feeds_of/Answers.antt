use Rattle.row.proofs.LineLaws.{part_on, part_room, part_last}
use mathlib.Core.Path.{◌∙◌}
use borrow.Author.Rules.{rules}
use Rattle.row.proofs.lines.feeds_of.Goals as goal

pub overflow_add-n : goal.overflow_add-n
overflow_add-n c = part_room _ _ _ c.loop-part.invariant.3 _ _ _ c.in-Some.ensures.steps.1.0 (c.from-n.ensures ∙ c.few_feeds.ensures) (search rules)

pub loop-part-preserved : goal.loop-part-preserved
loop-part-preserved c =
    let steps = c.in-Some.ensures.steps in
    (search rules, tt, search rules, part_on _ _ _ c.loop-part.invariant.3 _ _ _ steps.1.0 (c.from-n.ensures ∙ c.few_feeds.ensures))

pub returns : goal.returns
returns c = part_last _ _ _ c.loop-part.invariant.3 c.in-None.ensures.steps.1.0
