use mathlib.Core.Path.{◌∙◌, ap}
use Rattle.lumbrisse.specs.Numbers.{force_reply}
use Rattle.lumbrisse.proofs.lumbrisse_tag_in_force.Goals as goal

pub returns : goal.returns
returns c = c.force_reply.ensures ∙ ap force_reply c.tag_in_force-a.ensures
