use Rattle.replay.proofs.BodyLaws.{body_laws}
use borrow.Author.Rules.{rules}
use Rattle.replay.proofs.judged.Goals as goal

pub slice_bounds-judged-end : goal.slice_bounds-judged-end
slice_bounds-judged-end c = search (rules, body_laws)

pub slice_bounds-judged-end-4 : goal.slice_bounds-judged-end-4
slice_bounds-judged-end-4 c = search (rules, body_laws)

pub slice_bounds-judged-end-5 : goal.slice_bounds-judged-end-5
slice_bounds-judged-end-5 c = search (rules, body_laws)

pub judged-requires : goal.judged-requires
judged-requires c = search (rules, body_laws)

pub returns : goal.returns
returns c = search (rules, body_laws)
