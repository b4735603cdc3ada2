use Rattle.access.proofs.ContentLaws.{copy_laws}
use borrow.Author.Rules.{rules}
use Rattle.access.proofs.content.copied.Goals as goal

pub loop-i-init : goal.loop-i-init
loop-i-init c = search (rules, copy_laws)

pub bounds-content-i : goal.bounds-content-i
bounds-content-i c = search (rules, copy_laws)

pub skipped-requires : goal.skipped-requires
skipped-requires c = search (rules, copy_laws)

pub overflow_add-at : goal.overflow_add-at
overflow_add-at c = search (rules, copy_laws)

pub bounds-content-at : goal.bounds-content-at
bounds-content-at c = search (rules, copy_laws)

pub bounds-buffer-n : goal.bounds-buffer-n
bounds-buffer-n c = search (rules, copy_laws)

pub overflow_add-n : goal.overflow_add-n
overflow_add-n c = search (rules, copy_laws)

pub overflow_add-i : goal.overflow_add-i
overflow_add-i c = search (rules, copy_laws)

pub loop-i-smaller : goal.loop-i-smaller
loop-i-smaller c = search (rules, copy_laws)

pub loop-i-preserved : goal.loop-i-preserved
loop-i-preserved c = (search (rules, copy_laws), search (rules, copy_laws), search (rules, copy_laws), search (rules, copy_laws))

pub shape_of-buffer-else-at-content : goal.shape_of-buffer-else-at-content
shape_of-buffer-else-at-content c = search (rules, copy_laws)

pub returns-else-at-content : goal.returns-else-at-content
returns-else-at-content c = search (rules, copy_laws)

pub shape_of-buffer : goal.shape_of-buffer
shape_of-buffer c = search (rules, copy_laws)

pub returns : goal.returns
returns c = search (rules, copy_laws)
