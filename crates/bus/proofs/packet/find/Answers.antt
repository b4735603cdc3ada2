use Rattle.bus.proofs.FoundLaws.{found_laws}
use borrow.Author.Rules.{rules}
use Rattle.bus.proofs.packet.find.Goals as goal

pub returns-then-r-eq0 : goal.returns-then-r-eq0
returns-then-r-eq0 c = search (rules, found_laws)

pub returns-in_err-field_fault : goal.returns-in_err-field_fault
returns-in_err-field_fault c = search (rules, found_laws, c.in_err-field_fault.was)

pub returns-then-field_at-lt-FIRST_DETAIL : goal.returns-then-field_at-lt-FIRST_DETAIL
returns-then-field_at-lt-FIRST_DETAIL c = search (rules, found_laws, c.in_ok-field_fault.was)

pub slice_bounds-find_text-count : goal.slice_bounds-find_text-count
slice_bounds-find_text-count c = search (rules, found_laws)

pub slice_bounds-find_text-start : goal.slice_bounds-find_text-start
slice_bounds-find_text-start c = search (rules, found_laws)

pub returns : goal.returns
returns c = search (rules, found_laws)
