use Rattle.bus.proofs.HandLaws.{hand_laws}
use borrow.Author.Rules.{rules}
use Rattle.bus.proofs.packet.hand_out.Goals as goal

pub returns-then-packet-at : goal.returns-then-packet-at
returns-then-packet-at c = search (rules, hand_laws)

pub overflow_add-at : goal.overflow_add-at
overflow_add-at c = search (rules, hand_laws, c.in-Err.ensures)

pub returns-in-Err : goal.returns-in-Err
returns-in-Err c = search (rules, hand_laws, c.in-Err.ensures)

pub returns-in_default : goal.returns-in_default
returns-in_default c = search (rules, hand_laws, c.in-Ok.ensures)

pub returns-then-row-lt-WIDTH : goal.returns-then-row-lt-WIDTH
returns-then-row-lt-WIDTH c = search (rules, hand_laws)

pub copy_part-requires : goal.copy_part-requires
copy_part-requires c = search (rules, hand_laws)

pub returns-then-text-n : goal.returns-then-text-n
returns-then-text-n c = search (rules, hand_laws)

pub copy_part-requires-in-Detail : goal.copy_part-requires-in-Detail
copy_part-requires-in-Detail c = search (rules, hand_laws)

pub copy_part-requires-in-Detail-2 : goal.copy_part-requires-in-Detail-2
copy_part-requires-in-Detail-2 c = search (rules, hand_laws)

pub overflow_add-result-in-Detail-2 : goal.overflow_add-result-in-Detail-2
overflow_add-result-in-Detail-2 c = search (rules, hand_laws)

pub returns-in-Entry : goal.returns-in-Entry
returns-in-Entry c = search (rules, hand_laws)

pub returns-else-text-n : goal.returns-else-text-n
returns-else-text-n c = search (rules, hand_laws)
