use Rattle.bus.proofs.FoundLaws.{fault_laws}
use borrow.Author.Rules.{rules}
use Rattle.bus.proofs.packet.field_fault.Goals as goal

pub returns-then-due : goal.returns-then-due
returns-then-due c = search (rules, fault_laws)

pub returns-then-whole : goal.returns-then-whole
returns-then-whole c = search (rules, fault_laws)

pub returns : goal.returns
returns c = search (rules, fault_laws)
