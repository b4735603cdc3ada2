use Rattle.bus.proofs.FoundLaws.{text_laws}
use borrow.Author.Rules.{rules}
use Rattle.bus.proofs.packet.find_text.Goals as goal

pub returns-in_err-field_fault : goal.returns-in_err-field_fault
returns-in_err-field_fault c = search (rules, text_laws, c.in_err-field_fault.was)

pub returns : goal.returns
returns c = search (rules, text_laws, c.in_ok-field_fault.was)
