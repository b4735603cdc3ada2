use Rattle.entry.proofs.SettleLaws.{entry_laws}
use mathlib.Core.Path.{◌≡◌}
use Rattle.std.specs.Prelude.{Err}
use Rattle.text.specs.declared.stop.Stop.{Stop}
use Rattle.text.specs.declared.stop.Cause.{Cause}
use borrow.Author.Rules.{rules}
use Rattle.entry.proofs.entry.entry_at.Goals as goal

pub settled_at-requires : goal.settled_at-requires
settled_at-requires c = search (rules, entry_laws, c.in-Ok.ensures)

pub returns-in-Ok-clause-value : goal.returns-in-Ok-clause-value
returns-in-Ok-clause-value c = search (rules, entry_laws, c.in-Ok.ensures)

pub returns-in-Ok-clause-entry_poured : goal.returns-in-Ok-clause-entry_poured
returns-in-Ok-clause-entry_poured c = search (rules, entry_laws)

pub returns-in-Err-Miss-clause-value : goal.returns-in-Err-Miss-clause-value
returns-in-Err-Miss-clause-value c = search (rules, entry_laws, c.in-Err-Miss.ensures)

pub returns-in-Err-Miss-clause-entry_poured : goal.returns-in-Err-Miss-clause-entry_poured
returns-in-Err-Miss-clause-entry_poured c = search (rules, entry_laws)

pub returns-in-Err-Hard-TooDeep-default-clause-value : goal.returns-in-Err-Hard-TooDeep-default-clause-value
returns-in-Err-Hard-TooDeep-default-clause-value c =
    let stopped : c.form_at.result ≡ Err (Stop.Hard Cause.TooDeep c.in-Err-Hard-TooDeep-default.p) = search (rules, c.in-Err-Hard-TooDeep-default.ensures) in
    search (rules, entry_laws, stopped)

pub returns-in-Err-Hard-TooDeep-default-clause-entry_poured : goal.returns-in-Err-Hard-TooDeep-default-clause-entry_poured
returns-in-Err-Hard-TooDeep-default-clause-entry_poured c = search (rules, entry_laws, c.in-Err-Hard-TooDeep-default.ensures)

pub returns-in-Err-Hard-clause-value : goal.returns-in-Err-Hard-clause-value
returns-in-Err-Hard-clause-value c = search (rules, entry_laws, c.in-Err-Hard.ensures)

pub returns-in-Err-Hard-clause-entry_poured : goal.returns-in-Err-Hard-clause-entry_poured
returns-in-Err-Hard-clause-entry_poured c = search (rules, entry_laws, c.in-Err-Hard.ensures)
