-- What a closed text is computed with, opened together by `unfolding opened`: this crate's definitions and those
-- beneath.
use Rattle.ledger.specs.Plain
use Rattle.ledger.specs.Strict
use Rattle.ledger.specs.Answers
use Rattle.entry.specs.Opened as entries

unfoldable pub opened : Unit {0}
unfolding entries.opened Plain.move Plain.read_from Plain.part_at Plain.plain Strict.first_refused Strict.strictly
    Strict.missed Strict.lost_line Strict.other_flag Strict.objection Answers.answer Answers.left
opened = tt
