-- What a closed text is computed with, opened together by `unfolding opened`: this crate's definitions and those
-- beneath.
use Rattle.entry.specs.Directive
use Rattle.entry.specs.Forms
use Rattle.entry.specs.Entry
use Rattle.entry.specs.Strings
use Rattle.content.specs.Opened as contents
use Rattle.transaction.specs.Opened as transactions

unfoldable pub opened : Unit {0}
unfolding contents.opened transactions.opened Directive.keyword Directive.option Directive.include Directive.tagged
    Forms.as_entry Forms.dateless Forms.directive Forms.blank Forms.form_of Entry.detail_row Entry.rows_of Entry.judged
    Entry.hard_place Entry.settled Entry.entry_of Strings.row_strings Strings.unless Strings.lost_event Strings.spans
    Strings.lost_strings Strings.strings
opened = tt
