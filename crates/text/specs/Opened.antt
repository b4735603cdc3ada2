-- What a closed text is computed with, opened together by `unfolding opened`: this crate's definitions.
use Rattle.text.specs.Bytes
use Rattle.text.specs.Run
use Rattle.text.specs.Boundaries
use Rattle.text.specs.Permitted
use Rattle.text.specs.Lines
use Rattle.text.specs.Dates
use Rattle.text.specs.Strings
use Rattle.text.specs.Currencies
use Rattle.text.specs.Words
use Rattle.text.specs.Tags
use Rattle.text.specs.Answer
use Rattle.text.specs.Leaves
use Rattle.text.specs.Accounts

unfoldable pub opened : Unit {0}
unfolding Bytes.is_blank Bytes.is_space Bytes.is_digit Bytes.is_small Bytes.is_capital Bytes.in_line Bytes.in_comment
    Bytes.is_ordinary Bytes.is_escaped Bytes.starts_part Bytes.in_account Bytes.in_currency Bytes.in_tag Bytes.in_link
    Bytes.bytes Run.run_from Run.run_to Boundaries.holds Permitted.permitted Permitted.clean Lines.gap_at Lines.comma_at
    Lines.comment_end Lines.eol_at Lines.line_end_at Lines.empty_at Dates.as_shape Dates.like_shape Dates.two Dates.date_in
    Dates.date_at Strings.string_at Strings.str_from Strings.esc_from Currencies.currency_at Words.starts_with Words.word_at
    Tags.marked_at Answer.◌then◌ Answer.must Answer.◌else◌ Answer.more Answer.◌and◌ Answer.maybe Answer.many Leaves.comma
    Leaves.token Leaves.dated Leaves.gap Leaves.hard_gap Leaves.line_end Leaves.empty_line Leaves.string Leaves.currency
    Leaves.tag Leaves.link Leaves.date Leaves.word Leaves.byte Accounts.account_part Accounts.next_part Accounts.account
opened = tt
