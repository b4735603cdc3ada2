use Rattle.content.proofs.OpenLaws.{gap_booking_laws}
use mathlib.Core.Path.{◌≡◌}
use Rattle.std.specs.Prelude.{Some}
use Rattle.text.proofs.TestLaws.{tried}
use borrow.Author.Rules.{rules}
use Rattle.content.proofs.open.gap_booking.Goals as goal

pub returns-in_err-j : goal.returns-in_err-j
returns-in_err-j c = search (rules, gap_booking_laws, c.in_err-j.was)

pub returns-in_err-e : goal.returns-in_err-e
returns-in_err-e c = search (rules, gap_booking_laws, c.in_ok-j.was, c.in_err-e.was)

pub overflow_add-j : goal.overflow_add-j
overflow_add-j c = search (rules, gap_booking_laws, c.in_ok-j.was, c.in_ok-e.was)

pub overflow_sub-e : goal.overflow_sub-e
overflow_sub-e c = search (rules, gap_booking_laws)

pub returns : goal.returns
returns c =
    let gap : c.gap.result ≡ Some c.in_ok-j.j = search (rules, tried, c.in_ok-j.was) in
    let string : c.string.result ≡ Some c.in_ok-e.e = search (rules, tried, c.in_ok-e.was) in
    search (rules, gap_booking_laws, gap, string)
