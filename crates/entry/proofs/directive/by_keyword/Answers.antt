use Rattle.entry.proofs.FormLaws.{by_keyword_laws}
use mathlib.Core.Path.{◌≡◌}
use Rattle.std.specs.Prelude.{Some}
use Rattle.text.proofs.TestLaws.{tried}
use borrow.Author.Rules.{rules}
use Rattle.entry.proofs.directive.by_keyword.Goals as goal

pub returns-in_err-kind : goal.returns-in_err-kind
returns-in_err-kind c = search (rules, by_keyword_laws, c.in_err-kind.was)

pub gap_content-requires : goal.gap_content-requires
gap_content-requires c =
    let word : c.keyword_at.result ≡ Some (c.in_ok-kind.kind, c.in_ok-kind.e) = search (rules, tried, c.in_ok-kind.was) in
    search (rules, by_keyword_laws, word)

pub returns : goal.returns
returns c = search (rules, by_keyword_laws, c.in_ok-kind.was)
