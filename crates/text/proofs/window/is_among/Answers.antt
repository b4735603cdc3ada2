use Rattle.text.proofs.WindowLaws.{among}
use borrow.Author.Rules.{rules}
use Rattle.text.proofs.window.is_among.Goals as goal

pub returns : goal.returns
returns c = search (rules, among)
