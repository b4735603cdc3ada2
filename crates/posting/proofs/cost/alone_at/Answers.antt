use Rattle.posting.proofs.LotLaws.{alone_date, alone_laws}
use borrow.Author.Rules.{rules}
use Rattle.posting.proofs.cost.alone_at.Goals as goal

pub returns-in-Ok : goal.returns-in-Ok
returns-in-Ok c = search (rules, alone_laws)

pub returns-in-Some : goal.returns-in-Some
returns-in-Some c =
    alone_date _ c.args.a c.args.d c.in-Err-Miss.field-0 c.in-Err-Miss.is (search rules) _ c.in-Some.y c.in-Some.y _ c.in-Some.is (search rules)
    c.inside_with-in-Some.ensures

pub returns-in-None : goal.returns-in-None
returns-in-None c = search (rules, alone_laws)

pub returns-in-Err : goal.returns-in-Err
returns-in-Err c = search (rules, alone_laws)
