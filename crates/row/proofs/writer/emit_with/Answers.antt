use Rattle.row.proofs.OutLaws.{with_none, with_one, with_laws}
use borrow.Author.Rules.{rules}
use Rattle.row.proofs.writer.emit_with.Goals as goal

pub emit-requires : goal.emit-requires
emit-requires c = search (rules, with_laws)

pub returns-in-Some : goal.returns-in-Some
returns-in-Some c =
    let wrote = with_one c.args.base c.args.out c.args.table.now c.args.x c.emit-o.result c.emit-o.new.table c.emit-o.ensures.answer c.emit-o.ensures.rows c.args.more c.in-Some.n c.emit.result c.emit.new.table c.in-Some.is c.emit.ensures.answer c.emit.ensures.rows in
    record { answer = wrote.0; rows = wrote.1 }

pub returns-in-None : goal.returns-in-None
returns-in-None c =
    let wrote = with_none c.args.base c.args.out c.args.table.now c.args.x c.emit-o.result c.emit-o.new.table c.emit-o.ensures.answer c.emit-o.ensures.rows c.args.more c.in-None.is in
    record { answer = wrote.0; rows = wrote.1 }
