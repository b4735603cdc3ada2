use Rattle.row.proofs.FieldLaws.{put_parts}
use Rattle.row.proofs.TableLaws.{fields_put}
use Rattle.row.proofs.table.put_fields.Goals as goal

pub returns : goal.returns
returns c =
    let a = c.args in
    fields_put a.r a.t.now c.requires
    c.put_four.ensures c.put_four-2.ensures c.put_four-3.ensures c.put_four-4.ensures c.put_four-5.ensures c.put_four-6.ensures
    (put_parts c.put_four-6.new.t 24 4 4 a.r.bits c.put_four-7.ensures c.put_four-8.ensures)
