use mathlib.Core.Path.{◌∙◌, ap}
use Rattle.lumbrisse.specs.Numbers.{handed_of}
use Rattle.lumbrisse.proofs.lumbrisse_packet_next.Goals as goal

pub returns : goal.returns
returns c =
    record {
      answer = c.handed_of.ensures ∙ ap (handed_of _) c.read_at-x.ensures.answer;
      row = c.read_at-x.ensures.row;
      text = c.read_at-x.ensures.text;
    }
