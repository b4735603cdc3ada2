-- Demand 1 holds.
use mathlib.Core.List.{[], ◌∷◌, ◌++◌}
use Rattle.ledger.specs.Plain.{plain}
use Rattle.ledger.specs.Strict.{strict}
use Rattle.ledger.specs.declared.scan.Profile.TheVariants.{Plain, Strict}
use Rattle.recovery.specs.Recovering.{recovered, recovered_strictly}
use Rattle.edit.specs.Edits.{editing}
use Rattle.text.specs.Refusals.{refused_with}
use Rattle.ledger.proofs.PlainRefusals.{plain_refusal, strict_refusal}
use Rattle.access.proofs.SingleRefusals.{evaluated_refusal}
use Rattle.lumbrisse.specs.Demand1.{plain_numbers, Demand1}
use Rattle.lumbrisse.specs.Demand1Requests.{Demand1Requests}
use Rattle.lumbrisse.proofs.Demand1Reads.{recovered_refusal, editing_refusal, table_reads, content_answers, tag_answers, expression_evaluates, span_part}
use Rattle.lumbrisse.proofs.Demand1Packets.{packet_answers, step_hands}
use Rattle.lumbrisse.proofs.Demand1Work.{totals_answers, write_answers}

pub demand_1 : Demand1
demand_1 =
    record {
      read = λ s. table_reads plain_numbers s (plain s) (plain_refusal s);
      recover = λ s. table_reads (1 ∷ []) s (recovered s) (recovered_refusal Plain s);
      expression = λ form s. expression_evaluates form s (λ n p. evaluated_refusal s form (refused_with n p 0));
      content = content_answers;
      tag_in_force = tag_answers;
      span = span_part;
    }

-- of document 02's calls
pub demand_1_requests : Demand1Requests
demand_1_requests =
    record {
      read_strict = λ s. table_reads (plain_numbers ++ (16 ∷ 17 ∷ [])) s (strict s) (strict_refusal s);
      recover_strict = λ s. table_reads (1 ∷ []) s (recovered_strictly s) (recovered_refusal Strict s);
      edit = λ s rows k a e y. table_reads (1 ∷ 10 ∷ []) s (editing s rows k a e y) (editing_refusal s rows k a e y);
      totals = λ s. totals_answers s (plain_refusal s);
      write = λ s. write_answers s (plain_refusal s);
      packet_write = packet_answers;
      packet_next = step_hands;
    }
