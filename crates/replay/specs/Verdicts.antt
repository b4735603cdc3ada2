-- A case's call beside what it must answer and leave.
use Rattle.std.specs.Prelude.{ℕ, Bool, true, cond, ◌&&◌, List, eqb, None, Option, Some}
use Rattle.access.specs.Spans.{span_text}
use Rattle.access.specs.Tables.{same}
use Rattle.replay.specs.declared.call.Reply.{Reply}
use Rattle.replay.specs.declared.case.Case.{Case}
use Rattle.replay.specs.declared.compare.Alike.{Alike}
use Rattle.replay.specs.Replies.{outcome, left_by}

-- which parts are as they must be
unfoldable pub alike : Reply → Reply → Bool → Bool → Alike
alike r must text buffer =
    record {
      number = eqb r.number must.number;
      place = eqb r.place must.place;
      count = eqb r.count must.count;
      value = eqb r.value must.value;
      tag = eqb r.tag must.tag;
      text = text;
      buffer = buffer;
    }

abbrev pub all_alike : Alike → Bool
all_alike a = a.number && a.place && a.count && a.value && a.tag && a.text && a.buffer

unfoldable pub compared : Option Reply → Reply → Bool → Bool → Option Alike
compared (Some r) must text buffer = Some (alike r must text buffer)
compared None must text buffer = None

-- the text of a span is the case's second text; no other call answers with a text
unfoldable pub text_same : Case → List ℕ → List ℕ → Bool
text_same c s u = cond (eqb c.call 5) (same (span_text s c.a c.b) u) true

-- of a case with two texts and a lent buffer before and after the call
unfoldable pub verdict : Case → Reply → List ℕ → List ℕ → List ℕ → List ℕ → Option Alike
verdict c must s u t after =
    compared (outcome c s u t) must (text_same c s u) (same (left_by c s u t) after)
