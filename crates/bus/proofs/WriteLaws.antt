-- Writing a packet: the call's answer and its buffer, from what the code knows.
use Rattle.text.specs.declared.stop.Refused.{Refused}
use Rattle.text.specs.Refusals.{refused_with}
use Rattle.std.specs.Prelude.{Err, Ok, Result}
use Prim.Native.Nat.{ℕ, ◌*◌, ◌≤◌, ◌<◌, ◌^◌, min}
use native.Mathlib.Nat.{zero-add}
use native.Mathlib.Omega.{arith}
use mathlib.Core.Path.{◌≡◌, sym, ◌∙◌}
use mathlib.Core.Bool.{false}
use mathlib.Core.List.{List}
use borrow.Author.Tests.{le-leb, lt-leb}
use lib.Dec.{eqb}
use lib.ListN.{length}
use lib.Seq.{sets}
use Rattle.decimal.specs.Exact.{largest}
use Rattle.row.proofs.FieldLaws.{sets_front}
use Rattle.bus.specs.Refusals.{too_short, not_valid}
use Rattle.bus.specs.Writing.{faults, packet, refusing, written, written_left}
use Rattle.bus.specs.steps.Measuring.{measured_by, measured_from}
use Rattle.bus.specs.steps.Putting.{RowsFit}
use Rattle.row.specs.Row.{room}
use Rattle.bus.proofs.RowsLaws.{by_fault, by_bytes}

module _ (s t b : List ℕ) (n : ℕ) where
  answer_short : (k : ℕ) → refusing s n t ≡ 0 → k ≡ min (length (packet s n t)) largest → length b < k → Err (refused_with too_short 0 k) ≡ written s n t (length b)
  unfolding written
  answer_short k z e l = rw (z, lt-leb (length (packet s n t)) (length b) (omega (arith, e)), e)

  pub many_answer : room t < n → Err (refused_with not_valid 0 0) ≡ written s n t (length b)
  unfolding written refusing
  many_answer h = rw (lt-leb n (room t) h)

  pub many_left : room t < n → b ≡ written_left s n t b
  unfolding written_left refusing
  many_left h = rw (lt-leb n (room t) h)

  module _ (h : n ≤ room t) (m : Result ℕ Refused) (em : m ≡ measured_from s n t 0) where
    refused_by : refusing s n t ≡ faults s n t
    unfolding refusing
    refused_by = rw (le-leb n (room t) h)

    was_all : m ≡ measured_by (faults s n t) (min (length (packet s n t)) largest)
    unfolding measured_from
    was_all = em ∙ rw (zero-add (length (packet s n t)))

    module _ (x : Refused) (e : m ≡ Err x) where
      is_fault : (eqb (faults s n t) 0 ≡ false) × (x ≡ refused_with (faults s n t) 0 0)
      is_fault = by_fault (faults s n t) (min (length (packet s n t)) largest) x (sym was_all ∙ e)

      pub fault_answer : Err x ≡ written s n t (length b)
      unfolding written
      fault_answer = rw (refused_by, is_fault.0, is_fault.1)

      pub fault_left : b ≡ written_left s n t b
      unfolding written_left
      fault_left = rw (refused_by, is_fault.0)

    module _ (k : ℕ) (e : m ≡ Ok k) where
      is_bytes : (faults s n t ≡ 0) × (k ≡ min (length (packet s n t)) largest)
      is_bytes = by_bytes (faults s n t) (min (length (packet s n t)) largest) k (sym was_all ∙ e)

      pub short_answer : length b < k → Err (refused_with too_short 0 k) ≡ written s n t (length b)
      short_answer l = answer_short k (refused_by ∙ is_bytes.0) is_bytes.1 l

      pub short_left : length b < k → b ≡ written_left s n t b
      unfolding written_left
      short_left l = rw (refused_by, is_bytes.0, lt-leb (length (packet s n t)) (length b) (omega (arith, is_bytes.1)))

      module _ (l : k ≤ length b) (z : length b * 1 < 2 ^ 63) where
        k_is : k ≡ length (packet s n t)
        k_is = omega (arith, is_bytes.1)

        write_room : length (packet s n t) ≤ length b
        write_room = omega (arith, k_is)

        pub rows_fit : RowsFit s t n (length b)
        rows_fit = record { there = omega arith; sound = is_bytes.0; room = write_room }

        pub bytes_answer : Ok k ≡ written s n t (length b)
        unfolding written
        bytes_answer = rw (refused_by, is_bytes.0, le-leb (length (packet s n t)) (length b) write_room, k_is)

        pub bytes_left : (v : List ℕ) → v ≡ sets b 0 (packet s n t) → v ≡ written_left s n t b
        unfolding written_left
        bytes_left v ev = ev ∙ sets_front (packet s n t) b write_room ∙ rw (refused_by, is_bytes.0, le-leb (length (packet s n t)) (length b) write_room)

pub ruleset write_laws = (many_answer, many_left, fault_answer, fault_left, short_answer, short_left, rows_fit, bytes_answer, bytes_left)
