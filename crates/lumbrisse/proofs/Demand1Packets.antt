-- Demand 1 of the calls for packets.
use Rattle.text.specs.declared.stop.Refused.{Refused}
use Rattle.std.specs.Prelude.{Err, Ok, None, Some}
use Prim.Native.Nat.{ℕ, zero, suc, ◌+◌, min, ◌≤◌, ◌<◌}
use native.Mathlib.Omega.{arith}
use mathlib.Core.Path.{◌≡◌, refl, ◌∙◌, ap, subst}
use mathlib.Core.Bool.{Bool, true, false, cond}
use mathlib.Core.Logic.{◌⊎◌, inl, inr}
use mathlib.Core.List.{List, [], ◌∷◌, ◌++◌}
use borrow.Author.Tests.{leb-true, leb-false, eqb-true, eqb-false}
use lib.Dec.{eqb, leb}
use lib.ListN.{length, drop, length-drop}
use Rattle.decimal.specs.Exact.{largest}
use Rattle.text.specs.Every.{OneOf}
use Rattle.text.specs.Refusals.{Refusal, refused_with}
use Rattle.text.proofs.EveryLaws.{one_has}
use Rattle.row.specs.declared.table.Row.{Row}
use Rattle.row.specs.Row.{width, room}
use Rattle.access.specs.Spans.{good_span}
use Rattle.bus.specs.Fields.{is_entry, whole, stated, tag_in, text_tag, row_field, text_place, longest}
use Rattle.bus.specs.Writing.{row_of, text_of, fault, faults, packet, refusing, written, written_left}
use Rattle.bus.specs.declared.packet.Piece.{Piece}
use Rattle.bus.specs.Reading.{Found, Step, field_fault, behind_field, kind_in, is_row, text_found, found, handed, row_left, text_left}
use Rattle.bus.proofs.FoundLaws.{row_in_lem}
use Rattle.lumbrisse.specs.declared.reply.Reply.{Reply}
use Rattle.lumbrisse.specs.declared.reply.Handed.{Handed}
use Rattle.lumbrisse.specs.Numbers.{reply_of, handed_of}
use Rattle.lumbrisse.specs.Promises.{PacketPromise, StepPromise}
use Rattle.lumbrisse.specs.Demand1.{refuses, HasBytes, NoSpace, Fills}
use Rattle.lumbrisse.specs.Demand1Requests.{RowFound, Steps, at_entry, at_detail, at_end, no_buffer, bad_field}
use Rattle.lumbrisse.proofs.Demand1Reads.{at_front, bytes_written}

-- ---- a packet written: what refuses is 10 or 18

-- none, or a number of the list
abbrev Objects : List ℕ → ℕ → Type 0
Objects list n = (n ≡ 0 → ⊥) → OneOf list n

abbrev writing_numbers : List ℕ
writing_numbers = 10 ∷ 18 ∷ []

fault_listed : (s : List ℕ) (r : Row) → Objects writing_numbers (fault s r)
unfolding fault
fault_listed s r = go (is_entry r.kind) (good_span s r.start r.end) (leb (length (text_of s r)) longest)
  where
    go : (a b c : Bool) → Objects writing_numbers (cond a 0 (cond b (cond c 0 18) 10))
    go true b c z = absurd (z refl)
    go false true true z = absurd (z refl)
    go false true false z = inr (inl refl)
    go false false c z = inl refl

faults_listed : (s : List ℕ) (n : ℕ) (u : List ℕ) → Objects writing_numbers (faults s n u)
unfolding faults
faults_listed s zero u = λ z. absurd (z refl)
faults_listed s (suc n) u = go (eqb (fault s (row_of u)) 0) (faults_listed s n (drop width u))
  where
    go : (b : Bool) → Objects writing_numbers (faults s n (drop width u)) → Objects writing_numbers (cond b (faults s n (drop width u)) (fault s (row_of u)))
    go true h = h
    go false h = fault_listed s (row_of u)

refusing_listed : (s : List ℕ) (n : ℕ) (t : List ℕ) → Objects writing_numbers (refusing s n t)
unfolding refusing
refusing_listed s n t = go (leb n (room t))
  where
    go : (b : Bool) → Objects writing_numbers (cond b (faults s n t) 10)
    go true = faults_listed s n t
    go false = λ z. inl refl

module _ (s t : List ℕ) (k : ℕ) (b : List ℕ) (r : Reply) (u : List ℕ) where
  abbrev x : List ℕ
  x = packet s k t

  abbrev m : ℕ
  m = length x

  abbrev Packet : Type 0
  Packet = Fills writing_numbers s (refusing s k t ≡ 0) (λ n. refusing s k t ≡ n) x (min m largest) b u r

  pub packet_answers : PacketPromise s t k b r u
      → Fills (10 ∷ 18 ∷ []) s (refusing s k t ≡ 0) (λ n. refusing s k t ≡ n) (packet s k t) (min (length (packet s k t)) largest) b u r
  unfolding written written_left reply_of
  packet_answers P = go (eqb (refusing s k t) 0) refl P.reply P.bytes
    where
      go : (q : Bool) → eqb (refusing s k t) 0 ≡ q
          → r ≡ reply_of (cond q (cond (leb m (length b)) (Ok m) (Err (refused_with 9 0 (min m largest)))) (Err (refused_with (refusing s k t) 0 0)))
          → u ≡ cond q (cond (leb m (length b)) (x ++ drop m b) b) b → Packet
      go true q e f =
          bytes_written writing_numbers (length s) (λ n. (refusing s k t ≡ 0) × HasBytes x b u n) (λ n. (refusing s k t ≡ 0) × NoSpace x b (min m largest) n) (λ n p. (refusing s k t ≡ n) × (p ≡ 0)) x b u (min m largest) r (λ h. (eqb-true (refusing s k t) 0 q, h)) (λ h. (eqb-true (refusing s k t) 0 q, h))
          reply_of (Ok m) (Err (refused_with 9 0 (min m largest))) refl refl e f
      go false q e f =
          refuses (refusing s k t) 0 e (refl, refl) (at_front writing_numbers (length s) (refusing s k t) (refusing_listed s k t (eqb-false (refusing s k t) 0 q))) f

-- ---- a step: what refuses is 19 or 20, before the bytes end

abbrev reading_numbers : List ℕ
reading_numbers = 19 ∷ 20 ∷ []

abbrev Within : List ℕ → Found → Type 0
Within r (Ok f) = Unit {0}
Within r (Err x) = (x ≡ refused_with x.number x.place 0) × (OneOf reading_numbers x.number × ((x.place ≤ length r) × (0 < length r)))

field_within : (r : List ℕ) (w d : Bool) (place : ℕ) → place ≤ length r → 0 < length r → (f : Found) → Within r f → Within r (behind_field (field_fault w d place) f)
unfolding field_fault
field_within r true true place h k f i = i
field_within r true false place h k f i = (refl, (inr (inl refl), (h, k)))
field_within r false d place h k f i = (refl, (inl refl, (h, k)))

text_within : (r u : List ℕ) → row_field ≤ length r → Within r (text_found u)
unfolding text_found
text_within r u h = field_within r (whole u) (eqb (tag_in u) text_tag) row_field h (omega arith) (Ok (Some (Piece.Detail (stated u)))) tt

found_within : (r : List ℕ) → Within r (found r)
unfolding found field_fault
found_within r = go (eqb (length r) 0) refl (whole r) refl (is_row r) refl (is_entry (kind_in r))
  where
    go : (a : Bool) → eqb (length r) 0 ≡ a → (w : Bool) → whole r ≡ w → (d : Bool) → is_row r ≡ d → (c : Bool)
        → Within r (cond a (Ok None) (behind_field (field_fault w d 0) (cond c (Ok (Some Piece.Entry)) (text_found (drop row_field r)))))
    go true e w f d g c = tt
    go false e true f true g true = tt
    go false e true f true g false = text_within r (drop row_field r) (row_in_lem r f g)
    go false e true f false g c = (refl, (inr (inl refl), (omega arith, omega (arith, eqb-false (length r) 0 e))))
    go false e false f d g c = (refl, (inl refl, (omega arith, omega (arith, eqb-false (length r) 0 e))))

bad_within : (r : List ℕ) (x : Refused) → found r ≡ Err x → Within r (Err x)
bad_within r x e = subst (Within r) e (found_within r)

bad_refusal : (p : List ℕ) (at : ℕ) (x : Refused) → Within (drop at p) (Err x) → Refusal reading_numbers (length p) x.number (at + x.place)
bad_refusal p at x h =
    record { listed = h.1.0; within = omega (arith, length-drop at p, h.1.1.0, h.1.1.1); front = λ o. absurd (omega (arith, one_has (λ m. 1 < m) reading_numbers x.number (omega arith) h.1.0)) }

module _ (p : List ℕ) (at : ℕ) (b c : List ℕ) (r : Handed) (b' c' : List ℕ) where
  -- what a call that came to a step told and left
  record Came (x : Step) : Type 0 where
    answer : r ≡ handed_of at x
    row : b' ≡ row_left x (drop at p) b
    text : c' ≡ text_left x (drop at p) c

  abbrev Stepped : Type 0
  Stepped = Steps p at b c r b' c'

  -- either buffer is too short
  short : (n : ℕ) → Came (Err (refused_with 9 0 n)) → (RowFound (drop at p) × (n ≡ width) × (length b < n)) ⊎ ((found (drop at p) ≡ Ok (Some (Piece.Detail n))) × (length c < n)) → Stepped
  unfolding handed_of row_left text_left
  short n C h = no_buffer n C.answer h C.row C.text

  entry_step : found (drop at p) ≡ Ok (Some Piece.Entry) → (l : Bool) → leb width (length b) ≡ l → Came (cond l (Ok (Some (Piece.Entry, at + row_field))) (Err (refused_with 9 0 width))) → Stepped
  unfolding handed_of row_left text_left
  entry_step d true l C = at_entry d C.answer (leb-true width (length b) l) C.row C.text
  entry_step d false l C = short width C (inl (inl d, refl, leb-false width (length b) l))

  detail_step : (n : ℕ) → found (drop at p) ≡ Ok (Some (Piece.Detail n)) → (l : Bool) → leb width (length b) ≡ l → (m : Bool) → leb n (length c) ≡ m
      → Came (cond l (cond m (Ok (Some (Piece.Detail n, at + text_place + n))) (Err (refused_with 9 0 n))) (Err (refused_with 9 0 width))) → Stepped
  unfolding handed_of row_left text_left
  detail_step n d true l true m C = at_detail n d C.answer (leb-true width (length b) l) (leb-true n (length c) m) C.row C.text
  detail_step n d true l false m C = short n C (inr (d, leb-false n (length c) m))
  detail_step n d false l m w C = short width C (inl (inr (n, d), refl, leb-false width (length b) l))

  pub step_hands : StepPromise p at b c r b' c' → Steps p at b c r b' c'
  unfolding handed handed_of row_left text_left
  step_hands P = go (found (drop at p)) refl (record { answer = P.answer; row = P.row; text = P.text })
    where
      go : (x : Found) → found (drop at p) ≡ x → Came (handed at (length b) (length c) x) → Stepped
      go (Ok None) d C = at_end d C.answer C.row C.text
      go (Err x) d C =
          let h = bad_within (drop at p) x d in
          bad_field x.number x.place (d ∙ ap (λ (x : Refused). Err x) h.0) C.answer (bad_refusal p at x h) C.row C.text
      go (Ok (Some Piece.Entry)) d C = entry_step d (leb width (length b)) refl C
      go (Ok (Some (Piece.Detail n))) d C = detail_step n d (leb width (length b)) refl (leb n (length c)) refl C
