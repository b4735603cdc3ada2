-- What is handed out, from what the code knows where it answers.
use Prim.Native.Nat.{ℕ, ◌+◌, ◌-◌, ◌≤◌, ◌<◌, ◌^◌}
use native.Mathlib.Omega.{arith}
use mathlib.Core.Path.{◌≡◌, refl, sym, ◌∙◌, ap, subst}
use mathlib.Core.Bool.{Bool, true, false, cond}
use mathlib.Core.List.{List, [], ◌++◌}
use borrow.Author.Tests.{le-leb, lt-leb}
use mir.Val.{Fits}
use mir.Syntax.{w64}
use lib.Dec.{eqb}
use lib.ListN.{length, get_or, take, drop, length-drop, drop_of_length-le}
use Rattle.row.specs.Field.{field_at}
use Rattle.std.specs.Prelude.{None, Option, Some, Err, Ok}
use Rattle.text.specs.declared.stop.Refused.{Refused}
use Rattle.text.specs.Refusals.{refused_with}
use Rattle.bus.specs.declared.packet.Piece.{Piece}
use Rattle.bus.specs.Refusals.{too_short, cut_short, wrong_field}
use Rattle.bus.specs.Fields.{is_entry, stated, whole, row_field, text_place, text_tag, head_width}
use Rattle.bus.specs.Reading.{Found, Step, behind_field, field_fault, is_row, text_found, found, handed, row_left, text_left, step_at, Hands}
use Rattle.row.specs.Row.{width}
use Rattle.bus.proofs.FieldLaws.{whole_in}
use Rattle.text.proofs.Steps.{rest_of}
use Rattle.bus.proofs.FoundLaws.{row_in_lem}

-- ---- what is found lies within the bytes

abbrev Within : ℕ → Found → Type 0
Within n (Ok (Some Piece.Entry)) = row_field ≤ n
Within n (Ok (Some (Piece.Detail k))) = text_place + k ≤ n
Within n (Ok None) = 0 ≤ n
Within n (Err e) = e.place ≤ n

text_within : (r : List ℕ) (m : ℕ) → row_field + length r ≡ m → Within m (text_found r)
unfolding text_found field_fault
text_within r m h = go (whole r) refl (eqb (get_or r 0 0) text_tag)
  where
    go : (w : Bool) → whole r ≡ w → (d : Bool)
        → Within m (behind_field (cond w (cond d (Ok tt) (Err (refused_with wrong_field row_field 0))) (Err (refused_with cut_short row_field 0))) (Ok (Some (Piece.Detail (stated r)))))
    go true e true = omega (arith, whole_in r e)
    go true e false = omega arith
    go false e d = omega arith

found_within : (r : List ℕ) → Within (length r) (found r)
unfolding found field_fault
found_within r = go (eqb (length r) 0) (whole r) refl (is_row r) refl (is_entry (field_at r head_width 4))
  where
    go : (z w : Bool) → whole r ≡ w → (d : Bool) → is_row r ≡ d → (k : Bool)
        → Within (length r) (cond z (Ok None) (behind_field (cond w (cond d (Ok tt) (Err (refused_with wrong_field 0 0))) (Err (refused_with cut_short 0 0))) (cond k (Ok (Some Piece.Entry)) (text_found (drop row_field r)))))
    go true w ew d ed k = omega arith
    go false false ew d ed k = omega arith
    go false true ew false ed k = omega arith
    go false true ew true ed true = row_in_lem r ew ed
    go false true ew true ed false = text_within (drop row_field r) (length r) (rw length-drop (omega (arith, row_in_lem r ew ed)))

-- ---- the answers

module _ (p : List ℕ) (at : ℕ) (row text : List ℕ) where
  -- the buffers, by the answer itself
  hands_by : (x : Step) {u v : List ℕ} → x ≡ step_at p at row text → u ≡ row_left x (drop at p) row → v ≡ text_left x (drop at p) text → Hands p at row text x u v
  hands_by x e a b =
      record {
        answer = e;
        row = a ∙ ap (λ (z : Step). row_left z (drop at p) row) e;
        text = b ∙ ap (λ (z : Step). text_left z (drop at p) text) e;
      }

  pub hands_past : length p ≤ at → Hands p at row text (Ok None) row text
  unfolding found handed row_left text_left
  hands_past h = let e : drop at p ≡ [] = drop_of_length-le p {i = at} h in hands_by (Ok None) (rw e) refl refl

  module _ (f : Found) (ef : f ≡ found (take (length p - at) (drop at p))) where
    was : f ≡ found (drop at p)
    was = ef ∙ ap found (rest_of p at)

    within : Within (length p - at) f
    within = subst (λ (g : Found). Within (length p - at) g) (sym was) (subst (λ (n : ℕ). Within n (found (drop at p))) (length-drop at p) (found_within (drop at p)))

    module _ (e : Refused) (h : f ≡ Err e) where
      pub hands_bad : (x : Refused) → x ≡ refused_with e.number (at + e.place) 0 → Hands p at row text (Err x) row text
      unfolding handed row_left text_left
      hands_bad x q = hands_by (Err x) (rw (← was, h, q)) refl refl

      pub bad_fits : at < length p → length p < 2 ^ 64 → Fits w64 (at + e.place)
      bad_fits l m = let w : e.place ≤ length p - at = subst (λ (g : Found). Within (length p - at) g) h within in record { fits = omega arith }

    module _ (o : Option Piece) (ho : f ≡ Ok o) where
      pub hands_end : o ≡ None → Hands p at row text (Ok None) row text
      unfolding handed row_left text_left
      hands_end h = hands_by (Ok None) (rw (← was, ho, h)) refl refl

      module _ (k : Piece) (hk : o ≡ Some k) where
        given : f ≡ Ok (Some k)
        given = rw hk at ho

        pub hands_short : (x : Refused) → length row < width → x ≡ refused_with too_short 0 width → Hands p at row text (Err x) row text
        unfolding handed row_left text_left
        hands_short x l q = hands_by (Err x) (rw q (go k given)) refl refl
          where
            go : (k : Piece) → f ≡ Ok (Some k) → Err (refused_with too_short 0 width) ≡ handed at (length row) (length text) (found (drop at p))
            go Piece.Entry h = rw (← was, h, lt-leb width (length row) l)
            go (Piece.Detail n) h = rw (← was, h, lt-leb width (length row) l)

        module _ (h : k ≡ Piece.Entry) where
          entry_in : row_field ≤ length p - at
          entry_in = subst (λ (g : Found). Within (length p - at) g) (rw h at given) within

          pub entry_part : head_width + width ≤ length (take (length p - at) (drop at p))
          entry_part = rw (rest_of p at, length-drop) entry_in

          pub entry_fits : at < length p → length p < 2 ^ 64 → Fits w64 (at + row_field)
          entry_fits l m = let w = entry_in in record { fits = omega arith }

          pub hands_entry : width ≤ length row → (u : List ℕ) → u ≡ take width (drop head_width (take (length p - at) (drop at p))) ++ drop width row
              → Hands p at row text (Ok (Some (k, at + row_field))) u text
          unfolding handed row_left text_left
          hands_entry l u e =
              rw h (hands_by (Ok (Some (Piece.Entry, at + row_field))) (rw (← was, given, h, le-leb width (length row) l)) (e ∙ rw (rest_of p at)) refl)

        module _ (n : ℕ) (h : k ≡ Piece.Detail n) where
          detail_in : text_place + n ≤ length p - at
          detail_in = subst (λ (g : Found). Within (length p - at) g) (rw h at given) within

          pub detail_small : (x : Refused) → width ≤ length row → length text < n → x ≡ refused_with too_short 0 n → Hands p at row text (Err x) row text
          unfolding handed row_left text_left
          detail_small x l m q = hands_by (Err x) (rw (← was, given, h, q, le-leb width (length row) l, lt-leb n (length text) m)) refl refl

          pub detail_row_lem : head_width + width ≤ length (take (length p - at) (drop at p))
          detail_row_lem = let w = detail_in in rw (rest_of p at, length-drop) (omega arith)

          pub detail_part : text_place + n ≤ length (take (length p - at) (drop at p))
          detail_part = rw (rest_of p at, length-drop) detail_in

          pub detail_first : at < length p → length p < 2 ^ 64 → Fits w64 (at + text_place)
          detail_first l m = let w = detail_in in record { fits = omega arith }

          pub detail_fits : at < length p → length p < 2 ^ 64 → Fits w64 (at + text_place + n)
          detail_fits l m = let w = detail_in in record { fits = omega arith }

          pub hands_detail : width ≤ length row → n ≤ length text → (u v : List ℕ) → u ≡ take width (drop head_width (take (length p - at) (drop at p))) ++ drop width row
              → v ≡ take n (drop text_place (take (length p - at) (drop at p))) ++ drop n text → Hands p at row text (Ok (Some (Piece.Detail n, at + text_place + n))) u v
          unfolding handed row_left text_left
          hands_detail l m u v e d =
              hands_by (Ok (Some (Piece.Detail n, at + text_place + n)))
              (rw (← was, given, h, le-leb width (length row) l, le-leb n (length text) m))
              (e ∙ rw (rest_of p at))
              (d ∙ rw (rest_of p at))

pub ruleset hand_laws = (
  hands_past,
  hands_end,
  hands_bad,
  bad_fits,
  entry_part,
  entry_fits,
  hands_entry,
  hands_short,
  detail_small,
  detail_row_lem,
  detail_part,
  detail_first,
  detail_fits,
  hands_detail,
)
