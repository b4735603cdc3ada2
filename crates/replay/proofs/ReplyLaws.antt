-- The answer of the call with a number, and what it leaves.
use Rattle.replay.specs.declared.call.Reply.{Reply}
use Rattle.std.specs.Prelude.{None, Option, Some}
use Prim.Native.Nat.{ℕ}
use mathlib.Core.Path.{◌≡◌}
use mathlib.Core.Bool.{true, false}
use mathlib.Core.List.{List}
use lib.Dec.{eqb}
use borrow.Author.Tests.{ne_eqb}
use Rattle.decimal.specs.declared.Form.TheVariants.{Exact, Rounding}
use Rattle.lumbrisse.specs.Promises.{TablePromise, ContentPromise, ExpressionPromise, TagPromise, SpanPromise, PacketPromise}
use Rattle.lumbrisse.specs.declared.reply as box
use Rattle.replay.specs.declared.case.Case.{Case}
use Rattle.replay.specs.Replies.{of_reply, of_evaluated, of_part, is_reading, reading_of, is_rounding, is_exact, stepped, stepped_left, edited, edited_left, totalled, totalled_left, rewritten, rewritten_left, outcome, left_by}

pub evaluated_told : (e : box.Evaluated.Evaluated) (v : ℕ) → v ≡ e.bits
    → Some (record { number = e.number; place = e.place; count = 0; value = v; tag = 0 }) ≡ Some (of_evaluated e)
evaluated_told e v w = rw w

module _ (c : Case) (s u t : List ℕ) where
  -- an export's reply r, as it promises it
  module _ (o : Option Reply) (r : box.Reply.Reply) (w : o ≡ Some (of_reply r)) where
    -- n is the number that the code knows the call by
    pub made_reading : (n : ℕ) → c.call ≡ n → is_reading n ≡ true → (v : List ℕ) → TablePromise (reading_of n s) t r v → o ≡ outcome c s u t
    unfolding outcome
    made_reading n e h v p = rw (w, e, h, p.reply)

    pub made_content : c.call ≡ 4 → (v : List ℕ) → ContentPromise s t r v → o ≡ outcome c s u t
    unfolding outcome
    made_content e v p = rw (w, e, p.reply)

    pub made_packet : c.call ≡ 15 → (v : List ℕ) → PacketPromise s u c.a t r v → o ≡ outcome c s u t
    unfolding outcome
    made_packet e v p = rw (w, e, p.reply)

    pub made_force : c.call ≡ 6 → TagPromise s t c.a u r → o ≡ outcome c s u t
    unfolding outcome
    made_force e p = rw (w, e, p)

  module _ (o : Option Reply) (r : box.Evaluated.Evaluated) (w : o ≡ Some (of_evaluated r)) where
    module _ (n : ℕ) (e : c.call ≡ n) (y : is_reading n ≡ false) where
      pub made_rounding : is_rounding n ≡ true → ExpressionPromise Rounding s r → o ≡ outcome c s u t
      unfolding outcome
      made_rounding h p = rw (w, e, y, h, p)

      pub made_exact : is_rounding n ≡ false → is_exact n ≡ true → ExpressionPromise Exact s r → o ≡ outcome c s u t
      unfolding outcome
      made_exact z h p = rw (w, e, y, z, h, p)

  pub made_part : (o : Option Reply) (r : box.Part.Part) → o ≡ Some (of_part r) → c.call ≡ 5 → SpanPromise s c.a c.b r → o ≡ outcome c s u t
  unfolding outcome
  made_part o r w e p = rw (w, e, p.part)

  pub made_totals : (o : Option Reply) → c.call ≡ 10 → o ≡ totalled c s u t → o ≡ outcome c s u t
  unfolding outcome
  made_totals o e w = rw (w, e)

  pub made_edit : (o : Option Reply) → c.call ≡ 14 → o ≡ edited c s u t → o ≡ outcome c s u t
  unfolding outcome
  made_edit o e w = rw (w, e)

  pub made_write : (o : Option Reply) → c.call ≡ 17 → o ≡ rewritten c s u t → o ≡ outcome c s u t
  unfolding outcome
  made_write o e w = rw (w, e)

  pub made_step : (o : Option Reply) → c.call ≡ 16 → o ≡ stepped c.a c.b s t → o ≡ outcome c s u t
  unfolding outcome
  made_step o e w = rw (w, e)

  module _ (n1 : c.call ≡ 1 → ⊥) (n2 : c.call ≡ 2 → ⊥) (n7 : c.call ≡ 7 → ⊥) (n8 : c.call ≡ 8 → ⊥) (n4 : c.call ≡ 4 → ⊥) (n10 : c.call ≡ 10 → ⊥) (n14 : c.call ≡ 14 → ⊥) (n15 : c.call ≡ 15 → ⊥) (n16 : c.call ≡ 16 → ⊥) (n17 : c.call ≡ 17 → ⊥) where
    pub made_unknown : (c.call ≡ 3 → ⊥) → (c.call ≡ 5 → ⊥) → (c.call ≡ 6 → ⊥) → (c.call ≡ 9 → ⊥) → (c.call ≡ 12 → ⊥) → (c.call ≡ 13 → ⊥)
        → None ≡ outcome c s u t
    unfolding outcome
    made_unknown n3 n5 n6 n9 n12 n13 =
        rw (
          ne_eqb c.call 1 n1,
          ne_eqb c.call 2 n2,
          ne_eqb c.call 3 n3,
          ne_eqb c.call 4 n4,
          ne_eqb c.call 5 n5,
          ne_eqb c.call 6 n6,
          ne_eqb c.call 7 n7,
          ne_eqb c.call 8 n8,
          ne_eqb c.call 9 n9,
          ne_eqb c.call 10 n10,
          ne_eqb c.call 12 n12,
          ne_eqb c.call 13 n13,
          ne_eqb c.call 14 n14,
          ne_eqb c.call 15 n15,
          ne_eqb c.call 16 n16,
          ne_eqb c.call 17 n17,
        )

-- ---- the lent buffer: w is what the call left
module _ (c : Case) (s u t : List ℕ) where
  module _ (w : List ℕ) (r : box.Reply.Reply) where
    pub left_reading : (n : ℕ) → c.call ≡ n → is_reading n ≡ true → TablePromise (reading_of n s) t r w → w ≡ left_by c s u t
    unfolding left_by
    left_reading n e h p = rw (e, h) p.rows

    pub left_content : c.call ≡ 4 → ContentPromise s t r w → w ≡ left_by c s u t
    unfolding left_by
    left_content e p = rw e p.bytes

    pub left_packet : c.call ≡ 15 → PacketPromise s u c.a t r w → w ≡ left_by c s u t
    unfolding left_by
    left_packet e p = rw e p.bytes

  pub left_totals : (w : List ℕ) → c.call ≡ 10 → w ≡ totalled_left c s u t → w ≡ left_by c s u t
  unfolding left_by
  left_totals w e p = rw e p

  pub left_edit : (w : List ℕ) → c.call ≡ 14 → w ≡ edited_left c s u t → w ≡ left_by c s u t
  unfolding left_by
  left_edit w e p = rw e p

  pub left_write : (w : List ℕ) → c.call ≡ 17 → w ≡ rewritten_left s u t → w ≡ left_by c s u t
  unfolding left_by
  left_write w e p = rw e p

  pub left_step : (w : List ℕ) → c.call ≡ 16 → w ≡ stepped_left c.a c.b s t → w ≡ left_by c s u t
  unfolding left_by
  left_step w e p = rw e p

  -- a call that writes nothing, known by its number n
  pub left_alone : (n : ℕ) → c.call ≡ n → is_reading n ≡ false → eqb n 4 ≡ false → eqb n 10 ≡ false → eqb n 14 ≡ false → eqb n 15 ≡ false → eqb n 16 ≡ false → eqb n 17 ≡ false → t ≡ left_by c s u t
  unfolding left_by
  left_alone n e y n4 n10 n14 n15 n16 n17 = rw (e, y, n4, n10, n14, n15, n16, n17)

  pub left_unknown : (c.call ≡ 1 → ⊥) → (c.call ≡ 2 → ⊥) → (c.call ≡ 7 → ⊥) → (c.call ≡ 8 → ⊥) → (c.call ≡ 4 → ⊥) → (c.call ≡ 10 → ⊥) → (c.call ≡ 14 → ⊥) → (c.call ≡ 15 → ⊥) → (c.call ≡ 16 → ⊥) → (c.call ≡ 17 → ⊥) → t ≡ left_by c s u t
  unfolding left_by
  left_unknown n1 n2 n7 n8 n4 n10 n14 n15 n16 n17 = rw (ne_eqb c.call 17 n17, ne_eqb c.call 10 n10, ne_eqb c.call 1 n1, ne_eqb c.call 2 n2, ne_eqb c.call 7 n7, ne_eqb c.call 8 n8, ne_eqb c.call 4 n4, ne_eqb c.call 14 n14, ne_eqb c.call 15 n15, ne_eqb c.call 16 n16)

pub ruleset made_laws = (evaluated_told, made_reading, made_rounding, made_exact, made_content, made_packet, made_part, made_force, made_totals, made_edit, made_write, made_step, made_unknown, left_reading, left_content, left_packet, left_totals, left_edit, left_write, left_step, left_alone, left_unknown)
