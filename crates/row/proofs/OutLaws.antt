-- Laws of what the row writer holds, and of details that were written.
use Rattle.std.specs.Prelude.{None, Option, Some, Ok, Err}
use Rattle.decimal.specs.declared.Fault.{Fault}
use Rattle.decimal.specs.Faults.{Value}
use Rattle.amount.proofs.ValueSizes.{Numbered, NumberedRows, ReadNumbered}
use Rattle.amount.specs.Details.{Rows}
use Rattle.text.specs.Answer.{To, Miss, Hard}
use Rattle.text.specs.steps.Told.{Reading}
use Rattle.text.proofs.TestLaws.{ok_pair}
use Rattle.row.specs.Details.{value_place}
use Prim.Native.Nat.{ℕ, ◌+◌}
use native.Mathlib.Nat.{add-zero}
use native.Mathlib.Omega.{arith}
use mathlib.Core.Path.{◌≡◌, refl, sym, ◌∙◌, ap, subst}
use mathlib.Core.List.{List, [], ◌∷◌, ◌++◌, map, map-append, append_assoc, append-nil}
use lib.ListN.{length, length-map, drop}
use Rattle.amount.specs.declared.detail.Detail.{Detail}
use Rattle.row.specs.steps.Pouring.{pour_at}
use Rattle.row.specs.steps.Writing.{laid, first_refused, noted, outs, some_row, Poured, Did, Room}
use Rattle.row.specs.declared.table.Row.{Row}
use Rattle.row.specs.declared.writer.Out.{Out}
use Rattle.row.proofs.PourLaws.{pour_at_none, pour_at_append, pour_at_over}

pub outs_append : (xs ys : List Detail) (o : Out) → outs o (xs ++ ys) ≡ outs (outs o xs) ys
unfolding outs
outs_append [] ys o = refl
outs_append (d ∷ xs) ys o = outs_append xs ys (noted o d)

-- a detail is one row more, whether its value is known or refused
pub rows_noted : (o : Out) (d : Detail) → (noted o d).rows ≡ o.rows + 1
unfolding noted
rows_noted o d = refl

pub rows_outs : (ds : List Detail) (o : Out) → (outs o ds).rows ≡ o.rows + length ds
unfolding outs
rows_outs [] o = rw add-zero
rows_outs (d ∷ ds) o = omega (arith, rows_outs ds (noted o d), rows_noted o d)

-- ---- details ds were written where o was held and t was the table: now m is held, and v is the table

abbrev pub Wrote : ℕ → Out → List ℕ → List Detail → Out → List ℕ → Type 0
Wrote base o t ds m v = (m ≡ outs o ds) × (v ≡ pour_at o.rows (map (laid base) ds) t)

module _ (base : ℕ) (o : Out) (t : List ℕ) where
  pub wrote_none : Wrote base o t [] o t
  unfolding outs
  wrote_none = (refl, sym (pour_at_none o.rows t))

  pub wrote_one : (d : Detail) (m : Out) (v : List ℕ) → m ≡ noted o d → v ≡ pour_at o.rows (laid base d ∷ []) t
      → Wrote base o t (d ∷ []) m v
  unfolding outs
  wrote_one d m v e f = (e, f)

  pub wrote_then : (xs ys : List Detail) (m n : Out) (v u : List ℕ) → Wrote base o t xs m v → Wrote base m v ys n u
      → Wrote base o t (xs ++ ys) n u
  wrote_then xs ys m n v u w h = (
    h.0 ∙ ap (λ (z : Out). outs z ys) w.0 ∙ sym (outs_append xs ys o),
    h.1
        ∙ rw (
          w.1,
          w.0,
          rows_outs xs o,
          map-append (laid base) xs ys,
          pour_at_append (map (laid base) xs) (map (laid base) ys) o.rows t,
          length-map xs (laid base),
        ),
  )

-- ---- the same, and maybe others were written behind them

abbrev pub Written : ℕ → Out → List ℕ → List Detail → Out → List ℕ → Type 0
Written base o t ds m v = (m ≡ outs o ds) × Poured o.rows (map (laid base) ds) t v

-- no row was written, or one that is dropped
pub poured_none : (n : ℕ) (t : List ℕ) → Poured n [] t t
poured_none n t = ([], sym (pour_at_none n t))

pub poured_drop : (n : ℕ) (rs : List Row) (t u : List ℕ) → Poured n rs t u → Poured n [] t u
poured_drop n rs t u (xs, e) = (rs ++ xs, e)

-- rows, and then those behind them
pub poured_then : (n m : ℕ) (rs ys : List Row) (t v u : List ℕ) → m ≡ n + length rs → Poured n rs t v → Poured m ys v u → Poured n (rs ++ ys) t u
poured_then n m rs ys t v u q (xs, e) (zs, f) =
    let rest = drop (length (ys ++ zs)) xs in (
      zs ++ rest,
      f
          ∙ rw (
            e,
            q,
            pour_at_append rs xs n t,
            pour_at_over (n + length rs) (ys ++ zs) xs (pour_at n rs t),
            append_assoc ys zs rest,
            append_assoc rs ys (zs ++ rest),
            pour_at_append rs (ys ++ (zs ++ rest)) n t,
          ),
    )

-- rows over a table in which only dropped ones were written
pub poured_past : (n : ℕ) (ys : List Row) (t v u : List ℕ) → Poured n [] t v → Poured n ys v u → Poured n ys t u
poured_past n ys t v u w h = poured_then n n [] ys t v u (rw add-zero) w h

module _ (base : ℕ) (o : Out) (t : List ℕ) where
  pub written : (ds : List Detail) (m : Out) (v : List ℕ) → Wrote base o t ds m v → Written base o t ds m v
  written ds m v (e, f) = (e, ([], rw append-nil f))

  pub written_then : (xs ys : List Detail) (m n : Out) (v u : List ℕ) → Written base o t xs m v → Written base m v ys n u
      → Written base o t (xs ++ ys) n u
  written_then xs ys m n v u w h = (
    h.0 ∙ ap (λ (z : Out). outs z ys) w.0 ∙ sym (outs_append xs ys o),
    subst (λ rs. Poured o.rows rs t u) (sym (map-append (laid base) xs ys))
        (poured_then o.rows m.rows (map (laid base) xs) (map (laid base) ys) t v u
        (rw length-map (ap (λ (z : Out). z.rows) w.0 ∙ rows_outs xs o)) w.1 h.1),
  )

-- there is room for another row
pub noted_room : (o m : Out) (d : Detail) → m ≡ noted o d → Room 2 o → Room 1 m
noted_room o m d e h = omega (arith, ap (λ (z : Out). z.rows) e, rows_noted o d)

-- ---- a row, and another, if it is one: p is held after the first, v is the table then

module _ (base : ℕ) (o : Out) (t : List ℕ) (x : Detail) (p : Out) (v : List ℕ) (e : p ≡ noted o x) (f : v ≡ pour_at o.rows (laid base x ∷ []) t) where
  pub with_none : (y : Option Detail) → y ≡ None → Wrote base o t (x ∷ some_row y) p v
  unfolding some_row
  with_none y h = rw h (wrote_one base o t x p v e f)

  pub with_one : (y : Option Detail) (n : Detail) (m : Out) (u : List ℕ) → y ≡ Some n → m ≡ noted p n → u ≡ pour_at p.rows (laid base n ∷ []) v
      → Wrote base o t (x ∷ some_row y) m u
  unfolding some_row
  with_one y n m u h q r =
      rw h (wrote_then base o t (x ∷ []) (n ∷ []) p m v u (wrote_one base o t x p v e f) (wrote_one base p v n m u q r))

pub ruleset with_laws = (noted_room, with_none, with_one)

-- ---- the number of the first refused value

abbrev pub FirstNumbered : Option (Fault × ℕ) → Type 0
FirstNumbered None = Unit {0}
FirstNumbered (Some (fault, p)) = Numbered (Err fault)

-- no refused value, or one that 6, 7 or 8 refuses
pub record Known (o : Out) : Type 0 where
  pub holds : FirstNumbered o.refused

pub nothing_known : (n : ℕ) → Known (record { rows = n; refused = None })
nothing_known n = record { holds = tt }

value_known : (v : Value) (p : ℕ) → Numbered v → FirstNumbered (elim v [ Ok x ↦ None | Err fault ↦ Some (fault, p) ])
value_known (Ok x) p h = tt
value_known (Err fault) p h = h

pub noted_known : (o : Out) (d : Detail) → Known o → Numbered d.value → Known (noted o d)
unfolding noted first_refused
noted_known o d h g = go o.refused h.holds
  where
    go : (r : Option (Fault × ℕ)) → FirstNumbered r → Known (record { rows = o.rows + 1; refused = first_refused r d })
    go (Some first) h = record { holds = h }
    go None h = record { holds = value_known d.value (value_place d) g }

pub outs_known : (ds : List Detail) (o : Out) → Known o → NumberedRows ds → Known (outs o ds)
unfolding outs
outs_known [] o h g = h
outs_known (d ∷ ds) o h g = outs_known ds (noted o d) (noted_known o d h g.0) g.1

-- what a reader that writes holds, where it read
pub did_known : (base : ℕ) (a : Rows) (o : Out) (t u : List ℕ) (r : Reading Out) (e : ℕ) (m : Out) → Did base a o t u r → r ≡ Ok (e, m) → ReadNumbered a
    → Known o → Known m
did_known base (To j ds) o t u r e m w q h k = let z = ok_pair (sym w.0 ∙ q) in subst Known z.1 (outs_known ds o k h.holds)
did_known base Miss o t u r e m w q h k = cc
did_known base (Hard i p) o t u r e m w q h k = cc
