-- An entry that was read: the values of its details, and its own row before them.
use Rattle.entry.specs.declared.entry.Entry.{Entry}
use Rattle.text.specs.declared.stop.Refused.{Refused}
use Rattle.text.specs.declared.stop.Stop.{Stop}
use Rattle.entry.specs.declared.directive.Formed.{Formed}
use Rattle.text.specs.steps.Told.{Reading}
use Rattle.text.specs.declared.stop.Cause.{Cause}
use Rattle.decimal.specs.declared.Fault.{Fault}
use Rattle.std.specs.Prelude.{Err, Ok, Result, None, Option, Some, is_none}
use Rattle.decimal.specs.Faults.{Value, number_of}
use Prim.Native.Nat.{ℕ, ◌+◌, ◌-◌, ◌≤◌}
use native.Mathlib.Omega.{arith}
use mathlib.Core.Path.{◌≡◌, refl, sym, ◌∙◌, ap, subst}
use mathlib.Core.Bool.{cond}
use mathlib.Core.List.{List, [], ◌∷◌, ◌++◌, map}
use borrow.Rule.Slice.PartMut.{put_mid}
use lib.ListN.{length, take, drop, length-map}
use Rattle.decimal.specs.Exact.{twos_of}
use Rattle.decimal.specs.declared.Decimal.{Decimal}
use Rattle.text.specs.Answer.{To}
use Rattle.text.proofs.Joins.{Reach}
use Rattle.text.specs.Permitted.{size_limit}
use Rattle.text.specs.Refusals.{refused_with, cause_number}
use Rattle.amount.specs.declared.detail.Detail.{Detail}
use Rattle.row.specs.declared.writer.Out.{Out}
use Rattle.row.specs.Row.{row_of}
use Rattle.row.specs.steps.Pouring.{pour, place_of}
use Rattle.row.specs.Details.{value_place}
use Rattle.row.specs.steps.Writing.{laid, first_refused, noted, outs, Poured}
use Rattle.row.proofs.OutLaws.{rows_outs}
use Rattle.row.proofs.PourLaws.{pour_at_zero}
use Rattle.row.proofs.TableLaws.{head_and_rest}
use Rattle.entry.specs.Forms.{Form, form_of}
use Rattle.entry.specs.Entry.{hard_place, rows_of, Reads, got, refuse, judged, settled, entry_of}
use Rattle.entry.specs.steps.Formed.{DidForm}
use Rattle.entry.specs.steps.Settled.{own_row, entry_unless, settled_entry, settled_table, kind_of, entry_answer, form_rows, EntryPoured}
use Rattle.entry.proofs.EntryEnds.{form_reach}
use Rattle.entry.proofs.EntryTold.{form_placed}
use Rattle.entry.proofs.FormLaws.{form_was, form_missed, form_refused}

-- ---- the first refused value

outs_kept : (ds : List Detail) (o : Out) (first : Fault × ℕ) → o.refused ≡ Some first → (outs o ds).refused ≡ Some first
unfolding outs noted first_refused
outs_kept [] o first h = h
outs_kept (d ∷ ds) o first h = outs_kept ds (noted o d) first (rw h)

-- the values are judged by what is held after the details
abbrev verdict_of : Reads → Option (Fault × ℕ) → Reads
verdict_of r None = r
verdict_of r (Some (fault, place)) = refuse (number_of fault) place

abbrev held_verdict : Reads → Out → Reads
held_verdict r o = verdict_of r o.refused

judged_held : (ds : List Detail) (o : Out) (r : Reads) → o.refused ≡ None → judged ds r ≡ held_verdict r (outs o ds)
unfolding judged outs noted first_refused value_place
judged_held [] o r h = rw h
judged_held (d ∷ ds) o r h = go d.value refl (judged_held ds (noted o d) r)
  where
    known : (x : Decimal) → d.value ≡ Ok x → (noted o d).refused ≡ None
    known x e = rw (h, e)

    faulty : (n : Fault) → d.value ≡ Err n → (noted o d).refused ≡ Some (n, value_place d)
    faulty n e = rw (h, e)

    go : (v : Value) → d.value ≡ v → ((noted o d).refused ≡ None → judged ds r ≡ held_verdict r (outs (noted o d) ds))
        → elim v as (λ _. Reads) [ Ok x ↦ judged ds r | Err n ↦ refuse (number_of n) (value_place d) ] ≡ held_verdict r (outs (noted o d) ds)
    go (Ok x) e ih = ih (known x e)
    go (Err n) e ih = sym (ap (verdict_of r) (outs_kept ds (noted o d) (n, value_place d) (faulty n e)))

-- ---- where the details are written and o is held

module _ (k n : ℕ) (o : Out) where
  pub settled_read : o.refused ≡ None → Ok (record { kind = k; size = n; rows = o.rows + 1 }) ≡ settled_entry k n o
  unfolding settled_entry entry_unless
  settled_read h = rw h

  pub settled_refused : (fault : Fault) (place i : ℕ) (r : Refused) → o.refused ≡ Some (fault, place) → i ≡ number_of fault → r ≡ refused_with i place 0 → Err r ≡ settled_entry k n o
  unfolding settled_entry entry_unless
  settled_refused fault place i r h e q = rw (h, q, e)

module _ (base k d n : ℕ) (o : Out) (t : List ℕ) where
  pub settled_row : (u : List ℕ) → o.refused ≡ None → u ≡ pour (record { kind = k; start = base; end = base + n; line = 0; p = d; q = o.rows; bits = 0 } ∷ []) t
      → u ≡ settled_table base k d n o t
  unfolding settled_table own_row row_of twos_of
  settled_row u h e = rw h e

  pub settled_left : (first : Fault × ℕ) → o.refused ≡ Some first → t ≡ settled_table base k d n o t
  unfolding settled_table
  settled_left first h = rw h

pub ruleset settled_laws = (settled_read, settled_refused, settled_row, settled_left)

-- ---- the entry: f is the code's answer to its form, whose details went into the table from row 1 on

abbrev none_held : Out
none_held = record { rows = 0; refused = None }

entry_verdict : (s : List ℕ) (n : ℕ) (x : Form) (m : Out) → form_of s ≡ To n x → m ≡ outs none_held x.details → entry_of s ≡ held_verdict (got n (rows_of s n x)) m
unfolding entry_of settled
entry_verdict s n x m e h = rw (e, h) (judged_held x.details none_held (got n (rows_of s n x)) refl)

rows_held : (ds : List Detail) (m : Out) → m ≡ outs none_held ds → m.rows ≡ length ds
rows_held ds m h = ap (λ (o : Out). o.rows) h ∙ omega (arith, rows_outs ds none_held)

answer_held : (s : List ℕ) (n : ℕ) (x : Form) (m : Out) → m.rows ≡ length x.details → settled_entry x.kind n m ≡ entry_answer (held_verdict (got n (rows_of s n x)) m)
unfolding settled_entry entry_unless entry_answer kind_of rows_of row_of
answer_held s n x m h = go m.refused
  where
    counted : ℕ → Result Entry Refused
    counted z = Ok (record { kind = x.kind; size = n; rows = z })

    go : (r : Option (Fault × ℕ)) → entry_unless r (record { kind = x.kind; size = n; rows = m.rows + 1 }) ≡ entry_answer (verdict_of (got n (rows_of s n x)) r)
    go None = rw (h, length-map) (ap counted (omega arith))
    go (Some (fault, place)) = refl

-- the table with the details from row 1 on, and then the entry's own row, unless a value is refused
poured_held : (base : ℕ) (s t : List ℕ) (i : ℕ) (v : List ℕ) (k d n : ℕ) (m : Out) (u : List ℕ) (x : Form) → form_of s ≡ To n x → x.kind ≡ k → x.date ≡ d
    → m.rows ≡ length x.details → Poured 0 (map (laid base) x.details) (take (length t - i) (drop i t)) v → i ≡ place_of 1 (length t)
    → u ≡ settled_table base k d n m (put_mid i (length t - i) t v) → EntryPoured (held_verdict (got n (rows_of s n x)) m) base s t u
unfolding settled_table form_rows
poured_held base s t i v k d n m u x ex ek ed em (xs, ev) ei eu = go m.refused eu
  where
    go : (r : Option (Fault × ℕ)) → u ≡ cond (is_none r) (pour (own_row base k d n m.rows ∷ []) (put_mid i (length t - i) t v)) (put_mid i (length t - i) t v)
        → EntryPoured (verdict_of (got n (rows_of s n x)) r) base s t u
    go None q =
        let rs = map (laid base) x.details ++ xs in
        let part = take (length t - i) (drop i t) in
        rw (ex, ek, ed, ← em)
        (xs, head_and_rest (own_row base k d n m.rows) rs t ei (ev ∙ pour_at_zero rs part) q ∙ sym (pour_at_zero (own_row base k d n m.rows ∷ rs) t))
    go (Some (fault, place)) q = tt

module _ (base : ℕ) (s t : List ℕ) (i : ℕ) (v : List ℕ) (f : Reading Formed) (w : DidForm base (form_of s) none_held (take (length t - i) (drop i t)) v f) where
  pub entry_answer_lem : (y : Formed) (n : ℕ) (r : Result Entry Refused) → f ≡ Ok (n, y) → r ≡ settled_entry y.kind n y.out → r ≡ entry_answer (entry_of s)
  entry_answer_lem y n r h q =
      let z = form_was base (form_of s) none_held (take (length t - i) (drop i t)) v f y n w h in
      q ∙ ap (λ i. settled_entry i n y.out) (sym z.2) ∙ answer_held s n z.0 y.out (rows_held z.0.details y.out z.4) ∙ ap entry_answer (sym (entry_verdict s n z.0 y.out z.1 z.4))

  pub entry_poured : (y : Formed) (n : ℕ) (u : List ℕ) → f ≡ Ok (n, y) → i ≡ place_of 1 (length t)
      → u ≡ settled_table base y.kind y.date n y.out (put_mid i (length t - i) t v) → EntryPoured (entry_of s) base s t u
  entry_poured y n u h e q =
      let z = form_was base (form_of s) none_held (take (length t - i) (drop i t)) v f y n w h in
      rw (entry_verdict s n z.0 y.out z.1 z.4)
      (poured_held base s t i v y.kind y.date n y.out u z.0 z.1 z.2 z.3 (rows_held z.0.details y.out z.4)
      z.5 e q)

  -- a form that missed, or that is refused
  pub entry_missed : (r : Refused) → f ≡ Err Stop.Miss → r ≡ refused_with 5 0 0 → Err r ≡ entry_answer (entry_of s)
  unfolding entry_of settled entry_answer
  entry_missed r h e = rw ((form_missed base (form_of s) none_held (take (length t - i) (drop i t)) v f w h).0, e)

  pub entry_miss_left : (u : List ℕ) → f ≡ Err Stop.Miss → EntryPoured (entry_of s) base s t u
  unfolding entry_of settled
  entry_miss_left u h = rw (form_missed base (form_of s) none_held (take (length t - i) (drop i t)) v f w h).0 tt

  module _ (p : ℕ) where
    pub entry_three : (n : ℕ) (r : Refused) → f ≡ Err (Stop.Hard Cause.TooDeep p) → n ≡ cause_number Cause.TooDeep → r ≡ refused_with n p 0 → Err r ≡ entry_answer (entry_of s)
    unfolding entry_of settled entry_answer hard_place
    entry_three n r h e q = rw (form_refused base (form_of s) none_held (take (length t - i) (drop i t)) v f Cause.TooDeep p w h, q, e)

    entry_lacks : (cause : Cause) (n : ℕ) (r : Refused) → hard_place cause p ≡ 0 → f ≡ Err (Stop.Hard cause p) → n ≡ cause_number cause → r ≡ refused_with n 0 0
        → Err r ≡ entry_answer (entry_of s)
    unfolding entry_of settled entry_answer
    entry_lacks cause n r z h e q = rw (form_refused base (form_of s) none_held (take (length t - i) (drop i t)) v f cause p w h, z, q, e)

    pub entry_other : (n : ℕ) (r : Refused) → f ≡ Err (Stop.Hard Cause.Missing p) → n ≡ cause_number Cause.Missing → r ≡ refused_with n 0 0 → Err r ≡ entry_answer (entry_of s)
    unfolding hard_place
    entry_other n r h e q = entry_lacks Cause.Missing n r refl h e q

    pub entry_no_gap : (n : ℕ) (r : Refused) → f ≡ Err (Stop.Hard Cause.MissingGap p) → n ≡ cause_number Cause.MissingGap → r ≡ refused_with n 0 0 → Err r ≡ entry_answer (entry_of s)
    unfolding hard_place
    entry_no_gap n r h e q = entry_lacks Cause.MissingGap n r refl h e q

    pub entry_no_part : (n : ℕ) (r : Refused) → f ≡ Err (Stop.Hard Cause.MissingPart p) → n ≡ cause_number Cause.MissingPart → r ≡ refused_with n 0 0 → Err r ≡ entry_answer (entry_of s)
    unfolding hard_place
    entry_no_part n r h e q = entry_lacks Cause.MissingPart n r refl h e q

    pub entry_hard_left : (cause : Cause) (u : List ℕ) → f ≡ Err (Stop.Hard cause p) → EntryPoured (entry_of s) base s t u
    unfolding entry_of settled
    entry_hard_left cause u h = rw (form_refused base (form_of s) none_held (take (length t - i) (drop i t)) v f cause p w h) tt

  -- the entry and its rows are no more than the text
  module _ (y : Formed) (n : ℕ) (h : f ≡ Ok (n, y)) where
    entry_bounds : (y.out.rows ≤ n) × (n ≤ length s)
    entry_bounds =
        let z = form_was base (form_of s) none_held (take (length t - i) (drop i t)) v f y n w h in
        let p = (subst (Reach (length s) 1) z.1 (form_reach s)).ends in
        omega (arith, p, rows_held z.0.details y.out z.4, (form_placed s n z.0 z.1).1)

    pub entry_within : length s ≤ size_limit → n ≤ size_limit
    entry_within l = omega (arith, entry_bounds)

    pub entry_room : length s ≤ size_limit → y.out.rows ≤ size_limit
    entry_room l = omega (arith, entry_bounds)

pub ruleset entry_laws = (entry_within, entry_room, entry_answer_lem, entry_poured, entry_missed, entry_miss_left, entry_three, entry_other, entry_no_gap, entry_no_part, entry_hard_left)
