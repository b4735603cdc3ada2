-- A walk's turns at an entry: what is still to come after each.
use Rattle.entry.specs.declared.entry.Entry.{Entry}
use Rattle.text.specs.declared.stop.Refused.{Refused}
use Rattle.text.specs.declared.stop.Stop.{Stop}
use Rattle.text.specs.steps.Told.{Reading}
use Rattle.std.specs.Prelude.{None, Option, Some, Err, Ok, Result}
use Prim.Native.Nat.{ℕ, ◌+◌, ◌-◌, ◌≤◌, ◌<◌}
use native.Mathlib.Nat.{zero-add}
use native.Mathlib.Omega.{arith}
use mathlib.Core.Path.{◌≡◌, refl, sym, ◌∙◌, ap, subst}
use mathlib.Core.Bool.{Bool, true, false, ◌&&◌}
use mathlib.Core.List.{List, [], ◌++◌, map, map-append, append_assoc}
use mathlib.Core.Logic.{⊎_elim}
use borrow.Author.Tests.{eq-eqb, ne_eqb}
use mir.Syntax.{w64}
use mir.Val.{Fits}
use lib.Dec.{eqb}
use lib.ListN.{length, take, drop, length-drop, drop_of_length-le}
use Rattle.text.specs.Answer.{Ans, To}
use Rattle.text.specs.Run.{blanks}
use Rattle.text.specs.Dates.{date_at}
use Rattle.text.specs.Leaves.{dated, date}
use Rattle.text.specs.Bytes.{is_blank}
use Rattle.text.proofs.Joins.{Reach}
use Rattle.text.proofs.TokenEnds.{run_reach, date_reach}
use Rattle.text.specs.Permitted.{size_limit}
use Rattle.amount.specs.declared.detail.Detail.{Detail}
use Rattle.row.specs.declared.table.Row.{Row}
use Rattle.row.specs.declared.writer.Out.{Out}
use Rattle.row.specs.Row.{row_of, feeds}
use Rattle.row.specs.steps.Writing.{laid, Did}
use Rattle.row.proofs.PourLaws.{le_or_lt}
use Rattle.row.proofs.DidLaws.{was_read, was_miss, was_hard}
use Rattle.posting.specs.Postings.{body}
use Rattle.transaction.specs.steps.Heads.{head_of}
use Rattle.transaction.proofs.ChainLaws.{head_reach}
use Rattle.transaction.proofs.HeadRows.{Parted, transaction_parted}
use Rattle.entry.specs.Forms.{Form, form_of}
use Rattle.entry.specs.Entry.{Reads, got, refuse, rows_of, entry_of}
use Rattle.entry.specs.steps.Settled.{own_row, kind_of, entry_answer, form_rows}
use Rattle.entry.proofs.EntryForms.{entry_form, entry_sound}
use Rattle.entry.proofs.EntryTold.{Transacted, form_transacted, form_placed, form_kind_low}
use Rattle.ledger.specs.Plain.{moved, accepted, read_from}
use Rattle.ledger.specs.steps.Scan.{with_line}
use Rattle.ledger.proofs.PlainLaws.{read_nil, after_accepted}
use Rattle.text.proofs.Steps.{rest_of}
use Rattle.ledger.proofs.ScanLaws.{rows_laid, read_on, read_stop}
use Rattle.walk.specs.Postings.{postings_from}
use Rattle.walk.specs.steps.Walks.{date_of, head_end, Rest, Turned, outer, inner}
use Rattle.walk.proofs.PostLaws.{own_row_lem, laid_others, laid_out, Starts}

-- ---- where a head ends

-- h is the code's answer at the place g of s
module _ (s : List ℕ) (g : ℕ) (eg : g ≡ blanks s 10) (o : Out) (t u : List ℕ) (h : Reading Out) (d : Did 0 (head_of s g) o t u h) where
  head_is : (e : ℕ) → e ≡ head_end (head_of s g) → e ≡ head_end (head_of s (blanks s 10))
  head_is e q = q ∙ ap (λ (i : ℕ). head_end (head_of s i)) eg

  pub head_to : (e : ℕ) (m : Out) → h ≡ Ok (e, m) → e ≡ head_end (head_of s (blanks s 10))
  unfolding head_end
  head_to e m q = head_is e (rw (was_read 0 o t u h (head_of s g) e m d q).1)

  pub head_none : (stop : Stop) → h ≡ Err stop → ◌≡◌ {A = ℕ} 0 (head_end (head_of s (blanks s 10)))
  unfolding head_end
  head_none Stop.Miss q = head_is 0 (rw (was_miss 0 o t u h (head_of s g) d q).0)
  head_none (Stop.Hard k p) q = head_is 0 (rw (was_hard 0 o t u h (head_of s g) k p d q))

pub ruleset head_end_laws = (head_to, head_none)

pub date_on : (x d : Option (ℕ × ℕ)) (e y : ℕ) → x ≡ d → x ≡ Some (e, y) → y ≡ date_of d
unfolding date_of
date_on x d e y p q = rw (← p, q)

pub date_none : (x d : Option (ℕ × ℕ)) → x ≡ d → x ≡ None → ◌≡◌ {A = ℕ} 0 (date_of d)
unfolding date_of
date_none x d p q = rw (← p, q)

pub ruleset date_laws = (date_on, date_none)

-- ---- the entries from a place on

same_rows : (xs ys : List Row) → accepted xs ≡ accepted ys → ys ≡ xs
same_rows xs ys e = cc

record Opens (s : List ℕ) (at : ℕ) (ys : List Row) : Type 0 where
  size : ℕ
  form : Form
  entry : List Row
  others : List Row
  gets : entry_of (drop at s) ≡ got size entry
  reads : form_of (drop at s) ≡ To size form
  rest : Rest s (at + size) others
  all : ys ≡ form_rows at (To size form) ++ others

module _ (s : List ℕ) (at : ℕ) (ys : List Row) (R : Rest s at ys) where
  rest_done : length s ≤ at → ys ≡ []
  rest_done h =
      let e : read_from (length s - at) at R.line (drop at s) ≡ accepted [] = rw (drop_of_length-le s {i = at} h) (read_nil (length s - at) at R.line) in
      R.bare ∙ ap (map (with_line 0)) (same_rows [] R.rows (sym e ∙ R.reads))

  rest_opens : at < length s → Opens s at ys
  rest_opens h = go (entry_of (drop at s)) refl
    where
      go : (x : Reads) → entry_of (drop at s) ≡ x → Opens s at ys
      go (got n rs) e =
          let f = entry_form (drop at s) n rs e in
          let l = R.line in
          let W = map (with_line 0) in
          let on = rw (zero-add at, zero-add (at + n)) at (read_on 0 s at l n rs h e) in
          let z = after_accepted (moved at l rs) (read_from (length s - (at + n)) (at + n) (l + feeds (take n (drop at s))) (drop (at + n) s)) R.rows (sym on ∙ R.reads) in
          record {
            size = n;
            form = f.0;
            entry = rs;
            others = W z.0;
            gets = e;
            reads = f.1;
            rest = record { line = l + feeds (take n (drop at s)); rows = z.0; reads = z.1; bare = refl };
            all =
                R.bare
                ∙ ap W z.2
                ∙ map-append (with_line 0) (moved at l rs) z.0
                ∙ ap (λ (x : List Row). x ++ W z.0) (sym (rows_laid at l (drop at s) n rs e) ∙ ap (form_rows at) f.1);
          }
      go (refuse k p) e =
          let on = rw (zero-add at) at (read_stop 0 s at R.line k p h e) in
          absurd (let y = sym on ∙ R.reads in let z : ◌≡◌ {A = ℕ} 0 1 = cc in omega arith)

form_starts : (at n : ℕ) (f : Form) (zs : List Row) → f.kind ≤ 13 → Starts (form_rows at (To n f) ++ zs)
unfolding form_rows own_row row_of
form_starts at n f zs h = omega arith

pub rest_starts : (s : List ℕ) (at : ℕ) (ys : List Row) → Rest s at ys → Starts ys
rest_starts s at ys R =
    ⊎_elim
    (λ h. subst Starts (sym (rest_done s at ys R h)) tt)
    (λ h.
    let o = rest_opens s at ys R h in
    subst Starts (sym o.all) (form_starts at o.size o.form o.others (form_kind_low (drop at s) o.size o.form o.reads)))
    (le_or_lt (length s) at)

-- ---- what the code has read at an entry: x is its answer

was_refused : (e : Refused) (n : ℕ) (rs : List Row) (x : Reads) → x ≡ got n rs → Err e ≡ entry_answer x → ⊥
unfolding entry_answer
was_refused e n rs (got m xs) q h = let z : ◌≡◌ {A = ℕ} 0 1 = cc in omega arith
was_refused e n rs (refuse i j) q h = let z : ◌≡◌ {A = ℕ} 0 1 = cc in omega arith

was_entry : (y : Entry) (x : Reads) → Ok y ≡ entry_answer x → (rs : List Row) × (x ≡ got y.size rs) × (y.kind ≡ kind_of rs)
unfolding entry_answer
was_entry y (got m rs) e =
    let z : y ≡ record { kind = kind_of rs; size = m; rows = length rs } = cc in
    (rs, ap (λ (i : Entry). got i.size rs) (sym z), ap (λ (i : Entry). i.kind) z)
was_entry y (refuse i p) e = absurd (let z : ◌≡◌ {A = ℕ} 0 1 = cc in omega arith)

kind_of_rows : (s : List ℕ) (n : ℕ) (f : Form) → kind_of (rows_of s n f) ≡ f.kind
unfolding kind_of rows_of row_of
kind_of_rows s n f = refl

same_form : (a : Ans Form) (n m : ℕ) (f h : Form) → a ≡ To n f → a ≡ To m h → (n ≡ m) × (f ≡ h)
same_form a n m f h p q = (cc, cc)

date_read : (s : List ℕ) (d : ℕ) → date s 0 ≡ To 10 d → date_of (date_at s 0) ≡ d
unfolding date dated date_of
date_read s d e = go (date_at s 0) e
  where
    go : (x : Option (ℕ × ℕ)) → dated x ≡ To 10 d → date_of x ≡ d
    go (Some (j, y)) q = cc
    go None q = absurd (let z : ◌≡◌ {A = ℕ} 0 1 = cc in omega arith)

-- a gap goes on behind its date
behind_date : (s : List ℕ) (d : ℕ) → date s 0 ≡ To 10 d → 10 ≤ blanks s 10
behind_date s d e = (run_reach is_blank s 10 (subst (Reach (length s) 10) e (date_reach s 0 (omega arith))).ends.1).0

module _ (s : List ℕ) (at : ℕ) where
  pub entry_done : (wanted : ℕ → Bool) → length s ≤ at → Turned wanted s (outer at) None
  unfolding postings_from
  entry_done wanted h = record { tells = λ ps S. S.these ∙ ap (postings_from wanted false) (rest_done s at S.rows S.comes h) }

  module _ (l : at < length s) (x : Result Entry Refused) (w : x ≡ entry_answer (entry_of (take (length s - at) (drop at s)))) where
    answered : x ≡ entry_answer (entry_of (drop at s))
    answered = w ∙ ap (λ (u : List ℕ). entry_answer (entry_of u)) (rest_of s at)

    pub entry_refused : (wanted : ℕ → Bool) (e : Refused) → x ≡ Err e → Turned wanted s (outer at) None
    entry_refused wanted e i =
        record {
          tells =
              λ ps S.
              let o = rest_opens s at S.rows S.comes l in
              absurd (was_refused e o.size o.entry (entry_of (drop at s)) o.gets (sym i ∙ answered));
        }

    module _ (y : Entry) (i : x ≡ Ok y) where
      abbrev kind : ℕ
      kind = y.kind

      abbrev n : ℕ
      n = y.size

      abbrev en : (rs : List Row) × (entry_of (drop at s) ≡ got n rs) × (kind ≡ kind_of rs)
      en = was_entry y (entry_of (drop at s)) (sym i ∙ answered)

      abbrev fm : (f : Form) × (form_of (drop at s) ≡ To n f) × (en.0 ≡ rows_of (drop at s) n f)
      fm = entry_form (drop at s) n en.0 en.1

      form_kind : kind ≡ fm.0.kind
      form_kind = en.2 ∙ ap kind_of fm.2 ∙ kind_of_rows (drop at s) n fm.0

      next_ends : (0 < n) × (at + n ≤ length s)
      next_ends = omega (arith, entry_sound (drop at s) n en.0 en.1, length-drop at s)

      pub next_fits : length s ≤ size_limit → Fits w64 (at + n)
      next_fits m = record { fits = omega (arith, next_ends) }

      -- behind an entry that is not wanted
      past : (wanted : ℕ → Bool) (b : Bool) → (eqb fm.0.kind 6 && wanted fm.0.date) ≡ b → b ≡ false → Turned wanted s (outer at) (Some (outer (at + n), None))
      past wanted b e z =
          record {
            tells =
                λ ps S.
                let o = rest_opens s at S.rows S.comes l in
                let same = same_form (form_of (drop at s)) o.size n o.form fm.0 o.reads fm.1 in
                let none : (eqb o.form.kind 6 && wanted o.form.date) ≡ false = ap (λ (f : Form). eqb f.kind 6 && wanted f.date) same.1 ∙ e ∙ z in (
                  record {
                    inside = next_ends.1;
                    rows = o.others;
                    comes = subst (λ (m : ℕ). Rest s (at + m) o.others) same.0 o.rest;
                    these =
                        S.these
                        ∙ ap (postings_from wanted false) o.all
                        ∙ own_row_lem wanted false at o.size o.form o.others (form_kind_low (drop at s) o.size o.form o.reads)
                        ∙ ap (λ (b : Bool). postings_from wanted b (map (laid at) o.form.details ++ o.others)) none
                        ∙ laid_out wanted at (drop at s) 1 o.size o.form.details o.others (form_placed (drop at s) o.size o.form o.reads).0;
                  },
                  omega (arith, next_ends),
                  omega arith,
                );
          }

      pub entry_other : (wanted : ℕ → Bool) → (kind ≡ 6 → ⊥) → Turned wanted s (outer at) (Some (outer (at + n), None))
      entry_other wanted h = past wanted false (ap (λ (b : Bool). b && wanted fm.0.date) (ne_eqb fm.0.kind 6 (λ z. h (form_kind ∙ z)))) refl

      module _ (six : kind ≡ 6) where
        tx : Transacted (drop at s) n fm.0
        tx = form_transacted (drop at s) n fm.0 fm.1 (sym form_kind ∙ six)

        pub start_room : blanks (take (length s - at) (drop at s)) 10 ≤ length (take (length s - at) (drop at s))
        start_room = rw (rest_of s at) tx.inside

        module _ (e : ℕ) (ee : e ≡ head_end (head_of (take (length s - at) (drop at s)) (blanks (take (length s - at) (drop at s)) 10))) where
          pt : Parted (drop at s) (blanks (drop at s) 10) n fm.0.details
          pt = transaction_parted (drop at s) (blanks (drop at s) 10) n fm.0.details tx.inside tx.reads

          end_is : e ≡ pt.e
          unfolding head_end
          end_is = ee ∙ ap (λ (u : List ℕ). head_end (head_of u (blanks u 10))) (rest_of s at) ∙ ap head_end pt.head

          body_ends : (10 ≤ e) × (at + e ≤ length s)
          body_ends =
              let g = blanks (drop at s) 10 in
              let r = (subst (Reach (length (drop at s)) g) pt.head (head_reach (drop at s) g tx.inside)).ends in
              (omega (arith, r, end_is, behind_date (drop at s) fm.0.date tx.dated), omega (arith, r, end_is, length-drop at s))

          pub entry_fits : length s ≤ size_limit → Fits w64 (at + e)
          entry_fits m = record { fits = omega (arith, body_ends) }

        module _ (wanted : ℕ → Bool) (d : ℕ) (ed : d ≡ date_of (date_at (take (length s - at) (drop at s)) 0)) (b : Bool) (eb : b ≡ wanted d) where
          date_is : fm.0.date ≡ d
          date_is = sym (ed ∙ ap (λ (u : List ℕ). date_of (date_at u 0)) (rest_of s at) ∙ date_read (drop at s) fm.0.date tx.dated)

          test_is : (eqb fm.0.kind 6 && wanted fm.0.date) ≡ b
          test_is =
              ap (λ (c : Bool). c && wanted fm.0.date) (eq-eqb fm.0.kind 6 (sym form_kind ∙ six)) ∙ ap wanted date_is ∙ sym eb

          pub entry_unwanted : b ≡ false → Turned wanted s (outer at) (Some (outer (at + n), None))
          entry_unwanted h = past wanted b test_is h

          pub entry_body : b ≡ true → (e : ℕ) → e ≡ head_end (head_of (take (length s - at) (drop at s)) (blanks (take (length s - at) (drop at s)) 10))
              → Turned wanted s (outer at) (Some (inner (at + e) at, None))
          entry_body h e ee =
              record {
                tells =
                    λ ps S.
                    let o = rest_opens s at S.rows S.comes l in
                    let p = pt e ee in
                    let same = same_form (form_of (drop at s)) o.size n o.form fm.0 o.reads fm.1 in
                    let some : (eqb o.form.kind 6 && wanted o.form.date) ≡ true = ap (λ (f : Form). eqb f.kind 6 && wanted f.date) same.1 ∙ test_is ∙ h in
                    let j : at + e - at ≡ p.e = omega (arith, end_is e ee) in
                    let ds : o.form.details ≡ p.front ++ p.posts = ap (λ (f : Form). f.details) same.1 ∙ p.all in (
                      record {
                        inside = (body_ends e ee).1;
                        rows = map (laid at) p.posts ++ o.others;
                        comes =
                            record {
                              end = n;
                              details = p.posts;
                              others = o.others;
                              past = omega arith;
                              reads = ap (body (drop at s)) j ∙ p.rest;
                              rest = subst (λ (m : ℕ). Rest s (at + m) o.others) same.0 o.rest;
                              all = refl;
                            };
                        these =
                            S.these
                            ∙ ap (postings_from wanted false) o.all
                            ∙ own_row_lem wanted false at o.size o.form o.others (form_kind_low (drop at s) o.size o.form o.reads)
                            ∙ ap (λ (b : Bool). postings_from wanted b (map (laid at) o.form.details ++ o.others)) some
                            ∙ ap (λ (x : List Detail). postings_from wanted true (map (laid at) x ++ o.others)) ds
                            ∙ ap (λ (x : List Row). postings_from wanted true (x ++ o.others)) (map-append (laid at) p.front p.posts)
                            ∙ ap (postings_from wanted true) (append_assoc (map (laid at) p.front) (map (laid at) p.posts) o.others)
                            ∙ laid_others wanted at true p.front (map (laid at) p.posts ++ o.others) p.others;
                      },
                      omega (arith, body_ends e ee),
                      omega arith,
                    );
              }

pub ruleset entry_laws = (entry_done, entry_refused, next_fits, entry_other, start_room, entry_unwanted, entry_fits, entry_body)
