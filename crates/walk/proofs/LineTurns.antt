-- A walk's turns in the body of a transaction, whichever turn it is, and its start.
use Rattle.text.specs.declared.stop.Stop.{Stop}
use Rattle.std.specs.Prelude.{Err, Ok, None, Option, Some}
use Rattle.text.specs.steps.Told.{Reading}
use Rattle.text.specs.declared.stop.Cause.{Cause}
use Prim.Native.Nat.{ℕ, ◌+◌, ◌*◌, ◌-◌, ◌≤◌, ◌<◌}
use native.Mathlib.Omega.{arith}
use mathlib.Core.Path.{◌≡◌, refl, sym, ◌∙◌, ap, subst}
use mathlib.Core.Bool.{Bool, true, false}
use mathlib.Core.List.{List, [], ◌∷◌, ◌++◌, map, map-append, append_assoc, append-nil}
use mir.Syntax.{w64}
use mir.Val.{Fits}
use lib.ListN.{length, take, drop, length-drop}
use Rattle.text.specs.Answer.{To, Miss, Hard, ◌and◌, more, maybe, many}
use Rattle.text.specs.Permitted.{size_limit}
use Rattle.amount.specs.declared.detail.Detail.{Detail}
use Rattle.amount.specs.Details.{Rows}
use Rattle.row.specs.declared.table.Row.{Row}
use Rattle.row.specs.declared.writer.Out.{Out}
use Rattle.row.specs.steps.Writing.{laid, Did, Poured, outs}
use Rattle.row.specs.Row.{width}
use Rattle.row.specs.steps.Pouring.{pour_at}
use Rattle.row.specs.steps.Holding.{Held}
use Rattle.row.proofs.OutLaws.{rows_outs}
use Rattle.row.proofs.DidLaws.{was_read, was_miss, was_hard}
use Rattle.posting.specs.Postings.{body_step, body}
use Rattle.posting.proofs.StepRows.{step_shape, body_miss, body_hard, body_on, step_ends, body_front}
use Rattle.ledger.specs.Plain.{accepted, plain}
use Rattle.ledger.specs.steps.Scan.{with_line, scanned}
use Rattle.ledger.proofs.ReadLaws.{plain_reads}
use Rattle.text.proofs.Steps.{rest_of}
use Rattle.walk.specs.declared.step.Cursor.{Cursor}
use Rattle.walk.specs.Postings.{postings, postings_from}
use Rattle.walk.specs.steps.Walks.{posted_in, Rest, Within, Stands, Standing, Turn, Turned, outer, inner}
use Rattle.walk.proofs.PostLaws.{lines_apart, fresh, laid_posting}
use Rattle.walk.proofs.SeenLaws.{Ahead, front_ahead, seen}
use Rattle.walk.proofs.EntryTurns.{rest_starts}

nil_of : (xs : List Detail) → length xs ≡ 0 → xs ≡ []
nil_of [] e = refl
nil_of (x ∷ xs) e = absurd (omega arith)

-- ---- one step at the most

module _ (f : ℕ → Rows) (i : ℕ) where
  one_is : many f 1 i ≡ maybe i (f i and λ e. To e [])
  unfolding many
  one_is = refl

  one_step : (e : ℕ) (ds : List Detail) → many f 1 i ≡ To e ds → (e ≡ i → ⊥) → f i ≡ To e ds
  unfolding maybe ◌and◌ more
  one_step e ds q n = go (f i) refl (sym one_is ∙ q)
    where
      go : (a : Rows) → f i ≡ a → maybe i (a and λ e. To e []) ≡ To e ds → f i ≡ To e ds
      go (To j xs) w z =
          let k : j ≡ e = cc in
          let l : xs ++ [] ≡ ds = cc in
          w ∙ ap (λ (x : ℕ). To x xs) k ∙ ap (To e) (sym (append-nil xs) ∙ l)
      go Miss w z = let k : i ≡ e = cc in absurd (n (sym k))
      go (Hard k p) w z = absurd (let y : ◌≡◌ {A = ℕ} 0 1 = cc in omega arith)

  no_step : (ds : List Detail) → many f 1 i ≡ To i ds → ((j : ℕ) (xs : List Detail) → f i ≡ To j xs → i + 1 ≤ j) → f i ≡ Miss
  unfolding maybe ◌and◌ more
  no_step ds q h = go (f i) refl (sym one_is ∙ q)
    where
      go : (a : Rows) → f i ≡ a → maybe i (a and λ e. To e []) ≡ To i ds → f i ≡ Miss
      go (To j xs) w z = let k : j ≡ i = cc in absurd (omega (arith, h j xs w))
      go Miss w z = w
      go (Hard k p) w z = absurd (let y : ◌≡◌ {A = ℕ} 0 1 = cc in omega arith)

  hard_step : (k : Cause) (p : ℕ) → many f 1 i ≡ Hard k p → f i ≡ Hard k p
  unfolding maybe ◌and◌ more
  hard_step k p q = go (f i) refl (sym one_is ∙ q)
    where
      go : (a : Rows) → f i ≡ a → maybe i (a and λ e. To e []) ≡ Hard k p → f i ≡ Hard k p
      go (To j xs) w z = absurd (let y : ◌≡◌ {A = ℕ} 0 1 = cc in omega arith)
      go Miss w z = absurd (let y : ◌≡◌ {A = ℕ} 0 1 = cc in omega arith)
      go (Hard m o) w z = w ∙ z

  never_miss : many f 1 i ≡ Miss → ⊥
  unfolding maybe ◌and◌ more
  never_miss q = go (f i) (sym one_is ∙ q)
    where
      go : (a : Rows) → maybe i (a and λ e. To e []) ≡ Miss → ⊥
      go (To j xs) z = let y : ◌≡◌ {A = ℕ} 0 1 = cc in omega arith
      go Miss z = let y : ◌≡◌ {A = ℕ} 0 1 = cc in omega arith
      go (Hard m o) z = let y : ◌≡◌ {A = ℕ} 0 1 = cc in omega arith

module _ (wanted : ℕ → Bool) (s : List ℕ) (at from : ℕ) where
  abbrev u : List ℕ
  u = drop from s

  abbrev i : ℕ
  i = at - from

  within : (rows : List Row) → Within s at from rows → at ≤ length s → i ≤ length u
  within rows W h = rw length-drop (omega arith)

  -- a step that read xs, where the postings ps are to come
  module _ (e : ℕ) (xs : List Detail) (q : body_step u i ≡ To e xs) (ps : List Row) (S : Stands wanted s (inner at from) ps) where
    abbrev W : Within s at from S.rows
    W = S.comes

    inside : i ≤ length u
    inside = within S.rows W S.inside

    ends : (at < from + e) × (from + e ≤ length s)
    ends = omega (arith, step_ends u i e xs inside q, W.past, length-drop from s)

    abbrev ys : (ys : List Detail) × (body u e ≡ To W.end ys) × (W.details ≡ xs ++ ys)
    ys = body_on u i W.end W.details W.reads e xs inside q

    abbrev later : List Row
    later = map (laid from) ys.0 ++ W.others

    rows_are : S.rows ≡ map (laid from) xs ++ later
    rows_are =
        W.all
        ∙ ap (λ (x : List Detail). map (laid from) x ++ W.others) ys.2
        ∙ ap (λ (x : List Row). x ++ W.others) (map-append (laid from) xs ys.0)
        ∙ append_assoc (map (laid from) xs) (map (laid from) ys.0) W.others

    on : Stands wanted s (inner (from + e) from) (postings_from wanted true later)
    on =
        let j : from + e - from ≡ e = omega arith in
        record {
          inside = ends.1;
          rows = later;
          comes = record { end = W.end; details = ys.0; others = W.others; past = omega arith; reads = ap (body u) j ∙ ys.1; rest = W.rest; all = refl };
          these = refl;
        }

    were : ps ≡ postings_from wanted true (map (laid from) xs ++ later)
    were = S.these ∙ ap (postings_from wanted true) rows_are

    ahead : Ahead later
    ahead =
        front_ahead from ys.0 W.others (body_front u e W.end ys.0 (step_ends u i e xs inside q).1 ys.1)
        (rest_starts s (from + W.end) W.others W.rest)

    small : length s ≤ size_limit → from + length u ≤ size_limit
    small l = rw length-drop (omega (arith, W.past, S.inside))

  found_of : (e : ℕ) (xs : List Detail) → body_step u i ≡ To e xs → (length xs ≡ 0 → ⊥) → (t v : List ℕ) (zs : List Row) → length t ≡ 2 * width
      → v ≡ pour_at 0 (map (laid from) xs ++ zs) t → length s ≤ size_limit → (p : Row) → p ≡ posted_in v (length xs)
      → Turned wanted s (inner at from) (Some (inner (from + e) from, Some p))
  found_of e [] q n t v zs lt w l p pe = absurd (n refl)
  found_of e (x ∷ us) q n t v zs lt w l p pe =
      record {
        tells =
            λ ps S.
            let b = ends e (x ∷ us) q ps S in
            let m = later e (x ∷ us) q ps S in
            let z = step_shape u i e (x ∷ us) (inside e (x ∷ us) q ps S) q in
            let y = seen from (length u) (small e (x ∷ us) q ps S l) x t v zs lt us m z w (ahead e (x ∷ us) q ps S) in
            let r = pe ∙ y.0 in (
              postings_from wanted true m,
              were e (x ∷ us) q ps S ∙ laid_posting wanted from x us m z.kind z.others ∙ ap (λ (y : Row). y ∷ postings_from wanted true m) (sym r),
              subst Held (sym r) y.1,
              on e (x ∷ us) q ps S,
              omega (arith, b),
              b.0,
            );
      }

  -- what the code did, and its answer x
  module _ (o : Out) (t v : List ℕ) (x : Reading Out) (D : Did from (many (body_step (take (length s - from) (drop from s))) 1 (at - from)) o t v x) (zero : o.rows ≡ 0) where
    did : Did from (many (body_step u) 1 i) o t v x
    did = subst (λ (w : List ℕ). Did from (many (body_step w) 1 i) o t v x) (rest_of s from) D

    counted : (m : Out) (xs : List Detail) → m ≡ outs o xs → m.rows ≡ length xs
    counted m xs e = omega (arith, ap (λ (y : Out). y.rows) e, rows_outs xs o, zero)

    -- what was read, where it ends elsewhere
    step_read : (e : ℕ) (m : Out) → x ≡ Ok (e, m) → (e ≡ i → ⊥) → (xs : List Detail) × (body_step u i ≡ To e xs) × ((m ≡ outs o xs) × Poured o.rows (map (laid from) xs) t v)
    step_read e m q n = let z = was_read from o t v x (many (body_step u) 1 i) e m did q in (z.0, one_step (body_step u) i e z.0 z.1 n, z.2)

    pub line_fits : (e : ℕ) (m : Out) → x ≡ Ok (e, m) → (e ≡ i → ⊥) → Standing wanted s (inner at from) → length s ≤ size_limit → Fits w64 (from + e)
    line_fits e m q n S l =
        let z = step_read e m q n in
        record { fits = omega (arith, ends e z.0 z.1 S.these S.stands) }

    pub line_on : (e : ℕ) (m : Out) → x ≡ Ok (e, m) → (e ≡ i → ⊥) → m.rows ≡ 0 → Turned wanted s (inner at from) (Some (inner (from + e) from, None))
    line_on e m q b k =
        let z = step_read e m q b in
        let n : z.0 ≡ [] = nil_of z.0 (omega (arith, counted m z.0 z.2.0)) in
        record {
          tells =
              λ ps S.
              let b = ends e z.0 z.1 ps S in
              let w = were e z.0 z.1 ps S ∙ ap (λ (y : List Detail). postings_from wanted true (map (laid from) y ++ later e z.0 z.1 ps S)) n in
              (subst (Stands wanted s (inner (from + e) from)) (sym w) (on e z.0 z.1 ps S), omega (arith, b), omega (arith, b));
        }

    pub line_found : (e : ℕ) (m : Out) → x ≡ Ok (e, m) → (e ≡ i → ⊥) → (m.rows ≡ 0 → ⊥) → length t ≡ 2 * width → length s ≤ size_limit → (p : Row) → p ≡ posted_in v m.rows
        → Turned wanted s (inner at from) (Some (inner (from + e) from, Some p))
    line_found e m q b k lt l p pe =
        let z = step_read e m q b in
        let c = counted m z.0 z.2.0 in
        found_of e z.0 z.1 (λ n. k (omega (arith, c))) t v z.2.1.0 lt
        (z.2.1.1 ∙ ap (λ (y : ℕ). pour_at y (map (laid from) z.0 ++ z.2.1.0) t) zero) l p (pe ∙ ap (posted_in v) c)

    pub line_end_lem : (e : ℕ) (m : Out) → x ≡ Ok (e, m) → e ≡ i → Turned wanted s (inner at from) (Some (outer at, None))
    line_end_lem e m q k =
        record {
          tells =
              λ ps S.
              let W = S.comes in
              let r = was_read from o t v x (many (body_step u) 1 i) e m did q in
              let none : body_step u i ≡ Miss =
              no_step (body_step u) i r.0 (r.1 ∙ ap (λ (j : ℕ). To j r.0) k) (λ j xs w. (step_ends u i j xs (within S.rows W S.inside) w).0) in
              let z = body_miss u i W.end W.details W.reads none in
              let a : from + W.end ≡ at = omega (arith, z.0, W.past) in
              let R = subst (λ (y : ℕ). Rest s y W.others) a W.rest in (
                record {
                  inside = S.inside;
                  rows = W.others;
                  comes = R;
                  these =
                      S.these
                      ∙ ap (postings_from wanted true) (W.all ∙ ap (λ (y : List Detail). map (laid from) y ++ W.others) z.1)
                      ∙ fresh wanted true false W.others (rest_starts s at W.others R);
                },
                omega arith,
                omega arith,
              );
        }

    pub line_none : (stop : Stop) → x ≡ Err stop → Turned wanted s (inner at from) None
    line_none Stop.Miss q = absurd (never_miss (body_step u) i (was_miss from o t v x (many (body_step u) 1 i) did q).0)
    line_none (Stop.Hard k p) q =
        record {
          tells =
              λ ps S.
              let W = S.comes in
              absurd (body_hard u i W.end W.details W.reads k p (hard_step (body_step u) i k p (was_hard from o t v x (many (body_step u) 1 i) k p did q)));
        }

  -- what the step and what it is lent need
  module _ (l : length s ≤ size_limit) (S : Standing wanted s (inner at from)) where
    pub line_past : from ≤ at
    line_past = S.stands.comes.past

    pub line_inside : from ≤ length s
    line_inside = omega (arith, S.stands.comes.past, S.stands.inside)

    pub line_room : (n : ℕ) → n ≡ 0
        → (from ≤ size_limit) × (length (take (length s - from) (drop from s)) ≤ size_limit) × (at - from ≤ length (take (length s - from) (drop from s))) × (n ≤ at - from)
    line_room n e = rw (rest_of s from) (omega (arith, length-drop from s, S.stands.comes.past, S.stands.inside, e))

pub ruleset line_laws = (line_fits, line_on, line_found, line_end_lem, line_none, line_past, line_inside, line_room)

-- ---- whichever turn it is

abbrev put : Option ℕ → Cursor → Cursor
put b c = record { at = c.at; inside = b }

module _ (wanted : ℕ → Bool) (s : List ℕ) (c : Cursor) where
  pub into_inner : (from : ℕ) → c.inside ≡ Some from → Standing wanted s c → Standing wanted s (inner c.at from)
  into_inner from e S = subst (λ (b : Option ℕ). Standing wanted s (put b c)) e S

  pub from_inner : (r : Turn) (from : ℕ) → c.inside ≡ Some from → Turned wanted s (inner c.at from) r → Turned wanted s c r
  from_inner r from e T = subst (λ (b : Option ℕ). Turned wanted s (put b c) r) (sym e) T

  pub from_outer : (r : Turn) → c.inside ≡ None → Turned wanted s (outer c.at) r → Turned wanted s c r
  from_outer r e T = subst (λ (b : Option ℕ). Turned wanted s (put b c) r) (sym e) T

pub ruleset advance_laws = (into_inner, from_inner, from_outer)

-- ---- a walk starts before all postings of a ledger that is accepted

pub walk_start : (wanted : ℕ → Bool) (s : List ℕ) (rs : List Row) → plain s ≡ accepted rs → Stands wanted s (outer 0) (postings wanted rs)
unfolding scanned
walk_start wanted s rs e =
    let z = plain_reads s rs e in
    let l : length s - 0 ≡ length s = omega arith in
    record {
      inside = omega arith;
      rows = map (with_line 0) rs;
      comes = record { line = 1; rows = rs; reads = rw l z.2; bare = refl };
      these = sym (lines_apart wanted 0 false rs);
    }
