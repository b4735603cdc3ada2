-- The postings of a month.
use Rattle.std.specs.Prelude.{Bool, None, Option, Some}
use Prim.Native.Nat.{ℕ, ◌+◌, ◌≤◌, ◌<◌}
use native.Mathlib.Omega.{arith}
use mathlib.Core.Path.{◌≡◌, refl, sym, ◌∙◌, ap, subst}
use mathlib.Core.List.{List, [], ◌∷◌, ◌++◌, append_assoc, append-nil}
use lib.ListN.{length, length-append}
use Rattle.text.specs.Permitted.{size_limit}
use Rattle.text.proofs.EveryLaws.{every_append}
use Rattle.row.specs.declared.table.Row.{Row}
use Rattle.row.specs.steps.Holding.{Held}
use Rattle.row.specs.Row.{field_bytes}
use Rattle.row.proofs.PouredLaws.{poured_append, length_poured}
use Rattle.row.proofs.PourLaws.{length_field_bytes}
use Rattle.row.specs.steps.Pouring.{poured}
use Rattle.ledger.proofs.ReadLaws.{plain_reads}
use Rattle.order.specs.Records.{record_width}
use Rattle.order.specs.steps.Buffers.{put_records, put_records_at}
use Rattle.walk.specs.declared.step.Cursor.{Cursor}
use Rattle.walk.specs.Postings.{dated, postings}
use Rattle.walk.specs.steps.Walks.{Stands, Standing, Turn, Turned, Told, left, outer}
use Rattle.walk.proofs.LineTurns.{walk_start}
use Rattle.totals.specs.steps.Months.{Accepted, rows_of, month_postings, AllHeld, Follows, Next}

-- ---- the next posting: on the way from c to d none was passed

pub record Quiet (wanted : ℕ → Bool) (s : List ℕ) (c d : Cursor) : Type 0 where
  pub standing : Standing wanted s d
  pub same : (ps : List Row) → Stands wanted s c ps → Stands wanted s d ps
  pub less : left s d ≤ left s c
  pub past : c.at ≤ d.at

module _ (wanted : ℕ → Bool) (s : List ℕ) (c : Cursor) where
  pub quiet_start : Standing wanted s c → Quiet wanted s c c
  quiet_start S = record { standing = S; same = λ ps x. x; less = omega arith; past = omega arith }

  module _ (d : Cursor) (Q : Quiet wanted s c d) (t : Turn) (T : Turned wanted s d t) where
    pub quiet_room : length s ≤ size_limit → (length s ≤ size_limit) × Standing wanted s d
    quiet_room l = (l, Q.standing)

    module _ (e : Cursor) (o : Option Row) (q : t ≡ Some (e, o)) where
      here : Told wanted s d (Some (e, o)) Q.standing.these
      here = subst (λ (x : Turn). Told wanted s d x Q.standing.these) q (T.tells Q.standing.these Q.standing.stands)

      turn : (ps : List Row) → Stands wanted s c ps → Told wanted s d (Some (e, o)) ps
      turn ps S = subst (λ (x : Turn). Told wanted s d x ps) q (T.tells ps (Q.same ps S))

      pub quiet_less : left s e < left s d
      quiet_less = go o here
        where
          go : (x : Option Row) → Told wanted s d (Some (e, x)) Q.standing.these → left s e < left s d
          go (Some p) f = f.4
          go None g = g.1

      pub quiet_found : (p : Row) → o ≡ Some p → Next wanted s c (Some (e, p))
      quiet_found p i =
          record {
            tells =
                λ ps S.
                let f : Told wanted s d (Some (e, Some p)) ps =
                subst (λ (x : Option Row). Told wanted s d (Some (e, x)) ps) i (turn ps S) in
                (f.0, f.1, f.2, f.3, omega (arith, f.4, Q.less), omega (arith, f.5, Q.past));
          }

      pub quiet_on : ((p : Row) → o ≡ Some p → ⊥) → Quiet wanted s c e
      quiet_on h = go o refl
        where
          go : (x : Option Row) → o ≡ x → Quiet wanted s c e
          go (Some p) i = absurd (h p i)
          go None i =
              let g : Told wanted s d (Some (e, None)) Q.standing.these =
              subst (λ (x : Option Row). Told wanted s d (Some (e, x)) Q.standing.these) i here in
              record {
                standing = record { these = Q.standing.these; stands = g.0 };
                same = λ ps S. (subst (λ (x : Option Row). Told wanted s d (Some (e, x)) ps) i (turn ps S)).0;
                less = omega (arith, g.1, Q.less);
                past = omega (arith, g.2, Q.past);
              }

    pub quiet_done : t ≡ None → Next wanted s c None
    quiet_done q = record { tells = λ ps S. subst (λ (x : Turn). Told wanted s d x ps) q (T.tells ps (Q.same ps S)) }

pub ruleset next_laws = (quiet_start, quiet_found, quiet_on, quiet_done)

-- ---- the postings of a month, one after the other

-- n postings were found where the walk stands at c
pub record Passed (s : List ℕ) (y m : ℕ) (c : Cursor) (n : ℕ) : Type 0 where
  pub found : List Row
  pub standing : Standing (dated y m) s c
  pub all : month_postings s y m ≡ found ++ standing.these
  pub held : AllHeld found
  pub count : n ≡ length found
  pub few : n ≤ c.at
  pub small : length s ≤ size_limit

-- and were put into the table t, which was u
pub record Putting (s : List ℕ) (y m : ℕ) (u : List ℕ) (c : Cursor) (n : ℕ) (t : List ℕ) : Type 0 where
  pub passed : Passed s y m c n
  pub table : t ≡ put_records passed.found u

module _ (s : List ℕ) (y m : ℕ) where
  pub pass_start : Accepted s → Passed s y m (outer 0) 0
  unfolding month_postings rows_of
  pass_start A =
      record {
        found = [];
        standing = record { these = postings (dated y m) A.rows; stands = walk_start (dated y m) s A.rows A.reads };
        all = rw A.reads;
        held = tt;
        count = refl;
        few = omega arith;
        small = (plain_reads s A.rows A.reads).0;
      }

  pub put_start : (u : List ℕ) → Accepted s → Putting s y m u (outer 0) 0 u
  unfolding poured pass_start
  put_start u A = record { passed = pass_start A; table = refl }

  module _ (c : Cursor) (n : ℕ) (P : Passed s y m c n) where
    pub pass_room : (length s ≤ size_limit) × Standing (dated y m) s c
    pass_room = (P.small, P.standing)

    module _ (t : Option (Cursor × Row)) (T : Next (dated y m) s c t) where
      told : Follows (dated y m) s c t P.standing.these
      told = T.tells P.standing.these P.standing.stands

      module _ (d : Cursor) (p : Row) (q : t ≡ Some (d, p)) where
        abbrev f : Told (dated y m) s c (Some (d, Some p)) P.standing.these
        f = subst (λ (x : Option (Cursor × Row)). Follows (dated y m) s c x P.standing.these) q told

        pub found_less : left s d < left s c
        found_less = f.4

        pub found_again : Passed s y m d (n + 1)
        found_again =
            record {
              found = P.found ++ p ∷ [];
              standing = record { these = f.0; stands = f.3 };
              all = P.all ∙ ap (λ (x : List Row). P.found ++ x) f.1 ∙ sym (append_assoc P.found (p ∷ []) f.0);
              held = every_append Held P.found (p ∷ []) P.held (f.2, tt);
              count = rw length-append (omega (arith, P.count));
              few = omega (arith, P.few, f.5);
              small = P.small;
            }

        -- the posting is put behind those that were found
        pub found_put : (u v w : List ℕ) → v ≡ put_records P.found u → w ≡ put_records_at n (p ∷ []) v → Putting s y m u d (n + 1) w
        unfolding found_again
        found_put u v w e h =
            record {
              passed = found_again;
              table = h ∙ ap (λ (k : ℕ). put_records_at k (p ∷ []) v) P.count ∙ ap (put_records_at (length P.found) (p ∷ [])) e ∙ sym (poured_append record_width field_bytes length_field_bytes P.found (p ∷ []) u);
            }

      module _ (q : t ≡ None) where
        ended : month_postings s y m ≡ P.found
        ended =
            let h : P.standing.these ≡ [] =
            subst (λ (x : Option (Cursor × Row)). Follows (dated y m) s c x P.standing.these) q told in
            P.all ∙ ap (λ (x : List Row). P.found ++ x) h ∙ append-nil P.found

        pub pass_done : n ≡ length (month_postings s y m)
        pass_done = P.count ∙ ap length (sym ended)

        pub done_few : n ≤ size_limit
        done_few = omega (arith, P.few, P.standing.stands.inside, P.small)

        pub done_held : AllHeld (month_postings s y m)
        done_held = subst AllHeld (sym ended) P.held

        pub done_put : (u v : List ℕ) → v ≡ put_records P.found u → v ≡ put_records (month_postings s y m) u
        done_put u v e = e ∙ ap (λ (x : List Row). put_records x u) (sym ended)

pub ruleset count_laws = (pass_start, pass_room, found_again, pass_done, done_few)

-- ---- the same of those that are put

module _ (s : List ℕ) (y m : ℕ) (u : List ℕ) (c : Cursor) (n : ℕ) (t : List ℕ) (Q : Putting s y m u c n t) where
  pub putting_length : length t ≡ length u
  putting_length = ap length Q.table ∙ length_poured record_width field_bytes length_field_bytes Q.passed.found u

  pub putting_room : (length s ≤ size_limit) × Standing (dated y m) s c
  putting_room = pass_room s y m c n Q.passed

  module _ (r : Option (Cursor × Row)) (T : Next (dated y m) s c r) where
    module _ (d : Cursor) (p : Row) (q : r ≡ Some (d, p)) where
      pub putting_less : left s d < left s c
      putting_less = found_less s y m c n Q.passed r T d p q

      pub putting_again : (w : List ℕ) → w ≡ put_records_at n (p ∷ []) t → Putting s y m u d (n + 1) w
      putting_again w h = found_put s y m c n Q.passed r T d p q u t w Q.table h

    pub putting_done : r ≡ None → t ≡ put_records (month_postings s y m) u
    putting_done q = done_put s y m c n Q.passed r T q u t Q.table

    pub putting_held : r ≡ None → AllHeld (month_postings s y m)
    putting_held q = done_held s y m c n Q.passed r T q

pub ruleset put_laws = (put_start, putting_length, putting_room, putting_again, putting_done, putting_held)
