-- Loops that write the rows of `many f` over a text of n bytes: what is left to do leads to what is asked. A loop that
-- counts its turns has d of them left; one that does not goes on as if it had one more than bytes.
use Rattle.text.specs.declared.stop.Stop.{Stop}
use Rattle.std.specs.Prelude.{Err, Ok}
use Rattle.text.specs.steps.Told.{Reading}
use Rattle.text.specs.declared.stop.Cause.{Cause}
use Prim.Native.Nat.{ℕ, zero, suc, ◌+◌, ◌-◌, ◌≤◌, ◌<◌}
use native.Mathlib.Omega.{arith}
use mathlib.Core.Path.{◌≡◌, refl, sym, ◌∙◌, ap, subst}
use mathlib.Core.List.{List, []}
use lib.ListN.{length}
use Rattle.text.specs.Answer.{To, Miss, Hard, ◌and◌, more, maybe, many}
use Rattle.text.proofs.Joins.{Reach}
use Rattle.text.proofs.Alike.{many_turns}
use Rattle.text.specs.Permitted.{size_limit}
use Rattle.amount.specs.declared.detail.Detail.{Detail}
use Rattle.amount.specs.Details.{Rows}
use Rattle.amount.proofs.RowCounts.{Fits, fits_at}
use Rattle.row.specs.steps.Writing.{Writable, Did}
use Rattle.row.specs.declared.writer.Out.{Out}
use Rattle.row.proofs.OutLaws.{rows_outs}
use Rattle.row.proofs.SureLaws.{sure_more, sure_many}
use Rattle.row.proofs.DidLaws.{did_none, did_more, did_past, maybe_sure, was_read, was_miss, was_hard}

-- a reader for such a loop: it takes a byte at least, makes no more rows than it takes bytes, and misses at the end
pub record Stepping (n : ℕ) (f : ℕ → Rows) : Type 0 where
  pub text : List ℕ
  pub reach : (i : ℕ) → i ≤ n → Reach n (i + 1) (f i)
  pub fits : (i : ℕ) → i ≤ n → Fits text i (f i)
  pub ends : f n ≡ Miss

-- the loop's invariant at place i, where o is held and t is the table: whatever finishes the rest finishes what is
-- asked
pub record Turns (base n : ℕ) (f : ℕ → Rows) (a₀ : Rows) (o₀ : Out) (t₀ : List ℕ) (d i : ℕ) (o : Out) (t : List ℕ) : Type 0 where
  pub lead : (u : List ℕ) (r : Reading Out) → Did base (many f d i) o t u r → Did base a₀ o₀ t₀ u r
  pub inside : i ≤ n
  pub few : o.rows ≤ i
  pub same : length t ≡ length t₀

pub turns_start : (base n : ℕ) (f : ℕ → Rows) (d i : ℕ) (o : Out) (t : List ℕ) → i ≤ n → o.rows ≤ i → Turns base n f (many f d i) o t d i o t
turns_start base n f d i o t h l = record { lead = λ u r y. y; inside = h; few = l; same = refl }

many_is : (n : ℕ) (f : ℕ → Rows) (i : ℕ) → many f (suc n) i ≡ maybe i (f i and many f n)
unfolding many
many_is n f i = refl

and_is : (g : ℕ → Rows) (e : ℕ) (ds : List Detail) → (To e ds and g) ≡ more ds (g e)
unfolding ◌and◌
and_is g e ds = refl

module _ (n : ℕ) (f : ℕ → Rows) (i : ℕ) where
  pub many_miss : f i ≡ Miss → many f (suc n) i ≡ To i []
  unfolding maybe ◌and◌
  many_miss q = many_is n f i ∙ ap (λ (a : Rows). maybe i (a and many f n)) q

  pub many_hard : (k : Cause) (p : ℕ) → f i ≡ Hard k p → many f (suc n) i ≡ Hard k p
  unfolding maybe ◌and◌
  many_hard k p q = many_is n f i ∙ ap (λ (a : Rows). maybe i (a and many f n)) q

  module _ (S : Stepping n f) (h : i ≤ n) (e : ℕ) (ds : List Detail) (q : f i ≡ To e ds) where
    pub many_ends : (i + 1 ≤ e) × (e ≤ n)
    many_ends = (subst (Reach n (i + 1)) q (S.reach i h)).ends

    -- the turns that are left count for nothing
    pub many_on : many f (suc n) i ≡ maybe i (more ds (many f (suc n) e))
    many_on =
        let r = many_ends in
        many_is n f i
        ∙ ap (λ (a : Rows). maybe i (a and many f n)) q
        ∙ ap (maybe i) (and_is (many f n) e ds)
        ∙ ap (λ (a : Rows). maybe i (more ds a)) (many_turns n f S.reach n (suc n) e r.1 (omega arith) (omega arith))

-- a reader that misses is not asked again, whatever turns are left
many_none : (f : ℕ → Rows) (d i : ℕ) → f i ≡ Miss → many f d i ≡ To i []
unfolding many
many_none f zero i q = refl
many_none f (suc d) i q = many_miss d f i q

-- one turn less
many_next : (f : ℕ → Rows) (d i e : ℕ) (ds : List Detail) → 0 < d → f i ≡ To e ds → many f d i ≡ maybe i (more ds (many f (d - 1) e))
many_next f d i e ds h q =
    let z : d ≡ suc (d - 1) = omega arith in
    ap (λ (k : ℕ). many f k i) z ∙ many_is (d - 1) f i ∙ ap (λ (a : Rows). maybe i (a and many f (d - 1))) q ∙ ap (maybe i) (and_is (many f (d - 1)) e ds)

many_halt : (f : ℕ → Rows) (d i : ℕ) (k : Cause) (p : ℕ) → 0 < d → f i ≡ Hard k p → many f d i ≡ Hard k p
many_halt f d i k p h q = let z : d ≡ suc (d - 1) = omega arith in ap (λ (n : ℕ). many f n i) z ∙ many_hard (d - 1) f i k p q

-- ---- a turn: r is what it answered, v the table that it left

module _ (base n : ℕ) (f : ℕ → Rows) (a₀ : Rows) (o₀ : Out) (t₀ : List ℕ) (d i : ℕ) (o : Out) (t : List ℕ) (T : Turns base n f a₀ o₀ t₀ d i o t) where
  -- no turn is left
  pub turns_out : d ≤ 0 → Did base a₀ o₀ t₀ t (Ok (i, o))
  unfolding many
  turns_out h = let z : d ≡ 0 = omega arith in T.lead t (Ok (i, o)) (rw z (did_none base o t i))

  module _ (S : Stepping n f) (v : List ℕ) (r : Reading Out) (D : Did base (f i) o t v r) where
    pub turns_next : (e : ℕ) (m : Out) → r ≡ Ok (e, m) → length v ≡ length t → 0 < d → Turns base n f a₀ o₀ t₀ (d - 1) e m v
    turns_next e m q l h =
        let z = was_read base o t v r (f i) e m D q in
        let ds = z.0 in
        let rest = many f (d - 1) e in
        record {
          lead =
              λ u w y.
              T.lead u w
              (rw (many_next f d i e ds h z.1)
              (maybe_sure base o t u w i (sure_more ds (sure_many f (d - 1) e)) (did_more base o t ds rest m v u w z.2 y)));
          inside = (many_ends n f i S T.inside e ds z.1).1;
          few = omega (arith, T.few, ap (λ (x : Out). x.rows) z.2.0, rows_outs ds o, (fits_at i e ds (f i) (S.fits i T.inside) z.1).1);
          same = l ∙ T.same;
        }

    pub turns_stop : r ≡ (Err Stop.Miss) → Did base a₀ o₀ t₀ v (Ok (i, o))
    turns_stop q = let z = was_miss base o t v r (f i) D q in T.lead v (Ok (i, o)) (rw (many_none f d i z.0) (did_past base (To i []) o t v v (Ok (i, o)) z.1 (did_none base o v i)))

    pub turns_halt : (k : Cause) (p : ℕ) (u : List ℕ) → r ≡ Err (Stop.Hard k p) → 0 < d → Did base a₀ o₀ t₀ u (Err (Stop.Hard k p))
    turns_halt k p u q h = T.lead u (Err (Stop.Hard k p)) (rw (many_halt f d i k p h (was_hard base o t v r (f i) k p D q)) refl)

pub ruleset turns_laws = (turns_out, turns_next, turns_stop, turns_halt)

-- ---- a loop that does not count

abbrev pub Runs : ℕ → ℕ → (ℕ → Rows) → Rows → Out → List ℕ → ℕ → Out → List ℕ → Type 0
Runs base n f a₀ o₀ t₀ i o t = Turns base n f a₀ o₀ t₀ (suc n) i o t

pub runs_start : (base n : ℕ) (f : ℕ → Rows) (i : ℕ) (o : Out) (t : List ℕ) → i ≤ n → o.rows ≤ i → Runs base n f (many f (suc n) i) o t i o t
runs_start base n f i o t h l = turns_start base n f (suc n) i o t h l

module _ (base n : ℕ) (f : ℕ → Rows) (a₀ : Rows) (o₀ : Out) (t₀ : List ℕ) (i : ℕ) (o : Out) (t : List ℕ) (R : Runs base n f a₀ o₀ t₀ i o t) where
  -- there is room for a turn's rows
  pub runs_room : base ≤ size_limit → n ≤ size_limit → Writable 1 base o
  runs_room h l = (h, omega (arith, R.few, R.inside))

  pub runs_done : Stepping n f → n ≤ i → Did base a₀ o₀ t₀ t (Ok (i, o))
  runs_done S h =
      let e : i ≡ n = omega (arith, R.inside) in
      R.lead t (Ok (i, o)) (rw (many_none f (suc n) i (ap f e ∙ S.ends)) (did_none base o t i))

  module _ (S : Stepping n f) (v : List ℕ) (r : Reading Out) (D : Did base (f i) o t v r) where
    pub runs_less : (e : ℕ) (m : Out) → r ≡ Ok (e, m) → n - e < n - i
    runs_less e m q = let z = was_read base o t v r (f i) e m D q in omega (arith, many_ends n f i S R.inside e z.0 z.1)

    pub runs_turn : (e : ℕ) (m : Out) → r ≡ Ok (e, m) → length v ≡ length t → Runs base n f a₀ o₀ t₀ e m v
    runs_turn e m q l =
        let k : suc n - 1 ≡ n = omega arith in
        let N = turns_next base n f a₀ o₀ t₀ (suc n) i o t R S v r D e m q l (omega arith) in
        let z = was_read base o t v r (f i) e m D q in
        let b = many_ends n f i S R.inside e z.0 z.1 in
        let same-turns : many f (suc n - 1) e ≡ many f (suc n) e =
        ap (λ (d : ℕ). many f d e) k ∙ many_turns n f S.reach n (suc n) e b.1 (omega (arith, b)) (omega (arith, b)) in
        record { lead = λ u w y. N.lead u w (subst (λ (a : Rows). Did base a m v u w) (sym same-turns) y); inside = N.inside; few = N.few; same = N.same }

    pub runs_stop : r ≡ (Err Stop.Miss) → Did base a₀ o₀ t₀ v (Ok (i, o))
    runs_stop q = turns_stop base n f a₀ o₀ t₀ (suc n) i o t R S v r D q

    pub runs_halt : (k : Cause) (p : ℕ) (u : List ℕ) → r ≡ Err (Stop.Hard k p) → Did base a₀ o₀ t₀ u (Err (Stop.Hard k p))
    runs_halt k p u q = turns_halt base n f a₀ o₀ t₀ (suc n) i o t R S v r D k p u q (omega arith)

pub ruleset runs_laws = (runs_room, runs_done, runs_less, runs_turn, runs_stop, runs_halt)
