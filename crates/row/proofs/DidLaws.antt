-- Laws by which code that writes rows follows the joins of readers. The code's answers are r and q, and u and v the
-- tables after them.
use Rattle.text.proofs.TestLaws.{ok_pair}
use Rattle.text.specs.steps.Told.{Reading}
use Rattle.text.specs.declared.stop.Stop.{Stop}
use Rattle.std.specs.Prelude.{Err, Ok}
use Rattle.text.specs.declared.stop.Cause.{Cause}
use Prim.Native.Nat.{ℕ}
use native.Mathlib.Omega.{arith}
use mathlib.Core.Path.{◌≡◌, refl, ◌∙◌, ap, sym, subst}
use mathlib.Core.List.{List, [], ◌∷◌, ◌++◌, map}
use Rattle.text.specs.Answer.{To, Miss, Hard, must, ◌else◌, more, ◌and◌, maybe}
use Rattle.amount.specs.Details.{Rows}
use Rattle.amount.specs.declared.detail.Detail.{Detail}
use Rattle.row.specs.steps.Pouring.{pour_at}
use Rattle.row.specs.steps.Writing.{laid, noted, outs, Poured, Did}
use Rattle.row.specs.declared.writer.Out.{Out}
use Rattle.row.proofs.OutLaws.{Wrote, wrote_none, wrote_one, Written, written, written_then, poured_none, poured_drop, poured_past}
use Rattle.row.proofs.SureLaws.{Sure, sure_to, sure_hard, sures}

-- ---- what is known of an answer

abbrev ok_at : ℕ → Out → Reading Out
ok_at e m = Ok (e, m)

module _ (base : ℕ) (o : Out) (t : List ℕ) where
  pub did_read : (a : Rows) (e : ℕ) (ds : List Detail) (m : Out) (u : List ℕ) → a ≡ To e ds → Wrote base o t ds m u
      → Did base a o t u (Ok (e, m))
  did_read a e ds m u q w = rw q (ap (λ (z : Out). ok_at e z) w.0, (written base o t ds m u w).1)

  pub did_miss : (a : Rows) → a ≡ Miss → Did base a o t t (Err Stop.Miss)
  did_miss a q = rw q (refl, poured_none o.rows t)

  pub did_hard : (a : Rows) (k : Cause) (p : ℕ) (u : List ℕ) → a ≡ Hard k p → Did base a o t u (Err (Stop.Hard k p))
  did_hard a k p u q = rw q refl

  -- nothing is read and nothing written
  pub did_none : (e : ℕ) → Did base (To e []) o t t (Ok (e, o))
  did_none e = did_read (To e []) e [] o t refl (wrote_none base o t)

  -- one detail x is written
  pub did_emit : (e : ℕ) (d x : Detail) (m : Out) (u : List ℕ) → m ≡ noted o x → u ≡ pour_at o.rows (laid base x ∷ []) t → x ≡ d
      → Did base (To e (d ∷ [])) o t u (Ok (e, m))
  did_emit e d x m u p q w = did_read (To e (d ∷ [])) e (d ∷ []) m u refl (rw (← w) (wrote_one base o t x m u p q))

-- the table before rows that were dropped will do as well
pub did_past : (base : ℕ) (a : Rows) (o : Out) (t v u : List ℕ) (r : Reading Out) → Poured o.rows [] t v → Did base a o v u r → Did base a o t u r
did_past base (To e ds) o t v u r w d = (d.0, poured_past o.rows (map (laid base) ds) t v u w d.1)
did_past base Miss o t v u r w d = (d.0, poured_past o.rows [] t v u w d.1)
did_past base (Hard k p) o t v u r w d = d

-- what follows no detail is as it is
pub did_bare : (base : ℕ) (a : Rows) (o : Out) (t u : List ℕ) (q : Reading Out) → Did base a o t u q → Did base (more [] a) o t u q
unfolding more
did_bare base (To e ds) o t u q d = d
did_bare base Miss o t u q d = d
did_bare base (Hard k p) o t u q d = d

-- details are written, and then what follows them
pub did_more : (base : ℕ) (o : Out) (t : List ℕ) (xs : List Detail) (a : Rows) (m : Out) (v u : List ℕ) (q : Reading Out)
    → Written base o t xs m v → Did base a m v u q → Did base (more xs a) o t u q
unfolding more outs
did_more base o t xs (To e ds) m v u q w d =
    let z = written_then base o t xs ds m (outs m ds) v u w (refl, d.1) in
    (d.0 ∙ ap (λ (z : Out). ok_at e z) z.0, z.1)
did_more base o t xs Miss m v u q w d =
    let z = written_then base o t xs [] m m v u w (refl, d.1) in
    (d.0, poured_drop o.rows (map (laid base) (xs ++ [])) t u z.1)
did_more base o t xs (Hard k p) m v u q w d = d

-- an answer that is no miss, where it may be missing
pub maybe_sure : (base : ℕ) (o : Out) (t u : List ℕ) (q : Reading Out) (i : ℕ) {a : Rows} → Sure a → Did base a o t u q
    → Did base (maybe i a) o t u q
unfolding maybe
maybe_sure base o t u q i sure_to d = d
maybe_sure base o t u q i sure_hard d = d

-- ---- what the code's answer r to a tells of a

module _ (base : ℕ) (o : Out) (t v : List ℕ) (r : Reading Out) where
  pub was_read : (a : Rows) (e : ℕ) (m : Out) → Did base a o t v r → r ≡ Ok (e, m)
      → (ds : List Detail) × (a ≡ To e ds) × Written base o t ds m v
  was_read (To f ds) e m d h = let i = ok_pair (sym d.0 ∙ h) in (ds, ap (λ (n : ℕ). To n ds) i.0, (sym i.1, d.1))
  was_read Miss e m d h = absurd (let z : ◌≡◌ {A = ℕ} 0 1 = cc in omega arith)
  was_read (Hard k p) e m d h = absurd (let z : ◌≡◌ {A = ℕ} 0 1 = cc in omega arith)

  pub was_miss : (a : Rows) → Did base a o t v r → r ≡ (Err Stop.Miss) → (a ≡ Miss) × Poured o.rows [] t v
  was_miss (To f ds) d h = absurd (let z : ◌≡◌ {A = ℕ} 0 1 = cc in omega arith)
  was_miss Miss d h = (refl, d.1)
  was_miss (Hard k p) d h = absurd (let z : ◌≡◌ {A = ℕ} 0 1 = cc in omega arith)

  pub was_hard : (a : Rows) (k : Cause) (p : ℕ) → Did base a o t v r → r ≡ Err (Stop.Hard k p) → a ≡ Hard k p
  was_hard (To f ds) k p d h = absurd (let z : ◌≡◌ {A = ℕ} 0 1 = cc in omega arith)
  was_hard Miss k p d h = absurd (let z : ◌≡◌ {A = ℕ} 0 1 = cc in omega arith)
  was_hard (Hard m n) k p d h = cc

  -- ---- a, and then g

  module _ (a : Rows) (g : ℕ → Rows) (d : Did base a o t v r) where
    pub and_read : (e : ℕ) (m : Out) (u : List ℕ) (q : Reading Out) → r ≡ Ok (e, m) → Did base (g e) m v u q
        → Did base (a and g) o t u q
    unfolding ◌and◌
    and_read e m u q h k = let z = was_read a e m d h in rw z.1 (did_more base o t z.0 (g e) m v u q z.2 k)

    pub and_miss : r ≡ (Err Stop.Miss) → Did base (a and g) o t v (Err Stop.Miss)
    unfolding ◌and◌
    and_miss h = let z = was_miss a d h in rw z.0 (refl, z.1)

    pub and_hard : (k : Cause) (p : ℕ) (u : List ℕ) → r ≡ Err (Stop.Hard k p) → Did base (a and g) o t u (Err (Stop.Hard k p))
    unfolding ◌and◌
    and_hard k p u h = rw (was_hard a k p d h) refl

    pub and_stop : (stop : Stop) → r ≡ Err stop → Did base (a and g) o t v (Err stop)
    and_stop Stop.Miss h = and_miss h
    and_stop (Stop.Hard k p) h = and_hard k p v h

  -- ---- a, or else b on the same table

  module _ (a b : Rows) (d : Did base a o t v r) where
    pub else_read : (e : ℕ) (m : Out) → r ≡ Ok (e, m) → Did base (a else b) o t v (Ok (e, m))
    unfolding ◌else◌
    else_read e m h = let z = was_read a e m d h in rw z.1 (ap (λ (z : Out). ok_at e z) z.2.0, z.2.1)

    pub else_kept : (x : ℕ × Out) → r ≡ Ok x → Did base (a else b) o t v r
    else_kept (e, m) h = subst (λ (z : Reading Out). Did base (a else b) o t v z) (sym h) (else_read e m h)

    pub else_miss : (u : List ℕ) (q : Reading Out) → r ≡ (Err Stop.Miss) → Did base b o v u q → Did base (a else b) o t u q
    unfolding ◌else◌
    else_miss u q h k = let z = was_miss a d h in rw z.0 (did_past base b o t v u q z.1 k)

    pub else_hard : (k : Cause) (p : ℕ) (u : List ℕ) → r ≡ Err (Stop.Hard k p) → Did base (a else b) o t u (Err (Stop.Hard k p))
    unfolding ◌else◌
    else_hard k p u h = rw (was_hard a k p d h) refl

  -- ---- a where it is there, or where it must be

  module _ (i : ℕ) (a : Rows) (d : Did base a o t v r) where
    pub maybe_read : (e : ℕ) (m : Out) → r ≡ Ok (e, m) → Did base (maybe i a) o t v (Ok (e, m))
    unfolding maybe
    maybe_read e m h = let z = was_read a e m d h in rw z.1 (ap (λ (z : Out). ok_at e z) z.2.0, z.2.1)

    pub maybe_kept : (x : ℕ × Out) → r ≡ Ok x → Did base (maybe i a) o t v r
    maybe_kept (e, m) h = subst (λ (z : Reading Out). Did base (maybe i a) o t v z) (sym h) (maybe_read e m h)

    pub maybe_miss : r ≡ (Err Stop.Miss) → Did base (maybe i a) o t v (Ok (i, o))
    unfolding maybe
    maybe_miss h = let z = was_miss a d h in rw z.0 (did_past base (To i []) o t v v (Ok (i, o)) z.1 (did_none base o v i))

    pub maybe_hard : (k : Cause) (p : ℕ) (u : List ℕ) → r ≡ Err (Stop.Hard k p) → Did base (maybe i a) o t u (Err (Stop.Hard k p))
    unfolding maybe
    maybe_hard k p u h = rw (was_hard a k p d h) refl

    pub must_read : (n : Cause) (e : ℕ) (m : Out) → r ≡ Ok (e, m) → Did base (must n i a) o t v (Ok (e, m))
    unfolding must
    must_read n e m h = let z = was_read a e m d h in rw z.1 (ap (λ (z : Out). ok_at e z) z.2.0, z.2.1)

    pub must_miss : (n : Cause) (u : List ℕ) → r ≡ (Err Stop.Miss) → Did base (must n i a) o t u (Err (Stop.Hard n i))
    unfolding must
    must_miss n u h = rw (was_miss a d h).0 refl

    pub must_hard : (n : Cause) (k : Cause) (p : ℕ) (u : List ℕ) → r ≡ Err (Stop.Hard k p) → Did base (must n i a) o t u (Err (Stop.Hard k p))
    unfolding must
    must_hard n k p u h = rw (was_hard a k p d h) refl

-- ---- the same, and then g

module _ (base : ℕ) (o : Out) (t v : List ℕ) (r : Reading Out) (i : ℕ) (a : Rows) (g : ℕ → Rows) (d : Did base a o t v r) where
  pub maybe_and_read : (e : ℕ) (m : Out) (u : List ℕ) (q : Reading Out) → r ≡ Ok (e, m) → Did base (g e) m v u q
      → Did base (maybe i a and g) o t u q
  maybe_and_read e m u q h = and_read base o t v (Ok (e, m)) (maybe i a) g (maybe_read base o t v r i a d e m h) e m u q refl

  pub maybe_and_miss : (u : List ℕ) (q : Reading Out) → r ≡ (Err Stop.Miss) → Did base (g i) o v u q → Did base (maybe i a and g) o t u q
  unfolding maybe ◌and◌
  maybe_and_miss u q h k = let z = was_miss base o t v r a d h in rw z.0 (did_past base (more [] (g i)) o t v u q z.1 (did_bare base (g i) o v u q k))

  pub maybe_and_hard : (k : Cause) (p : ℕ) (u : List ℕ) → r ≡ Err (Stop.Hard k p) → Did base (maybe i a and g) o t u (Err (Stop.Hard k p))
  maybe_and_hard k p u h = and_hard base o t v (Err (Stop.Hard k p)) (maybe i a) g (maybe_hard base o t v r i a d k p v h) k p u refl

  pub must_and_read : (n : Cause) (e : ℕ) (m : Out) (u : List ℕ) (q : Reading Out) → r ≡ Ok (e, m) → Did base (g e) m v u q
      → Did base (must n i a and g) o t u q
  must_and_read n e m u q h = and_read base o t v (Ok (e, m)) (must n i a) g (must_read base o t v r i a d n e m h) e m u q refl

  pub must_and_miss : (n : Cause) (u : List ℕ) → r ≡ (Err Stop.Miss) → Did base (must n i a and g) o t u (Err (Stop.Hard n i))
  must_and_miss n u h = and_hard base o t v (Err (Stop.Hard n i)) (must n i a) g (must_miss base o t v r i a d n v h) n i u refl

  pub must_and_hard : (n : Cause) (k : Cause) (p : ℕ) (u : List ℕ) → r ≡ Err (Stop.Hard k p) → Did base (must n i a and g) o t u (Err (Stop.Hard k p))
  must_and_hard n k p u h = and_hard base o t v (Err (Stop.Hard k p)) (must n i a) g (must_hard base o t v r i a d n k p v h) k p u refl

pub ruleset joins = (
  sures,
  did_none,
  did_emit,
  and_read,
  and_miss,
  and_hard,
  else_read,
  else_miss,
  else_hard,
  maybe_read,
  maybe_miss,
  maybe_hard,
  must_read,
  must_miss,
  must_hard,
  maybe_and_read,
  maybe_and_miss,
  maybe_and_hard,
  must_and_read,
  must_and_miss,
  must_and_hard,
)
