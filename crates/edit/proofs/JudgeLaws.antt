-- What is refused before 9, and what is known where nothing is.
use Rattle.text.specs.declared.stop.Refused.{Refused}
use Rattle.text.specs.Refusals.{refused_with}
use Rattle.std.specs.Prelude.{Err, Ok, Result}
use Prim.Native.Nat.{ℕ, ◌+◌, ◌*◌, ◌-◌, ◌≤◌, ◌<◌}
use native.Mathlib.Omega.{arith}
use mathlib.Core.Path.{◌≡◌, refl, sym, ◌∙◌, ap}
use mathlib.Core.Bool.{Bool, true, false, cond, ◌||◌, ◌&&◌}
use mathlib.Core.List.{List}
use borrow.Author.Tests.{le-leb, lt-leb, leb-true, ltb-false, le-ltb, lt-ltb}
use lib.Dec.{ltb, leb}
use lib.ListN.{length}
use Rattle.text.specs.Permitted.{size_limit}
use Rattle.row.specs.Row.{width, rows_in, room}
use Rattle.ledger.specs.Plain.{Reading, accepted, denied}
use Rattle.ledger.specs.Answers.{answer, left}
use Rattle.edit.specs.Edits.{is_block, is_new, grows, edit_rows, editing}
use Rattle.edit.specs.steps.Moving.{Within, allowed}
use Rattle.edit.proofs.BlockTests.{block_bounds}

-- ---- the size of the new ledger

module _ (s : List ℕ) (a e : ℕ) (y : List ℕ) where
  pub large_turned : e < a → false ≡ grows s a e y
  unfolding grows
  large_turned h = rw (lt-leb a e h)

  pub large_past : a ≤ e → length s < e → false ≡ grows s a e y
  unfolding grows
  large_past h l = rw (le-leb a e h, lt-leb e (length s) l)

  pub large_test : a ≤ e → e ≤ length s → ltb size_limit (length s - (e - a) + length y) ≡ grows s a e y
  unfolding grows
  large_test h l = rw (le-leb a e h, le-leb e (length s) l)

pub ruleset large_laws = (large_turned, large_past, large_test)

-- ---- the refusals before 9

module _ (s t : List ℕ) (k a e : ℕ) (y : List ℕ) where
  pub refuse_old : (x : Refused) → size_limit < length s → x ≡ refused_with 1 0 0 → Err x ≡ allowed s t k a e y
  unfolding allowed
  refuse_old x h p = rw (p, lt-ltb size_limit (length s) h)

  module _ (h : length s ≤ size_limit) (g : Bool) (eg : g ≡ grows s a e y) where
    pub refuse_new : (x : Refused) → g ≡ true → x ≡ refused_with 1 0 0 → Err x ≡ allowed s t k a e y
    unfolding allowed
    refuse_new x z p = rw (p, le-ltb size_limit (length s) h, ← eg, z)

    module _ (z : g ≡ false) (b : Bool) (eb : b ≡ is_block s a e) where
      pub refuse_block : (x : Refused) → b ≡ false → x ≡ refused_with 10 0 0 → Err x ≡ allowed s t k a e y
      unfolding allowed
      refuse_block x w p = rw (p, le-ltb size_limit (length s) h, ← eg, z, ← eb, w)

      pub refuse_count : (x : Refused) → b ≡ true → room t < k → x ≡ refused_with 10 0 0 → Err x ≡ allowed s t k a e y
      unfolding allowed
      refuse_count x w l p = rw (p, le-ltb size_limit (length s) h, ← eg, z, ← eb, w, lt-leb k (room t) l)

      module _ (w : b ≡ true) (l : k ≤ room t) (n : Bool) (en : n ≡ is_new s a e y) where
        pub refuse_bytes : (x : Refused) → n ≡ false → x ≡ refused_with 10 0 0 → Err x ≡ allowed s t k a e y
        unfolding allowed
        refuse_bytes x v p = rw (p, le-ltb size_limit (length s) h, ← eg, z, ← eb, w, le-leb k (room t) l, ← en, v)

        pub refuse_none : n ≡ true → Ok tt ≡ allowed s t k a e y
        unfolding allowed
        refuse_none v = rw (le-ltb size_limit (length s) h, ← eg, z, ← eb, w, le-leb k (room t) l, ← en, v)

pub ruleset refuse_laws = (refuse_old, refuse_new, refuse_block, refuse_count, refuse_bytes, refuse_none)

-- ---- what is known where nothing is refused

pub record Good (s t : List ℕ) (k a e : ℕ) (y : List ℕ) : Type 0 where
  pub within : Within s a e y
  pub count : k * width ≤ length t
  pub rows : editing s t k a e y ≡ accepted (edit_rows s a e y (rows_in k t))

abbrev stopped : Refused → Result ℕ Refused
stopped x = Err x

module _ (s t : List ℕ) (k a e : ℕ) (y : List ℕ) where
  small_new : a ≤ e → e ≤ length s → grows s a e y ≡ false → length y ≤ size_limit
  unfolding grows
  small_new h l z = omega (arith, ltb-false size_limit (length s - (e - a) + length y) (rw (le-leb a e h, le-leb e (length s) l) at z))

  given : ltb size_limit (length s) ≡ false → grows s a e y ≡ false → is_block s a e ≡ true → leb k (room t) ≡ true → is_new s a e y ≡ true
      → editing s t k a e y ≡ accepted (edit_rows s a e y (rows_in k t))
  unfolding editing
  given o g b c n = rw (o, g, b, c, n)

  pub good_from : (f : Result Unit Refused) → f ≡ allowed s t k a e y → f ≡ Ok tt → Good s t k a e y
  unfolding allowed
  good_from f ef z =
      go (ltb size_limit (length s)) refl (grows s a e y) refl (is_block s a e) refl (leb k (room t)) refl (is_new s a e y) refl (sym ef ∙ z)
    where
      go : (o : Bool) → ltb size_limit (length s) ≡ o → (g : Bool) → grows s a e y ≡ g → (b : Bool) → is_block s a e ≡ b → (c : Bool) → leb k (room t) ≡ c
          → (n : Bool) → is_new s a e y ≡ n → ◌≡◌ {A = Result Unit Refused} (cond (o || g) (Err (refused_with 1 0 0)) (cond (b && (c && n)) (Ok tt) (Err (refused_with 10 0 0)))) (Ok tt) → Good s t k a e y
      go true eo g eg b eb c ec n en q = cc
      go false eo true eg b eb c ec n en q = cc
      go false eo false eg false eb c ec n en q = cc
      go false eo false eg true eb false ec n en q = cc
      go false eo false eg true eb true ec false en q = cc
      go false eo false eg true eb true ec true en q =
          let w = block_bounds s a e eb in
          record {
            within = record { first = w.0; inside = w.1; size = ltb-false size_limit (length s) eo; new = small_new w.0 w.1 eg };
            count = omega (arith, leb-true k (room t) ec);
            rows = given eo eg eb ec en;
          }

  bad_from_lem : (f : Result Unit Refused) (x : Refused) → f ≡ allowed s t k a e y → f ≡ Err x
      → (editing s t k a e y ≡ denied x.number x.place) × (x ≡ refused_with x.number x.place 0)
  unfolding allowed editing
  bad_from_lem f x ef z =
      go (ltb size_limit (length s) || grows s a e y) (is_block s a e && (leb k (room t) && is_new s a e y)) (accepted (edit_rows s a e y (rows_in k t))) (sym z ∙ ef)
    where
      by : (n : ℕ) → x ≡ refused_with n 0 0 → (◌≡◌ {A = Reading} (denied n 0) (denied x.number x.place)) × (x ≡ refused_with x.number x.place 0)
      by n q =
          let i : x.number ≡ n = ap (λ (r : Refused). r.number) q in
          let j : x.place ≡ 0 = ap (λ (r : Refused). r.place) q in
          (rw (i, j) refl, q ∙ rw (i, j) refl)

      go : (o b : Bool) (w : Reading) → ◌≡◌ {A = Result Unit Refused} (Err x) (cond o (Err (refused_with 1 0 0)) (cond b (Ok tt) (Err (refused_with 10 0 0))))
          → (cond o (denied 1 0) (cond b w (denied 10 0)) ≡ denied x.number x.place) × (x ≡ refused_with x.number x.place 0)
      go true b w q = let z : x ≡ refused_with 1 0 0 = cc in by 1 z
      go false true w q = cc
      go false false w q = let z : x ≡ refused_with 10 0 0 = cc in by 10 z

  module _ (f : Result Unit Refused) (ef : f ≡ allowed s t k a e y) (x : Refused) (z : f ≡ Err x) where
    pub bad_answer : (room : ℕ) → Err x ≡ answer (editing s t k a e y) room
    unfolding answer
    bad_answer room = let b = bad_from_lem f x ef z in rw b.0 (ap (λ (y : Refused). stopped y) b.1)

    pub bad_left : (b : List ℕ) → b ≡ left (editing s t k a e y) b
    unfolding left
    bad_left b = rw (bad_from_lem f x ef z).0
