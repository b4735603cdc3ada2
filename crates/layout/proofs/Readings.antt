-- Readings as items: what a reader gives at a place, what it leaves, and how readers join, both ways.
use Rattle.text.specs.declared.stop.Cause.{Cause}
use Rattle.std.specs.Prelude.{Option, Some, Ok}
use Prim.Native.Nat.{ℕ, zero, suc, ◌<◌}
use native.Mathlib.Omega.{arith}
use mathlib.Core.Path.{◌≡◌, refl, ◌∙◌, ap, subst, sym}
use mathlib.Core.Bool.{true, false}
use mathlib.Core.List.{List, [], ◌∷◌, ◌++◌, map}
use mathlib.Core.Logic.{◌⊎◌, inl, inr}
use lib.ListN.{length}
use Rattle.decimal.specs.Exact.{twos_of}
use Rattle.decimal.specs.declared.Decimal.{Decimal}
use Rattle.text.specs.Answer.{Ans, To, Miss, ◌then◌, ◌and◌, ◌else◌, more, must, maybe, many}
use Rattle.text.specs.Leaves.{token}
use Rattle.text.proofs.Ats.{At}
use Rattle.text.proofs.Inversions.{maybe_inv}
use Rattle.text.specs.Every.{Every}
use Rattle.text.proofs.EveryLaws.{every_append}
use Rattle.amount.specs.Details.{Rows, span}
use Rattle.text.specs.Bytes.{between}
use Rattle.amount.specs.declared.detail.Detail.{Detail}
use Rattle.row.specs.Details.{spanned, millionths}
use Rattle.layout.specs.Meaning.{Item, texted, naming, item_for}

-- ---- items of details

abbrev pub item_d : List ℕ → Detail → Item
item_d s d = item_for s d.kind d.start d.end d.p d.q (twos_of (millionths d.value))

abbrev pub items : List ℕ → List Detail → List Item
items s ds = map (item_d s) ds

pub items_append : (s : List ℕ) (xs ys : List Detail) → items s (xs ++ ys) ≡ items s xs ++ items s ys
items_append s [] ys = refl
items_append s (x ∷ xs) ys = ap (λ z. item_d s x ∷ z) (items_append s xs ys)

-- a value that is no refusal
abbrev pub Fine : Detail → Type 0
Fine d = (x : Decimal) × (d.value ≡ Ok x)

-- an item that is a text
abbrev pub text_item : ℕ → List ℕ → Item
text_item k w = record { kind = k; text = w; other = []; number = 0; bits = 0 }

-- ---- a reading

pub record Reads (s : List ℕ) (a : Rows) (ms : List Item) (t : List ℕ) : Type 0 where
  pub to : ℕ
  pub rows : List Detail
  pub eq : a ≡ To to rows
  pub rest : At s to t
  pub same : items s rows ≡ ms
  pub fine : Every Fine rows

module _ {s : List ℕ} where
  pub none_reads : {j : ℕ} {t : List ℕ} {a : Rows} → a ≡ To j [] → At s j t → Reads s a [] t
  none_reads {j} e A = record { to = j; rows = []; eq = e; rest = A; same = refl; fine = tt }

  pub token_reads : {j : ℕ} {t : List ℕ} {r : Option ℕ} → r ≡ Some j → At s j t → Reads s (token r) [] t
  unfolding token
  token_reads {j} e A = record { to = j; rows = []; eq = ap token e; rest = A; same = refl; fine = tt }

  pub row_reads : {j : ℕ} {t : List ℕ} {d : Detail} {m : Item} → item_d s d ≡ m → Fine d → At s j t → Reads s (To j (d ∷ [])) (m ∷ []) t
  row_reads {j} {t} {d} e f A = record { to = j; rows = d ∷ []; eq = refl; rest = A; same = ap (λ z. z ∷ []) e; fine = (f, tt) }

  pub must_reads : (n : Cause) (i : ℕ) {a : Rows} {ms : List Item} {t : List ℕ} → Reads s a ms t → Reads s (must n i a) ms t
  unfolding must
  must_reads n i R = record { to = R.to; rows = R.rows; eq = rw R.eq; rest = R.rest; same = R.same; fine = R.fine }

  pub maybe_reads : (i : ℕ) {a : Rows} {ms : List Item} {t : List ℕ} → Reads s a ms t → Reads s (maybe i a) ms t
  unfolding maybe
  maybe_reads i R = record { to = R.to; rows = R.rows; eq = rw R.eq; rest = R.rest; same = R.same; fine = R.fine }

  pub maybe_none : {i : ℕ} {a : Rows} {t : List ℕ} → a ≡ Miss → At s i t → Reads s (maybe i a) [] t
  unfolding maybe
  maybe_none {i} e A = record { to = i; rows = []; eq = rw e; rest = A; same = refl; fine = tt }

  pub first_reads : {a : Rows} (b : Rows) {ms : List Item} {t : List ℕ} → Reads s a ms t → Reads s (a else b) ms t
  unfolding ◌else◌
  first_reads b R = record { to = R.to; rows = R.rows; eq = rw R.eq; rest = R.rest; same = R.same; fine = R.fine }

  pub second_reads : {a b : Rows} {ms : List Item} {t : List ℕ} → a ≡ Miss → Reads s b ms t → Reads s (a else b) ms t
  unfolding ◌else◌
  second_reads e R = record { to = R.to; rows = R.rows; eq = rw e R.eq; rest = R.rest; same = R.same; fine = R.fine }

  pub and_reads : {a : Rows} {g : ℕ → Rows} (ms ns : List Item) {t u : List ℕ} → Reads s a ms t → ((j : ℕ) → At s j t → Reads s (g j) ns u) → Reads s (a and g) (ms ++ ns) u
  unfolding ◌and◌ more
  and_reads ms ns R f =
      let Q = f R.to R.rest in
      record {
        to = Q.to;
        rows = R.rows ++ Q.rows;
        eq = rw (R.eq, Q.eq);
        rest = Q.rest;
        same = items_append s R.rows Q.rows ∙ ap (λ z. z ++ items s Q.rows) R.same ∙ ap (λ z. ms ++ z) Q.same;
        fine = every_append Fine R.rows Q.rows R.fine Q.fine;
      }

  -- a token in front makes no rows
  pub skip_reads : {a : Rows} {g : ℕ → Rows} {ns : List Item} {t u : List ℕ} → Reads s a [] t → ((j : ℕ) → At s j t → Reads s (g j) ns u) → Reads s (a and g) ns u
  skip_reads {a} {g} {ns} R f = and_reads [] ns R f

  -- a value is handed on
  pub then_reads : {A : Type 0} {a : Ans A} (g : ℕ → A → Rows) {j : ℕ} {x : A} {ns : List Item} {u : List ℕ} → a ≡ To j x → Reads s (g j x) ns u → Reads s (a then g) ns u
  unfolding ◌then◌
  then_reads g e R = record { to = R.to; rows = R.rows; eq = rw e R.eq; rest = R.rest; same = R.same; fine = R.fine }

-- ---- turns of a loop

pub data Loop (s : List ℕ) (f : ℕ → Rows) (post : List ℕ) : List Item → List ℕ → Type 0 where
  done : ((i : ℕ) → At s i post → f i ≡ Miss) → Loop s f post [] post
  turn : {ms ns : List Item} {t u : List ℕ} → ((i : ℕ) → At s i t → Reads s (f i) ms u) → length u < length t → Loop s f post ns u → Loop s f post (ms ++ ns) t

pub loop_reads : {s : List ℕ} {f : ℕ → Rows} {post : List ℕ} {ms : List Item} {t : List ℕ} → Loop s f post ms t → (d i : ℕ) → length t < d → At s i t → Reads s (many f d i) ms post
unfolding many ◌and◌
loop_reads L zero i h A = absurd (omega arith)
loop_reads (done m) (suc d) i h A = maybe_none (rw (m i A)) A
loop_reads {s} {f} {post} (turn {ms = ms} {ns = ns} g l L) (suc d) i h A = maybe_reads i (and_reads ms ns (g i A) (λ j B. loop_reads L d j (omega arith) B))

-- what a reading left, and its items
pub record There (s : List ℕ) (j : ℕ) (rs : List Detail) (P : List Item → Type 0) : Type 0 where
  pub rest : List ℕ
  pub place : At s j rest
  pub is : P (items s rs)

pub there_map : {s : List ℕ} {j : ℕ} {rs : List Detail} {P Q : List Item → Type 0} → ((ms : List Item) → P ms → Q ms) → There s j rs P → There s j rs Q
there_map {s} {j} {rs} f T = record { rest = T.rest; place = T.place; is = f (items s rs) T.is }

-- what may be missing
pub maybe_was : {s t : List ℕ} (G : List Item → Type 0) (i j : ℕ) (a : Rows) (rs : List Detail) → G [] → At s i t → maybe i a ≡ To j rs → (a ≡ To j rs → There s j rs G) → There s j rs G
maybe_was {s} {t} G i j a rs none A h f = go (maybe_inv i a j rs h)
  where
    go : (a ≡ To j rs) ⊎ ((a ≡ Miss) × (j ≡ i) × (rs ≡ [])) → There s j rs G
    go (inl h) = f h
    go (inr h) = record { rest = t; place = subst (λ z. At s z t) (sym h.1) A; is = subst (λ z. G (items s z)) (sym h.2) none }

-- ---- rows that are texts

abbrev pub TextKind : ℕ → Type 0
TextKind k = (texted k ≡ true) × (spanned k ≡ false)

module _ (s : List ℕ) where
  pub span_item : (k a e : ℕ) → TextKind k → item_d s (span k a e) ≡ text_item k (between s a e)
  unfolding naming millionths twos_of
  span_item k a e K = rw (K.0, K.1)

  pub span_fine : (k a e : ℕ) → Fine (span k a e)
  span_fine k a e = (record { minus = false; size = 0 }, refl)
