-- The call: the rows in the working space are those of plain reading.
use Rattle.text.specs.Refusals.{refused_with}
use Rattle.text.specs.declared.stop.Refused.{Refused}
use Rattle.std.specs.Prelude.{Err, Ok, Result}
use Prim.Native.Nat.{ℕ, ◌*◌, ◌≤◌, ◌<◌, min}
use native.Mathlib.Omega.{arith}
use mathlib.Core.Path.{◌≡◌, refl, sym, ◌∙◌, ap, subst}
use mathlib.Core.Bool.{Bool, true, false, cond}
use mathlib.Core.List.{List, [], ◌∷◌, ◌++◌, map}
use borrow.Author.Tests.{le-leb, lt-leb, leb-true, leb-false}
use lib.Dec.{leb}
use lib.ListN.{length, drop, length-append}
use lib.Seq.{drop_at}
use mir.Syntax.{w64}
use mir.Val.{Fits}
use Rattle.decimal.specs.Exact.{largest}
use Rattle.text.specs.Permitted.{size_limit}
use Rattle.text.specs.Every.{Every}
use Rattle.row.specs.declared.table.Row.{Row}
use Rattle.row.specs.Row.{rows_bytes, rows_in, room, width}
use Rattle.row.specs.Work.{cleared}
use Rattle.row.proofs.ReadBack.{wrapped, row_in_lem, held_back, rows_front}
use Rattle.row.proofs.PourLaws.{length_rows_bytes}
use Rattle.ledger.specs.Plain.{Reading, accepted, denied, plain}
use Rattle.ledger.specs.Answers.{answer, left}
use Rattle.ledger.specs.steps.Scan.{scanned}
use Rattle.ledger.proofs.PlainLaws.{Accepts, Kept, read_kept}
use Rattle.ledger.proofs.ReadLaws.{plain_reads}
use Rattle.ledger.proofs.HeldRows.{WholeRow, plain_held}
use Rattle.amount.specs.Kinds.{refusal_kind}
use Rattle.layout.specs.Written.{written}
use Rattle.rewrite.specs.Rewriting.{answered, output_left, work_left, Rewrites}
use Rattle.rewrite.specs.steps.Pieces.{AllFlagged}
use Rattle.rewrite.specs.steps.Pouring.{Pours}
use Rattle.rewrite.proofs.LongLaws.{written_le}

-- ---- rows that stand whole in their bytes

all_whole : (rs : List Row) → Every WholeRow rs → map wrapped rs ≡ rs
all_whole [] h = refl
all_whole (r ∷ rs) h = ap (λ (z : Row). z ∷ map wrapped rs) (sym (row_in_lem r []) ∙ held_back r [] h.0.held) ∙ ap (λ (z : List Row). r ∷ z) (all_whole rs h.1)

all_flagged : (rs : List Row) → Every WholeRow rs → AllFlagged rs
all_flagged [] h = tt
all_flagged (r ∷ rs) h = (record { low = h.0.flag }, all_flagged rs h.1)

rows_are : (w : List ℕ) (rs : List Row) → Every WholeRow rs → rows_in (length rs) (rows_bytes rs ++ w) ≡ rs
rows_are w rs h = rows_front rs w ∙ all_whole rs h

-- ---- the answers

plain_few : (s : List ℕ) (rs : List Row) → plain s ≡ accepted rs → length rs ≤ size_limit
unfolding scanned
plain_few s rs e =
    let k : Kept refusal_kind 0 1 s rs = subst (Accepts (Kept refusal_kind 0 1 s)) (plain_reads s rs e).2 (read_kept (length s) 0 1 s) in
    omega (arith, (plain_reads s rs e).0, k.few)

-- what plain reading found
data Found (s w : List ℕ) (a : Result ℕ Refused) (v : List ℕ) : Type 0 where
  no : (n p : ℕ) → plain s ≡ denied n p → a ≡ Err (refused_with n p 0) → v ≡ w → Found s w a v
  small : (rs : List Row) → plain s ≡ accepted rs → room w < length rs → a ≡ Err (refused_with 9 0 (length rs)) → v ≡ w → Found s w a v
  all : (rs : List Row) → plain s ≡ accepted rs → length rs ≤ room w → a ≡ Ok (length rs) → v ≡ rows_bytes rs ++ drop (length rs * width) w → Found s w a v

refused_same : (x y : Refused) → ◌≡◌ {A = Result ℕ Refused} (Err x) (Err y) → x ≡ y
refused_same x y h = cc

apart : (n : ℕ) (x : Refused) → ◌≡◌ {A = Result ℕ Refused} (Ok n) (Err x) → ⊥
apart n x h = let z : ◌≡◌ {A = ℕ} 0 1 = cc in omega arith

rows_same : (n m : ℕ) → ◌≡◌ {A = Result ℕ Refused} (Ok n) (Ok m) → n ≡ m
rows_same n m h = cc

was_denied : (s o w : List ℕ) (r : Result ℕ Refused) (v : List ℕ) (n p : ℕ) → plain s ≡ denied n p → r ≡ Err (refused_with n p 0) → v ≡ w → Rewrites s o w r o v
unfolding answered output_left work_left
was_denied s o w r v n p x er ev = record { answer = er ∙ rw x; output = rw x; work = ev ∙ rw x }

was_small : (s o w : List ℕ) (r : Result ℕ Refused) (v : List ℕ) (rs : List Row) → plain s ≡ accepted rs → room w < length rs → r ≡ Err (refused_with 9 1 (length rs * width)) → v ≡ w → Rewrites s o w r o v
unfolding answered output_left work_left
was_small s o w r v rs x l er ev =
    let q : leb (length rs * width) (length w) ≡ false = lt-leb (length rs * width) (length w) (omega arith) in
    record { answer = er ∙ rw (x, q); output = rw (x, q); work = ev ∙ rw (x, q) }

was_all : (s o w : List ℕ) (r : Result ℕ Refused) (u x v : List ℕ) (rs : List Row) → plain s ≡ accepted rs → length rs ≤ room w
    → Pours (written s (rows_in (length rs) v)) o r u → x ≡ cleared (length rs * width) v → v ≡ rows_bytes rs ++ drop (length rs * width) w
    → Every WholeRow rs → Rewrites s o w r u x
unfolding answered output_left work_left cleared
was_all s o w r u x v rs y l k ex ev h =
    let q : leb (length rs * width) (length w) ≡ true = le-leb (length rs * width) (length w) (omega arith) in
    let m : rows_in (length rs) v ≡ rs = ap (rows_in (length rs)) ev ∙ rows_are (drop (length rs * width) w) rs h in
    let z : Pours (written s rs) o r u = subst (λ (j : List Row). Pours (written s j) o r u) m k in
    let d : drop (length rs * width) v ≡ drop (length rs * width) w = ap (λ (j : List ℕ). drop (length rs * width) j) ev ∙ drop_at (rows_bytes rs) (drop (length rs * width) w) (length rs * width) (length_rows_bytes rs) in
    let c : min (length (written s rs)) largest ≡ length (written s rs) = omega (arith, written_le s rs (plain_reads s rs y).0 (plain_few s rs y)) in
    record { answer = z.answer ∙ rw (y, q, c); output = z.left ∙ rw (y, q); work = ex ∙ rw (d, y, q) }

module _ (s w : List ℕ) (a : Result ℕ Refused) (v : List ℕ) (ea : a ≡ answer (plain s) (room w)) (ev : v ≡ left (plain s) w) where
  finds : Found s w a v
  unfolding answer left
  finds = go (plain s) refl ea ev
    where
      go : (r : Reading) → plain s ≡ r → a ≡ answer r (room w) → v ≡ left r w → Found s w a v
      go (denied n p) e f g = no n p e f g
      go (accepted rs) e f g = on (leb (length rs) (room w)) refl f g
        where
          on : (b : Bool) → leb (length rs) (room w) ≡ b → a ≡ cond b (Ok (length rs)) (Err (refused_with 9 0 (length rs))) → v ≡ cond b (rows_bytes rs ++ drop (length rs * width) w) w → Found s w a v
          on true l f g = all rs e (leb-true (length rs) (room w) l) f g
          on false l f g = small rs e (leb-false (length rs) (room w) l) f g

  module _ (x : Refused) (e : a ≡ Err x) where
    pub refused_fits : Fits w64 (x.count * width)
    refused_fits = go finds
      where
        go : Found s w a v → Fits w64 (x.count * width)
        go (no m q y f g) = let z = refused_same (refused_with m q 0) x (sym f ∙ e) in record { fits = rw (← z) (omega arith) }
        go (small rs y l f g) = let z = refused_same (refused_with 9 0 (length rs)) x (sym f ∙ e) in record { fits = rw (← z) (omega (arith, plain_few s rs y)) }
        go (all rs y l f g) = absurd (apart (length rs) x (sym f ∙ e))

    module _ (o : List ℕ) where
      pub refused_plain : x.count ≤ 0 → Rewrites s o w (Err x) o v
      refused_plain z = go finds
        where
          go : Found s w a v → Rewrites s o w (Err x) o v
          go (no m q y f g) = was_denied s o w (Err x) v m q y (sym e ∙ f) g
          go (small rs y l f g) = absurd (let k : x.count ≡ length rs = sym (ap (λ (j : Refused). j.count) (refused_same (refused_with 9 0 (length rs)) x (sym f ∙ e))) in omega arith)
          go (all rs y l f g) = absurd (apart (length rs) x (sym f ∙ e))

      pub refused_work : (r : Result ℕ Refused) → 0 < x.count → r ≡ Err (refused_with 9 1 (x.count * width)) → Rewrites s o w r o v
      refused_work r z er = go finds
        where
          go : Found s w a v → Rewrites s o w r o v
          go (no m q y f g) = absurd (let k : x.count ≡ 0 = sym (ap (λ (j : Refused). j.count) (refused_same (refused_with m q 0) x (sym f ∙ e))) in omega arith)
          go (small rs y l f g) = was_small s o w r v rs y l (er ∙ rw (← (refused_same (refused_with 9 0 (length rs)) x (sym f ∙ e)))) g
          go (all rs y l f g) = absurd (apart (length rs) x (sym f ∙ e))

  module _ (n : ℕ) (e : a ≡ Ok n) where
    pub rows_fit : Fits w64 (n * width)
    rows_fit = go finds
      where
        go : Found s w a v → Fits w64 (n * width)
        go (no m q x f g) = absurd (apart n (refused_with m q 0) (sym e ∙ f))
        go (small rs x l f g) = absurd (apart n (refused_with 9 0 (length rs)) (sym e ∙ f))
        go (all rs x l f g) = let z : n ≡ length rs = rows_same n (length rs) (sym e ∙ f) in record { fits = omega (arith, plain_few s rs x) }

    pub rows_flags : AllFlagged (rows_in n v)
    rows_flags = go finds
      where
        go : Found s w a v → AllFlagged (rows_in n v)
        go (no m q x f g) = absurd (apart n (refused_with m q 0) (sym e ∙ f))
        go (small rs x l f g) = absurd (apart n (refused_with 9 0 (length rs)) (sym e ∙ f))
        go (all rs x l f g) =
            let z : n ≡ length rs = rows_same n (length rs) (sym e ∙ f) in
            let h = plain_held s rs x in
            subst AllFlagged (sym (ap (λ (j : ℕ). rows_in j v) z ∙ ap (rows_in (length rs)) g ∙ rows_are (drop (length rs * width) w) rs h)) (all_flagged rs h)

    pub rows_room : n * width ≤ length v
    rows_room = go finds
      where
        go : Found s w a v → n * width ≤ length v
        go (no m q x f g) = absurd (apart n (refused_with m q 0) (sym e ∙ f))
        go (small rs x l f g) = absurd (apart n (refused_with 9 0 (length rs)) (sym e ∙ f))
        go (all rs x l f g) =
            let z : n ≡ length rs = rows_same n (length rs) (sym e ∙ f) in
            rw (g, length-append, length_rows_bytes rs) (omega arith)

    pub rows_done : (o u x : List ℕ) (r : Result ℕ Refused) → Pours (written s (rows_in n v)) o r u → x ≡ cleared (n * width) v → Rewrites s o w r u x
    rows_done o u x r k ex = go finds
      where
        go : Found s w a v → Rewrites s o w r u x
        go (no m q y f g) = absurd (apart n (refused_with m q 0) (sym e ∙ f))
        go (small rs y l f g) = absurd (apart n (refused_with 9 0 (length rs)) (sym e ∙ f))
        go (all rs y l f g) =
            let z : n ≡ length rs = rows_same n (length rs) (sym e ∙ f) in
            was_all s o w r u x v rs y l (subst (λ (j : ℕ). Pours (written s (rows_in j v)) o r u) z k) (ex ∙ ap (λ (j : ℕ). cleared (j * width) v) z) g (plain_held s rs y)

pub ruleset write_laws = (refused_fits, refused_plain, refused_work, rows_fit, rows_flags, rows_room, rows_done)
