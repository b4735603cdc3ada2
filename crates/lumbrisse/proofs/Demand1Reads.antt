-- Demand 1 of the calls that read: tables, and values, parts and bytes of a ledger.
use Rattle.decimal.specs.declared.Decimal.{Decimal}
use Rattle.text.specs.declared.stop.Refused.{Refused}
use Rattle.std.specs.Prelude.{Err, Ok, Result, Bool, false, true}
use Prim.Native.Nat.{ℕ, ◌+◌, ◌-◌, ◌*◌, ◌≤◌}
use native.Mathlib.Omega.{arith}
use mathlib.Core.Path.{◌≡◌, refl, sym, ◌∙◌, ap, subst}
use mathlib.Core.Bool.{Bool, true, false, cond, ◌||◌, ◌&&◌}
use mathlib.Core.Logic.{inl, inr}
use mathlib.Core.List.{List, [], ◌∷◌, ◌++◌}
use borrow.Author.Tests.{leb-true, leb-false}
use lib.Dec.{leb, ltb}
use lib.ListN.{length, drop}
use Rattle.decimal.specs.declared.Form.{Form}
use Rattle.text.specs.Permitted.{clean, size_limit}
use Rattle.text.specs.Answer.{Ans, To, Miss, Hard}
use Rattle.amount.specs.Expression.{expression_in}
use Rattle.decimal.specs.Faults.{Value}
use Rattle.text.specs.Every.{OneOf}
use Rattle.text.specs.Refusals.{Refusal, refused_with}
use Rattle.row.specs.declared.table.Row.{Row}
use Rattle.row.specs.Row.{rows_bytes, rows_in, width, room}
use Rattle.ledger.specs.Plain.{Reading, accepted, denied}
use Rattle.ledger.specs.Answers.{answer, left}
use Rattle.ledger.specs.declared.scan.Profile.{Profile}
use Rattle.recovery.specs.Recovering.{recover_by, recovered_by}
use Rattle.edit.specs.Edits.{is_block, is_new, grows, edit_rows, editing}
use Rattle.access.specs.Single.{value_answer, read_answer, evaluated}
use Rattle.access.specs.Contents.{valid, unescaped, content_answer, content_left}
use Rattle.access.specs.Tables.{last_named, pushes, in_force}
use Rattle.access.specs.Spans.{good_span}
use Rattle.access.proofs.SpanLaws.{good_start, good_end}
use Rattle.lumbrisse.specs.declared.reply.Reply.{Reply}
use Rattle.lumbrisse.specs.declared.reply.Evaluated.{Evaluated}
use Rattle.lumbrisse.specs.declared.reply.Part.{Part}
use Rattle.lumbrisse.specs.Numbers.{replied, refused_reply, reply_of, force_reply, evaluated_of, part_of}
use Rattle.lumbrisse.specs.Promises.{TablePromise, ContentPromise, ExpressionPromise, TagPromise, SpanPromise}
use Rattle.lumbrisse.specs.Demand1.{Answers, accepts, lacks, refuses, Never, ReadsRows, HasBytes, NoSpace, Fills, Evaluates, valued, unvalued, TagSaid, PartOf}

-- ---- refusals

-- a place of 0 is within any text
pub at_front : (list : List ℕ) (size n : ℕ) → OneOf list n → Refusal list size n 0
at_front list size n h = record { listed = h; within = omega arith; front = λ e. refl }

denied_front : (list : List ℕ) (size k n p : ℕ) → OneOf list k → denied k 0 ≡ denied n p → Refusal list size n p
denied_front list size k n p h e = let x : k ≡ n = cc in let y : ◌≡◌ {A = ℕ} 0 p = cc in rw (← x, ← y) (at_front list size k h)

pub accepted_denied : {A : Type 0} (rs : List Row) (n p : ℕ) → accepted rs ≡ denied n p → A
accepted_denied rs n p e = absurd (let z : ◌≡◌ {A = ℕ} 0 1 = cc in omega arith)

pub recovered_refusal : (K : Profile) (s : List ℕ) (n p : ℕ) → recovered_by K s ≡ denied n p → Refusal (1 ∷ []) (length s) n p
unfolding recovered_by
recovered_refusal K s n p e = go (leb (length s) size_limit) e
  where
    go : (b : Bool) → cond b (accepted (recover_by K (length s) 0 0 s)) (denied 1 0) ≡ denied n p → Refusal (1 ∷ []) (length s) n p
    go true f = accepted_denied (recover_by K (length s) 0 0 s) n p f
    go false f = denied_front (1 ∷ []) (length s) 1 n p (inl refl) f

pub editing_refusal : (s t : List ℕ) (k a e : ℕ) (y : List ℕ) (n p : ℕ) → editing s t k a e y ≡ denied n p → Refusal (1 ∷ 10 ∷ []) (length s) n p
unfolding editing
editing_refusal s t k a e y n p d =
    go (ltb size_limit (length s) || grows s a e y) (is_block s a e && (leb k (room t) && is_new s a e y)) (edit_rows s a e y (rows_in k t)) d
  where
    go : (b c : Bool) (rs : List Row) → cond b (denied 1 0) (cond c (accepted rs) (denied 10 0)) ≡ denied n p → Refusal (1 ∷ 10 ∷ []) (length s) n p
    go true c rs f = denied_front (1 ∷ 10 ∷ []) (length s) 1 n p (inl refl) f
    go false true rs f = accepted_denied rs n p f
    go false false rs f = denied_front (1 ∷ 10 ∷ []) (length s) 10 n p (inr (inl refl)) f

-- ---- every table: D is what the definitions give, and its refusals are of the list

module _ (list s : List ℕ) (D : Reading) (refusal : (n p : ℕ) → D ≡ denied n p → Refusal list (length s) n p) (t : List ℕ) (r : Reply) (u : List ℕ) where
  table_rows : (rs : List Row) → D ≡ accepted rs → (b : Bool) → leb (length rs) (room t) ≡ b
      → r ≡ reply_of (cond b (Ok (length rs)) (Err (refused_with 9 0 (length rs))))
      → u ≡ cond b (rows_bytes rs ++ drop (length rs * width) t) t → ReadsRows list s D t u r
  unfolding reply_of
  table_rows rs d true l e f =
      accepts (length rs) e (record { rows = rs; defined = d; number = refl; fit = leb-true (length rs) (room t) l; table = f })
  table_rows rs d false l e f =
      lacks (length rs) e (record { rows = rs; defined = d; number = refl; over = leb-false (length rs) (room t) l }) f

  pub table_reads : TablePromise D t r u → ReadsRows list s D t u r
  unfolding answer left reply_of
  table_reads P = go D refl P.reply P.rows
    where
      go : (x : Reading) → D ≡ x → r ≡ reply_of (answer x (room t)) → u ≡ left x t → ReadsRows list s D t u r
      go (accepted rs) d e f = table_rows rs d (leb (length rs) (room t)) refl e f
      go (denied n p) d e f = refuses n p e d (refusal n p d) f

-- ---- bytes x into a buffer t, told by an answer of any kind: all of them, or the need that is returned

module _ (list : List ℕ) (size : ℕ) (Gives Lacks : ℕ → Type 0) (Denied : ℕ → ℕ → Type 0) (x t u : List ℕ) (returned : ℕ) (r : Reply) (given : HasBytes x t u (length x) → Gives (length x))
    (short : NoSpace x t returned returned → Lacks returned) where
  pub bytes_written : {A : Type 0} (say : A → Reply) (all need : A) → say all ≡ replied 0 0 (length x) → say need ≡ replied 9 0 returned
      → r ≡ say (cond (leb (length x) (length t)) all need) → u ≡ cond (leb (length x) (length t)) (x ++ drop (length x) t) t
      → Answers list size Gives Lacks Denied (u ≡ t) r
  bytes_written say all need a n e f = go (leb (length x) (length t)) refl e f
    where
      go : (b : Bool) → leb (length x) (length t) ≡ b → r ≡ say (cond b all need) → u ≡ cond b (x ++ drop (length x) t) t → Answers list size Gives Lacks Denied (u ≡ t) r
      go true l e f = accepts (length x) (e ∙ a) (given (record { number = refl; fit = leb-true (length x) (length t) l; buffer = f }))
      go false l e f = lacks returned (e ∙ n) (short (record { number = refl; over = leb-false (length x) (length t) l })) f

module _ (c t : List ℕ) (r : Reply) (u : List ℕ) where
  abbrev x : List ℕ
  x = unescaped c

  abbrev m : ℕ
  m = length x

  abbrev Content : Type 0
  Content = Fills (10 ∷ []) c (valid c ≡ true) (λ n. valid c ≡ false) x m t u r

  pub content_answers : ContentPromise c t r u → Fills (10 ∷ []) c (valid c ≡ true) (λ n. valid c ≡ false) (unescaped c) (length (unescaped c)) t u r
  unfolding content_answer content_left reply_of
  content_answers P = go (valid c) refl P.reply P.bytes
    where
      go : (q : Bool) → valid c ≡ q → r ≡ reply_of (cond q (cond (leb m (length t)) (Ok m) (Err (refused_with 9 0 m))) (Err (refused_with 10 0 0)))
          → u ≡ cond q (cond (leb m (length t)) (x ++ drop m t) t) t → Content
      go true v e f =
          bytes_written (10 ∷ []) (length c) (λ n. (valid c ≡ true) × HasBytes x t u n) (λ n. (valid c ≡ true) × NoSpace x t m n) (λ n p. (valid c ≡ false) × (p ≡ 0)) x t u m r (λ h. (v, h)) (λ h. (v, h))
          reply_of (Ok m) (Err (refused_with 9 0 m)) refl refl e f
      go false v e f = refuses 10 0 e (v, refl) (at_front (10 ∷ []) (length c) 10 (inl refl)) f

-- ---- a tag, an expression, a span

force_ten : (s t : List ℕ) (k : ℕ) (tag : List ℕ) (x : Refused) → in_force s t k tag ≡ Err x → x ≡ refused_with 10 0 0
unfolding in_force
force_ten s t k tag x e = go (leb k (room t)) (pushes (last_named s t tag (k - 1))) e
  where
    go : (b c : Bool) → cond b (Ok c) (Err (refused_with 10 0 0)) ≡ Err x → x ≡ refused_with 10 0 0
    go true c f = absurd (let z : ◌≡◌ {A = ℕ} 0 1 = cc in omega arith)
    go false c f = cc

pub tag_answers : (s t : List ℕ) (k : ℕ) (tag : List ℕ) (r : Reply) → TagPromise s t k tag r → Answers (10 ∷ []) (length s) (TagSaid s t k tag) Never (λ n p. (in_force s t k tag ≡ Err (refused_with n 0 0)) × (p ≡ 0)) (Unit {0}) r
unfolding force_reply
tag_answers s t k tag r P = go (in_force s t k tag) refl P
  where
    go : (x : Result Bool Refused) → in_force s t k tag ≡ x → r ≡ force_reply x → Answers (10 ∷ []) (length s) (TagSaid s t k tag) Never (λ n p. (in_force s t k tag ≡ Err (refused_with n 0 0)) × (p ≡ 0)) (Unit {0}) r
    go (Ok true) d e = accepts 1 e (inl (d, refl))
    go (Ok false) d e = accepts 0 e (inr (d, refl))
    go (Err x) d e =
        let ten = force_ten s t k tag x d in
        refuses 10 0 (e ∙ ap (λ (x : Refused). refused_reply x) ten) (d ∙ ap (λ (x : Refused). Err x) ten, refl) (at_front (10 ∷ []) (length s) 10 (inl refl)) tt

-- a refusal of an expression has no count
abbrev Countless : Result (ℕ × Decimal) Refused → Type 0
Countless (Ok v) = Unit {0}
Countless (Err x) = x ≡ refused_with x.number x.place 0

value_countless : (e : ℕ) (v : Value) → Countless (value_answer e v)
unfolding value_answer
value_countless e (Ok d) = tt
value_countless e (Err n) = refl

read_countless : (a : Ans Value) → Countless (read_answer a)
unfolding read_answer
read_countless (To e v) = value_countless e v
read_countless Miss = refl
read_countless (Hard k p) = refl

evaluated_countless : (form : Form) (s : List ℕ) → Countless (evaluated form s)
unfolding evaluated
evaluated_countless form s = go (leb (length s) size_limit) (ltb (clean s) (length s))
  where
    go : (b c : Bool) → Countless (cond b (cond c (Err (refused_with 2 (clean s) 0)) (read_answer (expression_in form s 0))) (Err (refused_with 1 0 0)))
    go true true = refl
    go true false = read_countless (expression_in form s 0)
    go false c = refl

pub expression_evaluates : (form : Form) (s : List ℕ)
    → ((n p : ℕ) → evaluated form s ≡ Err (refused_with n p 0) → Refusal (1 ∷ 2 ∷ 3 ∷ 11 ∷ 6 ∷ 7 ∷ 8 ∷ []) (length s) n p)
    → (r : Evaluated) → ExpressionPromise form s r → Evaluates form s r
unfolding evaluated_of
expression_evaluates form s refusal r P = go (evaluated form s) refl P
  where
    go : (x : Result (ℕ × Decimal) Refused) → evaluated form s ≡ x → r ≡ evaluated_of x → Evaluates form s r
    go (Ok (e, v)) d f = valued e v f d
    go (Err x) d f =
        let refused = d ∙ ap (λ (x : Refused). Err x) (subst Countless d (evaluated_countless form s)) in
        unvalued x.number x.place f refused (refusal x.number x.place refused)

part_within : (s : List ℕ) (a e : ℕ) (good : Bool) → good_span s a e ≡ good → (part_of s a e).start + (part_of s a e).length ≤ length s
unfolding part_of
part_within s a e true g = rw g (omega (arith, good_start s a e true (sym g) refl, good_end s a e true (sym g) refl))
part_within s a e false g = rw g (omega arith)

pub span_part : (s : List ℕ) (a e : ℕ) (r : Part) → SpanPromise s a e r → PartOf s a e r
span_part s a e r P =
    record {
      part = P.part;
      within = subst (λ (x : Part). x.start + x.length ≤ length s) (sym P.part) (part_within s a e (good_span s a e) refl);
      text = P.text;
    }
