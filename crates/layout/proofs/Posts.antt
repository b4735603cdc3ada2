-- Postings: what was read is written so that it reads again.
use Rattle.std.specs.Prelude.{None, Option, Some}
use Prim.Native.Nat.{ℕ, suc, ◌+◌, ◌≤◌, ◌<◌}
use native.Mathlib.Omega.{arith}
use native.Mathlib.Decide.{dec_lt}
use mathlib.Core.Path.{◌≡◌, refl, sym, ◌∙◌, ap, subst}
use mathlib.Core.Bool.{Bool, true, false, cond, ◌||◌, ◌&&◌, not, false≢true}
use mathlib.Core.List.{List, [], ◌∷◌, ◌++◌, append_assoc, append-nil}
use mathlib.Core.Logic.{◌⊎◌, inl, inr}
use borrow.Author.Tests.{ne_eqb, eqb-true, lt-ltb, le-ltb, lt-leb, le-leb, leb-true, ltb-true}
use lib.Dec.{eqb, ltb, leb}
use lib.ListN.{length, get_or, drop, length-append}
use Rattle.decimal.specs.Exact.{twos_of}
use Rattle.text.specs.Bytes.{is_blank, is_small, is_capital, is_digit, starts_part, in_account, in_comment, between}
use Rattle.text.specs.Run.{blanks, run_to}
use Rattle.text.specs.Answer.{Ans, To, Miss, ◌then◌, ◌and◌, ◌else◌, more, maybe}
use Rattle.text.specs.Leaves.{gap, token, line_end, empty_line}
use Rattle.text.specs.Accounts.{account}
use Rattle.text.specs.Lines.{gap_at, comment_end, eol_at, line_end_at, empty_at}
use Rattle.text.specs.Permitted.{permitted}
use Rattle.text.proofs.Ats.{At, at_next, at_one, at_byte, at_drop}
use Rattle.text.proofs.Inversions.{and_inv, then_inv, token_inv, else_inv, to_inv, not_miss}
use Rattle.text.proofs.TestLaws.{differ, absurd_bool}
use Rattle.text.proofs.Steps.{run_out, run_first, such_within, head_drop, get_d_past, drop_step}
use Rattle.text.proofs.TokenEnds.{line_reach}
use Rattle.text.specs.Every.{Every}
use Rattle.text.proofs.EveryLaws.{every_left, every_right}
use Rattle.amount.specs.Details.{Rows, named}
use Rattle.amount.specs.declared.detail.Detail.{Detail}
use Rattle.row.specs.Details.{spanned, millionths}
use Rattle.posting.specs.Metadata.{key_at, key, meta_line, meta_step}
use Rattle.posting.specs.Postings.{is_flag, flag, posting_flag, units, posting_line, posting, body_step, body}
use Rattle.posting.proofs.PostingEnds.{posting_flag_reach, body_step_reach}
use Rattle.posting.proofs.FlagLaws.{flag_not_small}
use Rattle.layout.specs.Meaning.{Item, texted, naming}
use Rattle.layout.specs.Written.{detail_text, kind_of, printed, posting_text}
use Rattle.layout.proofs.Texts.{at_between, Tidy}
use Rattle.layout.proofs.Numbers.{All}
use Rattle.layout.proofs.Values.{run_at, stops_at, one_space, shown}
use Rattle.layout.proofs.Tokens.{Account, read_if}
use Rattle.layout.proofs.Neats.{Neat, Free, neat_none, neat_join, neat_cons, neat_space, free_feed, neat_account, no_return, tidy_at, tidy_head}
use Rattle.layout.proofs.Readings.{item_d, items, items_append, Fine, Reads, row_reads, skip_reads, and_reads, then_reads, There, first_reads, Loop, done, turn, loop_reads}
use Rattle.layout.proofs.Marks.{account_blank, reached, line_reads, part_blank}
use Rattle.layout.proofs.Parts.{gap_was, account_was, account_is}
use Rattle.layout.proofs.Bodies.{print_detail}
use Rattle.layout.proofs.Misses.{blank_line, else_miss}
use Rattle.layout.proofs.Loops.{many_was}
use Rattle.layout.proofs.Metas.{Metas, no_metas, one_meta, meta_kind, MetaStop, metas_text, metadata_was, metadata_is, metas_print, metas_neat, metas_behind, line_empty, indent_reads}
use Rattle.layout.proofs.Fronts.{Sharp}
use Rattle.layout.proofs.Units.{Units, units_text, units_last, Starts, maybe_units_was, units_is, units_neat, units_print, after_units}

-- ---- flags

-- none, or a byte that opens no comment and ends no line
pub data PFlag : ℕ → Type 0 where
  unflagged : PFlag 0
  flagged : (f : ℕ) → is_flag f ≡ true → Sharp f → Free f → PFlag f

-- a comment is read to the end of its line
return_feed : (s : List ℕ) (e : ℕ) → Tidy s → e < length s → get_or s e 0 ≡ 13 → eqb (get_or s (e + 1) 0) 10 ≡ true
unfolding permitted
return_feed s e T l c =
    let A = at_drop s e (omega arith) in
    let D : drop e s ≡ get_or s e 0 ∷ drop (e + 1) s = drop_step s e l in
    let p = tidy_head (get_or s e 0) (drop (e + 1) s) (subst Tidy D (tidy_at T A)) in
    rw (c, head_drop s (e + 1)) at p

token_miss : (r : Option ℕ) → token {A = Detail} r ≡ Miss → r ≡ None
unfolding token
token_miss (Some j) e = absurd (let z : ◌≡◌ {A = ℕ} 0 1 = cc in omega arith)
token_miss None e = refl

eol_ends : (s : List ℕ) (e : ℕ) → Tidy s → (e < length s → in_comment (get_or s e 0) ≡ false) → eol_at s e ≡ None → ⊥
unfolding eol_at in_comment
eol_ends s e T h m =
    elim (dec_lt e (length s)) [ yes l ↦ go (eqb (get_or s e 0) 10) refl (eqb (get_or s e 0) 13) refl (h l) l m | no l ↦ past (rw (get_d_past s e (omega arith), le-leb (length s) e (omega arith)) at m) ]
  where
    past : Some e ≡ None → ⊥
    past m = let z : ◌≡◌ {A = ℕ} 0 1 = cc in omega arith

    go : (a : Bool) → eqb (get_or s e 0) 10 ≡ a → (b : Bool) → eqb (get_or s e 0) 13 ≡ b → (not a && not b) ≡ false → e < length s
        → cond a (Some (e + 1)) (cond (b && eqb (get_or s (e + 1) 0) 10) (Some (e + 2)) (cond (leb (length s) e) (Some e) None)) ≡ None → ⊥
    go true p b q x l m = let z : ◌≡◌ {A = ℕ} 0 1 = cc in omega arith
    go false p false q x l m = absurd_bool (sym x)
    go false p true q x l m =
        let n = return_feed s e T l (eqb-true (get_or s e 0) 13 q) in
        let y : Some (e + 2) ≡ None = rw n at m in
        (let z : ◌≡◌ {A = ℕ} 0 1 = cc in omega arith)

comment_ends : (s : List ℕ) (i : ℕ) → Tidy s → i < length s → get_or s (blanks s i) 0 ≡ 59 → empty_line {A = Detail} s i ≡ Miss → ⊥
unfolding empty_line empty_at line_end_at comment_end token
comment_ends s i T h c m = eol_ends s (run_to in_comment s (blanks s i + 1)) T (λ l. run_out in_comment s (blanks s i + 1) _ refl l) (token_miss _ (rw (lt-ltb i (length s) h, c) at m))

pub flag_none : is_flag 0 ≡ false
unfolding is_flag
flag_none = refl

-- the byte of a gap is a blank
gap_first : {A : Type 0} (s : List ℕ) (i j : ℕ) (x : List A) → gap s i ≡ To j x → is_blank (get_or s i 0) ≡ true
unfolding gap gap_at
gap_first s i j x h =
    let a = token_inv (gap_at s i) j x h in
    let b = read_if (ltb i (blanks s i)) _ j a.0 in
    (run_first is_blank s i (blanks s i) refl (ltb-true i (blanks s i) b.0)).1

gap_last : (s : List ℕ) (i j : ℕ) (x : List Detail) → gap s i ≡ To j x → (j ≡ blanks s i) × (i < length s)
unfolding gap gap_at
gap_last s i j x h =
    let a = token_inv (gap_at s i) j x h in
    let b = read_if (ltb i (blanks s i)) (Some (blanks s i)) j a.0 in
    (cc, (run_first is_blank s i (blanks s i) refl (ltb-true i (blanks s i) b.0)).0)

blank_feed : (b : ℕ) → is_blank b ≡ true → b ≡ 10 → ⊥
unfolding is_blank
blank_feed b e = differ is_blank b 10 e refl

free_return : Free 13 → ⊥
unfolding permitted
free_return f = false≢true (f 0)

zero_to : (g a f : ℕ) → ◌≡◌ {A = Ans ℕ} (To g 0) (To a f) → 0 ≡ f
zero_to g a f e = cc

to_second : (w a x f : ℕ) → ◌≡◌ {A = Ans ℕ} (To w x) (To a f) → x ≡ f
to_second w a x f e = cc

pub flag_inv : (s : List ℕ) (g x : ℕ) (y : List Detail) → flag s g ≡ To x y → (is_flag (get_or s g 0) ≡ true) × (x ≡ g + 1)
unfolding flag
flag_inv s g x y h = go (is_flag (get_or s g 0)) h
  where
    go : (c : Bool) → ◌≡◌ {A = Rows} (cond c (To (g + 1) []) Miss) (To x y) → (c ≡ true) × (x ≡ g + 1)
    go true h = (refl, cc)
    go false h = not_miss h

-- a flag that was read
module _ (s : List ℕ) (i g : ℕ) (T : Tidy s) (m : empty_line {A = Detail} s i ≡ Miss) (l : i < length s) (e : g ≡ blanks s i) where
  some_flag : (a : ℕ) → is_flag (get_or s g 0) ≡ true → is_blank (get_or s (g + 1) 0) ≡ true → PFlag (get_or s g 0)
  some_flag a p q =
      let b = get_or s g 0 in
      let k : g < length s = such_within is_flag s g b flag_none refl p in
      let out = run_out is_blank s i g e k in
      let D = drop_step s g k in
      let c = tidy_head b (drop (g + 1) s) (subst Tidy D (tidy_at T (at_drop s g (omega arith)))) in
      let F : Free b = no_return b (get_or s (g + 1) 0) (rw (head_drop s (g + 1)) at c) (blank_feed (get_or s (g + 1) 0) q) in
      flagged b p (record {
        blank = out;
        comment = ne_eqb b 59 (λ z. comment_ends s i T l (ap (λ x. get_or s x 0) (sym e) ∙ z) m);
        feed = subst (λ x. eqb (get_or s x 0) 10 ≡ false) (sym e) (blank_line s i l m);
        return = ne_eqb b 13 (λ z. free_return (subst Free z F));
      }) F

  flag_was : (a f : ℕ) → posting_flag s g ≡ To a f → PFlag f
  unfolding posting_flag
  flag_was a f h = go (else_inv (flag s g then λ x _. gap {A = ℕ} s x then λ w _. To w (get_or s g 0)) (To g 0) a f h)
    where
      go : ((flag s g then λ x _. gap {A = ℕ} s x then λ w _. To w (get_or s g 0)) ≡ To a f) ⊎ (((flag s g then λ x _. gap {A = ℕ} s x then λ w _. To w (get_or s g 0)) ≡ Miss) × (To g 0 ≡ To a f))
          → PFlag f
      go (inl h) =
          let b = then_inv (flag s g) _ a f h in
          let c = then_inv (gap {A = ℕ} s b.0) _ a f b.3 in
          let d = flag_inv s g b.0 b.1 b.2 in
          subst PFlag (to_second c.0 a (get_or s g 0) f c.3) (some_flag a d.0 (subst (λ y. is_blank (get_or s y 0) ≡ true) d.1 (gap_first s b.0 c.0 c.1 c.2)))
      go (inr h) = let n : 0 ≡ f = zero_to g a f h.1 in subst PFlag n unflagged

-- ---- a posting's line

abbrev pub post_item : ℕ → List ℕ → Item
post_item f w = record { kind = 33; text = w; other = []; number = f; bits = 0 }

post_item_lem : (s : List ℕ) (a e f : ℕ) → item_d s (named 33 a e f 0) ≡ post_item f (between s a e)
unfolding texted naming spanned millionths twos_of
post_item_lem s a e f = refl

abbrev PostLine : List Item → Type 0
PostLine ms = (f : ℕ) × (w : List ℕ) × (us : List Item) × PFlag f × Account w × Units us × (ms ≡ post_item f w ∷ us)

post_line_was : (s : List ℕ) (i j : ℕ) (t : List ℕ) (rs : List Detail) → Tidy s → At s i t → empty_line {A = Detail} s i ≡ Miss → posting_line s i ≡ To j rs → Every Fine rs → There s j rs PostLine
unfolding posting_line
post_line_was s i j t rs T A m h f =
    let a = and_inv (gap s i) _ j rs h in
    let G = gap_was A a.3 in
    let gl = gap_last s i a.0 a.1 a.3 in
    let b = then_inv (posting_flag s a.0) _ j a.2 a.4 in
    let B = reached {s = s} (posting_flag_reach s a.0 (omega (arith, G.1.fits))) b.2 in
    let c = and_inv (account s b.0) _ j a.2 b.3 in
    let C = account_was B c.3 in
    let d = and_inv (To c.0 (named 33 b.0 c.0 b.1 0 ∷ [])) _ j c.2 c.4 in
    let d' = to_inv c.0 d.0 _ d.1 d.3 in
    let e = and_inv (maybe d.0 (units s d.0)) _ j d.2 d.4 in
    let p : rs ≡ named 33 b.0 c.0 b.1 0 ∷ e.1 =
    a.5 ∙ ap (λ z. z ++ a.2) G.0 ∙ c.5 ∙ ap (λ z. z ++ c.2) C.3 ∙ d.5 ∙ ap (λ z. z ++ d.2) d'.1
    ∙ ap (λ z. named 33 b.0 c.0 b.1 0 ∷ z) (e.5 ∙ ap (λ z. e.1 ++ z) (line_empty s e.0 j e.2 e.4) ∙ append-nil e.1) in
    let U = maybe_units_was s d.0 e.0 _ e.1 (subst (λ z. At s z C.0) d'.0 C.1) e.3 (subst (Every Fine) p f).1 in
    record {
      rest = drop j s;
      place = reached {s = s} (line_reach s e.0 (omega (arith, U.place.fits))) e.4;
      is = (
        b.1,
        between s b.0 c.0,
        items s e.1,
        flag_was s i a.0 T m gl.1 gl.0 b.0 b.1 b.2,
        C.2,
        U.is,
        ap (items s) p ∙ ap (λ z. z ∷ items s e.1)
            (post_item_lem s b.0 c.0 b.1),
      );
    }

-- ---- again

pub flag_text : ℕ → List ℕ
flag_text f = cond (eqb f 0) [] (f ∷ 32 ∷ [])

pub line_text : (f : ℕ) (w : List ℕ) {us : List Item} → Units us → List ℕ
line_text f w U = 32 ∷ 32 ∷ (flag_text f ++ (w ++ units_text U))

-- an account's second byte is no blank
in_blank : (b : ℕ) → in_account b ≡ true → is_blank b ≡ false
unfolding in_account is_capital is_small is_digit is_blank
in_blank b e = rw (ne_eqb b 32 (differ in_account b 32 e refl), ne_eqb b 9 (differ in_account b 9 e refl))

second_blank : (h : ℕ) (xs t : List ℕ) → All in_account xs → is_blank (get_or (h ∷ (xs ++ (58 ∷ t))) 1 0) ≡ false
second_blank h [] t H = shown 58 (omega arith)
second_blank h (x ∷ xs) t H = in_blank x H.0

part_small : (b : ℕ) → starts_part b ≡ true → is_small b ≡ false
unfolding starts_part is_capital is_digit is_small
part_small b e = go (leb 65 b) refl (leb b 90) refl (leb 48 b) refl (leb b 57) refl e
  where
    go : (p : Bool) → leb 65 b ≡ p → (q : Bool) → leb b 90 ≡ q → (x : Bool) → leb 48 b ≡ x → (y : Bool) → leb b 57 ≡ y → (p && q || x && y) ≡ true → (leb 97 b && leb b 122) ≡ false
    go true h true k x m y n e = rw (lt-leb 97 b (omega (arith, leb-true b 90 k)))
    go true h false k true m true n e = rw (lt-leb 97 b (omega (arith, leb-true b 57 n)))
    go true h false k true m false n e = absurd_bool e
    go true h false k false m y n e = absurd_bool e
    go false h q k true m true n e = rw (lt-leb 97 b (omega (arith, leb-true b 57 n)))
    go false h q k true m false n e = absurd_bool e
    go false h q k false m y n e = absurd_bool e

part_flag : (b : ℕ) → starts_part b ≡ true → is_flag b ≡ true
unfolding starts_part is_capital is_digit is_flag is_small
part_flag b e = rw (ne_eqb b 0 (differ starts_part b 0 e refl), part_small b e)

flag_some : (f : ℕ) → is_flag f ≡ true → eqb f 0 ≡ false
flag_some f e = ne_eqb f 0 (differ is_flag f 0 e flag_none)

gap_off : (s : List ℕ) (i : ℕ) (t : List ℕ) → is_blank (get_or t 0 0) ≡ false → At s i t → gap {A = ℕ} s i ≡ Miss
unfolding gap gap_at token
gap_off s i t e A = rw (stops_at s is_blank i t A e, le-ltb i i (omega arith))

gap_on : (s : List ℕ) (i : ℕ) (t : List ℕ) → is_blank (get_or t 0 0) ≡ false → At s i (32 ∷ t) → gap {A = ℕ} s i ≡ To (i + 1) []
unfolding gap gap_at token
gap_on s i t e A = rw (one_space s i A e, lt-ltb i (i + 1) (omega arith))

no_flag : {s : List ℕ} {g : ℕ} (w x : List ℕ) → Account w → At s g (w ++ x) → posting_flag s g ≡ To g 0
unfolding posting_flag flag ◌then◌ ◌else◌
no_flag {s} {g} w x C A =
    let e : w ++ x ≡ C.head ∷ (C.front ++ (58 ∷ ((C.second ∷ C.back) ++ x))) = ap (λ z. z ++ x) C.is ∙ ap (λ z. C.head ∷ z) (append_assoc C.front (58 ∷ C.second ∷ C.back) x) in
    let B = subst (At s g) e A in
    let n : is_blank (get_or (C.front ++ (58 ∷ ((C.second ∷ C.back) ++ x))) 0 0) ≡ false = second_blank C.head C.front _ C.within in
    rw (at_byte B, part_flag C.head C.starts, gap_off s (g + 1) _ n (at_one B))

flag_is : {s : List ℕ} {g : ℕ} (f : ℕ) (x : List ℕ) → is_flag f ≡ true → is_blank (get_or x 0 0) ≡ false → At s g (f ∷ 32 ∷ x) → posting_flag s g ≡ To (g + 1 + 1) f
unfolding posting_flag flag ◌then◌ ◌else◌
flag_is {s} {g} f x p b A = rw (at_byte A, p, gap_on s (g + 1) x b (at_one A))

-- the flag, if any, before an account
flag_reads : {s : List ℕ} {g : ℕ} {f : ℕ} (F : PFlag f) (w x : List ℕ) → Account w → At s g (flag_text f ++ (w ++ x)) → (a : ℕ) × (posting_flag s g ≡ To a f) × At s a (w ++ x)
unfolding flag_text
flag_reads {s} {g} unflagged w x C A = (g, no_flag w x C A, A)
flag_reads {s} {g} (flagged f p S R) w x C A =
    let B : At s g (f ∷ 32 ∷ (w ++ x)) = subst (λ z. At s g (cond z [] (f ∷ 32 ∷ []) ++ (w ++ x))) (flag_some f p) A in
    (g + 1 + 1, flag_is f (w ++ x) p (account_blank w x C) B, at_one (at_one B))

head_blank : {f : ℕ} (F : PFlag f) (w x : List ℕ) → Account w → is_blank (get_or (flag_text f ++ (w ++ x)) 0 0) ≡ false
unfolding flag_text
head_blank unflagged w x C = account_blank w x C
head_blank (flagged f p S R) w x C = rw (flag_some f p) S.blank

post_line_is : {s : List ℕ} {i f : ℕ} {us : List Item} (F : PFlag f) (w : List ℕ) (C : Account w) (U : Units us) (t : List ℕ) → At s i (line_text f w U ++ (10 ∷ t))
    → Reads s (posting_line s i) (post_item f w ∷ us) t
unfolding posting_line line_text
post_line_is {s} {i} {f} {us} F w C U t A =
    let x = units_text U ++ (10 ∷ t) in
    let B : At s i (32 ∷ 32 ∷ (flag_text f ++ (w ++ x))) =
    subst (λ z. At s i (32 ∷ 32 ∷ z)) (append_assoc (flag_text f) (w ++ units_text U) (10 ∷ t) ∙ ap (λ z. flag_text f ++ z) (append_assoc w (units_text U) (10 ∷ t))) A in
    skip_reads (indent_reads (flag_text f ++ (w ++ x)) (head_blank F w x C) B) (λ g G.
    let K = flag_reads F w x C G in
    then_reads _ K.1 (skip_reads (account_is w x C (after_units U t) K.2) (λ e E.
    and_reads (post_item f w ∷ []) us (row_reads (post_item_lem s K.0 e f ∙ ap (post_item f) (at_between w x K.2 E)) (record { minus = false; size = 0 }, refl) E) (λ h H.
    subst (λ z. Reads s (maybe h (units s h) and λ m. line_end s m) z t) (append-nil us) (and_reads us [] (units_is U t H) (λ m M. line_reads M))))))

-- ---- no metadata goes on at a posting

indent_blank : All is_blank (32 ∷ 32 ∷ [])
unfolding is_blank
indent_blank = (refl, (refl, tt))

module _ {s : List ℕ} {i : ℕ} (c : ℕ) (t : List ℕ) (S : Sharp c) (n : is_small c ≡ false) (A : At s i (32 ∷ 32 ∷ (c ∷ t))) where
  past_indent : blanks s i ≡ i + 2
  past_indent = run_at s is_blank (32 ∷ 32 ∷ []) (c ∷ t) i A indent_blank S.blank

  B : At s (i + 2) (c ∷ t)
  B = at_next (32 ∷ 32 ∷ []) (c ∷ t) A

  no_meta_line : meta_line s i ≡ Miss
  unfolding meta_line gap gap_at key key_at token ◌and◌ more
  no_meta_line = rw (past_indent, lt-ltb i (i + 2) (omega arith)) (rw (at_byte B, n))

  no_empty_line : empty_line {A = Detail} s i ≡ Miss
  unfolding empty_line empty_at line_end_at comment_end eol_at token
  no_empty_line =
      let l : i + 2 < length s = omega (arith, B.fits) in
      rw (lt-ltb i (length s) (omega arith), past_indent, at_byte B, S.comment) (rw (at_byte B, S.feed, S.return, lt-leb (length s) (i + 2) l))

  indented_stop : meta_step s i ≡ Miss
  unfolding meta_step ◌else◌
  indented_stop = rw (no_meta_line) no_empty_line

part_sharp : (b : ℕ) → starts_part b ≡ true → Sharp b
unfolding starts_part is_capital is_digit is_blank
part_sharp b e = record {
  blank = part_blank b e;
  comment = ne_eqb b 59 (differ starts_part b 59 e refl);
  feed = ne_eqb b 10 (differ starts_part b 10 e refl);
  return = ne_eqb b 13 (differ starts_part b 13 e refl);
}

line_stop : {f : ℕ} {us : List Item} (F : PFlag f) (w : List ℕ) (C : Account w) (U : Units us) (t : List ℕ) → MetaStop (line_text f w U ++ t)
unfolding line_text flag_text
line_stop unflagged w C U t s j A =
    let A' = subst (λ z. At s j (32 ∷ 32 ∷ ((z ++ units_text U) ++ t))) C.is A in
    indented_stop C.head _ (part_sharp C.head C.starts) (part_small C.head C.starts) A'
line_stop (flagged f p S R) w C U t s j A = indented_stop f _ S (flag_not_small f p) (subst (λ z. At s j (32 ∷ 32 ∷ ((cond z [] (f ∷ 32 ∷ []) ++ (w ++ units_text U)) ++ t))) (flag_some f p) A)

-- ---- all of them

pub data Posts : List Item → Type 0 where
  no_posts : Posts []
  one_post : {f : ℕ} {us ms ps : List Item} → PFlag f → (w : List ℕ) → Account w → Units us → Metas ms → Posts ps → Posts (post_item f w ∷ ((us ++ ms) ++ ps))

pub posts_text : {ms : List Item} → Posts ms → List ℕ → List ℕ
posts_text no_posts post = post
posts_text (one_post {f} F w C U M Ps) post = line_text f w U ++ (10 ∷ metas_text M (posts_text Ps post))

abbrev OnePost : List Item → Type 0
OnePost ks = (f : ℕ) × (w : List ℕ) × (us : List Item) × (ms : List Item) × PFlag f × Account w × Units us × Metas ms × (ks ≡ post_item f w ∷ (us ++ ms))

join_posts : (ks ps : List Item) → OnePost ks → Posts ps → Posts (ks ++ ps)
join_posts ks ps o P = subst (λ z. Posts (z ++ ps)) (sym o.8) (one_post o.4 o.1 o.5 o.6 o.7 P)

posting_was : (s : List ℕ) (i j : ℕ) (t : List ℕ) (rs : List Detail) → Tidy s → At s i t → empty_line {A = Detail} s i ≡ Miss → posting s i ≡ To j rs → Every Fine rs
    → There s j rs OnePost × (meta_step s j ≡ Miss)
unfolding posting
posting_was s i j t rs T A m h f =
    let a = and_inv (posting_line s i) _ j rs h in
    let g = subst (Every Fine) a.5 f in
    let L = post_line_was s i a.0 t a.1 T A m a.3 (every_left Fine a.1 a.2 g) in
    let M = metadata_was s a.0 j _ a.2 T L.place a.4 (every_right Fine a.1 a.2 g) in
    let l = L.is in (
      record {
        rest = M.0.rest;
        place = M.0.place;
        is = (l.0, l.1, l.2, items s a.2, l.3, l.4, l.5, M.0.is, ap (items s) a.5 ∙ items_append s a.1 a.2 ∙ ap (λ z. z ++ items s a.2) l.6);
      },
      M.1,
    )

body_step_was : (s : List ℕ) → Tidy s → (i j : ℕ) (t : List ℕ) (rs : List Detail) → meta_step s i ≡ Miss → At s i t → body_step s i ≡ To j rs → Every Fine rs
    → There s j rs OnePost × (meta_step s j ≡ Miss)
unfolding body_step meta_step
body_step_was s T i j t rs p A h f = go (else_inv (posting s i) (empty_line s i) j rs h)
  where
    m : empty_line {A = Detail} s i ≡ Miss
    m = (else_miss (meta_line s i) (empty_line s i) p).1

    go : (posting s i ≡ To j rs) ⊎ ((posting s i ≡ Miss) × (empty_line s i ≡ To j rs)) → There s j rs OnePost × (meta_step s j ≡ Miss)
    go (inl h) = posting_was s i j t rs T A m h f
    go (inr h) = let n = h.1 in let k : empty_line {A = Detail} s i ≡ Miss = m in absurd (let z : ◌≡◌ {A = ℕ} 0 1 = cc in omega arith)

pub body_was : (s : List ℕ) (i j : ℕ) (t : List ℕ) (rs : List Detail) → Tidy s → meta_step s i ≡ Miss → At s i t → body s i ≡ To j rs → Every Fine rs
    → There s j rs Posts × (body_step s j ≡ Miss) × (meta_step s j ≡ Miss)
unfolding body
body_was s i j t rs T p A h f =
    many_was s (body_step s) (λ i. meta_step s i ≡ Miss) OnePost Posts (body_step_reach s) (body_step_was s T) no_posts join_posts (suc (length s)) i j t rs p A (omega (arith, A.fits)) h f

-- ---- again

abbrev pub BodyStop : List ℕ → Type 0
BodyStop post = (s : List ℕ) (j : ℕ) → At s j post → body_step s j ≡ Miss

pub posts_stop : {ms : List Item} (P : Posts ms) (post : List ℕ) → MetaStop post → MetaStop (posts_text P post)
unfolding posts_text
posts_stop no_posts post stop = stop
posts_stop (one_post F w C U M Ps) post stop = line_stop F w C U _

metas_long : {ms : List Item} (M : Metas ms) (y : List ℕ) → length y ≤ length (metas_text M y)
metas_long M y = omega (arith, ap length (metas_behind M [] y), length-append (metas_text M []) y)

shorter : (x y : List ℕ) {ms : List Item} (M : Metas ms) → length y < length (x ++ (10 ∷ metas_text M y))
shorter x y M = omega (arith, length-append x (10 ∷ metas_text M y), metas_long M y)

post_loop : (s : List ℕ) {ms : List Item} (P : Posts ms) (post : List ℕ) → MetaStop post → BodyStop post → Loop s (body_step s) post ms (posts_text P post)
unfolding posts_text body_step posting
post_loop s no_posts post stop halt = done (λ i A. halt s i A)
post_loop s (one_post {f} {us} {ms} {ps} F w C U M Ps) post stop halt =
    let v = posts_text Ps post in
    turn {ms = post_item f w ∷ (us ++ ms)} {u = v} (λ i A. first_reads _
    (and_reads (post_item f w ∷ us) ms (post_line_is F w C U (metas_text M v) A) (λ l L. metadata_is M v (posts_stop Ps post stop) L)))
    (shorter (line_text f w U) v M) (post_loop s Ps post stop halt)

pub body_is : {s : List ℕ} {i : ℕ} {ms : List Item} (P : Posts ms) (post : List ℕ) → MetaStop post → BodyStop post → At s i (posts_text P post) → Reads s (body s i) ms post
unfolding body
body_is {s} {i} P post stop halt A = loop_reads (post_loop s P post stop halt) (suc (length s)) i (omega (arith, A.fits)) A

-- ---- what they write

starts_metas : {ms : List Item} (M : Metas ms) (ds : List Item) → Starts ds → Starts (ms ++ ds)
starts_metas no_metas ds S = S
starts_metas (one_meta M Ms) ds S = λ k l h. meta_kind M k (omega arith)

starts_posts : {ps : List Item} (P : Posts ps) (ds : List Item) → ltb (kind_of ds) 20 ≡ true → Starts (ps ++ ds)
starts_posts no_posts ds e = λ k l h. ne_eqb (kind_of ds) k (λ f. absurd (omega (arith, ltb-true (kind_of ds) 20 e)))
starts_posts (one_post F w C U M Ps) ds e = λ k l h. ne_eqb 33 k (λ f. absurd (omega arith))

line_print : (f : ℕ) (w : List ℕ) {us : List Item} (U : Units us) (k : ℕ) (prev : Item) (ds : List Item) → Starts ds
    → (last : Item) × (printed k prev (post_item f w ∷ (us ++ ds)) ≡ 10 ∷ (line_text f w U ++ printed k last ds))
unfolding line_text flag_text detail_text posting_text
line_print f w {us} U k prev ds S =
    let rest = printed k (units_last (post_item f w) U) ds in
    let x : List ℕ = cond (eqb f 0) [] (f ∷ 32 ∷ []) in (
      units_last (post_item f w) U,
      print_detail k prev (post_item f w) (us ++ ds) refl ∙ ap (λ z. 10 ∷ 32 ∷ 32 ∷ z) (
          append_assoc x w (printed k (post_item f w) (us ++ ds)) ∙ ap (λ z. x ++ (w ++ z)) (units_print U k (post_item f w) ds refl S)
          ∙ ap (λ z. x ++ z) (sym (append_assoc w (units_text U) rest)) ∙ sym (append_assoc x (w ++ units_text U) rest)),
    )

pub posts_print : {ps : List Item} (P : Posts ps) (k : ℕ) (prev : Item) (ds : List Item) (post : List ℕ) → ltb (kind_of ds) 20 ≡ true
    → ((prev : Item) → printed k prev ds ≡ 10 ∷ post) → printed k prev (ps ++ ds) ≡ 10 ∷ posts_text P post
unfolding posts_text
posts_print no_posts k prev ds post e f = f prev
posts_print (one_post {f} {us} {ms} {ps} F w C U M Ps) k prev ds post e h =
    let rest = ms ++ (ps ++ ds) in
    let q : ((us ++ ms) ++ ps) ++ ds ≡ us ++ rest = append_assoc (us ++ ms) ps ds ∙ append_assoc us ms (ps ++ ds) in
    let L = line_print f w U k prev rest (starts_metas M (ps ++ ds) (starts_posts Ps ds e)) in
    ap (λ z. printed k prev (post_item f w ∷ z)) q ∙ L.1 ∙ ap (λ z. 10 ∷ (line_text f w U ++ z)) (metas_print M k L.0 (ps ++ ds) (posts_text Ps post) (λ prev. posts_print Ps k prev ds post e h))

flag_neat : {f : ℕ} (F : PFlag f) → Neat (flag_text f)
unfolding flag_text
flag_neat unflagged = neat_none
flag_neat (flagged f p S R) = subst (λ z. Neat (cond z [] (f ∷ 32 ∷ []))) (sym (flag_some f p)) (neat_cons f _ R (neat_space [] neat_none))

pub posts_neat : {ps : List Item} (P : Posts ps) (post : List ℕ) → Neat post → Neat (posts_text P post)
unfolding posts_text line_text
posts_neat no_posts post N = N
posts_neat (one_post {f} F w C U M Ps) post N =
    neat_join (line_text f w U) _ (neat_space _ (neat_space _ (neat_join (flag_text f) _ (flag_neat F) (neat_join w _ (neat_account w C) (units_neat U)))))
    (neat_cons 10 _ free_feed (metas_neat M _ (posts_neat Ps post N)))

pub posts_behind : {ps : List Item} (P : Posts ps) (x y : List ℕ) → posts_text P x ++ y ≡ posts_text P (x ++ y)
unfolding posts_text
posts_behind no_posts x y = refl
posts_behind (one_post {f} F w C U M Ps) x y =
    append_assoc (line_text f w U) (10 ∷ metas_text M (posts_text Ps x)) y ∙ ap (λ z. line_text f w U ++ (10 ∷ z)) (metas_behind M (posts_text Ps x) y ∙ ap (metas_text M) (posts_behind Ps x y))
