-- The tags and links of a head.
use Prim.Native.Nat.{ℕ, suc, ◌+◌, ◌<◌}
use native.Mathlib.Omega.{arith}
use mathlib.Core.Path.{◌≡◌, refl, sym, ◌∙◌, ap, subst}
use mathlib.Core.Bool.{Bool, false}
use mathlib.Core.List.{List, [], ◌∷◌, ◌++◌, append_assoc}
use mathlib.Core.Logic.{◌⊎◌, inl, inr}
use lib.ListN.{length, get_or, drop, length-append}
use Rattle.text.specs.Bytes.{is_blank, is_small, is_digit, is_capital, in_tag, in_link}
use Rattle.text.specs.Run.{blanks}
use Rattle.text.specs.Answer.{To, Miss, ◌and◌, ◌else◌}
use Rattle.text.specs.Leaves.{token, tag, link}
use Rattle.text.specs.Tags.{marked_at}
use Rattle.text.proofs.Ats.{At, at_next, at_one, at_byte, at_drop}
use Rattle.text.proofs.Inversions.{and_inv, token_inv, else_inv, to_inv}
use Rattle.text.proofs.TokenEnds.{run_reach}
use Rattle.text.specs.Every.{Every}
use Rattle.amount.specs.Details.{span}
use Rattle.amount.specs.declared.detail.Detail.{Detail}
use Rattle.row.specs.Details.{spanned}
use Rattle.transaction.specs.Transaction.{mark, marks}
use Rattle.transaction.proofs.TransactionEnds.{mark_reach}
use Rattle.layout.specs.Meaning.{Item, texted}
use Rattle.layout.specs.Written.{detail_text, printed}
use Rattle.layout.proofs.Texts.{at_split}
use Rattle.layout.proofs.Numbers.{All}
use Rattle.layout.proofs.Values.{stops_at, line_blank, one_space, shown}
use Rattle.layout.proofs.Tokens.{marked_taken, marked_again}
use Rattle.layout.proofs.Neats.{Neat, neat_none, neat_join, neat_cons, neat_space, neat_all, free_range, free_tag, free_link}
use Rattle.layout.proofs.Readings.{items, Fine, text_item, Reads, skip_reads, There, token_reads, first_reads, second_reads, Loop, done, turn, loop_reads, TextKind}
use Rattle.layout.proofs.Marks.{reached}
use Rattle.layout.proofs.Parts.{IsText, one_span, text_row_lem, tag_kind_lem}
use Rattle.layout.proofs.Bodies.{print_detail}
use Rattle.layout.proofs.Loops.{many_was}

pub data Marked : List Item → Type 0 where
  no_marks : Marked []
  a_tag : (t : List ℕ) {ms : List Item} → All in_tag t → Marked ms → Marked (text_item 23 t ∷ ms)
  a_link : (t : List ℕ) {ms : List Item} → All in_link t → Marked ms → Marked (text_item 24 t ∷ ms)

unfoldable pub marks_text : {ms : List Item} → Marked ms → List ℕ
marks_text no_marks = []
marks_text (a_tag t H M) = 32 ∷ 35 ∷ (t ++ marks_text M)
marks_text (a_link t H M) = 32 ∷ 94 ∷ (t ++ marks_text M)

link_kind_lem : TextKind 24
unfolding texted spanned
link_kind_lem = (refl, refl)

abbrev OneMark : List Item → Type 0
OneMark ms = IsText (All in_tag) 23 ms ⊎ IsText (All in_link) 24 ms

join_marks : (ms ns : List Item) → OneMark ms → Marked ns → Marked (ms ++ ns)
join_marks ms ns (inl a) M = subst (λ z. Marked (z ++ ns)) (sym a.2) (a_tag a.0 a.1 M)
join_marks ms ns (inr a) M = subst (λ z. Marked (z ++ ns)) (sym a.2) (a_link a.0 a.1 M)

-- a mark m and a run of p, with its row k
module _ (s : List ℕ) (b j : ℕ) (t : List ℕ) (rs : List Detail) (A : At s b t) (m k : ℕ) (p : ℕ → Bool) (h : 0 < m) (K : TextKind k) where
  marked_row : (token {A = Detail} (marked_at m p s b) and λ e. To e (span k (b + 1) e ∷ [])) ≡ To j rs → IsText (All p) k (items s rs)
  marked_row q =
      let c = and_inv (token {A = Detail} (marked_at m p s b)) _ j rs q in
      let d = token_inv (marked_at m p s b) c.0 c.1 c.3 in
      let M = marked_taken m p h A d.0 in
      let e = to_inv c.0 j _ c.2 c.4 in
      let C : At s (b + 1) (M.0 ++ M.1) = at_one (subst (At s b) M.2 A) in
      let x = at_split M.0 M.1 j C (sym e.0 ∙ M.3) in
      one_span s (All p) k (b + 1) j rs _ K (c.5 ∙ ap (λ z. z ++ c.2) d.1 ∙ e.1 ∙ ap (λ z. span k (b + 1) z ∷ []) e.0) refl (subst (All p) (sym x.0) M.4)

mark_was : (s : List ℕ) (i j : ℕ) (t : List ℕ) (rs : List Detail) → Unit {0} → At s i t → mark s i ≡ To j rs → Every Fine rs → There s j rs OneMark × Unit {0}
unfolding mark tag link
mark_was s i j t rs u A h f = (record { rest = drop j s; place = reached {s = s} (mark_reach s i (omega (arith, A.fits))) (whole h); is = go (else_inv _ _ j rs h) }, tt)
  where
    b : ℕ
    b = blanks s i

    B : At s b (drop b s)
    B = at_drop s b (run_reach is_blank s i (omega (arith, A.fits))).1

    whole : ((token {A = Detail} (marked_at 35 in_tag s (blanks s i)) and λ e. To e (span 23 (blanks s i + 1) e ∷ [])) else
        (token {A = Detail} (marked_at 94 in_link s (blanks s i)) and λ e. To e (span 24 (blanks s i + 1) e ∷ []))) ≡ To j rs
        → mark s i ≡ To j rs
    whole h = h

    go : ((token {A = Detail} (marked_at 35 in_tag s (blanks s i)) and λ e. To e (span 23 (blanks s i + 1) e ∷ [])) ≡ To j rs) ⊎
        (((token {A = Detail} (marked_at 35 in_tag s (blanks s i)) and λ e. To e (span 23 (blanks s i + 1) e ∷ [])) ≡ Miss) ×
        ((token {A = Detail} (marked_at 94 in_link s (blanks s i)) and λ e. To e (span 24 (blanks s i + 1) e ∷ [])) ≡ To j rs))
        → OneMark (items s rs)
    go (inl h) = inl (marked_row s (blanks s i) j _ rs B 35 23 in_tag (omega arith) tag_kind_lem h)
    go (inr h) = inr (marked_row s (blanks s i) j _ rs B 94 24 in_link (omega arith) link_kind_lem h.1)

pub marks_was : (s : List ℕ) (i j : ℕ) (t : List ℕ) (rs : List Detail) → At s i t → marks s i ≡ To j rs → Every Fine rs → There s j rs Marked
unfolding marks
marks_was s i j t rs A h f = (many_was s (mark s) (λ _. Unit {0}) OneMark Marked (mark_reach s) (mark_was s) no_marks join_marks (suc (length s)) i j t rs tt A (omega (arith, A.fits)) h f).0

marks_after : {ms : List Item} (M : Marked ms) (t : List ℕ) → (in_tag (get_or (marks_text M ++ (10 ∷ t)) 0 0) ≡ false) × (in_link (get_or (marks_text M ++ (10 ∷ t)) 0 0) ≡ false)
unfolding marks_text in_tag in_link is_capital is_small is_digit
marks_after no_marks t = (refl, refl)
marks_after (a_tag w H M) t = (refl, refl)
marks_after (a_link w H M) t = (refl, refl)

pub mark_misses : {s : List ℕ} {i : ℕ} (t : List ℕ) → At s i (10 ∷ t) → mark s i ≡ Miss
unfolding mark tag link marked_at token ◌and◌ ◌else◌
mark_misses {s} {i} t A = rw (stops_at s is_blank i (10 ∷ t) A line_blank, at_byte A)

tag_is : {s : List ℕ} {i : ℕ} (t x : List ℕ) → All in_tag t → in_tag (get_or x 0 0) ≡ false → At s i (32 ∷ 35 ∷ (t ++ x)) → Reads s (mark s i) (text_item 23 t ∷ []) x
unfolding mark tag
tag_is {s} {i} t x H o A =
    let B = at_one A in
    rw (one_space s i A (shown 35 (omega arith)))
    (first_reads _ (skip_reads (token_reads (marked_again 35 in_tag t x H o B) (at_next t x (at_one B))) (λ j D. text_row_lem 23 (i + 1 + 1) j t x tag_kind_lem (at_one B) D)))

no_tag : (s : List ℕ) (b : ℕ) (t : List ℕ) → At s b (94 ∷ t) → (tag {A = Detail} s b and λ e. To e (span 23 (b + 1) e ∷ [])) ≡ Miss
unfolding tag marked_at token ◌and◌
no_tag s b t A = rw (at_byte A)

link_is : {s : List ℕ} {i : ℕ} (t x : List ℕ) → All in_link t → in_link (get_or x 0 0) ≡ false → At s i (32 ∷ 94 ∷ (t ++ x)) → Reads s (mark s i) (text_item 24 t ∷ []) x
unfolding mark link
link_is {s} {i} t x H o A =
    let B = at_one A in
    rw (one_space s i A (shown 94 (omega arith)))
    (second_reads (no_tag s (i + 1) _ B) (skip_reads (token_reads (marked_again 94 in_link t x H o B) (at_next t x (at_one B))) (λ j D. text_row_lem 24 (i + 1 + 1) j t x link_kind_lem (at_one B) D)))

marks_loop : (s : List ℕ) {ms : List Item} (M : Marked ms) (t : List ℕ) → Loop s (mark s) (10 ∷ t) ms (marks_text M ++ (10 ∷ t))
unfolding marks_text
marks_loop s no_marks t = done (λ i A. mark_misses t A)
marks_loop s (a_tag w {ms} H M) t =
    let u = marks_text M ++ (10 ∷ t) in
    let e : (w ++ marks_text M) ++ (10 ∷ t) ≡ w ++ u = append_assoc w (marks_text M) (10 ∷ t) in
    turn {ms = text_item 23 w ∷ []} {u = u} (λ i A. tag_is w u H (marks_after M t).0 (subst (λ z. At s i (32 ∷ 35 ∷ z)) e A)) (omega (arith, ap length e, length-append w u)) (marks_loop s M t)
marks_loop s (a_link w {ms} H M) t =
    let u = marks_text M ++ (10 ∷ t) in
    let e : (w ++ marks_text M) ++ (10 ∷ t) ≡ w ++ u = append_assoc w (marks_text M) (10 ∷ t) in
    turn {ms = text_item 24 w ∷ []} {u = u} (λ i A. link_is w u H (marks_after M t).1 (subst (λ z. At s i (32 ∷ 94 ∷ z)) e A)) (omega (arith, ap length e, length-append w u)) (marks_loop s M t)

pub marks_is : {s : List ℕ} {i : ℕ} {ms : List Item} (M : Marked ms) (t : List ℕ) → At s i (marks_text M ++ (10 ∷ t)) → Reads s (marks s i) ms (10 ∷ t)
unfolding marks
marks_is {s} {i} M t A = loop_reads (marks_loop s M t) (suc (length s)) i (omega (arith, A.fits)) A

pub marks_neat : {ms : List Item} (M : Marked ms) → Neat (marks_text M)
unfolding marks_text
marks_neat no_marks = neat_none
marks_neat (a_tag w H M) = neat_space _ (neat_cons 35 _ (free_range 35 (omega arith) (omega arith)) (neat_join w _ (neat_all in_tag free_tag w H) (marks_neat M)))
marks_neat (a_link w H M) = neat_space _ (neat_cons 94 _ (free_range 94 (omega arith) (omega arith)) (neat_join w _ (neat_all in_link free_link w H) (marks_neat M)))

pub marks_last : {ms : List Item} → Item → Marked ms → Item
marks_last prev no_marks = prev
marks_last prev (a_tag w H M) = marks_last (text_item 23 w) M
marks_last prev (a_link w H M) = marks_last (text_item 24 w) M

pub marks_print : {ms : List Item} (M : Marked ms) (k : ℕ) (prev : Item) (ds : List Item) → printed k prev (ms ++ ds) ≡ marks_text M ++ printed k (marks_last prev M) ds
unfolding marks_text marks_last detail_text
marks_print no_marks k prev ds = refl
marks_print (a_tag w {ms} H M) k prev ds =
    print_detail k prev (text_item 23 w) (ms ++ ds) refl ∙ ap (λ z. 32 ∷ 35 ∷ (w ++ z)) (marks_print M k (text_item 23 w) ds) ∙ ap (λ z. 32 ∷ 35 ∷ z) (sym (append_assoc w (marks_text M) _))
marks_print (a_link w {ms} H M) k prev ds =
    print_detail k prev (text_item 24 w) (ms ++ ds) refl ∙ ap (λ z. 32 ∷ 94 ∷ (w ++ z)) (marks_print M k (text_item 24 w) ds) ∙ ap (λ z. 32 ∷ 94 ∷ z) (sym (append_assoc w (marks_text M) _))
