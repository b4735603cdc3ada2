-- A blank entry is kept byte by byte, and is blank again.
use Prim.Native.Nat.{ℕ, ◌+◌}
use native.Mathlib.Omega.{arith}
use mathlib.Core.Path.{sym, ◌∙◌, ◌≡◌, refl, ap, subst}
use mathlib.Core.Bool.{Bool, true, false, cond}
use mathlib.Core.List.{List, [], ◌∷◌, ◌++◌, append_assoc}
use borrow.Author.Tests.{eqb-true, not-true}
use lib.Dec.{eqb}
use lib.ListN.{length, get_or, drop, length-append}
use Rattle.text.specs.Bytes.{in_line, in_tag, between}
use Rattle.text.specs.Run.{run_from, run_to}
use Rattle.text.specs.Answer.{Ans, To, Miss}
use Rattle.text.proofs.TestLaws.{or_left, or_right}
use Rattle.text.proofs.Ats.{At, at_start_lem, at_next, at_byte}
use Rattle.text.proofs.Inversions.{not_miss}
use Rattle.text.specs.Every.{Every}
use Rattle.amount.specs.declared.detail.Detail.{Detail}
use Rattle.entry.specs.Forms.{Form, as_entry, directive, blank, form_of}
use Rattle.text.proofs.InLine.{no_lf}
use Rattle.layout.specs.Meaning.{Item, texted}
use Rattle.layout.specs.Written.{head_text, closing, printed, no_item}
use Rattle.layout.specs.Claim.{holds_quote}
use Rattle.layout.proofs.Texts.{Tidy, at_split}
use Rattle.layout.proofs.Numbers.{All}
use Rattle.layout.proofs.Values.{run_at}
use Rattle.layout.proofs.Tokens.{ran}
use Rattle.layout.proofs.Neats.{Neat, neat_line}
use Rattle.layout.proofs.Bodies.{print_end, print_entry}
use Rattle.layout.proofs.Choices.{Made, as_inv, made_second, tried_last}
use Rattle.layout.proofs.Compose.{Boundary, Renewed}
use Rattle.layout.proofs.Wordings.{form_tried, wordings}
use Rattle.layout.proofs.QuietLines.{Line, Spot, last, line_head, line_some, on}
use Rattle.layout.proofs.EntryTwins.{directive_follow, meta_follow, body_follow, wordings_follow}

-- ---- its line

line_of : (xs : List ℕ) → All in_line xs → holds_quote (xs ++ (10 ∷ [])) ≡ false → Line (xs ++ (10 ∷ []))
unfolding holds_quote in_line
line_of [] h q = last
line_of (x ∷ xs) h q = on x (not-true (eqb x 10) h.0) (or_left (eqb x 34) (holds_quote (xs ++ (10 ∷ []))) q) (line_of xs h.1 (or_right (eqb x 34) (holds_quote (xs ++ (10 ∷ []))) q))

-- a blank line at the front of a text
pub record Kept (s : List ℕ) (n : ℕ) (f : Form) : Type 0 where
  pub xs : List ℕ
  pub rest : List ℕ
  pub all : All in_line xs
  pub is : s ≡ (xs ++ (10 ∷ [])) ++ rest
  pub size : n ≡ length (xs ++ (10 ∷ []))
  pub form : f ≡ record { kind = 1; date = 0; details = [] }

ans_if : {A : Type 0} (c : Bool) (x : Ans A) (n : ℕ) (f : A) → cond c x Miss ≡ To n f → (c ≡ true) × (x ≡ To n f)
ans_if true x n f e = (refl, e)
ans_if false x n f e = not_miss e

to_size : (a n : ℕ) (rs : List Detail) → ◌≡◌ {A = Ans (List Detail)} (To a []) (To n rs) → n ≡ a
to_size a n rs e = cc

to_none : (a n : ℕ) (rs : List Detail) → ◌≡◌ {A = Ans (List Detail)} (To a []) (To n rs) → rs ≡ []
to_none a n rs e = cc

pub blank_was : (s : List ℕ) (n : ℕ) (f : Form) → blank s ≡ To n f → Kept s n f
unfolding blank run_to
blank_was s n f h =
    let e = run_from in_line s 0 in
    let a = ans_if (eqb (get_or s e 0) 10) _ n f h in
    let b = as_inv 1 0 (To (e + 1) []) n f a.1 in
    let R = ran in_line s 0 in
    made R.xs R.ys R.cut R.all b.0 (e) R.end b.1 b.2 (eqb-true (get_or s e 0) 10 a.0)
  where
    made : (xs ys : List ℕ) → s ≡ xs ++ ys → All in_line xs → (rs : List Detail) (e : ℕ) → e ≡ 0 + length xs → To (e + 1) [] ≡ To n rs
        → f ≡ record { kind = 1; date = 0; details = rs } → get_or s e 0 ≡ 10 → Kept s n f
    made xs ys c al rs e p q w g = cut ys c (sym (at_byte (at_next xs ys (subst (At s 0) c (at_start_lem s)))) ∙ ap (λ z. get_or s z 0) (sym p) ∙ g)
      where
        cut : (ys : List ℕ) → s ≡ xs ++ ys → get_or ys 0 0 ≡ 10 → Kept s n f
        cut [] c g = absurd (omega arith)
        cut (y ∷ ys) c g = record {
          xs = xs;
          rest = ys;
          all = al;
          is = c ∙ ap (λ z. xs ++ (z ∷ ys)) g ∙ sym (append_assoc xs (10 ∷ []) ys);
          size = to_size (e + 1) n rs q ∙ omega (arith, length-append xs (10 ∷ []), p);
          form = w ∙ ap (λ z. record { kind = 1; date = 0; details = z }) (to_none (e + 1) n rs q);
        }

-- ---- again

blank_again : (xs v : List ℕ) → All in_line xs → blank ((xs ++ (10 ∷ [])) ++ v) ≡ To (length (xs ++ (10 ∷ []))) (record { kind = 1; date = 0; details = [] })
unfolding blank as_entry
blank_again xs v h =
    let t = (xs ++ (10 ∷ [])) ++ v in
    let A : At t 0 (xs ++ (10 ∷ v)) = subst (At t 0) (append_assoc xs (10 ∷ []) v) (at_start_lem t) in
    rw (run_at t in_line xs (10 ∷ v) 0 A h no_lf.line, at_byte (at_next xs (10 ∷ v) A))
    (ap (λ z. To z (record { kind = 1; date = 0; details = [] })) {x = 0 + length xs + 1} {y = length (xs ++ (10 ∷ []))} (omega (arith, length-append xs (10 ∷ []))))

after : (x v : List ℕ) → At (x ++ v) (length x) v
after x v = let e : 0 + length x ≡ length x = omega arith in subst (λ z. At (x ++ v) z v) e (at_next x v (at_start_lem (x ++ v)))

module _ (s : List ℕ) (n : ℕ) (f : Form) (K : Kept s n f) (quiet : holds_quote (between s 0 n) ≡ false) (T : Tidy s) where
  line : List ℕ
  line = K.xs ++ (10 ∷ [])

  start : At s 0 (line ++ K.rest)
  unfolding line
  start = subst (At s 0) K.is (at_start_lem s)

  whole : (between s 0 n ≡ line) × At s n K.rest
  unfolding line
  whole = at_split line K.rest n start (K.size ∙ omega arith)

  is_line : Line line
  unfolding line
  is_line = line_of K.xs K.all (subst (λ z. holds_quote z ≡ false) whole.0 quiet)

  spot : (S u : List ℕ) (a b : ℕ) (v : List ℕ) → At S a s → At u b (line ++ v) → Spot S u a b
  unfolding line
  spot S u a b v A B = record { u = line; r = K.rest; v = v; line = is_line; here = subst (At S a) K.is A; there = B }

  front : (v : List ℕ) → Boundary s (line ++ v)
  front v = record {
    meta = λ S u a b A B h. meta_follow (spot S u a b v A B) h;
    body = λ S u a b A B h k. body_follow (spot S u a b v A B) h k;
    tag = λ h. first_same v h;
  }
    where
      first_same : (v : List ℕ) → in_tag (get_or s 0 0) ≡ false → in_tag (get_or (line ++ v) 0 0) ≡ false
      first_same v h = subst (λ z. in_tag z ≡ false) (at_byte start ∙ line_head is_line K.rest v) h

  neat_of : Neat line
  unfolding line
  neat_of = neat_line K.xs K.rest (subst Tidy (K.is ∙ append_assoc K.xs (10 ∷ []) K.rest) T)

  -- what the line was not, it is not
  module _ (d : directive s ≡ Miss) (m : Every (λ c. c.reads s 0 ≡ Miss) wordings) where
    again : (v : List ℕ) → Made (line ++ v) (form_of (line ++ v)) 1 0 [] v
    unfolding line
    again v =
        let z = line ++ v in
        let S = spot s z 0 0 v (at_start_lem s) (at_start_lem z) in
        subst (λ a. Made z a 1 0 [] v) (sym (form_tried z))
        (made_second (directive_follow S d) (record {
          to = length line;
          rows = [];
          eq = tried_last z 0 0 wordings (blank z) (wordings_follow S m) ∙ blank_again K.xs v K.all;
          rest = after line v;
          same = refl;
          fine = tt;
        }))

    pub blank_renewed : Renewed s (record { kind = 1; text = between s 0 n; other = []; number = 0; bits = 0 }) [] (drop n s)
    unfolding texted head_text closing
    blank_renewed = record {
      text = line;
      some = line_some is_line;
      own = ap (λ z. record { kind = 1; text = z; other = []; number = 0; bits = 0 }) whole.0;
      prints = λ j prev ds e.
          let m : Item = record { kind = 1; text = between s 0 n; other = []; number = 0; bits = 0 } in
          print_entry j prev m ds refl ∙ ap (λ z. closing j ++ (between s 0 n ++ z)) (print_end 1 m ds e) ∙ ap (λ z. closing j ++ (z ++ printed 0 no_item ds)) whole.0;
      reads = λ v B. again v;
      front = λ v B. front v;
      tidy = neat_of.before;
    }
