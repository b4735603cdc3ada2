-- The strict profile's judgement of an entry, from what the code knows where it answers.
use Rattle.std.specs.Prelude.{None, Option, Some}
use Prim.Native.Nat.{ℕ, ◌+◌, ◌-◌}
use mathlib.Core.Path.{◌≡◌, refl, sym, ◌∙◌, ap}
use mathlib.Core.Bool.{Bool, true, false, cond, not, ◌||◌, ◌&&◌}
use mathlib.Core.List.{List}
use borrow.Author.Tests.{ne_eqb}
use lib.Dec.{eqb}
use lib.ListN.{get_or, take, drop, length}
use Rattle.text.specs.Bytes.{bytes, is_blank, is_digit, is_small}
use Rattle.text.specs.Run.{run_to}
use Rattle.text.specs.Words.{starts_with, word_at}
use Rattle.text.specs.Lines.{line_end_at}
use Rattle.ledger.specs.Strict.{missed, lost_line}
use Rattle.ledger.specs.steps.Objections.{objection_of, flag_passes, lost_of, flag_of, entry_objection}
use Rattle.ledger.specs.declared.strict.Objection.{Objection}
use Rattle.entry.proofs.UndatedLaws.{option_word}

pub missed_to : (r : Option ℕ) (e : ℕ) → r ≡ Some e → false ≡ missed r
missed_to r e h = rw h

pub missed_miss : (r : Option ℕ) → r ≡ None → true ≡ missed r
missed_miss r h = rw h

pub ruleset misses_laws = (missed_to, missed_miss)

pub flag_byte : (b : ℕ) (c : Bool) → c ≡ is_small b → ((eqb b 42 || eqb b 33) || c) ≡ flag_passes b
unfolding flag_passes
flag_byte b c e = rw e

pub ruleset flag_laws = flag_byte

module _ (s : List ℕ) (b : ℕ) (c : Bool) (e : c ≡ is_blank b) where
  pub stray_on : (x : Option ℕ) (m : Bool) → c ≡ true → x ≡ line_end_at s 0 → m ≡ missed x → m ≡ (is_blank b && missed (line_end_at s 0))
  stray_on x m t h f = f ∙ ap missed h ∙ ap (λ z. z && missed (line_end_at s 0)) (sym t ∙ e)

  pub stray_off : c ≡ false → false ≡ (is_blank b && missed (line_end_at s 0))
  stray_off t = ap (λ z. z && missed (line_end_at s 0)) (sym t ∙ e)

pub ruleset stray_laws = (stray_on, stray_off)

-- ---- a lost line: b is its first byte, c and d the code's first two tests

word_missed : (w s : List ℕ) → missed (word_at w s 0) ≡ not (starts_with w s)
unfolding word_at
word_missed w s = go (starts_with w s)
  where
    go : (t : Bool) → missed (cond t (Some (0 + length w)) None) ≡ not t
    go true = refl
    go false = refl

module _ (s : List ℕ) (b : ℕ) (eb : b ≡ get_or s 0 0) (c : Bool) (ec : c ≡ is_digit b) where
  first_test : is_digit (get_or s 0 0) ≡ c
  first_test = ap is_digit (sym eb) ∙ sym ec

  pub lost_digit : c ≡ true → true ≡ lost_line s
  unfolding lost_line
  lost_digit t = rw (first_test, t)

  module _ (nc : c ≡ false) (d : Bool) (ed : d ≡ (is_blank b && missed (line_end_at s 0))) where
    second_test : (is_blank (get_or s 0 0) && missed (line_end_at s 0)) ≡ d
    second_test = ap (λ z. is_blank z && missed (line_end_at s 0)) (sym eb) ∙ sym ed

    pub lost_stray : d ≡ true → true ≡ lost_line s
    unfolding lost_line
    lost_stray t = rw (first_test, nc, second_test, t)

    module _ (nd : d ≡ false) (x : Option ℕ) (ex : x ≡ word_at option_word s 0) (m : Bool) (em : m ≡ missed x) where
      third_test : lost_line s ≡ not m
      unfolding lost_line bytes
      third_test = rw (first_test, nc, second_test, nd, em, ex, word_missed option_word s) (sym (not_not (starts_with option_word s)))
        where
          not_not : (t : Bool) → not (not t) ≡ t
          not_not true = refl
          not_not false = refl

      pub lost_none : m ≡ true → false ≡ lost_line s
      lost_none t = sym (third_test ∙ ap not t)

      pub lost_option : m ≡ false → true ≡ lost_line s
      lost_option t = sym (third_test ∙ ap not t)

pub ruleset lost_line_laws = (lost_digit, lost_stray, lost_none, lost_option)

module _ (s : List ℕ) (c : Bool) (e : c ≡ lost_line s) where
  pub lost_yes : c ≡ true → Some (objection_of 16 0) ≡ lost_of s
  unfolding lost_of
  lost_yes t = rw (← e, t)

  pub lost_no : c ≡ false → None ≡ lost_of s
  unfolding lost_of
  lost_no t = rw (← e, t)

pub ruleset lost_laws = (lost_yes, lost_no)

-- ---- a flag

module _ (s : List ℕ) (g : ℕ) (eg : g ≡ run_to is_blank s 10) (b : ℕ) (eb : b ≡ get_or s g 0) (c : Bool) (ec : c ≡ flag_passes b) where
  flag_test : flag_passes (get_or s (run_to is_blank s 10) 0) ≡ c
  flag_test = ap (λ z. flag_passes (get_or s z 0)) (sym eg) ∙ ap flag_passes (sym eb) ∙ sym ec

  pub flag_yes : c ≡ true → None ≡ flag_of s
  unfolding flag_of
  flag_yes t = rw (flag_test, t)

  pub flag_no : c ≡ false → Some (objection_of 17 g) ≡ flag_of s
  unfolding flag_of
  flag_no t = rw (flag_test, t, eg)

pub ruleset flagged_laws = (flag_yes, flag_no)

-- ---- an entry

module _ (s : List ℕ) (n k : ℕ) (r : Option Objection) where
  pub against_line : k ≡ 1 → r ≡ lost_of (take (n - 0) (drop 0 s)) → r ≡ entry_objection k n s
  unfolding entry_objection
  against_line h e = rw h e

  pub against_flag : k ≡ 6 → r ≡ flag_of s → r ≡ entry_objection k n s
  unfolding entry_objection
  against_flag h e = rw h e

pub against_none : (s : List ℕ) (n k : ℕ) → (k ≡ 1 → ⊥) → (k ≡ 6 → ⊥) → None ≡ entry_objection k n s
unfolding entry_objection
against_none s n k h i = rw (ne_eqb k 1 h, ne_eqb k 6 i)

pub ruleset against_laws = (against_line, against_flag, against_none)
