-- What each turn of the engine keeps.
use Rattle.text.specs.steps.Told.{Reading}
use Rattle.text.specs.declared.stop.Stop.{Stop}
use Rattle.std.specs.Prelude.{Err, Ok}
use Rattle.text.specs.declared.stop.Cause.{Cause}
use Rattle.decimal.specs.Faults.{Value}
use Prim.Native.Nat.{ℕ, zero, suc, ◌+◌, ◌-◌, ◌^◌, ◌≤◌, ◌<◌}
use mathlib.Core.Path.{◌≡◌, refl, sym, ap, subst, ◌∙◌}
use mathlib.Core.Bool.{Bool, true, false, cond}
use mathlib.Core.List.{List, [], ◌∷◌}
use native.Mathlib.Omega.{arith}
use native.Mathlib.Numerals.{add-one, sub-one}
use lib.Dec.{eqb}
use lib.ListN.{get_or, length, set, length-set}
use lib.Seq.{get_or-set_same, get_or-set_other}
use borrow.Author.Tests.{ne_eqb, eqb-true}
use mir.Syntax.{w64}
use mir.Val.{Fits}
use Rattle.text.specs.Run.{blanks}
use Rattle.text.specs.Answer.{Ans, To, Miss, Hard, ◌then◌, ◌else◌}
use Rattle.text.proofs.Steps.{byte_within}
use Rattle.text.proofs.TestLaws.{differ}
use Rattle.text.specs.Refusals.{too_deep}
use Rattle.amount.specs.Literal.{literal}
use Rattle.amount.specs.Expression.{Arithmetic, is_plus, is_times, closed, group, groups, within}
use Rattle.amount.specs.steps.Answers.{answer_of}
use Rattle.engine.specs.declared.Frame.{Frame}
use Rattle.engine.specs.declared.Next.{Next}
use Rattle.engine.specs.declared.Next.TheVariants.{Start, Operand, Group, Done, Missed}
use Rattle.engine.specs.steps.Turns.{first_frame, falls_to, fallback, total_of, after_of, step_of, settle_of, open_of, begin_of, taken, start_of, operand_of, shut_of}
use Rattle.engine.proofs.Invariant.{enter, resume, meaning, stack_of, Unclosed, AllUnclosed, Sound, Kept}
use Rattle.engine.proofs.Measure.{weight, either_holds, up, start_light, operand_light, shut_light}
use Rattle.engine.proofs.Meanings.{missed, shut_means, operand_means, start_means}

-- ---- where a frame falls back to, no `)` follows

times_open : (b : ℕ) → is_times b ≡ true → eqb b 41 ≡ false
unfolding is_times
times_open b e = ne_eqb b 41 (differ is_times b 41 e refl)

plus_open : (b : ℕ) → is_plus b ≡ true → eqb b 41 ≡ false
unfolding is_plus
plus_open b e = ne_eqb b 41 (differ is_plus b 41 e refl)

module _ (calc : Arithmetic) (s : List ℕ) where
  step_sound : (f : Frame) (e : ℕ) (v : Value) (t r : Bool) → is_times (get_or s (blanks s e) 0) ≡ t → is_plus (get_or s (blanks s e) 0) ≡ r → Sound calc s (step_of calc s f e v)
  unfolding Sound step_of after_of total_of fallback falls_to closed ◌then◌
  step_sound f e v true r h l = rw (h, times_open _ h)
  step_sound f e v false true h l = rw (h, l, plus_open _ l)
  step_sound f e v false false h l = rw (h, l) tt

  settle_sound : (f : Frame) (e : ℕ) (v : Value) → Sound calc s (settle_of calc s f e v)
  unfolding settle_of Sound
  settle_sound f e v = either_holds (Sound calc s) f.negated _ _ tt (step_sound f e v _ _ refl refl)

  open_sound : (f : Frame) (at : ℕ) (b : Bool) → eqb (get_or s at 0) 40 ≡ b → Unclosed calc s f → Sound calc s (open_of s f at)
  unfolding open_of Sound
  open_sound f at true h d = rw h (d, eqb-true _ 40 h)
  open_sound f at false h d = rw h d

  begin_sound : (at : ℕ) (b : Bool) → eqb (get_or s at 0) 45 ≡ b → Sound calc s (begin_of s at)
  unfolding begin_of fallback falls_to ◌then◌
  begin_sound at true h = rw h (open_sound (first_frame true) (blanks s (at + 1)) _ refl refl)
  begin_sound at false h = rw h (open_sound (first_frame false) at _ refl refl)

  taken_sound : (a : Ans Value) (k : ℕ → Value → Next) (m : Next) → ((e : ℕ) (v : Value) → Sound calc s (k e v)) → Sound calc s m → Sound calc s (taken a k m)
  unfolding taken
  taken_sound (To e v) k m p q = p e v
  taken_sound Miss k m p q = q
  taken_sound (Hard i j) k m p q = q

  start_sound : (at : ℕ) → Sound calc s (start_of calc s at)
  unfolding start_of
  start_sound at = taken_sound (literal s at) _ _ (λ e v. settle_sound (first_frame false) e v) (begin_sound at _ refl)

  operand_sound : (f : Frame) (at : ℕ) → Unclosed calc s f → Sound calc s (operand_of calc s f at)
  unfolding operand_of
  operand_sound f at d = taken_sound (literal s at) _ _ (λ e v. settle_sound f e v) (open_sound f at _ refl d)

  shut_sound : (f : Frame) (e : ℕ) (v : Value) (b : Bool) → eqb (get_or s (blanks s e) 0) 41 ≡ b → Unclosed calc s f → Sound calc s (shut_of calc s f e v)
  unfolding shut_of Sound
  shut_sound f e v true h d = rw h (settle_sound f (blanks s e + 1) v)
  shut_sound f e v false h d = rw h d

  -- ---- answers through the frames

  resume_hard : (n : ℕ) (fs : List Frame) (k : Cause) (p : ℕ) → resume calc s n fs (Hard k p) ≡ Hard k p
  unfolding resume enter ◌then◌ ◌else◌
  resume_hard n [] k p = refl
  resume_hard n (f ∷ fs) k p = resume_hard (suc n) fs k p

  -- an operand misses: each frame misses but the outermost, which falls back
  missed_resumes : (t : List Frame) (d n : ℕ) (f : Frame) → AllUnclosed calc s (stack_of t d) → Unclosed calc s f → resume calc s n (stack_of t d) (fallback calc f) ≡ fallback calc (cond (eqb d 0) f (get_or t 0 (first_frame false)))
  unfolding resume stack_of AllUnclosed
  missed_resumes t zero n f w h = refl
  missed_resumes t (suc d) n f w h =
      let b = get_or t d (first_frame false) in
      ap (resume calc s (suc n) (stack_of t d)) (missed calc s (suc n) b (fallback calc f then closed s) h)
      ∙ missed_resumes t d (suc n) b w.1 w.0 ∙ ap (fallback calc) (outer d)
    where
      outer : (d : ℕ) → cond (eqb d 0) (get_or t d (first_frame false)) (get_or t 0 (first_frame false)) ≡ cond (eqb (suc d) 0) f (get_or t 0 (first_frame false))
      outer zero = rw (ne_eqb 1 0 (λ e. omega arith))
      outer (suc d) = rw (ne_eqb (suc d) 0 (λ e. omega arith), ne_eqb (suc (suc d)) 0 (λ e. omega arith))

  -- a group opens: its frame stands on the others
  push : (m : ℕ) (fs : List Frame) (f : Frame) (p q : ℕ) → get_or s p 0 ≡ 40 → q ≡ blanks s (p + 1) → resume calc s m (f ∷ fs) (within calc m s q) ≡ resume calc s (suc m) fs (enter calc (group calc (suc m) s) s f (group calc (suc m) s p))
  unfolding resume group within
  push m fs f p q b h = rw (b, h)

  deep_enters : (n : ℕ) (f : Frame) (p : ℕ) → n ≡ 0 → get_or s p 0 ≡ 40 → enter calc (group calc n s) s f (group calc n s p) ≡ Hard too_deep p
  unfolding enter group ◌then◌ ◌else◌
  deep_enters n f p z b = rw (z, b)

-- ---- the table

stack_set : (t : List Frame) (f : Frame) (d k : ℕ) → k ≤ d → stack_of (set t d f) k ≡ stack_of t k
unfolding stack_of
stack_set t f d zero h = refl
stack_set t f d (suc k) h = rw (get_or-set_other t d k f (first_frame false) (λ e. omega arith), stack_set t f d k (omega arith))

stack_push : (t : List Frame) (f : Frame) (d : ℕ) → d < length t → stack_of (set t d f) (suc d) ≡ f ∷ stack_of t d
unfolding stack_of
stack_push t f d h = rw (get_or-set_same t d f (first_frame false), stack_set t f d d (omega arith))

-- ---- each way round the loop, and each return

kept_first : (calc : Arithmetic) (s : List ℕ) (t : List Frame) (at : ℕ) → length t ≡ groups → Kept calc s (within calc groups s at) t 0 (Start at)
unfolding resume meaning stack_of AllUnclosed Sound
kept_first calc s t at l = record { sized = l; room = omega arith; same = refl; well = tt; sound = tt }

module _ (calc : Arithmetic) (s : List ℕ) (a : Ans Value) (t : List Frame) (d : ℕ) (x : Next) (K : Kept calc s a t d x) where
  abbrev n : ℕ
  n = groups - d

  abbrev R : Next → Ans Value
  R y = resume calc s n (stack_of t d) (meaning calc s n y)

  -- another step with the same meaning
  goes : (o : Next) → meaning calc s n o ≡ meaning calc s n x → Sound calc s o → Kept calc s a t d o
  goes o m l = record { sized = K.sized; room = K.room; same = ap (resume calc s n (stack_of t d)) m ∙ K.same; well = K.well; sound = l }

  pub kept_start : (p : ℕ) (o : Next) → x ≡ Start p → o ≡ start_of calc s p → Kept calc s a t d o
  unfolding meaning
  kept_start p o e q =
      goes o (ap (meaning calc s n) q ∙ start_means calc s n p (literal s p) refl ∙ sym (ap (meaning calc s n) e)) (subst (Sound calc s) (sym q) (start_sound calc s p))

  pub kept_operand : (f : Frame) (p : ℕ) (o : Next) → x ≡ Operand f p → o ≡ operand_of calc s f p → Kept calc s a t d o
  unfolding meaning Sound
  kept_operand f p o e q =
      goes o (ap (meaning calc s n) q ∙ operand_means calc s n f p (literal s p) refl ∙ sym (ap (meaning calc s n) e))
      (subst (Sound calc s) (sym q) (operand_sound calc s f p (subst (Sound calc s) e K.sound)))

  -- what a group's frame is known by
  group_known : (f : Frame) (p : ℕ) → x ≡ Group f p → Unclosed calc s f × (get_or s p 0 ≡ 40)
  unfolding Sound
  group_known f p e = subst (Sound calc s) e K.sound

  pub kept_group : (f : Frame) (p q : ℕ) (u : List Frame) → x ≡ Group f p → d < groups → u ≡ set t d f → q ≡ blanks s (p + 1) → Kept calc s a u (d + 1) (Start q)
  unfolding meaning Sound AllUnclosed
  kept_group f p q u e h w b =
      let k = group_known f p e in
      let m = groups - (d + 1) in
      let st : stack_of u (d + 1) ≡ f ∷ stack_of t d = rw (w, add-one d) (stack_push t f d (omega (arith, K.sized))) in
      let up : suc m ≡ n = omega arith in
      record {
        sized = ap length w ∙ length-set t d f ∙ K.sized;
        room = omega arith;
        same =
            ap (λ fs. resume calc s m fs (within calc m s q)) st
            ∙ push calc s m (stack_of t d) f p q k.1 b
            ∙ ap (λ i. resume calc s i (stack_of t d) (enter calc (group calc i s) s f (group calc i s p))) up
            ∙ ap R (sym e) ∙ K.same;
        well = subst (AllUnclosed calc s) (sym st) (k.0, K.well);
        sound = tt;
      }

  pub kept_deep : (f : Frame) (p : ℕ) → x ≡ Group f p → groups ≤ d → Err (Stop.Hard too_deep p) ≡ answer_of a
  unfolding meaning answer_of
  kept_deep f p e h =
      let k = group_known f p e in
      ap answer_of
      (sym (resume_hard calc s n (stack_of t d) too_deep p) ∙ ap (resume calc s n (stack_of t d)) (sym (deep_enters calc s n f p (omega arith) k.1))
      ∙ ap R (sym e) ∙ K.same)

  pub kept_missed : (f : Frame) (r : Reading Value) → x ≡ Missed f → d ≡ 0 → r ≡ answer_of (fallback calc f) → r ≡ answer_of a
  unfolding meaning Sound
  kept_missed f r e z q =
      q ∙ ap answer_of (ap (fallback calc) (ends d z) ∙ sym (missed_resumes calc s t d n f K.well (subst (Sound calc s) e K.sound)) ∙ ap R (sym e) ∙ K.same)
    where
      ends : (d : ℕ) → d ≡ 0 → f ≡ cond (eqb d 0) f (get_or t 0 (first_frame false))
      ends d z = rw z

  pub kept_fell : (f b : Frame) (r : Reading Value) → x ≡ Missed f → (d ≡ 0 → ⊥) → b ≡ get_or t 0 (first_frame false) → r ≡ answer_of (fallback calc b) → r ≡ answer_of a
  unfolding meaning Sound
  kept_fell f b r e z l q =
      q ∙ ap answer_of (ap (fallback calc) (ends d z) ∙ sym (missed_resumes calc s t d n f K.well (subst (Sound calc s) e K.sound)) ∙ ap R (sym e) ∙ K.same)
    where
      ends : (d : ℕ) → (d ≡ 0 → ⊥) → b ≡ cond (eqb d 0) f (get_or t 0 (first_frame false))
      ends d z = rw (ne_eqb d 0 z) l

  -- ---- the measure

  pub less_start : (p : ℕ) (o : Next) → x ≡ Start p → o ≡ start_of calc s p → weight (length s) o < weight (length s) x
  unfolding weight
  less_start p o e q = rw (e, q) (start_light calc s p)

  pub less_operand : (f : Frame) (p : ℕ) (o : Next) → x ≡ Operand f p → o ≡ operand_of calc s f p → weight (length s) o < weight (length s) x
  unfolding weight
  less_operand f p o e q = rw (e, q) (operand_light calc s f p)

  pub less_group : (f : Frame) (p q : ℕ) → x ≡ Group f p → q ≡ blanks s (p + 1) → weight (length s) (Start q) < weight (length s) x
  unfolding weight
  less_group f p q e h =
      let k = group_known f p e in
      let l = byte_within s p 40 (sym k.1) (omega arith) in
      rw (e, h) (omega (arith, up s (p + 1)))

  pub group_fits : (f : Frame) (p : ℕ) → length s < 2 ^ 64 → x ≡ Group f p → Fits w64 (p + 1)
  group_fits f p h e =
      let k = group_known f p e in
      let l = byte_within s p 40 (sym k.1) (omega arith) in
      record { fits = omega arith }

  pub less_done : (f : Frame) (e : ℕ) (v : Value) (o : Next) → x ≡ Done e v → o ≡ shut_of calc s f e v → weight (length s) o < weight (length s) x
  unfolding weight
  less_done f e v o h q = rw (h, q) (shut_light calc s f e v _ refl)

-- an expression is complete

module _ (calc : Arithmetic) (s : List ℕ) (a : Ans Value) (t : List Frame) where
  pub kept_read : (d : ℕ) (x : Next) → Kept calc s a t d x → (e : ℕ) (v : Value) → x ≡ Done e v → d ≡ 0 → Ok (e, v) ≡ answer_of a
  unfolding meaning answer_of resume stack_of
  kept_read zero x K e v h z = ap answer_of (ap (meaning calc s groups) (sym h) ∙ K.same)
  kept_read (suc d) x K e v h z = absurd (omega arith)

  popped : (d : ℕ) (x : Next) → Kept calc s a t (suc d) x → (e : ℕ) (v : Value) (f : Frame) (o : Next) → x ≡ Done e v → f ≡ get_or t d (first_frame false) → o ≡ shut_of calc s f e v → Kept calc s a t d o
  unfolding meaning resume stack_of AllUnclosed ◌then◌
  popped d x K e v f o h l q =
      let m = groups - suc d in
      let up : groups - d ≡ suc m = omega (arith, K.room) in
      record {
        sized = K.sized;
        room = omega (arith, K.room);
        same =
            ap (resume calc s (groups - d) (stack_of t d)) (ap (meaning calc s (groups - d)) q ∙ shut_means calc s (groups - d) f e v _ refl)
            ∙ ap (λ i. resume calc s i (stack_of t d) (enter calc (group calc i s) s f (closed s e v))) up
            ∙ ap (λ b. resume calc s (suc m) (stack_of t d) (enter calc (group calc (suc m) s) s b (closed s e v))) l
            ∙ ap (λ y. resume calc s m (get_or t d (first_frame false) ∷ stack_of t d) (meaning calc s m y)) (sym h)
            ∙ K.same;
        well = K.well.1;
        sound = subst (Sound calc s) (sym q) (shut_sound calc s f e v _ refl (subst (Unclosed calc s) (sym l) K.well.0));
      }

  pub kept_done : (d : ℕ) (x : Next) → Kept calc s a t d x → (e : ℕ) (v : Value) (f : Frame) (o : Next) → x ≡ Done e v → (d ≡ 0 → ⊥) → f ≡ get_or t (d - 1) (first_frame false) → o ≡ shut_of calc s f e v → Kept calc s a t (d - 1) o
  unfolding meaning resume stack_of AllUnclosed ◌then◌
  kept_done zero x K e v f o h z l q = absurd (z refl)
  kept_done (suc d) x K e v f o h z l q = rw (sub-one (suc d)) (popped d x K e v f o h (rw (sub-one (suc d)) at l) q)

-- the first turn: x is what it comes to
module _ (calc : Arithmetic) (s : List ℕ) (at : ℕ) (x : Next) (q : x ≡ start_of calc s at) where
  pub begun_kept : (t : List Frame) → length t ≡ groups → Kept calc s (within calc groups s at) t 0 x
  begun_kept t l = kept_start calc s (within calc groups s at) t 0 (Start at) (kept_first calc s t at l) at x refl q

  pub begun_read : (e : ℕ) (v : Value) → x ≡ Done e v → Ok (e, v) ≡ answer_of (within calc groups s at)
  unfolding meaning answer_of
  begun_read e v h =
      ap answer_of (ap (meaning calc s groups) (sym h ∙ q) ∙ start_means calc s groups at (literal s at) refl)

pub ruleset turn_laws = (begun_kept, begun_read, kept_start, kept_operand, kept_group, kept_deep, kept_missed, kept_fell, kept_read, kept_done, less_start, less_operand, less_group, less_done, group_fits)
