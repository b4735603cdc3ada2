-- The front of a working space becomes zeros; a text is copied, byte by byte.
use Prim.Native.Nat.{ℕ, suc, ◌+◌, ◌-◌, ◌≤◌, ◌<◌}
use native.Mathlib.Omega.{arith}
use mathlib.Core.Path.{◌≡◌, sym, ap, ◌∙◌}
use mathlib.Core.List.{List, [], ◌++◌, append_assoc, append-nil}
use borrow.Rule.Slice.PartMut.{put_mid}
use lib.ListN.{length, take, drop, get_or, set, replicate, length-take, drop_of_length-le}
use lib.Seq.{sets, sets-eq, drop-drop}
use Rattle.text.proofs.Steps.{drop_step}
use Rattle.row.proofs.FieldLaws.{sets_front}
use Rattle.row.specs.Work.{cleared}

-- z is what stands in the first n bytes of w
pub clear_filled : (w z : List ℕ) (n : ℕ) → n ≤ length w → z ≡ replicate (length (take n w)) 0 → z ++ drop n w ≡ cleared n w
unfolding cleared
clear_filled w z n h e = let k : length (take n w) ≡ n = rw length-take (omega arith) in rw (e, k)

-- z is what stands in the bytes of t from `at` on, as many as those of c
pub copy_put : (t c z : List ℕ) (at : ℕ) → at + length c ≤ length t → z ≡ c → put_mid at (at + length c - at) t z ≡ sets t at c
copy_put t c z at h e = let k : at + length c - at ≡ length c = omega arith in rw (e, k, sets-eq c t at h, drop-drop (length c) at t, append_assoc)

-- ---- copying byte by byte: what is left at i is still to be stored, from i on

module _ (u t c : List ℕ) (i : ℕ) (v : u ≡ sets t i (drop i c)) where
  pub over_on : i < length c → u ≡ sets (set t i (get_or c i 0)) (i + 1) (drop (i + 1) c)
  over_on h = let k : suc i ≡ i + 1 = omega arith in v ∙ rw (drop_step c i h) (ap (λ (j : ℕ). sets (set t i (get_or c i 0)) j (drop (i + 1) c)) k)

  over_end : length c ≤ i → u ≡ t
  over_end h = v ∙ rw (drop_of_length-le c h)

-- t₀ is as long as c, which was stored from its front on
pub over_all : (t₀ t c : List ℕ) (i : ℕ) → sets t₀ 0 c ≡ sets t i (drop i c) → length c ≤ i → length c ≡ length t₀ → t ≡ c
over_all t₀ t c i v h e =
    let rest : drop (length c) t₀ ≡ [] = drop_of_length-le t₀ (omega arith) in
    sym (over_end (sets t₀ 0 c) t c i v h) ∙ sets_front c t₀ (omega arith) ∙ rw rest (append-nil c)

pub ruleset over_laws = (over_on, over_all)
