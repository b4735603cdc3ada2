-- Entries that are made, and entries by their words: of a list of words in order, the first that starts the text says
-- which entry it is.
use Prim.Native.Nat.{ℕ}
use Prim.Native.String.{String}
use mathlib.Core.Path.{◌≡◌, refl, sym, ◌∙◌}
use mathlib.Core.Bool.{Bool, true, false, ◌&&◌}
use mathlib.Core.List.{List, [], ◌∷◌, ◌++◌}
use mathlib.Core.Logic.{◌⊎◌, inl, inr}
use borrow.Author.Tests.{eqb-true}
use lib.Dec.{eqb}
use lib.ListN.{get_or}
use Rattle.text.specs.Bytes.{bytes, is_small}
use Rattle.text.specs.Words.{starts_with, word_at}
use Rattle.text.specs.Answer.{Ans, To, Miss, Hard, ◌then◌, ◌and◌, ◌else◌}
use Rattle.text.specs.Leaves.{word}
use Rattle.text.proofs.TestLaws.{absurd_bool, and_left, and_right}
use Rattle.text.proofs.Ats.{At}
use Rattle.text.proofs.Inversions.{and_inv, else_inv, token_inv, not_miss, not_hard}
use Rattle.text.specs.Every.{Every}
use Rattle.amount.specs.Details.{Rows}
use Rattle.amount.specs.declared.detail.Detail.{Detail}
use Rattle.entry.specs.Forms.{Form as Entry, as_entry}
use Rattle.layout.specs.Meaning.{Item}
use Rattle.layout.proofs.Numbers.{All}
use Rattle.layout.proofs.Tokens.{read_if}
use Rattle.layout.proofs.Neats.{Neat, free_small, neat_all}
use Rattle.layout.proofs.Readings.{items, Fine, Reads}
use Rattle.layout.proofs.Marks.{word_misses}
use Rattle.layout.proofs.Misses.{miss_inv}

-- ---- entries

pub record Made (s : List ℕ) (a : Ans Entry) (k p : ℕ) (ms : List Item) (post : List ℕ) : Type 0 where
  pub to : ℕ
  pub rows : List Detail
  pub eq : a ≡ To to (record { kind = k; date = p; details = rows })
  pub rest : At s to post
  pub same : items s rows ≡ ms
  pub fine : Every Fine rows

pub made : {s : List ℕ} {a : Rows} {ms : List Item} {post : List ℕ} (k p : ℕ) → Reads s a ms post → Made s (as_entry k p a) k p ms post
unfolding as_entry
made k p R = record { to = R.to; rows = R.rows; eq = rw R.eq; rest = R.rest; same = R.same; fine = R.fine }

pub made_second : {s : List ℕ} {a b : Ans Entry} {k p : ℕ} {ms : List Item} {post : List ℕ} → a ≡ Miss → Made s b k p ms post → Made s (a else b) k p ms post
unfolding ◌else◌
made_second e R = record { to = R.to; rows = R.rows; eq = rw e R.eq; rest = R.rest; same = R.same; fine = R.fine }

pub made_first : {s : List ℕ} {a : Ans Entry} (b : Ans Entry) {k p : ℕ} {ms : List Item} {post : List ℕ} → Made s a k p ms post → Made s (a else b) k p ms post
unfolding ◌else◌
made_first b R = record { to = R.to; rows = R.rows; eq = rw R.eq; rest = R.rest; same = R.same; fine = R.fine }

pub entry_misses : (k p : ℕ) {a : Rows} → a ≡ Miss → as_entry k p a ≡ Miss
unfolding as_entry
entry_misses k p e = rw e

pub made_then : {A : Type 0} {s : List ℕ} {a : Ans A} (g : ℕ → A → Ans Entry) {j : ℕ} {x : A} {k p : ℕ} {ms : List Item} {post : List ℕ} → a ≡ To j x → Made s (g j x) k p ms post
    → Made s (a then g) k p ms post
unfolding ◌then◌
made_then g e R = record { to = R.to; rows = R.rows; eq = rw e R.eq; rest = R.rest; same = R.same; fine = R.fine }

-- what was made
pub as_inv : (k d : ℕ) (a : Rows) (n : ℕ) (f : Entry) → as_entry k d a ≡ To n f → (rs : List Detail) × (a ≡ To n rs) × (f ≡ record { kind = k; date = d; details = rs })
unfolding as_entry
as_inv k d (To m rs) n f e = (rs, cc, cc)
as_inv k d Miss n f e = not_miss e
as_inv k d (Hard m p) n f e = not_hard e

-- ---- words of small letters

unfoldable pub small_all : List ℕ → Bool
small_all [] = true
small_all (b ∷ w) = is_small b && small_all w

-- one at the least
unfoldable pub lettered : List ℕ → Bool
lettered [] = false
lettered (b ∷ w) = is_small b && small_all w

letters_all : (w : List ℕ) → small_all w ≡ true → All is_small w
unfolding small_all
letters_all [] e = tt
letters_all (b ∷ w) e = (and_left (is_small b) (small_all w) e, letters_all w (and_right (is_small b) (small_all w) e))

pub lettered_neat : (w : List ℕ) → lettered w ≡ true → Neat w
unfolding lettered
lettered_neat [] e = absurd_bool e
lettered_neat (b ∷ w) e = neat_all is_small free_small (b ∷ w) (and_left (is_small b) (small_all w) e, letters_all w (and_right (is_small b) (small_all w) e))

pub lettered_first : (w t : List ℕ) → lettered w ≡ true → is_small (get_or (w ++ t) 0 0) ≡ true
unfolding lettered
lettered_first [] t e = absurd_bool e
lettered_first (b ∷ w) t e = and_left (is_small b) (small_all w) e

-- a text that starts with such a word
starts_small : (w t : List ℕ) → lettered w ≡ true → starts_with w t ≡ true → is_small (get_or t 0 0) ≡ true
unfolding lettered starts_with
starts_small [] t e h = absurd_bool e
starts_small (b ∷ w) [] e h = absurd_bool h
starts_small (b ∷ w) (x ∷ t) e h = rw (eqb-true x b (and_left (eqb x b) (starts_with w t) h)) (and_left (is_small b) (small_all w) e)

-- ---- a list of words

-- a kind of entry, its word and its reader, which starts with the word
pub record Choice : Type 0 where
  pub kind : ℕ
  pub name : String
  pub reads : List ℕ → ℕ → Rows
  pub leads : (s : List ℕ) (i : ℕ) → (g : ℕ → Rows) × (reads s i ≡ (word (bytes name) s i and g))

and_misses : (a : Rows) (g : ℕ → Rows) → a ≡ Miss → (a and g) ≡ Miss
unfolding ◌and◌
and_misses a g e = rw e

choice_misses : {s : List ℕ} {i : ℕ} {t : List ℕ} (c : Choice) → starts_with (bytes c.name) t ≡ false → At s i t → c.reads s i ≡ Miss
choice_misses {s} {i} {t} c e A = (c.leads s i).1 ∙ and_misses _ _ (word_misses (bytes c.name) t e A)

-- what a choice read starts with a small letter
pub choice_small : (c : Choice) → lettered (bytes c.name) ≡ true → (s : List ℕ) (j : ℕ) (rs : List Detail) → c.reads s 0 ≡ To j rs → is_small (get_or s 0 0) ≡ true
unfolding word word_at
choice_small c l s j rs h =
    let g = c.leads s 0 in
    let a = and_inv (word (bytes c.name) s 0) g.0 j rs (sym g.1 ∙ h) in
    let b = token_inv (word_at (bytes c.name) s 0) a.0 a.1 a.3 in
    starts_small (bytes c.name) s l (read_if (starts_with (bytes c.name) s) _ a.0 b.0).0

-- the choices in order, and the last answer where none of them reads
unfoldable pub tried : ℕ → List ℕ → ℕ → List Choice → Ans Entry → Ans Entry
tried p s i [] last = last
tried p s i (c ∷ cs) last = as_entry c.kind p (c.reads s i) else tried p s i cs last

-- the word of a choice of the list starts the text t, and no word before it does
pub data First (t : List ℕ) (c : Choice) : List Choice → Type 0 where
  first_of : {cs : List Choice} → First t c (c ∷ cs)
  later : {d : Choice} {cs : List Choice} → starts_with (bytes d.name) t ≡ false → First t c cs → First t c (d ∷ cs)

-- then it makes the entry
pub tried_is : {s : List ℕ} {i : ℕ} {t : List ℕ} {c : Choice} {cs : List Choice} (last : Ans Entry) (p : ℕ) {ms : List Item} {post : List ℕ} → First t c cs → At s i t → Reads s (c.reads s i) ms post
    → Made s (tried p s i cs last) c.kind p ms post
unfolding tried
tried_is {c = c} last p first_of A R = made_first _ (made c.kind p R)
tried_is last p (later {d = d} e F) A R = made_second (entry_misses d.kind p (choice_misses d e A)) (tried_is last p F A R)

-- none of them, so the last
pub tried_last : (s : List ℕ) (i p : ℕ) (cs : List Choice) (last : Ans Entry) → Every (λ c. c.reads s i ≡ Miss) cs → tried p s i cs last ≡ last
unfolding tried ◌else◌
tried_last s i p [] last m = refl
tried_last s i p (c ∷ cs) last m = rw (entry_misses c.kind p m.0) (tried_last s i p cs last m.1)

-- what was read is of one of them, or is the last
pub tried_was : (s : List ℕ) (i p n : ℕ) (f : Entry) (G : Type 0) (cs : List Choice) (last : Ans Entry) → Every (λ c. as_entry c.kind p (c.reads s i) ≡ To n f → G) cs
    → (Every (λ c. c.reads s i ≡ Miss) cs → last ≡ To n f → G) → tried p s i cs last ≡ To n f → G
unfolding tried
tried_was s i p n f G [] last E L h = L tt h
tried_was s i p n f G (c ∷ cs) last E L h = go (else_inv _ _ n f h) (tried_was s i p n f G cs last E.1)
  where
    go : (as_entry c.kind p (c.reads s i) ≡ To n f) ⊎ ((as_entry c.kind p (c.reads s i) ≡ Miss) × (tried p s i cs last ≡ To n f))
        → ((Every (λ c. c.reads s i ≡ Miss) cs → last ≡ To n f → G) → tried p s i cs last ≡ To n f → G) → G
    go (inl h) ih = E.0 h
    go (inr h) ih = ih (λ m. L (miss_inv c.kind p (c.reads s i) h.0, m)) h.1
