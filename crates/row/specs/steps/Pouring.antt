-- Things of w bytes each, which f gives, poured into a table: rows, and the records and items of M-108.
use Rattle.std.specs.Prelude.{ℕ, ◌*◌, min, cond, List, [], ◌∷◌, ◌++◌, leb, length, take, drop}
use Rattle.row.specs.declared.table.Row.{Row}
use Rattle.row.specs.Row.{row_bytes, width}

-- the table t after they were written from its front: each where a whole one fits, what is past them as it was
unfoldable pub poured : {A : Type 0} → ℕ → (A → List ℕ) → List A → List ℕ → List ℕ
poured w f [] t = t
poured w f (x ∷ xs) t = cond (leb w (length t)) (f x ++ poured w f xs (drop w t)) t

-- where number n starts in a table of so many bytes, or the table's end
abbrev pub place_at : ℕ → ℕ → ℕ → ℕ
place_at w n size = min (n * w) size

-- the same from number n on
unfoldable pub poured_at : {A : Type 0} → ℕ → (A → List ℕ) → ℕ → List A → List ℕ → List ℕ
poured_at w f n xs t = take (place_at w n (length t)) t ++ poured w f xs (drop (place_at w n (length t)) t)

-- ---- rows

-- the table t after the rows were written from its front, or from row n on
abbrev pub pour : List Row → List ℕ → List ℕ
pour rs t = poured width row_bytes rs t

abbrev pub place_of : ℕ → ℕ → ℕ
place_of n size = place_at width n size

abbrev pub pour_at : ℕ → List Row → List ℕ → List ℕ
pour_at n rs t = poured_at width row_bytes n rs t
