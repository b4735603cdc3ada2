-- Demand 1 of document 02's calls, as `Demand1.antt` says it of document 01's.
--
-- Working space, lent to totals and to writing afresh, is no answer: where it is short that is 9 at place 1. A refusal
-- that is judged before it is used leaves it as it was; else its front, as long as the need, is zeros.
use Rattle.std.specs.Prelude.{ℕ, ◌+◌, ◌*◌, min, ◌≤◌, ◌<◌, ◌≡◌, false, ◌⊎◌, List, [], ◌∷◌, ◌++◌, map, length, drop, None, Some, Err, Ok}
use Rattle.decimal.specs.Exact.{largest}
use Rattle.text.specs.Refusals.{Refusal, refused_with}
use Rattle.row.specs.declared.table.Row.{Row}
use Rattle.row.specs.Row.{width}
use Rattle.row.specs.Work.{cleared}
use Rattle.ledger.specs.Plain.{accepted, denied, plain}
use Rattle.ledger.specs.Strict.{strict}
use Rattle.recovery.specs.Recovering.{recovered_strictly}
use Rattle.edit.specs.Edits.{editing}
use Rattle.order.specs.Records.{record_width, records_bytes}
use Rattle.order.specs.Groups.{counted}
use Rattle.totals.specs.Totals.{totals_of, item_row, is_month, need}
use Rattle.layout.specs.Written.{written}
use Rattle.rewrite.specs.Rewriting as rewrite
use Rattle.bus.specs.Fields.{entry_tag, detail_tag, row_field, text_place}
use Rattle.bus.specs.Writing.{packet, refusing}
use Rattle.bus.specs.declared.packet.Piece.{Piece}
use Rattle.bus.specs.Reading.{found, row_in, text_in}
use Rattle.lumbrisse.specs.declared.reply.Reply.{Reply}
use Rattle.lumbrisse.specs.declared.reply.Handed.{Handed}
use Rattle.lumbrisse.specs.Numbers.{replied, handed_by}
use Rattle.lumbrisse.specs.Promises.{TablePromise, TotalsPromise, WritePromise, PacketPromise, StepPromise}
use Rattle.lumbrisse.specs.Demand1.{Answers, plain_numbers, ReadsRows, HasBytes, NoSpace, Fills}

-- ---- working space w, which is w' afterwards, of a call that needs so much for the rows of the ledger s

-- judged before it is used: a refusal of plain reading, 15, and 9 for the working space itself
abbrev pub Early : List ℕ → Reply → Type 0
Early s r = (plain s ≡ denied r.number r.place) ⊎ ((r.number ≡ 15) ⊎ ((r.number ≡ 9) × (r.place ≡ 1)))

pub data Space (s : List ℕ) (need : List Row → ℕ) (r : Reply) (w w' : List ℕ) : Type 0 where
  left : Early s r → w' ≡ w → Space s need r w w'
  zeros : (Early s r → ⊥) → (rs : List Row) → plain s ≡ accepted rs → w' ≡ cleared (need rs) w
      → Space s need r w w'

-- 9 at place 1, where working space is shorter than the need
pub record NoWork (s : List ℕ) (need : List Row → ℕ) (Short : ℕ → Type 0) (Kept : Type 0) (r : Reply) : Type 0 where
  pub rows : List Row
  pub defined : plain s ≡ accepted rows
  pub reply : r ≡ replied 9 1 (need rows)
  pub over : Short (need rows)
  pub kept : Kept

-- ---- totals of the ledger s for a year and month, into a buffer t, with the working spaces w and v

-- n items from the buffer's front, and bytes past the last one as they were
pub record HasItems (s : List ℕ) (y m : ℕ) (t u : List ℕ) (n : ℕ) : Type 0 where
  pub rows : List Row
  pub defined : plain s ≡ accepted rows
  pub number : n ≡ length (totals_of s y m rows)
  pub fit : n * record_width ≤ length t
  pub buffer : u ≡ records_bytes (map item_row (totals_of s y m rows)) ++ drop (n * record_width) t

-- items of n bytes, for which the buffer is too short
pub record NoRoomForItems (s : List ℕ) (y m : ℕ) (t : List ℕ) (n : ℕ) : Type 0 where
  pub rows : List Row
  pub defined : plain s ≡ accepted rows
  pub number : n ≡ length (totals_of s y m rows) * record_width
  pub over : length t < n

-- a refusal of plain reading, 15 for a month that is none, 6 at the first item whose sum is too large
abbrev pub NoTotals : List ℕ → ℕ → ℕ → ℕ → ℕ → Type 0
NoTotals s y m n p =
    (plain s ≡ denied n p)
    ⊎ (((n ≡ 15) × (p ≡ 0) × (is_month m ≡ false))
    ⊎ ((n ≡ 6) × (rs : List Row) × (plain s ≡ accepted rs)
    × (counted (λ r. r.start) 0 (totals_of s y m rs) ≡ Err (refused_with 6 p 0))))

pub record Totals (s : List ℕ) (y m : ℕ) (t w v : List ℕ) (r : Reply) (t' w' v' : List ℕ) : Type 0 where
  pub answer : NoWork s (need y m) (λ n. (length w < n) ⊎ (length v < n)) (t' ≡ t) r
      ⊎ Answers (plain_numbers ++ (15 ∷ [])) (length s) (HasItems s y m t t') (NoRoomForItems s y m t) (NoTotals s y m) (t' ≡ t) r
  pub work : Space s (need y m) r w w'
  pub spare : Space s (need y m) r v v'

-- ---- the ledger s written afresh into a buffer o, with the working space w

pub record Writes (s o w : List ℕ) (r : Reply) (o' w' : List ℕ) : Type 0 where
  pub answer : NoWork s rewrite.need (λ n. length w < n) (o' ≡ o) r
      ⊎ Answers plain_numbers (length s)
      (λ n. (rs : List Row) × (plain s ≡ accepted rs) × HasBytes (written s rs) o o' n)
      (λ n. (rs : List Row) × (plain s ≡ accepted rs) × NoSpace (written s rs) o (length (written s rs)) n)
      (λ n p. plain s ≡ denied n p) (o' ≡ o) r
  pub work : Space s rewrite.need r w w'

-- a row stands there, an entry's or a detail's
abbrev pub RowFound : List ℕ → Type 0
RowFound r = (found r ≡ Ok (Some Piece.Entry)) ⊎ ((n : ℕ) × (found r ≡ Ok (Some (Piece.Detail n))))

-- one step of a reader at a place of the packet p, with a buffer b for the row and c for the text
pub data Steps (p : List ℕ) (at : ℕ) (b c : List ℕ) (r : Handed) (b' c' : List ℕ) : Type 0 where
  at_entry : found (drop at p) ≡ Ok (Some Piece.Entry) → r ≡ handed_by 0 (at + row_field) entry_tag 0 → width ≤ length b
      → b' ≡ row_in (drop at p) ++ drop width b → c' ≡ c → Steps p at b c r b' c'
  at_detail : (n : ℕ) → found (drop at p) ≡ Ok (Some (Piece.Detail n)) → r ≡ handed_by 0 (at + text_place + n) detail_tag n
      → width ≤ length b → n ≤ length c
      → b' ≡ row_in (drop at p) ++ drop width b → c' ≡ text_in n (drop at p) ++ drop n c → Steps p at b c r b' c'
  at_end : found (drop at p) ≡ Ok None → r ≡ handed_by 0 at 0 0 → b' ≡ b → c' ≡ c → Steps p at b c r b' c'
  no_buffer : (n : ℕ) → r ≡ handed_by 9 0 0 n
      → (RowFound (drop at p) × (n ≡ width) × (length b < n)) ⊎ ((found (drop at p) ≡ Ok (Some (Piece.Detail n))) × (length c < n))
      → b' ≡ b → c' ≡ c → Steps p at b c r b' c'
  bad_field : (n before : ℕ) → found (drop at p) ≡ Err (refused_with n before 0) → r ≡ handed_by n (at + before) 0 0
      → Refusal (19 ∷ 20 ∷ []) (length p) n (at + before)
      → b' ≡ b → c' ≡ c → Steps p at b c r b' c'

-- ---- document 02's calls

pub record Demand1Requests : Type 0 where
  pub read_strict : (s t : List ℕ) (r : Reply) (u : List ℕ) → TablePromise (strict s) t r u
      → ReadsRows (plain_numbers ++ (16 ∷ 17 ∷ [])) s (strict s) t u r
  pub recover_strict : (s t : List ℕ) (r : Reply) (u : List ℕ) → TablePromise (recovered_strictly s) t r u
      → ReadsRows (1 ∷ []) s (recovered_strictly s) t u r
  pub edit : (s rows : List ℕ) (k a e : ℕ) (y t : List ℕ) (r : Reply) (u : List ℕ) → TablePromise (editing s rows k a e y) t r u
      → ReadsRows (1 ∷ 10 ∷ []) s (editing s rows k a e y) t u r
  pub totals : (s : List ℕ) (y m : ℕ) (t w v : List ℕ) (r : Reply) (t' w' v' : List ℕ)
      → TotalsPromise s y m t w v r t' w' v' → Totals s y m t w v r t' w' v'
  pub write : (s o w : List ℕ) (r : Reply) (o' w' : List ℕ) → WritePromise s o w r o' w' → Writes s o w r o' w'
  pub packet_write : (s t : List ℕ) (k : ℕ) (b : List ℕ) (r : Reply) (u : List ℕ) → PacketPromise s t k b r u
      → Fills (10 ∷ 18 ∷ []) s (refusing s k t ≡ 0) (λ n. refusing s k t ≡ n) (packet s k t) (min (length (packet s k t)) largest) b u r
  pub packet_next : (p : List ℕ) (at : ℕ) (b c : List ℕ) (r : Handed) (b' c' : List ℕ)
      → StepPromise p at b c r b' c' → Steps p at b c r b' c'
