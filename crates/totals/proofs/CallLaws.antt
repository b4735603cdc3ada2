-- Monthly totals: what is answered and left, each from what the code knows where it answers.
use Rattle.text.specs.Refusals.{refused_with}
use Rattle.text.specs.declared.stop.Refused.{Refused}
use Rattle.std.specs.Prelude.{Err, Ok, Result}
use Prim.Native.Nat.{ℕ, ◌*◌, ◌-◌, ◌≤◌, ◌<◌}
use native.Mathlib.Omega.{arith}
use mathlib.Core.Path.{◌≡◌, sym, ap, ◌∙◌}
use mathlib.Core.Bool.{Bool, true, false, cond, ◌&&◌}
use mathlib.Core.Logic.{◌⊎◌, ⊎_elim}
use mathlib.Core.List.{List, ◌++◌, map, append-nil}
use borrow.Author.Tests.{le-leb, lt-leb}
use borrow.Rule.Slice.PartMut.{put_mid}
use lib.Dec.{leb}
use lib.ListN.{length, take, drop, replicate, length-take, drop_of_length-le}
use lib.Seq.{drop_at}
use Rattle.row.specs.declared.table.Row.{Row}
use Rattle.row.specs.Work.{cleared}
use Rattle.row.specs.Row.{field_bytes, fields_in}
use Rattle.row.proofs.PouredLaws.{poured_all, length_poured}
use Rattle.row.proofs.PourLaws.{length_field_bytes}
use Rattle.order.specs.Records.{record_width, records_bytes}
use Rattle.order.specs.steps.Buffers.{record_room, put_records, said_in, Ordered, records_of, sorted_bytes}
use Rattle.ledger.specs.Plain.{Reading, accepted, plain}
use Rattle.ledger.specs.steps.Scan.{scan_answer}
use Rattle.ledger.proofs.ReadLaws.{whole_reads, stopped_denies}
use Rattle.order.specs.Order.{said, by}
use Rattle.order.specs.Groups.{listed, items, counted}
use Rattle.order.proofs.HalfLaws.{bytes_ordered}
use Rattle.order.proofs.RunLaws.{place_in}
use Rattle.walk.specs.Postings.{dated, postings}
use Rattle.totals.specs.Totals.{totals_of, Outcome, is_month, need, settled, decided, answer_of, items_left, work_left, Done}
use Rattle.totals.specs.steps.Listing.{item_row_in, placed, items_put}
use Rattle.totals.specs.steps.Months.{Accepted, rows_of, month_postings, AllHeld, listed_month}
use Rattle.totals.proofs.JoinLaws.{work_settled, found_answer, found_left}

-- ---- the records of the month fill the buffer w; b is the buffer then, sorted v

filled : (rs : List Row) (w : List ℕ) → length w ≡ length rs * record_width → put_records rs w ≡ records_bytes rs
filled rs w h =
    poured_all record_width field_bytes rs w (omega arith)
    ∙ ap (λ (x : List ℕ). records_bytes rs ++ x) (drop_of_length-le w {i = length rs * record_width} (omega arith))
    ∙ append-nil (records_bytes rs)

module _ (s : List ℕ) (y m : ℕ) (w b v : List ℕ) (lw : length w ≡ length (month_postings s y m) * record_width) (put : b ≡ put_records (month_postings s y m) w)
    (held : AllHeld (month_postings s y m)) (room : ℕ) (lr : length w ≤ room)
    (sorts : v ≡ cond (leb (record_room b * record_width) room) (sorted_bytes s b) b) where
  bytes_are : b ≡ records_bytes (month_postings s y m)
  bytes_are = put ∙ filled (month_postings s y m) w lw

  sorted_is : length b ≡ length w → v ≡ sorted_bytes s b
  sorted_is e = sorts ∙ rw (le-leb (record_room b * record_width) room (omega (arith, e)))

  sorted_v : v ≡ sorted_bytes s b
  sorted_v = sorted_is (ap length put ∙ length_poured record_width field_bytes length_field_bytes (month_postings s y m) w)

  pub month_ordered : Ordered (by (said_in s)) (records_of v)
  month_ordered = rw sorted_v (bytes_ordered s b)

  pub month_answer : (r : Result ℕ Refused) (n : ℕ) → r ≡ placed (counted (λ x. (fields_in x).start) 0 (listed (said_in s) (records_of v))) n → r ≡ answer_of (listed_month s y m n)
  unfolding listed_month
  month_answer r n e =
      e
      ∙ ap (λ (x : List ℕ). placed (counted place_in 0 (listed (said_in s) (records_of x))) n) sorted_v
      ∙ sym (found_answer s b (month_postings s y m) bytes_are held (length (month_postings s y m) * record_width) n)

  pub month_items : (t u : List ℕ)
      → u ≡ items_put (counted (λ x. (fields_in x).start) 0 (listed (said_in s) (records_of v))) (map item_row_in (listed (said_in s) (records_of v))) t
      → u ≡ items_left (listed_month s y m (length t)) t
  unfolding listed_month
  month_items t u e =
      e
      ∙ ap (λ (x : List ℕ). items_put (counted place_in 0 (listed (said_in s) (records_of x))) (map item_row_in (listed (said_in s) (records_of x))) t) sorted_v
      ∙ sym (found_left s b (month_postings s y m) bytes_are held (length (month_postings s y m) * record_width) t)

pub ruleset month_laws = (month_ordered, month_answer, month_items)

-- ---- what is decided of a ledger that is accepted, in a month

module _ (s : List ℕ) (y m room work spare : ℕ) where
  accepted_month : (rs : List Row) → is_month m ≡ true → decided s y m room work spare (accepted rs)
      ≡ cond (leb (length (postings (dated y m) rs) * record_width) work && leb (length (postings (dated y m) rs) * record_width) spare)
      (settled (length (postings (dated y m) rs) * record_width) room (items (said s) (postings (dated y m) rs)) (counted (λ r. r.start) 0 (items (said s) (postings (dated y m) rs))))
      (Outcome.early 9 1 (length (postings (dated y m) rs) * record_width))
  unfolding decided need totals_of
  accepted_month rs e = rw e

  module _ (A : Accepted s) (e : is_month m ≡ true) where
    postings_are : month_postings s y m ≡ postings (dated y m) A.rows
    unfolding month_postings rows_of
    postings_are = ap (λ (x : Reading). postings (dated y m) (rows_of x)) A.reads

    in_month : decided s y m room work spare (plain s)
        ≡ cond (leb (length (month_postings s y m) * record_width) work && leb (length (month_postings s y m) * record_width) spare) (listed_month s y m room)
        (Outcome.early 9 1 (length (month_postings s y m) * record_width))
    unfolding listed_month
    in_month = ap (decided s y m room work spare) A.reads ∙ rw postings_are (accepted_month A.rows e)

    module _ (n used : ℕ) (en : n ≡ length (month_postings s y m)) (eu : used ≡ n * record_width) where
      too_short_lem : (leb used work && leb used spare) ≡ false → decided s y m room work spare (plain s) ≡ Outcome.early 9 1 used
      too_short_lem h = let q : used ≡ length (month_postings s y m) * record_width = omega arith in in_month ∙ rw (← q, h)

      enough : used ≤ work → used ≤ spare → decided s y m room work spare (plain s) ≡ listed_month s y m room
      enough h k = let q : used ≡ length (month_postings s y m) * record_width = omega arith in in_month ∙ rw (← q, le-leb used work h, le-leb used spare k)

      short : (work < used) ⊎ ((used ≤ work) × (spare < used)) → decided s y m room work spare (plain s) ≡ Outcome.early 9 1 used
      short h = too_short_lem (⊎_elim (λ k. rw (lt-leb used work k)) (λ k. rw (le-leb used work k.0, lt-leb used spare k.1)) h)

-- ---- what is answered and left: refused before the working spaces are used

early_done : (D : Outcome) (n p c : ℕ) → D ≡ Outcome.early n p c → (t w u : List ℕ) (r : Result ℕ Refused) → r ≡ Err (refused_with n p c) → Done D t w u r t w u
unfolding answer_of items_left work_left
early_done D n p c e t w u r q = record { answer = q ∙ rw e; in_items = rw e; in_work = rw e; in_spare = rw e }

-- or after their fronts were lent, and came back as x and z, and were cleared

front_cleared : (w x v : List ℕ) (n : ℕ) → n ≤ length w → length x ≡ length (take (n - 0) (drop 0 w)) → v ≡ cleared n (put_mid 0 (n - 0) w x) → v ≡ cleared n w
unfolding cleared
front_cleared w x v n h l e =
    let a : n - 0 ≡ n = omega arith in
    let lx : length x ≡ n = l ∙ rw (a, length-take) (omega arith) in
    e ∙ ap (λ (y : List ℕ). replicate n 0 ++ y) (rw a (drop_at x (drop n w) n lx))

module _ (s : List ℕ) (y m : ℕ) (A : Accepted s) (e : is_month m ≡ true) (n used : ℕ) (en : n ≡ length (month_postings s y m)) (eu : used ≡ n * record_width) (t w u : List ℕ) where
  abbrev D : Outcome
  D = decided s y m (length t) (length w) (length u) (plain s)

  pub done_short : (r : Result ℕ Refused) → (length w < used) ⊎ ((used ≤ length w) × (length u < used)) → r ≡ Err (refused_with 9 1 used) → Done D t w u r t w u
  done_short r h q = early_done D 9 1 used (short s y m (length t) (length w) (length u) A e n used en eu h) t w u r q

  module _ (h : used ≤ length w) (k : used ≤ length u) where
    -- the working spaces have room for what is asked of them
    pub done_room : (length (take (used - 0) (drop 0 w)) ≡ length (month_postings s y m) * record_width) × (length (take (used - 0) (drop 0 w)) ≤ length (take (used - 0) (drop 0 u)))
    done_room = let a : used - 0 ≡ used = omega arith in rw (a, length-take, length-take) (omega arith)

    used_is : used ≡ length (month_postings s y m) * record_width
    used_is = omega arith

    cleared_month : (w₀ v : List ℕ) → v ≡ cleared used w₀ → v ≡ work_left D w₀
    unfolding listed_month
    cleared_month w₀ v q =
        q
        ∙ ap (λ (i : ℕ). cleared i w₀) used_is
        ∙ sym (work_settled (length (month_postings s y m) * record_width) _ (length t) _ w₀)
        ∙ ap (λ (x : Outcome). work_left x w₀) (sym (enough s y m (length t) (length w) (length u) A e n used en eu h k))

    pub done_listed : (r : Result ℕ Refused) (t' x w' z u' : List ℕ) → r ≡ answer_of (listed_month s y m (length t)) → t' ≡ items_left (listed_month s y m (length t)) t
        → length x ≡ length (take (used - 0) (drop 0 w)) → w' ≡ cleared used (put_mid 0 (used - 0) w x)
        → length z ≡ length (take (used - 0) (drop 0 u)) → u' ≡ cleared used (put_mid 0 (used - 0) u z) → Done D t w u r t' w' u'
    done_listed r t' x w' z u' er et lx ew lz eu' =
        let d = enough s y m (length t) (length w) (length u) A e n used en eu h k in
        record {
          answer = er ∙ ap answer_of (sym d);
          in_items = et ∙ ap (λ (o : Outcome). items_left o t) (sym d);
          in_work = cleared_month w w' (front_cleared w x w' used h lx ew);
          in_spare = cleared_month u u' (front_cleared u z u' used k lz eu');
        }

pub ruleset month_done = (done_short, done_room, done_listed)

-- ---- the whole call, by the verdict v

abbrev stopped_with : Refused → Result ℕ Refused
stopped_with x = Err x

module _ (s : List ℕ) (y m : ℕ) (t w u : List ℕ) (v : Result ℕ Refused) (ev : v ≡ scan_answer (plain s)) where
  abbrev E : Outcome
  E = decided s y m (length t) (length w) (length u) (plain s)

  pub done_stopped : (x : Refused) (r : Result ℕ Refused) → v ≡ Err x → r ≡ Err x → Done E t w u r t w u
  unfolding decided
  done_stopped x r q e =
      let d = stopped_denies x (plain s) (sym q ∙ ev) in
      early_done E x.number x.place 0 (rw d.0) t w u r (e ∙ ap stopped_with d.1)

  module _ (n : ℕ) (q : v ≡ Ok n) where
    pub done_accepted : Accepted s
    done_accepted = let z = whole_reads n (plain s) (sym q ∙ ev) in record { rows = z.0; reads = z.1 }

    pub done_no_month : (b : Bool) (r : Result ℕ Refused) → b ≡ is_month m → b ≡ false → r ≡ Err (refused_with 15 0 0) → Done E t w u r t w u
    unfolding decided
    done_no_month b r eb h e = early_done E 15 0 0 (rw (done_accepted.reads, ← eb, h)) t w u r e

    pub done_month : (b : Bool) → b ≡ is_month m → b ≡ true → is_month m ≡ true
    done_month b eb h = sym eb ∙ h

pub ruleset call_laws = (done_stopped, done_accepted, done_no_month, done_month)
