-- Directives: what the code did for a form, each from what it knows where it answers.
use Rattle.text.proofs.TestLaws.{ok_pair, tried}
use Rattle.entry.specs.declared.directive.Formed.{Formed}
use Rattle.text.specs.declared.stop.Stop.{Stop}
use Rattle.text.specs.steps.Told.{Reading}
use Rattle.text.specs.declared.stop.Cause.{Cause}
use Rattle.std.specs.Prelude.{None, Option, Some, Result, Err, Ok}
use Prim.Native.Nat.{ℕ, ◌+◌, ◌≤◌}
use native.Mathlib.Omega.{arith}
use mathlib.Core.Path.{◌≡◌, refl, sym, ◌∙◌, ap, subst}
use mathlib.Core.Bool.{Bool, true, false, cond}
use mathlib.Core.List.{List, [], map}
use lib.Dec.{eqb}
use lib.ListN.{length}
use Rattle.text.specs.Answer.{Ans, To, Miss, Hard, ◌then◌, ◌and◌, ◌else◌, must}
use Rattle.text.specs.Dates.{date_at}
use Rattle.text.specs.Leaves.{token, dated, date, gap, hard_gap, line_end}
use Rattle.text.specs.Lines.{gap_at, line_end_at}
use Rattle.text.proofs.Joins.{Reach}
use Rattle.text.proofs.TokenEnds.{gap_reach, line_reach, date_reach}
use Rattle.text.specs.Refusals.{missing_gap}
use Rattle.amount.specs.declared.detail.Detail.{Detail}
use Rattle.amount.specs.Details.{Rows}
use Rattle.amount.specs.Amounts.{hard_currency, price_of}
use Rattle.amount.proofs.AmountFew.{hard_currency_fits, price_of_fits}
use Rattle.amount.proofs.AmountLaws.{hard_currency_reach, price_of_reach}
use Rattle.amount.proofs.RowCounts.{Fits, fits_at}
use Rattle.posting.specs.Metadata.{metadata}
use Rattle.row.specs.declared.writer.Out.{Out}
use Rattle.row.specs.steps.Writing.{laid, outs, Poured, Did}
use Rattle.row.proofs.OutLaws.{rows_outs, poured_none, poured_past}
use Rattle.row.proofs.DidLaws.{was_read, and_read, and_stop}
use Rattle.row.proofs.TokenLaws.{token_read, token_miss, must_token_read, must_token_miss}
use Rattle.content.specs.Contents.{hard_account, balance_of, open_of, pad_of, event_of}
use Rattle.transaction.specs.Transaction.{transaction}
use Rattle.entry.specs.Forms.{Form, as_entry, dateless, directive}
use Rattle.content.specs.steps.Parts.{content_of}
use Rattle.entry.specs.steps.Formed.{content_end, keyword_at, gap_content, by_keyword, formed_of, DidForm}
use Rattle.content.proofs.ContentEnds.{hard_account_reach, balance_of_reach, open_of_reach, pad_of_reach, event_of_reach}
use Rattle.content.proofs.ContentFew.{hard_account_fits, balance_of_fits, open_of_fits, pad_of_fits, event_of_fits}
use Rattle.entry.proofs.KeywordLaws.{keyword_on, keyword_off, keyword_within, keyword_room}

-- ---- an answer as a form of a kind

module _ {E : Type 0} (k d : ℕ) (r : Result (ℕ × Out) E) where
  pub formed_read : (e : ℕ) (m : Out) → r ≡ Ok (e, m) → Ok (e, record { kind = k; date = d; out = m }) ≡ formed_of k d r
  unfolding formed_of
  formed_read e m h = rw h

  pub formed_stop : (stop : E) → r ≡ Err stop → Err stop ≡ formed_of k d r
  unfolding formed_of
  formed_stop stop h = rw h

pub ruleset formed_laws = (formed_read, formed_stop)

module _ (base : ℕ) (o : Out) (t u : List ℕ) where
  pub form_of : (k d : ℕ) (a : Rows) (r : Reading Out) → Did base a o t u r → DidForm base (as_entry k d a) o t u (formed_of k d r)
  unfolding as_entry formed_of
  form_of k d (To e ds) r w = (rw w.0, w.1)
  form_of k d Miss r w = (rw w.0, w.1)
  form_of k d (Hard n p) r w = rw w

  -- the same for a form that is the same
  pub form_as : (a : Ans Form) (k d : ℕ) (b : Rows) (r : Reading Out) (f : Reading Formed) → a ≡ as_entry k d b → Did base b o t u r → f ≡ formed_of k d r → DidForm base a o t u f
  form_as a k d b r f e w q = rw (e, q) (form_of k d b r w)

-- ---- what the code's answer f to a form tells of it

pub form_was : (base : ℕ) (a : Ans Form) (o : Out) (t v : List ℕ) (f : Reading Formed) (y : Formed) (n : ℕ) → DidForm base a o t v f → f ≡ Ok (n, y)
    → (x : Form) × (a ≡ To n x) × (x.kind ≡ y.kind) × (x.date ≡ y.date) × (y.out ≡ outs o x.details) × Poured o.rows (map (laid base) x.details) t v
form_was base (To e x) o t v f y n w h =
    let p = ok_pair (sym w.0 ∙ h) in
    (x, ap (λ i. To i x) p.0, ap (λ (z : Formed). z.kind) p.1, ap (λ (z : Formed). z.date) p.1, sym (ap (λ (z : Formed). z.out) p.1), w.1)
form_was base Miss o t v f y n w h = absurd (let z : ◌≡◌ {A = ℕ} 0 1 = cc in omega arith)
form_was base (Hard i p) o t v f y n w h = absurd (let z : ◌≡◌ {A = ℕ} 0 1 = cc in omega arith)

pub form_missed : (base : ℕ) (a : Ans Form) (o : Out) (t v : List ℕ) (f : Reading Formed) → DidForm base a o t v f → f ≡ (Err Stop.Miss) → (a ≡ Miss) × Poured o.rows [] t v
form_missed base (To e x) o t v f w h = absurd (let z : ◌≡◌ {A = ℕ} 0 1 = cc in omega arith)
form_missed base Miss o t v f w h = (refl, w.1)
form_missed base (Hard i p) o t v f w h = absurd (let z : ◌≡◌ {A = ℕ} 0 1 = cc in omega arith)

pub form_refused : (base : ℕ) (a : Ans Form) (o : Out) (t v : List ℕ) (f : Reading Formed) (n : Cause) (p : ℕ) → DidForm base a o t v f → f ≡ Err (Stop.Hard n p) → a ≡ Hard n p
form_refused base (To e x) o t v f n p w h = absurd (let z : ◌≡◌ {A = ℕ} 0 1 = cc in omega arith)
form_refused base Miss o t v f n p w h = absurd (let z : ◌≡◌ {A = ℕ} 0 1 = cc in omega arith)
form_refused base (Hard i q) o t v f n p w h = cc

-- ---- a form, else the next on the same table

form_past : (base : ℕ) (a : Ans Form) (o : Out) (t v u : List ℕ) (f : Reading Formed) → Poured o.rows [] t v → DidForm base a o v u f → DidForm base a o t u f
form_past base (To e x) o t v u f w d = (d.0, poured_past o.rows (map (laid base) x.details) t v u w d.1)
form_past base Miss o t v u f w d = (d.0, poured_past o.rows [] t v u w d.1)
form_past base (Hard k p) o t v u f w d = d

module _ (base : ℕ) (o : Out) (t v : List ℕ) (a b : Ans Form) (f : Reading Formed) (w : DidForm base a o t v f) where
  pub else_kept : (y : ℕ × Formed) → f ≡ Ok y → DidForm base (a else b) o t v f
  unfolding ◌else◌
  else_kept (n, y) h = go a w
    where
      go : (a : Ans Form) → DidForm base a o t v f → DidForm base (a else b) o t v f
      go (To e x) w = w
      go Miss w = absurd (let z : ◌≡◌ {A = ℕ} 0 1 = let z = sym w.0 ∙ h in cc in omega arith)
      go (Hard k p) w = w

  pub else_next : (u : List ℕ) (q : Reading Formed) → f ≡ (Err Stop.Miss) → DidForm base b o v u q → DidForm base (a else b) o t u q
  unfolding ◌else◌
  else_next u q h k = let z = form_missed base a o t v f w h in rw z.0 (form_past base b o t v u q z.1 k)

  pub else_hard : (u : List ℕ) (k : Cause) (p : ℕ) → f ≡ Err (Stop.Hard k p) → DidForm base (a else b) o t u (Err (Stop.Hard k p))
  unfolding ◌else◌
  else_hard u k p h = rw (form_refused base a o t v f k p w h) refl

-- ---- the content of a directive

-- what holds of each content holds of the content of a kind
by_kind : (P : Rows → Type 0) (k : ℕ) (s : List ℕ) (at : ℕ) → P (price_of s at) → P (balance_of s at) → P (open_of s at) → P (hard_account s at) → P (pad_of s at)
    → P (hard_currency s at) → P (event_of s at) → P (content_of k s at)
unfolding content_of
by_kind P k s at price balance opens close pad commodity event =
    either (eqb k 7) _ _ price
    (either (eqb k 8) _ _ balance
    (either (eqb k 9) _ _ opens
    (either (eqb k 10) _ _ close (either (eqb k 11) _ _ pad (either (eqb k 12) _ _ commodity event)))))
  where
    either : (t : Bool) (a b : Rows) → P a → P b → P (cond t a b)
    either true a b x y = x
    either false a b x y = y

content_reach : (k : ℕ) (s : List ℕ) (at : ℕ) → at ≤ length s → Reach (length s) (at + 1) (content_of k s at)
content_reach k s at h =
    by_kind (Reach (length s) (at + 1)) k s at (price_of_reach s at h) (balance_of_reach s at h) (open_of_reach s at h) (hard_account_reach s at h)
    (pad_of_reach s at h) (hard_currency_reach s at h) (event_of_reach s at h)

pub content_fits : (k : ℕ) (s : List ℕ) (at : ℕ) → at ≤ length s → Fits s at (content_of k s at)
content_fits k s at h =
    by_kind (Fits s at) k s at (price_of_fits s at h) (balance_of_fits s at h) (open_of_fits s at h) (hard_account_fits s at h) (pad_of_fits s at h)
    (hard_currency_fits s at h) (event_of_fits s at h)

-- the content, its line end and metadata: c is what the code answered to the content, l to the line end
module _ (base : ℕ) (k : ℕ) (s : List ℕ) (at : ℕ) (o : Out) (t v : List ℕ) (c : Reading Out) (w : Did base (content_of k s at) o t v c) where
  -- after the content
  abbrev end_of : ℕ → Rows
  end_of m = line_end s m and λ l. metadata s l

  module _ (e : ℕ) (m : Out) (h : c ≡ Ok (e, m)) (l : Option ℕ) (x : l ≡ line_end_at s e) where
    pub content_end_lem : (f : ℕ) (u : List ℕ) (q : Reading Out) → l ≡ Some f → Did base (metadata s f) m v u q → Did base (content_end k s at) o t u q
    unfolding content_end line_end
    content_end_lem f u q g z = and_read base o t v c (content_of k s at) end_of w e m u q h (token_read base m v l (line_end_at s e) x (metadata s) f u q g z)

    pub content_open : l ≡ None → Did base (content_end k s at) o t v (Err Stop.Miss)
    unfolding content_end line_end
    content_open g = and_read base o t v c (content_of k s at) end_of w e m v (Err Stop.Miss) h (token_miss base m v l (line_end_at s e) x (metadata s) g)

  pub content_stop : (stop : Stop) → c ≡ Err stop → Did base (content_end k s at) o t v (Err stop)
  unfolding content_end
  content_stop stop h = and_stop base o t v c (content_of k s at) end_of w stop h

-- what metadata needs
module _ (s : List ℕ) (e f : ℕ) (l : Option ℕ) (g : l ≡ Some f) (x : l ≡ line_end_at s e) (c : Reading Out) (m : Out) (h : c ≡ Ok (e, m))
    (base k at : ℕ) (o : Out) (n n' : List ℕ) (w : Did base (content_of k s at) o n n' c) where
  content_ends : at ≤ length s → (ds : List Detail) × (m ≡ outs o ds) × (at + length ds ≤ e) × (e ≤ f) × (f ≤ length s)
  unfolding line_end token
  content_ends i =
      let a = was_read base o n n' c (content_of k s at) e m w h in
      let p = (subst (Reach (length s) (at + 1)) a.1 (content_reach k s at i)).ends in
      let q = (subst (λ y. Reach {A = List Detail} (length s) e (token y)) (sym x ∙ g) (line_reach s e p.1)).ends in
      (a.0, a.2.0, (fits_at at e a.0 (content_of k s at) (content_fits k s at i) a.1).1, q.0, q.1)

  pub content_within : at ≤ length s → f ≤ length s
  content_within i = (content_ends i).4

  pub content_room : at ≤ length s → o.rows ≤ at → m.rows ≤ f
  content_room i r = rw ((content_ends i).1, rows_outs (content_ends i).0 o) (omega (arith, (content_ends i).2, (content_ends i).3))

pub ruleset content_laws = (tried, content_within, content_room, content_end_lem, content_open, content_stop)

-- ---- a gap, which is required, and then a content: g is what the code read

-- what was read after a gap
module _ (s : List ℕ) (at : ℕ) (g : Option ℕ) (v : g ≡ gap_at s at) (j : ℕ) (h : g ≡ Some j) (l : at ≤ length s) where
  gap_ends : (at + 1 ≤ j) × (j ≤ length s)
  unfolding gap token
  gap_ends = (subst (λ y. Reach {A = List Detail} (length s) (at + 1) (token y)) (sym v ∙ h) (gap_reach s at l)).ends

  pub gap_within : j ≤ length s
  gap_within = gap_ends.1

  pub gap_room : (n : ℕ) → n ≤ at → n ≤ j
  gap_room n r = omega (arith, gap_ends)

module _ (base : ℕ) (k : ℕ) (s : List ℕ) (at : ℕ) (o : Out) (t u : List ℕ) (g : Option ℕ) (v : g ≡ gap_at s at) where
  pub gap_content_on : (j : ℕ) (q : Reading Out) → g ≡ Some j → Did base (content_end k s j) o t u q → Did base (gap_content k s at) o t u q
  unfolding gap_content hard_gap gap
  gap_content_on j q h w = must_token_read base o t g (gap_at s at) v (content_end k s) missing_gap at j u q h w

  pub gap_content_hard : g ≡ None → Did base (gap_content k s at) o t u (Err (Stop.Hard missing_gap at))
  unfolding gap_content hard_gap gap
  gap_content_hard h = must_token_miss base o t g (gap_at s at) v (content_end k s) missing_gap at u h

pub ruleset gap_content_laws = (tried, gap_within, gap_room, gap_content_on, gap_content_hard)

-- ---- a directive by its keyword, which the code found to be x

module _ (base : ℕ) (d : ℕ) (s : List ℕ) (at : ℕ) (o : Out) (t : List ℕ) (x : Option (ℕ × ℕ)) (v : x ≡ keyword_at s at) where
  pub by_keyword_read : (k e : ℕ) (u : List ℕ) (r : Reading Out) (f : Reading Formed) → x ≡ Some (k, e) → Did base (gap_content k s e) o t u r → f ≡ formed_of k d r
      → DidForm base (by_keyword d s at) o t u f
  by_keyword_read k e u r f h w q = form_as base o t u (by_keyword d s at) k d (gap_content k s e) r f (keyword_on d s at x v k e h) w q

  pub by_keyword_miss : x ≡ None → DidForm base (by_keyword d s at) o t t (Err Stop.Miss)
  by_keyword_miss h = rw (keyword_off d s at x v h) (refl, poured_none o.rows t)

pub ruleset by_keyword_laws = (tried, keyword_within, keyword_room, by_keyword_read, by_keyword_miss)

-- ---- a transaction, to which the code answered r, else a keyword

module _ (base : ℕ) (d : ℕ) (s : List ℕ) (at : ℕ) (o : Out) (t v : List ℕ) (r : Reading Out) (w : Did base (transaction s at) o t v r) where
  dateless_else : dateless d s at ≡ (as_entry 6 d (transaction s at) else by_keyword d s at)
  unfolding dateless by_keyword
  dateless_else = refl

  pub dateless_read : (x : ℕ × Out) (f : Reading Formed) → r ≡ Ok x → f ≡ formed_of 6 d r → DidForm base (dateless d s at) o t v f
  unfolding formed_of
  dateless_read (e, m) f h q =
      rw (dateless_else, q)
      (else_kept base o t v (as_entry 6 d (transaction s at)) (by_keyword d s at) (formed_of 6 d r) (form_of base o t v 6 d (transaction s at) r w)
      (e, record { kind = 6; date = d; out = m }) (rw h))

  pub dateless_next : (u : List ℕ) (f : Reading Formed) → r ≡ (Err Stop.Miss) → DidForm base (by_keyword d s at) o v u f → DidForm base (dateless d s at) o t u f
  unfolding formed_of
  dateless_next u f h k =
      rw dateless_else
      (else_next base o t v (as_entry 6 d (transaction s at)) (by_keyword d s at) (formed_of 6 d r) (form_of base o t v 6 d (transaction s at) r w) u f (rw h) k)

  pub dateless_hard : (u : List ℕ) (n : Cause) (p : ℕ) (f : Reading Formed) → r ≡ Err (Stop.Hard n p) → f ≡ formed_of 6 d r → DidForm base (dateless d s at) o t u f
  unfolding formed_of
  dateless_hard u n p f h q =
      rw (dateless_else, q, h)
      (else_hard base o t v (as_entry 6 d (transaction s at)) (by_keyword d s at) (formed_of 6 d r) (form_of base o t v 6 d (transaction s at) r w) u n p (rw h))

pub ruleset dateless_laws = (dateless_read, dateless_next, dateless_hard)

-- ---- a directive: x is the date that the code read, g its gap

module _ (base : ℕ) (s : List ℕ) (o : Out) (t : List ℕ) (x : Option (ℕ × ℕ)) (v : x ≡ date_at s 0) where
  module _ (e y : ℕ) (h : x ≡ Some (e, y)) (g : Option ℕ) (w : g ≡ gap_at s e) where
    after_date : directive s ≡ (must missing_gap e (token {A = Detail} g) then λ j _. dateless y s j)
    unfolding directive date dated hard_gap gap ◌then◌
    after_date = rw (← v, h, w)

    pub directive_on : (j d : ℕ) (u : List ℕ) (f : Reading Formed) → g ≡ Some j → d ≡ y → DidForm base (dateless d s j) o t u f → DidForm base (directive s) o t u f
    unfolding token must ◌then◌
    directive_on j d u f i q k = rw (after_date, i, ← q) k

    pub directive_hard : (u : List ℕ) → g ≡ None → DidForm base (directive s) o t u (Err (Stop.Hard missing_gap e))
    unfolding token must ◌then◌
    directive_hard u i = rw (after_date, i) refl

  pub directive_miss : x ≡ None → DidForm base (directive s) o t t (Err Stop.Miss)
  unfolding directive date dated ◌then◌
  directive_miss h = rw (← v, h) (refl, poured_none o.rows t)

-- what the code needs to read on after the date
module _ (s : List ℕ) (x : Option (ℕ × ℕ)) (v : x ≡ date_at s 0) (e y : ℕ) (h : x ≡ Some (e, y)) (g : Option ℕ) (w : g ≡ gap_at s e) (j : ℕ) (i : g ≡ Some j) where
  pub directive_within : j ≤ length s
  unfolding date dated
  directive_within = gap_within s e g w j i (subst (λ z. Reach (length s) 10 (dated z)) (sym v ∙ h) (date_reach s 0 (omega arith))).ends.1

pub no_room : (n j : ℕ) → n ≤ 0 → n ≤ j
no_room n j h = omega arith

pub ruleset directive_laws = (tried, directive_within, no_room, directive_on, directive_hard, directive_miss)
