-- What a line says, by the definitions and by the sentences: the same, for Intel HEX and for S-records.
use Rattle.std.specs.Prelude.{◌≡◌, refl, Bool, true, false, ◌&&◌, ◌||◌, List, [], ◌∷◌, ◌⊎◌, ℕ, ◌+◌, ◌*◌, ltb, eqb}
use Rattle.std.proofs.Common.{sym, ap, ◌∙◌, subst, inl, inr, ⊎_elim, arith, eq-eqb, ne_eqb, eqb-true}
use Rattle.std.proofs.lemmas.Bool.{eqb-false}
use Rattle.prelude.specs.Laws.Bools.{either, unlike}
use Rattle.record_lines.specs.Digits.{pair_at}
use Rattle.record_lines.specs.Items.{Item, gives, passes, ends, bad}
use Rattle.record_lines.specs.Pieces.{Piece, piece}
use Rattle.record_ihex_line.specs.Format.{hex_item}
use Rattle.record_srec_line.specs.Srec.{data_digit, end_digit, address_of, data_of, agrees, fits, data_line, end_line, typed, srec_item}
use Rattle.record_srec_line.specs.ReadBack as back
use Rattle.record_scan.specs.Reading.{format_by, state_after}
use Rattle.says.specs.Records as r
use Rattle.says.specs.Records.{Hex, Srec, Width}
use Rattle.meets_records.specs.Laws.HexLine as hex
use Rattle.meets_records.specs.Laws.HexLine.{HexSaid}
use Rattle.meets_records.specs.Laws.SrecLine as srec
use Rattle.meets_records.specs.Laws.SrecLine.{SrecSaid, width_is, is-width, srec-sound, kind-back}
use Rattle.meets_records.specs.Theorems.WriteDecides.{same-piece}
use Rattle.says.specs.Reason as s
use Rattle.says.specs.Reason.{DataLine, LineGives, After, EndRecord}

-- an end record, and a line that is skipped: neither bad nor with bytes
pub data Kept : Item → Type 0 where
  ended : Kept ends
  skipped : {a : ℕ} → Kept (passes a)

pub clashes : {a b : Item} → Kept a → a ≡ b → (b ≡ bad) ⊎ ((x : ℕ) × (y : List ℕ) × (z : ℕ) × (b ≡ gives x y z)) → ⊥
clashes ended e (inl f) = unlike cc
clashes ended e (inr (x, y, z, f)) = unlike cc
clashes skipped e (inl f) = unlike cc
clashes skipped e (inr (x, y, z, f)) = unlike cc

-- ---- the width in force
pub own-width : (st w : ℕ) → agrees st w ≡ true → (st ≡ 0) ⊎ (st ≡ w)
own-width st w e = either (eqb st 0) (λ t. inl (eqb-true st 0 t)) (λ f. inr (eqb-true st w (rw f at e)))

or-last : (a : Bool) → (a || true) ≡ true
or-last true = refl
or-last false = refl

pub agrees-own : (st w : ℕ) → (st ≡ 0) ⊎ (st ≡ w) → agrees st w ≡ true
agrees-own st w (inl e) = rw (eq-eqb st 0 e)
agrees-own st w (inr e) = rw (eq-eqb st w e) (or-last (eqb st 0))

-- an end record of another width is bad
other-end : (st : ℕ) {w a : ℕ} {l : List ℕ} → back.Width w → Srec r.either l (end_digit w) w a [] → agrees st w ≡ false → srec_item st l ≡ bad
unfolding srec_item typed end_line
other-end st back.two x f = rw (srec-sound x, kind-back x, f)
other-end st back.four x f = rw (srec-sound x, kind-back x, f)

-- a data record is bad or gives bytes
data-or-bad : (st : ℕ) {w a : ℕ} {l b : List ℕ} → back.Width w → Srec r.either l (data_digit w) w a b
    → (srec_item st l ≡ bad) ⊎ ((x : ℕ) × (y : List ℕ) × (z : ℕ) × (srec_item st l ≡ gives x y z))
unfolding srec_item typed data_line
data-or-bad st {l = l} back.two x = either (agrees st 2 && ltb 2 (pair_at l 2) && fits 2 l)
    (λ t. inr (address_of 2 l, data_of 2 l, 2, rw (srec-sound x, kind-back x, t) refl)) (λ f. inl (rw (srec-sound x, kind-back x, f) refl))
data-or-bad st {l = l} back.four x = either (agrees st 4 && ltb 4 (pair_at l 2) && fits 4 l)
    (λ t. inr (address_of 4 l, data_of 4 l, 4, rw (srec-sound x, kind-back x, t) refl)) (λ f. inl (rw (srec-sound x, kind-back x, f) refl))

module _ (format : ℕ) where
  pub as-hex : format ≡ 0 → (st : ℕ) (l : List ℕ) → format_by format st l ≡ hex_item st l
  as-hex f st l = rw (eq-eqb format 0 f)

  pub as-srec : (format ≡ 0 → ⊥) → (st : ℕ) (l : List ℕ) → format_by format st l ≡ srec_item st l
  as-srec n st l = rw (ne_eqb format 0 n)

  -- ---- from the sentences
  pub gives-item : {st after : ℕ} {l : List ℕ} {p : Piece} → LineGives format st l after p → format_by format st l ≡ gives p.address p.bytes after
  gives-item {st} {l = l} (s.line_gives (s.hex {p = p} f h e) g) =
      as-hex f st l ∙ hex.item-data st h ∙ ap (λ (a : ℕ). gives a p.bytes st) (sym e)
  gives-item (s.line_gives (s.s-record n v o h) (inl f)) = absurd (n f)
  gives-item {st} {l = l} (s.line_gives (s.s-record {w = w} {p = p} n v o h) (inr fit)) =
      let k = is-width v in
      as-srec n st l ∙ srec.item-data k.0 st (subst (λ (d : ℕ). Srec r.either l d w p.address p.bytes) k.1 h) (agrees-own st w o)
      (omega (arith, k.3))

  pub data-item : {st after top : ℕ} {l : List ℕ} {p : Piece} → DataLine format st l after top p
      → (format_by format st l ≡ bad) ⊎ ((x : ℕ) × (y : List ℕ) × (z : ℕ) × (format_by format st l ≡ gives x y z))
  data-item {st} {after} {p = p} (s.hex f h e) = inr (p.address, p.bytes, after, gives-item (s.line_gives (s.hex f h e) (inl f)))
  data-item {st} {l = l} (s.s-record {w = w} {p = p} n v o h) =
      let k = is-width v in
      let same = as-srec n st l in
      ⊎_elim (λ e. inl (same ∙ e)) (λ x. inr (x.0, x.1, x.2, same ∙ x.3))
      (data-or-bad st k.0 (subst (λ (d : ℕ). Srec r.either l d w p.address p.bytes) k.1 h))

  pub upper-item : (st : ℕ) {a b : ℕ} {l : List ℕ} → format ≡ 0 → Hex r.either l 4 0 (a ∷ b ∷ []) → format_by format st l ≡ passes (256 * a + b)
  upper-item st {l = l} f h = as-hex f st l ∙ hex.item-upper st h

  pub end-item : (st : ℕ) {l : List ℕ} → EndRecord format l → (format_by format st l ≡ ends) ⊎ (format_by format st l ≡ bad)
  end-item st {l} (s.hex f h) = inl (as-hex f st l ∙ hex.item-end st h)
  end-item st {l} (s.s-record {w = w} {address = a} n v h) =
      let k = is-width v in
      let x : Srec r.either l (end_digit w) w a [] = subst (λ (e : ℕ). Srec r.either l e w a []) k.2 h in
      either (agrees st w) (λ t. inl (as-srec n st l ∙ srec.item-end k.0 st x t)) (λ f. inr (as-srec n st l ∙ other-end st k.0 x f))

  -- ---- to the sentences
  pub data Said (st : ℕ) (l : List ℕ) : Item → Type 0 where
    gave : {after : ℕ} {p : Piece} → LineGives format st l after p → Said st l (gives p.address p.bytes after)
    moved : {a b : ℕ} → format ≡ 0 → Hex r.either l 4 0 (a ∷ b ∷ []) → Said st l (passes (256 * a + b))
    skipped : (format ≡ 0 → ⊥) → Said st l (passes st)
    closed : EndRecord format l → Said st l ends
    none : Said st l bad

  of-hex : {st : ℕ} {l : List ℕ} {x : Item} → format ≡ 0 → HexSaid st l x → Said st l x
  of-hex {st} f (hex.gave {f = field} {b = b} h) = gave {p = piece (65536 * st + field) b} (s.line_gives (s.hex f h refl) (inl f))
  of-hex f (hex.moved h) = moved f h
  of-hex f (hex.closed h) = closed (s.hex f h)
  of-hex f hex.none = none

  of-srec : {st : ℕ} {l : List ℕ} {x : Item} → (format ≡ 0 → ⊥) → SrecSaid st l x → Said st l x
  of-srec {st} n (srec.gave {w} {a} {b} v o h fit) = gave {p = piece a b} (s.line_gives (s.s-record n (width_is v) (own-width st w o) h) (inr fit))
  of-srec n (srec.skipped h) = skipped n
  of-srec n (srec.closed v o h) = closed (s.s-record n (width_is v) h)
  of-srec n srec.none = none

  pub said : (st : ℕ) (l : List ℕ) → Said st l (format_by format st l)
  said st l = either (eqb format 0)
      (λ t. rw t (of-hex (eqb-true format 0 t) (hex.said st l)))
      (λ f. rw f (of-srec (eqb-false format 0 f) (srec.said st l)))

  module _ (st : ℕ) (l : List ℕ) where
    stays : {x : Item} → format_by format st l ≡ x → ((a : ℕ) (b : List ℕ) (c : ℕ) → gives a b c ≡ x → ⊥) → ((a : ℕ) → passes a ≡ x → format ≡ 0 → ⊥)
        → After format st l st
    stays e g p = s.neither (λ after q h. g q.address q.bytes after (sym (gives-item h) ∙ e)) (λ a b f h. p (256 * a + b) (sym (upper-item st f h) ∙ e) f)

    after-by : (x : Item) → format_by format st l ≡ x → Said st l x → After format st l (state_after st x)
    after-by x e (gave g) = s.gave g
    after-by x e (moved f h) = s.upper-half f h
    after-by x e (skipped n) =
        stays e (λ a b c z. unlike cc) (λ a z f. n f)
    after-by x e (closed c) =
        stays e (λ a b c z. unlike cc) (λ a z f. unlike cc)
    after-by x e none =
        stays e (λ a b c z. unlike cc) (λ a z f. unlike cc)

    pub after_is : After format st l (state_after st (format_by format st l))
    after_is = after-by (format_by format st l) refl (said st l)

  -- the piece of a line that gives one
  piece-by : {st a after : ℕ} {b l : List ℕ} {x : Item} → Said st l x → x ≡ gives a b after → LineGives format st l after (piece a b)
  piece-by {st} {a} {after} {b} {l} (gave {after = c} {p = p} g) e =
      let state : c ≡ after = cc in
      let start : p.address ≡ a = cc in
      let data-bytes : p.bytes ≡ b = cc in
      let same : p ≡ piece a b = same-piece p (piece a b) start data-bytes in
      subst (λ (q : Piece). LineGives format st l after q) same (subst (λ (n : ℕ). LineGives format st l n p) state g)
  piece-by (moved f h) e = unlike cc
  piece-by (skipped n) e = unlike cc
  piece-by (closed c) e = unlike cc
  piece-by none e = unlike cc

  pub item-gives : (st : ℕ) {a after : ℕ} {b : List ℕ} (l : List ℕ) → format_by format st l ≡ gives a b after → LineGives format st l after (piece a b)
  item-gives st l e = piece-by (said st l) e
