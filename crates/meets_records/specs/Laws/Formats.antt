-- The lines of a good file, by the sentences and by the definitions' formats: the same, for Intel HEX and for S-records.
use Rattle.std.specs.Prelude.{◌≡◌, refl, true, List, [], ◌∷◌, ◌++◌, ◌⊎◌, ℕ, zero, suc, ◌+◌, ◌*◌, ◌-◌, ◌≤◌, ◌<◌, ◌^◌, length, get_or}
use Rattle.std.proofs.Common.{sym, ap, ◌∙◌, subst, inl, inr, ⊎_elim, arith, eq-eqb, ne_eqb}
use Rattle.std.proofs.Math.Decide.{ℕ_discrete}
use Rattle.prelude.specs.Laws.Bools.{clash, unlike}
use Rattle.record_lines.specs.Items.{Item, gives, passes, ends, Format}
use Rattle.record_lines.specs.Lines.{lines_of}
use Rattle.record_lines.specs.Pieces.{Piece, piece}
use Rattle.record_lines.specs.Laws.Spelled.{bytes-none}
use Rattle.record_lines.specs.Telling.{Tells, closes, skips, tells}
use Rattle.record_lines.specs.Uppers.{ended}
use Rattle.record_ihex_line.specs.Format.{hex_item}
use Rattle.record_ihex_line.specs.ReadBack.{line_of}
use Rattle.record_srec_line.specs.Srec.{data_digit, end_digit, line_text, agrees, srec_item}
use Rattle.record_srec_line.specs.ReadBack as back
use Rattle.record_scan.specs.Reading.{format_by}
use Rattle.says.specs.Records as r
use Rattle.says.specs.Records.{Lines, Digit, Spells, Hex, Number, Srec}
use Rattle.says.specs.Read as s
use Rattle.says.specs.Read.{HexLines, SrecLines, Gives, Good}
use Rattle.meets_records.specs.Laws.One.{lines-one, spells-below}
use Rattle.meets_records.specs.Laws.Spelled.{lines-meet}
use Rattle.meets_records.specs.Laws.HexLine as hex
use Rattle.meets_records.specs.Laws.HexLine.{HexSaid, hex-written}
use Rattle.meets_records.specs.Laws.SrecLine as srec
use Rattle.meets_records.specs.Laws.SrecLine.{SrecSaid, srec-written, width_is, is-width}
use Rattle.meets_records.specs.Laws.Sits.{Sits, head-gives, tail-gives, sits, sat, sits-apart}

-- ---- lines of good records as a text
abbrev pub Above : List ℕ → Type 0
Above [] = Unit {0}
Above (c ∷ l) = (13 < c) × Above l

abbrev pub AllAbove : List (List ℕ) → Type 0
AllAbove [] = Unit {0}
AllAbove (l ∷ ls) = Above l × AllAbove ls

digit-above : {c v : ℕ} → Digit r.either c v → 13 < c
digit-above (r.figure h e) = omega arith
digit-above (r.letter h (inl e) f) = omega arith
digit-above (r.letter h (inr (k, e)) f) = omega arith

spelled-above : {t bs : List ℕ} → Spells r.either t bs → Above t
spelled-above r.none = tt
spelled-above (r.byte p q e x) = (digit-above p, (digit-above q, spelled-above x))

pub hex-above : {l b : List ℕ} {t f : ℕ} → Hex r.either l t f b → Above l
hex-above x = subst Above (sym x.colon) (omega arith, spelled-above x.spelled)

no-lf : {c : ℕ} → 13 < c → c ≡ 10 → ⊥
no-lf h e = omega arith

no-cr : {c d : ℕ} → 13 < c → (c ≡ 13) × (d ≡ 10) → ⊥
no-cr h e = omega (arith, e.0)

pub line-ended : (l t : List ℕ) (ls : List (List ℕ)) → Above l → Lines t ls → Lines (l ++ (10 ∷ t)) (l ∷ ls)
line-ended [] t ls a x = r.lf refl x
line-ended (c ∷ []) t ls a x = r.more (no-lf a.0) (no-cr a.0) (r.lf refl x)
line-ended (c ∷ d ∷ l) t ls a x = r.more (no-lf a.0) (no-cr a.0) (line-ended (d ∷ l) t ls a.1 x)

pub lines-ended : (ls : List (List ℕ)) → AllAbove ls → Lines (ended ls) ls
unfolding ended
lines-ended [] a = r.none
lines-ended (l ∷ ls) a = line-ended l (ended ls) ls a.0 (lines-ended ls a.1)

-- ---- Intel HEX
pub hex-lines-above : {u : ℕ} {ls : List (List ℕ)} {ps : List Piece} → HexLines u ls ps → AllAbove ls
hex-lines-above (s.end h) = (hex-above h, tt)
hex-lines-above (s.piece h e x) = (hex-above h, hex-lines-above x)
hex-lines-above (s.upper-half h x) = (hex-above h, hex-lines-above x)

pub hex-told : {u : ℕ} {ls : List (List ℕ)} {ps : List Piece} → HexLines u ls ps → Tells hex_item u ls ps
hex-told (s.end {u} h) = closes (hex.item-end u h)
hex-told (s.piece {u} {p = p} h e more) = tells {p = p} (hex.item-data u h ∙ ap (λ (a : ℕ). gives a p.bytes u) (sym e)) (hex-told more)
hex-told (s.upper-half {u} h more) = skips (hex.item-upper u h) (hex-told more)

hex-ends : {u : ℕ} {l : List ℕ} {x : Item} → HexSaid u l x → x ≡ ends → Hex r.either l 1 0 []
hex-ends (hex.gave c) e = unlike cc
hex-ends (hex.moved c) e = unlike cc
hex-ends (hex.closed c) e = c
hex-ends hex.none e = unlike cc

hex-passes : {u after : ℕ} {l : List ℕ} {x : Item} → HexSaid u l x → x ≡ passes after
    → (a : ℕ) × (b : ℕ) × Hex r.either l 4 0 (a ∷ b ∷ []) × (after ≡ 256 * a + b)
hex-passes (hex.gave c) e = unlike cc
hex-passes (hex.moved {a} {b} c) e = (a, b, c, cc)
hex-passes (hex.closed c) e = unlike cc
hex-passes hex.none e = unlike cc

hex-gives : {u a after : ℕ} {b l : List ℕ} {x : Item} → HexSaid u l x → x ≡ gives a b after
    → (field : ℕ) × Hex r.either l 0 field b × (a ≡ 65536 * u + field) × (after ≡ u)
hex-gives {b = b} {l = l} (hex.gave {f} {b = c} h) e =
    let same : c ≡ b = cc in
    (f, subst (λ (x : List ℕ). Hex r.either l 0 f x) same h, cc, cc)
hex-gives (hex.moved c) e = unlike cc
hex-gives (hex.closed c) e = unlike cc
hex-gives hex.none e = unlike cc

pub told-hex : {u : ℕ} {ls : List (List ℕ)} {ps : List Piece} → Tells hex_item u ls ps → HexLines u ls ps
told-hex (closes {state} {line} e) = s.end (hex-ends (hex.said state line) e)
told-hex (skips {state} {line = line} {lines = ls} {l = ps} e t) =
    let k = hex-passes (hex.said state line) e in
    s.upper-half k.2 (subst (λ (u : ℕ). HexLines u ls ps) k.3 (told-hex t))
told-hex (tells {state} {line = line} {lines = ls} {l = ps} e t) =
    let k = hex-gives (hex.said state line) e in
    s.piece k.1 k.2 (subst (λ (u : ℕ). HexLines u ls ps) k.3 (told-hex t))

hex-closing : (st : ℕ) → (l : List ℕ) × (hex_item st l ≡ ends)
hex-closing st = (line_of 1 0 [], hex.item-end st (hex-written 1 0 [] (omega arith) (omega arith) bytes-none (omega arith)))

-- ---- S-records
abbrev FitsAll : ℕ → List Piece → Type 0
FitsAll top [] = Unit {0}
FitsAll top (p ∷ ps) = (p.address + length p.bytes ≤ top) × FitsAll top ps

letter-above : {c : ℕ} → (c ≡ 83) ⊎ ((r.either ≡ r.either) × (c ≡ 115)) → 13 < c
letter-above (inl e) = omega arith
letter-above (inr (k, e)) = omega arith

pub srec-above : {l b : List ℕ} {kind w a : ℕ} → 13 < kind → Srec r.either l kind w a b → Above l
srec-above h x = subst Above (sym x.front) (letter-above x.letter, (h, spelled-above x.spelled))

data-above : {w : ℕ} → back.Width w → 13 < data_digit w
data-above back.two = omega arith
data-above back.four = omega arith

end-above : {w : ℕ} → back.Width w → 13 < end_digit w
end-above back.two = omega arith
end-above back.four = omega arith

pub srec-lines-above : {w : ℕ} → back.Width w → {ls : List (List ℕ)} {ps : List Piece} → SrecLines (data_digit w) (end_digit w) w ls ps → AllAbove ls
srec-lines-above v (s.end h) = (srec-above (end-above v) h, tt)
srec-lines-above v (s.piece h x) = (srec-above (data-above v) h, srec-lines-above v x)
srec-lines-above v (s.header h x) = (srec-above (omega arith) h, srec-lines-above v x)

own-width : {w : ℕ} → back.Width w → agrees w w ≡ true
own-width back.two = refl
own-width back.four = refl

pub srec-told : {w : ℕ} → back.Width w → {ls : List (List ℕ)} {ps : List Piece} → SrecLines (data_digit w) (end_digit w) w ls ps → (st : ℕ) → agrees st w ≡ true
    → FitsAll (256 ^ w) ps → Tells srec_item st ls ps
srec-told v (s.end h) st own fit = closes (srec.item-end v st h own)
srec-told {w} v (s.piece {p = p} h x) st own fit = tells {p = p} (srec.item-data v st h own fit.0) (srec-told v x w (own-width v) fit.1)
srec-told v (s.header h x) st own fit = skips (srec.item-header st h) (srec-told v x st own fit)

srec-ends : {st : ℕ} {l : List ℕ} {x : Item} → SrecSaid st l x → x ≡ ends
    → (w : ℕ) × (a : ℕ) × back.Width w × (agrees st w ≡ true) × Srec r.either l (end_digit w) w a []
srec-ends (srec.gave v o c h) e = unlike cc
srec-ends (srec.skipped c) e = unlike cc
srec-ends (srec.closed {w} {a} v o c) e = (w, a, v, o, c)
srec-ends srec.none e = unlike cc

srec-passes : {st after : ℕ} {l : List ℕ} {x : Item} → SrecSaid st l x → x ≡ passes after
    → (a : ℕ) × (b : List ℕ) × Srec r.either l 48 2 a b × (after ≡ st)
srec-passes (srec.gave v o c h) e = unlike cc
srec-passes (srec.skipped {a} {b} c) e = (a, b, c, cc)
srec-passes (srec.closed v o c) e = unlike cc
srec-passes srec.none e = unlike cc

srec-gives : {st a after : ℕ} {b l : List ℕ} {x : Item} → SrecSaid st l x → x ≡ gives a b after
    → back.Width after × (agrees st after ≡ true) × Srec r.either l (data_digit after) after a b × (a + length b ≤ 256 ^ after)
srec-gives {st} {a} {after} {b} {l} (srec.gave {w} {a = c} {b = d} v o x h) e =
    let width : w ≡ after = cc in
    let start : c ≡ a = cc in
    let data-bytes : d ≡ b = cc in
    subst (λ (n : ℕ). back.Width n × (agrees st n ≡ true) × Srec r.either l (data_digit n) n a b × (a + length b ≤ 256 ^ n)) width
    (subst (λ (n : ℕ). back.Width w × (agrees st w ≡ true) × Srec r.either l (data_digit w) w n b × (n + length b ≤ 256 ^ w)) start
    (subst (λ (n : List ℕ). back.Width w × (agrees st w ≡ true) × Srec r.either l (data_digit w) w c n × (c + length n ≤ 256 ^ w)) data-bytes (v, o, x, h)))
srec-gives (srec.skipped c) e = unlike cc
srec-gives (srec.closed v o c) e = unlike cc
srec-gives srec.none e = unlike cc

same_width : {v w : ℕ} → back.Width v → back.Width w → agrees v w ≡ true → w ≡ v
same_width back.two back.two e = refl
same_width back.two back.four e = absurd (clash e refl)
same_width back.four back.two e = absurd (clash e refl)
same_width back.four back.four e = refl

abbrev SrecFile : ℕ → ℕ → List (List ℕ) → List Piece → Type 0
SrecFile st w ls ps = back.Width w × (agrees st w ≡ true) × SrecLines (data_digit w) (end_digit w) w ls ps × FitsAll (256 ^ w) ps

pub told-srec : {st : ℕ} {ls : List (List ℕ)} {ps : List Piece} → Tells srec_item st ls ps → (w : ℕ) × SrecFile st w ls ps
told-srec (closes {state} {line} e) = let k = srec-ends (srec.said state line) e in (k.0, (k.2, k.3, s.end k.4, tt))
told-srec (skips {state} {line = line} {lines = ls} {l = ps} e t) =
    let k = srec-passes (srec.said state line) e in
    let m = told-srec t in
    let n : SrecFile state m.0 ls ps = subst (λ (u : ℕ). SrecFile u m.0 ls ps) k.3 m.1 in
    (m.0, (n.0, n.1, s.header k.2 n.2, n.3))
told-srec (tells {state} {after} {line} {lines = ls} {p = p} {l = ps} e t) =
    let k = srec-gives (srec.said state line) e in
    let m = told-srec t in
    let n : SrecFile after after ls ps = subst (λ (u : ℕ). SrecFile after u ls ps) (same_width k.0 m.1.0 m.1.1) m.1 in
    (after, (k.0, k.1, s.piece {p = p} k.2 n.2, (k.3, n.3)))

number-below : {k : r.Case} {t f : List ℕ} (v : List ℕ) {w n c : ℕ} → Number w f n → Spells k t (c ∷ f ++ v) → n < 256 ^ w
number-below v (r.two {a} {b} w e) x =
    let ha : a < 256 = spells-below x 1 (omega arith) in
    let hb : b < 256 = spells-below x 2 (omega arith) in
    rw w (omega arith)
number-below v (r.four {a} {b} {c} {d} w e) x =
    let ha : a < 256 = spells-below x 1 (omega arith) in
    let hb : b < 256 = spells-below x 2 (omega arith) in
    let hc : c < 256 = spells-below x 3 (omega arith) in
    let hd : d < 256 = spells-below x 4 (omega arith) in
    rw w (omega arith)

srec-address : {k : r.Case} {l b : List ℕ} {kind w a : ℕ} → Srec k l kind w a b → a < 256 ^ w
srec-address {b = b} x = number-below (b ++ x.check ∷ []) x.number x.spelled

piece-fits : (top a : ℕ) (b : List ℕ) (ps : List Piece) → a < top → ((i x y : ℕ) → Gives (piece a b ∷ ps) i x y → x < top) → a + length b ≤ top
piece-fits top a [] ps low h = omega arith
piece-fits top a (c ∷ b) ps low h =
    let last = a + length b in
    let end = h 0 last (get_or (c ∷ b) (last - a) 0) (head-gives 0 (piece a (c ∷ b)) ps last (omega arith) (omega arith)) in
    omega arith

fits_all : {d e w : ℕ} {ls : List (List ℕ)} {ps : List Piece} → SrecLines d e w ls ps → ((i a b : ℕ) → Gives ps i a b → a < 256 ^ w) → FitsAll (256 ^ w) ps
fits_all (s.end h) low = tt
fits_all {w = w} (s.piece {p = p} {ps = ps} h x) low = (
  piece-fits (256 ^ w) p.address p.bytes ps (srec-address h) low,
  fits_all x (λ i a b g. low (suc i) a b (tail-gives 0 p ps i a b g)),
)
fits_all (s.header h x) low = fits_all x low

fits_below : (top : ℕ) (ps : List Piece) → FitsAll top ps → (i a b : ℕ) → Gives ps i a b → a < top
fits_below top [] f i a b (s.gives at h e g) = absurd (omega (arith, at.0))
fits_below top (p ∷ ps) f zero a b (s.gives {p = q} {k = k} at h e g) =
    let same : p ≡ q = at.1 in
    let inside : k < length p.bytes = subst (λ (y : Piece). k < length y.bytes) (sym same) h in
    let place : p.address + k ≡ a = subst (λ (y : Piece). y.address + k ≡ a) (sym same) (sym e) in
    omega (arith, f.0)
fits_below top (p ∷ ps) f (suc i) a b (s.gives {p = q} {k = k} at h e g) =
    fits_below top ps f.1 i a b (s.gives {p = q} {k = k} (omega (arith, at.0), at.1) h e g)

-- ---- both
tells_alike : (f g : Format) → ((state : ℕ) (line : List ℕ) → f state line ≡ g state line) → {state : ℕ} {lines : List (List ℕ)} {l : List Piece}
    → Tells f state lines l → Tells g state lines l
tells_alike f g same (closes {state} {line} e) = closes (sym (same state line) ∙ e)
tells_alike f g same (skips {state} {after} {line} {lines} {l} e t) = skips (sym (same state line) ∙ e) (tells_alike f g same t)
tells_alike f g same (tells {state} {after} {line} {lines} {p} {l} e t) = tells {p = p} (sym (same state line) ∙ e) (tells_alike f g same t)

module _ (format : ℕ) where
  abbrev here : Format
  here = format_by format

  as-hex : format ≡ 0 → (state : ℕ) (line : List ℕ) → here state line ≡ hex_item state line
  as-hex f state line = rw (eq-eqb format 0 f)

  as-srec : format ≡ 1 → (state : ℕ) (line : List ℕ) → here state line ≡ srec_item state line
  as-srec n state line = rw (ne_eqb format 0 (λ z. omega arith))

  -- there are two
  pub one_of : format < 2 → (format ≡ 0) ⊎ (format ≡ 1)
  one_of h = elim (ℕ_discrete format 0) [ yes e ↦ inl e | no e ↦ inr (omega arith) ]

  -- the states that come
  abbrev pub Comes : ℕ → Type 0
  Comes st = (format ≡ 0) ⊎ ((format ≡ 1) × ((st ≡ 0) ⊎ back.Width st))

  pub comes-first : format < 2 → Comes 0
  comes-first h = ⊎_elim inl (λ n. inr (n, inl refl)) (one_of h)

  width-closing : {w : ℕ} → back.Width w → (st : ℕ) → agrees st w ≡ true → (l : List ℕ) × (srec_item st l ≡ ends)
  width-closing {w} v st own = (line_text (end_digit w) w 0 [], srec.item-end v st (srec-written v (end_digit w) 0 [] bytes-none (few v) (some v)) own)
    where
      few : {w : ℕ} → back.Width w → w + 0 + 1 < 256
      few back.two = omega arith
      few back.four = omega arith

      some : {w : ℕ} → back.Width w → 0 < 256 ^ w
      some back.two = omega arith
      some back.four = omega arith

  srec-closing : (st : ℕ) → (st ≡ 0) ⊎ back.Width st → (l : List ℕ) × (srec_item st l ≡ ends)
  srec-closing st (inl e) = width-closing back.two st (rw e)
  srec-closing st (inr v) = width-closing v st (own-width v)

  pub closing : (st : ℕ) → Comes st → (l : List ℕ) × (format_by format st l ≡ ends)
  closing st (inl f) = let c = hex-closing st in (c.0, as-hex f st c.0 ∙ c.1)
  closing st (inr n) = let c = srec-closing st n.1 in (c.0, as-srec n.0 st c.0 ∙ c.1)

  pub given-on : (st : ℕ) (l : List ℕ) (a : ℕ) (b : List ℕ) (after : ℕ) → Comes st → format_by format st l ≡ gives a b after → Comes after
  given-on st l a b after (inl f) e = inl f
  given-on st l a b after (inr n) e = inr (n.0, inr (srec-gives (srec.said st l) (sym (as-srec n.0 st l) ∙ e)).0)

  pub passed_on : (st : ℕ) (l : List ℕ) (after : ℕ) → Comes st → format_by format st l ≡ passes after → Comes after
  passed_on st l after (inl f) e = inl f
  passed_on st l after (inr n) e =
      let same : after ≡ st = (srec-passes (srec.said st l) (sym (as-srec n.0 st l) ∙ e)).3 in
      inr (n.0, subst (λ (u : ℕ). (u ≡ 0) ⊎ back.Width u) (sym same) n.1)

  pub all_above : format < 2 → {ls : List (List ℕ)} {ps : List Piece} → Tells (format_by format) 0 ls ps → AllAbove ls
  all_above h t = ⊎_elim
      (λ f. hex-lines-above (told-hex (tells_alike here hex_item (as-hex f) t)))
      (λ n. let k = (told-srec (tells_alike here srec_item (as-srec n) t)).1 in srec-lines-above k.0 k.2)
      (one_of h)

  -- ---- a good file, by the sentences and by the definitions
  module _ (load : ℕ) where
    pub good_of : format < 2 → {text : List ℕ} {ls : List (List ℕ)} {ps : List Piece} → Lines text ls → Tells (format_by format) 0 ls ps → Sits load [] ps
        → Good format load text ps
    good_of known {ps = ps} lines t y = ⊎_elim
        (λ e. s.good (s.hex e lines (told-hex (tells_alike here hex_item (as-hex e) t)))
        (λ i a b g. let h = sat load ps [] y i a b g in (h.0, h.1)) (sits-apart load ps [] y))
        (λ n.
        let k = told-srec (tells_alike here srec_item (as-srec n) t) in
        s.good (s.s-records n (width_is k.1.0) lines k.1.2)
        (λ i a b g. ((sat load ps [] y i a b g).0, fits_below (256 ^ k.0) ps k.1.3 i a b g)) (sits-apart load ps [] y))
        (one_of known)

    top-low : {w : ℕ} → back.Width w → 256 ^ w ≤ 4294967296
    top-low back.two = omega arith
    top-low back.four = omega arith

    pub of-good : {text : List ℕ} {ps : List Piece} → Good format load text ps → Tells (format_by format) 0 (lines_of text) ps × Sits load [] ps
    of-good {text} {ps} (s.good (s.hex e lines x) within once) = (
      subst (λ (ls : List (List ℕ)). Tells here 0 ls ps) (lines-one lines (lines-meet text))
          (tells_alike hex_item here (λ state line. sym (as-hex e state line)) (hex-told x)),
      sits load ps [] within once tt,
    )
    of-good {text} {ps} (s.good {top} (s.s-records {ls = ls} {d = d} {e = e} {width = w} n v lines x) within once) =
        let k = is-width v in
        let y : SrecLines (data_digit w) (end_digit w) w ls ps =
        subst (λ (z : ℕ). SrecLines (data_digit w) z w ls ps) k.2 (subst (λ (z : ℕ). SrecLines z e w ls ps) k.1 x) in
        let low = k.3 in
        let high = top-low k.0 in
        let fit : FitsAll (256 ^ w) ps = fits_all y (λ i a b g. let h = within i a b g in omega (arith, h.1)) in (
          subst (λ (ls : List (List ℕ)). Tells here 0 ls ps) (lines-one lines (lines-meet text))
              (tells_alike srec_item here (λ state line. sym (as-srec n state line)) (srec-told k.0 y 0 refl fit)),
          sits load ps [] (λ i a b g. let h = within i a b g in (h.0, omega (arith, h.1))) once tt,
        )
