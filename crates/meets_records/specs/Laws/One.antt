-- A text spells one list of bytes, one list of bytes has one text in upper case, and records have one text in upper case. From the sentences alone.
use Rattle.std.specs.Prelude.{◌≡◌, refl, List, [], ◌∷◌, ◌++◌, ◌⊎◌, ℕ, zero, suc, ◌+◌, ◌-◌, ◌<◌, ◌%◌, length, get_or}
use Rattle.std.proofs.Common.{sym, ap, ◌∙◌, inl, inr, arith, length-append}
use Rattle.std.proofs.Math.Seq.{get_or-append_seam}
use Rattle.says.specs.Records as r
use Rattle.says.specs.Records.{Lines, Case, upper, either, Digit, Spells, Hex, Number, Srec, Width, total}

rank : Case → ℕ
rank upper = 0
rank either = 1

not-either : upper ≡ either → ⊥
unfolding rank
not-either e = let f : ◌≡◌ {A = ℕ} 0 1 = ap rank e in omega arith

pub digit_value : {k : Case} {c v w : ℕ} → Digit k c v → Digit k c w → v ≡ w
digit_value (r.figure h e) (r.figure i f) = omega arith
digit_value (r.figure h e) (r.letter i (inl f) g) = absurd (omega arith)
digit_value (r.figure h e) (r.letter i (inr (k, f)) g) = absurd (omega arith)
digit_value (r.letter h (inl e) g) (r.figure i f) = absurd (omega arith)
digit_value (r.letter h (inl e) g) (r.letter i (inl f) j) = omega arith
digit_value (r.letter h (inl e) g) (r.letter i (inr (k, f)) j) = absurd (omega arith)
digit_value (r.letter h (inr (k, e)) g) (r.figure i f) = absurd (omega arith)
digit_value (r.letter h (inr (k, e)) g) (r.letter i (inl f) j) = absurd (omega arith)
digit_value (r.letter h (inr (k, e)) g) (r.letter i (inr (k', f)) j) = omega arith

pub digit-below : {k : Case} {c v : ℕ} → Digit k c v → v < 16
digit-below (r.figure h e) = omega arith
digit-below (r.letter h e g) = omega arith

pub digit-upper : {c d v : ℕ} → Digit upper c v → Digit upper d v → c ≡ d
digit-upper (r.figure h e) (r.figure i f) = omega arith
digit-upper (r.figure h e) (r.letter i f g) = absurd (omega arith)
digit-upper (r.letter h e g) (r.figure i f) = absurd (omega arith)
digit-upper (r.letter h (inl e) g) (r.letter i (inl f) j) = omega arith
digit-upper (r.letter h (inl e) g) (r.letter i (inr (k, f)) j) = absurd (not-either k)
digit-upper (r.letter h (inr (k, e)) g) (r.letter i f j) = absurd (not-either k)

pub spells-bytes : {k : Case} {t a b : List ℕ} → Spells k t a → Spells k t b → a ≡ b
spells-bytes r.none r.none = refl
spells-bytes (r.byte {h = h} {l = l} {b = x} p q e s) (r.byte {h = h'} {l = l'} {b = y} p' q' e' s') =
    let same : x ≡ y = omega (arith, digit_value p p', digit_value q q') in
    rw (same, spells-bytes s s')

pub spells-upper : {t u a : List ℕ} → Spells upper t a → Spells upper u a → t ≡ u
spells-upper r.none r.none = refl
spells-upper (r.byte {h = h} {l = l} p q e s) (r.byte {h = h'} {l = l'} p' q' e' s') =
    let high : h ≡ h' = omega (arith, digit-below p, digit-below q, digit-below p', digit-below q') in
    let low : l ≡ l' = omega (arith, digit-below p, digit-below q, digit-below p', digit-below q') in
    rw (digit-upper p (rw (sym high) at p'), digit-upper q (rw (sym low) at q'), spells-upper s s')

pub spells-below : {k : Case} {t a : List ℕ} → Spells k t a → (i : ℕ) → i < length a → get_or a i 0 < 256
spells-below r.none i h = absurd (omega arith)
spells-below (r.byte p q e s) zero h = omega (arith, digit-below p, digit-below q)
spells-below (r.byte p q e s) (suc i) h = spells-below s i (omega arith)

-- the last byte
pub below_last : {k : Case} {t : List ℕ} (a : List ℕ) (c : ℕ) → Spells k t (a ++ c ∷ []) → c < 256
below_last a c s =
    let h = spells-below s (length a) (rw (length-append a (c ∷ [])) (omega arith)) in
    rw (get_or-append_seam a c [] 0) at h

check-one : (s a b : ℕ) → a < 256 → b < 256 → (s + a) % 256 ≡ 0 → (s + b) % 256 ≡ 0 → a ≡ b
check-one s a b h i e f = omega arith

pub total-append : (a b : List ℕ) → total (a ++ b) ≡ total a + total b
unfolding total
total-append [] b = omega arith
total-append (x ∷ a) b = omega (arith, total-append a b)

sums : (a : List ℕ) (c : ℕ) → total (a ++ c ∷ []) % 256 ≡ 0 → (total a + c) % 256 ≡ 0
unfolding total
sums a c e =
    let f : total (a ++ c ∷ []) ≡ total a + c = total-append a (c ∷ []) ∙ omega arith in
    rw f at e

pub hex-upper : {l m b : List ℕ} {t f : ℕ} → Hex upper l t f b → Hex upper m t f b → l ≡ m
unfolding total
hex-upper {l} {m} {b} {t} x y =
    let xh : x.high < 256 = spells-below x.spelled 1 (omega arith) in
    let xl : x.low < 256 = spells-below x.spelled 2 (omega arith) in
    let yh : y.high < 256 = spells-below y.spelled 1 (omega arith) in
    let yl : y.low < 256 = spells-below y.spelled 2 (omega arith) in
    let high : y.high ≡ x.high = omega (arith, x.address, y.address) in
    let low : y.low ≡ x.low = omega (arith, x.address, y.address) in
    let front : List ℕ = length b ∷ x.high ∷ x.low ∷ t ∷ b in
    let ys = rw (high, low) at y.spelled in
    let sum : total (front ++ y.check ∷ []) % 256 ≡ 0 = rw (high, low) at y.sum in
    let same : y.check ≡ x.check =
    check-one (total front) y.check x.check (below_last front y.check ys) (below_last front x.check x.spelled)
    (sums front y.check sum) (sums front x.check x.sum) in
    x.colon ∙ ap (λ (d : List ℕ). 58 ∷ d) (spells-upper x.spelled (rw same at ys)) ∙ sym y.colon

pub hex-field : {k : Case} {l b : List ℕ} {t f : ℕ} → Hex k l t f b → f < 65536
hex-field x =
    let h : x.high < 256 = spells-below x.spelled 1 (omega arith) in
    let l : x.low < 256 = spells-below x.spelled 2 (omega arith) in
    omega (arith, x.address)

pub hex-pair : {k : Case} {l : List ℕ} {t f a b : ℕ} → Hex k l t f (a ∷ b ∷ []) → (a < 256) × (b < 256)
hex-pair x = (spells-below x.spelled 4 (omega arith), spells-below x.spelled 5 (omega arith))

number-one : {k k' : Case} {t t' f f' : List ℕ} (v v' : List ℕ) {w n c c' : ℕ} → Number w f n → Spells k t (c ∷ f ++ v) → Number w f' n
    → Spells k' t' (c' ∷ f' ++ v') → f ≡ f'
number-one v v' (r.two {a} {b} w e) s (r.two {a = a'} {b = b'} w' e') s' =
    let ha : a < 256 = spells-below s 1 (omega arith) in
    let hb : b < 256 = spells-below s 2 (omega arith) in
    let ka : a' < 256 = spells-below s' 1 (omega arith) in
    let kb : b' < 256 = spells-below s' 2 (omega arith) in
    let same : a ≡ a' = omega arith in
    let equal : b ≡ b' = omega arith in
    rw (same, equal)
number-one v v' (r.two w e) s (r.four w' e') s' = absurd (omega arith)
number-one v v' (r.four w e) s (r.two w' e') s' = absurd (omega arith)
number-one v v' (r.four {a} {b} {c} {d} w e) s (r.four {a = a'} {b = b'} {c = c'} {d = d'} w' e') s' =
    let ha : a < 256 = spells-below s 1 (omega arith) in
    let hb : b < 256 = spells-below s 2 (omega arith) in
    let hc : c < 256 = spells-below s 3 (omega arith) in
    let hd : d < 256 = spells-below s 4 (omega arith) in
    let ka : a' < 256 = spells-below s' 1 (omega arith) in
    let kb : b' < 256 = spells-below s' 2 (omega arith) in
    let kc : c' < 256 = spells-below s' 3 (omega arith) in
    let kd : d' < 256 = spells-below s' 4 (omega arith) in
    let ea : a ≡ a' = omega arith in
    let eb : b ≡ b' = omega arith in
    let ec : c ≡ c' = omega arith in
    let ed : d ≡ d' = omega arith in
    rw (ea, eb, ec, ed)

s-one : {c d : ℕ} → (c ≡ 83) ⊎ ((upper ≡ either) × (c ≡ 115)) → (d ≡ 83) ⊎ ((upper ≡ either) × (d ≡ 115)) → c ≡ d
s-one (inl e) (inl f) = omega arith
s-one (inr (k, e)) d = absurd (not-either k)
s-one (inl e) (inr (k, f)) = absurd (not-either k)

pub srec-upper : {l m b : List ℕ} {kind w n : ℕ} → Srec upper l kind w n b → Srec upper m kind w n b → l ≡ m
srec-upper {b = b} {kind = kind} x y =
    let field : y.field ≡ x.field = number-one (b ++ y.check ∷ []) (b ++ x.check ∷ []) y.number y.spelled x.number x.spelled in
    let count : y.count ≡ x.count = omega (arith, x.counts, y.counts) in
    let sum = rw (count, field) at y.sum in
    let check : y.check ≡ x.check = sum ∙ sym x.sum in
    let ys = rw (count, field, check) at y.spelled in
    let text : x.s ∷ kind ∷ x.digits ≡ y.s ∷ kind ∷ y.digits = rw (s-one x.letter y.letter, spells-upper x.spelled ys) in
    x.front ∙ text ∙ sym y.front

pub width_one : {d e w m d' e' m' : ℕ} → Width d e w m → Width d' e' w m' → (d ≡ d') × (e ≡ e') × (m ≡ m')
width_one (r.two a b c f) (r.two a' b' c' f') = (omega arith, omega arith, omega arith)
width_one (r.two a b c f) (r.four a' b' c' f') = absurd (omega arith)
width_one (r.four a b c f) (r.two a' b' c' f') = absurd (omega arith)
width_one (r.four a b c f) (r.four a' b' c' f') = (omega arith, omega arith, omega arith)

-- ---- what is read
grow : ℕ → List (List ℕ) → List (List ℕ)
grow c [] = []
grow c (l ∷ ls) = (c ∷ l) ∷ ls

pub lines-one : {t : List ℕ} {a b : List (List ℕ)} → Lines t a → Lines t b → a ≡ b
unfolding grow
lines-one r.none r.none = refl
lines-one (r.lf e x) (r.lf f y) = ap (λ (l : List (List ℕ)). [] ∷ l) (lines-one x y)
lines-one (r.lf e x) (r.cr-lf f g y) = absurd (omega arith)
lines-one (r.lf e x) (r.last n) = absurd (n e)
lines-one (r.lf e x) (r.more n m y) = absurd (n e)
lines-one (r.cr-lf e f x) (r.lf g y) = absurd (omega arith)
lines-one (r.cr-lf e f x) (r.cr-lf g h y) = ap (λ (l : List (List ℕ)). [] ∷ l) (lines-one x y)
lines-one (r.cr-lf e f x) (r.more n m y) = absurd (m (e, f))
lines-one (r.last n) (r.lf e y) = absurd (n e)
lines-one (r.last n) (r.last m) = refl
lines-one (r.more n m x) (r.lf e y) = absurd (n e)
lines-one (r.more n m x) (r.cr-lf e f y) = absurd (m (e, f))
lines-one (r.more {c} n m x) (r.more n' m' y) = ap (λ (l : List (List ℕ)). grow c l) (lines-one x y)

rest : List ℕ → List ℕ
rest [] = []
rest (x ∷ l) = l

pub apart : {x y : ℕ} {a b : List ℕ} → x ∷ a ≡ y ∷ b → (x ≡ y) × (a ≡ b)
unfolding rest
apart e = (ap (λ (l : List ℕ). get_or l 0 0) e, ap rest e)

pub front : (a b x y : List ℕ) → length a ≡ length b → a ++ x ≡ b ++ y → (a ≡ b) × (x ≡ y)
front [] [] x y h e = (refl, e)
front [] (b ∷ m) x y h e = absurd (omega arith)
front (a ∷ l) [] x y h e = absurd (omega arith)
front (a ∷ l) (b ∷ m) x y h e =
    let p = apart e in
    let q = front l m x y (omega arith) p.1 in
    (rw (p.0, q.0), q.1)

pub hex-one : {k : Case} {l b c : List ℕ} {t f t' f' : ℕ} → Hex k l t f b → Hex k l t' f' c → (t ≡ t') × (f ≡ f') × (b ≡ c)
hex-one {b = b} {c = c} x y =
    let text = apart (sym x.colon ∙ y.colon) in
    let all = spells-bytes x.spelled (rw (sym text.1) at y.spelled) in
    let one = apart all in
    let two = apart one.1 in
    let three = apart two.1 in
    let four = apart three.1 in
    let data-bytes = front b c (x.check ∷ []) (y.check ∷ []) one.0 four.1 in
    (four.0, omega (arith, two.0, three.0, x.address, y.address), data-bytes.0)

pub number-length : {w n : ℕ} {f : List ℕ} → Number w f n → length f ≡ w
number-length (r.two w e) = omega arith
number-length (r.four w e) = omega arith

pub number-value : {w n m : ℕ} {f : List ℕ} → Number w f n → Number w f m → n ≡ m
number-value (r.two w e) (r.two w' e') = omega arith
number-value (r.four w e) (r.four w' e') = omega arith

pub srec-kind : {k k' : Case} {l b c : List ℕ} {kind kind' w w' a a' : ℕ} → Srec k l kind w a b → Srec k' l kind' w' a' c → kind ≡ kind'
srec-kind x y = (apart (apart (sym x.front ∙ y.front)).1).0

pub srec-one : {k : Case} {l b c : List ℕ} {kind kind' w a a' : ℕ} → Srec k l kind w a b → Srec k l kind' w a' c → (a ≡ a') × (b ≡ c)
srec-one {b = b} {c = c} x y =
    let p = apart (sym x.front ∙ y.front) in
    let q = apart p.1 in
    let all = apart (spells-bytes x.spelled (rw (sym q.1) at y.spelled)) in
    let field = front x.field y.field (b ++ x.check ∷ []) (c ++ y.check ∷ []) (number-length x.number ∙ sym (number-length y.number)) all.1 in
    let same = front b c (x.check ∷ []) (y.check ∷ []) (omega (arith, x.counts, y.counts, all.0)) field.1 in
    (number-value x.number (rw (sym field.0) at y.number), same.0)
