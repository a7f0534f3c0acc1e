-- What a line gives and what is in force behind it is one thing, and so is each number that a reason tells. From the sentences alone.
use Rattle.std.specs.Prelude.{◌≡◌, refl, List, [], ◌∷◌, ◌++◌, ◌⊎◌, ℕ, zero, suc, ◌+◌, ◌-◌, ◌≤◌, ◌<◌, length, get_or, take, drop}
use Rattle.std.proofs.Common.{sym, ap, ◌∙◌, subst, inl, inr, ⊎_elim, arith, length-append}
use Rattle.record_lines.specs.Pieces.{Piece}
use Rattle.says.specs.Words.{At, Not}
use Rattle.says.specs.Records as r
use Rattle.says.specs.Records.{Digit, Spells, Hex, Width}
use Rattle.meets_records.specs.Laws.One.{apart, front, spells-bytes, hex-one, srec-kind, srec-one, width_one}
use Rattle.meets_records.specs.Laws.Spelled.{length-of}
use Rattle.meets_records.specs.Theorems.WriteDecides.{same-piece}
use Rattle.meets_records.specs.Theorems.ReadDecides.{distinct, by-data}
use Rattle.says.specs.Reason as s
use Rattle.says.specs.Reason.{DataLine, LineGives, After, LineAt, Count, Long, Checksum, OtherType, OtherWidth, OtherCount}

-- ---- what the sentences say in place: the character k should be a digit, the checksum is wrong, the address field of types 01 and 04 is not 0000
abbrev pub NoDigit : (l : List ℕ) (from : ℕ) → ℕ → Type 0
NoDigit l from k = (from ≤ k) × (k < length l) × ((v : ℕ) → Not (Digit r.either (get_or l k 0) v))

abbrev pub WrongSum : (format : ℕ) (l : List ℕ) (from found should : ℕ) → Type 0
WrongSum format l from found should =
    (b : List ℕ) × Spells r.either (drop from l) (b ++ found ∷ []) × Checksum format b should × Not (found ≡ should)

abbrev pub OtherField : (format : ℕ) (l : List ℕ) → ℕ → Type 0
OtherField format l f = (t : ℕ) × (b : List ℕ) × (format ≡ 0) × Hex r.either l t f b × ((t ≡ 1) ⊎ (t ≡ 4)) × Not (f ≡ 0)

-- ---- elements and last elements
pub inside : (l : List ℕ) (i a b : ℕ) → i < length l → get_or l i a ≡ get_or l i b
inside [] i a b h = absurd (omega arith)
inside (x ∷ l) zero a b h = refl
inside (x ∷ l) (suc i) a b h = inside l i a b (omega arith)

pub at_one : (l : List ℕ) (i : ℕ) {a b : ℕ} → At l i a → At l i b → a ≡ b
at_one l i {a} {b} x y = sym x.1 ∙ inside l i a b x.0 ∙ y.1

pub last_one : (a b : List ℕ) {x y : ℕ} → a ++ x ∷ [] ≡ b ++ y ∷ [] → (a ≡ b) × (x ≡ y)
last_one a b {x} {y} e =
    let long = ap (λ (l : List ℕ). length l) e in
    let same = front a b (x ∷ []) (y ∷ []) (omega (arith, long, length-append a (x ∷ []), length-append b (y ∷ []))) e in
    (same.0, (apart same.1).0)

module _ (format : ℕ) where
  -- ---- what a line gives
  pub data-one : {st a b m n : ℕ} {l : List ℕ} {p q : Piece} → DataLine format st l a m p → DataLine format st l b n q → (a ≡ b) × (m ≡ n) × (p ≡ q)
  data-one (s.hex {p = p} f h e) (s.hex {p = q} g k i) =
      let same = hex-one h k in
      (refl, refl, same-piece p q (omega (arith, same.1)) same.2)
  data-one (s.hex f h e) (s.s-record n w o k) = absurd (n f)
  data-one (s.s-record n w o k) (s.hex f h e) = absurd (n f)
  data-one (s.s-record {p = p} n v o h) (s.s-record {p = q} n' v' o' k) =
      let width = by-data v v' (srec-kind h k) in
      let same = srec-one h (rw width at k) in
      (sym width, (width_one v (rw width at v')).2, same-piece p q same.0 same.1)

  pub gives_one : {st a b : ℕ} {l : List ℕ} {p q : Piece} → LineGives format st l a p → LineGives format st l b q → (a ≡ b) × (p ≡ q)
  gives_one (s.line_gives d f) (s.line_gives e g) = let same = data-one d e in (same.0, same.2)

  not-upper : {st a x y : ℕ} {l : List ℕ} {p : Piece} → LineGives format st l a p → format ≡ 0 → Hex r.either l 4 0 (x ∷ y ∷ []) → ⊥
  not-upper (s.line_gives (s.hex f h e) g) f' k = omega (arith, (hex-one h k).0)
  not-upper (s.line_gives (s.s-record n v o h) g) f k = n f

  pub after_one : {st a b : ℕ} {l : List ℕ} → After format st l a → After format st l b → a ≡ b
  after_one (s.gave g) (s.gave h) = (gives_one g h).0
  after_one (s.gave g) (s.upper-half f h) = absurd (not-upper g f h)
  after_one (s.gave {after} {p} g) (s.neither none never) = absurd (none after p g)
  after_one (s.upper-half f h) (s.gave g) = absurd (not-upper g f h)
  after_one (s.upper-half f h) (s.upper-half g k) =
      let one = apart (hex-one h k).2 in
      omega (arith, one.0, (apart one.1).0)
  after_one (s.upper-half {a} {b} f h) (s.neither none never) = absurd (never a b f h)
  after_one (s.neither none never) (s.gave {after} {p} g) = absurd (none after p g)
  after_one (s.neither none never) (s.upper-half {a} {b} f h) = absurd (never a b f h)
  after_one (s.neither none never) (s.neither none' never') = refl

  pub line-one : {st k a b : ℕ} {ls : List (List ℕ)} {l m : List ℕ} → LineAt format st ls k a l → LineAt format st ls k b m → (a ≡ b) × (l ≡ m)
  line-one s.here s.here = (refl, refl)
  line-one (s.later {k = k} {ls = ls} x y) (s.later {at = b} {l = m} z w) =
      line-one y (subst (λ (t : ℕ). LineAt format t ls k b m) (after_one z x) w)

  -- ---- how it is spelled
  module _ (l : List ℕ) where
    pub count-one : (from : ℕ) {a b : ℕ} → Count format l from a → Count format l from b → a ≡ b
    count-one from x y = (apart (spells-bytes x y)).0

    pub counted-long : (t : List ℕ) (from : ℕ) {c : ℕ} → Spells r.either (take 2 (drop from t)) (c ∷ []) → length t < from + 2 → ⊥
    counted-long [] zero x h = omega (arith, length-of x)
    counted-long [] (suc from) x h = omega (arith, length-of x)
    counted-long (a ∷ []) zero x h = omega (arith, length-of x)
    counted-long (a ∷ b ∷ t) zero x h = omega arith
    counted-long (a ∷ t) (suc from) x h = counted-long t from x (omega arith)

    pub long-one : (from bare least : ℕ) {m n : ℕ} → Long format l from bare least m → Long format l from bare least n → m ≡ n
    long-one from bare least (s.counted x e) (s.counted y f) = omega (arith, count-one from x y)
    long-one from bare least (s.counted x e) (s.shortest h f) = absurd (counted-long l from x h)
    long-one from bare least (s.shortest h f) (s.counted x e) = absurd (counted-long l from x h)
    long-one from bare least (s.shortest h e) (s.shortest k f) = omega arith

    pub checksum-one : {bytes : List ℕ} {a b : ℕ} → Checksum format bytes a → Checksum format bytes b → a ≡ b
    checksum-one (s.hex f h e) (s.hex g k i) = omega arith
    checksum-one (s.hex f h e) (s.s-record n i) = absurd (n f)
    checksum-one (s.s-record n i) (s.hex f h e) = absurd (n f)
    checksum-one (s.s-record n e) (s.s-record n' i) = omega arith

    pub sum_one : (from : ℕ) {a b c d : ℕ} → WrongSum format l from a b → WrongSum format l from c d → (a ≡ c) × (b ≡ d)
    sum_one from {b = b} {d = d} (x, p, e, n) (y, q, f, m) =
        let same = last_one x y (spells-bytes p q) in
        (same.1, checksum-one e (subst (λ (z : List ℕ). Checksum format z d) (sym same.0) f))

    -- ---- what its type asks for
    pub type-one : {t u : ℕ} → OtherType format l t → OtherType format l u → t ≡ u
    type-one (s.hex f h a b c) (s.hex g k d e i) = (hex-one h k).0
    type-one (s.hex f h a b c) (s.s-record n x d e i j k) = absurd (n f)
    type-one (s.s-record n x d e i j k) (s.hex f h a b c) = absurd (n f)
    type-one (s.s-record n x d e i j k) (s.s-record n' y d' e' i' j' k') = at_one l 1 x y

    pub width-by : {d e w m d' e' w' m' t u : ℕ} → Width d e w m → Width d' e' w' m' → t ≡ u → (t ≡ d) ⊎ (t ≡ e) → (u ≡ d') ⊎ (u ≡ e') → w ≡ w'
    width-by (r.two a b c f) (r.two a' b' c' f') e x y = omega arith
    width-by (r.four a b c f) (r.four a' b' c' f') e x y = omega arith
    width-by (r.two a b c f) (r.four a' b' c' f') e x y =
        ⊎_elim (λ p. ⊎_elim (λ q. absurd (omega arith)) (λ q. absurd (omega arith)) y) (λ p. ⊎_elim (λ q. absurd (omega arith)) (λ q. absurd (omega arith)) y) x
    width-by (r.four a b c f) (r.two a' b' c' f') e x y =
        ⊎_elim (λ p. ⊎_elim (λ q. absurd (omega arith)) (λ q. absurd (omega arith)) y) (λ p. ⊎_elim (λ q. absurd (omega arith)) (λ q. absurd (omega arith)) y) x

    pub other-width-one : {st w v : ℕ} → OtherWidth format l st w → OtherWidth format l st v → w ≡ v
    other-width-one (s.other_width n v x o a b) (s.other_width n' v' y o' a' b') = width-by v v' (at_one l 1 x y) o o'

    should-one : {t u a b : ℕ} → t ≡ u → ((t ≡ 1) × (a ≡ 0)) ⊎ ((t ≡ 4) × (a ≡ 2)) → ((u ≡ 1) × (b ≡ 0)) ⊎ ((u ≡ 4) × (b ≡ 2)) → a ≡ b
    should-one e (inl x) (inl y) = omega (arith, x.1, y.1)
    should-one e (inl x) (inr y) = absurd (omega (arith, x.0, y.0))
    should-one e (inr x) (inl y) = absurd (omega (arith, x.0, y.0))
    should-one e (inr x) (inr y) = omega (arith, x.1, y.1)

    pub other-count-one : {a b c d : ℕ} → OtherCount format l a b → OtherCount format l c d → (a ≡ c) × (b ≡ d)
    other-count-one (s.hex f h o e n) (s.hex g k o' e' n') =
        let same = hex-one h k in
        (e ∙ ap (λ (b : List ℕ). length b) same.2 ∙ sym e', should-one same.0 o o')
    other-count-one (s.hex f h o e n) (s.s-record m v c i (inl (x, j))) = absurd (m f)
    other-count-one (s.hex f h o e n) (s.s-record m v c i (inr (x, j))) = absurd (m f)
    other-count-one (s.s-record m v c i (inl (x, j))) (s.hex f h o e n) = absurd (m f)
    other-count-one (s.s-record m v c i (inl (x, j))) (s.s-record m' v' d i' (inl (y, j'))) =
        (count-one 2 c d, omega (arith, by-data v v' (at_one l 1 x y)))
    other-count-one (s.s-record m v c i (inl (x, j))) (s.s-record m' v' d i' (inr (y, j'))) = absurd ((distinct v v').0 (at_one l 1 x y))
    other-count-one (s.s-record m v c i (inr (x, j))) (s.hex f h o e n) = absurd (m f)
    other-count-one (s.s-record m v c i (inr (x, j))) (s.s-record m' v' d i' (inl (y, j'))) = absurd ((distinct v v').1 (at_one l 1 x y))
    other-count-one (s.s-record m v c i (inr (x, j))) (s.s-record m' v' d i' (inr (y, j'))) =
        (count-one 2 c d, omega (arith, width-by v v' (at_one l 1 x y) (inr refl) (inr refl)))

    pub other-field-one : {f g : ℕ} → OtherField format l f → OtherField format l g → f ≡ g
    other-field-one (t, b, f, h, o, n) (u, c, g, k, o', n') = (hex-one h k).1
