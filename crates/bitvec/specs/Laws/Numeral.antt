-- Laws that proofs about Numeral need.
use Rattle.std.specs.Prelude.{◌≡◌, refl, ℕ, zero, suc, ◌+◌, ◌-◌, ◌*◌, ◌/◌, ◌%◌, ◌^◌, ◌<◌, Bool, true, false}
use Rattle.std.proofs.Common.{sym, ap, ap₂, ◌∙◌, add-zero, add-suc, add_comm, add_assoc, add-mul, mul_assoc, mul_comm, pow-suc}
use Rattle.std.proofs.Common.{div-one, arith, pow-add, shl_lt}
use Rattle.std.proofs.Math.Nat.{pow-zero, div-div-eq-div-mul}
use Rattle.prelude.specs.Pick.{pick}
use Rattle.std.proofs.Math.Pow.{high, low}
use Rattle.bitvec.specs.Numeral.{Bits, bit_of, numeral}

-- Equal bits make equal numbers.
pub numeral-cong : (n : ℕ) (f g : ℕ → ℕ) → ((i : ℕ) → i < n → f i ≡ g i) → numeral n f ≡ numeral n g
unfolding numeral
numeral-cong zero f g e = refl
numeral-cong (suc n) f g e =
    ap₂ (λ (x y : ℕ). x * 2 + y) (numeral-cong n f g (λ i h. e i (omega arith))) (e n (omega arith))

pub numeral-lt : (n : ℕ) (f : ℕ → ℕ) → Bits f → numeral n f < 2 ^ n
unfolding numeral
numeral-lt zero f b = omega (arith, pow-zero 2)
numeral-lt (suc n) f b = omega (arith, numeral-lt n f b, b n, pow-suc 2 n)

pub numeral-zero : (n : ℕ) → numeral n (λ i. 0) ≡ 0
unfolding numeral
numeral-zero zero = refl
numeral-zero (suc n) = rw (numeral-zero n)

-- A number of m + n bits is its m upper bits and its n lower ones.
pub numeral-add : (m n : ℕ) (f : ℕ → ℕ) → numeral (m + n) f ≡ numeral m f * 2 ^ n + numeral n (λ i. f (m + i))
unfolding numeral
numeral-add m zero f = rw (add-zero m, pow-zero) (omega arith)
numeral-add m (suc n) f =
    rw (add-suc, pow-suc)
    (omega (arith, numeral-add m n f, mul_assoc (numeral m f) (2 ^ n) 2))

module _ (m n : ℕ) (f : ℕ → ℕ) (b : Bits f) where
  -- A shift down leaves the upper bits.
  pub numeral-high : numeral (m + n) f / 2 ^ n ≡ numeral m f
  numeral-high = rw (numeral-add m n f) (high (numeral m f) n (numeral-lt n (λ i. f (m + i)) (λ i. b (m + i))))

  -- A remainder leaves the lower bits.
  pub numeral-low : numeral (m + n) f % 2 ^ n ≡ numeral n (λ i. f (m + i))
  numeral-low = rw (numeral-add m n f) (low (numeral m f) n (numeral-lt n (λ i. f (m + i)) (λ i. b (m + i))))

-- The n bits from s on, with t bits below them.
pub numeral-field : (s n t : ℕ) (f : ℕ → ℕ) → Bits f → numeral (s + n + t) f / 2 ^ t % 2 ^ n ≡ numeral n (λ i. f (s + i))
numeral-field s n t f b = rw (numeral-high (s + n) t f b) (numeral-low s n f b)

-- The number's bit at each place is the bit that it was made of.
pub bit_of-numeral : (n : ℕ) (f : ℕ → ℕ) → Bits f → (b : ℕ) → b < n → bit_of n (numeral n f) b ≡ f b
unfolding numeral
bit_of-numeral n f bits b h =
    ap (λ (m : ℕ). numeral m f / 2 ^ (n - 1 - b) % 2) e ∙ ap (λ (x : ℕ). x % 2) (numeral-high (suc b) (n - 1 - b) f bits)
    ∙ omega (arith, bits b)
  where
    e : n ≡ suc b + (n - 1 - b)
    e = omega arith

-- A number of n bits is made of its own bits.
pub numeral-bit_of : (n x : ℕ) → x < 2 ^ n → numeral n (bit_of n x) ≡ x
unfolding numeral
numeral-bit_of zero x h = omega (arith, pow-zero 2)
numeral-bit_of (suc n) x h =
    omega (
      arith,
      numeral-cong n (bit_of (suc n) x) (bit_of n (x / 2)) upper,
      numeral-bit_of n (x / 2) (omega (arith, pow-suc 2 n)),
      last,
    )
  where
    upper : (i : ℕ) → i < n → bit_of (suc n) x i ≡ bit_of n (x / 2) i
    upper i l =
        let e : suc n - 1 - i ≡ suc (n - 1 - i) = omega arith in
        rw (e, pow-suc, mul_comm (2 ^ (n - 1 - i)) 2, ← div-div-eq-div-mul x 2 (2 ^ (n - 1 - i)))

    last : bit_of (suc n) x n ≡ x % 2
    last =
        let e : suc n - 1 - n ≡ 0 = omega arith in
        rw e (ap (λ (y : ℕ). y % 2) (div-one x))

-- New bits put in: n bits from s on become those of g, and those above and below, t of them, stay f's.
pub numeral-spliced : (w s n t : ℕ) (f g h : ℕ → ℕ) → w ≡ s + n + t → Bits f
    → ((i : ℕ) → i < s → h i ≡ f i) → ((i : ℕ) → i < n → h (s + i) ≡ g i) → ((i : ℕ) → i < t → h (s + n + i) ≡ f (s + n + i))
    → numeral w h ≡ numeral w f / 2 ^ (n + t) * 2 ^ (n + t) + numeral n g * 2 ^ t + numeral w f % 2 ^ t
numeral-spliced w s n t f g h e bits above new below =
    rw (
      e,
      numeral-low (s + n) t f bits,
      high_part,
      numeral-add (s + n) t h,
      numeral-add s n h,
      numeral-cong s h f above,
      numeral-cong n (λ i. h (s + i)) g new,
      numeral-cong t (λ i. h (s + n + i)) (λ i. f (s + n + i)) below,
      pow-add 2 n t,
    )
    (omega (arith, add-mul (numeral s f * 2 ^ n) (numeral n g) (2 ^ t), mul_assoc (numeral s f) (2 ^ n) (2 ^ t)))
  where
    high_part : numeral (s + n + t) f / 2 ^ (n + t) ≡ numeral s f
    high_part = ap (λ (m : ℕ). numeral m f / 2 ^ (n + t)) (add_assoc s n t) ∙ numeral-high s (n + t) f bits

-- The t lower bits become zeros.
pub numeral-cleared : (w s t : ℕ) (f h : ℕ → ℕ) → w ≡ s + t → Bits f → ((i : ℕ) → i < s → h i ≡ f i) → ((i : ℕ) → i < t → h (s + i) ≡ 0)
    → numeral w f - numeral w f % 2 ^ t ≡ numeral w h
numeral-cleared w s t f h e bits above below =
    rw (e, numeral-low s t f bits, numeral-add s t h, numeral-cong s h f above, numeral-cong t (λ i. h (s + i)) (λ i. 0) below, numeral-zero t)
    (omega (arith, numeral-add s t f))

-- Two neighbours make one: the bits from s on, of which t are in the first number and s in the next.
pub numeral-shifted : (w s t : ℕ) (f : ℕ → ℕ) → w ≡ s + t → Bits f
    → numeral w f * 2 ^ s % 2 ^ w + numeral w (λ i. f (w + i)) / 2 ^ t ≡ numeral w (λ i. f (s + i))
numeral-shifted w s t f e bits =
    rw e (ap₂ (λ (x y : ℕ). x + y) first (numeral-high s t (λ i. f (s + t + i)) (λ i. bits (s + t + i))) ∙ sym whole)
  where
    later : ℕ → ℕ
    later i = f (s + i)

    room : numeral t later * 2 ^ s < 2 ^ (t + s)
    room = shl_lt t s (numeral-lt t later (λ i. bits (s + i)))

    spread : numeral (s + t) f * 2 ^ s ≡ numeral s f * 2 ^ (t + s) + numeral t later * 2 ^ s
    spread =
        rw (numeral-add s t f, pow-add 2 t s)
        (omega (arith, add-mul (numeral s f * 2 ^ t) (numeral t later) (2 ^ s), mul_assoc (numeral s f) (2 ^ t) (2 ^ s)))

    first : numeral (s + t) f * 2 ^ s % 2 ^ (s + t) ≡ numeral t later * 2 ^ s
    first = rw (spread, add_comm s t) (low (numeral s f) (t + s) room)

    whole : numeral (s + t) later ≡ numeral t later * 2 ^ s + numeral s (λ i. f (s + t + i))
    whole =
        ap (λ (m : ℕ). numeral m later) (add_comm s t) ∙ numeral-add t s later
        ∙ ap (λ (x : ℕ). numeral t later * 2 ^ s + x)
        (numeral-cong s (λ i. later (t + i)) (λ i. f (s + t + i)) (λ i h. ap f (sym (add_assoc s t i))))

-- One bit or another is a bit.
pub pick-lt : (b : Bool) {x y : ℕ} → x < 2 → y < 2 → pick b x y < 2
pick-lt true h l = h
pick-lt false h l = l
