-- Items that change places: a reordering shares no bit where the list shared none, two items written one after the other may change places,
-- and so may two ends in the length.
use Rattle.std.specs.Prelude.{◌≡◌, refl, List, ◌∷◌, ◌⊎◌, ℕ, ◌+◌, ◌-◌, ◌*◌, ◌<◌, max, length}
use Rattle.std.proofs.Common.{sym, subst, ◌∙◌, inl, inr, ⊎_elim, arith}
use mathlib.Core.List.Memᴰ
use mathlib.Core.List.Permᴰ
use mathlib.Core.List.{Permᴰ}
use mathlib.Core.HLevel.{⊥_prop}
use Rattle.std.proofs.Math.Logic.{∥∥₁_elim}
use Rattle.std.proofs.Math.Decide.{dec_lt, dec_le}
use Rattle.bitvec.specs.Bits.{bit_at}
use Rattle.bitvec.specs.Theorems.Bits.{same_bits}
use Rattle.bitvec.specs.Written.{written}
use Rattle.bitvec.specs.Theorems.Written.{length-written, bytes-written, bit_at-written, written_bit-inside, written-other}
use Rattle.blocks.specs.Bits.{NoSharedBit}
use Rattle.build_visits.specs.Items.{Item, end_of, InItem}

-- ---- no shared bit, whatever the order

module _ {A : Type 0} (In : ℕ → A → Type 0) where
  -- two elements that change places
  apart-swapped : {a b c d : A} {l : List A} → a ≡ d → b ≡ c → NoSharedBit In (a ∷ b ∷ l) → NoSharedBit In (c ∷ d ∷ l)
  apart-swapped {a} {b} {c} {d} {l} e g h = (
    λ bit i s. ⊎_elim
        (λ k. h.0 bit (subst (In bit) (k ∙ sym e) s.2) (b, Memᴰ.head refl, subst (In bit) (sym g) i))
        (λ t. h.1.0 bit (subst (In bit) (sym g) i) (s.0, t, s.2))
        (Memᴰ.cases_cons s.1),
    (λ bit i s. h.0 bit (subst (In bit) (sym e) i) (s.0, Memᴰ.tail s.1, s.2), h.1.1),
  )

  -- Where no two elements of a list share a bit, none of a reordering do.
  pub apart-reordered : {l m : List A} → Permᴰ l m → NoSharedBit In l → NoSharedBit In m
  apart-reordered Permᴰ.nil h = h
  apart-reordered (Permᴰ.cons e d) h = (
    λ bit i s. ∥∥₁_elim (Permᴰ.mem (Permᴰ.symm d) ∣ s.1 ∣₁) ⊥_prop (λ m. h.0 bit (subst (In bit) (sym e) i) (s.0, m, s.2)),
    apart-reordered d h.1,
  )
  apart-reordered (Permᴰ.swap e g) h = apart-swapped e g h
  apart-reordered (Permᴰ.trans p q) h = apart-reordered q (apart-reordered p h)

-- ---- two items that change places

-- a bit is an item's, or it is not
in-or-out : (k : ℕ) (x : Item) → InItem k x ⊎ (InItem k x → ⊥)
in-or-out k x =
    elim (dec_le x.at k) [
      | yes low ↦ elim (dec_lt k (end_of x)) [ yes high ↦ inl (low, high) | no high ↦ inr (λ i. high i.1) ]
      | no low ↦ inr (λ i. low i.0)
    ]

module _ (values : List ℕ) where
  -- an image with one item written into it
  abbrev pub put : List ℕ → Item → List ℕ
  put image x = written image x.at values x.from x.size

  put-length : (image : List ℕ) (x : Item) → length (put image x) ≡ length image
  put-length image x = length-written image x.at values x.from x.size

  put_in : (image : List ℕ) (x : Item) (k : ℕ) → k < 8 * length image → InItem k x
      → bit_at (put image x) k ≡ bit_at values (x.from + (k - x.at))
  put_in image x k h i =
      bit_at-written image x.at values x.from x.size k h
      ∙ written_bit-inside image x.at values x.from x.size k i.0 i.1

  put-out : (image : List ℕ) (x : Item) (k : ℕ) → (InItem k x → ⊥) → bit_at (put image x) k ≡ bit_at image k
  put-out image x k out = written-other image x.at values x.from x.size k (λ low high. out (low, high))

  module _ (image : List ℕ) (x y : Item) (apart : (bit : ℕ) → InItem bit x → InItem bit y → ⊥) where
    two-lengths : length (put (put image x) y) ≡ length image
    two-lengths = put-length (put image x) y ∙ put-length image x

    swap-bit : (k : ℕ) → k < 8 * length image → bit_at (put (put image x) y) k ≡ bit_at (put (put image y) x) k
    swap-bit k h =
        ⊎_elim
        (λ i. put-out (put image x) y k (apart k i) ∙ put_in image x k h i
        ∙ sym (put_in (put image y) x k (omega (arith, put-length image y)) i))
        (λ o. ⊎_elim
        (λ j. put_in (put image x) y k (omega (arith, put-length image x)) j ∙ sym (put_in image y k h j) ∙ sym (put-out (put image y) x k o))
        (λ q. put-out (put image x) y k q ∙ put-out image x k o ∙ sym (put-out image y k q) ∙ sym (put-out (put image y) x k o))
        (in-or-out k y))
        (in-or-out k x)

    -- Two items that share no bit give one image, whichever is written first.
    pub put-swap : put (put image x) y ≡ put (put image y) x
    put-swap =
        same_bits (put (put image x) y) (put (put image y) x)
        (bytes-written (put image x) y.at values y.from y.size)
        (bytes-written (put image y) x.at values x.from x.size)
        (two-lengths ∙ sym (put-length (put image y) x ∙ put-length image y))
        λ k h. swap-bit k (omega (arith, two-lengths))

-- Two ends give one length, whichever comes first.
pub max-swap : (fill p q : ℕ) → max (max fill p) q ≡ max (max fill q) p
max-swap fill p q = omega arith
