-- Demand 3 of an accepted build, from the sentences alone: "each bit of a written item is that item's own bit"; "every other bit is the fill bit inside such
-- a range and the image length, and zero elsewhere"; no two offers share a bit, and no mark lies strictly inside an interval. Tickets 6 and 8.
use Rattle.std.specs.Prelude.{◌≡◌, refl, Bool, true, false, ◌⊎◌, List, ℕ, suc, ◌+◌, ◌-◌, ◌/◌, ◌%◌, ◌^◌, ◌≤◌, ◌<◌, get_or}
use Rattle.std.proofs.Common.{sym, ap, subst, ◌∙◌, inl, inr, ⊎_elim, arith}
use Rattle.sort.specs.Laws.Sorted.{le-or-lt}
use Rattle.bitvec.specs.Bits.{bit_at}
use Rattle.says.specs.Banks as bank
use Rattle.says.specs.Build as b
use Rattle.says.specs.Build.{Given, Lent, Outcome, banks, nodes, kind, operand, fill_bit, Filled, Size, Offset, Offer, IsWritten}
use Rattle.says.specs.Words.{Not}
use Rattle.says.specs.Build.{OfItem, InFilled}
use Rattle.says.specs.Build.{Inherited, Refuses, Sees, Number, Placed, Extent}
use Rattle.meets_sentences.specs.Grounds as ground
use Rattle.meets_sentences.specs.Laws.Why.{none-overlaps}
use Rattle.meets_sentences.specs.Laws.One.{three, offer-one}
use Rattle.meets_sentences.specs.Theorems.Outcomes.{AcceptedSo}

-- "Bits run from the top of each byte": what `bit_at` of the sentences is.
pub bit-at-is : (l : List ℕ) (j : ℕ) → bit_at l j ≡ get_or l (j / 8) 0 / 2 ^ (7 - j % 8) % 2
unfolding bit_at
bit-at-is l j = refl

module _ (g : Given) where
  pub offer-listed : {r i x m : ℕ} → Offer g r i x m → i < nodes g
  offer-listed (b.offer h k l s f n) = h

  -- ---- what the build keeps apart, where no node is refused

  module _ (r : ℕ) (clear : (i : ℕ) → Not (Refuses g r i)) where
    alone : {j x m : ℕ} → Offer g r j x m → ground.Overlaps g r j x m → ⊥
    alone {j} {x} {m} o v = none-overlaps g r (suc j) (λ i h. clear i) j x m (omega arith) o v

    apart_in_order : {i j x m y n bit : ℕ} → i < j → Offer g r i x m → Offer g r j y n → x ≤ bit → bit < x + m → y ≤ bit → bit < y + n → ⊥
    apart_in_order {j = j} h o q a c d e =
        alone q (ground.stored (b.interval h o (omega arith)) (b.bits (omega arith) (omega arith) (omega arith) (omega arith)))

    -- No two offers share a bit.
    pub offers-share-no-bit : {i j x m y n bit : ℕ} → Offer g r i x m → Offer g r j y n → x ≤ bit → bit < x + m → y ≤ bit → bit < y + n → i ≡ j
    offers-share-no-bit {i} {j} o q a c d e =
        three g i j (λ l. absurd (apart_in_order l o q a c d e)) (λ same. same) (λ l. absurd (apart_in_order l q o d e a c))

    -- No mark is strictly inside an interval, whichever came first.
    pub no-mark-inside : {i j x y n : ℕ} → Offer g r i x 0 → Offer g r j y n → y < x → x < y + n → ⊥
    no-mark-inside {i} {j} o q a c =
        three g i j
        (λ l. alone q (ground.marked (b.mark l o) a c))
        (λ same. one-node same a o q)
        (λ l. alone o (ground.stored (b.interval l q (omega arith)) (b.inside refl (omega arith) a c)))
      where
        one-node : {i j x y n : ℕ} → i ≡ j → y < x → Offer g r i x 0 → Offer g r j y n → ⊥
        one-node {i} {j} {x} {y} {n} same l o q =
            let e = offer-one g o (subst (λ (k : ℕ). Offer g r k y n) (sym same) q) in
            omega (arith, e.0, e.1)

    -- 10: "an item ends past its bank's size": none does.
    pub items-end-inside : {i c p e m : ℕ} {k : Bool} → Placed g i → Sees g r i c p k → Extent g r i e → Size g c m → p + e ≤ m
    items-end-inside {i} {c} {p} {e} {m} {k} placed s x size =
        ⊎_elim (λ (h : p + e ≤ m). h) (λ (h : m < p + e). absurd (clear i (10, i, 0, b.past-size placed s x size h)))
        (le-or-lt (p + e) m)

  -- ---- an accepted build

  module _ (old : Lent) (o : Outcome) (a : AcceptedSo g old o) where
    -- "In an accepted build each bit of a written item is that item's own bit, most significant first":
    pub item-own-bit : (i x m bit : ℕ) → IsWritten g i → Offer g a.row i x m → bit < m
        → bit_at o.lent.image (x + bit) ≡ bit_at g.values (operand g i + bit)
    item-own-bit = a.left.item-bit

    -- "every other bit is the fill bit inside such a range and the image length,"
    pub other-bit-fill : (bit c : ℕ) → Not (OfItem g old a.row bit) → InFilled g old o.answer.length c bit → bit_at o.lent.image bit ≡ fill_bit g c
    other-bit-fill = a.left.fill-bit

    -- "and zero elsewhere", to the last byte lent.
    pub other-bit-zero : (bit : ℕ) → Not (OfItem g old a.row bit) → ((c : ℕ) → Not (InFilled g old o.answer.length c bit))
        → bit_at o.lent.image bit ≡ 0
    other-bit-zero = a.left.zero_bit

    -- No two offers of it share a bit, and no mark is strictly inside an interval.
    pub accepted-offers-apart : {i j x m y n bit : ℕ} → Offer g a.row i x m → Offer g a.row j y n → x ≤ bit → bit < x + m → y ≤ bit → bit < y + n
        → i ≡ j
    accepted-offers-apart = offers-share-no-bit a.row a.none-refused

    pub accepted-no-mark-inside : {i j x y n : ℕ} → Offer g a.row i x 0 → Offer g a.row j y n → y < x → x < y + n → ⊥
    accepted-no-mark-inside = no-mark-inside a.row a.none-refused

    -- a bit of a reserve is no item's
    reserved-free : {i x m bit : ℕ} → kind g i ≡ 7 → Offer g a.row i x m → x ≤ bit → bit < x + m → Not (OfItem g old a.row bit)
    reserved-free {i} e q low high item =
        let same : item.0 ≡ i = accepted-offers-apart item.4 q item.5 item.6 low high in
        let k : kind g i ≤ 6 = subst (λ (j : ℕ). kind g j ≤ 6) same item.3.1 in
        omega arith

    -- Ticket 6: "takes the fill bit, reserved bits too"
    pub reserved-bit-fill : {i x m bit c : ℕ} → kind g i ≡ 7 → Offer g a.row i x m → x ≤ bit → bit < x + m → InFilled g old o.answer.length c bit
        → bit_at o.lent.image bit ≡ fill_bit g c
    reserved-bit-fill {bit = bit} {c = c} e q low high f = other-bit-fill bit c (reserved-free e q low high) f

    -- "2 also for bank 0 with fill bit one": an accepted build's bank 0 has fill bit zero
    pub bank-0-bit-zero : fill_bit g 0 ≡ 0
    bank-0-bit-zero =
        let listed : Not (banks g < 1) = λ h. a.banks-there (b.too_few h) in
        let not-one : Not (fill_bit g 0 ≡ 1) = λ e. a.banks-good 0 (omega arith) (b.beyond (bank.bit-of-bank-0 refl e)) in
        let not-past : Not (1 < fill_bit g 0) = λ h. a.banks-good 0 (omega arith) (b.beyond (bank.bit_past h)) in
        omega arith

    -- "Image length is .. the furthest end of a written item": no item ends past it.
    pub item-within : {i x m : ℕ} → IsWritten g i → Offer g a.row i x m → x + m ≤ o.answer.length
    item-within w q = a.long.1 _ (b.by-item w q)

    -- ---- Ticket 8, "Fill must reach the end"

    -- "full fill, where the fill's length is the largest offset + size": every filled bank's last bit is in the image
    pub full-fill-reaches-the-end : g.fill ≡ 1 → (c m f : ℕ) → c < banks g → Filled g c → Size g c m → Offset g c f → f + m ≤ o.answer.length
    full-fill-reaches-the-end one c m f h fill size offset = a.long.1 (f + m) (b.full one h (fill, size, offset))
