-- Ticket 11, the image: "writing the accepted items' bits in any order gives the same image". Of an accepted build, from the sentences alone: no two offers
-- share a bit, so that a bit of an item keeps the value that the item gives it, whatever is written before and after it.
use Rattle.std.specs.Prelude.{◌≡◌, refl, Bool, ◌⊎◌, ℕ, zero, suc, ◌+◌, ◌-◌, ◌*◌, ◌/◌, ◌%◌, ◌≤◌, ◌<◌, eqb, ℤ, length, get_or}
use Rattle.std.proofs.Common.{sym, ap, ap₂, subst, ◌∙◌, inl, inr, ⊎_elim, arith, eqb-true}
use mathlib.Core.List.Memᴰ
use mathlib.Core.List.{List, [], ◌∷◌, Memᴰ}
use Rattle.std.proofs.lemmas.Bool.{eqb-false}
use Rattle.prelude.specs.Laws.Bools.{either}
use Rattle.sort.specs.Laws.Sorted.{le-or-lt}
use Rattle.bitvec.specs.Bits.{bit_at}
use Rattle.bitvec.specs.Theorems.Bits.{same_bits}
use Rattle.bitvec.specs.Written.{written}
use Rattle.bitvec.specs.Theorems.Written.{length-written}
use Rattle.says.specs.Build as b
use Rattle.says.specs.Build.{Given, Lent, Outcome, nodes, kind, operand, flag, IsWritten, Number, In, Sees, Offer}
use Rattle.says.specs.Words.{Not}
use Rattle.says.specs.Build.{Refuses, IsSpan, Spans, SpanAt, OfItem, InFilled}
use Rattle.meets_sentences.specs.Laws.One.{three, offer-one}
use Rattle.meets_sentences.specs.Laws.Items.{Holds, Alone, its_own, free, as_long, in_bytes, puts-there}
use Rattle.meets_sentences.specs.InTurn as turn
use Rattle.meets_sentences.specs.InTurn.{Item, AllPut, Among, InTurn, Blank}
use Rattle.meets_sentences.specs.Theorems.Outcomes.{AcceptedSo}
use Rattle.meets_sentences.specs.Theorems.Decides.{spans-less}
use Rattle.meets_sentences.specs.Theorems.Image.{offers-share-no-bit, offer-listed, item-within}

same_number : (x y : ℕ) → ((x ≡ y → ⊥) → ⊥) → x ≡ y
same_number x y h = either (eqb x y) (λ t. eqb-true x y t) (λ f. absurd (h (eqb-false x y f)))

module _ (g : Given) where
  -- the item of node i, whose offer is of m bits at bit x
  abbrev item_of : (i x m : ℕ) → Item
  item_of i x m = record { position = x; size = m; values = g.values; from = operand g i }

  -- The items that are written, in their order.
  record Items (r : ℕ) (order image last : List ℕ) : Type 0 where
    pub items : List Item
    pub run : AllPut items image last
    pub of_node : (it : Item) → Memᴰ it items → (i : ℕ) × (x : ℕ) × (m : ℕ) × IsWritten g i × Offer g r i x m × (it ≡ item_of i x m)
    pub listed : (i x m : ℕ) → Among i order → Offer g r i x m → Memᴰ (item_of i x m) items

  among_cases : {i j : ℕ} {order : List ℕ} → Among i (j ∷ order) → (i ≡ j) ⊎ Among i order
  among_cases turn.here = inl refl
  among_cases (turn.later a) = inr a

  -- a node has one item
  one-item : {r i j x m y n : ℕ} → i ≡ j → Offer g r i x m → Offer g r j y n → item_of i x m ≡ item_of j y n
  one-item {r} {i} {x = x} {m = m} {y = y} {n = n} same o q =
      let e = offer-one g o (subst (λ (z : ℕ). Offer g r z y n) (sym same) q) in
      ap₂ (item_of i) e.0 e.1 ∙ ap (λ (z : ℕ). item_of z y n) same

  items_of : {r : ℕ} {order image last : List ℕ} → InTurn g r order image last → Items r order image last
  items_of turn.all-put =
      record { items = []; run = turn.none_left; of_node = λ it m. absurd (Memᴰ.not-nil m); listed = λ i x m a. absurd (none a) }
    where
      none : {i : ℕ} → Among i [] → ⊥
      none a = elim a [ ]
  items_of (turn.one_more {i = i} {x = x} {m = m} w q p rest) =
      let later = items_of rest in
      record {
        items = item_of i x m ∷ later.items;
        run = turn.item-put p later.run;
        of_node = λ it k. ⊎_elim (λ same. (i, x, m, w, q, same)) (λ l. later.of_node it l) (Memᴰ.cases_cons k);
        listed = λ j y n a o.
            ⊎_elim (λ same. Memᴰ.head (one-item same o q)) (λ l. Memᴰ.tail (later.listed j y n l o)) (among_cases a);
      }

  module _ (r : ℕ) (clear : (i : ℕ) → Not (Refuses g r i)) {order image last : List ℕ} (run : InTurn g r order image last) where
    abbrev all : Items r order image last
    all = items_of run

    -- no other item has a bit of this one
    item-alone : {i x m : ℕ} → Offer g r i x m → Alone all.items (item_of i x m)
    item-alone {i} {x} {m} o other k member held own =
        let (j, y, n, w, q, is) = all.of_node other member in
        let (low, high) = subst (λ (it : Item). Holds it k) is held in
        is ∙ one-item (offers-share-no-bit g r clear q o low high own.0 own.1) q o

    -- a bit of an item that is among those written
    own-bit : {i x m k : ℕ} → Among i order → Offer g r i x m → x ≤ k → k < x + m → bit_at last k ≡ bit_at g.values (operand g i + (k - x))
    own-bit {i} {x} {m} a o low high = its_own (item-alone o) (all.listed i x m a o) (low, high) all.run

    -- a bit of none of them
    other-bit : {k : ℕ} → ((i x m : ℕ) → IsWritten g i → Offer g r i x m → x ≤ k → k < x + m → ⊥) → bit_at last k ≡ bit_at image k
    other-bit {k} none =
        free all.run (λ it member held.
        let (i, x, m, w, q, is) = all.of_node it member in
        let (low, high) = subst (λ (a : Item). Holds a k) is held in
        none i x m w q low high)

module _ (g : Given) (old : Lent) (o : Outcome) (a : AcceptedSo g old o) where
  -- Every written item of the build is among these nodes; one that stands there twice is written twice.
  abbrev pub HasAll : List ℕ → Type 0
  HasAll order = (i : ℕ) → i < nodes g → IsWritten g i → Among i order

  -- "Writing the accepted items' bits in any order gives the same image": over the fill it gives the image that the build leaves.
  pub any-order-same-image : (order image last : List ℕ) → HasAll order → Blank g old o.answer.length image → InTurn g a.row order image last
      → last ≡ o.lent.image
  any-order-same-image order image last all blank run =
      let r = a.row in
      let left = a.left in
      let clear = a.none-refused in
      let put = (items_of g run).run in
      same_bits last o.lent.image (in_bytes put blank.bytes) left.bytes (as_long put ∙ blank.as_long ∙ sym left.as_long.0) (λ k lt.
      same_number (bit_at last k) (bit_at o.lent.image k) (λ differ.
      let none : Not (OfItem g old r k) = λ it.
      let x = it.1 in
      let whole : x + (k - x) ≡ k = omega (arith, it.5) in
      let own : bit_at o.lent.image (x + (k - x)) ≡ bit_at g.values (operand g it.0 + (k - x)) =
      left.item-bit it.0 x it.2 (k - x) it.3 it.4 (omega (arith, it.5, it.6)) in
      differ (own-bit g r clear run (all it.0 (offer-listed g it.4) it.3) it.4 it.5 it.6
      ∙ sym (subst (λ (n : ℕ). bit_at o.lent.image n ≡ bit_at g.values (operand g it.0 + (k - x))) whole own)) in
      let same : bit_at last k ≡ bit_at image k = other-bit g r clear run (λ i x m w q low high. none (i, x, m, w, q, low, high)) in
      let bare : (n : ℕ) → Not (InFilled g old o.answer.length n k) = λ n range.
      differ (same ∙ blank.fill-bit k n range ∙ sym (left.fill-bit k n none range)) in
      differ (same ∙ blank.zero_bit k bare ∙ sym (left.zero_bit k none bare))))

  -- and so do two orders, from two such images before any item.
  pub two-orders-one-image : (order order' image image' last last' : List ℕ) → HasAll order → HasAll order' → Blank g old o.answer.length image
      → Blank g old o.answer.length image' → InTurn g a.row order image last → InTurn g a.row order' image' last' → last ≡ last'
  two-orders-one-image order order' image image' last last' all all' blank blank' run run' =
      any-order-same-image order image last all blank run ∙ sym (any-order-same-image order' image' last' all' blank' run')

-- ---- every order can be written

module _ (g : Given) where
  span-or-not : (i : ℕ) → IsSpan g i ⊎ Not (IsSpan g i)
  span-or-not i =
      either (eqb (kind g i) 2)
      (λ t. inl (inl (eqb-true (kind g i) 2 t)))
      (λ f. ⊎_elim
      (λ (low : 4 ≤ kind g i). ⊎_elim
      (λ (high : kind g i ≤ 6). inl (inr (low, high)))
      (λ (past : 6 < kind g i). inr (λ s. ⊎_elim (λ e. eqb-false (kind g i) 2 f e) (λ w. omega (arith, w.1)) s))
      (le-or-lt (kind g i) 6))
      (λ (below : kind g i < 4). inr (λ s. ⊎_elim (λ e. eqb-false (kind g i) 2 f e) (λ w. omega (arith, w.0)) s))
      (le-or-lt 4 (kind g i)))

  -- how many spans stand before a node
  spans-before : (i : ℕ) → (n : ℕ) × Spans g i n
  spans-before zero = (0, b.before-all)
  spans-before (suc i) =
      let (n, s) = spans-before i in
      ⊎_elim (λ h. (suc n, b.more s h)) (λ h. (n, b.no_span s h)) (span-or-not i)

  stands-in : {r i c p : ℕ} {k : Bool} → Sees g r i c p k → In g i c
  stands-in (b.sees x h l le) = h

  its-number : (r i : ℕ) → (n : ℕ) × Number g r i n
  its-number r i =
      either (eqb (kind g i) 5) (λ t. (get_or g.numbers i 0, b.first (eqb-true (kind g i) 5 t)))
      (λ f. (get_or g.numbers (r * nodes g + i) 0, b.own (eqb-false (kind g i) 5 f)))

module _ (g : Given) (old : Lent) (o : Outcome) (a : AcceptedSo g old o) where
  sees-there : {i n : ℕ} → Spans g i n → IsSpan g i → {z : ℤ} {w e : ℕ} → SpanAt g a.row n z w e
      → (c : ℕ) × (p : ℕ) × (k : Bool) × Sees g a.row i c p k
  sees-there {i} s h (b.span {i = j} {b = c} {p = p} {known = k} lt h' s' x ex w) =
      let same : j ≡ i =
      three g i j (λ l. absurd (omega (arith, spans-less g s h s' l))) (λ e. sym e) (λ l. absurd (omega (arith, spans-less g s' h' s l))) in
      (c, p, k, subst (λ (m : ℕ). Sees g a.row m c p k) same x)

  -- Every written item of an accepted build was offered.
  pub written-is-offered : (i : ℕ) → i < nodes g → IsWritten g i → (x : ℕ) × (m : ℕ) × Offer g a.row i x m
  written-is-offered i h w =
      let (n, s) = spans-before g i in
      let (c, p, k, x) = sees-there s (inr w) (a.left.span n (spans-less g s (inr w) a.spans h)) in
      let (m, q) = its-number g a.row i in
      either (eqb (flag g c / 2 % 2) 1)
      (λ t. (get_or g.bank_offsets c 0 + p, m, b.offer h w.0 (omega (arith, w.1)) x (eqb-true (flag g c / 2 % 2) 1 t, refl) q))
      (λ f. absurd (a.none-refused i (11, i, 0, b.no_output h w (stands-in g x) (λ _ offset. eqb-false (flag g c / 2 % 2) 1 f offset.0))))

  -- The bits of any of them can be written into an image as long as the build's, in any order.
  pub some-writing : (order : List ℕ) → ((i : ℕ) → Among i order → (i < nodes g) × IsWritten g i) → (image : List ℕ) → length image ≡ length old.image
      → (last : List ℕ) × InTurn g a.row order image last
  some-writing [] each image long = (image, turn.all-put)
  some-writing (i ∷ order) each image long =
      let (h, w) = each i turn.here in
      let (x, m, q) = written-is-offered i h w in
      let after = written image x g.values (operand g i) m in
      let (last, rest) = some-writing order (λ j there. each j (turn.later there)) after (length-written image x g.values (operand g i) m ∙ long) in
      (last, turn.one_more w q (puts-there (item_of g i x m) image (omega (arith, item-within g old o a w q, a.image-room, long))) rest)
