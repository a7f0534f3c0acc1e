-- The bytes of blocks that were cut into records: those of the image, each once. From the sentences alone.
use Rattle.std.specs.Prelude.{◌≡◌, refl, List, [], ◌∷◌, ◌++◌, ◌⊎◌, ℕ, zero, suc, ◌+◌, ◌*◌, ◌-◌, ◌≤◌, ◌<◌, ◌/◌, length, get_or, take, drop}
use Rattle.std.proofs.Common.{sym, ap, ◌∙◌, subst, inl, inr, ⊎_elim, arith, length-take, length-drop, get_or-take, get_or-drop}
use Rattle.sort.specs.Laws.Sorted.{le-or-lt}
use Rattle.record_lines.specs.Pieces.{Piece}
use Rattle.says.specs.Write as w
use Rattle.says.specs.Write.{Given, Cut, Cuts, BadPart, BadPlace}
use Rattle.meets_records.specs.Laws.Has.{HasOne, Has, has_left, has_right, has_either, Lone}

-- Byte x lies in one of some blocks.
abbrev pub InOne : List ℕ → List ℕ → ℕ → Type 0
InOne os ss x = (i : ℕ) × (i < length os) × (i < length ss) × (get_or os i 0 / 8 ≤ x) × (x < (get_or os i 0 + get_or ss i 0) / 8)

lone-append : (ps qs : List Piece) → Lone ps → Lone qs → ((a b c : ℕ) → Has ps a b → Has qs a c → ⊥) → Lone (ps ++ qs)
lone-append [] qs l m d = m
lone-append (p ∷ ps) qs l m d = (
  λ a b c x y. ⊎_elim (λ z. l.0 a b c x z) (λ z. d a b c (inl x) z) (has_either ps qs a c y),
  lone-append ps qs l.1 m (λ a b c x y. d a b c (inr x) y),
)

module _ (g : Given) where
  abbrev Byte : ℕ → ℕ → ℕ → ℕ → Type 0
  Byte at stop a b = (x : ℕ) × (at ≤ x) × (x < stop) × (a ≡ g.load + x) × (b ≡ get_or g.image x 0)

  -- ---- one block
  one_has : (at n : ℕ) (p : Piece) → p.address ≡ g.load + at → p.bytes ≡ take n (drop at g.image) → (a b : ℕ) → HasOne p a b → Byte at (at + n) a b
  one_has at n p ea eb a b x =
      let k = x.0 in
      let long : length p.bytes ≡ length (take n (drop at g.image)) = ap (λ (l : List ℕ). length l) eb in
      let few : k < n = omega (arith, x.1, length-take n (drop at g.image)) in
      let byte : b ≡ get_or g.image (at + k) 0 =
      x.3 ∙ ap (λ (l : List ℕ). get_or l k 0) eb ∙ get_or-take n (drop at g.image) k 0 few ∙ get_or-drop at g.image k 0 in
      (at + k, omega arith, omega arith, omega (arith, x.2), byte)

  pub cut_has : {at stop : ℕ} {ps : List Piece} → Cut g at stop ps → (a b : ℕ) → Has ps a b → Byte at stop a b
  cut_has (w.done e) a b x = absurd x
  cut_has (w.next {at} {n = n} {p = p} h room most ea eb rest) a b (inl x) =
      let y = one_has at n p ea eb a b x in
      (y.0, y.1, omega (arith, y.2, room.1), y.3, y.4)
  cut_has (w.next h room most ea eb rest) a b (inr x) =
      let y = cut_has rest a b x in
      (y.0, omega (arith, y.1), y.2, y.3, y.4)

  pub has-cut : {at stop : ℕ} {ps : List Piece} → Cut g at stop ps → stop ≤ length g.image → (x : ℕ) → at ≤ x → x < stop
      → Has ps (g.load + x) (get_or g.image x 0)
  has-cut (w.done e) inside x h k = omega arith
  has-cut (w.next {at} {n = n} {p = p} h room most ea eb rest) inside x low high = ⊎_elim
      (λ le. inr (has-cut rest inside x le high))
      (λ lt.
      let k = x - at in
      let few : k < n = omega arith in
      let long : length p.bytes ≡ length (take n (drop at g.image)) = ap (λ (l : List ℕ). length l) eb in
      let size : k < length p.bytes = omega (arith, length-take n (drop at g.image), length-drop at g.image, room.1) in
      let place : g.load + x ≡ p.address + k = omega arith in
      let there : at + k ≡ x = omega arith in
      let byte : get_or p.bytes k 0 ≡ get_or g.image x 0 =
      ap (λ (l : List ℕ). get_or l k 0) eb ∙ get_or-take n (drop at g.image) k 0 few ∙ get_or-drop at g.image k 0
      ∙ ap (λ (y : ℕ). get_or g.image y 0) there in
      inl (k, size, place, sym byte))
      (le-or-lt (at + n) x)

  cut-lone : {at stop : ℕ} {ps : List Piece} → Cut g at stop ps → Lone ps
  cut-lone (w.done e) = tt
  cut-lone (w.next {at} {n = n} {p = p} h room most ea eb rest) = (
    λ a b c x y.
        let one = one_has at n p ea eb a b x in
        let other = cut_has rest a c y in
        omega (arith, one.2, one.3, other.1, other.3),
    cut-lone rest,
  )

  -- ---- all blocks
  pub cuts-has : {os ss : List ℕ} {ps : List Piece} → Cuts g os ss ps → (a b : ℕ) → Has ps a b
      → (x : ℕ) × InOne os ss x × (a ≡ g.load + x) × (b ≡ get_or g.image x 0)
  cuts-has w.none a b x = absurd x
  cuts-has (w.block {ps = ps} {qs = qs} c d) a b x = ⊎_elim
      (λ y. let k = cut_has c a b y in (k.0, (0, omega arith, omega arith, k.1, k.2), k.3, k.4))
      (λ y.
      let k = cuts-has d a b y in
      let i = k.1 in
      (k.0, (suc i.0, omega (arith, i.1), omega (arith, i.2), i.3, i.4), k.2, k.3))
      (has_either ps qs a b x)

  abbrev pub Inside : List ℕ → List ℕ → Type 0
  Inside os ss = (i : ℕ) → i < length os → i < length ss → (get_or os i 0 + get_or ss i 0) / 8 ≤ length g.image

  pub has-cuts : {os ss : List ℕ} {ps : List Piece} → Cuts g os ss ps → Inside os ss → (x i : ℕ) → i < length os → i < length ss → get_or os i 0 / 8 ≤ x
      → x < (get_or os i 0 + get_or ss i 0) / 8 → Has ps (g.load + x) (get_or g.image x 0)
  has-cuts w.none inside x i h k low high = omega arith
  has-cuts (w.block {ps = ps} {qs = qs} c d) inside x zero h k low high =
      has_left ps qs (g.load + x) (get_or g.image x 0) (has-cut c (inside 0 h k) x low high)
  has-cuts (w.block {ps = ps} {qs = qs} c d) inside x (suc i) h k low high =
      has_right ps qs (g.load + x) (get_or g.image x 0)
      (has-cuts d (λ j a b. inside (suc j) (omega arith) (omega arith)) x i (omega arith) (omega arith) low high)

  abbrev pub Ordered : List ℕ → List ℕ → Type 0
  Ordered os ss = (i j : ℕ) → i < j → j < length os → j < length ss → get_or os i 0 + get_or ss i 0 ≤ get_or os j 0

  pub cuts-lone : {os ss : List ℕ} {ps : List Piece} → Cuts g os ss ps → Ordered os ss → Lone ps
  cuts-lone w.none order = tt
  cuts-lone (w.block {ps = ps} {qs = qs} c d) order =
      lone-append ps qs (cut-lone c) (cuts-lone d (λ i j h k l. order (suc i) (suc j) (omega arith) (omega arith) (omega arith))) (λ a b e x y.
      let one = cut_has c a b x in
      let other = cuts-has d a e y in
      let j = other.1 in
      let later = order 0 (suc j.0) (omega arith) (omega (arith, j.1)) (omega (arith, j.2)) in
      omega (arith, one.2, one.3, other.2, j.3))

  -- ---- what no refusal means
  less : (m n : ℕ) → (n < m → ⊥) → m ≤ n
  less m n h = ⊎_elim (λ le. le) (λ lt. absurd (h lt)) (le-or-lt m n)

  pub inside_of : (BadPart g → ⊥) → Inside g.offsets g.sizes
  inside_of no_part i h k =
      let o = get_or g.offsets i 0 in
      let n = get_or g.sizes i 0 in
      let fit = less (o + n) (8 * length g.image) (λ past. no_part (w.unfit {i = i} (h, k, refl, refl) (inr (inr (inr past))))) in
      omega arith

  pub low_of : (top : ℕ) → (BadPlace g top → ⊥) → (i : ℕ) → i < length g.offsets → i < length g.sizes
      → g.load + (get_or g.offsets i 0 + get_or g.sizes i 0) / 8 ≤ top
  low_of top no_place i h k =
      less (g.load + (get_or g.offsets i 0 + get_or g.sizes i 0) / 8) top (λ past. no_place (w.past {i = i} (h, k, refl, refl) past))

  ordered-by : (top : ℕ) → (BadPlace g top → ⊥) → (i d : ℕ) → i + suc d < length g.offsets → i + suc d < length g.sizes
      → get_or g.offsets i 0 + get_or g.sizes i 0 ≤ get_or g.offsets (i + suc d) 0
  ordered-by top no_place i zero h k =
      let e : suc i ≡ i + 1 = omega arith in
      let next : get_or g.offsets i 0 + get_or g.sizes i 0 ≤ get_or g.offsets (suc i) 0 =
      less (get_or g.offsets i 0 + get_or g.sizes i 0) (get_or g.offsets (suc i) 0) (λ past.
      no_place (w.order {i = i} (omega arith, omega arith, refl, refl) (omega arith, omega arith, refl, refl) past)) in
      subst (λ (n : ℕ). get_or g.offsets i 0 + get_or g.sizes i 0 ≤ get_or g.offsets n 0) e next
  ordered-by top no_place i (suc d) h k =
      let j = i + suc d in
      let before = ordered-by top no_place i d (omega arith) (omega arith) in
      let e : suc j ≡ i + suc (suc d) = omega arith in
      let next : get_or g.offsets j 0 + get_or g.sizes j 0 ≤ get_or g.offsets (suc j) 0 =
      less (get_or g.offsets j 0 + get_or g.sizes j 0) (get_or g.offsets (suc j) 0) (λ past.
      no_place (w.order {i = j} (omega arith, omega arith, refl, refl) (omega arith, omega arith, refl, refl) past)) in
      subst (λ (n : ℕ). get_or g.offsets i 0 + get_or g.sizes i 0 ≤ get_or g.offsets n 0) e (omega arith)

  pub ordered_of : (top : ℕ) → (BadPlace g top → ⊥) → Ordered g.offsets g.sizes
  ordered_of top no_place i j h k l =
      let e : i + suc (j - suc i) ≡ j = omega arith in
      subst (λ (n : ℕ). get_or g.offsets i 0 + get_or g.sizes i 0 ≤ get_or g.offsets n 0) e
      (ordered-by top no_place i (j - suc i) (omega arith) (omega arith))
