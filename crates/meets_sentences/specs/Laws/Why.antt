-- What a node is refused for, by its number; and that an offer that overlaps is refused: where no node before it is refused there is an interval or a mark
-- that 12 names. From the sentences alone.
use Rattle.std.specs.Prelude.{◌≡◌, refl, Bool, ◌⊎◌, ℕ, zero, suc, ◌+◌, ◌-◌, ◌<◌, ◌≤◌}
use Rattle.std.proofs.Common.{sym, ap, subst, inl, inr, ⊎_elim, arith}
use Rattle.sort.specs.Laws.Sorted.{le-or-lt}
use Rattle.says.specs.Words.{First}
use Rattle.says.specs.Build as b
use Rattle.says.specs.Build.{Given, nodes, Offer, Clash, Interval, Mark, Names, Why, Refuses}
use Rattle.meets_sentences.specs.Grounds as ground
use Rattle.meets_sentences.specs.Grounds.{Overlaps, Nine, Ten, Eleven, Twelve, Thirteen}
use Rattle.meets_sentences.specs.Laws.First.{none_at_all}
use Rattle.meets_sentences.specs.Laws.One.{three, offer-one}

module _ (g : Given) where
  -- ---- by its number

  pub nine-of : {r i number place second : ℕ} → Why g r i number place second → number ≡ 9 → Nine g r i
  nine-of (b.bank-0 p h c) e = (p, h, c)
  nine-of (b.past-size p s x m h) e = absurd (omega arith)
  nine-of (b.no_output h w x n) e = absurd (omega arith)
  nine-of (b.overlaps o n) e = absurd (omega arith)
  nine-of (b.full o s f) e = absurd (omega arith)

  pub ten-of : {r i number place second : ℕ} → Why g r i number place second → number ≡ 10 → Ten g r i
  ten-of (b.bank-0 p h c) e = absurd (omega arith)
  ten-of (b.past-size {b = c} {p} {e = x} {m} {known = k} h s y z l) e = (h, (c, p, k, x, m, s, y, z, l))
  ten-of (b.no_output h w x n) e = absurd (omega arith)
  ten-of (b.overlaps o n) e = absurd (omega arith)
  ten-of (b.full o s f) e = absurd (omega arith)

  pub eleven-of : {r i number place second : ℕ} → Why g r i number place second → number ≡ 11 → Eleven g r i
  eleven-of (b.bank-0 p h c) e = absurd (omega arith)
  eleven-of (b.past-size p s x m h) e = absurd (omega arith)
  eleven-of (b.no_output {b = c} h w x n) e = (h, w, (c, x, n))
  eleven-of (b.overlaps o n) e = absurd (omega arith)
  eleven-of (b.full o s f) e = absurd (omega arith)

  pub refuses-9 : {r i : ℕ} → Nine g r i → Why g r i 9 i 0
  refuses-9 t = b.bank-0 t.0 t.1 t.2

  pub refuses-10 : {r i : ℕ} → Ten g r i → Why g r i 10 i 0
  refuses-10 t = let x = t.1 in b.past-size t.0 x.5 x.6 x.7 x.8

  pub refuses-11 : {r i : ℕ} → Eleven g r i → Why g r i 11 i 0
  refuses-11 t = b.no_output t.0 t.1 t.2.1 t.2.2

  pub refuses-13 : {r i : ℕ} → Thirteen g r i → Why g r i 13 i 0
  refuses-13 t = b.full t.4 t.5 t.6

  -- Where what comes before a number is not met, it is the lowest.
  pub lowest-of : {r i k : ℕ} → k ≤ 13 → (9 < k → Nine g r i → ⊥) → (10 < k → Ten g r i → ⊥) → (11 < k → Eleven g r i → ⊥)
      → (12 < k → (w : ℕ × ℕ) → Twelve g r i w → ⊥) → (number place second : ℕ) → Why g r i number place second → k ≤ number
  lowest-of {r} {i} {k} most n9 n10 n11 n12 number place second w = by w
    where
      by : {number place second : ℕ} → Why g r i number place second → k ≤ number
      by (b.bank-0 p h c) = ⊎_elim (λ (l : k ≤ 9). l) (λ (l : 9 < k). absurd (n9 l (p, h, c))) (le-or-lt k 9)
      by (b.past-size {b = c} {p} {e = x} {m} {known} h s y z past) =
          ⊎_elim (λ (l : k ≤ 10). l) (λ (l : 10 < k). absurd (n10 l (h, (c, p, known, x, m, s, y, z, past)))) (le-or-lt k 10)
      by (b.no_output {b = c} h w x n) = ⊎_elim (λ (l : k ≤ 11). l) (λ (l : 11 < k). absurd (n11 l (h, w, (c, x, n)))) (le-or-lt k 11)
      by (b.overlaps {x} {s = m} {y} {t = n} o v) = ⊎_elim (λ (l : k ≤ 12). l) (λ (l : 12 < k). absurd (n12 l (y, n) (x, m, o, v))) (le-or-lt k 12)
      by (b.full o s f) = most

  -- every number is one of 9 to 13
  pub nine-to-13 : {r i number place second : ℕ} → Why g r i number place second → (9 ≤ number) × (number ≤ 13)
  nine-to-13 (b.bank-0 p h c) = (omega arith, omega arith)
  nine-to-13 (b.past-size p s x m h) = (omega arith, omega arith)
  nine-to-13 (b.no_output h w x n) = (omega arith, omega arith)
  nine-to-13 (b.overlaps o n) = (omega arith, omega arith)
  nine-to-13 (b.full o s f) = (omega arith, omega arith)

  -- ---- an offer that overlaps

  pub names-overlaps : {r i y m z l : ℕ} → Names g r i y m z l → Overlaps g r i y m
  names-overlaps (b.above s h l c) = ground.stored s c
  names-overlaps (b.below s h l c n) = ground.stored s c
  names-overlaps (b.mark s h l m n) = ground.marked s h l

  -- no two of the intervals stored before node i share a bit
  abbrev Separate : (r i : ℕ) → Type 0
  Separate r i = (y n z l : ℕ) → Interval g r i y n → Interval g r i z l → y < z + l → z < y + n → (y ≡ z) × (n ≡ l)

  interval-some : {r i y n : ℕ} → Interval g r i y n → 0 < n
  interval-some (b.interval h o p) = p

  module _ (r i : ℕ) (sep : Separate r i) (x m : ℕ) (none : (y n : ℕ) → Names g r i x m y n → ⊥) where
    none_above : (z l : ℕ) → Interval g r i z l → x ≤ z → Clash g x m z l → ⊥
    none_above z l s h c = none_at_all (λ y. (x ≤ y) × ((n : ℕ) × Interval g r i y n)) first z (h, (l, s))
      where
        hits : {y n : ℕ} → Clash g x m z l → Interval g r i y n → x ≤ y → y ≤ z → Clash g x m y n
        hits (b.bits p q a d) t low le = b.bits p (interval-some t) (omega (arith, interval-some t)) (omega arith)
        hits (b.inside p q a d) t low le = absurd (omega arith)

        first : (y : ℕ) → First (λ y. (x ≤ y) × ((n : ℕ) × Interval g r i y n)) y → ⊥
        first y f =
            let t = f.so in
            none y t.1.0 (b.above t.1.1 t.0 (λ v k u low. f.none_below v (low, (k, u))) (hits c t.1.1 t.0 (f.none_below z (h, (l, s)))))

    -- an interval that starts so many bits and one more below the offer
    abbrev Below : ℕ → Type 0
    Below d = (y : ℕ) × (y + suc d ≡ x) × ((n : ℕ) × Interval g r i y n)

    none_below : (z l : ℕ) → Interval g r i z l → z < x → Clash g x m z l → ⊥
    none_below z l s h c = none_at_all Below first (x - suc z) (z, omega arith, (l, s))
      where
        reaches : Clash g x m z l → x < z + l
        reaches (b.bits p q a d) = a
        reaches (b.inside p q a d) = d

        first : (d : ℕ) → First Below d → ⊥
        first d f =
            let (y, e, (n, t)) = f.so in
            let highest : (v k : ℕ) → Interval g r i v k → v < x → v ≤ y =
            λ v k u low. (let q = f.none_below (x - suc v) (v, omega arith, (k, u)) in omega arith) in
            let low = highest z l s h in
            let far = reaches c in
            let some = interval-some t in
            let same = sep z l y n s t (omega arith) (omega arith) in
            none y n (b.below t (omega arith) highest
            (subst (λ (k : ℕ). Clash g x m y k) same.1 (subst (λ (v : ℕ). Clash g x m v l) same.0 c)) none_above)

    none-clashes : (z l : ℕ) → Interval g r i z l → Clash g x m z l → ⊥
    none-clashes z l s c = ⊎_elim (λ le. none_above z l s le c) (λ lt. none_below z l s lt c) (le-or-lt x z)

    none-crossed : {y : ℕ} → Mark g r i y → x < y → y < x + m → ⊥
    none-crossed {y} k low high = none_at_all (λ z. Mark g r i z × (x < z)) first y (k, low)
      where
        first : (z : ℕ) → First (λ z. Mark g r i z × (x < z)) z → ⊥
        first z f =
            let t = f.so in
            let le = f.none_below y (k, low) in
            none z 0 (b.mark t.0 t.1 (omega arith) (λ v u l. f.none_below v (u, l)) none-clashes)

    named : Overlaps g r i x m → ⊥
    named (ground.stored {y} {n} s c) = none-clashes y n s c
    named (ground.marked k low high) = none-crossed k low high

  abbrev Apart : (r i : ℕ) → Type 0
  Apart r i = (j x m : ℕ) → j < i → Offer g r j x m → Overlaps g r j x m → ⊥

  separate : (r i : ℕ) → Apart r i → Separate r i
  separate r i apart y n z l (b.interval {j} h o p) (b.interval {j = k} h' o' p') low high =
      three g j k
      (λ lt. absurd (apart k z l h' o' (ground.stored (b.interval lt o p) (b.bits p' p high low))))
      (λ e. offer-one g o (subst (λ (v : ℕ). Offer g r v z l) (sym e) o'))
      (λ gt. absurd (apart j y n h o (ground.stored (b.interval gt o' p') (b.bits p p' low high))))

  -- No offer of the nodes before the first that is refused overlaps.
  pub none-overlaps : (r i : ℕ) → ((j : ℕ) → j < i → Refuses g r j → ⊥) → Apart r i
  none-overlaps r zero clear j x m lt o v = absurd (omega arith)
  none-overlaps r (suc i) clear j x m lt o v =
      let before = none-overlaps r i (λ k h. clear k (omega arith)) in
      three g j i
      (λ low. before j x m low o v)
      (λ e.
      named r j (subst (Separate r) (sym e) (separate r i before)) x m (λ y n w. clear j lt (12, y, n, b.overlaps o w)) v)
      (λ high. absurd (omega arith))
