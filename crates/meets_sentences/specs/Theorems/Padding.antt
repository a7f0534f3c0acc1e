-- Ticket 2, "Padding figures", from the sentences alone: "The distance to alignment should come with the count of whole address units it skips (distance over
-- unit, rounded down), and each bank should carry the sum of bits lost to `align` and to label alignment in the last pass. An `addr` that moves the position is
-- not padding. Everything that uses the distance passes both on." What one node adds to a bank's sums, of bits and of whole units, and that the answer holds
-- the sums behind the last node.
use Rattle.std.specs.Prelude.{◌≡◌, refl, Bool, true, false, ◌⊎◌, ℕ, zero, suc, ◌+◌, ◌*◌, ◌/◌, ◌%◌, ◌≤◌, ◌<◌, length, get_or}
use Rattle.std.proofs.Common.{sym, ap, ap₂, subst, ◌∙◌, inl, inr, ⊎_elim, add-mul, div-mul-le_self, arith}
use Rattle.iter.specs.declared.Lost.{Lost}
use Rattle.says.specs.Build as b
use Rattle.says.specs.Build.{Given, Lent, Outcome, losing, unit, nodes, kind, operand, flag, In, Lead, Distance, Align, Number}
use Rattle.says.specs.Words.{Not}
use Rattle.says.specs.Build.{Standing, BankAt, Loses}
use Rattle.meets_sentences.specs.Laws.One.{loses-none, lead-one, at_one, number-one, distance-one, in_one}
use Rattle.meets_sentences.specs.Theorems.Outcomes.{AcceptedSo}

module _ (g : Given) where
  -- "a symbol (label or constant) of depth 0 in a bank with label alignment"
  abbrev pub AlignedSymbol : ℕ → ℕ → Type 0
  AlignedSymbol i c = ((kind g i ≡ 2) ⊎ (kind g i ≡ 3)) × (operand g i ≡ 0) × (flag g c / 4 % 2 ≡ 1)

  no_lead : {i c p d : ℕ} → Not (AlignedSymbol i c) → Lead g i c p d → d ≡ 0
  no_lead n (b.symbol k o h d) = absurd (n (k, o, h.0))
  no_lead n (b.unaligned m) = refl

  align-no-lead : {i c p d : ℕ} → kind g i ≡ 8 → Lead g i c p d → d ≡ 0
  align-no-lead e l = no_lead (λ s. ⊎_elim (λ k. omega arith) (λ k. omega arith) s.0) l

  loses-lead : {i lead p q d : ℕ} → Not (kind g i ≡ 8) → Loses g i lead p q d → d ≡ lead
  loses-lead n (b.by-align k e) = absurd (n k)
  loses-lead n (b.by-lead o) = refl

  -- sums with one skip more
  abbrev after : ℕ → Lost → ℕ → Lost
  after c s d = losing (s.bits + d) (s.units + d / unit g c)

  -- A bank that a node does not stand in keeps its sums.
  pub others-lose-nothing : {r i c : ℕ} {at new : Standing} → BankAt g r i c at → BankAt g r (suc i) c new → Not (In g i c) → new.lost ≡ at.lost
  others-lose-nothing x (b.keeps y n) out = (at_one g y x).2
  others-lose-nothing x (b.moves y h l le adv low kn los sum) out = absurd (out h)

  -- A node that is neither an `align` nor an aligned symbol adds nothing,
  pub nothing-else-loses : {r i c : ℕ} {at new : Standing} → Not (kind g i ≡ 8) → Not (AlignedSymbol i c) → BankAt g r i c at → BankAt g r (suc i) c new
      → new.lost ≡ at.lost
  nothing-else-loses n a x (b.keeps y m) = (at_one g y x).2
  nothing-else-loses {c = c} n a x (b.moves {at = was} y h l le adv low kn los sum) =
      sum ∙ ap (after c was.lost) (loses-lead n los ∙ no_lead a l) ∙ loses-none (unit g c) was.lost ∙ (at_one g y x).2

  -- so "an `addr` that moves the position is not padding",
  pub addr-is-not-padding : {r i c : ℕ} {at new : Standing} → kind g i ≡ 9 → BankAt g r i c at → BankAt g r (suc i) c new → new.lost ≡ at.lost
  addr-is-not-padding e x y = nothing-else-loses (λ k. omega arith) (λ s. ⊎_elim (λ k. omega arith) (λ k. omega arith) s.0) x y

  -- nor is a reserve, nor an item.
  pub items-are-not-padding : {r i c : ℕ} {at new : Standing} → 4 ≤ kind g i → kind g i ≤ 7 → BankAt g r i c at → BankAt g r (suc i) c new
      → new.lost ≡ at.lost
  items-are-not-padding h l x y = nothing-else-loses (λ k. omega arith) (λ s. ⊎_elim (λ k. omega arith) (λ k. omega arith) s.0) x y

  -- An `align` adds its distance, and the whole units in it; the distance is also what it moves the position by,
  pub align-loses-its-distance : {r i c v d : ℕ} {at new : Standing} → kind g i ≡ 8 → In g i c → BankAt g r i c at → BankAt g r (suc i) c new
      → Number g r i v → Distance g c at.position v d
      → (new.lost ≡ losing (at.lost.bits + d) (at.lost.units + d / unit g c)) × (new.position ≡ at.position + d)
  align-loses-its-distance e h x (b.keeps y m) n d = absurd (m h)
  align-loses-its-distance {r} {i} {c} {v} {d} {at} e h x (b.moves {lead = lead} {d = z} {at = was} {new = new} y h' l le adv low kn los sum) num dist =
      let same = at_one g y x in
      let none : lead ≡ 0 = align-no-lead e l in
      let seen : was.position + lead ≡ at.position = omega (arith, same.0) in
      let to : new.position ≡ at.position + d = moved (subst (λ (p : ℕ). b.Advance g r i c p new.position) seen adv) in
      let skip : z ≡ d = omega (arith, lost los) in
      (sum ∙ ap₂ (after c) same.2 skip, to)
    where
      lost : {lead p q z : ℕ} → Loses g i lead p q z → p + z ≡ q
      lost (b.by-align k s) = s
      lost (b.by-lead out) = absurd (out e)

      moved : {q : ℕ} → b.Advance g r i c at.position q → q ≡ at.position + d
      moved (b.stays out) = absurd (⊎_elim (λ k. omega arith) (λ k. omega arith) out)
      moved (b.adds low high m) = absurd (omega arith)
      moved (b.aligns {v = v'} {d = d'} k m dist') =
          let one : v' ≡ v = number-one g m num in
          omega (arith, distance-one g (subst (λ (y : ℕ). Distance g c at.position y d') one dist') dist)
      moved (b.sets k m) = absurd (omega arith)

  -- an aligned symbol the bits that it skips before it is seen, and the whole units in them.
  pub symbol-loses-its-lead : {r i c a d : ℕ} {at new : Standing} → AlignedSymbol i c → In g i c → BankAt g r i c at → BankAt g r (suc i) c new
      → Align g c a → Distance g c at.position a d → new.lost ≡ losing (at.lost.bits + d) (at.lost.units + d / unit g c)
  symbol-loses-its-lead sym-i h x (b.keeps y m) al dist = absurd (m h)
  symbol-loses-its-lead {r} {i} {c} {a} {d} sym-i h x (b.moves {lead = lead} y h' l le adv low kn los sum) al dist =
      let same = at_one g y x in
      let is : lead ≡ d = lead-one g (subst (λ (p : ℕ). Lead g i c p lead) same.0 l) (b.symbol sym-i.0 sym-i.1 al dist) in
      let not-align : Not (kind g i ≡ 8) = λ e. ⊎_elim (λ k. omega arith) (λ k. omega arith) sym-i.0 in
      sum ∙ ap₂ (after c) same.2 (loses-lead not-align los ∙ is)

  -- The whole units are within the bits: each skip's are rounded down by themselves.
  pub units-within-bits : {r i c : ℕ} {at : Standing} → BankAt g r i c at → at.lost.units * unit g c ≤ at.lost.bits
  units-within-bits b.begins = omega arith
  units-within-bits (b.keeps x n) = units-within-bits x
  units-within-bits {c = c} (b.moves {d = d} {at = was} x i l le adv low kn los sum) =
      rw sum (omega (arith, units-within-bits x, div-mul-le_self d (unit g c), add-mul was.lost.units (d / unit g c) (unit g c)))

  -- The answer of an accepted build has sixteen sums, each bank's behind the last node of the row of the last pass.
  pub padding-is-the-sum : (old : Lent) (o : Outcome) (a : AcceptedSo g old o) (c : ℕ) (at : Standing) → c < 16 → BankAt g a.row (nodes g) c at
      → get_or o.answer.padding c (losing 0 0) ≡ at.lost
  padding-is-the-sum old o a c at h x = let (new, y, e) = a.padding.1 c h in e ∙ (at_one g y x).2
