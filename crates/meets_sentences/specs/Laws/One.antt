-- The sentences of a build leave one walk: a node stands in one bank, and before each node each bank is at one position, known or not, with one
-- sum of bits and of whole units lost. From the sentences alone.
use Rattle.std.specs.Prelude.{◌≡◌, refl, Bool, true, false, ◌⊎◌, ℕ, suc, ◌+◌, ◌/◌, ◌≤◌, ◌<◌, get_or}
use Rattle.std.proofs.Common.{sym, ap, ap₂, ◌∙◌, inl, inr, ⊎_elim, arith}
use Rattle.sort.specs.Laws.Sorted.{le-or-lt}
use Rattle.std.proofs.Math.Nat.{zero-div}
use Rattle.iter.specs.declared.Lost.{Lost}
use Rattle.says.specs.Build as b
use Rattle.says.specs.Build.{Given, losing, In, Number, Distance, Lead, Advance, Known, Loses, Standing, BankAt, Sees, Reads, Offer, StoredCount}
use Rattle.says.specs.Build.{Inherited}
use Rattle.says.specs.Build.{Extent, OffsetWord, IsSpan, Spans}

-- sums with a skip of no bits
pub loses-none : (u : ℕ) (s : Lost) → losing (s.bits + 0) (s.units + 0 / u) ≡ s
loses-none u s =
    let bits : s.bits + 0 ≡ s.bits = omega arith in
    let units : s.units + 0 / u ≡ s.units = omega (arith, zero-div u) in
    rw (bits, units)

module _ (g : Given) where
  pub in_one : {i x y : ℕ} → In g i x → In g i y → x ≡ y
  in_one (b.switched e) (b.switched f) = refl
  in_one (b.switched e) (b.first n) = absurd (n e)
  in_one (b.switched e) (b.same n x) = absurd (n e)
  in_one (b.first n) (b.switched f) = absurd (n f)
  in_one (b.first n) (b.first m) = refl
  in_one (b.same n x) (b.switched f) = absurd (n f)
  in_one (b.same n x) (b.same m y) = in_one x y

  pub number-one : {r i x y : ℕ} → Number g r i x → Number g r i y → x ≡ y
  number-one (b.first e) (b.first f) = refl
  number-one (b.first e) (b.own n) = absurd (n e)
  number-one (b.own n) (b.first f) = absurd (n f)
  number-one (b.own n) (b.own m) = refl

  pub distance-one : {c p a d e : ℕ} → Distance g c p a d → Distance g c p a e → d ≡ e
  distance-one b.to-zero b.to-zero = refl
  distance-one b.to-zero (b.next h m l) = absurd (omega arith)
  distance-one (b.next h m l) b.to-zero = absurd (omega arith)
  distance-one (b.next {a} {d} h m l) (b.next {d = e} k n o) = omega (arith, l e n, o d m)

  pub lead-one : {i c p x y : ℕ} → Lead g i c p x → Lead g i c p y → x ≡ y
  lead-one {i} {c} {p} (b.symbol {a} k o h d) (b.symbol {a = a'} k' o' h' d') =
      let same : a' ≡ a = omega (arith, h.1, h'.1) in
      distance-one d (rw same at d')
  lead-one (b.symbol k o h d) (b.unaligned n) = absurd (n (k, o, h.0))
  lead-one (b.unaligned n) (b.symbol k o h d) = absurd (n (k, o, h.0))
  lead-one (b.unaligned n) (b.unaligned m) = refl

  neither : {k : ℕ} → (k ≤ 3) ⊎ (k ≡ 10) → 4 ≤ k → k ≤ 9 → ⊥
  neither e h l = ⊎_elim (λ x. omega arith) (λ x. omega arith) e

  pub advance-one : {r i c p x y : ℕ} → Advance g r i c p x → Advance g r i c p y → x ≡ y
  advance-one (b.stays e) (b.stays f) = refl
  advance-one (b.stays e) (b.adds h l n) = absurd (neither e h (omega arith))
  advance-one (b.stays e) (b.aligns k n d) = absurd (neither e (omega arith) (omega arith))
  advance-one (b.stays e) (b.sets k n) = absurd (neither e (omega arith) (omega arith))
  advance-one (b.adds h l n) (b.stays f) = absurd (neither f h (omega arith))
  advance-one (b.adds h l n) (b.adds h' l' n') = omega (arith, number-one n n')
  advance-one (b.adds h l n) (b.aligns k n' d) = absurd (omega arith)
  advance-one (b.adds h l n) (b.sets k n') = absurd (omega arith)
  advance-one (b.aligns k n d) (b.stays f) = absurd (neither f (omega arith) (omega arith))
  advance-one (b.aligns k n d) (b.adds h l n') = absurd (omega arith)
  advance-one (b.aligns {v = m} {d = d} k n x) (b.aligns {v = m'} {d = e} k' n' y) =
      let same : m' ≡ m = sym (number-one n n') in
      omega (arith, distance-one x (rw same at y))
  advance-one (b.aligns k n d) (b.sets k' n') = absurd (omega arith)
  advance-one (b.sets k n) (b.stays f) = absurd (neither f (omega arith) (omega arith))
  advance-one (b.sets k n) (b.adds h l n') = absurd (omega arith)
  advance-one (b.sets k n) (b.aligns k' n' d) = absurd (omega arith)
  advance-one (b.sets k n) (b.sets k' n') = number-one n n'

  untouched : {k : ℕ} → (k ≤ 3) ⊎ ((k ≡ 5) ⊎ (k ≡ 10)) → 4 ≤ k → k ≤ 9 → (k ≡ 5 → ⊥) → ⊥
  untouched e h l n = ⊎_elim (λ x. omega arith) (λ x. ⊎_elim (λ f. n f) (λ t. omega arith) x) e

  known-one : {r i : ℕ} {k x y : Bool} → Known g r i k x → Known g r i k y → x ≡ y
  known-one (b.left e) (b.left f) = refl
  known-one (b.left e) (b.kept h l n z) = refl
  known-one (b.left e) (b.made k z) = absurd (untouched e (omega arith) (omega arith) (λ f. omega arith))
  known-one (b.left e) (b.unmade h l n z) = absurd (untouched e h l n)
  known-one (b.kept h l n z) (b.left f) = refl
  known-one (b.kept h l n z) (b.kept h' l' n' z') = refl
  known-one (b.kept h l n z) (b.made k z') = absurd (omega arith)
  known-one (b.kept h l n z) (b.unmade h' l' n' z') = absurd (z' z)
  known-one (b.made k z) (b.left f) = absurd (untouched f (omega arith) (omega arith) (λ f. omega arith))
  known-one (b.made k z) (b.kept h l n z') = absurd (omega arith)
  known-one (b.made k z) (b.made k' z') = refl
  known-one (b.made k z) (b.unmade h l n z') = absurd (z' z)
  known-one (b.unmade h l n z) (b.left f) = absurd (untouched f h l n)
  known-one (b.unmade h l n z) (b.kept h' l' n' z') = absurd (z z')
  known-one (b.unmade h l n z) (b.made k z') = absurd (z z')
  known-one (b.unmade h l n z) (b.unmade h' l' n' z') = refl

  loses-one : {i lead p q x y : ℕ} → Loses g i lead p q x → Loses g i lead p q y → x ≡ y
  loses-one (b.by-align e d) (b.by-align e' d') = omega arith
  loses-one (b.by-align e d) (b.by-lead o) = absurd (o e)
  loses-one (b.by-lead o) (b.by-align e d) = absurd (o e)
  loses-one (b.by-lead o) (b.by-lead o') = refl

  -- Before each node each bank is at one position, known or not, with one sum of bits and one of whole units lost.
  pub at_one : {r i c : ℕ} {at at' : Standing} → BankAt g r i c at → BankAt g r i c at'
      → (at.position ≡ at'.position) × (at.known ≡ at'.known) × (at.lost ≡ at'.lost)
  at_one b.begins b.begins = (refl, refl, refl)
  at_one (b.keeps x n) (b.keeps y m) = at_one x y
  at_one (b.keeps x n) (b.moves y h l le adv low kn los sum) = absurd (n h)
  at_one (b.moves x h l le adv low kn los sum) (b.keeps y n) = absurd (n h)
  at_one {c = c} (b.moves {lead = lead} {d = d} {at = at} {new = new} x h l le adv low kn los sum)
      (b.moves {lead = lead'} {d = d'} {at = at'} {new = new'} y h' l' le' adv' low' kn' los' sum') =
      let e = at_one x y in
      let same : at'.position ≡ at.position = sym e.0 in
      let leads : lead ≡ lead' = lead-one l (rw same at l') in
      let seen : at'.position + lead' ≡ at.position + lead = omega arith in
      let ends : new.position ≡ new'.position = advance-one adv (rw seen at adv') in
      let known = known-one kn (rw (← e.1) at kn') in
      let skips : d ≡ d' = loses-one los (rw (seen, ← leads, ← ends) at los') in
      (ends, known, sum ∙ ap₂ (λ (s : Lost) (k : ℕ). losing (s.bits + k) (s.units + k / b.unit g c)) e.2 skips ∙ sym sum')

  pub sees-one : {r i c c' p p' : ℕ} {k k' : Bool} → Sees g r i c p k → Sees g r i c' p' k' → (c ≡ c') × (p ≡ p') × (k ≡ k')
  sees-one (b.sees {lead = d} {at = at} x h l le) (b.sees {lead = d'} {at = at'} y h' l' le') =
      let bank = in_one h' h in
      let e = at_one x (rw bank at y) in
      let lead = lead-one l (rw (bank, sym e.0) at l') in
      (sym bank, omega (arith, e.0, lead), e.1)

  pub reads-one : {n r r' : ℕ} → Reads g n r → Reads g n r' → r ≡ r'
  reads-one (b.own e h) (b.own f k) = omega arith
  reads-one (b.own e h) (b.last_row l f) = absurd (omega arith)
  reads-one (b.last_row l e) (b.own f k) = absurd (omega arith)
  reads-one (b.last_row l e) (b.last_row m f) = omega arith

  pub offer-one : {r i x m y n : ℕ} → Offer g r i x m → Offer g r i y n → (x ≡ y) × (m ≡ n)
  offer-one (b.offer {b = c} {p = p} {o = o} lt h l s f n) (b.offer {b = c'} {p = p'} {o = o'} lt' h' l' s' f' n') =
      let e = sees-one s s' in
      let same : o' ≡ o = f'.1 ∙ ap (λ (x : ℕ). get_or g.bank_offsets x 0) (sym e.0) ∙ sym f.1 in
      (omega (arith, e.1), number-one n n')

  pub extent-one : {r i x y : ℕ} → Extent g r i x → Extent g r i y → x ≡ y
  extent-one (b.label e) (b.label f) = refl
  extent-one (b.label e) (b.item n m) = absurd (n e)
  extent-one (b.item n m) (b.label f) = absurd (n f)
  extent-one (b.item n m) (b.item n' m') = number-one m m'

  pub word-one : {c p x y : ℕ} → OffsetWord g c p x → OffsetWord g c p y → x ≡ y
  word-one (b.at f) (b.at h) = omega (arith, f.1, h.1)
  word-one (b.at f) (b.nowhere n) = absurd (n f.0)
  word-one (b.nowhere n) (b.at f) = absurd (n f.0)
  word-one (b.nowhere n) (b.nowhere m) = refl

  pub spans-one : {i x y : ℕ} → Spans g i x → Spans g i y → x ≡ y
  spans-one b.before-all b.before-all = refl
  spans-one (b.more s h) (b.more t k) = ap suc (spans-one s t)
  spans-one (b.more s h) (b.no_span t n) = absurd (n h)
  spans-one (b.no_span s n) (b.more t h) = absurd (n h)
  spans-one (b.no_span s n) (b.no_span t m) = spans-one s t

  pub three : (m n : ℕ) {X : Type 0} → (m < n → X) → (m ≡ n → X) → (n < m → X) → X
  three m n f h k = ⊎_elim (λ le. ⊎_elim (λ ge. h (omega arith)) (λ lt. f lt) (le-or-lt n m)) k (le-or-lt m n)

  pub held_one : {r i a b c d : ℕ} → StoredCount g r i a b → StoredCount g r i c d → (a ≡ c) × (b ≡ d)
  held_one b.at_first b.at_first = (refl, refl)
  held_one (b.more h o s) (b.more k p t) = let e = held_one h k in (ap suc e.0, e.1)
  held_one (b.more h o s) (b.marks k p) = absurd (omega (arith, (offer-one o p).1))
  held_one (b.more h o s) (b.not-offered k n) = absurd (n _ _ o)
  held_one (b.marks h o) (b.more k p t) = absurd (omega (arith, (offer-one o p).1))
  held_one (b.marks h o) (b.marks k p) = let e = held_one h k in (e.0, ap suc e.1)
  held_one (b.marks h o) (b.not-offered k n) = absurd (n _ _ o)
  held_one (b.not-offered h n) (b.more k p t) = absurd (n _ _ p)
  held_one (b.not-offered h n) (b.marks k p) = absurd (n _ _ p)
  held_one (b.not-offered h n) (b.not-offered k m) = held_one h k

  -- the fill's length
  pub inherited-one : {c x y : ℕ} → Inherited g c x → Inherited g c y → x ≡ y
  inherited-one b.no-bank-yet b.no-bank-yet = refl
  inherited-one (b.raised i (f, s, o) h l) (b.raised i' (f', s', o') h' l') = omega (arith, s.1, s'.1, o.1, o'.1)
  inherited-one (b.raised i (f, s, o) h l) (b.reached i' (f', s', o') h' l') = absurd (omega (arith, inherited-one i i', s.1, s'.1, o.1, o'.1))
  inherited-one (b.raised i (f, s, o) h l) (b.not-filled i' n) = absurd (n _ _ (f, s, o))
  inherited-one (b.reached i (f, s, o) h l) (b.raised i' (f', s', o') h' l') = absurd (omega (arith, inherited-one i i', s.1, s'.1, o.1, o'.1))
  inherited-one (b.reached i (f, s, o) h l) (b.reached i' (f', s', o') h' l') = inherited-one i i'
  inherited-one (b.reached i (f, s, o) h l) (b.not-filled i' n) = absurd (n _ _ (f, s, o))
  inherited-one (b.not-filled i n) (b.raised i' (f, s, o) h l) = absurd (n _ _ (f, s, o))
  inherited-one (b.not-filled i n) (b.reached i' (f, s, o) h l) = absurd (n _ _ (f, s, o))
  inherited-one (b.not-filled i n) (b.not-filled i' n') = inherited-one i i'
