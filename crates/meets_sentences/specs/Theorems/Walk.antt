-- Three of document 01's "Errors that look right" (one neighbour: meets_store/Theorems/Demand3), each turned away by the sentences, and other rules of the walk
-- and the passes as one would ask for them: from the sentences alone.
use Rattle.std.specs.Prelude.{◌≡◌, refl, Bool, true, false, ◌⊎◌, ℕ, zero, suc, ◌+◌, ◌%◌, ◌≤◌, ◌<◌, get_or}
use Rattle.std.proofs.Common.{sym, ap, subst, ◌∙◌, inl, inr, ⊎_elim, arith}
use Rattle.sort.specs.Laws.Sorted.{le-or-lt}
use Rattle.iter.specs.declared.Lost.{Lost}
use Rattle.says.specs.Build as b
use Rattle.says.specs.Build.{Given, Lent, Outcome, banks, unit, nodes, kind, operand, state, Size, Align, Number, IsWritten, In}
use Rattle.says.specs.Words.{Not}
use Rattle.says.specs.Build.{Distance, Lead}
use Rattle.says.specs.Build.{Advance, Known, Standing, BankAt, Sees, Reads, Unresolved, LastPass, Offer, Why}
use Rattle.meets_sentences.specs.Laws.Why.{nine-of, eleven-of}
use Rattle.meets_sentences.specs.Laws.One.{in_one, number-one, lead-one, advance-one, at_one}
use Rattle.meets_sentences.specs.Theorems.Outcomes.{AcceptedSo}

module _ (g : Given) where
  -- ---- "Adding an item's size to the bank switched to, not the one it stood in."

  -- A bank that a node does not stand in is where it was, known as it was.
  pub other-banks-stay : {r i c : ℕ} {at new : Standing} → Not (In g i c) → BankAt g r i c at → BankAt g r (suc i) c new
      → (new.position ≡ at.position) × (new.known ≡ at.known)
  other-banks-stay out x (b.keeps y n) = let e = at_one g y x in (e.0, e.1)
  other-banks-stay out x (b.moves y h l le adv low kn los sum) = absurd (out h)

  no_lead : {i c p d : ℕ} → 4 ≤ kind g i → Lead g i c p d → d ≡ 0
  no_lead h (b.symbol k o a d) = absurd (⊎_elim (λ e. omega arith) (λ e. omega arith) k)
  no_lead h (b.unaligned n) = refl

  -- "4 to 7 add their number" to the bank that they stand in.
  pub items-advance-their-own-bank : {r i c v : ℕ} {at new : Standing} → 4 ≤ kind g i → kind g i ≤ 7 → In g i c → Number g r i v
      → BankAt g r i c at → BankAt g r (suc i) c new → new.position ≡ at.position + v
  items-advance-their-own-bank h l in_c num x (b.keeps y m) = absurd (m in_c)
  items-advance-their-own-bank h l in_c num x (b.moves {lead = d} y in-d lead le adv low kn los sum) =
      let e = at_one g y x in
      let none : d ≡ 0 = no_lead h lead in
      omega (arith, e.0, advance-one g adv (b.adds h l num))

  -- "9 sets the position": to its number, wherever the bank was, and known exactly if its state is 0.
  pub addr-sets-the-position : {r i c v : ℕ} {at new : Standing} → kind g i ≡ 9 → In g i c → Number g r i v → BankAt g r i c at
      → BankAt g r (suc i) c new → new.position ≡ v
  addr-sets-the-position e in_c num x (b.keeps y m) = absurd (m in_c)
  addr-sets-the-position e in_c num x (b.moves y in-d lead le adv low kn los sum) = advance-one g adv (b.sets e num)

  pub addr-is-known-by-its-state : {r i c : ℕ} {at new : Standing} → kind g i ≡ 9 → In g i c → BankAt g r i c at → BankAt g r (suc i) c new
      → new.known ≡ true → state g r i ≡ 0
  addr-is-known-by-its-state e in_c x (b.keeps z m) is = absurd (m in_c)
  addr-is-known-by-its-state {r} {i} e in_c x (b.moves {at = was} z in-d lead le adv low kn los sum) is = by-known (subst (Known g r i was.known) is kn)
    where
      by-known : {k : Bool} → Known g r i k true → state g r i ≡ 0
      by-known (b.left h) = absurd (⊎_elim (λ x. omega arith) (λ x. ⊎_elim (λ y. omega arith) (λ y. omega arith) x) h)
      by-known (b.kept h l n z) = absurd (omega arith)
      by-known (b.made k z) = z

  -- ---- "Label alignment for labels only; constants of depth 0 move too."
  pub constants-of-depth-0-move-too : {r i c a d : ℕ} {at : Standing} → kind g i ≡ 3 → operand g i ≡ 0 → Align g c a → Distance g c at.position a d
      → BankAt g r i c at → In g i c → at.position + d ≤ 4294967295 → Sees g r i c (at.position + d) at.known
  constants-of-depth-0-move-too e z al dist x h le = b.sees x h (b.symbol (inr e) z al dist) le

  -- ---- "Reporting passes run as K.": below the limit one more pass runs
  pub one-more-pass-below-the-limit : (old : Lent) (o : Outcome) → AcceptedSo g old o → o.answer.k < g.limit → o.answer.passes ≡ o.answer.k + 1
  one-more-pass-below-the-limit old o a h = by a.last h
    where
      by : {k n : ℕ} → LastPass g k n → k < g.limit → n ≡ k + 1
      by (b.limit-zero e) l = refl
      by (b.below x y go r u) l = omega arith
      by (b.at-limit x go) l = absurd (omega arith)

  -- ---- states

  -- "A pass is unresolved if any state is 2": of every kind that reads its state, reserves, aligns, addrs and asserts too.
  pub state-2-unresolves : {n r i : ℕ} → i < nodes g → 3 ≤ kind g i → Reads g n r → state g r i ≡ 2 → Unresolved g n
  state-2-unresolves = b.by_state

  pub assert-unresolves : {n r i : ℕ} → i < nodes g → kind g i ≡ 10 → Reads g n r → state g r i ≡ 2 → Unresolved g n
  assert-unresolves h e reads s = state-2-unresolves h (omega arith) reads s

  -- ---- 9, 10 and 11

  -- "9 and 10 apply to .. reserves": one that ends past its bank's size meets 10,
  pub reserve-past-its-bank : {r i c p n m : ℕ} {k : Bool} → i < nodes g → kind g i ≡ 7 → Sees g r i c p k → Number g r i n → Size g c m
      → m < p + n → Why g r i 10 i 0
  reserve-past-its-bank h e s num size past = b.past-size (h, inr (omega arith, omega arith)) s (b.item (λ two. omega arith) num) size past

  -- and none meets 11.
  pub reserves-need-no-output : (r i : ℕ) → kind g i ≡ 7 → Not (Why g r i 11 i 0)
  reserves-need-no-output r i e t = omega (arith, (eleven-of g t refl).1.1)

  -- "bank 0 is used while other banks exist"; Ticket 13: "labels, written items and reserves in bank 0 are refused even when it is alone"
  pub bank-0-beside-others : (r i : ℕ) → i < nodes g → (kind g i ≡ 2) ⊎ ((4 ≤ kind g i) × (kind g i ≤ 7)) → In g i 0 → 1 < banks g → Why g r i 9 i 0
  bank-0-beside-others r i h k z more = b.bank-0 (h, k) z (inl more)

  pub bank-0-closed : (r i : ℕ) → i < nodes g → (kind g i ≡ 2) ⊎ ((4 ≤ kind g i) × (kind g i ≤ 7)) → In g i 0 → 1 ≤ g.closed → Why g r i 9 i 0
  bank-0-closed r i h k z closed = b.bank-0 (h, k) z (inr closed)

  pub bank-0-alone : (r i : ℕ) → banks g ≡ 1 → g.closed ≡ 0 → Not (Why g r i 9 i 0)
  bank-0-alone r i one zero-closed t = ⊎_elim (λ (h : 1 < banks g). omega arith) (λ (h : 1 ≤ g.closed). omega arith) (nine-of g t refl).2
