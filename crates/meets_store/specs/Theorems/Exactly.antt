-- Document 01's column "Given exactly when", of the numbers that a store call gives: each follows from the sentences alone.
use Rattle.std.specs.Prelude.{◌≡◌, refl, ◌↔◌, ℕ}
use Rattle.std.proofs.Common.{arith}
use Rattle.overlap_checker.specs.declared.Entry.{Entry}
use Rattle.says.specs.Words.{refused, passed, First}
use Rattle.says.specs.Store as w
use Rattle.says.specs.Words.{Not}
use Rattle.says.specs.Store.{Store, Outcome, TooMany, BadEntry, BadMark, PastLimits, Overlaps, Full, OfferSays}
use Rattle.meets_store.specs.Laws.Firsts.{none_so}

module _ (s : Store) where
  -- a store "with over 512 entries, or entries past an offer's limits, empty, not ascending or sharing a bit"; and so its marks
  pub data BadStore : Type 0 where
    many : TooMany s → BadStore
    entry : {i : ℕ} → BadEntry s i → BadStore
    mark : {i : ℕ} → BadMark s i → BadStore

  module _ (e : Entry) where
    -- the number that is given, and why
    data Way : ℕ → Type 0 where
      bad : BadStore → Way 15
      malformed : Not BadStore → PastLimits s e → Way 4
      overlaps : Not BadStore → Not (PastLimits s e) → Overlaps s e → Way 12
      full : Not BadStore → Not (PastLimits s e) → Not (Overlaps s e) → Full s e → Way 13
      kept : Not BadStore → Not (PastLimits s e) → Not (Overlaps s e) → Not (Full s e) → Way 0

    sound : ((x : Unit {0}) → TooMany s → ⊥) → ((i : ℕ) → First (BadEntry s) i → ⊥) → ((i : ℕ) → First (BadMark s) i → ⊥) → Not BadStore
    sound n o p (many m) = n tt m
    sound n o p (entry {i} b) = none_so (BadEntry s) o i b
    sound n o p (mark {i} b) = none_so (BadMark s) p i b

    way : {y : Outcome} → OfferSays s e y → Way y.answer.refusal
    way (refused x m) = bad (many m)
    way (passed n (refused i f)) = bad (entry f.so)
    way (passed n (passed o (refused i f))) = bad (mark f.so)
    way (passed n (passed o (passed p (refused x m)))) = malformed (sound n o p) m
    way (passed n (passed o (passed p (passed q (w.overlaps x m))))) = overlaps (sound n o p) (q tt) x
    way (passed n (passed o (passed p (passed q (w.full x m))))) = full (sound n o p) (q tt) x m
    way (passed n (passed o (passed p (passed q (w.stored x m k i f g))))) = kept (sound n o p) (q tt) x m
    way (passed n (passed o (passed p (passed q (w.marked x m k i f))))) = kept (sound n o p) (q tt) x m

    -- one number comes
    way-one : {m n : ℕ} → Way m → Way n → m ≡ n
    way-one (bad b) (bad c) = refl
    way-one (bad b) (malformed n p) = absurd (n b)
    way-one (bad b) (overlaps n p o) = absurd (n b)
    way-one (bad b) (full n p o f) = absurd (n b)
    way-one (bad b) (kept n p o f) = absurd (n b)
    way-one (malformed n p) (bad b) = absurd (n b)
    way-one (malformed n p) (malformed m q) = refl
    way-one (malformed n p) (overlaps m q o) = absurd (q p)
    way-one (malformed n p) (full m q o f) = absurd (q p)
    way-one (malformed n p) (kept m q o f) = absurd (q p)
    way-one (overlaps n p o) (bad b) = absurd (n b)
    way-one (overlaps n p o) (malformed m q) = absurd (p q)
    way-one (overlaps n p o) (overlaps m q r) = refl
    way-one (overlaps n p o) (full m q r f) = absurd (r o)
    way-one (overlaps n p o) (kept m q r f) = absurd (r o)
    way-one (full n p o f) (bad b) = absurd (n b)
    way-one (full n p o f) (malformed m q) = absurd (p q)
    way-one (full n p o f) (overlaps m q r) = absurd (o r)
    way-one (full n p o f) (full m q r g) = refl
    way-one (full n p o f) (kept m q r g) = absurd (g f)
    way-one (kept n p o f) (bad b) = absurd (n b)
    way-one (kept n p o f) (malformed m q) = absurd (p q)
    way-one (kept n p o f) (overlaps m q r) = absurd (o r)
    way-one (kept n p o f) (full m q r g) = absurd (f g)
    way-one (kept n p o f) (kept m q r g) = refl

    -- and says why
    why-15 : {n : ℕ} → Way n → n ≡ 15 → BadStore
    why-15 (bad b) is = b
    why-15 (malformed n p) is = absurd (omega arith)
    why-15 (overlaps n p o) is = absurd (omega arith)
    why-15 (full n p o f) is = absurd (omega arith)
    why-15 (kept n p o f) is = absurd (omega arith)

    why-4 : {n : ℕ} → Way n → n ≡ 4 → Not BadStore × PastLimits s e
    why-4 (bad b) is = absurd (omega arith)
    why-4 (malformed n p) is = (n, p)
    why-4 (overlaps n p o) is = absurd (omega arith)
    why-4 (full n p o f) is = absurd (omega arith)
    why-4 (kept n p o f) is = absurd (omega arith)

    why-12 : {n : ℕ} → Way n → n ≡ 12 → Not BadStore × Not (PastLimits s e) × Overlaps s e
    why-12 (bad b) is = absurd (omega arith)
    why-12 (malformed n p) is = absurd (omega arith)
    why-12 (overlaps n p o) is = (n, p, o)
    why-12 (full n p o f) is = absurd (omega arith)
    why-12 (kept n p o f) is = absurd (omega arith)

    why-13 : {n : ℕ} → Way n → n ≡ 13 → Not BadStore × Not (PastLimits s e) × Not (Overlaps s e) × Full s e
    why-13 (bad b) is = absurd (omega arith)
    why-13 (malformed n p) is = absurd (omega arith)
    why-13 (overlaps n p o) is = absurd (omega arith)
    why-13 (full n p o f) is = (n, p, o, f)
    why-13 (kept n p o f) is = absurd (omega arith)

    why-0 : {n : ℕ} → Way n → n ≡ 0 → Not BadStore × Not (PastLimits s e) × Not (Overlaps s e) × Not (Full s e)
    why-0 (bad b) is = absurd (omega arith)
    why-0 (malformed n p) is = absurd (omega arith)
    why-0 (overlaps n p o) is = absurd (omega arith)
    why-0 (full n p o f) is = absurd (omega arith)
    why-0 (kept n p o f) is = (n, p, o, f)

    module _ {y : Outcome} (says : OfferSays s e y) where
      -- 15: "a store is given with over 512 entries, or ..", whatever the offer
      pub fifteen-exactly : (y.answer.refusal ≡ 15) ↔ BadStore
      fifteen-exactly = (why-15 (way says), (λ b. way-one (way says) (bad b)))

      -- 4: ".. a call's number is malformed"
      pub four-exactly : (y.answer.refusal ≡ 4) ↔ (Not BadStore × PastLimits s e)
      four-exactly = (why-4 (way says), (λ h. way-one (way says) (malformed h.0 h.1)))

      -- 12: "a placement overlaps"
      pub twelve-exactly : (y.answer.refusal ≡ 12) ↔ (Not BadStore × Not (PastLimits s e) × Overlaps s e)
      twelve-exactly = (why-12 (way says), (λ h. way-one (way says) (overlaps h.0 h.1 h.2)))

      -- 13: "the store holds 512 and the offer, of nonzero size, shares no bit"; "also when 512 marks are kept and another is acceptable"
      pub thirteen-exactly : (y.answer.refusal ≡ 13) ↔ (Not BadStore × Not (PastLimits s e) × Not (Overlaps s e) × Full s e)
      thirteen-exactly = (why-13 (way says), (λ h. way-one (way says) (full h.0 h.1 h.2 h.3)))

      -- and otherwise the offer is accepted
      pub accepted-exactly : (y.answer.refusal ≡ 0) ↔ (Not BadStore × Not (PastLimits s e) × Not (Overlaps s e) × Not (Full s e))
      accepted-exactly = (why-0 (way says), (λ h. way-one (way says) (kept h.0 h.1 h.2 h.3)))
