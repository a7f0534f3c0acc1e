-- Document 01's proved cases of the store, over the sentences: "store (0, 8), (8, 8), offer (7, 1): 12, names (0, 8)"; "store (0, 8), offers (0, 0)
-- accepted, then (4, 4): 12". Of any arrays that hold these, whatever stands behind them.
use Rattle.std.specs.Prelude.{◌≡◌, refl, ◌⊎◌, ℕ, zero, suc, ◌≤◌, ◌<◌}
use Rattle.std.proofs.Common.{inl, inr, ⊎_elim, arith}
use Rattle.overlap_checker.specs.declared.Entry.{Entry}
use Rattle.says.specs.Words.{refused, passed}
use Rattle.says.specs.Store as w
use Rattle.says.specs.Store.{Store, Outcome, start, size, mark, BadEntry, BadMark, Clash, Overlaps, Names, refusal}
use Rattle.says.specs.Store.{OfferSays}
use Rattle.says.specs.Offers.{handed}
use Rattle.meets_store.specs.Theorems.Decides.{offer-decides}

abbrev offer : ℕ → ℕ → Entry
offer position size = record { position = position; size = size }

-- ---- (0, 8), (8, 8) and no mark
pub record Two (s : Store) : Type 0 where
  pub count : s.count ≡ 2
  pub mark_count : s.mark_count ≡ 0
  pub first : (start s 0 ≡ 0) × (size s 0 ≡ 8)
  pub second : (start s 1 ≡ 8) × (size s 1 ≡ 8)

module _ (s : Store) (h : Two s) where
  at : (i : ℕ) → i < s.count → ((i ≡ 0) × (start s i ≡ 0) × (size s i ≡ 8)) ⊎ ((i ≡ 1) × (start s i ≡ 8) × (size s i ≡ 8))
  at zero m = inl (refl, h.first.0, h.first.1)
  at (suc zero) m = inr (refl, h.second.0, h.second.1)
  at (suc (suc i)) m = absurd (omega (arith, h.count))

  no-bad : (i : ℕ) → BadEntry s i → ⊥
  no-bad i (w.position_past m f) = ⊎_elim (λ p. omega (arith, p.1)) (λ p. omega (arith, p.1)) (at i m)
  no-bad i (w.size-past m f) = ⊎_elim (λ p. omega (arith, p.2)) (λ p. omega (arith, p.2)) (at i m)
  no-bad i (w.empty m f) = ⊎_elim (λ p. omega (arith, p.2)) (λ p. omega (arith, p.2)) (at i m)
  no-bad i (w.not-ascending {j} m k f) =
      ⊎_elim (λ p. omega (arith, p.0))
      (λ p. ⊎_elim (λ q. omega (arith, p.1, q.1)) (λ q. omega (arith, p.0, q.0)) (at j (omega arith))) (at i m)
  no-bad i (w.shares-bit {j} {bit} m k f g) =
      ⊎_elim (λ p. omega (arith, p.0))
      (λ p. ⊎_elim (λ q. omega (arith, p.1, q.1, q.2, f.0, g.1)) (λ q. omega (arith, p.0, q.0)) (at j (omega arith))) (at i m)

  no-mark : (i : ℕ) → BadMark s i → ⊥
  no-mark i (w.mark-past m f) = omega (arith, h.mark_count)
  no-mark i (w.out_of_order m k f) = omega (arith, h.mark_count)
  no-mark i (w.inside-interval m k f) = omega (arith, h.mark_count)

  abbrev seven : Entry
  seven = offer 7 1

  shares : Clash s seven 0
  shares = w.shared {bit = 7} (omega (arith, h.count)) (omega arith, omega arith) (omega (arith, h.first.0), omega (arith, h.first.0, h.first.1))

  names : Names s seven 0 8
  names =
      let own : Names s seven (start s 0) (size s 0) =
      w.one_below {i = 0} (omega (arith, h.first.0))
      (λ j m low. ⊎_elim (λ p. omega (arith, p.1, h.first.0)) (λ p. absurd (omega (arith, p.1))) (at j m))
      shares
      no_other in
      rw (h.first.0, h.first.1) at own
    where
      no_other : (j : ℕ) → 7 ≤ start s j → Clash s seven j → ⊥
      no_other j high (w.shared {bit} m p q) =
          ⊎_elim (λ k. omega (arith, k.1)) (λ k. omega (arith, k.1, p.1, q.0)) (at j m)
      no_other j high (w.inside m z p) = omega arith

  -- "store (0, 8), (8, 8), offer (7, 1): 12, names (0, 8)"
  pub seven-names-first : {y : Outcome} → OfferSays s (offer 7 1) y → y ≡ refusal s (offer 7 1) 12 0 8
  seven-names-first {y} says =
      offer-decides s seven y _ says
      (passed (λ x. ⊎_elim (λ m. omega (arith, h.count)) (λ m. omega (arith, h.mark_count)))
      (passed (λ i f. no-bad i f.so)
      (passed (λ i f. no-mark i f.so)
      (passed (λ x. ⊎_elim (λ m. omega arith) (λ m. omega arith))
      (w.overlaps (w.interval {i = 0} shares) names)))))

-- ---- (0, 8) and some marks, all at 0
pub record One (s : Store) (marks : ℕ) : Type 0 where
  pub count : s.count ≡ 1
  pub first : (start s 0 ≡ 0) × (size s 0 ≡ 8)
  pub mark_count : s.mark_count ≡ marks
  pub zeros : (i : ℕ) → i < marks → mark s i ≡ 0

module _ (s : Store) (marks : ℕ) (few : marks ≤ 1) (h : One s marks) where
  only : (i : ℕ) → i < s.count → (i ≡ 0) × (start s i ≡ 0) × (size s i ≡ 8)
  only zero m = (refl, h.first.0, h.first.1)
  only (suc i) m = absurd (omega (arith, h.count))

  none-bad : (i : ℕ) → BadEntry s i → ⊥
  none-bad i (w.position_past m f) = omega (arith, (only i m).1)
  none-bad i (w.size-past m f) = omega (arith, (only i m).2)
  none-bad i (w.empty m f) = omega (arith, (only i m).2)
  none-bad i (w.not-ascending m k f) = omega (arith, (only i m).0)
  none-bad i (w.shares-bit m k f g) = omega (arith, (only i m).0)

  marks-fine : (i : ℕ) → BadMark s i → ⊥
  marks-fine i (w.mark-past m f) = omega (arith, h.zeros i (omega (arith, h.mark_count)))
  marks-fine i (w.out_of_order {j} m k f) = omega (arith, h.zeros i (omega (arith, h.mark_count)))
  marks-fine i (w.inside-interval {j} m k f) = omega (arith, h.zeros i (omega (arith, h.mark_count)), f.0)

  -- (4, 4) is refused, and names (0, 8)
  pub four-refused : {y : Outcome} → OfferSays s (offer 4 4) y → y ≡ refusal s (offer 4 4) 12 0 8
  four-refused {y} says =
      offer-decides s (offer 4 4) y _ says
      (passed (λ x. ⊎_elim (λ m. omega (arith, h.count)) (λ m. omega (arith, h.mark_count)))
      (passed (λ i f. none-bad i f.so)
      (passed (λ i f. marks-fine i f.so)
      (passed (λ x. ⊎_elim (λ m. omega arith) (λ m. omega arith))
      (w.overlaps (w.interval {i = 0} clash) named)))))
    where
      clash : Clash s (offer 4 4) 0
      clash = w.shared {bit = 4} (omega (arith, h.count)) (omega arith, omega arith) (omega (arith, h.first.0), omega (arith, h.first.0, h.first.1))

      no_other : (j : ℕ) → 4 ≤ start s j → Clash s (offer 4 4) j → ⊥
      no_other j high (w.shared m p q) = omega (arith, (only j m).1)
      no_other j high (w.inside m z p) = omega arith

      named : Names s (offer 4 4) 0 8
      named =
          let own : Names s (offer 4 4) (start s 0) (size s 0) =
          w.one_below {i = 0} (omega (arith, h.first.0)) (λ j m low. omega (arith, (only j m).1, h.first.0)) clash no_other in
          rw (h.first.0, h.first.1) at own

module _ (s : Store) (h : One s 0) where
  no-overlap : Overlaps s (offer 0 0) → ⊥
  no-overlap (w.interval (w.shared m p q)) = omega (arith, p.0, p.1)
  no-overlap (w.interval (w.inside m z p)) = omega (arith, p.0)
  no-overlap (w.block-over c) = omega (arith, c.0, h.mark_count)

  -- (0, 0) is accepted, and is a mark then
  pub zero-accepted : {y : Outcome} → OfferSays s (offer 0 0) y → (y.answer.refusal ≡ 0) × One (handed y) 1
  zero-accepted (refused x m) = absurd (⊎_elim (λ k. omega (arith, h.count)) (λ k. omega (arith, h.mark_count)) m)
  zero-accepted (passed n (refused i f)) = absurd (none-bad s 0 (omega arith) h i f.so)
  zero-accepted (passed n (passed o (refused i f))) = absurd (marks-fine s 0 (omega arith) h i f.so)
  zero-accepted (passed n (passed o (passed p (refused x m)))) = absurd (⊎_elim (λ k. omega arith) (λ k. omega arith) m)
  zero-accepted (passed n (passed o (passed p (passed q (w.overlaps x m))))) = absurd (no-overlap x)
  zero-accepted (passed n (passed o (passed p (passed q (w.full x m))))) =
      absurd (⊎_elim (λ k. omega (arith, k.0)) (λ k. omega (arith, k.1, h.mark_count)) m)
  zero-accepted (passed n (passed o (passed p (passed q (w.stored x m k i f g))))) = absurd (omega arith)
  zero-accepted (passed n (passed o (passed p (passed q (w.marked {place} {marks'} x m k i f))))) = (
    refl,
    record {
      count = h.count;
      first = h.first;
      mark_count = omega (arith, h.mark_count);
      zeros = λ j less. let here : j ≡ place = omega (arith, i.among, h.mark_count) in rw here f.there;
    },
  )

  -- "store (0, 8), offers (0, 0) accepted, then (4, 4): 12"; it names (0, 8)
  pub zero-then-four : {y z : Outcome} → OfferSays s (offer 0 0) y → OfferSays (handed y) (offer 4 4) z
      → (y.answer.refusal ≡ 0) × (z ≡ refusal (handed y) (offer 4 4) 12 0 8)
  zero-then-four {y} one two = let (given, held) = zero-accepted one in (given, four-refused (handed y) 1 (omega arith) held two)
