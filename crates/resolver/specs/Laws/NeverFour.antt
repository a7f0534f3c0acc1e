-- Laws that Theorems/NeverFour rests on.
use Rattle.std.specs.Prelude.{ℕ, ◌<◌, ◌≤◌, ◌≡◌, refl, Bool, true, false, length, Err, Result, Ok}
use Rattle.std.proofs.Common.{sym, ◌∙◌, ap, subst, arith, length-take}
use Rattle.prelude.specs.Refusals.{number_of}
use Rattle.prelude.specs.Told.{Told, told_number}
use Rattle.prelude.specs.declared.Refusal.{Refusal}
use Rattle.prelude.specs.Laws.Bools.{either, clash}
use Rattle.prelude.specs.Verdict.{Accepted}
use Rattle.bankdef.specs.Check.{banks_of, check_of}
use Rattle.bankdef.specs.Numbers.{bank_fault}
use Rattle.bankdef.specs.Theorems.Numbers.{fault-anywhere}
use Rattle.bankdef.specs.Refused.{Decided, NoFault, sound}
use Rattle.bankdef.specs.Theorems.Refused.{decided}
use Rattle.bankdef.specs.declared.Bankdef.{Bankdef}
use Rattle.bankdef.specs.declared.Bankdefs.{Bankdefs}
use Rattle.iter.specs.Laws.Advance.{blind, stuck, moves}
use Rattle.iter.specs.Distance.{tellable, distance_of}
use Rattle.iter.specs.Figures as told
use Rattle.iter.specs.Figures.{told_distance, told_moved, Measures, Adds, Sees, SoundState, Advances}
use Rattle.iter.specs.Step.{seen_of, advanced_of, bank_after, malformed, step_of}
use Rattle.iter.specs.StepCases.{standing}
use Rattle.iter.specs.Theorems.Told.{sound-told}
use Rattle.iter.specs.Theorems.ToldFacts.{distance-told, sight-told, advance-told}
use Rattle.nodes.specs.Kinds.{last_kind}
use Rattle.nodes.specs.declared.Node.{Node}
use Rattle.iter.specs.declared.Pos.{Pos}
use Rattle.iter.specs.declared.Skipped.{Skipped}
use Rattle.iter.specs.declared.Stepped.{Stepped}
use Rattle.iter.specs.declared.Walk.{Walk}
use Rattle.resolver.specs.Laws.NodeOrder.{seen_apart}
use Rattle.resolver.specs.Once.{bank_record}

-- ---- a step

module _ (def : Bankdef) (tells : tellable def ≡ true) where
  measured-not : {position a node : ℕ} {t : Told Skipped} → Measures def position a node t → told_number t ≡ 4 → ⊥
  measured-not (told.malformed h) e = clash tells h
  measured-not (told.none h z) e = omega arith
  measured-not (told.next h k s a w) e = omega arith

  distance-not : (position a node : ℕ) (why : Refusal) → distance_of def position a node ≡ Err why → number_of why ≡ 4 → ⊥
  distance-not position a node why e n =
      measured-not (distance-told def position a node) (ap (λ (d : Result Skipped Refusal). told_number (told_distance d)) e ∙ n)

  module _ (at : Pos) (n : Node) where
    adds-not : (bits : ℕ) (known : Bool) {t : Told Pos} → Adds at bits known n.index t → told_number t ≡ 4 → ⊥
    adds-not bits known (told.sum l) e = omega arith
    adds-not bits known (told.past l) e = omega arith

    sight-not : {t : Told Pos} → Sees def at n t → told_number t ≡ 4 → ⊥
    sight-not (told.other h) e = omega arith
    sight-not (told.unaligned h) e = omega arith
    sight-not (told.aligned s a f (told.by d g m)) e = adds-not d.bits at.known m e
    sight-not (told.aligned s a f (told.untold why g)) e = distance-not at.position a n.index why g e

    advance-not : n.kind ≤ last_kind → SoundState n → {t : Told Pos} → Advances def at n t → told_number t ≡ 4 → ⊥
    advance-not k s (told.unknown h) e = omega arith
    advance-not k s (told.badly h g) e = let l = s h in omega arith
    advance-not k s (told.stays s' h) e = omega arith
    advance-not k s (told.item s' h g known keeps (told.sum l)) e = omega arith
    advance-not k s (told.item s' h g known keeps (told.past l)) e = omega arith
    advance-not k s (told.aligns s' h known keeps (told.by d f m)) e = adds-not d.bits known m e
    advance-not k s (told.aligns s' h known keeps (told.untold why f)) e = distance-not at.position n.number n.index why f e
    advance-not k s (told.sets s' h known sets) e = omega arith

  module _ (walk : Walk) (n : Node) (k : n.kind ≤ last_kind) (s : SoundState n) (t : malformed (bank_after walk.bank n) n ≡ false) where
    at-four : {m : Result Pos Refusal} {w why : Refusal} → m ≡ Err w → ◌≡◌ {A = Result Pos Refusal} (Err w) (Err why) → number_of why ≡ 4 → told_number (told_moved m) ≡ 4
    at-four e f n = let same = stopped-number f in rw e (same ∙ n)
      where
        stopped-number : {a b : Refusal} → ◌≡◌ {A = Result Pos Refusal} (Err a) (Err b) → number_of a ≡ number_of b
        stopped-number e = cc

    by-advance : (p : Pos) → seen_of def (standing walk n) n ≡ Ok p → (m : Result Pos Refusal) → advanced_of def p n ≡ m → (why : Refusal)
        → (step_of def walk n).seen ≡ Err why
        → number_of why ≡ 4 → ⊥
    by-advance p f (Ok q) a why e four =
        seen_apart (ap (λ (x : Stepped). x.seen) (moves def walk n (bank_after walk.bank n) refl t p q f a)) e
    by-advance p f (Err w) a why e four =
        let g = sym (ap (λ (x : Stepped). x.seen) (stuck def walk n (bank_after walk.bank n) refl t p w f a)) ∙ e in
        advance-not p n k s (advance-told def p n) (at-four a g four)

    by-sight : (m : Result Pos Refusal) → seen_of def (standing walk n) n ≡ m → (why : Refusal) → (step_of def walk n).seen ≡ Err why → number_of why ≡ 4 → ⊥
    by-sight (Ok p) f why e four = by-advance p f (advanced_of def p n) refl why e four
    by-sight (Err w) f why e four =
        let g = sym (ap (λ (x : Stepped). x.seen) (blind def walk n (bank_after walk.bank n) refl t w f)) ∙ e in
        sight-not (standing walk n) n (sight-told def (standing walk n) n) (at-four f g four)

    -- A step whose numbers are sound, in a bank that can be told, is not refused 4.
    pub step-not-four : (why : Refusal) → (step_of def walk n).seen ≡ Err why → number_of why ≡ 4 → ⊥
    step-not-four = by-sight (seen_of def (standing walk n) n) refl

-- ---- a pass

no-fault : (banks : Bankdefs) → check_of banks ≡ Accepted → NoFault (banks_of banks)
no-fault banks e = from (subst (Decided banks) e (decided banks))
  where
    from : Decided banks Accepted → NoFault (banks_of banks)
    from (sound n f g) = f

-- The record of a bank that an accepted table lists can be told.
pub listed-tells : (banks : Bankdefs) → check_of banks ≡ Accepted → banks.len ≤ length banks.defs → (bank : ℕ) → bank < banks.len
    → tellable (bank_record banks bank) ≡ true
listed-tells banks e whole bank h =
    sound-told (bank_record banks bank)
    (either (bank_fault (bank_record banks bank))
    (λ f. absurd (no-fault banks e bank (rw (length-take banks.len banks.defs) (omega arith)) (fault-anywhere bank (bank_record banks bank) f)))
    (λ f. f))
