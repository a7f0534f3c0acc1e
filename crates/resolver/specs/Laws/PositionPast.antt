-- Laws that Theorems/PositionPast rests on.
use Rattle.std.specs.Prelude.{ℕ, ◌≡◌, refl, false, Result, Err, Ok}
use Rattle.std.proofs.Common.{sym, ◌∙◌, ap, inl, inr, arith}
use Rattle.prelude.specs.Refusals.{number_of, place_of}
use Rattle.prelude.specs.Told.{Told, gives, refuses, told_number}
use Rattle.prelude.specs.Theorems.Told.{refusal-by-figures}
use Rattle.prelude.specs.declared.Place.{Place}
use Rattle.prelude.specs.declared.Refusal.{Refusal}
use Rattle.prelude.specs.declared.Refusal.TheVariants.{PositionPast}
use Rattle.prelude.specs.Laws.Bools.{either, unlike}
use Rattle.bankdef.specs.declared.Bankdef.{Bankdef}
use Rattle.iter.specs.Laws.Advance.{outside, blind, stuck, moves}
use Rattle.iter.specs.Theorems.AdvanceFacts.{advance-five-only, advance-five-when, sight-five-only, sight-five-when}
use Rattle.iter.specs.Figures.{told_moved}
use Rattle.iter.specs.Step.{seen_of, advanced_of, bank_after, malformed, step_of}
use Rattle.iter.specs.StepCases.{standing}
use Rattle.nodes.specs.declared.Node.{Node}
use Rattle.iter.specs.declared.Pos.{Pos}
use Rattle.iter.specs.declared.Stepped.{Stepped}
use Rattle.iter.specs.declared.Walk.{Walk}
use Rattle.resolver.specs.PositionPast.{WouldPass}

-- ---- a step

stopped-apart : {a b : Refusal} → ◌≡◌ {A = Result Pos Refusal} (Err a) (Err b) → number_of a ≡ number_of b
stopped-apart e = cc

gives_apart : {p : Pos} {n : ℕ} {q : Place} → ◌≡◌ {A = Told Pos} (gives p) (refuses n q) → ⊥
gives_apart e = unlike cc

number_same : {m n : ℕ} {p q : Place} → ◌≡◌ {A = Told Pos} (refuses m p) (refuses n q) → m ≡ n
number_same e = cc

place_same : {m n : ℕ} {p q : Place} → ◌≡◌ {A = Told Pos} (refuses m p) (refuses n q) → p ≡ q
place_same e = cc

moved-by-figures : (m : Result Pos Refusal) (why : Refusal) → told_moved m ≡ refuses (number_of why) (place_of why) → m ≡ Err why
moved-by-figures (Ok p) why e = absurd (gives_apart e)
moved-by-figures (Err other) why e = ap Err (refusal-by-figures other why (number_same e) (place_same e))

module _ (def : Bankdef) (walk : Walk) (n : Node) where
  at_five : {m : Result Pos Refusal} {why : Refusal} → m ≡ Err why → ◌≡◌ {A = Result Pos Refusal} (Err why) (Err (PositionPast n.index)) → told_number (told_moved m) ≡ 5
  at_five e f = rw e (stopped-apart f)

  by-advance : malformed (bank_after walk.bank n) n ≡ false → (p : Pos) → seen_of def (standing walk n) n ≡ Ok p → (m : Result Pos Refusal) → advanced_of def p n ≡ m →
      (step_of def walk n).seen ≡ Err (PositionPast n.index) → WouldPass def walk n
  by-advance t p s (Ok q) a e =
      absurd
      (let f : Ok p ≡ Err (PositionPast n.index) = sym (ap (λ (x : Stepped). x.seen)
      (moves def walk n (bank_after walk.bank n) refl t p q s a)) ∙ e in
      let z : ◌≡◌ {A = ℕ} 0 1 = cc in
      let b : ⊥ = omega arith in
      b)
  by-advance t p s (Err why) a e =
      let f = sym (ap (λ (x : Stepped). x.seen) (stuck def walk n (bank_after walk.bank n) refl t p why s a)) ∙ e in
      inr (p, s, advance-five-only def p n (at_five a f))

  by-sight : malformed (bank_after walk.bank n) n ≡ false → (m : Result Pos Refusal) → seen_of def (standing walk n) n ≡ m →
      (step_of def walk n).seen ≡ Err (PositionPast n.index) → WouldPass def walk n
  by-sight t (Ok p) s e = by-advance t p s (advanced_of def p n) refl e
  by-sight t (Err why) s e =
      let f = sym (ap (λ (x : Stepped). x.seen) (blind def walk n (bank_after walk.bank n) refl t why s)) ∙ e in
      inl (sight-five-only def (standing walk n) n (at_five s f))

  -- A step is refused 5 only where a position would pass the limit,
  pub step-five-only : (step_of def walk n).seen ≡ Err (PositionPast n.index) → WouldPass def walk n
  step-five-only e =
      either (malformed (bank_after walk.bank n) n)
      (λ t.
      let f = sym (ap (λ (x : Stepped). x.seen) (outside def walk n (bank_after walk.bank n) refl t)) ∙ e in
      absurd (let k : 4 ≡ 5 = stopped-apart f in let b : ⊥ = omega arith in b))
      (λ t. by-sight t (seen_of def (standing walk n) n) refl e)

  -- and wherever one would, if its numbers are sound.
  pub step-five-when : malformed (bank_after walk.bank n) n ≡ false → WouldPass def walk n → (step_of def walk n).seen ≡ Err (PositionPast n.index)
  step-five-when t (inl s) =
      let e = moved-by-figures (seen_of def (standing walk n) n) (PositionPast n.index) (sight-five-when def (standing walk n) n s) in
      ap (λ (x : Stepped). x.seen) (blind def walk n (bank_after walk.bank n) refl t (PositionPast n.index) e)
  step-five-when t (inr a) =
      let e = moved-by-figures (advanced_of def a.0 n) (PositionPast n.index) (advance-five-when def a.0 n a.2) in
      ap (λ (x : Stepped). x.seen) (stuck def walk n (bank_after walk.bank n) refl t a.0 (PositionPast n.index) a.1 e)
