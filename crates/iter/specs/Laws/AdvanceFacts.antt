-- Laws that Theorems/AdvanceFacts rests on.
use Rattle.std.specs.Prelude.{ℕ, ◌<◌, ◌≡◌, false, ◌⊎◌, leb, Err, Result}
use Rattle.std.proofs.Common.{ap, ◌∙◌, inl, inr, arith, leb-true, le-ltb}
use Rattle.prelude.specs.Laws.Bools.{either}
use Rattle.prelude.specs.Refusals.{number_of}
use Rattle.prelude.specs.Told.{Told, gives, refuses, told_number}
use Rattle.prelude.specs.declared.Place.{Place}
use Rattle.prelude.specs.declared.Refusal.{Refusal}
use Rattle.bankdef.specs.declared.Bankdef.{Bankdef}
use Rattle.iter.specs.Distance.{distance_of}
use Rattle.iter.specs.Figures as told
use Rattle.iter.specs.Figures.{told_distance, Measures, SoundState}
use Rattle.iter.specs.Step.{bad_state}
use Rattle.iter.specs.Theorems.ToldFacts.{distance-told}
use Rattle.iter.specs.declared.Skipped.{Skipped}
use Rattle.nodes.specs.declared.Node.{Node}
use Rattle.iter.specs.declared.Pos.{Pos}

pub gives_same : {p q : Pos} → gives p ≡ gives q → p ≡ q
gives_same e = cc

pub never-gives : {p : Pos} {n : ℕ} {place : Place} → 0 < n → refuses n place ≡ gives p → ⊥
never-gives {n = n} h e = let z : n ≡ 0 = ap (λ (t : Told Pos). told_number t) e in omega arith

pub either-kind : {A B : Type 0} → (A → ⊥) → (B → ⊥) → A ⊎ B → ⊥
either-kind f g (inl a) = f a
either-kind f g (inr b) = g b

not-measured : {def : Bankdef} {position a node : ℕ} {t : Told Skipped} → Measures def position a node t → told_number t ≡ 5 → ⊥
not-measured (told.malformed h) e = omega arith
not-measured (told.none h z) e = omega arith
not-measured (told.next h k s a w) e = omega arith

-- a distance is never refused 5
pub not-five-of : (def : Bankdef) (position a node : ℕ) (why : Refusal) → distance_of def position a node ≡ Err why → number_of why ≡ 5 → ⊥
not-five-of def position a node why e n = not-measured (distance-told def position a node) (ap (λ (d : Result Skipped Refusal). told_number (told_distance d)) e ∙ n)

pub sound-test : (node : Node) → SoundState node → bad_state node ≡ false
sound-test node s =
    either (leb 3 node.kind) (λ t. rw t (le-ltb 2 node.state (s (leb-true 3 node.kind t)))) (λ t. rw t)
