-- Laws that Theorems/Crossing rests on.
use Rattle.std.specs.Prelude.{ℕ, zero, suc, ◌<◌, ◌≡◌, refl, Bool, true, false, ◌||◌, List, [], ◌∷◌, get_or, length, Err, Ok, Result}
use Rattle.std.proofs.Common.{sym, ap, ◌∙◌, le_of_suc-le-suc, arith}
use Rattle.prelude.specs.Laws.Bools.{unlike}
use Rattle.prelude.specs.Pick.{pick}
use Rattle.prelude.specs.Laws.Pick.{pick_true}
use Rattle.prelude.specs.declared.Refusal.{Refusal}
use Rattle.prelude.specs.declared.Refusal.TheVariants.{Malformed}
use Rattle.bankdef.specs.declared.Bankdef.{Bankdef}
use Rattle.iter.specs.Theorems.Advance.{sound-state, early}
use Rattle.iter.specs.Distance.{no_skip}
use Rattle.iter.specs.Step.{origin, outermost_symbol, seen_of, bad_state, advanced_of, stopped, step_skips, stepped_to, stepped_from}
use Rattle.iter.specs.Laws.StepFacts.{sees_plain}
use Rattle.iter.specs.declared.Crossing.{Crossing}
use Rattle.nodes.specs.declared.Node.{Node}
use Rattle.iter.specs.declared.Pos.{Pos}
use Rattle.iter.specs.declared.Skipped.{Skipped}
use Rattle.iter.specs.declared.Walk.{Walk}
use Rattle.iter.specs.Crossing.{crossed_from, crossed_to, crossing_of, halted, put_in}

-- A crossing, by what the node sees and where it moves.
module _ (def : Bankdef) (at : Pos) (node : Node) where
  pub cross-malformed : bad_state node ≡ true → crossing_of def at node ≡ halted at (Malformed node.index)
  unfolding crossing_of
  cross-malformed e = pick_true _ _ e

  module _ (sound : bad_state node ≡ false) where
    pub cross-blind : (why : Refusal) → seen_of def at node ≡ Err why → crossing_of def at node ≡ halted at why
    unfolding crossing_of
    cross-blind why s = rw (sound, s)

    pub cross-stuck : (p : Pos) (why : Refusal) → seen_of def at node ≡ Ok p → advanced_of def p node ≡ Err why → crossing_of def at node ≡ halted at why
    unfolding crossing_of
    cross-stuck p why s a = rw (sound, s, a)

    pub cross-moves : (p q : Pos) → seen_of def at node ≡ Ok p → advanced_of def p node ≡ Ok q
        → crossing_of def at node ≡ record { seen = Ok p; skipped = step_skips def at p node; after = q }
    unfolding crossing_of
    cross-moves p q s a = rw (sound, s, a)

never : {p : Pos} {why : Refusal} → Ok p ≡ Err why → ⊥
never e = unlike cc

-- A crossing that is refused leaves the position as it was.
pub halts : (def : Bankdef) (at : Pos) (node : Node) (why : Refusal) {c : Crossing} → c ≡ crossing_of def at node → c.seen ≡ Err why → c.after ≡ at
unfolding crossing_of
halts def at node why e f =
    ap (λ (x : Crossing). x.after) e ∙ tested (bad_state node) (seen_of def at node) (ap (λ (x : Crossing). x.seen) (sym e) ∙ f)
  where
    advanced : (p : Pos) (s : Skipped) (m : Result Pos Refusal) → (crossed_to at p s m).seen ≡ Err why → (crossed_to at p s m).after ≡ at
    advanced p s (Ok q) g = absurd (never g)
    advanced p s (Err x) g = refl

    tested : (t : Bool) (m : Result Pos Refusal) → (pick t (halted at (Malformed node.index)) (crossed_from def at node m)).seen ≡ Err why
        → (pick t (halted at (Malformed node.index)) (crossed_from def at node m)).after ≡ at
    tested true m g = refl
    tested false (Ok p) g = advanced p (step_skips def at p node) (advanced_of def p node) g
    tested false (Err x) g = refl

-- And nothing is skipped.
pub halts-skip : (def : Bankdef) (at : Pos) (node : Node) (why : Refusal) {c : Crossing} → c ≡ crossing_of def at node → c.seen ≡ Err why
    → c.skipped ≡ no_skip
unfolding crossing_of
halts-skip def at node why e f =
    ap (λ (x : Crossing). x.skipped) e ∙ tested (bad_state node) (seen_of def at node) (ap (λ (x : Crossing). x.seen) (sym e) ∙ f)
  where
    advanced : (p : Pos) (s : Skipped) (m : Result Pos Refusal) → (crossed_to at p s m).seen ≡ Err why → (crossed_to at p s m).skipped ≡ no_skip
    advanced p s (Ok q) g = absurd (never g)
    advanced p s (Err x) g = refl

    tested : (t : Bool) (m : Result Pos Refusal) → (pick t (halted at (Malformed node.index)) (crossed_from def at node m)).seen ≡ Err why
        → (pick t (halted at (Malformed node.index)) (crossed_from def at node m)).skipped ≡ no_skip
    tested true m g = refl
    tested false (Ok p) g = advanced p (step_skips def at p node) (advanced_of def p node) g
    tested false (Err x) g = refl

-- A bank switch is made wherever there is such a bank.
pub switch-made : (def : Bankdef) (at : Pos) (node : Node) → node.kind ≡ 1 → (why : Refusal) → (crossing_of def at node).seen ≡ Err why → ⊥
switch-made def at node k why e =
    let sound : bad_state node ≡ false = rw k in
    let plain : outermost_symbol node ≡ false = rw k in
    let goes : advanced_of def at node ≡ Ok at = sound-state def at node sound ∙ early def at node (rw k (omega arith)) in
    never (ap (λ (x : Crossing). x.seen) (sym (cross-moves def at node sound at at (sees_plain def at node plain) goes)) ∙ e)

module _ (def : Bankdef) (walk : Walk) (node : Node) (bank : ℕ) where
  -- the position in that bank
  abbrev pub here : Pos
  here = get_or walk.at bank origin

  advance-put : (p : Pos) (s : Skipped) (m : Result Pos Refusal) → stepped_to walk bank p s m ≡ put_in walk bank (crossed_to here p s m)
  advance-put p s (Ok q) = refl
  advance-put p s (Err why) = refl

  sight-put : (m : Result Pos Refusal) → stepped_from def walk bank node m ≡ put_in walk bank (crossed_from def here node m)
  sight-put (Ok p) = advance-put p (step_skips def here p node) (advanced_of def p node)
  sight-put (Err why) = refl

  pub tests-put : (t u : Bool) (m : Result Pos Refusal) → let none = Malformed node.index in
      pick (t || u) (stopped walk none) (stepped_from def walk bank node m)
      ≡ pick t (stopped walk none) (put_in walk bank (pick u (halted here none) (crossed_from def here node m)))
  tests-put true u m = refl
  tests-put false true m = refl
  tests-put false false m = sight-put m

-- an element within the list is read whatever stands for those outside
pub any-default : {A : Type 0} (l : List A) (i : ℕ) (d e : A) → i < length l → get_or l i d ≡ get_or l i e
any-default [] i d e h = absurd (omega arith)
any-default (x ∷ l) zero d e h = refl
any-default (x ∷ l) (suc i) d e h = any-default l i d e (le_of_suc-le-suc h)
