-- Theorems about what Crossing defines.
use Rattle.std.specs.Prelude.{ℕ, ◌+◌, ◌^◌, ◌<◌, ◌≡◌, refl, List, leb, eqb, get_or, set, Result, Ok, Err}
use Rattle.std.proofs.Common.{sym, ap, ◌∙◌, arith, le-leb, eqb-true}
use Rattle.std.proofs.lemmas.List.{set-get_or}
use Rattle.std.proofs.lemmas.Bool.{lt-leb, eqb-false}
use Rattle.prelude.specs.Laws.Bools.{either}
use Rattle.prelude.specs.Limits.{max_banks}
use Rattle.prelude.specs.Pick.{pick}
use Rattle.prelude.specs.Laws.Pick.{pick_true, pick-false}
use Rattle.prelude.specs.declared.Refusal.TheVariants.{Malformed}
use Rattle.prelude.specs.declared.Refusal.{Refusal}
use Rattle.bankdef.specs.declared.Bankdef.{Bankdef}
use Rattle.iter.specs.Padding.{Fits, the-bits, the-units}
use Rattle.iter.specs.Distance.{no_skip}
use Rattle.iter.specs.Step.{origin, no_lost, seen_of, bad_state, bank_after, max_sum, sum_after, lost_after, kept, stopped, step_of}
use Rattle.iter.specs.Theorems.StepFacts.{stands-in}
use Rattle.iter.specs.declared.Crossing.{Crossing}
use Rattle.iter.specs.declared.Lost.{Lost}
use Rattle.nodes.specs.declared.Node.{Node}
use Rattle.iter.specs.declared.Pos.{Pos}
use Rattle.iter.specs.declared.Stepped.{Stepped}
use Rattle.iter.specs.declared.Walk.{Walk}
use Rattle.iter.specs.Crossing.{crossing_of, put_by, put_in}
use Rattle.iter.specs.Laws.Crossing.{halts, halts-skip, switch-made, tests-put}

-- A step is the crossing of the node in the bank that it stands in, put into the walk, where there is such a bank.
pub step-crosses : (def : Bankdef) (walk : Walk) (node : Node) → let bank = bank_after walk.bank node in
    step_of def walk node
    ≡ pick (leb max_banks bank) (stopped walk (Malformed node.index)) (put_in walk bank (crossing_of def (get_or walk.at bank origin) node))
unfolding step_of crossing_of
step-crosses def walk node =
    let bank = bank_after walk.bank node in
    tests-put def walk node bank (leb max_banks bank) (bad_state node) (seen_of def (get_or walk.at bank origin) node)

-- nothing added leaves a sum as it was
none-added : (sum : ℕ) → sum < 2 ^ 64 → sum ≡ sum_after sum 0
none-added sum h =
    let same : sum + 0 ≡ sum = omega arith in
    sym (pick_true _ _ (le-leb (sum + 0) max_sum (omega arith)) ∙ same)

pub none-lost : (lost : Lost) → lost.bits < 2 ^ 64 → lost.units < 2 ^ 64 → lost ≡ lost_after lost no_skip
none-lost lost h k =
    ap (λ (b : ℕ). record { bits = b; units = lost.units }) (none-added lost.bits h)
    ∙ ap (λ (u : ℕ). record { bits = sum_after lost.bits 0; units = u }) (none-added lost.units k)

-- The same by its cases: no such bank, a crossing that is refused, one that is made.
module _ (def : Bankdef) (walk : Walk) (node : Node) {bank : ℕ} (b : bank ≡ bank_after walk.bank node) where
  in-bank : step_of def walk node
      ≡ pick (leb max_banks bank) (stopped walk (Malformed node.index)) (put_in walk bank (crossing_of def (get_or walk.at bank origin) node))
  in-bank = rw b (step-crosses def walk node)

  module _ (inside : bank < max_banks) {c : Crossing} (e : c ≡ crossing_of def (get_or walk.at bank origin) node) where
    crossing-in : step_of def walk node ≡ put_in walk bank c
    crossing-in = in-bank ∙ pick-false _ _ (lt-leb max_banks bank inside) ∙ ap (put_in walk bank) (sym e)

    -- What the node sees is what the crossing sees.
    pub crossing-sees : (step_of def walk node).seen ≡ c.seen
    crossing-sees = ap (λ (s : Stepped). s.seen) crossing-in ∙ put-seen c.seen
      where
        put-seen : (m : Result Pos Refusal) → (put_by walk bank c m).seen ≡ m
        put-seen (Ok p) = refl
        put-seen (Err why) = refl

    -- what the bank has lost before
    abbrev was : Lost
    was = get_or walk.lost bank no_lost

    -- The walk after a step, refused ones too, is the one that has the crossing's position and losses stored: so a loop may store them as they come.
    pub crossing-kept : Fits walk → (step_of def walk node).walk ≡ kept walk bank c.after c.skipped
    crossing-kept fits = ap (λ (s : Stepped). s.walk) crossing-in ∙ put-kept c.seen refl
      where
        kept_same : walk.bank ≡ bank → get_or walk.at bank origin ≡ c.after → was ≡ lost_after was c.skipped
            → walk ≡ kept walk bank c.after c.skipped
        kept_same x y z =
            ap (λ (l : List Pos). record { at = l; lost = walk.lost; bank = walk.bank }) (sym (set-get_or walk.at bank origin) ∙ ap (set walk.at bank) y)
            ∙ ap (λ (l : List Lost). record { at = set walk.at bank c.after; lost = l; bank = walk.bank })
            (sym (set-get_or walk.lost bank no_lost) ∙ ap (set walk.lost bank) z)
            ∙ ap (λ (k : ℕ). record {
              at = set walk.at bank c.after;
              lost = set walk.lost bank (lost_after was c.skipped);
              bank = k;
            }) x

        put-kept : (m : Result Pos Refusal) → c.seen ≡ m → (put_by walk bank c m).walk ≡ kept walk bank c.after c.skipped
        put-kept (Ok p) f = refl
        put-kept (Err why) f =
            let stays = halts def (get_or walk.at bank origin) node why e f in
            let none = halts-skip def (get_or walk.at bank origin) node why e f in
            let stood : walk.bank ≡ bank =
            either (eqb node.kind 1)
            (λ t. absurd (switch-made def (get_or walk.at bank origin) node (eqb-true node.kind 1 t) why (ap (λ (x : Crossing). x.seen) (sym e) ∙ f)))
            (λ t. sym (stands-in walk.bank node (eqb-false node.kind 1 t)) ∙ sym b) in
            let sum : was ≡ lost_after was c.skipped = rw none (none-lost was (fits the-bits bank) (fits the-units bank)) in
            kept_same stood (sym stays) sum
