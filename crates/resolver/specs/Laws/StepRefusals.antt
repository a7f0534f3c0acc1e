-- What a step can be refused for, 4 or 5, and that the place is the node's own number.
use Rattle.std.specs.Prelude.{ℕ, ◌+◌, ◌≡◌, refl, Bool, true, false, ◌⊎◌, leb, get_or, Result, Err, Ok, Option, None, Some}
use Rattle.std.proofs.Common.{subst, inl, inr, arith}
use Rattle.prelude.specs.Limits.{max_position}
use Rattle.prelude.specs.Pick.{pick}
use Rattle.prelude.specs.declared.Refusal.{Refusal}
use Rattle.prelude.specs.declared.Refusal.TheVariants.{Malformed, PositionPast}
use Rattle.bankdef.specs.declared.Bankdef.{Bankdef}
use Rattle.iter.specs.Distance.{tellable, address_in_bits, distance_to, skips_of, distance_of}
use Rattle.iter.specs.Step.{origin, moved_by, moved_by_distance, aligned_to, outermost_symbol, label_aligned, seen_of, bad_state, moved_on, advanced_of}
use Rattle.iter.specs.Step.{step_skips, stepped_to, stepped_from, step_of}
use Rattle.nodes.specs.Kinds.{does_of}
use Rattle.nodes.specs.Laws.Kinds.{in-each}
use Rattle.nodes.specs.declared.Node.{Node}
use Rattle.iter.specs.declared.Pos.{Pos}
use Rattle.iter.specs.declared.Skipped.{Skipped}
use Rattle.iter.specs.declared.Stepped.{Stepped}
use Rattle.iter.specs.declared.Walk.{Walk}

-- 4 or 5, at node i
abbrev pub Refusable : ℕ → Refusal → Type 0
Refusable i why = (why ≡ Malformed i) ⊎ (why ≡ PositionPast i)

-- what a move, or a distance, is refused for is one of those
record MoveOk (i : ℕ) (m : Result Pos Refusal) : Type 0 where
  refusable : (why : Refusal) → m ≡ Err why → Refusable i why

record DistanceOk (i : ℕ) (d : Result Skipped Refusal) : Type 0 where
  refusable : (why : Refusal) → d ≡ Err why → Refusable i why

choice-move : (i : ℕ) (b : Bool) (x y : Result Pos Refusal) → MoveOk i x → MoveOk i y → MoveOk i (pick b x y)
choice-move i true x y a b = a
choice-move i false x y a b = b

choice-distance : (i : ℕ) (b : Bool) (x y : Result Skipped Refusal) → DistanceOk i x → DistanceOk i y → DistanceOk i (pick b x y)
choice-distance i true x y a b = a
choice-distance i false x y a b = b

choice-step : (i : ℕ) (b : Bool) (x y : Stepped) → MoveOk i x.seen → MoveOk i y.seen → MoveOk i (pick b x y).seen
choice-step i true x y a b = a
choice-step i false x y a b = b

no_distance : {a b : Refusal} → ◌≡◌ {A = Result Skipped Refusal} (Err a) (Err b) → a ≡ b
no_distance e = cc

no_move : {a b : Refusal} → ◌≡◌ {A = Result Pos Refusal} (Err a) (Err b) → a ≡ b
no_move e = cc

module _ (i : ℕ) where
  to-ok : (p : Pos) → MoveOk i (Ok p)
  to-ok p = record { refusable = λ why e. absurd (let z : ◌≡◌ {A = ℕ} 0 1 = cc in let b : ⊥ = omega arith in b) }

  stopped-ok : (why : Refusal) → Refusable i why → MoveOk i (Err why)
  stopped-ok why h = record { refusable = λ other e. subst (Refusable i) (no_move e) h }

  malformed-ok : MoveOk i (Err (Malformed i))
  malformed-ok = stopped-ok (Malformed i) (inl refl)

  told-ok : (s : Skipped) → DistanceOk i (Ok s)
  told-ok s = record { refusable = λ why e. absurd (let z : ◌≡◌ {A = ℕ} 0 1 = cc in let b : ⊥ = omega arith in b) }

  untold-ok : (why : Refusal) → Refusable i why → DistanceOk i (Err why)
  untold-ok why h = record { refusable = λ other e. subst (Refusable i) (no_distance e) h }

  distance-ok : (def : Bankdef) (position a : ℕ) → DistanceOk i (distance_of def position a i)
  unfolding distance_of
  distance-ok def position a =
      choice-distance i (tellable def) (Ok (skips_of def (distance_to (address_in_bits def position) a))) (Err (Malformed i))
      (told-ok (skips_of def (distance_to (address_in_bits def position) a))) (untold-ok (Malformed i) (inl refl))

  sum-ok : (at : Pos) (bits : ℕ) (known : Bool) → MoveOk i (moved_by at bits known i)
  sum-ok at bits known =
      choice-move i (leb (at.position + bits) max_position) (Ok (record { position = at.position + bits; known = known })) (Err (PositionPast i)) (to-ok _)
      (stopped-ok (PositionPast i) (inr refl))

  by-distance : (at : Pos) (known : Bool) (d : Result Skipped Refusal) → DistanceOk i d → MoveOk i (moved_by_distance at d known i)
  by-distance at known (Ok s) h = sum-ok at s.bits known
  by-distance at known (Err why) h = stopped-ok why (h.refusable why refl)

  aligned_ok : (def : Bankdef) (at : Pos) (a : ℕ) (known : Bool) → MoveOk i (aligned_to def at a known i)
  aligned_ok def at a known = by-distance at known (distance_of def at.position a i) (distance-ok def at.position a)

  label-ok : (def : Bankdef) (o : Option ℕ) (at : Pos) → MoveOk i (label_aligned def o at i)
  label-ok def None at = to-ok at
  label-ok def (Some a) at = aligned_ok def at a at.known

module _ (def : Bankdef) (node : Node) where
  seen-ok : (at : Pos) → MoveOk node.index (seen_of def at node)
  unfolding seen_of
  seen-ok at =
      choice-move node.index (outermost_symbol node) (label_aligned def def.align at node.index) (Ok at) (label-ok node.index def def.align at)
      (to-ok node.index at)

  advanced-ok : (at : Pos) → MoveOk node.index (advanced_of def at node)
  unfolding advanced_of moved_on
  advanced-ok at =
      let i = node.index in
      choice-move i (bad_state node) (Err (Malformed i)) (moved_on def at node) (malformed-ok i)
      (in-each (MoveOk i) (does_of node.kind) (to-ok i at) (sum-ok i at node.number _) (aligned_ok i def at node.number _) (to-ok i _)
      (malformed-ok i))

  after-ok : (walk : Walk) (bank : ℕ) (p : Pos) (s : Skipped) (m : Result Pos Refusal) → MoveOk node.index m → MoveOk node.index (stepped_to walk bank p s m).seen
  after-ok walk bank p s (Ok q) h = to-ok node.index p
  after-ok walk bank p s (Err why) h = h

  from-ok : (walk : Walk) (bank : ℕ) (m : Result Pos Refusal) → MoveOk node.index m → MoveOk node.index (stepped_from def walk bank node m).seen
  from-ok walk bank (Ok p) h = after-ok walk bank p (step_skips def (get_or walk.at bank origin) p node) (advanced_of def p node) (advanced-ok p)
  from-ok walk bank (Err why) h = h

  step_ok : (walk : Walk) → MoveOk node.index (step_of def walk node).seen
  unfolding step_of
  step_ok walk = search (choice-step, from-ok, seen-ok, malformed-ok) depth 6

  -- A step is refused for 4 or 5, at the node that it is over.
  pub step-refusals : (walk : Walk) (why : Refusal) → (step_of def walk node).seen ≡ Err why → Refusable node.index why
  step-refusals walk why e = (step_ok walk).refusable why e
