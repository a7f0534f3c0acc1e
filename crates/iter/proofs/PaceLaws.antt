-- A step in numbers, kind by kind: each is a crossing of specs/Crossing, by what the node sees and where it moves.
use Rattle.std.specs.Prelude.{Ok, None, Result, Some}
use Prim.Native.Nat.{ℕ, ◌+◌, ◌≤◌, ◌<◌}
use mathlib.Core.Path.{◌≡◌, refl, sym, ap, ◌∙◌}
use mathlib.Core.Bool.{Bool, true, false, ◌&&◌}
use mathlib.Core.Logic.{◌⊎◌, inl, inr}
use native.Mathlib.Decide.{dec_le}
use native.Mathlib.Omega.{arith}
use lib.Dec.{leb}
use borrow.Author.Tests.{eq-eqb, ne_eqb}
use Rattle.prelude.specs.Laws.Bools.{either}
use Rattle.prelude.specs.Laws.Pick.{pick_true, pick-false}
use Rattle.prelude.specs.Limits.{max_position}
use Rattle.prelude.specs.declared.Refusal.TheVariants.{Malformed, PositionPast}
use Rattle.prelude.specs.declared.Refusal.{Refusal}
use Rattle.bankdef.specs.declared.Bankdef.{Bankdef}
use Rattle.iter.specs.Crossing.{crossing_of, halted}
use Rattle.iter.specs.Distance.{tellable, address_in_bits, distance_to, skips_of, no_skip, distance_of}
use Rattle.iter.specs.Known.{stays_known}
use Rattle.iter.specs.Laws.Crossing.{cross-malformed, cross-blind, cross-stuck, cross-moves}
use Rattle.iter.specs.Laws.StepFacts.{sees_plain}
use Rattle.iter.specs.Pace.{numbers_of, crossed_by, Paces, made_by, halted_by, onward, added_by, aligned_by}
use Rattle.iter.specs.Step.{moved_by, moved_by_distance, aligned_to, outermost_symbol, seen_of, bad_state, resolved, moved_on, advanced_of, still, motion_of}
use Rattle.iter.specs.Step.{aligned_motion, seen_motion, advance_motion}
use Rattle.iter.specs.Theorems.Advance.{sound-state, early, item, aligning, setting, asserting, other as moves-other}
use Rattle.iter.specs.Theorems.Aligned.{four-when, told-when}
use Rattle.iter.specs.declared.Motion.{Motion}
use Rattle.nodes.specs.Kinds.{is_symbol}
use Rattle.nodes.specs.Laws.Kinds.{Numbers, stay, switch, add, set, other}
use Rattle.nodes.specs.declared.kinds.Doing.TheVariants.{Stays, Switches, Adds, Sets, Unknown}
use Rattle.nodes.specs.declared.Node.{Node}
use Rattle.iter.specs.declared.Paced.{Paced}
use Rattle.iter.specs.declared.Pos.{Pos}
use Rattle.iter.specs.declared.Skipped.{Skipped}
use Rattle.iter.specs.Laws.Advanced.{sight-plain, sight-unaligned, sight-aligned, advance-aligned}

-- the numbers of a kind, by what it does
pub stay-told : {kind : ℕ} → Numbers kind Stays → (kind ≡ 0) ⊎ (kind ≡ 10)
stay-told (stay h) = h

pub switch-told : {kind : ℕ} → Numbers kind Switches → kind ≡ 1
switch-told (switch e) = e

pub add-told : {kind : ℕ} → Numbers kind Adds → (4 ≤ kind) × (kind ≤ 7)
add-told (add low high) = (low, high)

pub set_told : {kind : ℕ} → Numbers kind Sets → kind ≡ 9
set_told (set e) = e

pub other-told : {kind : ℕ} → Numbers kind Unknown → 10 < kind
other-told (other h) = h

-- a symbol of depth 0, and one that is not
pub outermost : (node : Node) → (2 ≤ node.kind) × (node.kind ≤ 3) → node.operand ≡ 0 → outermost_symbol node ≡ true
outermost node k e =
    elim (dec_le node.kind 2) [
      | yes low ↦ (let q : node.kind ≡ 2 = omega (arith, k.0) in rw (eq-eqb node.kind 2 q, eq-eqb node.operand 0 e))
      | no high ↦
          (let q : node.kind ≡ 3 = omega (arith, k.1) in
          rw (ne_eqb node.kind 2 (λ z. omega arith), eq-eqb node.kind 3 q, eq-eqb node.operand 0 e))
    ]

pub deeper : (node : Node) → (node.operand ≡ 0 → ⊥) → outermost_symbol node ≡ false
deeper node n = rw (ne_eqb node.operand 0 n) (and-false (is_symbol node.kind))
  where
    and-false : (t : Bool) → t && false ≡ false
    and-false true = refl
    and-false false = refl

-- a node of kind 0 or 1 is no symbol
pub early-plain : (node : Node) → node.kind < 2 → outermost_symbol node ≡ false
early-plain node h = rw (ne_eqb node.kind 2 (λ e. omega arith), ne_eqb node.kind 3 (λ e. omega arith))

leads : {m n : Motion} → m ≡ n → m.to ≡ n.to
leads e = ap (λ (m : Motion). m.to) e

skips : {m n : Motion} → m ≡ n → m.skipped ≡ n.skipped
skips e = ap (λ (m : Motion). m.skipped) e

module _ (def : Bankdef) (at : Pos) (node : Node) where
  -- ---- the numbers of a crossing

  pub paces-made : (p q : Pos) (s : Skipped) {r : Paced} → crossing_of def at node ≡ record { seen = Ok p; skipped = s; after = q }
      → r ≡ made_by p q s → Paces def at node r
  paces-made p q s e f = (f ∙ ap numbers_of (sym e), ap (crossed_by node.index) f ∙ sym e)

  pub paces-malformed : {r : Paced} → crossing_of def at node ≡ halted at (Malformed node.index) → r ≡ halted_by at 4 → Paces def at node r
  paces-malformed e f = (f ∙ ap numbers_of (sym e), ap (crossed_by node.index) f ∙ sym e)

  pub paces-past : {r : Paced} → crossing_of def at node ≡ halted at (PositionPast node.index) → r ≡ halted_by at 5 → Paces def at node r
  paces-past e f = (f ∙ ap numbers_of (sym e), ap (crossed_by node.index) f ∙ sym e)

  -- "4: .. a call's number is malformed: .. state"
  pub paces-bad : {r : Paced} → bad_state node ≡ true → r ≡ halted_by at 4 → Paces def at node r
  paces-bad t f = paces-malformed (cross-malformed def at node t) f

  -- ---- the crossing of a node whose state is sound, by its moves

  module _ (sound : bad_state node ≡ false) where
    -- no kind but 8 counts its own advance
    by-sight : (p q : Pos) {m : Motion} → m ≡ seen_motion def at node → m.to ≡ Ok p → (node.kind ≡ 8 → ⊥) → moved_on def p node ≡ Ok q
        → crossing_of def at node ≡ record { seen = Ok p; skipped = m.skipped; after = q }
    by-sight p q e s n a =
        cross-moves def at node sound p q (sym (leads e) ∙ s) (sound-state def p node sound ∙ a)
        ∙ ap (λ (x : Skipped). record { seen = Ok p; skipped = x; after = q }) (pick-false _ _ (ne_eqb node.kind 8 n) ∙ sym (skips e))

    -- a node that is where it was
    pub paces-still : {r : Paced} → still (Ok at) ≡ seen_motion def at node → (node.kind ≡ 8 → ⊥) → moved_on def at node ≡ Ok at → r ≡ made_by at at no_skip
        → Paces def at node r
    paces-still e n a f = paces-made at at no_skip (by-sight at at e refl n a) f

    pub paces-plain : {r : Paced} → outermost_symbol node ≡ false → node.kind < 4 → r ≡ made_by at at no_skip → Paces def at node r
    paces-plain o h f = paces-still (sight-plain def at node o) (λ e. omega arith) (early def at node h) f

    pub paces-unaligned : {r : Paced} → def.align ≡ None → node.kind < 4 → r ≡ made_by at at no_skip → Paces def at node r
    paces-unaligned o h f = paces-still (sight-unaligned def at node o) (λ e. omega arith) (early def at node h) f

    no_symbol : 4 ≤ node.kind → outermost_symbol node ≡ false
    no_symbol h = rw (ne_eqb node.kind 2 (λ e. omega arith), ne_eqb node.kind 3 (λ e. omega arith))

    pub paces-assert : {r : Paced} → node.kind ≡ 10 → r ≡ made_by at at no_skip → Paces def at node r
    paces-assert k f =
        paces-still (sight-plain def at node (no_symbol (omega arith))) (λ e. omega arith) (asserting def at node k) f

    -- "9 sets the position"
    pub paces-addr : {r : Paced} → node.kind ≡ 9 → r ≡ made_by at (record { position = node.number; known = resolved node }) no_skip → Paces def at node r
    paces-addr k f =
        paces-made at (record { position = node.number; known = resolved node }) no_skip
        (by-sight at _ (sight-plain def at node (no_symbol (omega arith))) refl (λ e. omega arith) (setting def at node k)) f

    -- kinds that leave the position: 0 and 10, and 1
    pub paces-stay : {r : Paced} → (node.kind ≡ 0) ⊎ (node.kind ≡ 10) → r ≡ made_by at at no_skip → Paces def at node r
    paces-stay (inl e) f = paces-plain (early-plain node (omega arith)) (omega arith) f
    paces-stay (inr e) f = paces-assert e f

    pub paces-switch : {r : Paced} → node.kind ≡ 1 → r ≡ made_by at at no_skip → Paces def at node r
    paces-switch e f = paces-plain (early-plain node (omega arith)) (omega arith) f

    -- "Any other kind number is refused."
    pub paces-other : {r : Paced} → 10 < node.kind → r ≡ halted_by at 4 → Paces def at node r
    paces-other h f =
        paces-malformed (cross-stuck def at node sound at (Malformed node.index) (sees_plain def at node (no_symbol (omega arith)))
        (sound-state def at node sound ∙ moves-other def at node h)) f

    -- "4 to 7 add their number"
    pub paces-item : {r : Paced} → 4 ≤ node.kind → node.kind ≤ 7 → r ≡ added_by at node.number (stays_known at.known node) no_skip → Paces def at node r
    paces-item h k f =
        let known = stays_known at.known node in
        let sight = sight-plain def at node (no_symbol h) in
        let moves = item def at node h k in
        either (leb (at.position + node.number) max_position)
        (λ t. paces-made at (onward at node.number known) no_skip
        (by-sight at _ sight refl (λ e. omega arith) (moves ∙ pick_true _ _ t)) (f ∙ pick_true _ _ t))
        (λ t. paces-past (cross-stuck def at node sound at (PositionPast node.index) (sees_plain def at node (no_symbol h))
        (sound-state def at node sound ∙ moves ∙ pick-false _ _ t)) (f ∙ pick-false _ _ t))

    -- "8 adds the distance to alignment"
    module _ (k : node.kind ≡ 8) where
      sight-8 : seen_of def at node ≡ Ok at
      sight-8 = sees_plain def at node (no_symbol (omega arith))

      moves-8 : advanced_of def at node ≡ aligned_to def at node.number (stays_known at.known node) node.index
      moves-8 = sound-state def at node sound ∙ aligning def at node k

      pub paces-align-untold : {r : Paced} → tellable def ≡ false → r ≡ halted_by at 4 → Paces def at node r
      paces-align-untold t f =
          paces-malformed (cross-stuck def at node sound at (Malformed node.index) sight-8
          (moves-8 ∙ ap (λ (d : Result Skipped Refusal). moved_by_distance at d (stays_known at.known node) node.index)
          (four-when def at.position node.number node.index t)))
          f

      pub paces-align : {r : Paced} (bits : ℕ) {s : Skipped} → tellable def ≡ true → bits ≡ distance_to (address_in_bits def at.position) node.number
          → s ≡ skips_of def bits → r ≡ added_by at bits (stays_known at.known node) s → Paces def at node r
      paces-align bits t d w g =
          let known = stays_known at.known node in
          let far : distance_of def at.position node.number node.index ≡ Ok (skips_of def bits) =
          told-when def at.position node.number node.index t ∙ ap (λ (b : ℕ). Ok (skips_of def b)) (sym d) in
          let goes : advanced_of def at node ≡ moved_by at bits known node.index =
          moves-8 ∙ ap (λ (x : Result Skipped Refusal). moved_by_distance at x known node.index) far in
          let own : aligned_motion def at node.number known node.index ≡ advance_motion def at node = advance-aligned def at node known moves-8 k in
          let f = g ∙ ap (added_by at bits known) w in
          either (leb (at.position + bits) max_position)
          (λ u. paces-made at (onward at bits known) (skips_of def bits)
          (cross-moves def at node sound at (onward at bits known) sight-8 (goes ∙ pick_true _ _ u)
          ∙ ap (λ (x : Skipped). record { seen = Ok at; skipped = x; after = onward at bits known })
          (pick_true _ _ (eq-eqb node.kind 8 k) ∙ sym (skips own) ∙ rw (far, u)))
          (f ∙ pick_true _ _ u))
          (λ u. paces-past (cross-stuck def at node sound at (PositionPast node.index) sight-8 (goes ∙ pick-false _ _ u)) (f ∙ pick-false _ _ u))

    -- "a symbol (label or constant) of depth 0 in a bank with label alignment is aligned first"
    module _ (a : ℕ) (o : outermost_symbol node ≡ true) (g : def.align ≡ Some a) (h : node.kind < 4) where
      sight : aligned_motion def at a at.known node.index ≡ seen_motion def at node
      sight = sight-aligned def at node a o g

      pub paces-symbol-untold : {r : Paced} → tellable def ≡ false → r ≡ halted_by at 4 → Paces def at node r
      paces-symbol-untold t f =
          paces-malformed (cross-blind def at node sound (Malformed node.index) (sym (leads sight)
          ∙ ap (λ (d : Result Skipped Refusal). moved_by_distance at d at.known node.index) (four-when def at.position a node.index t)))
          f

      pub paces-symbol : {r : Paced} (bits : ℕ) {s : Skipped} → tellable def ≡ true → bits ≡ distance_to (address_in_bits def at.position) a
          → s ≡ skips_of def bits → r ≡ aligned_by at s → Paces def at node r
      paces-symbol bits t d w g =
          let far : distance_of def at.position a node.index ≡ Ok (skips_of def bits) =
          told-when def at.position a node.index t ∙ ap (λ (b : ℕ). Ok (skips_of def b)) (sym d) in
          let p = onward at bits at.known in
          let f = g ∙ ap (aligned_by at) w in
          either (leb (at.position + bits) max_position)
          (λ u. paces-made p p (skips_of def bits)
          (by-sight p p {m = motion_of (Ok p) (skips_of def bits)} (rw (far, u) at sight) refl (λ e. omega arith) (early def p node h))
          (f ∙ pick_true _ _ u))
          (λ u. paces-past (cross-blind def at node sound (PositionPast node.index)
          (sym (leads sight) ∙ ap (λ (x : Result Skipped Refusal). moved_by_distance at x at.known node.index) far ∙ pick-false _ _ u))
          (f ∙ pick-false _ _ u))
