-- Theorems about what AdvanceFacts defines.
use Rattle.std.specs.Prelude.{ℕ, ◌+◌, ◌≤◌, ◌<◌, ◌≡◌, Bool, true, false, ◌⊎◌, ◌↔◌, Ok, Result, Some, Option}
use Rattle.std.proofs.Common.{sym, subst, ◌∙◌, inl, inr, arith}
use Rattle.std.proofs.Math.Path.{ap}
use Rattle.std.proofs.lemmas.Bool.{lt-leb}
use Rattle.prelude.specs.Limits.{max_position}
use Rattle.prelude.specs.Laws.Pick.{pick_true, pick-false}
use Rattle.prelude.specs.Told.{Told, gives, refuses, told_number}
use Rattle.prelude.specs.Theorems.Told.{number-some}
use Rattle.prelude.specs.declared.Place.TheVariants.{One}
use Rattle.prelude.specs.declared.Refusal.{Refusal}
use Rattle.bankdef.specs.declared.Bankdef.{Bankdef}
use Rattle.iter.specs.Theorems.Advance.{sound-state, item, aligning}
use Rattle.iter.specs.Distance.{distance_of}
use Rattle.iter.specs.Figures as told
use Rattle.iter.specs.Figures.{told_moved, OuterSymbol, SoundState, Sees, Advances}
use Rattle.iter.specs.Known.{stays_known}
use Rattle.iter.specs.Step.{moved_by_distance, label_aligned, seen_of, bad_state, advanced_of}
use Rattle.iter.specs.Theorems.ToldFacts.{outer-symbol, sight-told, advance-told}
use Rattle.iter.specs.declared.Skipped.{Skipped}
use Rattle.nodes.specs.declared.Node.{Node}
use Rattle.iter.specs.declared.Pos.{Pos}
use Rattle.iter.specs.AdvanceFacts.{AddsBits, Moves, PassesLimit, SightPasses, distance, number}
use Rattle.iter.specs.Laws.AdvanceFacts.{either-kind, gives_same, never-gives, not-five-of, sound-test}

module _ (def : Bankdef) (at : Pos) (node : Node) (q : Pos) where
  abbrev Kind4678 : Type 0
  Kind4678 = (node.kind ≡ 4) ⊎ ((6 ≤ node.kind) × (node.kind ≤ 8))

  not_five : Kind4678 → node.kind ≡ 5 → ⊥
  not_five (inl e) f = omega arith
  not_five (inr h) f = omega (arith, h.0)

  abbrev Still : Type 0
  Still = (node.kind ≤ 3) ⊎ (node.kind ≡ 10)

  still-apart : 4 ≤ node.kind → node.kind ≤ 9 → Still → ⊥
  still-apart h k (inl l) = omega arith
  still-apart h k (inr e) = omega arith

  items-apart : Still → 4 ≤ node.kind → node.kind ≤ 9 → ⊥
  items-apart s h k = still-apart h k s

  kept-apart : Still → Kind4678 → ⊥
  kept-apart s (inl e) = still-apart (omega arith) (omega arith) s
  kept-apart s (inr h) = still-apart (omega (arith, h.0)) (omega (arith, h.1)) s

  staying : Still → at ≡ q → Moves def at node q
  staying s e = record {
    adds-number = λ h k. absurd (items-apart s h (omega arith));
    adds-distance = λ k. absurd (items-apart s (omega arith) (omega arith));
    sets-position = λ k. absurd (items-apart s (omega arith) (omega arith));
    stays-there = λ k. ap (λ (p : Pos). p.position) (sym e);
    keeps-known = λ k. absurd (kept-apart s k);
    leaves-known = λ k. ap (λ (p : Pos). p.known) (sym e);
    sets-known = λ k. absurd (items-apart s (omega arith) (omega arith));
  }

  adding : (known : Bool) → 4 ≤ node.kind → node.kind ≤ 7 → told.Keeps at.known node known
      → record { position = at.position + node.number; known = known } ≡ q → Moves def at node q
  adding known h k keeps e = record {
    adds-number = λ h k. ap (λ (p : Pos). p.position) (sym e);
    adds-distance = λ f. absurd (omega arith);
    sets-position = λ f. absurd (omega arith);
    stays-there = λ s. absurd (still-apart h (omega arith) s);
    keeps-known = λ f. subst (λ (p : Pos). (p.known ≡ true) ↔ ((at.known ≡ true) × (node.state ≡ 0))) e (keeps.keeps (not_five f));
    leaves-known = left;
    sets-known = λ f. absurd (omega arith);
  }
    where
      left : (node.kind ≡ 5) ⊎ Still → q.known ≡ at.known
      left (inl f) = ap (λ (p : Pos). p.known) (sym e) ∙ keeps.leaves f
      left (inr s) = absurd (still-apart h (omega arith) s)

  aligned : (known : Bool) (s : Skipped) → node.kind ≡ 8 → distance_of def at.position node.number node.index ≡ Ok s
      → told.Keeps at.known node known → record { position = at.position + s.bits; known = known } ≡ q → Moves def at node q
  aligned known d k f keeps e = record {
    adds-number = λ h l. absurd (omega arith);
    adds-distance = λ k. (d, f, ap (λ (p : Pos). p.position) (sym e));
    sets-position = λ f. absurd (omega arith);
    stays-there = λ s. absurd (still-apart (omega arith) (omega arith) s);
    keeps-known = λ f. subst (λ (p : Pos). (p.known ≡ true) ↔ ((at.known ≡ true) × (node.state ≡ 0))) e (keeps.keeps (λ g. omega arith));
    leaves-known = λ s. absurd (either-kind (λ g. omega arith) (still-apart (omega arith) (omega arith)) s);
    sets-known = λ f. absurd (omega arith);
  }

  setting : (known : Bool) → node.kind ≡ 9 → (known ≡ true) ↔ (node.state ≡ 0) → record { position = node.number; known = known } ≡ q
      → Moves def at node q
  setting known k sets e = record {
    adds-number = λ h l. absurd (omega arith);
    adds-distance = λ f. absurd (omega arith);
    sets-position = λ k. ap (λ (p : Pos). p.position) (sym e);
    stays-there = λ s. absurd (still-apart (omega arith) (omega arith) s);
    keeps-known = λ s. absurd (either-kind (λ g. omega arith) (λ h. omega (arith, h.1)) s);
    leaves-known = λ s. absurd (either-kind (λ g. omega arith) (still-apart (omega arith) (omega arith)) s);
    sets-known = λ k. subst (λ (p : Pos). (p.known ≡ true) ↔ (node.state ≡ 0)) e sets;
  }

  by-sum : (known : Bool) (d : Skipped) {t : Told Pos} → node.kind ≡ 8 → distance_of def at.position node.number node.index ≡ Ok d
      → told.Keeps at.known node known → told.Adds at d.bits known node.index t → t ≡ gives q → Moves def at node q
  by-sum known d k f keeps (told.sum l) e = aligned known d k f keeps (gives_same e)
  by-sum known d k f keeps (told.past l) e = absurd (never-gives (omega arith) e)

  from : {t : Told Pos} → Advances def at node t → t ≡ gives q → Moves def at node q
  from (told.unknown h) e = absurd (never-gives (omega arith) e)
  from (told.badly h k) e = absurd (never-gives (omega arith) e)
  from (told.stays s k) e = staying k (gives_same e)
  from (told.item s h k known keeps (told.sum l)) e = adding known h k keeps (gives_same e)
  from (told.item s h k known keeps (told.past l)) e = absurd (never-gives (omega arith) e)
  from (told.aligns s k known keeps (told.by d f a)) e = by-sum known d k f keeps a e
  from (told.aligns s k known keeps (told.untold why f)) e = absurd (never-gives (number-some why) e)
  from (told.sets s k known sets) e = setting known k sets (gives_same e)

  -- An advance that is made leads where document 01 says, and is known when it says.
  pub advance-moves : advanced_of def at node ≡ Ok q → Moves def at node q
  advance-moves e = from (advance-told def at node) (ap told_moved e)

module _ (def : Bankdef) (at : Pos) (node : Node) where
  past-by : (known : Bool) (d : Skipped) {t : Told Pos} → SoundState node → node.kind ≡ 8
      → distance_of def at.position node.number node.index ≡ Ok d → told.Adds at d.bits known node.index t → told_number t ≡ 5 → PassesLimit def at node
  past-by known d s k f (told.sum l) e = absurd (omega arith)
  past-by known d s k f (told.past l) e = record { sound = s; bits = d.bits; adds = distance k d f; past = l }

  past-from : {t : Told Pos} → Advances def at node t → told_number t ≡ 5 → PassesLimit def at node
  past-from (told.unknown h) e = absurd (omega arith)
  past-from (told.badly h k) e = absurd (omega arith)
  past-from (told.stays s k) e = absurd (omega arith)
  past-from (told.item s h k known keeps (told.sum l)) e = absurd (omega arith)
  past-from (told.item s h k known keeps (told.past l)) e =
      record { sound = s; bits = node.number; adds = number h k; past = l }
  past-from (told.aligns s k known keeps (told.by d f a)) e = past-by known d s k f a e
  past-from (told.aligns s k known keeps (told.untold why f)) e =
      absurd (not-five-of def at.position node.number node.index why f e)
  past-from (told.sets s k known sets) e = absurd (omega arith)

  -- An advance is refused 5 only where the bits that it adds pass the limit,
  pub advance-five-only : told_number (told_moved (advanced_of def at node)) ≡ 5 → PassesLimit def at node
  advance-five-only e = past-from (advance-told def at node) e

  past_of : {bits : ℕ} → AddsBits def at node bits → bad_state node ≡ false → max_position < at.position + bits
      → told_moved (advanced_of def at node) ≡ refuses 5 (One node.index)
  past_of (number h k) s l =
      ap told_moved (sound-state def at node s ∙ item def at node h k ∙ pick-false _ _ (lt-leb (at.position + node.number) max_position l))
  past_of (distance k d f) s l =
      ap told_moved (sound-state def at node s ∙ aligning def at node k
      ∙ ap (λ (x : Result Skipped Refusal). moved_by_distance at x (stays_known at.known node) node.index) f
      ∙ pick-false _ _ (lt-leb (at.position + d.bits) max_position l))

  -- and wherever they do, with the node as its place.
  pub advance-five-when : PassesLimit def at node → told_moved (advanced_of def at node) ≡ refuses 5 (One node.index)
  advance-five-when p = past_of p.adds (sound-test node p.sound) p.past

  sight-by : (a : ℕ) (d : Skipped) {t : Told Pos} → OuterSymbol node → def.align ≡ Some a → distance_of def at.position a node.index ≡ Ok d
      → told.Adds at d.bits at.known node.index t → told_number t ≡ 5 → SightPasses def at node
  sight-by a d s f g (told.sum l) e = absurd (omega arith)
  sight-by a d s f g (told.past l) e = record { symbol = s; align = a; has-align = f; skips = d; has-skips = g; past = l }

  sight-from : {t : Told Pos} → Sees def at node t → told_number t ≡ 5 → SightPasses def at node
  sight-from (told.other h) e = absurd (omega arith)
  sight-from (told.unaligned h) e = absurd (omega arith)
  sight-from (told.aligned s a f (told.by d g m)) e = sight-by a d s f g m e
  sight-from (told.aligned s a f (told.untold why g)) e = absurd (not-five-of def at.position a node.index why g e)

  -- What a node sees is refused 5 only where a symbol of depth 0 is aligned past the limit,
  pub sight-five-only : told_number (told_moved (seen_of def at node)) ≡ 5 → SightPasses def at node
  sight-five-only e = sight-from (sight-told def at node) e

  -- and wherever it is.
  pub sight-five-when : SightPasses def at node → told_moved (seen_of def at node) ≡ refuses 5 (One node.index)
  unfolding seen_of
  sight-five-when p =
      ap told_moved (pick_true _ _ ((outer-symbol node).1 p.symbol)
      ∙ ap (λ (o : Option ℕ). label_aligned def o at node.index) p.has-align
      ∙ ap (λ (x : Result Skipped Refusal). moved_by_distance at x at.known node.index) p.has-skips
      ∙ pick-false _ _ (lt-leb (at.position + p.skips.bits) max_position p.past))
