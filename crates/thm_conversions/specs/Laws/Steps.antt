-- Laws that proofs about Steps need.
use Rattle.std.specs.Prelude.{ℕ, suc, ◌+◌, ◌≡◌, Bool, true, false, ◌&&◌, ◌||◌, ◌∷◌, eqb, leb, replicate, Result, Ok, Err, Option, None, Some}
use Rattle.std.proofs.Math.Path.{refl, ap}
use Rattle.std.proofs.Common.{◌∙◌, eqb-true}
use Rattle.prelude.specs.Laws.Bools.{either}
use Rattle.prelude.specs.Limits.{max_position}
use Rattle.prelude.specs.Pick.{pick}
use Rattle.prelude.specs.declared.Refusal.TheVariants.{Malformed}
use Rattle.prelude.specs.declared.Refusal.{Refusal}
use Rattle.bankdef.specs.declared.Bankdef.{Bankdef}
use Rattle.iter.specs.Distance.{tellable, address_in_bits, distance_to, distance_of, no_skip}
use Rattle.iter.specs.Step.{origin, no_lost, moved_by, aligned_to, outermost_symbol, label_aligned, label_skips, seen_of, bad_state, moved_on, advanced_of}
use Rattle.iter.specs.Step.{skips_by, when_made, seen_skips, advance_skips, lost_after, bank_after, stopped, stepped_to, step_skips, stepped_from, step_of}
use Rattle.iter.specs.declared.Lost.{Lost}
use Rattle.nodes.specs.declared.Node.{Node}
use Rattle.nodes.specs.declared.kinds.Doing.{Doing}
use Rattle.nodes.specs.declared.kinds.Doing.TheVariants.{Stays, Switches, Symbol, Adds, Aligns, Sets, Unknown}
use Rattle.nodes.specs.Kinds.{does_of, by_doing}
use Rattle.iter.specs.declared.Pos.{Pos}
use Rattle.iter.specs.declared.Skipped.{Skipped}
use Rattle.iter.specs.declared.Stepped.{Stepped}
use Rattle.iter.specs.declared.Walk.{Walk}
use Rattle.thm_conversions.specs.Widened.{shifted}
use Rattle.thm_conversions.specs.Steps.{up}

abbrev pub shifted_moved : Result Pos Refusal → Result Pos Refusal
shifted_moved (Ok p) = Ok p
shifted_moved (Err why) = Err (shifted why)

-- a walk that has stood in bank 0 alone, and one that has stood in bank 1 alone
abbrev pub in_first : Pos → Lost → Walk
in_first at lost = record { at = at ∷ replicate 15 origin; lost = lost ∷ replicate 15 no_lost; bank = 0 }

abbrev pub in_second : Pos → Lost → Walk
in_second at lost = record { at = origin ∷ at ∷ replicate 14 origin; lost = no_lost ∷ lost ∷ replicate 14 no_lost; bank = 1 }

-- Two steps that go alike: they see the same, or are refused at node and node + 1, and the walks stand alike.
pub record Alike (s t : Stepped) : Type 0 where
  pub at : Pos
  pub lost : Lost
  pub first : s.walk ≡ in_first at lost
  pub second : t.walk ≡ in_second at lost
  pub seen : t.seen ≡ shifted_moved s.seen

-- ---- moves

record Shift (x u : Result Pos Refusal) : Type 0 where
  is : u ≡ shifted_moved x

pick-shifts : (t : Bool) {x y u v : Result Pos Refusal} → Shift x u → Shift y v → Shift (pick t x y) (pick t u v)
pick-shifts true e f = e
pick-shifts false e f = f

doing-shifts : (d : Doing) {a b c s u a' b' c' s' u' : Result Pos Refusal} → Shift a a' → Shift b b' → Shift c c' → Shift s s' → Shift u u'
    → Shift (by_doing d a b c s u) (by_doing d a' b' c' s' u')
doing-shifts Stays a b c s u = a
doing-shifts Switches a b c s u = a
doing-shifts Symbol a b c s u = a
doing-shifts Adds a b c s u = b
doing-shifts Aligns a b c s u = c
doing-shifts Sets a b c s u = s
doing-shifts Unknown a b c s u = u

moved-shifts : (at : Pos) (bits : ℕ) (known : Bool) (i : ℕ) → Shift (moved_by at bits known i) (moved_by at bits known (suc i))
moved-shifts at bits known i = pick-shifts (leb (at.position + bits) max_position) (record { is = refl }) (record { is = refl })

aligned-shifts : (def : Bankdef) (at : Pos) (a : ℕ) (known : Bool) (i : ℕ) → Shift (aligned_to def at a known i) (aligned_to def at a known (suc i))
unfolding distance_of
aligned-shifts def at a known i =
    either (tellable def)
    (λ t. rw t (moved-shifts at (distance_to (address_in_bits def at.position) a) known i))
    (λ t. rw t (record { is = refl }))

skips-alike : (def : Bankdef) (position a i : ℕ) → skips_by (distance_of def position a (suc i)) ≡ skips_by (distance_of def position a i)
unfolding distance_of
skips-alike def position a i = either (tellable def) (λ t. rw t) (λ t. rw t)

made_alike : (m : Result Pos Refusal) {s t : Skipped} → s ≡ t → when_made (shifted_moved m) s ≡ when_made m t
made_alike (Ok p) e = e
made_alike (Err why) e = refl

module _ (n : Node) where
  pub symbol-alike : outermost_symbol (up n) ≡ outermost_symbol n
  symbol-alike = go n.kind n.operand
    where
      go : (k o : ℕ) → ((eqb k 2 || eqb k 3) && eqb (pick (eqb k 1) 1 o) 0) ≡ ((eqb k 2 || eqb k 3) && eqb o 0)
      go k o = either (eqb k 1) (λ e. rw (eqb-true k 1 e)) (λ e. rw e)

  label-shifts : (def : Bankdef) (o : Option ℕ) (at : Pos) → Shift (label_aligned def o at n.index) (label_aligned def o at (suc n.index))
  label-shifts def None at = record { is = refl }
  label-shifts def (Some a) at = aligned-shifts def at a at.known n.index

  pub seen-shifts : (def : Bankdef) (at : Pos) → seen_of def at (up n) ≡ shifted_moved (seen_of def at n)
  unfolding seen_of
  seen-shifts def at =
      ap (λ (t : Bool). pick t (label_aligned def def.align at (suc n.index)) (Ok at)) symbol-alike
      ∙ (pick-shifts (outermost_symbol n) (label-shifts def def.align at) (record { is = refl })).is

  on-shifts : (def : Bankdef) (at : Pos) → Shift (moved_on def at n) (moved_on def at (up n))
  unfolding moved_on
  on-shifts def at =
      doing-shifts (does_of n.kind) (record { is = refl }) (moved-shifts at n.number _ n.index) (aligned-shifts def at n.number _ n.index)
      (record { is = refl }) (record { is = refl })

  pub advanced-shifts : (def : Bankdef) (at : Pos) → advanced_of def at (up n) ≡ shifted_moved (advanced_of def at n)
  unfolding advanced_of
  advanced-shifts def at = (pick-shifts (bad_state n) (record { is = refl }) (on-shifts def at)).is

  label-skips : (def : Bankdef) (o : Option ℕ) (at : Pos) → label_skips def o at (suc n.index) ≡ label_skips def o at n.index
  label-skips def None at = refl
  label-skips def (Some a) at = skips-alike def at.position a n.index

  same-pick : (t u : Bool) {x y : Skipped} → t ≡ u → x ≡ y → pick t x no_skip ≡ pick u y no_skip
  same-pick t u e f = rw (e, f)

  seen-skips : (def : Bankdef) (at : Pos) → seen_skips def at (up n) ≡ seen_skips def at n
  unfolding seen_skips
  seen-skips def at =
      ap (λ (m : Result Pos Refusal). when_made m (pick (outermost_symbol (up n)) (label_skips def def.align at (suc n.index)) no_skip)) (seen-shifts def at)
      ∙ made_alike (seen_of def at n) (same-pick (outermost_symbol (up n)) (outermost_symbol n) symbol-alike (label-skips def def.align at))

  advance-skips : (def : Bankdef) (at : Pos) → advance_skips def at (up n) ≡ advance_skips def at n
  unfolding advance_skips
  advance-skips def at =
      ap
      (λ (m : Result Pos Refusal). when_made m (pick (eqb n.kind 8) (skips_by (distance_of def at.position n.number (suc n.index))) no_skip))
      (advanced-shifts def at)
      ∙ made_alike (advanced_of def at n)
      (same-pick (eqb n.kind 8) (eqb n.kind 8) refl (skips-alike def at.position n.number n.index))

  skips : (def : Bankdef) (at p : Pos) → step_skips def at p (up n) ≡ step_skips def at p n
  skips def at p = same (seen-skips def at) (advance-skips def p)
    where
      same : {a b c d : Skipped} → a ≡ b → c ≡ d → pick (eqb n.kind 8) c a ≡ pick (eqb n.kind 8) d b
      same e f = rw (e, f)

  -- ---- the step

  -- every switch goes to bank 0 in the one layout, to bank 1 in the other
  module _ (home : n.kind ≡ 1 → n.operand ≡ 0) where
    pub stays-first : bank_after 0 n ≡ 0
    stays-first = either (eqb n.kind 1) (λ e. rw (e, home (eqb-true n.kind 1 e))) (λ e. rw e)

    pub stays-second : bank_after 1 (up n) ≡ 1
    stays-second = either (eqb n.kind 1) (λ e. rw e) (λ e. rw e)

    module _ (def : Bankdef) (at : Pos) (lost : Lost) where
      moves : (p : Pos) (s : Skipped) (m : Result Pos Refusal) → Alike (stepped_to (in_first at lost) 0 p s m) (stepped_to (in_second at lost) 1 p s (shifted_moved m))
      moves p s (Ok q) = record { at = q; lost = lost_after lost s; first = refl; second = refl; seen = refl }
      moves p s (Err why) = record { at = at; lost = lost; first = refl; second = refl; seen = refl }

      sees : (m : Result Pos Refusal) → Alike (stepped_from def (in_first at lost) 0 n m) (stepped_from def (in_second at lost) 1 (up n) (shifted_moved m))
      sees (Ok p) = rw (skips def at p, advanced-shifts def p) (moves p (step_skips def at p n) (advanced_of def p n))
      sees (Err why) = record { at = at; lost = lost; first = refl; second = refl; seen = refl }

      tested : (t : Bool) (m : Result Pos Refusal)
          → Alike (pick t (stopped (in_first at lost) (Malformed n.index)) (stepped_from def (in_first at lost) 0 n m))
          (pick t (stopped (in_second at lost) (Malformed (suc n.index))) (stepped_from def (in_second at lost) 1 (up n) (shifted_moved m)))
      tested true m = record { at = at; lost = lost; first = refl; second = refl; seen = refl }
      tested false m = sees m

      pub steps_alike : Alike (step_of def (in_first at lost) n) (step_of def (in_second at lost) (up n))
      unfolding step_of
      steps_alike = rw (stays-first, stays-second, seen-shifts def at) (tested (bad_state n) (seen_of def at n))
