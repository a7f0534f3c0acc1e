-- Theorems about what OffersWithin defines.
use Rattle.std.specs.Prelude.{ℕ, ◌≤◌, ◌≡◌, refl, Bool, Ok, Result, Option, Some, None}
use Rattle.std.proofs.Common.{sym, ap, subst, ◌∙◌, arith}
use mathlib.Core.List.Memᴰ
use mathlib.Core.List.{Memᴰ}
use Rattle.prelude.specs.Limits.{max_position}
use Rattle.prelude.specs.declared.Refusal.{Refusal}
use Rattle.iter.specs.Address.{out_at}
use Rattle.iter.specs.declared.Pos.{Pos}
use Rattle.nodes.specs.Lists.{Row}
use Rattle.resolver.specs.Once.{Program, node, bank_of, walk_to}
use Rattle.overlap_checker.specs.Folds.{AllWithin}
use Rattle.overlap_checker.specs.Interval.{Within}
use Rattle.overlap_checker.specs.State.{State, empty_state}
use Rattle.overlap_checker.specs.declared.Entry.{Entry}
use Rattle.build_visits.specs.Visits.{seen_pos, position_of, visit_at, visits_to}
use Rattle.build_visits.specs.Laws.VisitLaws.{each_from, member-visit}
use Rattle.build_visits.specs.declared.Visit.{Visit}
use Rattle.build_plan.specs.Theorems.Kinds.{offered-exactly}
use Rattle.build_plan.specs.Placing.{is_offered, bits_at, offer_of, offers_of, holds, placed_all}
use Rattle.build_plan.specs.Laws.PlacingLaws.{picked-some, each-accepted, seen-placing}
use Rattle.output.specs.Laws.OffersWithin.{step-within}
use Rattle.output.specs.OffersWithin.{OffsetsFit}

module _ (p : Program) (row : Row) (fits : OffsetsFit p.banks) where
  -- the offer of a node that sees a position
  offer-within : (j : ℕ) (at : Pos) → (visit_at p row j).seen ≡ Ok at → (e : Entry) → Memᴰ e (offer_of (visit_at p row j)) → Within e
  offer-within j at sees e m =
      let n = node p row j in
      let def = bank_of p.banks (walk_to p row j) n in
      let picked = picked-some (is_offered n) (bits_at (visit_at p row j).out n) m in
      let kind = (offered-exactly n).0 picked.0 in
      let ends = step-within def n kind.0 kind.1 (walk_to p row j) at sees in
      let here : position_of (visit_at p row j) ≡ at.position = ap (λ (x : Result Pos Refusal). (seen_pos x).position) sees in
      placed def.offset (fits _) (position_of (visit_at p row j)) (omega (arith, ends, here)) (omega (arith, ends)) picked.1
    where
      placed : (o : Option ℕ) → ((offset : ℕ) → o ≡ Some offset → offset ≤ max_position) → (at : ℕ) → at ≤ max_position → (node p row j).number ≤ max_position
          → Memᴰ e (bits_at (out_at o at) (node p row j)) → Within e
      placed None low at b s k = absurd (Memᴰ.not-nil k)
      placed (Some offset) low at b s k =
          subst Within (sym (Memᴰ.eq_of_singleton k)) (omega (arith, low offset refl), s)

  -- so are those of the first n nodes, where they are all accepted
  pub offers-within : (closed : Bool) (n : ℕ) (s : State) → placed_all closed (visits_to p row n) ≡ holds s → AllWithin (offers_of (visits_to p row n))
  offers-within closed n s placed e m =
      let w = each_from offer_of (visits_to p row n) m in
      let v = member-visit p row n w.1 in
      let acc = each-accepted closed empty_state s (visits_to p row n) placed w.1 in
      let seen = seen-placing closed acc.0 w.0 w.0.seen acc.1 in
      offer-within v.0 seen.0 (ap (λ (u : Visit). u.seen) (sym v.2) ∙ seen.1) e
      (subst (λ (u : Visit). Memᴰ e (offer_of u)) v.2 w.2)
