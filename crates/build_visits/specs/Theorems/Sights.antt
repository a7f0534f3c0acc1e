-- Theorems about what Sights defines.
use Rattle.std.specs.Prelude.{ℕ, ◌+◌, ◌<◌, ◌≡◌, set, length, Result, Ok, Err, Option}
use Rattle.std.proofs.Common.{arith, subst, ◌∙◌}
use Rattle.std.proofs.Math.Path.{refl, sym, ap}
use Rattle.std.proofs.Math.ListN.{get_or}
use Rattle.prelude.specs.Limits.{max_banks}
use Rattle.prelude.specs.declared.Refusal.{Refusal}
use Rattle.bankdef.specs.declared.Bankdef.{Bankdef}
use Rattle.iter.specs.Address.{output_position}
use Rattle.iter.specs.Crossing.{crossing_of}
use Rattle.iter.specs.Pace.{Paces, seen_in, seen_by}
use Rattle.iter.specs.Step.{no_lost, lost_after}
use Rattle.iter.specs.declared.Crossing.{Crossing}
use Rattle.iter.specs.declared.Lost.{Lost}
use Rattle.nodes.specs.declared.Node.{Node}
use Rattle.iter.specs.declared.Paced.{Paced}
use Rattle.iter.specs.declared.Pos.{Pos}
use Rattle.iter.specs.declared.Walk.{Walk}
use Rattle.nodes.specs.Lists.{Row}
use Rattle.resolver.specs.Once.{Program, walk_to}
use Rattle.resolver.specs.Laws.Walking.{in_table, its-record, sees, walks_next, walks-still}
use Rattle.resolver.specs.Walking.{Walks}
use Rattle.build_visits.specs.Visits.{seen_pos, visit_at}
use Rattle.build_visits.specs.Sights.{visit_by, Comes}

-- a step's numbers tell the position that the node sees; a node that is refused counts as at 0
pub paced-position : (d : Bankdef) (at : Pos) (n : Node) {c : Paced} → Paces d at n c → (seen_pos (seen_by c n.index)).position ≡ c.seen.position
paced-position d at n e =
    ap (λ (x : Crossing). (seen_pos x.seen).position) e.1
    ∙ alike (crossing_of d at n).seen
    ∙ sym (ap (λ (x : Paced). x.seen.position) e.0)
  where
    alike : (x : Result Pos Refusal) → (seen_pos x).position ≡ (seen_in x).position
    alike (Ok p) = refl
    alike (Err why) = refl

module _ {p : Program} {row : Row} {i : ℕ} {walk : Walk} {b : ℕ} {n : Node} (m : Comes p row i walk b n) where
  -- the bank that node i stands in is one of the table's, and has its place in the walk's lists
  pub in-banks : (b < max_banks) × (b < length p.banks.defs) × (b < length walk.at) × (b < length walk.lost)
  in-banks =
      let low : b < max_banks = in_table p m.switches m.room row i m.walks m.met m.stands in
      (low, omega (arith, m.room), omega (arith, m.walks.sixteen), omega (arith, m.walks.sums))

  module _ (o : Pos) (other : Bankdef) {c : Paced} (e : Paces (get_or p.banks.defs b other) (get_or walk.at b o) n c) where
    -- a step's numbers, with the place in the output, are the row's visit
    pub paced-is-visit : {out : Option ℕ} → out ≡ output_position (get_or p.banks.defs b other) c.seen.position
        → visit_by p row i n b (get_or p.banks.defs b other) (seen_by c n.index) out ≡ visit_at p row i
    unfolding walk_to
    paced-is-visit h =
        let d = get_or p.banks.defs b other in
        ap (visit_by p row i n b d (seen_by c n.index)) (h ∙ ap (output_position d) (sym (paced-position d (get_or walk.at b o) n e)))
        ∙ ap (λ (x : Result Pos Refusal). visit_by p row i n b d x (output_position d (seen_pos x).position))
        (sees p m.switches m.room row i m.walks m.met m.stands o d other e.1 refl)
        ∙ rw (
          its-record p m.switches m.room row i m.walks m.met m.stands other refl,
          m.stands,
          m.met,
          sym (ap (λ (x : Walk). x.bank) m.walks.is),
        )

    -- and the walk after it, with the step stored
    pub paced-next : {x : Lost} → x ≡ lost_after (get_or walk.lost b no_lost) c.skipped
        → Walks p row (i + 1) (record { at = set walk.at b c.after; lost = set walk.lost b x; bank = b })
    paced-next k =
        subst (λ (y : Lost). Walks p row (i + 1) (record { at = set walk.at b c.after; lost = set walk.lost b y; bank = b })) (sym k)
        (walks_next p m.switches m.room row i m.walks m.met m.stands o _ other e.1 refl)

    -- where nothing is skipped, with the sums as they are
    pub paced-still : c.skipped.bits ≡ 0 → Walks p row (i + 1) (record { at = set walk.at b c.after; lost = walk.lost; bank = b })
    paced-still none = walks-still p m.switches m.room row i m.walks m.met m.stands o _ other e.1 refl none
