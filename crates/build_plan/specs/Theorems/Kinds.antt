-- Which kinds are written, placed, offered and spans, in document 01's numbers: "0 nothing, 1 bank switch, 2 label, 3 constant, 4 instruction,
-- 5 data of declared size, 6 data of open size, 7 reserve, 8 align, 9 addr, 10 assert".
use Rattle.std.specs.Prelude.{◌≡◌, true, ◌⊎◌, ◌↔◌, ◌≤◌, eqb, leb}
use Rattle.std.proofs.Common.{inl, inr, ⊎_elim, arith, leb-true, le-leb, eqb-true, eq-eqb}
use Rattle.std.proofs.Math.Decide.{dec_le}
use Rattle.prelude.specs.Laws.Bools.{or_left, or_right, or-told, both}
use Rattle.nodes.specs.declared.Node.{Node}
use Rattle.build_visits.specs.Items.{is_written}
use Rattle.build_visits.specs.Spans.{is_span}
use Rattle.build_plan.specs.Placing.{is_reserve, is_offered, is_placed}

module _ (n : Node) where
  -- "written items (4, 5, 6)"
  pub written-exactly : (is_written n ≡ true) ↔ ((4 ≤ n.kind) × (n.kind ≤ 6))
  written-exactly = (
    λ e. let h = both (leb 4 n.kind) (leb n.kind 6) e in (leb-true 4 n.kind h.0, leb-true n.kind 6 h.1),
    λ h. rw (le-leb 4 n.kind h.0, le-leb n.kind 6 h.1),
  )

  -- "Written items, and reserves in banks with an offset, are offered": kinds 4 to 7
  pub offered-exactly : (is_offered n ≡ true) ↔ ((4 ≤ n.kind) × (n.kind ≤ 7))
  offered-exactly = (
    λ e.
        ⊎_elim
        (λ (w : is_written n ≡ true). let h = written-exactly.0 w in (h.0, omega (arith, h.1)))
        (λ (r : is_reserve n ≡ true). let h = eqb-true n.kind 7 r in (omega arith, omega arith))
        (or-told (is_written n) (is_reserve n) e),
    λ h.
        elim (dec_le n.kind 6) [
          | yes low ↦ or_left (is_written n) (is_reserve n) (written-exactly.1 (h.0, low))
          | no high ↦ or_right (is_written n) (is_reserve n) (eq-eqb n.kind 7 (omega (arith, h.1)))
        ],
  )

  -- "labels (size 0), written items (4, 5, 6) and reserves"
  pub placed-exactly : (is_placed n ≡ true) ↔ ((n.kind ≡ 2) ⊎ ((4 ≤ n.kind) × (n.kind ≤ 7)))
  placed-exactly = (
    λ e.
        ⊎_elim
        (λ (l : eqb n.kind 2 ≡ true). inl (eqb-true n.kind 2 l))
        (λ (o : is_offered n ≡ true). inr (offered-exactly.0 o))
        (or-told (eqb n.kind 2) (is_offered n) e),
    λ h.
        ⊎_elim
        (λ (l : n.kind ≡ 2). or_left (eqb n.kind 2) (is_offered n) (eq-eqb n.kind 2 l))
        (λ (o : (4 ≤ n.kind) × (n.kind ≤ 7)). or_right (eqb n.kind 2) (is_offered n) (offered-exactly.1 o))
        h,
  )

  -- "Spans are labels (size 0) and written items"
  pub span-exactly : (is_span n ≡ true) ↔ ((n.kind ≡ 2) ⊎ ((4 ≤ n.kind) × (n.kind ≤ 6)))
  span-exactly = (
    λ e.
        ⊎_elim
        (λ (l : eqb n.kind 2 ≡ true). inl (eqb-true n.kind 2 l))
        (λ (w : is_written n ≡ true). inr (written-exactly.0 w))
        (or-told (eqb n.kind 2) (is_written n) e),
    λ h.
        ⊎_elim
        (λ (l : n.kind ≡ 2). or_left (eqb n.kind 2) (is_written n) (eq-eqb n.kind 2 l))
        (λ (w : (4 ≤ n.kind) × (n.kind ≤ 6)). or_right (eqb n.kind 2) (is_written n) (written-exactly.1 w))
        h,
  )
