-- Theorems about what Acceptable defines.
use Rattle.std.specs.Prelude.{◌≡◌, true, false, List, ◌↔◌, ℕ, ◌≤◌, leb, eqb, length, get_or}
use Rattle.std.proofs.Common.{le-leb, leb-true, eq-eqb, eqb-true}
use Rattle.prelude.specs.Limits.{max_nodes}
use Rattle.prelude.specs.Pick.{pick}
use Rattle.blocks.specs.Offsets.{offset_of}
use Rattle.blocks.specs.Spans.{spans_of, all_within, acceptable}
use Rattle.blocks.specs.Acceptable.{WellLent}
use Rattle.blocks.specs.Laws.Acceptable.{both_true, each_within, offset-fits, within-each, within-parts}

module _ (words sizes : List ℕ) where
  pub acceptable-parts : acceptable words sizes ≡ true
      → (length words ≡ length sizes) × (length words ≤ max_nodes) × (all_within (spans_of words sizes) ≡ true)
  acceptable-parts e =
      let a = both_true (eqb (length words) (length sizes)) (pick (leb (length words) max_nodes) (all_within (spans_of words sizes)) false) e in
      let b = both_true (leb (length words) max_nodes) (all_within (spans_of words sizes)) a.1 in
      (eqb-true (length words) (length sizes) a.0, leb-true (length words) max_nodes b.0, b.1)

  -- The test says yes exactly where spans are lent as they should be.
  pub acceptable-exactly : (acceptable words sizes ≡ true) ↔ WellLent words sizes
  acceptable-exactly = (
    λ e.
        let p = acceptable-parts e in
        record {
          paired = p.0;
          few = p.1;
          each = λ k lt.
              let w = within-parts (get_or words k 0) (get_or sizes k 0) (each_within words sizes p.0 p.2 k lt) in
              (offset-fits (offset_of (get_or words k 0)) w.0, w.1);
        },
    λ w. rw (eq-eqb (length words) (length sizes) w.paired, le-leb (length words) max_nodes w.few) (within-each words sizes w.each),
  )
