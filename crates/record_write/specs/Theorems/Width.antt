-- The width that a caller of `write_srec` asks for: when it is one, and when nothing is malformed.
use Rattle.std.specs.Prelude.{◌≡◌, ℕ, true, ◌&&◌, ◌↔◌, List, length, ◌==◌}
use Rattle.std.proofs.Common.{sym, subst, eqb-true}
use Rattle.prelude.specs.Laws.Bools.{either, both}
use Rattle.record_srec_line.specs.ReadBack.{Width, two, four}
use Rattle.record_write.specs.Checks.{all_placed, all_short}
use Rattle.record_write.specs.Cut.{blocks_in}
use Rattle.record_write.specs.Exactly.{WellPlaced, FitsWidth, narrow, wide}
use Rattle.record_write.specs.Laws.Exactly.{each-short, short-each}
use Rattle.record_write.specs.Theorems.Exactly.{placed-exactly}
use Rattle.record_write.specs.Srec.{width_ok, places_ok}

module _ (width load : ℕ) (offsets sizes : List ℕ) where
  fits-when : FitsWidth width load offsets sizes → width_ok width load (blocks_in offsets sizes) ≡ true
  fits-when (wide e) = rw e
  fits-when (narrow e s) = rw (e, each-short load offsets sizes s)

  pub width-exactly : (width_ok width load (blocks_in offsets sizes) ≡ true) ↔ FitsWidth width load offsets sizes
  width-exactly = (
    λ e.
        either (width == 4) (λ t. wide (eqb-true width 4 t))
        (λ f.
        let (t, s) = both (width == 2) (all_short load (blocks_in offsets sizes)) (rw f at e) in
        narrow (eqb-true width 2 t) (short-each load offsets sizes s)),
    λ w. fits-when w,
  )

  -- Nothing is malformed: the width, and the blocks as for Intel HEX.
  pub places-exactly : (places_ok offsets sizes load width ≡ true) ↔ (FitsWidth width load offsets sizes × WellPlaced load offsets sizes)
  places-exactly = (
    λ e.
        let (w, p) = both (width_ok width load (blocks_in offsets sizes)) (length offsets == length sizes && all_placed load (blocks_in offsets sizes)) e in
        (width-exactly.0 w, (placed-exactly load offsets sizes).0 p),
    λ h. rw (width-exactly.1 h.0) ((placed-exactly load offsets sizes).1 h.1),
  )

  pub width_is : FitsWidth width load offsets sizes → Width width
  width_is (wide e) = subst Width (sym e) four
  width_is (narrow e s) = subst Width (sym e) two
