use mathlib.Core.Path.{sym, ap, ap₂, subst, ◌∙◌}
use mathlib.Core.List.{◌++◌}
use Prim.Native.Nat.{ℕ}
use native.Mathlib.Omega.{arith}
use lib.ListN.{length, length-set}
use Rattle.std.proofs.lemmas.List.{length_push}
use Rattle.std.proofs.lemmas.Slice.Zip.{zip_turn, zip_end}
use Rattle.print_map.specs.Cells.{cell_text}
use Rattle.print_map.specs.Marks.{cell_of, cells_to}
use Rattle.print_map.proofs.Lines.{cells-none, cells-next, written_as}
use Rattle.print_text.specs.Ascii.{ascii}
use Rattle.print_text.specs.Puts.{Writes}
use Rattle.print_text.specs.Laws.Sets.{writes_then, writes_byte, writes-none}
use Rattle.print_map.proofs.cells.write_cells.Goals as goal

pub loop-mark-init : goal.loop-mark-init
loop-mark-init c =
    let a = c.args in
    (omega arith, omega arith, written_as (sym (cells-none a.marks.now a.numbers.now)) (writes-none a.out.now a.at))

pub bounds-out-end : goal.bounds-out-end
bounds-out-end c =
    let t = zip_turn c.args.marks.now c.args.numbers.now c.loop-mark.yielded _ _ c.next.new.self _ (cc) (cc) c.loop-mark.yielded_by _ c.in-Some.is c.next.ensures.steps in
    omega (arith, t.1)

pub overflow_add-end : goal.overflow_add-end
overflow_add-end c =
    let t = zip_turn c.args.marks.now c.args.numbers.now c.loop-mark.yielded _ _ c.next.new.self _ (cc) (cc) c.loop-mark.yielded_by _ c.in-Some.is c.next.ensures.steps in
    omega (arith, t.1)

pub write_cell-end-requires : goal.write_cell-end-requires
write_cell-end-requires c =
    let t = zip_turn c.args.marks.now c.args.numbers.now c.loop-mark.yielded _ _ c.next.new.self _ (cc) (cc) c.loop-mark.yielded_by _ c.in-Some.is c.next.ensures.steps in
    omega (arith, t.1, length-set {A = ℕ})

pub loop-mark-preserved : goal.loop-mark-preserved
loop-mark-preserved c =
    let a = c.args in
    let l = c.loop-mark in
    let w = c.write_cell-end.ensures in
    let n = length l.yielded in
    let t = zip_turn c.args.marks.now c.args.numbers.now c.loop-mark.yielded _ _ c.next.new.self _ (cc) (cc) c.loop-mark.yielded_by _ c.in-Some.is c.next.ensures.steps in
    let more = length_push l.yielded _ in
    let e = ap (cells_to a.marks.now a.numbers.now) more ∙ cells-next a.marks.now a.numbers.now n
    ∙ ap₂ (λ (m k : ℕ). cells_to a.marks.now a.numbers.now n ++ (ascii " " ++ cell_text (cell_of m k))) (sym (t.2 0)) (sym (t.3 0)) in (
      omega (arith, t.1, more),
      omega (arith, l.invariant.1, w.upper_bound, more),
      written_as (sym e) (writes_then l.invariant.2 (writes_then (writes_byte 32) w.writes)),
    )

pub returns-clause-writes : goal.returns-clause-writes
returns-clause-writes c =
    let a = c.args in
    let l = c.loop-mark in
    let e = zip_end a.marks.now a.numbers.now l.yielded _ _ c.next.new.self _ (cc) (cc) l.yielded_by c.in-None.is c.next.ensures.steps in
    subst (λ (n : ℕ). Writes (cells_to a.marks.now a.numbers.now n) a.out.now a.at l.end l.out) (omega (arith, e, c.requires.marks_len)) l.invariant.2
