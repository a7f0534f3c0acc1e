use Prim.Native.Nat.{ℕ, suc, ◌+◌, ◌-◌, ◌*◌, ◌<◌}
use mathlib.Core.Path.{◌≡◌, refl, ap, ap₂, ◌∙◌}
use mathlib.Core.List.{List, ◌∷◌, ◌++◌}
use borrow.Author.Rules.{rules}
use native.Mathlib.Omega.{arith}
use mir.Syntax.{w64}
use mir.Val.{to_z, of_z}
use lib.IntN.{ℤ, pos}
use lib.ListN.{set, get_or, replicate}
use Rattle.bankdef.specs.Check.{no_bank}
use Rattle.bankdef.specs.declared.Bankdef.{Bankdef}
use Rattle.form_fields.specs.Columns.{column}
use Rattle.form_fields.specs.Laws.Columns.{column-set}
use Rattle.c_tables.specs.Tables.{Given, given, bank_of, bank_in, banks_in}
use Rattle.c_tables.proofs.make_table.Goals as goal

-- a turn puts the next bank in the place of the first that is none
turn : (g : Given) (i : ℕ) → i < 16
    → set (banks_in g i ++ replicate (16 - i) no_bank) i (bank_in g i) ≡ banks_in g (i + 1) ++ replicate (16 - (i + 1)) no_bank
turn g i h =
    let e : 16 - i ≡ suc (16 - (i + 1)) = omega arith in
    let at : i ≡ 0 + i * 1 = omega arith in
    ap (λ (k : ℕ). set (banks_in g i ++ replicate k no_bank) i (bank_in g i)) e
    ∙ ap (λ (k : ℕ). set (banks_in g i ++ (no_bank ∷ replicate (16 - (i + 1)) no_bank)) i (bank_in g k)) at
    ∙ column-set (bank_in g) 1 0 i no_bank (replicate (16 - (i + 1)) no_bank)

pub loop-i-init : goal.loop-i-init
unfolding column
loop-i-init c =
    (omega arith, refl)

pub loop-i-preserved : goal.loop-i-preserved
unfolding bank_in
loop-i-preserved c =
    let a = c.args in
    let i = c.loop-i.i in
    let g = given a.units.now a.starts.now a.sizes.now a.offsets.now a.aligns.now a.flags.now a.bits.now in
    let read : to_z w64 (of_z w64 (get_or a.starts.now i (pos 0))) ≡ get_or a.starts.now i (pos 0) = search rules in
    let made : c.make_bank-bank.result ≡ bank_in g i =
    c.make_bank-bank.ensures
    ∙ ap
    (λ (z : ℤ). bank_of (get_or a.units.now i 0) z (get_or a.sizes.now i 0)
    (get_or a.offsets.now i 0) (get_or a.aligns.now i 0) (get_or a.flags.now i 0) (get_or a.bits.now i 0))
    read in
    (omega arith, ap₂ (λ (l : List Bankdef) (b : Bankdef). set l i b) c.loop-i.invariant.1 made ∙ turn g i (omega arith))
