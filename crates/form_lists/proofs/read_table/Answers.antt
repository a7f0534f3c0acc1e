use Prim.Native.Nat.{ℕ, suc, ◌+◌, ◌-◌, ◌*◌, ◌<◌, ◌≤◌}
use mathlib.Core.Path.{◌≡◌, refl, sym, ap, ap₂, ◌∙◌}
use mathlib.Core.List.{List, [], ◌++◌, append-nil}
use native.Mathlib.Omega.{arith}
use lib.ListN.{length, get_or, set, take, drop, replicate}
use Rattle.std.proofs.Common.{add-one, length-take-le}
use Rattle.std.proofs.Math.Seq.{drop-cons, drop-length}
use Rattle.std.proofs.lemmas.List.{drop-replicate, length-replicate}
use Rattle.form_fields.specs.declared.Kind.{Kind}
use Rattle.bankdef.specs.declared.Bankdef.{Bankdef}
use Rattle.bankdef.specs.Check.{no_bank}
use Rattle.form_fields.specs.Banks.{bank_at, banks_in}
use Rattle.form_fields.specs.Columns.{column}
use Rattle.form_fields.specs.Laws.Columns.{column-set}
use Rattle.form_lists.proofs.read_table.Goals as goal

-- a turn puts the next bank in its place
turn : (k : Kind) (file : List ℕ) (i : ℕ) (d : List Bankdef) → i < length d
    → set (banks_in k file i ++ drop i d) i (bank_at k file (k.heads * 4 + i * (3 + k.bank))) ≡ banks_in k file (i + 1) ++ drop (i + 1) d
turn k file i d h =
    ap (λ (rest : List Bankdef). set (banks_in k file i ++ rest) i (bank_at k file (k.heads * 4 + i * (3 + k.bank)))) (drop-cons d i no_bank h)
    ∙ column-set (bank_at k file) (3 + k.bank) (k.heads * 4) i (get_or d i no_bank) (drop (suc i) d)
    ∙ ap (λ (n : ℕ). banks_in k file (i + 1) ++ drop n d) (sym (add-one i))

pub loop-i-init : goal.loop-i-init
unfolding column
loop-i-init c =
    refl

pub loop-i-preserved : goal.loop-i-preserved
loop-i-preserved c =
    ap₂ (λ (l : List Bankdef) (b : Bankdef). set l c.loop-i.i b) c.loop-i.invariant c.read_bank.ensures
    ∙ turn c.args.kind c.args.file.now c.loop-i.i _ c.loop-i-test.true

-- behind the n that are read stands what stood there
whole : (k : Kind) (file : List ℕ) (items d : List Bankdef) (i n : ℕ) → items ≡ banks_in k file i ++ drop i (take n d) → i ≤ length (take n d)
    → length (take n d) ≤ i → d ≡ replicate 16 no_bank → n ≤ 16 → items ++ drop n d ≡ banks_in k file n ++ replicate (16 - n) no_bank
whole k file items d i n e low high none room =
    let long : length d ≡ 16 = ap length none ∙ length-replicate 16 no_bank in
    let full : length (take n d) ≡ n = length-take-le n d (omega arith) in
    let all : i ≡ length (take n d) = omega arith in
    let gone : drop i (take n d) ≡ [] = ap (λ (j : ℕ). drop j (take n d)) all ∙ drop-length (take n d) in
    ap (λ (l : List Bankdef). l ++ drop n d) (e ∙ ap (λ (l : List Bankdef). banks_in k file i ++ l) gone ∙ append-nil (banks_in k file i))
    ∙ ap₂ (λ (j : ℕ) (l : List Bankdef). banks_in k file j ++ l) (all ∙ full) (ap (drop n) none ∙ drop-replicate n 16 no_bank)

pub returns : goal.returns
returns c =
    whole c.args.kind c.args.file.now _ _ c.loop-i.i c.args.count c.loop-i.invariant c.loop-i.auto.i-end c.loop-i-test.false refl c.requires.count_bound
