-- The blocks that are found stand at the front of the lists lent for them. There is room for every block, since there are no more blocks than spans.
use Rattle.std.specs.Prelude.{Result, Ok, Err}
use mathlib.Core.Path.{◌≡◌, refl, sym, ap, ap₂, ◌∙◌}
use mathlib.Core.Bool.{true}
use mathlib.Core.List.{List, [], ◌∷◌}
use Prim.Native.Nat.{ℕ, ◌≤◌}
use native.Mathlib.Omega.{arith}
use borrow.Author.Tests.{le-leb}
use lib.ListN.{length, take, drop, length-map}
use lib.Seq.{take_at}
use Rattle.prelude.specs.Laws.Bools.{unlike}
use Rattle.prelude.specs.Laws.Pick.{pick_true}
use Rattle.prelude.specs.Limits.{max_nodes}
use Rattle.prelude.specs.declared.Refusal.{Refusal}
use Rattle.blocks.specs.Outcome.{origins, sizes, room_for, Contract}
use Rattle.blocks.specs.Spans.{spans_of, acceptable}
use Rattle.blocks.specs.Theorems.Acceptable.{acceptable-parts}
use Rattle.blocks.specs.Theorems.Count.{blocks-few}
use Rattle.blocks.specs.Walk.{block, blocks_of}
use Rattle.blocks.specs.declared.Block.{Block}
use Rattle.blocks.specs.Laws.Count.{spans-few}
use Rattle.record_write.specs.Cut.{blocks_in}

columns : (l : List Block) → blocks_in (origins l) (sizes l) ≡ l
unfolding blocks_in
columns [] = refl
columns (b ∷ l) = ap (λ (r : List Block). block b.origin b.size ∷ r) (columns l)

same_count : (m n : ℕ) → ◌≡◌ {A = Result ℕ Refusal} (Ok m) (Ok n) → m ≡ n
same_count m n e = cc

not-both : (n : ℕ) (why : Refusal) → Ok n ≡ Err why → ⊥
not-both n why e = unlike cc

module _ (words lengths os ss : List ℕ) (ho : length os ≡ max_nodes) (hs : length ss ≡ max_nodes) (y : acceptable words lengths ≡ true) (r : Result ℕ Refusal)
    (os₁ ss₁ : List ℕ) (c : Contract words lengths os ss r os₁ ss₁) where
  abbrev bs : List Block
  bs = blocks_of (spans_of words lengths)

  few : length bs ≤ max_nodes
  few = omega (arith, blocks-few (spans_of words lengths), spans-few words lengths, (acceptable-parts words lengths y).1)

  room : room_for bs os ss ≡ true
  room = rw (le-leb (length bs) (length os) (omega (arith, few, ho)), le-leb (length bs) (length ss) (omega (arith, few, hs))) refl

  found : r ≡ Ok (length bs)
  found = c.answer ∙ pick_true _ _ y ∙ pick_true _ _ room

  pub never-refused : (why : Refusal) → r ≡ Err why → ⊥
  never-refused why e = not-both (length bs) why (sym found ∙ e)

  module _ (count : ℕ) (e : r ≡ Ok count) where
    counted : count ≡ length bs
    counted = same_count count (length bs) (sym e ∙ found)

    pub count-few : count ≤ max_nodes
    count-few = omega (arith, few, counted)

    first : take count os₁ ≡ origins bs
    first =
        ap (take count) (c.first ∙ pick_true _ _ y ∙ pick_true _ _ room)
        ∙ take_at (origins bs) (drop (length (origins bs)) os) count (length-map bs _ ∙ sym counted)

    second : take count ss₁ ≡ sizes bs
    second =
        ap (take count) (c.second ∙ pick_true _ _ y ∙ pick_true _ _ room)
        ∙ take_at (sizes bs) (drop (length (sizes bs)) ss) count (length-map bs _ ∙ sym counted)

    pub first-long : length (take count os₁) ≡ count
    first-long = ap length first ∙ length-map bs _ ∙ sym counted

    pub second-long : length (take count ss₁) ≡ count
    second-long = ap length second ∙ length-map bs _ ∙ sym counted

    pub blocks-found : blocks_in (take count os₁) (take count ss₁) ≡ bs
    blocks-found = ap₂ blocks_in first second ∙ columns bs
