-- Laws that Theorems/Shaped rests on.
use Rattle.std.specs.Prelude.{Bool, true, false, List, [], ◌∷◌, map, ◌≡◌, refl, ℕ, suc, ◌≤◌, length}
use Rattle.std.proofs.Common.{arith}
use Rattle.prelude.specs.Laws.Bools.{clash}
use Rattle.prelude.specs.Pick.{pick}
use Rattle.bankdef.specs.Search.{first_where}
use Rattle.form_rewrite.specs.Turning.{switch_to, is_switch, strays, turned}

turned-stays : (node : List ℕ) → strays 0 (turned 0 node) ≡ false
turned-stays node = go (is_switch node) refl
  where
    go : (t : Bool) → is_switch node ≡ t → strays 0 (pick t (switch_to 0) node) ≡ false
    go true e = refl
    go false e = rw e refl

passes-by : (t : Bool) (a b : ℕ) → t ≡ false → a ≤ b → suc a ≤ pick t 0 (suc b)
passes-by true a b e h = absurd (clash refl e)
passes-by false a b e h = omega (arith, h)

pub none-stray : (nodes : List (List ℕ)) → length (map (turned 0) nodes) ≤ first_where (strays 0) (map (turned 0) nodes)
unfolding first_where
none-stray [] = omega arith
none-stray (node ∷ nodes) =
    let l = map (turned 0) nodes in
    passes-by (strays 0 (turned 0 node)) (length l) (first_where (strays 0) l) (turned-stays node) (none-stray nodes)
