-- Laws that Theorems/Entries rests on.
use Rattle.std.specs.Prelude.{◌≡◌, List, ℕ, ◌+◌, ◌-◌, ◌≤◌, ◌<◌, length, get_or, drop}
use Rattle.std.proofs.Common.{ap, ◌∙◌, arith, get_or-append-add, get_or-drop}
use Rattle.std.proofs.Math.ListN.{get_or-append}
use Rattle.bitvec.specs.Lists.{list_of}
use Rattle.bitvec.specs.Laws.Lists.{length-list_of, get_d-list_of}
use Rattle.build_map.specs.Map.{shown}

pub shown-at : (n : ℕ) (f : ℕ → ℕ) (old : List ℕ) (i : ℕ) → i < n → get_or (shown n f old) i 0 ≡ f i
shown-at n f old i h =
    get_or-append (list_of n f) (drop n old) 0 i (let e = length-list_of n f in let b : i < length (list_of n f) = omega arith in b)
    ∙ get_d-list_of n f i h

pub shown-past : (n : ℕ) (f : ℕ → ℕ) (old : List ℕ) (i : ℕ) → n ≤ i → get_or (shown n f old) i 0 ≡ get_or old i 0
shown-past n f old i h =
    let long = length-list_of n f in
    let is : i ≡ length (list_of n f) + (i - n) = omega arith in
    let back : n + (i - n) ≡ i = omega arith in
    ap (λ (k : ℕ). get_or (shown n f old) k 0) is
    ∙ get_or-append-add (list_of n f) (drop n old) (i - n) 0
    ∙ get_or-drop n old (i - n) 0
    ∙ ap (λ (k : ℕ). get_or old k 0) back
