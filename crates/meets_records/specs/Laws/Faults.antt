-- A fault depends on the lines up to it: a file with the same lines so far has it too. Whatever the format.
use Rattle.std.specs.Prelude.{◌≡◌, refl, Bool, true, false, List, [], ◌∷◌, ◌++◌, ℕ, zero, suc, ◌<◌, take}
use Rattle.std.proofs.Common.{sym, ap, subst, arith}
use Rattle.prelude.specs.Laws.Bools.{clash, unlike}
use Rattle.prelude.specs.Pick.{pick}
use Rattle.record_lines.specs.Items.{Item, gives, passes, ends, bad, Format}
use Rattle.record_lines.specs.Pieces.{Piece}
use Rattle.record_scan.specs.Reading.{Read, sound, faulty, later, new_pieces, fine, is_none, go_on, read_from}

tail_of : List (List ℕ) → List (List ℕ)
tail_of [] = []
tail_of (l ∷ ls) = ls

head_of : List (List ℕ) → List ℕ
head_of [] = []
head_of (l ∷ ls) = l

same-tail : {l m : List ℕ} {a b : List (List ℕ)} → l ∷ a ≡ m ∷ b → a ≡ b
unfolding tail_of
same-tail e = ap tail_of e

same_head : {l m : List ℕ} {a b : List (List ℕ)} → l ∷ a ≡ m ∷ b → l ≡ m
unfolding head_of
same_head e = ap head_of e

not-empty : {l : List ℕ} {a : List (List ℕ)} → l ∷ a ≡ [] → ⊥
not-empty e = let z : ◌≡◌ {A = ℕ} (suc 0) 0 = cc in omega arith

pub later-fault : (x : Read) (i : ℕ) → later x ≡ faulty i → (j : ℕ) × (i ≡ suc j) × (x ≡ faulty j)
later-fault (sound l) i e = unlike cc
later-fault (faulty j) i e = (j, cc, refl)

module _ (load : ℕ) (given : List Piece) (rest rest' : ℕ → List Piece → Read) (none none' : Bool) (i : ℕ)
    (go : (j : ℕ) → i ≡ suc j → (state : ℕ) (g : List Piece) → rest state g ≡ faulty j → rest' state g ≡ faulty j)
    (last : none ≡ false → 0 < i → none' ≡ false) where
  past : (x y : Read) → ((j : ℕ) → i ≡ suc j → x ≡ faulty j → y ≡ faulty j) → later x ≡ faulty i → later y ≡ faulty i
  past x y h e =
      let k = later-fault x i e in
      let f = h k.0 k.1 k.2 in
      rw f (ap faulty (sym k.1))

  fine-past : (t : Bool) (x y : Read) → ((j : ℕ) → i ≡ suc j → x ≡ faulty j → y ≡ faulty j) → pick t (later x) (faulty 0) ≡ faulty i
      → pick t (later y) (faulty 0) ≡ faulty i
  fine-past true x y h e = past x y h e
  fine-past false x y h e = e

  end-past : (a b : Bool) → (a ≡ false → 0 < i → b ≡ false) → pick a (sound given) (faulty 1) ≡ faulty i → pick b (sound given) (faulty 1) ≡ faulty i
  end-past true b h e = unlike cc
  end-past false b h e =
      let one : 1 ≡ i = cc in
      rw (h refl (omega arith)) e

  item-past : (x : Item) → go_on load given none rest x ≡ faulty i → go_on load given none' rest' x ≡ faulty i
  item-past (gives a b s) e =
      let new = new_pieces (gives a b s) in
      fine-past (fine load given new) (rest s (given ++ new)) (rest' s (given ++ new)) (λ j k f. go j k s (given ++ new) f) e
  item-past (passes s) e = past (rest s given) (rest' s given) (λ j k f. go j k s given f) e
  item-past ends e = end-past none none' last e
  item-past bad e = e

pub same-fault : (f : Format) (load : ℕ) (ls ms : List (List ℕ)) (i state : ℕ) (given : List Piece) → take (suc i) ms ≡ take (suc i) ls
    → read_from f load ls state given ≡ faulty i → read_from f load ms state given ≡ faulty i
unfolding read_from
same-fault f load [] [] i state given t e = e
same-fault f load [] (m ∷ ms) i state given t e = absurd (not-empty t)
same-fault f load (l ∷ ls) [] i state given t e = absurd (not-empty (sym t))
same-fault f load (l ∷ ls) (m ∷ ms) i state given t e =
    let line : l ≡ m = sym (same_head t) in
    let rest : take i ms ≡ take i ls = same-tail t in
    subst (λ (x : List ℕ). go_on load given (is_none ms) (read_from f load ms) (f state x) ≡ faulty i) line
    (item-past load given (read_from f load ls) (read_from f load ms) (is_none ls) (is_none ms) i
    (λ j k s g h. same-fault f load ls ms j s g (subst (λ (n : ℕ). take n ms ≡ take n ls) k rest) h)
    (ends-too i ls ms rest) (f state l) e)
  where
    ends-too : (i : ℕ) (ls ms : List (List ℕ)) → take i ms ≡ take i ls → is_none ls ≡ false → 0 < i → is_none ms ≡ false
    ends-too zero ls ms t e h = absurd (omega arith)
    ends-too (suc i) [] ms t e h = absurd (clash refl e)
    ends-too (suc i) (l ∷ ls) [] t e h = absurd (not-empty (sym t))
    ends-too (suc i) (l ∷ ls) (m ∷ ms) t e h = refl
