-- Whether there is room for blocks in what is lent for them, and what is written.
use Rattle.std.specs.Prelude.{◌≡◌, refl, true, List, [], ◌∷◌, ◌++◌, ℕ, suc, ◌≤◌, ◌<◌, leb, length}
use Rattle.std.proofs.Common.{◌∙◌, zero-add, le-leb}
use Rattle.std.proofs.lemmas.Bool.{lt-leb}
use Rattle.std.proofs.lemmas.List.{length-map}
use Rattle.std.proofs.lemmas.List.Edits.{sets, sets-eq}
use Rattle.blocks.specs.declared.Block.{Block}
use Rattle.blocks.specs.Outcome.{origins, sizes, over, WrittenAs}
use Rattle.blocks.specs.Put.{Put}

-- Nothing is stored where there is no room.
sets-nil : (n : ℕ) (v : List ℕ) → sets [] n v ≡ []
sets-nil n [] = refl
sets-nil n (a ∷ v) = sets-nil (suc n) v

-- What is stored from the start on.
pub sets_over : (l v : List ℕ) → length v ≤ length l → sets l 0 v ≡ over v l
sets_over l v h = sets-eq v l 0 (rw zero-add h) ∙ rw zero-add

-- The blocks and what is lent for them; and a walk that is lent no room, which counts them and writes nothing.
module _ {A : Type 0} (found : ℕ → A) (short : A) (blocks : List Block) (os ss : List ℕ) {count : ℕ} {os₁ ss₁ : List ℕ}
    (counted : Put blocks 0 [] [] count os₁ ss₁) where
  is_all : count ≡ length blocks
  is_all = counted.counted ∙ zero-add (length blocks)

  os-kept : os₁ ++ os ≡ os
  os-kept = rw (counted.first ∙ sets-nil 0 (origins blocks))

  ss-kept : ss₁ ++ ss ≡ ss
  ss-kept = rw (counted.second ∙ sets-nil 0 (sizes blocks))

  pub short-first : length (os₁ ++ os) < count → WrittenAs found short blocks os ss short (os₁ ++ os) (ss₁ ++ ss)
  short-first h =
      let e = lt-leb (length blocks) (length os) (rw (os-kept, is_all) at h) in
      record { answer = rw e; first = rw (os-kept, e); second = rw (ss-kept, e) }

  module _ (first : count ≤ length (os₁ ++ os)) where
    e : leb (length blocks) (length os) ≡ true
    e = le-leb (length blocks) (length os) (rw (os-kept, is_all) at first)

    pub short-second : length (ss₁ ++ ss) < count → WrittenAs found short blocks os ss short (os₁ ++ os) (ss₁ ++ ss)
    short-second h =
        let f = lt-leb (length blocks) (length ss) (rw (ss-kept, is_all) at h) in
        record { answer = rw (e, f); first = rw (os-kept, e, f); second = rw (ss-kept, e, f) }

    -- A second walk, over what is lent.
    pub enough : count ≤ length (ss₁ ++ ss) → {r : ℕ} {os₂ ss₂ : List ℕ} → Put blocks 0 (os₁ ++ os) (ss₁ ++ ss) r os₂ ss₂
        → WrittenAs found short blocks os ss (found count) os₂ ss₂
    enough h p =
        let k = rw (ss-kept, is_all) at h in
        let f = le-leb (length blocks) (length ss) k in
        record {
          answer = rw (e, f, is_all);
          first = p.first ∙ rw (os-kept, e, f) (sets_over os (origins blocks) (rw length-map (rw (os-kept, is_all) at first)));
          second = p.second ∙ rw (ss-kept, e, f) (sets_over ss (sizes blocks) (rw length-map k));
        }
