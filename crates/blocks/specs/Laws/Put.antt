-- Blocks written one behind the other: none, one, some behind others, and what a loop holds that has written a part of them.
use Rattle.std.specs.Prelude.{◌≡◌, refl, List, [], ◌∷◌, ◌++◌, map, ℕ, suc, ◌+◌, length, set}
use Rattle.std.proofs.Common.{sym, ap, subst, ◌∙◌, append-nil, append_assoc, add-zero, arith, eq-eqb, ne_eqb, length-append}
use Rattle.std.proofs.lemmas.List.{map-append, length-map}
use Rattle.std.proofs.lemmas.List.Edits.{sets}
use Rattle.std.proofs.Math.Seq.{length-sets}
use Rattle.blocks.specs.declared.Block.{Block}
use Rattle.blocks.specs.Outcome.{origins, sizes}
use Rattle.blocks.specs.Put.{Put}
use Rattle.blocks.specs.Walk.{kept}

pub put-nothing : (count : ℕ) (os ss : List ℕ) → Put [] count os ss count os ss
put-nothing count os ss = record { counted = sym (add-zero count); first = refl; second = refl }

module _ (b : Block) where
  pub kept-none : b.size ≡ 0 → kept b ≡ []
  kept-none e = rw (eq-eqb b.size 0 e)

  pub kept-some : (b.size ≡ 0 → ⊥) → kept b ≡ b ∷ []
  kept-some e = rw (ne_eqb b.size 0 e)

-- Stored in two goes.
sets-append : (l xs ys : List ℕ) (n : ℕ) → sets l n (xs ++ ys) ≡ sets (sets l n xs) (n + length xs) ys
sets-append l [] ys n = rw add-zero
sets-append l (x ∷ xs) ys n =
    let e : n + suc (length xs) ≡ suc n + length xs = omega arith in
    sets-append (set l n x) xs ys (suc n) ∙ rw e

stored : (column : Block → ℕ) (xs ys : List Block) (l : List ℕ) (n : ℕ) {l' l'' : List ℕ} {n' : ℕ} → n' ≡ n + length xs → l' ≡ sets l n (map column xs)
    → l'' ≡ sets l' n' (map column ys) → l'' ≡ sets l n (map column (xs ++ ys))
stored column xs ys l n e s t = t ∙ rw (s, e, map-append, sets-append, length-map)

pub put_then : (xs ys : List Block) {n c c' : ℕ} {os₀ ss₀ os ss os' ss' : List ℕ} → Put xs n os₀ ss₀ c os ss → Put ys c os ss c' os' ss'
    → Put (xs ++ ys) n os₀ ss₀ c' os' ss'
put_then xs ys {n} {os₀ = os₀} {ss₀ = ss₀} p q =
    record {
      counted = omega (arith, p.counted, q.counted, length-append xs ys);
      first = stored (λ b. b.origin) xs ys os₀ n p.counted p.first q.first;
      second = stored (λ b. b.size) xs ys ss₀ n p.counted p.second q.second;
    }

pub put-long : {xs : List Block} {os ss os' ss' : List ℕ} {c c' : ℕ} → Put xs c os ss c' os' ss' → (length os' ≡ length os) × (length ss' ≡ length ss)
put-long {xs} {os} {ss} {os'} {ss'} {c} p = (ap length p.first ∙ length-sets os c (origins xs), ap length p.second ∙ length-sets ss c (sizes xs))

-- Of `all`, which are to be written from the place `from` on, `rest` are left.
pub record Filling (all rest : List Block) (from at : ℕ) (os₀ ss₀ os ss : List ℕ) : Type 0 where
  pub done : List Block
  pub parts : all ≡ done ++ rest
  pub put : Put done from os₀ ss₀ at os ss

module _ {all : List Block} {from : ℕ} {os₀ ss₀ : List ℕ} where
  pub filling-starts : Filling all all from from os₀ ss₀ os₀ ss₀
  filling-starts = record { done = []; parts = refl; put = put-nothing from os₀ ss₀ }

  pub filling-on : {rest : List Block} (new rest' : List Block) {at at' : ℕ} {os ss os' ss' : List ℕ} → rest ≡ new ++ rest'
      → Filling all rest from at os₀ ss₀ os ss → Put new at os ss at' os' ss' → Filling all rest' from at' os₀ ss₀ os' ss'
  filling-on new rest' e f p =
      record {
        done = f.done ++ new;
        parts = f.parts ∙ ap (λ (l : List Block). f.done ++ l) e ∙ sym (append_assoc f.done new rest');
        put = put_then f.done new f.put p;
      }

  pub filling-ends : {rest : List Block} {at : ℕ} {os ss : List ℕ} → rest ≡ [] → Filling all rest from at os₀ ss₀ os ss → Put all from os₀ ss₀ at os ss
  filling-ends {rest} {at} {os} {ss} e f =
      subst (λ (l : List Block). Put l from os₀ ss₀ at os ss)
      (sym (f.parts ∙ ap (λ (l : List Block). f.done ++ l) e ∙ append-nil f.done)) f.put
