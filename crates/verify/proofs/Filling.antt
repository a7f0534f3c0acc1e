-- Runs written one behind the other: none, one, some behind others, and what a loop holds that has written a part of them.
use mathlib.Core.Path.{◌≡◌, refl, sym, ap, subst, ◌∙◌}
use mathlib.Core.List.{List, [], ◌∷◌, ◌++◌, map, map-append, append_assoc}
use Prim.Native.Nat.{ℕ, suc, ◌+◌}
use native.Mathlib.Nat.{add-zero}
use native.Mathlib.Omega.{arith}
use lib.ListN.{length, set, length-append, length-map}
use lib.Seq.{sets}
use Rattle.verify.specs.Runs.{Run}
use Rattle.verify.specs.Put.{Put}

pub put-nothing : (n : ℕ) (fs cs ks : List ℕ) → Put [] n fs cs ks n fs cs ks
put-nothing n fs cs ks = record { counted = sym (add-zero n); first = refl; second = refl; third = refl }

-- Stored in two goes.
sets-append : (l xs ys : List ℕ) (n : ℕ) → sets l n (xs ++ ys) ≡ sets (sets l n xs) (n + length xs) ys
sets-append l [] ys n = rw add-zero
sets-append l (x ∷ xs) ys n =
    let e : n + suc (length xs) ≡ suc n + length xs = omega arith in
    sets-append (set l n x) xs ys (suc n) ∙ rw e

stored : (column : Run → ℕ) (xs ys : List Run) (l : List ℕ) (n : ℕ) {l' l'' : List ℕ} {n' : ℕ} → n' ≡ n + length xs → l' ≡ sets l n (map column xs)
    → l'' ≡ sets l' n' (map column ys) → l'' ≡ sets l n (map column (xs ++ ys))
stored column xs ys l n e s t = t ∙ rw (s, e, map-append, sets-append, length-map)

pub put_then : (xs ys : List Run) {n m m' : ℕ} {fs₀ cs₀ ks₀ fs cs ks fs' cs' ks' : List ℕ} → Put xs n fs₀ cs₀ ks₀ m fs cs ks
    → Put ys m fs cs ks m' fs' cs' ks' → Put (xs ++ ys) n fs₀ cs₀ ks₀ m' fs' cs' ks'
put_then xs ys {n} {fs₀ = fs₀} {cs₀ = cs₀} {ks₀ = ks₀} p q =
    record {
      counted = omega (arith, p.counted, q.counted, length-append xs ys);
      first = stored (λ r. r.first) xs ys fs₀ n p.counted p.first q.first;
      second = stored (λ r. r.count) xs ys cs₀ n p.counted p.second q.second;
      third = stored (λ r. r.kind) xs ys ks₀ n p.counted p.third q.third;
    }

-- Of `all`, which are to be written from the front on, `rest` are left.
pub record Filling (all rest : List Run) (at : ℕ) (fs₀ cs₀ ks₀ fs cs ks : List ℕ) : Type 0 where
  pub done : List Run
  pub parts : all ≡ done ++ rest
  pub put : Put done 0 fs₀ cs₀ ks₀ at fs cs ks

module _ {all : List Run} {fs₀ cs₀ ks₀ : List ℕ} where
  pub filling-starts : Filling all all 0 fs₀ cs₀ ks₀ fs₀ cs₀ ks₀
  filling-starts = record { done = []; parts = refl; put = put-nothing 0 fs₀ cs₀ ks₀ }

  pub filling-on : {rest : List Run} (new rest' : List Run) {at at' : ℕ} {fs cs ks fs' cs' ks' : List ℕ} → rest ≡ new ++ rest'
      → Filling all rest at fs₀ cs₀ ks₀ fs cs ks → Put new at fs cs ks at' fs' cs' ks' → Filling all rest' at' fs₀ cs₀ ks₀ fs' cs' ks'
  filling-on new rest' e f p =
      record {
        done = f.done ++ new;
        parts = f.parts ∙ ap (λ (l : List Run). f.done ++ l) e ∙ sym (append_assoc f.done new rest');
        put = put_then f.done new f.put p;
      }

  pub filling-ends : (rest : List Run) {at at' : ℕ} {fs cs ks fs' cs' ks' : List ℕ} → Filling all rest at fs₀ cs₀ ks₀ fs cs ks
      → Put rest at fs cs ks at' fs' cs' ks' → Put all 0 fs₀ cs₀ ks₀ at' fs' cs' ks'
  filling-ends rest {at' = at'} {fs' = fs'} {cs' = cs'} {ks' = ks'} f p =
      subst (λ (l : List Run). Put l 0 fs₀ cs₀ ks₀ at' fs' cs' ks') (sym f.parts) (put_then f.done rest f.put p)
