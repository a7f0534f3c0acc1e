-- Laws that proofs about Puts need.
use Rattle.std.specs.Prelude.{◌≡◌, ℕ, suc, ◌+◌, ◌-◌, ◌*◌, ◌<◌, min, List, [], ◌∷◌, ◌++◌, length, take, drop, slice_index, slice_set, refl}
use Rattle.std.proofs.Common.{sym, ap, ap₂, ◌∙◌, append-nil, add-zero, add-suc, suc-add, add-one, arith, length-append, length-drop, take-append-drop, drop_of_length-le, take_all, take-suc, length-take-le}
use Rattle.std.proofs.Math.Decide.{dec_le}
use Rattle.std.proofs.lemmas.List.Edits.{sets}
use Rattle.std.proofs.lemmas.List.{take-set-le, drop-set-add}
use Rattle.std.proofs.Math.Seq.{length-sets}
use Rattle.record_lines.specs.Digits.{byte_text, bytes_text}
use Rattle.record_lines.specs.Laws.DigitLaws.{length-bytes_text, bytes_text-append}
use Rattle.record_lines.specs.Puts.{Puts}

-- A run of stores and another behind it are one run.
pub sets_behind : (l : List ℕ) (i : ℕ) (xs ys : List ℕ) → sets (sets l i xs) (i + length xs) ys ≡ sets l i (xs ++ ys)
sets_behind l i [] ys = ap (λ (k : ℕ). sets l k ys) (add-zero i)
sets_behind l i (x ∷ xs) ys =
    ap (λ (k : ℕ). sets (sets (slice_set l i x) (suc i) xs) k ys) (add-suc i (length xs) ∙ sym (suc-add i (length xs)))
    ∙ sets_behind (slice_set l i x) (suc i) xs ys

-- the same, for what two stores left
pub sets_then : (l : List ℕ) (i k : ℕ) (xs ys : List ℕ) {m n : List ℕ} → m ≡ sets l i xs → n ≡ sets m k ys → k ≡ i + length xs → n ≡ sets l i (xs ++ ys)
sets_then l i k xs ys {m} p q e =
    q ∙ ap (λ (x : List ℕ). sets x k ys) p ∙ ap (λ (j : ℕ). sets (sets l i xs) j ys) e ∙ sets_behind l i xs ys

-- the digits of one byte more
pub one-pair-more : (old bytes : List ℕ) (at i : ℕ) {mid new : List ℕ} → i < length bytes → mid ≡ sets old at (bytes_text (take i bytes))
    → new ≡ sets mid (at + 2 * i) (byte_text (slice_index bytes i)) → new ≡ sets old at (bytes_text (take (i + 1) bytes))
unfolding bytes_text
one-pair-more old bytes at i h p q =
    let text = bytes_text (take i bytes) in
    let b = byte_text (slice_index bytes i) in
    let long : length text ≡ 2 * i = length-bytes_text (take i bytes) ∙ ap (λ (n : ℕ). 2 * n) (length-take-le i bytes (omega arith)) in
    q ∙ ap (λ (l : List ℕ). sets l (at + 2 * i) b) p ∙ ap (λ (k : ℕ). sets (sets old at text) (at + k) b) (sym long)
    ∙ sets_behind old at text b ∙ ap (sets old at) (sym (bytes_text-append (take i bytes) (slice_index bytes i ∷ [])))
    ∙ ap (λ (l : List ℕ). sets old at (bytes_text l)) (sym (take-suc bytes i 0 h) ∙ ap (λ (k : ℕ). take k bytes) (sym (add-one i)))

-- A run of stores from a place on is made in the part that begins there.
pub sets-split : (b l : List ℕ) (n m : ℕ) → sets l (n + m) b ≡ take n l ++ sets (drop n l) m b
sets-split [] l n m = sym (take-append-drop n l)
sets-split (x ∷ b) l n m =
    ap (λ (k : ℕ). sets (slice_set l (n + m) x) k b) (sym (add-suc n m)) ∙ sets-split b (slice_set l (n + m) x) n (suc m)
    ∙ ap₂ (λ (u v : List ℕ). u ++ sets v (suc m) b) (take-set-le n l (n + m) x (omega arith)) (drop-set-add n l m x)

pub sets-none : (b : List ℕ) (k : ℕ) → sets [] k b ≡ []
sets-none [] k = refl
sets-none (x ∷ b) k = sets-none b (suc k)

-- Text in a part, and text behind it in what is left of the part.
in_rest : (b mid : List ℕ) (n from : ℕ) → from ≡ min n (length mid) → sets mid n b ≡ take from mid ++ sets (drop from mid) 0 b
in_rest b mid n from e =
    elim (dec_le n (length mid)) [
      | yes h ↦
          let same : from ≡ n = omega arith in
          ap (λ (k : ℕ). sets mid k b) (sym (add-zero n)) ∙ sets-split b mid n 0 ∙ ap (λ (k : ℕ). take k mid ++ sets (drop k mid) 0 b) (sym same)
      | no h ↦
          let all : from ≡ length mid = omega arith in
          let past : n ≡ from + (n - from) = omega arith in
          ap (λ (k : ℕ). sets mid k b) past ∙ sets-split b mid from (n - from)
          ∙ ap (λ (l : List ℕ). take from mid ++ l)
          (ap (λ (l : List ℕ). sets l (n - from) b) (drop_of_length-le mid {i = from} (omega arith)) ∙ sets-none b (n - from) ∙ sym (sets-none b 0)
          ∙ ap (λ (l : List ℕ). sets l 0 b) (sym (drop_of_length-le mid {i = from} (omega arith))))
    ]

pub puts_then : (a b : List ℕ) {old mid part new : List ℕ} {n m from : ℕ} → Puts a old n mid → from ≡ min n (length mid) → Puts b (drop from mid) m part
    → new ≡ take from mid ++ part → Puts (a ++ b) old (n + m) new
puts_then a b {old} {mid} {part} {new} {n} {m} {from} p e q r =
    let here : n ≡ 0 + length a = omega (arith, p.long) in
    record {
      long = omega (arith, p.long, q.long, length-append a b);
      part =
          r ∙ ap (λ (l : List ℕ). take from mid ++ l) q.part ∙ sym (in_rest b mid n from e) ∙ ap (λ (l : List ℕ). sets l n b) p.part
          ∙ ap (λ (k : ℕ). sets (sets old 0 a) k b) here ∙ sets_behind old 0 a b;
    }

-- The same, where the rest is lent as the part from a place on to the end, and put back.
pub puts-rest : (a b : List ℕ) {old mid part : List ℕ} {n m from : ℕ} → Puts a old n mid → from ≡ min n (length mid) → Puts b
    (take (length mid - from) (drop from mid)) m part
    → Puts (a ++ b) old (n + m) (take from mid ++ (part ++ drop (length mid - from) (drop from mid)))
puts-rest a b {old} {mid} {part} {n} {m} {from} p e q =
    let whole : take (length mid - from) (drop from mid) ≡ drop from mid = take_all (length mid - from) (drop from mid)
    (omega (arith, length-drop from mid)) in
    let none : drop (length mid - from) (drop from mid) ≡ [] = drop_of_length-le (drop from mid) {i = length mid - from}
    (omega (arith, length-drop from mid)) in
    puts_then a b p e (rw whole at q) (ap (λ (l : List ℕ). take from mid ++ (part ++ l)) none ∙ ap (λ (l : List ℕ). take from mid ++ l) (append-nil part))

-- The part keeps its length.
pub puts-long : {text old new : List ℕ} {n : ℕ} → Puts text old n new → length new ≡ length old
puts-long {text} {old} p = ap length p.part ∙ length-sets old 0 text
