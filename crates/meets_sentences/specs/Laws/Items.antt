-- Items' bits written in turn, where each bit belongs to one item: a bit of an item keeps the value that the item gives it, whatever is written before and
-- after it, and a bit of none stays.
use Rattle.std.specs.Prelude.{◌≡◌, refl, ◌⊎◌, ℕ, ◌+◌, ◌-◌, ◌*◌, ◌≤◌, ◌<◌, length, get_or}
use Rattle.std.proofs.Common.{sym, ap, subst, ◌∙◌, inl, inr, ⊎_elim, arith}
use mathlib.Core.List.Memᴰ
use mathlib.Core.List.{List, [], ◌∷◌, Memᴰ}
use Rattle.sort.specs.Laws.Sorted.{le-or-lt}
use Rattle.bitvec.specs.Bits.{bit_at}
use Rattle.bitvec.specs.Written.{written}
use Rattle.bitvec.specs.Theorems.Written.{length-written, bytes-written, written-own, written-other}
use Rattle.says.specs.Words.{Not}
use Rattle.meets_sentences.specs.InTurn as turn
use Rattle.meets_sentences.specs.InTurn.{Puts, Item, AllPut}

-- bit k of the image is one of the item's
abbrev pub Holds : Item → ℕ → Type 0
Holds it k = (it.position ≤ k) × (k < it.position + it.size)

-- the value that the item gives it
abbrev pub its_bit : Item → ℕ → ℕ
its_bit it k = bit_at it.values (it.from + (k - it.position))

-- No other of the items has a bit that this one has.
abbrev pub Alone : List Item → Item → Type 0
Alone items it = (other : Item) (k : ℕ) → Memᴰ other items → Holds other k → Holds it k → other ≡ it

-- a bit inside what was put
put-own : {values image after : List ℕ} {x m from k : ℕ} → Puts values x m from image after → x ≤ k → k < x + m
    → bit_at after k ≡ bit_at values (from + (k - x))
put-own {values} {after = after} {x = x} {from = from} {k = k} p low high =
    let whole : x + (k - x) ≡ k = omega arith in
    subst (λ (n : ℕ). bit_at after n ≡ bit_at values (from + (k - x))) whole (p.own (k - x) (omega arith))

pub holds-or-not : (it : Item) (k : ℕ) → Holds it k ⊎ Not (Holds it k)
holds-or-not it k =
    ⊎_elim
    (λ (low : it.position ≤ k). ⊎_elim (λ (past : it.position + it.size ≤ k). inr (λ h. omega (arith, h.1)))
    (λ (high : k < it.position + it.size). inl (low, high)) (le-or-lt (it.position + it.size) k))
    (λ (below : k < it.position). inr (λ h. omega (arith, h.0)))
    (le-or-lt it.position k)

-- Another item is put: a bit of this one that has its value keeps it,
keeps : {it : Item} {items : List Item} {k : ℕ} {image last : List ℕ} → Alone items it → Holds it k → AllPut items image last → bit_at image k ≡ its_bit it k
    → bit_at last k ≡ its_bit it k
keeps alone h turn.none_left e = e
keeps {it} {k = k} alone h (turn.item-put {it = other} p rest) e =
    keeps (λ a n m. alone a n (Memᴰ.tail m)) h rest
    (⊎_elim
    (λ q. put-own p q.0 q.1 ∙ ap (λ (a : Item). its_bit a k) (alone other k (Memᴰ.head refl) q h))
    (λ out. p.others k (λ low high. out (low, high)) ∙ e)
    (holds-or-not other k))

-- so that each item that is written has its own bits in the end,
pub its_own : {it : Item} {items : List Item} {k : ℕ} {image last : List ℕ} → Alone items it → Memᴰ it items → Holds it k → AllPut items image last
    → bit_at last k ≡ its_bit it k
its_own alone m h turn.none_left = absurd (Memᴰ.not-nil m)
its_own {it} {k = k} alone m h (turn.item-put {it = first} {after = after} p rest) =
    let later : Alone _ it = λ a n l. alone a n (Memᴰ.tail l) in
    ⊎_elim
    (λ same. keeps later h rest
    (subst (λ (a : Item). Holds a k → bit_at after k ≡ its_bit a k) (sym same) (λ q. put-own p q.0 q.1) h))
    (λ l. its_own later l h rest)
    (Memᴰ.cases_cons m)

-- and a bit of none of them is as it was.
pub free : {items : List Item} {k : ℕ} {image last : List ℕ} → AllPut items image last → ((it : Item) → Memᴰ it items → Not (Holds it k))
    → bit_at last k ≡ bit_at image k
free turn.none_left none = refl
free {k = k} (turn.item-put {it = it} p rest) none =
    free rest (λ a m. none a (Memᴰ.tail m)) ∙ p.others k (λ low high. none it (Memᴰ.head refl) (low, high))

pub as_long : {items : List Item} {image last : List ℕ} → AllPut items image last → length last ≡ length image
as_long turn.none_left = refl
as_long (turn.item-put p rest) = as_long rest ∙ p.as_long

pub in_bytes : {items : List Item} {image last : List ℕ} → AllPut items image last → ((j : ℕ) → get_or image j 0 < 256) → (j : ℕ) → get_or last j 0 < 256
in_bytes turn.none_left h = h
in_bytes (turn.item-put p rest) h = in_bytes rest p.bytes

-- a bit belongs to one of the items, or to none
pub held-or-free : (items : List Item) (k : ℕ) → ((it : Item) × Memᴰ it items × Holds it k) ⊎ ((it : Item) → Memᴰ it items → Not (Holds it k))
held-or-free [] k = inr (λ it m. absurd (Memᴰ.not-nil m))
held-or-free (it ∷ items) k =
    let rest = held-or-free items k in
    ⊎_elim (λ h. inl (it, Memᴰ.head refl, h))
    (λ out. ⊎_elim (λ r. inl (r.0, Memᴰ.tail r.1, r.2))
    (λ none. inr (λ a m h. ⊎_elim (λ same. out (subst (λ (b : Item). Holds b k) same h)) (λ l. none a l h) (Memᴰ.cases_cons m)))
    rest)
    (holds-or-not it k)

-- An item that ends inside an image can be put there.
pub puts-there : (it : Item) (image : List ℕ) → it.position + it.size ≤ 8 * length image
    → Puts it.values it.position it.size it.from image (written image it.position it.values it.from it.size)
puts-there it image fits =
    record {
      as_long = length-written image it.position it.values it.from it.size;
      bytes = bytes-written image it.position it.values it.from it.size;
      own = written-own image it.position it.values it.from it.size fits;
      others = written-other image it.position it.values it.from it.size;
    }
