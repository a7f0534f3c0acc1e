-- Ticket 11, the image, from the store's answers: "writing the accepted items' bits in any order gives the same image". Of items whose offers, made one after
-- the other from an empty store, were accepted (refused ones may stand between them), written into any image.
use Rattle.std.specs.Prelude.{◌≡◌, refl, ℕ, ◌+◌, ◌-◌, ◌*◌, ◌≤◌, ◌<◌, length, get_or}
use Rattle.std.proofs.Common.{sym, ap, subst, ◌∙◌, ⊎_elim, arith}
use mathlib.Core.List.Memᴰ
use mathlib.Core.List.{List, [], ◌∷◌, map, Memᴰ}
use mathlib.Core.List.Permᴰ
use mathlib.Core.List.{Permᴰ}
use Rattle.bitvec.specs.Bits.{bit_at}
use Rattle.bitvec.specs.Written.{written}
use Rattle.bitvec.specs.Theorems.Bits.{same_bits}
use Rattle.bitvec.specs.Theorems.Written.{length-written}
use Rattle.overlap_checker.specs.declared.Entry.{Entry}
use Rattle.meets_sentences.specs.InTurn as turn
use Rattle.meets_sentences.specs.InTurn.{Item, AllPut}
use Rattle.meets_sentences.specs.Laws.Items.{Holds, its_bit, its_own, free, as_long, in_bytes, held-or-free, puts-there}
use Rattle.says.specs.Words.{Not}
use Rattle.says.specs.Store.{Store, Covers}
use Rattle.meets_store.specs.Calls.{Empty, Calls, offer_of}
use Rattle.meets_store.specs.Laws.Separate as sep
use Rattle.meets_store.specs.Laws.Separate.{Separate, taken-separate}

-- ---- what stands in a list stands in every reordering of it
across : {A : Type 0} {a : A} {xs ys : List A} → Permᴰ xs ys → Memᴰ a xs → Memᴰ a ys
across Permᴰ.nil m = m
across (Permᴰ.cons e p) m = ⊎_elim (λ h. Memᴰ.head (h ∙ e)) (λ l. Memᴰ.tail (across p l)) (Memᴰ.cases_cons m)
across (Permᴰ.swap e g) m =
    ⊎_elim (λ h. Memᴰ.tail (Memᴰ.head (h ∙ e)))
    (λ l. ⊎_elim (λ h. Memᴰ.head (h ∙ g)) (λ k. Memᴰ.tail (Memᴰ.tail k)) (Memᴰ.cases_cons l))
    (Memᴰ.cases_cons m)
across (Permᴰ.trans p q) m = across q (across p m)

-- That an item's offer covers the item's bits is handed on as a fact (`whole`): each theorem says it of `offer_of` itself.
abbrev Whole : Type 0
Whole = (it : Item) (k : ℕ) → Holds it k → Covers (offer_of it).position (offer_of it).size k

-- ---- a bit belongs to one item
one-holder : Whole → (items : List Item) → Separate (map offer_of items) → (a b : Item) (k : ℕ) → Memᴰ a items → Memᴰ b items → Holds a k → Holds b k
    → a ≡ b
one-holder whole [] apart a b k m n h l = absurd (Memᴰ.not-nil m)
one-holder whole (it ∷ items) (sep.one_more apart rest) a b k m n h l =
    ⊎_elim
    (λ first. ⊎_elim
    (λ both. first ∙ sym both)
    (λ later. absurd (apart (offer_of b) k (Memᴰ.map offer_of later) (whole it k (subst (λ (i : Item). Holds i k) first h)) (whole b k l)))
    (Memᴰ.cases_cons n))
    (λ later. ⊎_elim
    (λ first. absurd (apart (offer_of a) k (Memᴰ.map offer_of later) (whole it k (subst (λ (i : Item). Holds i k) first l)) (whole a k h)))
    (λ also. one-holder whole items rest a b k later also h l)
    (Memᴰ.cases_cons n))
    (Memᴰ.cases_cons m)

-- Offers `es` made from the empty store s; those that were accepted are the offers of `items`.
module _ (items : List Item) (s t : Store) (empty : Empty s) (es : List Entry) (run : Calls s es (map offer_of items) t) where
  -- The items in some order, written into an image.
  module _ (order : List Item) (same : Permᴰ items order) (image last : List ℕ) (put : AllPut order image last) where
    abbrev back : Permᴰ order items
    back = Permᴰ.symm same

    held-bit : Whole → (it : Item) → Memᴰ it items → (k : ℕ) → Holds it k → bit_at last k ≡ its_bit it k
    held-bit whole it m k h =
        its_own (λ other n l g f. one-holder whole items (taken-separate s empty run) other it n (across back l) m g f) (across same m) h put

    -- Each bit of an item is that item's own bit,
    pub item-bit : (it : Item) → Memᴰ it items → (bit : ℕ) → bit < it.size → bit_at last (it.position + bit) ≡ bit_at it.values (it.from + bit)
    item-bit it m bit h =
        held-bit (λ i k c. c) it m (it.position + bit) (omega arith, omega arith)
        ∙ ap (λ (n : ℕ). bit_at it.values (it.from + n)) {x = it.position + bit - it.position} {y = bit} (omega arith)

    -- and every other bit is as it was.
    pub other-bit : (bit : ℕ) → ((it : Item) → Memᴰ it items → Not (Covers it.position it.size bit)) → bit_at last bit ≡ bit_at image bit
    other-bit bit none = free put (λ it m. none it (across back m))

  -- "writing the accepted items' bits in any order gives the same image": two orders, bit by bit,
  module _ (one two : List Item) (first : Permᴰ items one) (second : Permᴰ items two) (image last last' : List ℕ)
      (put : AllPut one image last) (again : AllPut two image last') where
    same-bits : Whole → (bit : ℕ) → bit_at last bit ≡ bit_at last' bit
    same-bits whole bit =
        ⊎_elim
        (λ r. held-bit one first image last put whole r.0 r.1 bit r.2 ∙ sym (held-bit two second image last' again whole r.0 r.1 bit r.2))
        (λ none. other-bit one first image last put bit none ∙ sym (other-bit two second image last' again bit none))
        (held-or-free items bit)

    pub two-orders-same-bits : (bit : ℕ) → bit_at last bit ≡ bit_at last' bit
    two-orders-same-bits bit = same-bits (λ i k c. c) bit

    -- and so, in an image of bytes, the same bytes.
    pub two-orders-same-image : ((j : ℕ) → get_or image j 0 < 256) → last ≡ last'
    two-orders-same-image bytes =
        same_bits last last' (in_bytes put bytes) (in_bytes again bytes) (as_long put ∙ sym (as_long again)) (λ bit _. same-bits (λ i k c. c) bit)

-- Every order can be written, into an image that no item passes the end of.
pub some-writing : (items order : List Item) → Permᴰ items order → (image : List ℕ)
    → ((it : Item) → Memᴰ it items → it.position + it.size ≤ 8 * length image) → (last : List ℕ) × AllPut order image last
some-writing items order same image fits = go order image (λ it m. fits it (across (Permᴰ.symm same) m))
  where
    go : (order : List Item) (image : List ℕ) → ((it : Item) → Memᴰ it order → it.position + it.size ≤ 8 * length image)
        → (last : List ℕ) × AllPut order image last
    go [] image fits = (image, turn.none_left)
    go (it ∷ order) image fits =
        let after = written image it.position it.values it.from it.size in
        let long : length after ≡ length image = length-written image it.position it.values it.from it.size in
        let (last, rest) = go order after (λ a m. let h = fits a (Memᴰ.tail m) in omega (arith, long)) in
        (last, turn.item-put (puts-there it image (fits it (Memᴰ.head refl))) rest)
