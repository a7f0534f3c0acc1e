-- The bytes that a file's lines give, by the definitions' folds and by the sentences: the lowest address, and the first line that gave one of some bytes.
use Rattle.std.specs.Prelude.{◌≡◌, Bool, ◌&&◌, ◌||◌, ◌⊎◌, length, drop}
use Rattle.std.proofs.Math.Path.{refl, subst}
use Rattle.std.proofs.Common.{sym, ap, ◌∙◌, inl, inr, ⊎_elim}
use Rattle.std.proofs.Math.Bool.{true, false}
use mathlib.Core.List.{List, [], ◌∷◌, ◌++◌}
use Prim.Native.Nat.{ℕ, zero, suc, ◌+◌, ◌≤◌, ◌<◌, max, min}
use Rattle.std.proofs.Math.Decide.{dec_lt}
use native.Mathlib.Omega.{arith}
use borrow.Author.Tests.{leb-true, leb-false}
use Rattle.std.proofs.Math.Dec.{leb}
use Rattle.prelude.specs.Laws.Bools.{either, both, clash, neither}
use Rattle.sort.specs.Laws.Sorted.{le-or-lt}
use Rattle.record_lines.specs.Items.{Item, gives, passes, ends, bad}
use Rattle.record_lines.specs.Pieces.{Piece, piece, end_of}
use Rattle.record_scan.specs.Reading.{format_by, new_pieces, state_after, is_new}
use Rattle.record_scan.specs.Trail.{trail}
use Rattle.record_reason.specs.Reasons.{item_of, address_in, giver, lower, lowest_from, lowest}
use Rattle.record_reason.specs.Theorems.Reasons as why
use Rattle.record_reason.specs.Theorems.Reasons.{giver-is-first}
use Rattle.says.specs.Words.{First, FirstPair}
use Rattle.says.specs.Reason as s
use Rattle.says.specs.Reason.{LineGives, LineAt, GivesTo}
use Rattle.meets_reason.specs.Laws.One.{after_one, line-one}
use Rattle.meets_reason.specs.Laws.Items.{gives-item, item-gives, after_is}
use Rattle.meets_reason.specs.Laws.Trails.{lines, line-is, line_at, drop-line, drop-long, drop-some}

-- A line's item gives a byte to address a.
abbrev pub Covers : Item → ℕ → Type 0
Covers x a = (start : ℕ) × (b : List ℕ) × (after : ℕ) × (x ≡ gives start b after) × (start ≤ a) × (a < start + length b)

module _ (format : ℕ) where
  -- ---- the lowest address
  lower-low : (ps : List Piece) (low : ℕ) → lower ps low ≤ low
  lower-low [] low = omega arith
  lower-low (p ∷ ps) low = omega arith

  own-low : (start : ℕ) (b : List ℕ) (after a low : ℕ) → start ≤ a → a < start + length b → lower (new_pieces (gives start b after)) low ≤ a
  own-low start [] after a low h k = absurd (omega arith)
  own-low start (x ∷ b) after a low h k = omega arith

  pub lowest-least : {st k t after a : ℕ} {l : List ℕ} {ls : List (List ℕ)} {p : Piece} → LineAt format st ls k t l → LineGives format t l after p
      → p.address ≤ a → a < p.address + length p.bytes → lowest_from (format_by format) ls st ≤ a
  unfolding lowest_from
  lowest-least {after = after} {a = a} {p = p} (s.here {s = st} {l} {ls}) g h k =
      let f = format_by format in
      let rest = lowest_from f ls (state_after st (f st l)) in
      subst (λ (x : Item). lower (new_pieces x) rest ≤ a) (sym (gives-item format g)) (own-low p.address p.bytes after a rest h k)
  lowest-least {a = a} (s.later {s = st} {t = t} {m = m} {ls = ls} b x) g h k =
      let f = format_by format in
      let state : t ≡ state_after st (f st m) = after_one format b (after_is format st m) in
      let more = subst (λ (u : ℕ). lowest_from f ls u ≤ a) state (lowest-least x g h k) in
      omega (arith, lower-low (new_pieces (f st m)) (lowest_from f ls (state_after st (f st m))))

  abbrev Holds : ℕ → List (List ℕ) → ℕ → Type 0
  Holds st ls a = (k : ℕ) × (t : ℕ) × (l : List ℕ) × LineAt format st ls k t l × Covers (format_by format t l) a

  holds_later : (st : ℕ) (l : List ℕ) (ls : List (List ℕ)) (a : ℕ) → Holds (state_after st (format_by format st l)) ls a → Holds st (l ∷ ls) a
  holds_later st l ls a x = (suc x.0, x.1, x.2, s.later (after_is format st l) x.3, x.4)

  lower-held : (st : ℕ) (l : List ℕ) (ls : List (List ℕ)) (x : Item) → format_by format st l ≡ x → (rest : ℕ)
      → (rest < 4294967296 → Holds st (l ∷ ls) rest) → lower (new_pieces x) rest < 4294967296 → Holds st (l ∷ ls) (lower (new_pieces x) rest)
  lower-held st l ls (gives a [] after) e rest f h = f h
  lower-held st l ls (gives a (c ∷ b) after) e rest f h = ⊎_elim
      (λ (le : a ≤ rest). let z : min a rest ≡ a = omega arith in rw z (0, st, l, s.here, (a, c ∷ b, after, e, omega arith, omega arith)))
      (λ lt. let z : min a rest ≡ rest = omega arith in rw z (f (omega arith)))
      (le-or-lt a rest)
  lower-held st l ls (passes after) e rest f h = f h
  lower-held st l ls ends e rest f h = f h
  lower-held st l ls bad e rest f h = f h

  lowest-held : (st : ℕ) (ls : List (List ℕ)) → lowest_from (format_by format) ls st < 4294967296 → Holds st ls (lowest_from (format_by format) ls st)
  unfolding lowest_from
  lowest-held st [] h = absurd (omega arith)
  lowest-held st (l ∷ ls) h =
      let after = state_after st (format_by format st l) in
      lower-held st l ls (format_by format st l) refl (lowest_from (format_by format) ls after)
      (λ k. holds_later st l ls (lowest_from (format_by format) ls after) (lowest-held after ls k)) h

  module _ (text : List ℕ) where
    -- ---- a line by its number
    pub covers-gives : {k t a : ℕ} {l : List ℕ} {ls : List (List ℕ)} → LineAt format 0 ls k t l → Covers (format_by format t l) a → GivesTo format ls k a
    covers-gives {t = t} {l = l} x c = s.gives_to x (item-gives format t l c.3) c.4 c.5

    pub gives-covers : (k a : ℕ) → GivesTo format (lines format text) k a → Covers (item_of format text k) a
    gives-covers k a (s.gives_to {s = st} {t = after} {l} {p} x g h i) =
        let d = drop-line format x in
        let same = line-one format (line_at format text k d.1) x in
        let e : item_of format text k ≡ gives p.address p.bytes after =
        ap (λ (m : List ℕ). format_by format (trail format text k).state m) (line-is format text k d.1)
        ∙ ap (λ (u : ℕ). format_by format u l) same.0 ∙ gives-item format g in
        (p.address, p.bytes, after, e, h, i)

    pub covers-to : (k a : ℕ) {l : List ℕ} {rest : List (List ℕ)} → drop k (lines format text) ≡ l ∷ rest → Covers (item_of format text k) a
        → GivesTo format (lines format text) k a
    covers-to k a {l} d c =
        let e = line-is format text k d in
        covers-gives (line_at format text k d) (subst (λ (m : List ℕ). Covers (format_by format (trail format text k).state m) a) e c)

    pub lowest-first : (n a : ℕ) → GivesTo format (lines format text) n a → a < 4294967296
        → First (λ (x : ℕ). (k : ℕ) × GivesTo format (lines format text) k x) (lowest format text)
    lowest-first n a g h =
        let low = least a (n, g) in
        let x = lowest-held 0 (lines format text) (omega arith) in
        record { so = (x.0, covers-gives x.3 x.4); none_below = λ b y. least b y }
      where
        least : (b : ℕ) → (k : ℕ) × GivesTo format (lines format text) k b → lowest format text ≤ b
        least b (k, s.gives_to x g h i) = lowest-least x g h i

    -- ---- the first line that gave one of some bytes
    new-append : (a b : List Piece) (first end : ℕ) → is_new (a ++ b) first end ≡ (is_new a first end && is_new b first end)
    unfolding is_new
    new-append [] b first end = refl
    new-append (p ∷ a) b first end =
        go (leb (end_of p) first || leb end p.address) (is_new (a ++ b) first end) (is_new a first end) (is_new b first end) (new-append a b first end)
      where
        go : (t x y z : Bool) → x ≡ (y && z) → (t && x) ≡ ((t && y) && z)
        go true x y z e = e
        go false x y z e = refl

    all_new : (first end n : ℕ) → ((k : ℕ) → k < n → is_new (new_pieces (item_of format text k)) first end ≡ true)
        → is_new (trail format text n).given first end ≡ true
    unfolding trail is_new
    all_new first end zero h = refl
    all_new first end (suc n) h =
        new-append (trail format text n).given (new_pieces (item_of format text n)) first end
        ∙ rw (all_new first end n (λ k i. h k (omega arith)), h n (omega arith)) refl

    each-new : (first end n : ℕ) → is_new (trail format text n).given first end ≡ true → (k : ℕ) → k < n
        → is_new (new_pieces (item_of format text k)) first end ≡ true
    unfolding trail is_new
    each-new first end zero e k h = absurd (omega arith)
    each-new first end (suc n) e k h =
        let before = (trail format text n).given in
        let own = new_pieces (item_of format text n) in
        let two = both (is_new before first end) (is_new own first end) (sym (new-append before own first end) ∙ e) in
        elim (dec_lt k n) [
          | yes p ↦ each-new first end n two.0 k p
          | no p ↦ let same : n ≡ k = omega arith in subst (λ (i : ℕ). is_new (new_pieces (item_of format text i)) first end ≡ true) same two.1
        ]

    -- an item that is in the way gives bytes, and some of them
    in-way : (x : Item) (first end : ℕ) → is_new (new_pieces x) first end ≡ false
        → (start : ℕ) × (b : List ℕ) × (after : ℕ) × (x ≡ gives start b after) × (first < start + length b) × (start < end) × (0 < length b)
    unfolding is_new
    in-way (gives a [] after) first end e = absurd (clash refl e)
    in-way (gives a (c ∷ b) after) first end e =
        let p = piece a (c ∷ b) in
        either (leb (end_of p) first || leb end a) (λ t. absurd (clash refl (rw t at e)))
        (λ f. let two = neither (leb (end_of p) first) (leb end a) f in
        (a, c ∷ b, after, refl, leb-false (end_of p) first two.0, leb-false end a two.1, omega arith))
    in-way (passes after) first end e = absurd (clash refl e)
    in-way ends first end e = absurd (clash refl e)
    in-way bad first end e = absurd (clash refl e)

    shares : (x : Item) (first end a : ℕ) → Covers x a → first ≤ a → a < end → is_new (new_pieces x) first end ≡ true → ⊥
    unfolding is_new
    shares x first end a (start, [], after, e, h, k) f g t = omega arith
    shares x first end a (start, c ∷ b, after, e, h, k) f g t =
        let p = piece start (c ∷ b) in
        let w = both (leb (end_of p) first || leb end start) true (subst (λ (y : Item). is_new (new_pieces y) first end ≡ true) e t) in
        either (leb (end_of p) first)
        (λ q. omega (arith, leb-true (end_of p) first q))
        (λ q. omega (arith, leb-true end start (rw q at w.0)))

    -- a byte of an item that gives bytes is one of them
    within : {x : Item} {start y after : ℕ} {b : List ℕ} → x ≡ gives start b after → Covers x y → (start ≤ y) × (y < start + length b)
    within {start = start} {after = after} {b = b} item c =
        let same : gives c.0 c.1 c.2 ≡ gives start b after = sym c.3 ∙ item in
        let z : c.0 ≡ start = cc in
        let w : c.1 ≡ b = cc in
        (omega (arith, c.4), omega (arith, c.5, ap (λ (k : List ℕ). length k) w))

    -- what is new was given by no line before
    pub new-once : (n start : ℕ) (b : List ℕ) (after : ℕ) → item_of format text n ≡ gives start b after
        → is_new (trail format text n).given start (start + length b) ≡ true → (k y : ℕ) → k < n → GivesTo format (lines format text) k y
        → GivesTo format (lines format text) n y → ⊥
    new-once n start b after item e k y h one two =
        let own = within item (gives-covers n y two) in
        shares (item_of format text k) start (start + length b) y (gives-covers k y one) own.0 own.1 (each-new start (start + length b) n e k h)

    module _ (n start : ℕ) (b : List ℕ) (after : ℕ) (l : List ℕ) (rest : List (List ℕ)) (here : drop n (lines format text) ≡ l ∷ rest)
        (item : item_of format text n ≡ gives start b after) (some : 0 < length b) where
      abbrev end : ℕ
      end = start + length b

      abbrev first : ℕ
      first = giver format text start end n

      is-first : why.First format text start end n first
      is-first = giver-is-first format text start end n

      earlier : is_new (trail format text n).given start end ≡ false → first < n
      earlier e = elim (dec_lt first n) [
        | yes p ↦ p
        | no p ↦ absurd (clash (all_new start end n (λ k h. is-first.before k (omega (arith, is-first.within)))) e)
      ]

      pub twice-is : is_new (trail format text n).given start end ≡ false
          → FirstPair (λ (k x : ℕ). (k < n) × GivesTo format (lines format text) k x × GivesTo format (lines format text) n x)
          first (max start (address_in (item_of format text first)))
      twice-is e =
          let before = earlier e in
          let x = in-way (item_of format text first) start end (is-first.gives before) in
          let a : address_in (item_of format text first) ≡ x.0 = ap address_in x.3 in
          let m : max start (address_in (item_of format text first)) ≡ max start x.0 = ap (max start) a in
          let d = drop-before before in
          let one : GivesTo format (lines format text) first (max start x.0) =
          covers-to first (max start x.0) d.2 (x.0, x.1, x.2, x.3, omega arith, omega (arith, x.4, x.6)) in
          let two : GivesTo format (lines format text) n (max start x.0) =
          covers-to n (max start x.0) here (start, b, after, item, omega arith, omega (arith, x.5)) in
          rw m (record {
            so = (before, one, two);
            none_before = λ c y h. order c y h x.0 x.1 x.2 x.3 before;
          })
        where
          drop-before : first < n → (k : List ℕ) × (ks : List (List ℕ)) × (drop first (lines format text) ≡ k ∷ ks)
          drop-before h = drop-some (lines format text) first (omega (arith, h, drop-long n (lines format text) here))

          own-start : (y : ℕ) → GivesTo format (lines format text) n y → (start ≤ y) × (y < end)
          own-start y g = within item (gives-covers n y g)

          order : (c y : ℕ) → (c < n) × GivesTo format (lines format text) c y × GivesTo format (lines format text) n y → (a : ℕ) (bs : List ℕ) (t : ℕ)
              → item_of format text first ≡ gives a bs t → first < n → (first < c) ⊎ ((first ≡ c) × (max start a ≤ y))
          order c y h a bs t e q =
              let own = own-start y h.2 in
              ⊎_elim
              (λ le. ⊎_elim
              (λ ge.
              let same : c ≡ first = omega arith in
              let k = gives-covers first y (subst (λ (i : ℕ). GivesTo format (lines format text) i y) same h.1) in
              let eq : gives k.0 k.1 k.2 ≡ gives a bs t = sym k.3 ∙ e in
              let z : k.0 ≡ a = cc in
              inr (omega arith, omega (arith, own.0, k.4)))
              (λ lt. inl lt)
              (le-or-lt c first))
              (λ lt. absurd (shares (item_of format text c) start end y (gives-covers c y h.1) own.0 own.1 (is-first.before c lt)))
              (le-or-lt first c)
