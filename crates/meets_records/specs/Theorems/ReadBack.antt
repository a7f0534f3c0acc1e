-- "Reading back our own file gives the same bytes at the same addresses, touching blocks joined": of every file that `dk_write_hex` accepts, and of every one
-- that `dk_write_srec` accepts, once over both widths; read at the same load address into what has room for the blocks, and no more than that. Over the
-- sentences; that a byte lies in a listed block goes by the runs.
use Rattle.std.specs.Prelude.{◌≡◌, refl, List, ◌⊎◌, eqb, length, take}
use Rattle.std.proofs.Common.{sym, ap, ◌∙◌, subst, inl, inr, ⊎_elim, eqb-true, ne_eqb}
use Prim.Native.Nat.{ℕ, zero, suc, ◌+◌, ◌*◌, ◌-◌, ◌≤◌, ◌<◌, ◌/◌, ◌%◌}
use native.Mathlib.Omega.{arith}
use Rattle.std.proofs.lemmas.Bool.{eqb-false}
use Rattle.std.proofs.Math.ListN.{get_or}
use Rattle.prelude.specs.Laws.Bools.{either}
use Rattle.prelude.specs.Pick.{pick}
use Rattle.sort.specs.Laws.Sorted.{le-or-lt}
use Rattle.record_lines.specs.Pieces.{Piece}
use Rattle.blocks.specs.Outcome.{origins, sizes}
use Rattle.record_read.specs.Runs.{blocks_given}
use Rattle.says.specs.Words as words
use Rattle.says.specs.Words.{Tries, Begins}
use Rattle.says.specs.Words.{Not}
use Rattle.says.specs.Write as w
use Rattle.says.specs.Write.{Given, HexSays, SrecSays}
use Rattle.says.specs.Read as s
use Rattle.says.specs.Read.{Gives, GivenTo, Good, Block, Blocks, Lent, Outcome, Filled, Accepts, ReadSays}
use Rattle.meets_records.specs.Laws.Sits.{solid}
use Rattle.meets_records.specs.Laws.Has.{Has, gives-has, has-gives, has-given, lone-once}
use Rattle.meets_records.specs.Laws.CutBytes.{cuts-has, has-cuts, cuts-lone, inside_of, low_of, ordered_of, Ordered}
use Rattle.meets_records.specs.Laws.OwnFile.{hex-back, srec-back, Filed, hex-filed, srec-filed}
use Rattle.meets_records.specs.Laws.BlocksRead.{blocks-are, covering}
use Rattle.meets_records.specs.Theorems.ReadDecides.{good-one, offsets-one, sizes-one}

-- Byte x of the image lies in a block.
abbrev pub InBlock : Given → ℕ → Type 0
InBlock g x = (i : ℕ) × (i < length g.offsets) × (i < length g.sizes) × (get_or g.offsets i 0 / 8 ≤ x)
    × (x < (get_or g.offsets i 0 + get_or g.sizes i 0) / 8)

-- How many blocks the first n are, touching ones joined: one that starts where the one before it ends goes on with that one.
unfoldable pub joined_to : List ℕ → List ℕ → ℕ → ℕ
joined_to offsets sizes zero = 0
joined_to offsets sizes (suc zero) = 1
joined_to offsets sizes (suc (suc i)) =
    pick (eqb (get_or offsets i 0 + get_or sizes i 0) (get_or offsets (suc i) 0)) 0 1 + joined_to offsets sizes (suc i)

-- The room that the blocks take when they come back: each byte of a block has its place, and each block, touching ones joined, an element of both lists.
pub record Room (g : Given) (lent : Lent) : Type 0 where
  pub bytes : (x : ℕ) → InBlock g x → x < length lent.bytes
  pub offsets : joined_to g.offsets g.sizes (length g.offsets) ≤ length lent.offsets
  pub sizes : joined_to g.offsets g.sizes (length g.offsets) ≤ length lent.sizes

-- A file's pieces give the blocks' bytes, each to the load address plus its place in the image, and nothing else.
pub record Own (g : Given) (ps : List Piece) : Type 0 where
  pub only : (a b : ℕ) → Has ps a b → (x : ℕ) × InBlock g x × (a ≡ g.load + x) × (b ≡ get_or g.image x 0)
  pub all : (x : ℕ) → InBlock g x → Has ps (g.load + x) (get_or g.image x 0)

-- What comes back of an image's blocks, in everything that was lent.
pub record Returned (g : Given) (old : Lent) (z : Outcome) : Type 0 where
  pub accepted : z.answer.refusal ≡ 0
  pub same : (x : ℕ) → InBlock g x → get_or z.lent.bytes x 0 ≡ get_or g.image x 0
  pub kept : (x : ℕ) → Not (InBlock g x) → get_or z.lent.bytes x 0 ≡ get_or old.bytes x 0
  -- the blocks are on byte edges and not empty,
  pub edges : (i : ℕ) → i < z.answer.count → (get_or z.lent.offsets i 0 % 8 ≡ 0) × (get_or z.lent.sizes i 0 % 8 ≡ 0) × (0 < get_or z.lent.sizes i 0)
  -- they have the same bytes,
  pub blocks : (i : ℕ) → i < z.answer.count → (x : ℕ) → get_or z.lent.offsets i 0 / 8 ≤ x
      → x < (get_or z.lent.offsets i 0 + get_or z.lent.sizes i 0) / 8 → InBlock g x
  pub every : (x : ℕ) → InBlock g x → (i : ℕ) × (i < z.answer.count) × (get_or z.lent.offsets i 0 / 8 ≤ x)
      × (x < (get_or z.lent.offsets i 0 + get_or z.lent.sizes i 0) / 8)
  -- and no two of them touch
  pub joined : (i : ℕ) → suc i < z.answer.count → get_or z.lent.offsets i 0 + get_or z.lent.sizes i 0 < get_or z.lent.offsets (suc i) 0

-- ---- the file is good and gives the blocks' bytes
module _ (g : Given) (old : List ℕ) (y : w.Outcome) {Text : List Piece → List ℕ → Type 0} {top : ℕ} (f : Filed g old Text top y) where
  own : Own g f.pieces
  own = record {
    only = λ a b x. cuts-has g f.cuts a b x;
    all = λ x i. has-cuts g f.cuts (inside_of g f.parts) x i.0 i.1 i.2 i.3 i.4;
  }

  within : (i a b : ℕ) → Gives f.pieces i a b → (g.load ≤ a) × (a < top)
  within i a b h =
      let k = cuts-has g f.cuts a b (gives-has f.pieces i a b h) in
      let j = k.1 in
      let low = low_of g top f.places j.0 j.1 j.2 in
      (omega (arith, k.2), omega (arith, k.2, j.4))

  once : (i j a b c : ℕ) → Gives f.pieces i a b → Gives f.pieces j a c → i ≡ j
  once = lone-once f.pieces (cuts-lone g f.cuts (ordered_of g top f.places))

abbrev file : w.Outcome → List ℕ
file y = take y.answer.count y.text

pub hex-own : (g : Given) (old : List ℕ) (y : w.Outcome) → HexSays g old y → y.answer.refusal ≡ 0
    → (ps : List Piece) × Good 0 g.load (file y) ps × Own g ps
hex-own g old y x e =
    let f = hex-filed g old y x e in
    let k = hex-back f.text in
    (f.pieces, s.good (s.hex refl k.1 k.2) (within g old y f) (once g old y f), own g old y f)

pub srec-own : (g : Given) (old : List ℕ) (width : ℕ) (y : w.Outcome) → SrecSays g old width y → y.answer.refusal ≡ 0
    → (ps : List Piece) × Good 1 g.load (file y) ps × Own g ps
srec-own g old width y x e =
    let q = srec-filed g old width y x e in
    let f = q.4 in
    let k = srec-back q.3 f.text in
    (f.pieces, s.good (s.s-records refl q.3 k.1 k.2) (within g old y f) (once g old y f), own g old y f)

-- ---- as many blocks at most
module _ (qs ns : List ℕ) where
  -- no block ends where this one starts
  abbrev Fresh : ℕ → Type 0
  Fresh j = (i : ℕ) → suc i ≡ j → get_or qs i 0 + get_or ns i 0 ≡ get_or qs j 0 → ⊥

  one_more : (j : ℕ) → joined_to qs ns j ≤ joined_to qs ns (suc j)
  unfolding joined_to
  one_more zero = omega arith
  one_more (suc i) = omega arith

  more : (d i j : ℕ) → i + d ≡ j → joined_to qs ns i ≤ joined_to qs ns j
  more zero i j e = let same : i ≡ j = omega arith in omega (arith, ap (joined_to qs ns) same)
  more (suc d) i j e = omega (arith, one_more i, more d (suc i) j (omega arith))

  counts : (j : ℕ) → Fresh j → suc (joined_to qs ns j) ≤ joined_to qs ns (suc j)
  unfolding joined_to
  counts zero f = omega arith
  counts (suc i) f = rw (ne_eqb (get_or qs i 0 + get_or ns i 0) (get_or qs (suc i) 0) (f i refl)) (omega arith)

  module _ (os : List ℕ) (at : (i : ℕ) → i < length os → (j : ℕ) × (j < length qs) × (get_or qs j 0 / 8 ≡ get_or os i 0 / 8) × Fresh j)
      (rises : (i j : ℕ) → i < j → j < length os → get_or os i 0 / 8 < get_or os j 0 / 8)
      (up : (i j : ℕ) → i ≤ j → j < length qs → get_or qs i 0 ≤ get_or qs j 0) where
    climbs : (i : ℕ) (h : i < length os) → suc i ≤ joined_to qs ns (suc (at i h).0)
    climbs zero h = let here = at zero h in omega (arith, counts here.0 here.3)
    climbs (suc i) h =
        let here = at (suc i) h in
        let k : i < length os = omega arith in
        let before = at i k in
        let below = climbs i k in
        ⊎_elim
        (λ le. absurd (omega (arith, rises i (suc i) (omega arith) h, up here.0 before.0 le before.1, here.2, before.2)))
        (λ lt. omega (arith, counts here.0 here.3, more (here.0 - suc before.0) (suc before.0) here.0 (omega arith)))
        (le-or-lt here.0 before.0)

    as-few : (n : ℕ) → length os ≡ n → n ≤ joined_to qs ns (length qs)
    as-few zero e = omega arith
    as-few (suc n) e =
        let h : n < length os = omega arith in
        let last = at n h in
        let within = last.1 in
        omega (arith, climbs n h, more (length qs - suc last.0) (suc last.0) (length qs) (omega arith))

-- ---- reading it
module _ (g : Given) (format : ℕ) (text : List ℕ) (ps : List Piece) (fit : Good format g.load text ps) (mine : Own g ps)
    (order : Ordered g g.offsets g.sizes)
    (eight : (i : ℕ) → i < length g.offsets → i < length g.sizes → 8 ≤ get_or g.sizes i 0)
    (paired : length g.offsets ≡ length g.sizes) (old : Lent) (room : Room g old) where
  above : {rs : List Piece} → Good format g.load text rs → (a : ℕ) → GivenTo rs a → g.load ≤ a
  above (s.good x i o) a h = (i h.0 a h.1 h.2).0

  in_block : (a : ℕ) → GivenTo ps a → (x : ℕ) × InBlock g x × (a ≡ g.load + x)
  in_block a h = let k = mine.only a h.1 (gives-has ps h.0 a h.1 h.2) in (k.0, k.1, k.2)

  given-in : (x : ℕ) → InBlock g x → GivenTo ps (g.load + x)
  given-in x i = has-given ps (g.load + x) (get_or g.image x 0) (mine.all x i)

  in-at : (x : ℕ) → GivenTo ps (g.load + x) → InBlock g x
  in-at x h = let k = in_block (g.load + x) h in let e : k.0 ≡ x = omega (arith, k.2) in subst (InBlock g) e k.1

  module _ {os ss : List ℕ} (b : Blocks format g.load text ps os ss) where
    -- a block that comes back, by its bytes
    record Is (o n : ℕ) : Type 0 where
      pub start : ℕ
      pub count : ℕ
      pub some : 0 < count
      pub from : o ≡ 8 * start
      pub size : n ≡ 8 * count
      pub has : (x : ℕ) → start ≤ x → x < start + count → InBlock g x
      pub behind : InBlock g (start + count) → ⊥
      pub before : (x : ℕ) → suc x ≡ start → InBlock g x → ⊥

    block-is : {o n : ℕ} → Block format g.load text ps o n → Is o n
    block-is (s.block {first = a} {count = c} some all behind before e f) =
        let zeroth : a + 0 ≡ a = omega arith in
        let low = above fit a (subst (GivenTo ps) zeroth (all 0 some)) in
        let x = a - g.load in
        record {
          start = x;
          count = c;
          some = some;
          from = e;
          size = f;
          has = λ z h k. let place : a + (z - x) ≡ g.load + z = omega arith in in-at z (subst (GivenTo ps) place (all (z - x) (omega arith)));
          behind = λ i. let place : g.load + (x + c) ≡ a + c = omega arith in behind (subst (GivenTo ps) place (given-in (x + c) i));
          before = λ z h i. let next : suc (g.load + z) ≡ a = omega arith in before (g.load + z) next (given-in z i);
        }

    starts : (i : ℕ) → i < length os
        → (j : ℕ) × (j < length g.offsets) × (get_or g.offsets j 0 / 8 ≡ get_or os i 0 / 8) × Fresh g.offsets g.sizes j
    starts i h =
        let k = block-is (b.each i h) in
        let x = k.start in
        let full = k.some in
        let j = k.has x (omega arith) (omega arith) in
        let edge : get_or g.offsets j.0 0 / 8 ≡ x = ⊎_elim
        (λ le. omega (arith, j.3))
        (λ lt.
        let prior : suc (x - 1) ≡ x = omega arith in
        absurd (k.before (x - 1) prior (j.0, j.1, j.2, omega arith, omega (arith, j.4))))
        (le-or-lt x (get_or g.offsets j.0 0 / 8)) in (
          j.0,
          j.1,
          edge ∙ omega (arith, k.from),
          λ n e touch.
              let p : n < length g.offsets = omega (arith, j.1) in
              let q : n < length g.sizes = omega (arith, j.2) in
              let prior : suc (x - 1) ≡ x = omega (arith, eight n p q) in
              k.before (x - 1) prior (n, p, q, omega (arith, eight n p q), omega arith),
        )

    rises : (i j : ℕ) → i < j → j < length os → get_or os i 0 / 8 < get_or os j 0 / 8
    rises i j h k =
        let a = block-is (b.each i (omega arith)) in
        let c = block-is (b.each j k) in
        omega (arith, b.rising i j h k, a.from, c.from)

    up : (i j : ℕ) → i ≤ j → j < length g.offsets → get_or g.offsets i 0 ≤ get_or g.offsets j 0
    up i j h k = ⊎_elim
        (λ le. let same : j ≡ i = omega arith in subst (λ (n : ℕ). get_or g.offsets i 0 ≤ get_or g.offsets n 0) (sym same) (omega arith))
        (λ lt. omega (arith, order i j lt k (omega arith)))
        (le-or-lt j i)

    few : length os ≤ joined_to g.offsets g.sizes (length g.offsets)
    few = as-few g.offsets g.sizes os starts rises up (length os) refl

    apart : (i : ℕ) → suc i < length os → get_or os i 0 + get_or ss i 0 < get_or os (suc i) 0
    apart i h =
        let a = block-is (b.each i (omega arith)) in
        let c = block-is (b.each (suc i) h) in
        let rise = b.rising i (suc i) (omega arith) h in
        let some = c.some in
        ⊎_elim
        (λ le.
        -- the next one would begin inside this one, or right behind it
        ⊎_elim
        (λ far.
        let same : c.start ≡ a.start + a.count = omega (arith, a.from, a.size, c.from) in
        absurd (a.behind (subst (InBlock g) same (c.has c.start (omega arith) (omega arith)))))
        (λ near.
        let prior : suc (c.start - 1) ≡ c.start = omega (arith, a.from, c.from) in
        absurd (c.before (c.start - 1) prior (a.has (c.start - 1) (omega (arith, a.from, c.from)) (omega arith))))
        (le-or-lt (a.start + a.count) c.start))
        (λ lt. lt)
        (le-or-lt (get_or os (suc i) 0) (get_or os i 0 + get_or ss i 0))

    listed : (i : ℕ) → i < length os → (x : ℕ) → get_or os i 0 / 8 ≤ x → x < (get_or os i 0 + get_or ss i 0) / 8 → InBlock g x
    listed i h x low high =
        let a = block-is (b.each i h) in
        a.has x (omega (arith, a.from)) (omega (arith, a.from, a.size))

    found : (x : ℕ) → InBlock g x → (i : ℕ) × (i < length os) × (get_or os i 0 / 8 ≤ x) × (x < (get_or os i 0 + get_or ss i 0) / 8)
    found x i =
        let made = blocks_given g.load (solid ps) in
        let theirs = blocks-are format g.load text ps (above fit) in
        let same-os : origins made ≡ os = offsets-one format g.load text ps (above fit) theirs b in
        let same_ss : sizes made ≡ ss = sizes-one format g.load text ps (above fit) theirs b in
        let k = covering format g.load text ps (above fit) x (given-in x i) in
        subst (λ (n : List ℕ). (i : ℕ) × (i < length os) × (get_or os i 0 / 8 ≤ x) × (x < (get_or os i 0 + get_or n i 0) / 8)) same_ss
        (subst (λ (n : List ℕ). (i : ℕ) × (i < length n) × (get_or n i 0 / 8 ≤ x) × (x < (get_or n i 0 + get_or (sizes made) i 0) / 8)) same-os k)

    -- the blocks stand at the front of the lent lists
    returned : {bytes at ns : List ℕ} → Filled format g.load text old ps bytes → Begins os old.offsets at → Begins ss old.sizes ns
        → Returned g old (record {
          answer = record { refusal = 0; place = 0; count = length os };
          lent = record { bytes = bytes; offsets = at; sizes = ns; scratch = old.scratch };
        })
    returned {bytes} {at} {ns} f o n =
        let many = b.as_many in
        record {
          accepted = refl;
          same = λ x i.
              let k = has-gives ps (g.load + x) (get_or g.image x 0) (mine.all x i) in
              let place : g.load + x - g.load ≡ x = omega arith in
              ap (λ (z : ℕ). get_or bytes z 0) (sym place) ∙ f.given k.0 (g.load + x) (get_or g.image x 0) k.1;
          kept = λ x out. f.kept x (λ h. out (in-at x h));
          edges = λ i h.
              let k = block-is (b.each i h) in
              let p = o.front i h in
              let q = n.front i (omega (arith, many)) in
              (omega (arith, p, k.from), omega (arith, q, k.size), omega (arith, q, k.size, k.some));
          blocks = λ i h x low high. listed i h x (omega (arith, o.front i h)) (omega (arith, o.front i h, n.front i (omega arith)));
          every = λ x i.
              let k = found x i in
              let p = o.front k.0 k.1 in
              let q = n.front k.0 (omega (arith, k.1)) in
              (k.0, k.1, omega (arith, k.2), omega (arith, k.3));
          joined = λ i h.
              omega (arith, apart i h, o.front i (omega arith), n.front i (omega arith), o.front (suc i) h);
        }

  pub comes_back : (z : Outcome) → ReadSays format g.load text old z → Returned g old z
  comes_back z (s.bad n) = absurd (n ps fit)
  comes_back z (s.read {ps = rs} {offsets = os} {sizes = ss} k b t) =
      let pieces : rs ≡ ps = good-one format g.load k fit in
      tried z (rw pieces at b) (rw pieces at t)
    where
      tried : {os ss : List ℕ} (z : Outcome) → Blocks format g.load text ps os ss
          → Tries (λ (a : ℕ). GivenTo ps a × (length old.bytes ≤ a - g.load)) (λ _. s.refusal format g.load text old 14 0)
          (Tries (λ (_ : Unit {0}). (length old.offsets < length os) ⊎ (length old.sizes < length os)) (λ _. s.refusal format g.load text old 14 2)
          (Accepts format g.load text old ps os ss)) z → Returned g old z
      tried z b (words.refused a m) =
          let k = in_block a m.0 in
          absurd (omega (arith, m.1, k.2, room.bytes k.0 k.1))
      tried z b (words.passed none (words.refused x m)) = absurd (⊎_elim (λ h. omega (arith, few b, room.offsets)) (λ h. omega (arith, few b, room.sizes)) m)
      tried z b (words.passed none (words.passed enough (s.accepts f o n))) = returned b f o n

-- ---- the two headlines
some_of : (g : Given) → Not (w.BadPart g) → (i : ℕ) → i < length g.offsets → i < length g.sizes → 8 ≤ get_or g.sizes i 0
some_of g fine i h k =
    let n = get_or g.sizes i 0 in
    either (eqb (n % 8) 0)
    (λ t.
    let edge = eqb-true (n % 8) 0 t in
    ⊎_elim (λ le. le) (λ lt. let none : n ≡ 0 = omega arith in absurd (fine (w.unfit {i = i} (h, k, refl, refl) (inl none)))) (le-or-lt 8 n))
    (λ f. absurd (fine (w.unfit {i = i} (h, k, refl, refl) (inr (inr (inl (eqb-false (n % 8) 0 f)))))))

module _ (g : Given) (old : List ℕ) (y : w.Outcome) {Text : List Piece → List ℕ → Type 0} {top : ℕ} (f : Filed g old Text top y) where
  paired-of : length g.offsets ≡ length g.sizes
  paired-of = ⊎_elim
      (λ le. ⊎_elim (λ ge. omega arith) (λ lt. absurd (f.places (w.lengths (λ e. omega arith)))) (le-or-lt (length g.sizes) (length g.offsets)))
      (λ lt. absurd (f.places (w.lengths (λ e. omega arith))))
      (le-or-lt (length g.offsets) (length g.sizes))

pub hex-comes-back : (g : Given) (old : List ℕ) (y : w.Outcome) → HexSays g old y → y.answer.refusal ≡ 0
    → (lent : Lent) → Room g lent → (z : Outcome) → ReadSays 0 g.load (take y.answer.count y.text) lent z → Returned g lent z
hex-comes-back g old y x e lent room z r =
    let f = hex-filed g old y x e in
    let k = hex-own g old y x e in
    comes_back g 0 (file y) k.0 k.1 k.2 (ordered_of g 4294967296 f.places) (some_of g f.parts) (paired-of g old y f) lent room z r

pub srec-comes-back : (g : Given) (old : List ℕ) (width : ℕ) (y : w.Outcome) → SrecSays g old width y → y.answer.refusal ≡ 0
    → (lent : Lent) → Room g lent → (z : Outcome) → ReadSays 1 g.load (take y.answer.count y.text) lent z → Returned g lent z
srec-comes-back g old width y x e lent room z r =
    let q = srec-filed g old width y x e in
    let f = q.4 in
    let k = srec-own g old width y x e in
    comes_back g 1 (file y) k.0 k.1 k.2 (ordered_of g q.2 f.places) (some_of g f.parts) (paired-of g old y f) lent room z r
