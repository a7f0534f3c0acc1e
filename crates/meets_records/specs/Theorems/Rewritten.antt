-- "A file read from S-records and written as Intel HEX gives the same bytes at the same addresses": what was read, from either format, is never
-- refused with 16 or 4 when it is written as Intel HEX from the same load address, and reading the new file has the same outcome as reading the old
-- one, whatever is lent.
use Rattle.std.specs.Prelude.{◌≡◌, List, ◌⊎◌, ℕ, suc, ◌+◌, ◌*◌, ◌-◌, ◌≤◌, ◌<◌, ◌/◌, length, get_or, take}
use Rattle.std.proofs.Common.{sym, ap, ◌∙◌, subst, inl, inr, ⊎_elim, arith}
use Rattle.sort.specs.Laws.Sorted.{le-or-lt}
use Rattle.blocks.specs.Outcome.{origins, sizes}
use Rattle.record_lines.specs.Pieces.{Piece}
use Rattle.record_read.specs.Runs.{blocks_given}
use Rattle.says.specs.Words as words
use Rattle.says.specs.Records as r
use Rattle.says.specs.Words.{Not}
use Rattle.says.specs.Records.{Width}
use Rattle.says.specs.Write as w
use Rattle.says.specs.Write.{Given, BadPart, BadPlace, HexSays}
use Rattle.says.specs.Read as s
use Rattle.says.specs.Read.{Gives, GivenTo, Good, Block, Blocks, Lent, Outcome, Filled, ReadSays}
use Rattle.meets_records.specs.Laws.Sits.{solid}
use Rattle.meets_records.specs.Laws.Has.{Has, gives-has, has-gives}
use Rattle.meets_records.specs.Laws.OwnFile.{front-is}
use Rattle.meets_records.specs.Laws.BlocksRead.{blocks-are, covering}
use Rattle.meets_records.specs.Theorems.ReadDecides.{offsets-one, sizes-one}
use Rattle.meets_records.specs.Theorems.ReadBack.{InBlock, Own, hex-own}
use Rattle.meets_records.specs.Theorems.SameReading.{same-reading}

less : (m n : ℕ) → (n < m → ⊥) → m ≤ n
less m n h = ⊎_elim (λ le. le) (λ lt. absurd (h lt)) (le-or-lt m n)

-- What was read, to be written: the bytes, and the blocks that were counted.
abbrev pub taken : ℕ → Outcome → Given
taken load z = record {
  image = z.lent.bytes;
  offsets = take z.answer.count z.lent.offsets;
  sizes = take z.answer.count z.lent.sizes;
  load = load;
}

module _ (format load : ℕ) (text : List ℕ) where
  above : {ps : List Piece} → Good format load text ps → (a : ℕ) → GivenTo ps a → load ≤ a
  above (s.good x i o) a h = (i h.0 a h.1 h.2).0

  top-low : {d e width top : ℕ} → Width d e width top → top ≤ 4294967296
  top-low (r.two a b c e) = omega arith
  top-low (r.four a b c e) = omega arith

  below : {ps : List Piece} → Good format load text ps → (a : ℕ) → GivenTo ps a → a < 4294967296
  below (s.good (s.hex e lines x) i o) a h = (i h.0 a h.1 h.2).1
  below (s.good (s.s-records n v lines x) i o) a h = omega (arith, (i h.0 a h.1 h.2).1, top-low v)

  record Took (old : Lent) (z : Outcome) : Type 0 where
    pub ps : List Piece
    pub os : List ℕ
    pub ss : List ℕ
    pub fit : Good format load text ps
    pub blocks : Blocks format load text ps os ss
    pub filled : Filled format load text old ps z.lent.bytes
    pub room : (a : ℕ) → GivenTo ps a → a - load < length old.bytes
    pub offsets : take z.answer.count z.lent.offsets ≡ os
    pub sizes : take z.answer.count z.lent.sizes ≡ ss

  took : (old : Lent) (z : Outcome) → ReadSays format load text old z → z.answer.refusal ≡ 0 → Took old z
  took old z (s.bad n) e = let z : ◌≡◌ {A = ℕ} 4 0 = e in absurd (omega arith)
  took old z (s.read g b (words.refused a m)) e = let z : ◌≡◌ {A = ℕ} 14 0 = e in absurd (omega arith)
  took old z (s.read g b (words.passed none (words.refused x m))) e = let z : ◌≡◌ {A = ℕ} 14 0 = e in absurd (omega arith)
  took old z (s.read {ps} {offsets} {sizes} g b (words.passed none (words.passed enough (s.accepts {bytes} {os} {ss} f o n)))) e =
      let many = b.as_many in
      let first : length offsets ≤ length old.offsets = less (length offsets) (length old.offsets) (λ h. enough tt (inl h)) in
      let second : length offsets ≤ length old.sizes = less (length offsets) (length old.sizes) (λ h. enough tt (inr h)) in
      record {
        ps = ps;
        os = offsets;
        ss = sizes;
        fit = g;
        blocks = b;
        filled = f;
        room = λ a h. ⊎_elim (λ le. absurd (none a (h, le))) (λ lt. lt) (le-or-lt (length old.bytes) (a - load));
        offsets = front-is offsets old.offsets os first o;
        sizes = ap (λ (k : ℕ). take k ss) many ∙ front-is sizes old.sizes ss (omega arith) n;
      }

  module _ (old : Lent) (z : Outcome) (t : Took old z) where
    abbrev image : List ℕ
    image = z.lent.bytes

    abbrev given : Given
    given = record { image = image; offsets = t.os; sizes = t.ss; load = load }

    same-given : taken load z ≡ given
    same-given =
        ap (λ (l : List ℕ). record { image = image; offsets = l; sizes = take z.answer.count z.lent.sizes; load = load }) t.offsets
        ∙ ap (λ (l : List ℕ). record { image = image; offsets = t.os; sizes = l; load = load }) t.sizes

    -- ---- a block, by its bytes
    record Is (o n : ℕ) : Type 0 where
      pub start : ℕ
      pub count : ℕ
      pub some : 0 < count
      pub from : o ≡ 8 * start
      pub size : n ≡ 8 * count
      pub has : (x : ℕ) → start ≤ x → x < start + count → GivenTo t.ps (load + x)
      pub before : (x : ℕ) → suc x ≡ start → GivenTo t.ps (load + x) → ⊥

    block-is : {o n : ℕ} → Block format load text t.ps o n → Is o n
    block-is (s.block {first = a} {count = c} some all behind before e f) =
        let zeroth : a + 0 ≡ a = omega arith in
        let low = above t.fit a (subst (GivenTo t.ps) zeroth (all 0 some)) in
        let x = a - load in
        record {
          start = x;
          count = c;
          some = some;
          from = e;
          size = f;
          has = λ y h k. let place : a + (y - x) ≡ load + y = omega arith in subst (GivenTo t.ps) place (all (y - x) (omega arith));
          before = λ y h i. let next : suc (load + y) ≡ a = omega arith in before (load + y) next i;
        }

    is_at : (i : ℕ) → i < length t.os → Is (get_or t.os i 0) (get_or t.ss i 0)
    is_at i h = block-is (t.blocks.each i h)

    long : length image ≡ length old.bytes
    long = t.filled.as_long

    -- the last byte of a block
    inside : (i : ℕ) → i < length t.os
        → (get_or t.os i 0 + get_or t.ss i 0 ≤ 8 * length image) × (load + (get_or t.os i 0 + get_or t.ss i 0) / 8 ≤ 4294967296)
    inside i h =
        let k = is_at i h in
        let some = k.some in
        let x = k.start + k.count - 1 in
        let g = k.has x (omega arith) (omega arith) in
        let room = t.room (load + x) g in
        let low = below t.fit (load + x) g in
        (omega (arith, k.from, k.size, long), omega (arith, k.from, k.size))

    -- ---- never 16, never 4
    no_part : BadPart given → ⊥
    no_part (w.unfit {i} b (inl e)) = let k = is_at i b.0 in omega (arith, k.some, k.size, b.3)
    no_part (w.unfit {i} b (inr (inl n))) = let k = is_at i b.0 in n (omega (arith, k.from, b.2))
    no_part (w.unfit {i} b (inr (inr (inl n)))) = let k = is_at i b.0 in n (omega (arith, k.size, b.3))
    no_part (w.unfit {i} b (inr (inr (inr past)))) = omega (arith, (inside i b.0).0, b.2, b.3)

    no_place : BadPlace given 4294967296 → ⊥
    no_place (w.lengths n) = n t.blocks.as_many
    no_place (w.order {i} b c lt) =
        let a = is_at i b.0 in
        let d = is_at (suc i) c.0 in
        let rise = t.blocks.rising i (suc i) (omega arith) c.0 in
        let from = a.from in
        let size = a.size in
        let other = d.from in
        let prior : suc (d.start - 1) ≡ d.start = omega arith in
        d.before (d.start - 1) prior (a.has (d.start - 1) (omega arith) (omega (arith, b.2, b.3, c.2)))
    no_place (w.past {i} b past) = omega (arith, (inside i b.0).1, b.2, b.3)

    -- ---- the same bytes
    in-given : (x : ℕ) → InBlock given x → GivenTo t.ps (load + x)
    in-given x i = let k = is_at i.0 i.1 in k.has x (omega (arith, i.3, k.from)) (omega (arith, i.4, k.from, k.size))

    given-in : (x : ℕ) → GivenTo t.ps (load + x) → InBlock given x
    given-in x h =
        let made = blocks_given load (solid t.ps) in
        let theirs = blocks-are format load text t.ps (above t.fit) in
        let same-os : origins made ≡ t.os = offsets-one format load text t.ps (above t.fit) theirs t.blocks in
        let same_ss : sizes made ≡ t.ss = sizes-one format load text t.ps (above t.fit) theirs t.blocks in
        let c = covering format load text t.ps (above t.fit) x h in
        let k = subst (λ (n : List ℕ). (i : ℕ) × (i < length t.os) × (get_or t.os i 0 / 8 ≤ x) × (x < (get_or t.os i 0 + get_or n i 0) / 8)) same_ss
        (subst (λ (n : List ℕ). (i : ℕ) × (i < length n) × (get_or n i 0 / 8 ≤ x) × (x < (get_or n i 0 + get_or (sizes made) i 0) / 8)) same-os c) in
        (k.0, k.1, omega (arith, k.1, t.blocks.as_many), k.2, k.3)

    byte_of : (x i b : ℕ) → Gives t.ps i (load + x) b → get_or image x 0 ≡ b
    byte_of x i b g =
        let place : load + x - load ≡ x = omega arith in
        ap (λ (y : ℕ). get_or image y 0) (sym place) ∙ t.filled.given i (load + x) b g

    module _ (qs : List Piece) (own : Own given qs) where
      there : (a b : ℕ) → Has t.ps a b → Has qs a b
      there a b h =
          let k = has-gives t.ps a b h in
          let low = above t.fit a (k.0, b, k.1) in
          let x = a - load in
          let place : a ≡ load + x = omega arith in
          let g : Gives t.ps k.0 (load + x) b = subst (λ (y : ℕ). Gives t.ps k.0 y b) place k.1 in
          let new = own.all x (given-in x (k.0, b, g)) in
          subst (λ (y : ℕ). Has qs y b) (sym place) (subst (λ (y : ℕ). Has qs (load + x) y) (byte_of x k.0 b g) new)

      back : (a b : ℕ) → Has qs a b → Has t.ps a b
      back a b h =
          let k = own.only a b h in
          let x = k.0 in
          let g = in-given x k.1 in
          let same : g.1 ≡ b = sym (byte_of x g.0 g.1 g.2) ∙ sym k.3 in
          subst (λ (y : ℕ). Has t.ps y b) (sym k.2)
          (subst (λ (y : ℕ). Has t.ps (load + x) y) same (gives-has t.ps g.0 (load + x) g.1 g.2))

    never : (room : List ℕ) (y : w.Outcome) → HexSays given room y → Not (y.answer.refusal ≡ 16) × Not (y.answer.refusal ≡ 4)
    never room y (words.refused x m) = absurd (no_part m)
    never room y (words.passed a (words.refused x m)) = absurd (no_place m)
    never room y (words.passed a (words.passed b (w.written c x (words.refused k m)))) = (
      λ e. let q : ◌≡◌ {A = ℕ} 14 16 = e in omega arith,
      λ e. let q : ◌≡◌ {A = ℕ} 14 4 = e in omega arith,
    )
    never room y (words.passed a (words.passed b (w.written c x (words.passed k (w.accepts n))))) = (
      λ e. let q : ◌≡◌ {A = ℕ} 0 16 = e in omega arith,
      λ e. let q : ◌≡◌ {A = ℕ} 0 4 = e in omega arith,
    )

  module _ (old : Lent) (z : Outcome) (x : ReadSays format load text old z) (e : z.answer.refusal ≡ 0) (room : List ℕ) (y : w.Outcome)
      (written : HexSays (taken load z) room y) where
    as-given : HexSays (given old z (took old z x e)) room y
    as-given = subst (λ (g : Given). HexSays g room y) (same-given old z (took old z x e)) written

    -- no refusal but 14, for want of room
    pub read-is-written : Not (y.answer.refusal ≡ 16) × Not (y.answer.refusal ≡ 4)
    read-is-written = never old z (took old z x e) room y as-given

    -- and where there is room, either file reads the same
    pub rewritten-reads-same : y.answer.refusal ≡ 0 → (lent : Lent) (u v : Outcome) → ReadSays format load text lent u
        → ReadSays 0 load (take y.answer.count y.text) lent v → u ≡ v
    rewritten-reads-same accepted lent u v ru rv =
        let t = took old z x e in
        let k = hex-own (given old z t) room y as-given accepted in
        same-reading format 0 load text (take y.answer.count y.text) t.ps k.0 lent (there old z t k.0 k.2)
        (back old z t k.0 k.2) t.fit k.1
        u v ru rv
