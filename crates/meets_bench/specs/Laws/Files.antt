-- The bytes that a file gives, by its blocks: the sentences' words against the runs of the bytes that its pieces give.
use Rattle.std.specs.Prelude.{◌≡◌, Bool, true, false, ℕ, zero, suc, ◌+◌, ◌-◌, ◌*◌, ◌/◌, ◌≤◌, ◌<◌, length, get_or}
use Rattle.std.proofs.Math.Path.{refl}
use Rattle.std.proofs.Common.{ap, arith}
use mathlib.Core.List.{List, [], ◌∷◌, map}
use Rattle.std.proofs.Math.Decide.{dec_lt}
use borrow.Author.Tests.{le-leb, lt-ltb}
use Rattle.prelude.specs.Laws.Bools.{clash}
use Rattle.blocks.specs.Outcome.{origins, sizes}
use Rattle.blocks.specs.Walk.{end_of}
use Rattle.blocks.specs.declared.Block.{Block}
use Rattle.overlay.specs.Order.{in_order}
use Rattle.record_lines.specs.Pieces.{Piece}
use Rattle.record_read.specs.Given.{given}
use Rattle.record_read.specs.Laws.BlockFacts.{all-below, given-runs}
use Rattle.record_read.specs.RunLaws.{AreRuns}
use Rattle.record_read.specs.Runs.{is_given, reach, runs_given, in_bits, blocks_given}
use Rattle.print_bench.specs.Images.{extent_of, free_from}
use Rattle.print_bench.specs.Laws.Free.{three_ways, free-above}
use Rattle.print_bench.specs.Theorems.Given.{named-is-not-given, before-it-is-given}
use Rattle.says.specs.Words.{Not, First}
use Rattle.says.specs.Bench.{File, file_in, Gives}

-- ---- runs of a test, in bits

abbrev offsets_in : List Block → List ℕ
offsets_in l = origins (map in_bits l)

abbrev sizes_in : List Block → List ℕ
sizes_in l = sizes (map in_bits l)

abbrev extent_in : List Block → ℕ
extent_in l = extent_of (offsets_in l) (sizes_in l)

abbrev Sits : List Block → ℕ → Type 0
Sits l x = (i : ℕ) × (i < length (offsets_in l)) × (get_or (offsets_in l) i 0 ≤ 8 * x) × (8 * x < get_or (offsets_in l) i 0 + get_or (sizes_in l) i 0)

one-extent : (b : Block) → extent_in (b ∷ []) ≡ end_of b
one-extent b = omega arith

more-extent : (b c : Block) (l : List Block) → extent_in (b ∷ c ∷ l) ≡ extent_in (c ∷ l)
more-extent b c l =
    let n = length (offsets_in (c ∷ l)) in
    let down : suc n - 1 ≡ suc (n - 1) = omega arith in
    ap (λ (k : ℕ). get_or (8 * b.origin ∷ offsets_in (c ∷ l)) k 0 / 8 + get_or (8 * b.size ∷ sizes_in (c ∷ l)) k 0 / 8) down

module _ (test : ℕ → Bool) where
  sits : (lo hi : ℕ) (l : List Block) → AreRuns test lo hi l → (x : ℕ) → lo ≤ x → x < hi → test x ≡ true → Sits l x
  sits lo hi [] r x h k e = absurd (clash e (r x h k))
  sits lo hi (b ∷ l) r x h k e =
      three_ways b x
      (λ p. absurd (clash e (r.0.before x h p)))
      (λ p q. (0, omega arith, omega arith, omega arith))
      (λ p. let s = sits (end_of b) hi l r.1 x p k e in (suc s.0, omega (arith, s.1), s.2, s.3))

  holds : (lo hi : ℕ) (l : List Block) → AreRuns test lo hi l → (x i : ℕ) → i < length (offsets_in l) → get_or (offsets_in l) i 0 ≤ 8 * x
      → 8 * x < get_or (offsets_in l) i 0 + get_or (sizes_in l) i 0 → test x ≡ true
  holds lo hi [] r x i h p q = absurd (omega arith)
  holds lo hi (b ∷ l) r x zero h p q = r.0.inside x (omega arith) (omega arith)
  holds lo hi (b ∷ l) r x (suc i) h p q = holds (end_of b) hi l r.1 x i (omega arith) p q

  within : (lo hi : ℕ) (l : List Block) → AreRuns test lo hi l → (x : ℕ) → lo ≤ x → x < hi → test x ≡ true → x < extent_in l
  within lo hi [] r x h k e = absurd (clash e (r x h k))
  within lo hi (b ∷ []) r x h k e =
      three_ways b x
      (λ p. absurd (clash e (r.0.before x h p)))
      (λ p q. omega (arith, one-extent b))
      (λ p. absurd (clash e (r.1 x p k)))
  within lo hi (b ∷ c ∷ l) r x h k e =
      three_ways b x
      (λ p. absurd (clash e (r.0.before x h p)))
      (λ p q.
      let f = r.1.0 in
      let at = c.origin in
      let next = within (end_of b) hi (c ∷ l) r.1 at f.from (omega (arith, f.some, f.ends)) (f.inside at (omega arith) (omega (arith, f.some))) in
      omega (arith, next, f.from, more-extent b c l))
      (λ p. let next = within (end_of b) hi (c ∷ l) r.1 x p k e in omega (arith, next, more-extent b c l))

  ordered : (floor lo hi : ℕ) (l : List Block) → AreRuns test lo hi l → floor ≤ 8 * lo → in_order floor (offsets_in l) (sizes_in l) ≡ true
  unfolding in_order
  ordered floor lo hi [] r h = refl
  ordered floor lo hi (b ∷ l) r h =
      rw (lt-ltb 0 (8 * b.size) (omega (arith, r.0.some)), le-leb floor (8 * b.origin) (omega (arith, r.0.from)))
      (ordered (8 * b.origin + 8 * b.size) (end_of b) hi l r.1 (omega arith))

-- ---- a file's pieces

module _ (load : ℕ) (l : List Piece) where
  abbrev os : List ℕ
  os = origins (blocks_given load l)

  abbrev ss : List ℕ
  ss = sizes (blocks_given load l)

  pub in_order_lem : in_order 0 os ss ≡ true
  in_order_lem = ordered (is_given load l) 0 0 (suc (reach load l)) (runs_given load l) (given-runs load l) (omega arith)

  pub in-extent : (x : ℕ) → given l (load + x) ≡ true → x < extent_of os ss
  in-extent x e = within (is_given load l) 0 (suc (reach load l)) (runs_given load l) (given-runs load l) x (omega arith) (omega (arith, all-below load l x e)) e

  module _ (bytes : List ℕ) where
    abbrev f : File
    f = file_in bytes os ss

    pub gives : (x : ℕ) → given l (load + x) ≡ true → Gives f x
    gives x e = sits (is_given load l) 0 (suc (reach load l)) (runs_given load l) (given-runs load l) x (omega arith) (omega (arith, all-below load l x e)) e

    pub is-given : (x : ℕ) → Gives f x → given l (load + x) ≡ true
    is-given x g = holds (is_given load l) 0 (suc (reach load l)) (runs_given load l) (given-runs load l) x g.0 g.1 g.2 g.3

    pub lacks : (x : ℕ) → given l (load + x) ≡ false → Not (Gives f x)
    lacks x e g = clash (is-given x g) e

    -- the first byte from one on that the file does not give
    pub first-lack : (at : ℕ) → First (λ c. (at ≤ c) × Not (Gives f c)) (free_from os ss at)
    first-lack at =
        record {
          so = (free-above (runs_given load l) at, lacks (free_from os ss at) (named-is-not-given load l at));
          none_below = λ j s.
              elim (dec_lt j (free_from os ss at)) [
                | yes h ↦ absurd (s.1 (gives j (before-it-is-given load l at j s.0 h)))
                | no h ↦ omega arith
              ];
        }
