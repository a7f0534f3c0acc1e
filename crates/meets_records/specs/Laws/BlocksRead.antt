-- The blocks of a file, by the definition's runs and by the sentences.
use Rattle.std.specs.Prelude.{◌≡◌, Bool, true, false, List, [], ◌∷◌, ◌⊎◌, ℕ, zero, suc, ◌+◌, ◌-◌, ◌*◌, ◌≤◌, ◌<◌, ◌/◌, length, get_or}
use Rattle.std.proofs.Common.{sym, ap, ◌∙◌, subst, ⊎_elim, arith}
use Rattle.std.proofs.lemmas.List.{length-map}
use Rattle.std.proofs.Math.ListN.{get_or-map}
use Rattle.prelude.specs.Laws.Bools.{clash}
use Rattle.sort.specs.Laws.Sorted.{le-or-lt}
use Rattle.blocks.specs.declared.Block.{Block}
use Rattle.blocks.specs.Walk.{block, end_of}
use Rattle.blocks.specs.Outcome.{origins, sizes}
use Rattle.record_lines.specs.Pieces.{Piece}
use Rattle.record_read.specs.Given.{given}
use Rattle.record_read.specs.Runs.{is_given, reach, runs_given, in_bits, blocks_given}
use Rattle.record_read.specs.RunLaws.{AreRuns, Holds}
use Rattle.record_read.specs.Laws.BlockFacts.{given-runs, all-below}
use Rattle.says.specs.Read as s
use Rattle.says.specs.Read.{GivenTo}
use Rattle.meets_records.specs.Laws.Sits.{solid}
use Rattle.meets_records.specs.Laws.GivenBytes.{given_to, to-given}

abbrev nth : List Block → ℕ → Block
nth l i = get_or l i (block 0 0)

-- ---- a list of runs, run by run
module _ (test : ℕ → Bool) where
  pub record Run (b : Block) : Type 0 where
    pub some : 0 < b.size
    pub inside : Holds test b.origin (end_of b)
    pub after : test (end_of b) ≡ false
    pub before : (x : ℕ) → suc x ≡ b.origin → test x ≡ false

  run-each : (lo hi : ℕ) (l : List Block) → AreRuns test lo hi l → ((x : ℕ) → suc x ≡ lo → test lo ≡ true → test x ≡ false) → (i : ℕ) → i < length l
      → Run (nth l i)
  run-each lo hi [] r start i h = absurd (omega arith)
  run-each lo hi (b ∷ l) r start zero h = record {
    some = r.0.some;
    inside = r.0.inside;
    after = r.0.after;
    before = λ x e. ⊎_elim
        (λ le. r.0.before x le (omega arith))
        (λ lt.
        let from = r.0.from in
        let same : suc x ≡ lo = omega arith in
        start x same (r.0.inside lo (omega arith) (omega (arith, r.0.some))))
        (le-or-lt lo x);
  }
  run-each lo hi (b ∷ l) r start (suc i) h = run-each (end_of b) hi l r.1 (λ x e t. absurd (clash t r.0.after)) i (omega arith)

  run_of : (lo hi : ℕ) (l : List Block) → AreRuns test lo hi l → (x : ℕ) → lo ≤ x → x < hi → test x ≡ true
      → (i : ℕ) × (i < length l) × ((nth l i).origin ≤ x) × (x < end_of (nth l i))
  run_of lo hi [] r x h k t = absurd (clash t (r x h k))
  run_of lo hi (b ∷ l) r x h k t = ⊎_elim
      (λ le. ⊎_elim
      (λ past. let j = run_of (end_of b) hi l r.1 x past k t in (suc j.0, omega (arith, j.1), j.2, j.3))
      (λ lt. (0, omega arith, le, lt))
      (le-or-lt (end_of b) x))
      (λ lt. absurd (clash t (r.0.before x h lt)))
      (le-or-lt b.origin x)

  run-from : (lo hi : ℕ) (l : List Block) → AreRuns test lo hi l → (i : ℕ) → i < length l → lo ≤ (nth l i).origin
  run-from lo hi [] r i h = absurd (omega arith)
  run-from lo hi (b ∷ l) r zero h = r.0.from
  run-from lo hi (b ∷ l) r (suc i) h = omega (arith, run-from (end_of b) hi l r.1 i (omega arith), r.0.from)

  run-rises : (lo hi : ℕ) (l : List Block) → AreRuns test lo hi l → (i j : ℕ) → i < j → j < length l → (nth l i).origin < (nth l j).origin
  run-rises lo hi [] r i j h k = absurd (omega arith)
  run-rises lo hi (b ∷ l) r i zero h k = absurd (omega arith)
  run-rises lo hi (b ∷ l) r zero (suc j) h k = omega (arith, run-from (end_of b) hi l r.1 j (omega arith), r.0.some)
  run-rises lo hi (b ∷ l) r (suc i) (suc j) h k = run-rises (end_of b) hi l r.1 i j (omega arith) (omega arith)

-- ---- the blocks
module _ (format load : ℕ) (text : List ℕ) (ps : List Piece) (above : (a : ℕ) → GivenTo ps a → load ≤ a) where
  abbrev out : List Piece
  out = solid ps

  abbrev runs : List Block
  runs = runs_given load out

  abbrev made : List Block
  made = blocks_given load out

  many : length made ≡ length runs
  many = length-map runs in_bits

  origin-at : (i : ℕ) → get_or (origins made) i 0 ≡ 8 * (nth runs i).origin
  origin-at i = get_or-map (λ (b : Block). b.origin) made i (block 0 0) ∙ ap (λ (b : Block). b.origin) (get_or-map in_bits runs i (block 0 0))

  size-at : (i : ℕ) → get_or (sizes made) i 0 ≡ 8 * (nth runs i).size
  size-at i = get_or-map (λ (b : Block). b.size) made i (block 0 0) ∙ ap (λ (b : Block). b.size) (get_or-map in_bits runs i (block 0 0))

  are : AreRuns (is_given load out) 0 (suc (reach load out)) runs
  are = given-runs load out

  unless : (a : ℕ) → given out a ≡ false → GivenTo ps a → ⊥
  unless a e g = clash (to-given ps a g) e

  each : (i : ℕ) → i < length runs → s.Block format load text ps (get_or (origins made) i 0) (get_or (sizes made) i 0)
  each i h =
      let b = nth runs i in
      let run = run-each (is_given load out) 0 (suc (reach load out)) runs are (λ x e. absurd (omega arith)) i h in
      let start : 8 * b.origin ≡ 8 * (load + b.origin - load) = omega arith in
      let end : load + end_of b ≡ load + b.origin + b.size = omega arith in
      s.block {first = load + b.origin} {count = b.size} run.some
      (λ k lt.
      let place : load + (b.origin + k) ≡ load + b.origin + k = omega arith in
      subst (GivenTo ps) place (given_to ps (load + (b.origin + k)) (run.inside (b.origin + k) (omega arith) (omega arith))))
      (λ g. unless (load + end_of b) run.after (subst (GivenTo ps) (sym end) g))
      (λ a e g.
      let low = above a g in
      let x = a - load in
      let place : a ≡ load + x = omega arith in
      let next : suc x ≡ b.origin = omega arith in
      unless (load + x) (run.before x next) (subst (GivenTo ps) place g))
      (origin-at i ∙ start) (size-at i)

  every : (o n : ℕ) → s.Block format load text ps o n → (i : ℕ) × (i < length (origins made)) × (get_or (origins made) i 0 ≡ o)
  every o n (s.block {first} {count} some all behind before eo es) =
      let zeroth : first + 0 ≡ first = omega arith in
      let first-given : GivenTo ps first = subst (GivenTo ps) zeroth (all 0 some) in
      let low = above first first-given in
      let x = first - load in
      let place : first ≡ load + x = omega arith in
      let t : is_given load out x ≡ true = subst (λ (a : ℕ). given out a ≡ true) place (to-given ps first first-given) in
      let below = all-below load out x t in
      let k = run_of (is_given load out) 0 (suc (reach load out)) runs are x (omega arith) (omega arith) t in
      let b = nth runs k.0 in
      let run = run-each (is_given load out) 0 (suc (reach load out)) runs are (λ x e. absurd (omega arith)) k.0 k.1 in
      let start : b.origin ≡ x = ⊎_elim
      (λ le. omega (arith, k.2))
      (λ lt.
      let y = x - 1 in
      let here : suc (load + y) ≡ first = omega arith in
      absurd (before (load + y) here (given_to ps (load + y) (run.inside y (omega arith) (omega (arith, k.3))))))
      (le-or-lt x b.origin) in
      let same : 8 * b.origin ≡ o = omega arith in
      (k.0, omega (arith, k.1, many, length-map made (λ (b : Block). b.origin)), origin-at k.0 ∙ same)

  pub blocks-are : s.Blocks format load text ps (origins made) (sizes made)
  blocks-are = record {
    as_many = length-map made (λ (b : Block). b.origin) ∙ sym (length-map made (λ (b : Block). b.size));
    each = λ i h. each i (omega (arith, many, length-map made (λ (b : Block). b.origin)));
    every = every;
    rising = λ i j h k.
        let lt = run-rises (is_given load out) 0 (suc (reach load out)) runs are i j h (omega (arith, many, length-map made (λ (b : Block). b.origin))) in
        omega (arith, origin-at i, origin-at j);
  }

  -- the block that a given byte lies in
  pub covering : (x : ℕ) → GivenTo ps (load + x)
      → (i : ℕ) × (i < length (origins made)) × (get_or (origins made) i 0 / 8 ≤ x) × (x < (get_or (origins made) i 0 + get_or (sizes made) i 0) / 8)
  covering x g =
      let t : is_given load out x ≡ true = to-given ps (load + x) g in
      let below = all-below load out x t in
      let k = run_of (is_given load out) 0 (suc (reach load out)) runs are x (omega arith) (omega arith) t in
      let o = origin-at k.0 in
      let n = size-at k.0 in (
        k.0,
        omega (arith, k.1, many, length-map made (λ (b : Block). b.origin)),
        omega (arith, k.2),
        omega (arith, k.3),
      )
