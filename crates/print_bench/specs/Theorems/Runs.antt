-- What the list tells: of a run each byte is given by both files and differs; the byte that is told as the overlay's alone is the first that is given by it
-- and by no other.
use Rattle.std.specs.Prelude.{◌≡◌, true, false, List, [], ◌∷◌, map, ◌⊎◌, ℕ, suc, ◌+◌, ◌*◌, ◌/◌, ◌≤◌, ◌<◌, ltb, length, get_or}
use Rattle.std.proofs.Math.Path.{refl, sym}
use Rattle.std.proofs.Common.{subst, ◌∙◌, inl, inr, arith, ltb-true, ltb-false, length-take, get_or-take}
use Rattle.std.proofs.Math.Decide.{dec_lt}
use Rattle.prelude.specs.Laws.Bools.{either, clash}
use Rattle.prelude.specs.Laws.Pick.{pick_true, pick-false}
use Rattle.blocks.specs.Outcome.{origins, sizes}
use Rattle.blocks.specs.Walk.{end_of}
use Rattle.blocks.specs.declared.Block.{Block}
use Rattle.overlay.specs.Cover.{covered_bit}
use Rattle.overlay.specs.RunFacts.{Holds}
use Rattle.overlay.specs.Runs.{runs_of}
use Rattle.overlay.specs.Theorems.RunFacts.{runs-hold-exactly}
use Rattle.overlay.specs.Trial.{Trial, trial}
use Rattle.record_lines.specs.Pieces.{Piece}
use Rattle.record_read.specs.Given.{given, filled}
use Rattle.record_read.specs.Laws.BlockFacts.{all-below, given-runs}
use Rattle.record_read.specs.Laws.Facts.{byte-kept}
use Rattle.record_read.specs.RunLaws.{AreRuns}
use Rattle.record_read.specs.Runs.{is_given, reach, runs_given, in_bits, blocks_given}
use Rattle.record_read.specs.Theorems.BlockFacts.{blocks-cover-exactly}
use Rattle.record_read.specs.Theorems.GivenLaws.{filled_at}
use Rattle.print_bench.specs.Images.{image_of, extent_of, free_from, alone_in}
use Rattle.print_bench.specs.Laws.Cover.{some_block}
use Rattle.print_bench.specs.Laws.Free.{three_ways, free-above}
use Rattle.print_bench.specs.Theorems.Given.{named-is-not-given, before-it-is-given}

-- Two good files: the pieces of the overlay and of the released one, and what stood in the room for the overlay's bytes.
module _ (load : ℕ) (old : List ℕ) (under issued : List Piece) where
  abbrev overlay : List ℕ
  overlay = filled load under old

  abbrev released : List ℕ
  released = filled load issued overlay

  abbrev blocks : List Block
  blocks = blocks_given load under

  abbrev blocks₁ : List Block
  blocks₁ = blocks_given load issued

  -- the two images, as `bench_text` holds them against each other
  abbrev pub images : Trial
  images = trial (image_of overlay (origins blocks) (sizes blocks)) (image_of released (origins blocks₁) (sizes blocks₁)) (origins blocks) (sizes blocks)

  pub covered-given : (k : ℕ) → covered_bit (origins blocks) (sizes blocks) k ≡ true → given under (load + k / 8) ≡ true
  covered-given k e = (blocks-cover-exactly load under k).0 (some_block blocks k e)

  -- where the released file gives no byte, its image has the overlay's
  pub gap-agrees : (b : ℕ) → b < length images.overlay → b < length images.released → given issued (load + b) ≡ false
      → get_or images.overlay b 0 ≡ get_or images.released b 0
  gap-agrees b h k e =
      let m = extent_of (origins blocks) (sizes blocks) in
      let n = extent_of (origins blocks₁) (sizes blocks₁) in
      get_or-take m overlay b 0 (omega (arith, length-take m overlay))
      ∙ sym
      (get_or-take n released b 0 (omega (arith, length-take n released))
      ∙ filled_at load issued overlay b (omega (arith, length-take m overlay)) ∙ byte-kept issued (load + b) (get_or overlay b 0) e)

  -- No byte is shown that a file does not give: of a run, both give every byte.
  pub run-is-given-by-both : (b : ℕ) → Holds (runs_of images) b → (given under (load + b) ≡ true) × (given issued (load + b) ≡ true)
  run-is-given-by-both b h =
      let i = (runs-hold-exactly images b).0 h in
      let byte : 8 * b / 8 ≡ b = omega arith in (
        subst (λ (k : ℕ). given under (load + k) ≡ true) byte (covered-given (8 * b) (i.covered (8 * b) (omega arith) (omega arith))),
        either (given issued (load + b)) (λ e. e) (λ e. absurd (i.different (gap-agrees b i.overlaid i.issued e))),
      )

  -- ---- a byte that only the overlay gives

  abbrev pub Alone : ℕ → Type 0
  Alone a = (given under (load + a) ≡ true) × (given issued (load + a) ≡ false)

  abbrev first : List Block → ℕ → ℕ
  first l end = alone_in (origins blocks₁) (sizes blocks₁) (origins (map in_bits l)) (sizes (map in_bits l)) end

  abbrev free : Block → ℕ
  free b = free_from (origins blocks₁) (sizes blocks₁) (8 * b.origin / 8)

  here : (b : Block) (l : List Block) (end : ℕ) → ltb (free b) (8 * b.origin / 8 + 8 * b.size / 8) ≡ true → free b ≡ first (b ∷ l) end
  unfolding alone_in
  here b l end e = sym (pick_true _ _ e)

  later : (b : Block) (l : List Block) (end : ℕ) → ltb (free b) (8 * b.origin / 8 + 8 * b.size / 8) ≡ false → first l end ≡ first (b ∷ l) end
  unfolding alone_in
  later b l end e = sym (pick-false _ _ e)

  nowhere : (end : ℕ) → first [] end ≡ end
  unfolding alone_in
  nowhere end = refl

  alone-ways : (lo hi : ℕ) (l : List Block) → AreRuns (is_given load under) lo hi l → (end : ℕ) → (first l end ≡ end) ⊎ Alone (first l end)
  alone-ways lo hi [] r end = inl (nowhere end)
  alone-ways lo hi (b ∷ l) r end =
      either (ltb (free b) (8 * b.origin / 8 + 8 * b.size / 8))
      (λ e.
      let at = 8 * b.origin / 8 in
      let low = free-above (runs_given load issued) at in
      let high = ltb-true (free b) (8 * b.origin / 8 + 8 * b.size / 8) e in
      inr (subst Alone (here b l end e) (
        r.0.inside (free b) (omega (arith, low)) (omega (arith, high)),
        named-is-not-given load issued at,
      )))
      (λ e.
      subst (λ (k : ℕ). (k ≡ end) ⊎ Alone k) (later b l end e) (alone-ways (end_of b) hi l r.1 end))

  -- The byte of the line `alone`, which is there where it is before the end of the overlay's image.
  pub alone-is-the-overlays : (end : ℕ)
      → (alone_in (origins blocks₁) (sizes blocks₁) (origins blocks) (sizes blocks) end ≡ end)
      ⊎ Alone (alone_in (origins blocks₁) (sizes blocks₁) (origins blocks) (sizes blocks) end)
  alone-is-the-overlays = alone-ways 0 (suc (reach load under)) (runs_given load under) (given-runs load under)

  -- and no byte before it is such a one.
  alone-least : (lo hi : ℕ) (l : List Block) → AreRuns (is_given load under) lo hi l → (end x : ℕ) → lo ≤ x → x < hi → Alone x → first l end ≤ x
  alone-least lo hi [] r end x h k e = absurd (clash e.0 (r x h k))
  alone-least lo hi (b ∷ l) r end x h k e =
      either (ltb (free b) (8 * b.origin / 8 + 8 * b.size / 8))
      (λ t.
      subst (λ (n : ℕ). n ≤ x) (here b l end t)
      (three_ways b x (λ p. absurd (clash e.0 (r.0.before x h p))) (λ p q. not-gone b x p e) (λ p. not-gone b x (omega arith) e)))
      (λ t.
      let far = ltb-false (free b) (8 * b.origin / 8 + 8 * b.size / 8) t in
      subst (λ (n : ℕ). n ≤ x) (later b l end t)
      (three_ways b x (λ p. absurd (clash e.0 (r.0.before x h p)))
      (λ p q. absurd (clash (before-it-is-given load issued (8 * b.origin / 8) x (omega arith) (omega (arith, far))) e.1))
      (λ p. alone-least (end_of b) hi l r.1 end x p k e)))
    where
      not-gone : (b : Block) (x : ℕ) → b.origin ≤ x → Alone x → free b ≤ x
      not-gone b x p e =
          elim (dec_lt x (free b)) [
            | yes q ↦ absurd (clash (before-it-is-given load issued (8 * b.origin / 8) x (omega arith) q) e.1)
            | no q ↦ omega arith
          ]

  pub alone-is-the-first : (end x : ℕ) → Alone x → alone_in (origins blocks₁) (sizes blocks₁) (origins blocks) (sizes blocks) end ≤ x
  alone-is-the-first end x e =
      alone-least 0 (suc (reach load under)) (runs_given load under) (given-runs load under) end x (omega arith) (omega (arith, all-below load under x e.0)) e
