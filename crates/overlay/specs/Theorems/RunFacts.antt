-- Theorems about what RunFacts defines.
use Rattle.std.specs.Prelude.{◌≡◌, refl, true, ◌↔◌, ℕ, suc, ◌+◌, ◌-◌, ◌<◌, length, get_or}
use Rattle.std.proofs.Math.Bool.{false, and-eq-true_iff}
use Rattle.std.proofs.Common.{⊎_elim, arith}
use Rattle.std.proofs.Math.Nat.{min-le_left, min-le_right, le-min}
use Rattle.std.proofs.Math.Decide.{dec_lt}
use borrow.Author.Tests.{not-true, eqb-false, ne_eqb}
use Rattle.blocks.specs.declared.Block.{Block}
use Rattle.blocks.specs.Walk.{block}
use Rattle.overlay.specs.Cover.{covered_bit, covered_byte}
use Rattle.overlay.specs.Laws.CoverFacts.{clash}
use Rattle.overlay.specs.Theorems.CoverFacts.{byte-holds, byte-from}
use Rattle.overlay.specs.Runs.{agree, differ, listed, shorter, runs_of}
use Rattle.overlay.specs.Trial.{Trial}
use Rattle.overlay.specs.Laws.RunFacts.{Good, each-good, reached, rise}
use Rattle.overlay.specs.RunFacts.{Holds, IsListed}

module _ (t : Trial) where
  below-shorter : (b : ℕ) → b < length t.overlay → b < length t.released → b < shorter t
  unfolding shorter
  below-shorter b h k = le-min h k

  shorter-below : (b : ℕ) → b < shorter t → (b < length t.overlay) × (b < length t.released)
  unfolding shorter
  shorter-below b h =
      (omega (arith, min-le_left (length t.overlay) (length t.released)), omega (arith, min-le_right (length t.overlay) (length t.released)))

  listed-means : (b : ℕ) → b < shorter t → listed t b ≡ true → IsListed t b
  unfolding listed
  listed-means b h e =
      let cover = covered_bit t.offsets t.sizes in
      let both = (and-eq-true_iff (covered_byte cover b) (differ t.overlay t.released b)).0 e in
      let in_both = shorter-below b h in
      record {
        overlaid = in_both.0;
        issued = in_both.1;
        covered = byte-holds cover b both.0;
        different = eqb-false (get_or t.overlay b 0) (get_or t.released b 0) (not-true (agree t.overlay t.released b) both.1);
      }

  means-listed : (b : ℕ) → IsListed t b → listed t b ≡ true
  unfolding listed
  means-listed b i =
      rw (byte-from (covered_bit t.offsets t.sizes) b i.covered, ne_eqb (get_or t.overlay b 0) (get_or t.released b 0) i.different)

  good : (i : ℕ) → i < length (runs_of t) → Good (listed t) 0 (shorter t) false (get_or (runs_of t) i (block 0 0))
  unfolding runs_of
  good = each-good (listed t) 0 (shorter t) false

  -- "each .. run of covered bytes, inside both images, that differ between the two": exactly those bytes are in the runs.
  pub runs-hold-exactly : (b : ℕ) → Holds (runs_of t) b ↔ IsListed t b
  unfolding runs_of
  runs-hold-exactly b = (to, back)
    where
      to : Holds (runs_of t) b → IsListed t b
      to h =
          let g = good h.place h.listed in
          listed-means b (omega (arith, g.within, h.below)) (g.holds b h.from h.below)

      back : IsListed t b → Holds (runs_of t) b
      back i =
          ⊎_elim (λ p. absurd (clash p.0 refl)) (λ p. p)
          (reached (listed t) 0 (shorter t) false b (omega arith) (omega (arith, below-shorter b i.overlaid i.issued)) (means-listed b i))

  -- "maximal": no run is empty, and neither the byte before a run nor the one behind it is listed.
  pub record Maximal (r : Block) : Type 0 where
    pub some : 0 < r.size
    pub before : (b : ℕ) → suc b ≡ r.origin → IsListed t b → ⊥
    pub behind : IsListed t (r.origin + r.size) → ⊥

  pub runs-maximal : (i : ℕ) → i < length (runs_of t) → Maximal (get_or (runs_of t) i (block 0 0))
  runs-maximal i h =
      let g = good i h in
      let r = get_or (runs_of t) i (block 0 0) in
      record {
        some = g.some;
        before = λ b e l. clash (means-listed b l) (g.before b (omega arith) e);
        behind = λ l. clash (means-listed (r.origin + r.size) l) (g.after (omega (arith, below-shorter (r.origin + r.size) l.overlaid l.issued)));
      }

  rising : (i j : ℕ) → i < j → j < length (runs_of t) → (get_or (runs_of t) i (block 0 0)).origin < (get_or (runs_of t) j (block 0 0)).origin
  unfolding runs_of
  rising = rise (listed t) 0 (shorter t) false

  -- "ascending": each run ends before the next begins, with a byte between them that is not listed.
  pub runs-ascending : (i j : ℕ) → i < j → j < length (runs_of t)
      → (get_or (runs_of t) i (block 0 0)).origin + (get_or (runs_of t) i (block 0 0)).size < (get_or (runs_of t) j (block 0 0)).origin
  runs-ascending i j l h =
      let a = get_or (runs_of t) i (block 0 0) in
      let b = get_or (runs_of t) j (block 0 0) in
      let g = good i (omega arith) in
      let k = good j h in
      let up : a.origin < b.origin = rising i j l h in
      elim (dec_lt (a.origin + a.size) b.origin) [
        | yes y ↦ y
        | no y ↦
            let m = b.origin - 1 in
            absurd (clash (g.holds m (omega arith) (omega arith)) (k.before m (omega arith) (omega arith)))
      ]
