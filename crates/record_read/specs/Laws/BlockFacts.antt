-- Laws that Theorems/BlockFacts rests on.
use Rattle.std.specs.Prelude.{◌≡◌, refl, Bool, true, false, List, [], ◌∷◌, map, ℕ, suc, ◌+◌, ◌/◌, ◌≤◌, ◌<◌}
use Rattle.std.proofs.Math.Path.{subst}
use mathlib.Core.List.Memᴰ
use Rattle.std.proofs.Common.{⊎_elim, zero-add, arith}
use Rattle.std.proofs.Math.Decide.{dec_lt}
use Rattle.prelude.specs.Laws.Bools.{clash}
use Rattle.blocks.specs.declared.Block.{Block}
use Rattle.blocks.specs.Walk.{end_of}
use Rattle.blocks.specs.Bits.{InBlock, SomeElement}
use Rattle.record_lines.specs.Pieces.{Piece}
use Rattle.record_read.specs.Laws.GivenLaws.{given_above, given_below}
use Rattle.record_read.specs.Runs.{is_given, reach, runs, runs_given, in_bits}
use Rattle.record_read.specs.RunLaws.{AreRuns}
use Rattle.record_read.specs.Theorems.RunLaws.{runs-are}

module _ (load : ℕ) (l : List Piece) where
  pub none_above : (x : ℕ) → reach load l ≤ x → is_given load l x ≡ false
  none_above x h = given_above l (load + x) (omega arith)

  pub all-below : (x : ℕ) → is_given load l x ≡ true → x < reach load l
  all-below x e = let h = given_below l (load + x) e in omega arith

  pub given-runs : AreRuns (is_given load l) 0 (suc (reach load l)) (runs_given load l)
  unfolding runs_given
  given-runs =
      subst (λ (n : ℕ). AreRuns (is_given load l) 0 (suc n) (runs (is_given load l) 0 (reach load l))) (zero-add (reach load l))
      (runs-are (is_given load l) (reach load l) 0 (none_above (0 + reach load l) (omega arith)))

-- ---- runs in bits

module _ (test : ℕ → Bool) where
  pub in-bits : (lo hi : ℕ) (l : List Block) → AreRuns test lo hi l → (bit : ℕ) → SomeElement (InBlock bit) (map in_bits l) → test (bit / 8) ≡ true
  in-bits lo hi [] r bit s = absurd (Memᴰ.not-nil s.1)
  in-bits lo hi (b ∷ l) r bit s =
      ⊎_elim
      (λ e.
      let i : InBlock bit (in_bits b) = subst (InBlock bit) e s.2 in
      r.0.inside (bit / 8) (omega (arith, i.0)) (omega (arith, i.0, i.1)))
      (λ m. in-bits (end_of b) hi l r.1 bit (s.0, m, s.2))
      (Memᴰ.cases_cons s.1)

  pub to_bits : (lo hi : ℕ) (l : List Block) → AreRuns test lo hi l → (bit : ℕ) → lo ≤ bit / 8 → bit / 8 < hi → test (bit / 8) ≡ true
      → SomeElement (InBlock bit) (map in_bits l)
  to_bits lo hi [] r bit h k t = absurd (clash t (r (bit / 8) h k))
  to_bits lo hi (b ∷ l) r bit h k t =
      elim (dec_lt (bit / 8) b.origin) [
        | yes p ↦ absurd (clash t (r.0.before (bit / 8) h p))
        | no p ↦ elim (dec_lt (bit / 8) (end_of b)) [
          | yes q ↦ (in_bits b, Memᴰ.head refl, (omega arith, omega arith))
          | no q ↦ let s = to_bits (end_of b) hi l r.1 bit (omega arith) k t in (s.0, Memᴰ.tail s.1, s.2)
        ]
      ]
