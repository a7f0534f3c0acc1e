-- Laws that Theorems/RunLaws rests on.
use Rattle.std.specs.Prelude.{◌≡◌, Bool, List, [], ◌∷◌, ℕ, ◌≤◌, ◌<◌}
use Rattle.std.proofs.Common.{sym, ◌∙◌, arith}
use Rattle.blocks.specs.declared.Block.{Block}
use Rattle.blocks.specs.Walk.{end_of}
use Rattle.record_read.specs.RunLaws.{AreRuns}

-- Tests that agree from `lo` on and below `hi` have the same runs there.
pub runs-agree : (test other : ℕ → Bool) (lo hi : ℕ) (l : List Block) → ((x : ℕ) → lo ≤ x → x < hi → test x ≡ other x) → AreRuns test lo hi l
    → AreRuns other lo hi l
runs-agree test other lo hi [] same r = λ x a u. sym (same x a u) ∙ r x a u
runs-agree test other lo hi (b ∷ l) same r = (
  record {
    from = r.0.from;
    some = r.0.some;
    ends = r.0.ends;
    before = λ x a u. sym (same x a (omega (arith, r.0.ends))) ∙ r.0.before x a u;
    inside = λ x a u. sym (same x (omega (arith, r.0.from)) (omega (arith, r.0.ends))) ∙ r.0.inside x a u;
    after = sym (same (end_of b) (omega (arith, r.0.from)) r.0.ends) ∙ r.0.after;
  },
  runs-agree test other (end_of b) hi l (λ x a u. same x (omega (arith, r.0.from)) u) r.1,
)
