-- What a call of `compare` gives.
use Rattle.std.specs.Prelude.{◌≡◌, Bool, false, List, ℕ, leb, length, Result, Ok, Err}
use Rattle.prelude.specs.Pick.{pick}
use Rattle.prelude.specs.declared.Refusal.TheVariants.{Malformed, BadPart, TooShort}
use Rattle.prelude.specs.declared.Refusal.{Refusal}
use Rattle.blocks.specs.Outcome.{over}
use Rattle.overlay.specs.Order.{in_order}
use Rattle.verify.specs.Whole.{all_whole}
use Rattle.verify.specs.Runs.{Readback, Run, runs_of}
use Rattle.verify.specs.Put.{firsts, counts, kinds}

-- Room for all runs in each of the three lists.
abbrev pub room_for : List Run → List ℕ → List ℕ → List ℕ → Bool
room_for runs fs cs ks = pick (leb (length runs) (length fs)) (pick (leb (length runs) (length cs)) (leb (length runs) (length ks)) false) false

-- "14 comes last", "a lent output is too short": the runs are written where there is room for all of them; what stands past them stays.
pub record Written (runs : List Run) (fs₀ cs₀ ks₀ : List ℕ) (r : Result ℕ Refusal) (fs₁ cs₁ ks₁ : List ℕ) : Type 0 where
  pub answer : r ≡ pick (room_for runs fs₀ cs₀ ks₀) (Ok (length runs)) (Err (TooShort 2))
  pub first : fs₁ ≡ pick (room_for runs fs₀ cs₀ ks₀) (over (firsts runs) fs₀) fs₀
  pub second : cs₁ ≡ pick (room_for runs fs₀ cs₀ ks₀) (over (counts runs) cs₀) cs₀
  pub third : ks₁ ≡ pick (room_for runs fs₀ cs₀ ks₀) (over (kinds runs) ks₀) ks₀

-- Blocks of both lists in order; and of whole bytes inside what they are of.
abbrev pub ordered : Readback → Bool
ordered t = pick (in_order 0 t.offsets t.sizes) (in_order 0 t.given_offsets t.given_sizes) false

abbrev pub fitting : Readback → Bool
fitting t = pick (all_whole (length t.image) t.offsets t.sizes) (all_whole (length t.bytes) t.given_offsets t.given_sizes) false

-- "4 .., 16 .., 14": what `compare` promises. A refusal changes nothing lent.
abbrev pub tried : {A : Type 0} → Readback → A → A → A → A
tried t unordered unfit found = pick (ordered t) (pick (fitting t) found unfit) unordered

pub record Lists (t : Readback) (fs₀ cs₀ ks₀ : List ℕ) (r : Result ℕ Refusal) (fs₁ cs₁ ks₁ : List ℕ) : Type 0 where
  pub answer : r ≡ tried t (Err (Malformed 0)) (Err BadPart)
      (pick (room_for (runs_of t) fs₀ cs₀ ks₀) (Ok (length (runs_of t))) (Err (TooShort 2)))
  pub first : fs₁ ≡ tried t fs₀ fs₀ (pick (room_for (runs_of t) fs₀ cs₀ ks₀) (over (firsts (runs_of t)) fs₀) fs₀)
  pub second : cs₁ ≡ tried t cs₀ cs₀ (pick (room_for (runs_of t) fs₀ cs₀ ks₀) (over (counts (runs_of t)) cs₀) cs₀)
  pub third : ks₁ ≡ tried t ks₀ ks₀ (pick (room_for (runs_of t) fs₀ cs₀ ks₀) (over (kinds (runs_of t)) ks₀) ks₀)
