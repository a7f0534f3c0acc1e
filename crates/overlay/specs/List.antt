-- What a call of `differences` gives.
use Rattle.std.specs.Prelude.{◌≡◌, List, ℕ, length, Result, Ok, Err}
use Rattle.prelude.specs.Pick.{pick}
use Rattle.prelude.specs.Told.{Told, gives, refuses, told_refusal}
use Rattle.prelude.specs.declared.Place.TheVariants.{One}
use Rattle.prelude.specs.declared.Refusal.TheVariants.{Malformed, TooShort}
use Rattle.prelude.specs.declared.Refusal.{Refusal}
use Rattle.blocks.specs.declared.Block.{Block}
use Rattle.blocks.specs.Outcome.{room_for, origins_after, sizes_after, WrittenAs}
use Rattle.overlay.specs.Order.{in_order}
use Rattle.overlay.specs.Runs.{runs_of}
use Rattle.overlay.specs.Trial.{Trial}

-- "14 for a short list": the runs are written where there is room for all of them, in both of the lent slices; what stands past them stays.
abbrev pub Written : List Block → List ℕ → List ℕ → Result ℕ Refusal → List ℕ → List ℕ → Type 0
Written = WrittenAs Ok (Err (TooShort 2))

-- An answer in the document's figures: how many runs there are, or a refusal's number and place.
abbrev pub told_listed : Result ℕ Refusal → Told ℕ
told_listed (Ok n) = gives n
told_listed (Err r) = told_refusal r

-- "4 .., 14 for a short list", place 2: the answer, and both slices afterwards. A refusal changes nothing lent.
abbrev pub list_answer : Trial → List ℕ → List ℕ → Result ℕ Refusal
list_answer t firsts₀ counts₀ =
    pick (in_order 0 t.offsets t.sizes)
    (pick (room_for (runs_of t) firsts₀ counts₀) (Ok (length (runs_of t))) (Err (TooShort 2)))
    (Err (Malformed 0))

abbrev pub list_figures : Trial → List ℕ → List ℕ → Told ℕ
list_figures t firsts₀ counts₀ =
    pick (in_order 0 t.offsets t.sizes)
    (pick (room_for (runs_of t) firsts₀ counts₀) (gives (length (runs_of t))) (refuses 14 (One 2)))
    (refuses 4 (One 0))

abbrev pub firsts_after : Trial → List ℕ → List ℕ → List ℕ
firsts_after t firsts₀ counts₀ = pick (in_order 0 t.offsets t.sizes) (origins_after (runs_of t) firsts₀ counts₀) firsts₀

abbrev pub counts_after : Trial → List ℕ → List ℕ → List ℕ
counts_after t firsts₀ counts₀ = pick (in_order 0 t.offsets t.sizes) (sizes_after (runs_of t) firsts₀ counts₀) counts₀

-- What `differences` promises.
pub record Lists (t : Trial) (firsts₀ counts₀ : List ℕ) (r : Result ℕ Refusal) (firsts₁ counts₁ : List ℕ) : Type 0 where
  pub answer : r ≡ list_answer t firsts₀ counts₀
  pub figures : told_listed r ≡ list_figures t firsts₀ counts₀
  pub first : firsts₁ ≡ firsts_after t firsts₀ counts₀
  pub second : counts₁ ≡ counts_after t firsts₀ counts₀
