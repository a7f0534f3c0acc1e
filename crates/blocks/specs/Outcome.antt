-- What a call of `get_blocks` gives.
use Rattle.std.specs.Prelude.{◌≡◌, Bool, false, List, ◌++◌, map, ℕ, leb, length, drop, Result, Ok, Err}
use Rattle.prelude.specs.declared.Refusal.TheVariants.{Malformed, TooShort}
use Rattle.prelude.specs.declared.Place.TheVariants.{One}
use Rattle.prelude.specs.Pick.{pick}
use Rattle.prelude.specs.Told.{Told, gives, refuses, told_refusal}
use Rattle.prelude.specs.declared.Refusal.{Refusal}
use Rattle.blocks.specs.declared.Block.{Block}
use Rattle.blocks.specs.Spans.{spans_of, acceptable}
use Rattle.blocks.specs.Walk.{blocks_of}

-- The columns in which blocks are lent and written.
abbrev pub origins : List Block → List ℕ
origins = map (λ b. b.origin)

abbrev pub sizes : List Block → List ℕ
sizes = map (λ b. b.size)

-- "After success, lent spans, blocks and hex keep their old contents past what was written."
abbrev pub over : List ℕ → List ℕ → List ℕ
over new old = new ++ drop (length new) old

abbrev pub room_for : List Block → List ℕ → List ℕ → Bool
room_for blocks origins₀ sizes₀ = pick (leb (length blocks) (length origins₀)) (leb (length blocks) (length sizes₀)) false

-- "14 comes last", "a lent output is too short: .. blocks 2": what is answered, and what is lent afterwards.
abbrev pub answer_of : List Block → List ℕ → List ℕ → Result ℕ Refusal
answer_of blocks origins₀ sizes₀ = pick (room_for blocks origins₀ sizes₀) (Ok (length blocks)) (Err (TooShort 2))

abbrev pub origins_after : List Block → List ℕ → List ℕ → List ℕ
origins_after blocks origins₀ sizes₀ = pick (room_for blocks origins₀ sizes₀) (over (origins blocks) origins₀) origins₀

abbrev pub sizes_after : List Block → List ℕ → List ℕ → List ℕ
sizes_after blocks origins₀ sizes₀ = pick (room_for blocks origins₀ sizes₀) (over (sizes blocks) sizes₀) sizes₀

-- Blocks written where there is room for all of them, in answers of any kind.
pub record WrittenAs {A : Type 0} (found : ℕ → A) (short : A) (blocks : List Block) (origins₀ sizes₀ : List ℕ) (r : A) (origins₁ sizes₁ : List ℕ)
    : Type 0 where
  pub answer : r ≡ pick (room_for blocks origins₀ sizes₀) (found (length blocks)) short
  pub first : origins₁ ≡ origins_after blocks origins₀ sizes₀
  pub second : sizes₁ ≡ sizes_after blocks origins₀ sizes₀

abbrev pub Written : List Block → List ℕ → List ℕ → Result ℕ Refusal → List ℕ → List ℕ → Type 0
Written = WrittenAs Ok (Err (TooShort 2))

-- An answer in document 01's figures: how many blocks there are, or the refusal's number and place.
abbrev pub ToldBy : Result ℕ Refusal → Told ℕ
ToldBy (Ok n) = gives n
ToldBy (Err r) = told_refusal r

-- A call of `get_blocks`: "Block and hex calls try 4 .., then 14", and a refusal "changes nothing lent".
pub record Contract (words lengths origins₀ sizes₀ : List ℕ) (r : Result ℕ Refusal) (origins₁ sizes₁ : List ℕ) : Type 0 where
  pub answer : r ≡ pick (acceptable words lengths) (answer_of (blocks_of (spans_of words lengths)) origins₀ sizes₀) (Err (Malformed 0))
  pub figures : ToldBy r ≡ pick (acceptable words lengths)
      (pick (room_for (blocks_of (spans_of words lengths)) origins₀ sizes₀) (gives (length (blocks_of (spans_of words lengths)))) (refuses 14 (One 2)))
      (refuses 4 (One 0))
  pub first : origins₁ ≡ pick (acceptable words lengths) (origins_after (blocks_of (spans_of words lengths)) origins₀ sizes₀) origins₀
  pub second : sizes₁ ≡ pick (acceptable words lengths) (sizes_after (blocks_of (spans_of words lengths)) origins₀ sizes₀) sizes₀
