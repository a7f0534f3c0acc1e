-- `dk_blocks`: by its contract it says the sentences of Blocks (`dk-blocks-meets`), and they leave one outcome (`dk-blocks-decides`).
use Rattle.std.specs.Prelude.{◌≡◌, refl, Bool, true, false, List, ℕ, length, Ok, Err}
use Rattle.prelude.specs.Pick.{pick}
use Rattle.prelude.specs.Told.{gives, refuses}
use Rattle.prelude.specs.declared.Place.TheVariants.{One}
use Rattle.prelude.specs.declared.Refusal.TheVariants.{Malformed, TooShort}
use Rattle.blocks.specs.Outcome.{room_for, ToldBy, Contract}
use Rattle.blocks.specs.Spans.{spans_of, acceptable}
use Rattle.blocks.specs.Walk.{blocks_of}
use Rattle.c_model.specs.Parts.{BlocksTold, blocks_answer}
use Rattle.c_answers.specs.declared.DkCount.{DkCount}
use Rattle.meets.specs.Theorems.Blocks.{blocks-meets, blocks-decides}
use Rattle.meets.specs.Laws.Words.{OneOnly}
use Rattle.says.specs.Blocks.{DkBlocksSay}

module _ (words lengths starts₀ sizes₀ : List ℕ) where
  pub dk-blocks-decides : OneOnly (DkBlocksSay words lengths starts₀ sizes₀)
  dk-blocks-decides = blocks-decides words lengths starts₀ sizes₀

  figures : (p q : Bool) (n : ℕ) → ToldBy (pick p (pick q (Ok n) (Err (TooShort 2))) (Err (Malformed 0)))
      ≡ pick p (pick q (gives n) (refuses 14 (One 2))) (refuses 4 (One 0))
  figures true true n = refl
  figures true false n = refl
  figures false q n = refl

  pub dk-blocks-meets : (r : DkCount) (starts₁ sizes₁ : List ℕ) → BlocksTold words lengths starts₀ sizes₀ r starts₁ sizes₁
      → DkBlocksSay words lengths starts₀ sizes₀ (record { answer = r; starts = starts₁; sizes = sizes₁ })
  dk-blocks-meets r starts₁ sizes₁ c =
      let found = blocks_answer words lengths starts₀ sizes₀ in
      let made = blocks_of (spans_of words lengths) in
      let contract : Contract words lengths starts₀ sizes₀ found starts₁ sizes₁ = record {
        answer = refl;
        figures = figures (acceptable words lengths) (room_for made starts₀ sizes₀) (length made);
        first = c.first;
        second = c.second;
      } in
      rw c.answer (blocks-meets words lengths starts₀ sizes₀ found starts₁ sizes₁ contract)
