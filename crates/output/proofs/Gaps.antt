-- Theorems about what Gaps defines.
use Rattle.std.specs.Prelude.{◌≡◌, refl, Bool, true, false, ℕ, ◌≤◌, ◌<◌, ltb, length, get_or, replicate}
use Rattle.std.proofs.Common.{ap, ◌∙◌, lt-ltb, le-ltb}
use mathlib.Core.List.{List, Memᴰ}
use Rattle.prelude.specs.Pick.{pick}
use Rattle.prelude.specs.Laws.Pick.{pick_true, pick-false}
use Rattle.bankdef.specs.Check.{no_bank, banks_of}
use Rattle.bankdef.specs.FillBits.{fill_bit_at, FillsBit}
use Rattle.bankdef.specs.Theorems.FillBits.{none-zero, takes-fill-bit}
use Rattle.bankdef.specs.Numbers.{fill_bit}
use Rattle.bankdef.specs.declared.Bankdef.{Bankdef}
use Rattle.bitvec.specs.Bits.{bit_at}
use Rattle.build_visits.specs.Items.{Item, InItem}
use Rattle.build_write.specs.Laws.Blank.{blank-bit, blank-zeros}
use Rattle.build_visits.specs.Laws.ItemLaws.{zeros-bit}
use Rattle.output.proofs.ItemBits.{rest-blank, length-fits}
use Rattle.output.specs.Output.{filled}
use Rattle.output.specs.Calls.{Accepted, items_in, visits_in, values_in}
use Rattle.output.proofs.Calls.{left_is}
use Rattle.output.proofs.CallsLaws.{banks-sound}
use Rattle.output.specs.Gaps.{AllClear}

module _ (b : Accepted) where
  abbrev pub banks_in : List Bankdef
  banks_in = banks_of b.call.given.banks

  -- a bit that belongs to no written item
  abbrev pub InNoItem : ℕ → Type 0
  InNoItem bit = (x : Item) → Memᴰ x (items_in b.call) → InItem bit x → ⊥

  -- "Every other bit is the fill bit inside such a range and the image length, and zero elsewhere."
  pub rest-is-fill-bit : (bit : ℕ) → InNoItem bit → bit_at b.call.new.image bit ≡ pick (ltb bit b.bits) (fill_bit_at banks_in bit) 0
  rest-is-fill-bit bit none = rest-blank b bit none ∙ blank-bit banks_in b.bits (length b.call.old.image) (length-fits b) bit

  -- inside the range of such a bank and the image length, the fill bit of that bank; there is one such bank at most
  pub gap-takes-fill-bit : (bit : ℕ) → InNoItem bit → bit < b.bits → (k : ℕ) → 0 < k → k < length banks_in → FillsBit (get_or banks_in k no_bank) bit
      → bit_at b.call.new.image bit ≡ fill_bit (get_or banks_in k no_bank)
  gap-takes-fill-bit bit none inside k other listed fills =
      rest-is-fill-bit bit none ∙ pick_true _ _ (lt-ltb bit b.bits inside)
      ∙ takes-fill-bit b.call.given.banks (banks-sound b) k bit other listed fills

  -- "zero elsewhere": past the image length,
  pub rest-zero-past-length : (bit : ℕ) → InNoItem bit → b.bits ≤ bit → bit_at b.call.new.image bit ≡ 0
  rest-zero-past-length bit none past = rest-is-fill-bit bit none ∙ pick-false _ _ (le-ltb bit b.bits past)

  -- and where no bank other than bank 0 fills.
  pub rest-zero-unfilled : (bit : ℕ) → InNoItem bit → ((k : ℕ) → 0 < k → k < length banks_in → FillsBit (get_or banks_in k no_bank) bit → ⊥)
      → bit_at b.call.new.image bit ≡ 0
  rest-zero-unfilled bit none unfilled = rest-is-fill-bit bit none ∙ either (ltb bit b.bits) (none-zero banks_in bit unfilled)
    where
      either : (t : Bool) {x : ℕ} → x ≡ 0 → pick t x 0 ≡ 0
      either true e = e
      either false e = refl

  -- "Demand 2's equality holds where all fill bits are zero": there a build leaves what it left before, the items' bits over zeros,
  module _ (clear : AllClear banks_in) where
    pub clear-bits-as-before : b.call.new ≡ filled (replicate (length b.call.old.image) 0) (visits_in b.call) (values_in b.call) b.call.old
    clear-bits-as-before =
        left_is b
        ∙ ap (λ (blank : List ℕ). filled blank (visits_in b.call) (values_in b.call) b.call.old)
        (blank-zeros banks_in b.bits (length b.call.old.image) clear)

    -- and every bit of the lent image that belongs to no written item is zero.
    pub rest-zero : (bit : ℕ) → InNoItem bit → bit_at b.call.new.image bit ≡ 0
    rest-zero bit none =
        rest-blank b bit none
        ∙ ap (λ (blank : List ℕ). bit_at blank bit) (blank-zeros banks_in b.bits (length b.call.old.image) clear)
        ∙ zeros-bit (length b.call.old.image) bit
