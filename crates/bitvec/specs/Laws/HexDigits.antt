-- Laws that Theorems/HexDigits rests on.
use Rattle.std.specs.Prelude.{◌≡◌, refl, Bool, true, false, ◌&&◌, List, ◌++◌, ℕ, leb, length, drop, Result, Ok, Err}
use Rattle.std.proofs.Common.{sym, ap, ◌∙◌}
use Rattle.prelude.specs.Laws.Bools.{unlike}
use Rattle.prelude.specs.Pick.{pick}
use Rattle.prelude.specs.Told.{refuses}
use Rattle.prelude.specs.declared.Place.{Place}
use Rattle.prelude.specs.declared.Refusal.TheVariants.{Malformed, TooShort}
use Rattle.prelude.specs.declared.Refusal.{Refusal}
use Rattle.bitvec.specs.Within.{ends_within}
use Rattle.bitvec.specs.HexDigits.{Prints, digit_count, hex_of, told_hex}

-- ---- a call, by its contract

module _ (bytes : List ℕ) (bits : ℕ) (hex : List ℕ) (count : Result ℕ Refusal) (after : List ℕ) (c : Prints bytes bits hex count after) where
  -- "Each refusal .. changes nothing lent."
  pub refused-keeps-hex : (n : ℕ) (p : Place) → told_hex count ≡ refuses n p → after ≡ hex
  refused-keeps-hex n p e = c.digits ∙ go (ends_within (length bytes) 0 bits) (leb (digit_count bits) (length hex)) (sym (ap told_hex c.answer) ∙ e)
    where
      go : (s t : Bool) → told_hex (pick s (pick t (Ok (digit_count bits)) (Err (TooShort 3))) (Err (Malformed 0))) ≡ refuses n p
          → pick (s && t) (hex_of bytes bits ++ drop (digit_count bits) hex) hex ≡ hex
      go true true is = unlike cc
      go true false is = refl
      go false t is = refl
