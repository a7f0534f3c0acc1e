-- Laws that Theorems/DigitLaws rests on.
use Rattle.std.specs.Prelude.{◌≡◌, ℕ, suc, ◌*◌, List, [], ◌∷◌, ◌++◌, length, refl}
use Rattle.std.proofs.Common.{ap, ◌∙◌, arith}
use Rattle.record_lines.specs.Digits.{byte_text, bytes_text}

pub length-bytes_text : (l : List ℕ) → length (bytes_text l) ≡ 2 * length l
unfolding bytes_text
length-bytes_text [] = refl
length-bytes_text (b ∷ l) = ap (λ (n : ℕ). suc (suc n)) (length-bytes_text l) ∙ omega arith

pub bytes_text-append : (a b : List ℕ) → bytes_text (a ++ b) ≡ bytes_text a ++ bytes_text b
unfolding bytes_text
bytes_text-append [] b = refl
bytes_text-append (x ∷ a) b = ap (λ (l : List ℕ). byte_text x ++ l) (bytes_text-append a b)
