-- Laws that Theorems/OtherBanks rests on.
use Rattle.std.specs.Prelude.{true, List, [], ◌∷◌, ◌++◌, map, ◌⊎◌, ◌≡◌, refl, ℕ, zero, suc, ◌≤◌, ◌<◌, length, get_or, take, drop}
use Rattle.std.proofs.Common.{inl, inr, sym, ap₂, arith, eqb-true, take-append-drop, length-take-le}
use Rattle.std.proofs.lemmas.List.{get_or_at}
use Rattle.prelude.specs.Laws.Bools.{both}
use Rattle.prelude.specs.Pick.{pick}
use Rattle.form_fields.specs.Words.{byte}
use Rattle.form_fields.specs.Kind.{form1, form2}
use Rattle.form_fields.specs.Contents.{Each, BankFits}
use Rattle.form_fields.specs.Has.{Has}
use Rattle.form_fields.specs.Banks.{bank_of}
use Rattle.form_rewrite.specs.Turning.{zeros, all_of, bit_clear}
use Rattle.thm_conversions.specs.Laws.Says.{byte-in, word16-in, word32-in, word64-in, alike-banks}

-- ---- banks

pub map-over : {X Y Z : Type 0} (P : X → Type 0) (f : X → Y) (g : Z → Y) (t : X → Z) → ((x : X) → P x → g (t x) ≡ f x) → (xs : List X) → Each P xs
    → map g (map t xs) ≡ map f xs
map-over P f g t same [] e = refl
map-over P f g t same (x ∷ xs) e = ap₂ ◌∷◌ (same x e.0) (map-over P f g t same xs e.1)

-- payloads of which one begins with the other's 23 bytes
module _ (b d : List ℕ) (h : Has d 0 b) (long : 23 ≤ length b) where
  pub begins-alike : pick true (byte d 23) 0 ≡ 0 → bank_of form2 d ≡ bank_of form1 b
  begins-alike bit =
      alike-banks form2 form1 d b
      (record {
        unit = word16-in d b 0 h 0 0 (omega arith) (omega (arith, long));
        start = word64-in d b 0 h 2 2 (omega arith) (omega (arith, long));
        size = word32-in d b 0 h 10 10 (omega arith) (omega (arith, long));
        offset = word32-in d b 0 h 14 14 (omega arith) (omega (arith, long));
        align = word32-in d b 0 h 18 18 (omega arith) (omega (arith, long));
        flags = byte-in d b 0 h 22 22 (omega arith) (omega (arith, long));
        bit = bit;
      })

-- "with fill bits zero"
pub bank-lengthened : (b : List ℕ) → BankFits form1 b → bank_of form2 (b ++ zeros 1) ≡ bank_of form1 b
bank-lengthened b fits =
    begins-alike b (b ++ zeros 1) (record { rest = zeros 1; is = refl }) (omega (arith, fits.0)) (get_or_at b 0 [] 0 23 fits.0)

pub bank-shortened : (b : List ℕ) → BankFits form2 b × (bit_clear b ≡ true) → bank_of form1 (take 23 b) ≡ bank_of form2 b
bank-shortened b (fits, clear) =
    sym (begins-alike (take 23 b) b (record { rest = drop 23 b; is = sym (take-append-drop 23 b) })
    (omega (arith, length-take-le 23 b (omega (arith, fits.0)))) (eqb-true (get_or b 23 0) 0 clear))

pub each-clear : (banks : List (List ℕ)) → Each (BankFits form2) banks → all_of bit_clear banks ≡ true
    → Each (λ (b : List ℕ). BankFits form2 b × (bit_clear b ≡ true)) banks
unfolding all_of
each-clear [] e all = tt
each-clear (b ∷ banks) e all = let h = both (bit_clear b) (all_of bit_clear banks) all in ((e.0, h.0), each-clear banks e.1 h.1)

-- ---- whether bank 0 may be used alone is read of one bank only

pub none-or-more : (n : ℕ) → (n ≡ 1 → ⊥) → (n ≡ 0) ⊎ (1 < n)
none-or-more zero h = inl refl
none-or-more (suc zero) h = absurd (h refl)
none-or-more (suc (suc n)) h = inr (omega arith)
