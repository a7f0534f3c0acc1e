-- Document 01's cases of banks and of blocks, over the sentences: no other answer meets them.
use Rattle.std.specs.Prelude.{◌≡◌, refl, false, List, [], ◌∷◌, ℕ, zero, suc, ◌≤◌, Option, Some, None, Ok}
use Rattle.std.proofs.Common.{ap, subst, ◌∙◌, arith}
use Rattle.prelude.specs.Laws.Bools.{unlike}
use Rattle.prelude.specs.Told.{Told, gives, refuses, Nothing, nothing, told_verdict}
use Rattle.prelude.specs.declared.Place.TheVariants.{Two}
use Rattle.prelude.specs.Verdict.{Verdict}
use Rattle.bankdef.specs.Cases.{bank, table, two}
use Rattle.bankdef.specs.Theorems.Cases.{bank-cases}
use Rattle.bankdef.specs.declared.Bankdef.{Bankdef}
use Rattle.bankdef.specs.declared.Bankdefs.{Bankdefs}
use Rattle.sort.specs.Sorted.{insert_by, sorted_by}
use Rattle.blocks.specs.Spans.{spans_of, all_within}
use Rattle.blocks.specs.Walk.{blocks_from}
use Rattle.blocks.specs.Outcome.{Contract}
use Rattle.meets.specs.Table.{Bank, CheckSays}
use Rattle.says.specs.Blocks.{Outcome, DkBlocksSay}
use Rattle.meets.specs.Theorems.Banks.{Held, check-meets, check-decides}
use Rattle.meets.specs.Theorems.Blocks.{blocks-meets, blocks-decides}

-- ---- banks by offset and size, beside bank 0

-- small numbers
abbrev Small : Option ℕ → Type 0
Small o = (m : ℕ) → o ≡ Some m → m ≤ 4294967295

none-small : Small None
none-small m e = unlike cc

some-small : (n : ℕ) → n ≤ 4294967295 → Small (Some n)
some-small n h m e = let s : n ≡ m = cc in omega arith

bank-held : (o m : Option ℕ) → Small o → Small m → Held (bank o m false)
bank-held o m f g = record { unit = omega arith; size = g; offset = f; align = none-small }

module _ (o : ℕ) (m : Option ℕ) (p : ℕ) (n : Option ℕ) (so : o ≤ 4294967295) (sm : Small m) (sp : p ≤ 4294967295) (sn : Small n) where
  abbrev t : Bankdefs
  t = table (bank (Some o) m false) (bank (Some p) n false)

  held : (i : ℕ) (b : Bankdef) → Bank t i b → Held b
  held zero b k = subst Held k.1.1 (bank-held (Some 0) None (some-small 0 (omega arith)) none-small)
  held (suc zero) b k = subst Held k.1.1 (bank-held (Some o) m (some-small o so) sm)
  held (suc (suc zero)) b k = subst Held k.1.1 (bank-held (Some p) n (some-small p sp) sn)
  held (suc (suc (suc i))) b k = absurd (omega (arith, k.0))

  two-only : (x : Told Nothing) (v : Verdict) → two o m p n ≡ v → CheckSays t x → x ≡ told_verdict v
  two-only x v e s = check-decides t x (told_verdict (two o m p n)) s (check-meets t held) ∙ ap told_verdict e

abbrev Says : ℕ → Option ℕ → ℕ → Option ℕ → Told Nothing → Type 0
Says o m p n = CheckSays (table (bank (Some o) m false) (bank (Some p) n false))

-- "banks (offset 0, size 8), (8, 8): apart." "(0, 9), (8, 8): 3." "(8, 8), (0, no size): 3." "(0, 8), (8, no size): apart."
pub record BankCases : Type 0 where
  pub touching : (x : Told Nothing) → Says 0 (Some 8) 8 (Some 8) x → x ≡ gives nothing
  pub sharing : (x : Told Nothing) → Says 0 (Some 9) 8 (Some 8) x → x ≡ refuses 3 (Two 1 2)
  pub open-below : (x : Told Nothing) → Says 8 (Some 8) 0 None x → x ≡ refuses 3 (Two 1 2)
  pub open_above : (x : Told Nothing) → Says 0 (Some 8) 8 None x → x ≡ gives nothing

pub bank-cases-say : BankCases
bank-cases-say = record {
  touching = λ x. two-only 0 (Some 8) 8 (Some 8) (omega arith) (some-small 8 (omega arith)) (omega arith) (some-small 8 (omega arith)) x _ bank-cases.0;
  sharing = λ x. two-only 0 (Some 9) 8 (Some 8) (omega arith) (some-small 9 (omega arith)) (omega arith) (some-small 8 (omega arith)) x _ bank-cases.1;
  open-below = λ x. two-only 8 (Some 8) 0 None (omega arith) (some-small 8 (omega arith)) (omega arith) none-small x _ bank-cases.2;
  open_above = λ x. two-only 0 (Some 8) 8 None (omega arith) (some-small 8 (omega arith)) (omega arith) none-small x _ bank-cases.3;
}

-- ---- blocks, with room for two

abbrev room : List ℕ
room = 0 ∷ 0 ∷ []

marked : Contract (0 ∷ 4 ∷ 8 ∷ []) (8 ∷ 0 ∷ 8 ∷ []) room room (Ok 2) (0 ∷ 8 ∷ []) (8 ∷ 8 ∷ [])
unfolding insert_by sorted_by spans_of all_within blocks_from
marked = record { answer = refl; figures = refl; first = refl; second = refl }

joined : Contract (0 ∷ 8 ∷ []) (8 ∷ 8 ∷ []) room room (Ok 1) (0 ∷ 0 ∷ []) (16 ∷ 0 ∷ [])
unfolding insert_by sorted_by spans_of all_within blocks_from
joined = record { answer = refl; figures = refl; first = refl; second = refl }

abbrev found : (count : ℕ) (starts sizes : List ℕ) → Outcome
found count starts sizes = record { answer = record { refusal = 0; place = 0; count = count }; starts = starts; sizes = sizes }

-- "spans (0, 8), (4, 0), (8, 8): blocks (0, 8), (8, 8). Without the middle one: (0, 16)."
pub record BlockCases : Type 0 where
  pub apart : (y : Outcome) → DkBlocksSay (0 ∷ 4 ∷ 8 ∷ []) (8 ∷ 0 ∷ 8 ∷ []) room room y → y ≡ found 2 (0 ∷ 8 ∷ []) (8 ∷ 8 ∷ [])
  pub together : (y : Outcome) → DkBlocksSay (0 ∷ 8 ∷ []) (8 ∷ 8 ∷ []) room room y → y ≡ found 1 (0 ∷ 0 ∷ []) (16 ∷ 0 ∷ [])

pub block-cases-say : BlockCases
block-cases-say = record {
  apart = λ y s. blocks-decides (0 ∷ 4 ∷ 8 ∷ []) (8 ∷ 0 ∷ 8 ∷ []) room room y (found 2 (0 ∷ 8 ∷ []) (8 ∷ 8 ∷ [])) s
      (blocks-meets (0 ∷ 4 ∷ 8 ∷ []) (8 ∷ 0 ∷ 8 ∷ []) room room (Ok 2) (0 ∷ 8 ∷ []) (8 ∷ 8 ∷ []) marked);
  together = λ y s. blocks-decides (0 ∷ 8 ∷ []) (8 ∷ 8 ∷ []) room room y (found 1 (0 ∷ 0 ∷ []) (16 ∷ 0 ∷ [])) s
      (blocks-meets (0 ∷ 8 ∷ []) (8 ∷ 8 ∷ []) room room (Ok 1) (0 ∷ 0 ∷ []) (16 ∷ 0 ∷ []) joined);
}
