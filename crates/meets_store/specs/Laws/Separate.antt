-- Offers accepted one after another from an empty store: no bit belongs to two of them.
use Rattle.std.specs.Prelude.{◌≡◌, refl, ℕ, suc, ◌≤◌, ◌<◌, length}
use Rattle.std.proofs.Common.{sym, ap, subst, inl, inr, ⊎_elim, arith}
use mathlib.Core.List.Memᴰ
use mathlib.Core.List.{List, [], ◌∷◌, ◌++◌, tail, Memᴰ}
use Rattle.sort.specs.Laws.Sorted.{le-or-lt}
use Rattle.overlap_checker.specs.declared.Entry.{Entry}
use Rattle.says.specs.Words.{Not}
use Rattle.says.specs.Store.{Store, Outcome, Covers, OfferSays, PastLimits}
use Rattle.says.specs.Offers.{handed}
use Rattle.meets_store.specs.Calls as c
use Rattle.meets_store.specs.Calls.{Empty, Within, Calls}
use Rattle.meets_store.specs.Theorems.Refused.{refused-changes-nothing}
use Rattle.meets_store.specs.Theorems.Exactly.{accepted-exactly}
use Rattle.meets_store.specs.Theorems.Demand3.{overlap-exactly}

-- The refused ones left out, the others are accepted as before.
pub accepted-again : {s t : Store} {es taken : List Entry} → Calls s es taken t → Calls s taken taken t
accepted-again c.none = c.none
accepted-again (c.accepts says zero run) = c.accepts says zero (accepted-again run)
accepted-again {t = t} (c.refuses {accepted = taken} says some run) =
    subst (λ (s : Store). Calls s taken taken t) (refused-changes-nothing says some) (accepted-again run)

-- one more, behind the others
one-behind : {s t : Store} {es taken : List Entry} {e : Entry} {y : Outcome} → Calls s es taken t → OfferSays t e y → y.answer.refusal ≡ 0
    → Calls s (es ++ (e ∷ [])) (taken ++ (e ∷ [])) (handed y)
one-behind c.none says zero = c.accepts says zero c.none
one-behind (c.accepts p z run) says zero = c.accepts p z (one-behind run says zero)
one-behind (c.refuses p z run) says zero = c.refuses p z (one-behind run says zero)

-- an accepted offer is within the limits
within-limits : (s : Store) (e : Entry) → Not (PastLimits s e) → Within e
within-limits s e n = (
  ⊎_elim (λ (h : e.position ≤ 8589934590). h) (λ (h : 8589934590 < e.position). absurd (n (inl h))) (le-or-lt e.position 8589934590),
  ⊎_elim (λ (h : e.size ≤ 4294967295). h) (λ (h : 4294967295 < e.size). absurd (n (inr h))) (le-or-lt e.size 4294967295),
)

taken-within : {s t : Store} {es taken : List Entry} → Calls s es taken t → (e : Entry) → Memᴰ e taken → Within e
taken-within c.none e m = absurd (Memᴰ.not-nil m)
taken-within {s} (c.accepts {e = f} says zero run) e m =
    ⊎_elim (λ same. subst Within (sym same) (within-limits s f ((accepted-exactly s f says).0 zero).1)) (λ l. taken-within run e l)
    (Memᴰ.cases_cons m)
taken-within (c.refuses says some run) e m = taken-within run e m

few : {s t : Store} {es taken : List Entry} → Calls s es taken t → length taken ≤ length es
few c.none = omega arith
few (c.accepts p z run) = let rest = few run in omega arith
few (c.refuses p z run) = let rest = few run in omega arith

-- no bit belongs to two places of a list
pub data Separate : List Entry → Type 0 where
  none : Separate []
  one_more : {e : Entry} {es : List Entry}
      → ((f : Entry) (bit : ℕ) → Memᴰ f es → Covers e.position e.size bit → Covers f.position f.size bit → ⊥) → Separate es → Separate (e ∷ es)

-- nor to one of each of two lists
abbrev Between : (before es : List Entry) → Type 0
Between before es =
    (f e : Entry) (bit : ℕ) → Memᴰ f before → Memᴰ e es → Covers f.position f.size bit → Covers e.position e.size bit → ⊥

module _ (s : Store) (empty : Empty s) where
  separate-behind : (before : List Entry) {t u : Store} {es taken : List Entry} → Calls s before before t → Calls t es taken u → taken ≡ es
      → Separate es × Between before es
  separate-behind before run c.none same = (none, (λ f e bit m n. absurd (Memᴰ.not-nil n)))
  separate-behind before {t} run (c.accepts {e = e} {es = es} {y = y} says zero more) same =
      let (rest, between) = separate-behind (before ++ (e ∷ [])) (one-behind run says zero) more (ap tail same) in (
        one_more (λ f bit m x z. between e f bit (Memᴰ.append_right before (Memᴰ.head refl)) m x z) rest,
        (λ f g bit m n x z.
            ⊎_elim
            (λ is.
            let (low, high) = subst (λ (h : Entry). Covers h.position h.size bit) is z in
            let limits = within-limits t e ((accepted-exactly t e says).0 zero).1 in
            let twelve : y.answer.refusal ≡ 12 =
            (overlap-exactly s empty before before (taken-within run) t run e limits y says (omega arith)).1 (inl (f, bit, m, (low, high), x)) in
            omega arith)
            (λ l. between f g bit (Memᴰ.append_left (e ∷ []) m) l x z)
            (Memᴰ.cases_cons n)),
      )
  separate-behind before run (c.refuses {e = e} {es = es} {accepted = taken} says some more) same =
      let n : length taken ≡ suc (length es) = ap length same in
      absurd (omega (arith, few more))

  -- Offers, of which those of the second list were accepted: no bit belongs to two of these.
  pub taken-separate : {t : Store} {es taken : List Entry} → Calls s es taken t → Separate taken
  taken-separate run = (separate-behind [] c.none (accepted-again run) refl).0
