-- Laws that Theorems/Pairs rests on.
use Rattle.std.specs.Prelude.{◌≡◌, refl, true, false, List, [], ◌∷◌, ℕ, zero, suc, ◌+◌, ◌<◌, length, get_or, Err, Option, Some, None}
use Rattle.std.proofs.Common.{inl, inr, ⊎_elim, arith, ltb-true}
use Rattle.prelude.specs.declared.Refusal.TheVariants.{BanksOverlap}
use Rattle.bankdef.specs.declared.Bankdef.{Bankdef}
use Rattle.prelude.specs.Laws.Bools.{either, clash}
use Rattle.prelude.specs.Verdict.{Verdict, Accepted}
use Rattle.bankdef.specs.Search.{first_where, some_where}
use Rattle.bankdef.specs.Laws.Search.{not-before, some, first_passes}
use Rattle.bankdef.specs.Overlap.{ranges_overlap, places_overlap, pair_overlaps}
use Rattle.bankdef.specs.Check.{no_bank, first_pair}
use Rattle.bankdef.specs.Pairs.{NoLater, OverlapAt, Pairs, apart, joint}

-- The pairs of a list, every element compared with those after it.
pub record Meets (l : List Bankdef) (a b : ℕ) : Type 0 where
  pub rising : a < b
  pub there : b < length l
  pub meets : pair_overlaps (get_or l a no_bank) (get_or l b no_bank) ≡ true

pub data Answer (i : ℕ) (l : List Bankdef) : Verdict → Type 0 where
  none : ((a b : ℕ) → Meets l a b → ⊥) → Answer i l Accepted
  first : (a b x y : ℕ) → x ≡ i + a → y ≡ i + b → Meets l a b → ((c d : ℕ) → Meets l c d → NoLater a b c d) → Answer i l (Err (BanksOverlap x y))

-- a pair of the list, counted with one element before it
abbrev Within : List Bankdef → ℕ → ℕ → Type 0
Within l c d = (a : ℕ) × (b : ℕ) × (c ≡ suc a) × (d ≡ suc b) × Meets l a b

no-later : {a b : ℕ} {l : List Bankdef} {c d : ℕ} → ((i j : ℕ) → Meets l i j → NoLater a b i j) → Within l c d → NoLater (suc a) (suc b) c d
no-later f n = ⊎_elim (λ h. inl (omega (arith, n.2))) (λ h. inr (omega (arith, n.2, h.0), omega (arith, n.3, h.1))) (f n.0 n.1 n.4)

-- a pair of which the first element is not the list's
inner : (x : Bankdef) (l : List Bankdef) (c d : ℕ) → some_where (pair_overlaps x) l ≡ false → Meets (x ∷ l) c d → Within l c d
inner x l c zero t m = absurd (omega (arith, m.rising))
inner x l zero (suc d) t m = absurd (clash (some (pair_overlaps x) no_bank l d (omega (arith, m.there)) m.meets) t)
inner x l (suc c) (suc d) t m = (c, d, refl, refl, record { rising = omega (arith, m.rising); there = omega (arith, m.there); meets = m.meets })

nearest : (x : Bankdef) (l : List Bankdef) (c d : ℕ) → Meets (x ∷ l) c d → NoLater 0 (suc (first_where (pair_overlaps x) l)) c d
nearest x l c zero m = absurd (omega (arith, m.rising))
nearest x l zero (suc d) m = inr (refl, omega (arith, not-before (pair_overlaps x) no_bank l d (omega (arith, m.there)) m.meets))
nearest x l (suc c) (suc d) m = inl (omega arith)

further : (i : ℕ) (x : Bankdef) (l : List Bankdef) {v : Verdict} → some_where (pair_overlaps x) l ≡ false → Answer (i + 1) l v → Answer i (x ∷ l) v
further i x l t (none f) = none (λ a b m. let n = inner x l a b t m in f n.0 n.1 n.4)
further i x l t (first a b v w ev ew m f) =
    first (suc a) (suc b) v w (omega arith) (omega arith)
    (record { rising = omega (arith, m.rising); there = omega (arith, m.there); meets = m.meets })
    (λ c d k. no-later f (inner x l c d t k))

pub answer : (i : ℕ) (l : List Bankdef) → Answer i l (first_pair i l)
unfolding first_pair
answer i [] = none (λ a b m. omega (arith, m.there))
answer i (x ∷ l) =
    let p = pair_overlaps x in
    either (some_where p l)
    (λ t.
    let h = ltb-true (first_where p l) (length l) t in
    rw t (first 0 (suc (first_where p l)) i (i + 1 + first_where p l) (omega arith) (omega arith)
    (record { rising = omega arith; there = omega arith; meets = first_passes p no_bank l h })
    (nearest x l)))
    (λ t. rw t (further i x l t (answer (i + 1) l)))

offsets : (a m b n : Option ℕ) → places_overlap a m b n ≡ true → (o : ℕ) × (p : ℕ) × (a ≡ Some o) × (b ≡ Some p) × (ranges_overlap o m p n ≡ true)
offsets None m b n e = absurd (clash e refl)
offsets (Some o) m None n e = absurd (clash e refl)
offsets (Some o) m (Some p) n e = (o, p, refl, refl, e)

-- the pairs of a list past its bank 0 are those of the banks after it
outward : (z : Bankdef) (l : List Bankdef) (a b : ℕ) → Meets l a b → OverlapAt (z ∷ l) (suc a) (suc b)
outward z l a b m =
    let f = get_or l a no_bank in
    let g = get_or l b no_bank in
    let s = offsets f.offset f.size g.offset g.size m.meets in
    record {
      not-bank-0 = omega arith;
      rising = omega (arith, m.rising);
      there = omega (arith, m.there);
      o = s.0;
      p = s.1;
      first-offset = s.2;
      second-offset = s.3;
      overlap = s.4;
    }

inward : (z : Bankdef) (l : List Bankdef) (i j : ℕ) → OverlapAt (z ∷ l) i j → Within l i j
inward z l zero j m = absurd (omega (arith, m.not-bank-0))
inward z l (suc a) zero m = absurd (omega (arith, m.rising))
inward z l (suc a) (suc b) m = (
  a,
  b,
  refl,
  refl,
  record {
    rising = omega (arith, m.rising);
    there = omega (arith, m.there);
    meets = rw (m.first-offset, m.second-offset)
        m.overlap;
  },
)

pub counted : (z : Bankdef) (l : List Bankdef) {v : Verdict} → Answer 1 l v → Pairs (z ∷ l) v
counted z l (none f) = apart (λ i j m. let n = inward z l i j m in f n.0 n.1 n.4)
counted z l (first a b v w ev ew m f) =
    let first-of : v ≡ suc a = omega arith in
    let second-of : w ≡ suc b = omega arith in
    rw (first-of, second-of) (joint (record {
      at = outward z l a b m;
      no-earlier = λ c d k. no-later f (inward z l c d k);
    }))
