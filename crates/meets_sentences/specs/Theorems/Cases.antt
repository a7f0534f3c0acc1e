-- Worked cases of document 01 and edges of its table, on the sentences of the build: which refusals come first with which place, which banks overlap, how
-- long a fill is, what K and the passes run are.
use Rattle.std.specs.Prelude.{◌≡◌, refl, Bool, true, false, ◌⊎◌, ℕ, zero, suc, ◌+◌, ◌*◌, ◌/◌, ◌%◌, ◌≤◌, ◌<◌, nat_abs, length, get_or}
use Rattle.std.proofs.Common.{sym, ap, subst, ◌∙◌, inl, inr, ⊎_elim, arith}
use Rattle.sort.specs.Laws.Sorted.{le-or-lt}
use Rattle.says.specs.Words as w
use Rattle.says.specs.Words.{First, FirstPair}
use Rattle.meets.specs.Laws.Words.{first_one, first-pair-one}
use Rattle.says.specs.Banks as bank
use Rattle.says.specs.Banks.{Meet}
use Rattle.says.specs.Build as b
use Rattle.says.specs.Build.{Given, Lent, Outcome, banks, start, flag, Size, Offset, Filled, Unsized, NoBanks, BadBank, Overlap}
use Rattle.says.specs.Words.{Not}
use Rattle.says.specs.Build.{nodes, BadField, BadNode, Sees, Extent, Placed, Why, Inherited, Unresolved, LastPass, refusal, BuildSays}
use Rattle.says.specs.Build.{Interval, Clash, Names}
use Rattle.meets_sentences.specs.Grounds as ground
use Rattle.meets_sentences.specs.Grounds.{Overlaps}
use Rattle.meets_sentences.specs.Laws.Why.{ten-of}
use Rattle.meets_sentences.specs.Laws.One.{sees-one, extent-one, inherited-one}
use Rattle.meets_sentences.specs.Theorems.Outcomes.{AcceptedSo}

module _ (g : Given) where
  -- ---- the first refusals, each with its place, where those before it are not met

  module _ (old : Lent) where
    pub refused-1 : (o : Outcome) → BuildSays g old o → NoBanks g → o ≡ refusal g old 1 0 0 0
    refused-1 o (w.refused x m) n = refl
    refused-1 o (w.passed a t) n = absurd (a tt n)

    pub refused-2 : (o : Outcome) → BuildSays g old o → Not (NoBanks g) → (c : ℕ) → First (λ x. (x < banks g) × BadBank g x) c → o ≡ refusal g old 2 c 0 0
    refused-2 o (w.refused x m) n c f = absurd (n m)
    refused-2 o (w.passed a (w.refused x m)) n c f = ap (λ (y : ℕ). refusal g old 2 y 0 0) (first_one (λ y. (y < banks g) × BadBank g y) x c m f)
    refused-2 o (w.passed a (w.passed d t)) n c f = absurd (d c f)

    -- banks that pass 1, 2 and 3
    pub record BanksPass : Type 0 where
      pub there : Not (NoBanks g)
      pub good : (c : ℕ) → c < banks g → Not (BadBank g c)
      pub apart : (c d : ℕ) → Not (Overlap g c d)

    pub refused-4-field : (o : Outcome) → BuildSays g old o → BanksPass → (f : ℕ) → First (BadField g) f → o ≡ refusal g old 4 f 0 0
    refused-4-field o (w.refused x m) p f e = absurd (p.there m)
    refused-4-field o (w.passed a (w.refused x m)) p f e = absurd (p.good x m.so.0 m.so.1)
    refused-4-field o (w.passed a (w.passed c (w.refused x m))) p f e = absurd (p.apart x.0 x.1 m.so)
    refused-4-field o (w.passed a (w.passed c (w.passed d (w.refused x m)))) p f e =
        ap (λ (y : ℕ). refusal g old 4 y 0 0) (first_one (BadField g) x f m e)
    refused-4-field o (w.passed a (w.passed c (w.passed d (w.passed h t)))) p f e = absurd (h f e)

    -- "banks, bank 0 included: 1 to 16": 17 are too many
    pub banks-17 : (o : Outcome) → BuildSays g old o → banks g ≡ 17 → o ≡ refusal g old 1 0 0 0
    banks-17 o s e = refused-1 o s (b.too_many (omega arith))

    -- "nodes .. 0 to 4,096"
    pub nodes-4097 : (o : Outcome) → BuildSays g old o → BanksPass → nodes g ≡ 4097 → o ≡ refusal g old 4 0 0 0
    nodes-4097 o s p e = refused-4-field o s p 0 (record { so = b.nodes-many (omega arith); none_below = λ k x. omega arith })

    -- "rows; 1 to 16"
    pub rows-17 : (o : Outcome) → BuildSays g old o → BanksPass → nodes g ≤ 4096 → length g.operands ≡ nodes g → g.rows ≡ 17 → o ≡ refusal g old 4 1 0 0
    rows-17 o s p few same e = refused-4-field o s p 1 (record { so = b.rows-many (omega arith); none_below = not-0 })
      where
        not-0 : (k : ℕ) → BadField g k → 1 ≤ k
        not-0 k (b.nodes-many h) = absurd (omega arith)
        not-0 k (b.operands-differ n) = absurd (n same)
        not-0 k (b.no_rows h) = omega arith
        not-0 k (b.rows-many h) = omega arith
        not-0 k (b.numbers-differ n) = omega arith
        not-0 k (b.states-differ n) = omega arith
        not-0 k (b.limit-past h) = omega arith
        not-0 k (b.fill-unknown h) = omega arith

    -- "start address: -2^40 to 2^40": one past it, on either side, in the first bank at fault
    pub start-one-past : (o : Outcome) → BuildSays g old o → Not (NoBanks g) → (c : ℕ) → c < banks g → nat_abs (start g c) ≡ 1099511627777
        → ((d : ℕ) → d < c → Not (BadBank g d)) → o ≡ refusal g old 2 c 0 0
    start-one-past o s n c h e before =
        refused-2 o s n c (record { so = (h, b.beyond (bank.start-far (omega arith))); none_below = λ k x. least k x.1 })
      where
        least : (k : ℕ) → BadBank g k → c ≤ k
        least k x = ⊎_elim (λ (l : c ≤ k). l) (λ (l : k < c). absurd (before k l x)) (le-or-lt c k)

    -- "or a filled bank has size 0"
    pub filled-of-size-0 : (o : Outcome) → BuildSays g old o → Not (NoBanks g) → (c : ℕ) → c < banks g → Filled g c → Size g c 0
        → ((d : ℕ) → d < c → Not (BadBank g d)) → o ≡ refusal g old 2 c 0 0
    filled-of-size-0 o s n c h f z before =
        refused-2 o s n c (record { so = (h, b.beyond (bank.filled-empty f z)); none_below = λ k x. least k x.1 })
      where
        least : (k : ℕ) → BadBank g k → c ≤ k
        least k x = ⊎_elim (λ (l : c ≤ k). l) (λ (l : k < c). absurd (before k l x)) (le-or-lt c k)

    -- "P all resolved: limits 0, 1, 2 give K 0, 1, 1 and run 1, 1, 2", over any accepted layout
    pub limit-0 : (o : Outcome) → AcceptedSo g old o → g.limit ≡ 0 → (o.answer.k ≡ 0) × (o.answer.passes ≡ 1)
    limit-0 o a e = by a.last
      where
        by : {k n : ℕ} → LastPass g k n → (k ≡ 0) × (n ≡ 1)
        by (b.limit-zero z) = (refl, refl)
        by (b.below h l go r u) = absurd (omega arith)
        by (b.at-limit h go) = absurd (omega arith)

    pub limit-1 : (o : Outcome) → AcceptedSo g old o → g.limit ≡ 1 → (o.answer.k ≡ 1) × (o.answer.passes ≡ 1)
    limit-1 o a e = by a.last
      where
        by : {k n : ℕ} → LastPass g k n → (k ≡ 1) × (n ≡ 1)
        by (b.limit-zero z) = absurd (omega arith)
        by (b.below h l go r u) = absurd (omega arith)
        by (b.at-limit h go) = (e, e)

    -- where pass 1 is not unresolved, every limit from 2 on gives the same
    pub limit-2 : (o : Outcome) → AcceptedSo g old o → 2 ≤ g.limit → Not (Unresolved g 1) → (o.answer.k ≡ 1) × (o.answer.passes ≡ 2)
    limit-2 o a e u = by a.last
      where
        by : {k n : ℕ} → LastPass g k n → (k ≡ 1) × (n ≡ 2)
        by (b.limit-zero z) = absurd (omega arith)
        by (b.below {k} h l go r v) =
            let small : Not (1 < k) = λ more. u (go 1 (omega arith) more).1 in
            (omega arith, omega arith)
        by (b.at-limit h go) = absurd (u (go 1 (omega arith) (omega arith)).1)

  -- ---- "P banks": pairs that are apart and pairs that overlap; banks c and d, both with an offset

  module _ (c d : ℕ) where
    -- the first of two that meet, with a size, ends past the other's offset
    ends-past : {o m : ℕ} → Offset g c o → Size g c m → Meet (Offset g c) (Size g c) (Offset g d) (Size g d) → (p : ℕ) × Offset g d p × (p < o + m)
    ends-past {m = m} o s (bank.two-open e none f alone) = absurd (none m s)
    ends-past o s (bank.first-sized {p = p} e t f none h) = (p, f, omega (arith, o.1, e.1, s.1, t.1))
    ends-past {m = m} o s (bank.second-sized e none f u h) = absurd (none m s)
    ends-past o s (bank.two_sized {p = p} e t f u h k) = (p, f, omega (arith, o.1, e.1, s.1, t.1))

    -- (0, 8), (8, 8): apart
    pub banks-touching : Size g c 8 → Offset g c 0 → Size g d 8 → Offset g d 8 → Not (Overlap g c d)
    banks-touching s o t p (b.overlap h l m x) = let past = ends-past o s x in omega (arith, p.1, past.1.1, past.2)

    -- (0, 9), (8, 8): 3
    pub banks-one-bit-over : 0 < c → c < d → d < banks g → Size g c 9 → Offset g c 0 → Size g d 8 → Offset g d 8 → Overlap g c d
    banks-one-bit-over h l m s o t p = b.overlap h l m (bank.two_sized o s p t (omega arith) (omega arith))

    -- (8, 8), (0, no size): 3
    pub banks-before-unsized : 0 < c → c < d → d < banks g → Size g c 8 → Offset g c 8 → Unsized g d → Offset g d 0 → Overlap g c d
    banks-before-unsized h l m s o t p = b.overlap h l m (bank.first-sized o s p t (omega arith))

    -- (0, 8), (8, no size): apart
    pub banks-unsized-behind : Size g c 8 → Offset g c 0 → Unsized g d → Offset g d 8 → Not (Overlap g c d)
    banks-unsized-behind s o t p (b.overlap h l m x) = let past = ends-past o s x in omega (arith, p.1, past.1.1, past.2)

  -- ---- "P bank size 40: position 30, size 10 passes, position 31 gives 10", over any node i that is placed there

  module _ (r i c : ℕ) (k : Bool) (placed : Placed g i) (size : Size g c 40) (item : Extent g r i 10) where
    pub ends-at-40 : Sees g r i c 30 k → Not (Why g r i 10 i 0)
    ends-at-40 s t =
        let x = (ten-of g t refl).1 in
        let same = sees-one g s x.5 in
        let e = extent-one g item x.6 in
        let m : x.4 ≡ 40 = x.7.1 ∙ ap (λ (y : ℕ). get_or g.bank_sizes y 0) (sym same.0) ∙ sym size.1 in
        omega (arith, same.1, x.8)

    pub ends-at-41 : Sees g r i c 31 k → Why g r i 10 i 0
    ends-at-41 s = b.past-size placed s item size (omega arith)

  -- ---- "P store (0, 8), (8, 8), offer (7, 1): 12, names (0, 8)": at a node before which these two, and nothing else, are stored

  module _ (r i : ℕ) where
    pub names-the-one-below : Interval g r i 0 8 → ((y n : ℕ) → Interval g r i y n → ((y ≡ 0) ⊎ (y ≡ 8)) × (n ≡ 8)) → Names g r i 7 1 0 8
    names-the-one-below stored only =
        b.below stored (omega arith)
        (λ z l x h. ⊎_elim (λ (e : z ≡ 0). omega arith) (λ (e : z ≡ 8). absurd (omega arith)) (only z l x).0)
        (b.bits (omega arith) (omega arith) (omega arith) (omega arith))
        (λ z l x h c. apart z l (⊎_elim (λ (e : z ≡ 0). absurd (omega arith)) (λ (e : z ≡ 8). e) (only z l x).0) c)
      where
        apart : (z l : ℕ) → z ≡ 8 → Clash g 7 1 z l → ⊥
        apart z l e (b.bits a c d f) = omega arith
        apart z l e (b.inside a c d f) = omega arith

    -- "P store (0, 8), offers (0, 0) accepted,": a mark on an interval's first bit, or just past its last, is not inside
    pub mark-on-the-first-bit : ((y n : ℕ) → Interval g r i y n → (y ≡ 0) × (n ≡ 8)) → Not (Overlaps g r i 0 0)
    mark-on-the-first-bit only (ground.stored {y} {n} x c) = apart y n (only y n x) c
      where
        apart : (y n : ℕ) → (y ≡ 0) × (n ≡ 8) → Clash g 0 0 y n → ⊥
        apart y n e (b.bits a c d f) = omega arith
        apart y n e (b.inside a c d f) = omega arith
    mark-on-the-first-bit only (ground.marked x low high) = omega arith

    pub mark-just-past : ((y n : ℕ) → Interval g r i y n → (y ≡ 0) × (n ≡ 8)) → Not (Overlaps g r i 8 0)
    mark-just-past only (ground.stored {y} {n} x c) = apart y n (only y n x) c
      where
        apart : (y n : ℕ) → (y ≡ 0) × (n ≡ 8) → Clash g 8 0 y n → ⊥
        apart y n e (b.bits a c d f) = omega arith
        apart y n e (b.inside a c d f) = omega (arith, e.0, e.1)
    mark-just-past only (ground.marked x low high) = omega arith

    -- "then (4, 4): 12", also where it names (0, 8)
    pub offer-inside-an-interval : Interval g r i 0 8 → Overlaps g r i 4 4
    offer-inside-an-interval stored = ground.stored stored (b.bits (omega arith) (omega arith) (omega arith) (omega arith))

  -- ---- the fill

  -- "P fill alone, offset 0: size 1 gives length 0, size 2 gives 2": bank 0 filled, alone
  pub fill-of-size-1 : {l : ℕ} → Size g 0 1 → Offset g 0 0 → Inherited g 1 l → l ≡ 0
  fill-of-size-1 s o (b.raised b.no-bank-yet (f, s', o') h k) = absurd (omega (arith, s.1, s'.1, o.1, o'.1))
  fill-of-size-1 s o (b.reached b.no-bank-yet (f, s', o') h k) = refl
  fill-of-size-1 s o (b.not-filled b.no-bank-yet n) = refl

  pub fill-of-size-2 : {l : ℕ} → Filled g 0 → Size g 0 2 → Offset g 0 0 → Inherited g 1 l → l ≡ 2
  fill-of-size-2 f s o (b.raised b.no-bank-yet (f', s', o') h k) = omega (arith, s.1, s'.1, o.1, o'.1)
  fill-of-size-2 f s o (b.reached b.no-bank-yet (f', s', o') h k) = absurd (omega (arith, s.1, s'.1, o.1, o'.1))
  fill-of-size-2 f s o (b.not-filled b.no-bank-yet n) = absurd (n _ _ (f, s, o))

  -- Ticket 8: "A one-bit lock bank at offset 8 after a filled byte is missing from the image, because the inherited rule does nothing when the length equals
  -- the bank's last bit."
  pub lock-bank-left-out : (c : ℕ) {l : ℕ} → Inherited g c 8 → Size g c 1 → Offset g c 8 → Inherited g (suc c) l → l ≡ 8
  lock-bank-left-out c before s o (b.raised i (f, s', o') h k) =
      absurd (omega (arith, inherited-one g before i, s.1, s'.1, o.1, o'.1))
  lock-bank-left-out c before s o (b.reached i (f, s', o') h k) = inherited-one g i before
  lock-bank-left-out c before s o (b.not-filled i n) = inherited-one g i before
