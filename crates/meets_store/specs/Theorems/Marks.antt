-- Ticket 10: "a mark on a block's first bit or just past its last is fine, and marks may coincide, each kept". After any offers within the limits from a
-- store without intervals or marks, while there is room.
use Rattle.std.specs.Prelude.{◌≡◌, refl, ◌⊎◌, ◌+◌, ◌≤◌, ◌<◌}
use Rattle.std.proofs.Common.{ap, inl, inr, ⊎_elim, arith}
use mathlib.Core.List.{List, Memᴰ}
use Rattle.sort.specs.Laws.Sorted.{le-or-lt}
use Rattle.overlap_checker.specs.declared.Entry.{Entry}
use Rattle.says.specs.Words.{refused, passed}
use Rattle.says.specs.Store as w
use Rattle.says.specs.Words.{Not}
use Rattle.says.specs.Store.{Store, Outcome, start, size, OfferSays}
use Rattle.meets_store.specs.Calls.{Empty, Within, AllWithin, Calls, SharesBit, InsideOne}
use Rattle.meets_store.specs.Theorems.Demand3 as demand

-- an accepted mark is one more mark, and the intervals stay
one_more : {t : Store} {e : Entry} {y : Outcome} → e.size ≡ 0 → OfferSays t e y → y.answer.refusal ≡ 0
    → (y.answer.marks ≡ t.mark_count + 1) × (y.answer.count ≡ t.count)
one_more none (refused x m) zero = absurd (omega arith)
one_more none (passed n (refused i m)) zero = absurd (omega arith)
one_more none (passed n (passed o (refused i m))) zero = absurd (omega arith)
one_more none (passed n (passed o (passed p (refused x m)))) zero = absurd (omega arith)
one_more none (passed n (passed o (passed p (passed q (w.overlaps x m))))) zero = absurd (omega arith)
one_more none (passed n (passed o (passed p (passed q (w.full x m))))) zero = absurd (omega arith)
one_more none (passed n (passed o (passed p (passed q (w.stored x m k i f g))))) zero = absurd (omega arith)
one_more none (passed n (passed o (passed p (passed q (w.marked x m k i f))))) zero = (refl, refl)

module _ (s : Store) (empty : Empty s) (es taken : List Entry) (all : AllWithin es) (t : Store) (run : Calls s es taken t) where
  -- two accepted blocks are one, or one ends where the other starts, or before
  apart : (f g : Entry) → Memᴰ f taken → Memᴰ g taken → 0 < f.size → 0 < g.size
      → ((f.position ≡ g.position) × (f.size ≡ g.size)) ⊎ ((f.position + f.size ≤ g.position) ⊎ (g.position + g.size ≤ f.position))
  apart f g m k n o =
      let (i, h, p, z) = (demand.stored-exactly s empty es taken all t run f).0 (n, m) in
      let (j, l, q, x) = (demand.stored-exactly s empty es taken all t run g).0 (o, k) in
      ⊎_elim
      (λ le. ⊎_elim
      (λ ge. let same : i ≡ j = omega arith in
      inl (omega (arith, p, q, ap (start t) same), omega (arith, z, x, ap (size t) same)))
      (λ lt. inr (inl (omega (arith, p, z, q, demand.stored-ascend s empty es taken all t run i j lt l))))
      (le-or-lt j i))
      (λ gt. inr (inr (omega (arith, p, q, x, demand.stored-ascend s empty es taken all t run j i gt h))))
      (le-or-lt i j)

  module _ (e : Entry) (within : Within e) (y : Outcome) (says : OfferSays t e y) where
    -- neither 12 nor 13
    fine : Not (y.answer.refusal ≡ 12) → Not (y.answer.refusal ≡ 13) → y.answer.refusal ≡ 0
    fine not-12 not-13 =
        ⊎_elim (⊎_elim (λ z. z) (λ r. absurd (not-12 r))) (λ r. absurd (not-13 r)) (demand.only_two s empty es taken all t run e within y says)

    mark-fine : e.size ≡ 0 → Not (InsideOne e.position taken) → t.mark_count < 512 → y.answer.refusal ≡ 0
    mark-fine z out room =
        fine (λ r. out ((demand.mark-overlap-exactly s empty es taken all t run e within y says z).0 r))
        (λ r. omega (arith, ((demand.mark-full-exactly s empty es taken all t run e within y says z).0 r).0))

    -- A mark on an accepted block's first bit, or just past its last, is accepted.
    pub mark-at-edge-is-fine : (f : Entry) → Memᴰ f taken → 0 < f.size → e.size ≡ 0
        → (e.position ≡ f.position) ⊎ (e.position ≡ f.position + f.size) → t.mark_count < 512 → y.answer.refusal ≡ 0
    mark-at-edge-is-fine f m n z edge room = mark-fine z out room
      where
        low : f.position ≤ e.position
        low = ⊎_elim (λ h. omega arith) (λ h. omega arith) edge

        high : e.position ≤ f.position + f.size
        high = ⊎_elim (λ h. omega arith) (λ h. omega arith) edge

        out : Not (InsideOne e.position taken)
        out h =
            let (g, k, (p, q)) = h in
            ⊎_elim (λ same. ⊎_elim (λ h. omega (arith, same.0, p)) (λ h. omega (arith, same.0, same.1, q)) edge)
            (⊎_elim (λ le. omega (arith, le, p, high)) (λ le. omega (arith, le, q, low)))
            (apart f g m k n (omega (arith, p, q)))

    -- A block with accepted marks on its first bit and just past its last, or outside, and none strictly inside, is accepted.
    pub block-between-marks-is-fine : 0 < e.size → Not (SharesBit e taken)
        → ((f : Entry) → Memᴰ f taken → f.size ≡ 0 → (f.position ≤ e.position) ⊎ (e.position + e.size ≤ f.position)) → t.count < 512
        → y.answer.refusal ≡ 0
    block-between-marks-is-fine n free beside room =
        fine
        (λ r. ⊎_elim free
        (λ m. ⊎_elim (λ le. omega (arith, le, m.3.0)) (λ le. omega (arith, le, m.3.1)) (beside m.0 m.1 m.2))
        ((demand.overlap-exactly s empty es taken all t run e within y says n).0 r))
        (λ r. omega (arith, ((demand.full-exactly s empty es taken all t run e within y says n).0 r).0))

    -- A mark where an accepted mark is already is accepted, and kept beside it.
    pub mark-again-is-kept : (f : Entry) → Memᴰ f taken → f.size ≡ 0 → e.size ≡ 0 → e.position ≡ f.position → t.mark_count < 512
        → (y.answer.refusal ≡ 0) × (y.answer.marks ≡ t.mark_count + 1)
    mark-again-is-kept f m z none at room = (given, (one_more none says given).0)
      where
        out : Not (InsideOne e.position taken)
        out h =
            let (g, k, (p, q)) = h in
            let (i, less, is) = (demand.marked-exactly s empty es taken all t run f.position).0 (f, m, z, refl) in
            let (j, there, a, b) = (demand.stored-exactly s empty es taken all t run g).0 (omega (arith, p, q), k) in
            demand.marks-outside s empty es taken all t run i j less there (omega (arith, a, p, at, is), omega (arith, a, b, q, at, is))

        given : y.answer.refusal ≡ 0
        given = mark-fine none out room
