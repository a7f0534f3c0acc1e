-- Laws that Theorems/Acceptable rests on.
use Rattle.std.specs.Prelude.{◌≡◌, refl, Bool, true, false, List, [], ◌∷◌, ℕ, zero, suc, ◌≤◌, ◌<◌, leb, length, get_or, Option, None, Some}
use Rattle.std.proofs.lemmas.Bool.{false≢true}
use Rattle.std.proofs.Common.{suc-ne-zero, not-suc-le-zero, le_of_suc-le-suc, arith, le-leb, leb-true}
use Rattle.std.proofs.Math.Nat.{suc_inj}
use Rattle.prelude.specs.Limits.{max_offer, max_position}
use Rattle.prelude.specs.Pick.{pick}
use Rattle.blocks.specs.Offsets.{offset_of}
use Rattle.blocks.specs.Spans.{span, offset_within, within, spans_of, all_within}
use Rattle.blocks.specs.Acceptable.{OffsetFits, SpanFits}

pub both_true : (p q : Bool) → pick p q false ≡ true → (p ≡ true) × (q ≡ true)
both_true true q e = (refl, e)
both_true false q e = absurd (false≢true e)

-- What a span within the limits has: its offset within, and its size.
pub within-parts : (word size : ℕ) → within (span word size) ≡ true → (offset_within (offset_of word) ≡ true) × (size ≤ max_position)
within-parts word size e =
    let b = both_true (offset_within (offset_of word)) (leb size max_position) e in
    (b.0, leb-true size max_position b.1)

pub offset-fits : (o : Option ℕ) → offset_within o ≡ true → OffsetFits o
offset-fits None e = tt
offset-fits (Some o) e = leb-true o max_offer e

fits-offset : (o : Option ℕ) → OffsetFits o → offset_within o ≡ true
fits-offset None h = refl
fits-offset (Some o) h = le-leb o max_offer h

-- Each of spans that are all within the limits is,
pub each_within : (ws zs : List ℕ) → length ws ≡ length zs → all_within (spans_of ws zs) ≡ true → (k : ℕ) → k < length ws
    → within (span (get_or ws k 0) (get_or zs k 0)) ≡ true
unfolding all_within spans_of
each_within [] zs h e k lt = absurd (not-suc-le-zero lt)
each_within (w ∷ ws) [] h e k lt = absurd (suc-ne-zero (length ws) h)
each_within (w ∷ ws) (z ∷ zs) h e zero lt = (both_true (within (span w z)) (all_within (spans_of ws zs)) e).0
each_within (w ∷ ws) (z ∷ zs) h e (suc k) lt =
    each_within ws zs (suc_inj h) (both_true (within (span w z)) (all_within (spans_of ws zs)) e).1 k (le_of_suc-le-suc lt)

-- and where each is, all are.
pub within-each : (ws zs : List ℕ) → ((k : ℕ) → k < length ws → SpanFits (get_or ws k 0) (get_or zs k 0)) → all_within (spans_of ws zs) ≡ true
unfolding all_within spans_of
within-each [] zs h = refl
within-each (w ∷ ws) [] h = refl
within-each (w ∷ ws) (z ∷ zs) h =
    let f : SpanFits w z = h 0 (omega arith) in
    rw (fits-offset (offset_of w) f.0, le-leb z max_position f.1) (within-each ws zs (λ k lt. h (suc k) (omega arith)))
