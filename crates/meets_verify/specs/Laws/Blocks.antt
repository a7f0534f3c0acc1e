-- Blocks of whole bytes, and the kind of a byte: the sentences' words against the definition's tests.
use Rattle.std.specs.Prelude.{◌≡◌, refl, Bool, true, false, List, [], ◌∷◌, ℕ, suc, ◌+◌, ◌*◌, ◌%◌, ◌≤◌, ◌<◌, leb, eqb, length, get_or}
use Rattle.std.proofs.Common.{arith}
use borrow.Author.Tests.{leb-false, eqb-true, eqb-false, ne_eqb}
use Rattle.prelude.specs.Laws.Bools.{either, clash}
use Rattle.overlay.specs.Cover.{covered_bit}
use Rattle.overlay.specs.Laws.CoverFacts.{covered-by}
use Rattle.verify.specs.Whole.{whole, all_whole, Sound}
use Rattle.verify.specs.Laws.Whole.{whole-means, each-whole}
use Rattle.verify.specs.Runs.{Readback, kind_by, kind_of}
use Rattle.meets_overlay.specs.Laws.Blocks.{is-covered}
use Rattle.says.specs.Part as part
use Rattle.says.specs.Verify.{Missing, Different}

-- ---- a block that is no part
not-whole : (image : List ℕ) (o s : ℕ) → whole (length image) o s ≡ false → part.Unfit image o s
unfolding whole
not-whole image o s e = either (eqb (o % 8) 0)
    (λ t. either (eqb (s % 8) 0)
    (λ u. part.outside (leb-false (o + s) (8 * length image) (rw (t, u) at e)))
    (λ f. part.ends-off (λ z. eqb-false (s % 8) 0 f (omega (arith, eqb-true (o % 8) 0 t)))))
    (λ f. part.starts-off (eqb-false (o % 8) 0 f))

is_whole : (image : List ℕ) (o s : ℕ) → 0 < s → whole (length image) o s ≡ true → part.Unfit image o s → ⊥
is_whole image o s some e (part.empty z) = omega arith
is_whole image o s some e (part.outside h) = omega (arith, (whole-means (length image) o s e).2)
is_whole image o s some e (part.starts-off n) = n (whole-means (length image) o s e).0
is_whole image o s some e (part.ends-off n) = let w = whole-means (length image) o s e in n (omega (arith, w.0, w.1))

some-not : (bytes : ℕ) (os ss : List ℕ) → all_whole bytes os ss ≡ false → (i : ℕ) × (i < length os) × (whole bytes (get_or os i 0) (get_or ss i 0) ≡ false)
unfolding all_whole
some-not bytes [] ss e = absurd (clash refl e)
some-not bytes (o ∷ os) [] e = absurd (clash refl e)
some-not bytes (o ∷ os) (s ∷ ss) e = either (whole bytes o s)
    (λ t. let r = some-not bytes os ss (rw t at e) in (suc r.0, omega (arith, r.1), r.2))
    (λ f. (0, omega arith, f))

pub some-unfit : (image os ss : List ℕ) → all_whole (length image) os ss ≡ false → (i : ℕ) × (i < length os) × part.Unfit image (get_or os i 0) (get_or ss i 0)
some-unfit image os ss e = let r = some-not (length image) os ss e in (r.0, r.1, not-whole image (get_or os r.0 0) (get_or ss r.0 0) r.2)

pub none-unfit : (image os ss : List ℕ) → Sound os ss → all_whole (length image) os ss ≡ true
    → (i : ℕ) → i < length os → part.Unfit image (get_or os i 0) (get_or ss i 0) → ⊥
none-unfit image os ss s e i h = is_whole image (get_or os i 0) (get_or ss i 0) (s.some i h) (each-whole (length image) os ss s.paired e i h)

-- ---- a byte that a block has, all eight bits, by its first bit
module _ (os ss : List ℕ) (sound : Sound os ss) (b : ℕ) where
  abbrev Has : Type 0
  Has = (i : ℕ) × (i < length os) × (get_or os i 0 ≤ 8 * b) × (8 * b + 8 ≤ get_or os i 0 + get_or ss i 0)

  pub has-bit : Has → covered_bit os ss (8 * b) ≡ true
  has-bit h = covered-by os ss h.0 (8 * b) h.1 sound.paired h.2 (omega (arith, h.3))

  pub bit-has : covered_bit os ss (8 * b) ≡ true → Has
  bit-has e =
      let c = is-covered os ss os ss (8 * b) e in
      let i = c.0 in
      let h = c.1.0 in
      (i, h, c.1.1, omega (arith, c.1.2, sound.starts i h, sound.sized i h))

-- ---- the kind of a byte
by_one : (a g s : Bool) → kind_by a g s ≡ 1 → (a ≡ true) × (g ≡ false)
by_one false g s e = absurd (omega arith)
by_one true false s e = (refl, refl)
by_one true true false e = absurd (omega arith)
by_one true true true e = absurd (omega arith)

by_two : (a g s : Bool) → kind_by a g s ≡ 2 → (a ≡ true) × (g ≡ true) × (s ≡ false)
by_two false g s e = absurd (omega arith)
by_two true false s e = absurd (omega arith)
by_two true true false e = (refl, refl, refl)
by_two true true true e = absurd (omega arith)

three-kinds : (a g s : Bool) (X : ℕ → Type 0) → X 0 → X 1 → X 2 → X (kind_by a g s)
three-kinds false g s X x y z = x
three-kinds true false s X x y z = y
three-kinds true true false X x y z = z
three-kinds true true true X x y z = x

module _ (t : Readback) (sound : Sound t.offsets t.sizes) (given : Sound t.given_offsets t.given_sizes) (b : ℕ) where
  abbrev a : Bool
  a = covered_bit t.offsets t.sizes (8 * b)

  abbrev g : Bool
  g = covered_bit t.given_offsets t.given_sizes (8 * b)

  abbrev s : Bool
  s = eqb (get_or t.image b 0) (get_or t.bytes b 0)

  abbrev IsMissing : Type 0
  IsMissing = Missing t.image t.offsets t.sizes t.bytes t.given_offsets t.given_sizes b

  abbrev IsDifferent : Type 0
  IsDifferent = Different t.image t.offsets t.sizes t.bytes t.given_offsets t.given_sizes b

  pub kind-one : b < length t.image → kind_of t b ≡ 1 → IsMissing
  unfolding kind_of
  kind-one h e =
      let k = by_one a g s e in
      record {
        inside = h;
        asked = bit-has t.offsets t.sizes sound b k.0;
        absent = λ x. clash (has-bit t.given_offsets t.given_sizes given b x) k.1;
      }

  pub kind-two : b < length t.image → kind_of t b ≡ 2 → IsDifferent
  unfolding kind_of
  kind-two h e =
      let k = by_two a g s e in
      record {
        inside = h;
        asked = bit-has t.offsets t.sizes sound b k.0;
        given = bit-has t.given_offsets t.given_sizes given b k.1;
        other = eqb-false (get_or t.image b 0) (get_or t.bytes b 0) k.2;
      }

  pub one-kind : IsMissing → kind_of t b ≡ 1
  unfolding kind_of
  one-kind m = rw (has-bit t.offsets t.sizes sound b m.asked) (either g
      (λ e. absurd (m.absent (bit-has t.given_offsets t.given_sizes given b e)))
      (λ e. rw e))

  pub two-kind : IsDifferent → kind_of t b ≡ 2
  unfolding kind_of
  two-kind d = rw (
    has-bit t.offsets t.sizes sound b d.asked,
    has-bit t.given_offsets t.given_sizes given b d.given,
    ne_eqb (get_or t.image b 0) (get_or t.bytes b 0) d.other,
  )

  pub any-kind : (X : ℕ → Type 0) → X 0 → X 1 → X 2 → X (kind_of t b)
  unfolding kind_of
  any-kind = three-kinds a g s
