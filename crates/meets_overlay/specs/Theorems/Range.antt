-- `dk_overlay_range` and `overlay::pick`: by their contracts they say the sentences (`range-meets`, `bytes-meet`), which leave one outcome
-- (`range-decides`, `bytes-decide`).
use Rattle.std.specs.Prelude.{◌≡◌, Bool, true, false, List, ℕ, ◌+◌, ◌*◌, ◌/◌, ◌≤◌, ◌<◌, ltb, leb, length, take, drop, Err, Ok}
use Rattle.std.proofs.Math.Path.{refl}
use Rattle.std.proofs.Common.{sym, ◌∙◌, arith, length-take, length-drop, ext_get_or, get_or-take, get_or-drop}
use Rattle.std.proofs.Math.Bool.{not}
use Rattle.std.proofs.Math.Nat.{min-eq_left}
use borrow.Author.Tests.{ltb-true, ltb-false, leb-false}
use Rattle.prelude.specs.Laws.Bools.{either, clash}
use Rattle.prelude.specs.Pick.{pick}
use Rattle.prelude.specs.declared.Refusal.TheVariants.{Malformed, BadPart, PartlyCovered}
use Rattle.overlay.specs.Cover.{covered_bit, covered_byte, all_covered, none_covered}
use Rattle.overlay.specs.Theorems.CoverFacts.{byte-holds, all-holds, none-holds}
use Rattle.overlay.specs.Order.{in_order}
use Rattle.overlay.specs.Range.{inside, source_of, bytes_of, Picks}
use Rattle.overlay.specs.Laws.Range.{inside-true}
use Rattle.overlay.specs.Trial.{Trial, trial}
use Rattle.overlay.specs.declared.Source.TheVariants.{Overlay, Released}
use Rattle.c_model.specs.Overlays.{RangeTold}
use Rattle.c_answers.specs.Parts.{overlay_by}
use Rattle.c_answers.specs.declared.DkOverlay.{DkOverlay}
use Rattle.meets.specs.Laws.Words.{OneOnly, tries-one}
use Rattle.says.specs.Words.{Tries, refused, passed}
use Rattle.meets_overlay.specs.Laws.Blocks.{some-fails, bad-blocks, no-bad-blocks, is-covered, covered-is}
use Rattle.says.specs.Overlay as says
use Rattle.says.specs.Overlay.{Covered, BadBlocks, BadRange, InRange, Partly, AllCovered, NoneCovered, Answers, RangeSays, PartOf, Hands, BytesSay}

module _ (overlay released os ss : List ℕ) (first count : ℕ) where
  -- ---- they leave one outcome

  -- a range with a byte is not both covered and free
  pub one_of_two : 0 < count → AllCovered overlay released os ss first count → NoneCovered overlay released os ss first count → ⊥
  one_of_two some w f = f (8 * first) (omega arith, omega arith) (w first (omega arith) (omega arith) (8 * first) (omega arith) (omega arith))

  some_byte : (BadRange overlay released os ss first count → ⊥) → 0 < count
  some_byte n = either (ltb 0 count) (λ t. ltb-true 0 count t) (λ f. let z = ltb-false 0 count f in absurd (n (says.empty (omega arith))))

  module _ {Y : Type 0} (none : Y) (sixteen : Y) (seventeen : Y) (Then : Y → Type 0) (then_one : 0 < count → OneOnly Then) where
    inside_one : OneOnly (Tries (λ (_ : Unit {0}). BadRange overlay released os ss first count) (λ _. sixteen)
        (Tries (λ (_ : Unit {0}). Partly overlay released os ss first count) (λ _. seventeen) Then))
    inside_one y z (refused x m) (refused x' n) = refl
    inside_one y z (refused x m) (passed n t) = absurd (n tt m)
    inside_one y z (passed n t) (refused x m) = absurd (n tt m)
    inside_one y z (passed n t) (passed m u) =
        tries-one (λ (_ : Unit {0}). Partly overlay released os ss first count) (λ _. seventeen) Then (λ a b p q. refl) (then_one (some_byte (n tt))) y z t u

    all_one : OneOnly (Tries (λ (_ : Unit {0}). BadBlocks overlay released os ss) (λ _. none)
        (Tries (λ (_ : Unit {0}). BadRange overlay released os ss first count) (λ _. sixteen)
        (Tries (λ (_ : Unit {0}). Partly overlay released os ss first count) (λ _. seventeen) Then)))
    all_one = tries-one (λ (_ : Unit {0}). BadBlocks overlay released os ss) (λ _. none) _ (λ a b p q. refl) inside_one

  answers_one : 0 < count → OneOnly (Answers overlay released os ss first count)
  answers_one some y z (says.from-overlay w) (says.from-overlay v) = refl
  answers_one some y z (says.from-overlay w) (says.from-released f) = absurd (one_of_two some w f)
  answers_one some y z (says.from-released f) (says.from-overlay w) = absurd (one_of_two some w f)
  answers_one some y z (says.from-released f) (says.from-released g) = refl

  pub range-decides : OneOnly (RangeSays overlay released os ss first count)
  range-decides = all_one _ _ _ (Answers overlay released os ss first count) answers_one

  part-one : (image : List ℕ) → OneOnly (PartOf overlay released os ss first count image)
  part-one image p q f g = ext_get_or 0 p q (f.0 ∙ sym g.0) (λ k h. f.1 k (omega (arith, f.0)) ∙ sym (g.1 k (omega (arith, f.0))))

  hands-one : 0 < count → OneOnly (Hands overlay released os ss first count)
  hands-one some y z (says.from-overlay w p) (says.from-overlay v q) = part-one overlay y z p q
  hands-one some y z (says.from-overlay w p) (says.from-released f q) = absurd (one_of_two some w f)
  hands-one some y z (says.from-released f p) (says.from-overlay w q) = absurd (one_of_two some w f)
  hands-one some y z (says.from-released f p) (says.from-released g q) = part-one released y z p q

  pub bytes-decide : OneOnly (BytesSay overlay released os ss first count)
  bytes-decide = all_one _ _ _ (Hands overlay released os ss first count) hands-one

  -- ---- the contracts say them

  abbrev bit : ℕ → Bool
  bit = covered_bit os ss

  abbrev t : Trial
  t = trial overlay released os ss

  bad-range : inside (length overlay) (length released) first count ≡ false → BadRange overlay released os ss first count
  unfolding inside
  bad-range e = either (ltb 0 count)
      (λ a. either (leb (first + count) (length overlay))
      (λ b. says.past-released (leb-false (first + count) (length released) (rw (a, b) at e)))
      (λ b. says.past-overlay (leb-false (first + count) (length overlay) b)))
      (λ a. let z = ltb-false 0 count a in says.empty (omega arith))

  good-range : inside (length overlay) (length released) first count ≡ true → BadRange overlay released os ss first count → ⊥
  good-range e (says.empty z) = omega (arith, (inside-true (length overlay) (length released) first count e).some)
  good-range e (says.past-overlay h) = omega (arith, (inside-true (length overlay) (length released) first count e).overlaid)
  good-range e (says.past-released h) = omega (arith, (inside-true (length overlay) (length released) first count e).issued)

  pub whole : all_covered bit first count ≡ true → AllCovered overlay released os ss first count
  whole e b l u k m v = is-covered overlay released os ss k (byte-holds bit b (all-holds bit first count e b l u) k (omega arith) (omega arith))

  pub free : in_order 0 os ss ≡ true → none_covered bit first count ≡ true → NoneCovered overlay released os ss first count
  free o e k r c = clash (covered-is overlay released os ss o k c) (none-holds bit first count e k r.0 r.1)

  pub some-free : in_order 0 os ss ≡ true → all_covered bit first count ≡ false
      → (l : ℕ) × InRange overlay released os ss first count l × (Covered overlay released os ss l → ⊥)
  unfolding all_covered covered_byte
  some-free o e =
      let a = some-fails count (λ i. covered_byte bit (first + i)) e in
      let b = some-fails 8 (λ i. bit (8 * (first + a.0) + i)) a.2 in (
        8 * (first + a.0) + b.0,
        (omega (arith, a.1, b.1), omega (arith, a.1, b.1)),
        λ c.
            clash (covered-is overlay released os ss o (8 * (first + a.0) + b.0) c) b.2,
      )

  pub some-covered : none_covered bit first count ≡ false → (k : ℕ) × InRange overlay released os ss first count k × Covered overlay released os ss k
  unfolding none_covered
  some-covered e =
      let a = some-fails (8 * count) (λ i. not (bit (8 * first + i))) e in (
        8 * first + a.0,
        (omega (arith, a.1), omega (arith, a.1)),
        is-covered overlay released os ss (8 * first + a.0)
            (either (bit (8 * first + a.0)) (λ y. y) (λ n. absurd (clash refl (rw n at a.2)))),
      )

  whole-not-partly : AllCovered overlay released os ss first count → Partly overlay released os ss first count → ⊥
  whole-not-partly w p =
      let l = p.1.0 in
      let r = p.1.1 in
      p.1.2 (w (l / 8) (omega (arith, r.0, r.1)) (omega (arith, r.0, r.1)) l (omega arith) (omega arith))

  free-not-partly : NoneCovered overlay released os ss first count → Partly overlay released os ss first count → ⊥
  free-not-partly f p = f p.0.0 p.0.1 p.0.2

  answered : (o i a n : Bool) → in_order 0 os ss ≡ o → inside (length overlay) (length released) first count ≡ i → all_covered bit first count ≡ a
      → none_covered bit first count ≡ n → RangeSays overlay released os ss first count
      (overlay_by first count (pick o (pick i (pick a (Ok Overlay) (pick n (Ok Released) (Err PartlyCovered))) (Err BadPart)) (Err (Malformed 0))))
  answered false i a n e f g h = refused tt (bad-blocks overlay released os ss e)
  answered true false a n e f g h = passed (λ _. no-bad-blocks overlay released os ss e) (refused tt (bad-range f))
  answered true true true n e f g h = passed (λ _. no-bad-blocks overlay released os ss e) (passed (λ _. good-range f)
      (passed (λ _. whole-not-partly (whole g)) (says.from-overlay (whole g))))
  answered true true false true e f g h = passed (λ _. no-bad-blocks overlay released os ss e) (passed (λ _. good-range f)
      (passed (λ _. free-not-partly (free e h)) (says.from-released (free e h))))
  answered true true false false e f g h = passed (λ _. no-bad-blocks overlay released os ss e) (passed (λ _. good-range f)
      (refused tt (some-covered h, some-free e g)))

  pub range-meets : (r : DkOverlay) → RangeTold t first count r → RangeSays overlay released os ss first count r
  unfolding source_of
  range-meets r c = rw c.answer (answered (in_order 0 os ss) (inside (length overlay) (length released) first count) (all_covered bit first count)
      (none_covered bit first count) refl refl refl refl)

  part_of : (image : List ℕ) → first + count ≤ length image → PartOf overlay released os ss first count image (take count (drop first image))
  part_of image h = (rw (length-take, length-drop) (min-eq_left (omega arith)), λ k l. rw (get_or-take, get_or-drop))

  handed : (o i a n : Bool) → in_order 0 os ss ≡ o → inside (length overlay) (length released) first count ≡ i → all_covered bit first count ≡ a
      → none_covered bit first count ≡ n → BytesSay overlay released os ss first count
      (bytes_of t first count (pick o (pick i (pick a (Ok Overlay) (pick n (Ok Released) (Err PartlyCovered))) (Err BadPart)) (Err (Malformed 0))))
  handed false i a n e f g h = refused tt (bad-blocks overlay released os ss e)
  handed true false a n e f g h = passed (λ _. no-bad-blocks overlay released os ss e) (refused tt (bad-range f))
  handed true true true n e f g h = passed (λ _. no-bad-blocks overlay released os ss e) (passed (λ _. good-range f) (passed
      (λ _. whole-not-partly (whole g))
      (says.from-overlay (whole g) (part_of overlay (inside-true (length overlay) (length released) first count f).overlaid))))
  handed true true false true e f g h = passed (λ _. no-bad-blocks overlay released os ss e) (passed (λ _. good-range f) (passed
      (λ _. free-not-partly (free e h))
      (says.from-released (free e h) (part_of released (inside-true (length overlay) (length released) first count f).issued))))
  handed true true false false e f g h = passed (λ _. no-bad-blocks overlay released os ss e) (passed (λ _. good-range f)
      (refused tt (some-covered h, some-free e g)))

  pub bytes-meet : (part : List ℕ) → Picks t first count part → BytesSay overlay released os ss first count part
  unfolding source_of
  bytes-meet part c = rw c.bytes (handed (in_order 0 os ss) (inside (length overlay) (length released) first count) (all_covered bit first count)
      (none_covered bit first count) refl refl refl refl)
