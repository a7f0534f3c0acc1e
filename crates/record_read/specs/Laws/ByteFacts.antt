-- Laws that Theorems/ByteFacts rests on.
use Rattle.std.specs.Prelude.{◌≡◌, refl, true, false, ◌||◌, List, [], ◌∷◌, ℕ, ◌≤◌, ◌<◌}
use Rattle.std.proofs.Common.{arith}
use borrow.Author.Tests.{leb-true}
use lib.Dec.{leb}
use Rattle.prelude.specs.Laws.Bools.{either, both}
use Rattle.record_lines.specs.Pieces.{Piece, end_of}
use Rattle.record_scan.specs.Reading.{is_new}
use Rattle.record_read.specs.Given.{holds, given}

-- What is new is not among what is given.
pub new-outside : (l : List Piece) (first end a : ℕ) → is_new l first end ≡ true → first ≤ a → a < end → given l a ≡ false
unfolding is_new given
new-outside [] first end a e h k = refl
new-outside (p ∷ l) first end a e h k =
    let t = both (leb (end_of p) first || leb end p.address) (is_new l first end) e in
    either (holds p a)
    (λ held.
    let u = both (leb p.address a) (lib.Dec.ltb a (end_of p)) held in
    let low = leb-true p.address a u.0 in
    let high = borrow.Author.Tests.ltb-true a (end_of p) u.1 in
    absurd (either (leb (end_of p) first)
    (λ q. let z = leb-true (end_of p) first q in omega arith)
    (λ q. let z = leb-true end p.address (rw q at t.0) in omega arith)))
    (λ free. rw free (new-outside l first end a t.1 h k))
