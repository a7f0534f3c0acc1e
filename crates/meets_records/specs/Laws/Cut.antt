-- The cut of blocks into records, by the definitions and by the sentences.
use Rattle.std.specs.Prelude.{◌≡◌}
use Rattle.std.proofs.Math.Path.{refl, ap, subst}
use Rattle.std.proofs.Common.{sym, ◌∙◌, length-take, length-drop, take-take, drop-drop}
use mathlib.Core.List.{List, [], ◌∷◌}
use Prim.Native.Nat.{ℕ, zero, suc, ◌+◌, ◌-◌, ◌≤◌, ◌<◌, ◌/◌}
use native.Mathlib.Omega.{arith}
use Rattle.std.proofs.Math.ListN.{length, take, drop}
use Rattle.record_lines.specs.Pieces.{Piece, piece}
use Rattle.record_write.specs.Cut.{piece_length, cut_in, cut, blocks_in, pieces_of}
use Rattle.record_write.specs.Theorems.Cut.{cut-first}
use Rattle.record_write.specs.Exactly.{AllParts}
use Rattle.says.specs.Write as w
use Rattle.says.specs.Write.{Given, Cut, Cuts}

take-nil : (n : ℕ) → ◌≡◌ {A = List ℕ} (take n []) []
take-nil zero = refl
take-nil (suc n) = refl

drop-take : (n m : ℕ) (l : List ℕ) → drop n (take m l) ≡ take (m - n) (drop n l)
drop-take zero m l = let e : m ≡ m - 0 = omega arith in ap (λ (k : ℕ). take k l) e
drop-take (suc n) zero l = let e : 0 ≡ 0 - suc n = omega arith in ap (λ (k : ℕ). take k (drop (suc n) l)) e
drop-take (suc n) (suc m) [] = sym (take-nil (suc m - suc n))
drop-take (suc n) (suc m) (x ∷ l) = let e : m - n ≡ suc m - suc n = omega arith in drop-take n m l ∙ ap (λ (k : ℕ). take k (drop n l)) e

module _ (g : Given) where
  abbrev bytes_from : ℕ → ℕ → List ℕ
  bytes_from m at = take m (drop at g.image)

  long : (m at : ℕ) → at + m ≤ length g.image → length (bytes_from m at) ≡ m
  long m at h = length-take m (drop at g.image) ∙ omega (arith, length-drop at g.image)

  cut-meets : (turns m at : ℕ) → m ≤ turns → at + m ≤ length g.image → Cut g at (at + m) (cut (g.load + at) (bytes_from m at))
  unfolding cut_in
  cut-meets zero zero at h k = let e : at ≡ at + 0 = omega arith in w.done e
  cut-meets zero (suc m) at h k = absurd (omega arith)
  cut-meets (suc turns) zero at h k = let e : at ≡ at + 0 = omega arith in w.done e
  cut-meets (suc turns) (suc m) at h k =
      let l = bytes_from (suc m) at in
      let whole : length l ≡ suc m = long (suc m) at k in
      let n = piece_length (g.load + at) (length l) in
      let le : n ≤ suc m = omega arith in
      let more : 0 < n = omega arith in
      let left : drop n l ≡ bytes_from (suc m - n) (at + n) =
      drop-take n (suc m) (drop at g.image) ∙ ap (λ (x : List ℕ). take (suc m - n) x) (drop-drop n at g.image) in
      let next = cut-meets turns (suc m - n) (at + n) (omega arith) (omega arith) in
      let end : at + n + (suc m - n) ≡ at + suc m = omega arith in
      let start : g.load + (at + n) ≡ g.load + at + n = omega arith in
      let there : Cut g (at + n) (at + suc m) (cut (g.load + at + n) (drop n l)) =
      subst (λ (x : List ℕ). Cut g (at + n) (at + suc m) (cut (g.load + at + n) x)) (sym left)
      (subst (λ (a : ℕ). Cut g (at + n) (at + suc m) (cut a (bytes_from (suc m - n) (at + n)))) start
      (subst (λ (e : ℕ). Cut g (at + n) e (cut (g.load + (at + n)) (bytes_from (suc m - n) (at + n)))) end next)) in
      subst (λ (x : List Piece). Cut g at (at + suc m) x) (sym (cut-first (g.load + at) l (omega arith)))
      (w.next {n = n} {p = piece (g.load + at) (take n l)} (omega arith) (omega arith, omega arith, omega arith)
      (λ m' a. omega (arith, a.0, a.1, a.2)) refl
      (take-take n (suc m) (drop at g.image) le) there)

  pub cuts-meets : (os ss : List ℕ) → length os ≡ length ss → AllParts (length g.image) os ss
      → Cuts g os ss (pieces_of g.load g.image (blocks_in os ss))
  unfolding blocks_in pieces_of
  cuts-meets [] [] e h = w.none
  cuts-meets [] (s ∷ ss) e h = absurd (omega arith)
  cuts-meets (o ∷ os) [] e h = absurd (omega arith)
  cuts-meets (o ∷ os) (s ∷ ss) e h =
      let part = h 0 (omega arith) (omega arith) in
      let inside : o / 8 + s / 8 ≤ length g.image = omega (arith, part.inside) in
      let end : o / 8 + s / 8 ≡ (o + s) / 8 = omega (arith, part.starts) in
      w.block (subst (λ (x : ℕ). Cut g (o / 8) x (cut (g.load + o / 8) (bytes_from (s / 8) (o / 8)))) end
      (cut-meets (s / 8) (s / 8) (o / 8) (omega arith) inside))
      (cuts-meets os ss (omega arith) (λ k a b. h (suc k) (omega arith) (omega arith)))
