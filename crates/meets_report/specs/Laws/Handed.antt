-- A text of which something is said, at the front of a buffer: put there by a function that found room, and handed on.
use Rattle.std.specs.Prelude.{◌≡◌, List, ℕ, min, length, take, drop}
use Rattle.std.proofs.Common.{sym, ap, subst, ◌∙◌, arith, take_at}
use Rattle.prog_args.specs.Text.{Stands}
use Rattle.prog_args.specs.Laws.Text.{stands-long}
use Rattle.says.specs.Lines.{Shows}

module _ (Says : List ℕ → Type 0) where
  pub stands-shows : {text old new : List ℕ} {n : ℕ} → Stands text old n new → Says text → Shows Says n new
  stands-shows {text} {old} {new} {n} s x =
      let front : take n new ≡ text = ap (take n) s.buffer ∙ take_at text (drop (length text) old) n (sym s.counted) in
      record { within = omega (arith, s.counted, s.fits, stands-long s); says = subst Says (sym front) x }

  pub handed-on : {buffer : List ℕ} {n : ℕ} → Shows Says n buffer → (m : ℕ) → m ≡ min n (length buffer) → Shows Says m buffer
  handed-on {buffer} {n} s m e =
      let same : n ≡ m = omega (arith, e, s.within) in
      subst (λ (k : ℕ). Shows Says k buffer) same s
