-- A part of a buffer that is a word now: the word was stored there byte by byte.
use Prim.Native.Nat.{ℕ, ◌+◌, ◌≤◌}
use mathlib.Core.Path.{◌≡◌, refl, sym, ap, ◌∙◌}
use mathlib.Core.List.{List, ◌++◌}
use lib.ListN.{length, take, drop}
use native.Mathlib.Omega.{arith}
use borrow.Rule.Slice.PartMut.{put_mid}
use Rattle.std.proofs.lemmas.List.Edits.{sets, sets-eq}
use Rattle.std.proofs.lemmas.Slice.{put_mid-paste}
use Rattle.std.proofs.lemmas.List.{take_all}

pub part-sets : (old word now : List ℕ) (at n : ℕ) → at + length word ≤ length old → now ≡ word → n ≡ length word
    → put_mid at n old now ≡ sets old at word
part-sets old word now at n room e long =
    put_mid-paste at n old now word (length word) e (omega arith) refl
    ∙ ap (λ (w : List ℕ). take at old ++ w ++ drop (at + length word) old) (take_all (length word) word (omega arith))
    ∙ sym (sets-eq word old at room)
