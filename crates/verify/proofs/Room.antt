-- Whether there is room for the runs, and what is written.
use Rattle.std.specs.Prelude.{Ok}
use mathlib.Core.Path.{◌≡◌, ◌∙◌}
use mathlib.Core.List.{List, []}
use Prim.Native.Nat.{ℕ, ◌≤◌}
use native.Mathlib.Nat.{zero-add}
use borrow.Author.Tests.{le-leb}
use lib.ListN.{length, length-map}
use Rattle.blocks.specs.Laws.Room.{sets_over}
use Rattle.verify.specs.Runs.{Run}
use Rattle.verify.specs.Put.{firsts, counts, kinds, Put}
use Rattle.verify.specs.List.{Written}

-- A walk that is lent no room counts the runs; where there is room for all of them in each column, a second walk writes them.
pub enough : (runs : List Run) (fs cs ks : List ℕ) {count r : ℕ} {fs₁ cs₁ ks₁ fs₂ cs₂ ks₂ fs₃ cs₃ ks₃ : List ℕ}
    → Put runs 0 [] [] [] count fs₁ cs₁ ks₁ → count ≤ length fs → count ≤ length cs → count ≤ length ks
    → Put runs 0 fs cs ks r fs₂ cs₂ ks₂ → fs₃ ≡ fs₂ → cs₃ ≡ cs₂ → ks₃ ≡ ks₂ → Written runs fs cs ks (Ok count) fs₃ cs₃ ks₃
enough runs fs cs ks {count} counted h i k p u v w =
    let all : count ≡ length runs = counted.counted ∙ zero-add (length runs) in
    let first : length runs ≤ length fs = rw all at h in
    let second : length runs ≤ length cs = rw all at i in
    let third : length runs ≤ length ks = rw all at k in
    let e = le-leb (length runs) (length fs) first in
    let f = le-leb (length runs) (length cs) second in
    let g = le-leb (length runs) (length ks) third in
    record {
      answer = rw (e, f, g, all);
      first = u ∙ p.first ∙ rw (e, f, g) (sets_over fs (firsts runs) (rw length-map first));
      second = v ∙ p.second ∙ rw (e, f, g) (sets_over cs (counts runs) (rw length-map second));
      third = w ∙ p.third ∙ rw (e, f, g) (sets_over ks (kinds runs) (rw length-map third));
    }
