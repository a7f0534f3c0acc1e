-- Text in a lent buffer: where it ends, and what stands in the buffer afterwards. Document 01: "Each refusal .. changes nothing lent."
use Rattle.std.specs.Prelude.{◌≡◌, List, ◌++◌, ℕ, ◌+◌, leb, length, take, drop, Option, Some, None}
use Rattle.std.proofs.lemmas.List.Edits.{sets}
use Rattle.prelude.specs.Pick.{pick}

-- Where text of `len` bytes that starts at `at` ends, in a buffer of `size` bytes; or that it does not fit.
abbrev pub end_of : ℕ → ℕ → ℕ → Option ℕ
end_of size at len = pick (leb (at + len) size) (Some (at + len)) None

-- The buffer with text in it from `at` on: what stood before it and behind it is as it was.
abbrev pub with_text : List ℕ → ℕ → List ℕ → List ℕ
with_text old at text = take at old ++ text ++ drop (at + length text) old

-- The buffer afterwards: text that does not fit changes nothing.
abbrev pub buffer_after : List ℕ → ℕ → List ℕ → List ℕ
buffer_after old at text = pick (leb (at + length text) (length old)) (with_text old at text) old

-- What a step promises that writes text which is known to fit: where it ends, and the buffer, byte after byte.
pub record Writes (text old : List ℕ) (at end : ℕ) (new : List ℕ) : Type 0 where
  pub place : end ≡ at + length text
  pub buffer : new ≡ sets old at text

-- What each function that writes promises, of the text that it is to write: its answer, and every byte of the buffer.
pub record Puts (text old : List ℕ) (at : ℕ) (answer : Option ℕ) (new : List ℕ) : Type 0 where
  pub place : answer ≡ end_of (length old) at (length text)
  pub buffer : new ≡ buffer_after old at text
