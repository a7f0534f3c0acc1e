-- A span's offset as one word, the way in which spans are lent: the largest word stands for none.
use Rattle.std.specs.Prelude.{◌≡◌, ℕ, eqb, Option, None, Some}
use Rattle.prelude.specs.Pick.{pick}

abbrev pub no_offset : ℕ
no_offset = 18446744073709551615

abbrev pub offset_of : ℕ → Option ℕ
offset_of word = pick (eqb word no_offset) None (Some word)

abbrev pub word_of : Option ℕ → ℕ
word_of None = no_offset
word_of (Some o) = o

-- What the two functions promise of their answers.
abbrev pub OffsetIs : ℕ → Option ℕ → Type 0
OffsetIs word r = r ≡ offset_of word

abbrev pub WordIs : Option ℕ → ℕ → Type 0
WordIs offset r = r ≡ word_of offset
