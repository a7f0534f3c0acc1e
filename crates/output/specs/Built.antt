-- A build that is done: pass K, the image's length in bits and the count of spans.
use Rattle.std.specs.Prelude.{ℕ, Result, Ok, Err}
use Rattle.prelude.specs.declared.Refusal.{Refusal}
use Rattle.output.specs.declared.Built.{Built}

abbrev pub done_with : ℕ → ℕ → ℕ → Result Built Refusal
done_with k bits spans = Ok (record { k = k; length = bits; spans = spans })

-- Its figures; of a refused one they are zeros. By these two equal builds have equal figures.
abbrev pub length_done : Result Built Refusal → ℕ
length_done (Ok ended) = ended.length
length_done (Err why) = 0

abbrev pub spans_done : Result Built Refusal → ℕ
spans_done (Ok ended) = ended.spans
spans_done (Err why) = 0
