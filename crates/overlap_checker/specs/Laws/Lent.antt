-- Laws that proofs about Lent need.
use Rattle.std.specs.Prelude.{List, length}
use Rattle.overlap_checker.specs.declared.Entry.{Entry}
use Rattle.overlap_checker.specs.Lent.{Spans, laid, lengths, spans, starts}

-- the two arrays with intervals laid into them
abbrev pub laid_spans : Spans → List Entry → Spans
laid_spans a l = spans (laid (starts l) a.positions) (laid (lengths l) a.sizes) (length l)
