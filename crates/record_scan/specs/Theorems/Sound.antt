-- Theorems about what Sound defines.
use Rattle.std.specs.Prelude.{◌≡◌, List, [], ℕ}
use Rattle.record_lines.specs.Lines.{lines_of}
use Rattle.record_lines.specs.Pieces.{Piece}
use Rattle.record_scan.specs.Reading.{format_by, sound, read_text}
use Rattle.record_scan.specs.Laws.Sound.{fine-from}
use Rattle.record_scan.specs.Sound.{Fine, none}

pub sound-pieces-fine : (format load : ℕ) (text : List ℕ) (l : List Piece) → read_text format load text ≡ sound l → Fine load l
sound-pieces-fine format load text l r = fine-from (format_by format) load l (lines_of text) 0 [] none r
