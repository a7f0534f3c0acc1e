-- What is promised of a cut: where the line that begins at a place ends, and where the next one begins.
use Rattle.std.specs.Prelude.{◌≡◌, ℕ, ◌+◌, ◌&&◌, List, [], ◌∷◌, length, drop}
use Rattle.prelude.specs.Pick.{pick}
use Rattle.record_lines.specs.Lines.{is_lf, is_cr, lf_next, first_line, taken}
use Rattle.record_lines.specs.declared.Cut.{Cut}

pub record CutIs (text : List ℕ) (at : ℕ) (r : Cut) : Type 0 where
  pub stop : r.stop ≡ at + length (first_line (drop at text))
  pub next : r.next ≡ at + taken (drop at text)

-- How many characters the end of a line takes at the front of a text: none where the text ends; 3 where no line ends there.
abbrev pub end_width : List ℕ → ℕ
end_width [] = 0
end_width (c ∷ t) = pick (is_lf c) 1 (pick (is_cr c && lf_next t) 2 3)
