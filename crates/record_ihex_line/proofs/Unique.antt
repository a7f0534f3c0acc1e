-- Uniqueness: the contract of each public function has one outcome, over its own clause. `Learnt` is what the check reads off a function's `ensures`.
use mathlib.Core.Bool.{true}
use mathlib.Core.Path.{◌≡◌}
use Rattle.prelude.specs.Laws.Outcome.{OneOutcome}
use Rattle.prelude.specs.Laws.Pick.{determined}
use Rattle.record_lines.specs.Spelling.{Spells}
use Rattle.record_ihex_line.specs.Format.{good_line}
use Rattle.record_ihex_line.proofs.known_line.Kinds as known-line-kinds
use Rattle.record_ihex_line.proofs.known_line.Reads as known-line-reads
use Rattle.record_ihex_line.proofs.line_of.Kinds as line-of-kinds
use Rattle.record_ihex_line.proofs.line_of.Reads as line-of-reads

-- by a table that spells the digits, and of a line that is good
pub known-line-unique : OneOutcome 2 known-line-kinds.ps known-line-kinds.r
    (λ κs a x e. Spells a.1.0.now × (good_line a.0.now ≡ true) × known-line-reads.Learnt κs a x e)
known-line-unique κs a x y e f p q = determined (p.2 p.0 p.1).answer (q.2 q.0 q.1).answer

-- by a table that spells the digits
pub line-of-unique : OneOutcome 2 line-of-kinds.ps line-of-kinds.r (λ κs a x e. Spells a.1.0.now × line-of-reads.Learnt κs a x e)
line-of-unique κs a x y e f p q = determined (p.1 p.0).answer (q.1 q.0).answer
