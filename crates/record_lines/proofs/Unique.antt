-- Uniqueness: the contract of each public function has one outcome, over its own clause. `Learnt` is what the check reads off a function's `ensures`.
use Rattle.std.proofs.Common.{◌≡◌, ℕ, ◌<◌, get_or, ap₂}
use borrow.Fn.Kinds.{Dens, res_t, ended_of}
use contract.Lifetimes.{Lfts}
use denote.Triple.Clauses.{AtExit}
use Rattle.prelude.specs.Laws.Outcome.{OneOutcome}
use Rattle.prelude.specs.Laws.Pick.{determined}
use Rattle.record_lines.specs.Spelling.{Spells}
use Rattle.record_lines.proofs.least.Kinds as least-kinds
use Rattle.record_lines.proofs.least.Reads as least-reads
use Rattle.record_lines.proofs.plain.Kinds as plain-kinds
use Rattle.record_lines.proofs.plain.Reads as plain-reads
use Rattle.record_lines.proofs.char_at.Kinds as char-at-kinds
use Rattle.record_lines.proofs.char_at.Reads as char-at-reads
use Rattle.record_lines.proofs.digit_table.Kinds as digit-table-kinds
use Rattle.record_lines.proofs.digit_table.Reads as digit-table-reads
use Rattle.record_lines.proofs.pair.Kinds as pair-kinds
use Rattle.record_lines.proofs.pair.Reads as Pair-reads
use Rattle.record_lines.proofs.byte_at.Kinds as byte-at-kinds
use Rattle.record_lines.proofs.byte_at.Reads as byte-at-reads
use Rattle.record_lines.proofs.all_digits.Kinds as all-digits-kinds
use Rattle.record_lines.proofs.all_digits.Reads as all-digits-reads
use Rattle.record_lines.proofs.sum_pairs.Kinds as sum-pairs-kinds
use Rattle.record_lines.proofs.sum_pairs.Reads as sum-pairs-reads
use Rattle.record_lines.proofs.pair_of.Kinds as pair-of-kinds
use Rattle.record_lines.proofs.pair_of.Reads as pair-of-reads
use Rattle.record_lines.proofs.sum_checked.Kinds as sum-checked-kinds
use Rattle.record_lines.proofs.sum_checked.Reads as sum-checked-reads
use Rattle.record_lines.proofs.end_at.Kinds as end-at-kinds
use Rattle.record_lines.proofs.end_at.Reads as end-at-reads
use Rattle.record_lines.proofs.line_from.Kinds as line-from-kinds
use Rattle.record_lines.proofs.line_from.Reads as line-from-reads

pub plain-unique : OneOutcome 0 plain-kinds.ps plain-kinds.r plain-reads.Learnt
plain-unique κs a x y e f p q = determined p q

pub char-at-unique : OneOutcome 1 char-at-kinds.ps char-at-kinds.r char-at-reads.Learnt
char-at-unique κs a x y e f p q = determined p q

-- by a table that spells the digits
pub pair-of-unique : OneOutcome 1 pair-of-kinds.ps pair-of-kinds.r (λ κs a x e. Spells a.0.now × pair-of-reads.Learnt κs a x e)
pair-of-unique κs a x y e f p q = determined (p.1 p.0) (q.1 q.0)

pub pair-unique : OneOutcome 2 pair-kinds.ps pair-kinds.r (λ κs a x e. Spells a.1.0.now × Pair-reads.Learnt κs a x e)
pair-unique κs a x y e f p q = determined (p.1 p.0) (q.1 q.0)

pub byte-at-unique : OneOutcome 1 byte-at-kinds.ps byte-at-kinds.r byte-at-reads.Learnt
byte-at-unique κs a x y e f p q = determined p q

pub all-digits-unique : OneOutcome 1 all-digits-kinds.ps all-digits-kinds.r all-digits-reads.Learnt
all-digits-unique κs a x y e f p q = determined p q

pub sum-pairs-unique : OneOutcome 1 sum-pairs-kinds.ps sum-pairs-kinds.r sum-pairs-reads.Learnt
sum-pairs-unique κs a x y e f p q = determined p q

pub sum-checked-unique : OneOutcome 2 sum-checked-kinds.ps sum-checked-kinds.r (λ κs a x e. Spells a.1.0.now × sum-checked-reads.Learnt κs a x e)
sum-checked-unique κs a x y e f p q = determined (p.1 p.0) (q.1 q.0)

pub end-at-unique : OneOutcome 1 end-at-kinds.ps end-at-kinds.r end-at-reads.Learnt
end-at-unique κs a x y e f p q = determined p q

-- the table's 256 entries
pub digit-table-unique : (κs : Lfts 0) (a : Dens κs digit-table-kinds.ps) (x y : (res_t digit-table-kinds.r κs).Denot)
    (e f : AtExit (ended_of 0 digit-table-kinds.ps digit-table-kinds.r) κs) → digit-table-reads.Learnt κs a x e → digit-table-reads.Learnt κs a y f
    → (c : ℕ) → c < 256 → get_or x c 0 ≡ get_or y c 0
digit-table-unique κs a x y e f p q c h = determined (p c h) (q c h)

-- where the line ends, and where the next one begins
pub line-from-unique : OneOutcome 1 line-from-kinds.ps line-from-kinds.r line-from-reads.Learnt
line-from-unique κs a x y e f p q =
    ap₂ (λ (stop next : ℕ). record { stop = stop; next = next }) (determined p.stop q.stop) (determined p.next q.next)

pub least-unique : OneOutcome 0 least-kinds.ps least-kinds.r least-reads.Learnt
least-unique κs a x y e f p q = determined p q
