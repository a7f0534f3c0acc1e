-- Uniqueness: each public function's own contract has one outcome. `Learnt` is what the check reads off a function's `ensures` for its
-- callers, so that a looser clause breaks its line here.
pub use Rattle.prelude.specs.Laws.Outcome.{OneOutcome}
use Rattle.prelude.specs.Laws.Pick.{determined}
use Rattle.iter.proofs.alignment.bits_until_alignment.Kinds as bits-until-alignment-kinds
use Rattle.iter.proofs.alignment.bits_until_alignment.Reads as bits-until-alignment-reads
use Rattle.iter.proofs.alignment.is_tellable.Kinds as is-tellable-kinds
use Rattle.iter.proofs.alignment.is_tellable.Reads as is-tellable-reads
use Rattle.iter.proofs.places.get_address.Kinds as get-address-kinds
use Rattle.iter.proofs.places.get_address.Reads as get-address-reads
use Rattle.iter.proofs.places.get_output_position.Kinds as get-output-position-kinds
use Rattle.iter.proofs.places.get_output_position.Reads as get-output-position-reads
use Rattle.iter.proofs.places.on_boundary.Kinds as on-boundary-kinds
use Rattle.iter.proofs.places.on_boundary.Reads as on-boundary-reads
use Rattle.iter.proofs.steps.bank_after.Kinds as bank-after-kinds
use Rattle.iter.proofs.steps.bank_after.Reads as bank-after-reads
use Rattle.iter.proofs.paces.is_bad_state.Kinds as is-bad-state-kinds
use Rattle.iter.proofs.paces.is_bad_state.Reads as is-bad-state-reads
use Rattle.iter.proofs.paces.stays_known.Kinds as stays-known-kinds
use Rattle.iter.proofs.paces.stays_known.Reads as stays-known-reads
use Rattle.iter.proofs.paces.pace_of_parts.Kinds as pace-of-parts-kinds
use Rattle.iter.proofs.paces.pace_of_parts.Reads as pace-of-parts-reads
use Rattle.iter.proofs.paces.pace.Kinds as pace-kinds
use Rattle.iter.proofs.paces.pace.Reads as pace-reads
use Rattle.iter.proofs.paces.sight_of.Kinds as sight-of-kinds
use Rattle.iter.proofs.paces.sight_of.Reads as sight-of-reads
use Rattle.iter.proofs.paces.why_refused.Kinds as why-refused-kinds
use Rattle.iter.proofs.paces.why_refused.Reads as why-refused-reads
use Rattle.iter.proofs.steps.lost_after.Kinds as lost-after-kinds
use Rattle.iter.proofs.steps.lost_after.Reads as lost-after-reads
use Rattle.iter.proofs.steps.start.Kinds as start-kinds
use Rattle.iter.proofs.steps.start.Reads as start-reads

pub bits-until-alignment-unique : OneOutcome 0 bits-until-alignment-kinds.ps bits-until-alignment-kinds.r bits-until-alignment-reads.Learnt
bits-until-alignment-unique κs a x y e f p q = determined p.0 q.0

pub is-tellable-unique : OneOutcome 0 is-tellable-kinds.ps is-tellable-kinds.r is-tellable-reads.Learnt
is-tellable-unique κs a x y e f p q = determined p q

pub get-address-unique : OneOutcome 0 get-address-kinds.ps get-address-kinds.r get-address-reads.Learnt
get-address-unique κs a x y e f p q = determined p.0 q.0

pub get-output-position-unique : OneOutcome 0 get-output-position-kinds.ps get-output-position-kinds.r get-output-position-reads.Learnt
get-output-position-unique κs a x y e f p q = determined p.0 q.0

pub on-boundary-unique : OneOutcome 0 on-boundary-kinds.ps on-boundary-kinds.r on-boundary-reads.Learnt
on-boundary-unique κs a x y e f p q = determined p q

pub bank-after-unique : OneOutcome 0 bank-after-kinds.ps bank-after-kinds.r bank-after-reads.Learnt
bank-after-unique κs a x y e f p q = determined p q

pub pace-unique : OneOutcome 0 pace-kinds.ps pace-kinds.r pace-reads.Learnt
pace-unique κs a x y e f p q = determined p.0 q.0

pub sight-of-unique : OneOutcome 0 sight-of-kinds.ps sight-of-kinds.r sight-of-reads.Learnt
sight-of-unique κs a x y e f p q = determined p q

pub why-refused-unique : OneOutcome 0 why-refused-kinds.ps why-refused-kinds.r why-refused-reads.Learnt
why-refused-unique κs a x y e f p q = determined p q

pub lost-after-unique : OneOutcome 0 lost-after-kinds.ps lost-after-kinds.r lost-after-reads.Learnt
lost-after-unique κs a x y e f p q = determined p q

pub start-unique : OneOutcome 0 start-kinds.ps start-kinds.r start-reads.Learnt
start-unique κs a x y e f p q = determined p q

pub is-bad-state-unique : OneOutcome 0 is-bad-state-kinds.ps is-bad-state-kinds.r is-bad-state-reads.Learnt
is-bad-state-unique κs a x y e f p q = determined p q

pub stays-known-unique : OneOutcome 0 stays-known-kinds.ps stays-known-kinds.r stays-known-reads.Learnt
stays-known-unique κs a x y e f p q = determined p q

pub pace-of-parts-unique : OneOutcome 0 pace-of-parts-kinds.ps pace-of-parts-kinds.r pace-of-parts-reads.Learnt
pace-of-parts-unique κs a x y e f p q = determined p.0 q.0
