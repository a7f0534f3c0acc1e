-- Uniqueness: the contract of each public function has one outcome, over its own clause.
use Rattle.prelude.specs.Laws.Outcome.{OneOutcome}
use Rattle.prelude.specs.Laws.Pick.{determined}
use Rattle.c_answers.proofs.first_of.Kinds as first-of-kinds
use Rattle.c_answers.proofs.first_of.Reads as first-of-reads
use Rattle.c_answers.proofs.second_of.Kinds as second-of-kinds
use Rattle.c_answers.proofs.second_of.Reads as second-of-reads
use Rattle.c_answers.proofs.layouts.tell_layout.Kinds as layout-kinds
use Rattle.c_answers.proofs.layouts.tell_layout.Reads as layout-reads
use Rattle.c_answers.proofs.layouts.tell_paged.Kinds as paged-kinds
use Rattle.c_answers.proofs.layouts.tell_paged.Reads as paged-reads
use Rattle.c_answers.proofs.maps.tell_map.Kinds as map-kinds
use Rattle.c_answers.proofs.maps.tell_map.Reads as map-reads
use Rattle.c_answers.proofs.counts.tell_refusal.Kinds as refusal-kinds
use Rattle.c_answers.proofs.counts.tell_refusal.Reads as refusal-reads
use Rattle.c_answers.proofs.counts.tell_blocks.Kinds as blocks-kinds
use Rattle.c_answers.proofs.counts.tell_blocks.Reads as blocks-reads
use Rattle.c_answers.proofs.counts.tell_hex.Kinds as hex-kinds
use Rattle.c_answers.proofs.counts.tell_hex.Reads as hex-reads
use Rattle.c_answers.proofs.counts.tell_written.Kinds as written-kinds
use Rattle.c_answers.proofs.counts.tell_written.Reads as written-reads
use Rattle.c_answers.proofs.counts.tell_conversion.Kinds as conversion-kinds
use Rattle.c_answers.proofs.counts.tell_conversion.Reads as conversion-reads
use Rattle.c_answers.proofs.counts.tell_listed.Kinds as listed-kinds
use Rattle.c_answers.proofs.counts.tell_listed.Reads as listed-reads
use Rattle.c_answers.proofs.parts.tell_part.Kinds as part-kinds
use Rattle.c_answers.proofs.parts.tell_part.Reads as part-reads
use Rattle.c_answers.proofs.parts.tell_source.Kinds as source-kinds
use Rattle.c_answers.proofs.parts.tell_source.Reads as source-reads
use Rattle.c_answers.proofs.parts.tell_extent.Kinds as extent-kinds
use Rattle.c_answers.proofs.parts.tell_extent.Reads as extent-reads
use Rattle.c_answers.proofs.parts.tell_fault.Kinds as fault-kinds
use Rattle.c_answers.proofs.parts.tell_fault.Reads as fault-reads
use Rattle.c_answers.proofs.parts.tell_reason.Kinds as reason-kinds
use Rattle.c_answers.proofs.parts.tell_reason.Reads as reason-reads
use Rattle.c_answers.proofs.offers.tell_offer.Kinds as offer-kinds
use Rattle.c_answers.proofs.offers.tell_offer.Reads as offer-reads
use Rattle.c_answers.proofs.offers.tell_offers.Kinds as offers-kinds
use Rattle.c_answers.proofs.offers.tell_offers.Reads as offers-reads

pub first-of-unique : OneOutcome 0 first-of-kinds.ps first-of-kinds.r first-of-reads.Learnt
first-of-unique κs a x y e f p q = determined p q

pub second-of-unique : OneOutcome 0 second-of-kinds.ps second-of-kinds.r second-of-reads.Learnt
second-of-unique κs a x y e f p q = determined p q

pub tell-layout-unique : OneOutcome 0 layout-kinds.ps layout-kinds.r layout-reads.Learnt
tell-layout-unique κs a x y e f p q = determined p q

pub tell-paged-unique : OneOutcome 0 paged-kinds.ps paged-kinds.r paged-reads.Learnt
tell-paged-unique κs a x y e f p q = determined p q

pub tell-map-unique : OneOutcome 0 map-kinds.ps map-kinds.r map-reads.Learnt
tell-map-unique κs a x y e f p q = determined p q

pub tell-refusal-unique : OneOutcome 0 refusal-kinds.ps refusal-kinds.r refusal-reads.Learnt
tell-refusal-unique κs a x y e f p q = determined p q

pub tell-blocks-unique : OneOutcome 0 blocks-kinds.ps blocks-kinds.r blocks-reads.Learnt
tell-blocks-unique κs a x y e f p q = determined p q

pub tell-hex-unique : OneOutcome 0 hex-kinds.ps hex-kinds.r hex-reads.Learnt
tell-hex-unique κs a x y e f p q = determined p q

pub tell-written-unique : OneOutcome 0 written-kinds.ps written-kinds.r written-reads.Learnt
tell-written-unique κs a x y e f p q = determined p q

pub tell-conversion-unique : OneOutcome 0 conversion-kinds.ps conversion-kinds.r conversion-reads.Learnt
tell-conversion-unique κs a x y e f p q = determined p q

pub tell-listed-unique : OneOutcome 0 listed-kinds.ps listed-kinds.r listed-reads.Learnt
tell-listed-unique κs a x y e f p q = determined p q

pub tell-part-unique : OneOutcome 0 part-kinds.ps part-kinds.r part-reads.Learnt
tell-part-unique κs a x y e f p q = determined p q

pub tell-source-unique : OneOutcome 0 source-kinds.ps source-kinds.r source-reads.Learnt
tell-source-unique κs a x y e f p q = determined p q

pub tell-extent-unique : OneOutcome 0 extent-kinds.ps extent-kinds.r extent-reads.Learnt
tell-extent-unique κs a x y e f p q = determined p q

pub tell-fault-unique : OneOutcome 0 fault-kinds.ps fault-kinds.r fault-reads.Learnt
tell-fault-unique κs a x y e f p q = determined p q

pub tell-reason-unique : OneOutcome 0 reason-kinds.ps reason-kinds.r reason-reads.Learnt
tell-reason-unique κs a x y e f p q = determined p q

pub tell-offer-unique : OneOutcome 0 offer-kinds.ps offer-kinds.r offer-reads.Learnt
tell-offer-unique κs a x y e f p q = determined p q

pub tell-offers-unique : OneOutcome 0 offers-kinds.ps offers-kinds.r offers-reads.Learnt
tell-offers-unique κs a x y e f p q = determined p q
