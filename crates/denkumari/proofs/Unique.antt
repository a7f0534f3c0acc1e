-- Each exported function leaves one outcome, over its own clause: its sentence decides the answer and all that is lent. `Learnt` is what the check reads off a
-- function's `ensures` for its callers, so that a looser clause breaks its line here.
use mathlib.Core.Path.{ap}
use mathlib.Core.List.{List}
use Prim.Native.Nat.{ℕ}
use Rattle.prelude.specs.Laws.Outcome.{OneOutcome, OneView}
use Rattle.c_answers.specs.declared.DkCount.{DkCount}
use Rattle.c_answers.specs.declared.DkExtent.{DkExtent}
use Rattle.c_answers.specs.declared.DkFault.{DkFault}
use Rattle.c_answers.specs.declared.DkReason.{DkReason}
use Rattle.says.specs.Build as build
use Rattle.says.specs.Convert as convert
use Rattle.says.specs.Blocks as blocks
use Rattle.says.specs.Hex as hex
use Rattle.says.specs.Map as map
use Rattle.says.specs.Offers as offers
use Rattle.says.specs.Overlay as overlay
use Rattle.says.specs.Read as read
use Rattle.says.specs.Store as store
use Rattle.says.specs.Verify as its
use Rattle.says.specs.Write as write
use Rattle.meets_bits.specs.Theorems.Blocks.{dk-blocks-decides}
use Rattle.meets_bits.specs.Theorems.Hex.{hex-decides}
use Rattle.meets_bits.specs.Theorems.Part.{part-decides}
use Rattle.meets_convert.specs.Theorems.Decides.{to-form1-decides, to-form2-decides}
use Rattle.meets_form.specs.Theorems.FormDecides.{form-decides}
use Rattle.meets_form_paged.specs.Theorems.Decides.{form-paged-decides}
use Rattle.meets_map.specs.Theorems.Decides.{map-decides}
use Rattle.meets_overlay.specs.Theorems.Range.{range-decides}
use Rattle.meets_overlay.specs.Theorems.Runs.{runs-decide}
use Rattle.meets_profile.specs.Theorems.Decides.{paged-decides, profile-decides}
use Rattle.meets_reason.specs.Theorems.Decides.{dk-reason-decides}
use Rattle.meets_records.specs.Theorems.Extent.{extent-decides}
use Rattle.meets_records.specs.Theorems.FaultDecides.{fault-decides}
use Rattle.meets_records.specs.Theorems.ReadDecides.{read-decides}
use Rattle.meets_records.specs.Theorems.WriteDecides.{write-hex-decides, write-srec-decides}
use Rattle.meets_sentences.specs.Theorems.Decides.{build-decides}
use Rattle.meets_store.specs.Theorems.Decides.{offer-decides}
use Rattle.meets_store.specs.Theorems.Offers.{offers-decide}
use Rattle.meets_verify.specs.Theorems.Verify.{verify-decides}
use Rattle.denkumari.proofs.builds.dk_build.Kinds as build-kinds
use Rattle.denkumari.proofs.builds.dk_build.Reads as build-reads
use Rattle.denkumari.proofs.profiles.dk_build_paged.Kinds as build-paged-kinds
use Rattle.denkumari.proofs.profiles.dk_build_paged.Reads as build-paged-reads
use Rattle.denkumari.proofs.maps.dk_map.Kinds as map-kinds
use Rattle.denkumari.proofs.maps.dk_map.Reads as map-reads
use Rattle.denkumari.proofs.profiles.dk_profile.Kinds as profile-kinds
use Rattle.denkumari.proofs.profiles.dk_profile.Reads as profile-reads
use Rattle.denkumari.proofs.forms.dk_form.Kinds as form-kinds
use Rattle.denkumari.proofs.forms.dk_form.Reads as form-reads
use Rattle.denkumari.proofs.forms.dk_form_paged.Kinds as form-paged-kinds
use Rattle.denkumari.proofs.forms.dk_form_paged.Reads as form-paged-reads
use Rattle.denkumari.proofs.conversions.dk_to_form2.Kinds as to-form2-kinds
use Rattle.denkumari.proofs.conversions.dk_to_form2.Reads as to-form2-reads
use Rattle.denkumari.proofs.conversions.dk_to_form1.Kinds as to-form1-kinds
use Rattle.denkumari.proofs.conversions.dk_to_form1.Reads as to-form1-reads
use Rattle.denkumari.proofs.stores.dk_offer.Kinds as offer-kinds
use Rattle.denkumari.proofs.stores.dk_offer.Reads as offer-reads
use Rattle.denkumari.proofs.stores.dk_offers.Kinds as offers-kinds
use Rattle.denkumari.proofs.stores.dk_offers.Reads as offers-reads
use Rattle.denkumari.proofs.parts.dk_blocks.Kinds as blocks-kinds
use Rattle.denkumari.proofs.parts.dk_blocks.Reads as blocks-reads
use Rattle.denkumari.proofs.parts.dk_hex.Kinds as hex-kinds
use Rattle.denkumari.proofs.parts.dk_hex.Reads as hex-reads
use Rattle.denkumari.proofs.parts.dk_part.Kinds as part-kinds
use Rattle.denkumari.proofs.parts.dk_part.Reads as part-reads
use Rattle.denkumari.proofs.overlays.dk_overlay_range.Kinds as overlay-range-kinds
use Rattle.denkumari.proofs.overlays.dk_overlay_range.Reads as overlay-range-reads
use Rattle.denkumari.proofs.overlays.dk_overlay_runs.Kinds as overlay-runs-kinds
use Rattle.denkumari.proofs.overlays.dk_overlay_runs.Reads as overlay-runs-reads
use Rattle.denkumari.proofs.readbacks.dk_verify.Kinds as verify-kinds
use Rattle.denkumari.proofs.readbacks.dk_verify.Reads as verify-reads
use Rattle.denkumari.proofs.record_files.dk_write_hex.Kinds as write-hex-kinds
use Rattle.denkumari.proofs.record_files.dk_write_hex.Reads as write-hex-reads
use Rattle.denkumari.proofs.record_files.dk_write_srec.Kinds as write-srec-kinds
use Rattle.denkumari.proofs.record_files.dk_write_srec.Reads as write-srec-reads
use Rattle.denkumari.proofs.record_files.dk_read_records.Kinds as read-records-kinds
use Rattle.denkumari.proofs.record_files.dk_read_records.Reads as read-records-reads
use Rattle.denkumari.proofs.record_files.dk_record_extent.Kinds as record-extent-kinds
use Rattle.denkumari.proofs.record_files.dk_record_extent.Reads as record-extent-reads
use Rattle.denkumari.proofs.record_files.dk_record_fault.Kinds as record-fault-kinds
use Rattle.denkumari.proofs.record_files.dk_record_fault.Reads as record-fault-reads
use Rattle.denkumari.proofs.reasons.dk_record_reason.Kinds as record-reason-kinds
use Rattle.denkumari.proofs.reasons.dk_record_reason.Reads as record-reason-reads

pub dk-build-unique : OneView 16 build-kinds.ps build-kinds.r build-reads.Learnt build.Outcome (λ κs x e.
    let s = e.1.1.1.1.1.1.1.1.1.1.1.1.1.1.1.1 in
    record { answer = x; lent = record { image = s.0.now; addresses = s.1.0.now; offsets = s.1.1.0.now; sizes = s.1.1.1.0.now } })
dk-build-unique κs a x y e f p q = build-decides _ _ _ _ p q

pub dk-build-paged-unique : OneView 16 build-paged-kinds.ps build-paged-kinds.r build-paged-reads.Learnt build.Outcome (λ κs x e.
    let s = e.1.1.1.1.1.1.1.1.1.1.1.1.1.1.1.1.1 in
    record { answer = x; lent = record { image = s.0.now; addresses = s.1.0.now; offsets = s.1.1.0.now; sizes = s.1.1.1.0.now } })
dk-build-paged-unique κs a x y e f p q = paged-decides _ _ _ _ _ p q

pub dk-map-unique : OneView 16 map-kinds.ps map-kinds.r map-reads.Learnt map.Outcome (λ κs x e.
    let s = e.1.1.1.1.1.1.1.1.1.1.1.1.1.1.1.1 in
    record { answer = x; lent = record { banks = s.0.now; positions = s.1.0.now; outputs = s.1.1.0.now; sizes = s.1.1.1.0.now } })
dk-map-unique κs a x y e f p q = map-decides _ _ _ _ p q

pub dk-profile-unique : OneOutcome 12 profile-kinds.ps profile-kinds.r profile-reads.Learnt
dk-profile-unique κs a x y e f p q = profile-decides _ _ x y p q

pub dk-form-unique : OneView 5 form-kinds.ps form-kinds.r form-reads.Learnt build.Outcome (λ κs x e.
    let s = e.1.1 in
    record { answer = x; lent = record { image = s.0.now; addresses = s.1.0.now; offsets = s.1.1.0.now; sizes = s.1.1.1.0.now } })
dk-form-unique κs a x y e f p q = form-decides _ _ _ _ _ p q

pub dk-form-paged-unique : OneView 5 form-paged-kinds.ps form-paged-kinds.r form-paged-reads.Learnt build.Outcome (λ κs x e.
    let s = e.1.1.1 in
    record { answer = x; lent = record { image = s.0.now; addresses = s.1.0.now; offsets = s.1.1.0.now; sizes = s.1.1.1.0.now } })
dk-form-paged-unique κs a x y e f p q = form-paged-decides _ _ _ _ _ _ p q

pub dk-to-form2-unique : OneView 2 to-form2-kinds.ps to-form2-kinds.r to-form2-reads.Learnt convert.Outcome
    (λ κs x e. record { answer = x; out = e.1.0.now })
dk-to-form2-unique κs a x y e f p q = to-form2-decides _ _ _ _ p q

pub dk-to-form1-unique : OneView 2 to-form1-kinds.ps to-form1-kinds.r to-form1-reads.Learnt convert.Outcome
    (λ κs x e. record { answer = x; out = e.1.0.now })
dk-to-form1-unique κs a x y e f p q = to-form1-decides _ _ _ _ p q

pub dk-offer-unique : OneView 3 offer-kinds.ps offer-kinds.r offer-reads.Learnt store.Outcome
    (λ κs x e. record { answer = x; positions = e.0.now; sizes = e.1.0.now; marks = e.1.1.1.0.now })
dk-offer-unique κs a x y e f p q = offer-decides _ _ _ _ p q

pub dk-offers-unique : OneView 5 offers-kinds.ps offers-kinds.r offers-reads.Learnt offers.Result
    (λ κs x e. record { answer = x; positions = e.0.now; sizes = e.1.0.now; marks = e.1.1.1.0.now })
dk-offers-unique κs a x y e f p q = offers-decide _ _ _ _ _ p q

pub dk-blocks-unique : OneView 4 blocks-kinds.ps blocks-kinds.r blocks-reads.Learnt blocks.Outcome
    (λ κs x e. record { answer = x; starts = e.1.1.0.now; sizes = e.1.1.1.0.now })
dk-blocks-unique κs a x y e f p q = dk-blocks-decides _ _ _ _ _ _ p q

pub dk-hex-unique : OneView 2 hex-kinds.ps hex-kinds.r hex-reads.Learnt hex.Outcome (λ κs x e. record { answer = x; hex = e.1.1.0.now })
dk-hex-unique κs a x y e f p q = hex-decides _ _ _ _ _ p q

pub dk-part-unique : OneOutcome 1 part-kinds.ps part-kinds.r part-reads.Learnt
dk-part-unique κs a x y e f p q = part-decides _ _ _ x y p q

pub dk-overlay-range-unique : OneOutcome 4 overlay-range-kinds.ps overlay-range-kinds.r overlay-range-reads.Learnt
dk-overlay-range-unique κs a x y e f p q = range-decides _ _ _ _ _ _ x y p q

pub dk-overlay-runs-unique : OneView 6 overlay-runs-kinds.ps overlay-runs-kinds.r overlay-runs-reads.Learnt (DkCount × List ℕ × List ℕ)
    (λ κs x e. (x, e.1.1.1.1.0.now, e.1.1.1.1.1.0.now))
dk-overlay-runs-unique κs a x y e f p q = ap (λ (o : overlay.Outcome _ _ _ _). (o.answer, o.firsts, o.counts)) (runs-decide _ _ _ _ _ _ _ _ p q)

pub dk-verify-unique : OneView 9 verify-kinds.ps verify-kinds.r verify-reads.Learnt (DkCount × List ℕ × List ℕ × List ℕ)
    (λ κs x e. (x, e.1.1.1.1.1.1.0.now, e.1.1.1.1.1.1.1.0.now, e.1.1.1.1.1.1.1.1.0.now))
dk-verify-unique κs a x y e f p q = ap (λ (o : its.Outcome _ _ _ _ _ _). (o.answer, o.firsts, o.counts, o.kinds)) (verify-decides _ _ _ _ _ _ _ _ _ _ _ p q)

pub dk-write-hex-unique : OneView 4 write-hex-kinds.ps write-hex-kinds.r write-hex-reads.Learnt write.Outcome
    (λ κs x e. record { answer = x; text = e.1.1.1.1.0.now })
dk-write-hex-unique κs a x y e f p q = write-hex-decides _ _ _ _ p q

pub dk-write-srec-unique : OneView 4 write-srec-kinds.ps write-srec-kinds.r write-srec-reads.Learnt write.Outcome
    (λ κs x e. record { answer = x; text = e.1.1.1.1.1.0.now })
dk-write-srec-unique κs a x y e f p q = write-srec-decides _ _ _ _ _ p q

pub dk-read-records-unique : OneView 5 read-records-kinds.ps read-records-kinds.r read-records-reads.Learnt read.Outcome (λ κs x e.
    let s = e.1.1.1 in
    record { answer = x; lent = record { bytes = s.0.now; offsets = s.1.0.now; sizes = s.1.1.0.now; scratch = s.1.1.1.0.now } })
dk-read-records-unique κs a x y e f p q = read-decides _ _ _ _ _ _ p q

pub dk-record-extent-unique : OneView 2 record-extent-kinds.ps record-extent-kinds.r record-extent-reads.Learnt (DkExtent × List ℕ)
    (λ κs x e. (x, e.1.1.0.now))
dk-record-extent-unique κs a x y e f p q = extent-decides _ _ _ _ _ p q

pub dk-record-fault-unique : OneView 2 record-fault-kinds.ps record-fault-kinds.r record-fault-reads.Learnt (DkFault × List ℕ)
    (λ κs x e. (x, e.1.1.1.0.now))
dk-record-fault-unique κs a x y e f p q = fault-decides _ _ _ _ _ _ p q

pub dk-record-reason-unique : OneView 2 record-reason-kinds.ps record-reason-kinds.r record-reason-reads.Learnt (DkReason × List ℕ)
    (λ κs x e. (x, e.1.1.1.0.now))
dk-record-reason-unique κs a x y e f p q = dk-reason-decides _ _ _ _ _ _ p q
