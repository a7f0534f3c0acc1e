-- Laws that Theorems/Pages rests on.
use Rattle.std.specs.Prelude.{ℕ, ◌+◌, ◌<◌, ◌≤◌, ◌≡◌, Bool, true, false, ◌&&◌, eqb, length, Err, Result, None, Some}
use Rattle.std.proofs.Common.{sym, ap, ◌∙◌, arith, length-take}
use Rattle.std.proofs.Math.ListN.{get_or-eq_default}
use Rattle.iter.specs.declared.Pos.{Pos}
use Rattle.prelude.specs.Laws.Bools.{unlike, or_right}
use Rattle.prelude.specs.Pick.{pick}
use Rattle.prelude.specs.Laws.Pick.{pick_true}
use Rattle.prelude.specs.declared.Refusal.TheVariants.{DefaultBank, PastBank, NoOutput}
use Rattle.prelude.specs.Verdict.{Accepted}
use Rattle.prelude.specs.declared.Refusal.{Refusal}
use Rattle.bankdef.specs.Check.{no_bank, banks_of}
use Rattle.bankdef.specs.declared.Bankdefs.{Bankdefs}
use Rattle.nodes.specs.Kinds.{size_of}
use Rattle.nodes.specs.Laws.Kinds.{written-adds}
use Rattle.resolver.specs.Once.{bank_record}
use Rattle.overlap_checker.specs.State.{State}
use Rattle.build_visits.specs.Items.{is_written}
use Rattle.build_plan.specs.Placing.{is_placed, is_offered, uses_default, ends_past, lacks_output, checked, answered, tried, offer_of, verdict_on}
use Rattle.build_plan.specs.Laws.PlacingLaws.{passed, seen-placing}
use Rattle.build_plan.specs.Theorems.PlacingLaws.{checked-opens}
use Rattle.build_visits.specs.Visits.{seen_pos, position_of}
use Rattle.build_visits.specs.declared.Visit.{Visit}
use Rattle.build_profile.specs.Laws.RuleLaws.{both-kept}

-- ---- an accepted visit passed 10

written-size : (v : Visit) → is_written v.node ≡ true → size_of v.node ≡ v.node.number
written-size v w = pick_true v.node.number 0 (written-adds v.node.kind w)

pub fits : (closed : Bool) (s : State) (v : Visit) → verdict_on closed s v ≡ Accepted → is_written v.node ≡ true
    → ends_past v.def.size (position_of v + v.node.number) ≡ false
fits closed s v acc w =
    let n = v.node in
    let seen = seen-placing closed s v v.seen acc in
    let placed : is_placed n ≡ true = or_right (eqb n.kind 2) (is_offered n) (rw w) in
    let all : tried closed v.bank v.def s n seen.0 v.out ≡ Accepted =
    sym (pick_true (tried closed v.bank v.def s n seen.0 v.out) Accepted placed) ∙ seen.2 in
    let opened = sym (checked-opens closed v.bank v.def n seen.0 v.out)
    ∙ (both-kept (checked closed v.bank v.def n seen.0 v.out) (answered s n.index (offer_of v)) all).0 in
    let ends = ends_past v.def.size (seen.0.position + size_of n) in
    let last = pick (is_written n && lacks_output v.out) (Err (NoOutput n.index)) Accepted in
    let nine = passed (uses_default closed v.bank) (DefaultBank n.index) (pick ends (Err (PastBank n.index)) last) opened in
    let ten = (passed ends (PastBank n.index) last nine.1).0 in
    let at : position_of v ≡ seen.0.position = ap (λ (m : Result Pos Refusal). (seen_pos m).position) seen.1 in
    ap (ends_past v.def.size) (ap (λ (x : ℕ). x + n.number) at ∙ ap (λ (x : ℕ). seen.0.position + x) (sym (written-size v w))) ∙ ten

never : {a : ℕ} → None ≡ Some a → ⊥
never e = unlike cc

-- a bank with an offset is one of the table's
pub has-record : (banks : Bankdefs) (k offset : ℕ) → (bank_record banks k).offset ≡ Some offset → k < length (banks_of banks)
has-record banks k offset e =
    let past : length (banks_of banks) ≤ k → ⊥ = λ h. never (sym (ap (λ d. d.offset) (get_or-eq_default (banks_of banks) no_bank h)) ∙ e) in
    omega arith

pub listed_by : (banks : Bankdefs) (k : ℕ) → k < length (banks_of banks) → k < banks.len
listed_by banks k h = omega (arith, length-take banks.len banks.defs)
