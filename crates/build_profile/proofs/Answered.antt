-- The profile's answer, return by return; and what the checks before the rules have shown.
use Rattle.std.specs.Prelude.{Err}
use Prim.Native.Nat.{ℕ, ◌*◌, ◌/◌, ◌<◌, ◌≤◌}
use mathlib.Core.Path.{◌≡◌, sym, ap₂, ◌∙◌}
use mathlib.Core.Bool.{Bool}
use mathlib.Core.List.{List}
use native.Mathlib.Decide.{dec_lt}
use native.Mathlib.Nat.{mul-div_cancel}
use native.Mathlib.Omega.{arith}
use lib.ListN.{get_or, length}
use Rattle.prelude.specs.Laws.Bools.{clash, unlike}
use Rattle.prelude.specs.Limits.{max_banks}
use Rattle.prelude.specs.declared.Refusal.{Refusal}
use Rattle.prelude.specs.Verdict.{Accepted, Verdict}
use Rattle.bankdef.specs.Check.{check_of}
use Rattle.bankdef.specs.Theorems.Refused.{accepted}
use Rattle.bankdef.specs.declared.Bankdefs.{Bankdefs}
use Rattle.nodes.specs.FaultExactly.{other_bank}
use Rattle.nodes.specs.Theorems.FaultExactly.{fault-exactly}
use Rattle.nodes.specs.Lists.{Lists, lists_of, first_of}
use Rattle.nodes.specs.Theorems.Sound.{accepted-lists, accepted-node}
use Rattle.build_profile.specs.Kept.{Judged, keeps, breaks}
use Rattle.build_profile.specs.Theorems.Kept.{judged}
use Rattle.resolver.specs.Once.{bank_record}
use Rattle.build_profile.specs.OneBit.{one_bit, ExactlyOne}
use Rattle.build_profile.specs.Theorems.OneBit.{one-bit-exactly, zero-has-none}
use Rattle.build_profile.specs.Pages.{none_paged, pages_of}
use Rattle.build_profile.specs.Profile.{verdict_of, profile_of}
use Rattle.build_profile.specs.Laws.RuleLaws.{both-kept, ruled-kept}
use Rattle.build_profile.specs.Rules.{bank_aligned, on_page, whole_pages, unit_kept, ruled, aligns_kept, addrs_kept, rules_of}
use Rattle.build_profile.specs.Steps.{Sized, nodes_of}
use Rattle.build_profile.specs.Theorems.Told.{profile-told}
use Rattle.build_profile.specs.Told.{Answers}
use Rattle.build_profile.specs.declared.Paged.{Paged}

-- so many rows as are counted, where there are nodes
rows-are : (numbers rows nodes : ℕ) → numbers ≡ rows * nodes → 0 < nodes → numbers / nodes ≡ rows
rows-are numbers rows nodes e some = rw e (mul-div_cancel rows some)

whole-rows : (numbers rows nodes : ℕ) → numbers ≡ rows * nodes → numbers ≡ numbers / nodes * nodes
whole-rows numbers rows nodes e =
    elim (dec_lt 0 nodes) [
      | yes some ↦ rw (rows-are numbers rows nodes e some) e
      | no none ↦ (let empty : nodes ≡ 0 = omega arith in rw empty (let bare : numbers ≡ rows * 0 = rw empty at e in omega arith))
    ]

-- a rule over no node is kept
no-node : (rule : ℕ) (f g : ℕ → Bool) (nodes : ℕ) → (0 < nodes → ⊥) → ruled rule f nodes ≡ ruled rule g nodes
no-node rule f g nodes none =
    ruled-kept f rule nodes (λ k h. absurd (none (omega arith))) ∙ sym (ruled-kept g rule nodes (λ k h. absurd (none (omega arith))))

-- what the table's and the lists' checks have shown
pub sized : (banks : Bankdefs) (l : Lists) (fill : ℕ) → check_of banks ≡ Accepted → lists_of banks.len l fill ≡ Accepted
    → Sized banks l.kinds l.operands l.numbers (length l.numbers / length l.kinds)
sized banks l fill t e =
    let table = accepted banks t in
    let sound = accepted-lists banks.len l fill e in
    record {
      some = table.least;
      few = table.most;
      given = sound.operands;
      numbered = whole-rows (length l.numbers) l.rows (length l.kinds) sound.rows.numbered;
      switches = λ i h k.
          let past : banks.len ≤ get_or l.operands i 0 → ⊥ =
          λ p. clash ((fault-exactly banks.len l i).1 (other_bank k p)) (accepted-node banks.len l (length l.kinds) sound.nodes i h) in
          omega arith;
    }

module _ (banks : Bankdefs) (l : Lists) (fill page : ℕ) where
  pub table-refused : {v : Verdict} {why : Refusal} → v ≡ check_of banks → v ≡ Err why → Err why ≡ verdict_of banks l fill page
  unfolding verdict_of
  table-refused {v} {why} e f = let g : check_of banks ≡ Err why = sym e ∙ f in rw g

  pub lists-refused : {v w : Verdict} {why : Refusal} → v ≡ check_of banks → v ≡ Accepted → w ≡ lists_of banks.len l fill → w ≡ Err why
      → Err why ≡ verdict_of banks l fill page
  unfolding verdict_of
  lists-refused {v} {w} {why} e f g h =
      let a : check_of banks ≡ Accepted = sym e ∙ f in let b : lists_of banks.len l fill ≡ Err why = sym g ∙ h in rw (a, b)

  -- the rules read neither states nor values, nor the count of rows where there is no node
  read : length l.numbers ≡ l.rows * length l.kinds
      → rules_of banks (nodes_of l.kinds l.operands l.numbers (length l.numbers / length l.kinds)) page ≡ rules_of banks l page
  unfolding rules_of
  read numbered =
      elim (dec_lt 0 (length l.kinds)) [
        | yes some ↦ rw (rows-are (length l.numbers) l.rows (length l.kinds) numbered some)
        | no none ↦
            (let m = nodes_of l.kinds l.operands l.numbers (length l.numbers / length l.kinds) in
            ap₂ by_nodes (no-node 2 (aligns_kept m) (aligns_kept l) (length l.kinds) none)
            (no-node 6 (addrs_kept banks m) (addrs_kept banks l) (length l.kinds) none))
      ]
    where
      by_nodes : Verdict → Verdict → Verdict
      by_nodes aligns addrs =
          first_of (ruled 1 (λ k. one_bit page) 1)
          (first_of (ruled 2 (λ k. bank_aligned (bank_record banks k).align) banks.len)
          (first_of aligns
          (first_of (ruled 3 (λ k. on_page page (bank_record banks k).offset) banks.len)
          (first_of (ruled 4 (λ k. whole_pages page (bank_record banks k).offset (bank_record banks k).size) banks.len)
          (first_of (ruled 5 (λ k. unit_kept (bank_record banks k).unit) banks.len)
          addrs)))))

  pub rules-decide : {v w r : Verdict} → v ≡ check_of banks → v ≡ Accepted → w ≡ lists_of banks.len l fill → w ≡ Accepted
      → r ≡ rules_of banks (nodes_of l.kinds l.operands l.numbers (length l.numbers / length l.kinds)) page → r ≡ verdict_of banks l fill page
  unfolding verdict_of
  rules-decide e f g h q =
      let a : check_of banks ≡ Accepted = sym e ∙ f in let b : lists_of banks.len l fill ≡ Accepted = sym g ∙ h in rw (a, b) (q ∙ read (accepted-lists banks.len l fill b).rows.numbered)

  answers : {r : Paged} → r ≡ profile_of banks l fill page → Answers banks l fill page r
  answers e = record { answer = e; figures = rw e (profile-told banks l fill page) }

  pub says-no : {v : Verdict} {why : Refusal} → v ≡ verdict_of banks l fill page → v ≡ Err why
      → Answers banks l fill page (record { verdict = Err why; pages = none_paged })
  says-no {v} {why} e f = let g : verdict_of banks l fill page ≡ Err why = sym e ∙ f in answers (rw g)

  pub says-yes : {v : Verdict} {pages : List ℕ} → v ≡ verdict_of banks l fill page → v ≡ Accepted → pages ≡ pages_of page banks
      → Answers banks l fill page (record { verdict = Accepted; pages = pages })
  says-yes e f q = let g : verdict_of banks l fill page ≡ Accepted = sym e ∙ f in answers (rw (g, q))

  one_kept : {v : Verdict} → Judged banks l page v → v ≡ Accepted → ExactlyOne page
  one_kept (keeps h) e = h.page-size
  one_kept (breaks b) e = unlike cc

  -- what a yes shows: at most 16 banks, and a page of some bits
  pub yes-shows : {v : Verdict} → v ≡ verdict_of banks l fill page → v ≡ Accepted → (banks.len ≤ max_banks) × (0 < page)
  unfolding verdict_of
  yes-shows {v} e f =
      let a = both-kept (check_of banks) (first_of (lists_of banks.len l fill) (rules_of banks l page)) (sym e ∙ f) in
      let b = both-kept (lists_of banks.len l fill) (rules_of banks l page) a.1 in
      let one = one_kept (judged banks l page) b.1 in
      let some : page ≡ 0 → ⊥ = λ z. clash ((one-bit-exactly 0).1 (rw z at one)) zero-has-none in
      ((accepted banks a.0).most, omega arith)
