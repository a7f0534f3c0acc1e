-- Theorems about what Keeping defines.
use Rattle.std.specs.Prelude.{ℕ, ◌%◌, ◌≡◌, refl, Bool, true, ◌↔◌, eqb, get_or, Option, Some, None}
use Rattle.std.proofs.Common.{eqb-true, eq-eqb}
use Rattle.std.proofs.lemmas.Bool.{eqb-false}
use Rattle.prelude.specs.Laws.Bools.{either}
use Rattle.bankdef.specs.declared.Bankdefs.{Bankdefs}
use Rattle.nodes.specs.Lists.{Lists}
use Rattle.resolver.specs.Once.{bank_record}
use Rattle.build_profile.specs.Theorems.OneBit.{one-bit-exactly}
use Rattle.build_profile.specs.Laws.RuleLaws.{kept-all, all-kept}
use Rattle.build_profile.specs.Rules.{aligned, bank_aligned, node_aligned, multiple, on_page, whole_pages, unit_kept, addr_kept, number_in}
use Rattle.build_profile.specs.Rules.{aligns_kept, addrs_kept}
use Rattle.build_profile.specs.Standing.{bank_of_node}
use Rattle.build_profile.specs.Keeping.{AddrKept, AlignKept, Aligned, LabelAligned, OffsetKept, SizeKept, UnitKept}
use Rattle.build_profile.specs.Laws.Keeping.{in_rows, never, of_some, page-test, size-test, unit-test}

pub aligned-exactly : (a : ℕ) → (aligned a ≡ true) ↔ Aligned a
aligned-exactly a = (
  λ e some. either (eqb a 0) (λ t. absurd (some (eqb-true a 0 t))) (λ t. (one-bit-exactly a).0 (rw t at e)),
  λ h. either (eqb a 0) (λ t. rw t) (λ t. rw t ((one-bit-exactly a).1 (h (eqb-false a 0 t)))),
)

bank-test : (o : Option ℕ) → (bank_aligned o ≡ true) ↔ ((a : ℕ) → o ≡ Some a → Aligned a)
bank-test None = (λ e a q. absurd (never q), λ h. refl)
bank-test (Some b) = (λ e a q. rw (← (of_some q)) ((aligned-exactly b).0 e), λ h. (aligned-exactly b).1 (h b refl))

pub label-tells : (banks : Bankdefs) (k : ℕ) → (bank_aligned (bank_record banks k).align ≡ true) ↔ LabelAligned banks k
label-tells banks k = bank-test (bank_record banks k).align

pub offset-tells : (banks : Bankdefs) (page k : ℕ) → (on_page page (bank_record banks k).offset ≡ true) ↔ OffsetKept banks page k
offset-tells banks page k = page-test page (bank_record banks k).offset

pub size-tells : (banks : Bankdefs) (page k : ℕ) → (whole_pages page (bank_record banks k).offset (bank_record banks k).size ≡ true) ↔ SizeKept banks page k
size-tells banks page k = size-test page (bank_record banks k).offset (bank_record banks k).size

pub unit-tells : (banks : Bankdefs) (k : ℕ) → (unit_kept (bank_record banks k).unit ≡ true) ↔ UnitKept banks k
unit-tells banks k = unit-test (bank_record banks k).unit

pub align-tells : (l : Lists) (i : ℕ) → (aligns_kept l i ≡ true) ↔ AlignKept l i
align-tells l i =
    let keeps : ℕ → Bool = λ r. node_aligned (get_or l.kinds i 0) (number_in l r i) in
    let rows = in_rows l i 8 aligned Aligned aligned-exactly in
    (λ e. rows.0 (kept-all keeps l.rows e), λ h. all-kept keeps l.rows (rows.1 h))

pub addr-tells : (banks : Bankdefs) (l : Lists) (i : ℕ) → (addrs_kept banks l i ≡ true) ↔ AddrKept banks l i
addr-tells banks l i =
    let unit = (bank_record banks (bank_of_node l.kinds l.operands i)).unit in
    let keeps : ℕ → Bool = λ r. addr_kept unit (get_or l.kinds i 0) (number_in l r i) in
    let rows = in_rows l i 9 (λ x. multiple x unit) (λ x. x % unit ≡ 0) (λ x. (eqb-true (x % unit) 0, eq-eqb (x % unit) 0)) in
    (λ e. rows.0 (kept-all keeps l.rows e), λ h. all-kept keeps l.rows (rows.1 h))
