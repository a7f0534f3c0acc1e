-- The six rules of a layout with one bank, and of the same layout with a bank 1: each is kept by both, or broken by both, places raised.
use Prim.Native.Nat.{ℕ, zero, suc, ◌<◌}
use Rattle.std.specs.Prelude.{◌≡◌, Bool, ◌||◌, List, eqb, get_or, length}
use Rattle.std.proofs.Math.Path.{refl}
use Rattle.std.proofs.Common.{sym, ap, ◌∙◌, arith, eqb-true}
use Rattle.std.proofs.Math.Bool.{true, false}
use Rattle.prelude.specs.Laws.Bools.{either}
use Rattle.prelude.specs.Pick.{pick}
use Rattle.bankdef.specs.Check.{no_bank}
use Rattle.bankdef.specs.declared.Bankdef.{Bankdef}
use Rattle.bankdef.specs.declared.Bankdefs.{Bankdefs}
use Rattle.nodes.specs.declared.Node.{Node}
use Rattle.nodes.specs.Lists.{Lists, Row, node_at, row_at}
use Rattle.resolver.specs.Once.{bank_record}
use Rattle.output.specs.Output.{Input}
use Rattle.build_profile.specs.OneBit.{one_bit}
use Rattle.build_profile.specs.Laws.RuleLaws.{all-kept}
use Rattle.build_profile.specs.Rules.{bank_aligned, node_aligned, aligns_kept, on_page, whole_pages, unit_kept, addr_kept, addrs_kept, number_in, ruled, rules_of}
use Rattle.build_profile.specs.Standing.{bank_before, bank_of_node}
use Rattle.thm_conversions.specs.Widened.{only_bank, bare, with_switch, OneBank}
use Rattle.thm_conversions.specs.Laws.Cells.{turned-at}
use Rattle.thm_conversions.specs.Theorems.Cells.{row-zeroed, node-up}
use Rattle.thm_conversions.specs.DefaultBankSame.{TwoBanks}
use Rattle.thm_conversions.specs.Theorems.DefaultBankSame.{counted, single}
use Rattle.thm_conversions.specs.Raised.{rule_verdict}
use Rattle.thm_conversions.specs.Laws.Firsts.{all_alike, ruled-up, ruled-stays, ruled-twice, seven-raised}

module _ (b : Input) (table : Bankdefs) (one : OneBank b) (two : TwoBanks (only_bank b) table) where
  abbrev l : Lists
  l = b.lists

  abbrev m : Lists
  m = with_switch b.lists

  -- ---- the banks

  -- bank 0 there has its unit and start, and the banks from 1 on are those from 0 on here
  zeroth : bank_record table 0 ≡ bare (only_bank b)
  zeroth = ap (λ (k : List Bankdef). get_or k 0 no_bank) two.banks

  later : (k : ℕ) → bank_record table (suc k) ≡ bank_record b.banks k
  later k = ap (λ (d : List Bankdef). get_or d (suc k) no_bank) two.banks ∙ sym (ap (λ (d : List Bankdef). get_or d k no_bank) (single b table one two))

  -- a rule over the banks that bank 0 keeps there, since it has nothing that the rule asks about
  banks-up : (keeps : Bankdef → Bool) (rule : ℕ) → keeps (bare (only_bank b)) ≡ true → (eqb rule 1 || eqb rule 5) ≡ false
      → ruled rule (λ k. keeps (bank_record table k)) table.len ≡ rule_verdict (ruled rule (λ k. keeps (bank_record b.banks k)) b.banks.len)
  banks-up keeps rule e f =
      law (λ k. keeps (bank_record table k)) (λ k. keeps (bank_record b.banks k)) (ap keeps zeroth ∙ e) (λ k. ap keeps (later k)) two.count one.count
    where
      law : (s t : ℕ → Bool) → s 0 ≡ true → ((k : ℕ) → s (suc k) ≡ t k) → {p q : ℕ} → p ≡ 2 → q ≡ 1 → ruled rule s p ≡ rule_verdict (ruled rule t q)
      law s t g h i j = rw (i, j) (ruled-up s t g h rule 1 f)

  -- rule 5: both banks there have the unit of the bank here
  units : ruled 5 (λ k. unit_kept (bank_record table k).unit) table.len
      ≡ rule_verdict (ruled 5 (λ k. unit_kept (bank_record b.banks k).unit) b.banks.len)
  units =
      law (λ k. unit_kept (bank_record table k).unit) (λ k. unit_kept (bank_record b.banks k).unit)
      (ap (λ (d : Bankdef). unit_kept d.unit) zeroth) (ap (λ (d : Bankdef). unit_kept d.unit) (later 0)) two.count one.count
    where
      law : (s t : ℕ → Bool) → s 0 ≡ t 0 → s 1 ≡ t 0 → {p q : ℕ} → p ≡ 2 → q ≡ 1 → ruled 5 s p ≡ rule_verdict (ruled 5 t q)
      law s t g h i j = rw (i, j) (ruled-twice 5 s t g h ∙ ruled-stays 5 1 t refl)

  -- ---- the nodes

  shown-later : (r i : ℕ) → r < l.rows → number_in m r (suc i) ≡ number_in l r i
  shown-later r i h =
      same (row-zeroed l (counted b table one two) 0 (some r h)) (row-zeroed l (counted b table one two) r h)
      ∙ ap (λ (n : Node). n.number) (node-up l (counted b table one two) (row_at l 0).numbers (row_at l r) i)
    where
      some : (r : ℕ) → r < l.rows → 0 < l.rows
      some r h = omega arith

      same : {q s row other : Row} → q ≡ s → row ≡ other
          → (node_at m.kinds m.operands q.numbers row (suc i)).number ≡ (node_at m.kinds m.operands s.numbers other (suc i)).number
      same e f = rw (e, f)

  -- rule 2, of a node: the switch is no `align`
  aligns-later : (i : ℕ) → aligns_kept m (suc i) ≡ aligns_kept l i
  aligns-later i =
      all_alike (λ r. node_aligned (get_or l.kinds i 0) (number_in m r (suc i))) (λ r. node_aligned (get_or l.kinds i 0) (number_in l r i)) l.rows
      (λ r h. ap (node_aligned (get_or l.kinds i 0)) (shown-later r i h))

  aligns-first : aligns_kept m 0 ≡ true
  aligns-first = all-kept (λ r. node_aligned 1 (number_in m r 0)) l.rows (λ r h. refl)

  -- rule 6: the bank in force is bank 0 here and bank 1 there, and the switch is no `addr`
  bank-here : (i : ℕ) → bank_before l.kinds l.operands i ≡ 0
  unfolding bank_before
  bank-here zero = refl
  bank-here (suc i) =
      either (eqb (get_or l.kinds i 0) 1)
      (λ e. rw e (one.switches i (eqb-true (get_or l.kinds i 0) 1 e)))
      (λ e. rw e (bank-here i))

  bank-there : (i : ℕ) → bank_before m.kinds m.operands (suc i) ≡ 1
  unfolding bank_before
  bank-there zero = refl
  bank-there (suc i) = law (turned-at l.kinds l.operands one.operands i) (bank-there i)
    where
      go : (c : Bool) (o : ℕ) → pick c (pick c 1 o) 1 ≡ 1
      go true o = refl
      go false o = refl

      law : {x y : ℕ} → x ≡ pick (eqb (get_or l.kinds i 0) 1) 1 (get_or l.operands i 0) → y ≡ 1 → pick (eqb (get_or l.kinds i 0) 1) x y ≡ 1
      law e f = rw (e, f) (go (eqb (get_or l.kinds i 0) 1) (get_or l.operands i 0))

  abbrev unit_there : ℕ → ℕ
  unit_there i = (bank_record table (bank_of_node m.kinds m.operands i)).unit

  abbrev unit_here : ℕ → ℕ
  unit_here i = (bank_record b.banks (bank_of_node l.kinds l.operands i)).unit

  unit-same : (i : ℕ) → unit_there (suc i) ≡ unit_here i
  unit-same i =
      ap (λ (k : ℕ). (bank_record table k).unit) (bank-there (suc i))
      ∙ ap (λ (d : Bankdef). d.unit) (later 0)
      ∙ sym (ap (λ (k : ℕ). (bank_record b.banks k).unit) (bank-here (suc i)))

  addrs-later : (i : ℕ) → addrs_kept table m (suc i) ≡ addrs_kept b.banks l i
  addrs-later i =
      all_alike (λ r. addr_kept (unit_there (suc i)) (get_or l.kinds i 0) (number_in m r (suc i)))
      (λ r. addr_kept (unit_here i) (get_or l.kinds i 0) (number_in l r i))
      l.rows (λ r h. law (unit-same i) (shown-later r i h))
    where
      law : {u v x y : ℕ} → u ≡ v → x ≡ y → addr_kept u (get_or l.kinds i 0) x ≡ addr_kept v (get_or l.kinds i 0) y
      law e f = rw (e, f)

  addrs-first : addrs_kept table m 0 ≡ true
  addrs-first = all-kept (λ r. addr_kept (unit_there 0) 1 (number_in m r 0)) l.rows (λ r h. refl)

  -- ---- all six

  -- The rules name the same rule, its place raised: rule 5 stays bank 0's, other banks become 1, nodes rise by one.
  pub rules-raised : (page : ℕ) → rules_of table m page ≡ rule_verdict (rules_of b.banks l page)
  unfolding rules_of
  rules-raised page =
      seven-raised
      (ruled 1 (λ k. one_bit page) 1)
      (ruled 2 (λ k. bank_aligned (bank_record b.banks k).align) b.banks.len)
      (ruled 2 (aligns_kept l) (length l.kinds))
      (ruled 3 (λ k. on_page page (bank_record b.banks k).offset) b.banks.len)
      (ruled 4 (λ k. whole_pages page (bank_record b.banks k).offset (bank_record b.banks k).size) b.banks.len)
      (ruled 5 (λ k. unit_kept (bank_record b.banks k).unit) b.banks.len)
      (ruled 6 (addrs_kept b.banks l) (length l.kinds))
      (ruled-stays 1 1 (λ k. one_bit page) refl)
      (banks-up (λ d. bank_aligned d.align) 2 refl refl)
      (ruled-up (aligns_kept m) (aligns_kept l) aligns-first aligns-later 2 (length l.kinds) refl)
      (banks-up (λ d. on_page page d.offset) 3 refl refl)
      (banks-up (λ d. whole_pages page d.offset d.size) 4 refl refl)
      units
      (ruled-up (addrs_kept table m) (addrs_kept b.banks l) addrs-first addrs-later 6 (length l.kinds) refl)
