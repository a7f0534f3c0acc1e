-- Theorems about what Pages defines.
use Rattle.std.specs.Prelude.{ℕ, ◌+◌, ◌-◌, ◌*◌, ◌%◌, ◌<◌, ◌≤◌, ◌≡◌, refl, true, false, ◌⊎◌, get_or, Some, Option}
use Rattle.std.proofs.Common.{sym, ap, ◌∙◌, inl, inr, ⊎_elim, arith, ltb-false}
use mathlib.Core.List.{Memᴰ}
use Rattle.std.proofs.Math.Nat.{add-mod, zero-mod}
use Rattle.bankdef.specs.Check.{no_bank, banks_of}
use Rattle.bankdef.specs.Fill.{full_length}
use Rattle.bankdef.specs.FillFacts.{Fills}
use Rattle.bankdef.specs.Theorems.FullFill.{full-reaches, full-ends}
use Rattle.bankdef.specs.FullFill.{FullEnd}
use Rattle.resolver.specs.Once.{bank_record}
use Rattle.output.specs.Calls.{Accepted, nodes_in, visit_in, visits_in, items_in, program_in, row_in, closed_in}
use Rattle.output.proofs.Calls.{fine}
use Rattle.output.proofs.Fills.{full-fills-all}
use Rattle.output.proofs.ItemBits.{item-has-written-node, length-not-below-fill, length-is-fill-or-end}
use Rattle.build_visits.specs.Items.{Item, end_of}
use Rattle.build_plan.specs.Placing.{ends_past}
use Rattle.build_plan.specs.Laws.PlacingLaws.{each-accepted}
use Rattle.build_visits.specs.Laws.VisitLaws.{visit-member}
use Rattle.build_visits.specs.Visits.{position_of}
use Rattle.build_profile.specs.Kept.{InProfile}
use Rattle.build_profile.specs.Pages.{no_pages, pages_of}
use Rattle.build_paged.specs.Laws.Pages.{fits, has-record, listed_by}
use Rattle.build_paged.specs.Pages.{Within, banks_in}

module _ (a : Accepted) (page : ℕ) (keeps : InProfile a.call.given.banks a.call.given.lists page) where
  pub within-bank : (x : Item) → Memᴰ x (items_in a.call) → Within a x
  within-bank x m =
      let w = item-has-written-node a x m in
      let n = w.0 in
      let v = visit_in a.call n in
      let acc = each-accepted (closed_in a.call) _ (fine a).state (visits_in a.call) (fine a).placed
      (visit-member (program_in a.call) (row_in a.call) (nodes_in a.call) n w.1) in
      let s = keeps.sizes v.bank (listed_by (banks_in a) v.bank (has-record (banks_in a) v.bank w.3 w.4)) w.3 w.4 in
      let ends : ends_past (Some s.0) (position_of v + v.node.number) ≡ false =
      sym (ap (λ (o : Option ℕ). ends_past o (position_of v + v.node.number)) s.1) ∙ fits (closed_in a.call) acc.0 v acc.1 w.2 in
      let at-is : x.at ≡ w.3 + position_of v = ap (λ (y : Item). y.at) w.5 in
      let size_is : x.size ≡ v.node.number = ap (λ (y : Item). y.size) w.5 in
      let low = ltb-false s.0 (position_of v + v.node.number) ends in
      record {
        node = n;
        listed = w.1;
        offset = w.3;
        size = s.0;
        placed = w.4;
        sized = s.1;
        is = w.5;
        from = omega arith;
        to = omega (arith, low);
      }

  -- A bit stands in one of a bank's pages.
  pub record InPage (bank bit : ℕ) : Type 0 where
    pub offset : ℕ
    pub placed : (bank_record (banks_in a) bank).offset ≡ Some offset
    pub number : ℕ
    pub one : number < get_or (pages_of page (banks_in a)) bank no_pages
    pub from : offset + number * page ≤ bit
    pub to : bit < offset + (number + 1) * page

  -- ---- the image's length

  module _ (full : a.call.given.choices.fill ≡ 1)
      (filled : (k offset : ℕ) → k < (banks_in a).len → (bank_record (banks_in a) k).offset ≡ Some offset → (bank_record (banks_in a) k).fill ≡ true) where
    abbrev reach : ℕ
    reach = full_length (banks_of (banks_in a))

    -- an item ends within full fill's length
    item-within : (x : Item) → Memᴰ x (items_in a.call) → end_of x ≤ reach
    item-within x m =
        let w = within-bank x m in
        let k = (visit_in a.call w.node).bank in
        let there = has-record (banks_in a) k w.offset w.placed in
        let s : Fills (get_or (banks_of (banks_in a)) k no_bank) (w.offset + w.size - 1) =
        record {
          fill = filled k w.offset (listed_by (banks_in a) k there) w.placed;
          bits = w.size;
          from = w.offset;
          size = w.sized;
          offset = w.placed;
          last = refl;
        } in
        omega (arith, w.to, full-reaches (banks_of (banks_in a)) k (w.offset + w.size - 1) there s)

    length-is-full : a.bits ≡ reach
    length-is-full =
        let fill = full-fills-all a.call.given full in
        let least = length-not-below-fill a in
        ⊎_elim
        (λ (e : a.bits ≡ _). e ∙ fill)
        (λ (e : (x : Item) × Memᴰ x (items_in a.call) × (a.bits ≡ end_of x)). omega (arith, item-within e.0 e.1, e.2, least, fill))
        (length-is-fill-or-end a)

    multiples : (x y : ℕ) → x % page ≡ 0 → y % page ≡ 0 → (x + y) % page ≡ 0
    multiples x y e f = add-mod x y page ∙ (rw (e, f) (zero-mod page))

    whole-end : (reach ≡ 0) ⊎ FullEnd (banks_of (banks_in a)) reach → reach % page ≡ 0
    whole-end (inl e) = rw e (zero-mod page)
    whole-end (inr f) =
        let k = f.0 in
        let s = f.3 in
        let listed = listed_by (banks_in a) k f.2 in
        let z = keeps.sizes k listed s.from s.offset in
        let same : z.0 ≡ s.bits = sizes (sym z.1 ∙ s.size) in
        let whole : s.bits % page ≡ 0 = rw same at z.2 in
        ap (λ (x : ℕ). x % page) f.4 ∙ multiples s.from s.bits (keeps.offsets k listed s.from s.offset) whole
      where
        sizes : {x y : ℕ} → Some x ≡ Some y → x ≡ y
        sizes e = cc

    -- With full fill, and every bank that has an offset filled, the image's length is whole pages.
    pub length-whole-pages : a.bits % page ≡ 0
    length-whole-pages = ap (λ (x : ℕ). x % page) length-is-full ∙ whole-end (full-ends (banks_of (banks_in a)))
