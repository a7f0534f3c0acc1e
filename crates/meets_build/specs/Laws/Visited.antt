-- A node as the build visits it: what it offers, and whether it meets 9, 10 or 11, are what the sentences say of it.
use Rattle.std.specs.Prelude.{◌≡◌, refl, Bool, true, false, List, [], ◌∷◌, ◌⊎◌, ◌↔◌, ℕ, ◌+◌, ◌≤◌, ◌<◌, Some, Option, None}
use Rattle.std.proofs.Common.{sym, ap, subst, ◌∙◌, inl, inr, arith, leb-true, le-leb}
use Rattle.prelude.specs.Laws.Bools.{unlike}
use Rattle.prelude.specs.Laws.Pick.{pick_true, pick-false}
use Rattle.prelude.specs.Pick.{pick}
use Rattle.bankdef.specs.declared.Bankdef.{Bankdef}
use Rattle.bankdef.specs.declared.Bankdefs.{Bankdefs}
use Rattle.iter.specs.Address.{out_at}
use Rattle.nodes.specs.Kinds.{size_of}
use Rattle.nodes.specs.Laws.Kinds.{adds-so, label-adds-none}
use Rattle.nodes.specs.declared.Node.{Node}
use Rattle.iter.specs.declared.Pos.{Pos}
use Rattle.overlap_checker.specs.Interval.{interval}
use Rattle.overlap_checker.specs.declared.Entry.{Entry}
use Rattle.output.specs.RefusedAtNode as at-node
use Rattle.output.specs.RefusedAtNode.{Closed, PlacedKind}
use Rattle.output.specs.Output.{Input}
use Rattle.build_plan.specs.Theorems.Kinds.{offered-exactly}
use Rattle.build_plan.specs.Placing.{is_offered, bits_at, offer_of}
use Rattle.resolver.specs.Layout.{Checked}
use Rattle.resolver.specs.NodeOrder.{def_at}
use Rattle.build_visits.specs.Visits.{seen_pos, position_of, visit_at}
use Rattle.build_visits.specs.declared.Visit.{Visit}
use Rattle.says.specs.Build as says
use Rattle.says.specs.Build.{Given, nodes, kind, banks, In, Size, Offset, Number, Sees, Offer, Extent, Placed, IsWritten}
use Rattle.meets_sentences.specs.Grounds.{Nine, Ten, Eleven}
use Rattle.meets_sentences.specs.Laws.One.{in_one, number-one, sees-one}
use Rattle.meets_build.specs.Laws.Shown.{Shown, Tells, listed, walked, row_no, node_no, number_is}
use Rattle.meets_build.specs.Laws.Walk.{bank_no, Goes, stands-in, tells-here, sees-seen}
use Rattle.meets_build.specs.Laws.Contract.{input_of}
use Rattle.meets_sentences.specs.Typed.{Typed}
use Rattle.meets_build.specs.Laws.Table.{table}

cons_same : {a b : Entry} {l m : List Entry} → a ∷ l ≡ b ∷ m → a ≡ b
cons_same e = cc

cons-apart : {a : Entry} {l : List Entry} → ◌≡◌ {A = List Entry} (a ∷ l) [] → ⊥
cons-apart e = unlike cc

module _ (g : Given) (tab : Bankdefs) (shown : Shown g tab) (c : Checked tab (listed g) g.fill) (r : ℕ) (all : Goes g tab shown c r (nodes g))
    (i : ℕ) (h : i < nodes g) where
  abbrev pub visited : Visit
  visited = visit_at (walked g tab) (row_no g tab r) i

  goes : Goes g tab shown c r i
  goes j k = all j (omega arith)

  abbrev now : Pos
  now = (all i h).0

  tells : Tells g visited.bank visited.def
  tells = tells-here g tab shown c r i h goes

  pub stands : In g i visited.bank
  stands = stands-in g tab shown c r i goes

  pub position-is : position_of visited ≡ now.position
  position-is = ap (λ x. (seen_pos x).position) (all i h).1

  pub sees-visited : Sees g r i visited.bank (position_of visited) now.known
  sees-visited =
      subst (λ (x : ℕ). Sees g r i visited.bank x now.known) (sym position-is) (sees-seen g tab shown c r i h goes now (all i h).1)

  -- ---- what is offered

  offered-at : (o : ℕ) → visited.def.offset ≡ Some o → 4 ≤ kind g i → kind g i ≤ 7
      → offer_of visited ≡ interval (o + position_of visited) visited.node.number ∷ []
  offered-at o e k l =
      ap (λ (t : Bool). pick t (bits_at visited.out visited.node) []) ((offered-exactly visited.node).1 (k, l))
      ∙ ap (λ (x : Option ℕ). bits_at (out_at x (position_of visited)) visited.node) e

  -- A node that offers, by the sentences, offers those bits.
  pub offer-when : {x m : ℕ} → Offer g r i x m → offer_of visited ≡ interval x m ∷ []
  offer-when (says.offer {b = b} {p = p} {o = o} {s = n} listed-i k l sight offset number) =
      let same = sees-one g sight sees-visited in
      let o_is = tells.has-offset o (subst (λ (y : ℕ). Offset g y o) same.0 offset) in
      offered-at o o_is k l ∙ same-entry o (sym same.1) (number-one g (number_is g tab r i h) number)
    where
      same-entry : (o : ℕ) {p q n m : ℕ} → q ≡ p → n ≡ m → interval (o + q) n ∷ [] ≡ interval (o + p) m ∷ []
      same-entry o e f = rw (e, f)

  none-offered : visited.def.offset ≡ None → offer_of visited ≡ []
  none-offered e =
      ap (λ (x : Option ℕ). pick (is_offered visited.node) (bits_at (out_at x (position_of visited)) visited.node) []) e ∙ nothing (is_offered visited.node)
    where
      nothing : (b : Bool) → ◌≡◌ {A = List Entry} (pick b [] []) []
      nothing true = refl
      nothing false = refl

  -- And one that offers bits in the build offers them by the sentences.
  pub offer-only : (e : Entry) → offer_of visited ≡ e ∷ [] → Offer g r i e.position e.size
  offer-only e f = by_kind (is_offered visited.node) refl
    where
      made : (k : (4 ≤ kind g i) × (kind g i ≤ 7)) (o : Option ℕ) → visited.def.offset ≡ o → Offer g r i e.position e.size
      made k None q = absurd (cons-apart (sym f ∙ none-offered q))
      made k (Some o) q =
          let same : interval (o + position_of visited) visited.node.number ≡ e = cons_same (sym (offered-at o q k.0 k.1) ∙ f) in
          subst (λ (x : Entry). Offer g r i x.position x.size) same
          (says.offer h k.0 k.1 sees-visited (tells.placed o q) (number_is g tab r i h))

      by_kind : (t : Bool) → is_offered visited.node ≡ t → Offer g r i e.position e.size
      by_kind true t = made ((offered-exactly visited.node).0 t) visited.def.offset refl
      by_kind false t = absurd (cons-apart (sym f ∙ ap (λ (b : Bool). pick b (bits_at visited.out visited.node) []) t))

  -- ---- 10 and 11

  -- a label has no size, an item or a reserve its number
  no_size : kind g i ≡ 2 → size_of visited.node ≡ 0
  no_size k = pick-false visited.node.number 0 (label-adds-none (kind g i) k)

  own-size : (4 ≤ kind g i) × (kind g i ≤ 7) → size_of visited.node ≡ visited.node.number
  own-size k = pick_true visited.node.number 0 (adds-so (kind g i) k.0 k.1)

  extent-is : (kind g i ≡ 2) ⊎ ((4 ≤ kind g i) × (kind g i ≤ 7)) → Extent g r i (size_of visited.node)
  extent-is (inl k) = subst (Extent g r i) (sym (no_size k)) (says.label k)
  extent-is (inr k) = subst (Extent g r i) (sym (own-size k)) (says.item (λ e. omega (arith, k.0)) (number_is g tab r i h))

  extent-one : {e : ℕ} → (kind g i ≡ 2) ⊎ ((4 ≤ kind g i) × (kind g i ≤ 7)) → Extent g r i e → e ≡ size_of visited.node
  extent-one p (says.label k) = sym (no_size k)
  extent-one (inl k) (says.item m n) = absurd (m k)
  extent-one (inr k) (says.item m n) = number-one g n (number_is g tab r i h) ∙ sym (own-size k)

  pub ten-exactly : at-node.Ten visited (position_of visited) ↔ Ten g r i
  ten-exactly = (
    λ t. (
      (h, t.placed),
      (
        visited.bank,
        position_of visited,
        now.known,
        size_of visited.node,
        t.size,
        sees-visited,
        extent-is t.placed,
        tells.sized t.size t.sized,
        t.past,
      ),
    ),
    λ t.
        let x = t.1 in
        let same = sees-one g x.5 sees-visited in
        let size = extent-one t.0.1 x.6 in
        record {
          placed = t.0.1;
          size = x.4;
          sized = tells.has-size x.4 (subst (λ (y : ℕ). Size g y x.4) same.0 x.7);
          past = past_by same.1 size x.8;
        },
  )
    where
      past_by : {m p q d e : ℕ} → p ≡ q → d ≡ e → m < p + d → m < q + e
      past_by e f k = omega arith

  no-offset : (o : Option ℕ) → visited.def.offset ≡ o → ((x : ℕ) → Offset g visited.bank x → ⊥) → visited.def.offset ≡ None
  no-offset None e none = e
  no-offset (Some o) e none = absurd (none o (tells.placed o e))

  some-none : {a : ℕ} → Some a ≡ None → ⊥
  some-none e = unlike cc

  pub eleven-exactly : at-node.Eleven visited ↔ Eleven g r i
  eleven-exactly = (
    λ t. (h, t.written, (visited.bank, stands, λ o x. some-none (sym (tells.has-offset o x) ∙ t.nowhere))),
    λ t.
        record {
          written = t.1;
          nowhere =
              no-offset visited.def.offset refl
              (λ o x. t.2.2 o (subst (λ (y : ℕ). Offset g y o) (in_one g stands t.2.1) x));
        },
  )

-- ---- 9

module _ (g : Given) (typed : Typed g) (shown : Shown g (table g)) (c : Checked (table g) (listed g) g.fill) (r : ℕ)
    (all : Goes g (table g) shown c r (nodes g)) (i : ℕ) (h : i < nodes g) where
  abbrev v : Visit
  v = visited g (table g) shown c r all i h

  closed-exactly : Closed (input_of g typed) ↔ ((1 < banks g) ⊎ (1 ≤ g.closed))
  closed-exactly = (there, back)
    where
      there : Closed (input_of g typed) → (1 < banks g) ⊎ (1 ≤ g.closed)
      there (inl e) = inr (leb-true 1 g.closed e)
      there (inr l) = inl (omega (arith, shown.count))

      back : (1 < banks g) ⊎ (1 ≤ g.closed) → Closed (input_of g typed)
      back (inl l) = inr (omega (arith, shown.count))
      back (inr l) = inl (le-leb 1 g.closed l)

  pub nine-exactly : at-node.Nine (input_of g typed) v ↔ Nine g r i
  nine-exactly = (
    λ t. ((h, t.placed), subst (In g i) t.default (stands g (table g) shown c r all i h), closed-exactly.0 t.closed),
    λ t.
        record {
          placed = t.0.1;
          default = in_one g (stands g (table g) shown c r all i h) t.1;
          closed = closed-exactly.1 t.2;
        },
  )
