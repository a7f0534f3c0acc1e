-- Five edges from both sides, of banks, a bank's start, nodes, rows and the fill's choice, on plain layouts: so many banks without size, offset or alignment,
-- all with one start, and so many nodes of kind 0, with so many rows of zeros. Accepted up to each limit, refused one past it. The other limits of document
-- 01's table are not here. It shows too that the sentences can be met.
use Rattle.std.specs.Prelude.{◌≡◌, refl, Bool, true, false, List, [], ◌⊎◌, ℕ, zero, suc, ◌+◌, ◌*◌, ◌/◌, ◌%◌, ◌≤◌, ◌<◌, ℤ, pos, nat_abs, length, get_or, replicate}
use Rattle.std.proofs.Common.{sym, ap, subst, ◌∙◌, inl, inr, ⊎_elim, arith}
use Rattle.std.proofs.Math.Decide.{dec_lt}
use Rattle.std.proofs.lemmas.List.{length-replicate, get_or-replicate}
use Rattle.std.proofs.Math.ListN.{get_or-eq_default}
use Rattle.build_visits.specs.Laws.ItemLaws.{zeros-bit, zeros-bytes}
use Rattle.sort.specs.Laws.Sorted.{le-or-lt}
use Rattle.iter.specs.declared.Lost.{Lost}
use Rattle.says.specs.Words as w
use Rattle.says.specs.Words.{First}
use Rattle.says.specs.Banks as bank
use Rattle.says.specs.Build as b
use Rattle.says.specs.Build.{Given, Lent, Outcome, losing, banks, unit, start, flag, fill_bit, NoBanks, BadBank, Overlap, nodes, kind}
use Rattle.says.specs.Words.{Not}
use Rattle.says.specs.Build.{operand, BadField}
use Rattle.says.specs.Build.{BadNode, In, Lead, Advance, Standing, BankAt, Sees, Reads, Stops, RunsThrough, Unresolved, LastPass, Offer, Placed, Why, Refuses}
use Rattle.says.specs.Build.{Inherited}
use Rattle.says.specs.Build.{Reaches, Length, Spans, Padding, Left, Accepts, Laid, refusal, BuildSays}
use Rattle.meets_sentences.specs.Laws.One.{loses-none, in_one}
use Rattle.meets_sentences.specs.Theorems.Cases.{BanksPass, refused-1, refused-2, refused-4-field}

-- `count` banks of unit 8 that start at `from`; `size` nodes, `rows` rows
abbrev pub plain : (count : ℕ) (from : ℤ) (size rows limit fill closed : ℕ) → Given
plain count from size rows limit fill closed =
    record {
      units = replicate count 8;
      starts = replicate count from;
      bank_sizes = replicate count 0;
      bank_offsets = replicate count 0;
      aligns = replicate count 0;
      flags = replicate count 0;
      fill_bits = replicate count 0;
      kinds = replicate size 0;
      operands = replicate size 0;
      numbers = replicate (rows * size) 0;
      states = replicate (rows * size) 0;
      rows = rows;
      values = [];
      limit = limit;
      fill = fill;
      closed = closed;
    }

zeros : (k i : ℕ) → ◌≡◌ {A = ℕ} (get_or (replicate k 0) i 0) 0
zeros k i =
    elim (dec_lt i k) [
      | yes h ↦ get_or-replicate k i 0 0 h
      | no h ↦ get_or-eq_default (replicate k 0) 0 (rw (length-replicate {A = ℕ} k 0) (omega arith))
    ]

module _ (count : ℕ) (from : ℤ) (size rows limit fill closed : ℕ) where
  abbrev g : Given
  g = plain count from size rows limit fill closed

  as_many : banks g ≡ count
  as_many = length-replicate count 8

  nodes-are : nodes g ≡ size
  nodes-are = length-replicate size 0

  no_flag : (c : ℕ) → flag g c ≡ 0
  no_flag c = zeros count c

  unit-is : (c : ℕ) → c < count → unit g c ≡ 8
  unit-is c h = get_or-replicate count c 8 0 h

  kind_0 : (i : ℕ) → kind g i ≡ 0
  kind_0 i = zeros size i

  no_symbol : (i : ℕ) → Not ((kind g i ≡ 2) ⊎ (kind g i ≡ 3))
  no_symbol i = ⊎_elim (λ e. omega (arith, kind_0 i)) (λ e. omega (arith, kind_0 i))

  -- ---- 1, 2 and 3

  there : 1 ≤ count → count ≤ 16 → Not (NoBanks g)
  there h l (b.too_few x) = omega (arith, as_many)
  there h l (b.too_many x) = omega (arith, as_many)
  there h l (b.lists-differ n) =
      let as_long : length {A = ℕ} (replicate count 0) ≡ banks g = length-replicate count 0 ∙ sym as_many in
      n (length-replicate count from ∙ sym as_many, as_long, as_long, as_long, as_long, as_long)

  good : nat_abs from ≤ 1099511627776 → (c : ℕ) → c < count → Not (BadBank g c)
  good s c h (b.beyond (bank.unit-zero e)) = omega (arith, unit-is c h)
  good s c h (b.beyond (bank.unit-past e)) = omega (arith, unit-is c h)
  good s c h (b.beyond (bank.start-far e)) = let same = ap nat_abs (get_or-replicate count c from (pos 0) h) in omega arith
  good s c h (b.beyond (bank.size-past m e)) = omega (arith, no_flag c, m.0)
  good s c h (b.beyond (bank.offset-past m e)) = omega (arith, no_flag c, m.0)
  good s c h (b.beyond (bank.align-past m e)) = omega (arith, no_flag c, m.0)
  good s c h (b.beyond (bank.filled-empty f m)) = omega (arith, no_flag c)
  good s c h (b.beyond (bank.bit_past e)) = omega (arith, zeros count c)
  good s c h (b.beyond (bank.bit-of-bank-0 z e)) = omega (arith, zeros count c)
  good s c h (b.flags-past e) = omega (arith, no_flag c)

  apart : (c d : ℕ) → Not (Overlap g c d)
  apart c d (b.overlap h l m (bank.two-open o s p t)) = omega (arith, no_flag c, o.0)
  apart c d (b.overlap h l m (bank.first-sized o s p t e)) = omega (arith, no_flag c, o.0)
  apart c d (b.overlap h l m (bank.second-sized o s p t e)) = omega (arith, no_flag c, o.0)
  apart c d (b.overlap h l m (bank.two_sized o s p t e f)) = omega (arith, no_flag c, o.0)

  -- ---- 4

  fields : size ≤ 4096 → 1 ≤ rows → rows ≤ 16 → limit ≤ 255 → fill ≤ 1 → (f : ℕ) → Not (BadField g f)
  fields n r l m c f (b.nodes-many h) = omega (arith, nodes-are)
  fields n r l m c f (b.operands-differ d) = d (length-replicate size 0 ∙ sym nodes-are)
  fields n r l m c f (b.no_rows h) = omega arith
  fields n r l m c f (b.rows-many h) = omega arith
  fields n r l m c f (b.numbers-differ d) = d (length-replicate (rows * size) 0 ∙ ap (λ (x : ℕ). rows * x) (sym nodes-are))
  fields n r l m c f (b.states-differ d) = d (length-replicate (rows * size) 0 ∙ ap (λ (x : ℕ). rows * x) (sym nodes-are))
  fields n r l m c f (b.limit-past h) = omega arith
  fields n r l m c f (b.fill-unknown h) = omega arith

  listed : (i : ℕ) → Not (BadNode g i)
  listed i (b.kind-past h) = omega (arith, kind_0 i)
  listed i (b.no-bank e h) = omega (arith, kind_0 i)
  listed i (b.state-past r k h) = omega (arith, kind_0 i)
  listed i (b.value-past r k n h) = omega (arith, kind_0 i, k.0)

  -- ---- the walk stays at 0

  lead-0 : {i c p d : ℕ} → Lead g i c p d → d ≡ 0
  lead-0 {i} (b.symbol k o a d) = absurd (no_symbol i k)
  lead-0 (b.unaligned n) = refl

  stays : {r i c p q : ℕ} → Advance g r i c p q → q ≡ p
  stays (b.stays e) = refl
  stays {i = i} (b.adds h l n) = absurd (omega (arith, kind_0 i))
  stays {i = i} (b.aligns e n d) = absurd (omega (arith, kind_0 i))
  stays {i = i} (b.sets e n) = absurd (omega (arith, kind_0 i))

  at-0 : {r i c : ℕ} {at : Standing} → BankAt g r i c at → at.position ≡ 0
  at-0 b.begins = refl
  at-0 (b.keeps x n) = at-0 x
  at-0 (b.moves x h l le adv low kn los sum) = omega (arith, at-0 x, lead-0 l, stays adv)

  sees-0 : {r i c p : ℕ} {k : Bool} → Sees g r i c p k → p ≡ 0
  sees-0 (b.sees x h l le) = omega (arith, at-0 x, lead-0 l)

  runs : (n : ℕ) (last : Bool) → RunsThrough g n last
  runs n last i s = none s.1
    where
      none : {number : ℕ} → Stops g n last i number → ⊥
      none (b.lead-past h r x k l p) = omega (arith, at-0 x, lead-0 l)
      none (b.move-past h r s a p) = omega (arith, sees-0 s, stays a)
      none (b.off-boundary h t e r s o) = omega (arith, kind_0 i)

  settled : (n : ℕ) → Not (Unresolved g n)
  settled n (b.label {i} h k r s) = omega (arith, kind_0 i)
  settled n (b.by_state {i} h k r e) = omega (arith, kind_0 i)

  -- ---- nothing is placed

  no-offer : {r i x m : ℕ} → Not (Offer g r i x m)
  no-offer {i = i} (b.offer h k l s o n) = omega (arith, kind_0 i)

  unplaced : (i : ℕ) → Not (Placed g i)
  unplaced i p = ⊎_elim (λ e. omega (arith, kind_0 i)) (λ e. omega (arith, kind_0 i, e.0)) p.1

  none-refused : (r i : ℕ) → Not (Refuses g r i)
  none-refused r i t = by t.3
    where
      by : {number place second : ℕ} → Not (Why g r i number place second)
      by (b.bank-0 p h c) = unplaced i p
      by (b.past-size p s x m h) = unplaced i p
      by (b.no_output h w x n) = omega (arith, kind_0 i, w.0)
      by (b.overlaps o v) = no-offer o
      by (b.full o s f) = no-offer o

  only-0 : {c l : ℕ} → Inherited g c l → l ≡ 0
  only-0 b.no-bank-yet = refl
  only-0 (b.raised {b = c} i (f, s, o) h k) = absurd (omega (arith, no_flag c))
  only-0 (b.reached {b = c} i (f, s, o) h k) = absurd (omega (arith, no_flag c))
  only-0 (b.not-filled i n) = only-0 i

  reaches : {r : ℕ} (e : ℕ) → Reaches g r e → e ≤ 0
  reaches e b.nothing = omega arith
  reaches e (b.inherited f i) = omega (arith, only-0 i)
  reaches e (b.full {b = c} f h (x, s, o)) = absurd (omega (arith, no_flag c))
  reaches e (b.by-item v o) = absurd (no-offer o)

  spans-0 : (i : ℕ) → Spans g i 0
  spans-0 zero = b.before-all
  spans-0 (suc i) = b.no_span (spans-0 i) (⊎_elim (λ e. omega (arith, kind_0 i)) (λ e. omega (arith, kind_0 i, e.0)))

  in-0 : (i : ℕ) → In g i 0
  in-0 zero = b.first (λ (e : kind g 0 ≡ 1). omega (arith, kind_0 0))
  in-0 (suc i) = b.same (λ (e : kind g (suc i) ≡ 1). omega (arith, kind_0 (suc i))) (in-0 i)

  stands : (r i c : ℕ) → BankAt g r i c (record { position = 0; known = true; lost = losing 0 0 })
  stands r zero c = b.begins
  stands r (suc i) zero =
      b.moves {lead = 0} {d = 0} (stands r i 0) (in-0 i) (b.unaligned (λ s. no_symbol i s.0)) (omega arith) (b.stays (inl (omega (arith, kind_0 i))))
      (omega arith) (b.left (inl (omega (arith, kind_0 i)))) (b.by-lead (λ e. omega (arith, kind_0 i))) (sym (loses-none (unit g 0) (losing 0 0)))
  stands r (suc i) (suc c) = b.keeps (stands r i (suc c)) (λ x. let e = in_one g x (in-0 i) in omega arith)

  module _ (old : Lent) where
    -- the outcome of an accepted one, with K and the passes run
    abbrev pub accepted : ℕ → ℕ → Outcome
    accepted k passes = record {
      answer = record { refusal = 0; place = 0; second = 0; passes = passes; k = k; length = 0; spans = 0; padding = replicate 16 (losing 0 0) };
      lent = record { image = replicate (length old.image) 0; addresses = old.addresses; offsets = old.offsets; sizes = old.sizes };
    }

    left : (r : ℕ) → Left g old r 0 0 (accepted 0 0).lent
    left r =
        record {
          as_long = (length-replicate (length old.image) 0, refl, refl, refl);
          bytes = zeros-bytes (length old.image);
          item-bit = λ i x m bit v o. absurd (no-offer o);
          fill-bit = λ bit c n range. absurd (omega (arith, range.7));
          zero_bit = λ bit n h. zeros-bit (length old.image) bit;
          span = λ at h. absurd (omega arith);
          rest = λ at h. (refl, refl, refl);
        }

    padding : (r : ℕ) → Padding g r (replicate 16 (losing 0 0))
    padding r = (
      length-replicate {A = Lost} 16 (losing 0 0),
      λ c h. (_, stands r (nodes g) c, get_or-replicate 16 c (losing 0 0) (losing 0 0) h),
    )

    built : fill ≤ 1 → {k n r : ℕ} → LastPass g k n → Reads g n r → Laid g old (accepted k n)
    built h {k} {n} {r} last reads =
        b.built last (runs n true) (settled n) reads
        (b.placed (none-refused r) (b.nothing, reaches) (spans-0 (nodes g))
        (w.passed (λ x l. omega arith) (w.passed (λ x l. ⊎_elim (λ y. omega arith) (λ y. ⊎_elim (λ z. omega arith) (λ z. omega arith) y) l)
        (b.accepts (padding r) (left r)))))

    reads_of : 1 ≤ rows → (n : ℕ) → (r : ℕ) × Reads g (suc n) r
    reads_of h n = ⊎_elim (λ (l : suc n ≤ rows). (n, b.own refl l)) (λ (l : rows < suc n). at_last rows refl l) (le-or-lt (suc n) rows)
      where
        at_last : (m : ℕ) → rows ≡ m → rows < suc n → (r : ℕ) × Reads g (suc n) r
        at_last zero e l = absurd (omega arith)
        at_last (suc m) e l = (m, b.last_row l e)

    -- Within the limits it is accepted. "P all resolved: limits 0, 1, 2 give K 0, 1, 1 and run 1, 1, 2", every limit above 2 as 2.
    module _ (least : 1 ≤ count) (most : count ≤ 16) (near : nat_abs from ≤ 1099511627776) (few : size ≤ 4096) (some : 1 ≤ rows) (low : rows ≤ 16)
        (byte : limit ≤ 255) (known : fill ≤ 1) where
      checked : {o : Outcome} → Laid g old o → BuildSays g old o
      checked l =
          w.passed (λ x n. there least most n)
          (w.passed (λ c f. good near c (let k = f.so.0 in omega (arith, as_many)) f.so.1)
          (w.passed (λ p f. apart p.0 p.1 f.so)
          (w.passed (λ f x. fields few some low byte known f x.so)
          (w.passed (λ i f. listed i f.so.1) l))))

      pub accepted-0 : limit ≡ 0 → BuildSays g old (accepted 0 1)
      accepted-0 e = checked (built known (b.limit-zero e) (reads_of some 0).1)

      pub accepted-1 : limit ≡ 1 → BuildSays g old (accepted 1 1)
      accepted-1 e =
          checked (built known (subst (λ (m : ℕ). LastPass g m m) e (b.at-limit (omega arith) (λ j h l. absurd (omega arith)))) (reads_of some 0).1)

      pub accepted-2 : 2 ≤ limit → BuildSays g old (accepted 1 2)
      accepted-2 h =
          checked (built known (b.below (omega arith) (omega arith) (λ j k l. absurd (omega arith)) (runs 1 false) (settled 1)) (reads_of some 1).1)

    -- ---- one past each limit

    pub refused-banks : (count < 1) ⊎ (16 < count) → (o : Outcome) → BuildSays g old o → o ≡ refusal g old 1 0 0 0
    refused-banks h o s =
        refused-1 g old o s (⊎_elim (λ (l : count < 1). b.too_few (omega (arith, as_many))) (λ (l : 16 < count). b.too_many (omega (arith, as_many))) h)

    pub refused-start : 1 ≤ count → count ≤ 16 → 1099511627776 < nat_abs from → (o : Outcome) → BuildSays g old o → o ≡ refusal g old 2 0 0 0
    refused-start h l far o s =
        let same = ap nat_abs (get_or-replicate count 0 from (pos 0) h) in
        refused-2 g old o s (there h l) 0 (record { so = (omega (arith, as_many), b.beyond (bank.start-far (omega arith))); none_below = λ k x. omega arith })

    module _ (least : 1 ≤ count) (most : count ≤ 16) (near : nat_abs from ≤ 1099511627776) where
      pass : BanksPass g old
      pass = record { there = there least most; good = λ c h. good near c (omega (arith, as_many)); apart = apart }

      pub refused-nodes : 4096 < size → (o : Outcome) → BuildSays g old o → o ≡ refusal g old 4 0 0 0
      refused-nodes h o s =
          refused-4-field g old o s pass 0 (record { so = b.nodes-many (omega (arith, nodes-are)); none_below = λ k x. omega arith })

      pub refused-rows : size ≤ 4096 → (rows < 1) ⊎ (16 < rows) → (o : Outcome) → BuildSays g old o → o ≡ refusal g old 4 1 0 0
      refused-rows few h o s =
          refused-4-field g old o s pass 1 (record {
            so = ⊎_elim (λ (l : rows < 1). b.no_rows l) (λ (l : 16 < rows). b.rows-many l) h;
            none_below = not-0;
          })
        where
          not-0 : (k : ℕ) → BadField g k → 1 ≤ k
          not-0 k (b.nodes-many h) = absurd (omega (arith, nodes-are))
          not-0 k (b.operands-differ n) = absurd (n (length-replicate size 0 ∙ sym nodes-are))
          not-0 k (b.no_rows h) = omega arith
          not-0 k (b.rows-many h) = omega arith
          not-0 k (b.numbers-differ n) = omega arith
          not-0 k (b.states-differ n) = omega arith
          not-0 k (b.limit-past h) = omega arith
          not-0 k (b.fill-unknown h) = omega arith

      -- Ticket 8: "4 for an unknown choice, after the limit (field 3)"
      pub refused-choice : size ≤ 4096 → 1 ≤ rows → rows ≤ 16 → limit ≤ 255 → 1 < fill → (o : Outcome) → BuildSays g old o → o ≡ refusal g old 4 3 0 0
      refused-choice few some low byte h o s =
          refused-4-field g old o s pass 3 (record { so = b.fill-unknown h; none_below = last-field })
        where
          last-field : (k : ℕ) → BadField g k → 3 ≤ k
          last-field k (b.nodes-many h) = absurd (omega (arith, nodes-are))
          last-field k (b.operands-differ n) = absurd (n (length-replicate size 0 ∙ sym nodes-are))
          last-field k (b.no_rows h) = absurd (omega arith)
          last-field k (b.rows-many h) = absurd (omega arith)
          last-field k (b.numbers-differ d) = absurd (d (length-replicate (rows * size) 0 ∙ ap (λ (x : ℕ). rows * x) (sym nodes-are)))
          last-field k (b.states-differ d) = absurd (d (length-replicate (rows * size) 0 ∙ ap (λ (x : ℕ). rows * x) (sym nodes-are)))
          last-field k (b.limit-past h) = absurd (omega arith)
          last-field k (b.fill-unknown h) = omega arith
