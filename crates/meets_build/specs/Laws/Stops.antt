-- A pass that meets 5 or 7, and one that meets neither: the first node that stops the library's pass is the first that the sentences say, with their
-- number; a pass that goes past every node runs to its end.
use Rattle.std.specs.Prelude.{◌≡◌, refl, Bool, true, false, ◌⊎◌, ℕ, zero, suc, ◌+◌, ◌-◌, ◌%◌, ◌≤◌, ◌<◌, min, get_or, Ok, Err}
use Rattle.std.proofs.Common.{sym, ap, subst, ◌∙◌, inl, inr, ⊎_elim, arith}
use Rattle.prelude.specs.Refusals.{number_of, place_of}
use Rattle.prelude.specs.declared.Place.TheVariants.{One}
use Rattle.prelude.specs.declared.Refusal.{Refusal}
use Rattle.prelude.specs.declared.Refusal.TheVariants.{PositionPast, LabelOffBoundary, Malformed}
use Rattle.bankdef.specs.declared.Bankdefs.{Bankdefs}
use Rattle.iter.specs.AdvanceFacts as facts
use Rattle.iter.specs.AdvanceFacts.{AddsBits, PassesLimit, SightPasses}
use Rattle.iter.specs.Step.{origin, seen_of}
use Rattle.iter.specs.StepCases.{standing}
use Rattle.iter.specs.declared.Lost.{Lost}
use Rattle.iter.specs.declared.Pos.{Pos}
use Rattle.nodes.specs.Theorems.Sound.{accepted-lists}
use Rattle.resolver.specs.Laws.Least.{or-past}
use Rattle.resolver.specs.Layout.{Checked}
use Rattle.resolver.specs.Theorems.NeverFour.{never-four}
use Rattle.resolver.specs.NodeOrder.{seen_at, def_at, GoesPast, OffBoundary}
use Rattle.resolver.specs.Theorems.NodeOrder.{StopsAt, MeetsFirst}
use Rattle.resolver.specs.Once.{Program}
use Rattle.resolver.specs.Passes.{row_of_pass}
use Rattle.resolver.specs.PositionPast.{WouldPass}
use Rattle.resolver.specs.Laws.PositionPast.{step-five-only}
use Rattle.resolver.specs.Laws.StepRefusals.{Refusable, step-refusals}
use Rattle.says.specs.Words.{First}
use Rattle.says.specs.Build as says
use Rattle.says.specs.Build.{Given, nodes, kind, unit, In, Lead, Advance, Standing, BankAt, Sees, Reads, Stops, Stopped, RunsThrough}
use Rattle.meets_sentences.specs.Laws.One.{in_one, lead-one, advance-one, at_one, sees-one, reads-one}
use Rattle.meets_build.specs.Laws.Shown.{Shown, Tells, listed, walked, row_no, node_no, number_is, distance_is}
use Rattle.meets_build.specs.Laws.Walk.{AtIn, walk_no, bank_no, Goes, stands-in, one-of-16, tells-here, at-walk, sees-walk, sees-seen}

-- ---- from the sentences alone

module _ (g : Given) where
  -- a bank that is somewhere after its node was not stopped there, by the bits skipped
  not-lead : {r i c d : ℕ} {at new : Standing} → BankAt g r (suc i) c new → In g i c → BankAt g r i c at → Lead g i c at.position d
      → 4294967295 < at.position + d → ⊥
  not-lead (says.keeps x n) h y l past = n h
  not-lead (says.moves {lead = d'} x h' l' le adv low kn los sum) h y l past =
      let e = at_one g x y in
      omega (arith, e.0, lead-one g (rw e.0 at l') l)

  -- nor by its own advance
  not_move : {r i c d z : ℕ} {at new : Standing} → BankAt g r (suc i) c new → In g i c → BankAt g r i c at → Lead g i c at.position d
      → Advance g r i c (at.position + d) z → 4294967295 < z → ⊥
  not_move (says.keeps x n) h y l v past = n h
  not_move {d = d} {at = at} (says.moves {lead = d'} {at = was} x h' l' le adv low kn los sum) h y l v past =
      let e = at_one g x y in
      let lead = lead-one g (rw e.0 at l') l in
      let seen : was.position + d' ≡ at.position + d = omega (arith, e.0) in
      omega (arith, low, advance-one g (rw seen at adv) v)

-- ---- the row of a pass

module _ (g : Given) (some : 1 ≤ g.rows) where
  -- "Pass n reads row n, or the last row if there are fewer."
  pub reads : (n : ℕ) → 1 ≤ n → Reads g n (min n g.rows - 1)
  reads n h = ⊎_elim (λ (l : n ≤ g.rows). says.own (omega arith) l) (λ (l : g.rows < n). says.last_row l (omega arith)) (or-past n g.rows)

module _ (g : Given) (banks : Bankdefs) (shown : Shown g banks) (c : Checked banks (listed g) g.fill) (n : ℕ) (counted : 1 ≤ n) where
  abbrev p : Program
  p = walked g banks

  abbrev pub row_for : ℕ
  row_for = min n g.rows - 1

  abbrev r : ℕ
  r = row_for

  some-rows : 1 ≤ g.rows
  some-rows = (accepted-lists banks.len (listed g) g.fill c.lists).rows.some

  pub reads-row : Reads g n r
  reads-row = reads g some-rows n counted

  goes_of : (last : Bool) (i : ℕ) → ((j : ℕ) → j < i → GoesPast p (row_of_pass (listed g) n) last j) → Goes g banks shown c r i
  goes_of last i all j h = ((all j h).now, (all j h).seen)

  -- ---- a node that stops the pass

  adds-past : (last : Bool) (i : ℕ) → i < nodes g → Goes g banks shown c r i → (now : Pos)
      → seen_of (def_at p (row_no g banks r) i) (standing (walk_no g banks shown c r i) (node_no g banks r i)) (node_no g banks r i) ≡ Ok now → {bits : ℕ}
      → AddsBits (def_at p (row_no g banks r) i) now (node_no g banks r i) bits → 4294967295 < now.position + bits → Stops g n last i 5
  adds-past last i h w now e (facts.number k l) past =
      says.move-past h reads-row (sees-walk g banks shown c r i h w now e) (says.adds k l (number_is g banks r i h)) past
  adds-past last i h w now e (facts.distance k s f) past =
      says.move-past h reads-row (sees-walk g banks shown c r i h w now e)
      (says.aligns k (number_is g banks r i h)
      (distance_is g (bank_no g banks shown c r i) (def_at p (row_no g banks r) i) (tells-here g banks shown c r i h w) now.position
      (node_no g banks r i).number i s f)) past

  would-stop : (last : Bool) (i : ℕ) → i < nodes g → Goes g banks shown c r i
      → WouldPass (def_at p (row_no g banks r) i) (walk_no g banks shown c r i) (node_no g banks r i) → Stops g n last i 5
  would-stop last i h w (inl s) =
      says.lead-past h reads-row (at-walk g banks shown c r i (omega arith) w (bank_no g banks shown c r i) (one-of-16 g banks shown c r i h w))
      (stands-in g banks shown c r i w)
      (says.symbol s.symbol.0 s.symbol.1 ((tells-here g banks shown c r i h w).aligned s.align s.has-align)
      (distance_is g (bank_no g banks shown c r i) (def_at p (row_no g banks r) i) (tells-here g banks shown c r i h w)
      (standing (walk_no g banks shown c r i) (node_no g banks r i)).position s.align i s.skips s.has-skips))
      s.past
  would-stop last i h w (inr x) = adds-past last i h w x.0 x.1 x.2.adds x.2.past

  -- What the walk is stopped for at a node that it comes to is 5.
  five-only : (last : Bool) (i : ℕ) → i < nodes g → ((j : ℕ) → j < i → GoesPast p (row_of_pass (listed g) n) last j) → (why : Refusal)
      → seen_at p (row_of_pass (listed g) n) i ≡ Err why → why ≡ PositionPast i
  five-only last i h all why e =
      ⊎_elim (λ (m : why ≡ Malformed i). absurd (never-four banks (listed g) c shown.whole n i last h all why e (ap number_of m)))
      (λ (m : why ≡ PositionPast i). m)
      (step-refusals (def_at p (row_no g banks r) i) (node_no g banks r i) (walk_no g banks shown c r i) why e)

  -- the position that a label sees, in the bank's units
  off-here : (last : Bool) (i : ℕ) → i < nodes g → Goes g banks shown c r i → last ≡ true → OffBoundary p (row_of_pass (listed g) n) i → Stops g n last i 7
  off-here last i h w is_last o =
      says.off-boundary h is_last o.label reads-row (sees-seen g banks shown c r i h w o.now o.seen)
      (λ e. o.off (subst (λ (u : ℕ). o.now.position % u ≡ 0) (sym (tells-here g banks shown c r i h w).of-unit) e))

  stop-here : (last : Bool) (i : ℕ) → i < nodes g → ((j : ℕ) → j < i → GoesPast p (row_of_pass (listed g) n) last j) → (why : Refusal)
      → StopsAt p (row_of_pass (listed g) n) last i why → Stops g n last i (number_of why) × (place_of why ≡ One i)
  stop-here last i h all why (inl e) =
      let is = five-only last i h all why e in
      let w = goes_of last i all in
      let s = would-stop last i h w (step-five-only (def_at p (row_no g banks r) i) (walk_no g banks shown c r i) (node_no g banks r i) (e ∙ ap Err is)) in
      rw is (s, refl)
  stop-here last i h all why (inr x) = rw x.2 (off-here last i h (goes_of last i all) x.0 x.1, refl)

  -- ---- a node that doesn't

  -- where the walk is after a node, in the node's bank
  at_next : (i : ℕ) → i < nodes g → Goes g banks shown c r (suc i) → (new : Standing) × BankAt g r (suc i) (bank_no g banks shown c r i) new
  at_next i h w =
      let before : Goes g banks shown c r i = λ j k. w j (omega arith) in
      (_, at-walk g banks shown c r (suc i) h w (bank_no g banks shown c r i) (one-of-16 g banks shown c r i h before))

  -- A node that the pass goes past does not stop it.
  pub no_stop : (last : Bool) (i number : ℕ) → i < nodes g → ((j : ℕ) → j < suc i → GoesPast p (row_of_pass (listed g) n) last j) → Stops g n last i number → ⊥
  no_stop last i number h all (says.lead-past l reads-it at-it stands-it lead past) =
      let w = goes_of last (suc i) all in
      let before : Goes g banks shown c r i = λ j k. w j (omega arith) in
      let bank = in_one g stands-it (stands-in g banks shown c r i before) in
      let row = reads-one g reads-it reads-row in
      let x = at_next i h w in
      not-lead g (rw (← bank, ← row) at x.1) stands-it at-it lead past
  no_stop last i number h all (says.move-past l reads-it (says.sees at-it stands-it lead le) moves past) =
      let w = goes_of last (suc i) all in
      let before : Goes g banks shown c r i = λ j k. w j (omega arith) in
      let bank = in_one g stands-it (stands-in g banks shown c r i before) in
      let row = reads-one g reads-it reads-row in
      let x = at_next i h w in
      not_move g (rw (← bank, ← row) at x.1) stands-it at-it lead moves past
  no_stop last i number h all (says.off-boundary l is_last label reads-it sight off) =
      let this = all i (omega arith) in
      let w = goes_of last (suc i) all in
      let before : Goes g banks shown c r i = λ j k. w j (omega arith) in
      let row = reads-one g reads-it reads-row in
      let same = sees-one g (rw row at sight) (sees-seen g banks shown c r i h before this.now this.seen) in
      off (on-boundary same.1 (ap (unit g) same.0 ∙ sym (tells-here g banks shown c r i h before).of-unit) (this.on is_last label))
    where
      on-boundary : {x y u v : ℕ} → x ≡ y → u ≡ v → y % v ≡ 0 → x % u ≡ 0
      on-boundary e f k = rw (e, f) k

  -- ---- what is promised

  -- A pass that goes past every node runs to its end.
  pub runs-meets : (last : Bool) → ((i : ℕ) → i < nodes g → GoesPast p (row_of_pass (listed g) n) last i) → RunsThrough g n last
  runs-meets last all i s =
      let h = stopped-listed s.1 in
      no_stop last i s.0 h (λ j k. all j (omega arith)) s.1
    where
      stopped-listed : {number : ℕ} → Stops g n last i number → i < nodes g
      stopped-listed (says.lead-past l a b d e f) = l
      stopped-listed (says.move-past l a b d e) = l
      stopped-listed (says.off-boundary l a b d e f) = l

  -- The first node that the pass meets 5 or 7 at is the first that stops it, with that number and the node as its place.
  pub stops-meets : (last : Bool) (i : ℕ) (why : Refusal) → MeetsFirst p (row_of_pass (listed g) n) last (nodes g) i why
      → First (Stopped g n last) i × Stops g n last i (number_of why) × (place_of why ≡ One i)
  stops-meets last i why m =
      let s = stop-here last i m.listed m.before why m.here in (
        record {
          so = (number_of why, s.0);
          none_below = λ k x.
              ⊎_elim (λ (l : i ≤ k). l)
              (λ (l : k < i). absurd (no_stop last k x.0 (omega (arith, m.listed)) (λ j e. m.before j (omega arith)) x.1))
              (or-past i k);
        },
        s.0,
        s.1,
      )
