-- The walk of a row that no node stops: the bank that each node stands in, and before each node each bank's position, its known-ness and the bits and whole
-- units that it has lost, are the ones that the sentences say; and so is what each node sees.
use Rattle.std.specs.Prelude.{◌≡◌, Bool, true, false, eqb, length, set, replicate, Ok}
use Rattle.std.proofs.Math.Path.{refl}
use Rattle.std.proofs.Common.{sym, ap, subst, ◌∙◌, div-le_self, arith, length-set, get_or-set_same, get_or-set_other, eqb-true, le-leb}
use Prim.Native.Nat.{ℕ, zero, suc, ◌+◌, ◌*◌, ◌/◌, ◌≤◌, ◌<◌}
use Rattle.std.proofs.Math.ListN.{get_or, get_or-replicate}
use Rattle.std.proofs.lemmas.Bool.{eqb-false}
use Rattle.prelude.specs.Laws.Bools.{either, unlike}
use Rattle.prelude.specs.Limits.{max_banks, max_nodes, max_position}
use Rattle.prelude.specs.Pick.{pick}
use Rattle.prelude.specs.Told.{Told, gives, refuses, told_number}
use Rattle.prelude.specs.Theorems.Told.{number-some}
use Rattle.prelude.specs.declared.Place.{Place}
use Rattle.bankdef.specs.declared.Bankdef.{Bankdef}
use Rattle.bankdef.specs.declared.Bankdefs.{Bankdefs}
use Rattle.bankdef.specs.Theorems.Refused.{accepted}
use Rattle.iter.specs.Figures.{told_moved}
use Rattle.iter.specs.Figures as told
use Rattle.iter.specs.Padding.{the-bits, the-units}
use Rattle.iter.specs.Step.{origin, no_lost, start_of, seen_of, bank_after, kept, lost_after, max_sum, step_of}
use Rattle.iter.specs.StepCases.{standing}
use Rattle.iter.specs.Laws.StepCases.{step-cases}
use Rattle.iter.specs.Theorems.StepFacts.{count_kept, sees-before}
use Rattle.iter.specs.Theorems.ToldFacts.{sight-told}
use Rattle.iter.specs.StepFigures as fig
use Rattle.iter.specs.StepFigures.{Steps, Counts}
use Rattle.iter.specs.Theorems.StepFigures.{step-told}
use Rattle.iter.specs.declared.Lost.{Lost}
use Rattle.nodes.specs.declared.Node.{Node}
use Rattle.iter.specs.declared.Pos.{Pos}
use Rattle.iter.specs.declared.Skipped.{Skipped}
use Rattle.iter.specs.declared.Stepped.{Stepped}
use Rattle.iter.specs.declared.Walk.{Walk}
use Rattle.nodes.specs.Theorems.Sound.{accepted-lists}
use Rattle.resolver.specs.Theorems.LabelStates.{switched_to, bank-by-switches}
use Rattle.resolver.specs.Layout.{Checked}
use Rattle.resolver.specs.NodeOrder.{seen_at, def_at, GoesPast}
use Rattle.resolver.specs.Once.{Program, node, walk_to, bank_record}
use Rattle.resolver.specs.Laws.Padding.{Walks}
use Rattle.resolver.specs.Padding.{padding_to}
use Rattle.resolver.specs.Theorems.Padding.{padding-bounded, walk-carries-padding}
use Rattle.resolver.specs.Theorems.PositionPast.{listed-switches}
use Rattle.says.specs.Build as says
use Rattle.says.specs.Build.{Given, losing, unit, nodes, kind, operand, In, Number, Distance, Lead, Advance, Known, Loses, BankAt, Sees}
use Rattle.meets_sentences.specs.Grounds.{stands_at}
use Rattle.meets_sentences.specs.Laws.One.{in_one, lead-one, advance-one}
use Rattle.meets_build.specs.Laws.Shown.{Shown, listed, walked, row_no, node_no, Tells, number_is}
use Rattle.meets_build.specs.Laws.OneNode.{Sight, Own, sight-of, own_of, lead-lost, own-lost, lead-units, own-units}

-- ---- "The walk begins in bank 0."

module _ (g : Given) (banks : Bankdefs) where
  -- The bank that the switches up to node i say is the one that node i stands in.
  pub in-switched : (i : ℕ) → In g i (switched_to (walked g banks) (suc i))
  in-switched zero =
      either (eqb (kind g 0) 1) (λ e. rw e (says.switched (eqb-true (kind g 0) 1 e))) (λ e. rw e (says.first (eqb-false (kind g 0) 1 e)))
  in-switched (suc i) =
      either (eqb (kind g (suc i)) 1)
      (λ e. rw e (says.switched (eqb-true (kind g (suc i)) 1 e)))
      (λ e. rw e (says.same (eqb-false (kind g (suc i)) 1 e) (in-switched i)))

-- ---- the step

apart : {p : Pos} {n : ℕ} {place : Place} → ◌≡◌ {A = Told Pos} (refuses n place) (gives p) → ⊥
apart e = unlike cc

-- bank j in a walk, as the sentences say it before node i of row r
abbrev pub AtIn : Given → ℕ → ℕ → ℕ → Walk → Type 0
AtIn g r i j w = BankAt g r i j (stands_at (get_or w.at j origin).position (get_or w.at j origin).known (get_or w.lost j no_lost))

-- and within the limit
abbrev pub Good : Given → ℕ → ℕ → ℕ → Walk → Type 0
Good g r i j w = AtIn g r i j w × ((get_or w.at j origin).position ≤ 4294967295)

module _ (g : Given) (banks : Bankdefs) (shown : Shown g banks) (r i : ℕ) (h : i < nodes g) (w : Walk) where
  abbrev n : Node
  n = node_no g banks r i

  abbrev bank : ℕ
  bank = bank_after w.bank n

  abbrev at : Pos
  at = get_or w.at bank origin

  abbrev was : Lost
  was = get_or w.lost bank no_lost

  module _ (def : Bankdef) (tells : Tells g bank def) (stands : In g i bank) (here : AtIn g r i bank w) (small : at.position ≤ 4294967295) where
    -- what a node sees
    seen_by : (p : Pos) → Sight g banks r i bank h def tells at p → Sees g r i bank p.position p.known
    seen_by p x =
        let small-p = x.within small in
        let sum = x.sum in
        let s : Sees g r i bank (at.position + x.lead) at.known = says.sees here stands x.is (omega arith) in
        subst (Sees g r i bank p.position) (sym x.known) (subst (λ (k : ℕ). Sees g r i bank k at.known) (sym sum) s)

    pub sees-of : (p : Pos) {t : Told Pos} → told.Sees def at n t → t ≡ gives p → Sees g r i bank p.position p.known
    sees-of p s e = seen_by p (sight-of g banks r i bank h def tells at p s e)

    loses-of : (p q : Pos) (s : Skipped) (x : Sight g banks r i bank h def tells at p) → Own g banks r i bank h def tells p q → Counts def at p q n s
        → Loses g i x.lead p.position q.position s.bits
    loses-of p q s x y (fig.own k o) =
        let moved = advance-one g y.advance (says.aligns k (number_is g banks r i h) (own-lost g banks r i bank h def tells p q k o refl)) in
        says.by-align k (sym moved)
    loses-of p q s x y (fig.sight k o) =
        subst (Loses g i x.lead p.position q.position) (lead-one g x.is (lead-lost g banks r i bank h def tells at p o refl)) (says.by-lead k)

    -- the whole units in the bits lost
    units_of : (p q : Pos) (s : Skipped) → Counts def at p q n s → s.units ≡ s.bits / unit g bank
    units_of p q s (fig.own k o) = own-units g banks r i bank h def tells p o
    units_of p q s (fig.sight k o) = lead-units g banks r i bank h def tells at o

    -- the bits lost are within the limit
    lost-small : {p q lead l : ℕ} → p ≡ at.position + lead → p ≤ 4294967295 → q ≤ 4294967295 → Loses g i lead p q l → l ≤ 4294967295
    lost-small sum a c (says.by-align e moved) = omega arith
    lost-small sum a c (says.by-lead k) = omega arith

    record Made (q : Pos) (s : Skipped) : Type 0 where
      at_next : BankAt g r (suc i) bank (stands_at q.position q.known (losing (was.bits + s.bits) (was.units + s.units)))
      small-next : q.position ≤ 4294967295
      small-lost : s.bits ≤ 4294967295
      small_units : s.units ≤ s.bits

    made-from : (p q : Pos) (s : Skipped) (x : Sight g banks r i bank h def tells at p) → Own g banks r i bank h def tells p q
        → Loses g i x.lead p.position q.position s.bits → s.units ≡ s.bits / unit g bank → Made q s
    made-from p q s x y l u =
        let small-p = x.within small in
        let small-q = y.within small-p in
        let sum = x.sum in
        record {
          at_next =
              says.moves {d = s.bits} here stands x.is (omega arith) (subst (λ (k : ℕ). Advance g r i bank k q.position) sum y.advance) small-q
              (subst (λ (k : Bool). Known g r i k q.known) x.known y.known)
              (subst (λ (k : ℕ). Loses g i x.lead k q.position s.bits) sum l) (ap (λ (k : ℕ). losing (was.bits + s.bits) (was.units + k)) u);
          small-next = small-q;
          small-lost = lost-small sum small-p small-q l;
          small_units = rw u (div-le_self s.bits (unit g bank));
        }

    made_of : (p q : Pos) (s : Skipped) → told.Sees def at n (gives p) → told.Advances def p n (gives q) → Counts def at p q n s → Made q s
    made_of p q s sees moves counts =
        let x = sight-of g banks r i bank h def tells at p sees refl in
        let y = own_of g banks r i bank h def tells shown.typed p q moves refl in
        made-from p q s x y (loses-of p q s x y counts) (units_of p q s counts)

  put : (j : ℕ) (q now : Pos) (l lost : Lost) → now ≡ q → lost ≡ l → BankAt g r (suc i) j (stands_at q.position q.known l)
      → BankAt g r (suc i) j (stands_at now.position now.known lost)
  put j q now l lost e f x = rw (e, f) x

  unstopped : (l : Lost) (s : Skipped) → l.bits + s.bits ≤ max_sum → l.units + s.units ≤ max_sum
      → lost_after l s ≡ losing (l.bits + s.bits) (l.units + s.units)
  unstopped l s h k = rw (le-leb (l.bits + s.bits) max_sum h, le-leb (l.units + s.units) max_sum k)

  module _ (def : Bankdef) (tells : Tells g bank def) (stands : In g i bank) (before : (j : ℕ) → j < 16 → Good g r i j w) (places : length w.at ≡ 16)
      (sums : length w.lost ≡ 16) (room : (was.bits + 4294967295 ≤ max_sum) × (was.units + 4294967295 ≤ max_sum)) where
    pub after : (now : Pos) {t : Told Pos} {s : Skipped} {v : Walk} → Steps def w n t s v → t ≡ gives now → (j : ℕ) → j < 16 → Good g r (suc i) j v
    after now (fig.nowhere k) e j jn = absurd (apart e)
    after now (fig.badly k l) e j jn = absurd (apart e)
    after now (fig.blind k l x) e j jn = absurd (apart e)
    after now (fig.stuck k l p x y) e j jn = absurd (apart e)
    after now (fig.made inside sound p q s sees moves counts) e j jn =
        let m = made_of def tells stands (before bank inside).0 (before bank inside).1 p q s sees moves counts in
        let small-lost = m.small-lost in
        let small_units = m.small_units in
        either (eqb j bank)
        (λ y.
        let same : j ≡ bank = eqb-true j bank y in
        let place : get_or (set w.at bank q) bank origin ≡ q = get_or-set_same w.at bank q origin (omega arith) in
        let total = lost_after was s in
        let sum : get_or (set w.lost bank total) bank no_lost ≡ losing (was.bits + s.bits) (was.units + s.units) =
        get_or-set_same w.lost bank total no_lost (omega arith) ∙ unstopped was s (omega (arith, room.0)) (omega (arith, room.1)) in
        subst (λ (k : ℕ). Good g r (suc i) k (kept w bank q s)) (sym same)
        (put bank q _ _ _ place sum m.at_next, subst (λ (x : Pos). x.position ≤ 4294967295) (sym place) m.small-next))
        (λ y.
        let other = eqb-false j bank y in
        let total = lost_after was s in
        let place : get_or (set w.at bank q) j origin ≡ get_or w.at j origin = get_or-set_other w.at bank j q origin other in
        let sum : get_or (set w.lost bank total) j no_lost ≡ get_or w.lost j no_lost = get_or-set_other w.lost bank j total no_lost other in (
          put j _ _ _ _ place sum (says.keeps (before j jn).0 (λ x. other (in_one g x stands))),
          subst (λ (x : Pos). x.position ≤ 4294967295) (sym place) (before j jn).1,
        ))

-- ---- the walk

lost-kept : (def : Bankdef) (walk : Walk) (n : Node) → length (step_of def walk n).walk.lost ≡ length walk.lost
lost-kept def walk n =
    step-cases def walk n (λ (x : Stepped). length x.walk.lost ≡ length walk.lost) (λ why. refl)
    (λ s q e a. length-set walk.lost (bank_after walk.bank n) _)

false-true : {X : Type 0} → false ≡ true → X
false-true e = absurd (let z : ◌≡◌ {A = ℕ} 0 1 = cc in let b : ⊥ = omega arith in b)

module _ (g : Given) (banks : Bankdefs) (shown : Shown g banks) (c : Checked banks (listed g) g.fill) (r : ℕ) where
  abbrev p : Program
  p = walked g banks

  abbrev pub walk_no : ℕ → Walk
  walk_no i = walk_to p (row_no g banks r) i

  -- the bank that the walk has node i in
  abbrev pub bank_no : ℕ → ℕ
  bank_no i = bank_after (walk_no i).bank (node_no g banks r i)

  many-lost : (i : ℕ) → length (walk_no i).lost ≡ max_banks
  unfolding walk_to start_of
  many-lost zero = refl
  many-lost (suc i) = lost-kept (def_at p (row_no g banks r) i) (walk_no i) (node_no g banks r i) ∙ many-lost i

  many-at : (i : ℕ) → length (walk_no i).at ≡ max_banks
  unfolding walk_to start_of
  many-at zero = refl
  many-at (suc i) = count_kept (def_at p (row_no g banks r) i) (walk_no i) (node_no g banks r i) ∙ many-at i

  few : nodes g ≤ max_nodes
  few = (accepted-lists banks.len (listed g) g.fill c.lists).few

  -- No node before node i stops the walk.
  abbrev pub Goes : ℕ → Type 0
  Goes i = Walks p (row_no g banks r) i

  switched-to : (i : ℕ) → Goes i → bank_no i ≡ switched_to p (suc i)
  switched-to i w =
      ap (λ (b : ℕ). bank_after b (node_no g banks r i))
      (bank-by-switches p (row_no g banks r) false i (λ j k. let x = w j k in record { now = x.0; seen = x.1; on = λ e. false-true e }))

  -- The walk has each node in the bank that it stands in.
  pub stands-in : (i : ℕ) → Goes i → In g i (bank_no i)
  stands-in i w = subst (In g i) (sym (switched-to i w)) (in-switched g banks i)

  -- which is one of those given
  pub in_table : (i : ℕ) → i < nodes g → Goes i → bank_no i < banks.len
  in_table i h w = subst (λ (k : ℕ). k < banks.len) (sym (switched-to i w)) (listed-switches banks (listed g) c (suc i) h)

  pub one-of-16 : (i : ℕ) → i < nodes g → Goes i → bank_no i < 16
  one-of-16 i h w = omega (arith, in_table i h w, (accepted banks c.table).most)

  pub tells-here : (i : ℕ) → i < nodes g → Goes i → Tells g (bank_no i) (def_at p (row_no g banks r) i)
  tells-here i h w = shown.tells (bank_no i) (in_table i h w)

  room_for : (i : ℕ) → i < nodes g → Goes i → (b : ℕ)
      → ((get_or (walk_no i).lost b no_lost).bits + 4294967295 ≤ max_sum) × ((get_or (walk_no i).lost b no_lost).units + 4294967295 ≤ max_sum)
  room_for i h w b =
      let e = walk-carries-padding p (row_no g banks r) i b (omega (arith, few)) w in (
        enough (ap (λ (l : Lost). l.bits) e) (padding-bounded p (row_no g banks r) the-bits i b w) (omega (arith, few)),
        enough (ap (λ (l : Lost). l.units) e) (padding-bounded p (row_no g banks r) the-units i b w) (omega (arith, few)),
      )
    where
      enough : {x y : ℕ} → x ≡ y → y ≤ i * max_position → i ≤ 4096 → x + 4294967295 ≤ max_sum
      enough e h k = omega arith

  begins-at : (j : ℕ) → j < 16 → Good g r 0 j start_of
  unfolding start_of
  begins-at j jn =
      let place : get_or (replicate max_banks origin) j origin ≡ origin = get_or-replicate max_banks j origin origin jn in
      let sum : get_or (replicate max_banks no_lost) j no_lost ≡ no_lost = get_or-replicate max_banks j no_lost no_lost jn in
      rw (place, sum) (says.begins, omega arith)

  -- Before each node each bank is where the walk has it, as well known, and has lost what the walk counts.
  pub walk-good : (i : ℕ) → i ≤ nodes g → Goes i → (j : ℕ) → j < 16 → Good g r i j (walk_no i)
  unfolding walk_to
  walk-good zero h w j jn = begins-at j jn
  walk-good (suc i) h w j jn =
      let before : Goes i = λ k l. w k (omega arith) in
      let this = w i (omega arith) in
      after g banks shown r i h (walk_no i) (def_at p (row_no g banks r) i) (tells-here i h before) (stands-in i before) (walk-good i (omega arith) before)
      (many-at i) (many-lost i) (room_for i h before (bank_no i)) this.0
      (step-told (def_at p (row_no g banks r) i) (walk_no i) (node_no g banks r i)) (ap told_moved this.1) j jn

  pub at-walk : (i : ℕ) → i ≤ nodes g → Goes i → (j : ℕ) → j < 16 → AtIn g r i j (walk_no i)
  at-walk i h w j jn = (walk-good i h w j jn).0

  -- What node i sees in the walk is what it sees.
  pub sees-walk : (i : ℕ) → i < nodes g → Goes i → (now : Pos)
      → seen_of (def_at p (row_no g banks r) i) (standing (walk_no i) (node_no g banks r i)) (node_no g banks r i) ≡ Ok now
      → Sees g r i (bank_no i) now.position now.known
  sees-walk i h w now e =
      let x = walk-good i (omega arith) w (bank_no i) (one-of-16 i h w) in
      sees-of g banks shown r i h (walk_no i) (def_at p (row_no g banks r) i) (tells-here i h w) (stands-in i w) x.0 x.1 now
      (sight-told (def_at p (row_no g banks r) i) (standing (walk_no i) (node_no g banks r i)) (node_no g banks r i)) (ap told_moved e)

  pub sees-seen : (i : ℕ) → i < nodes g → Goes i → (now : Pos) → seen_at p (row_no g banks r) i ≡ Ok now → Sees g r i (bank_no i) now.position now.known
  sees-seen i h w now e = sees-walk i h w now (sees-before (def_at p (row_no g banks r) i) (walk_no i) (node_no g banks r i) now e)
