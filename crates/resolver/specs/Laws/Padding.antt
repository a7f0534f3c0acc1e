-- Laws that Theorems/Padding rests on.
use Rattle.std.specs.Prelude.{ℕ, zero, suc, ◌+◌, ◌/◌, ◌^◌, ◌<◌, ◌≤◌, ◌≡◌, refl, Bool, true, false, List, ◌⊎◌, eqb, leb, get_or, set, length, replicate, Ok, Err, Result, Option, None, Some}
use Rattle.std.proofs.Common.{sym, ◌∙◌, ap, inl, inr, ⊎_elim, div-le_self, arith, length-set, get_or-set_same, get_or-set_other, eqb-true, leb-true, leb-false, le-leb}
use Rattle.std.proofs.lemmas.Bool.{eqb-false, lt-leb}
use Rattle.prelude.specs.Laws.Bools.{either, neither, unlike}
use Rattle.prelude.specs.Limits.{max_banks, max_position}
use Rattle.prelude.specs.Pick.{pick}
use Rattle.prelude.specs.Told.{Told, gives, refuses, told_number}
use Rattle.prelude.specs.Theorems.Told.{number-some}
use Rattle.prelude.specs.declared.Place.{Place}
use Rattle.prelude.specs.declared.Refusal.{Refusal}
use Rattle.prelude.specs.declared.Refusal.TheVariants.{PositionPast, Malformed}
use Rattle.bankdef.specs.declared.Bankdef.{Bankdef}
use Rattle.iter.specs.Theorems.Advance.{bad-state, sound-state, other}
use Rattle.iter.specs.Theorems.AdvanceFacts.{advance-moves}
use Rattle.iter.specs.Distance.{tellable, address_in_bits, distance_to, skips_of, no_skip, distance_of}
use Rattle.iter.specs.Figures as told
use Rattle.iter.specs.Figures.{told_moved, Adds, Advances}
use Rattle.iter.specs.Padding.{Part, the-bits, the-units, lost_part, skipped_part, lost_in}
use Rattle.iter.specs.Laws.Padding.{part-after, step-whole}
use Rattle.iter.specs.Theorems.Padding.{sum-exact}
use Rattle.iter.specs.Step.{origin, no_lost, moved_by_distance, outermost_symbol, label_aligned, seen_of, bad_state, advanced_of}
use Rattle.iter.specs.Step.{skips_by, label_skips, seen_skips, advance_skips, sum_after, lost_after, bank_after, step_skips, step_of}
use Rattle.iter.specs.StepCases.{standing}
use Rattle.iter.specs.Laws.StepCases.{step-cases}
use Rattle.iter.specs.Theorems.StepFacts.{made-sound}
use Rattle.iter.specs.Laws.StepFacts.{sees_plain}
use Rattle.iter.specs.Theorems.ToldFacts.{advance-told}
use Rattle.iter.specs.declared.Lost.{Lost}
use Rattle.nodes.specs.Kinds.{size_of}
use Rattle.nodes.specs.declared.Node.{Node}
use Rattle.iter.specs.declared.Pos.{Pos}
use Rattle.iter.specs.declared.Skipped.{Skipped}
use Rattle.iter.specs.declared.Stepped.{Stepped}
use Rattle.iter.specs.declared.Walk.{Walk}
use Rattle.resolver.specs.Laws.Least.{or-past}
use Rattle.nodes.specs.Lists.{Row}
use Rattle.resolver.specs.NodeOrder.{def_at, seen_at}
use Rattle.resolver.specs.Once.{Program, node}
use Rattle.resolver.specs.Padding.{distance_in, label_loses, lost_by, sight_loses, stands_at, sum_in, padding_to}

-- what a node loses, in bits or in whole units
abbrev pub part_by : Part → Bankdef → ℕ → Node → ℕ
part_by the-bits def position n = lost_by def position n
part_by the-units def position n = lost_by def position n / def.unit

module _ (p : Program) (row : Row) where
  abbrev pub part_at : Part → ℕ → ℕ
  part_at part i = part_by part (def_at p row i) (stands_at p row i) (node p row i)

  -- a bank's padding, part by part
  pub padding-part : (part : Part) (bank n : ℕ) → lost_part part (padding_to p row bank n) ≡ sum_in p row (part_at part) bank n
  padding-part the-bits bank n = refl
  padding-part the-units bank n = refl

  abbrev pub size_at : ℕ → ℕ
  size_at i = size_of (node p row i)

  -- the bits of a bank's items and reserves
  abbrev pub sizes_to : ℕ → ℕ → ℕ
  sizes_to bank n = (sum_in p row) size_at bank n

  -- No node before node n stops the walk: each sees a position.
  abbrev pub Walks : ℕ → Type 0
  Walks n = (j : ℕ) → j < n → (now : Pos) × (seen_at p row j ≡ Ok now)

-- ---- one step

never-to : {why : Refusal} {s : Pos} → Err why ≡ Ok s → ⊥
never-to e = unlike cc

to_same : {a b : Pos} → ◌≡◌ {A = Result Pos Refusal} (Ok a) (Ok b) → a ≡ b
to_same e = cc

never-gives : {s : Pos} {n : ℕ} {place : Place} → 0 < n → refuses n place ≡ gives s → ⊥
never-gives {n = n} h e = let z : n ≡ 0 = ap (λ (t : Told Pos). told_number t) e in omega arith

-- a distance that is told has the bits of the definition
told-bits : (def : Bankdef) (position a index : ℕ) (t : Skipped) → distance_of def position a index ≡ Ok t → t.bits ≡ distance_in def position a
unfolding distance_of
told-bits def position a index t e = go (tellable def) e
  where
    skips-same : {s t : Skipped} → ◌≡◌ {A = Result Skipped Refusal} (Ok s) (Ok t) → s ≡ t
    skips-same e = cc

    go : (b : Bool) → pick b (Ok (skips_of def (distance_to (address_in_bits def position) a))) (Err (Malformed index)) ≡ Ok t
        → t.bits ≡ distance_to (address_in_bits def position) a
    go true f = ap (λ (s : Skipped). s.bits) (sym (skips-same f))
    go false f = absurd (let z : ◌≡◌ {A = ℕ} 0 1 = cc in let b : ⊥ = omega arith in b)

-- what a move by a distance that is made tells
record Aligned (x : Result Skipped Refusal) (at s : Pos) : Type 0 where
  by : Skipped
  told : x ≡ Ok by
  sum : s.position ≡ at.position + by.bits
  within : at.position + by.bits ≤ max_position

by-distance : (at : Pos) (x : Result Skipped Refusal) (known : Bool) (index : ℕ) (s : Pos) → moved_by_distance at x known index ≡ Ok s → Aligned x at s
by-distance at (Ok t) known index s e = go (leb (at.position + t.bits) max_position) refl e
  where
    go : (b : Bool) → leb (at.position + t.bits) max_position ≡ b
        → pick b (Ok (record { position = at.position + t.bits; known = known })) (Err (PositionPast index)) ≡ Ok s → Aligned (Ok t) at s
    go true h f = record {
      by = t;
      told = refl;
      sum = ap (λ (q : Pos). q.position) (sym (to_same f));
      within = leb-true (at.position + t.bits) max_position h;
    }
    go false h f = absurd (never-to f)
by-distance at (Err why) known index s e = absurd (never-to e)

module _ (def : Bankdef) (at : Pos) (n : Node) (s : Pos) where
  -- what is lost to label alignment is what a symbol that is aligned moves by
  record Sight (skipped : Skipped) (lost : ℕ) : Type 0 where
    bits : skipped.bits ≡ lost
    sum : s.position ≡ at.position + lost
    within : lost ≤ max_position

  unmoved : ◌≡◌ {A = Result Pos Refusal} (Ok at) (Ok s) → Sight no_skip 0
  unmoved e = let q = ap (λ (x : Pos). x.position) (to_same e) in record { bits = refl; sum = omega arith; within = omega arith }

  label : (o : Option ℕ) → label_aligned def o at n.index ≡ Ok s → Sight (label_skips def o at n.index) (label_loses def o at.position)
  label None e = unmoved e
  label (Some a) e =
      let m = by-distance at (distance_of def at.position a n.index) at.known n.index s e in
      let b = told-bits def at.position a n.index m.by m.told in
      let w = m.within in
      record {
        bits = ap (λ (x : Result Skipped Refusal). (skips_by x).bits) m.told ∙ b;
        sum = m.sum ∙ ap (λ (x : ℕ). at.position + x) b;
        within = rw (← b) (omega arith);
      }

  sighted : (t : Bool) → pick t (label_aligned def def.align at n.index) (Ok at) ≡ Ok s
      → Sight (pick t (label_skips def def.align at n.index) no_skip) (pick t (label_loses def def.align at.position) 0)
  sighted true e = label def.align e
  sighted false e = unmoved e

  sight : seen_of def at n ≡ Ok s → Sight (seen_skips def at n) (sight_loses def at.position n)
  unfolding seen_of seen_skips
  sight e = rw e (sighted (outermost_symbol n) e)

  not-outer : n.kind ≡ 8 → outermost_symbol n ≡ false
  not-outer k = rw k

  sum-within : (bits : ℕ) (known : Bool) (q : Pos) {t : Told Pos} → Adds s bits known n.index t → t ≡ gives q → s.position + bits ≤ max_position
  sum-within bits known q (told.sum l) e = l
  sum-within bits known q (told.past l) e = absurd (never-gives (omega arith) e)

  -- an `align` that is made
  own-from : (q : Pos) {t : Told Pos} → n.kind ≡ 8 → Advances def s n t → t ≡ gives q
      → (d : Skipped) × (distance_of def s.position n.number n.index ≡ Ok d) × (s.position + d.bits ≤ max_position)
  own-from q k (told.unknown h) e = absurd (never-gives (omega arith) e)
  own-from q k (told.badly h b) e = absurd (never-gives (omega arith) e)
  own-from q k (told.stays x h) e = absurd (⊎_elim (λ (l : n.kind ≤ 3). let b : ⊥ = omega arith in b) (λ (l : n.kind ≡ 10). let b : ⊥ = omega arith in b) h)
  own-from q k (told.item x h l known keeps a) e = absurd (let b : ⊥ = omega arith in b)
  own-from q k (told.aligns x h known keeps (told.by d f a)) e = (d, f, sum-within d.bits known q a e)
  own-from q k (told.aligns x h known keeps (told.untold why f)) e = absurd (never-gives (number-some why) e)
  own-from q k (told.sets x h known sets) e = absurd (let b : ⊥ = omega arith in b)

  -- what a step that is made loses and how far it moves
  pub record Made (q : Pos) : Type 0 where
    pub lost : (step_skips def at s n).bits ≡ lost_by def at.position n
    pub within : lost_by def at.position n ≤ max_position
    pub ends : (n.kind ≡ 9 → ⊥) → q.position ≡ at.position + size_of n + lost_by def at.position n

  no_size : (n.kind < 4) ⊎ (7 < n.kind) → size_of n ≡ 0
  no_size (inl h) = rw (lt-leb 4 n.kind h)
  no_size (inr h) = rw (lt-leb n.kind 7 h, le-leb 4 n.kind (omega arith))

  own-skips : (q : Pos) (d : Skipped) → eqb n.kind 8 ≡ true → advanced_of def s n ≡ Ok q
      → distance_of def s.position n.number n.index ≡ Ok d → advance_skips def s n ≡ d
  unfolding advance_skips
  own-skips q d t a e = rw (a, t, e)

  own-made : (q : Pos) → eqb n.kind 8 ≡ true → seen_of def at n ≡ Ok s → advanced_of def s n ≡ Ok q → Made q
  own-made q t e a =
      let k = eqb-true n.kind 8 t in
      let same : at ≡ s = to_same (sym (sees_plain def at n (not-outer k)) ∙ e) in
      let w = own-from q k (advance-told def s n) (ap told_moved a) in
      let b = told-bits def s.position n.number n.index w.0 w.1 in
      let m = (advance-moves def s n q a).adds-distance k in
      let c = told-bits def s.position n.number n.index m.0 m.1 in
      let lost = ap (λ (x : Skipped). x.bits) (own-skips q w.0 t a w.1) ∙ b in
      let size = no_size (inr (omega arith)) in
      record {
        lost = rw (t, same) lost;
        within = rw (t, same) (no_more s.position w.2 b);
        ends = λ nine. rw (t, same, size) (m.2 ∙ plus-alone s.position c);
      }
    where
      no_more : (x : ℕ) {y z : ℕ} → x + y ≤ max_position → y ≡ z → z ≤ max_position
      no_more x h e = omega arith

      plus-alone : (x : ℕ) {y z : ℕ} → y ≡ z → x + y ≡ x + 0 + z
      plus-alone x e = omega arith

  known-kind : (q : Pos) → advanced_of def s n ≡ Ok q → n.kind ≤ 10
  known-kind q a =
      ⊎_elim (λ (h : n.kind ≤ 10). h)
      (λ (h : 10 < n.kind).
      either (bad_state n) (λ t. absurd (never-to (sym (bad-state def s n t) ∙ a))) (λ t. absurd (never-to (sym (sound-state def s n t ∙ other def s n h) ∙ a))))
      (or-past n.kind 10)

  plus-size : (z l : ℕ) {x y : ℕ} → x ≡ y + z → y ≡ at.position + l → x ≡ at.position + z + l
  plus-size z l e f = omega arith

  plus_none : (l : ℕ) {x y z : ℕ} → x ≡ y → z ≡ 0 → y ≡ at.position + l → x ≡ at.position + z + l
  plus_none l e z f = omega arith

  ends_by : (q : Pos) → (n.kind ≡ 8 → ⊥) → (n.kind ≡ 9 → ⊥) → advanced_of def s n ≡ Ok q → Sight (seen_skips def at n) (sight_loses def at.position n)
      → q.position ≡ at.position + size_of n + sight_loses def at.position n
  ends_by q eight nine a x =
      let moves = advance-moves def s n q a in
      let ten = known-kind q a in
      ⊎_elim (λ (h : n.kind ≤ 3). plus_none (sight_loses def at.position n) (moves.stays-there (inl h)) (no_size (inl (omega arith))) x.sum)
      (λ (h : 3 < n.kind).
      ⊎_elim
      (λ (g : n.kind ≤ 7).
      let size : size_of n ≡ n.number = rw (le-leb 4 n.kind h, le-leb n.kind 7 g) in
      plus-size (size_of n) (sight_loses def at.position n) (moves.adds-number h g ∙ ap (λ (z : ℕ). s.position + z) (sym size)) x.sum)
      (λ (g : 7 < n.kind). plus_none (sight_loses def at.position n) (moves.stays-there (inr (omega arith))) (no_size (inr g)) x.sum)
      (or-past n.kind 7))
      (or-past n.kind 3)

  sight-made : (q : Pos) → eqb n.kind 8 ≡ false → seen_of def at n ≡ Ok s → advanced_of def s n ≡ Ok q → Made q
  sight-made q t e a =
      let k = eqb-false n.kind 8 t in
      let x = sight e in
      record { lost = rw t x.bits; within = rw t x.within; ends = λ nine. rw t (ends_by q k nine a x) }

  -- A step that is made loses what the definition says, and moves by the node's bits and what it loses.
  pub made : (q : Pos) → seen_of def at n ≡ Ok s → advanced_of def s n ≡ Ok q → Made q
  made q e a = either (eqb n.kind 8) (λ t. own-made q t e a) (λ t. sight-made q t e a)

-- a measure of an element that is set to what it was and more
set-adds : {A : Type 0} (g : A → ℕ) (d : A) (l : List A) (b bank add : ℕ) (v : A) → b < length l → (b ≡ bank → g v ≡ g (get_or l b d) + add)
    → g (get_or (set l b v) bank d) ≡ g (get_or l bank d) + pick (eqb b bank) add 0
set-adds g d l b bank add v h e =
    either (eqb b bank)
    (λ t. let w = eqb-true b bank t in rw (t, ← w) (ap g (get_or-set_same l b v d h) ∙ e w))
    (λ t. rw t (ap g (get_or-set_other l b bank v d (λ e. eqb-false b bank t (sym e))) ∙ plus-zero (g (get_or l bank d))))
  where
    plus-zero : (x : ℕ) → x ≡ x + 0
    plus-zero x = omega arith

-- two losses that agree part by part are one
pub same-lost : (x y : Lost) → ((part : Part) → lost_part part x ≡ lost_part part y) → x ≡ y
same-lost x y e =
    ap (λ (b : ℕ). record { bits = b; units = x.units }) (e the-bits) ∙ ap (λ (u : ℕ). record { bits = y.bits; units = u }) (e the-units)

module _ (def : Bankdef) (walk : Walk) (n : Node) (now : Pos) (seen : (step_of def walk n).seen ≡ Ok now) where
  abbrev pub bank : ℕ
  bank = bank_after walk.bank n

  abbrev pub position : ℕ
  position = (standing walk n).position

  inside : bank_after walk.bank n < max_banks
  inside = leb-false max_banks bank (neither (leb max_banks bank) (bad_state n) (made-sound def walk n now seen)).0

  step-bits : lost_by def position n ≤ max_position
  step-bits =
      step-cases def walk n (λ (x : Stepped). x.seen ≡ Ok now → lost_by def position n ≤ max_position) (λ why e. absurd (never-to e))
      (λ s q e a f. (made def (standing walk n) n s q e a).within) seen

  -- no more bits than a position holds, and no more units
  pub step-loses : (part : Part) → part_by part def position n ≤ max_position
  step-loses the-bits = step-bits
  step-loses the-units = let h = step-bits in let less = div-le_self (lost_by def position n) def.unit in omega arith

  -- what is skipped is what is lost: the units are those of the bits
  skips-part : (part : Part) (s q : Pos) → Made def (standing walk n) n s q
      → skipped_part part (step_skips def (standing walk n) s n) ≡ part_by part def position n
  skips-part the-bits s q m = m.lost
  skips-part the-units s q m = step-whole def (standing walk n) s n ∙ ap (λ (b : ℕ). b / def.unit) m.lost

  pub step-carries : (part : Part) → length walk.lost ≡ max_banks → lost_in part walk bank + max_position < 2 ^ 64 → (j : ℕ)
      → lost_in part (step_of def walk n).walk j ≡ lost_in part walk j + pick (eqb bank j) (part_by part def position n) 0
  step-carries part sixteen room j =
      step-cases def walk n
      (λ (x : Stepped). x.seen ≡ Ok now → lost_in part x.walk j ≡ lost_in part walk j + pick (eqb bank j) (part_by part def position n) 0)
      (λ why e. absurd (never-to e))
      (λ s q e a f.
      let small = step-loses part in
      set-adds (lost_part part) no_lost walk.lost bank j (part_by part def position n)
      (lost_after (get_or walk.lost bank no_lost) (step_skips def (standing walk n) s n))
      (let h = inside in omega arith)
      (λ same. part-after part (get_or walk.lost bank no_lost) (step_skips def (standing walk n) s n)
      ∙ ap (sum_after (lost_in part walk bank)) (skips-part part s q (made def (standing walk n) n s q e a))
      ∙ sum-exact (lost_in part walk bank) (part_by part def position n) (omega arith)))
      seen

  pub step-moves : length walk.at ≡ max_banks → (j : ℕ) → (bank ≡ j → n.kind ≡ 9 → ⊥)
      → (get_or (step_of def walk n).walk.at j origin).position ≡ (get_or walk.at j origin).position + pick (eqb bank j) (size_of n + lost_by def position n) 0
  step-moves sixteen j nine =
      step-cases def walk n
      (λ (x : Stepped). x.seen ≡ Ok now
      → (get_or x.walk.at j origin).position ≡ (get_or walk.at j origin).position + pick (eqb bank j) (size_of n + lost_by def position n) 0)
      (λ why e. absurd (never-to e))
      (λ s q e a f.
      set-adds (λ (x : Pos). x.position) origin walk.at bank j (size_of n + lost_by def position n) q (let h = inside in omega arith)
      (λ same. (made def (standing walk n) n s q e a).ends (nine same) ∙ plus_assoc position (size_of n) (lost_by def position n)))
      seen
    where
      plus_assoc : (x y z : ℕ) → x + y + z ≡ x + (y + z)
      plus_assoc x y z = omega arith

-- a step keeps how many sums there are
pub lost-kept : (def : Bankdef) (walk : Walk) (n : Node) → length (step_of def walk n).walk.lost ≡ length walk.lost
lost-kept def walk n =
    step-cases def walk n (λ (x : Stepped). length x.walk.lost ≡ length walk.lost) (λ why. refl)
    (λ s q e a. length-set walk.lost (bank_after walk.bank n) _)

-- ---- the walk

pub origins : (n j : ℕ) → (get_or (replicate n origin) j origin).position ≡ 0
origins zero j = refl
origins (suc n) zero = refl
origins (suc n) (suc j) = origins n j

pub pick-sum : (t : Bool) (x y : ℕ) → pick t (x + y) 0 ≡ pick t x 0 + pick t y 0
pick-sum true x y = refl
pick-sum false x y = refl

pub pick-most : (t : Bool) (x y : ℕ) → x ≤ y → pick t x 0 ≤ y
pick-most true x y h = h
pick-most false x y h = omega arith
