-- The ways that the answers of the two calls go, from their sentences: refused 1 to 4, refused by a rule, or what comes after a yes.
use Rattle.std.specs.Prelude.{◌≡◌, refl, Bool, ◌⊎◌, ℕ, ◌+◌, ◌*◌, ◌/◌, ◌%◌, ◌≤◌, ◌<◌}
use Rattle.std.proofs.Common.{sym, ap, subst, ◌∙◌, inl, inr, ⊎_elim, div-add-mod', arith}
use Rattle.std.proofs.Math.Nat.{mul-mod_left}
use Rattle.sort.specs.Laws.Sorted.{le-or-lt}
use Rattle.c_answers.specs.declared.DkProfile.{DkProfile}
use Rattle.says.specs.Words as w
use Rattle.says.specs.Build as b
use Rattle.meets_sentences.specs.Laws.Why.{nine-to-13}
use Rattle.says.specs.Build.{Given, Lent, Outcome, banks, In, IsWritten, Reads, Offer, Refuses, Stops, Accepts, Built, Laid, refusal}
use Rattle.says.specs.Words.{Not}
use Rattle.meets_sentences.specs.Laws.One.{in_one}
use Rattle.says.specs.Profile as p
use Rattle.says.specs.Profile.{Multiple, Yes, ProfileSays, refused}
use Rattle.says.specs.Paged.{PagedSays}
use Rattle.meets_profile.specs.Ticket9.{Sound, Holds, Names, InPages}
use Rattle.meets_profile.specs.Laws.Ruled.{in_table}
use Rattle.meets_profile.specs.Laws.Tried.{tries-all}
use Rattle.meets_profile.specs.Laws.Ways.{checks-way, rules-way, clear-sound, keeps-holds}

module _ (g : Given) (page : ℕ) where
  -- the ways that an answer goes
  pub data Answers : DkProfile → Type 0 where
    early : {number place second : ℕ} → 1 ≤ number → number ≤ 4 → Not (Sound g) → Answers (refused g page number place second)
    names : {rule at : ℕ} → Sound g → Names g page rule at → Answers (refused g page 19 rule at)
    keeps : {r : DkProfile} → Sound g → Holds g page → Yes g page r → Answers r

  pub answers : (r : DkProfile) → ProfileSays g page r → Answers r
  answers r = checks-way g (refused g page) Answers r (λ number place second. early) (λ c.
      rules-way g page (refused g page 19) Answers r (λ rule at. names (clear-sound g c)) (λ k. keeps (clear-sound g c) (keeps-holds g page k)))

  pub yes-zero : {r : DkProfile} → Yes g page r → r.refusal ≡ 0
  yes-zero (p.yes l f) = refl

  module _ (old : Lent) where
    abbrev pub turned : (number place second : ℕ) → Outcome
    turned number place second = refusal g old number place second 0

    -- what comes after 4 is none of 1 to 4, and no 19
    abbrev pub Later : Outcome → Type 0
    Later y = (y.answer.refusal ≡ 0) ⊎ ((5 ≤ y.answer.refusal) × (y.answer.refusal ≤ 14))

    stops-later : {n i number : ℕ} {last : Bool} → Stops g n last i number → (5 ≤ number) × (number ≤ 14)
    stops-later (b.lead-past h r x i l q) = (omega arith, omega arith)
    stops-later (b.move-past h r s a q) = (omega arith, omega arith)
    stops-later (b.off-boundary h t e r s o) = (omega arith, omega arith)

    accepts-later : {r k n l c : ℕ} {y : Outcome} → Accepts g old r k n l c y → Later y
    accepts-later (b.accepts q f) = inl refl

    built-later : {r k n : ℕ} {y : Outcome} → Built g old r k n y → Later y
    built-later (b.refused f) = let z = nine-to-13 g f.why in inr (omega (arith, z.0), omega (arith, z.1))
    built-later {y = y} (b.placed clear l c t) =
        tries-all Later (λ x. inr (omega arith, omega arith)) y (tries-all Later (λ x. inr (omega arith, omega arith)) y accepts-later) t

    pub laid-later : {y : Outcome} → Laid g old y → Later y
    laid-later (b.stops h l go f s) = inr (stops-later s)
    laid-later (b.last-stops q f s) = inr (stops-later s)
    laid-later (b.unresolved q r u) = inr (omega arith, omega arith)
    laid-later (b.built q r u v t) = built-later t

    -- the ways that a build in the profile goes
    pub data Comes : Outcome → Type 0 where
      early : {number place second : ℕ} → 1 ≤ number → number ≤ 4 → Not (Sound g) → Comes (turned number place second)
      names : {rule at : ℕ} → Sound g → Names g page rule at → Comes (turned 19 rule at)
      laid : {y : Outcome} → Sound g → Holds g page → Laid g old y → Comes y

    pub comes : (y : Outcome) → PagedSays g page old y → Comes y
    comes y = checks-way g turned Comes y (λ number place second. early) (λ c.
        rules-way g page (turned 19) Comes y (λ rule at. names (clear-sound g c)) (λ k. laid (clear-sound g c) (keeps-holds g page k)))

    abbrev PassesAre : ℕ → Outcome → Type 0
    PassesAre n y = y.answer.passes ≡ n

    accepts-passes : {r k n l c : ℕ} {y : Outcome} → Accepts g old r k n l c y → y.answer.passes ≡ n
    accepts-passes (b.accepts q f) = refl

    -- an accepted build: no node is refused in the row of its last pass
    pub record Fine (y : Outcome) : Type 0 where
      pub row : ℕ
      pub reads : Reads g y.answer.passes row
      pub clear : (i : ℕ) → Refuses g row i → ⊥

    pub fine : {y : Outcome} → Laid g old y → y.answer.refusal ≡ 0 → Fine y
    fine (b.stops h l go f s) e = absurd (omega (arith, (stops-later s).0))
    fine (b.last-stops q f s) e = absurd (omega (arith, (stops-later s).0))
    fine (b.unresolved q r u) e = absurd (let z : ◌≡◌ {A = ℕ} 8 0 = e in omega arith)
    fine {y} (b.built q r u v (b.refused f)) e = absurd (let z = (nine-to-13 g f.why).0 in omega (arith, e))
    fine {y} (b.built {n = n} {r = r} q go u v (b.placed clear l c t)) e =
        let n-passes : y.answer.passes ≡ n =
        tries-all (PassesAre n) (λ x. refl) y (tries-all (PassesAre n) (λ x. refl) y accepts-passes) t in
        record { row = r; reads = subst (λ (m : ℕ). Reads g m r) (sym n-passes) v; clear = clear }

    module _ (c : Sound g) (h : Holds g page) (row : ℕ) (clear : (i : ℕ) → Refuses g row i → ⊥) where
      some-bank : 0 < banks g
      some-bank = ⊎_elim (λ le. le) (λ lt. absurd (c.counted (b.too_few lt))) (le-or-lt 1 (banks g))

      whole-size : (m : ℕ) → Multiple page m → m / page * page ≡ m
      whole-size m q =
          let none : m % page ≡ 0 = ap (λ (x : ℕ). x % page) q.1 ∙ mul-mod_left q.0 page in
          omega (arith, div-add-mod' m page, none)

      pub in-pages : {i at x m bit : ℕ} → IsWritten g i → In g i at → Offer g row i x m → x ≤ bit → bit < x + m → InPages g page at bit
      in-pages {i} {at} {m = m} {bit = bit} written stands
          (b.offer {b = bank} {o = o} lt lo hi (b.sees {lead = lead} {at = stood} here own l le) offset number) from to =
          let same : bank ≡ at = in_one g own stands in
          let there : bank < banks g = in_table g c.noded some-bank own lt in
          let s = h.sizes bank o there offset in
          let fits : o + (stood.position + lead) + m ≤ o + s.0 =
          ⊎_elim (λ le. omega arith)
          (λ past. absurd (clear i (10, i, 0, b.past-size (lt, inr (lo, hi)) (b.sees here own l le) (b.item (λ e. omega arith) number) s.1 past)))
          (le-or-lt (stood.position + lead + m) s.0) in
          subst (λ (x : ℕ). InPages g page x bit) same (record {
            o = o;
            n = s.0 / page;
            placed = offset;
            pages = p.pages there offset s.1;
            from = omega arith;
            to = omega (arith, whole-size s.0 s.2);
          })
