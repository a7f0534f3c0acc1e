-- Ticket 9 of what `dk_profile` and `dk_build_paged` say, from their sentences alone: with `profile-meets` and `paged-meets` it holds of every call.
use Rattle.std.specs.Prelude.{◌≡◌, refl, ◌⊎◌, ◌↔◌, ℕ, ◌+◌, ◌/◌, ◌%◌, ◌≤◌, ◌<◌, replicate}
use Rattle.std.proofs.Common.{ap, ◌∙◌, inl, inr, ⊎_elim, arith}
use Rattle.std.proofs.Math.Nat.{zero-div}
use Rattle.build_profile.specs.Theorems.OneBit.{zero-has-none}
use Rattle.c_answers.specs.declared.DkProfile.{DkProfile}
use Rattle.says.specs.Words.{refused as broken}
use Rattle.says.specs.Build.{Given, Lent, Outcome, banks, flag, Size, Offset, Align, Unsized, In, IsWritten, Reads}
use Rattle.says.specs.Words.{Not}
use Rattle.says.specs.Build.{Offer, Laid, BuildSays, refusal}
use Rattle.says.specs.Profile as p
use Rattle.says.specs.Profile.{BadLabel, BadSize, Rules, Pages, Yes, ProfileSays, refused}
use Rattle.says.specs.Paged.{PagedSays}
use Rattle.meets_profile.specs.Ticket9 as t
use Rattle.meets_profile.specs.Ticket9.{Sound, Holds, Breaks, Names, InPages}
use Rattle.meets_profile.specs.Laws.Answers as a
use Rattle.meets_profile.specs.Laws.Answers.{Answers, answers, yes-zero, turned, Comes, comes, laid-later, fine, in-pages}
use Rattle.meets_profile.specs.Laws.Ruled.{not-one}
use Rattle.meets_profile.specs.Laws.Tried.{through, kept, checks-map, rules-map}
use Rattle.meets_profile.specs.Laws.Ways.{rules-way, sound-clear, holds-keeps, breaks-not}
use Rattle.meets_profile.specs.Theorems.Decides.{profile-decides, paged-decides}

module _ (g : Given) (page : ℕ) where
  -- ---- the profile

  -- "It says yes exactly when all of them hold": 1 to 4 come first.
  pub yes-exactly : (r : DkProfile) → ProfileSays g page r → (r.refusal ≡ 0) ↔ (Sound g × Holds g page)
  yes-exactly r s = (λ e. there (answers g page r s) e, λ h. back (answers g page r s) h.0 h.1)
    where
      there : {r : DkProfile} → Answers g page r → r.refusal ≡ 0 → Sound g × Holds g page
      there (a.early lo hi n) e = absurd (omega arith)
      there (a.names c n) e = absurd (let z : ◌≡◌ {A = ℕ} 19 0 = e in omega arith)
      there (a.keeps c h y) e = (c, h)

      back : {r : DkProfile} → Answers g page r → Sound g → Holds g page → r.refusal ≡ 0
      back (a.early lo hi n) c h = absurd (n c)
      back (a.names c' n) c h = absurd (breaks-not g page n.broken h)
      back (a.keeps c' h' y) c h = yes-zero g page y

  -- "then with each bank's pages"; refused, sixteen zeros.
  pub yes-pages : (r : DkProfile) → ProfileSays g page r → r.refusal ≡ 0 → Yes g page r
  yes-pages r s e = from (answers g page r s) e
    where
      from : {r : DkProfile} → Answers g page r → r.refusal ≡ 0 → Yes g page r
      from (a.early lo hi n) e = absurd (omega arith)
      from (a.names c n) e = absurd (let z : ◌≡◌ {A = ℕ} 19 0 = e in omega arith)
      from (a.keeps c h y) e = y

  pub no-pages : (r : DkProfile) → ProfileSays g page r → Not (r.refusal ≡ 0) → r.pages ≡ replicate 16 0
  no-pages r s e = from (answers g page r s) e
    where
      from : {r : DkProfile} → Answers g page r → Not (r.refusal ≡ 0) → r.pages ≡ replicate 16 0
      from (a.early lo hi n) e = refl
      from (a.names c n) e = refl
      from (a.keeps c h y) e = absurd (e (yes-zero g page y))

  -- 19 "after 4", exactly where one of them does not hold,
  pub nineteen-exactly : (r : DkProfile) → ProfileSays g page r → (r.refusal ≡ 19) ↔ (Sound g × Not (Holds g page))
  nineteen-exactly r s = (λ e. there (answers g page r s) e, λ h. back (answers g page r s) h.0 h.1)
    where
      there : {r : DkProfile} → Answers g page r → r.refusal ≡ 19 → Sound g × Not (Holds g page)
      there (a.early lo hi n) e = absurd (omega arith)
      there (a.names c n) e = (c, λ h. breaks-not g page n.broken h)
      there (a.keeps c h y) e = absurd (let z = yes-zero g page y in omega arith)

      back : {r : DkProfile} → Answers g page r → Sound g → Not (Holds g page) → r.refusal ≡ 19
      back (a.early lo hi n) c h = absurd (n c)
      back (a.names c' n) c h = refl
      back (a.keeps c' h' y) c h = absurd (h h')

  -- and "the answer names the first rule broken, 1 to 6 in this order, each ascending".
  pub nineteen-names : (r : DkProfile) → ProfileSays g page r → r.refusal ≡ 19 → Names g page r.place r.second
  nineteen-names r s e = from (answers g page r s) e
    where
      from : {r : DkProfile} → Answers g page r → r.refusal ≡ 19 → Names g page r.place r.second
      from (a.early lo hi n) e = absurd (omega arith)
      from (a.names c n) e = n
      from (a.keeps c h y) e = absurd (let z = yes-zero g page y in omega arith)

  -- a turn is one rule's
  turn-rule : {turn rule at : ℕ} → Breaks g page turn rule at → ((turn ≤ 2) × (rule ≡ turn)) ⊎ ((2 < turn) × (rule + 1 ≡ turn))
  turn-rule (t.by-page off) = inl (omega arith, refl)
  turn-rule (t.by-label h bad) = inl (omega arith, refl)
  turn-rule (t.by-align h bad) = inr (omega arith, refl)
  turn-rule (t.by-offset h bad) = inr (omega arith, refl)
  turn-rule (t.by_size h bad) = inr (omega arith, refl)
  turn-rule (t.by-unit h bad) = inr (omega arith, refl)
  turn-rule (t.by-addr h bad) = inr (omega arith, refl)

  -- There is one rule and one bank or node to name.
  pub names-one : (rule at other place : ℕ) → Names g page rule at → Names g page other place → (rule ≡ other) × (at ≡ place)
  names-one rule at other place m n = by (m.first n.turn other place n.broken) (n.first m.turn rule at m.broken)
    where
      by : (m.turn < n.turn) ⊎ ((m.turn ≡ n.turn) × (at ≤ place)) → (n.turn < m.turn) ⊎ ((n.turn ≡ m.turn) × (place ≤ at))
          → (rule ≡ other) × (at ≡ place)
      by (inl x) (inl y) = absurd (omega arith)
      by (inl x) (inr y) = absurd (omega (arith, y.0))
      by (inr x) (inl y) = absurd (omega (arith, x.0))
      by (inr x) (inr y) = (
        ⊎_elim
            (λ p. ⊎_elim (λ q. omega (arith, x.0, p.1, q.1)) (λ q. absurd (omega (arith, x.0, p.0, q.0))) (turn-rule n.broken))
            (λ p. ⊎_elim (λ q. absurd (omega (arith, x.0, p.0, q.0))) (λ q. omega (arith, x.0, p.1, q.1)) (turn-rule n.broken))
            (turn-rule m.broken),
        omega (arith, x.1, y.1),
      )

  -- ---- the edges, for every layout

  -- "Alignment 0 or flag clear is fine."
  pub alignment-0-fine : (b : ℕ) → Align g b 0 → Not (BadLabel g b)
  alignment-0-fine b al (p.label {a} other some off) = omega (arith, al.1, other.1)

  pub alignment-clear-fine : (b : ℕ) → Not (flag g b / 4 % 2 ≡ 1) → Not (BadLabel g b)
  alignment-clear-fine b clear (p.label al some off) = clear al.0

  -- "Size 0 with an offset is 0 pages; no size with an offset breaks rule 4."
  pub size-0-fine : (b : ℕ) → Size g b 0 → Not (BadSize g page b)
  size-0-fine b s (p.no_size at none) = none 0 s
  size-0-fine b s (p.ragged {m = m} at other off) = off (0, omega (arith, s.1, other.1))

  pub size-0-pages : (b o n : ℕ) → b < banks g → Offset g b o → Size g b 0 → Pages g page b n → n ≡ 0
  size-0-pages b o n there at s (p.pages {m = m} h q other) =
      let zero : m ≡ 0 = omega (arith, s.1, other.1) in
      ap (λ (x : ℕ). x / page) zero ∙ zero-div page
  size-0-pages b o n there at s (p.none never) = absurd (never o there at)

  pub no-size-breaks-4 : (b o : ℕ) → Offset g b o → Unsized g b → BadSize g page b
  no-size-breaks-4 b o at none = p.no_size at none

  -- ---- a build in the profile

  module _ (old : Lent) where
    -- "A build in the profile is the ordinary build after a yes."
    pub ordinary-after-yes : Holds g page → (y : Outcome) → PagedSays g page old y ↔ BuildSays g old y
    ordinary-after-yes h y = (
      checks-map g (turned g page old) _ (λ y. y) (λ number place second. refl) y (λ c t. passed-rules t),
      checks-map g (turned g page old) _ (λ y. y) (λ number place second. refl) y (λ c t. kept g page (turned g page old 19) (holds-keeps g page h) t),
    )
      where
        passed-rules : {y : Outcome} → Rules g page (turned g page old 19) (Laid g old) y → Laid g old y
        passed-rules {y} = rules-way g page (turned g page old 19) (Laid g old) y (λ rule at n. absurd (breaks-not g page n.broken h)) (λ k t. t)

    -- Where the profile says no, a build in it is refused with the same number and place: no pass is run, and nothing lent is changed.
    pub refused-as-profile : (r : DkProfile) (y : Outcome) → ProfileSays g page r → PagedSays g page old y → Not (r.refusal ≡ 0)
        → y ≡ refusal g old r.refusal r.place r.second 0
    refused-as-profile r y s t e =
        paged-decides g page old y (turned g page old r.refusal r.place r.second) t
        (checks-map g (refused g page) _ (λ (x : DkProfile). turned g page old x.refusal x.place x.second) (λ number place second. refl) r
        (λ c. rules-map g page (refused g page 19) (λ (x : DkProfile). turned g page old x.refusal x.place x.second) (λ rule at. refl) r
        (λ v. absurd (e (yes-zero g page v)))) s)

    -- ---- 19 in a build

    -- 19 exactly where one of the rules does not hold, after 4,
    pub build-nineteen-exactly : (y : Outcome) → PagedSays g page old y → (y.answer.refusal ≡ 19) ↔ (Sound g × Not (Holds g page))
    build-nineteen-exactly y s = (λ e. there (comes g page old y s) e, λ h. back (comes g page old y s) h.0 h.1)
      where
        there : {y : Outcome} → Comes g page old y → y.answer.refusal ≡ 19 → Sound g × Not (Holds g page)
        there (a.early lo hi n) e = absurd (omega arith)
        there (a.names c n) e = (c, λ h. breaks-not g page n.broken h)
        there (a.laid c h t) e = absurd (⊎_elim (λ z. omega arith) (λ q. omega (arith, q.1)) (laid-later g page old t))

        back : {y : Outcome} → Comes g page old y → Sound g → Not (Holds g page) → y.answer.refusal ≡ 19
        back (a.early lo hi n) c h = absurd (n c)
        back (a.names c' n) c h = refl
        back (a.laid c' h' t) c h = absurd (h h')

    -- with the rule and the bank or node, "before the first pass": no pass is run, and nothing lent is changed.
    pub build-nineteen-names : (y : Outcome) → PagedSays g page old y → y.answer.refusal ≡ 19
        → Names g page y.answer.place y.answer.second × (y.answer.passes ≡ 0) × (y.lent ≡ old)
    build-nineteen-names y s e = from (comes g page old y s) e
      where
        from : {y : Outcome} → Comes g page old y → y.answer.refusal ≡ 19
            → Names g page y.answer.place y.answer.second × (y.answer.passes ≡ 0) × (y.lent ≡ old)
        from (a.early lo hi n) e = absurd (omega arith)
        from (a.names c n) e = (n, refl, refl)
        from (a.laid c h t) e = absurd (⊎_elim (λ z. omega arith) (λ q. omega (arith, q.1)) (laid-later g page old t))

    -- ---- pages

    -- Every bit of a written item of an accepted build stands in a page of the bank that the item stands in.
    pub written-in-pages : (y : Outcome) → PagedSays g page old y → y.answer.refusal ≡ 0
        → (row : ℕ) × Reads g y.answer.passes row
        × ((i at x m bit : ℕ) → IsWritten g i → In g i at → Offer g row i x m → x ≤ bit → bit < x + m → InPages g page at bit)
    written-in-pages y s e = from (comes g page old y s) e
      where
        from : {y : Outcome} → Comes g page old y → y.answer.refusal ≡ 0
            → (row : ℕ) × Reads g y.answer.passes row
            × ((i at x m bit : ℕ) → IsWritten g i → In g i at → Offer g row i x m → x ≤ bit → bit < x + m → InPages g page at bit)
        from (a.early lo hi n) e = absurd (omega arith)
        from (a.names c n) e = absurd (let z : ◌≡◌ {A = ℕ} 19 0 = e in omega arith)
        from (a.laid c h t) e =
            let f = fine g page old t e in
            (f.row, f.reads, λ i at x m bit v k o lo hi. in-pages g page old c h f.row f.clear v k o lo hi)

-- "Page size 0 breaks rule 1."
pub page-0-breaks-1 : (g : Given) → Sound g → (r : DkProfile) → ProfileSays g 0 r → r ≡ refused g 0 19 1 0
page-0-breaks-1 g c r s =
    profile-decides g 0 r (refused g 0 19 1 0) s (through g (refused g 0) (sound-clear g c) (broken tt (not-one 0 zero-has-none)))
