-- `dk_record_extent`: what it promises says its sentences (`extent-meets`), and they leave one outcome, the answer and the lent scratch (`extent-decides`). It
-- is what a reader needs: no load address makes a refused file good (`no-load`), and any up to the lowest address makes the others good, with room for the
-- bytes below `end` (`any-load`).
use Rattle.std.specs.Prelude.{◌≡◌, refl, Bool, true, false, ℕ, suc, ◌+◌, ◌-◌, ◌≤◌, ◌<◌, eqb, length, get_or}
use Rattle.std.proofs.Common.{sym, ap, ◌∙◌, subst, ⊎_elim, arith, eqb-true, lt-ltb, le-ltb}
use mathlib.Core.List.Memᴰ
use mathlib.Core.List.{List, [], ◌∷◌, Memᴰ}
use Rattle.std.proofs.Math.Decide.{dec_lt}
use Rattle.std.proofs.lemmas.Bool.{eqb-false}
use Rattle.prelude.specs.Laws.Bools.{unlike}
use Rattle.prelude.specs.Laws.Pick.{paired}
use Rattle.prelude.specs.Pick.{pick}
use Rattle.sort.specs.Laws.Sorted.{le-or-lt}
use Rattle.record_lines.specs.Pieces.{Piece}
use Rattle.record_scan.specs.Reading.{Read, sound, faulty, read_text}
use Rattle.record_scan.specs.Steps.{highest}
use Rattle.record_extent.specs.Extent.{lowest_of, extent_of}
use Rattle.record_read.specs.Laws.GivenLaws.{given_below}
use Rattle.c_answers.specs.Parts.{extent_told}
use Rattle.c_answers.specs.declared.DkExtent.{DkExtent}
use Rattle.c_model.specs.RecordFiles.{read_as, ExtentTold}
use Rattle.meets.specs.Laws.Words.{OneOnly, first_one}
use Rattle.says.specs.Words.{First}
use Rattle.says.specs.Records as r
use Rattle.says.specs.Records.{Width}
use Rattle.says.specs.Read as s
use Rattle.says.specs.Read.{GivenTo, Says, Good}
use Rattle.says.specs.Extent as x
use Rattle.says.specs.Extent.{told, ExtentSays}
use Rattle.meets_records.specs.Laws.Sits.{solid}
use Rattle.meets_records.specs.Laws.GivenBytes.{gives_at, to-given, top-given, of_mem}
use Rattle.meets_records.specs.Theorems.FaultMeets.{good-sound, sound-good}
use Rattle.meets_records.specs.Theorems.ReadDecides.{good-one}

-- no pieces make it a good file
abbrev pub Bad : (format load : ℕ) → List ℕ → Type 0
Bad format load text = (ps : List Piece) → Good format load text ps → ⊥

-- ---- the lowest address of pieces
low_of : (l : List Piece) → lowest_of l < 4294967296 → (q : Piece) × Memᴰ q l × (q.address ≡ lowest_of l)
unfolding lowest_of
low_of [] h = absurd (omega arith)
low_of (p ∷ l) h = ⊎_elim
    (λ le. (p, Memᴰ.head refl, omega arith))
    (λ lt. let t = low_of l (omega arith) in (t.0, Memᴰ.tail t.1, omega (arith, t.2)))
    (le-or-lt p.address (lowest_of l))

low-under : (l : List Piece) (q : Piece) → Memᴰ q l → lowest_of l ≤ q.address
unfolding lowest_of
low-under [] q m = absurd (Memᴰ.not-nil m)
low-under (p ∷ l) q m = ⊎_elim
    (λ e. let same : q.address ≡ p.address = ap (λ (y : Piece). y.address) e in omega arith)
    (λ y. omega (arith, low-under l q y))
    (Memᴰ.cases_cons m)

-- ---- the first address that doesn't fit is 2^32 at most
width-top : {d e w top : ℕ} → Width d e w top → top ≤ 4294967296
width-top (r.two a b c t) = omega (arith, t)
width-top (r.four a b c t) = omega (arith, t)

module _ (format : ℕ) (text : List ℕ) where
  top-few : {load top : ℕ} {ps : List Piece} → Says format load text top ps → top ≤ 4294967296
  top-few (s.hex f l h) = omega arith
  top-few (s.s-records f v l h) = width-top v

  below_top : {load : ℕ} {ps : List Piece} → Good format load text ps → (a : ℕ) → GivenTo ps a → a < 4294967296
  below_top (s.good h i o) a g = omega (arith, (i g.0 a g.1 g.2).1, top-few h)

  differ : {l : List Piece} {j : ℕ} → sound l ≡ faulty j → ⊥
  differ e = unlike cc

  module _ (scratch : List ℕ) where
    -- ---- a good file
    module _ {ps : List Piece} (g : Good format 0 text ps) where
      abbrev out : List Piece
      out = solid ps

      under : (a : ℕ) → GivenTo ps a → lowest_of out ≤ a
      under a q =
          let k = gives_at ps q.0 a q.1 q.2 in
          omega (arith, low-under out k.from k.among, k.place)

      lowest-given : (a : ℕ) → GivenTo ps a → GivenTo ps (lowest_of out)
      lowest-given a q =
          let t = low_of out (omega (arith, under a q, below_top g a q)) in
          let k = of_mem ps t.0 t.1 in
          (k.0, get_or t.0.bytes 0 0, s.gives {p = t.0} {k = 0} k.1 k.2 (omega (arith, t.2)) refl)

      below : (a : ℕ) → GivenTo ps a → a < highest out
      below a q = given_below out a (to-given ps a q)

      by : (end : ℕ) → end ≡ highest out → (t : Bool) → eqb end 0 ≡ t
          → ExtentSays format text scratch (told 0 (pick t 0 (lowest_of out)) end, scratch)
      by end e true z =
          let none : end ≡ 0 = eqb-true end 0 z in
          subst (λ (n : ℕ). ExtentSays format text scratch (told 0 0 n, scratch)) (sym none) (x.no_byte g (λ a q. omega (arith, below a q)))
      by end e false z =
          let some : end ≡ 0 → ⊥ = eqb-false end 0 z in
          let t = top-given ps (omega arith) in
          subst (λ (n : ℕ). ExtentSays format text scratch (told 0 (lowest_of out) n, scratch)) (omega (arith, t.1))
          (x.from-to {highest = t.0} g (record { so = lowest-given t.0 t.2; none_below = under }) t.2 (λ a q. omega (arith, below a q, t.1)))

    extent-says : format < 2 → (y : Read) → read_text format 0 text ≡ y → ExtentSays format text scratch (extent_told (extent_of y), scratch)
    extent-says known (sound l) e =
        let m = sound-good format 0 text known l e in
        subst (λ (l : List Piece). ExtentSays format text scratch (extent_told (extent_of (sound l)), scratch)) (sym m.2)
        (by m.1 (highest (solid m.0)) refl (eqb (highest (solid m.0)) 0) refl)
    extent-says known (faulty i) e = x.bad (λ ps g. differ (sym (good-sound format 0 text g) ∙ e))

    -- in a format that is neither no file is good
    no-format : 2 ≤ format → Bad format 0 text
    no-format h ps (s.good (s.hex f l y) i o) = omega arith
    no-format h ps (s.good (s.s-records f v l y) i o) = omega arith

    pub extent-meets : (y : DkExtent) (new : List ℕ) → ExtentTold (read_as format 0 text) scratch y new → ExtentSays format text scratch (y, new)
    extent-meets y new c =
        subst (ExtentSays format text scratch) (sym (paired c.answer c.left))
        (elim (dec_lt format 2) [
          | yes h ↦ rw (lt-ltb format 2 h) (extent-says h (read_text format 0 text) refl)
          | no h ↦ rw (le-ltb format 2 (omega arith)) (x.bad (no-format (omega arith)))
        ])

    -- ---- one outcome, from the sentences alone
    pub extent-decides : OneOnly (ExtentSays format text scratch)
    extent-decides y z (x.bad n) (x.bad m) = refl
    extent-decides y z (x.bad n) (x.no_byte {ps} g e) = absurd (n ps g)
    extent-decides y z (x.bad n) (x.from-to {ps} g f h a) = absurd (n ps g)
    extent-decides y z (x.no_byte {ps} g e) (x.bad n) = absurd (n ps g)
    extent-decides y z (x.no_byte g e) (x.no_byte g' e') = refl
    extent-decides y z (x.no_byte {ps} g e) (x.from-to {ps = qs} {highest = b} g' f h a) = absurd (e b (rw (good-one format 0 g g') h))
    extent-decides y z (x.from-to {ps} g f h a) (x.bad n) = absurd (n ps g)
    extent-decides y z (x.from-to {ps} {highest = b} g f h a) (x.no_byte {ps = qs} g' e) = absurd (e b (rw (good-one format 0 g' g) h))
    extent-decides y z (x.from-to {ps} {lowest = c} {highest = b} g f h a) (x.from-to {ps = qs} {lowest = c'} {highest = b'} g' f' h' a') =
        let same : qs ≡ ps = good-one format 0 g' g in
        let low : c ≡ c' = first_one (GivenTo ps) c c' f (subst (λ (l : List Piece). First (GivenTo l) c') same f') in
        let high : b ≡ b' = omega (
          arith,
          a b' (subst (λ (l : List Piece). GivenTo l b') same h'),
          a' b (subst (λ (l : List Piece). GivenTo l b) (sym same) h),
        ) in
        rw (low, high)

  -- ---- what a reader needs
  said-again : {load other top : ℕ} {ps : List Piece} → Says format load text top ps → Says format other text top ps
  said-again (s.hex f l h) = s.hex f l h
  said-again (s.s-records f v l h) = s.s-records f v l h

  -- a file that is refused is good from no load address
  pub no-load : {scratch : List ℕ} (y : DkExtent × List ℕ) → ExtentSays format text scratch y → y.0.refusal ≡ 4 → (load : ℕ) → Bad format load text
  no-load y (x.bad n) e load ps (s.good h i o) = n ps (s.good (said-again h) (λ j a b q. (omega arith, (i j a b q).1)) o)
  no-load y (x.no_byte g e) z load ps q = omega arith
  no-load y (x.from-to g f h a) z load ps q = omega arith

  -- one that gives a byte is good from every load address up to the lowest, and all of its bytes stand below `end`
  pub any-load : {scratch : List ℕ} (y : DkExtent × List ℕ) → ExtentSays format text scratch y → 0 < y.0.end → (load : ℕ) → load ≤ y.0.lowest
      → (ps : List Piece) × Good format load text ps × ((a : ℕ) → GivenTo ps a → a - load < y.0.end - load)
  any-load y (x.bad n) z load low = absurd (omega arith)
  any-load y (x.no_byte g e) z load low = absurd (omega arith)
  any-load y (x.from-to {ps} {lowest = c} {highest = b} (s.good k i o) f h a) z load low = (
    ps,
    s.good (said-again k) (λ j d v q. (omega (arith, f.none_below d (j, v, q)), (i j d v q).1)) o,
    λ d q. omega (arith, f.none_below d q, a d q),
  )
