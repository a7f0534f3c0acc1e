-- The sentences of `dk_read_records` leave one outcome: the answer and everything lent. From the sentences alone.
use Rattle.std.specs.Prelude.{◌≡◌, refl, List, ◌⊎◌, ℕ, zero, suc, ◌+◌, ◌*◌, ◌-◌, ◌≤◌, ◌<◌, eqb, length, get_or}
use Rattle.std.proofs.Common.{sym, ap, ◌∙◌, subst, ⊎_elim, arith, eqb-true, ext_get_or}
use Rattle.std.proofs.lemmas.Bool.{eqb-false}
use Rattle.prelude.specs.Laws.Bools.{either}
use Rattle.sort.specs.Laws.Sorted.{le-or-lt}
use Rattle.record_lines.specs.Pieces.{Piece}
use Rattle.meets.specs.Laws.Words.{OneOnly, tries-one, begins-one}
use Rattle.says.specs.Records as s
use Rattle.says.specs.Records.{Width}
use Rattle.meets_records.specs.Laws.One.{lines-one, hex-one, apart, srec-kind, srec-one}
use Rattle.meets_records.specs.Theorems.WriteDecides.{same-piece}
use Rattle.says.specs.Read as r
use Rattle.says.specs.Read.{HexLines, SrecLines, GivenTo, Says, Good}
use Rattle.says.specs.Read.{Block, Blocks, Lent, refusal, Filled, Accepts, ReadSays}

same_number : (x y : ℕ) → ((x ≡ y → ⊥) → ⊥) → x ≡ y
same_number x y h = either (eqb x y) (λ t. eqb-true x y t) (λ f. absurd (h (eqb-false x y f)))

-- ---- one list of pieces
hex-lines-one : {u : ℕ} {ls : List (List ℕ)} {ps qs : List Piece} → HexLines u ls ps → HexLines u ls qs → ps ≡ qs
hex-lines-one (r.end h) (r.end k) = refl
hex-lines-one (r.end h) (r.piece k e x) = absurd (omega (arith, (hex-one h k).0))
hex-lines-one (r.end h) (r.upper-half k x) = absurd (omega (arith, (hex-one h k).0))
hex-lines-one (r.piece k e x) (r.end h) = absurd (omega (arith, (hex-one h k).0))
hex-lines-one (r.piece {p = p} h e x) (r.piece {p = q} k f y) =
    let same = hex-one h k in
    let piece : p ≡ q = same-piece p q (omega (arith, same.1)) same.2 in
    rw (piece, hex-lines-one x y)
hex-lines-one (r.piece h e x) (r.upper-half k y) = absurd (omega (arith, (hex-one h k).0))
hex-lines-one (r.upper-half k x) (r.end h) = absurd (omega (arith, (hex-one h k).0))
hex-lines-one (r.upper-half k x) (r.piece h e y) = absurd (omega (arith, (hex-one h k).0))
hex-lines-one (r.upper-half {a = a} {b = b} h x) (r.upper-half {a = c} {b = d} k y) =
    let one = apart (hex-one h k).2 in
    let two = apart one.1 in
    let half : 256 * c + d ≡ 256 * a + b = omega (arith, one.0, two.0) in
    hex-lines-one x (rw half at y)

abbrev pub Distinct : ℕ → ℕ → ℕ → ℕ → Type 0
Distinct d e d' e' = (d ≡ e' → ⊥) × (e ≡ d' → ⊥) × (48 ≡ d → ⊥) × (48 ≡ e → ⊥) × (48 ≡ d' → ⊥) × (48 ≡ e' → ⊥)

pub distinct : {d e w m d' e' w' m' : ℕ} → Width d e w m → Width d' e' w' m' → Distinct d e d' e'
distinct (s.two a b c f) (s.two a' b' c' f') = (λ x. omega arith, λ x. omega arith, λ x. omega arith, λ x. omega arith, λ x. omega arith, λ x. omega arith)
distinct (s.two a b c f) (s.four a' b' c' f') = (λ x. omega arith, λ x. omega arith, λ x. omega arith, λ x. omega arith, λ x. omega arith, λ x. omega arith)
distinct (s.four a b c f) (s.two a' b' c' f') = (λ x. omega arith, λ x. omega arith, λ x. omega arith, λ x. omega arith, λ x. omega arith, λ x. omega arith)
distinct (s.four a b c f) (s.four a' b' c' f') = (λ x. omega arith, λ x. omega arith, λ x. omega arith, λ x. omega arith, λ x. omega arith, λ x. omega arith)

pub by-data : {d e w m d' e' w' m' : ℕ} → Width d e w m → Width d' e' w' m' → d ≡ d' → w' ≡ w
by-data (s.two a b c f) (s.two a' b' c' f') x = omega arith
by-data (s.two a b c f) (s.four a' b' c' f') x = absurd (omega arith)
by-data (s.four a b c f) (s.two a' b' c' f') x = absurd (omega arith)
by-data (s.four a b c f) (s.four a' b' c' f') x = omega arith

module _ {d e w m d' e' w' m' : ℕ} (here : Width d e w m) (there : Width d' e' w' m') where
  srec-lines-one : {ls : List (List ℕ)} {ps qs : List Piece} → SrecLines d e w ls ps → SrecLines d' e' w' ls qs → ps ≡ qs
  srec-lines-one (r.end h) (r.end k) = refl
  srec-lines-one (r.end h) (r.piece k y) = absurd ((distinct here there).1 (srec-kind h k))
  srec-lines-one (r.end h) (r.header k y) = absurd ((distinct here there).3 (sym (srec-kind h k)))
  srec-lines-one (r.piece h x) (r.end k) = absurd ((distinct here there).0 (srec-kind h k))
  srec-lines-one (r.piece {p = p} h x) (r.piece {p = q} k y) =
      let width = by-data here there (srec-kind h k) in
      let same = srec-one h (rw width at k) in
      let piece : p ≡ q = same-piece p q same.0 same.1 in
      rw (piece, srec-lines-one x y)
  srec-lines-one (r.piece h x) (r.header k y) = absurd ((distinct here there).2 (sym (srec-kind h k)))
  srec-lines-one (r.header h x) (r.end k) = absurd ((distinct here there).5 (srec-kind h k))
  srec-lines-one (r.header h x) (r.piece k y) = absurd ((distinct here there).4 (srec-kind h k))
  srec-lines-one (r.header h x) (r.header k y) = srec-lines-one x y

-- ---- two rising lists with the same members are the same
abbrev Rising : List ℕ → Type 0
Rising l = (i j : ℕ) → i < j → j < length l → get_or l i 0 < get_or l j 0

abbrev Among : List ℕ → List ℕ → Type 0
Among a b = (i : ℕ) → i < length a → (j : ℕ) × (j < length b) × (get_or b j 0 ≡ get_or a i 0)

abbrev Agree : List ℕ → List ℕ → ℕ → Type 0
Agree a b n = (i : ℕ) → i < n → i < length a → (i < length b) × (get_or a i 0 ≡ get_or b i 0)

up : (l : List ℕ) → Rising l → (i j : ℕ) → i ≤ j → j < length l → get_or l i 0 ≤ get_or l j 0
up l rise i j h k = ⊎_elim
    (λ le. let same : j ≡ i = omega arith in rw same (omega arith))
    (λ lt. omega (arith, rise i j lt k))
    (le-or-lt j i)

half : (a b : List ℕ) → Rising a → Rising b → Among a b → Among b a → (n : ℕ) → Agree a b n → Agree b a n → n < length a
    → (n < length b) × (get_or a n 0 ≡ get_or b n 0)
half a b ra rb ab ba n f g h =
    let j = ab n h in
    let at_least : n ≤ j.0 = ⊎_elim
    (λ le. le)
    (λ lt. let k = g j.0 lt j.1 in absurd (omega (arith, ra j.0 n lt h, k.1, j.2)))
    (le-or-lt n j.0) in
    let inside : n < length b = omega (arith, j.1) in
    let k = ba n inside in
    let no_less : n ≤ k.0 = ⊎_elim
    (λ le. le)
    (λ lt. let m = f k.0 lt k.1 in absurd (omega (arith, rb k.0 n lt inside, m.1, k.2)))
    (le-or-lt n k.0) in
    (inside, omega (arith, up b rb n j.0 at_least j.1, up a ra n k.0 no_less k.1, j.2, k.2))

grown : (a b : List ℕ) (n : ℕ) → Agree a b n → (n < length a → (n < length b) × (get_or a n 0 ≡ get_or b n 0)) → Agree a b (suc n)
grown a b n f last i h k = ⊎_elim
    (λ le. let same : i ≡ n = omega arith in rw same (last (rw same at k)))
    (λ lt. f i lt k)
    (le-or-lt n i)

agree : (a b : List ℕ) → Rising a → Rising b → Among a b → Among b a → (n : ℕ) → Agree a b n × Agree b a n
agree a b ra rb ab ba zero = (λ i h k. absurd (omega arith), λ i h k. absurd (omega arith))
agree a b ra rb ab ba (suc n) =
    let before = agree a b ra rb ab ba n in
    (grown a b n before.0 (half a b ra rb ab ba n before.0 before.1), grown b a n before.1 (half b a rb ra ba ab n before.1 before.0))

rising-one : (a b : List ℕ) → Rising a → Rising b → Among a b → Among b a → a ≡ b
rising-one a b ra rb ab ba =
    let same_length : length a ≡ length b = ⊎_elim
    (λ le. ⊎_elim
    (λ ge. omega arith)
    (λ lt. absurd (omega (arith, ((agree a b ra rb ab ba (suc (length a))).1 (length a) (omega arith) lt).0)))
    (le-or-lt (length b) (length a)))
    (λ lt. absurd (omega (arith, ((agree a b ra rb ab ba (suc (length b))).0 (length b) (omega arith) lt).0)))
    (le-or-lt (length a) (length b)) in
    ext_get_or 0 a b same_length (λ i h. ((agree a b ra rb ab ba (suc i)).0 i (omega arith) h).1)

module _ (format load : ℕ) where
  says-one : {text : List ℕ} {m n : ℕ} {ps qs : List Piece} → Says format load text m ps → Says format load text n qs → ps ≡ qs
  says-one (r.hex f a x) (r.hex g b y) = hex-lines-one x (rw (lines-one b a) at y)
  says-one (r.hex f a x) (r.s-records n w b y) = absurd (omega arith)
  says-one (r.s-records n w a x) (r.hex f b y) = absurd (omega arith)
  says-one (r.s-records n w a x) (r.s-records n' v b y) = srec-lines-one w v x (rw (lines-one b a) at y)

  pub good-said : {text : List ℕ} {m : ℕ} {ps qs : List Piece} → Good format load text ps → Says format load text m qs → ps ≡ qs
  good-said (r.good x i o) y = says-one x y

  pub good-one : {text : List ℕ} {ps qs : List Piece} → Good format load text ps → Good format load text qs → ps ≡ qs
  good-one (r.good x i o) (r.good y j u) = says-one x y

  module _ (text : List ℕ) where
    -- ---- one list of blocks
    module _ (ps : List Piece) (above : (a : ℕ) → GivenTo ps a → load ≤ a) where
      block_one : {o n n' : ℕ} → Block format load text ps o n → Block format load text ps o n' → n ≡ n'
      block_one (r.block {first = f} {count = c} h all behind before e g) (r.block {first = f'} {count = c'} h' all' behind' before' e' g') =
          let l = above (f + 0) (all 0 h) in
          let l' = above (f' + 0) (all' 0 h') in
          let start : f' ≡ f = omega arith in
          let same : c ≡ c' = ⊎_elim
          (λ le. ⊎_elim (λ ge. omega arith) (λ lt. absurd (behind (rw start at (all' c lt)))) (le-or-lt c' c))
          (λ lt. absurd (behind' (rw (sym start) at (all c' lt))))
          (le-or-lt c c') in
          omega arith

      module _ {os ss ot st : List ℕ} (x : Blocks format load text ps os ss) (y : Blocks format load text ps ot st) where
        pub offsets-one : os ≡ ot
        offsets-one = rising-one os ot x.rising y.rising
            (λ i h. y.every (get_or os i 0) (get_or ss i 0) (x.each i h))
            (λ i h. x.every (get_or ot i 0) (get_or st i 0) (y.each i h))

        pub sizes-one : ss ≡ st
        sizes-one =
            let same_length : length os ≡ length ot = ap (λ (l : List ℕ). length l) offsets-one in
            ext_get_or 0 ss st (omega (arith, x.as_many, y.as_many, same_length))
            (λ i h. let k : i < length os = omega (arith, x.as_many) in
            let there : get_or ot i 0 ≡ get_or os i 0 = ap (λ (l : List ℕ). get_or l i 0) (sym offsets-one) in
            block_one (x.each i k) (subst (λ (o : ℕ). Block format load text ps o (get_or st i 0)) there (y.each i (omega (arith, same_length)))))

    -- ---- with what is lent
    module _ (old : Lent) where
      filled-one : (ps : List Piece) (a b : List ℕ) → Filled format load text old ps a → Filled format load text old ps b → a ≡ b
      filled-one ps a b x y = ext_get_or 0 a b (x.as_long ∙ sym y.as_long) (λ i h. same_number (get_or a i 0) (get_or b i 0) (λ differ.
          let place : (load + i) - load ≡ i = omega arith in
          let never : GivenTo ps (load + i) → ⊥ = λ g. differ (
          rw place at (x.given g.0 (load + i) g.1 g.2) ∙ sym (rw place at (y.given g.0 (load + i) g.1 g.2))
          ) in
          differ (x.kept i never ∙ sym (y.kept i never))))

      accepts-one : (ps : List Piece) (os ss : List ℕ) → OneOnly (Accepts format load text old ps os ss)
      accepts-one ps os ss y z (r.accepts {bytes = a} {os = b} {ss = c} f o s) (r.accepts {bytes = a'} {os = b'} {ss = c'} f' o' s') =
          rw (filled-one ps a a' f f', begins-one os old.offsets b b' o o', begins-one ss old.sizes c c' s s')

      above : {ps : List Piece} → Good format load text ps → (a : ℕ) → GivenTo ps a → load ≤ a
      above (r.good x i o) a g = (i g.0 a g.1 g.2).0

      pub read-decides : OneOnly (ReadSays format load text old)
      read-decides y z (r.bad n) (r.bad m) = refl
      read-decides y z (r.bad n) (r.read {ps = ps} g b t) = absurd (n ps g)
      read-decides y z (r.read {ps = ps} g b t) (r.bad n) = absurd (n ps g)
      read-decides y z (r.read {ps = ps} {offsets = os} {sizes = ss} g b t) (r.read {ps = qs} {offsets = ot} {sizes = st} g' b' t') =
          let pieces : qs ≡ ps = good-one g' g in
          let c = rw pieces at b' in
          let offsets : ot ≡ os = offsets-one ps (above g) c b in
          let sizes : st ≡ ss = sizes-one ps (above g) c b in
          tries-one (λ (a : ℕ). GivenTo ps a × (length old.bytes ≤ a - load)) (λ _. refusal format load text old 14 0) _ (λ a b m n. refl)
          (tries-one (λ (_ : Unit {0}). (length old.offsets < length os) ⊎ (length old.sizes < length os)) (λ _. refusal format load text old 14 2) _
          (λ a b m n. refl) (accepts-one ps os ss))
          y z t (rw (pieces, offsets, sizes) at t')
