-- What is read depends on nothing but the bytes at the addresses: two good files that give the same bytes to the same addresses have one outcome, in
-- the answer and in everything lent, whatever their formats. So data records come in any order (`order-free`), and a line ends at LF, CR LF or the end of
-- the text, each line by itself (`cr-lf-free`, and of the line at fault `cr-lf-fault`; docs/DECISIONS.md). From the sentences alone.
use Rattle.std.specs.Prelude.{◌≡◌, refl, ◌⊎◌, ℕ, suc, ◌+◌, ◌-◌, ◌≤◌, ◌<◌, length, take}
use Rattle.std.proofs.Common.{sym, ap, ◌∙◌, subst, arith}
use mathlib.Core.List.Permᴰ
use mathlib.Core.List.{List, [], ◌∷◌, Permᴰ}
use Rattle.record_lines.specs.Pieces.{Piece}
use Rattle.c_answers.specs.declared.DkFault.{DkFault}
use Rattle.says.specs.Words as words
use Rattle.says.specs.Words.{Tries}
use Rattle.says.specs.Records as r
use Rattle.says.specs.Words.{Not}
use Rattle.says.specs.Records.{Lines, Width}
use Rattle.says.specs.Read as s
use Rattle.says.specs.Read.{HexLines, SrecLines, GivenTo, Says, Good, GoesOn}
use Rattle.says.specs.Read.{FaultSays, Block, Blocks, Lent, Outcome, Filled, Accepts, ReadSays}
use Rattle.meets_records.specs.Laws.One.{lines-one, srec-kind}
use Rattle.meets_records.specs.Laws.Has.{Has, gives-has, has-gives, once-lone, lone-once, has-reordered, lone-reordered}
use Rattle.meets_records.specs.Theorems.ReadDecides.{good-said, good-one, read-decides, distinct}
use Rattle.meets_records.specs.Theorems.FaultDecides.{fault-decides}

-- ---- the same bytes
given_by : (ps qs : List Piece) → ((a b : ℕ) → Has ps a b → Has qs a b) → (a : ℕ) → GivenTo ps a → GivenTo qs a
given_by ps qs there a g = let k = has-gives qs a g.1 (there a g.1 (gives-has ps g.0 a g.1 g.2)) in (k.0, g.1, k.1)

module _ (format format' load : ℕ) (text other : List ℕ) (ps qs : List Piece) (old : Lent)
    (there : (a b : ℕ) → Has ps a b → Has qs a b) (back : (a b : ℕ) → Has qs a b → Has ps a b) where
  abbrev given-there : (a : ℕ) → GivenTo ps a → GivenTo qs a
  given-there = given_by ps qs there

  abbrev given_back : (a : ℕ) → GivenTo qs a → GivenTo ps a
  given_back = given_by qs ps back

  block-there : {o n : ℕ} → Block format load text ps o n → Block format' load other qs o n
  block-there (s.block {first} {count} some all behind before e f) =
      s.block {first = first} {count = count} some (λ k h. given-there (first + k) (all k h)) (λ g. behind (given_back (first + count) g))
      (λ a h g. before a h (given_back a g)) e f

  block_back : {o n : ℕ} → Block format' load other qs o n → Block format load text ps o n
  block_back (s.block {first} {count} some all behind before e f) =
      s.block {first = first} {count = count} some (λ k h. given_back (first + k) (all k h)) (λ g. behind (given-there (first + count) g))
      (λ a h g. before a h (given-there a g)) e f

  blocks-there : {os ss : List ℕ} → Blocks format load text ps os ss → Blocks format' load other qs os ss
  blocks-there b = record {
    as_many = b.as_many;
    each = λ i h. block-there (b.each i h);
    every = λ o n x. b.every o n (block_back x);
    rising = b.rising;
  }

  filled-there : {bytes : List ℕ} → Filled format load text old ps bytes → Filled format' load other old qs bytes
  filled-there f = record {
    as_long = f.as_long;
    given = λ i a b g. let k = has-gives ps a b (back a b (gives-has qs i a b g)) in f.given k.0 a b k.1;
    kept = λ x none. f.kept x (λ g. none (given-there (load + x) g));
  }

  accepts-there : {os ss : List ℕ} (y : Outcome) → Accepts format load text old ps os ss y → Accepts format' load other old qs os ss y
  accepts-there y (s.accepts f o z) = s.accepts (filled-there f) o z

  abbrev Rest : List ℕ → (Outcome → Type 0) → Outcome → Type 0
  Rest os = Tries (λ (_ : Unit {0}). (length old.offsets < length os) ⊎ (length old.sizes < length os)) (λ _. s.refusal format load text old 14 2)

  rest-there : {os ss : List ℕ} (y : Outcome) → Rest os (Accepts format load text old ps os ss) y → Rest os (Accepts format' load other old qs os ss) y
  rest-there y (words.refused x m) = words.refused x m
  rest-there y (words.passed none a) = words.passed none (accepts-there y a)

  says_there : {os ss : List ℕ} (y : Outcome) → Good format' load other qs → Blocks format load text ps os ss
      → Tries (λ (a : ℕ). GivenTo ps a × (length old.bytes ≤ a - load)) (λ _. s.refusal format load text old 14 0)
      (Rest os (Accepts format load text old ps os ss)) y
      → ReadSays format' load other old y
  says_there y g b (words.refused a m) = s.read g (blocks-there b) (words.refused a (given-there a m.0, m.1))
  says_there y g b (words.passed none t) =
      s.read g (blocks-there b) (words.passed (λ a m. none a (given_back a m.0, m.1)) (rest-there y t))

  pub same-reading : Good format load text ps → Good format' load other qs → (y z : Outcome) → ReadSays format load text old y
      → ReadSays format' load other old z → y ≡ z
  same-reading g h y z (s.bad n) u = absurd (n ps g)
  same-reading g h y z (s.read {ps = rs} {offsets = os} {sizes = ss} k b t) u =
      let pieces : rs ≡ ps = good-one format load k g in
      read-decides format' load other old y z (says_there y h (rw pieces at b) (rw pieces at t)) u

-- ---- any order

-- the first address that doesn't fit is told by the end record
top_one : {d e w m d' e' w' m' : ℕ} → Width d e w m → Width d' e' w' m' → e ≡ e' → m ≡ m'
top_one (r.two a b c f) (r.two a' b' c' f') x = omega arith
top_one (r.two a b c f) (r.four a' b' c' f') x = absurd (omega arith)
top_one (r.four a b c f) (r.two a' b' c' f') x = absurd (omega arith)
top_one (r.four a b c f) (r.four a' b' c' f') x = omega arith

module _ {d e w m d' e' w' m' : ℕ} (here : Width d e w m) (there : Width d' e' w' m') where
  ends-one : {ls : List (List ℕ)} {ps qs : List Piece} → SrecLines d e w ls ps → SrecLines d' e' w' ls qs → e ≡ e'
  ends-one (s.end h) (s.end k) = srec-kind h k
  ends-one (s.end h) (s.piece k y) = absurd ((distinct here there).1 (srec-kind h k))
  ends-one (s.end h) (s.header k y) = absurd ((distinct here there).3 (sym (srec-kind h k)))
  ends-one (s.piece h x) (s.end k) = absurd ((distinct here there).0 (srec-kind h k))
  ends-one (s.piece h x) (s.piece k y) = ends-one x y
  ends-one (s.piece h x) (s.header k y) = absurd ((distinct here there).2 (sym (srec-kind h k)))
  ends-one (s.header h x) (s.end k) = absurd ((distinct here there).5 (srec-kind h k))
  ends-one (s.header h x) (s.piece k y) = absurd ((distinct here there).4 (srec-kind h k))
  ends-one (s.header h x) (s.header k y) = ends-one x y

says-top : {format load m n : ℕ} {text : List ℕ} {ps qs : List Piece} → Says format load text m ps → Says format load text n qs → m ≡ n
says-top (s.hex f a x) (s.hex g b y) = refl
says-top (s.hex f a x) (s.s-records n w b y) = absurd (omega arith)
says-top (s.s-records n w a x) (s.hex f b y) = absurd (omega arith)
says-top (s.s-records n w a x) (s.s-records n' v b y) = top_one w v (ends-one w v x (rw (lines-one b a) at y))

module _ {format format' load top : ℕ} {text other : List ℕ} {ps qs : List Piece} (x : Says format load text top ps) (y : Says format' load other top qs)
    (order : Permᴰ ps qs) where
  good-there : Good format load text ps → Good format' load other qs
  good-there (s.good {top = m} z within once) =
      let same : m ≡ top = says-top z x in
      s.good y (λ i a b g.
      let k = has-gives ps a b (has-reordered (Permᴰ.symm order) a b (gives-has qs i a b g)) in
      let w = within k.0 a b k.1 in
      (w.0, omega (arith, w.1, same)))
      (lone-once qs (lone-reordered order (once-lone ps once)))

-- Two files whose lines say the same pieces, in any order, have one outcome. A piece is a data record with its whole address; so data records stand in any
-- order, in Intel HEX each under the upper half that makes its address, and type 04 and S0 records stand anywhere between them. The formats may differ, if
-- the same addresses fit.
module _ {format format' load top : ℕ} {text other : List ℕ} {ps qs : List Piece} (x : Says format load text top ps) (y : Says format' load other top qs)
    (order : Permᴰ ps qs) where
  pub order-free : (old : Lent) (v w : Outcome) → ReadSays format load text old v → ReadSays format' load other old w → v ≡ w
  order-free old v w (s.bad n) (s.bad m) = refl
  order-free old v w (s.bad n) (s.read {ps = rs} h b t) =
      absurd (n ps (good-there y x (Permᴰ.symm order) (subst (Good format' load other) (good-said format' load h y) h)))
  order-free old v w (s.read {ps = rs} g b t) u =
      let mine = subst (Good format load text) (good-said format load g x) g in
      same-reading format format' load text other ps qs old (has-reordered order) (has-reordered (Permᴰ.symm order)) mine (good-there x y order mine) v w
      (s.read g b t) u

-- ---- the same lines
module _ {format load : ℕ} {text other : List ℕ} {ls : List (List ℕ)} (a : Lines text ls) (b : Lines other ls) where
  pub same_lines : {ps : List Piece} → Good format load text ps → Good format load other ps
  same_lines {ps} (s.good (s.hex e lines t) within once) =
      s.good (s.hex e b (subst (λ (n : List (List ℕ)). HexLines 0 n ps) (lines-one lines a) t)) within once
  same_lines {ps} (s.good (s.s-records {d = d} {e = e} {width = w} n v lines t) within once) =
      s.good (s.s-records n v b (subst (λ (n : List (List ℕ)). SrecLines d e w n ps) (lines-one lines a) t)) within once

  goes-there : (n : ℕ) → GoesOn format load text n → GoesOn format load other n
  goes-there n (s.goes_on {ms = ms} g x y e) = s.goes_on g b y (e ∙ ap (λ (l : List (List ℕ)). take n l) (lines-one x a))

module _ {format load : ℕ} {text other : List ℕ} {ls : List (List ℕ)} (a : Lines text ls) (b : Lines other ls) where
  pub lines-free : (old : Lent) (y z : Outcome) → ReadSays format load text old y → ReadSays format load other old z → y ≡ z
  lines-free old y z (s.bad n) (s.bad m) = refl
  lines-free old y z (s.bad n) (s.read {ps = ps} h c t) = absurd (n ps (same_lines b a h))
  lines-free old y z (s.read {ps = ps} g c t) u =
      same-reading format format load text other ps ps old (λ i j x. x) (λ i j x. x) g (same_lines a b g) y z (s.read g c t) u

  pub fault-free : (scratch : List ℕ) (y z : DkFault × List ℕ) → FaultSays format load text scratch y → FaultSays format load other scratch z → y ≡ z
  fault-free scratch y z (s.none g) x = fault-decides format load other scratch y z (s.none (same_lines a b g)) x
  fault-free scratch y z (s.at {i} on never) x =
      fault-decides format load other scratch y z (s.at {i = i} (goes-there a b i on) (λ o. never (goes-there b a (suc i) o))) x
  fault-free scratch y z (s.no-format p q) x = fault-decides format load other scratch y z (s.no-format p q) x

-- CR LF in the place of LF, at any lines of a text without CR.
pub data LineEnds : List ℕ → List ℕ → Type 0 where
  none : LineEnds [] []
  kept : {c : ℕ} {t u : List ℕ} → Not (c ≡ 13) → LineEnds t u → LineEnds (c ∷ t) (c ∷ u)
  cr-lf : {c : ℕ} {t u : List ℕ} → c ≡ 10 → LineEnds t u → LineEnds (c ∷ t) (13 ∷ 10 ∷ u)

ends-lines : {t u : List ℕ} {ls : List (List ℕ)} → LineEnds t u → Lines t ls → Lines u ls
ends-lines none r.none = r.none
ends-lines (kept n x) (r.lf e y) = r.lf e (ends-lines x y)
ends-lines (kept n x) (r.cr-lf e f y) = absurd (n e)
ends-lines (kept n none) (r.last m) = r.last m
ends-lines (kept n (kept k x)) (r.more m o y) = r.more m (λ p. n p.0) (ends-lines (kept k x) y)
ends-lines (kept n (cr-lf e x)) (r.more m o y) = r.more m (λ p. n p.0) (ends-lines (cr-lf e x) y)
ends-lines (cr-lf e x) (r.lf f y) = r.cr-lf refl refl (ends-lines x y)
ends-lines (cr-lf e x) (r.cr-lf f g y) = absurd (omega arith)
ends-lines (cr-lf e x) (r.last n) = absurd (n e)
ends-lines (cr-lf e x) (r.more n m y) = absurd (n e)

module _ {format load : ℕ} {text other : List ℕ} {ls : List (List ℕ)} (a : Lines text ls) (x : LineEnds text other) where
  pub cr-lf-free : (old : Lent) (y z : Outcome) → ReadSays format load text old y → ReadSays format load other old z → y ≡ z
  cr-lf-free = lines-free a (ends-lines x a)

  pub cr-lf-fault : (scratch : List ℕ) (y z : DkFault × List ℕ) → FaultSays format load text scratch y → FaultSays format load other scratch z → y ≡ z
  cr-lf-fault = fault-free a (ends-lines x a)
