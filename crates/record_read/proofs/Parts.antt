-- Where records ascend, every piece that does not begin where the one before it ends begins a block.
use mathlib.Core.Path.{◌≡◌, refl, sym, ap, ap₂, subst, ◌∙◌}
use mathlib.Core.Bool.{Bool, true, false, ◌&&◌, ◌||◌}
use mathlib.Core.List.{List, [], ◌∷◌, ◌++◌, append-nil}
use Prim.Native.Nat.{ℕ, zero, suc, ◌+◌, ◌-◌, ◌≤◌, ◌<◌}
use native.Mathlib.Decide.{dec_lt, ℕ_discrete}
use native.Mathlib.Omega.{arith}
use borrow.Author.Tests.{le-leb, lt-leb, lt-ltb, leb-true, eq-eqb, ne_eqb}
use lib.Dec.{leb, eqb}
use lib.ListN.{length, length-append, length-map}
use Rattle.prelude.specs.Laws.Bools.{both}
use Rattle.prelude.specs.Pick.{pick}
use Rattle.blocks.specs.declared.Block.{Block}
use Rattle.blocks.specs.Walk.{block}
use Rattle.record_lines.specs.Items.{Item, gives, passes, ends, bad}
use Rattle.record_lines.specs.Pieces.{Piece, piece, end_of}
use Rattle.record_scan.specs.Reading.{new_pieces, is_new}
use Rattle.record_scan.specs.Sound.{Fine, none, more}
use Rattle.record_scan.specs.Trail.{trail, item_at}
use Rattle.record_scan.specs.Laws.TrailLaws.{high-append, last-append, parts-append}
use Rattle.record_scan.specs.Steps.{highest, rises, last_end, parts_of, nowhere}
use Rattle.record_read.specs.Given.{given, holds}
use Rattle.record_read.specs.Laws.BlockFacts.{none_above, all-below}
use Rattle.record_read.specs.Laws.GivenLaws.{given-append}
use Rattle.record_read.specs.Runs.{is_given, reach, in_bits, runs_given, blocks_given}
use Rattle.record_read.specs.Steps.{run, kept_run, closed_by, joined_by, Walked}
use Rattle.record_read.specs.declared.Run.{Run}
use Rattle.record_read.proofs.Loops.{or-in, or-out, joined_end}
use Rattle.record_read.proofs.Walks.{kept-some, kept-none, closed-touching, closed-apart}
use Rattle.record_read.proofs.Walks.{walked-starts, walked_on, walked-agree, walked_all}

-- ---- where the pieces of a sound file lie

abbrev Within : ℕ → List Piece → Type 0
Within load [] = Unit {0}
Within load (p ∷ l) = ((load ≤ p.address) × (end_of p ≤ 4294967296)) × Within load l

within-join : (load : ℕ) (l m : List Piece) → Within load l → Within load m → Within load (l ++ m)
within-join load [] m p q = q
within-join load (x ∷ l) m p q = (p.0, within-join load l m p.1 q)

within-split : (load : ℕ) (l m : List Piece) → Within load (l ++ m) → Within load l × Within load m
within-split load [] m p = (tt, p)
within-split load (x ∷ l) m p = let r = within-split load l m p.1 in ((p.0, r.0), r.1)

pub within-fine : {load : ℕ} {l : List Piece} → Fine load l → Within load l
within-fine none = tt
within-fine {load} (more l p f e) =
    let two = both (leb load p.address && leb (end_of p) 4294967296) (is_new l p.address (end_of p)) e in
    let ends = both (leb load p.address) (leb (end_of p) 4294967296) two.0 in
    within-join load l (p ∷ []) (within-fine f) ((leb-true load p.address ends.0, leb-true (end_of p) 4294967296 ends.1), tt)

pub within_low : (load : ℕ) (l : List Piece) → Within load l → highest l ≤ 4294967296
unfolding highest
within_low load [] w = omega arith
within_low load (p ∷ l) w = omega (arith, w.0.1, within_low load l w.1)

-- ---- one piece more

kept-one : (l : List Block) (r : Run) → r.first < r.end → length (l ++ kept_run r) ≡ length l + 1
kept-one l r h =
    ap (λ (k : List Block). length (l ++ k)) (kept-some r h) ∙ length-append l (block r.first (r.end - r.first) ∷ [])

kept-zero : (l : List Block) (r : Run) → r.end ≤ r.first → length (l ++ kept_run r) ≡ length l
kept-zero l r h = ap (λ (k : List Block). length (l ++ k)) (kept-none r h) ∙ ap length (append-nil l)

pub record Counted (load : ℕ) (pieces : List Piece) (edge parts : ℕ) : Type 0 where
  pub done : List Block
  pub last : Run
  pub walked : Walked (is_given load pieces) done last last.end
  pub top : last.end ≡ reach load pieces
  pub all : length (done ++ kept_run last) ≡ parts
  pub some : last.first < last.end → edge ≡ load + last.end
  pub none : last.end ≤ last.first → edge ≡ nowhere

module _ (load : ℕ) {l : List Piece} {edge parts : ℕ} (w : Counted load l edge parts) (p : Piece) (above : load ≤ p.address)
    (bytes : p.address < end_of p) (fits : end_of p ≤ 4294967296) (up : highest l ≤ p.address) where
  abbrev next : Run
  next = run (p.address - load) (end_of p - load)

  abbrev test : ℕ → Bool
  test = is_given load (l ++ (p ∷ []))

  test-is : (x : ℕ) → test x ≡ (is_given load l x || (holds p (load + x) || false))
  unfolding given
  test-is x = given-append l (p ∷ []) (load + x)

  before : (x : ℕ) → x < next.first → test x ≡ is_given load l x
  before x h =
      let off : (holds p (load + x) || false) ≡ false = rw (lt-leb p.address (load + x) (omega arith)) in
      test-is x ∙ or-out (is_given load l x) off

  within : (x : ℕ) → next.first ≤ x → x < next.end → test x ≡ true
  within x h k =
      let on : (holds p (load + x) || false) ≡ true = rw (le-leb p.address (load + x) (omega arith), lt-ltb (load + x) (end_of p) (omega arith)) in
      test-is x ∙ or-in (is_given load l x) on

  full : next.first < next.end
  full = omega arith

  behind : w.last.end ≤ next.first
  behind = omega (arith, w.top)

  walked : Walked test (w.done ++ closed_by w.last next) (joined_by w.last next) next.end
  walked =
      walked_on test
      (walked-agree (is_given load l) test (λ x h. sym (before x (omega (arith, behind)))) w.walked)
      next full behind (λ x h k. before x k ∙ none_above load l x (omega (arith, w.top))) within

  -- whether it touches the piece before it
  abbrev step : ℕ
  step = pick (eqb p.address edge) 0 1

  apart : (next.first ≡ w.last.end → ⊥) → step ≡ 1
  apart e = rw (ne_eqb p.address edge (λ z. elim (dec_lt w.last.first w.last.end) [
    | yes s ↦ e (omega (arith, w.some s))
    | no s ↦ let n = w.none (omega arith) in omega arith
  ]))

  grown : length ((w.done ++ closed_by w.last next) ++ kept_run (joined_by w.last next)) ≡ parts + step
  grown =
      elim (ℕ_discrete next.first w.last.end) [
        | no e ↦
            let c = closed-apart w.last next full e in
            ap₂ (λ (k : List Block) (r : Run). length ((w.done ++ k) ++ kept_run r)) c.0 c.1
            ∙ kept-one (w.done ++ kept_run w.last) next full ∙ omega (arith, w.all, apart e)
        | yes e ↦
            let c = closed-touching w.last next full e in
            let joined : Run = run w.last.first next.end in
            let same : length ((w.done ++ closed_by w.last next) ++ kept_run (joined_by w.last next)) ≡ length w.done + 1 =
            ap₂ (λ (k : List Block) (r : Run). length ((w.done ++ k) ++ kept_run r)) c.0 c.1
            ∙ ap (λ (k : List Block). length (k ++ kept_run joined)) (append-nil w.done)
            ∙ kept-one w.done joined (omega (arith, full, e, w.walked.order)) in
            elim (dec_lt w.last.first w.last.end) [
              | yes s ↦
                  let touch : step ≡ 0 = touches (omega (arith, w.some s)) in
                  same ∙ omega (arith, w.all, kept-one w.done w.last s, touch)
              | no s ↦
                  let far : step ≡ 1 = first (w.none (omega arith)) in
                  same ∙ omega (arith, w.all, kept-zero w.done w.last (omega arith), far)
            ]
      ]
    where
      touches : p.address ≡ edge → step ≡ 0
      touches e = rw (eq-eqb p.address edge e)

      first : edge ≡ nowhere → step ≡ 1
      first e = rw (ne_eqb p.address edge (λ z. omega arith))

  pub counted-more : Counted load (l ++ (p ∷ [])) (end_of p) (parts + step)
  unfolding highest
  counted-more =
      let ends : (joined_by w.last next).end ≡ next.end = joined_end w.last next full in
      let high : highest (l ++ (p ∷ [])) ≡ end_of p = high-append l (p ∷ []) ∙ omega arith in
      let order : (joined_by w.last next).first < (joined_by w.last next).end = starts in
      record {
        done = w.done ++ closed_by w.last next;
        last = joined_by w.last next;
        walked = subst (Walked test (w.done ++ closed_by w.last next) (joined_by w.last next)) (sym ends) walked;
        top = ends ∙ ap (λ (h : ℕ). h - load) (sym high);
        all = grown;
        some = λ s. omega (arith, ends);
        none = λ s. absurd (omega (arith, order));
      }
    where
      starts : (joined_by w.last next).first < (joined_by w.last next).end
      starts =
          elim (ℕ_discrete next.first w.last.end) [
            | yes e ↦
                subst (λ (r : Run). r.first < r.end) (sym (closed-touching w.last next full e).1) (omega (arith, full, e, w.walked.order))
            | no e ↦ subst (λ (r : Run). r.first < r.end) (sym (closed-apart w.last next full e).1) full
          ]

-- ---- the lines of a file

abbrev Ready : ℕ → List Piece → Type 0
Ready load l = Counted load l (last_end nowhere l) (parts_of nowhere l)

ready-same : (load : ℕ) (l : List Piece) → Ready load l → Ready load (l ++ [])
ready-same load l w = subst (Ready load) (sym (append-nil l)) w

-- a piece with a byte begins above nothing
piece-above : (p : Piece) (h : ℕ) → p.address < end_of p → is_new (p ∷ []) 0 h ≡ true → h ≤ p.address
unfolding is_new
piece-above p h k e =
    let some : (leb h p.address && true) ≡ true = rw (lt-leb (end_of p) 0 (omega arith)) at e in
    leb-true h p.address (both (leb h p.address) true some).0

ready-more : (load : ℕ) (l : List Piece) (i : Item) → Ready load l → Within load (new_pieces i) → is_new (new_pieces i) 0 (highest l) ≡ true
    → Ready load (l ++ new_pieces i)
unfolding last_end parts_of
ready-more load l (gives a [] s) w h e = ready-same load l w
ready-more load l (gives a (b ∷ m) s) w h e =
    let p : Piece = piece a (b ∷ m) in
    let some : p.address < end_of p = omega arith in
    let parts : parts_of nowhere l + pick (eqb p.address (last_end nowhere l)) 0 1 ≡ parts_of nowhere (l ++ (p ∷ [])) =
    omega (arith, parts-append l (p ∷ []) nowhere) in
    subst (Counted load (l ++ (p ∷ [])) (last_end nowhere (l ++ (p ∷ [])))) parts
    (subst (λ (n : ℕ). Counted load (l ++ (p ∷ [])) n (parts_of nowhere l + pick (eqb p.address (last_end nowhere l)) 0 1))
    (sym (last-append l (p ∷ []) nowhere))
    (counted-more load w p h.0.0 some h.0.1 (piece-above p (highest l) some e)))
ready-more load l (passes s) w h e = ready-same load l w
ready-more load l ends w h e = ready-same load l w
ready-more load l bad w h e = ready-same load l w

module _ (format load : ℕ) (text : List ℕ) where
  ready : (n : ℕ) → rises format text n ≡ true → Within load (trail format text n).given → Ready load (trail format text n).given
  unfolding rises trail highest last_end parts_of
  ready zero e h =
      record {
        done = [];
        last = run 0 0;
        walked = walked-starts (is_given load []);
        top = omega arith;
        all = refl;
        some = λ s. absurd (omega arith);
        none = λ s. refl;
      }
  ready (suc n) e h =
      let t = trail format text n in
      let item = item_at format text t.at t.state in
      let two = both (rises format text n) (is_new (new_pieces item) 0 (highest t.given)) e in
      let parted = within-split load t.given (new_pieces item) h in
      ready-more load t.given item (ready n two.0 parted.0) parted.1 two.1

  pub parts-are-blocks : (n : ℕ) → rises format text n ≡ true → Within load (trail format text n).given
      → parts_of nowhere (trail format text n).given ≡ length (blocks_given load (trail format text n).given)
  unfolding runs_given
  parts-are-blocks n e h =
      let l = (trail format text n).given in
      let w = ready n e h in
      sym w.all
      ∙ ap length
      (sym (walked_all (is_given load l) w.walked (reach load l) (λ x a b. none_above load l x (omega (arith, w.top))) (all-below load l)))
      ∙ sym (length-map (runs_given load l) in_bits)
