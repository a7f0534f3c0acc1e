-- Laws of lines, trails and reading, on plain values.
use Rattle.std.specs.Prelude.{None, Some}
use mathlib.Core.Path.{◌≡◌, refl, sym, ap, ap₂, ◌∙◌}
use mathlib.Core.Bool.{Bool, true, false, ◌&&◌, ◌||◌, and-false, and_assoc}
use mathlib.Core.List.{List, [], ◌∷◌, ◌++◌, append-nil}
use Prim.Native.Nat.{ℕ, zero, suc, ◌+◌, ◌-◌, ◌<◌, ◌≤◌, max, min}
use native.Mathlib.Nat.{add-zero}
use native.Mathlib.Omega.{arith}
use native.Mathlib.Decide.{dec_lt, ℕ_discrete}
use lib.Dec.{leb, eqb}
use lib.ListN.{length, take, drop, length-take, length-drop, drop_of_length-le}
use borrow.Author.Tests.{le-leb, lt-leb, leb-true, leb-false, eq-eqb, ne_eqb}
use mathlib.Core.Logic.{◌⊎◌, inl, inr}
use Rattle.prelude.specs.Laws.Bools.{both, neither, clash, unlike}
use Rattle.prelude.specs.Pick.{pick}
use Rattle.record_lines.specs.Items.{Item, gives, passes, ends, bad, as_line, Says}
use Rattle.record_lines.specs.Lines.{is_lf, is_cr, lf_next, first_line, taken}
use Rattle.record_lines.specs.Laws.Lines.{first-is-front}
use Rattle.record_lines.specs.Pieces.{Piece, piece, end_of}
use Rattle.record_lines.specs.declared.Line.{Line}
use Rattle.record_scan.specs.Reading.{format_by, Read, sound, faulty, later, new_pieces, state_after, is_new, fine, go_on}
use Rattle.record_scan.specs.Trail.{line_at, next_of}
use Rattle.record_ihex_line.specs.Format.{hex_item}
use Rattle.record_srec_line.specs.Srec.{srec_item, first_of}
use Rattle.record_scan.specs.Laws.TrailLaws.{high-append, new-above, last-append, parts-append}
use Rattle.record_scan.specs.Steps.{first_by, highest, leaves_by, lower_by, RoomAbove, RoomIs, FreeIs, edge_by, free_by, AdmitIs, last_end, parts_of, begins_by}
use Rattle.record_scan.specs.Once.{is_free, all_new}
use Rattle.record_scan.specs.Laws.Steps.{admits, high_after}
use Rattle.record_scan.specs.declared.Free.{Free}

bool_cases : (b : Bool) → (b ≡ true) ⊎ (b ≡ false)
bool_cases true = inl refl
bool_cases false = inr refl

-- ---- lines

pick-le : (e : Bool) (x y n : ℕ) → x ≤ n → y ≤ n → pick e x y ≤ n
pick-le true x y n p q = p
pick-le false x y n p q = q

pick_more : (e : Bool) (x y n : ℕ) → n < x → n < y → n < pick e x y
pick_more true x y n p q = p
pick_more false x y n p q = q

pub taken-le : (t : List ℕ) → taken t ≤ length t
unfolding taken
taken-le [] = omega arith
taken-le (c ∷ []) = pick-le (is_lf c) 1 _ 1 (omega arith) (rw (and-false (is_cr c)) (omega arith))
taken-le (c ∷ d ∷ t) =
    pick-le (is_lf c) 1 _ (suc (suc (length t))) (omega arith)
    (pick-le (is_cr c && is_lf d) 2 _ (suc (suc (length t))) (omega arith) (omega (arith, taken-le (d ∷ t))))

pub taken-some : (t : List ℕ) → 0 < length t → 0 < taken t
unfolding taken
taken-some [] h = absurd (omega arith)
taken-some (c ∷ t) h = pick_more (is_lf c) 1 _ 0 (omega arith) (pick_more (is_cr c && lf_next t) 2 _ 0 (omega arith) (omega arith))

pub first-le : (t : List ℕ) → length (first_line t) ≤ length t
first-le t = omega (arith, ap length (first-is-front t), length-take (length (first_line t)) t)

module _ (text : List ℕ) (at : ℕ) where
  pub stop-inside : at ≤ length text → at + length (line_at text at) ≤ length text
  stop-inside h = omega (arith, first-le (drop at text), length-drop at text)

  pub next-inside : at ≤ length text → next_of text at ≤ length text
  next-inside h = omega (arith, taken-le (drop at text), length-drop at text)

  pub next-onward : at < length text → at < next_of text at
  next-onward h = let some : 0 < taken (drop at text) = taken-some (drop at text) (omega (arith, length-drop at text)) in omega arith

  pub line-part : (stop : ℕ) → stop ≡ at + length (line_at text at) → take (stop - at) (drop at text) ≡ line_at text at
  line-part stop e =
      let left : stop - at ≡ length (line_at text at) = omega arith in
      ap (λ (n : ℕ). take n (drop at text)) left ∙ first-is-front (drop at text)

  none_left : length text < at → line_at text at ≡ []
  unfolding first_line
  none_left h = ap first_line (drop_of_length-le text {i = at} (omega arith))

  -- The part that is cut out, behind the text too.
  pub line-cut : (stop end start : ℕ) → stop ≡ at + length (line_at text at) → end ≡ min stop (length text) → start ≡ min at end
      → take (end - start) (drop start text) ≡ line_at text at
  line-cut stop end start e f g =
      elim (dec_lt (length text) at) [
        | yes p ↦
            let none : end - start ≡ 0 = omega (arith, ap length (none_left p)) in
            ap (λ (n : ℕ). take n (drop start text)) none ∙ sym (none_left p)
        | no p ↦
            let within = stop-inside (omega arith) in
            let same_end : end ≡ stop = omega arith in
            let same_start : start ≡ at = omega arith in
            ap₂ (λ (m n : ℕ). take (m - n) (drop n text)) same_end same_start ∙ line-part stop e
      ]

-- ---- the formats

module _ (format : ℕ) {l : List ℕ} {s : ℕ} {r : Line} where
  pub in-hex : format ≡ 0 → Says l s 9 r (hex_item s l) → Says l s (first_by format l) r (format_by format s l)
  in-hex e p = rw (eq-eqb format 0 e) p

  pub in-srec : (format ≡ 0 → ⊥) → Says l s (first_of l) r (srec_item s l) → Says l s (first_by format l) r (format_by format s l)
  in-srec e p = rw (ne_eqb format 0 e) p

-- ---- a line that was read

pub new-append : (a b : List Piece) (first end : ℕ) → is_new (a ++ b) first end ≡ (is_new a first end && is_new b first end)
unfolding is_new
new-append [] b first end = refl
new-append (p ∷ a) b first end =
    ap (λ (x : Bool). (leb (end_of p) first || leb end p.address) && x) (new-append a b first end)
    ∙ sym (and_assoc (leb (end_of p) first || leb end p.address) (is_new a first end) (is_new b first end))

high-new' : (s f high : ℕ) (i : Item) → high_after (as_line s f i) high ≡ max high (highest (new_pieces i))
unfolding highest
high-new' s f high (gives a [] t) = omega arith
high-new' s f high (gives a (b ∷ l) t) = rw (ne_eqb (suc (length l)) 0 (λ e. omega arith)) (omega arith)
high-new' s f high (passes t) = omega arith
high-new' s f high ends = omega arith
high-new' s f high bad = omega arith

pub high-new : {l : List ℕ} {s f : ℕ} {r : Line} {i : Item} (given : List Piece) (high : ℕ) → Says l s f r i → high ≡ highest given
    → high_after r high ≡ highest (given ++ new_pieces i)
high-new {l} {s} {f} {r} {i} given high p e =
    ap (λ (x : Line). high_after x high) p.answer ∙ high-new' s f high i ∙ ap (λ (h : ℕ). max h (highest (new_pieces i))) e ∙ sym
    (high-append given (new_pieces i))

-- ---- pieces that touch

abbrev begins_of : Line → ℕ → ℕ
begins_of r edge = begins_by r.kind r.address r.count edge

abbrev edge_of : Line → ℕ → ℕ
edge_of r edge = edge_by r.kind r.address r.count edge

begins-new' : (s f edge : ℕ) (i : Item) → begins_of (as_line s f i) edge ≡ parts_of edge (new_pieces i)
unfolding parts_of
begins-new' s f edge (gives a [] t) = refl
begins-new' s f edge (gives a (b ∷ l) t) = rw (ne_eqb (suc (length l)) 0 (λ e. omega arith)) (sym (add-zero (pick (eqb a edge) 0 1)))
begins-new' s f edge (passes t) = refl
begins-new' s f edge ends = refl
begins-new' s f edge bad = refl

edge-new' : (s f edge : ℕ) (i : Item) → edge_of (as_line s f i) edge ≡ last_end edge (new_pieces i)
unfolding last_end
edge-new' s f edge (gives a [] t) = refl
edge-new' s f edge (gives a (b ∷ l) t) = rw (ne_eqb (suc (length l)) 0 (λ e. omega arith))
edge-new' s f edge (passes t) = refl
edge-new' s f edge ends = refl
edge-new' s f edge bad = refl

-- behind one line more
module _ {l : List ℕ} {s f : ℕ} {r : Line} {i : Item} (p : Says l s f r i) (given : List Piece) (first edge : ℕ) (e : edge ≡ last_end first given) where
  pub edge-new : edge_by r.kind r.address r.count edge ≡ last_end first (given ++ new_pieces i)
  edge-new =
      ap (λ (x : Line). edge_of x edge) p.answer ∙ edge-new' s f edge i ∙ ap (λ (n : ℕ). last_end n (new_pieces i)) e
      ∙ sym (last-append given (new_pieces i) first)

  pub parts-new : (parts more : ℕ) → parts ≡ parts_of first given → more ≡ begins_by r.kind r.address r.count edge
      → parts + more ≡ parts_of first (given ++ new_pieces i)
  parts-new parts more q m =
      let own : more ≡ parts_of (last_end first given) (new_pieces i) =
      m ∙ ap (λ (x : Line). begins_of x edge) p.answer ∙ begins-new' s f edge i ∙ ap (λ (n : ℕ). parts_of n (new_pieces i)) e in
      omega (arith, parts-append given (new_pieces i) first)

-- ---- what is free

or-le : (a b : Bool) → (a ≡ true → ⊥) → (a || b) ≡ true → b ≡ true
or-le true b n e = absurd (n refl)
or-le false b n e = e

pub or_right : (a : Bool) {b : Bool} → b ≡ true → (a || b) ≡ true
or_right true e = refl
or_right false e = e

-- a part of what is free
pub new-within : (l : List Piece) (a b c d : ℕ) → a ≤ c → d ≤ b → is_new l a b ≡ true → is_new l c d ≡ true
unfolding is_new
new-within [] a b c d h k e = refl
new-within (p ∷ l) a b c d h k e =
    let two = both (leb (end_of p) a || leb b p.address) (is_new l a b) e in
    let rest = new-within l a b c d h k two.1 in
    elim (dec_lt c (end_of p)) [
      | no q ↦ rw (le-leb (end_of p) c (omega arith), rest)
      | yes q ↦
          let far : b ≤ p.address = leb-true b p.address
          (or-le (leb (end_of p) a) (leb b p.address) (λ z. let y = leb-true (end_of p) a z in omega arith) two.0) in
          rw (lt-leb (end_of p) c q, le-leb d p.address (omega arith), rest)
    ]

pub new_none : (first end : ℕ) → is_new [] first end ≡ true
unfolding is_new
new_none first end = refl

-- one line more, by what it leaves
module _ (kind address count : ℕ) where
  pub leaves-own : (end : ℕ) → leaves_by kind address count end address ≡ true
  leaves-own end = go (eqb kind 1) (eqb count 0) (leb (address + count) end)
    where
      go : (a b d : Bool) → pick a (pick b true (d || leb address address)) true ≡ true
      go true true d = refl
      go true false true = refl
      go true false false = le-leb address address (omega arith)
      go false b d = refl

  -- a line that leaves the bytes and does not leave those above them begins there
  pub begins-above : (first end top : ℕ) → first ≤ end → leaves_by kind address count first end ≡ true → leaves_by kind address count end top ≡ false
      → (end ≤ address) × (address < top)
  begins-above first end top h e f =
      elim (ℕ_discrete kind 1) [
        | no k ↦ let z : ◌≡◌ {A = Bool} true false = rw (ne_eqb kind 1 k) at f in absurd (clash refl z)
        | yes k ↦
            elim (ℕ_discrete count 0) [
              | yes c ↦ let z : ◌≡◌ {A = Bool} true false = rw (eq-eqb kind 1 k, eq-eqb count 0 c) at f in absurd (clash refl z)
              | no c ↦
                  let e' : (leb (address + count) first || leb end address) ≡ true = rw (eq-eqb kind 1 k, ne_eqb count 0 c) at e in
                  let f' : (leb (address + count) end || leb top address) ≡ false = rw (eq-eqb kind 1 k, ne_eqb count 0 c) at f in
                  let two = neither (leb (address + count) end) (leb top address) f' in
                  let past : end < address + count = leb-false (address + count) end two.0 in
                  let below : address < top = leb-false top address two.1 in
                  let far : end ≤ address = leb-true end address (or-le (leb (address + count) first) (leb end address)
                  (λ z. let y = leb-true (address + count) first z in omega arith) e') in
                  (far, below)
            ]
      ]

pub room-more : (given new : List Piece) (first end top kind address count : ℕ) → first < end → RoomAbove given first end top
    → ((a b : ℕ) → leaves_by kind address count a b ≡ is_new new a b) → RoomAbove (given ++ new) first end (lower_by top kind address count first end)
room-more given new first end top kind address count h r own =
    elim (bool_cases (leaves_by kind address count first end)) [
      | inr off ↦
          rw off (
            λ z. new-append given new first end ∙ ap (λ (b : Bool). is_new given first end && b) (sym (own first end) ∙ off) ∙ and-false (is_new
                given first end),
            λ z. absurd (omega arith),
          )
      | inl ok ↦
          elim (bool_cases (leaves_by kind address count end top)) [
            | inl kept ↦
                rw (ok, kept) (
                  λ z. new-append given new first end ∙ ap (λ (b : Bool). b && is_new new first end) (r.0 z),
                  λ z. (
                    more first end (r.1 z).0 ok,
                    more end top (r.1 z).1 kept,
                  ),
                )
            | inr cut ↦
                let where' = begins-above kind address count first end top (omega arith) ok cut in
                let some : 0 < top = omega (arith, where'.1) in
                rw (ok, cut) (
                  λ z. absurd (omega (arith, where'.0, z)),
                  λ z. (
                    more first end (r.1 some).0 ok,
                    more end address (new-within given end top end address (omega arith) (omega (arith, where'.1)) (r.1 some).1)
                        (leaves-own kind address count end),
                  ),
                )
          ]
    ]
  where
    more : (a b : ℕ) → is_new given a b ≡ true → leaves_by kind address count a b ≡ true → is_new (given ++ new) a b ≡ true
    more a b p q = new-append given new a b ∙ rw (p, sym (own a b) ∙ q)

-- where it is known
module _ (given : List Piece) (first end : ℕ) (some : first < end) where
  pub room-high : (high : ℕ) → high ≡ highest given → high ≤ first → RoomAbove given first end 8589934592
  room-high high e h = (
    λ z. absurd (omega arith),
    λ z. (new-above given first end (omega (arith, e)), new-above given end 8589934592 (omega (arith, e))),
  )

  pub room-low : (low : ℕ) → is_new given 0 low ≡ true → end ≤ low → RoomAbove given first end low
  room-low low e h =
      (λ z. absurd (omega arith), λ z. (new-within given 0 low first end (omega arith) h e, new-within given 0 low end low (omega arith) (omega arith) e))

  pub room-gap : (edge top : ℕ) → is_new given edge top ≡ true → edge ≤ first → end ≤ top → RoomAbove given first end top
  room-gap edge top e h k =
      (λ z. absurd (omega arith), λ z. (new-within given edge top first end h k e, new-within given edge top end top (omega arith) (omega arith) e))

  -- the answer, whether it was looked for or not
  pub room-known : (look : Bool) {r : ℕ} → RoomAbove given first end r → RoomIs look given first end r
  room-known look p = (λ z. p, λ z. p)

  pub room-unknown : (look : Bool) → look ≡ false → RoomIs look given first end 8589934593
  room-unknown look e = (λ z. absurd (clash z e), λ z. absurd (z refl))

-- behind the line
pub free_more : (given new : List Piece) (free : Free) (top kind address count : ℕ) → FreeIs given free
    → is_new given (edge_by kind address count free.edge) top ≡ true → ((a b : ℕ) → leaves_by kind address count a b ≡ is_new new a b)
    → FreeIs (given ++ new) (free_by free top kind address count)
free_more given new free top kind address count f e own =
    elim (ℕ_discrete kind 1) [
      | no k ↦
          let none : (a b : ℕ) → leaves_by kind address count a b ≡ true = λ a b. rw (ne_eqb kind 1 k) in
          rw (ne_eqb kind 1 k) (record {
            below = more 0 free.low f.below (none 0 free.low);
            gap = more free.edge top
                (rw (ne_eqb kind 1 k) at e) (none free.edge top);
          })
      | yes k ↦
          elim (ℕ_discrete count 0) [
            | yes c ↦
                let none : (a b : ℕ) → leaves_by kind address count a b ≡ true = λ a b. rw (eq-eqb kind 1 k, eq-eqb count 0 c) in
                rw (eq-eqb kind 1 k, eq-eqb count 0 c)
                (record {
                  below = more 0 free.low f.below (none 0 free.low);
                  gap = more free.edge top (rw (eq-eqb kind 1 k, eq-eqb count 0 c) at e) (none free.edge top);
                })
            | no c ↦
                let is : (a b : ℕ) → leaves_by kind address count a b ≡ (leb (address + count) a || leb b address) = λ a b. rw
                (eq-eqb kind 1 k, ne_eqb count 0 c) in
                rw (eq-eqb kind 1 k, ne_eqb count 0 c)
                (record {
                  below =
                      more 0 (min free.low address) (new-within given 0 free.low 0 (min free.low address) (omega arith) (omega arith) f.below)
                      (is 0 (min free.low address) ∙ or_right (leb (address + count) 0) (le-leb (min free.low address) address (omega arith)));
                  gap = more (address + count) top (rw (eq-eqb kind 1 k, ne_eqb count 0 c) at e)
                      (is (address + count) top ∙ rw (le-leb (address + count) (address + count) (omega arith)));
                })
          ]
    ]
  where
    more : (a b : ℕ) → is_new given a b ≡ true → leaves_by kind address count a b ≡ true → is_new (given ++ new) a b ≡ true
    more a b p q = new-append given new a b ∙ rw (p, sym (own a b) ∙ q)

-- ---- each answer of the test

-- nothing lies below 0
new-zero : (l : List Piece) (first : ℕ) → is_new l first 0 ≡ true
unfolding is_new
new-zero [] first = refl
new-zero (p ∷ l) first = rw (or_right (leb (end_of p) first) (le-leb 0 p.address (omega arith)), new-zero l first)

module _ (look : Bool) (load : ℕ) (given : List Piece) (kind address count high edge : ℕ) where
  pub admit-pass : (top : ℕ) → is_new given edge top ≡ true → kind ≡ 2 → AdmitIs look load given kind address count high edge (Some (high, top))
  admit-pass top f e = rw e (refl, λ z. refl, λ z. refl, refl, f)

  pub admit-other : (kind ≡ 2 → ⊥) → (kind ≡ 1 → ⊥) → AdmitIs look load given kind address count high edge None
  admit-other e f = rw (ne_eqb kind 2 e, ne_eqb kind 1 f)

  module _ (bytes : kind ≡ 1) where
    pub admit-empty : (top : ℕ) → is_new given edge top ≡ true → count ≡ 0 → AdmitIs look load given kind address count high edge (Some (high, top))
    admit-empty top f e = rw (bytes, e) (refl, λ z. refl, λ z. refl, refl, f)

    module _ (some : count ≡ 0 → ⊥) where
      pub admit-below : address < load → AdmitIs look load given kind address count high edge None
      admit-below h = rw (bytes, ne_eqb count 0 some, lt-leb load address h)

      module _ (above : load ≤ address) where
        pub admit-past : 4294967296 < address + count → AdmitIs look load given kind address count high edge None
        admit-past h = rw (bytes, ne_eqb count 0 some, le-leb load address above, lt-leb (address + count) 4294967296 h)

        module _ (within : address + count ≤ 4294967296) where
          pub admit-twice : is_new given address (address + count) ≡ false → AdmitIs look load given kind address count high edge None
          admit-twice h = rw (bytes, ne_eqb count 0 some, le-leb load address above, le-leb (address + count) 4294967296 within, h)

          pub admit-fine : (h top : ℕ) → h ≡ max high (address + count)
              → (is_new given address (address + count) ≡ true) × (is_new given (address + count) top ≡ true)
              → AdmitIs look load given kind address count high edge (Some (h, top))
          admit-fine h top e n =
              rw (
                bytes,
                ne_eqb count 0 some,
                le-leb load address above,
                le-leb (address + count) 4294967296 within,
                n.0,
                new_none address (address + count),
              )
              (refl, λ z. refl, λ z. refl, e, n.1)

          -- its bytes may be new
          pub admit-loose : (h : ℕ) → h ≡ max high (address + count) → (look ≡ true → is_new given address (address + count) ≡ true)
              → AdmitIs look load given kind address count high edge (Some (h, 0))
          admit-loose h e n =
              rw (
                bytes,
                ne_eqb count 0 some,
                le-leb load address above,
                le-leb (address + count) 4294967296 within,
                new_none address (address + count),
              )
              (refl, n, λ z. absurd (omega arith), e, new-zero given (address + count))

-- ---- one more line

module _ (load s f : ℕ) (given : List Piece) (last : Bool) (rest : ℕ → List Piece → Read) where
  pub on' : (i : Item) → admits load given (as_line s f i) ≡ true → go_on load given last rest i ≡ later (rest (state_after s i) (given ++ new_pieces i))
  on' (gives a [] t) e = refl
  on' (gives a (b ∷ l) t) e =
      let fit : fine load given (piece a (b ∷ l) ∷ []) ≡ true = rw (ne_eqb (suc (length l)) 0 (λ z. omega arith)) at e in
      rw fit
  on' (passes t) e = ap (λ (g : List Piece). later (rest t g)) (sym (append-nil given))
  on' ends e = unlike cc
  on' bad e = unlike cc

  pub off' : (i : Item) → admits load given (as_line s f i) ≡ false → ((as_line s f i).kind ≡ 3 → ⊥) → go_on load given last rest i ≡ faulty 0
  off' (gives a [] t) e k = unlike cc
  off' (gives a (b ∷ l) t) e k =
      let fit : fine load given (piece a (b ∷ l) ∷ []) ≡ false = rw (ne_eqb (suc (length l)) 0 (λ z. omega arith)) at e in
      rw fit
  off' (passes t) e k = unlike cc
  off' ends e k = absurd (k refl)
  off' bad e k = refl

  pub end' : (i : Item) → (as_line s f i).kind ≡ 3 → go_on load given last rest i ≡ pick last (sound given) (faulty 1)
  end' (gives a l t) e = absurd (omega arith)
  end' (passes t) e = absurd (omega arith)
  end' ends e = refl
  end' bad e = absurd (omega arith)

-- a line that may stand is not bad
pub allowed-good : (load : ℕ) (given : List Piece) (s f : ℕ) (i : Item) → admits load given (as_line s f i) ≡ true → i ≡ bad → ⊥
allowed-good load given s f (gives a l t) e z = unlike cc
allowed-good load given s f (passes t) e z = unlike cc
allowed-good load given s f ends e z = unlike cc
allowed-good load given s f bad e z = unlike cc

-- ---- a line whose bytes may be new

module _ (load s f : ℕ) (given : List Piece) where
  and-with : (a b c : Bool) → (a && b) && true ≡ true → c ≡ true → (a && b) && c ≡ true
  and-with true true c e g = g
  and-with true false c e g = e
  and-with false b c e g = e

  -- it may stand if they are,
  pub may : (i : Item) → admits load [] (as_line s f i) ≡ true → all_new given (new_pieces i) ≡ true → admits load given (as_line s f i) ≡ true
  may (gives a [] t) e n = refl
  may (gives a (b ∷ l) t) e n =
      let some = ne_eqb (suc (length l)) 0 (λ z. omega arith) in
      let fit : (leb load a && leb (a + suc (length l)) 4294967296) && true ≡ true = rw (some, new_none a (a + suc (length l))) at e in
      rw some (and-with (leb load a) (leb (a + suc (length l)) 4294967296) (is_new given a (a + suc (length l))) fit n)
  may (passes t) e n = refl
  may ends e n = e
  may bad e n = e

  -- and may not if they are not;
  pub may-not : (i : Item) → admits load [] (as_line s f i) ≡ true → all_new given (new_pieces i) ≡ false → admits load given (as_line s f i) ≡ false
  may-not (gives a [] t) e n = absurd (clash refl n)
  may-not (gives a (b ∷ l) t) e n =
      let some = ne_eqb (suc (length l)) 0 (λ z. omega arith) in
      rw (some, n) (and-false (leb load a && leb (a + suc (length l)) 4294967296))
  may-not (passes t) e n = absurd (clash refl n)
  may-not ends e n = absurd (clash refl n)
  may-not bad e n = absurd (clash refl n)

  -- if it may, they are.
  pub then-new : (i : Item) → admits load given (as_line s f i) ≡ true → all_new given (new_pieces i) ≡ true
  then-new (gives a [] t) e = refl
  then-new (gives a (b ∷ l) t) e =
      let some = ne_eqb (suc (length l)) 0 (λ z. omega arith) in
      let fit : (leb load a && leb (a + suc (length l)) 4294967296) && is_new given a (a + suc (length l)) ≡ true = rw some at e in
      (both (leb load a && leb (a + suc (length l)) 4294967296) (is_new given a (a + suc (length l))) fit).1
  then-new (passes t) e = refl
  then-new ends e = refl
  then-new bad e = refl

  -- It is not the end record, and gives nothing past 2^32.
  pub not_end : (i : Item) → admits load given (as_line s f i) ≡ true → (as_line s f i).kind ≡ 3 → ⊥
  not_end (gives a l t) e k = omega arith
  not_end (passes t) e k = omega arith
  not_end ends e k = unlike cc
  not_end bad e k = omega arith

  pub ends-near : (i : Item) → admits load given (as_line s f i) ≡ true → (x : ℕ) → 8589934592 ≤ x → is_free (new_pieces i) x ≡ true
  unfolding is_new
  ends-near (gives a [] t) e x h = refl
  ends-near (gives a (b ∷ l) t) e x h =
      let some = ne_eqb (suc (length l)) 0 (λ z. omega arith) in
      let fit : (leb load a && leb (a + suc (length l)) 4294967296) && is_new given a (a + suc (length l)) ≡ true = rw some at e in
      let two = both (leb load a && leb (a + suc (length l)) 4294967296) (is_new given a (a + suc (length l))) fit in
      let end = leb-true (a + suc (length l)) 4294967296 (both (leb load a) (leb (a + suc (length l)) 4294967296) two.0).1 in
      rw (le-leb (a + suc (length l)) x (omega arith))
  ends-near (passes t) e x h = refl
  ends-near ends e x h = refl
  ends-near bad e x h = refl

-- ---- many lines

unfoldable pub laters : ℕ → Read → Read
laters zero r = r
laters (suc n) r = laters n (later r)

pub laters-faulty : (n k : ℕ) → laters n (faulty k) ≡ faulty (n + k)
unfolding laters
laters-faulty zero k = ap faulty (omega arith)
laters-faulty (suc n) k = laters-faulty n (suc k) ∙ ap faulty (omega arith)

pub laters-sound : (n : ℕ) (l : List Piece) → laters n (sound l) ≡ sound l
unfolding laters
laters-sound zero l = refl
laters-sound (suc n) l = laters-sound n l
