-- Lines in a window of addresses, and windows one after the other: what is known before each turn, and a law for each way on.
use Rattle.std.specs.Prelude.{Err}
use mathlib.Core.Path.{◌≡◌, refl, sym, ap, subst, ◌∙◌}
use mathlib.Core.Bool.{Bool, true, false, ◌&&◌, ◌||◌, and-true, and-false}
use mathlib.Core.List.{List, [], ◌∷◌, ◌++◌}
use mathlib.Core.Logic.{inl, inr, ⊎_elim}
use Prim.Native.Nat.{ℕ, zero, suc, ◌+◌, ◌-◌, ◌*◌, ◌<◌, ◌≤◌, max, min}
use native.Mathlib.Nat.{le_antisymm}
use native.Mathlib.Omega.{arith}
use native.Mathlib.Decide.{dec_lt, ℕ_discrete}
use lib.Dec.{leb}
use lib.ListN.{length, replicate, get_or}
use borrow.Author.Tests.{le-leb, lt-leb}
use Rattle.prelude.specs.Laws.Bools.{both, clash, either, or_left}
use Rattle.prelude.specs.Pick.{pick}
use Rattle.bitvec.specs.Bits.{bit_at, Bytes}
use Rattle.bitvec.specs.Laws.Bits.{bit_at-past}
use Rattle.bitvec.specs.Clear.{cleared, Clears}
use Rattle.bitvec.specs.Theorems.Clear.{cleared-bit}
use Rattle.bitvec.specs.Ones.{with_ones, AnyOne, SetsOnes}
use Rattle.bitvec.specs.Theorems.Ones.{length-ones, bytes-ones, ones-inside, ones-outside}
use Rattle.record_lines.specs.Items.{Item, gives, passes, ends, bad, as_line, Says}
use Rattle.record_lines.specs.Pieces.{Piece, end_of}
use Rattle.record_lines.specs.declared.Line.{Line}
use Rattle.record_scan.specs.Reading.{new_pieces, is_new}
use Rattle.record_scan.specs.Trail.{trail, item_at}
use Rattle.record_scan.specs.Laws.TrailLaws.{moved, next-at, next-state, next-given}
use Rattle.record_scan.specs.Once.{is_free, new_at, all_new, new_line, Once}
use Rattle.record_scan.specs.Steps.{AllGood, Stepped, nowhere, ScanIs, WalkIs, scan_of}
use Rattle.record_scan.specs.Windows.{Marked, window_end, Nearer, Windowed, FirstTwice}
use Rattle.record_scan.specs.declared.Step.{Step}
use Rattle.record_scan.specs.declared.Walk.{Walk}
use Rattle.record_scan.specs.declared.Window.{Window}
use Rattle.record_scan.proofs.Laws.{or_right, new-append, new-within}
use Rattle.record_scan.proofs.Loops.{up_to}

-- ---- a line's bytes, address by address

-- not from `first` on and below `end`
outside : (first end x : ℕ) → (first ≤ x → x < end → ⊥) → (leb end x || leb (x + 1) first) ≡ true
outside first end x out =
    elim (dec_lt x first) [
      | yes p ↦ or_right (leb end x) (le-leb (x + 1) first (omega arith))
      | no p ↦ elim (dec_lt x end) [ yes q ↦ absurd (out (omega arith) q) | no q ↦ rw (le-leb end x (omega arith)) ]
    ]

inside : (first end x : ℕ) → first ≤ x → x < end → (leb end x || leb (x + 1) first) ≡ false
inside first end x h l = rw (lt-leb end x l, lt-leb (x + 1) first (omega arith))

free-says' : (s f x : ℕ) (i : Item)
    → is_free (new_pieces i) x ≡ (leb ((as_line s f i).address + (as_line s f i).count) x || leb (x + 1) (as_line s f i).address)
unfolding is_new
free-says' s f x (gives a [] t) = sym (outside a (a + 0) x (λ p q. omega arith))
free-says' s f x (gives a (b ∷ l) t) = and-true (leb (a + suc (length l)) x || leb (x + 1) a)
free-says' s f x (passes t) = sym (outside 0 0 x (λ p q. omega arith))
free-says' s f x ends = sym (outside 0 0 x (λ p q. omega arith))
free-says' s f x bad = sym (outside 0 0 x (λ p q. omega arith))

free-says : {l : List ℕ} {s f : ℕ} {r : Line} {i : Item} (x : ℕ) → Says l s f r i
    → is_free (new_pieces i) x ≡ (leb (r.address + r.count) x || leb (x + 1) r.address)
free-says {l} {s} {f} {r} {i} x p =
    free-says' s f x i ∙ ap (λ (y : Line). leb (y.address + y.count) x || leb (x + 1) y.address) (sym p.answer)

-- a byte of the line that was given before
hit' : (given : List Piece) (s f x : ℕ) (i : Item) → (as_line s f i).address ≤ x → x < (as_line s f i).address + (as_line s f i).count
    → is_free given x ≡ false → all_new given (new_pieces i) ≡ false
hit' given s f x (gives a [] t) h l e = absurd (omega arith)
hit' given s f x (gives a (b ∷ m) t) h l e =
    either (is_new given a (a + suc (length m)))
    (λ t. absurd (clash (new-within given a (a + suc (length m)) x (x + 1) h (omega arith) t) e)) (λ n. n)
hit' given s f x (passes t) h l e = absurd (omega arith)
hit' given s f x ends h l e = absurd (omega arith)
hit' given s f x bad h l e = absurd (omega arith)

hit : {l : List ℕ} {s f : ℕ} {r : Line} {i : Item} (given : List Piece) (x : ℕ) → Says l s f r i → r.address ≤ x → x < r.address + r.count
    → is_free given x ≡ false → all_new given (new_pieces i) ≡ false
hit {l} {s} {f} {r} {i} given x p h m e =
    hit' given s f x i (subst (λ (y : Line). y.address ≤ x) p.answer h) (subst (λ (y : Line). x < y.address + y.count) p.answer m) e

-- ---- no byte twice, address by address

-- pieces that have bytes
abbrev Filled : List Piece → Type 0
Filled [] = Unit {0}
Filled (p ∷ l) = (0 < length p.bytes) × Filled l

filled-append : (a b : List Piece) → Filled a → Filled b → Filled (a ++ b)
filled-append [] b f g = g
filled-append (p ∷ a) b f g = (f.0, filled-append a b f.1 g)

filled-new : (i : Item) → Filled (new_pieces i)
filled-new (gives a [] t) = tt
filled-new (gives a (b ∷ l) t) = (omega arith, tt)
filled-new (passes t) = tt
filled-new ends = tt
filled-new bad = tt

filled-trail : (format : ℕ) (text : List ℕ) (n : ℕ) → Filled (trail format text n).given
unfolding trail
filled-trail format text zero = tt
filled-trail format text (suc n) =
    filled-append (trail format text n).given (new_at format text n) (filled-trail format text n)
    (filled-new (item_at format text (trail format text n).at (trail format text n).state))

-- what is free at each address is free
apart : (given : List Piece) → Filled given → (a e : ℕ) → a < e → ((x : ℕ) → a ≤ x → x < e → is_free given x ≡ true) → is_new given a e ≡ true
unfolding is_new
apart [] f a e some h = refl
apart (p ∷ l) f a e some h =
    rw (off, apart l f.1 a e some (λ x q r. (both (leb (end_of p) x || leb (x + 1) p.address) (is_free l x) (h x q r)).1))
  where
    off : (leb (end_of p) a || leb e p.address) ≡ true
    off =
        elim (dec_lt a (end_of p)) [
          | no q ↦ rw (le-leb (end_of p) a (omega arith))
          | yes q ↦
              elim (dec_lt p.address e) [
                | no r ↦ or_right (leb (end_of p) a) (le-leb e p.address (omega arith))
                | yes r ↦
                    let x = max a p.address in
                    let low : a ≤ x = omega arith in
                    let high : x < e = omega arith in
                    let some : p.address < end_of p = omega (arith, f.0) in
                    let free = (both (leb (end_of p) x || leb (x + 1) p.address) (is_free l x) (h x low high)).0 in
                    absurd (clash free (inside p.address (end_of p) x (omega arith) (omega arith)))
              ]
        ]

or-first : (a b : Bool) → (a || b) ≡ true → b ≡ false → a ≡ true
or-first true b e f = refl
or-first false b e f = absurd (clash e f)

once-new : (given : List Piece) → Filled given → (i : Item) → ((x : ℕ) → (is_free given x || is_free (new_pieces i) x) ≡ true)
    → all_new given (new_pieces i) ≡ true
unfolding is_new
once-new given f (gives a [] t) h = refl
once-new given f (gives a (b ∷ l) t) h =
    apart given f a (a + suc (length l)) (omega arith) (λ x p q.
    or-first (is_free given x) (is_free (new_pieces (gives a (b ∷ l) t)) x) (h x)
    (ap (λ (y : Bool). y && true) (inside a (a + suc (length l)) x p q)))
once-new given f (passes t) h = refl
once-new given f ends h = refl
once-new given f bad h = refl

-- What the first n lines leave free, each of them does.
each_free : (format : ℕ) (text : List ℕ) (n k x : ℕ) → k < n → is_free (trail format text n).given x ≡ true → is_free (new_at format text k) x ≡ true
unfolding trail
each_free format text zero k x h e = absurd (omega arith)
each_free format text (suc n) k x h e =
    let two =
    both (is_free (trail format text n).given x) (is_free (new_at format text n) x)
    (sym (new-append (trail format text n).given (new_at format text n) x (x + 1)) ∙ e) in
    elim (ℕ_discrete k n) [
      | yes same ↦ subst (λ (j : ℕ). is_free (new_at format text j) x ≡ true) (sym same) two.1
      | no other ↦
          each_free format text n k x (elim (dec_lt k n) [ yes q ↦ q | no q ↦ absurd (other (omega arith)) ]) two.0
    ]

-- ---- a window

pub record Marking (format : ℕ) (text : List ℕ) (n low : ℕ) (before : List ℕ) (at state next : ℕ) (scratch : List ℕ) (k : ℕ) : Type 0 where
  pub few : k ≤ n
  pub place : at ≡ (trail format text k).at
  pub force : state ≡ (trail format text k).state
  pub inside : at ≤ length text
  pub long : length scratch ≡ length before
  pub bytes : Bytes scratch
  pub marked : Marked (trail format text k).given low scratch
  pub once : (j : ℕ) → j < k → (x : ℕ) → low ≤ x → x < window_end low (length before)
      → (is_free (trail format text j).given x || is_free (new_at format text j) x) ≡ true
  pub free : (x : ℕ) → window_end low (length before) ≤ x → x < next → is_free (trail format text k).given x ≡ true
  pub least : next < nowhere → is_free (trail format text k).given next ≡ false
  pub onward : window_end low (length before) ≤ next
  pub near : next ≤ nowhere

bit-zero : (b : Bool) → ◌≡◌ {A = ℕ} (pick b 0 1) 0 → b ≡ true
bit-zero true e = refl
bit-zero false e = absurd (omega arith)

bit-one : (b : Bool) → ◌≡◌ {A = ℕ} (pick b 0 1) 1 → b ≡ false
bit-one true e = absurd (omega arith)
bit-one false e = refl

zero-byte : (n j : ℕ) → get_or (replicate n 0) j 0 < 256
zero-byte zero j = omega arith
zero-byte (suc n) zero = omega arith
zero-byte (suc n) (suc j) = zero-byte n j

module _ (format : ℕ) (text : List ℕ) (n low : ℕ) (before : List ℕ) where
  pub marking-starts : before ≡ cleared before → low ≤ nowhere → Marking format text n low before 0 0 8589934592 before 0
  unfolding trail is_new
  marking-starts e h =
      record {
        few = omega arith;
        place = refl;
        force = refl;
        inside = omega arith;
        long = refl;
        bytes = λ j. subst (λ (m : List ℕ). get_or m j 0 < 256) (sym e) (zero-byte (length before) j);
        marked = λ j l. ap (λ (m : List ℕ). bit_at m j) e ∙ cleared-bit before j;
        once = λ j z. absurd (omega arith);
        free = λ x p q. refl;
        least = λ z. absurd (omega arith);
        onward = omega arith;
        near = omega arith;
      }

  module _ {at state next : ℕ} {scratch : List ℕ} {k : ℕ} (w : Marking format text n low before at state next scratch k) (h : k < n)
      {r : Step} (s : Stepped format text at state r) where
    abbrev given : List Piece
    given = (trail format text k).given

    abbrev first : ℕ
    first = r.line.address

    abbrev end : ℕ
    end = r.line.address + r.line.count

    stepped : Stepped format text (trail format text k).at (trail format text k).state r
    stepped = moved format text k r at state w.place w.force s

    -- the line's own bytes
    own : (x : ℕ) → is_free (new_at format text k) x ≡ (leb end x || leb (x + 1) first)
    own x = free-says x stepped.says

    -- with them
    more : (x : ℕ) → is_free (trail format text (k + 1)).given x ≡ (is_free given x && (leb end x || leb (x + 1) first))
    more x =
        ap (λ (l : List Piece). is_free l x) (sym (next-given format text k r)) ∙ new-append given (new_at format text k) x (x + 1)
        ∙ ap (λ (b : Bool). is_free given x && b) (own x)

    module _ {from stop : ℕ} (f : from ≡ first - low) (g : stop ≡ end - low) where
      -- a mark that was set before
      pub marking-hit : end < nowhere → AnyOne scratch from stop true → Windowed format text n low before scratch (record { line = k; next = next })
      marking-hit near a =
          let o = a.some refl in
          let j = o.bit in
          let there : j < 8 * length scratch = elim (dec_lt j (8 * length scratch)) [
            | yes q ↦ q
            | no q ↦ absurd (omega (arith, o.one, bit_at-past scratch j (omega arith)))
          ] in
          let old : is_free given (low + j) ≡ false = bit-one (is_free given (low + j)) (sym (w.marked j there) ∙ o.one) in
          record {
            few = w.few;
            long = w.long;
            bytes = w.bytes;
            marked = w.marked;
            once = w.once;
            shared = λ z. record {
              at = low + j;
              above = omega arith;
              below = omega (arith, there, w.long, g, o.high, near);
              old = old;
              again = own (low + j) ∙ inside first end (low + j) (omega (arith, f, o.low)) (omega (arith, g, o.high));
            };
            twice = λ z. hit given (low + j) stepped.says (omega (arith, f, o.low)) (omega (arith, g, o.high)) old;
            free = w.free;
            least = w.least;
            onward = w.onward;
            near = w.near;
          }

      pub marking-on : AnyOne scratch from stop false → {after : List ℕ} → SetsOnes scratch from stop after → {top : ℕ}
          → top ≡ window_end low (length before) → {nearest : ℕ} → Nearer next first end top nearest
          → Marking format text n low before r.next r.line.state nearest after (k + 1)
      marking-on a {after} o {top} t {nearest} c =
          record {
            few = omega arith;
            place = next-at format text k r stepped;
            force = next-state format text k r stepped;
            inside = s.inside w.inside;
            long = ap length o.bytes ∙ length-ones scratch from stop ∙ w.long;
            bytes = λ i. subst (λ (l : List ℕ). get_or l i 0 < 256) (sym o.bytes) (bytes-ones scratch from stop i);
            marked = marked;
            once = up_to w.once (λ x p q. elim (dec_lt x first) [
              | yes l ↦ or_right (is_free given x) (own x ∙ outside first end x (λ y z. omega arith))
              | no l ↦ elim (dec_lt x end) [
                | no m ↦ or_right (is_free given x) (own x ∙ outside first end x (λ y z. omega arith))
                | yes m ↦
                    let low-j : low + (x - low) ≡ x = omega arith in
                    let in-scratch : x - low < 8 * length scratch = omega (arith, w.long, q) in
                    let zero_bit = a.none refl (x - low) (omega arith) (omega arith) in
                    let new = bit-zero (is_free given (low + (x - low))) (sym (w.marked (x - low) in-scratch) ∙ zero_bit) in
                    or_left (is_free given x) (is_free (new_at format text k) x) (ap (is_free given) (sym low-j) ∙ new)
              ]
            ]);
            free = λ x p q.
                more x ∙ rw (w.free x p (omega (arith, c.lower)), c.free x (omega arith) q);
            least = λ z. ⊎_elim
                (λ e. more nearest ∙ ap (λ (b : Bool). b && (leb end nearest || leb (nearest + 1) first))
                (ap (is_free given) e ∙ w.least (omega (arith, e))))
                (λ i. more nearest ∙ ap (λ (b : Bool). is_free given nearest && b) (inside first end nearest i.0 i.1) ∙ and-false (is_free given nearest))
                c.exact;
            onward = rw (sym t) (c.onward (omega (arith, w.onward)));
            near = omega (arith, w.near, c.lower);
          }
        where
          marked : Marked (trail format text (k + 1)).given low after
          marked j l =
              let len : length after ≡ length scratch = ap length o.bytes ∙ length-ones scratch from stop in
              let here : j < 8 * length scratch = omega (arith, len) in
              let same : bit_at after j ≡ bit_at (with_ones scratch from stop) j = ap (λ (m : List ℕ). bit_at m j) o.bytes in
              let kept : ((first ≤ low + j → low + j < end → ⊥)) → bit_at after j ≡ pick (is_free (trail format text (k + 1)).given (low + j)) 0 1 = λ out.
              same ∙ ones-outside scratch from stop j (λ p q. out (omega (arith, f)) (omega (arith, g))) ∙ w.marked j here
              ∙ ap (λ (b : Bool). pick b 0 1)
              (sym (more (low + j) ∙ ap (λ (b : Bool). is_free given (low + j) && b) (outside first end (low + j) out) ∙ and-true (is_free given (low
              + j)))) in
              elim (dec_lt (low + j) first) [
                | yes p ↦ kept (λ y z. omega arith)
                | no p ↦ elim (dec_lt (low + j) end) [
                  | no q ↦ kept (λ y z. omega arith)
                  | yes q ↦
                      same ∙ ones-inside scratch from stop j here (omega (arith, f)) (omega (arith, g))
                      ∙ sym (ap (λ (b : Bool). pick b 0 1)
                      (more (low + j) ∙ ap (λ (b : Bool). is_free given (low + j) && b) (inside first end (low + j) (omega arith) q)
                      ∙ and-false (is_free given (low + j))))
                ]
              ]

  pub marking-ends : {at state next : ℕ} {scratch : List ℕ} {k : ℕ} → Marking format text n low before at state next scratch k → n ≤ k
      → Windowed format text n low before scratch (record { line = n; next = next })
  marking-ends {at} {state} {next} {scratch} w h =
      subst (λ (j : ℕ). Windowed format text n low before scratch (record { line = j; next = next })) (le_antisymm w.few h)
      (record {
        few = w.few;
        long = w.long;
        bytes = w.bytes;
        marked = w.marked;
        once = w.once;
        shared = λ z. absurd (omega arith);
        twice = λ z. absurd (omega arith);
        free = w.free;
        least = w.least;
        onward = w.onward;
        near = w.near;
      })

-- how near the next bytes are, with one line more
module _ (next first end top : ℕ) where
  pub nearer-below : end ≤ top → Nearer next first end top next
  nearer-below h = record { lower = omega arith; onward = λ z. z; free = λ x p q. outside first end x (λ y z. omega arith); exact = inl refl }

  pub nearer-none : end ≤ first → Nearer next first end top next
  nearer-none h = record { lower = omega arith; onward = λ z. z; free = λ x p q. outside first end x (λ y z. omega arith); exact = inl refl }

  pub nearer-first : {m r : ℕ} → top < end → first < end → m ≡ max first top → r ≡ min next m → Nearer next first end top r
  nearer-first {m} {r} above some e f =
      record {
        lower = omega arith;
        onward = λ z. omega arith;
        free = λ x p q. outside first end x (λ y z. omega arith);
        exact = elim (dec_lt m next) [ yes l ↦ inr (omega arith, omega arith) | no l ↦ inl (omega arith) ];
      }

-- scratch that is all 0
pub still-zero : {m l : List ℕ} → m ≡ l → l ≡ cleared l → m ≡ cleared m
still-zero {m} {l} e z = subst (λ (k : List ℕ). k ≡ cleared k) (sym e) z

pub good-fewer : (format : ℕ) (text : List ℕ) {m n : ℕ} → m ≤ n → AllGood format text n → AllGood format text m
good-fewer format text h g k z = g k (omega arith)

-- ---- window after window

pub record Seeking (format : ℕ) (text : List ℕ) (n : ℕ) (before : List ℕ) (low limit : ℕ) (scratch : List ℕ) : Type 0 where
  pub few : limit ≤ n
  pub same : scratch ≡ before
  pub once : (k : ℕ) → k < limit → (x : ℕ) → x < low → (is_free (trail format text k).given x || is_free (new_at format text k) x) ≡ true
  pub twice : limit < n → new_line format text limit ≡ false
  pub near : low ≤ nowhere

module _ (format : ℕ) (text : List ℕ) (n : ℕ) (before : List ℕ) where
  pub seeking-starts : Seeking format text n before 0 n before
  seeking-starts =
      record {
        few = omega arith;
        same = refl;
        once = λ k z x q. absurd (omega arith);
        twice = λ z. absurd (omega arith);
        near = omega arith;
      }

  module _ {low limit : ℕ} {scratch : List ℕ} (w : Seeking format text n before low limit scratch) (h : low < nowhere) {after : List ℕ} {r : Window}
      (v : Windowed format text limit low scratch after r) where
    pub seeking-onward : 0 < length before → low < r.next
    seeking-onward some = let len = ap length w.same in omega (arith, v.onward)

    pub seeking-on : before ≡ cleared before → {zeros : List ℕ} → Clears after zeros → Seeking format text n before r.next r.line zeros
    seeking-on e {zeros} c =
        record {
          few = omega (arith, w.few, v.few);
          same = c.zeros ∙ ap (λ (m : ℕ). replicate m 0) (v.long ∙ ap length w.same) ∙ sym e;
          once = λ k z x q. elim (dec_lt x low) [
            | yes l ↦ w.once k (omega (arith, v.few)) x l
            | no l ↦ elim (dec_lt x (window_end low (length scratch))) [
              | yes m ↦ v.once k z x (omega arith) m
              | no m ↦
                  or_right (is_free (trail format text k).given x) (each_free format text r.line k x z (v.free x (omega arith) q))
            ]
          ];
          twice = λ z. elim (dec_lt r.line limit) [
            | yes l ↦ v.twice l
            | no l ↦
                let same : limit ≡ r.line = omega (arith, v.few) in
                subst (λ (m : ℕ). new_line format text m ≡ false) same (w.twice (omega arith))
          ];
          near = v.near;
        }

  pub seeking-ends : {low limit : ℕ} {scratch : List ℕ} → Seeking format text n before low limit scratch → nowhere ≤ low
      → FirstTwice format text n limit × (scratch ≡ before)
  seeking-ends w h = (record { few = w.few; once = λ k z x q. w.once k z x (omega arith); twice = w.twice }, w.same)

-- ---- the walk, with what the scratch told

module _ (format load : ℕ) (text : List ℕ) (strict : Bool) (w : Walk) (p : WalkIs format load text strict w) where
  once-to : (r : ℕ) → FirstTwice format text w.lines r → Once format text r
  once-to r f k z =
      once-new (trail format text k).given (filled-trail format text k) (item_at format text (trail format text k).at (trail format text k).state) (λ x.
      elim (dec_lt x nowhere) [
        | yes l ↦ f.once k z x l
        | no l ↦ or_right (is_free (trail format text k).given x) (p.near k (omega (arith, f.few)) x (omega arith))
      ])

  pub told-twice : (r : ℕ) → FirstTwice format text w.lines r → r < w.lines → ScanIs format load text (Err r)
  told-twice r f l = p.twice r l (once-to r f) (f.twice l)

  pub told-once : (r : ℕ) → FirstTwice format text w.lines r → w.lines ≤ r → ScanIs format load text (scan_of w)
  told-once r f l = p.scan (subst (Once format text) (same r f l) (once-to r f))
    where
      same : (r : ℕ) → FirstTwice format text w.lines r → w.lines ≤ r → r ≡ w.lines
      same r f l = omega (arith, f.few)
