-- Laws that Theorems/Facts rests on.
use Rattle.std.specs.Prelude.{◌≡◌, refl, Bool, true, false, List, [], ◌∷◌, ℕ, ◌+◌, ◌-◌, ◌<◌, leb, ltb, length, get_or}
use mathlib.Core.List.Memᴰ
use Rattle.std.proofs.Common.{⊎_elim, arith, le-leb, lt-ltb, leb-true, ltb-true}
use Rattle.prelude.specs.Laws.Bools.{either, clash, both, unlike}
use Rattle.prelude.specs.Pick.{pick}
use Rattle.prelude.specs.Told.{Told, gives, refuses}
use Rattle.prelude.specs.declared.Place.TheVariants.{One}
use Rattle.record_lines.specs.Pieces.{Piece, end_of, GivesAt}
use Rattle.record_read.specs.Given.{holds, given, byte_at}

-- the answers by the tests
abbrev pub answers : Bool → Bool → ℕ → Told ℕ
answers b c n = pick b (pick c (gives n) (refuses 14 (One 2))) (refuses 14 (One 0))

pub is_found : (b c : Bool) (n m : ℕ) → answers b c n ≡ gives m → (b ≡ true) × (c ≡ true) × (m ≡ n)
is_found true true n m e = (refl, refl, cc)
is_found true false n m e = unlike cc
is_found false c n m e = unlike cc

-- ---- the lent bytes

-- A byte is given at an address exactly where some piece has one there.
pub given-gives : (l : List Piece) (a : ℕ) → given l a ≡ true → (b : ℕ) × GivesAt l a b
unfolding given
given-gives [] a e = absurd (clash e refl)
given-gives (p ∷ l) a e =
    either (holds p a)
    (λ h.
    let t = both (leb p.address a) (ltb a (end_of p)) h in
    let low = leb-true p.address a t.0 in
    let high = ltb-true a (end_of p) t.1 in (
      get_or p.bytes (a - p.address) 0,
      record { from = p; among = Memᴰ.head refl; index = a - p.address; inside = omega arith; place = omega arith; byte = refl },
    ))
    (λ h.
    let r = given-gives l a (rw h at e) in (
      r.0,
      record {
        from = r.1.from;
        among = Memᴰ.tail r.1.among;
        index = r.1.index;
        inside = r.1.inside;
        place = r.1.place;
        byte = r.1.byte;
      },
    ))

holds-byte : (p : Piece) (a i : ℕ) → i < length p.bytes → p.address + i ≡ a → holds p a ≡ true
holds-byte p a i h e = rw (le-leb p.address a (omega arith), lt-ltb a (end_of p) (omega arith))

pub gives-given : (l : List Piece) (a b : ℕ) → GivesAt l a b → given l a ≡ true
unfolding given
gives-given [] a b g = absurd (Memᴰ.not-nil g.among)
gives-given (p ∷ l) a b g =
    ⊎_elim
    (λ e. rw (holds-byte p a g.index (rw e at g.inside) (rw e at g.place)))
    (λ m. either (holds p a) (λ h. rw h)
    (λ h. rw h (gives-given l a b (record { from = g.from; among = m; index = g.index; inside = g.inside; place = g.place; byte = g.byte }))))
    (Memᴰ.cases_cons g.among)

-- Where nothing is given everything stays.
pub byte-kept : (l : List Piece) (a old : ℕ) → given l a ≡ false → byte_at l a old ≡ old
unfolding given byte_at
byte-kept [] a old e = refl
byte-kept (p ∷ l) a old e = either (holds p a) (λ h. absurd (clash (rw h) e)) (λ h. rw h (byte-kept l a old (rw h at e)))
