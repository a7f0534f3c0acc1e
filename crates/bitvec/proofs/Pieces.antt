-- How an item is put together from pieces: one store writes the bits of one byte, and two runs that meet are one run.
use Rattle.std.specs.Prelude.{Err}
use mathlib.Core.Path.{◌≡◌, sym, ap, ap₂, ◌∙◌}
use mathlib.Core.List.{List}
use mathlib.Core.Bool.{true, false}
use Prim.Native.Nat.{ℕ, ◌+◌, ◌-◌, ◌*◌, ◌/◌, ◌%◌, ◌^◌, ◌≤◌, ◌<◌}
use native.Mathlib.Decide.{ℕ_discrete, dec_lt, dec_le}
use native.Mathlib.Nat.{div-add-mod'}
use native.Mathlib.Omega.{arith}
use lib.ListN.{length, get_or, set, take, drop, length-set}
use lib.Seq.{ext_get_or, get_or-set_same, get_or-set_other}
use borrow.Rule.Slice.PartMut.{put_mid}
use Rattle.std.proofs.Common.{rules}
use Rattle.std.proofs.lemmas.List.{places, length-take-le, get_or_append_left, get_or-append_right, get_or-take, get_or-drop}
use Rattle.prelude.specs.Pick.{pick}
use Rattle.prelude.specs.declared.Refusal.TheVariants.{Malformed}
use Rattle.prelude.specs.Verdict.{Accepted}
use Rattle.bitvec.specs.Numeral.{numeral, bit_of, Bits}
use Rattle.bitvec.specs.Laws.Numeral.{pick-lt, numeral-cong, numeral-lt, numeral-add, numeral-field, numeral-spliced, numeral-shifted}
use Rattle.bitvec.specs.Laws.Numeral.{bit_of-numeral, numeral-bit_of}
use Rattle.bitvec.specs.Bits.{bit_at, of_bits, Bytes}
use Rattle.bitvec.specs.Laws.Bits.{bit_at_lt, bit_at-byte, byte-numeral}
use Rattle.bitvec.specs.Theorems.Bits.{length-of_bits, get_d-of_bits, same_bits}
use Rattle.bitvec.specs.Within.{ends_within, covers}
use Rattle.bitvec.specs.Laws.Within.{covers-before, covers-inside, covers-after, covers-not}
use Rattle.bitvec.specs.Steps.{spliced}
use Rattle.bitvec.specs.Written.{Writes, is_written, written, written_bit}
use Rattle.bitvec.specs.Laws.Written.{write-told}
use Rattle.bitvec.specs.Theorems.Written.{length-written, bytes-written, bit_at-written, written_bit-inside}
use Rattle.bitvec.specs.Theorems.Written.{written_bit-outside, written-other}

-- A store of byte j writes an item that lies in that byte, where the byte has the bits that the image is to have there.
pub stored : (image : List ℕ) (position : ℕ) (values : List ℕ) (start size j v : ℕ) → Bytes image → j < length image
    → 8 * j ≤ position → position + size ≤ 8 * j + 8
    → v ≡ numeral 8 (λ b. written_bit image position values start size (8 * j + b))
    → set image j v ≡ written image position values start size
unfolding written
stored image position values start size j v bytes h from to e =
    ext_get_or 0 (set image j v) (written image position values start size)
    (length-set image j v ∙ sym (length-written image position values start size))
    λ i l.
    let below : i < length image = omega (arith, length-set image j v) in
    elim (ℕ_discrete i j) [
      | yes same ↦
          rw same
          (get_or-set_same image j v 0 h ∙ e ∙ sym (get_d-of_bits (length image) (written_bit image position values start size) j h))
      | no other ↦
          get_or-set_other image j i v 0 other ∙ byte-numeral image bytes i
          ∙ numeral-cong 8 (λ b. bit_at image (8 * i + b)) (λ b. written_bit image position values start size (8 * i + b))
          (λ b lt. sym (written_bit-outside image position values start size (8 * i + b) (λ p q. other (omega arith))))
          ∙ sym (get_d-of_bits (length image) (written_bit image position values start size) i below)
    ]

-- An item of no bits changes nothing.
pub written_none : (image : List ℕ) (position : ℕ) (values : List ℕ) (start size : ℕ) → Bytes image → size ≡ 0
    → written image position values start size ≡ image
written_none image position values start size bytes e =
    same_bits (written image position values start size) image (bytes-written image position values start size) bytes
    (length-written image position values start size)
    λ k h. written-other image position values start size k (λ p q. omega arith)

-- An item may be written in two runs.
module _ (image : List ℕ) (position : ℕ) (values : List ℕ) (start a b : ℕ) where
  first : List ℕ
  first = written image position values start a

  runs-bit : (k : ℕ) → k < 8 * length image
      → written_bit first (position + a) values (start + a) b k ≡ written_bit image position values start (a + b) k
  unfolding first
  runs-bit k h =
      elim (dec_lt k (position + a)) [
        | yes before ↦
            written_bit-outside first (position + a) values (start + a) b k (λ p q. omega arith)
            ∙ bit_at-written image position values start a k h
            ∙ elim (dec_lt k position) [
              | yes out ↦
                  written_bit-outside image position values start a k (λ p q. omega arith)
                  ∙ sym (written_bit-outside image position values start (a + b) k (λ p q. omega arith))
              | no in' ↦
                  written_bit-inside image position values start a k (omega arith) before
                  ∙ sym (written_bit-inside image position values start (a + b) k (omega arith) (omega arith))
            ]
        | no after ↦
            elim (dec_lt k (position + a + b)) [
              | yes in' ↦
                  written_bit-inside first (position + a) values (start + a) b k (omega arith) in'
                  ∙ ap (λ (i : ℕ). bit_at values i) (omega arith)
                  ∙ sym (written_bit-inside image position values start (a + b) k (omega arith) (omega arith))
              | no out ↦
                  written_bit-outside first (position + a) values (start + a) b k (λ p q. omega arith)
                  ∙ bit_at-written image position values start a k h
                  ∙ written_bit-outside image position values start a k (λ p q. omega arith)
                  ∙ sym (written_bit-outside image position values start (a + b) k (λ p q. omega arith))
            ]
      ]

  pub written-runs : written (written image position values start a) (position + a) values (start + a) b ≡ written image position values start (a + b)
  unfolding first
  written-runs =
      same_bits (written first (position + a) values (start + a) b) (written image position values start (a + b))
      (bytes-written first (position + a) values (start + a) b)
      (bytes-written image position values start (a + b))
      (length-written first (position + a) values (start + a) b ∙ length-written image position values start a
      ∙ sym (length-written image position values start (a + b)))
      λ k h.
      let n : length (written first (position + a) values (start + a) b) ≡ length image =
      length-written first (position + a) values (start + a) b ∙ length-written image position values start a in
      bit_at-written first (position + a) values (start + a) b k (omega (arith, length-written image position values start a))
      ∙ runs-bit k (omega arith)
      ∙ sym (bit_at-written image position values start (a + b) k (omega arith))

-- What adds up to the spliced byte: the old bits above, the chunk and the old bits below. `below` and `above` are powers of 2.
pub record SplicedSum (old at n chunk below above : ℕ) : Type 0 where
  pub sum : old - old % above + chunk * below + old % below ≡ spliced old at n chunk
  pub byte : spliced old at n chunk < 256

module _ (old at n chunk below above : ℕ) (fits : at + n ≤ 8) (byte : old < 256) (bits : chunk < 2 ^ n)
    (eb : below ≡ 2 ^ (8 - at - n)) (ea : above ≡ 2 ^ (n + (8 - at - n))) where
  spliced-bit : ℕ → ℕ
  spliced-bit b = pick (covers at n b) (bit_of n chunk (b - at)) (bit_of 8 old b)

  taken : (i : ℕ) → at + i - at ≡ i
  taken i = omega arith

  sum-holds : old - old % above + chunk * below + old % below ≡ spliced old at n chunk
  unfolding spliced spliced-bit
  sum-holds =
      let parts =
      numeral-spliced 8 at n (8 - at - n) (bit_of 8 old) (bit_of n chunk) spliced-bit (omega arith) (λ i. omega arith)
      (λ i h. rw (covers-before at n i h))
      (λ i h. rw (covers-inside at n (at + i) (omega arith) (omega arith), taken i))
      (λ i h. rw (covers-after at n (at + n + i) (omega arith))) in
      rw (eb, ea)
      (omega (
        arith,
        rw (numeral-bit_of 8 old byte, numeral-bit_of n chunk bits) at parts,
        div-add-mod' old (2 ^ (n + (8 - at - n))),
      ))

  pub spliced-sum : SplicedSum old at n chunk below above
  unfolding spliced
  spliced-sum =
      record { sum = sum-holds; byte = numeral-lt 8 _ (λ b. pick-lt (covers at n b) (omega arith) (omega arith)) }

-- The n bits from s on of a number of w bits: a shift drops those below, a remainder those above.
field_of : (w s n x : ℕ) (f : ℕ → ℕ) → Bits f → s + n ≤ w → x ≡ numeral w f → x / 2 ^ (w - (s + n)) % 2 ^ n ≡ numeral n (λ i. f (s + i))
field_of w s n x f bits h e =
    rw e
    (ap (λ (m : ℕ). numeral m f / 2 ^ (w - (s + n)) % 2 ^ n) (omega arith) ∙ numeral-field s n (w - (s + n)) f bits)

module _ (l : List ℕ) (bytes : Bytes l) (k s n : ℕ) where
  from_byte : ℕ → ℕ
  from_byte b = bit_at l (8 * k + b)

  -- one name for the bits, whether they are counted from the byte or from the first of them
  from_first : numeral n (λ i. from_byte (s + i)) ≡ numeral n (λ i. bit_at l (8 * k + s + i))
  unfolding from_byte
  from_first = numeral-cong n _ _ (λ i h. ap (λ (b : ℕ). bit_at l b) (omega arith))

  -- bits that lie in one byte
  pub byte-field : s + n ≤ 8 → get_or l k 0 / 2 ^ (8 - (s + n)) % 2 ^ n ≡ numeral n (λ i. bit_at l (8 * k + s + i))
  unfolding from_byte
  byte-field h = field_of 8 s n (get_or l k 0) from_byte (λ b. bit_at_lt l (8 * k + b)) h (byte-numeral l bytes k) ∙ from_first

  -- bits that lie in two neighbours
  pub pair-field : s + n ≤ 16 → (get_or l k 0 * 256 + get_or l (k + 1) 0) / 2 ^ (16 - (s + n)) % 2 ^ n ≡ numeral n (λ i. bit_at l (8 * k + s + i))
  unfolding from_byte
  pair-field h =
      field_of 16 s n (get_or l k 0 * 256 + get_or l (k + 1) 0) from_byte (λ b. bit_at_lt l (8 * k + b)) h
      (ap₂ (λ (x y : ℕ). x * 256 + y) (byte-numeral l bytes k)
      (byte-numeral l bytes (k + 1) ∙ numeral-cong 8 _ _ (λ b lt. ap (λ (i : ℕ). bit_at l i) (omega arith)))
      ∙ sym (numeral-add 8 8 from_byte))
      ∙ from_first

-- A store of a spliced byte writes an item that lies in that byte.
pub stored-piece : (image : List ℕ) (j at : ℕ) (values : List ℕ) (first n chunk v : ℕ) → Bytes image → j < length image → at + n ≤ 8
    → chunk ≡ numeral n (λ i. bit_at values (first + i)) → v ≡ spliced (get_or image j 0) at n chunk
    → set image j v ≡ written image (8 * j + at) values first n
unfolding spliced
stored-piece image j at values first n chunk v bytes h fits c e =
    stored image (8 * j + at) values first n j v bytes h (omega arith) (omega arith) (e ∙ numeral-cong 8 _ _ bit)
  where
    bit : (b : ℕ) → b < 8
        → pick (covers at n b) (bit_of n chunk (b - at)) (bit_of 8 (get_or image j 0) b) ≡ written_bit image (8 * j + at) values first n (8 * j + b)
    bit b lt =
        elim (dec_le at b) [
          | no out ↦ outside (λ p q. out p)
          | yes from ↦
              elim (dec_lt b (at + n)) [
                | no out ↦ outside (λ p q. out q)
                | yes to ↦
                    rw (covers-inside at n b from to, c)
                    (bit_of-numeral n (λ i. bit_at values (first + i)) (λ i. bit_at_lt values (first + i)) (b - at) (omega arith)
                    ∙ ap (λ (i : ℕ). bit_at values (first + i)) (omega arith)
                    ∙ sym (written_bit-inside image (8 * j + at) values first n (8 * j + b) (omega arith) (omega arith)))
              ]
        ]
      where
        outside : (at ≤ b → b < at + n → ⊥)
            → pick (covers at n b) (bit_of n chunk (b - at)) (bit_of 8 (get_or image j 0) b) ≡ written_bit image (8 * j + at) values first n (8 * j + b)
        outside out =
            rw (covers-not at n b out)
            (sym (bit_at-byte image j b lt)
            ∙ sym (written_bit-outside image (8 * j + at) values first n (8 * j + b) (λ p q. out (omega arith) (omega arith))))

-- Two neighbours make one byte of the item, where it starts s bits after a byte edge.
pub pair-shifted : (l : List ℕ) → Bytes l → (k s i : ℕ) → s ≤ 8
    → get_or l (k + i) 0 * 2 ^ s % 256 + get_or l (k + i + 1) 0 / 2 ^ (8 - s) ≡ numeral 8 (λ b. bit_at l (8 * k + s + 8 * i + b))
pair-shifted l bytes k s i h =
    rw (byte-numeral l bytes (k + i), byte-numeral l bytes (k + i + 1) ∙ numeral-cong 8 _ _ later)
    (numeral-shifted 8 s (8 - s) from (omega arith) (λ b. bit_at_lt l (8 * (k + i) + b)) ∙ numeral-cong 8 _ _ first)
  where
    from : ℕ → ℕ
    from b = bit_at l (8 * (k + i) + b)

    later : (b : ℕ) → b < 8 → bit_at l (8 * (k + i + 1) + b) ≡ from (8 + b)
    later b lt = ap (λ (n : ℕ). bit_at l n) (omega arith)

    first : (b : ℕ) → b < 8 → from (s + b) ≡ bit_at l (8 * k + s + 8 * i + b)
    first b lt = ap (λ (n : ℕ). bit_at l n) (omega arith)

-- A list of bytes, by their bits.
made-of_bits : (l : List ℕ) (n : ℕ) (f : ℕ → ℕ) → length l ≡ n → ((i : ℕ) → i < n → get_or l i 0 ≡ numeral 8 (λ b. f (8 * i + b))) → l ≡ of_bits n f
made-of_bits l n f e h =
    ext_get_or 0 l (of_bits n f) (e ∙ sym (length-of_bits n f))
    (λ i lt. h i (omega (arith, e)) ∙ sym (get_d-of_bits n f i (omega (arith, e))))

-- Whole bytes in the place of the image's from byte j on, where f has their bits there and the image's elsewhere.
module _ (image : List ℕ) (j k : ℕ) (bytes : List ℕ) (f : ℕ → ℕ) (known : Bytes image) (len : length bytes ≡ k) (fits : j + k ≤ length image)
    (new : (i : ℕ) → i < k → get_or bytes i 0 ≡ numeral 8 (λ b. f (8 * (j + i) + b)))
    (old : (p : ℕ) → (8 * j ≤ p → p < 8 * (j + k) → ⊥) → f p ≡ bit_at image p) where
  kept-byte : (i : ℕ) → (j ≤ i → i < j + k → ⊥) → get_or image i 0 ≡ numeral 8 (λ b. f (8 * i + b))
  kept-byte i out =
      byte-numeral image known i ∙ numeral-cong 8 _ _ (λ b h. sym (old (8 * i + b) (λ p q. out (omega arith) (omega arith))))

  put-byte : (i : ℕ) → i < length image → get_or (put_mid j k image bytes) i 0 ≡ numeral 8 (λ b. f (8 * i + b))
  put-byte i h =
      let front : length (take j image) ≡ j = length-take-le j image (omega arith) in
      elim (dec_lt i j) [
        | yes before ↦
            get_or_append_left (take j image) _ 0 i (omega (arith, front)) ∙ get_or-take j image i 0 before ∙ kept-byte i (λ p q. omega arith)
        | no from ↦
            get_or-append_right (take j image) _ j i 0 front (omega arith)
            ∙ elim (dec_lt i (j + k)) [
              | yes to ↦
                  get_or_append_left bytes _ 0 (i - j) (omega (arith, len)) ∙ new (i - j) (omega arith)
                  ∙ numeral-cong 8 _ _ (λ b lt. ap f (omega arith))
              | no past ↦
                  get_or-append_right bytes _ k (i - j) 0 len (omega arith) ∙ get_or-drop k (drop j image) (i - j - k) 0
                  ∙ get_or-drop j image _ 0 ∙ ap (λ (n : ℕ). get_or image n 0) (omega arith)
                  ∙ kept-byte i (λ p q. past q)
            ]
      ]

  pub put-bytes : put_mid j k image bytes ≡ of_bits (length image) f
  put-bytes = made-of_bits (put_mid j k image bytes) (length image) f (search (rules, places, len)) put-byte

-- The first n bytes are the item's, whose bits are the values' from bit `start` on.
abbrev pub OfItem : List ℕ → ℕ → List ℕ → ℕ → Type 0
OfItem values start bytes n = (i : ℕ) → i < n → get_or bytes i 0 ≡ numeral 8 (λ b. bit_at values (start + 8 * i + b))

-- One byte more.
pub item_more : (values : List ℕ) (start : ℕ) (bytes : List ℕ) (i v : ℕ) → i < length bytes → OfItem values start bytes i
    → v ≡ numeral 8 (λ b. bit_at values (start + 8 * i + b)) → OfItem values start (set bytes i v) (i + 1)
item_more values start bytes i v h before e n l =
    elim (dec_lt n i) [
      | yes lt ↦ get_or-set_other bytes i n v 0 (λ same. omega arith) ∙ before n lt
      | no ge ↦
          let same : n ≡ i = omega arith in
          rw same (get_or-set_same bytes i v 0 h ∙ e)
    ]

-- Whole bytes of the item.
pub whole-bytes : (image : List ℕ) (j k n : ℕ) (bytes values : List ℕ) (start : ℕ) → Bytes image → k ≡ n → length bytes ≡ n → j + n ≤ length image
    → OfItem values start bytes n → put_mid j k image bytes ≡ written image (8 * j) values start (8 * n)
unfolding written
whole-bytes image j k n bytes values start known e len fits new =
    rw e
    (put-bytes image j n bytes (written_bit image (8 * j) values start (8 * n)) known len fits
    (λ i h.
    new i h
    ∙ numeral-cong 8 _ _ (λ b lt.
    ap (bit_at values) (omega arith)
    ∙ sym (written_bit-inside image (8 * j) values start (8 * n) (8 * (j + i) + b) (omega arith) (omega arith))))
    (λ p out. written_bit-outside image (8 * j) values start (8 * n) p (λ a b. out a (omega arith))))

-- A value byte as the item's byte, where the item starts on a byte edge.
pub whole-byte : (l : List ℕ) → Bytes l → (k i : ℕ) → get_or l (k + i) 0 ≡ numeral 8 (λ b. bit_at l (8 * k + 8 * i + b))
whole-byte l bytes k i = byte-numeral l bytes (k + i) ∙ numeral-cong 8 _ _ (λ b lt. ap (λ (n : ℕ). bit_at l n) (omega arith))

-- Two calls that each write a run, the second where the first ended, write the item.
pub two_runs : (image mid after : List ℕ) (position : ℕ) (values : List ℕ) (start a b size position' start' : ℕ)
    → mid ≡ written image position values start a → after ≡ written mid position' values start' b
    → position' ≡ position + a → start' ≡ start + a → a + b ≡ size → after ≡ written image position values start size
two_runs image mid after position values start a b size position' start' first second p s n =
    rw (second, first, p, s, ← n) (written-runs image position values start a b)

-- What a call owes, by what its tests say.
module _ (image : List ℕ) (position : ℕ) (values : List ℕ) (start size : ℕ) where
  pub accepted : (after : List ℕ) → ends_within (length image) position size ≡ true → ends_within (length values) start size ≡ true
      → after ≡ written image position values start size → Writes image position values start size Accepted after
  accepted after p v e =
      let a : Accepted ≡ pick (is_written image position values start size) Accepted (Err (Malformed 0)) = rw (p, v) in
      record { answer = a; bytes = rw (p, v) e; told = write-told image position values start size a }

  pub refused : is_written image position values start size ≡ false → Writes image position values start size (Err (Malformed 0)) image
  refused e =
      let a : Err (Malformed 0) ≡ pick (is_written image position values start size) Accepted (Err (Malformed 0)) = rw e in
      record { answer = a; bytes = rw e; told = write-told image position values start size a }
