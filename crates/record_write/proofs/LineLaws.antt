-- A line put together from its stores, in a format.
use Rattle.std.proofs.Common.{fold, ◌≡◌, ℕ, ◌+◌, ◌-◌, ◌*◌, ◌/◌, ◌%◌, ◌<◌, ◌≤◌, eqb, List, [], ◌∷◌, ◌++◌, length, take, drop, set, sym, refl, ap, ◌∙◌, ap₂, append_assoc, add-one, arith, length-append, length-drop, length-set, length-take, take_all, eq-eqb, ne_eqb, eqb-true}
use borrow.Author.Tests.{eqb-false}
use lib.Seq.{sets}
use Rattle.prelude.specs.Laws.Bools.{either}
use Rattle.record_lines.specs.Digits.{letter_of, byte_text, bytes_text}
use Rattle.record_lines.specs.Laws.DigitLaws.{length-bytes_text, bytes_text-append}
use Rattle.record_lines.specs.Pieces.{piece}
use Rattle.record_lines.specs.Puts.{Puts}
use Rattle.record_lines.specs.Laws.Puts.{sets_then}
use Rattle.record_lines.specs.Sums.{sum_of}
use Rattle.record_ihex_line.specs.Format.{check_of, record_text, upper_text, hex_text, end_text}
use Rattle.record_ihex_line.specs.Laws.Writes.{check-byte, record-put}
use Rattle.record_srec_line.specs.Srec.{head_of, body_of, checksum_of, line_text, ended_line, address_bytes}
use Rattle.record_srec_line.specs.Laws.ReadBack.{length-address}
use Rattle.record_write.specs.Going.{tail_text}
use Rattle.record_write.specs.Text.{text_by, end_by}

pub pair-stored : (old : List ℕ) (at b x y : ℕ) → x ≡ letter_of (b / 16) → y ≡ letter_of (b % 16) → set (set old at x) (at + 1) y ≡ sets old at (byte_text b)
pair-stored old at b x y e f =
    ap₂ (λ (u v : ℕ). set (set old at u) (at + 1) v) e f
    ∙ ap (λ (k : ℕ). set (set old at (letter_of (b / 16))) k (letter_of (b % 16))) (add-one at)

pub tail-stored : (old bytes : List ℕ) (at end check : ℕ) {o1 o2 : List ℕ} → o1 ≡ sets old at (bytes_text bytes) → o2 ≡ sets o1 end (byte_text check)
    → end ≡ at + 2 * length bytes → set o2 (end + 2) 10 ≡ sets old at (tail_text bytes check)
unfolding bytes_text
tail-stored old bytes at end check e f h =
    let long = length-bytes_text bytes in
    let two = sets_then old at end (bytes_text bytes) (byte_text check) e f (omega arith) in
    sets_then old at (end + 2) (bytes_text bytes ++ byte_text check) (10 ∷ []) two refl (omega (arith, length-append (bytes_text bytes) (byte_text check)))

-- ---- Intel HEX
pub hex-head : (old : List ℕ) (n hi lo kind : ℕ) {o1 o2 o3 o4 : List ℕ} → o1 ≡ sets (set old 0 58) 1 (byte_text n) → o2 ≡ sets o1 3 (byte_text hi)
    → o3 ≡ sets o2 5 (byte_text lo) → o4 ≡ sets o3 7 (byte_text kind) → o4 ≡ sets old 0 (58 ∷ bytes_text (n ∷ hi ∷ lo ∷ kind ∷ []))
unfolding bytes_text
hex-head old n hi lo kind e1 e2 e3 e4 =
    e4 ∙ ap (λ (l : List ℕ). sets l 7 (byte_text kind))
    (e3 ∙ ap (λ (l : List ℕ). sets l 5 (byte_text lo)) (e2 ∙ ap (λ (l : List ℕ). sets l 3 (byte_text hi)) e1))

-- bytes added one by one, of each sum the low byte
folded-from : (a : ℕ) (l : List ℕ) → a < 256 → fold (λ (s b : ℕ). (s + b) % 256) a l ≡ (a + sum_of l) % 256
unfolding sum_of
folded-from a [] h = omega arith
folded-from a (b ∷ l) h = folded-from ((a + b) % 256) l (omega arith) ∙ omega arith

pub folded : (l : List ℕ) → fold (λ (s b : ℕ). (s + b) % 256) 0 l ≡ sum_of l % 256
folded l = folded-from 0 l (omega arith) ∙ ap (λ (k : ℕ). k % 256) (omega arith)

pub hex-record : (old b : List ℕ) (kind field s1 s2 s ck r : ℕ) {mid new : List ℕ}
    → s1 ≡ (length b + field / 256 + field % 256 + kind) % 256 → s2 ≡ sum_of b % 256 → s ≡ (s1 + s2) % 256 → (ck + s) % 256 ≡ 0 → ck < 256
    → mid ≡ sets old 0 (58 ∷ bytes_text (length b ∷ field / 256 ∷ field % 256 ∷ kind ∷ [])) → new ≡ sets mid 9 (tail_text b ck) → r ≡ 9 + 2 * length b + 3
    → Puts (record_text kind field b) old r new
unfolding bytes_text sum_of
hex-record old b kind field s1 s2 s ck r e1 e2 e3 z h m t e =
    let n = length b in
    let first : s1 ≡ sum_of (n ∷ field / 256 ∷ field % 256 ∷ kind ∷ []) % 256 = e1 ∙ ap (λ (k : ℕ). k % 256) (omega arith) in
    let check = check-byte b n (field / 256) (field % 256) kind s1 s2 s ck first e2 e3 z h in
    let stored = sets_then old 0 9 (58 ∷ bytes_text (n ∷ field / 256 ∷ field % 256 ∷ kind ∷ [])) (tail_text b ck) m t refl in
    let p = record-put old b n (field / 256) (field % 256) kind field ck refl refl refl check stored in
    record { long = e ∙ omega arith ∙ p.long; part = p.part }

pub record-long : (kind field : ℕ) (b : List ℕ) → length (record_text kind field b) ≡ 12 + 2 * length b
unfolding record_text bytes_text
record-long kind field b =
    let body = length b ∷ field / 256 ∷ field % 256 ∷ kind ∷ b in
    let check = bytes_text (check_of body ∷ []) in
    omega (arith, length-append (bytes_text b ++ check) (10 ∷ []), length-append (bytes_text b) check, length-bytes_text b)

pub upper-none : (in-force upper : ℕ) → upper ≡ in-force → length (upper_text in-force upper) ≡ 0
upper-none in-force upper e = rw (eq-eqb upper in-force e)

pub upper-some : (in-force upper : ℕ) → (upper ≡ in-force → ⊥) → length (upper_text in-force upper) ≡ 16
upper-some in-force upper e = rw (ne_eqb upper in-force e) (record-long 4 0 (upper / 256 ∷ upper % 256 ∷ []))

pub hex-long : (in-force address : ℕ) (b : List ℕ) → length (hex_text in-force (piece address b))
    ≡ length (upper_text in-force (address / 65536)) + (12 + 2 * length b)
unfolding hex_text
hex-long in-force address b =
    length-append (upper_text in-force (address / 65536)) (record_text 0 (address % 65536) b)
    ∙ ap (λ (k : ℕ). length (upper_text in-force (address / 65536)) + k) (record-long 0 (address % 65536) b)

-- ---- S-records
pub s-head : (old : List ℕ) (digit a b c : ℕ) {o1 o2 o3 : List ℕ} → o1 ≡ sets (set (set old 0 83) 1 digit) 2 (byte_text a) → o2 ≡ sets o1 4 (byte_text b)
    → o3 ≡ sets o2 6 (byte_text c) → o3 ≡ sets old 0 (83 ∷ digit ∷ bytes_text (a ∷ b ∷ c ∷ []))
unfolding bytes_text
s-head old digit a b c e1 e2 e3 =
    e3 ∙ ap (λ (l : List ℕ). sets l 6 (byte_text c)) (e2 ∙ ap (λ (l : List ℕ). sets l 4 (byte_text b)) e1)

pub two-set : (old : List ℕ) (digit : ℕ) → length (set (set old 0 83) 1 digit) ≡ length old
two-set old digit = length-set (set old 0 83) 1 digit ∙ length-set old 0 83

pub ended-long : (t w a : ℕ) (b : List ℕ) → length (ended_line t w a b) ≡ 7 + 2 * w + 2 * length b
unfolding line_text
ended-long t w a b =
    let body = body_of w a b in
    let check = checksum_of body ∷ [] in
    omega (
      arith,
      length-append (83 ∷ t ∷ bytes_text (body ++ check)) (10 ∷ []),
      length-bytes_text (body ++ check),
      length-append body check,
      length-append (head_of w a (length b)) b,
      length-address w a,
    )

-- a head and a tail are the line
s-line : (old head b : List ℕ) (t w a sum r : ℕ) {new : List ℕ} → head ≡ head_of w a (length b) → sum ≡ sum_of (head ++ b) % 256
    → new ≡ sets old 0 ((83 ∷ t ∷ bytes_text head) ++ tail_text b (255 - sum)) → r ≡ 7 + 2 * w + 2 * length b → Puts (ended_line t w a b) old r new
unfolding line_text
s-line old head b t w a sum r {new} e s p q =
    let check : 255 - sum ≡ checksum_of (head ++ b) = ap (λ (k : ℕ). 255 - k) s in
    let one = checksum_of (head ++ b) ∷ [] in
    let text : (83 ∷ t ∷ bytes_text head) ++ tail_text b (255 - sum) ≡ ended_line t w a b =
    ap (λ (k : ℕ). (83 ∷ t ∷ bytes_text head) ++ tail_text b k) check
    ∙ ap (λ (l : List ℕ). 83 ∷ t ∷ l)
    (sym (append_assoc (bytes_text head) (bytes_text b ++ bytes_text one) (10 ∷ []))
    ∙ ap (λ (l : List ℕ). l ++ (10 ∷ []))
    (sym (append_assoc (bytes_text head) (bytes_text b) (bytes_text one))
    ∙ sym (bytes_text-append (head ++ b) one ∙ ap (λ (l : List ℕ). l ++ bytes_text one) (bytes_text-append head b))))
    ∙ ap (λ (h : List ℕ). (83 ∷ t ∷ bytes_text ((h ++ b) ++ (checksum_of (h ++ b) ∷ []))) ++ (10 ∷ [])) e in
    record { long = q ∙ sym (ended-long t w a b); part = p ∙ ap (sets old 0) text }

pub short-line : (old b : List ℕ) (t a count hi lo s sum r : ℕ) {mid new : List ℕ} → count ≡ 3 + length b → hi ≡ a / 256 % 256 → lo ≡ a / 1 % 256
    → s ≡ sum_of b % 256 → sum ≡ (count + hi + lo + s) % 256 → mid ≡ sets old 0 (83 ∷ t ∷ bytes_text (count ∷ hi ∷ lo ∷ []))
    → new ≡ sets mid 8 (tail_text b (255 - sum)) → r ≡ 8 + 2 * length b + 3 → Puts (ended_line t 2 a b) old r new
unfolding address_bytes bytes_text sum_of
short-line old b t a count hi lo s sum r ec eh el es e m p q =
    let head = count ∷ hi ∷ lo ∷ [] in
    let c : count ≡ 2 + length b + 1 = omega arith in
    let same : head ≡ head_of 2 a (length b) =
    ap (λ (k : ℕ). k ∷ hi ∷ lo ∷ []) c ∙ ap₂ (λ (x y : ℕ). (2 + length b + 1) ∷ x ∷ y ∷ []) eh el in
    let low : sum ≡ sum_of (head ++ b) % 256 = e ∙ omega (arith, es) in
    s-line old head b t 2 a sum r same low (sets_then old 0 8 (83 ∷ t ∷ bytes_text head) (tail_text b (255 - sum)) m p refl) (omega arith)

all-five : (m x y hi lo z : ℕ) → m + x + y + hi + lo + z ≡ m + (x + (y + (hi + (lo + z))))
all-five m x y hi lo z = omega arith

two-summed : (u lo z s1 s2 s : ℕ) → s1 ≡ u % 256 → s2 ≡ (lo + s) % 256 → s ≡ z % 256 → (s1 + s2) % 256 ≡ (u + lo + z) % 256
two-summed u lo z s1 s2 s e f g =
    let rest : s2 ≡ (lo + z) % 256 = omega arith in
    go u (lo + z) s1 s2 e rest ∙ ap (λ (k : ℕ). k % 256) (omega arith)
  where
    go : (a b x y : ℕ) → x ≡ a % 256 → y ≡ b % 256 → (x + y) % 256 ≡ (a + b) % 256
    go a b x y e f = omega arith

pub long-line : (old b : List ℕ) (t a count x y hi lo s s1 s2 sum r : ℕ) {mid o1 o2 new : List ℕ} → count ≡ 5 + length b → x ≡ a / 16777216 % 256
    → y ≡ a / 65536 % 256 → hi ≡ a / 256 % 256 → lo ≡ a / 1 % 256 → s ≡ sum_of b % 256 → s1 ≡ (count + x + y + hi) % 256 → s2 ≡ (lo + s) % 256
    → sum ≡ (s1 + s2) % 256 → mid ≡ sets old 0 (83 ∷ t ∷ bytes_text (count ∷ x ∷ y ∷ [])) → o1 ≡ sets mid 8 (byte_text hi) → o2 ≡ sets o1 10 (byte_text lo)
    → new ≡ sets o2 12 (tail_text b (255 - sum)) → r ≡ 12 + 2 * length b + 3 → Puts (ended_line t 4 a b) old r new
unfolding address_bytes bytes_text sum_of
long-line old b t a count x y hi lo s s1 s2 sum r {mid} {o1} ec ex ey eh el es e1 e2 e m p1 p2 p q =
    let head = count ∷ x ∷ y ∷ hi ∷ lo ∷ [] in
    let c : count ≡ 4 + length b + 1 = omega arith in
    let same : head ≡ head_of 4 a (length b) =
    ap (λ (k : ℕ). k ∷ x ∷ y ∷ hi ∷ lo ∷ []) c ∙ ap₂ (λ (u v : ℕ). (4 + length b + 1) ∷ u ∷ v ∷ hi ∷ lo ∷ []) ex ey
    ∙ ap₂ (λ (u v : ℕ). (4 + length b + 1) ∷ (a / 16777216 % 256) ∷ (a / 65536 % 256) ∷ u ∷ v ∷ []) eh el in
    let low : sum ≡ sum_of (head ++ b) % 256 = e ∙ two-summed (count + x + y + hi) lo (sum_of b) s1 s2 s e1 e2 es
    ∙ ap (λ (k : ℕ). k % 256) (all-five count x y hi lo (sum_of b)) in
    let one = sets_then old 0 8 (83 ∷ t ∷ bytes_text (count ∷ x ∷ y ∷ [])) (byte_text hi) m p1 refl in
    let two = sets_then old 0 10 (83 ∷ t ∷ bytes_text (count ∷ x ∷ y ∷ hi ∷ [])) (byte_text lo) one p2 refl in
    s-line old head b t 4 a sum r same low (sets_then old 0 12 (83 ∷ t ∷ bytes_text head) (tail_text b (255 - sum)) two p refl) (omega arith)

-- ---- in a format
module _ (state address : ℕ) (b : List ℕ) (few : length b ≤ 16) where
  all_of : take 250 b ≡ b
  all_of = take_all 250 b (omega arith)

  pub by-hex : (format : ℕ) → format ≡ 0 → text_by format state (piece address b) ≡ hex_text state (piece address b)
  by-hex format e = rw e

  pub by-short : (format : ℕ) → format ≡ 2 → text_by format state (piece address b) ≡ ended_line 49 2 address b
  by-short format e = rw e (ap (ended_line 49 2 address) all_of)

  pub by-long : (format : ℕ) → (format ≡ 0 → ⊥) → (format ≡ 2 → ⊥) → text_by format state (piece address b) ≡ ended_line 51 4 address b
  by-long format e f = rw (ne_eqb format 0 e, ne_eqb format 2 f) (ap (ended_line 51 4 address) all_of)

pub end-hex : (format : ℕ) → format ≡ 0 → end_by format ≡ end_text
end-hex format e = rw e

pub end_short : (format : ℕ) → format ≡ 2 → end_by format ≡ ended_line 57 2 0 []
end_short format e = rw e

pub end-long : (format : ℕ) → (format ≡ 0 → ⊥) → (format ≡ 2 → ⊥) → end_by format ≡ ended_line 55 4 0 []
end-long format e f = rw (ne_eqb format 0 e, ne_eqb format 2 f)

-- ---- room
pub upper-few : (in-force upper : ℕ) → length (upper_text in-force upper) ≤ 16
upper-few in-force upper = either (eqb upper in-force) (λ t. rw t (omega arith)) (λ f. rw f (omega (arith, record-long 4 0 (upper / 256 ∷ upper % 256 ∷ []))))

pub part_room : (l : List ℕ) (n k : ℕ) → n + k ≤ length l → k ≤ length (take (length l - n) (drop n l))
part_room l n k h = omega (arith, length-take (length l - n) (drop n l), length-drop n l)

module _ (format state address n : ℕ) (l : List ℕ) (e : length l ≡ n) (few : n ≤ 16) where
  pub room-short : format ≡ 2 → 11 + 2 * n ≡ length (text_by format state (piece address l))
  room-short f = omega (arith, ended-long 49 2 address l) ∙ sym (ap length (by-short state address l (omega arith) format f))

  pub room-long : (format ≡ 2 → ⊥) → (format ≡ 0 → ⊥) → 15 + 2 * n ≡ length (text_by format state (piece address l))
  room-long f g = omega (arith, ended-long 51 4 address l) ∙ sym (ap length (by-long state address l (omega arith) format g f))

  pub room-same : format ≡ 0 → address / 65536 ≡ state → 12 + 2 * n ≡ length (text_by format state (piece address l))
  room-same f u = omega (arith, hex-long state address l, upper-none state (address / 65536) u)
      ∙ sym (ap length (by-hex state address l (omega arith) format f))

  pub room-other : format ≡ 0 → (address / 65536 ≡ state → ⊥) → 28 + 2 * n ≡ length (text_by format state (piece address l))
  room-other f u = omega (arith, hex-long state address l, upper-some state (address / 65536) u)
      ∙ sym (ap length (by-hex state address l (omega arith) format f))

pub text-few : (format state address : ℕ) (b : List ℕ) → length b ≤ 16 → length (text_by format state (piece address b)) ≤ 1044
text-few format state address b few =
    either (eqb format 0)
    (λ t. omega (arith, ap length (by-hex state address b few format (eqb-true format 0 t)), hex-long state address b, upper-few state (address / 65536)))
    (λ f. either (eqb format 2)
    (λ t. omega (arith, ap length (by-short state address b few format (eqb-true format 2 t)), ended-long 49 2 address b))
    (λ g. omega (arith, ap length (by-long state address b few format (eqb-false format 0 f) (eqb-false format 2 g)), ended-long 51 4 address b)))

pub end-few : (format : ℕ) → length (end_by format) ≤ 15
end-few format =
    either (eqb format 0)
    (λ t. omega (arith, ap length (end-hex format (eqb-true format 0 t)), record-long 1 0 []))
    (λ f. either (eqb format 2)
    (λ t. omega (arith, ap length (end_short format (eqb-true format 2 t)), ended-long 57 2 0 []))
    (λ g. omega (arith, ap length (end-long format (eqb-false format 0 f) (eqb-false format 2 g)), ended-long 55 4 0 [])))
