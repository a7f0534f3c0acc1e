-- Theorems about what Has defines.
use Rattle.std.specs.Prelude.{true, ◌≡◌, ℕ, ◌+◌, ◌/◌, ◌%◌, ◌≤◌, ◌<◌, get_or, drop}
use mathlib.Core.List.{List, [], ◌∷◌, ◌++◌, append_assoc}
use Rattle.std.proofs.Math.Path.{refl}
use Rattle.std.proofs.Common.{sym, ap, ◌∙◌, add-zero, length-append, length-drop, drop-drop, get_or-drop}
use native.Mathlib.Omega.{arith}
use Rattle.std.proofs.Math.ListN.{length}
use Rattle.std.proofs.Math.Seq.{drop-append_seam}
use borrow.Author.Tests.{le-leb, eq-eqb}
use Rattle.form_fields.specs.Words.{byte, word16, word32, word64}
use Rattle.form_fields.specs.Fields.{field_at}
use Rattle.form_fields.specs.Contents.{bytes16, bytes32, bytes64, field}
use Rattle.form_fields.specs.Has.{Has}
use Rattle.form_fields.specs.Laws.Has.{field-length}

module _ {file : List ℕ} where
  module _ {at : ℕ} where
    pub has_left : (a b : List ℕ) → Has file at (a ++ b) → Has file at a
    has_left a b h = record { rest = b ++ h.rest; is = h.is ∙ append_assoc a b h.rest }

    pub has_right : (a b : List ℕ) (k : ℕ) → k ≡ at + length a → Has file at (a ++ b) → Has file k b
    has_right a b k e h =
        record {
          rest = h.rest;
          is = ap (λ (n : ℕ). drop n file) e ∙ sym (drop-drop (length a) at file) ∙ ap (drop (length a)) (h.is ∙ append_assoc a b h.rest)
              ∙ drop-append_seam a (b ++ h.rest);
        }

    pub has-byte : (x : ℕ) (l : List ℕ) → Has file at (x ∷ l) → byte file at ≡ x
    has-byte x l h = ap (λ (n : ℕ). get_or file n 0) (sym (add-zero at)) ∙ sym (get_or-drop at file 0 0) ∙ ap (λ (k : List ℕ). get_or k 0 0) h.is

    pub has-ends : (part : List ℕ) → 0 < length part → Has file at part → at + length part ≤ length file
    has-ends part some h = omega (arith, length-drop at file, ap length h.is, length-append part h.rest)

  pub has-word16 : (at n : ℕ) → Has file at (bytes16 n) → word16 file at ≡ n
  unfolding bytes16 word16
  has-word16 at n h =
      let first = has-byte (n / 256) (n % 256 ∷ []) h in
      let second = has-byte (n % 256) [] (has_right (n / 256 ∷ []) (n % 256 ∷ []) (at + 1) refl h) in
      omega arith

  pub has-word32 : (at n : ℕ) → Has file at (bytes32 n) → word32 file at ≡ n
  unfolding bytes32 bytes16 word32
  has-word32 at n h =
      let first = has-word16 at (n / 65536) (has_left (bytes16 (n / 65536)) (bytes16 (n % 65536)) h) in
      let second = has-word16 (at + 2) (n % 65536) (has_right (bytes16 (n / 65536)) (bytes16 (n % 65536)) (at + 2) refl h) in
      omega arith

  pub has-word64 : (at n : ℕ) → Has file at (bytes64 n) → word64 file at ≡ n
  unfolding bytes64 bytes32 bytes16 word64
  has-word64 at n h =
      let first = has-word32 at (n / 4294967296) (has_left (bytes32 (n / 4294967296)) (bytes32 (n % 4294967296)) h) in
      let second = has-word32 (at + 4) (n % 4294967296) (has_right (bytes32 (n / 4294967296)) (bytes32 (n % 4294967296)) (at + 4) refl h) in
      omega arith

  module _ (tag : ℕ) (payload : List ℕ) {at : ℕ} (h : Has file at (field tag payload)) where
    pub field-size : word16 file (at + 1) ≡ length payload
    unfolding field
    field-size =
        has-word16 (at + 1) (length payload)
        (has_left (bytes16 (length payload)) payload (has_right (tag ∷ []) (bytes16 (length payload) ++ payload) (at + 1) refl h))

    pub field-payload : Has file (at + 3) payload
    unfolding field bytes16
    field-payload = has_right (tag ∷ bytes16 (length payload)) payload (at + 3) refl h

    pub field-there : field_at file tag (length payload) at ≡ true
    unfolding field_at field
    field-there =
        let whole = has-ends (field tag payload) (omega (arith, field-length tag payload)) h in
        rw (
          le-leb (at + 3 + length payload) (length file) (omega (arith, field-length tag payload)),
          eq-eqb (byte file at) tag (has-byte tag (bytes16 (length payload) ++ payload) h),
          eq-eqb (word16 file (at + 1)) (length payload) field-size,
        )
        refl
