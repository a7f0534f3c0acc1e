-- Laws of what pieces give.
use Rattle.std.specs.Prelude.{◌≡◌, ℕ, ◌+◌, ◌<◌, length, get_or}
use Rattle.std.proofs.Math.Path.{refl}
use Rattle.std.proofs.Common.{sym, ap, ◌∙◌, arith, ext_get_or}
use mathlib.Core.List.{List, [], ◌∷◌, ◌++◌}
use Rattle.bitvec.specs.Lists.{list_of}
use Rattle.bitvec.specs.Laws.Lists.{length-list_of, get_d-list_of}
use Rattle.record_lines.specs.Pieces.{Piece, piece}
use Rattle.record_read.specs.Given.{byte_at, filled}
use Rattle.record_read.specs.Laws.GivenLaws.{byte-append, byte_split}

-- ---- the lent bytes

-- a list that has n bytes, each told by its place
told_by : (n : ℕ) (f : ℕ → ℕ) (new : List ℕ) → length new ≡ n → ((j : ℕ) → j < n → get_or new j 0 ≡ f j) → new ≡ list_of n f
told_by n f new e g =
    ext_get_or 0 new (list_of n f) (e ∙ sym (length-list_of n f)) (λ j h. g j (omega arith) ∙ sym (get_d-list_of n f j (omega arith)))

module _ (load : ℕ) where
  pub filled-long : (l : List Piece) (old : List ℕ) → length (filled load l old) ≡ length old
  unfolding filled
  filled-long l old = length-list_of (length old) _

  -- byte j of the lent bytes afterwards
  pub filled_at : (l : List Piece) (old : List ℕ) (j : ℕ) → j < length old → get_or (filled load l old) j 0 ≡ byte_at l (load + j) (get_or old j 0)
  unfolding filled
  filled_at l old j h = get_d-list_of (length old) _ j h

  -- two lists of the lent length that have the same bytes
  pub filled_is : (l : List Piece) (old new : List ℕ) → length new ≡ length old
      → ((j : ℕ) → j < length old → get_or new j 0 ≡ byte_at l (load + j) (get_or old j 0)) → new ≡ filled load l old
  unfolding filled
  filled_is l old new e f = told_by (length old) _ new e f

  pub filled_none : (old : List ℕ) → old ≡ filled load [] old
  unfolding filled byte_at
  filled_none old = told_by (length old) _ old refl (λ j h. refl)

  pub filled-append : (l m : List Piece) (old : List ℕ) → filled load m (filled load l old) ≡ filled load (l ++ m) old
  unfolding filled
  filled-append l m old =
      told_by (length old) _ (filled load m (filled load l old)) (filled-long m (filled load l old) ∙ filled-long l old)
      (λ j h.
      get_d-list_of (length (filled load l old)) _ j (omega (arith, filled-long l old))
      ∙ ap (byte_at m (load + j)) (get_d-list_of (length old) _ j h)
      ∙ sym (byte-append l m (load + j) (get_or old j 0)))

pub filled-split : (load a : ℕ) (l m old : List ℕ)
    → filled load (piece (a + length l) m ∷ []) (filled load (piece a l ∷ []) old) ≡ filled load (piece a (l ++ m) ∷ []) old
unfolding filled
filled-split load a l m old =
    told_by (length old) _ (filled load (piece (a + length l) m ∷ []) (filled load (piece a l ∷ []) old))
    (filled-long load (piece (a + length l) m ∷ []) (filled load (piece a l ∷ []) old) ∙ filled-long load (piece a l ∷ []) old)
    (λ j h.
    get_d-list_of (length (filled load (piece a l ∷ []) old)) _ j (omega (arith, filled-long load (piece a l ∷ []) old))
    ∙ ap (byte_at (piece (a + length l) m ∷ []) (load + j)) (get_d-list_of (length old) _ j h)
    ∙ sym (byte_split a l m (load + j) (get_or old j 0)))
