-- Laws that Theorems/Sound rests on.
use Rattle.std.specs.Prelude.{◌≡◌, refl, Bool, true, false, List, [], ◌∷◌, ◌++◌, ℕ}
use Rattle.std.proofs.Common.{sym, subst, append-nil}
use Rattle.prelude.specs.Laws.Bools.{unlike}
use Rattle.prelude.specs.Pick.{pick}
use Rattle.record_lines.specs.Items.{Item, gives, passes, ends, bad, Format}
use Rattle.record_lines.specs.Pieces.{Piece, piece}
use Rattle.record_scan.specs.Reading.{Read, sound, faulty, later, fine, is_none, go_on, read_from}
use Rattle.record_scan.specs.Sound.{Fine, more}

earlier : (r : Read) (l : List Piece) → later r ≡ sound l → r ≡ sound l
earlier (sound m) l e = e
earlier (faulty n) l e = unlike cc

module _ (load : ℕ) (given l : List Piece) (last : Bool) (rest : ℕ → List Piece → Read)
    (goes : (s : ℕ) (g : List Piece) → Fine load g → rest s g ≡ sound l → Fine load l) where
  piece-step : (t : Bool) (p : Piece) (s : ℕ) → Fine load given → fine load given (p ∷ []) ≡ t
      → pick t (later (rest s (given ++ (p ∷ [])))) (faulty 0) ≡ sound l → Fine load l
  piece-step true p s f e r = goes s (given ++ (p ∷ [])) (more given p f e) (earlier (rest s (given ++ (p ∷ []))) l r)
  piece-step false p s f e r = unlike cc

  end_step : (t : Bool) → Fine load given → pick t (sound given) (faulty 1) ≡ sound l → Fine load l
  end_step true f r = let same : given ≡ l = cc in subst (Fine load) same f
  end_step false f r = unlike cc

  item-step : (i : Item) → Fine load given → go_on load given last rest i ≡ sound l → Fine load l
  item-step (gives a [] s) f r = goes s (given ++ []) (subst (Fine load) (sym (append-nil given)) f) (earlier (rest s (given ++ [])) l r)
  item-step (gives a (b ∷ m) s) f r = piece-step (fine load given (piece a (b ∷ m) ∷ [])) (piece a (b ∷ m)) s f refl r
  item-step (passes s) f r = goes s given f (earlier (rest s given) l r)
  item-step ends f r = end_step last f r
  item-step bad f r = unlike cc

pub fine-from : (f : Format) (load : ℕ) (l : List Piece) (ls : List (List ℕ)) (state : ℕ) (given : List Piece) → Fine load given
    → read_from f load ls state given ≡ sound l
    → Fine load l
unfolding read_from
fine-from f load l [] state given p r = unlike cc
fine-from f load l (m ∷ ls) state given p r = item-step load given l (is_none ls) (read_from f load ls) (fine-from f load l ls) (f state m) p r
