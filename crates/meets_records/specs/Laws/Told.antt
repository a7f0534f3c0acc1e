-- What the lines of a file say one after the other, and what the definition reads of them: the same, whatever the format.
use Rattle.std.specs.Prelude.{◌≡◌, Bool, false, ℕ, take}
use Rattle.std.proofs.Math.Path.{refl, ap}
use Rattle.std.proofs.Common.{sym, ◌∙◌, subst}
use Rattle.std.proofs.Math.Bool.{true}
use mathlib.Core.List.{List, [], ◌∷◌, ◌++◌, append-nil, append_assoc}
use Rattle.prelude.specs.Laws.Bools.{unlike}
use Rattle.prelude.specs.Pick.{pick}
use Rattle.record_lines.specs.Items.{Item, gives, passes, ends, bad, Format}
use Rattle.record_lines.specs.Pieces.{Piece, piece}
use Rattle.record_lines.specs.Telling.{Tells, closes, skips, tells}
use Rattle.record_scan.specs.Reading.{Read, sound, faulty, later, new_pieces, fine, is_none, go_on, read_from}
use Rattle.meets_records.specs.Laws.Faults.{later-fault}
use Rattle.meets_records.specs.Laws.Sits.{new_of, solid, new_is, Sits}

module _ (f : Format) (load : ℕ) where
  -- ---- lines that say pieces are read as those
  giving-on : (given : List Piece) (last : Bool) (rest : ℕ → List Piece → Read) (p : Piece) (after : ℕ) → fine load given (new_of p) ≡ true
      → go_on load given last rest (gives p.address p.bytes after) ≡ later (rest after (given ++ new_of p))
  giving-on given last rest p after ok = rw (new_is p.address p.bytes after, ok)

  pub told-sound : {st : ℕ} {ls : List (List ℕ)} {ps : List Piece} → Tells f st ls ps → (given : List Piece) → Sits load given ps
      → read_from f load ls st given ≡ sound (given ++ solid ps)
  unfolding read_from
  told-sound (closes {line = line} e) given x = ap (go_on load given true (read_from f load [])) e ∙ ap sound (sym (append-nil given))
  told-sound (skips {lines = ls} e t) given x = ap (go_on load given (is_none ls) (read_from f load ls)) e ∙ ap later (told-sound t given x)
  told-sound (tells {after = after} {lines = ls} {p = p} {l = ps} e t) given x =
      ap (go_on load given (is_none ls) (read_from f load ls)) e ∙ giving-on given (is_none ls) (read_from f load ls) p after x.0
      ∙ ap later (told-sound t (given ++ new_of p) x.1) ∙ ap sound (append_assoc given (new_of p) (solid ps))

  -- ---- and what is read was said
  abbrev pub Whole : ℕ → List (List ℕ) → List Piece → List Piece → Type 0
  Whole st ls given out = (ps : List Piece) × Tells f st ls ps × Sits load given ps × (out ≡ given ++ solid ps)

  earlier : (x : Read) (l : List Piece) → later x ≡ sound l → x ≡ sound l
  earlier (sound m) l e = e
  earlier (faulty n) l e = unlike cc

  module _ (l : List ℕ) (ls : List (List ℕ)) (st : ℕ) (given out : List Piece)
      (rest : (v : ℕ) (g : List Piece) → read_from f load ls v g ≡ sound out → Whole v ls g out) where
    whole-end : (ms : List (List ℕ)) → ls ≡ ms → f st l ≡ ends → pick (is_none ms) (sound given) (faulty 1) ≡ sound out → Whole st (l ∷ ls) given out
    whole-end [] same c e =
        let is : out ≡ given = cc in
        subst (λ (k : List (List ℕ)). Whole st (l ∷ k) given out) (sym same) ([], closes c, tt, is ∙ sym (append-nil given))
    whole-end (m ∷ ms) same c e = unlike cc

    whole-piece : (a : ℕ) (b : List ℕ) (after : ℕ) → f st l ≡ gives a b after → (t : Bool) → fine load given (new_pieces (gives a b after)) ≡ t
        → pick t (later (read_from f load ls after (given ++ new_pieces (gives a b after)))) (faulty 0) ≡ sound out → Whole st (l ∷ ls) given out
    whole-piece a b after c false g q = unlike cc
    whole-piece a b after c true g q =
        let p = piece a b in
        let new : new_pieces (gives a b after) ≡ new_of p = new_is a b after in
        let k = earlier (read_from f load ls after (given ++ new_pieces (gives a b after))) out q in
        let m = rest after (given ++ new_of p) (subst (λ (n : List Piece). read_from f load ls after (given ++ n) ≡ sound out) new k) in (
          p ∷ m.0,
          tells {p = p} c m.1,
          (subst (λ (n : List Piece). fine load given n ≡ true) new g, m.2),
          m.3 ∙ append_assoc given (new_of p) (solid m.0),
        )

    whole_by : (x : Item) → f st l ≡ x → go_on load given (is_none ls) (read_from f load ls) x ≡ sound out → Whole st (l ∷ ls) given out
    whole_by bad c h = unlike cc
    whole_by ends c h = whole-end ls refl c h
    whole_by (passes after) c h =
        let m = rest after given (earlier (read_from f load ls after given) out h) in
        (m.0, skips c m.1, m.2, m.3)
    whole_by (gives a b after) c h = whole-piece a b after c (fine load given (new_pieces (gives a b after))) refl h

  pub sound-told : (ls : List (List ℕ)) (st : ℕ) (given out : List Piece) → read_from f load ls st given ≡ sound out → Whole st ls given out
  unfolding read_from
  sound-told [] st given out e = unlike cc
  sound-told (l ∷ ls) st given out e = whole_by l ls st given out (λ v g h. sound-told ls v g out h) (f st l) refl e

  -- ---- before a fault some good file goes on, where the format can end a file in each state that comes
  abbrev pub Reaches : ℕ → ℕ → List (List ℕ) → List Piece → Type 0
  Reaches st i ls given = (ms : List (List ℕ)) × (ps : List Piece) × Tells f st ms ps × Sits load given ps × (take i ms ≡ take i ls)

  zero_of : (i : ℕ) → faulty 0 ≡ faulty i → i ≡ 0
  zero_of i e = cc

  module _ (Comes : ℕ → Type 0) (closing : (st : ℕ) → Comes st → (l : List ℕ) × (f st l ≡ ends))
      (given-on : (st : ℕ) (l : List ℕ) (a : ℕ) (b : List ℕ) (after : ℕ) → Comes st → f st l ≡ gives a b after → Comes after)
      (passed_on : (st : ℕ) (l : List ℕ) (after : ℕ) → Comes st → f st l ≡ passes after → Comes after) where
    at_once : (st : ℕ) (ls : List (List ℕ)) (given : List Piece) → Comes st → Reaches st 0 ls given
    at_once st ls given o = let c = closing st o in (c.0 ∷ [], [], closes c.1, tt, refl)

    module _ (l : List ℕ) (ls : List (List ℕ)) (st i : ℕ) (given : List Piece) (o : Comes st)
        (rest : (v j : ℕ) (g : List Piece) → Comes v → read_from f load ls v g ≡ faulty j → Reaches v j ls g) where
      ending : (t : Bool) → f st l ≡ ends → pick t (sound given) (faulty 1) ≡ faulty i → Reaches st i (l ∷ ls) given
      ending true c e = unlike cc
      ending false c e = let one : i ≡ 1 = cc in rw one (l ∷ [], [], closes c, tt, refl)

      giving : (a : ℕ) (b : List ℕ) (after : ℕ) → f st l ≡ gives a b after → (t : Bool) → fine load given (new_pieces (gives a b after)) ≡ t
          → pick t (later (read_from f load ls after (given ++ new_pieces (gives a b after)))) (faulty 0) ≡ faulty i → Reaches st i (l ∷ ls) given
      giving a b after c false g q = rw (zero_of i q) (at_once st (l ∷ ls) given o)
      giving a b after c true g q =
          let p = piece a b in
          let new : new_pieces (gives a b after) ≡ new_of p = new_is a b after in
          let k = later-fault (read_from f load ls after (given ++ new_pieces (gives a b after))) i q in
          let m = rest after k.0 (given ++ new_of p) (given-on st l a b after o c)
          (subst (λ (n : List Piece). read_from f load ls after (given ++ n) ≡ faulty k.0) new k.2) in
          rw k.1 (
            l ∷ m.0,
            p ∷ m.1,
            tells {p = p} c m.2,
            (subst (λ (n : List Piece). fine load given n ≡ true) new g, m.3),
            ap (λ (y : List (List ℕ)). l ∷ y) m.4,
          )

      by : (x : Item) → f st l ≡ x → go_on load given (is_none ls) (read_from f load ls) x ≡ faulty i → Reaches st i (l ∷ ls) given
      by bad c h = rw (zero_of i h) (at_once st (l ∷ ls) given o)
      by ends c h = ending (is_none ls) c h
      by (passes after) c h =
          let k = later-fault (read_from f load ls after given) i h in
          let m = rest after k.0 given (passed_on st l after o c) k.2 in
          rw k.1 (l ∷ m.0, m.1, skips c m.2, m.3, ap (λ (y : List (List ℕ)). l ∷ y) m.4)
      by (gives a b after) c h = giving a b after c (fine load given (new_pieces (gives a b after))) refl h

    pub fault-told : (ls : List (List ℕ)) (st i : ℕ) (given : List Piece) → Comes st → read_from f load ls st given ≡ faulty i → Reaches st i ls given
    unfolding read_from
    fault-told [] st i given o e = rw (zero_of i e) (at_once st [] given o)
    fault-told (l ∷ ls) st i given o e = by l ls st i given o (λ v j g p h. fault-told ls v j g p h) (f st l) refl e
