-- What a line that was read gives, by its address and its count.
use mathlib.Core.Path.{◌≡◌, refl, sym, ap, ap₂, subst, ◌∙◌}
use mathlib.Core.Bool.{Bool, true, false, ◌&&◌, ◌||◌}
use mathlib.Core.List.{List, [], ◌∷◌, ◌++◌}
use Prim.Native.Nat.{ℕ, suc, ◌+◌, ◌-◌, ◌≤◌, ◌<◌}
use native.Mathlib.Decide.{dec_lt, dec_le}
use native.Mathlib.Omega.{arith}
use borrow.Author.Tests.{le-leb, lt-leb, lt-ltb, le-ltb, leb-true}
use lib.Dec.{leb, ltb}
use lib.ListN.{length}
use Rattle.prelude.specs.Laws.Bools.{either}
use Rattle.bitvec.specs.Lists.{list_of}
use Rattle.record_lines.specs.Digits.{bytes_at}
use Rattle.record_lines.specs.Items.{Item, gives, passes, ends, bad, as_line, item_of, Says}
use Rattle.record_lines.specs.Pieces.{Piece, piece}
use Rattle.record_lines.specs.declared.Line.{Line}
use Rattle.record_scan.specs.Reading.{new_pieces, is_new}
use Rattle.record_scan.specs.Steps.{highest}
use Rattle.record_read.specs.Given.{given, filled}
use Rattle.record_read.specs.Laws.GivenLaws.{given-append, byte-behind, byte-before}
use Rattle.record_read.specs.Theorems.GivenLaws.{filled_is, filled_none}
use Rattle.record_read.specs.Runs.{is_given}
use Rattle.record_read.specs.Steps.{in_run, extent_of}

or-false : (b : Bool) → (b || false) ≡ b
or-false true = refl
or-false false = refl

-- An empty stretch has nothing.
none_in : (a x : ℕ) → (leb a x && ltb x (a + 0)) ≡ false
none_in a x =
    elim (dec_lt x a) [
      | yes p ↦ rw (lt-leb a x p)
      | no p ↦ rw (le-leb a x (omega arith), le-ltb x (a + 0) (omega arith))
    ]

gives' : (s f x : ℕ) (i : Item) → given (new_pieces i) x ≡ (leb (as_line s f i).address x && ltb x ((as_line s f i).address + (as_line s f i).count))
unfolding given
gives' s f x (gives a [] t) = sym (none_in a x)
gives' s f x (gives a (b ∷ l) t) = or-false (leb a x && ltb x (a + suc (length l)))
gives' s f x (passes t) = sym (none_in 0 x)
gives' s f x ends = sym (none_in 0 x)
gives' s f x bad = sym (none_in 0 x)

high' : (s f : ℕ) (i : Item) → (0 < (as_line s f i).count → highest (new_pieces i) ≡ (as_line s f i).address + (as_line s f i).count)
    × ((as_line s f i).count ≡ 0 → highest (new_pieces i) ≡ 0)
unfolding highest
high' s f (gives a [] t) = (λ h. absurd (omega arith), λ e. refl)
high' s f (gives a (b ∷ l) t) = (λ h. omega arith, λ e. absurd (omega arith))
high' s f (passes t) = (λ h. absurd (omega arith), λ e. refl)
high' s f ends = (λ h. absurd (omega arith), λ e. refl)
high' s f bad = (λ h. absurd (omega arith), λ e. refl)

above' : (s f h : ℕ) (i : Item) → is_new (new_pieces i) 0 h ≡ true → 0 < (as_line s f i).count → h ≤ (as_line s f i).address
unfolding is_new
above' s f h (gives a [] t) e k = absurd (omega arith)
above' s f h (gives a (b ∷ l) t) e k =
    let none : leb (a + suc (length l)) 0 ≡ false = lt-leb (a + suc (length l)) 0 (omega arith) in
    let some : (leb h a && true) ≡ true = rw none at e in
    either (leb h a) (λ p. leb-true h a p) (λ p. let z : ◌≡◌ {A = Bool} false true = rw p at some in absurd (Rattle.prelude.specs.Laws.Bools.clash z refl))
above' s f h (passes t) e k = absurd (omega arith)
above' s f h ends e k = absurd (omega arith)
above' s f h bad e k = absurd (omega arith)

bytes' : (line : List ℕ) (r : Line) (a t : ℕ) (l : List ℕ) → r.kind ≡ 1 → item_of line r ≡ gives a l t → bytes_at line r.first r.count ≡ l
bytes' line r a t l k e =
    let same : gives r.address (bytes_at line r.first r.count) r.state ≡ gives a l t = rw k at e in
    cc

filled' : (load : ℕ) (line : List ℕ) (s f : ℕ) (r : Line) (i : Item) (old : List ℕ) → r ≡ as_line s f i → item_of line r ≡ i
    → filled load (piece r.address (bytes_at line r.first r.count) ∷ []) old ≡ filled load (new_pieces i) old
unfolding list_of
filled' load line s f r i old e g = go i e g
  where
    none : (a : ℕ) → filled load (piece a [] ∷ []) old ≡ filled load [] old
    none a = sym (filled_is load (piece a [] ∷ []) old (filled load [] old)
        (ap length (sym (filled_none load old)))
        (λ j h. ap (λ (l : List ℕ). lib.ListN.get_or l j 0) (sym (filled_none load old))
        ∙ sym (elim (dec_lt (load + j) a) [
          | yes p ↦ byte-before a [] (load + j) (lib.ListN.get_or old j 0) p
          | no p ↦ byte-behind a [] (load + j) (lib.ListN.get_or old j 0) (omega arith)
        ])))

    empty : r.count ≡ 0 → filled load (piece r.address (bytes_at line r.first r.count) ∷ []) old ≡ filled load [] old
    empty c = rw c (none r.address)

    go : (i : Item) → r ≡ as_line s f i → item_of line r ≡ i
        → filled load (piece r.address (bytes_at line r.first r.count) ∷ []) old ≡ filled load (new_pieces i) old
    go (gives a [] t) e g = empty (ap (λ (x : Line). x.count) e)
    go (gives a (b ∷ l) t) e g =
        ap₂ (λ (x : ℕ) (m : List ℕ). filled load (piece x m ∷ []) old) (ap (λ (x : Line). x.address) e)
        (bytes' line r a t (b ∷ l) (ap (λ (x : Line). x.kind) e) g)
    go (passes t) e g = empty (ap (λ (x : Line). x.count) e)
    go ends e g = empty (ap (λ (x : Line). x.count) e)
    go bad e g = empty (ap (λ (x : Line). x.count) e)

module _ {line : List ℕ} {s f : ℕ} {r : Line} {i : Item} (p : Says line s f r i) where
  pub line_gives : (x : ℕ) → given (new_pieces i) x ≡ (leb r.address x && ltb x (r.address + r.count))
  line_gives x = gives' s f x i ∙ ap (λ (y : Line). leb y.address x && ltb x (y.address + y.count)) (sym p.answer)

  pub line-high : 0 < r.count → highest (new_pieces i) ≡ r.address + r.count
  line-high h =
      (high' s f i).0 (subst (λ (y : Line). 0 < y.count) p.answer h) ∙ ap (λ (y : Line). y.address + y.count) (sym p.answer)

  pub line-none : r.count ≡ 0 → highest (new_pieces i) ≡ 0
  line-none h = (high' s f i).1 (subst (λ (y : Line). y.count ≡ 0) p.answer h)

  pub line-above : (h : ℕ) → is_new (new_pieces i) 0 h ≡ true → 0 < r.count → h ≤ r.address
  line-above h e k =
      subst (λ (y : Line). h ≤ y.address) (sym p.answer) (above' s f h i e (subst (λ (y : Line). 0 < y.count) p.answer k))

  pub line-fills : (load : ℕ) (old : List ℕ) → filled load (piece r.address (bytes_at line r.first r.count) ∷ []) old ≡ filled load (new_pieces i) old
  line-fills load old = filled' load line s f r i old p.answer p.says

  -- counted from the load address
  pub extent-gives : (load x : ℕ) → is_given load (new_pieces i) x ≡ in_run (extent_of r.address r.count load) x
  extent-gives load x = line_gives (load + x) ∙ ap₂ ◌&&◌ (low r.address) (high (r.address + r.count))
    where
      low : (a : ℕ) → leb a (load + x) ≡ leb (a - load) x
      low a =
          elim (dec_le a (load + x)) [
            | yes h ↦ le-leb a (load + x) h ∙ sym (le-leb (a - load) x (omega arith))
            | no h ↦ lt-leb a (load + x) (omega arith) ∙ sym (lt-leb (a - load) x (omega arith))
          ]

      high : (b : ℕ) → ltb (load + x) b ≡ ltb x (b - load)
      high b =
          elim (dec_lt (load + x) b) [
            | yes h ↦ lt-ltb (load + x) b h ∙ sym (lt-ltb x (b - load) (omega arith))
            | no h ↦ le-ltb (load + x) b (omega arith) ∙ sym (le-ltb x (b - load) (omega arith))
          ]

  pub given-more : (load : ℕ) (l : List Piece) (x : ℕ)
      → is_given load (l ++ new_pieces i) x ≡ (is_given load l x || in_run (extent_of r.address r.count load) x)
  given-more load l x = given-append l (new_pieces i) (load + x) ∙ ap (λ (b : Bool). is_given load l x || b) (extent-gives load x)
