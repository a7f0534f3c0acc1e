-- The image's length: the fill's, inherited or full, bank by bank, and the furthest end of a written item.
use Rattle.std.specs.Prelude.{◌≡◌, Bool, true, false, ◌⊎◌, ℕ, zero, suc, ◌+◌, ◌-◌, ◌≤◌, ◌<◌, eqb, length, get_or, take, Some, Option}
use Rattle.std.proofs.Math.Path.{refl}
use Rattle.std.proofs.Common.{sym, ap, subst, ◌∙◌, inl, inr, ⊎_elim, arith, eq-eqb, ne_eqb, eqb-true, length-take, get_or-take, take-suc, take_all}
use mathlib.Core.List.{List, [], ◌∷◌, ◌++◌, Memᴰ}
use Rattle.std.proofs.lemmas.Bool.{eqb-false}
use Rattle.prelude.specs.Laws.Bools.{either}
use Rattle.prelude.specs.Pick.{pick}
use Rattle.bankdef.specs.Check.{no_bank, banks_of}
use Rattle.bankdef.specs.Fill.{fill_from, fill_length, full_length, fill_by}
use Rattle.bankdef.specs.FillFacts as facts
use Rattle.bankdef.specs.FillFacts.{Fills, after_bank}
use Rattle.bankdef.specs.Theorems.FillFacts.{filled-by, fill-in-order}
use Rattle.bankdef.specs.Theorems.FullFill.{full-reaches, full-ends}
use Rattle.bankdef.specs.FullFill.{FullEnd}
use Rattle.bankdef.specs.Numbers.{is_zero, SoundBank}
use Rattle.bankdef.specs.Theorems.Refused.{accepted}
use Rattle.bankdef.specs.declared.Bankdef.{Bankdef}
use Rattle.nodes.specs.Theorems.Sound.{accepted-lists}
use Rattle.resolver.specs.Layout.{Checked}
use Rattle.resolver.specs.Once.{bank_record}
use Rattle.build_visits.specs.Laws.ItemLaws.{fill-within, end-within}
use Rattle.build_visits.specs.Theorems.ItemLaws.{length-is-one}
use Rattle.build_visits.specs.Items.{Item, end_of, length_of}
use Rattle.says.specs.Build as says
use Rattle.says.specs.Build.{Given, banks, nodes, Filled, Size, Offset, FilledRange, Inherited, Reaches, Length, IsWritten, Offer}
use Rattle.meets_sentences.specs.Laws.One.{inherited-one}
use Rattle.meets_build.specs.Laws.Shown.{Shown, Tells, listed}
use Rattle.meets_build.specs.Laws.Table.{table}
use Rattle.meets_build.specs.Laws.Walk.{Goes}
use Rattle.meets_build.specs.Laws.Items.{item_at, items, item-member, member-item}

module _ (g : Given) (shown : Shown g (table g)) (ck : Checked (table g) (listed g) g.fill) where
  abbrev l : List Bankdef
  l = banks_of (table g)

  pub listed-banks : length l ≡ banks g
  listed-banks = let e = length-take (table g).len (table g).defs in omega (arith, shown.whole, shown.count)

  tells : (b : ℕ) → b < banks g → Tells g b (get_or l b no_bank)
  tells b h = shown.tells b (omega (arith, shown.count))

  sound : (b : ℕ) → b < banks g → SoundBank (get_or l b no_bank)
  sound b h =
      let low : b < (table g).len = omega (arith, shown.count) in
      subst SoundBank (sym (get_or-take (table g).len (table g).defs b no_bank low))
      ((accepted (table g) ck.table).each b low (omega (arith, shown.whole)))

  -- "a filled bank has size 0" is refused before
  some_bits : (b : ℕ) → b < banks g → (m : ℕ) → (get_or l b no_bank).fill ≡ true → (get_or l b no_bank).size ≡ Some m → 0 < m
  some_bits b h m f s =
      let z : is_zero (Some m) ≡ false = subst (λ (o : Option ℕ). is_zero o ≡ false) s ((sound b h).filled f) in
      let n = eqb-false m 0 z in
      omega arith

  -- a bank with fill, size and offset, in the definitions
  fills : (b : ℕ) → b < banks g → {m o : ℕ} → Filled g b → Size g b m → Offset g b o → Fills (get_or l b no_bank) (o + m - 1)
  fills b h {m} {o} f s p =
      record {
        fill = (tells b h).has-fill f;
        bits = m;
        from = o;
        size = (tells b h).has-size m s;
        offset = (tells b h).has-offset o p;
        last = refl;
      }

  -- "if the image length is below h, it becomes h + 1"
  over-bank : (b : ℕ) → b < banks g → {n m : ℕ} → facts.Filled (get_or l b no_bank) n m → Inherited g b n → Inherited g (suc b) m
  over-bank b lt (facts.raises h f low) i =
      says.raised {h = h} i ((tells b lt).filled f.fill, (tells b lt).sized f.bits f.size, (tells b lt).placed f.from f.offset)
      (omega (arith, f.last, some_bits b lt f.bits f.fill f.size)) low
  over-bank b lt (facts.enough h f high) i =
      says.reached {h = h} i ((tells b lt).filled f.fill, (tells b lt).sized f.bits f.size, (tells b lt).placed f.from f.offset)
      (omega (arith, f.last, some_bits b lt f.bits f.fill f.size)) high
  over-bank b lt (facts.without no-fill) i = says.not-filled i (λ o m t. no-fill (o + m - 1) (fills b lt t.0 t.1 t.2))

  no-bank : fill_from 0 [] ≡ 0
  unfolding fill_from
  no-bank = refl

  one-bank : (n : ℕ) (b : Bankdef) → fill_from n (b ∷ []) ≡ after_bank b n
  unfolding fill_from
  one-bank n b = refl

  inherited-to : (b : ℕ) → b ≤ banks g → Inherited g b (fill_from 0 (take b l))
  inherited-to zero h = subst (Inherited g 0) (sym no-bank) says.no-bank-yet
  inherited-to (suc b) h =
      let before = fill_from 0 (take b l) in
      let next : fill_from 0 (take (suc b) l) ≡ after_bank (get_or l b no_bank) before = ap (fill_from 0) (take-suc l b no_bank (omega (arith, listed-banks)))
      ∙ fill-in-order 0 (take b l) (get_or l b no_bank ∷ []) ∙ one-bank before (get_or l b no_bank) in
      subst (Inherited g (suc b)) (sym next) (over-bank b h (filled-by (get_or l b no_bank) before) (inherited-to b (omega arith)))

  -- "inherited fill .. or full fill", by the choice
  full_is : g.fill ≡ 1 → fill_by g.fill l ≡ full_length l
  full_is e = rw (eq-eqb g.fill 1 e)

  inherited-is : g.fill ≡ 0 → fill_by g.fill l ≡ fill_length l
  inherited-is e = rw (ne_eqb g.fill 1 (λ f. omega arith))

  whole : Inherited g (banks g) (fill_length l)
  whole =
      subst (λ (x : List Bankdef). Inherited g (banks g) (fill_from 0 x)) (take_all (banks g) l (omega (arith, listed-banks)))
      (inherited-to (banks g) (omega arith))

  -- Ticket 8: "the largest offset + size among banks with fill, size and offset, or 0"
  full-reached : (r : ℕ) → g.fill ≡ 1 → Reaches g r (full_length l)
  full-reached r one = ⊎_elim (λ (e : full_length l ≡ 0). subst (Reaches g r) (sym e) says.nothing) some (full-ends l)
    where
      some : FullEnd l (full_length l) → Reaches g r (full_length l)
      some (b, h, lt, s, e) =
          let low : b < banks g = omega (arith, listed-banks) in
          subst (Reaches g r) (sym e)
          (says.full one low ((tells b low).filled s.fill, (tells b low).sized s.bits s.size, (tells b low).placed s.from s.offset))

  fill-reached : (r : ℕ) → Reaches g r (fill_by g.fill l)
  fill-reached r =
      either (eqb g.fill 1)
      (λ t. let one = eqb-true g.fill 1 t in subst (Reaches g r) (sym (full_is one)) (full-reached r one))
      (λ t.
      let n = eqb-false g.fill 1 t in
      let none : g.fill ≡ 0 = omega (arith, (accepted-lists (table g).len (listed g) g.fill ck.lists).choice) in
      subst (Reaches g r) (sym (inherited-is none)) (says.inherited none whole))

  full-within : {b o m : ℕ} → b < banks g → FilledRange g b o m → o + m ≤ full_length l
  unfolding fills
  full-within {b} {o} {m} lt (f, s, p) = full-reaches l b (o + m - 1) (omega (arith, listed-banks)) (fills b lt f s p)

  module _ (r : ℕ) (all : Goes g (table g) shown ck r (nodes g)) where
    abbrev pub image_bits : ℕ
    image_bits = length_of (fill_by g.fill l) (items g (table g) shown ck r all)

    reaches-within : (e : ℕ) → Reaches g r e → e ≤ image_bits
    reaches-within e says.nothing = omega arith
    reaches-within e (says.inherited none i) =
        omega (arith, inherited-one g i whole, inherited-is none, fill-within (fill_by g.fill l) (items g (table g) shown ck r all))
    reaches-within e (says.full one lt range) =
        omega (arith, full-within lt range, full_is one, fill-within (fill_by g.fill l) (items g (table g) shown ck r all))
    reaches-within e (says.by-item {i = i} {x = x} {s = m} w o) =
        end-within (fill_by g.fill l) (item-member g (table g) shown ck r all (offered-listed o) w o)
      where
        offered-listed : {i x m : ℕ} → Offer g r i x m → i < nodes g
        offered-listed (says.offer h k l s f n) = h

    -- "the larger of the fill's and the furthest end of a written item"
    pub length_meets : Length g r image_bits
    length_meets = (
      ⊎_elim
          (λ (e : image_bits ≡ fill_by g.fill l). subst (Reaches g r) (sym e) (fill-reached r))
          (λ (e : (x : Item) × Memᴰ x (items g (table g) shown ck r all) × (image_bits ≡ end_of x)).
          let is = member-item g (table g) shown ck r all e.0 e.1 in
          subst (Reaches g r) (sym e.2) (says.by-item is.2.0 is.2.1))
          (length-is-one (fill_by g.fill l) (items g (table g) shown ck r all)),
      reaches-within,
    )
