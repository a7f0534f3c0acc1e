-- The lent bytes and blocks after a file is read: "exactly the bytes that the file gives change".
use Rattle.std.specs.Prelude.{◌≡◌, ◌&&◌, ℕ, ◌+◌, ◌-◌, ◌<◌, leb, length, get_or}
use Rattle.std.proofs.Common.{sym, ap, ◌∙◌, ⊎_elim, arith, leb-true, leb-false}
use mathlib.Core.List.Memᴰ
use mathlib.Core.List.{List, [], ◌∷◌}
use Rattle.prelude.specs.Laws.Bools.{either, clash, both}
use Rattle.record_lines.specs.Pieces.{Piece, end_of, GivesAt}
use Rattle.record_scan.specs.Reading.{is_new}
use Rattle.record_scan.specs.Sound.{Fine, none, more}
use Rattle.record_read.specs.Given.{byte_at}
use Rattle.record_read.specs.Laws.GivenLaws.{byte-append, byte-in, byte-before, byte-behind}
use Rattle.record_read.specs.Laws.Facts.{gives-given}
use Rattle.record_read.specs.Laws.ByteFacts.{new-outside}

-- Of pieces of which none gives a byte twice, each gives its own.
module _ (load : ℕ) where
  pub own-byte : {l : List Piece} → Fine load l → (a b old : ℕ) → GivesAt l a b → byte_at l a old ≡ b
  own-byte none a b old g = absurd (mathlib.Core.List.Memᴰ.not-nil g.among)
  own-byte (more l p f e) a b old g =
      let t = both (leb load p.address && leb (end_of p) 4294967296) (is_new l p.address (end_of p)) e in
      byte-append l (p ∷ []) a old
      ∙ ⊎_elim
      (λ m.
      let mine : GivesAt l a b = record { from = g.from; among = m; index = g.index; inside = g.inside; place = g.place; byte = g.byte } in
      let there = gives-given l a b mine in
      ap (byte_at (p ∷ []) a) (own-byte f a b old mine)
      ∙ either (leb p.address a)
      (λ q. either (leb (end_of p) a)
      (λ s. byte-behind p.address p.bytes a b (leb-true (end_of p) a s))
      (λ s. absurd (clash there (new-outside l p.address (end_of p) a t.1 (leb-true p.address a q) (leb-false (end_of p) a s)))))
      (λ q. byte-before p.address p.bytes a b (leb-false p.address a q)))
      (λ m.
      let same : g.from ≡ p = Memᴰ.eq_of_singleton m in
      let inside : g.index < length p.bytes = rw same at g.inside in
      let place : p.address + g.index ≡ a = rw same at g.place in
      let index : a - p.address ≡ g.index = omega arith in
      byte-in p.address p.bytes a (byte_at l a old) (omega arith) (omega arith) ∙ ap (λ (i : ℕ). get_or p.bytes i 0) index
      ∙ ap (λ (q : Piece). get_or q.bytes g.index 0) (sym same) ∙ g.byte)
      (Memᴰ.append_cases l g.among)
