-- The lines of the sentences are those of the definitions, and there is one of each.
use Rattle.std.specs.Prelude.{◌≡◌, ℕ, ◌+◌, ◌*◌, ◌/◌, ◌%◌, ◌<◌}
use Rattle.std.proofs.Math.Path.{refl, ap}
use Rattle.std.proofs.Common.{sym, ap₂, subst, ◌∙◌, arith}
use mathlib.Core.List.{List, [], ◌∷◌, ◌++◌, map}
use Rattle.std.proofs.Math.ListN.{length}
use Rattle.bitvec.specs.HexDigits.{hex_of}
use Rattle.bitvec.specs.Theorems.HexDigits.{length-hex_of}
use Rattle.blocks.specs.declared.Block.{Block}
use Rattle.blocks.specs.Outcome.{origins, sizes}
use Rattle.print_text.specs.Ascii.{ascii}
use Rattle.print_text.specs.Decimal.{decimal, digit}
use Rattle.print_text.specs.Laws.Decimal.{by-tens, decimal-few}
use Rattle.print_text.proofs.Decimal.{decimal-more}
use Rattle.print_text.specs.Lines.{spaced, line, blocks_text, image_text}
use Rattle.says.specs.Blocks.{Block as Run}
use Rattle.says.specs.Lines as says
use Rattle.says.specs.Lines.{Decimal, Spaced, Line}
use Rattle.says.specs.Report as report
use Rattle.says.specs.Report.{BlockLines, ImageLine}
use Rattle.meets.specs.Laws.Words.{OneOnly}
use Rattle.meets.specs.Theorems.Blocks.{run}
use Rattle.meets_bits.specs.Theorems.Hex.{text-one, text-meets}

-- ---- numbers

pub decimal-is : {n : ℕ} {t : List ℕ} → Decimal n t → t ≡ decimal n
decimal-is (says.digit {d} h) = sym (decimal-few d h)
decimal-is (says.more {n} {d} {t} some s h) =
    let tenth : (10 * n + d) / 10 ≡ n = omega arith in
    let last : (10 * n + d) % 10 ≡ d = omega arith in
    ap (λ (l : List ℕ). l ++ ((48 + d) ∷ [])) (decimal-is s)
    ∙ sym (decimal-more (10 * n + d) (omega arith) ∙ ap₂ (λ (m e : ℕ). decimal m ++ (digit e ∷ [])) tenth last)

pub decimal-meets : (n : ℕ) → Decimal n (decimal n)
decimal-meets =
    by-tens (λ (n : ℕ). Decimal n (decimal n))
    (λ n h. rw (decimal-few n h) (says.digit h))
    (λ n h ih.
    let whole : 10 * (n / 10) + n % 10 ≡ n = omega arith in
    rw (decimal-more n h)
    (subst (λ (m : ℕ). Decimal m (decimal (n / 10) ++ ((48 + n % 10) ∷ []))) whole (says.more (omega arith) ih (omega arith))))

-- ---- lines

pub spaced-is : {ns t : List ℕ} → Spaced ns t → t ≡ spaced ns
unfolding spaced
spaced-is says.end = refl
spaced-is (says.next h s) = ap₂ (λ (d t : List ℕ). ascii " " ++ d ++ t) (decimal-is h) (spaced-is s)

pub spaced-meets : (ns : List ℕ) → Spaced ns (spaced ns)
unfolding spaced
spaced-meets [] = says.end
spaced-meets (n ∷ ns) = says.next (decimal-meets n) (spaced-meets ns)

line-is : {word ns t : List ℕ} → Line word ns t → t ≡ line word ns
line-is {word} (says.ended s) = ap (λ (t : List ℕ). word ++ t ++ ascii "\n") (spaced-is s)

pub line-one : (word ns : List ℕ) → OneOnly (Line word ns)
line-one word ns t u a b = line-is a ∙ sym (line-is b)

pub line-meets : (word ns : List ℕ) → Line word ns (line word ns)
line-meets word ns = says.ended (spaced-meets ns)

-- ---- blocks

pub blocks-one : {b : List Run} {t u : List ℕ} → BlockLines b t → BlockLines b u → t ≡ u
blocks-one report.none report.none = refl
blocks-one (report.next l s) (report.next m r) = ap₂ (λ (a c : List ℕ). a ++ c) (line-is l ∙ sym (line-is m)) (blocks-one s r)

pub blocks-meet : (b : List Block) → BlockLines (map run b) (blocks_text (length b) (origins b) (sizes b))
unfolding blocks_text
blocks-meet [] = report.none
blocks-meet (x ∷ b) = report.next (line-meets (ascii "block") (x.origin ∷ x.size ∷ [])) (blocks-meet b)

-- ---- the image

module _ (bytes : List ℕ) (bits : ℕ) where
  pub image-one : OneOnly (ImageLine bytes bits)
  image-one t u (report.empty a) (report.empty b) = refl
  image-one t u (report.empty a) (report.digits b d) = absurd (omega arith)
  image-one t u (report.digits a d) (report.empty b) = absurd (omega arith)
  image-one t u (report.digits {d = c} a x) (report.digits {d = e} b y) =
      ap (λ (d : List ℕ). ascii "image " ++ d ++ ascii "\n") (text-one bytes bits c e x y)

  pub image-by : (d : List ℕ) → hex_of bytes bits ≡ d → ImageLine bytes bits (image_text d)
  unfolding image_text
  image-by [] e = report.empty (omega (arith, length-hex_of bytes bits, ap length e))
  image-by (c ∷ d) e = report.digits (omega (arith, length-hex_of bytes bits, ap length e)) (rw e at (text-meets bytes bits))

  pub image-meets : ImageLine bytes bits (image_text (hex_of bytes bits))
  image-meets = image-by (hex_of bytes bits) refl
