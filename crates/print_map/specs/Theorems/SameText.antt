-- The same text, the same map: the lines of two texts that are equal stand one to one for the same banks, the same nodes, the same node at fault and the same
-- verdict. So what the program prints can be read back whole.
use Rattle.std.specs.Prelude.{◌≡◌, List, [], ◌∷◌, ◌++◌, ℕ, Option, Result, Err, Ok}
use Rattle.std.proofs.Math.Path.{refl}
use Rattle.std.proofs.Common.{sym, ap, ◌∙◌, append_assoc, arith}
use Rattle.prelude.specs.declared.Refusal.{Refusal}
use Rattle.form_fields.specs.Shape.{form_of}
use Rattle.form_fields.specs.declared.Shape.{Shape}
use Rattle.print_text.specs.Ascii.{ascii}
use Rattle.print_map.specs.Cells.{Cell, number, line_of}
use Rattle.print_map.specs.Text.{file_line, banks_text, nodes_text, fault_text, verdict_text, refused_text, text_by, map_text}
use Rattle.print_map.specs.SameText as w
use Rattle.print_map.specs.SameText.{Printed, Same, SameFiles, text_of, bank_lines, columns_of, address_at, printed_of}
use Rattle.print_map.specs.Laws.ReadBack.{same_head, line-then, cells_of, columns-told}
use Rattle.print_map.specs.Laws.SameText.{Apart, rows_of, rows_tell, apart-rows, bank_cells, banks-rows, nodes-rows, bank-told}
use Rattle.print_map.specs.Laws.SameText.{above-33, apart-end, end-told, refusal-told}

-- ---- the sections of a text

module _ (x : Printed) where
  abbrev banked : List ℕ
  banked = rows_of (ascii "bank") (bank_cells x.banks x.map.padding) (bank_lines x)

  abbrev noded : List ℕ
  noded = rows_of (ascii "node") (λ i. cells_of x.program.banks (columns_of x i)) x.map.nodes

  abbrev ending : List ℕ
  ending = fault_text x.map.fault ++ verdict_text x.map.verdict

  abbrev file_cells : List Cell
  file_cells =
      number x.shape.form ∷ number x.shape.limit ∷ number x.shape.rows ∷ number x.map.passes ∷ number x.shape.nodes ∷ []

  sections : text_of x ≡ line_of (ascii "file") file_cells ++ (banked ++ (noded ++ ending))
  sections =
      let f = file_line x.shape x.map.passes in
      let b = banks_text x.banks x.map.padding (bank_lines x) in
      let n = nodes_text x.program x.row x.map.nodes in
      append_assoc (f ++ b ++ n) (fault_text x.map.fault) (verdict_text x.map.verdict)
      ∙ append_assoc (f ++ b) n ending
      ∙ append_assoc f b (n ++ ending)
      ∙ ap (λ (l : List ℕ). f ++ (l ++ (n ++ ending))) (banks-rows x.banks x.map.padding (bank_lines x))
      ∙ ap (λ (l : List ℕ). f ++ (banked ++ (l ++ ending))) (nodes-rows x x.map.nodes)

  after-nodes : Apart (ascii "node") ending
  after-nodes =
      apart-end (ascii "node") x.map.fault x.map.verdict (λ e. omega (arith, same_head e)) (λ e. omega (arith, same_head e))
      (λ e. omega (arith, same_head e))

  after-banks : Apart (ascii "bank") (noded ++ ending)
  after-banks =
      apart-rows (ascii "bank") (ascii "node") (λ i. cells_of x.program.banks (columns_of x i)) x.map.nodes ending
      (above-33 (ascii "node") refl)
      (λ e. omega (arith, same_head e))
      (apart-end (ascii "bank") x.map.fault x.map.verdict (λ e. omega (arith, same_head e)) (λ e. omega (arith, same_head e))
      (λ e. omega (arith, same_head e)))

address-told : (x y : Printed) (i : ℕ) → cells_of x.program.banks (columns_of x i) ≡ cells_of y.program.banks (columns_of y i)
    → address_at x i ≡ address_at y i
address-told x y i e = cc

-- Two maps whose texts are the same are the same, in all that is printed of them.
pub same-text-same-map : (x y : Printed) → text_of x ≡ text_of y → Same x y
same-text-same-map x y e =
    let one = line-then (ascii "file") (ascii "file") (file_cells x) (file_cells y) (banked x ++ (noded x ++ ending x)) (banked y ++ (noded y ++ ending y))
    (above-33 (ascii "file") refl) (above-33 (ascii "file") refl) (sym (sections x) ∙ e ∙ sections y) in
    let cells = one.1 in
    let two = rows_tell (ascii "bank") (above-33 (ascii "bank") refl) (bank_cells x.banks x.map.padding) (bank_cells y.banks y.map.padding)
    (bank_lines x) (bank_lines y) (noded x ++ ending x) (noded y ++ ending y) (after-banks x) (after-banks y) one.2 in
    let three = rows_tell (ascii "node") (above-33 (ascii "node") refl) (λ i. cells_of x.program.banks (columns_of x i))
    (λ i. cells_of y.program.banks (columns_of y i)) x.map.nodes y.map.nodes (ending x) (ending y) (after-nodes x) (after-nodes y) two.2 in
    let four = end-told x.map.fault y.map.fault x.map.verdict y.map.verdict three.2 in
    record {
      shape = (cc, cc, cc, cc);
      passes = cc;
      banks = two.0;
      bank = λ i h. bank-told x.banks y.banks x.map.padding y.map.padding i (two.1 i h);
      nodes = three.0;
      node = λ i h. columns-told x.program.banks y.program.banks (columns_of x i) (columns_of y i) (three.1 i h);
      address = λ i h. address-told x y i (three.1 i h);
      fault = four.0;
      verdict = four.1;
    }

-- ---- of files

-- a broken file's line is no sound file's text
never_both : (why : Refusal) (x : Printed) → refused_text why ≡ text_of x → ⊥
never_both why x e = omega (arith, same_head (e ∙ sections x))

module _ (file other : List ℕ) (fill fill' : ℕ) (page page' : Option ℕ) where
  by-forms : (a b : Result Shape Refusal) → form_of file ≡ a → form_of other ≡ b → text_by file fill page a ≡ text_by other fill' page' b
      → SameFiles file other fill fill' page page'
  by-forms (Err why) (Err so) f g e = w.broken why f (g ∙ ap Err (sym (refusal-told why so e)))
  by-forms (Err why) (Ok t) f g e = absurd (never_both why (printed_of other fill' page' t) e)
  by-forms (Ok s) (Err so) f g e = absurd (never_both so (printed_of file fill page s) (sym e))
  by-forms (Ok s) (Ok t) f g e = w.sound s t f g (same-text-same-map (printed_of file fill page s) (printed_of other fill' page' t) e)

  -- Two files with the same text: both are broken, for one reason, or both are sound and have the same map.
  pub same-text-same-file : map_text file fill page ≡ map_text other fill' page' → SameFiles file other fill fill' page page'
  unfolding map_text
  same-text-same-file e = by-forms (form_of file) (form_of other) refl refl e
