-- How reading the lists meets `Lists`: one law for each answer.
use Rattle.std.specs.Prelude.{◌≡◌, refl, List, ◌++◌, ℕ, ◌+◌, ◌*◌, ◌≤◌, ◌<◌, length, drop, Ok, Err}
use Rattle.std.proofs.Common.{sym, ap, ap₂, ◌∙◌, le-leb}
use Rattle.std.proofs.Math.Seq.{paste}
use Rattle.std.proofs.lemmas.Bool.{lt-leb}
use Rattle.prelude.specs.declared.Refusal.TheVariants.{Malformed}
use Rattle.prelude.specs.Verdict.{Accepted}
use Rattle.form_fields.specs.declared.Shape.{Shape}
use Rattle.form_fields.specs.Columns.{column}
use Rattle.form_fields.specs.Words.{byte, word32}
use Rattle.form_fields.specs.Kind.{kind_of}
use Rattle.form_fields.specs.Shape.{nodes_start, row_count, form_of}
use Rattle.form_fields.specs.Laws.Shape.{node_count, rows_start}
use Rattle.form_fields.specs.Lists.{cells, Lists}
use Rattle.form_fields.specs.Laws.Columns.{column-length}
use Rattle.form_fields.specs.Laws.Cells.{cells-length}
use Rattle.form_fields.specs.Laws.Rest.{sound-file}
use Rattle.form_fields.specs.Laws.Filled.{Places, at-shape, paste-front}

pub places : (file : List ℕ) (s : Shape) → form_of file ≡ Ok s → Places file s
places file s e =
    let k = sound-file (kind_of file) file s e in
    rw k.shape (at-shape file k.short)

module _ (file kinds operands numbers states : List ℕ) (s : Shape) (e : form_of file ≡ Ok s) where
  pub lists-kinds : length kinds < s.nodes → Lists file kinds operands numbers states (Err (Malformed 0)) kinds operands numbers states
  lists-kinds h =
      record { verdict = rw (e, lt-leb s.nodes (length kinds) h) refl; of-kinds = refl; of-operands = refl; of-numbers = refl; of-states = refl }

  module _ (hk : s.nodes ≤ length kinds) where
    pub lists-operands : length operands < s.nodes → Lists file kinds operands numbers states (Err (Malformed 0)) kinds operands numbers states
    lists-operands h =
        record {
          verdict = rw (e, le-leb s.nodes (length kinds) hk, lt-leb s.nodes (length operands) h) refl;
          of-kinds = refl;
          of-operands = refl;
          of-numbers = refl;
          of-states = refl;
        }

    module _ (ho : s.nodes ≤ length operands) where
      pub lists-numbers : length numbers < s.rows * s.nodes → Lists file kinds operands numbers states (Err (Malformed 1)) kinds operands numbers states
      lists-numbers h =
          record {
            verdict = rw (e, le-leb s.nodes (length kinds) hk, le-leb s.nodes (length operands) ho, lt-leb (s.rows * s.nodes) (length numbers) h)
                refl;
            of-kinds = refl;
            of-operands = refl;
            of-numbers = refl;
            of-states = refl;
          }

      module _ (hn : s.rows * s.nodes ≤ length numbers) where
        pub lists-states : length states < s.rows * s.nodes → Lists file kinds operands numbers states (Err (Malformed 1)) kinds operands numbers states
        lists-states h =
            record {
              verdict = rw (
                e,
                le-leb s.nodes (length kinds) hk,
                le-leb s.nodes (length operands) ho,
                le-leb (s.rows * s.nodes)
                    (length numbers) hn,
                lt-leb (s.rows * s.nodes) (length states) h,
              ) refl;
              of-kinds = refl;
              of-operands = refl;
              of-numbers = refl;
              of-states = refl;
            }

        pub lists-read : s.rows * s.nodes ≤ length states → (start : ℕ) → start ≡ nodes_start file → (kinds' operands' numbers' states' : List ℕ)
            → kinds' ≡ paste kinds 0 (column (byte file) 8 (start + 3) s.nodes) s.nodes
            → operands' ≡ paste operands 0 (column (word32 file) 8 (start + 4) s.nodes) s.nodes
            → numbers' ≡ cells (word32 file) s.nodes (start + s.nodes * 8 + 3) s.rows ++ drop (s.rows * s.nodes) numbers
            → states' ≡ cells (byte file) s.nodes (start + s.nodes * 8 + 7) s.rows ++ drop (s.rows * s.nodes) states
            → Lists file kinds operands numbers states Accepted kinds' operands' numbers' states'
        lists-read hs start at-start kinds' operands' numbers' states' pk po pn ps =
            let p = places file s e in
            let at_rows : start + s.nodes * 8 ≡ rows_start file = ap (λ (a : ℕ). a + s.nodes * 8) (at-start ∙ sym p.start) ∙ p.behind in
            let front : (read : ℕ → ℕ) (off : ℕ) (l : List ℕ)
            → paste l 0 (column read 8 (start + off) s.nodes) s.nodes
            ≡ column read 8 (nodes_start file + off) (node_count file) ++ drop (length (column read 8 (nodes_start file + off) (node_count file))) l =
            λ read off l.
            ap₂ (λ (a n : ℕ). paste l 0 (column read 8 (a + off) n) n) at-start p.nodes
            ∙ paste-front l (column read 8 (nodes_start file + off) (node_count file)) (node_count file) (column-length read 8 (nodes_start file + off)
            (node_count file)) in
            let rest : (read : ℕ → ℕ) (off : ℕ) (l : List ℕ)
            → cells read s.nodes (start + s.nodes * 8 + off) s.rows ++ drop (s.rows * s.nodes) l
            ≡ cells read (node_count file) (rows_start file + off) (row_count file) ++ drop (length (cells read (node_count file) (rows_start file + off)
            (row_count file))) l =
            λ read off l.
            ap (λ (a : ℕ). cells read s.nodes (a + off) s.rows ++ drop (s.rows * s.nodes) l) at_rows
            ∙ ap₂ (λ (n r : ℕ). cells read n (rows_start file + off) r ++ drop (r * n) l) p.nodes p.rows
            ∙ ap (λ (k : ℕ). cells read (node_count file) (rows_start file + off) (row_count file) ++ drop k l) (sym (cells-length read (node_count file)
            (rows_start file + off) (row_count file))) in
            record {
              verdict = rw (
                e,
                le-leb s.nodes (length kinds) hk,
                le-leb s.nodes (length operands) ho,
                le-leb (s.rows * s.nodes)
                    (length numbers) hn,
                le-leb (s.rows * s.nodes) (length states) hs,
              ) refl;
              of-kinds = pk ∙ front (byte file) 3 kinds;
              of-operands = po ∙ front (word32 file) 4 operands;
              of-numbers = pn ∙ rest (word32 file) 3 numbers;
              of-states = ps ∙ rest (byte file) 7 states;
            }
