-- A file that begins with the banks, nodes and rows of some contents, and goes on with a field that is none of them: how many of each are
-- counted, and where what follows starts.
use Rattle.std.specs.Prelude.{false, List, [], ◌++◌, ◌≡◌, ℕ, ◌*◌, length}
use Rattle.form_fields.specs.declared.Kind.{Kind}
use Rattle.form_fields.specs.Fields.{sound_at}
use Rattle.form_fields.specs.Contents.{field, flat, Contents, head_bytes, Fits}

-- With which fields a file cannot go on at `at`: a bank may follow banks alone, a node banks and nodes, a row all three.
pub record Stops (k : Kind) (file : List ℕ) (nodes rows : List (List ℕ)) (at : ℕ) : Type 0 where
  pub no-bank : nodes ≡ [] → rows ≡ [] → sound_at file k.tag k.bank at ≡ false
  pub no-node : rows ≡ [] → sound_at file 2 5 at ≡ false
  pub no_row : sound_at file 3 (5 * length nodes) at ≡ false

-- What the file begins with.
pub record Begins (k : Kind) (file : List ℕ) (c : Contents) (rest : List ℕ) : Type 0 where
  pub fits : Fits k c
  pub is : file ≡ head_bytes k ++ (flat (field k.tag) c.banks ++ (flat (field 2) c.nodes ++ (flat (field 3) c.rows ++ rest)))
