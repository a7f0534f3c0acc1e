-- The converter between the forms of a layout file: its answer, and every byte of the buffer. What the file's contents become says
-- convert_write/specs/Turning.
use Rattle.std.specs.Prelude.{Bool, false, List, ◌++◌, ◌≡◌, ℕ, max, ltb, length, drop, Result, Err, Ok}
use Rattle.prelude.specs.Limits.{max_nodes, max_rows}
use Rattle.prelude.specs.Pick.{pick}
use Rattle.prelude.specs.declared.Refusal.TheVariants.{Malformed, FillBitDropped, TooShort}
use Rattle.prelude.specs.declared.Refusal.{Refusal}
use Rattle.bankdef.specs.Search.{first_where}
use Rattle.form_fields.specs.declared.Kind.{Kind}
use Rattle.form_fields.specs.Kind.{form1, form2}
use Rattle.form_fields.specs.Shape.{form_in}
use Rattle.form_fields.specs.Contents.{Contents, written}
use Rattle.form_fields.specs.Whole.{contents_in}
use Rattle.form_fields.specs.declared.Shape.{Shape}
use Rattle.form_rewrite.specs.Turning.{strays, alone, to_form2, to_form1, drops_bit}

-- The first node of a one-bank file that names another bank; as many as there are nodes where none does.
abbrev pub stray : Contents → ℕ
stray c = pick (alone c) (first_where (strays 0) c.nodes) (length c.nodes)

-- "4 past 4,096 nodes or 16 rows, .. or for a one-bank file that names another bank"; "4 for .. a result past its form's length, then 18 (new) for a way
-- back that would drop a fill bit of one, then 14".
unfoldable pub answer_of : ℕ → ℕ → ℕ → ℕ → ℕ → ℕ → Bool → ℕ → Result ℕ Refusal
answer_of nodes rows first count size longest drops room =
    pick (ltb max_nodes nodes) (Err (Malformed 0))
    (pick (ltb max_rows rows) (Err (Malformed 1))
    (pick (ltb first count) (Err (Malformed first))
    (pick (ltb longest size) (Err (Malformed 0))
    (pick drops (Err FillBitDropped)
    (pick (ltb room size) (Err (TooShort 0))
    (Ok size))))))

-- The same of contents c that become d in the form k: nodes "in file or result".
abbrev pub answer_for : Kind → Contents → Contents → Bool → ℕ → Result ℕ Refusal
answer_for k c d drops room =
    answer_of (max (length c.nodes) (length d.nodes)) (length c.rows) (stray c) (length c.nodes) (length (written k d)) k.longest drops room

-- a broken file, or one of the other form, is refused as the reader of its form refuses it
abbrev pub answer_by : Kind → Result Shape Refusal → Contents → Contents → Bool → ℕ → Result ℕ Refusal
answer_by k (Err why) c d drops room = Err why
answer_by k (Ok s) c d drops room = answer_for k c d drops room

-- What the lent buffer holds afterwards: the converted file, then its old contents; all of those where the call is refused.
abbrev pub out_after : Result ℕ Refusal → List ℕ → List ℕ → List ℕ
out_after (Ok n) new old = new ++ drop (length new) old
out_after (Err why) new old = old

-- What a call promises: its answer, and every byte of the buffer.
pub record Converts (from to : Kind) (turn : Contents → Contents) (drops : Contents → Bool) (file old : List ℕ) (answer : Result ℕ Refusal) (new : List ℕ) :
    Type 0 where
  pub is : answer ≡ answer_by to (form_in from file) (contents_in from file) (turn (contents_in from file)) (drops (contents_in from file)) (length old)
  pub out : new ≡ out_after answer (written to (turn (contents_in from file))) old

-- ---- the two ways

abbrev pub drops_none : Contents → Bool
drops_none c = false

abbrev pub ToForm2 : List ℕ → List ℕ → Result ℕ Refusal → List ℕ → Type 0
ToForm2 file old answer new = Converts form1 form2 to_form2 drops_none file old answer new

abbrev pub ToForm1 : List ℕ → List ℕ → Result ℕ Refusal → List ℕ → Type 0
ToForm1 file old answer new = Converts form2 form1 to_form1 drops_bit file old answer new
