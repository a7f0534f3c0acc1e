-- What a caller is told of a file, in document 01's figures: a broken one is 4 with the index of its first broken field, and every file is
-- sound or broken by one of these.
use Rattle.std.specs.Prelude.{ℕ, ◌+◌, ◌*◌, ◌≤◌, ◌<◌, true, false, List, ◌≡◌, ◌⊎◌, length, Result, Ok, Err}
use Rattle.prelude.specs.Told.{Told, gives, refuses, Nothing, nothing, told_refusal, told_verdict}
use Rattle.prelude.specs.declared.Place.{Place}
use Rattle.prelude.specs.declared.Place.TheVariants.{One}
use Rattle.prelude.specs.declared.Refusal.{Refusal}
use Rattle.prelude.specs.Verdict.{Verdict}
use Rattle.form_fields.specs.declared.Kind.{Kind}
use Rattle.form_fields.specs.declared.Shape.{Shape}
use Rattle.form_fields.specs.Fields.{field_at}
use Rattle.form_fields.specs.Lists.{Lists}
use Rattle.form_fields.specs.Kind.{headed}
use Rattle.form_fields.specs.Shape.{values_start_in, values_size_in, limit_start_in, fields_before_in, shape_in, form_in, form_of}

abbrev pub told_form : Result Shape Refusal → Told Shape
told_form (Ok s) = gives s
told_form (Err why) = told_refusal why

pub data FormTold (k : Kind) (file : List ℕ) : Told Shape → Type 0 where
  -- "at most 65,000 bytes (longer: 4, place 0)", of form 2 65,536
  long : k.longest < length file → FormTold k file (refuses 4 (One 0))
  -- a form 2 file that does not begin as one: its first field is broken
  no-head : length file ≤ k.longest → headed k file ≡ false → FormTold k file (refuses 4 (One 0))
  -- behind the last bank, node or row no values field: "a field missing, unknown, out of order .., a wrong length, flags above 15"
  no-values : length file ≤ k.longest → headed k file ≡ true → field_at file 4 (values_size_in k file) (values_start_in k file) ≡ false
      → FormTold k file (refuses 4 (One (fields_before_in k file)))
  -- behind the values no limit
  no-limit : length file ≤ k.longest → headed k file ≡ true → field_at file 4 (values_size_in k file) (values_start_in k file) ≡ true
      → field_at file 5 1 (limit_start_in k file) ≡ false → FormTold k file (refuses 4 (One (fields_before_in k file + 1)))
  -- behind the limit anything: "extra"
  extra : length file ≤ k.longest → headed k file ≡ true → field_at file 4 (values_size_in k file) (values_start_in k file) ≡ true
      → field_at file 5 1 (limit_start_in k file) ≡ true → limit_start_in k file + 4 < length file
      → FormTold k file (refuses 4 (One (fields_before_in k file + 2)))
  sound : length file ≤ k.longest → headed k file ≡ true → field_at file 4 (values_size_in k file) (values_start_in k file) ≡ true
      → field_at file 5 1 (limit_start_in k file) ≡ true → length file ≤ limit_start_in k file + 4 → FormTold k file (gives (shape_in k file))

module _ (k : Kind) (file : List ℕ) where
  -- What reading a form promises: the definition's answer, and what that tells.
  pub record FormIs (answer : Result Shape Refusal) : Type 0 where
    pub is : answer ≡ form_in k file
    pub told : FormTold k file (told_form answer)

-- What is told of the lists: a broken file as above; lists too short for the nodes are field 0 of 4, for the rows field 1.
pub data ListsTold (form : Result Shape Refusal) (kinds operands numbers states : ℕ) : Told Nothing → Type 0 where
  broken : {n : ℕ} {place : Place} → told_form form ≡ refuses n place → ListsTold form kinds operands numbers states (refuses n place)
  few-nodes : (s : Shape) → form ≡ Ok s → (kinds < s.nodes) ⊎ (operands < s.nodes)
      → ListsTold form kinds operands numbers states (refuses 4 (One 0))
  few-rows : (s : Shape) → form ≡ Ok s → s.nodes ≤ kinds → s.nodes ≤ operands
      → (numbers < s.rows * s.nodes) ⊎ (states < s.rows * s.nodes) → ListsTold form kinds operands numbers states (refuses 4 (One 1))
  room : (s : Shape) → form ≡ Ok s → s.nodes ≤ kinds → s.nodes ≤ operands → s.rows * s.nodes ≤ numbers → s.rows * s.nodes ≤ states
      → ListsTold form kinds operands numbers states (gives nothing)

-- What reading the lists promises: its answer, each of the four lists, and what the answer tells.
pub record ListsAre (file kinds operands numbers states : List ℕ) (answer : Verdict) (kinds' operands' numbers' states' : List ℕ) : Type 0 where
  pub lists : Lists file kinds operands numbers states answer kinds' operands' numbers' states'
  pub told : ListsTold (form_of file) (length kinds) (length operands) (length numbers) (length states) (told_verdict answer)
