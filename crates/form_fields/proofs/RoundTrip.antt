-- Reading back what the writer writes gives the layout it came from, in either form, so that a reader that accepts nothing, or misreads a field,
-- is ruled out: the counts first, section by section, then what is read at each place.
use Rattle.std.specs.Prelude.{◌≡◌, refl}
use Rattle.form_fields.specs.declared.Kind.{Kind}
use Rattle.form_fields.specs.Kind.{Known, is1, is2, form1, kind_of}
use Rattle.form_fields.specs.Contents.{Contents, written}
use Rattle.form_fields.specs.Writer.{Layout, contents, encode, Writable, Says}
use Rattle.form_fields.proofs.RoundTripLaws.{begins-not, begins-written, first-tag, says}

-- The file of a form is read as that form.
pub written-kind : {k : Kind} → Known k → (c : Contents) → kind_of (written k c) ≡ k
unfolding kind_of
written-kind is1 c = rw (begins-not (written form1 c) (first-tag c)) refl
written-kind is2 c = rw (begins-written c) refl

-- The round trip: the file of a layout is of the form in which it was written, and says that layout.
pub read_back : {k : Kind} → Known k → (l : Layout) → Writable k l → (kind_of (encode k l) ≡ k) × Says k (encode k l) l
unfolding encode
read_back {k} known l ok = (written-kind known (contents k l), says known l ok ok.short)
