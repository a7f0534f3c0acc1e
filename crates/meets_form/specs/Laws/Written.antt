-- A sound file, in the sentences and in the definitions: the same bytes of the same contents.
use Rattle.std.specs.Prelude.{◌≡◌, refl, List, [], ◌∷◌, ◌++◌, ℕ, zero, suc, ◌+◌, ◌*◌, ◌<◌, leb, length, get_or, Ok}
use Rattle.std.proofs.Common.{sym, ap, ◌∙◌, arith, leb-true, le-leb}
use Rattle.prelude.specs.Laws.Bools.{both}
use Rattle.form_fields.specs.declared.Kind.{Kind}
use Rattle.form_fields.specs.declared.Shape.{Shape}
use Rattle.form_fields.specs.Kind.{Known, is1, is2, form1, form2}
use Rattle.form_fields.specs.Contents as made
use Rattle.form_fields.specs.Contents.{Contents, flat, bytes16, written, Each, Long, BankFits, Fits}
use Rattle.form_fields.specs.Laws.Rest.{sound-file}
use Rattle.form_fields.proofs.RoundTripLaws.{written-sound}
use Rattle.form_fields.specs.Shape.{form_in}
use Rattle.form_fields.specs.Whole.{Bytes, contents_in}
use Rattle.form_fields.proofs.WholeLaws.{contents-fit, file-is-written}
use Rattle.form_fields.proofs.Whole.{contents-back}
use Rattle.form_fields.specs.Writer.{shape_for}
use Rattle.says.specs.Files as files
use Rattle.says.specs.Files.{field, fields, Held, Form, form-1, form-2, longest, bytes, Bank, of-1, of-2, Sound}

abbrev pub kind : Form → Kind
kind form-1 = form1
kind form-2 = form2

pub known : (f : Form) → Known (kind f)
known form-1 = is1
known form-2 = is2

abbrev pub held : Contents → Held
held c = record { banks = c.banks; nodes = c.nodes; rows = c.rows; values = c.values; limit = c.limit }

abbrev pub contents : Held → Contents
contents h = record { banks = h.banks; nodes = h.nodes; rows = h.rows; values = h.values; limit = h.limit }

-- ---- the same bytes

fields-same : (tag : ℕ) (l : List (List ℕ)) → flat (made.field tag) l ≡ fields tag l
unfolding flat fields made.field bytes16
fields-same tag [] = refl
fields-same tag (p ∷ l) = ap (λ (m : List ℕ). field tag p ++ m) (fields-same tag l)

pub bytes_same : (f : Form) (h : Held) → written (kind f) (contents h) ≡ bytes f h
unfolding written made.field bytes16
bytes_same form-1 h = λ i.
    fields-same 1 h.banks i
    ++ (fields-same 2 h.nodes i ++ (fields-same 3 h.rows i ++ (field 4 h.values ++ field 5 (h.limit ∷ []))))
bytes_same form-2 h = λ i.
    field 16 (2 ∷ [])
    ++ (fields-same 17 h.banks i ++ (fields-same 2 h.nodes i ++ (fields-same 3 h.rows i ++ (field 4 h.values ++ field 5 (h.limit ∷ [])))))

pub longest-same : (f : Form) → longest f ≡ (kind f).longest
longest-same form-1 = refl
longest-same form-2 = refl

-- ---- each of a list, by its place

pub each_of : (P : List ℕ → Type 0) (l : List (List ℕ)) → ((i : ℕ) → i < length l → P (get_or l i [])) → Each P l
each_of P [] h = tt
each_of P (x ∷ l) h = (h 0 (omega arith), each_of P l (λ i less. h (suc i) (omega arith)))

pub of-each : (P : List ℕ → Type 0) (l : List (List ℕ)) → Each P l → (i : ℕ) → i < length l → P (get_or l i [])
of-each P [] e i less = absurd (omega arith)
of-each P (x ∷ l) e zero less = e.0
of-each P (x ∷ l) e (suc i) less = of-each P l e.1 i (omega arith)

-- ---- the same banks, nodes and rows

bank-fits : (f : Form) (p : List ℕ) → Bank p f → BankFits (kind f) p
bank-fits form-1 p (of-1 long flags) = (long, le-leb (get_or p 22 0) 15 flags)
bank-fits form-2 p (of-2 long flags bit) = (long, rw (le-leb (get_or p 22 0) 15 flags, le-leb (get_or p 23 0) 1 bit))

bank-of : (f : Form) (p : List ℕ) → BankFits (kind f) p → Bank p f
bank-of form-1 p fits = of-1 fits.0 (leb-true (get_or p 22 0) 15 fits.1)
bank-of form-2 p fits =
    let e = both (leb (get_or p 22 0) 15) (leb (get_or p 23 0) 1) fits.1 in
    of-2 fits.0 (leb-true (get_or p 22 0) 15 e.0) (leb-true (get_or p 23 0) 1 e.1)

pub fits-so : {f : Form} {h : Held} → files.Fits f h → Fits (kind f) (contents h)
fits-so {f} {h} s =
    record {
      of-banks = each_of (BankFits (kind f)) h.banks (λ b less. bank-fits f (get_or h.banks b []) (s.banks b less));
      of-nodes = each_of (Long 5) h.nodes s.nodes;
      of-rows = each_of (Long (5 * length h.nodes)) h.rows s.rows;
    }

pub so-fits : (f : Form) (c : Contents) → Fits (kind f) c → files.Fits f (held c)
so-fits f c fits =
    record {
      banks = λ b less. bank-of f (get_or c.banks b []) (of-each (BankFits (kind f)) c.banks fits.of-banks b less);
      nodes = of-each (Long 5) c.nodes fits.of-nodes;
      rows = of-each (Long (5 * length c.nodes)) c.rows fits.of-rows;
    }

pub sound-fits : {f : Form} {file : List ℕ} {h : Held} → Sound f file h → Fits (kind f) (contents h)
sound-fits s = fits-so s.fits

pub sound-written : {f : Form} {file : List ℕ} {h : Held} → Sound f file h → file ≡ written (kind f) (contents h)
sound-written {f} {file} {h} s = s.is ∙ sym (bytes_same f h)

-- What the sentences call sound the definitions do,
pub sound-form : {f : Form} {file : List ℕ} {h : Held} → Sound f file h → form_in (kind f) file ≡ Ok (shape_for (kind f) (contents h))
sound-form {f} {file} {h} s =
    let e = sound-written s in
    ap (form_in (kind f)) e
    ∙ written-sound (known f) (contents h) (sound-fits s)
    (omega (arith, ap length e, s.short, longest-same f))

-- with the contents that the definitions read,
pub sound-contents : {f : Form} {file : List ℕ} {h : Held} → Sound f file h → contents_in (kind f) file ≡ contents h
sound-contents {f} {file} {h} s = ap (contents_in (kind f)) (sound-written s) ∙ contents-back (known f) (contents h) (sound-fits s)

-- so a file holds one thing;
pub sound-one : {f : Form} {file : List ℕ} {h k : Held} → Sound f file h → Sound f file k → h ≡ k
sound-one s t = ap held (sym (sound-contents s) ∙ sound-contents t)

-- and what they call sound the sentences do.
pub form-sound : (f : Form) (file : List ℕ) → Bytes file → (s : Shape) → form_in (kind f) file ≡ Ok s → Sound f file (held (contents_in (kind f) file))
form-sound f file small s e =
    let c = contents_in (kind f) file in
    let fits = contents-fit file small (known f) s e in
    let facts = sound-file (kind f) file s e in
    record {
      is = sym (file-is-written file small (known f) s e) ∙ bytes_same f (held c);
      short = omega (arith, facts.short, longest-same f);
      fits = so-fits f c fits;
    }
