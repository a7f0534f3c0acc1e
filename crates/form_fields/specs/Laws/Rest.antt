-- The form of a file by the tests behind its rows, one law for each answer.
use Rattle.std.specs.Prelude.{Result, true, false, List, ◌≡◌, ℕ, ◌+◌, ◌*◌, ◌≤◌, ◌<◌, length, ltb, Err, Ok}
use Rattle.std.proofs.Math.Path.{refl, ap, ap₂}
use Rattle.std.proofs.Common.{◌∙◌, arith}
use borrow.Author.Tests.{lt-ltb, le-ltb, lt-leb, ltb-true, ltb-false}
use Rattle.prelude.specs.Laws.Bools.{unlike}
use Rattle.prelude.specs.declared.Refusal.{Refusal}
use Rattle.prelude.specs.declared.Refusal.TheVariants.{Malformed}
use Rattle.form_fields.specs.declared.Kind.{Kind}
use Rattle.form_fields.specs.declared.Shape.{Shape}
use Rattle.form_fields.specs.Words.{byte, word16}
use Rattle.form_fields.specs.Fields.{field_at, run}
use Rattle.form_fields.specs.Laws.Fields.{field-ends, by-test}
use Rattle.form_fields.specs.Kind.{Known, headed}
use Rattle.form_fields.specs.Laws.Kind.{known-longest}
use Rattle.form_fields.specs.Shape.{bank_count_in, nodes_start_in, node_count_in, rows_start_in, row_count_in, values_start_in, values_size_in}
use Rattle.form_fields.specs.Shape.{limit_start_in, fields_before_in}
use Rattle.form_fields.specs.Shape.{shape_in, form_in, Counted}
use Rattle.form_fields.specs.Laws.Within.{fields_within}

-- a field whose header is cut is none
pub field_cut : (file : List ℕ) (tag len at : ℕ) → length file < at + 3 → field_at file tag len at ≡ false
unfolding field_at
field_cut file tag len at h = rw (lt-leb (at + 3 + len) (length file) (omega arith)) refl

module _ (k : Kind) (file : List ℕ) where
  pub form-long : k.longest < length file → form_in k file ≡ Err (Malformed 0)
  unfolding form_in
  form-long h = rw (lt-ltb k.longest (length file) h) refl

  module _ (short : length file ≤ k.longest) where
    pub form-head : headed k file ≡ false → form_in k file ≡ Err (Malformed 0)
    unfolding form_in
    form-head h = rw (le-ltb k.longest (length file) short, h) refl

    module _ (h : headed k file ≡ true) where
      pub form-values : field_at file 4 (values_size_in k file) (values_start_in k file) ≡ false → form_in k file ≡ Err (Malformed (fields_before_in k file))
      unfolding form_in
      form-values v = rw (le-ltb k.longest (length file) short, h, v) refl

      module _ (v : field_at file 4 (values_size_in k file) (values_start_in k file) ≡ true) where
        pub form-limit : field_at file 5 1 (limit_start_in k file) ≡ false → form_in k file ≡ Err (Malformed (fields_before_in k file + 1))
        unfolding form_in
        form-limit l = rw (le-ltb k.longest (length file) short, h, v, l) refl

        module _ (l : field_at file 5 1 (limit_start_in k file) ≡ true) where
          pub form-extra : limit_start_in k file + 4 < length file → form_in k file ≡ Err (Malformed (fields_before_in k file + 2))
          unfolding form_in
          form-extra e = rw (le-ltb k.longest (length file) short, h, v, l, lt-ltb (limit_start_in k file + 4) (length file) e) refl

          pub form-sound : length file ≤ limit_start_in k file + 4 → form_in k file ≡ Ok (shape_in k file)
          unfolding form_in
          form-sound e = rw (le-ltb k.longest (length file) short, h, v, l, le-ltb (limit_start_in k file + 4) (length file) e) refl

-- the sum of the counts is the index of the field behind the rows, and fits
module _ {k : Kind} {file : List ℕ} {banks nodes rows at : ℕ} (counts : Counted k file banks nodes rows at) where
  pub before-is : k.heads + banks + nodes + rows ≡ fields_before_in k file
  unfolding fields_before_in
  before-is = omega (arith, counts.of-banks, counts.of-nodes, counts.of-rows)

  pub before-fits : Known k → k.heads + banks + nodes + rows ≤ 65536
  before-fits known = omega (arith, before-is, fields_within known file counts.head, counts.short, known-longest known)

-- What the code has read is what the definitions name: `at` behind the rows, and the length there.
module _ (k : Kind) (file : List ℕ) (at size : ℕ) (p : at ≡ values_start_in k file) (q : size ≡ word16 file (at + 1)) where
  pub size_is : size ≡ values_size_in k file
  unfolding values_size_in
  size_is = q ∙ ap (λ (a : ℕ). word16 file (a + 1)) p

  pub values-is : field_at file 4 size at ≡ field_at file 4 (values_size_in k file) (values_start_in k file)
  values-is = ap₂ (field_at file 4) size_is p

  pub limit_is : at + 3 + size ≡ limit_start_in k file
  unfolding limit_start_in
  limit_is = ap₂ (λ (a s : ℕ). a + 3 + s) p size_is

-- the shape that the code puts together
pub shape_is : {k : Kind} {file : List ℕ} {banks nodes rows at : ℕ} (size : ℕ) → Counted k file banks nodes rows at → size ≡ word16 file (at + 1)
    → ◌≡◌ {A = Result Shape Refusal}
    (Ok (record { form = k.form; banks = banks; nodes = nodes; rows = rows; values = at + 3; size = size; limit = byte file (at + 3 + size + 3) }))
    (Ok (shape_in k file))
unfolding shape_in
shape_is {k} {file} {banks} {nodes} {rows} {at} size counts q =
    let limit = limit_is k file at size counts.behind q in
    let len = size_is k file at size counts.behind q in
    λ i.
    Ok
    (record {
      form = k.form;
      banks = counts.of-banks i;
      nodes = counts.of-nodes i;
      rows = counts.of-rows i;
      values = counts.behind i + 3;
      size = len i;
      limit = byte file (limit i + 3);
    })

-- three runs, one behind the other, are the counts
module _ (k : Kind) (file : List ℕ) (short : length file ≤ k.longest) (head : headed k file ≡ true) where
  pub counted : (b n r e₁ e₂ e₃ : ℕ)
      → b ≡ run file k.tag k.bank (k.heads * 4) → e₁ ≡ k.heads * 4 + run file k.tag k.bank (k.heads * 4) * (3 + k.bank)
      → n ≡ run file 2 5 e₁ → e₂ ≡ e₁ + run file 2 5 e₁ * (3 + 5)
      → r ≡ run file 3 (5 * n) e₂ → e₃ ≡ e₂ + run file 3 (5 * n) e₂ * (3 + 5 * n)
      → Counted k file b n r e₃
  unfolding bank_count_in node_count_in row_count_in nodes_start_in rows_start_in values_start_in
  counted b n r e₁ e₂ e₃ pb q₁ pn q₂ pr q₃ =
      let s₁ : e₁ ≡ nodes_start_in k file = q₁ in
      let of-nodes : n ≡ node_count_in k file = pn ∙ ap (run file 2 5) s₁ in
      let s₂ : e₂ ≡ rows_start_in k file = q₂ ∙ ap (λ (e : ℕ). e + run file 2 5 e * 8) s₁ in
      let of-rows : r ≡ row_count_in k file = pr ∙ ap₂ (λ (m e : ℕ). run file 3 (5 * m) e) of-nodes s₂ in
      let s₃ : e₃ ≡ values_start_in k file = q₃ ∙ ap₂ (λ (m e : ℕ). e + run file 3 (5 * m) e * (3 + 5 * m)) of-nodes s₂ in
      record { short = short; head = head; of-banks = pb; of-nodes = of-nodes; of-rows = of-rows; behind = s₃ }

-- What is known of a sound file: its shape is the definition's, its fields are those, and it ends behind the limit.
pub record SoundFile (k : Kind) (file : List ℕ) (s : Shape) : Type 0 where
  pub shape : s ≡ shape_in k file
  pub short : length file ≤ k.longest
  pub head : headed k file ≡ true
  pub values : field_at file 4 (values_size_in k file) (values_start_in k file) ≡ true
  pub limit : field_at file 5 1 (limit_start_in k file) ≡ true
  pub whole : limit_start_in k file + 4 ≡ length file

pub sound-file : (k : Kind) (file : List ℕ) (s : Shape) → form_in k file ≡ Ok s → SoundFile k file s
sound-file k file s e =
    by-test (ltb k.longest (length file))
    (λ long. never (form-long k file (ltb-true k.longest (length file) long)))
    (λ fits.
    let short = ltb-false k.longest (length file) fits in
    by-test (headed k file)
    (λ h.
    by-test (field_at file 4 (values_size_in k file) (values_start_in k file))
    (λ v.
    by-test (field_at file 5 1 (limit_start_in k file))
    (λ l.
    by-test (ltb (limit_start_in k file + 4) (length file))
    (λ more. never (form-extra k file short h v l (ltb-true (limit_start_in k file + 4) (length file) more)))
    (λ end.
    let last = ltb-false (limit_start_in k file + 4) (length file) end in
    let room = field-ends file 5 1 (limit_start_in k file) l in
    record {
      shape = same (form-sound k file short h v l last);
      short = short;
      head = h;
      values = v;
      limit = l;
      whole = omega arith;
    }))
    (λ l. never (form-limit k file short h v l)))
    (λ v. never (form-values k file short h v)))
    (λ h. never (form-head k file short h)))
  where
    never : {X : Type 0} {r : Refusal} → form_in k file ≡ Err r → X
    never b = unlike cc

    same : {t : Shape} → form_in k file ≡ Ok t → s ≡ t
    same {t} b = cc
