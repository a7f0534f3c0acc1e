-- `form_fields::is_field` meets its contract: the definition's three tests, one by one.
use Prim.Native.Nat.{◌+◌}
use mathlib.Core.Bool.{true, false}
use mathlib.Core.Path.{◌≡◌, refl, sym, ◌∙◌}
use borrow.Author.Tests.{eq-eqb, ne_eqb, not-true, not-false}
use lib.Dec.{leb}
use lib.ListN.{length}
use Rattle.form_fields.specs.Words.{byte}
use Rattle.form_fields.specs.Fields.{field_at}
use Rattle.form_fields.proofs.is_field.Goals as goal

pub returns-then-not-is_whole : goal.returns-then-not-is_whole
unfolding field_at
returns-then-not-is_whole c =
    let short : leb (c.args.at + 3 + c.args.len) (length c.args.file.now)
    ≡ false = sym c.is_whole.ensures ∙ not-true _ c.if-not-is_whole.true-raw in
    rw short refl

pub returns-then-file-at : goal.returns-then-file-at
unfolding field_at
returns-then-file-at c =
    let whole : leb (c.args.at + 3 + c.args.len) (length
    c.args.file.now) ≡ true =
    sym c.is_whole.ensures ∙ not-false _ c.if-not-is_whole.false-raw in
    rw (
      whole,
      ne_eqb (byte c.args.file.now
          c.args.at) c.args.tag c.if-file-at.true,
    ) refl

pub returns : goal.returns
unfolding field_at
returns c =
    let whole : leb (c.args.at + 3 + c.args.len) (length
    c.args.file.now) ≡ true =
    sym c.is_whole.ensures ∙ not-false _ c.if-not-is_whole.false-raw in
    rw (
      whole,
      eq-eqb (byte c.args.file.now
          c.args.at) c.args.tag
          c.if-file-at.false,
      ← c.read16.ensures,
    ) refl
