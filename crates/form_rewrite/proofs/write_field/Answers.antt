-- `form_rewrite::write_field` meets its contract: header, zeros, bytes and zeros, one behind the other.
use Prim.Native.Nat.{ℕ, ◌+◌}
use mathlib.Core.List.{List, ◌∷◌, ◌++◌}
use mathlib.Core.Path.{subst}
use native.Mathlib.Omega.{arith}
use lib.ListN.{length}
use Rattle.form_fields.specs.Contents.{bytes16}
use Rattle.form_rewrite.specs.Turning.{zeros}
use Rattle.print_text.specs.Puts.{Writes}
use Rattle.print_text.specs.Laws.Sets.{writes_then, writes-long}
use Rattle.form_rewrite.proofs.Laws.{zeros-length, padded-length, header-field, header-length}
use Rattle.form_rewrite.proofs.write_field.Goals as goal

pub write_zeros-second-requires : goal.write_zeros-second-requires
write_zeros-second-requires c =
    let a = c.args in
    let h = c.write_header-first.ensures in
    omega (arith, h.place, writes-long h, header-length a.tag (a.before + length a.word.now + a.behind))

pub write_word-third-requires : goal.write_word-third-requires
write_word-third-requires c =
    let a = c.args in
    let h = c.write_header-first.ensures in
    let z = c.write_zeros-second.ensures in
    omega (
      arith,
      h.place,
      writes-long h,
      header-length a.tag (a.before + length a.word.now + a.behind),
      z.place,
      writes-long z,
      zeros-length a.before,
    )

pub write_zeros-requires : goal.write_zeros-requires
write_zeros-requires c =
    let a = c.args in
    let h = c.write_header-first.ensures in
    let z = c.write_zeros-second.ensures in
    let w = c.write_word-third.ensures in
    omega (
      arith,
      h.place,
      writes-long h,
      header-length a.tag (a.before + length a.word.now + a.behind),
      z.place,
      writes-long z,
      zeros-length a.before,
      w.place,
      writes-long w,
    )

pub returns-clause-writes : goal.returns-clause-writes
returns-clause-writes c =
    let all : Writes
    ((c.args.tag ∷ bytes16 (c.args.before + length c.args.word.now + c.args.behind))
    ++ (zeros c.args.before ++ (c.args.word.now ++ zeros c.args.behind)))
    c.args.out.now c.args.at c.write_zeros.result c.write_zeros.new.out =
    writes_then c.write_header-first.ensures
    (writes_then c.write_zeros-second.ensures (writes_then c.write_word-third.ensures c.write_zeros.ensures)) in
    let a = c.args in
    let payload = zeros a.before ++ (a.word.now ++ zeros a.behind) in
    let e = header-field a.tag (a.before + length a.word.now + a.behind) payload (padded-length a.before a.behind a.word.now) in
    subst (λ (l : List ℕ). Writes l a.out.now a.at c.write_zeros.result c.write_zeros.new.out) e all

pub returns-clause-value : goal.returns-clause-value
returns-clause-value c =
    let a = c.args in
    omega (
      arith,
      c.write_header-first.ensures.place,
      header-length a.tag (a.before + length a.word.now + a.behind),
      c.write_zeros-second.ensures.place,
      zeros-length a.before,
      c.write_word-third.ensures.place,
      c.write_zeros.ensures.place,
      zeros-length a.behind,
    )
