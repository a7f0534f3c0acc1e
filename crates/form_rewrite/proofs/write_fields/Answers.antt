use Prim.Native.Nat.{ℕ, ◌+◌, ◌-◌, ◌*◌, ◌≤◌}
use mathlib.Core.List.{List, ◌++◌}
use mathlib.Core.Path.{◌≡◌, ap, subst}
use native.Mathlib.Nat.{mul-le-mul_right}
use native.Mathlib.Omega.{arith}
use lib.ListN.{take, drop}
use Rattle.form_fields.specs.Contents.{field}
use Rattle.form_fields.specs.Laws.Has.{field-length}
use Rattle.form_fields.specs.Whole.{part}
use Rattle.form_rewrite.specs.Turning.{zeros}
use Rattle.print_text.specs.Puts.{Writes}
use Rattle.form_rewrite.specs.Laws.PartLaws.{part_length}
use Rattle.form_rewrite.proofs.Laws.{padded-length, fields-none, fields-turn}
use Rattle.form_rewrite.proofs.write_fields.Invariants.{padded}
use Rattle.form_rewrite.proofs.write_fields.Goals as goal

-- the part is as long as it should be
cut : (file : List ℕ) (p keep : ℕ) → take (p + keep - p) (drop p file) ≡ part file keep p
cut file p keep = ap (λ (n : ℕ). take n (drop p file)) {x = p + keep - p} {y = keep} (omega arith)

pub loop-i-init : goal.loop-i-init
loop-i-init c =
    let a = c.args in
    (omega arith, omega arith, fields-none a.tag (padded a.file.now a.before a.keep a.behind) a.step a.from)

pub loop-i-preserved : goal.loop-i-preserved
loop-i-preserved c =
    -- the next thing ends where the last of them ends, or before; its field too
    let behind-file : (c.loop-i.i + 1) * c.args.step ≤ c.args.count * c.args.step =
    mul-le-mul_right c.args.step (omega arith) in
    let a = c.args in
    let i = c.loop-i.i in
    let p = a.from + i * a.step in
    let file = a.file.now in
    let w = c.loop-i.invariant.2 in
    let what = padded file a.before a.keep a.behind in
    let room = behind-file in
    let next : Writes (field a.tag (what p)) c.loop-i.out c.loop-i.end c.write_field-end.result c.write_field-end.new.out =
    subst (λ (l : List ℕ). Writes (field a.tag (zeros a.before ++ (l ++ zeros a.behind))) c.loop-i.out c.loop-i.end
    c.write_field-end.result c.write_field-end.new.out) (cut file p a.keep) c.write_field-end.ensures.writes in
    let long = field-length a.tag (what p) in
    let keep = part_length file a.keep p (omega (arith, room)) in
    let pad = padded-length a.before a.behind (part file a.keep p) in
    (omega arith, omega (arith, next.place, long, keep, pad), fields-turn a.tag what a.step a.from i w next)
