-- `put` meets its contract: a file that is too long is refused at once; else the word and four numbers of at most twenty digits fit.
use Rattle.std.proofs.Common.{◌≡◌, ◌≤◌, ◌<◌, ℕ, List, arith, rules, length, le-leb}
use Rattle.std.proofs.lemmas.Bool.{lt-leb}
use Rattle.prelude.specs.Laws.Pick.{pick_true, pick-false}
use Rattle.prelude.specs.declared.Refusal.TheVariants.{Malformed}
use Rattle.print_rehex.specs.Rehex.{longest}
use Rattle.print_text.specs.Ascii.{ascii}
use Rattle.print_text.specs.Laws.Ends.{puts-writes}
use Rattle.print_text.specs.Lines.{refusal_text}
use Rattle.prog_args.specs.Text.{line_room}
use Rattle.prog_args.specs.Laws.Text.{put-stands}
use Rattle.prog_args.specs.Theorems.Text.{AllWords, line-words}
use Rattle.record_scan.specs.Reading.{read_text}
use Rattle.record_reason.specs.Reasons.{why_of}
use Rattle.record_reason.specs.declared.Why.{Why}
use Rattle.meets_texts.specs.Printed.{why_numbers, why_text, reason_text}
use Rattle.prog_reason.proofs.put.Goals as goal

module _ (kind load : ℕ) (source : List ℕ) where
  too_long : longest < length source → reason_text kind load source ≡ refusal_text (Malformed 0)
  unfolding reason_text
  too_long h = pick-false _ _ (lt-leb (length source) longest h)

  not-long : length source ≤ longest → reason_text kind load source ≡ why_text (why_of kind load source (read_text kind load source))
  unfolding reason_text
  not-long h = pick_true _ _ (le-leb (length source) longest h)

fits : (w : Why) (out : List ℕ) → AllWords (why_numbers w) → line_room ≤ length out → length (why_text w) ≤ length out
fits w out words room = omega (arith, line-words (ascii "reason") (why_numbers w) words, room)

pub returns-then-source-ge-SOURCE : goal.returns-then-source-ge-SOURCE
returns-then-source-ge-SOURCE c =
    let a = c.args in
    rw (too_long a.kind a.load a.source.now (omega (arith, c.if-source-ge-SOURCE.true))) c.put_refusal.ensures.stands

pub write_line-requires : goal.write_line-requires
write_line-requires c =
    omega (arith, fits c.reason_of-w.result c.args.out.now (search rules, (search rules, (search rules, (search rules, tt)))) c.requires)

pub returns : goal.returns
returns c =
    let a = c.args in
    let w = c.reason_of-w in
    let room = fits w.result a.out.now (search rules, (search rules, (search rules, (search rules, tt)))) c.requires in
    rw (not-long a.kind a.load a.source.now (omega (arith, c.if-source-ge-SOURCE.false)), ← w.ensures.0)
    (put-stands (puts-writes (omega (arith, room)) c.write_line.ensures) room (omega (arith, c.write_line.ensures.place)))
