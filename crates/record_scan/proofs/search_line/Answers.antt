-- `record_scan::search_line`: the line's characters are a part of the text.
use mathlib.Core.Path.{subst}
use mathlib.Core.List.{List}
use Prim.Native.Nat.{ℕ}
use native.Mathlib.Omega.{arith}
use Rattle.record_lines.specs.Items.{Says}
use Rattle.record_scan.specs.Reading.{format_by}
use Rattle.record_scan.specs.Steps.{first_by}
use Rattle.record_scan.proofs.Laws.{stop-inside, next-inside, next-onward, line-part, line-cut}
use Rattle.record_scan.proofs.search_line.Goals as goal

pub returns : goal.returns
returns c spells =
    let a = c.args in
    let cut = c.line_from-cut.ensures in
    let t = a.text.now in
    let own = line-cut t a.at c.line_from-cut.result.stop c.min-end.result c.min-start.result cut.stop
    c.min-end.ensures c.min-start.ensures in
    record {
      says =
          subst (λ (l : List ℕ). Says l a.state (first_by a.format l) c.line_in-line.result (format_by a.format a.state l)) own
          (c.line_in-line.ensures spells);
      stop = cut.stop;
      start = omega (arith, cut.stop);
      within = λ h. rw cut.stop (stop-inside t a.at h);
      part = line-part t a.at c.line_from-cut.result.stop cut.stop;
      next = cut.next;
      inside = λ h. rw cut.next (next-inside t a.at h);
      onward = λ h. rw cut.next (next-onward t a.at h);
    }
