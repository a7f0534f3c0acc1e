-- `record_reason::spelling::first_other`: the digits at the front are counted.
use mathlib.Core.Path.{◌≡◌, ap, ◌∙◌}
use mathlib.Core.List.{List}
use Prim.Native.Nat.{ℕ, ◌+◌}
use lib.ListN.{length, take, drop}
use Rattle.std.proofs.Common.{rules, tests}
use Rattle.std.specs.List.{prefix_len}
use Rattle.std.proofs.lemmas.Iterator.{YieldsList-from_slice}
use Rattle.std.proofs.lemmas.Iterator.Adapters.{YieldsList-from_skip}
use Rattle.std.proofs.lemmas.Iterator.Search.{YieldsList-from_take_while}
use Rattle.std.proofs.lemmas.Iterator.Consumers.{count_from_yields_List}
use Rattle.std.proofs.lemmas.List.Folds.{length-prefix_len}
use Rattle.std.specs.Char.{is_ascii_hexdigit}
use Rattle.record_reason.proofs.SpellingLaws.{leading-prefix}
use Rattle.record_reason.proofs.spelling.first_other.Goals as goal

pub returns : goal.returns
returns c =
    let from = c.args.from in
    let rest : List ℕ = drop from c.args.line.now in
    let all : c.count.result ≡ length (take (prefix_len is_ascii_hexdigit rest) rest) =
    count_from_yields_List c.take_while.result c.count.result c.count.ensures.ran
    (YieldsList-from_take_while _ is_ascii_hexdigit (YieldsList-from_skip from (YieldsList-from_slice c.args.line.now cc) cc)
    c.take_while.ensures.closure c.take_while.ensures.done (λ x b q k. search (rules, tests))) in
    ap (λ (n : ℕ). from + n) (all ∙ length-prefix_len is_ascii_hexdigit rest ∙ leading-prefix rest)
