-- Raising the pass limit is harmless (document 02, Ticket 14): a build that is accepted with K below its limit is the same for every limit above
-- K, in its answer, padding too, and in all that is lent. And the passes run never exceed the larger of 1 and the limit, refused builds included.
use Rattle.std.specs.Prelude.{ℕ}
use Rattle.resolver.specs.Layout.{with_limit as limited}
use Rattle.output.specs.Output.{Input}

-- the same banks, lists and other choices, with another limit
abbrev pub with_limit : Input → ℕ → Input
with_limit b limit = record { banks = b.banks; lists = b.lists; choices = limited b.choices limit }
