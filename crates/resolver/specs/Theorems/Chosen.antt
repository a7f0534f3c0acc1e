-- What a layout has of its choices: the limit, and whether the fill is one of the two. No pass reads which of the two it is, and nothing here reads
-- whether bank 0 may be used alone.
use Rattle.std.specs.Prelude.{ℕ, ◌≤◌, ◌≡◌}
use Rattle.std.proofs.Common.{le-leb}
use Rattle.bankdef.specs.declared.Bankdefs.{Bankdefs}
use Rattle.resolver.specs.Layout.{layout_of}
use Rattle.nodes.specs.Lists.{Lists, lists_of}
use Rattle.resolver.specs.declared.Choices.{Choices}

-- The list check is the same for both fills.
pub same-check-for-fills : (banks : ℕ) (l : Lists) (f g : ℕ) → f ≤ 1 → g ≤ 1 → lists_of banks l f ≡ lists_of banks l g
unfolding lists_of
same-check-for-fills banks l f g h k = rw (le-leb f 1 h, le-leb g 1 k)

module _ (banks : Bankdefs) (l : Lists) (one two : Choices) (limit : one.limit ≡ two.limit) where
  -- Choices that differ in `closed` alone get one answer.
  pub default-bank-unread : one.fill ≡ two.fill → layout_of banks l one ≡ layout_of banks l two
  unfolding layout_of
  default-bank-unread fill = rw (limit, fill)

  -- Inherited and full fill get one answer, K, refusal and passes run.
  pub same-for-fills : one.fill ≤ 1 → two.fill ≤ 1 → layout_of banks l one ≡ layout_of banks l two
  unfolding layout_of
  same-for-fills f g = rw (limit, same-check-for-fills banks.len l one.fill two.fill f g)
