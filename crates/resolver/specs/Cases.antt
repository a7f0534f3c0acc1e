-- Document 01's case "all resolved: limits 0, 1, 2 give K 0, 1, 1 and run 1, 1, 2", of a layout: one bank, no nodes and one row, so that every
-- pass is resolved.
use Rattle.std.specs.Prelude.{ℕ, false, [], ◌∷◌, pos, replicate, None, Ok}
use Rattle.bankdef.specs.Check.{no_bank}
use Rattle.bankdef.specs.declared.Bankdefs.{Bankdefs}
use Rattle.resolver.specs.Layout.{by_default, layout_of}
use Rattle.nodes.specs.Lists.{lists}
use Rattle.resolver.specs.declared.Resolution.{Resolution}

abbrev pub one_bank : Bankdefs
one_bank =
    record {
      defs = record { unit = 8; start = pos 0; size = None; offset = None; align = None; fill = false; fill_bit = 0 } ∷ replicate 15 no_bank;
      len = 1;
    }

-- the layout's answer for a limit
abbrev pub answer_for : ℕ → Resolution
answer_for m = layout_of one_bank (lists [] [] [] [] 1 []) (by_default m)

-- K, and the passes run
abbrev pub settled_at : ℕ → ℕ → Resolution
settled_at k run = record { settled = Ok k; passes = run }
