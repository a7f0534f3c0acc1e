-- Laws that Theorems/LayoutPadding rests on.
use Rattle.std.specs.Prelude.{◌≡◌, refl, false, [], ◌∷◌, pos, replicate, None, Some}
use Rattle.bankdef.specs.Check.{no_bank}
use Rattle.bankdef.specs.declared.Bankdefs.{Bankdefs}
use Rattle.iter.specs.Distance.{distance_of}
use Rattle.iter.specs.Step.{start_of, seen_of, moved_on, advanced_of, seen_skips, advance_skips, step_of}
use Rattle.nodes.specs.Lists.{Lists, lists}
use Rattle.resolver.specs.Once.{walk_to}
use Rattle.resolver.specs.Padding.{sum_in, padding_of}
use Rattle.resolver.specs.Passes.{program, row_of_pass}

-- ---- cases

-- a bank of unit 8 with label alignment 16
abbrev pub label_bank : Bankdefs
label_bank =
    record {
      defs =
          record { unit = 8; start = pos 0; size = None; offset = None; align = Some 16; fill = false; fill_bit = 0 }
          ∷ replicate 15 no_bank;
      len = 1;
    }

-- 4 bits; a label from 4 to 16; `align 32` from 16 to 32; `addr 100`; a constant of depth 0 from 100 to 112; one of depth 1
abbrev pub padded : Lists
padded =
    lists (4 ∷ 2 ∷ 8 ∷ 9 ∷ 3 ∷ 3 ∷ []) (0 ∷ 0 ∷ 0 ∷ 0 ∷ 0 ∷ 1 ∷ []) (4 ∷ 0 ∷ 32 ∷ 100 ∷ 0 ∷ 0 ∷ []) (0 ∷ 0 ∷ 0 ∷ 0 ∷ 0 ∷ 0 ∷ []) 1
    (240 ∷ [])

-- 12 + 16 + 12 bits are lost, and 1 + 2 + 1 whole units: each skip's are rounded down by themselves, so that they are not 40 bits over 8
pub padded-case : padding_of (program label_bank padded) (row_of_pass padded 1) 0 ≡ record { bits = 40; units = 4 }
unfolding walk_to sum_in start_of seen_of moved_on advanced_of seen_skips advance_skips step_of distance_of
padded-case = refl
