-- Document 01's cases marked P, "proved together, as one table with one statement": each row is a case through the definitions that the
-- contracts cite, and what document 01 says of it.
use Rattle.std.specs.Prelude.{◌≡◌, true, false, List, [], ◌∷◌, map, ℕ, pos, Some, None, Ok}
use Rattle.bankdef.specs.Cases.{two, alone}
use Rattle.bankdef.specs.declared.Bankdef.{Bankdef}
use Rattle.iter.specs.Distance.{tellable, no_skip, distance_of}
use Rattle.iter.specs.Cases.{unit_ten}
use Rattle.overlap_checker.specs.declared.Entry.{Entry}
use Rattle.overlap_checker.specs.Interval.{interval}
use Rattle.overlap_checker.specs.State.{empty_state, answer}
use Rattle.overlap_checker.specs.Folds.{state_after}
use Rattle.resolver.specs.Cases.{answer_for}
use Rattle.bitvec.specs.HexDigits.{hex_of}
use Rattle.blocks.specs.Spans.{spans_of}
use Rattle.blocks.specs.Walk.{blocks_of}
use Rattle.build_plan.specs.Placing.{closes_default, placing}
use Rattle.iter.specs.Address.{output_position}
use Rattle.thm_cases.specs.Figures.{of_verdict, of_distance, of_blocks, of_resolution}

-- a case: what the definitions give, and what document 01 says
pub record Case : Type 0 where
  pub got : List ℕ
  pub said : List ℕ

abbrev case : List ℕ → List ℕ → Case
case got said = record { got = got; said = said }

-- "bank size 40": a bank of ten-bit words with an offset
abbrev forty : Bankdef
forty = record { unit = 10; start = pos 0; size = Some 40; offset = Some 0; align = None; fill = false; fill_bit = 0 }

-- ten bits of data, met at a position in bank 1 of two
abbrev ten_at : ℕ → List ℕ
ten_at position =
    of_verdict
    (placing (closes_default 2 false) 1 forty empty_state (record { index = 5; kind = 4; operand = 0; number = 10; state = 0 })
    (record { position = position; known = true }) (output_position forty position))

-- what the store answers to an offer after others
abbrev offered_after : List Entry → Entry → List ℕ
offered_after es e = of_verdict (answer (state_after empty_state es) e 0)

abbrev pub table : List Case
table =
    -- "unit 10, start 0, position 10, alignment 16: 6"; "position 16: 0"
    case (of_distance (distance_of unit_ten 10 16 0)) (6 ∷ [])
    ∷ case (of_distance (distance_of unit_ten 16 16 0)) (0 ∷ [])
    -- "banks (offset 0, size 8), (8, 8): apart"; "(0, 9), (8, 8): 3"; "(8, 8), (0, no size): 3"; "(0, 8), (8, no size): apart"
    ∷ case (of_verdict (two 0 (Some 8) 8 (Some 8))) (0 ∷ [])
    ∷ case (of_verdict (two 0 (Some 9) 8 (Some 8))) (3 ∷ 1 ∷ 2 ∷ [])
    ∷ case (of_verdict (two 8 (Some 8) 0 None)) (3 ∷ 1 ∷ 2 ∷ [])
    ∷ case (of_verdict (two 0 (Some 8) 8 None)) (0 ∷ [])
    -- "store (0, 8), (8, 8), offer (7, 1): 12, names (0, 8)"
    ∷ case (offered_after (interval 0 8 ∷ interval 8 8 ∷ []) (interval 7 1)) (12 ∷ 0 ∷ 8 ∷ [])
    -- "store (0, 8), offers (0, 0) accepted, then (4, 4): 12"
    ∷ case (offered_after (interval 0 8 ∷ []) (interval 0 0)) (0 ∷ [])
    ∷ case (offered_after (interval 0 8 ∷ interval 0 0 ∷ []) (interval 4 4)) (12 ∷ 0 ∷ 8 ∷ [])
    -- "bank size 40: position 30, size 10 passes, position 31 gives 10"
    ∷ case (ten_at 30) (0 ∷ [])
    ∷ case (ten_at 31) (10 ∷ 5 ∷ [])
    -- "fill alone, offset 0: size 1 gives length 0, size 2 gives 2"
    ∷ case (alone 1 ∷ []) (0 ∷ [])
    ∷ case (alone 2 ∷ []) (2 ∷ [])
    -- "spans (0, 8), (4, 0), (8, 8): blocks (0, 8), (8, 8). Without the middle one: (0, 16)"
    ∷ case (of_blocks (blocks_of (spans_of (0 ∷ 4 ∷ 8 ∷ []) (8 ∷ 0 ∷ 8 ∷ [])))) (0 ∷ 8 ∷ 8 ∷ 8 ∷ [])
    ∷ case (of_blocks (blocks_of (spans_of (0 ∷ 8 ∷ []) (8 ∷ 8 ∷ [])))) (0 ∷ 16 ∷ [])
    -- "all resolved: limits 0, 1, 2 give K 0, 1, 1 and run 1, 1, 2"
    ∷ case (of_resolution (answer_for 0).settled (answer_for 0).passes) (0 ∷ 1 ∷ [])
    ∷ case (of_resolution (answer_for 1).settled (answer_for 1).passes) (1 ∷ 1 ∷ [])
    ∷ case (of_resolution (answer_for 2).settled (answer_for 2).passes) (1 ∷ 2 ∷ [])
    -- "ten ones in hex: `ffc`", whatever the bytes hold past them
    ∷ case (hex_of (255 ∷ 255 ∷ []) 10) (102 ∷ 102 ∷ 99 ∷ [])
    ∷ []

-- The cases marked P hold.
pub record Cases : Type 0 where
  -- "alignment 0 at any address: 0"
  pub any : (def : Bankdef) (position node : ℕ) → tellable def ≡ true → distance_of def position 0 node ≡ Ok no_skip
  -- every row of the table
  pub rows : map (λ (c : Case). c.got) table ≡ map (λ (c : Case). c.said) table
