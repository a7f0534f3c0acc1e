-- Cases of Ticket 9: answers of `dk_profile`, by its contract, for layouts written out; each is what the sentences say. Proved together.
use Rattle.std.specs.Prelude.{◌≡◌, refl, Bool, true, ◌&&◌, List, [], ◌∷◌, ℕ, zero, suc, ◌≤◌, leb, pos, get_or, replicate}
use Rattle.std.proofs.Common.{arith, leb-true}
use Rattle.std.specs.Int.Count.{ones, ones_in}
use Rattle.prelude.specs.Laws.Bools.{both}
use Rattle.bankdef.specs.Check.{first_pair}
use Rattle.bankdef.specs.Search.{first_where}
use Rattle.form_fields.specs.Columns.{column}
use Rattle.nodes.specs.Lists.{any_row_fault, nodes_to, lists_of}
use Rattle.resolver.specs.Passes.{first}
use Rattle.build_profile.specs.Pages.{pages_of}
use Rattle.build_profile.specs.Profile.{verdict_of, profile_of}
use Rattle.build_profile.specs.Rules.{rules_of}
use Rattle.build_profile.specs.Standing.{bank_before}
use Rattle.c_tables.specs.Tables.{bank_in, count_of}
use Rattle.c_answers.specs.Told.{profile_told}
use Rattle.c_answers.specs.declared.DkProfile.{DkProfile}
use Rattle.says.specs.Build.{Given}
use Rattle.meets_sentences.specs.Typed.{Typed}
use Rattle.meets_build.specs.Laws.Shown.{listed}
use Rattle.meets_build.specs.Laws.Table.{table}
use Rattle.says.specs.Profile.{ProfileSays}
use Rattle.meets_profile.specs.Theorems.Meets.{profile-meets}

-- Bank 0 has a unit of 16 and nothing else; bank 1 what is written here, with flags 1 for a size, 2 for an offset, 4 for a label alignment. Nodes by kind
-- and operand, and two rows of numbers with states 0.
abbrev layout : (unit size offset align flags : ℕ) (kinds operands numbers states : List ℕ) → Given
layout unit size offset align flags kinds operands numbers states = record {
  units = 16 ∷ unit ∷ [];
  starts = pos 0 ∷ pos 0 ∷ [];
  bank_sizes = 0 ∷ size ∷ [];
  bank_offsets = 0 ∷ offset ∷ [];
  aligns = 0 ∷ align ∷ [];
  flags = 0 ∷ flags ∷ [];
  fill_bits = 0 ∷ 0 ∷ [];
  kinds = kinds;
  operands = operands;
  numbers = numbers;
  states = states;
  rows = 2;
  values = [];
  limit = 1;
  fill = 0;
  closed = 0;
}

-- bank 1 alone, without nodes
abbrev bank : (unit size offset align flags : ℕ) → Given
bank unit size offset align flags = layout unit size offset align flags [] [] [] []

-- bank 0, where a node of this kind stands; a switch to bank 1, whose unit is 8; and a node of this kind there
abbrev nodes : (kind : ℕ) (numbers : List ℕ) → Given
nodes kind numbers = layout 8 0 0 0 0 (kind ∷ 1 ∷ kind ∷ []) (0 ∷ 1 ∷ 0 ∷ []) numbers (replicate 6 0)

abbrev no : (rule at : ℕ) → DkProfile
no rule at = record { refusal = 19; place = rule; second = at; pages = replicate 16 0 }

abbrev yes : (pages : ℕ) → DkProfile
yes pages = record { refusal = 0; place = 0; second = 0; pages = 18446744073709551615 ∷ pages ∷ replicate 14 18446744073709551615 }

abbrev none : ℕ
none = 18446744073709551615

pub record ProfileCases : Type 0 where
  -- two pages at the third, a label alignment of 8
  two-pages : ProfileSays (bank 8 32 48 8 7) 16 (yes 2)
  -- "Page size 0 breaks rule 1"
  page-0 : ProfileSays (bank 8 32 48 8 7) 0 (no 1 0)
  page-24 : ProfileSays (bank 8 32 48 8 7) 24 (no 1 0)
  -- "Alignment 0 or flag clear is fine."
  align-6 : ProfileSays (bank 8 32 48 6 7) 16 (no 2 1)
  align-0 : ProfileSays (bank 8 32 48 0 7) 16 (yes 2)
  align-clear : ProfileSays (bank 8 32 48 6 3) 16 (yes 2)
  offset-8 : ProfileSays (bank 8 32 8 0 3) 16 (no 3 1)
  -- "Size 0 with an offset is 0 pages; no size with an offset breaks rule 4."
  size-0 : ProfileSays (bank 8 0 48 0 3) 16 (yes 0)
  unsized : ProfileSays (bank 8 32 48 0 2) 16 (no 4 1)
  size-24 : ProfileSays (bank 8 24 48 0 3) 16 (no 4 1)
  -- "none without an offset"
  nowhere : ProfileSays (bank 8 24 8 0 1) 16 (yes none)
  unit-10 : ProfileSays (bank 10 32 48 0 3) 16 (no 5 1)
  -- "nodes in every row": node 2 in the second row
  align-row-2 : ProfileSays (nodes 8 (8 ∷ 0 ∷ 8 ∷ 8 ∷ 0 ∷ 12 ∷ [])) 16 (no 2 2)
  -- 24 is a multiple of bank 1's unit, not of bank 0's
  addr-24 : ProfileSays (nodes 9 (24 ∷ 0 ∷ 24 ∷ 16 ∷ 0 ∷ 8 ∷ [])) 16 (no 6 0)
  addr-row-2 : ProfileSays (nodes 9 (16 ∷ 0 ∷ 24 ∷ 16 ∷ 0 ∷ 12 ∷ [])) 16 (no 6 2)
  addr-kept : ProfileSays (nodes 9 (16 ∷ 0 ∷ 24 ∷ 32 ∷ 0 ∷ 8 ∷ [])) 16 (yes none)

-- ---- numbers within their types

abbrev pub within : ℕ → List ℕ → Bool
within top [] = true
within top (x ∷ l) = leb x top && within top l

pub small : (top : ℕ) (l : List ℕ) → within top l ≡ true → (b : ℕ) → get_or l b 0 ≤ top
small top [] e b = omega arith
small top (x ∷ l) e zero = leb-true x top (both (leb x top) (within top l) e).0
small top (x ∷ l) e (suc b) = small top l (both (leb x top) (within top l) e).1 b

module _ (unit size offset align flags : ℕ) (kinds operands numbers states : List ℕ) where
  typed : within 65535 (unit ∷ []) ≡ true → within 4294967295 (size ∷ []) ≡ true → within 4294967295 (offset ∷ []) ≡ true
      → within 4294967295 (align ∷ []) ≡ true → within 4294967295 numbers ≡ true → Typed (layout unit size offset align flags kinds operands numbers states)
  typed u s o a n = record {
    units = small 65535 (16 ∷ unit ∷ []) u;
    sizes = small 4294967295 (0 ∷ size ∷ []) s;
    offsets = small 4294967295 (0 ∷ offset ∷ []) o;
    aligns = small 4294967295 (0 ∷ align ∷ []) a;
    numbers = small 4294967295 numbers n;
    limit = omega arith;
  }

-- an answer that is the definition's
abbrev Answer : Given → ℕ → DkProfile → Type 0
Answer g page r = r ≡ profile_told (profile_of (table g) (listed g) g.fill page)

of-bank : (unit size offset align flags page : ℕ) (r : DkProfile) → within 65535 (unit ∷ []) ≡ true → within 4294967295 (size ∷ []) ≡ true
    → within 4294967295 (offset ∷ []) ≡ true → within 4294967295 (align ∷ []) ≡ true → Answer (bank unit size offset align flags) page r
    → ProfileSays (bank unit size offset align flags) page r
of-bank unit size offset align flags page r u s o a e =
    profile-meets (bank unit size offset align flags) (typed unit size offset align flags [] [] [] [] u s o a refl) page r (record { answer = e })

of-nodes : (kind : ℕ) (numbers : List ℕ) (r : DkProfile) → within 4294967295 numbers ≡ true → Answer (nodes kind numbers) 16 r
    → ProfileSays (nodes kind numbers) 16 r
of-nodes kind numbers r n e =
    profile-meets (nodes kind numbers)
    (typed 8 0 0 0 0 (kind ∷ 1 ∷ kind ∷ []) (0 ∷ 1 ∷ 0 ∷ []) numbers (replicate 6 0) refl refl refl refl n) 16 r (record { answer = e })

pub profile-cases : ProfileCases
unfolding verdict_of rules_of first bank_before ones ones_in pages_of first_where first_pair lists_of nodes_to any_row_fault bank_in count_of column
profile-cases =
    record {
      two-pages = of-bank 8 32 48 8 7 16 (yes 2) refl refl refl refl refl;
      page-0 = of-bank 8 32 48 8 7 0 (no 1 0) refl refl refl refl refl;
      page-24 = of-bank 8 32 48 8 7 24 (no 1 0) refl refl refl refl refl;
      align-6 = of-bank 8 32 48 6 7 16 (no 2 1) refl refl refl refl refl;
      align-0 = of-bank 8 32 48 0 7 16 (yes 2) refl refl refl refl refl;
      align-clear = of-bank 8 32 48 6 3 16 (yes 2) refl refl refl refl refl;
      offset-8 = of-bank 8 32 8 0 3 16 (no 3 1) refl refl refl refl refl;
      size-0 = of-bank 8 0 48 0 3 16 (yes 0) refl refl refl refl refl;
      unsized = of-bank 8 32 48 0 2 16 (no 4 1) refl refl refl refl refl;
      size-24 = of-bank 8 24 48 0 3 16 (no 4 1) refl refl refl refl refl;
      nowhere = of-bank 8 24 8 0 1 16 (yes none) refl refl refl refl refl;
      unit-10 = of-bank 10 32 48 0 3 16 (no 5 1) refl refl refl refl refl;
      align-row-2 = of-nodes 8 (8 ∷ 0 ∷ 8 ∷ 8 ∷ 0 ∷ 12 ∷ []) (no 2 2) refl refl;
      addr-24 = of-nodes 9 (24 ∷ 0 ∷ 24 ∷ 16 ∷ 0 ∷ 8 ∷ []) (no 6 0) refl refl;
      addr-row-2 = of-nodes 9 (16 ∷ 0 ∷ 24 ∷ 16 ∷ 0 ∷ 12 ∷ []) (no 6 2) refl refl;
      addr-kept = of-nodes 9 (16 ∷ 0 ∷ 24 ∷ 32 ∷ 0 ∷ 8 ∷ []) (yes none) refl refl;
    }
