-- The paged device's six rules (document 02, Ticket 9), and the first that is broken.
use Rattle.std.specs.Prelude.{ℕ, ◌%◌, Bool, true, false, not, ◌||◌, eqb, leb, get_or, length, Option, None, Some, Err}
use Rattle.prelude.specs.Pick.{pick}
use Rattle.prelude.specs.declared.Refusal.TheVariants.{OffProfile}
use Rattle.prelude.specs.Verdict.{Verdict, Accepted}
use Rattle.bankdef.specs.declared.Bankdefs.{Bankdefs}
use Rattle.nodes.specs.FaultExactly.{shown_in}
use Rattle.nodes.specs.Kinds.{is_align, is_addr}
use Rattle.nodes.specs.Lists.{Lists, first_of}
use Rattle.resolver.specs.Once.{bank_record}
use Rattle.resolver.specs.Passes.{first}
use Rattle.build_profile.specs.OneBit.{one_bit}
use Rattle.build_profile.specs.Standing.{bank_of_node}

-- ---- what a bank or a node keeps

-- "every nonzero alignment must have exactly one bit set"
abbrev pub aligned : ℕ → Bool
aligned a = eqb a 0 || one_bit a

-- a bank's label alignment, if it has one
abbrev pub bank_aligned : Option ℕ → Bool
bank_aligned None = true
bank_aligned (Some a) = aligned a

-- of an `align` node, by its kind and its number
abbrev pub node_aligned : ℕ → ℕ → Bool
node_aligned kind number = not (is_align kind) || aligned number

abbrev pub multiple : ℕ → ℕ → Bool
multiple x of = eqb (x % of) 0

-- "every bank with an offset must have its offset on a page"
abbrev pub on_page : ℕ → Option ℕ → Bool
on_page page None = true
on_page page (Some offset) = multiple offset page

-- "and a size of whole pages", "(none breaks it)"
abbrev pub whole_pages : ℕ → Option ℕ → Option ℕ → Bool
whole_pages page None size = true
whole_pages page (Some offset) None = false
whole_pages page (Some offset) (Some size) = multiple size page

-- "address units are 8 or 16"
abbrev pub unit_kept : ℕ → Bool
unit_kept unit = eqb unit 8 || eqb unit 16

-- "`addr` goes only to a multiple of its bank's unit": of a node, by its kind and its number
abbrev pub addr_kept : ℕ → ℕ → ℕ → Bool
addr_kept unit kind number = not (is_addr kind) || multiple number unit

-- of a node's number alone: rule 2 for an alignment, else rule 6
abbrev pub kept_by : ℕ → ℕ → ℕ → Bool
kept_by rule number unit = pick (eqb rule 2) (aligned number) (multiple number unit)

-- ---- the first of some that does not keep a rule

-- the first of n that does not, or n
abbrev pub first_broken : (ℕ → Bool) → ℕ → ℕ
first_broken keeps n = first (λ k. not (keeps k)) 0 n

-- all of n do
abbrev pub all : (ℕ → Bool) → ℕ → Bool
all keeps n = leb n (first_broken keeps n)

-- "The answer names the first rule broken .., each ascending"; "place: rule and bank or node"
abbrev pub ruled : ℕ → (ℕ → Bool) → ℕ → Verdict
ruled rule keeps n = pick (all keeps n) Accepted (Err (OffProfile rule (first_broken keeps n)))

-- ---- the rules

-- the number that row r gives node i
abbrev pub number_in : Lists → ℕ → ℕ → ℕ
number_in l r i = (shown_in l r i).number

-- node i keeps rule 2 "in every row"
abbrev pub aligns_kept : Lists → ℕ → Bool
aligns_kept l i = all (λ r. node_aligned (get_or l.kinds i 0) (number_in l r i)) l.rows

-- and rule 6, in the bank in force there
abbrev pub addrs_kept : Bankdefs → Lists → ℕ → Bool
addrs_kept banks l i =
    all (λ r. addr_kept (bank_record banks (bank_of_node l.kinds l.operands i)).unit (get_or l.kinds i 0) (number_in l r i)) l.rows

-- "1 to 6 in this order, each ascending: page size (place 0), alignments (banks, then nodes in every row), offset, size (none breaks it), unit, `addr`."
unfoldable pub rules_of : Bankdefs → Lists → ℕ → Verdict
rules_of banks l page =
    first_of (ruled 1 (λ k. one_bit page) 1)
    (first_of (ruled 2 (λ k. bank_aligned (bank_record banks k).align) banks.len)
    (first_of (ruled 2 (aligns_kept l) (length l.kinds))
    (first_of (ruled 3 (λ k. on_page page (bank_record banks k).offset) banks.len)
    (first_of (ruled 4 (λ k. whole_pages page (bank_record banks k).offset (bank_record banks k).size) banks.len)
    (first_of (ruled 5 (λ k. unit_kept (bank_record banks k).unit) banks.len)
    (ruled 6 (addrs_kept banks l) (length l.kinds)))))))
