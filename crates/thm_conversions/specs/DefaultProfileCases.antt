-- Each rule broken by a layout with one bank, and by the same layout with a bank 1, by computation.
use Rattle.std.specs.Prelude.{ℕ, ◌≡◌, false, [], ◌∷◌, pos, replicate, Option, Some, Err, None}
use Rattle.prelude.specs.declared.Refusal.TheVariants.{OffProfile}
use Rattle.prelude.specs.Verdict.{Verdict, Accepted}
use Rattle.bankdef.specs.Check.{no_bank}
use Rattle.bankdef.specs.declared.Bankdef.{Bankdef}
use Rattle.nodes.specs.Lists.{Lists, lists}
use Rattle.build_profile.specs.Pages.{no_pages, pages_of}
use Rattle.build_profile.specs.Rules.{rules_of}
use Rattle.thm_conversions.specs.Widened.{two_banks, with_switch}

abbrev bank : ℕ → Option ℕ → Option ℕ → Option ℕ → Bankdef
bank unit size offset align =
    record { unit = unit; start = pos 0; size = size; offset = offset; align = align; fill = false; fill_bit = 0 }

-- a label and a node of this kind, in two rows
abbrev nodes : ℕ → ℕ → Lists
nodes kind number = lists (2 ∷ kind ∷ []) (0 ∷ 0 ∷ []) (0 ∷ 8 ∷ 0 ∷ number ∷ []) (0 ∷ 0 ∷ 0 ∷ 0 ∷ []) 2 []

-- both answers, by the bank, the nodes and the page size
abbrev both : Bankdef → Lists → ℕ → (Verdict) × (Verdict)
both d l page = (rules_of (record { defs = d ∷ replicate 15 no_bank; len = 1 }) l page, rules_of (two_banks d) (with_switch l) page)

pub record RaisedCases : Type 0 where
  pub kept : both (bank 8 (Some 32) (Some 48) (Some 8)) (nodes 8 8) 16 ≡ (Accepted, Accepted)
  -- "page size (place 0)" stays
  pub page-24 : both (bank 8 (Some 32) (Some 48) (Some 8)) (nodes 8 8) 24 ≡ (Err (OffProfile 1 0), Err (OffProfile 1 0))
  -- other rules on banks become bank 1's
  pub label-6 : both (bank 8 (Some 32) (Some 48) (Some 6)) (nodes 8 8) 16 ≡ (Err (OffProfile 2 0), Err (OffProfile 2 1))
  pub offset-8 : both (bank 8 (Some 32) (Some 8) None) (nodes 8 8) 16 ≡ (Err (OffProfile 3 0), Err (OffProfile 3 1))
  pub unsized : both (bank 8 None (Some 48) None) (nodes 8 8) 16 ≡ (Err (OffProfile 4 0), Err (OffProfile 4 1))
  -- rule 5 stays bank 0's
  pub unit-10 : both (bank 10 None None None) (nodes 8 8) 16 ≡ (Err (OffProfile 5 0), Err (OffProfile 5 0))
  -- nodes are one higher
  pub align-12 : both (bank 8 None None None) (nodes 8 12) 16 ≡ (Err (OffProfile 2 1), Err (OffProfile 2 2))
  pub addr-12 : both (bank 8 None None None) (nodes 9 12) 16 ≡ (Err (OffProfile 6 1), Err (OffProfile 6 2))
  -- bank 1 has bank 0's pages
  pub pages : pages_of 16 (two_banks (bank 8 (Some 32) (Some 48) (Some 8))) ≡ no_pages ∷ 2 ∷ replicate 14 no_pages
