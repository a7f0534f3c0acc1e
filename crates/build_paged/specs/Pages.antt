-- Builds of layouts that keep the profile, and pages: every written bit stands in one of its bank's pages; with full fill over every bank that
-- has an offset, the image's length is whole pages.
use Rattle.std.specs.Prelude.{ℕ, ◌+◌, ◌<◌, ◌≤◌, ◌≡◌, Some}
use Rattle.bankdef.specs.declared.Bankdefs.{Bankdefs}
use Rattle.resolver.specs.Once.{bank_record}
use Rattle.output.specs.Calls.{Accepted, nodes_in, visit_in}
use Rattle.output.specs.ItemBits.{item_for}
use Rattle.build_visits.specs.Items.{Item, end_of}

-- ---- a written item stands within its bank

abbrev pub banks_in : Accepted → Bankdefs
banks_in a = a.call.given.banks

-- Item x is that of written node n, which stands in a bank with an offset and a size; it lies between the two.
pub record Within (a : Accepted) (x : Item) : Type 0 where
  pub node : ℕ
  pub listed : node < nodes_in a.call
  pub offset : ℕ
  pub size : ℕ
  pub placed : (bank_record (banks_in a) (visit_in a.call node).bank).offset ≡ Some offset
  pub sized : (bank_record (banks_in a) (visit_in a.call node).bank).size ≡ Some size
  pub is : x ≡ item_for (visit_in a.call node) offset
  pub from : offset ≤ x.at
  pub to : end_of x ≤ offset + size
