-- The pages of each bank: pages times page size is the size; none without an offset.
use Rattle.std.specs.Prelude.{ℕ, ◌-◌, ◌≡◌, get_or}
use Rattle.prelude.specs.Limits.{max_banks}
use Rattle.bankdef.specs.Check.{no_bank, banks_of}
use Rattle.bankdef.specs.declared.Bankdefs.{Bankdefs}
use Rattle.resolver.specs.Once.{bank_record}
use Rattle.build_profile.specs.Pages.{no_pages, pages_in, pages_of}
use Rattle.build_profile.specs.Laws.PageFacts.{each_of}

-- The word of every bank number is that of its record; a number that the table does not list has none.
pub pages-at : (banks : Bankdefs) (page k : ℕ) → get_or (pages_of page banks) k no_pages ≡ pages_in page (bank_record banks k)
unfolding pages_of
pages-at banks page k = each_of (pages_in page) no_bank (max_banks - banks.len) (banks_of banks) k
