-- Each bank's pages (document 02, Ticket 9).
use Rattle.std.specs.Prelude.{ℕ, ◌-◌, ◌/◌, List, ◌++◌, map, replicate, Option, None, Some}
use Rattle.prelude.specs.Limits.{max_banks}
use Rattle.bankdef.specs.Check.{banks_of}
use Rattle.bankdef.specs.declared.Bankdef.{Bankdef}
use Rattle.bankdef.specs.declared.Bankdefs.{Bankdefs}

-- the word for none
abbrev pub no_pages : ℕ
no_pages = 18446744073709551615

-- "its size over the page size, none without an offset"
abbrev pub pages_by : ℕ → Option ℕ → Option ℕ → ℕ
pages_by page None size = no_pages
pages_by page (Some offset) None = no_pages
pages_by page (Some offset) (Some size) = size / page

abbrev pub pages_in : ℕ → Bankdef → ℕ
pages_in page b = pages_by page b.offset b.size

-- no bank has any
abbrev pub none_paged : List ℕ
none_paged = replicate max_banks no_pages

-- "then with each bank's pages": of the banks listed, and none from the table's count on
unfoldable pub pages_of : ℕ → Bankdefs → List ℕ
pages_of page banks = map (pages_in page) (banks_of banks) ++ replicate (max_banks - banks.len) no_pages
