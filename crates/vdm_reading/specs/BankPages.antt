-- The pages of a bank that have statistics (VDM), by their numbers: page p of bank b has 256 * b + p. (OIF-CMIS-05.0, BankSelect and
-- PageSelect, bytes 126 and 127; "VDM Advertisement and Control", page 2Fh)
use Rattle.std.specs.Prelude.{◌≡◌, ◌⊎◌, ◌≤◌, ℕ, ◌+◌, ◌*◌, List, Some, map}
use Rattle.std.specs.FinMap as finite
use Rattle.bus_model.specs.declared.device.Dev.TheVariants.{A0}
use Rattle.observables.specs.Pages.{pages}
use Rattle.paged_memory.specs.declared.key.Key.{Key}
use Rattle.paged_memory.specs.Images.{Memory}
use Rattle.paged_memory.specs.Keys.{page_key, upper_key}

abbrev pub numbered : ℕ → ℕ → ℕ
numbered bank page = 256 * bank + page

-- the page that has the groups of a bank, and the control byte
abbrev pub groups_page : ℕ → ℕ
groups_page bank = numbered bank 0x2F

abbrev pub numbers_of : ℕ → List ℕ → List ℕ
numbers_of bank pages = map (λ (page : ℕ). numbered bank page) pages

-- those that the memory advertises
abbrev pub bank_pages : Memory → ℕ → List ℕ
bank_pages memory bank = numbers_of bank (pages memory bank)

-- page 2Fh, or one of 20h to 2Ch
abbrev pub IsOfStatistics : ℕ → Type 0
IsOfStatistics page = (page ≡ 0x2F) ⊎ ((0x20 ≤ page) × (page ≤ 0x2C))

-- page 01h, or such a page of this bank
abbrev pub IsOfBank : ℕ → Key → Type 0
IsOfBank bank key = (key ≡ page_key 0x01) ⊎ ((page : ℕ) × (key ≡ upper_key A0 bank page) × IsOfStatistics page)

-- so is each half of the image
abbrev pub AreOfBank : ℕ → Memory → Type 0
AreOfBank bank image = (key : Key) (bytes : List ℕ) → finite.get image key ≡ Some bytes → IsOfBank bank key
