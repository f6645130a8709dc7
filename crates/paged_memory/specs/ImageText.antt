-- The text of an image: its version's first line, a line for each page by rising keys, and `end`. (docs/formats.md, "Image"; this
-- project's own)
use Rattle.std.specs.Prelude.{◌≡◌, ℕ, ◌<◌, ◌≤◌, List, [], ◌∷◌, ◌++◌, length, map, codes, IsTrue}
use Rattle.std.specs.List.{AllByRecursion}
use Rattle.std.specs.FinMap as finmap
use Rattle.hex.specs.Hex.{IsBytes, encode_lower}
use Rattle.text_lines.specs.Words.{spaced}
use Rattle.bus_model.specs.declared.device.Dev.{Dev}
use Rattle.bus_model.specs.DeviceName.{device_name}
use Rattle.paged_memory.specs.declared.key.Half.{Half}
use Rattle.paged_memory.specs.declared.key.Half.TheVariants.{Lower, Upper}
use Rattle.paged_memory.specs.declared.key.Key.{Key}
use Rattle.paged_memory.specs.declared.text_version.TextVersion.{TextVersion}
use Rattle.paged_memory.specs.KeyOrder.{key_cmp}
use Rattle.paged_memory.specs.Images.{Memory}
use Rattle.paged_memory.specs.TextVersions.{header, most_in}

unfoldable pub end_line : List ℕ
end_line = codes "end"

-- `lower A0`, or `upper A0 00 01` with the bank and the page
abbrev pub half_words : Half → Dev → ℕ → ℕ → List (List ℕ)
half_words Lower dev bank page = codes "lower" ∷ device_name dev ∷ []
half_words Upper dev bank page = codes "upper" ∷ device_name dev ∷ encode_lower (bank ∷ []) ∷ encode_lower (page ∷ []) ∷ []

abbrev pub key_words : Key → List (List ℕ)
key_words key = half_words key.half key.dev key.bank key.page

abbrev pub key_text : Key → List ℕ
key_text key = spaced (key_words key)

-- the key, and 256 digits for the bytes
abbrev pub page_words : Key → List ℕ → List (List ℕ)
page_words key page = key_words key ++ encode_lower page ∷ []

abbrev pub page_line : Key → List ℕ → List ℕ
page_line key page = spaced (page_words key page)

abbrev pub page_lines : Memory → List (List ℕ)
page_lines memory = map (λ entry. page_line entry.0 entry.1) (finmap.entries memory)

abbrev pub image_lines : TextVersion → Memory → List (List ℕ)
image_lines version memory = header version ∷ page_lines memory ++ end_line ∷ []

-- banks and pages are numbers of one byte
pub record IsKey (key : Key) : Type 0 where
  pub bank : key.bank < 256
  pub number : key.page < 256

-- 128 bytes
pub record IsPage (page : List ℕ) : Type 0 where
  pub len : length page ≡ 128
  pub bytes : IsBytes page

pub record IsEntry (key : Key) (page : List ℕ) : Type 0 where
  pub key_fits : IsKey key
  pub page_fits : IsPage page

-- such pages by rising keys
pub record AreEntries (entries : List (Key × List ℕ)) : Type 0 where
  pub sorted : IsTrue (finmap.is_sorted key_cmp entries)
  pub each : AllByRecursion (λ entry. IsEntry entry.0 entry.1) entries

-- what an image holds: such pages
pub record IsImage (memory : Memory) : Type 0 where
  pub each : AllByRecursion (λ entry. IsEntry entry.0 entry.1) (finmap.entries memory)

-- these lines are the text of an image in a version that has room for its pages
pub record IsTextOf (lines : List (List ℕ)) (memory : Memory) : Type 0 where
  pub version : TextVersion
  pub lines_are : lines ≡ image_lines version memory
  pub image : IsImage memory
  pub room : finmap.len memory ≤ most_in version
