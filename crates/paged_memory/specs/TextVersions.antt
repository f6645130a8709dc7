-- The versions of an image's text: the first line of each, and how many pages it has at most. (docs/formats.md, "Image"; this
-- project's own)
use Rattle.std.specs.Prelude.{ℕ, List, codes, nat_le, if◌then◌else◌}
use Rattle.paged_memory.specs.declared.fault.ImageFault.{ImageFault}
use Rattle.paged_memory.specs.declared.fault.ImageFault.TheVariants.{TooManyPages, SixtyFifthPage}
use Rattle.paged_memory.specs.declared.text_version.TextVersion.{TextVersion}
use Rattle.paged_memory.specs.declared.text_version.TextVersion.TheVariants.{One, Two}
use Rattle.paged_memory.specs.Images.{most_pages, most_large}

unfoldable pub header : TextVersion → List ℕ
header One = codes "module-image 1"
header Two = codes "module-image 2"

abbrev pub most_in : TextVersion → ℕ
most_in One = most_pages
most_in Two = most_large

-- what is wrong with one page more
abbrev pub full : TextVersion → ImageFault
full One = TooManyPages
full Two = SixtyFifthPage

-- the first version that has room for so many pages
abbrev pub version_for : ℕ → TextVersion
version_for count = if nat_le count most_pages then One else Two
