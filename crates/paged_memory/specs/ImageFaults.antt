-- The first fault of lines that are no image's text. (docs/formats.md, "Image"; this project's own)
use Rattle.std.specs.Prelude.{◌≡◌, ◌≢◌, ◌⊎◌, ℕ, ◌+◌, ◌≤◌, List, [], ◌∷◌, ◌++◌, Result, Ok, Err}
use Rattle.std.specs.List.{All}
use Rattle.std.specs.FinMap as finmap
use Rattle.std.specs.declared.cmp.Ordering.TheVariants.{Less}
use Rattle.paged_memory.specs.declared.key.Key.{Key}
use Rattle.paged_memory.specs.declared.fault.ImageFault.{ImageFault}
use Rattle.paged_memory.specs.declared.fault.ImageFault.TheVariants.{BadHeader, BadLine, OutOfOrder, NoEnd, AfterEnd}
use Rattle.paged_memory.specs.declared.text_version.TextVersion.{TextVersion}
use Rattle.paged_memory.specs.Images.{Memory}
use Rattle.paged_memory.specs.KeyOrder.{key_cmp}
use Rattle.paged_memory.specs.TextVersions.{full, header, most_in}
use Rattle.paged_memory.specs.ImageText.{end_line, page_line, page_lines, IsEntry, IsImage, IsTextOf}

-- the lines begin with a version's first line and the page lines of an image, for which the version has room, and these are left
pub record Begins (version : TextVersion) (lines : List (List ℕ)) (memory : Memory) (rest : List (List ℕ)) : Type 0 where
  pub lines_are : lines ≡ header version ∷ page_lines memory ++ rest
  pub image : IsImage memory
  pub room : finmap.len memory ≤ most_in version

abbrev pub IsPageLine : List ℕ → Key → List ℕ → Type 0
IsPageLine line key page = IsEntry key page × (line ≡ page_line key page)

-- the key is above all that the image has
abbrev pub IsAboveAll : Memory → Key → Type 0
IsAboveAll memory key = All (λ entry. key_cmp entry.0 key ≡ Less) (finmap.entries memory)

-- the number of the line that follows the header and the image's page lines
abbrev pub next_number : Memory → ℕ
next_number memory = finmap.len memory + 2

-- of faults in the order in which they are judged: this one if it applies, else what the rest says
abbrev pub FirstOf : Type 0 → ImageFault → (ImageFault → Type 0) → ImageFault → Type 0
FirstOf Applies this Rest fault = (Applies × (fault ≡ this)) ⊎ (¬ Applies × Rest fault)

abbrev pub NoFault : ImageFault → Type 0
NoFault fault = ⊥

-- what is wrong with the line that follows an image's page lines, and isn't `end`: the first of these that applies
abbrev pub IsLineFault : TextVersion → Memory → List ℕ → ImageFault → Type 0
IsLineFault version memory line fault = (line ≢ end_line) × (
    FirstOf (¬ ((key : Key) × (page : List ℕ) × IsPageLine line key page)) (BadLine (next_number memory))
    (FirstOf ((key : Key) × (page : List ℕ) × IsPageLine line key page × ¬ (IsAboveAll memory key)) (OutOfOrder (next_number memory))
    (FirstOf (finmap.len memory ≡ most_in version) (full version) NoFault)) fault)

abbrev pub IsFaultAfter : List (List ℕ) → ImageFault → Type 0
IsFaultAfter lines fault = (version : TextVersion) × (memory : Memory) × (line : List ℕ) × (rest : List (List ℕ)) × Begins version lines memory (line ∷ rest) × IsLineFault version memory line fault

abbrev pub IsFirstFault : List (List ℕ) → ImageFault → Type 0
IsFirstFault lines BadHeader = (version : TextVersion) (rest : List (List ℕ)) → lines ≢ header version ∷ rest
IsFirstFault lines NoEnd = (version : TextVersion) × (memory : Memory) × Begins version lines memory []
IsFirstFault lines AfterEnd = (version : TextVersion) × (memory : Memory) × (line : List ℕ) × (rest : List (List ℕ)) × Begins version lines memory (end_line ∷ line ∷ rest)
IsFirstFault lines fault = IsFaultAfter lines fault

-- what reading these lines answers
abbrev pub IsAnswer : List (List ℕ) → Result Memory ImageFault → Type 0
IsAnswer lines (Ok memory) = IsTextOf lines memory
IsAnswer lines (Err fault) = IsFirstFault lines fault
