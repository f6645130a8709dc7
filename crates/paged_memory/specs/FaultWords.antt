-- How a line names a fault of an image: a code, and then its values. (docs/formats.md, "Faults"; this project's own)
use Rattle.std.specs.Prelude.{ℕ, List, [], ◌∷◌, codes}
use Rattle.std.specs.Fmt.{decimal}
use Rattle.paged_memory.specs.declared.fault.ImageFault.{ImageFault}
use Rattle.paged_memory.specs.declared.fault.ImageFault.TheVariants.{BadHeader, BadLine, OutOfOrder, TooManyPages, NoEnd, AfterEnd, SixtyFifthPage}

abbrev pub image_fault_words : ImageFault → List (List ℕ)
image_fault_words BadHeader = codes "IM1" ∷ []
image_fault_words (BadLine line) = codes "IM2" ∷ decimal line ∷ []
image_fault_words (OutOfOrder line) = codes "IM3" ∷ decimal line ∷ []
image_fault_words TooManyPages = codes "IM4" ∷ []
image_fault_words NoEnd = codes "IM5" ∷ []
image_fault_words AfterEnd = codes "IM6" ∷ []
image_fault_words SixtyFifthPage = codes "IM7" ∷ []
