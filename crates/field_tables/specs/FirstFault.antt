-- The fault of something that may be refused for several reasons, judged in order. (docs/formats.md, "Faults"; this project's
-- own)
use Rattle.std.specs.Prelude.{Bool, List, Option, find}
use Rattle.std.specs.Option.{option_map}

-- the fault of the first reason that applies; each comes with its fault
abbrev pub first_fault : {F : Type 0} → List (Bool × F) → Option F
first_fault faults = option_map (λ fault. fault.1) (find (λ fault. fault.0) faults)
