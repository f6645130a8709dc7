-- A module has four banks at most.
use Rattle.std.proofs.Common.{◌≤◌, ◌==◌, ◌%◌, ℕ, Bool, true, false, List, Option, Some, None, if◌then◌else◌, arith}
use Rattle.std.specs.Option.{option_map_or}
use Rattle.paged_memory.specs.Images.{Memory}
use Rattle.observables.specs.Banks.{bank_count, banks_by}
use Rattle.observables.specs.Pages.{is_cmis}
use Rattle.observables.specs.Words.{byte_in, page_of}

by_code : (code : ℕ) → banks_by code ≤ 4
by_code code = by (code == 1) (code == 2) where
  by : (one two : Bool) → (if one then 2 else if two then 4 else 1) ≤ 4
  by true two = omega arith
  by false true = omega arith
  by false false = omega arith

by_page : (cmis : Bool) (half : Option (List ℕ)) → (if cmis then option_map_or (λ (bytes : List ℕ). banks_by (byte_in bytes 142 % 4)) half 1 else 1) ≤ 4
by_page true (Some bytes) = by_code (byte_in bytes 142 % 4)
by_page true None = omega arith
by_page false half = omega arith

pub few_banks : (memory : Memory) → bank_count memory ≤ 4
few_banks memory = by_page (is_cmis memory) (page_of memory 0 0x01)
