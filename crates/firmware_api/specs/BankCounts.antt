-- What C counts of the lanes of a further bank, by each page 11h of that bank. (docs/firmware.md, "Lanes above 8"; OIF-CMIS-05.0,
-- "Management Memory Map", page 11h of banks 1 to 3)
use Rattle.std.specs.Prelude.{ℕ, ◌==◌, ◌&&◌, Bool, nat_le, Option, Some, None, if◌then◌else◌}
use Rattle.firmware_api.specs.declared.half.HalfBytes.{HalfBytes}
use Rattle.firmware_api.specs.declared.status.Refusal.{Refusal}
use Rattle.firmware_api.specs.declared.status.Refusal.TheVariants.{NoPlace}

-- page 11h of bank 1, 2 or 3 of device A0h; bank 0 is a port's
abbrev pub is_of_further_bank : HalfBytes → Bool
is_of_further_bank half = half.device == 160 && half.upper == 1 && half.page == 17 && nat_le 1 half.bank && nat_le half.bank 3

abbrev pub bank_refusal : HalfBytes → Option Refusal
bank_refusal half = if is_of_further_bank half then None else Some NoPlace
