-- Which image of the simulated module runs after a loss of power, and after the reset of a Run. (OIF-CMIS-05.0, CMD 0109h "Run Firmware
-- Image", CMD 010Ah "Commit Image"; this project's own)
use Rattle.std.specs.Prelude.{Bool, ◌&&◌, None, if◌then◌else◌}
use Rattle.firmware_update.specs.declared.bank.Bank.{Bank}
use Rattle.firmware_update.specs.declared.bank.Bank.TheVariants.{A, B}
use Rattle.firmware_laws.specs.Modules.{Firmware, held}

-- a committed image that can run, if there is one
abbrev pub can_boot : Bank → Firmware → Bool
can_boot bank firmware = (held firmware bank).committed && (held firmware bank).valid

abbrev pub booted : Firmware → Bank
booted firmware = if can_boot A firmware then A else (if can_boot B firmware then B else firmware.running)

-- this bank runs now; no download is open, and no reset is still to come
abbrev pub up : Bank → Firmware → Firmware
up bank firmware = record { a = firmware.a; b = firmware.b; running = bank; download = None; reset = None }

-- power was lost, and came back
abbrev pub lost : Firmware → Firmware
lost firmware = up (booted firmware) firmware

-- a reset came that was for this bank: its image boots, if it can, or else a committed one runs
abbrev pub reset_to : Bool → Bank → Firmware → Firmware
reset_to boots bank firmware = if boots && (held firmware bank).valid then up bank firmware else lost firmware
