-- What the simulated module does with each message about its firmware, and what it answers. (OIF-CMIS-05.0, CMD 0001h, 0041h, 0100h to
-- 0103h, 0107h, 0109h and 010Ah; CdbStatus1, byte 37 of the lower memory: the codes of failure)
use Rattle.std.specs.Prelude.{ℕ, zero, suc, ◌+◌, ◌-◌, ◌==◌, nat_lt, Bool, true, false, List, [], ◌∷◌, length, Option, Some, None, if◌then◌else◌}
use Rattle.command_block.specs.declared.outcome.Outcome.TheVariants.{Succeeded, Failed}
use Rattle.firmware_laws.specs.Modules.{Answer, Conduct, Download, Firmware}
use Rattle.firmware_laws.specs.SampleModules.{begun, can_other, closed, committed, filled, info, read32, switched_later, with_download}

-- ---- the codes of failure

-- no specific reason
abbrev pub failed : ℕ
failed = 64

abbrev pub unknown_command : ℕ
unknown_command = 65

abbrev pub out_of_range : ℕ
out_of_range = 66

abbrev pub wrong_check_code : ℕ
wrong_check_code = 69

-- not in this state
abbrev pub not_now : ℕ
not_now = 71

-- ---- what a message comes to

abbrev pub succeeding : List ℕ → Firmware → Answer
succeeding reply after = record { outcome = Some (Succeeded (record { items = reply })); after = after }

-- nothing is changed
abbrev pub failing : ℕ → Firmware → Answer
failing code firmware = record { outcome = Some (Failed code); after = firmware }

-- 0041h: a download can be aborted; 8 bytes of the file go with a Start, and blocks are written by the local payload; each command takes
-- two seconds at most
abbrev pub features : List ℕ
features = 1 ∷ 0 ∷ 8 ∷ 255 ∷ 0 ∷ 1 ∷ 0 ∷ 0 ∷ 7 ∷ 208 ∷ 7 ∷ 208 ∷ 7 ∷ 208 ∷ 7 ∷ 208 ∷ 0 ∷ 0 ∷ []

-- how many bytes behind those of the Start it has memory for
abbrev pub memory : ℕ
memory = 1024

-- 0101h: the bank that doesn't run is erased, and a download is open
abbrev pub starting : List ℕ → Firmware → Answer
starting body firmware = succeeding [] (begun body firmware)

-- 0103h: the bytes of a block are stored at its address, behind those before it
abbrev pub storing : List ℕ → Option Download → Firmware → Answer
storing body None firmware = failing not_now firmware
storing body (Some was) firmware =
    if nat_lt memory (read32 body + (length body - 4)) then failing out_of_range firmware else succeeding [] (filled body firmware)

-- 0107h: what was received is the image of the bank that doesn't run
abbrev pub completing : Option Download → Firmware → Answer
completing None firmware = failing not_now firmware
completing (Some was) firmware = succeeding [] (closed (Some was) firmware)

-- 0102h
abbrev pub aborting : Option Download → Firmware → Answer
aborting None firmware = failing not_now firmware
aborting (Some was) firmware = succeeding [] (with_download None firmware)

-- 0109h: the bank that doesn't run is to run, if it can, after a reset that is still to come
abbrev pub running : Firmware → Answer
running firmware = if can_other firmware then succeeding [] (switched_later true firmware) else failing not_now firmware

abbrev pub performed : ℕ → List ℕ → Firmware → Answer
performed id body firmware =
    if id == 1 then succeeding [] firmware
    else (if id == 65 then succeeding features firmware
    else (if id == 256 then succeeding (info firmware) firmware
    else (if id == 257 then starting body firmware
    else (if id == 258 then aborting firmware.download firmware
    else (if id == 259 then storing body firmware.download firmware
    else (if id == 263 then completing firmware.download firmware
    else (if id == 265 then running firmware
    else (if id == 266 then succeeding [] (committed firmware) else failing unknown_command firmware))))))))

-- power is lost in its midst, and it is done, or not
abbrev pub cut_short : Bool → Answer → Firmware → Answer
cut_short done answer before = record { outcome = None; after = if done then answer.after else before }

-- the module's conduct, with what chance may do: a message is carried out, fails, fails by its check code, or is cut short
abbrev pub conduct : Conduct
conduct sent zero before = performed sent.id sent.body.items before
conduct sent (suc zero) before = failing failed before
conduct sent (suc (suc zero)) before = failing wrong_check_code before
conduct sent (suc (suc (suc zero))) before = cut_short true (performed sent.id sent.body.items before) before
conduct sent (suc (suc (suc (suc more)))) before = cut_short false (performed sent.id sent.body.items before) before
