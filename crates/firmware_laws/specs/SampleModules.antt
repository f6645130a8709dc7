-- Modules that can be computed with: one that works, and one that commits in two steps. (this project's own)
use Rattle.std.specs.Prelude.{ℕ, zero, suc, ◌+◌, ◌-◌, ◌*◌, ◌==◌, ◌&&◌, ◌||◌, ◌++◌, not, Bool, true, false, List, [], ◌∷◌, length, map, take, drop, slice_index, Option, Some, None, if◌then◌else◌}
use Rattle.command_block.specs.declared.outcome.Outcome.{Outcome}
use Rattle.command_block.specs.declared.outcome.Outcome.TheVariants.{Succeeded, Failed, Unsent, Unknown}
use Rattle.firmware_update.specs.declared.bank.Bank.{Bank}
use Rattle.firmware_update.specs.declared.bank.Bank.TheVariants.{A, B}
use Rattle.firmware_laws.specs.Modules.{Answer, Conduct, Download, Firmware, Held, held}
use Rattle.firmware_update.specs.Replies.{other_bank}

abbrev pub is_bank : Bank → Bank → Bool
is_bank A A = true
is_bank A B = false
is_bank B A = false
is_bank B B = true

abbrev pub put : Bank → Held → Firmware → Firmware
put A new firmware = record { a = new; b = firmware.b; running = firmware.running; download = firmware.download; reset = firmware.reset }
put B new firmware = record { a = firmware.a; b = new; running = firmware.running; download = firmware.download; reset = firmware.reset }

abbrev pub with_download : Option Download → Firmware → Firmware
with_download new firmware = record { a = firmware.a; b = firmware.b; running = firmware.running; download = new; reset = firmware.reset }

-- the bank that doesn't run holds this now, and is committed if it was
abbrev pub fill_other : Bool → List ℕ → Firmware → Firmware
fill_other can bytes firmware =
    put (other_bank firmware.running) (record { valid = can; committed = (held firmware (other_bank firmware.running)).committed; image = bytes }) firmware

-- the number of the first four bytes
abbrev pub read32 : List ℕ → ℕ
read32 bytes = slice_index bytes 0 * 16777216 + slice_index bytes 1 * 65536 + slice_index bytes 2 * 256 + slice_index bytes 3

-- ---- what each message does when it is carried out

-- the bank that doesn't run is erased
abbrev pub begun : List ℕ → Firmware → Firmware
begun body firmware = with_download (Some (record { size = read32 body; first = drop 8 body; rest = [] })) (fill_other false [] firmware)

abbrev pub with_block : ℕ → List ℕ → Option Download → Option Download
with_block address bytes None = None
with_block address bytes (Some was) = Some (record { size = was.size; first = was.first; rest = take address was.rest ++ bytes })

abbrev pub filled : List ℕ → Firmware → Firmware
filled body firmware = with_download (with_block (read32 body) (drop 4 body) firmware.download) firmware

abbrev pub closed : Option Download → Firmware → Firmware
closed None firmware = firmware
closed (Some was) firmware = with_download None (fill_other true (was.first ++ take (was.size - length was.first) was.rest) firmware)

-- the other bank runs, if it can
abbrev pub switched : Bool → Firmware → Firmware
switched true firmware = record { a = firmware.a; b = firmware.b; running = other_bank firmware.running; download = None; reset = None }
switched false firmware = firmware

abbrev pub with_committed : Bool → Held → Held
with_committed is bank = record { valid = bank.valid; committed = is; image = bank.image }

abbrev pub committing : Bool → Bool → Firmware → Firmware
committing a b firmware =
    record { a = with_committed a firmware.a; b = with_committed b firmware.b; running = firmware.running; download = firmware.download; reset = firmware.reset }

abbrev pub committed : Firmware → Firmware
committed firmware = committing (is_bank A firmware.running) (is_bank B firmware.running) firmware

abbrev pub can_other : Firmware → Bool
can_other firmware = (held firmware (other_bank firmware.running)).valid

abbrev pub carried : ℕ → List ℕ → Firmware → Firmware
carried number body firmware =
    if number == 257 then begun body firmware
    else (if number == 259 then filled body firmware
    else (if number == 263 then closed firmware.download firmware
    else (if number == 258 then with_download None firmware
    else (if number == 265 then switched (can_other firmware) firmware
    else (if number == 266 then committed firmware else firmware)))))

-- ---- what it answers

-- blocks of the local payload; one byte of the file goes with the Start
abbrev pub features : List ℕ
features = 0 ∷ 0 ∷ 1 ∷ 0 ∷ 0 ∷ 1 ∷ 0 ∷ 0 ∷ 0 ∷ 0 ∷ 0 ∷ 0 ∷ 0 ∷ 0 ∷ 0 ∷ 0 ∷ 0 ∷ 0 ∷ []

abbrev pub weighed : Bool → ℕ → ℕ
weighed is weight = if is then weight else 0

-- which bank runs, and of each whether it can, and whether it is committed
abbrev pub info_byte : Bank → Bool → Bool → Bool → Bool → ℕ
info_byte running a is_a b is_b =
    weighed (is_bank A running) 1 + weighed is_a 2 + weighed (not a) 4 + weighed (is_bank B running) 16 + weighed is_b 32 + weighed (not b) 64

abbrev pub info : Firmware → List ℕ
info firmware = info_byte firmware.running firmware.a.valid firmware.a.committed firmware.b.valid firmware.b.committed ∷ []

abbrev pub says : List ℕ → Outcome
says reply = Succeeded (record { items = reply })

abbrev pub done_if : Bool → Outcome
done_if true = says []
done_if false = Failed 64

abbrev pub has_download : Option Download → Bool
has_download None = false
has_download (Some was) = true

abbrev pub replied : ℕ → Firmware → Outcome
replied number firmware =
    if number == 65 then says features
    else (if number == 256 then says (info firmware)
    else (if number == 259 then done_if (has_download firmware.download)
    else (if number == 263 || number == 258 then done_if (has_download firmware.download)
    else (if number == 265 then done_if (can_other firmware) else says []))))

-- it is to run after a reset that is still to come
abbrev pub switched_later : Bool → Firmware → Firmware
switched_later true firmware = record { a = firmware.a; b = firmware.b; running = firmware.running; download = firmware.download; reset = Some (other_bank firmware.running) }
switched_later false firmware = firmware

-- ---- the modules

-- it is carried out and answered, carried out and not answered, neither, cut short behind it or before it, or not sent
abbrev pub chosen : ℕ → Outcome → Firmware → Firmware → Answer
chosen zero outcome done before = record { outcome = Some outcome; after = done }
chosen (suc zero) outcome done before = record { outcome = Some Unknown; after = done }
chosen (suc (suc zero)) outcome done before = record { outcome = Some Unknown; after = before }
chosen (suc (suc (suc zero))) outcome done before = record { outcome = None; after = done }
chosen (suc (suc (suc (suc zero)))) outcome done before = record { outcome = None; after = before }
chosen (suc (suc (suc (suc (suc more))))) outcome done before = record { outcome = Some Unsent; after = before }

-- a module that works
abbrev pub works : Conduct
works sent choice before = chosen choice (replied sent.id before) (carried sent.id sent.body.items before) before

-- one that works, but answers a Run before the reset that it brings
abbrev pub resets_later : Conduct
resets_later sent choice before =
    if sent.id == 265 then chosen choice (replied 265 before) (switched_later (can_other before) before) before else works sent choice before

-- one that does more where it carries out the messages of this id
abbrev pub works_but : ℕ → (Firmware → Firmware) → Conduct
works_but number more sent choice before =
    if sent.id == number then chosen choice (replied sent.id before) (more (carried sent.id sent.body.items before)) before else works sent choice before

-- neither image can run
abbrev pub erased : Firmware → Firmware
erased firmware =
    record {
      a = record { valid = false; committed = firmware.a.committed; image = firmware.a.image };
      b = record { valid = false; committed = firmware.b.committed; image = firmware.b.image };
      running = firmware.running;
      download = firmware.download;
      reset = firmware.reset;
    }

-- one that says that bank A runs and is committed, whatever does
abbrev pub lies : Conduct
lies sent choice before = if sent.id == 256 then chosen choice (says (67 ∷ [])) before before else works sent choice before

abbrev pub with_first : List ℕ → Option Download → Option Download
with_first bytes None = None
with_first bytes (Some was) = Some (record { size = was.size; first = bytes; rest = was.rest })

-- the first bytes of a download are others than were sent
abbrev pub other_first : Firmware → Firmware
other_first firmware = with_download (with_first (5 ∷ []) firmware.download) firmware

-- the image beside the one that runs is another than was sent
abbrev pub other_image : Firmware → Firmware
other_image firmware = fill_other true (5 ∷ []) firmware

-- one that stores other bytes of a block than it is sent
abbrev pub stores_others : Conduct
stores_others sent choice before =
    if sent.id == 259 then chosen choice (replied 259 before) (filled (take 4 sent.body.items ++ map suc (drop 4 sent.body.items)) before) before else works sent choice before

-- one where a block that it doesn't answer changes the bytes of those before
abbrev pub with_rest : List ℕ → Option Download → Option Download
with_rest bytes None = None
with_rest bytes (Some was) = Some (record { size = was.size; first = was.first; rest = bytes })

abbrev pub changes_others : Conduct
changes_others sent choice before =
    if sent.id == 259 && choice == 2 then record { outcome = Some Unknown; after = with_download (with_rest (5 ∷ []) before.download) before } else works sent choice before

-- one that works but for its Commit, which takes back the old commitment before it makes the new one
abbrev pub commits_in_steps : Conduct
commits_in_steps sent choice before =
    if sent.id == 266 && choice == 3 then record { outcome = None; after = committing false false before } else works sent choice before

-- ---- how it stands at the start

abbrev pub of_bank : Bank → Held → Held → Held
of_bank A one two = one
of_bank B one two = two

-- what this bank holds, what the other one does, which runs, and the download
abbrev pub with_banks : Bank → Held → Held → Bank → Option Download → Firmware
with_banks bank one two runs_now open_now =
    record { a = of_bank bank one two; b = of_bank bank two one; running = runs_now; download = open_now; reset = None }

abbrev pub holds : Bool → Bool → List ℕ → Held
holds can is bytes = record { valid = can; committed = is; image = bytes }

-- this bank runs and is committed, with this image, and the other one is empty
abbrev pub fresh : Bank → List ℕ → Firmware
fresh bank bytes = with_banks bank (holds true true bytes) (holds false false []) bank None

-- bank B runs, and bank A is committed; both can run
abbrev pub parted : Firmware
parted = with_banks A (holds true true (1 ∷ [])) (holds true false (2 ∷ [])) B None

-- bank A runs and is committed, bank B can run, and a reset that brings it is still to come
abbrev pub restless : Firmware
restless = record { a = parted.a; b = parted.b; running = A; download = None; reset = Some B }
