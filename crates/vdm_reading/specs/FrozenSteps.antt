-- What steps on a module's bus show of the statistics (VDM) of a bank, the newest first: which pages were read, whether the statistics were frozen
-- then, and whether they may be frozen still. (OIF-CMIS-05.0, "VDM Advertisement and Control", page 2Fh: FreezeRequest in bit 7 of byte
-- 144, FreezeDone and UnfreezeDone in bits 7 and 6 of byte 145)
use Rattle.std.specs.Prelude.{◌≡◌, ◌≢◌, ◌⊎◌, ℕ, ◌+◌, ◌*◌, ◌/◌, ◌%◌, ◌==◌, ◌&&◌, ◌||◌, nat_lt, not, Bool, true, false, List, [], ◌∷◌, Some, if◌then◌else◌, slice_index}
use Rattle.std.specs.FinMap as map
use Rattle.bus_model.specs.declared.device.Dev.TheVariants.{A0, A2}
use Rattle.bus_model.specs.declared.operation.Op.{Op}
use Rattle.bus_model.specs.declared.operation.Op.TheVariants.{Fetch, Store}
use Rattle.bus_model.specs.declared.operation.Reply.{Reply}
use Rattle.bus_model.specs.declared.operation.Reply.TheVariants.{Bytes, Done, Refused}
use Rattle.bus_model.specs.declared.operation.Step.{Step}
use Rattle.bus_model.specs.SameOperation.{same_op}
use Rattle.conversations.specs.Pauses.{is_refused}
use Rattle.conversations.specs.Selecting.{IsFetch, since_refusal}
use Rattle.paged_memory.specs.declared.page_addressing.PageAddressing.TheVariants.{BankAndPage}
use Rattle.paged_memory.specs.Images.{Memory}
use Rattle.paged_memory.specs.Keys.{page_key}
use Rattle.paged_memory.specs.PageAddressing.{History, is_page, is_page_confirmed, read_selection, selection}
use Rattle.vdm_reading.specs.BankPages.{groups_page}

-- ---- operations

abbrev pub read_half : Op
read_half = Fetch A0 128 128

abbrev pub read_done : Op
read_done = Fetch A0 145 1

abbrev pub store_control : ℕ → Op
store_control byte = Store A0 144 (record { items = byte ∷ [] })

-- bit 7 is 1 or 0, and each other bit as it was
abbrev pub freezing : ℕ → ℕ
freezing control = 128 + control % 128

abbrev pub releasing : ℕ → ℕ
releasing control = control % 128

abbrev pub is_freeze_done : List ℕ → Bool
is_freeze_done bytes = slice_index bytes 0 / 128 % 2 == 1

abbrev pub is_unfreeze_done : List ℕ → Bool
is_unfreeze_done bytes = slice_index bytes 0 / 64 % 2 == 1

-- ---- what was read

-- the page was read back as selected since the newest refusal, and the selection was left alone since
abbrev pub IsShown : ℕ → History → Type 0
IsShown page before = is_page_confirmed BankAndPage page (since_refusal before) ≡ true

abbrev pub IsPageRead : ℕ → List ℕ → Step → History → Type 0
IsPageRead page bytes step before = (step.op ≡ read_half) × (step.reply ≡ Bytes (record { items = bytes })) × IsShown page before

-- among the steps is one of which, with those before it, P holds
abbrev pub SomeStep : (Step → History → Type 0) → History → Type 0
SomeStep P [] = ⊥
SomeStep P (step ∷ before) = P step before ⊎ SomeStep P before

-- the page was read as these bytes
abbrev pub WasRead : ℕ → List ℕ → History → Type 0
WasRead page bytes history = SomeStep (IsPageRead page bytes) history

-- ---- what was stored

abbrev pub is_control_store : Op → Bool
is_control_store (Store A0 offset bytes) = offset == 144
is_control_store (Store A2 offset bytes) = false
is_control_store (Fetch dev offset count) = false

-- a store there that gives 1 in bit 7
abbrev pub asks_freeze : Op → Bool
asks_freeze (Store A0 offset bytes) = offset == 144 && not (nat_lt (slice_index bytes.items 0) 128)
asks_freeze (Store A2 offset bytes) = false
asks_freeze (Fetch dev offset count) = false

-- the byte of page 2Fh of the bank as it was read, but for bit 7, is stored on that page
abbrev pub IsControlStep : ℕ → Step → History → Type 0
IsControlStep bank step before =
    (bytes : List ℕ) × WasRead (groups_page bank) bytes before × IsShown (groups_page bank) before
    × ((step.op ≡ store_control (freezing (slice_index bytes 16))) ⊎ (step.op ≡ store_control (releasing (slice_index bytes 16))))

-- a fetch, the selection of a page, or a change of bit 7
abbrev pub IsReadingStep : ℕ → Step → History → Type 0
IsReadingStep bank step before = IsFetch step.op ⊎ (((page : ℕ) × (step.op ≡ selection BankAndPage page)) ⊎ IsControlStep bank step before)

-- a freeze was asked for, taken or refused, and no request since then that was taken ended it
abbrev pub may_be_frozen_by : Op → Reply → Bool → Bool
may_be_frozen_by op reply before = if is_control_store op then asks_freeze op || (is_refused reply && before) else before

abbrev pub may_be_frozen : History → Bool
may_be_frozen [] = false
may_be_frozen (step ∷ before) = may_be_frozen_by step.op step.reply (may_be_frozen before)

-- ---- while they were frozen

-- a freeze was accepted, and nothing was stored in the control byte since
abbrev pub WasRequested : ℕ → History → Type 0
WasRequested bank [] = ⊥
WasRequested bank (step ∷ before) =
    ((asks_freeze step.op ≡ true) × (step.reply ≡ Done) × IsShown (groups_page bank) before)
    ⊎ ((is_control_store step.op ≡ false) × WasRequested bank before)

-- the module showed after that that it has frozen them
abbrev pub IsDoneStep : ℕ → Step → History → Type 0
IsDoneStep bank step before =
    (bytes : List ℕ) × (step.op ≡ read_done) × (step.reply ≡ Bytes (record { items = bytes })) × (is_freeze_done bytes ≡ true) × IsShown (groups_page bank) before × WasRequested bank before

-- and nothing was stored in the control byte since
abbrev pub AreFrozen : ℕ → History → Type 0
AreFrozen bank [] = ⊥
AreFrozen bank (step ∷ before) = IsDoneStep bank step before ⊎ ((is_control_store step.op ≡ false) × AreFrozen bank before)

-- the page was read as these bytes, while the statistics were frozen if they are to be, and nothing was stored in the control byte since
abbrev pub IsSetPage : ℕ → Bool → ℕ → List ℕ → History → Type 0
IsSetPage bank frozen page bytes [] = ⊥
IsSetPage bank frozen page bytes (step ∷ before) =
    (IsPageRead page bytes step before × (frozen ≡ true → AreFrozen bank before))
    ⊎ ((is_control_store step.op ≡ false) × IsSetPage bank frozen page bytes before)

-- each page of the image but those that advertise was read so
abbrev pub AreSet : ℕ → Bool → Memory → History → Type 0
AreSet bank frozen image history =
    (page : ℕ) (bytes : List ℕ) → page ≢ 0x01 → page ≢ groups_page bank → map.get image (page_key page) ≡ Some bytes → IsSetPage bank frozen page bytes history

-- all of them between the same two requests, or since the last one
abbrev pub WereSet : ℕ → Bool → Memory → History → Type 0
WereSet bank frozen image [] = AreSet bank frozen image []
WereSet bank frozen image (step ∷ before) = AreSet bank frozen image (step ∷ before) ⊎ WereSet bank frozen image before

-- ---- what failed

-- the page was accepted as the one to be selected, in the newest step
abbrev pub IsTaken : ℕ → History → Type 0
IsTaken page [] = ⊥
IsTaken page (step ∷ before) = (step.op ≡ selection BankAndPage page) × (step.reply ≡ Done)

-- its selection was refused; another page was read back in its place, or none; or it was shown, and its half refused
abbrev pub IsPageRefused : ℕ → Step → History → Type 0
IsPageRefused page step before =
    ((step.op ≡ selection BankAndPage page) × (step.reply ≡ Refused))
    ⊎ (((step.op ≡ read_selection BankAndPage) × (is_page BankAndPage page step.reply ≡ false) × IsTaken page before)
    ⊎ ((step.op ≡ read_half) × (step.reply ≡ Refused) × IsShown page before))

-- the number of the page that a store of the selection names
abbrev pub page_named : Op → ℕ
page_named (Store dev offset bytes) = 256 * slice_index bytes.items 0 + slice_index bytes.items 1
page_named (Fetch dev offset count) = 0

abbrev pub page_taken : History → ℕ
page_taken [] = 0
page_taken (step ∷ before) = page_named step.op

-- it was refused, or a page was read back that isn't the one that was selected
abbrev pub is_hindered : Step → History → Bool
is_hindered step before = is_refused step.reply || (same_op (read_selection BankAndPage) step.op && not (is_page BankAndPage (page_taken before) step.reply))

abbrev pub one_if : Bool → ℕ
one_if counts = if counts then 1 else 0

-- how many steps were hindered
abbrev pub hindrances : History → ℕ
hindrances [] = 0
hindrances (step ∷ before) = one_if (is_hindered step before) + hindrances before

-- how often byte 145 was fetched
abbrev pub polls : History → ℕ
polls [] = 0
polls (step ∷ before) = one_if (same_op read_done step.op) + polls before
