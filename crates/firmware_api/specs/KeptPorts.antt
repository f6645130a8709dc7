-- Ports as C keeps them: which port memory of C has, and what is told of a reply. (docs/manager.md, "From C"; this project's own)
use Rattle.std.specs.Prelude.{◌≡◌, ◌≤◌, ◌<◌, ◌==◌, ℕ, nat_le, List, take, Option, Some, None, if◌then◌else◌}
use Rattle.std.specs.FinMap as map
use Rattle.bus_model.specs.declared.operation.Reply.{Reply}
use Rattle.port_manager.specs.declared.job.Job.{Job}
use Rattle.port_manager.specs.declared.job.Job.TheVariants.{Reading, Waking, Sleeping, Provisioning, Activating, Confirming, Watching}
use Rattle.port_manager.specs.declared.port.Outstanding.{Outstanding}
use Rattle.port_manager.specs.declared.port.Outstanding.TheVariants.{Nothing, Awaited, Stale, Forsaken}
use Rattle.port_manager.specs.declared.port.Port.{Port}
use Rattle.port_manager.specs.declared.port.Stage.{Stage}
use Rattle.port_manager.specs.declared.port.Stage.TheVariants.{Absent, Left, Working}
use Rattle.port_manager.specs.Ports.{IfWorking, IsAwaited}
use Rattle.saved_port.specs.Known.{HasRead, IsKnown, halves_of}
use Rattle.saved_port.specs.SavedPorts.{port_in}
use Rattle.saved_port.specs.Shown.{IsShown}
use Rattle.firmware_api.specs.declared.half.HalfBytes.{HalfBytes}
use Rattle.firmware_api.specs.declared.port.kept.KeptPort.{KeptPort}
use Rattle.firmware_api.specs.declared.status.Refusal.{Refusal}
use Rattle.firmware_api.specs.declared.status.Refusal.TheVariants.{NoConversation, NoReply}
use Rattle.firmware_api.specs.Halves.{memory_of}
use Rattle.port_manager.specs.Jobs.{paged_halves}
use Rattle.port_manager.specs.Patients.{after_on}
use Rattle.firmware_api.specs.SavedConversations.{HasHalf}
use Rattle.firmware_api.specs.Statuses.{done, status_of}

-- the port that has these numbers, and whose reading has read the first of the halves; none for memory that is no port
unfoldable pub kept_in : KeptPort → Option Port
kept_in kept =
    if nat_le kept.numbers.half_count 5 then port_in kept.numbers (memory_of (take kept.numbers.half_count kept.halves)) else None

-- a reading has counted the halves that it has read
abbrev pub IsCounted : ℕ → Job → Type 0
IsCounted count (Reading job woken) = count ≤ (halves_of job).settled
IsCounted count (Waking job) = Unit {0}
IsCounted count (Sleeping job) = Unit {0}
IsCounted count (Provisioning job goal) = Unit {0}
IsCounted count (Activating job goal) = Unit {0}
IsCounted count (Confirming job) = Unit {0}
IsCounted count (Watching job) = Unit {0}

-- the memory has the port, of which all is known, and shows what C may read of it
pub record IsKept (kept : KeptPort) (port : Port) : Type 0 where
  pub is : kept_in kept ≡ Some port
  pub shown : IsShown port kept.numbers
  pub known : IsKnown port
  pub counted : IfWorking port.stage (IsCounted kept.numbers.half_count)

abbrev pub refusal_in : Option Port → Option Refusal
refusal_in None = Some NoConversation
refusal_in (Some port) = None

-- ---- the halves

-- so many of the halves are what the port's reading has read
abbrev pub FitsIn : Port → ℕ → List HalfBytes → Type 0
FitsIn port count halves = (count ≤ 5) × IfWorking port.stage (HasRead (memory_of (take count halves)))

-- how many are kept of so many: none if the reading has read none yet, or there is no reading
abbrev pub count_by : ℕ → ℕ → ℕ
count_by settled count = if settled == 0 then 0 else count

abbrev pub count_at : Job → ℕ → ℕ
count_at (Reading job woken) count = count_by (halves_of job).settled count
count_at (Waking job) count = 0
count_at (Sleeping job) count = 0
count_at (Provisioning job goal) count = 0
count_at (Activating job goal) count = 0
count_at (Confirming job) count = 0
count_at (Watching job) count = 0

abbrev pub count_in : Stage → ℕ → ℕ
count_in Absent count = 0
count_in (Left reason) count = 0
count_in (Working job) count = count_at job count

abbrev pub count_of : Port → ℕ → ℕ
count_of port count = count_in port.stage count

-- no more than a reading reads
abbrev pub HasFewHalves : Job → Type 0
HasFewHalves (Reading job woken) = map.len (halves_of job).image ≤ 5
HasFewHalves (Waking job) = Unit {0}
HasFewHalves (Sleeping job) = Unit {0}
HasFewHalves (Provisioning job goal) = Unit {0}
HasFewHalves (Activating job goal) = Unit {0}
HasFewHalves (Confirming job) = Unit {0}
HasFewHalves (Watching job) = Unit {0}

-- and there is one that it reads next
abbrev pub HasRoom : Job → Type 0
HasRoom (Reading job woken) = (halves_of job).settled < 5
HasRoom (Waking job) = ⊥
HasRoom (Sleeping job) = ⊥
HasRoom (Provisioning job goal) = ⊥
HasRoom (Activating job goal) = ⊥
HasRoom (Confirming job) = ⊥
HasRoom (Watching job) = ⊥

-- the half that the reply adds to a reading, if it is awaited
abbrev pub IsHalfAt : Job → Reply → Option HalfBytes → Type 0
IsHalfAt (Reading job woken) reply half = HasHalf half (halves_of job) (after_on paged_halves job.conversation.conversation reply).conversation
IsHalfAt (Waking job) reply half = half ≡ None
IsHalfAt (Sleeping job) reply half = half ≡ None
IsHalfAt (Provisioning job goal) reply half = half ≡ None
IsHalfAt (Activating job goal) reply half = half ≡ None
IsHalfAt (Confirming job) reply half = half ≡ None
IsHalfAt (Watching job) reply half = half ≡ None

abbrev pub IsHalfIn : Stage → Reply → Option HalfBytes → Type 0
IsHalfIn Absent reply half = half ≡ None
IsHalfIn (Left reason) reply half = half ≡ None
IsHalfIn (Working job) reply half = IsHalfAt job reply half

abbrev pub IsHalfBy : Outstanding → Stage → Reply → Option HalfBytes → Type 0
IsHalfBy Nothing stage reply half = half ≡ None
IsHalfBy Awaited stage reply half = IsHalfIn stage reply half
IsHalfBy Stale stage reply half = half ≡ None
IsHalfBy Forsaken stage reply half = half ≡ None

-- ---- what is told of a reply

abbrev pub IsReplyTold : ℕ → Option Reply → Port → Type 0
IsReplyTold status None port = status ≡ status_of NoReply
IsReplyTold status (Some reply) port =
    (IsAwaited port reply → status ≡ done) × (¬ (IsAwaited port reply) → status ≡ status_of NoReply)

abbrev pub IsTakeTold : ℕ → Option Reply → Option Port → Type 0
IsTakeTold status reply None = status ≡ status_of NoConversation
IsTakeTold status reply (Some port) = IsReplyTold status reply port
