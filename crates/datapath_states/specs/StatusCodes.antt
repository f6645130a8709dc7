-- The codes of the configuration statuses (OIF-CMIS-05.0, Configuration Command Status among the lane
-- statuses of page 11h). What the codes 13 to 15 are called is this project's own.
use Rattle.std.specs.Prelude.{ℕ, ◌==◌, Option, List, [], ◌∷◌, find}
use Rattle.datapath_states.specs.declared.status.ConfigStatus.{ConfigStatus}
use Rattle.datapath_states.specs.declared.status.ConfigStatus.TheVariants.{Undefined, Success, Rejected, RejectedInvalidAppSel, RejectedInvalidDataPath, RejectedInvalidSi, RejectedLanesInUse, RejectedPartialDataPath, InProgress, Custom}

-- the code of each status
abbrev pub status_code_of : ConfigStatus → ℕ
status_code_of Undefined = 0
status_code_of Success = 1
status_code_of Rejected = 2
status_code_of RejectedInvalidAppSel = 3
status_code_of RejectedInvalidDataPath = 4
status_code_of RejectedInvalidSi = 5
status_code_of RejectedLanesInUse = 6
status_code_of RejectedPartialDataPath = 7
status_code_of InProgress = 12
status_code_of (Custom code) = code

-- all statuses
abbrev pub statuses : List ConfigStatus
statuses =
    Undefined ∷ Success ∷ Rejected ∷ RejectedInvalidAppSel ∷ RejectedInvalidDataPath ∷ RejectedInvalidSi
    ∷ RejectedLanesInUse ∷ RejectedPartialDataPath ∷ InProgress ∷ Custom 13 ∷ Custom 14 ∷ Custom 15 ∷ []

-- the status with this code; a code that no status has is reserved
abbrev pub status_at : ℕ → Option ConfigStatus
status_at code = find (λ status. status_code_of status == code) statuses
