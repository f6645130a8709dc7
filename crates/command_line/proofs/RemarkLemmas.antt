-- What is said beside an answer is what its input gives cause for.
use Rattle.std.proofs.Common.{◌≡◌, ◌∙◌, ℕ, Bool, true, false, List, Option, Some, None, IfSome, Ok, Err, ap, sym, refl, subst}
use Rattle.command_line.specs.Runs.{Answer, EndsByFailure, IsRemarkBeside, IsRemarkAfter, IsWritten, IsReadingFailure, clue_beside, ended, ending_after, opening_beside, output_of, status_after}
use Rattle.reports.specs.declared.fault.ReportFault.TheVariants as report
use Rattle.command_line.specs.declared.reported_fault.ReportedFault.TheVariants.{Procedure, Metrics}
use Rattle.command_line.specs.declared.fault.Fault.TheVariants as fault
use Rattle.command_line.specs.declared.remark.Remark.{Remark}
use Rattle.command_line.specs.declared.remark.clue.Clue.{Clue}
use Rattle.command_line.specs.declared.remark.opening.Opening.{Opening}
use Rattle.command_line.specs.declared.status.Status.{Status}
use Rattle.command_line.specs.declared.status.Status.TheVariants.{ReadOrWrite}
use Rattle.command_line.specs.Program.{refusal_ending, refusal_remark}

pub remark_after : (failed : Bool) (status : Status) (input : List ℕ) (answer : Answer) (clue : Clue) (remark : Remark) → IsRemarkBeside answer clue remark
    → clue ≡ clue_beside answer input → IsRemarkAfter failed input answer (ending_after failed status remark).remark
remark_after true status input answer clue remark is same = refl
remark_after false status input answer clue remark is same = subst (λ (c : Clue). IsRemarkBeside answer c remark) same is

-- what follows of two facts of the input holds of it, where it is known
pub if_known_both : {T : Type 0} (o : Option T) (P Q R : T → Type 0) → ((x : T) → P x → Q x → R x) → IfSome o P → IfSome o Q → IfSome o R
if_known_both None P Q R k p q = tt
if_known_both (Some x) P Q R k p q = k x p q

pub ending_status : (failed : Bool) (status : Status) (remark : Remark) → (ending_after failed status remark).status ≡ status
ending_status true status remark = refl
ending_status false status remark = refl

-- a refusal ends with its status
pub refusal_remarked : (failed : Bool) (status : Status) (remark : Remark) → remark ≡ refusal_remark status
    → ((ending_after failed status remark).status ≡ status) × (ending_after failed status remark ≡ refusal_ending failed (ending_after failed status remark).status)
refusal_remarked true status remark is = (refl, refl)
refusal_remarked false status remark is = (refl, ap (ending_after false status) is)

-- of all answers a failed read alone ends so
only_reading : (answer : Answer) → status_after answer ≡ ReadOrWrite → answer ≡ Err fault.Io
only_reading (Ok (text, None)) ends = cc
only_reading (Ok (text, Some (Procedure f inactive))) ends = cc
only_reading (Ok (text, Some (Metrics report.Memory))) ends = cc
only_reading (Ok (text, Some (Metrics f))) ends = cc
only_reading (Err fault.Io) ends = refl
only_reading (Err fault.Memory) ends = cc
only_reading (Err fault.TooLong) ends = cc
only_reading (Err (fault.Parts n)) ends = cc
only_reading (Err (fault.Image f)) ends = cc
only_reading (Err (fault.Report f)) ends = cc
only_reading (Err (fault.Advert f)) ends = cc
only_reading (Err (fault.Weights f)) ends = cc
only_reading (Err (fault.Kept f)) ends = cc
only_reading (Err (fault.Certificate f)) ends = cc
only_reading (Err (fault.Bad r n)) ends = cc
only_reading (Err (fault.Script f)) ends = cc
only_reading (Err (fault.Module f)) ends = cc
only_reading (Err (fault.Provision f)) ends = cc

pub ends_by_failure : (read write : Bool) (answer : Answer) (status : Status) → status ≡ ended write (status_after answer) → IsReadingFailure read answer
    → EndsByFailure read write status
ends_by_failure true true answer status is says = (λ _. refl, λ _. is)
ends_by_failure false true answer status is says = (λ _. refl, λ _. is)
ends_by_failure true false answer status is says = (λ _. refl, λ _. is ∙ ap status_after (says.1 refl))
ends_by_failure false false answer status is says = (λ ends. says.0 (only_reading answer (sym is ∙ ends)), λ failed. absurd cc)

-- what is written in the form of the fault is what is to be written of the answer to the input
pub written_as : (json : Bool) (answer : Answer) (input : List ℕ) (opening : Opening) (out : List ℕ) (before after : Option (List ℕ)) (failed : Bool) (status : Status)
    → out ≡ output_of json opening answer → opening ≡ opening_beside answer input → IsWritten out answer before after failed status
    → IsWritten (output_of json (opening_beside answer input) answer) answer before after failed status
written_as json answer input opening out before after failed status same clue written =
    subst (λ (o : List ℕ). IsWritten o answer before after failed status) (same ∙ ap (λ (o : Opening). output_of json o answer) clue) written
