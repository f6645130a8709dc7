-- What a command answers to the texts of its parts is among its answers to the input.
use Rattle.std.proofs.Common.{refl, ap, ◌≡◌, ◌≢◌, ◌∙◌, ℕ, ◌≤◌, Bool, true, if◌then◌else◌, eqb, ltb, List, length, Option, Some, None, IfSome, Ok, Err, arith}
use Rattle.std.specs.Prelude.{MatchOption}
use Rattle.std.proofs.lemmas.Bool.{eq-eqb, le-ltb, lt-ltb, ne_eqb}
use Rattle.command_line.specs.Limits.{input_limit}
use Rattle.command_line.specs.Parts.{most_parts, parts_of}
use Rattle.command_line.specs.Inputs.{Inputs, inputs_in, parts_read}
use Rattle.command_line.specs.Runs.{Answer, IsAnswerTo, IsOwnAnswer}
use Rattle.command_line.specs.declared.choice.commands.CommandName.{CommandName}
use Rattle.command_line.specs.declared.choice.commands.CommandName.TheVariants.{Draw, Plan, Provision, Trace}
use Rattle.command_line.specs.declared.choice.part.Part.{Part}
use Rattle.command_line.specs.declared.fault.Fault.{Fault}
use Rattle.command_line.specs.declared.fault.Fault.TheVariants as fault

pub own_answer : (parts : List Part) (IsMine : Inputs → Answer → Type 0) (input : List ℕ) (a : Answer) → length input ≤ input_limit → length (parts_of input) ≡ length parts
    → IsOwnAnswer (IsMine (inputs_in parts (parts_of input))) a → IsAnswerTo parts IsMine input a
own_answer parts IsMine input (Ok text) within is own = (within, is, own)
own_answer parts IsMine input (Err fault.Memory) within is own = tt
own_answer parts IsMine input (Err fault.Io) within is own = absurd own
own_answer parts IsMine input (Err fault.TooLong) within is own = absurd own
own_answer parts IsMine input (Err (fault.Parts n)) within is own = absurd own
own_answer parts IsMine input (Err f) within is own = (within, is, own)

-- why an input is refused before a command that reads these parts answers it
abbrev pub cut_fault : List Part → List ℕ → Option Fault
cut_fault parts input = if ltb input_limit (length input) then Some fault.TooLong
    else if eqb (length (parts_of input)) (length parts) then None
    else Some (fault.Parts (length (parts_of input)))

pub not_cut : (parts : List Part) (input : List ℕ) → length input ≤ input_limit → length (parts_of input) ≡ length parts → cut_fault parts input ≡ None
not_cut parts input within counted = rw (le-ltb _ _ within, eq-eqb _ _ counted) refl

-- an answer is that refusal or the command's own, if no allocation and no read was refused
pub judged : (parts : List Part) (IsMine : Inputs → Answer → Type 0) (input : List ℕ) (a : Answer) → IsAnswerTo parts IsMine input a → a ≢ Err fault.Memory → a ≢ Err fault.Io
    → MatchOption (cut_fault parts input) (IsMine (inputs_in parts (parts_of input)) a) (λ f. a ≡ Err f)
judged parts IsMine input (Err fault.Memory) is memory read = absurd (memory refl)
judged parts IsMine input (Err fault.Io) is memory read = absurd (read refl)
judged parts IsMine input (Err fault.TooLong) is memory read = rw (lt-ltb _ _ is) refl
judged parts IsMine input (Err (fault.Parts n)) is memory read =
    rw (le-ltb _ _ is.0, ne_eqb _ _ (λ same. is.2 (is.1 ∙ same))) (ap (λ (m : ℕ). Err (fault.Parts m)) is.1)
judged parts IsMine input a is memory read = rw (not_cut parts input is.0 is.1) is.2

-- a refusal of what a command reads is its own, since cutting the input is none
pub own_refusal : (Refuses : Fault → Type 0) (IsMine : Answer → Type 0) → ¬ (Refuses fault.Io) → ¬ (Refuses fault.TooLong) → ((n : ℕ) → ¬ (Refuses (fault.Parts n)))
    → ((f : Fault) → Refuses f → IsMine (Err f)) → (f : Fault) → Refuses f → IsOwnAnswer IsMine (Err f)
own_refusal Refuses IsMine io long parts mine fault.Memory is = tt
own_refusal Refuses IsMine io long parts mine fault.Io is = absurd (io is)
own_refusal Refuses IsMine io long parts mine fault.TooLong is = absurd (long is)
own_refusal Refuses IsMine io long parts mine (fault.Parts n) is = absurd (parts n is)
own_refusal Refuses IsMine io long parts mine f is = mine f is

-- no command reads more parts than are cut
pub few_parts : (command : CommandName) (keep : Bool) → length (parts_read command keep) ≤ most_parts
few_parts Plan true = omega arith
few_parts Draw true = omega arith
few_parts Provision true = omega arith
few_parts Trace true = omega arith
few_parts command keep = omega arith

-- what follows of the input holds of it, where it is known
pub if_known : {T : Type 0} (o : Option T) (P Q : T → Type 0) → ((x : T) → P x → Q x) → IfSome o P → IfSome o Q
if_known None P Q k h = tt
if_known (Some x) P Q k h = k x h
