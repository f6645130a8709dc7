-- One run of the whole program, from the words of its command line and its input to what it writes and how it ends.
-- (docs/formats.md; this project's own)
use Rattle.std.specs.Prelude.{◌≡◌, ◌⊎◌, ℕ, Bool, true, false, List, [], map, string_bytes, Option, Some, IfSome, Result, Ok, Err, MatchResult, Vec, String}
use Rattle.std.specs.Result.{result_map_both}
use Rattle.std.specs.IoError.{error_kind}
use Rattle.std.specs.Io.KnownBytes.{Appends}
use Rattle.std.specs.declared.alloc.Global.{Global}
use Rattle.std.specs.declared.io.Error.{Error}
use Rattle.clap.specs.Words.{Text, takes}
use Rattle.command_line.specs.Choice.{IsRequestOf, faults_of, program, request_of}
use Rattle.command_line.specs.ChoiceFault.{IsFaultAmong, fault_of_words, refusal_text, status_of_fault}
use Rattle.command_line.specs.Commands.{IsAnswerOf}
use Rattle.command_line.specs.Coloring.{request_on_screen}
use Rattle.command_line.specs.Runs.{Ending, IsCommandRun, ended, ending_after}
use Rattle.command_line.specs.StoppingWriter.{contents_of, writing_failed}
use Rattle.command_line.specs.declared.choice.commands.Request.{Request}
use Rattle.command_line.specs.declared.choice.fault.ChoiceFault.{ChoiceFault}
use Rattle.command_line.specs.declared.choice.fault.ChoiceFault.TheVariants.{Memory, Word}
use Rattle.command_line.specs.declared.choice.word_fault.WordFault.{WordFault}
use Rattle.command_line.specs.declared.input.counted_reader.CountedReader.{CountedReader}
use Rattle.command_line.specs.declared.output.stopping_writer.StoppingWriter.{StoppingWriter}
use Rattle.command_line.specs.Remarks.{remark_text}
use Rattle.command_line.specs.declared.remark.Remark.{Remark}
use Rattle.command_line.specs.declared.remark.Remark.TheVariants.{Nothing, NoMemory}
use Rattle.command_line.specs.declared.status.Status.{Status}
use Rattle.command_line.specs.declared.status.Status.TheVariants as status

-- `clap` refuses the words, or an allocation was refused
abbrev pub IsRefusalByClap : List Text → ChoiceFault → Type 0
IsRefusalByClap words fault = IsFaultAmong (faults_of words) fault × (takes program words ≡ true → fault ≡ Memory)

-- `clap` takes the words, but one that follows a flag is wrong
abbrev pub IsRefusalOfWord : List Text → ChoiceFault → Type 0
IsRefusalOfWord words fault = (wrong : WordFault) × (fault ≡ Word wrong) × (faults_of words ≡ []) × (request_of words ≡ Some (Err wrong))

-- the words ask for nothing
abbrev pub IsRefusalOf : List Text → ChoiceFault → Type 0
IsRefusalOf words fault = IsRefusalByClap words fault ⊎ IsRefusalOfWord words fault

-- a refusal was written, all but `clap`'s in words that are known, and the run ended so
abbrev pub IsRefusalWritten : ChoiceFault → Option (List ℕ) → Option (List ℕ) → Bool → Status → Type 0
IsRefusalWritten refusal before after write_failed status =
    (status ≡ ended write_failed (status_of_fault refusal))
    × (write_failed ≡ false → IfSome (refusal_text refusal) (Appends before after))

-- the words of a command line that could be read
abbrev pub words_of : Result (Vec (String Global) Global) Error → Result (List Text) Error
words_of words = result_map_both (λ words. map string_bytes words.items) (λ error. error) words

-- the remark beside a refusal of the command line that ends with this status
abbrev pub refusal_remark : Status → Remark
refusal_remark status.Memory = NoMemory
refusal_remark status = Nothing

abbrev pub refusal_ending : Bool → Status → Ending
refusal_ending write_failed status = ending_after write_failed status (refusal_remark status)

-- where nothing fails, standard error gets the remark
abbrev pub IsRemarkWritten : {E : Type 0} → (E → Option (List ℕ)) → Remark → StoppingWriter E → StoppingWriter E → Type 0
IsRemarkWritten contents remark errors errors_after = writing_failed errors_after ≡ false
    → IfSome (remark_text remark) (Appends (contents_of contents errors) (contents_of contents errors_after))

-- a refusal of the command line: the reader is left as it was, and after a failed write nothing more is written
pub record IsRefusalRun {R W : Type 0} (contents : W → Option (List ℕ)) (IsSaid : Option (List ℕ) → Option (List ℕ) → Bool → Status → Type 0)
    (reader reader_after : CountedReader R) (writer writer_after : StoppingWriter W) (ending : Ending) : Type 0 where
  pub unread : reader_after ≡ reader
  pub said : IsSaid (contents_of contents writer) (contents_of contents writer_after) (writing_failed writer_after) ending.status
  pub remarked : ending ≡ refusal_ending (writing_failed writer_after) ending.status
  pub stopped : writing_failed writer ≡ true → writer_after ≡ writer

-- what the words of a command line ask for, if they could be read
abbrev pub IsRequestIn : Result (List Text) Error → Result Request ChoiceFault → Type 0
IsRequestIn (Ok words) requested = MatchResult requested (IsRequestOf words) (IsRefusalOf words)
IsRequestIn (Err error) requested = requested ≡ Err (fault_of_words (error_kind error))

-- what the words ask for was run, on a screen that shows colors or not, or they were refused
abbrev pub IsProgramRun : {R W : Type 0} → (R → Option (List ℕ)) → (W → Option (List ℕ)) → Bool → Result (List Text) Error
    → CountedReader R → CountedReader R → StoppingWriter W → StoppingWriter W → Ending → Type 0
IsProgramRun remaining contents shows_colors words reader reader_after writer writer_after ending =
    (requested : Result Request ChoiceFault) × IsRequestIn words requested × MatchResult requested
    (λ request. IsCommandRun remaining contents request.options.json (IsAnswerOf (request_on_screen shows_colors request)) reader reader_after writer writer_after ending)
    (λ fault. IsRefusalRun contents (IsRefusalWritten fault) reader reader_after writer writer_after ending)
