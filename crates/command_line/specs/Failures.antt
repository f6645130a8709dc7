-- Reads and writes that fail: an interrupted one is made again, and is none of them. (docs/formats.md, "Input and output";
-- this project's own)
use Rattle.std.specs.Prelude.{◌≡◌, ◌≢◌, Bool, true, false, Result, Ok, Err}
use Rattle.std.specs.IoError.{error_kind}
use Rattle.std.specs.declared.io.Error.{Error}
use Rattle.std.specs.declared.io.ErrorKind.TheVariants.{Interrupted}

-- an error that is no interruption
abbrev pub IsFailure : Error → Type 0
IsFailure e = error_kind e ≢ Interrupted

-- whether this is one
abbrev pub FailsWhere : {T : Type 0} → Bool → Result T Error → Type 0
FailsWhere failed (Ok x) = failed ≡ false
FailsWhere failed (Err e) = (error_kind e ≡ Interrupted → failed ≡ false) × (IsFailure e → failed ≡ true)

-- one read or write, with whether one has failed, before it and after it: once one has failed, each further one fails
abbrev pub RemembersFailure : {T : Type 0} → Bool → Bool → Result T Error → Type 0
RemembersFailure before after result = FailsWhere after result × (before ≡ true → after ≡ true)
