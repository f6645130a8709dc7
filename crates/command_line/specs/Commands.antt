-- What each command answers to its input, with the options that are given. (docs/formats.md, "Input"; this project's own)
use Rattle.std.specs.Prelude.{ℕ, true, false, List}
use Rattle.command_line.specs.CheckCommand.{IsCheckAnswer}
use Rattle.command_line.specs.Inputs.{Inputs, parts_read}
use Rattle.command_line.specs.MetricsCommand.{IsMetricsAnswer}
use Rattle.command_line.specs.PlanCommand.{IsPlanAnswer}
use Rattle.command_line.specs.ProvisionCommand.{IsProcedureAnswer}
use Rattle.command_line.specs.ReportCommands.{IsDetailsAnswer, IsObservablesAnswer, IsReportAnswer}
use Rattle.command_line.specs.Runs.{Answer, IsAnswerTo}
use Rattle.command_line.specs.declared.choice.commands.CommandName.{CommandName}
use Rattle.command_line.specs.declared.choice.commands.CommandName.TheVariants.{Report, Details, Observables, Metrics, Plan, Draw, Check, Provision, Trace}
use Rattle.command_line.specs.declared.choice.commands.Request.{Request}
use Rattle.command_line.specs.declared.choice.options.Options.{Options}

-- the answer to the texts of its parts
abbrev pub IsAnswerToInputs : CommandName → Options → Inputs → Answer → Type 0
IsAnswerToInputs (Report report) options inputs = IsReportAnswer report options inputs.image
IsAnswerToInputs Details options inputs = IsDetailsAnswer options inputs.image
IsAnswerToInputs Observables options inputs = IsObservablesAnswer options inputs.image
IsAnswerToInputs Metrics options inputs = IsMetricsAnswer options inputs.image
IsAnswerToInputs Plan options inputs = IsPlanAnswer false options inputs
IsAnswerToInputs Draw options inputs = IsPlanAnswer true options inputs
IsAnswerToInputs Check options inputs = IsCheckAnswer options inputs
IsAnswerToInputs Provision options inputs = IsProcedureAnswer false options inputs
IsAnswerToInputs Trace options inputs = IsProcedureAnswer true options inputs

-- the answer to an input
abbrev pub IsAnswerOf : Request → List ℕ → Answer → Type 0
IsAnswerOf request = IsAnswerTo (parts_read request.command request.options.keep) (IsAnswerToInputs request.command request.options)
