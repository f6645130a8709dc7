use Rattle.std.proofs.Common.{◌∙◌, sym}
use Rattle.command_line.proofs.FaultForms.{reading_text}
use Rattle.command_line.proofs.output.fault_form.json_form.Goals as goal

pub returns-then-is_of_reading : goal.returns-then-is_of_reading
returns-then-is_of_reading c = reading_text c.args.fault c.args.clue.opening (sym c.is_of_reading.ensures ∙ c.if-is_of_reading.true)
