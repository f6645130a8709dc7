use Rattle.std.proofs.Common.{arith}
use Rattle.json.proofs.Printed.Decimals.{IsNumber-decimal}
use Rattle.report_entries.proofs.json_writer.JsonWriter.number.Goals as goal

pub token-requires : goal.token-requires
token-requires c = rw c.format.ensures.text (IsNumber-decimal c.args.value (omega (arith, c.ranges.value)))
