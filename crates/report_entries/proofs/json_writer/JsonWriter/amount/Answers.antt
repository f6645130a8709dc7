use Rattle.std.proofs.Common.{◌≡◌, ◌<◌, ◌^◌, unsigned_abs, rules}
use Rattle.report_entries.specs.Shown.{thousandths}
use Rattle.report_entries.proofs.JsonNumbers.{IsNumber-thousandths}
use Rattle.report_entries.proofs.json_writer.JsonWriter.amount.Goals as goal

pub token-requires : goal.token-requires
token-requires c =
    let text : c.as_str.result.now ≡ thousandths c.args.millis = search rules in
    let small : unsigned_abs c.args.millis < 2 ^ 64 = search rules in
    rw text (IsNumber-thousandths c.args.millis small)
