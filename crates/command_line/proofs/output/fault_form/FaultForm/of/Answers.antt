use Rattle.std.proofs.Common.{◌≡◌, true, rules}
use Rattle.command_line.proofs.FaultForms.{json_if_err, ready_if_ok}
use Rattle.command_line.proofs.output.fault_form.FaultForm.of.Goals as goal

pub returns-in-Ok : goal.returns-in-Ok
returns-in-Ok c =
    let json : c.args.is_json ≡ true = search rules in
    ready_if_ok c.args.is_json c.args.clue.opening c.args.answer.now _ json c.in-Ok.is

pub returns-in-Err : goal.returns-in-Err
returns-in-Err c =
    let json : c.args.is_json ≡ true = search rules in
    json_if_err c.args.is_json c.args.clue.opening c.args.answer.now _ c.json_form.result json c.in-Err.is c.json_form.ensures
