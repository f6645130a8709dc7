use Rattle.std.proofs.Common.{◌≡◌, ◌++◌, ◌∷◌, map, arith}
use Rattle.std.proofs.lemmas.Grind.{common_steps}
use Rattle.json.specs.Token.{begin_object}
use Rattle.report_entries.specs.EntryJson.{form_members}
use Rattle.report_entries.specs.JsonTrees.{all_member_tokens}
use Rattle.plan_reports.specs.ProcedureJson.{operations_members, outcome_fault_members, outcome_members}
use Rattle.plan_reports.proofs.JsonDepths.{document_depth, procedure_depth}
use Rattle.plan_reports.proofs.json_procedure.procedure_json.Goals as goal

pub returns : goal.returns
returns c =
    let traced = c.args.is_traced in
    let steps = c.args.steps.now in
    let outcome = c.args.outcome in
    let fault = map (λ word. word.items) c.args.fault.now in
    let sentence = c.args.sentence.now in
    let said = operations_members traced steps ++ (outcome_members outcome ++ outcome_fault_members fault sentence) in
    let begun : c.put_outcome_fault.new.out ≡ begin_object ∷ all_member_tokens (form_members ++ said) = grind (arith, common_steps) in
    c.end.ensures.written (form_members ++ said) begun (document_depth said (procedure_depth traced steps outcome fault sentence))
