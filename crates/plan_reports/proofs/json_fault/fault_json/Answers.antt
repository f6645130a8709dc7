use Rattle.std.proofs.Common.{◌≡◌, ◌++◌, ◌∷◌, map, arith}
use Rattle.std.proofs.lemmas.Grind.{common_steps}
use Rattle.json.specs.Token.{begin_object}
use Rattle.report_entries.specs.EntryJson.{form_members}
use Rattle.report_entries.specs.JsonTrees.{all_member_tokens}
use Rattle.plan_reports.specs.FaultJson.{fault_members}
use Rattle.plan_reports.proofs.JsonDepths.{document_depth, fault_depth}
use Rattle.plan_reports.proofs.json_fault.fault_json.Goals as goal

pub returns : goal.returns
returns c =
    let words = map (λ word. word.items) c.args.words.now in
    let sentence = c.args.sentence.now in
    let said = fault_members words sentence in
    let begun : c.put_fault.new.out ≡ begin_object ∷ all_member_tokens (form_members ++ said) = grind (arith, common_steps) in
    c.end.ensures.written (form_members ++ said) begun (document_depth said (fault_depth words sentence))
