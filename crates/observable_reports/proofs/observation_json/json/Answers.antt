use Rattle.std.proofs.Common.{◌≡◌, ◌++◌, ◌∷◌, arith}
use Rattle.std.proofs.lemmas.Grind.{common_steps}
use Rattle.json.specs.Token.{begin_object}
use Rattle.report_entries.specs.EntryJson.{form_members}
use Rattle.report_entries.specs.JsonTrees.{all_member_tokens}
use Rattle.observable_reports.specs.ObservationJson.{report_members}
use Rattle.observable_reports.proofs.JsonDepths.{document_depth, report_depth}
use Rattle.observable_reports.proofs.observation_json.json.Goals as goal

pub returns : goal.returns
returns c =
    let members = report_members c.args.seen.now c.args.absent in
    let begun : c.put_report.new.out ≡ begin_object ∷ all_member_tokens (form_members ++ members) = grind (arith, common_steps) in
    c.end.ensures.written (form_members ++ members) begun (document_depth members (report_depth c.args.seen.now c.args.absent))
