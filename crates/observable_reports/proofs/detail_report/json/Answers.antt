use Rattle.std.proofs.Common.{◌≡◌, ◌++◌, ◌∷◌, map, arith}
use Rattle.std.proofs.lemmas.Grind.{common_steps}
use Rattle.json.specs.Token.{begin_object}
use Rattle.report_entries.specs.Entries.{entry_of}
use Rattle.report_entries.specs.EntryJson.{form_members}
use Rattle.report_entries.specs.JsonTrees.{all_member_tokens}
use Rattle.observable_reports.specs.Details.{members_with}
use Rattle.observable_reports.proofs.DetailDepths.{members_depth_with}
use Rattle.observable_reports.proofs.JsonDepths.{document_depth}
use Rattle.observable_reports.proofs.detail_report.json.Goals as goal

pub returns : goal.returns
returns c =
    let entries = map entry_of c.args.entries.now in
    let members = members_with entries c.args.seen.now in
    let begun : c.put_members.new.out ≡ begin_object ∷ all_member_tokens (form_members ++ members) = grind (arith, common_steps) in
    c.end.ensures.written (form_members ++ members) begun (document_depth members (members_depth_with entries c.args.seen.now))
