use Rattle.std.proofs.Common.{Some}
use Rattle.toml.specs.View.{table_view}
use Rattle.applications.specs.declared.weights.table.WeightTable.TheVariants.{Host, Media, App}
use Rattle.applications.specs.WeightTables.{members_in}
use Rattle.applications.proofs.TableMembers.{weights_of_are}
use Rattle.applications.proofs.weights.document.read_document.Goals as goal

pub invariant_of-result : goal.invariant_of-result
invariant_of-result c =
    let document = table_view c.args.document.now in
    record {
      by_host = rw c.in_ok-by_host_id.ensures.answer.1 (weights_of_are Host (members_in Host (Some document)));
      by_media = rw c.in_ok-by_media_id.ensures.answer.1 (weights_of_are Media (members_in Media (Some document)));
      by_app = rw c.in_ok-by_app.ensures.answer.1 (weights_of_are App (members_in App (Some document)));
      stay = c.stay_in.type_inv;
    }
