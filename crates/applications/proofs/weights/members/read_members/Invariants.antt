use Rattle.toml.specs.View.{members_view, table_view}
use Rattle.applications.specs.WeightTables.{members_of}
use Rattle.applications.proofs.TableMembers.{Reads}
use Rattle.applications.proofs.weights.members.read_members.Given as goal

abbrev pub invariant-loop-key : goal.invariant-loop-key
invariant-loop-key l = Reads l.table (members_of (table_view l.members)) (members_of (members_view l.key-iterator)) l.weights l.listed
