-- How deep the JSON of all that a module says of itself nests.
use Rattle.std.proofs.Common.{List, [], ◌∷◌, ◌≤◌, Option, Some, None, arith}
use Rattle.json.specs.Tree.{members_depth}
use Rattle.report_entries.specs.Entries.{Entry}
use Rattle.report_entries.specs.EntryJson.{entries_members}
use Rattle.report_entries.specs.JsonTrees.{members_of}
use Rattle.report_entries.proofs.JsonTokens.{deep, entries_depth}
use Rattle.observable_reports.specs.declared.amount_text.ShownAmount.{ShownAmount}
use Rattle.observable_reports.specs.declared.listed_instances.Seen.{Seen}
use Rattle.observable_reports.specs.AmountTexts.{text_of}
use Rattle.observable_reports.specs.Details.{amount_members, amount_seen, instance_members, instances_members, known_members, members_with}
use Rattle.observable_reports.proofs.JsonDepths.{scalar_depth}

known_depth : (seen : Seen) (amount : Option ShownAmount) → members_depth (members_of (known_members seen amount)) ≤ 1
unfolding amount_members
known_depth seen None = omega arith
known_depth seen (Some amount) = omega (arith, scalar_depth (text_of amount))

instances_depth : (seen : List Seen) → members_depth (members_of (instances_members seen)) ≤ 2
unfolding instances_members
instances_depth [] = omega arith
instances_depth (one ∷ more) =
    deep (instance_members one) (instances_members more) 2 (omega (arith, known_depth one (amount_seen one))) (instances_depth more)

pub members_depth_with : (entries : List Entry) (seen : List Seen) → members_depth (members_of (members_with entries seen)) ≤ 8
members_depth_with entries seen = omega (arith, deep (entries_members entries) (instances_members seen) 2 (entries_depth entries) (instances_depth seen))
