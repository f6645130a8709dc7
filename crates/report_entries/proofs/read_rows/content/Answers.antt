use Rattle.std.proofs.Common.{◌≡◌, true, subst}
use Rattle.std.proofs.lemmas.Bool.{and_parts}
use Rattle.module_decoding.specs.Amounts.{is_power}
use Rattle.report_entries.specs.Rows.{is_counted, source_fits}
use Rattle.report_entries.specs.RowTables.{source_in}
use Rattle.report_entries.proofs.read_rows.content.Goals as goal

pub length_in-requires-clause-power : goal.length_in-requires-clause-power
length_in-requires-clause-power c =
    let base = c.in-Length.base in
    let power = c.in-Length.power in
    (and_parts (is_counted base 1) (is_power power) (subst (λ s. source_fits (source_in s) ≡ true) c.in-Length.is c.requires.source)).1

pub lane_states-requires-clause-statuses : goal.lane_states-requires-clause-statuses
lane_states-requires-clause-statuses c =
    let paths = c.in-LaneStates.paths in
    let statuses = c.in-LaneStates.statuses in
    (and_parts (is_counted paths 8) (is_counted statuses 8) (subst (λ s. source_fits (source_in s) ≡ true) c.in-LaneStates.is c.requires.source)).1
