use Rattle.field_tables.proofs.EntriesApart.{within_half}
use Rattle.field_tables.proofs.laws.each_entry_is_within_its_half.Goals as goal

pub returns : goal.returns
returns c = within_half
