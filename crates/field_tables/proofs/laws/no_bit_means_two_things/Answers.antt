use Rattle.field_tables.proofs.EntriesApart.{no_bit_twice}
use Rattle.field_tables.proofs.laws.no_bit_means_two_things.Goals as goal

pub returns : goal.returns
returns c = no_bit_twice
