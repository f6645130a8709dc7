use Rattle.std.proofs.Common.{refl}
use Rattle.code_names.specs.Sff8472ExtendedIdentifiers.{sff8472_extended_identifier_names}
use Rattle.code_names.proofs.tables.sff8472_extended_identifiers.sff8472_extended_identifier_names.Goals as goal

pub returns : goal.returns
unfolding sff8472_extended_identifier_names
returns c = refl
