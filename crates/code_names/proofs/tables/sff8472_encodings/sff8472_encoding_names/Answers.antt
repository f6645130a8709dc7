use Rattle.std.proofs.Common.{refl}
use Rattle.code_names.specs.Sff8472Encodings.{sff8472_encoding_names}
use Rattle.code_names.proofs.tables.sff8472_encodings.sff8472_encoding_names.Goals as goal

pub returns : goal.returns
unfolding sff8472_encoding_names
returns c = refl
