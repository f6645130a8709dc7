use Rattle.std.proofs.Common.{refl}
use Rattle.code_names.specs.Sff8636Encodings.{sff8636_encoding_names}
use Rattle.code_names.proofs.tables.sff8636_encodings.sff8636_encoding_names.Goals as goal

pub returns : goal.returns
unfolding sff8636_encoding_names
returns c = refl
