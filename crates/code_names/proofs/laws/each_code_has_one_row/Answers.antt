use Rattle.code_names.proofs.OneRow.{each_code_has_one_row}
use Rattle.code_names.proofs.laws.each_code_has_one_row.Goals as goal

pub returns : goal.returns
returns c = each_code_has_one_row
