use Rattle.vdm_reading.proofs.BankLaws.{of_bank}
use Rattle.vdm_reading.proofs.laws.only_pages_of_the_bank_are_kept.Goals as goal

pub returns : goal.returns
returns c = of_bank
