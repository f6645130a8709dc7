use Rattle.std.proofs.Common.{Some, ap}
use Rattle.firmware_api.proofs.ShortNames.{given_of_media_codes}
use Rattle.firmware_api.proofs.code_texts.dovecounter_media_name.Goals as goal

pub returns-clause-short : goal.returns-clause-short
returns-clause-short c = λ is. c.put.ensures.short is (given_of_media_codes c.args.media_type c.args.code (Some c.media_text.result) (ap Some c.media_text.ensures))
