use Rattle.std.proofs.Common.{refl, rules}
use Rattle.firmware_api.proofs.SavedLaws.{reading_back}
use Rattle.firmware_api.proofs.conversation.numbers.put_reading.Goals as goal

pub returns-clause-same : goal.returns-clause-same
returns-clause-same c halves has_read =
    reading_back _ c.args.read.now c.args.count halves (record {
      magic = refl;
      saved = c.numbers_of_reading-saved.ensures;
      doubts = c.number_of-saved.ensures;
      taken = search rules;
      taken_page = search rules;
      halves = refl;
      piece = refl;
      part = search rules;
      short = search rules;
      watches = refl;
    }) c.requires has_read
