use Rattle.std.proofs.Common.{inr, length}
use Rattle.firmware_update.specs.Payloads.{message_of}
use Rattle.firmware_laws.proofs.PowerLoss.{boots_image, endures_image, image_stays, sent_image}
use Rattle.firmware_update.proofs.Safe.{come_safe}
use Rattle.firmware_laws.proofs.laws.power_loss_leaves_an_image.Goals as goal

pub returns-clause-always : goal.returns-clause-always
returns-clause-always c conduct file history first last two has quiet safe comes = image_stays conduct two file first quiet history last has safe comes

pub returns-clause-within : goal.returns-clause-within
returns-clause-within c conduct file history first last command choice two has quiet safe comes may =
    sent_image conduct two file first quiet command choice history last safe comes may (image_stays conduct two file first quiet history last has safe comes)

pub returns-clause-cut_short : goal.returns-clause-cut_short
returns-clause-cut_short c conduct file history first last after command choice two has quiet safe comes may loses =
    boots_image (conduct (message_of file command) choice last).after after loses
    (sent_image conduct two file first quiet command choice history last safe comes may (image_stays conduct two file first quiet history last has safe comes))

pub returns-clause-reset_short : goal.returns-clause-reset_short
returns-clause-reset_short c conduct file history first last after command choice two has quiet safe comes may resets =
    endures_image (conduct (message_of file command) choice last).after after (inr (inr resets))
    (sent_image conduct two file first quiet command choice history last safe comes may (image_stays conduct two file first quiet history last has safe comes))

pub returns-clause-boots : goal.returns-clause-boots
returns-clause-boots c conduct file history first last after two has quiet safe comes loses =
    boots_image last after loses (image_stays conduct two file first quiet history last has safe comes)

pub returns-clause-updates : goal.returns-clause-updates
returns-clause-updates c conduct file history update first last two has quiet at comes =
    image_stays conduct two file first quiet history last has (come_safe (length file) update.fault update.stage update.closing history at.come) comes
