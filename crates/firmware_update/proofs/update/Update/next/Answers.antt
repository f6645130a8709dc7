use Rattle.std.proofs.Common.{sym, ◌∙◌}
use Rattle.firmware_update.proofs.Accepted.{may_room}
use Rattle.firmware_update.proofs.Safe.{come_may, come_safe}
use Rattle.firmware_update.proofs.Ends.{come_finished}
use Rattle.firmware_update.proofs.update.Update.next.Goals as goal

pub returns-clause-safe : goal.returns-clause-safe
returns-clause-safe c history at = let old = c.args.self.now in come_safe old.size old.fault old.stage old.closing history at.come

pub returns-clause-may : goal.returns-clause-may
returns-clause-may c history command at asks =
    let old = c.args.self.now in
    come_may old.size old.fault old.stage old.closing history command at.come (sym c.wanted.ensures ∙ asks)

pub returns-clause-room : goal.returns-clause-room
returns-clause-room c history command at asks =
    let old = c.args.self.now in
    may_room old.size command history (come_may old.size old.fault old.stage old.closing history command at.come (sym c.wanted.ensures ∙ asks))

pub returns-clause-finished : goal.returns-clause-finished
returns-clause-finished c history at ends =
    let old = c.args.self.now in
    come_finished old.size old.fault old.stage old.closing history at.come (sym c.wanted.ensures ∙ ends)
