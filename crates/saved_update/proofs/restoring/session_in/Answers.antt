use Rattle.std.proofs.Common.{Option, ap, subst, sym, ◌∙◌}
use Rattle.command_block.specs.declared.delivery.Delivery.{Delivery}
use Rattle.firmware_update.specs.declared.durations.Durations.{Durations}
use Rattle.firmware_update.specs.declared.session.Session.{Session}
use Rattle.firmware_update.specs.declared.update.Update.{Update}
use Rattle.firmware_update.specs.Progress.{next}
use Rattle.firmware_update.specs.Sessions.{IsSending}
use Rattle.saved_update.specs.SavedUpdates.{session_at, update_in}
use Rattle.saved_update.proofs.Back.{sends}
use Rattle.saved_update.proofs.restoring.session_in.Goals as goal

pub returns-clause-value : goal.returns-clause-value
returns-clause-value c =
    let file = c.args.file.now in
    let saved = c.args.saved.now in
    let update = c.update_in-update.result in
    let durations = c.durations_in-durations.result in
    let with_delivery : Option Delivery → Session = λ o. record { update = update; durations = durations; delivery = o } in
    ap with_delivery c.delivery_by-delivery.ensures
    ∙ ap (λ (u : Update). session_at file u durations saved.delivery) c.update_in-update.ensures.value
    ∙ ap (λ (d : Durations). session_at file (update_in saved) d saved.delivery) c.durations_in-durations.ensures

pub returns-clause-about : goal.returns-clause-about
returns-clause-about c =
    let file = c.args.file.now in
    let update = c.update_in-update.result in
    let durations = c.durations_in-durations.result in (
      ap (λ (u : Update). u.size) c.update_in-update.ensures.value ∙ c.requires.sized,
      c.update_in-update.ensures.room,
      subst (λ (o : Option Delivery). IsSending file durations update (next update) o) (sym c.delivery_by-delivery.ensures) (sends file durations update c.args.saved.now.delivery (next update)),
    )
