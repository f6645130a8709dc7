-- A change of settings on a bus: how it begins, what it wants, and what a reply makes of it. (docs/lanes.md, "From C and Python"; this
-- project's own)
use Rattle.std.specs.Prelude.{Bool, Some, false}
use Rattle.bus_model.specs.declared.operation.Reply.{Reply}
use Rattle.conversations.specs.declared.next.Next.{Next}
use Rattle.conversations.specs.declared.on_page.OnPage.{OnPage}
use Rattle.conversations.specs.declared.pausing.Patience.{Patience}
use Rattle.conversations.specs.declared.pausing.Timed.{Timed}
use Rattle.conversations.specs.declared.within.Spent.{Spent}
use Rattle.conversations.specs.Patiently.{after_patiently, begun_patiently, wants_patiently}
use Rattle.conversations.specs.Selecting.{chosen, next_on, on_after}
use Rattle.lane_controls.specs.declared.settings_change.ChangingSettings.{ChangingSettings}
use Rattle.lane_controls.specs.declared.settings_change.SettingsChange.{SettingsChange}
use Rattle.lane_controls.specs.declared.settings_change.SettingsEnd.{SettingsEnd}
use Rattle.lane_controls.specs.SettingsChanges as settings
use Rattle.lane_controls.specs.Unconfirmed.{unconfirmed}
use Rattle.paged_memory.specs.declared.page_addressing.PageAddressing.TheVariants.{BankAndPage}
use Rattle.saved_lanes.specs.SavedSettings.{Procedure}
use Rattle.saved_lanes.specs.Turns.{most_steps}

abbrev pub begun_settings : SettingsChange → Patience → Bool → Procedure
begun_settings change patience doubts = begun_patiently (unconfirmed (settings.begun change) doubts) patience most_steps

abbrev pub wants_on : OnPage ChangingSettings → Next SettingsEnd
wants_on on = next_on (chosen (Some BankAndPage)) on.selection (settings.page_at on.conversation.stage) (settings.wants on.conversation)

abbrev pub after_on : OnPage ChangingSettings → Reply → OnPage ChangingSettings
after_on on reply =
    on_after settings.after (λ changing number. changing) false (chosen (Some BankAndPage)) (settings.page_at on.conversation.stage) on reply

abbrev pub wants : Procedure → Next (Spent (Timed SettingsEnd))
wants procedure = wants_patiently wants_on procedure

abbrev pub after : Procedure → Reply → Procedure
after procedure reply = after_patiently wants_on after_on procedure reply
