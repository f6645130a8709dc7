-- Provisioning with signal integrity settings as C sees it: what is told of each call. (docs/lanes.md, "From C and Python"; this
-- project's own)
use Rattle.std.specs.Prelude.{◌≡◌, ℕ, Option, Some, None}
use Rattle.conversations.specs.declared.next.Next.{Next}
use Rattle.conversations.specs.declared.next.Next.TheVariants.{Do, Wait, End}
use Rattle.conversations.specs.declared.pausing.Timed.{Timed}
use Rattle.conversations.specs.declared.pausing.Timed.TheVariants.{InTime, Overdue}
use Rattle.conversations.specs.declared.watching.Watched.{Watched}
use Rattle.conversations.specs.declared.watching.Watched.TheVariants as watched
use Rattle.conversations.specs.declared.within.Spent.{Spent}
use Rattle.control_sets.specs.declared.fault.ProvisionFault.TheVariants.{GaveUp}
use Rattle.control_sets.specs.declared.procedures.saved_fault.SavedFault.{SavedFault}
use Rattle.control_sets.specs.SavedNumbers.{saved_fault}
use Rattle.explicit_provisioning.specs.declared.fault.ExplicitFault.{ExplicitFault}
use Rattle.explicit_provisioning.specs.declared.fault.ExplicitFault.TheVariants.{Provision, NotStaged, NotActive}
use Rattle.explicit_provisioning.specs.ExplicitProcedures.{ExplicitEnd, WatchfulTasks, fault_of}
use Rattle.saved_lanes.specs.declared.settings.numbers.SavedSettingsChange.{SavedSettingsChange}
use Rattle.saved_provisioning.specs.declared.numbers.SavedExplicit.{SavedExplicit}
use Rattle.saved_provisioning.specs.SavedProvisioning.{provisioning_in}
use Rattle.saved_provisioning.specs.Turns.{wants}
use Rattle.firmware_api.specs.declared.explicit.SavedExplicitEnd.{SavedExplicitEnd}
use Rattle.firmware_api.specs.declared.status.Refusal.TheVariants.{NoConversation, NotEnded}
use Rattle.firmware_api.specs.SavedConversations.{left_by, overdue}
use Rattle.firmware_api.specs.Statuses.{done, status_of}

-- which lanes are disturbed is said by those that are taken down
abbrev pub asked : SavedSettingsChange → SavedSettingsChange
asked change = record change { permitted = change.lanes }

abbrev pub Ending : Type 0
Ending = Watched (Spent (Timed ExplicitEnd))

abbrev pub wanted_of : Option WatchfulTasks → Option (Next Ending)
wanted_of None = None
wanted_of (Some tasks) = Some (wants tasks)

abbrev pub wanted_in : SavedExplicit → Option (Next Ending)
wanted_in saved = wanted_of (provisioning_in saved)

-- ---- how it ended

abbrev pub ended_with : ℕ → SavedFault → SavedExplicitEnd
ended_with steps fault = record { steps = steps; fault = fault; settings = 0; lane = 0 }

abbrev pub other_settings : ℕ → ℕ → SavedExplicitEnd
other_settings settings lane = record { steps = 0; fault = saved_fault None; settings = settings; lane = lane }

abbrev pub ended_in_time : ℕ → Option ExplicitFault → SavedExplicitEnd
ended_in_time steps None = ended_with steps (saved_fault None)
ended_in_time steps (Some (Provision fault)) = ended_with 0 (saved_fault (Some fault))
ended_in_time steps (Some NotStaged) = other_settings 1 0
ended_in_time steps (Some (NotActive lane)) = other_settings 2 lane

-- as it may, out of patience, or after as many operations as may be
abbrev pub ended_by : ℕ → Option (Timed ExplicitEnd) → SavedExplicitEnd
ended_by steps None = ended_with 0 (saved_fault (Some GaveUp))
ended_by steps (Some Overdue) = ended_with 0 overdue
ended_by steps (Some (InTime end)) = ended_in_time steps (fault_of end)

abbrev pub end_of : Ending → SavedExplicitEnd
end_of (watched.InOrder spent) = ended_by spent.steps spent.end
end_of (watched.Left code) = ended_with 0 (left_by code)

abbrev pub IsEndTold : ℕ → SavedExplicitEnd → Option (Next Ending) → Type 0
IsEndTold status ended None = status ≡ status_of NoConversation
IsEndTold status ended (Some (Do op)) = status ≡ status_of NotEnded
IsEndTold status ended (Some (Wait time)) = status ≡ status_of NotEnded
IsEndTold status ended (Some (End ending)) = (status ≡ done) × (ended ≡ end_of ending)
