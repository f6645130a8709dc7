-- Provisioning with settings as plain numbers: which numbers are whose. (docs/lanes.md, "From C and Python"; this project's own)
use Rattle.std.specs.Prelude.{ℕ, ◌==◌, true, List, Option, Some, None, if◌then◌else◌}
use Rattle.std.specs.Option.{option_map}
use Rattle.conversations.specs.declared.watching.Look.{Look}
use Rattle.conversations.specs.declared.watching.Look.TheVariants as looks
use Rattle.control_sets.specs.declared.fault.ProvisionFault.{ProvisionFault}
use Rattle.control_sets.specs.Progress.{PatientProcedure}
use Rattle.control_sets.specs.SavedNumbers.{fault_in, restored}
use Rattle.field_tables.specs.LaneSets.{lanes_in}
use Rattle.lane_controls.specs.declared.settings_change.SettingsChange.{SettingsChange}
use Rattle.lane_controls.specs.declared.settings_change.SettingsPiece.TheVariants.{First, Second, Third}
use Rattle.explicit_provisioning.specs.declared.comparing.ComparingStage.{ComparingStage}
use Rattle.explicit_provisioning.specs.declared.comparing.ComparingStage.TheVariants as comparing
use Rattle.explicit_provisioning.specs.declared.fault.ExplicitFault.{ExplicitFault}
use Rattle.explicit_provisioning.specs.declared.fault.ExplicitFault.TheVariants.{Provision, NotStaged, NotActive}
use Rattle.explicit_provisioning.specs.declared.staging.StagingStage.{StagingStage}
use Rattle.explicit_provisioning.specs.declared.staging.StagingStage.TheVariants as staging
use Rattle.explicit_provisioning.specs.ExplicitProcedures.{WatchfulTasks}
use Rattle.saved_provisioning.specs.declared.numbers.SavedExplicit.{SavedExplicit}
use Rattle.saved_provisioning.specs.declared.numbers.SavedExplicitFault.{SavedExplicitFault}
use Rattle.saved_provisioning.specs.declared.numbers.SavedStage.{SavedStage}

-- what stands in each: DCE1, in ASCII
abbrev pub provisioning_magic : ℕ
provisioning_magic = 0x44434531

-- ---- how far it has come

-- a fault as without settings has to be one
abbrev pub as_without : Option (Option ProvisionFault) → Option (Option ExplicitFault)
as_without (Some (Some fault)) = Some (Some (Provision fault))
as_without found = None

-- whether it failed, and why; none if the numbers are no fault's
abbrev pub explicit_fault_in : SavedExplicitFault → Option (Option ExplicitFault)
explicit_fault_in saved =
    if saved.kind == 0 then Some None
    else (if saved.kind == 1 then as_without (fault_in saved.provision)
    else (if saved.kind == 2 then Some (Some NotStaged)
    else (if saved.kind == 3 then Some (Some (NotActive saved.lane))
    else None)))

abbrev pub staging_in : SavedStage → List ℕ → Option StagingStage
staging_in saved settings =
    if saved.stage == 0 then Some staging.Finding
    else (if saved.stage == 1 then Some staging.Reading
    else (if saved.stage == 2 then Some (staging.Storing First settings saved.left)
    else (if saved.stage == 3 then Some (staging.Storing Second settings saved.left)
    else (if saved.stage == 4 then Some (staging.Storing Third settings saved.left)
    else (if saved.stage == 5 then Some (staging.Stored settings saved.left)
    else (if saved.stage == 6 then option_map staging.Ended (explicit_fault_in saved.fault)
    else None))))))

abbrev pub comparing_in : SavedStage → Option ComparingStage
comparing_in saved =
    if saved.stage == 0 then Some (comparing.Reading saved.left)
    else (if saved.stage == 1 then option_map comparing.Ended (explicit_fault_in saved.fault) else None)

abbrev pub look_in : ℕ → ℕ → Option Look
look_in number code =
    if number == 0 then Some looks.Seen
    else (if number == 1 then Some looks.Due
    else (if number == 2 then Some (looks.Left code)
    else None))

-- ---- the three conversations

abbrev pub change_in : SavedExplicit → SettingsChange
change_in saved = record { lanes = lanes_in saved.lanes; settings = saved.settings; tries = saved.tries }

-- a procedure of tasks alone, and what precedes and follows them
abbrev pub with_stages : SavedExplicit → PatientProcedure → StagingStage → ComparingStage → Look → WatchfulTasks
with_stages saved tasks first last look =
    let pausing = tasks.conversation in
    let on = pausing.conversation in
    record {
      conversation = record {
        conversation = record {
          conversation = record {
            conversation = record {
              first = record { change = change_in saved; stage = first };
              second = record { first = on.conversation; second = record { change = change_in saved; stage = last } };
            };
            selection = on.selection;
            taken = on.taken;
            doubts = on.doubts;
          };
          patience = pausing.patience;
          due = pausing.due;
          idle = pausing.idle;
        };
        steps = tasks.steps;
        limit = tasks.limit;
      };
      watches = true;
      look = look;
    }

abbrev pub provisioning_by : SavedExplicit → Option PatientProcedure → Option StagingStage → Option ComparingStage → Option Look → Option WatchfulTasks
provisioning_by saved (Some tasks) (Some first) (Some last) (Some look) = Some (with_stages saved tasks first last look)
provisioning_by saved tasks first last look = None

-- what is under way by these numbers, and doubts after a refusal; none by other memory
unfoldable pub provisioning_in : SavedExplicit → Option WatchfulTasks
provisioning_in saved =
    if saved.magic == provisioning_magic
    then provisioning_by saved (restored saved.procedure true) (staging_in saved.staging saved.mixed) (comparing_in saved.comparing) (look_in saved.look saved.left)
    else None
