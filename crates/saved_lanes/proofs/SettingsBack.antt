-- The numbers of the parts of a change of settings stand for it.
use Rattle.std.proofs.Common.{◌≡◌, ◌==◌, Bool, true, Some, None, cond, ap, ◌∙◌}
use Rattle.std.proofs.lemmas.Bool.{eq-eqb}
use Rattle.field_tables.specs.LaneSets.{lanes_in}
use Rattle.lane_controls.specs.declared.settings_change.ChangingSettings.{ChangingSettings}
use Rattle.saved_lanes.specs.declared.settings.numbers.SavedSettings.{SavedSettings}
use Rattle.saved_lanes.specs.SavedLanes.{is_one, page_in, taken_in}
use Rattle.saved_lanes.specs.SavedSettings.{Procedure, change_magic, changing_in, is_known, is_sound, procedure_in, stage_in}
use Rattle.saved_lanes.proofs.Back.{both}

abbrev pub settings_of : Procedure → ChangingSettings
settings_of procedure = procedure.conversation.conversation.conversation

-- the parts that a change under way has
pub record AreParts (saved : SavedSettings) (procedure : Procedure) : Type 0 where
  pub magic : saved.magic ≡ change_magic
  pub known : is_known saved.stage saved.end ≡ true
  pub lanes : lanes_in saved.lanes ≡ (settings_of procedure).change.lanes
  pub settings : saved.settings ≡ (settings_of procedure).change.settings
  pub tries : saved.tries ≡ (settings_of procedure).change.tries
  pub stage : stage_in saved.stage saved.end saved.end_lane ≡ (settings_of procedure).stage
  pub staged : saved.staged ≡ (settings_of procedure).staged
  pub mixed : saved.mixed ≡ (settings_of procedure).mixed
  pub left : saved.left ≡ (settings_of procedure).tries
  pub selection : page_in saved.selection saved.page ≡ procedure.conversation.conversation.selection
  pub taken : taken_in saved.taken saved.taken_page ≡ procedure.conversation.conversation.taken
  pub doubts : is_one saved.doubts ≡ procedure.conversation.conversation.doubts
  pub pause : saved.pause ≡ procedure.conversation.patience.pause
  pub limit : saved.limit ≡ procedure.conversation.patience.limit
  pub due : is_one saved.due ≡ procedure.conversation.due
  pub idle : saved.idle ≡ procedure.conversation.idle
  pub steps : saved.steps ≡ procedure.steps
  pub most : saved.max_steps ≡ procedure.limit

procedure_back : (saved : SavedSettings) (procedure : Procedure) → AreParts saved procedure → procedure_in saved ≡ procedure
procedure_back saved procedure parts = λ i. record {
  conversation = record {
    conversation = record {
      conversation = record {
        change = record { lanes = parts.lanes i; settings = parts.settings i; tries = parts.tries i };
        stage = parts.stage i;
        staged = parts.staged i;
        mixed = parts.mixed i;
        tries = parts.left i;
      };
      selection = parts.selection i;
      taken = parts.taken i;
      doubts = parts.doubts i;
    };
    patience = record { pause = parts.pause i; limit = parts.limit i };
    due = parts.due i;
    idle = parts.idle i;
  };
  steps = parts.steps i;
  limit = parts.most i;
}

sound : (saved : SavedSettings) → saved.magic ≡ change_magic → is_known saved.stage saved.end ≡ true → is_sound saved ≡ true
sound saved magic known = both (saved.magic == change_magic) (is_known saved.stage saved.end) (eq-eqb saved.magic change_magic magic) known

pub changing_back : (saved : SavedSettings) (procedure : Procedure) → AreParts saved procedure → changing_in saved ≡ Some procedure
unfolding changing_in
changing_back saved procedure parts =
    ap (λ (b : Bool). cond b (Some (procedure_in saved)) None) (sound saved parts.magic parts.known)
    ∙ ap (λ (p : Procedure). Some p) (procedure_back saved procedure parts)
