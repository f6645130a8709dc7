-- The numbers of the parts of a change stand for it.
use Rattle.std.proofs.Common.{◌≡◌, ◌==◌, ◌&&◌, Bool, true, Some, None, cond, ap, ◌∙◌}
use Rattle.std.proofs.lemmas.Bool.{eq-eqb}
use Rattle.lane_controls.specs.declared.lane_change.ChangingLanes.{ChangingLanes}
use Rattle.saved_lanes.specs.declared.numbers.SavedChanging.{SavedChanging}
use Rattle.saved_lanes.specs.SavedLanes.{Procedure, change_in, change_magic, changing_in, is_change, is_one, is_sound, page_in, procedure_in, stage_of, taken_in}

abbrev pub lanes_of : Procedure → ChangingLanes
lanes_of procedure = procedure.conversation.conversation.conversation

-- the parts that a change under way has
pub record AreParts (saved : SavedChanging) (procedure : Procedure) : Type 0 where
  pub magic : saved.magic ≡ change_magic
  pub known : is_change saved.change ≡ true
  pub change : change_in saved.change ≡ (lanes_of procedure).change
  pub stage : stage_of saved ≡ (lanes_of procedure).stage
  pub left : saved.left ≡ (lanes_of procedure).left
  pub refused : is_one saved.refused ≡ (lanes_of procedure).refused
  pub selection : page_in saved.selection saved.page ≡ procedure.conversation.conversation.selection
  pub taken : taken_in saved.taken saved.taken_page ≡ procedure.conversation.conversation.taken
  pub doubts : is_one saved.doubts ≡ procedure.conversation.conversation.doubts
  pub pause : saved.pause ≡ procedure.conversation.patience.pause
  pub limit : saved.limit ≡ procedure.conversation.patience.limit
  pub due : is_one saved.due ≡ procedure.conversation.due
  pub idle : saved.idle ≡ procedure.conversation.idle
  pub steps : saved.steps ≡ procedure.steps
  pub most : saved.max_steps ≡ procedure.limit

procedure_back : (saved : SavedChanging) (procedure : Procedure) → AreParts saved procedure → procedure_in saved ≡ procedure
procedure_back saved procedure parts = λ i. record {
  conversation = record {
    conversation = record {
      conversation = record { change = parts.change i; stage = parts.stage i; left = parts.left i; refused = parts.refused i };
      selection = parts.selection i;
      taken = parts.taken i;
      doubts = parts.doubts i;
    };
    patience = record { pause = parts.pause i; limit = parts.limit i };
    due = parts.due i;
    idle = parts.idle i;
  };
  steps = parts.steps i;
  limit = parts.most i;
}

pub both : (a b : Bool) → a ≡ true → b ≡ true → (a && b) ≡ true
both a b one two = ap (λ (t : Bool). t && b) one ∙ two

sound : (saved : SavedChanging) → saved.magic ≡ change_magic → is_change saved.change ≡ true → is_sound saved ≡ true
sound saved magic known = both (saved.magic == change_magic) (is_change saved.change) (eq-eqb saved.magic change_magic magic) known

pub changing_back : (saved : SavedChanging) (procedure : Procedure) → AreParts saved procedure → changing_in saved ≡ Some procedure
unfolding changing_in
changing_back saved procedure parts =
    ap (λ (b : Bool). cond b (Some (procedure_in saved)) None) (sound saved parts.magic parts.known)
    ∙ ap (λ (p : Procedure). Some p) (procedure_back saved procedure parts)
