-- What is heard of a module: that it was plugged, that it counts as pulled, or neither. (this project's own)
use Rattle.std.specs.Prelude.{◌≡◌, ◌-◌, ◌<◌, ◌∷◌, ℕ, Bool, true, false}
use Rattle.port_manager.specs.declared.port.Port.{Port}
use Rattle.port_manager.specs.declared.silence.Presence.{Presence}
use Rattle.port_manager.specs.declared.silence.Presence.TheVariants.{Same, Plugged, Pulled}
use Rattle.port_manager.specs.Ports.{heard, is_there, presence_by}
use Rattle.port_manager.specs.Runs.{Becomes, Reaches}
use Rattle.port_manager.specs.Stories.{Event, Story, hear, plug, pull, silence_in}

abbrev pub event_of : Presence → Bool → ℕ → ℕ → Event
event_of Same alive began now = hear alive began
event_of Plugged alive began now = plug now
event_of Pulled alive began now = pull

-- more than three transactions in a row were refused, over more than a second
abbrev pub IsSilent : Story → ℕ → Type 0
IsSilent story now = (3 < (silence_in story).refusals) × (1000 < now - (silence_in story).since)

-- what is heard is an event; a module is plugged if it answers, and pulled if, and only if, it is silent
pub record IsPulledBySilence : Type 0 where
  pub event : (port : Port) (alive : Bool) (began now : ℕ) → Becomes port (event_of (presence_by port alive began now) alive began now) (heard port alive began now)
  pub plugged : (port : Port) (began now : ℕ) → is_there port.stage ≡ false → presence_by port true began now ≡ Plugged
  pub pulled : (story : Story) (port : Port) (began now : ℕ) → Reaches story port → is_there port.stage ≡ true → IsSilent (hear false began ∷ story) now → presence_by port false began now ≡ Pulled
  pub silent : (story : Story) (port : Port) (alive : Bool) (began now : ℕ) → Reaches story port → presence_by port alive began now ≡ Pulled → IsSilent (hear alive began ∷ story) now
