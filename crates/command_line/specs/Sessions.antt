-- What a session holds, by the texts that it was set up from. (This project's own.)
use Rattle.std.specs.Prelude.{◌≡◌}
use Rattle.bus_model.specs.ScriptBuses.{seen_at}
use Rattle.applications.specs.declared.conventions.Conventions.{Conventions}
use Rattle.command_line.specs.Inputs.{Inputs}
use Rattle.command_line.specs.ProvisionCommand.{IsSetUp, bus_at_start, inactive_of}
use Rattle.command_line.specs.declared.commands.session.Session.{Session}

pub record IsSessionOf (conventions : Conventions) (inputs : Inputs) (session : Session) : Type 0 where
  pub set_up : IsSetUp conventions inputs
  pub advert : session.advert ≡ set_up.planning.advert
  pub plan : session.plan ≡ set_up.certificate.paths
  pub kept : session.kept ≡ set_up.planning.kept
  pub inactive : session.inactive ≡ inactive_of set_up
  pub bus : seen_at session.bus ≡ bus_at_start set_up.planning.image set_up.script
