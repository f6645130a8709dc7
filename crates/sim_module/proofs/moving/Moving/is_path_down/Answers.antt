use Rattle.std.proofs.Common.{sym, ◌∙◌}
use Rattle.sim_module.specs.Record.{bare}
use Rattle.sim_module.proofs.HeldPaths.{none_held}
use Rattle.sim_module.proofs.moving.Moving.is_path_down.Goals as goal

pub returns-then-not-held : goal.returns-then-not-held
returns-then-not-held c = sym (none_held (bare c.args.self.now) c.args.lane (sym c.requires.held ∙ c.if-not-held.true))
