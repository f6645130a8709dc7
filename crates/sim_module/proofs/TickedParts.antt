-- What a tick makes of what changes in a module is the same whatever never changes.
use Rattle.std.proofs.Common.{◌≡◌, refl, ap, ◌∙◌}
use Rattle.sim_module.specs.declared.fixed.Fixed.{Fixed}
use Rattle.sim_module.specs.declared.moving.Moving.{Moving}
use Rattle.sim_module.specs.declared.module.SimModule.{SimModule}
use Rattle.sim_module.specs.Record.{bare, module_of}
use Rattle.sim_module.specs.Down.{is_down}
use Rattle.sim_module.specs.Ticks.{arrives, ticked, ticked_lane}

-- of another memory
abbrev over : Fixed → SimModule → SimModule
over fixed sim = record sim { image = fixed.image; advert = fixed.advert }

over_ticked : (fixed : Fixed) (sim : SimModule) → over fixed (ticked sim) ≡ ticked (over fixed sim)
unfolding ticked ticked_lane arrives is_down
over_ticked fixed sim = refl

pub ticked_of : (fixed : Fixed) (old new : Moving) → bare new ≡ ticked (bare old) → module_of fixed new ≡ ticked (module_of fixed old)
ticked_of fixed old new is = ap (over fixed) is ∙ over_ticked fixed (bare old)
