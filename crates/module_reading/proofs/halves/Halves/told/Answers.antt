use Rattle.std.proofs.Common.{◌∙◌, sym, arith}
use Rattle.std.proofs.lemmas.Option.{slice_get_within}
use Rattle.module_reading.specs.Regions.{regions_of}
use Rattle.module_reading.proofs.RegionLaws.{at_most_five}
use Rattle.module_reading.proofs.halves.Halves.told.Goals as goal

-- the half in hand is one of five
pub overflow_add-self : goal.overflow_add-self
overflow_add-self c =
    let halves = c.args.self.now in
    let within = slice_get_within (regions_of halves.request halves.image) halves.settled c.in-Some.region (sym c.region.ensures ∙ c.in-Some.is) in
    let few = at_most_five halves.request halves.image in
    omega (arith, within, few)
