-- What a module advertises, with another Active Control Set.
use Rattle.applications.specs.declared.active.ActiveSet.{ActiveSet}
use Rattle.applications.specs.Advertised.{Advertised}

abbrev pub with_active : ActiveSet → Advertised → Advertised
with_active active advert = record advert { active = active }
