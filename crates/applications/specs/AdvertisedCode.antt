-- What a module advertises as data that a proof can tell apart: member by member. (This project's own.)
use Rattle.std.specs.Prelude.{Bool, List, refl}
use Rattle.std.specs.Coded.{Coded, code_by, coded×, coded_list, coded_ℕ, coded_bool}
use Rattle.std.specs.FinSet as set
use Rattle.field_tables.specs.LaneSets.{Lanes}
use Rattle.applications.specs.contracts.active.ActiveSet as active_contract
use Rattle.applications.specs.contracts.app.App as app_contract
use Rattle.applications.specs.declared.active.ActiveSet.{ActiveSet}
use Rattle.applications.specs.declared.app.App.{App}
use Rattle.applications.specs.Advertised.{Advertised}

abbrev pub coded_advertised : Coded Advertised
coded_advertised =
    code_by (List App × (Lanes × (Bool × ActiveSet)))
    (coded× (coded_list app_contract.the_row.coded) (coded× (set.code coded_ℕ) (coded× coded_bool active_contract.the_row.coded)))
    (λ a. (a.apps, (a.unsupported, (a.paired, a.active))))
    (λ p. record { apps = p.0; unsupported = p.1.0; paired = p.1.1.0; active = p.1.1.1 })
    (λ _. refl)
