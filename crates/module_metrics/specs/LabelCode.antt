-- Labels as data that a proof can tell apart: by the key and the value. (This project's own.)
use Rattle.std.specs.Prelude.{ℕ, List, refl}
use Rattle.std.specs.Coded.{Coded, code_by, coded×, coded_list, coded_ℕ}
use Rattle.module_metrics.specs.Exposition.{Label}

abbrev pub coded_label : Coded Label
coded_label =
    code_by (List ℕ × List ℕ) (coded× (coded_list coded_ℕ) (coded_list coded_ℕ)) (λ l. (l.key, l.value)) (λ p. record { key = p.0; value = p.1 }) (λ _. refl)
