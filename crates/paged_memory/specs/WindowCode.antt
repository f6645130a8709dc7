-- Windows as data that a proof can tell apart: by the memory and the numbers of the selection. (This project's own.)
use Rattle.std.specs.Prelude.{ℕ, refl}
use Rattle.std.specs.Coded.{Coded, code_by, coded×, coded_list, coded_ℕ}
use Rattle.std.specs.FinMap as map
use Rattle.paged_memory.specs.declared.mapped_page.MappedPage.{MappedPage}
use Rattle.paged_memory.specs.KeyCode.{coded_key}
use Rattle.paged_memory.specs.Images.{Memory}
use Rattle.paged_memory.specs.Windows.{Windowed}

abbrev coded_memory : Coded Memory
coded_memory = map.code coded_key (coded_list coded_ℕ)

abbrev pub coded_selection : Coded MappedPage
coded_selection = code_by (ℕ × (ℕ × ℕ)) (coded× coded_ℕ (coded× coded_ℕ coded_ℕ)) (λ s. (s.bank, (s.page, s.waiting)))
    (λ p. record { bank = p.0; page = p.1.0; waiting = p.1.1 }) (λ _. refl)

abbrev pub coded_window : Coded Windowed
coded_window = code_by (Memory × MappedPage) (coded× coded_memory coded_selection) (λ w. (w.memory, w.selection))
    (λ p. record { memory = p.0; selection = p.1 }) (λ _. refl)
