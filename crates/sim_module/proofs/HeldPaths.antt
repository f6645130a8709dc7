-- Where no lane holds down its path, no path is down.
use Rattle.std.proofs.Common.{◌≡◌, ℕ, ◌&&◌, ◌||◌, Bool, true, false, List, [], ◌∷◌, refl, ◌∙◌}
use Rattle.std.specs.List.{list_any}
use Rattle.control_sets.specs.HostPaths.{agree}
use Rattle.sim_module.specs.declared.module.SimModule.{SimModule}
use Rattle.sim_module.specs.Lanes.{active_bytes, all_lanes}
use Rattle.sim_module.specs.Down.{holds_down, is_held, is_path_down}

neither : (a b : Bool) → (a || b) ≡ false → (a ≡ false) × (b ≡ false)
neither true b none = cc
neither false b none = (refl, none)

no_more : (a b rest : Bool) → b ≡ false → rest ≡ false → ((a && b) || rest) ≡ false
no_more true b rest none others = (λ i. none i || rest) ∙ others
no_more false b rest none others = others

none_of : (f g : ℕ → Bool) (ns : List ℕ) → list_any f ns ≡ false → list_any (λ n. g n && f n) ns ≡ false
none_of f g [] none = refl
none_of f g (n ∷ ns) none =
    let (here, more) = neither (f n) (list_any f ns) none in
    no_more (g n) (f n) (list_any (λ n. g n && f n) ns) here (none_of f g ns more)

pub none_held : (sim : SimModule) (lane : ℕ) → is_held sim ≡ false → is_path_down sim lane ≡ false
none_held sim lane none = none_of (holds_down sim) (agree (active_bytes sim) lane) all_lanes none
