-- Whether a module is there, by whether it answers. (this project's own)
use Rattle.std.specs.Prelude.{◌+◌, ◌-◌, ◌^◌, ◌==◌, ◌&&◌, ℕ, Bool, min, nat_lt, if◌then◌else◌}
use Rattle.port_manager.specs.declared.silence.Silence.{Silence}

abbrev pub none : Silence
none = record { refusals = 0; since = 0 }

-- refusals in a row are counted, and dated by the first
abbrev pub after : Silence → Bool → ℕ → Silence
after silence answered began =
    if answered then none
    else record { refusals = min (silence.refusals + 1) (2 ^ 32 - 1); since = if silence.refusals == 0 then began else silence.since }

-- more than three in a row, over more than a second
abbrev pub is_gone : Silence → ℕ → Bool
is_gone silence now = nat_lt 3 silence.refusals && nat_lt 1000 (now - silence.since)
