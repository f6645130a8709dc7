-- Moments and waits, in milliseconds. (this project's own)
use Rattle.std.specs.Prelude.{ℕ, ◌+◌, ◌-◌, ◌^◌, min}

-- moments are below 2 ^ 64: a wait that leads beyond lasts until the last one
abbrev pub later : ℕ → ℕ → ℕ
later now wait = min (now + wait) (2 ^ 64 - 1)

-- waits are below 2 ^ 32: what is left until a later moment
abbrev pub left : ℕ → ℕ → ℕ
left now due = min (due - now) (2 ^ 32 - 1)
