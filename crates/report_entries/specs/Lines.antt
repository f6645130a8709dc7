-- Report lines: a name, a space and a value. (docs/formats.md, "Reports"; this project's own)
use Rattle.std.specs.Prelude.{ℕ, List, ◌∷◌, ◌++◌}

unfoldable pub line : List ℕ → List ℕ → List ℕ
line name value = name ++ 32 ∷ value
