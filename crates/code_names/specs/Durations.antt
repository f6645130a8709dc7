-- How long a state lasts at most. (OIF-CMIS-05.0, Durations Advertising)
use Rattle.std.specs.Prelude.{List, [], ◌∷◌, codes}
use Rattle.code_names.specs.Rows.{Row, name, reserved_from}

unfoldable pub duration_names : List Row
duration_names =
    name 0x00 (codes "below 1 ms")
    ∷ name 0x01 (codes "1 to 5 ms")
    ∷ name 0x02 (codes "5 to 10 ms")
    ∷ name 0x03 (codes "10 to 50 ms")
    ∷ name 0x04 (codes "50 to 100 ms")
    ∷ name 0x05 (codes "100 to 500 ms")
    ∷ name 0x06 (codes "500 ms to 1 s")
    ∷ name 0x07 (codes "1 to 5 s")
    ∷ name 0x08 (codes "5 to 10 s")
    ∷ name 0x09 (codes "10 s to 1 min")
    ∷ name 0x0A (codes "1 to 5 min")
    ∷ name 0x0B (codes "5 to 10 min")
    ∷ name 0x0C (codes "10 to 50 min")
    ∷ name 0x0D (codes "50 min or more")
    ∷ reserved_from 0x0E 0x0F
    ∷ []
