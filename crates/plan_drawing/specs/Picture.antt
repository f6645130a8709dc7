-- The picture of a plan: the host lanes, and below them the media lanes, with a box for each data path. (docs/formats.md,
-- "draw"; this project's own)
use Rattle.std.specs.Prelude.{ℕ, ◌+◌, ◌-◌, ◌/◌, ◌%◌, ◌==◌, nat_lt, if◌then◌else◌, List, [], ◌∷◌, ◌++◌, length, map, replicate, take, codes, unwrap_or, slice_get}
use Rattle.std.specs.Char.{is_ascii_whitespace}
use Rattle.std.specs.List.{enumerate_from, suffix_len}
use Rattle.hex.specs.Hex.{encode_lower}
use Rattle.applications.specs.Advertised.{Advertised}
use Rattle.plan_certificate.specs.declared.path.Path.{Path}
use Rattle.plan_certificate.specs.KeptPaths.{is_among}
use Rattle.control_sets.specs.ControlBytes.{control_bytes}
use Rattle.plan_drawing.specs.declared.owners.Side.{Side}
use Rattle.plan_drawing.specs.declared.owners.Side.TheVariants.{Host, Media}
use Rattle.plan_drawing.specs.declared.row.Row.{Row}
use Rattle.plan_drawing.specs.declared.row.Row.TheVariants.{Frame, Names, Control}
use Rattle.plan_drawing.specs.Owners.{lanes_on, owners}

-- ---- labels

-- a letter for the path by its number, a star if it is kept, and its Application
abbrev pub label_of : List Path → ℕ × Path → List ℕ
label_of kept (number, path) =
    (64 + number) ∷ (if is_among kept path then 42 else 32) ∷ 97 ∷ 112 ∷ 112
    ∷ (if nat_lt path.app 10 then (48 + path.app) ∷ 32 ∷ [] else (48 + path.app / 10 % 10) ∷ (48 + path.app % 10) ∷ [])

unfoldable pub labels_of : List Path → List Path → List (List ℕ)
labels_of kept paths = map (label_of kept) (enumerate_from 1 paths)

-- ---- a row: for each lane the edge before it, and what is inside

abbrev pub edge : Row → ℕ → ℕ → ℕ
edge Frame before owner = if before == owner then (if owner == 0 then 32 else 45) else 43
edge Names before owner = if before == owner then 32 else 124
edge Control before owner = if before == owner then 32 else 124

-- seven characters: the lines of a box; a path's label at its first lane, a dash in a lane of no path; the lane's control byte
abbrev pub inside : Row → List (List ℕ) → List ℕ → ℕ → ℕ → ℕ → List ℕ
inside Frame labels control index before owner = replicate 7 (if owner == 0 then 32 else 45)
inside Names labels control index before owner =
    if owner == 0 then codes "   -   " else if before == owner then codes "       " else unwrap_or (slice_get labels (owner - 1)) (codes "       ")
inside Control labels control index before owner =
    if owner == 0 then codes "       " else 32 ∷ encode_lower (unwrap_or (slice_get control index) 0 ∷ []) ++ codes "    "

-- the lanes from an index on, and the last edge
unfoldable pub cells : Row → List (List ℕ) → List ℕ → ℕ → ℕ → List ℕ → List ℕ
cells row labels control index before [] = edge row before 0 ∷ []
cells row labels control index before (owner ∷ more) =
    (edge row before owner ∷ inside row labels control index before owner) ++ cells row labels control (index + 1) owner more

-- as wide as what names the lanes
abbrev pub margin : List ℕ
margin = codes "             "

-- a line without the blanks at its end
unfoldable pub trimmed : List ℕ → List ℕ
trimmed line = take (length line - suffix_len is_ascii_whitespace line) line

unfoldable pub row_line : Row → List (List ℕ) → List ℕ → List ℕ → List ℕ
row_line row labels control lanes = trimmed (margin ++ cells row labels control 0 0 lanes)

-- ---- both sides

-- what the lanes are called, and their numbers
unfoldable pub numbers_of : Side → List ℕ
numbers_of Host = codes "host lanes " ++ codes "       1       2       3       4       5       6       7       8"
numbers_of Media = codes "media lanes" ++ codes "       1       2       3       4       5       6       7       8"

-- control bytes are those of host lanes
abbrev pub rows_of : Side → List Row
rows_of Host = Frame ∷ Names ∷ Control ∷ Frame ∷ []
rows_of Media = Frame ∷ Names ∷ Frame ∷ []

unfoldable pub side_lines : Side → List (List ℕ) → List ℕ → List ℕ → List (List ℕ)
side_lines side labels control lanes = numbers_of side ∷ map (λ row. row_line row labels control lanes) (rows_of side)

-- the picture of a plan with these kept paths
abbrev pub picture_lines : Advertised → List Path → List Path → List (List ℕ)
picture_lines advert kept paths =
    side_lines Host (labels_of kept paths) (control_bytes advert paths) (owners (lanes_on Host advert) paths)
    ++ side_lines Media (labels_of kept paths) (control_bytes advert paths) (owners (lanes_on Media advert) paths)
