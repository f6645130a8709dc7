-- The text of a certificate: a header, the weight, the kept paths and the paths in their order, the entries by rising
-- states, and `end`. The header says version 2 if paths are kept, else version 1; if it is for a module that pairs first
-- lanes, 4 and 3. (docs/formats.md, "Certificate"; this project's own)
use Rattle.std.specs.Prelude.{◌≡◌, ℕ, ◌<◌, ◌≤◌, ◌^◌, Bool, true, false, List, [], ◌∷◌, ◌++◌, length, map, codes}
use Rattle.std.specs.List.{AllByRecursion}
use Rattle.std.specs.Fmt.{decimal}
use Rattle.hex.specs.Hex.{encode_lower}
use Rattle.text_lines.specs.Lines.{text_of}
use Rattle.text_lines.specs.Words.{spaced}
use Rattle.plan_certificate.specs.declared.path.Path.{Path}
use Rattle.plan_certificate.specs.declared.certificate.Entry.{Entry}
use Rattle.plan_certificate.specs.declared.line.Line.{Line}
use Rattle.plan_certificate.specs.declared.line.Line.TheVariants.{Header, KeptHeader, Weight, KeepLine, PathLine, StateLine, End}
use Rattle.plan_certificate.specs.Certificates.{Claim, HasStates}
use Rattle.plan_certificate.specs.Limits.{most_paths}

-- the Application, its first host lane and its first media lane
abbrev pub path_values : Path → List (List ℕ)
path_values path = decimal path.app ∷ decimal path.host ∷ decimal path.media ∷ []

-- how many host lanes are decided, the used media lanes, and the potential
abbrev pub state_values : Entry → List (List ℕ)
state_values entry = decimal entry.boundary ∷ encode_lower (entry.used ∷ []) ∷ decimal entry.potential ∷ []

unfoldable pub line_words : Line → List (List ℕ)
line_words (Header false) = codes "certificate" ∷ codes "1" ∷ []
line_words (KeptHeader false) = codes "certificate" ∷ codes "2" ∷ []
line_words (Header true) = codes "certificate" ∷ codes "3" ∷ []
line_words (KeptHeader true) = codes "certificate" ∷ codes "4" ∷ []
line_words (Weight weight) = codes "weight" ∷ decimal weight ∷ []
line_words (KeepLine path) = codes "keep" ∷ path_values path
line_words (PathLine path) = codes "path" ∷ path_values path
line_words (StateLine entry) = codes "state" ∷ state_values entry
line_words End = codes "end" ∷ []

abbrev pub line_text : Line → List ℕ
line_text line = spaced (line_words line)

-- the numbers of a path are numbers of one byte
pub record IsPathInRange (path : Path) : Type 0 where
  pub app : path.app < 256
  pub host : path.host < 256
  pub media : path.media < 256

-- a module has eight host lanes, and eight media lanes
pub record IsEntryInRange (entry : Entry) : Type 0 where
  pub boundary : entry.boundary ≤ 8
  pub used : entry.used < 256
  pub potential : entry.potential < 2 ^ 64

-- the numbers of a line are in their ranges
abbrev pub IsLineInRange : Line → Type 0
IsLineInRange (Header paired) = Unit {0}
IsLineInRange (KeptHeader paired) = Unit {0}
IsLineInRange (Weight weight) = weight < 2 ^ 64
IsLineInRange (KeepLine path) = IsPathInRange path
IsLineInRange (PathLine path) = IsPathInRange path
IsLineInRange (StateLine entry) = IsEntryInRange entry
IsLineInRange End = Unit {0}

-- the first line of a certificate for a module that pairs first lanes or does not, which keeps these paths
abbrev pub header_of : Bool → List Path → Line
header_of paired [] = Header paired
header_of paired (path ∷ paths) = KeptHeader paired

-- the lines before the entries
abbrev pub head_lines : Bool → ℕ → List Path → List Path → List Line
head_lines paired weight kept paths = header_of paired kept ∷ Weight weight ∷ map KeepLine kept ++ map PathLine paths

-- the text of these lines, whose numbers are in their ranges, of as many paths as a plan has at most
pub record IsHead (paired : Bool) (weight : ℕ) (kept paths : List Path) (text : List ℕ) : Type 0 where
  pub written : text ≡ text_of (map line_text (head_lines paired weight kept paths))
  pub small : weight < 2 ^ 64
  pub kept_in_range : AllByRecursion IsPathInRange kept
  pub paths_in_range : AllByRecursion IsPathInRange paths
  pub few_kept : length kept ≤ most_paths
  pub few_paths : length paths ≤ most_paths

-- the lines of a certificate
abbrev pub lines_in : Claim → List Line
lines_in certificate =
    header_of certificate.paired certificate.kept
    ∷ Weight certificate.weight
    ∷ map KeepLine certificate.kept ++ map PathLine certificate.paths ++ map StateLine certificate.entries ++ End ∷ []

abbrev pub certificate_lines : Claim → List (List ℕ)
certificate_lines certificate = map line_text (lines_in certificate)

-- all numbers are in their ranges
abbrev pub IsInRange : Claim → Type 0
IsInRange certificate = AllByRecursion IsLineInRange (lines_in certificate)

-- and the states rise
pub record IsInRangeAndOrder (certificate : Claim) : Type 0 where
  pub in_range : IsInRange certificate
  pub states : HasStates certificate.entries

-- and there are at most 8 kept paths, 8 paths, and so many states
pub record IsReadable (states : ℕ) (certificate : Claim) : Type 0 where
  pub ordered : IsInRangeAndOrder certificate
  pub few_kept : length certificate.kept ≤ most_paths
  pub few_paths : length certificate.paths ≤ most_paths
  pub few_states : length certificate.entries ≤ states

-- these lines are the text of a readable certificate
pub record IsTextOf (states : ℕ) (lines : List (List ℕ)) (certificate : Claim) : Type 0 where
  pub lines_are : lines ≡ certificate_lines certificate
  pub readable : IsReadable states certificate
