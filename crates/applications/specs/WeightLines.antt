-- Weights as lines: `[host]`, and then a line for each HostInterfaceID, with blanks, comments and empty lines. What lines say
-- stands with the newest first. (docs/firmware.md, "Weights"; this project's own)
use Rattle.std.specs.Prelude.{◌≡◌, ℕ, ◌+◌, ◌-◌, ◌^◌, ◌<◌, ◌==◌, ◌&&◌, ◌||◌, nat_le, not, Bool, true, false, List, [], ◌∷◌, ◌++◌, codes, length, map, take, drop, Some, if◌then◌else◌, slice_index_or, Result, Ok, Err}
use Rattle.std.specs.Char.{is_ascii_whitespace}
use Rattle.std.specs.Fmt.{decimal}
use Rattle.std.specs.List.{before_first, after_first, list_all, prefix_len, suffix_len, range_with_len}
use Rattle.std.specs.Str.{is_utf8}
use Rattle.applications.specs.declared.weights.lines.Draft.{Draft}
use Rattle.applications.specs.declared.weights.lines.Said.{Said}
use Rattle.applications.specs.declared.weights.lines.Said.TheVariants.{Nothing, Host, Weight}
use Rattle.applications.specs.declared.weights.lines.WeightLinesFault.{WeightLinesFault}
use Rattle.applications.specs.declared.weights.lines.WeightLinesFault.TheVariants.{BadLine, SameIdTwice, NoHost}
use Rattle.applications.specs.WeightKeys.{id_of_key}
use Rattle.applications.specs.Weights.{TableWeights}

-- a tab, or a byte that is no control character
abbrev pub is_plain_byte : ℕ → Bool
is_plain_byte byte = byte == 9 || (nat_le 32 byte && not (byte == 127))

abbrev pub is_plain_line : List ℕ → Bool
is_plain_line line = is_utf8 line && list_all is_plain_byte line

-- without the blanks at both ends
unfoldable pub trimmed : List ℕ → List ℕ
trimmed bytes =
    let rest = drop (prefix_len is_ascii_whitespace bytes) bytes in
    take (length rest - suffix_len is_ascii_whitespace rest) rest

unfoldable pub host_line : List ℕ
host_line = codes "[host]"

-- what stands before a comment, which begins with `#`
abbrev pub content : List ℕ → List ℕ
content line = trimmed (before_first (λ byte. byte == 35) line)

-- what stands before the `=` of a content, and what after it
abbrev pub key_in : List ℕ → List ℕ
key_in content = trimmed (before_first (λ byte. byte == 61) content)

abbrev pub value_in : List ℕ → List ℕ
value_in content = trimmed (after_first (λ byte. byte == 61) content)

-- a line with this content says this: nothing, `[host]`, or as `0Dh = 101` the weight of a HostInterfaceID
abbrev pub SaysIn : List ℕ → Said → Type 0
SaysIn content Nothing = content ≡ []
SaysIn content Host = content ≡ host_line
SaysIn content (Weight host_id weight) =
    (id_of_key (key_in content) ≡ Some host_id) × (weight < 2 ^ 32) × (value_in content ≡ decimal weight)

abbrev pub Says : List ℕ → Said → Type 0
Says line said = (is_plain_line line ≡ true) × SaysIn (content line) said

-- some line says `[host]`
abbrev pub has_host : List Said → Bool
has_host [] = false
has_host (Host ∷ before) = true
has_host (said ∷ before) = has_host before

-- some line says the weight of this HostInterfaceID
abbrev pub is_listed : List Said → ℕ → Bool
is_listed [] host_id = false
is_listed (Weight listed weight ∷ before) host_id = listed == host_id || is_listed before host_id
is_listed (said ∷ before) host_id = is_listed before host_id

-- `[host]` stands once, and weights after it
abbrev pub is_in_place : List Said → Said → Bool
is_in_place before Nothing = true
is_in_place before Host = not (has_host before)
is_in_place before (Weight host_id weight) = has_host before

-- an earlier line says the weight of the same HostInterfaceID
abbrev pub repeats : List Said → Said → Bool
repeats before (Weight host_id weight) = is_listed before host_id
repeats before said = false

abbrev pub may_follow : List Said → Said → Bool
may_follow before said = is_in_place before said && not (repeats before said)

-- the lines say this
abbrev pub Say : List Said → List (List ℕ) → Type 0
Say [] lines = lines ≡ []
Say (said ∷ earlier) lines =
    (before : List (List ℕ)) × (line : List ℕ) × (lines ≡ before ++ line ∷ []) × Says line said × (may_follow earlier said ≡ true)
    × Say earlier before

-- a HostInterfaceID that no line lists weighs 0
abbrev pub weight_said : List Said → ℕ → ℕ
weight_said [] host_id = 0
weight_said (Weight listed weight ∷ before) host_id = if listed == host_id then weight else weight_said before host_id
weight_said (said ∷ before) host_id = weight_said before host_id

-- the lines list these weights
abbrev pub AreWeights : List (List ℕ) → TableWeights → Type 0
AreWeights lines weights =
    (said : List Said) × Say said lines × (has_host said ≡ true) × (weights ≡ map (weight_said said) (range_with_len 0 256))

-- what is wrong with the line of this number, if those before it say this
abbrev pub IsLineFault : List Said → List ℕ → ℕ → WeightLinesFault → Type 0
IsLineFault before line number (BadLine faulty) = (faulty ≡ number) × ((said : Said) → Says line said → is_in_place before said ≡ false)
IsLineFault before line number (SameIdTwice faulty) =
    (faulty ≡ number) × (said : Said) × Says line said × (is_in_place before said ≡ true) × (repeats before said ≡ true)
IsLineFault before line number NoHost = ⊥

-- the lines before a faulty one say this
pub record Stops (lines : List (List ℕ)) (fault : WeightLinesFault) : Type 0 where
  pub said : List Said
  pub before : List (List ℕ)
  pub line : List ℕ
  pub rest : List (List ℕ)
  pub lines_are : lines ≡ before ++ line ∷ rest
  pub say : Say said before
  pub stops : IsLineFault said line (length before + 1) fault

abbrev pub IsFirstFault : List (List ℕ) → WeightLinesFault → Type 0
IsFirstFault lines NoHost = (said : List Said) × Say said lines × (has_host said ≡ false)
IsFirstFault lines fault = Stops lines fault

-- what reading these lines answers
abbrev pub IsAnswer : List (List ℕ) → Result TableWeights WeightLinesFault → Type 0
IsAnswer lines (Ok weights) = AreWeights lines weights
IsAnswer lines (Err fault) = IsFirstFault lines fault

-- what a reader keeps of what was said
pub record Drafts (said : List Said) (draft : Draft) : Type 0 where
  pub host : draft.has_host ≡ has_host said
  pub listed : (host_id : ℕ) → host_id < 256 → slice_index_or draft.listed host_id false ≡ is_listed said host_id
  pub weights : (host_id : ℕ) → host_id < 256 → slice_index_or draft.by_host_id host_id 0 ≡ weight_said said host_id
  pub listed_room : length draft.listed ≡ 256
  pub weights_room : length draft.by_host_id ≡ 256
