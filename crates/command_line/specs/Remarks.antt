-- What standard error says beside an answer: of a fault its code, where it is, and a sentence on what is wrong and what to do.
-- (docs/formats.md, "Standard error"; this project's own)
use Rattle.std.specs.Prelude.{ℕ, Bool, not, List, [], ◌∷◌, ◌++◌, ◌==◌, ◌||◌, ◌&&◌, nat_le, if◌then◌else◌, length, take, Option, Some, None, codes}
use Rattle.std.specs.List.{list_any, starts_with}
use Rattle.std.specs.Option.{option_map_or}
use Rattle.notices.specs.Sentences.{row_by_code}
use Rattle.applications.specs.declared.weights.fault.WeightsFault.TheVariants as weights
use Rattle.applications.specs.declared.weights.table.WeightTable.{WeightTable}
use Rattle.applications.specs.declared.weights.table.WeightTable.TheVariants as table
use Rattle.paged_memory.specs.declared.fault.ImageFault.TheVariants as image
use Rattle.command_line.specs.Faults.{fault_of_reported, fault_words}
use Rattle.command_line.specs.InactivePaths.{inactive_text}
use Rattle.command_line.specs.OddLines.{odd_line_of_weights}
use Rattle.command_line.specs.Places.{first_word, place_of, place_text}
use Rattle.command_line.specs.declared.fault.Fault.{Fault}
use Rattle.command_line.specs.declared.fault.Fault.TheVariants as fault
use Rattle.command_line.specs.declared.remark.Explained.{Explained}
use Rattle.command_line.specs.declared.remark.Remark.{Remark}
use Rattle.command_line.specs.declared.remark.Remark.TheVariants.{Nothing, Unwritten, NoMemory, Refused, Foreseen, Warned}
use Rattle.command_line.specs.declared.remark.clue.Clue.{Clue}
use Rattle.command_line.specs.declared.remark.opening.Opening.{Opening}
use Rattle.command_line.specs.declared.remark.opening.Opening.TheVariants.{Empty, Mark, Returns, Binary, Other}
use Rattle.command_line.specs.declared.reported_fault.ReportedFault.{ReportedFault}
use Rattle.command_line.specs.declared.reported_fault.ReportedFault.TheVariants.{Procedure}

-- the first bytes are these
abbrev pub begins : List ℕ → List ℕ → Bool
begins text first = starts_with (λ x y. x == y) text first

-- of UTF-8, or of UTF-16 in one order or the other
abbrev pub has_mark : List ℕ → Bool
has_mark text = begins text (239 ∷ 187 ∷ 191 ∷ []) || begins text (255 ∷ 254 ∷ []) || begins text (254 ∷ 255 ∷ [])

-- an image's first line in either version, and a CR
abbrev pub has_returns : List ℕ → Bool
has_returns text = begins text (codes "module-image 1" ++ 13 ∷ []) || begins text (codes "module-image 2" ++ 13 ∷ [])

-- a character of ASCII that is printed, or a tab, an LF or a CR
abbrev pub is_text : ℕ → Bool
is_text byte = (nat_le 32 byte && nat_le byte 126) || byte == 9 || byte == 10 || byte == 13

-- one of the first 128 bytes is none
abbrev pub is_binary : List ℕ → Bool
is_binary text = list_any (λ byte. not (is_text byte)) (take 128 text)

-- how a text begins that is no image's
abbrev pub opening_of : List ℕ → Opening
opening_of text = if length text == 0 then Empty
    else if has_mark text then Mark
    else if has_returns text then Returns
    else if is_binary text then Binary
    else Other

-- the code of the sentence that says so
abbrev pub opening_key : Opening → List ℕ
opening_key Empty = codes "IM1 empty"
opening_key Mark = codes "IM1 mark"
opening_key Returns = codes "IM1 returns"
opening_key Binary = codes "IM1 binary"
opening_key Other = codes "IM1"

-- only that fault is explained by it
abbrev pub opening_for : Fault → List ℕ → Opening
opening_for (fault.Image image.BadHeader) input = opening_of input
opening_for _ input = Other

-- only faults of weights are explained by a line of them
abbrev pub odd_line_for : Fault → List ℕ → Option ℕ
odd_line_for (fault.Weights f) input = odd_line_of_weights input
odd_line_for _ input = None

-- what an input tells of a fault
abbrev pub clue_for : Fault → List ℕ → Clue
clue_for f input = record { opening = opening_for f input; weights_line = odd_line_for f input }

-- the sentence of a code
abbrev pub sentence_of : List ℕ → List ℕ
sentence_of code = option_map_or (λ row. row.text) (row_by_code code) []

-- the code of the sentence on a key, by the table that it stands in
abbrev pub key_sentence : WeightTable → List ℕ
key_sentence table.Host = codes "WT3"
key_sentence table.Media = codes "WT3 media"
key_sentence table.App = codes "WT3 app"

-- the code of a fault's sentence
abbrev pub sentence_key : Fault → Opening → List ℕ
sentence_key (fault.Image image.BadHeader) opening = opening_key opening
sentence_key (fault.Weights (weights.BadKey table)) opening = key_sentence table
sentence_key f opening = first_word (fault_words f)

-- of a fault that a text reports; that it was to be expected, if a kept path was not active
abbrev pub remark_on : ReportedFault → Explained → Remark
remark_on (Procedure fault (Some path)) explained = Foreseen path explained
remark_on reported explained = Refused explained

abbrev pub remark_on_reported : ReportedFault → Clue → Remark
remark_on_reported reported clue = remark_on reported record { fault = fault_of_reported reported; clue = clue }

-- the line of a fault
abbrev pub explained_text : Explained → List ℕ
explained_text explained = codes "cmisctl: " ++ first_word (fault_words explained.fault)
    ++ place_text (place_of explained.fault explained.clue.weights_line)
    ++ codes ": " ++ sentence_of (sentence_key explained.fault explained.clue.opening) ++ codes " (docs/faults.md)\n"

-- what is said; of warnings that is open
abbrev pub remark_text : Remark → Option (List ℕ)
remark_text Nothing = Some []
remark_text Unwritten = Some (codes "cmisctl: " ++ sentence_of (codes "output") ++ codes " (docs/faults.md)\n")
remark_text NoMemory = Some (codes "cmisctl: memory: " ++ sentence_of (codes "memory") ++ codes " (docs/faults.md)\n")
remark_text (Refused explained) = Some (explained_text explained)
remark_text (Foreseen path explained) = Some (inactive_text path ++ explained_text explained)
remark_text (Warned warnings) = None
