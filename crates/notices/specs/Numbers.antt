-- What the library for C tells by numbers. (include/dovecounter.h; docs/faults.md, "Sentences"; this project's own)
use Rattle.std.specs.Prelude.{ℕ, ◌==◌, Bool, if◌then◌else◌, is_some, List, [], ◌∷◌, length, Option, Some, find, option_map, option_and_then, codes}
use Rattle.std.specs.List.{list_all}
use Rattle.notices.specs.declared.numbers.Numbered.{Numbered}
use Rattle.notices.specs.Sentences.{row_by_code}

-- a number, with the code of the fault that it stands for, or with its own text
pub record Says : Type 0 where
  pub number : ℕ
  pub code : List ℕ
  pub text : List ℕ

abbrev pub numbered_of : Numbered → Says
numbered_of row = record { number = row.number; code = row.code.now; text = row.text.now }

abbrev says : ℕ → List ℕ → Says
says number text = record { number = number; code = []; text = text }

abbrev stands_for : ℕ → List ℕ → Says
stands_for number code = record { number = number; code = code; text = [] }

unfoldable pub statuses : List Says
statuses =
    says 0 (codes "it is done")
    ∷ says 1 (codes "there are more than 16 halves: hand over only those that are needed")
    ∷ says 2 (codes "a half has no place: its device is 0xA0 or 0xA2, and a lower half is of bank 0 and page 0")
    ∷ says 3 (codes "there is no text for this number")
    ∷ says 4 (codes "the buffer is too small for the text: hand over a larger one")
    ∷ stands_for 11 (codes "AD1")
    ∷ stands_for 12 (codes "AD2")
    ∷ stands_for 13 (codes "AD3")
    ∷ stands_for 14 (codes "AD4")
    ∷ stands_for 15 (codes "AD5")
    ∷ stands_for 16 (codes "AD6")
    ∷ stands_for 21 (codes "CT1")
    ∷ stands_for 22 (codes "CT2")
    ∷ stands_for 23 (codes "CT3")
    ∷ stands_for 24 (codes "CT4")
    ∷ says 31 (codes "this is no conversation, or it was changed: keep it as the library wrote it")
    ∷ says 32 (codes "it has ended, so there is no operation to make: ask how it ended")
    ∷ says 33 (codes "it has not ended: make the next operation, and tell its reply")
    ∷ says 34 (codes "the operation can't have this reply: tell as many bytes as were asked for, and none of a store")
    ∷ says 36 (codes "the bus fetches fewer than 8 bytes at once, and a reading needs 8")
    ∷ stands_for 42 (codes "KP2")
    ∷ stands_for 43 (codes "KP3")
    ∷ stands_for 51 (codes "SM1")
    ∷ stands_for 53 (codes "SM3")
    ∷ stands_for 54 (codes "SM4")
    ∷ says 61 (codes "this is no simulated module, or it was changed: keep it as the library wrote it")
    ∷ says 62 (codes "there are no such bytes: a fetch is of 1 to 128 bytes and a store of 1 to 8, of one half of 0xA0 or 0xA2")
    ∷ says 63 (codes "the simulated module does not answer, or does not take the bytes")
    ∷ stands_for 71 (codes "RP1")
    ∷ stands_for 74 (codes "RP4")
    ∷ stands_for 76 (codes "RP6")
    ∷ stands_for 83 (codes "SF3")
    ∷ stands_for 84 (codes "SF4")
    ∷ stands_for 85 (codes "SF5")
    ∷ stands_for 86 (codes "SF6")
    ∷ says 91 (codes "the line is none of weights: write '[host]' once, and after it lines as '0Dh = 101', comments or empty lines, with numbers up to 4294967295")
    ∷ stands_for 92 (codes "WT2")
    ∷ says 94 (codes "the line writes a HostInterfaceID that an earlier line writes: keep one of them")
    ∷ says 101 (codes "the stored equalization that a lane is to recall is none of 0 to 3")
    ∷ says 102 (codes "the module advertises no such fixed equalization of the input: ask what it can do")
    ∷ says 103 (codes "the module advertises no such equalization before the cursor: ask what it can do")
    ∷ says 104 (codes "the module advertises no such equalization after the cursor: ask what it can do")
    ∷ says 105 (codes "the module advertises no such amplitude: ask what it can do")
    ∷ says 106 (codes "a lane of the change may not be disturbed: settings change while lanes are up, so permit each")
    ∷ []

unfoldable pub procedure_faults : List Says
procedure_faults =
    stands_for 1 (codes "PV1")
    ∷ stands_for 2 (codes "PV2")
    ∷ stands_for 3 (codes "PV3")
    ∷ stands_for 4 (codes "PV4")
    ∷ stands_for 5 (codes "PV5")
    ∷ stands_for 6 (codes "PV6")
    ∷ stands_for 7 (codes "PV7")
    ∷ says 8 (codes "nothing new was done for longer than may be waited: look whether the module answers, and begin again")
    ∷ says 9 (codes "the module left ModuleReady meanwhile, as after a reset: read it again, and begin again")
    ∷ says 10 (codes "the module went to ModuleFault meanwhile: look at its flags, and reset it")
    ∷ []

unfoldable pub reasons : List Says
reasons =
    stands_for 1 (codes "VR1")
    ∷ stands_for 2 (codes "VR2")
    ∷ stands_for 3 (codes "VR3")
    ∷ stands_for 4 (codes "VR4")
    ∷ stands_for 5 (codes "VR5")
    ∷ stands_for 6 (codes "VR6")
    ∷ stands_for 7 (codes "VR7")
    ∷ stands_for 8 (codes "VR8")
    ∷ stands_for 9 (codes "VR9")
    ∷ stands_for 10 (codes "VR10")
    ∷ []

-- the sentence of the fault, or the row's own text
abbrev pub said_of : Says → Option (List ℕ)
said_of row = if length row.code == 0 then Some row.text else option_map (λ sentence. sentence.text) (row_by_code row.code)

-- the text of a number
abbrev pub text_by : List Says → ℕ → Option (List ℕ)
text_by rows number = option_and_then said_of (find (λ row. row.number == number) rows)

-- each has a text
abbrev pub are_all_said : List Says → Bool
are_all_said rows = list_all (λ row. is_some (said_of row)) rows
