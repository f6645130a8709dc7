-- What a person is told of a fault, by its code: what is wrong, and what to do. (docs/faults.md, "Sentences"; this project's own)
use Rattle.std.specs.Prelude.{ℕ, List, [], ◌∷◌, Option, find, codes}
use Rattle.std.specs.Str.{bytes_eq}
use Rattle.notices.specs.declared.table.Sentence.{Sentence}

-- a code, with a word for the cause if it has several, and its sentence
pub record Row : Type 0 where
  pub code : List ℕ
  pub text : List ℕ

abbrev pub row_of : Sentence → Row
row_of sentence = record { code = sentence.code.now; text = sentence.text.now }

unfoldable pub sentences : List Row
sentences =
    record { code = codes "memory"; text = codes "memory ran out: raise the limits of the process (ulimit -v, its control group), and call again" }
    ∷ record { code = codes "IO"; text = codes "standard input could not be read, or did not end: give a file by '< FILE', or a pipe that ends" }
    ∷ record { code = codes "output"; text = codes "standard output could not be written whole, so the answer may be cut off: is the disk full, or the other end of a pipe closed?" }
    ∷ record { code = codes "PT1"; text = codes "the command takes another number of parts, between lines '---': reports 1, plan and draw 2, check, provision and trace 3; with --keep one more" }
    ∷ record { code = codes "PT2"; text = codes "the input is longer than 1048576 bytes, and no input of a module is: is it the right file?" }
    ∷ record { code = codes "IM1"; text = codes "the image does not begin with the line 'module-image 1': if it is a dump of a module, 'tools/module-image FILE' makes an image of it" }
    ∷ record { code = codes "IM1 empty"; text = codes "nothing came on standard input: give an image by '< FILE', as 'tools/module-image' makes it of a port or of a dump" }
    ∷ record { code = codes "IM1 mark"; text = codes "a byte order mark stands before the first line: save the image as plain ASCII text, without that mark" }
    ∷ record { code = codes "IM1 returns"; text = codes "the lines end in CR LF, and those of an image in LF alone: take the CRs out, as 'dos2unix' does" }
    ∷ record { code = codes "IM1 binary"; text = codes "the input is a binary file, and an image is a text: 'tools/module-image FILE' makes an image of an eeprom file" }
    ∷ record { code = codes "IM2"; text = codes "the line is neither a page line nor 'end': write 'lower A0' or 'upper A0 BANK PAGE', a space and 256 hexadecimal digits in lower case, and nothing after them" }
    ∷ record { code = codes "IM3"; text = codes "the key of the line is not above that of the line before: put page lines in the order of their keys, and each key once" }
    ∷ record { code = codes "IM4"; text = codes "a 17th page line stands there, and an image has at most 16: leave out pages that the command does not need" }
    ∷ record { code = codes "IM5"; text = codes "the text ends before a line 'end', so it was cut off: make the image anew" }
    ∷ record { code = codes "IM6"; text = codes "a line stands after 'end': delete it, or put a line '---' before it if another part of the input begins there" }
    ∷ record { code = codes "IM7"; text = codes "a 65th page line stands there, and an image has at most 64: leave out pages that the command does not need" }
    ∷ record { code = codes "RP1"; text = codes "modules of this identifier (byte 0 of lower A0) are not read: docs/formats.md lists those that are" }
    ∷ record { code = codes "RP2"; text = codes "the list of transactions was full while the module was read: give it room for more" }
    ∷ record { code = codes "RP3"; text = codes "4096 transactions did not read the module: without --bus the same command names the half that the image lacks" }
    ∷ record { code = codes "RP4"; text = codes "only the revisions 4 and 5 of CMIS are read (byte 1 of lower A0)" }
    ∷ record { code = codes "RP6"; text = codes "the image lacks this half, which the report needs: read it too, and look at what tools/module-image says on standard error when it leaves one out" }
    ∷ record { code = codes "SF1"; text = codes "the identifier (byte 0 of lower A0) is of another standard: read the module by its own" }
    ∷ record { code = codes "SF2"; text = codes "the memory is flat, so the module has no limits that could be read" }
    ∷ record { code = codes "SF3"; text = codes "the image lacks this half, which the report needs: read it too, and look at what tools/module-image says on standard error when it leaves one out" }
    ∷ record { code = codes "SF4"; text = codes "the module has no diagnostics (byte 92 of lower A0, bit 6), so it measures nothing: 'inventory' works" }
    ∷ record { code = codes "SF5"; text = codes "the host has to calibrate the values of this module (byte 92 of lower A0, bit 4), which is not done here: 'flags' and 'inventory' work" }
    ∷ record { code = codes "SF6"; text = codes "the module wants an address change before its diagnostics are read (byte 92 of lower A0, bit 2), which is not done here: 'inventory' works" }
    ∷ record { code = codes "AD1"; text = codes "only modules of CMIS advertise Applications (identifier 18h, 19h or 1Eh, byte 0 of lower A0): 'inventory' reads other modules too" }
    ∷ record { code = codes "AD2"; text = codes "only the revisions 4 and 5 of CMIS are read (byte 1 of lower A0)" }
    ∷ record { code = codes "AD3"; text = codes "the memory is flat (byte 2 of lower A0, bit 7), so there is nothing to plan: 'inventory' works" }
    ∷ record { code = codes "AD4"; text = codes "the image lacks this half, which Applications and plans need: read it too, and look at what tools/module-image says on standard error when it leaves one out" }
    ∷ record { code = codes "AD5"; text = codes "the sum of this page is wrong: the image was damaged, or read while the module was starting, so read it again" }
    ∷ record { code = codes "AD6"; text = codes "plans are made for modules of eight lanes, and this one has another number: 'inventory', 'monitors' and 'flags' work" }
    ∷ record { code = codes "WT1"; text = codes "the weights are no TOML: write the line '[host]', and then lines KEY = NUMBER as '0Dh = 101', comments or empty lines, with each key once" }
    ∷ record { code = codes "WT2"; text = codes "the weights have no table 'host': put the line '[host]' above them" }
    ∷ record { code = codes "WT3"; text = codes "a key is not two hexadecimal digits and 'h': write 0Bh, and not Bh, 0x0B or a name; 'apps' prints the codes that the module knows, after 'host'" }
    ∷ record { code = codes "WT3 media"; text = codes "a key of 'media' is not two hexadecimal digits and 'h': write 1Ch, and not Ch, 0x1C or a name; 'apps' prints the codes that the module knows, after 'media'" }
    ∷ record { code = codes "WT3 app"; text = codes "a key of 'app' is no number of an Application, 1 to 15: write 3, and not 03, 3h or a name; 'apps' prints the numbers that the module has, after 'app'" }
    ∷ record { code = codes "WT4"; text = codes "the key stands there twice, in lower case and in upper case: keep one" }
    ∷ record { code = codes "WT5"; text = codes "the weight of this key is no whole number from 0 to 4294967295: write 400, and not 400.0 or '400'" }
    ∷ record { code = codes "WT6"; text = codes "the weights have more than 'stay', a whole number of at most 4294967295, and the tables 'host', 'media' and 'app': delete what else stands above '[host]', and other tables" }
    ∷ record { code = codes "CT1"; text = codes "the line has none of the forms of a certificate's lines, or one that may not stand there: write single spaces, numbers without leading zeros, and used media lanes as two digits in lower case" }
    ∷ record { code = codes "CT2"; text = codes "the state of the line is not above the one before: put states in rising order, by boundary and then by used media lanes, and each once" }
    ∷ record { code = codes "CT3"; text = codes "there is a ninth path, a ninth kept path or a state too many: eight lanes have at most eight paths" }
    ∷ record { code = codes "CT4"; text = codes "the text ends before a line 'end', so it was cut off: make the certificate anew" }
    ∷ record { code = codes "VR1"; text = codes "the path is not allowed on this module: compare it with what 'apps' prints (is the Application usable, may it begin there, are the lanes there and supported?)" }
    ∷ record { code = codes "VR2"; text = codes "the path shares a lane with an earlier one: compare the host lanes and the media lanes of both" }
    ∷ record { code = codes "VR3"; text = codes "the weight is not the plan's: is the certificate of these weights?" }
    ∷ record { code = codes "VR4"; text = codes "there is no entry for the state without decided and used lanes: add a line 'state 0 00 POTENTIAL'" }
    ∷ record { code = codes "VR5"; text = codes "a step from the state of this entry leads to a state that has no entry: add a line 'state' for that one" }
    ∷ record { code = codes "VR6"; text = codes "the potential of this entry is below the weight of a step and the potential of where it leads: it is too low, or the other one is too high" }
    ∷ record { code = codes "VR7"; text = codes "the potential of the state without decided and used lanes is not the weight, so the certificate does not show that this plan is best" }
    ∷ record { code = codes "VR8"; text = codes "the kept path is not allowed on this module, or shares a lane with an earlier kept one: compare it with what 'apps' prints" }
    ∷ record { code = codes "VR9"; text = codes "the kept path is not in the plan: add a line 'path' with the same three numbers, or have a certificate made that does not keep it" }
    ∷ record { code = codes "VR10"; text = codes "the certificate is for a module that pairs first lanes and is judged for one that does not, or the other way round: say 'paired' when it is made and when it is judged, or neither time" }
    ∷ record { code = codes "KP1"; text = codes "the line is no 'keep APP HOST MEDIA': write single spaces and three decimal numbers up to 255 without leading zeros" }
    ∷ record { code = codes "KP2"; text = codes "a ninth kept path stands there, and eight lanes have at most eight" }
    ∷ record { code = codes "KP3"; text = codes "the path is not allowed on this module, or shares a lane with an earlier one: compare it with what 'apps' prints" }
    ∷ record { code = codes "BU1"; text = codes "the bus's list of transactions is full: give it room for more" }
    ∷ record { code = codes "BU2"; text = codes "the operation has not the shape of a transaction: a half has 128 bytes, and a store at most eight" }
    ∷ record { code = codes "BU3"; text = codes "the line is no directive: write 'ok N', 'nack N' or 'tick N' with N from 1 to 65535, 'cut K' with K from 0 to 8, 'lpmode 0' or 'lpmode 1', with one space and nothing more" }
    ∷ record { code = codes "BU4"; text = codes "a script has at most 1024 directives: join equal ones, as 'ok 1' and 'ok 1' to 'ok 2'" }
    ∷ record { code = codes "SM1"; text = codes "the image lacks this half, which the simulated module needs: read it too, and look at what tools/module-image says on standard error when it leaves one out" }
    ∷ record { code = codes "SM2"; text = codes "the module does not say what it advertises, so it can't be simulated" }
    ∷ record { code = codes "SM3"; text = codes "a delay of the simulated module is 0 or above 1000" }
    ∷ record { code = codes "SM4"; text = codes "the active control bytes (bytes 206 to 213 of page 11h) are no data paths at this lane: the image was changed by hand, or read while the module changed them" }
    ∷ record { code = codes "PV1"; text = codes "the module rejected the configuration of this lane: the status says the cause (docs/states.md)" }
    ∷ record { code = codes "PV2"; text = codes "the staged control byte of this lane is another one than was stored: something else writes there, or the module does not keep what it took" }
    ∷ record { code = codes "PV3"; text = codes "the active control byte of this lane is another one than the plan's: something else has configured the module, it did not apply all lanes, or a path to keep is not active" }
    ∷ record { code = codes "PV4"; text = codes "4096 transactions were made without another answer: look at the end of what 'trace' prints; if the module is slow, wait between reads, and begin again" }
    ∷ record { code = codes "PV5"; text = codes "the bus made no further transaction" }
    ∷ record { code = codes "PV6"; text = codes "the module is in this state, and not in ModuleReady: while it powers up, wait and call again; in low power, byte 26 of lower A0 or the pin asks for it" }
    ∷ record { code = codes "PV7"; text = codes "the standard reserves the code that the module shows, of its state, of a path state or of a status: look at the last fetch that 'trace' prints" }
    ∷ []

-- the row of a code
abbrev pub row_by_code : List ℕ → Option Row
row_by_code code = find (λ row. bytes_eq row.code code) sentences
