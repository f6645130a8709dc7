-- The end of a command's help: the parts of its input, examples, and how it may end. (docs/formats.md, "Input" and "Exit statuses";
-- this project's own)
use Rattle.std.specs.Prelude.{List, [], ◌∷◌, ◌++◌, Option, Some, None, codes}
use Rattle.std.specs.List.{flat_map}
use Rattle.std.specs.Option.{option_map_or}
use Rattle.clap.specs.Words.{Text}
use Rattle.command_line.specs.declared.choice.commands.CommandName.{CommandName}
use Rattle.command_line.specs.declared.choice.commands.CommandName.TheVariants.{Report, Details, Observables, Metrics, Plan, Draw, Check, Provision, Trace}
use Rattle.command_line.specs.declared.choice.commands.ReportName.TheVariants.{Inventory, Apps, Monitors, Flags}
use Rattle.command_line.specs.Inputs.{parts_of_command}
use Rattle.command_line.specs.declared.choice.part.Part.{Part}
use Rattle.command_line.specs.declared.choice.part.Part.TheVariants.{Image, Weights, Kept, Certificate, Script}

-- the lines that say what a part of the input is
abbrev pub lines_of_part : Part → List Text
lines_of_part Image = codes "the image text of a module" ∷ []
lines_of_part Weights =
    codes "then, after a line '---', weights: '[host]', then lines such as '0Dh = 101', by HostInterfaceID;"
    ∷ codes "  there may be '[media]', by MediaInterfaceID, '[app]', by number, and 'stay = 50' above all"
    ∷ []
lines_of_part Kept =
    codes "with --keep then, after a line '---', data paths to keep: lines such as 'keep 2 3 2',"
    ∷ codes "  Application 2 from host lane 3 and media lane 2 on"
    ∷ []
lines_of_part Certificate = codes "then, after a line '---', a certificate, as 'cmisctl plan' prints it" ∷ []
lines_of_part Script = codes "then, after a line '---', a script of the bus: lines such as 'ok 4' and 'nack 1', or no line" ∷ []

-- what is typed after the program's name
abbrev pub examples : CommandName → List Text
examples (Report Inventory) =
    codes "inventory < examples/qsfp_dd_400g_dr4.txt"
    ∷ codes "inventory --bus < examples/qsfp28_100g_sr4.txt"
    ∷ codes "inventory --json < examples/qsfp_dd_400g_dr4.txt"
    ∷ []
examples (Report Apps) =
    codes "apps < examples/osfp_800g_many_apps.txt"
    ∷ codes "apps --bus < examples/osfp_800g_many_apps.txt"
    ∷ codes "apps --json < examples/osfp_800g_many_apps.txt"
    ∷ []
examples (Report Monitors) =
    codes "monitors < examples/osfp_800g_dr8.txt"
    ∷ codes "monitors --bus < examples/osfp_800g_dr8.txt"
    ∷ codes "monitors --json < examples/osfp_800g_dr8.txt"
    ∷ codes "monitors --color always < examples/osfp_800g_overheated.txt"
    ∷ []
examples (Report Flags) =
    codes "flags < examples/osfp_800g_overheated.txt"
    ∷ codes "flags --bus < examples/sfp_10g_lr_dim.txt"
    ∷ codes "flags --json < examples/sfp_10g_lr_dim.txt"
    ∷ []
examples Details =
    codes "details < examples/qsfp28_100g_sr4.txt"
    ∷ codes "details --bus < examples/osfp_800g_vdm.txt"
    ∷ codes "details --json < examples/sfp_10g_lr.txt"
    ∷ []
examples Observables =
    codes "observables < examples/osfp_800g_vdm.txt"
    ∷ codes "observables --bus < examples/qsfp28_100g_sr4.txt"
    ∷ codes "observables --json < examples/osfp_800g_vdm.txt"
    ∷ []
examples Metrics =
    codes "metrics < examples/osfp_800g_dr8.txt"
    ∷ codes "metrics --bus --label port=Ethernet0 < examples/qsfp28_100g_sr4.txt"
    ∷ codes "metrics --flags all < examples/sfp_10g_lr_dim.txt"
    ∷ []
examples Plan =
    codes "plan < examples/breakouts_400g_dr4.txt"
    ∷ codes "plan --keep < examples/keep_800g_dr8.txt"
    ∷ codes "plan --json < examples/breakouts_400g_dr4.txt"
    ∷ []
examples Draw =
    codes "draw < examples/breakouts_400g_dr4.txt"
    ∷ codes "draw --svg --keep < examples/keep_800g_dr8.txt"
    ∷ []
examples Check =
    codes "check < examples/check_800g_one_path.txt"
    ∷ codes "check --first < examples/check_800g_one_path.txt"
    ∷ codes "check --first --json < examples/check_800g_one_path.txt"
    ∷ []
examples Provision =
    codes "provision --activate < examples/provision_400g_dr4.txt"
    ∷ codes "provision --keep < examples/add_800g_dr8.txt"
    ∷ codes "provision --json < examples/provision_400g_dr4.txt"
    ∷ []
examples Trace =
    codes "trace --activate < examples/provision_400g_dr4.txt"
    ∷ codes "trace --keep < examples/add_800g_dr8.txt"
    ∷ codes "trace --json < examples/provision_400g_dr4.txt"
    ∷ []

-- how it may end besides
abbrev pub own_status : CommandName → Option Text
own_status Check = Some (codes "4 the certificate is bad")
own_status Provision = Some (codes "3 not provisioned or not activated")
own_status Trace = Some (codes "3 not provisioned or not activated")
own_status command = None

-- lines, each of which begins so
abbrev pub lines_after : Text → List Text → Text
lines_after beginning lines = flat_map (λ line. codes "\n" ++ beginning ++ line) lines

abbrev pub help_of : CommandName → Text
help_of command =
    codes "INPUT is read from standard input:"
    ++ lines_after (codes "  ") (flat_map lines_of_part (parts_of_command command))
    ++ codes "\n\nExamples, in the repository's folder:"
    ++ lines_after (codes "  ./cmisctl ") (examples command)
    ++ codes "\n\nStatus: 0 answered, 1 input refused, 2 command line refused,\n"
    ++ option_map_or (λ status. status ++ codes ", ") (own_status command) []
    ++ codes "5 out of memory, 6 a read or write failed.\ndocs/faults.md says what a line 'fault ..' means and what to do."
