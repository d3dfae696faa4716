-- The commands and their arguments, as `clap` describes a command.
use Rattle.std.specs.Prelude.{true, if◌then◌else◌, List, [], ◌∷◌, codes, Option, Some, None}
use Rattle.std.specs.Str.{bytes_eq}
use Rattle.clap.specs.Walk.{Row, Rule, Text, is_empty}
use Rattle.clap.specs.Simple.{App, matches_of, new_app, new_rule, on_top, with_rule}
use Rattle.clap.specs.Faults.{fault_of}
use Rattle.clap.specs.declared.builder.action.ArgAction.TheVariants.{SetTrue}
use Rattle.tornado_words.specs.declared.command_word.CommandWord.{CommandWord}
use Rattle.tornado_words.specs.declared.command_word.CommandWord.TheVariants as command

-- the command that a word names
abbrev pub command_word : Text → Option CommandWord
command_word word =
    if bytes_eq word (codes "core") then Some command.Core
    else if bytes_eq word (codes "eval") then Some command.Eval
    else if bytes_eq word (codes "rows") then Some command.Rows
    else if bytes_eq word (codes "check") then Some command.Check
    else if bytes_eq word (codes "verify") then Some command.Verify
    else if bytes_eq word (codes "repair") then Some command.Repair
    else if bytes_eq word (codes "compile") then Some command.Compile
    else if bytes_eq word (codes "run") then Some command.Run
    else if bytes_eq word (codes "trial") then Some command.Trial
    else if bytes_eq word (codes "gen") then Some command.Gen
    else None

-- a word that has to be given, in its place
abbrev pub positional : Text → Rule
positional id = record (new_rule id) { required = true }

-- `--id VALUE` or `--id=VALUE`, which may be left out
abbrev pub option : Text → Rule
option id = record (new_rule id) { long = Some id }

-- `--id`, which may be left out
abbrev pub flag : Text → Rule
flag id = record (new_rule id) { long = Some id; action = Some SetTrue }

-- the words that a command has to be given, in this order
abbrev pub positionals : CommandWord → List Rule
positionals command.Core = positional (codes "file") ∷ []
positionals command.Eval = positional (codes "file") ∷ positional (codes "values") ∷ []
positionals command.Rows = positional (codes "file") ∷ []
positionals command.Check = positional (codes "file") ∷ []
positionals command.Verify = positional (codes "file") ∷ positional (codes "attack") ∷ []
positionals command.Repair = positional (codes "file") ∷ []
positionals command.Compile = positional (codes "file") ∷ []
positionals command.Run = positional (codes "cfile") ∷ positional (codes "values") ∷ []
positionals command.Trial = positional (codes "file") ∷ positional (codes "shares") ∷ positional (codes "seed") ∷ []
positionals command.Gen = positional (codes "seed") ∷ positional (codes "size") ∷ []

-- the options of a command on a file that is a source or core text
abbrev pub basis_options : List Rule
basis_options = option (codes "width") ∷ option (codes "entry") ∷ flag (codes "core") ∷ []

-- the options of a command
abbrev pub options : CommandWord → List Rule
options command.Compile =
    option (codes "width") ∷ option (codes "entry") ∷ flag (codes "core") ∷ option (codes "word") ∷ []
options command.Run = []
options command.Gen = []
options _ = basis_options

-- a command without arguments, which has no help flag
abbrev pub bare : App
bare = on_top (λ shape. record shape { disable_help_flag = true }) (new_app (codes "tornado"))

-- a command with these arguments after its own
abbrev pub with_rules : App → List Rule → App
with_rules app [] = app
with_rules app (rule ∷ rules) = with_rules (with_rule app rule) rules

-- what `clap` knows of a command
abbrev pub app_of_word : CommandWord → App
app_of_word word = with_rules (with_rules bare (positionals word)) (options word)

-- the matches of a command on these words, of which the first is its command word; none where `clap` does not take them
abbrev pub matches_on : CommandWord → List Text → Option (List Row)
matches_on word words =
    if is_empty (fault_of (app_of_word word) words) then Some (matches_of (app_of_word word) words) else None
