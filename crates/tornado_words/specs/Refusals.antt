-- Why the matches that `clap` has on words are no order.
use Rattle.std.specs.Prelude.{ℕ, ◌^◌, ◌-◌, Bool, true, false, not, ◌&&◌, ◌||◌, List, codes, Option, Some, None, is_some}
use Rattle.clap.specs.Walk.{Row, Text, first_of}
use Rattle.tornado_words.specs.Numbers.{number_within}
use Rattle.tornado_words.specs.Values.{is_set, word_size}
use Rattle.tornado_words.specs.declared.command_word.CommandWord.{CommandWord}
use Rattle.tornado_words.specs.declared.command_word.CommandWord.TheVariants as command

-- the argument has a value, which is no number, or a number out of its range
abbrev pub is_wrong : (Text → Option ℕ) → Option Text → Bool
is_wrong read None = false
is_wrong read (Some text) = not (is_some (read text))

-- `--core` stands together with `--width` or `--entry`
abbrev pub core_clashes : List Row → Bool
core_clashes rows =
    is_set (codes "core") rows && (is_some (first_of (codes "width") rows) || is_some (first_of (codes "entry") rows))

-- what is wrong with what a file is read as
abbrev pub basis_is_wrong : List Row → Bool
basis_is_wrong rows = core_clashes rows || is_wrong (number_within 1 64) (first_of (codes "width") rows)

-- what is wrong with the other arguments of a command
abbrev pub numbers_are_wrong : CommandWord → List Row → Bool
numbers_are_wrong command.Compile rows = is_wrong word_size (first_of (codes "word") rows)
numbers_are_wrong command.Trial rows =
    is_wrong (number_within 1 8) (first_of (codes "shares") rows)
    || is_wrong (number_within 0 (2 ^ 64 - 1)) (first_of (codes "seed") rows)
numbers_are_wrong command.Gen rows =
    is_wrong (number_within 0 (2 ^ 64 - 1)) (first_of (codes "seed") rows)
    || is_wrong (number_within 1 4096) (first_of (codes "size") rows)
numbers_are_wrong _ rows = false

-- the command reads a file that is a source or core text
abbrev pub has_basis : CommandWord → Bool
has_basis command.Run = false
has_basis command.Gen = false
has_basis _ = true

-- what `clap` found gives no order
abbrev pub is_refused : CommandWord → List Row → Bool
is_refused named rows = (has_basis named && basis_is_wrong rows) || numbers_are_wrong named rows
