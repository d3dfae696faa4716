-- What the matches of a command say, by the names of its arguments.
use Rattle.std.specs.Prelude.{ℕ, Bool, false, ◌||◌, ◌==◌, if◌then◌else◌, List, codes}
use Rattle.std.specs.Prelude.{Option, Some, None, is_some, option_map, option_and_then}
use Rattle.std.specs.Option.{option_map_or}
use Rattle.std.specs.Str.{bytes_eq}
use Rattle.clap.specs.Walk.{Row, Text, first_of}
use Rattle.tornado_words.specs.Numbers.{number_within}
use Rattle.tornado_words.specs.declared.order.Basis.{Basis}
use Rattle.tornado_words.specs.declared.order.Basis.TheVariants as basis

-- the flag is set
abbrev pub is_set : Text → List Row → Bool
is_set id rows = option_map_or (λ value. bytes_eq value (codes "true")) (first_of id rows) false

-- the value of an argument, a number from `least` to `most`
abbrev pub number_in : ℕ → ℕ → Text → List Row → Option ℕ
number_in least most id rows = option_and_then (number_within least most) (first_of id rows)

-- the value of an option, which may be left out and else has to be one of those that `read` reads
abbrev pub optional : (Text → Option ℕ) → Option Text → Option (Option ℕ)
optional read None = Some None
optional read (Some text) = option_map (λ number. Some number) (read text)

-- the width of a register of 8, 16, 32 or 64 bits
abbrev pub word_size : Text → Option ℕ
word_size text = option_and_then
    (λ size. if size == 8 || size == 16 || size == 32 || size == 64 then Some size else None) (number_within 8 64 text)

-- the size that `--word` gives, where it is there
abbrev pub word_size_in : List Row → Option (Option ℕ)
word_size_in rows = optional word_size (first_of (codes "word") rows)

-- the width that `--width` gives, where it is there
abbrev pub width_in : List Row → Option (Option ℕ)
width_in rows = optional (number_within 1 64) (first_of (codes "width") rows)

-- core text, which stands with neither `--width` nor `--entry`
abbrev pub core_text_basis : List Row → Option Basis
core_text_basis rows =
    if is_some (first_of (codes "width") rows) || is_some (first_of (codes "entry") rows) then None
    else Some basis.CoreText

-- what a file is read as: core text with `--core`, and else a source
abbrev pub basis_in : List Row → Option Basis
basis_in rows =
    if is_set (codes "core") rows then core_text_basis rows
    else option_map (λ width. basis.Source width (first_of (codes "entry") rows)) (width_in rows)
