-- What the functions answer of which each reads a part of a list.
use Rattle.std.specs.Prelude.{ℕ, ◌^◌, ◌&&◌, nat_lt, if◌then◌else◌, List}
use Rattle.std.specs.Option.{option_map_or}
use Rattle.linear_view.specs.declared.column.Column.{Column}
use Rattle.column_lists.specs.Names.{column_of}
use Rattle.column_lists.specs.declared.named.Named.{Named}
use Rattle.column_lists.specs.declared.named.Named.TheVariants.{Known, Unknown}

-- a column that is named, where its numbers fit 32 bits as those of every column do
abbrev pub fitting : Column → Named
fitting column = if nat_lt column.number (2 ^ 32) && nat_lt column.bit (2 ^ 32) then Known column else Unknown

-- what a word names
abbrev pub named_of : List ℕ → Named
named_of word = option_map_or fitting (column_of word) Unknown
