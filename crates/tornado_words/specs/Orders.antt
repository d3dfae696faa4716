-- What the words of a command line ask for, each word as its bytes.
use Rattle.std.specs.Prelude.{ℕ, ◌^◌, ◌-◌, List, [], ◌∷◌, codes, Option, Some, None, option_map, option_and_then}
use Rattle.clap.specs.Walk.{Row, Text, first_of}
use Rattle.tornado_words.specs.Arguments.{command_word, matches_on}
use Rattle.tornado_words.specs.Values.{basis_in, number_in, word_size_in}
use Rattle.tornado_words.specs.declared.command_word.CommandWord.{CommandWord}
use Rattle.tornado_words.specs.declared.command_word.CommandWord.TheVariants as command
use Rattle.tornado_words.specs.declared.order.Basis.{Basis}
use Rattle.tornado_words.specs.declared.order.Order.{Order}
use Rattle.tornado_words.specs.declared.order.Order.TheVariants as order

-- both values, where there are both
abbrev pub both : {X Y : Type 0} → Option X → Option Y → Option (X × Y)
both (Some x) (Some y) = Some (x, y)
both _ _ = None

-- the file of a command, and what it is read as
abbrev pub file_and_basis : List Row → Option (Text × Basis)
file_and_basis rows = both (first_of (codes "file") rows) (basis_in rows)

-- how many shares a trial has, and the seed of its inputs
abbrev pub shares_and_seed : List Row → Option (ℕ × ℕ)
shares_and_seed rows = both (number_in 1 8 (codes "shares") rows) (number_in 0 (2 ^ 64 - 1) (codes "seed") rows)

-- the order of a command, by its matches
abbrev pub order_in : CommandWord → List Row → Option Order
order_in command.Core rows = option_map (λ p. order.Core p.0 p.1) (file_and_basis rows)
order_in command.Eval rows =
    option_map (λ p. order.Eval p.1.0 p.0 p.1.1) (both (first_of (codes "values") rows) (file_and_basis rows))
order_in command.Rows rows = option_map (λ p. order.Rows p.0 p.1) (file_and_basis rows)
order_in command.Check rows = option_map (λ p. order.Check p.0 p.1) (file_and_basis rows)
order_in command.Verify rows =
    option_map (λ p. order.Verify p.1.0 p.0 p.1.1) (both (first_of (codes "attack") rows) (file_and_basis rows))
order_in command.Repair rows = option_map (λ p. order.Repair p.0 p.1) (file_and_basis rows)
order_in command.Compile rows =
    option_map (λ p. order.Compile p.1.0 p.0 p.1.1) (both (word_size_in rows) (file_and_basis rows))
order_in command.Run rows =
    option_map (λ p. order.Run p.0 p.1) (both (first_of (codes "cfile") rows) (first_of (codes "values") rows))
order_in command.Trial rows =
    option_map (λ p. order.Trial p.1.0 p.0.0 p.0.1 p.1.1)
    (both (shares_and_seed rows) (file_and_basis rows))
order_in command.Gen rows =
    option_map (λ p. order.Gen p.0 p.1)
    (both (number_in 0 (2 ^ 64 - 1) (codes "seed") rows) (number_in 1 4096 (codes "size") rows))

-- the order of a command on the words, of which the first is its own: that of the matches that `clap` has on them
abbrev pub order_on : CommandWord → List Text → Option Order
order_on named words = option_and_then (order_in named) (matches_on named words)

-- the order of the words: that of the command which the first word names; none where they are no order
abbrev pub order_of : List Text → Option Order
order_of [] = None
order_of (word ∷ words) = option_and_then (λ named. order_on named (word ∷ words)) (command_word word)
