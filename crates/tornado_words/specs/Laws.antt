-- What holds of the orders of words.
use Rattle.std.specs.Prelude.{◌≡◌, not, List, [], ◌∷◌, codes, Some, None, is_some, IsSome}
use Rattle.clap.specs.Walk.{Row, Rule, Text, first_of}
use Rattle.tornado_words.specs.Arguments.{matches_on, positionals}
use Rattle.tornado_words.specs.Orders.{order_in, order_of}
use Rattle.tornado_words.specs.Ranges.{IsInRange}
use Rattle.tornado_words.specs.Refusals.{is_refused}
use Rattle.tornado_words.specs.declared.command_word.CommandWord.{CommandWord}
use Rattle.tornado_words.specs.declared.order.Basis.TheVariants as basis
use Rattle.tornado_words.specs.declared.order.Order.{Order}
use Rattle.tornado_words.specs.declared.order.Order.TheVariants as order

-- words have one order or none
abbrev pub OneOrder : Type 0
OneOrder = (words : List Text) (first second : Order)
    → order_of words ≡ Some first → order_of words ≡ Some second → first ≡ second

-- each of these arguments has a value
abbrev pub HaveValues : List Row → List Rule → Type 0
HaveValues rows [] = Unit {0}
HaveValues rows (rule ∷ rules) = IsSome (first_of rule.id rows) × HaveValues rows rules

-- where `clap` takes the words of a command, each word that has to be given is there
abbrev pub WordsAreGiven : Type 0
WordsAreGiven = (named : CommandWord) (words : List Text) (rows : List Row)
    → matches_on named words ≡ Some rows → HaveValues rows (positionals named)

-- words that `clap` takes are no order only where `--core` stands with `--width` or `--entry`, or a number is wrong
abbrev pub RefusedAlone : Type 0
RefusedAlone = (named : CommandWord) (words : List Text) (rows : List Row)
    → matches_on named words ≡ Some rows → is_some (order_in named rows) ≡ not (is_refused named rows)

-- the numbers of an order are in their ranges
abbrev pub OrdersAreInRange : Type 0
OrdersAreInRange = (words : List Text) (order : Order) → order_of words ≡ Some order → IsInRange order

-- a file alone is a source, of which the last node is meant
abbrev pub FileAlone : Type 0
FileAlone = order_of (codes "check" ∷ codes "f.ua" ∷ []) ≡ Some (order.Check (codes "f.ua") (basis.Source None None))

-- an option stands after the file, with its value in a word of its own
abbrev pub OptionAfter : Type 0
OptionAfter = order_of (codes "check" ∷ codes "f.ua" ∷ codes "--width" ∷ codes "8" ∷ [])
    ≡ Some (order.Check (codes "f.ua") (basis.Source (Some 8) None))

-- an option stands before the file, with its value after `=`
abbrev pub OptionBefore : Type 0
OptionBefore = order_of (codes "check" ∷ codes "--width=8" ∷ codes "f.ua" ∷ [])
    ≡ Some (order.Check (codes "f.ua") (basis.Source (Some 8) None))

-- `-` alone is a name, and `--core` says that it names core text
abbrev pub CoreText : Type 0
CoreText = order_of (codes "core" ∷ codes "-" ∷ codes "--core" ∷ []) ≡ Some (order.Core (codes "-") basis.CoreText)

-- `--core` stands with no `--width`
abbrev pub CoreAlone : Type 0
CoreAlone = order_of (codes "core" ∷ codes "-" ∷ codes "--core" ∷ codes "--width" ∷ codes "8" ∷ []) ≡ None

-- an empty word is a value like another
abbrev pub EmptyName : Type 0
EmptyName = order_of (codes "rows" ∷ [] ∷ codes "--entry=" ∷ []) ≡ Some (order.Rows [] (basis.Source None (Some [])))

-- `--word` is an option of `compile` alone
abbrev pub WordOfCompile : Type 0
WordOfCompile = order_of (codes "compile" ∷ codes "f.ua" ∷ codes "--word" ∷ codes "64" ∷ codes "--core" ∷ [])
    ≡ Some (order.Compile (codes "f.ua") (Some 64) basis.CoreText)

-- with `repair` it is no order
abbrev pub WordOfRepair : Type 0
WordOfRepair = order_of (codes "repair" ∷ codes "f.ua" ∷ codes "--word" ∷ codes "64" ∷ []) ≡ None

-- a word too many is no order
abbrev pub WordLeft : Type 0
WordLeft = order_of (codes "gen" ∷ codes "1" ∷ codes "2" ∷ codes "3" ∷ []) ≡ None

-- a call for help is no order
abbrev pub NoHelp : Type 0
NoHelp = order_of (codes "core" ∷ codes "f.ua" ∷ codes "--help" ∷ []) ≡ None
