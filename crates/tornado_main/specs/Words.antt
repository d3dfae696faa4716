-- What the words of the command line ask for, each word as its bytes.
use Rattle.std.specs.Prelude.{ℕ, List, [], ◌∷◌}
use Rattle.tornado_words.specs.declared.order.Order.{Order}
use Rattle.tornado_words.specs.declared.order.Order.TheVariants as order
-- the order of the words; none where they are no order
pub use Rattle.tornado_words.specs.Orders.{order_of}

-- the files that an order names, in the order in which they are fetched
abbrev pub files_of : Order → List (List ℕ)
files_of (order.Core file basis) = file ∷ []
files_of (order.Eval file values basis) = file ∷ values ∷ []
files_of (order.Rows file basis) = file ∷ []
files_of (order.Check file basis) = file ∷ []
files_of (order.Verify file attack basis) = file ∷ attack ∷ []
files_of (order.Repair file basis) = file ∷ []
files_of (order.Compile file word basis) = file ∷ []
files_of (order.Run cfile values) = cfile ∷ values ∷ []
files_of (order.Trial file shares seed basis) = file ∷ []
files_of (order.Gen seed size) = []
