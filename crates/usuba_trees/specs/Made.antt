-- Parts of the tree from what they hold.
use Rattle.std.specs.Prelude.{ℕ, List}
use Rattle.tor_edge.specs.declared.place.Place.{Place}
use Rattle.usuba_trees.specs.declared.Expr.{Expr}
use Rattle.usuba_trees.specs.declared.Index.{Index}
use Rattle.usuba_trees.specs.declared.IndexLink.{IndexLink, roll-IndexLink}
use Rattle.usuba_trees.specs.declared.IndexOp.{IndexOp}
use Rattle.usuba_trees.specs.declared.Item.{Item}
use Rattle.usuba_trees.specs.declared.Link.{Link, roll-Link}
use Rattle.usuba_trees.specs.declared.Loop.{Loop, roll-Loop}
use Rattle.usuba_trees.specs.declared.Word.{Word}

-- a name at its place
abbrev pub name : List ℕ → Place → Word
name text at = record { text = text; place = at }

-- a further operand of an index chain
abbrev pub index_link : IndexOp → Index → IndexLink
index_link op operand = roll-IndexLink (record { op = op; operand = operand })

-- a further operand of a chain, and the place of the sign before it
abbrev pub link : Place → Expr → Link
link at operand = roll-Link (record { place = at; operand = operand })

-- a loop from its parts
abbrev pub loop_of : Place → Word → Index → Index → List Item → Loop
loop_of at counter low high items =
    roll-Loop (record { place = at; counter = counter; low = low; high = high; items = items })
