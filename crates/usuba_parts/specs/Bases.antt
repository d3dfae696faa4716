-- What the elements of a type word are, in the tree.
use Rattle.usuba_tokens.specs.declared.token.Base as token
use Rattle.usuba_tokens.specs.declared.token.Base.TheVariants as word
use Rattle.usuba_trees.specs.declared.Base.{Base}
use Rattle.usuba_trees.specs.declared.Base.TheVariants as tree

-- what the elements of a type word are
abbrev pub base_of : token.Base → Base
base_of word.Poly = tree.Poly
base_of (word.Bits w) = tree.Bits w
