-- Types with a width of 1 to 64 and sizes of at least 1, and files with such types only.
use Rattle.std.specs.Prelude.{ℕ, ◌<◌, ◌≤◌, IfSome}
use Rattle.std.specs.List.{AllByRecursion}
use Rattle.usuba_trees.specs.declared.Base.{Base}
use Rattle.usuba_trees.specs.declared.Base.TheVariants.{Bits, Poly}
use Rattle.usuba_trees.specs.declared.Decl.{Decl}
use Rattle.usuba_trees.specs.declared.Def.{Def}
use Rattle.usuba_trees.specs.declared.File.{File}
use Rattle.usuba_trees.specs.declared.Shape.{Shape}
use Rattle.usuba_model.specs.Entries.{all_declarations}
use Rattle.usuba_model.specs.Shapes.{elements}
use Rattle.usuba_model.specs.Walk.{signature}

-- a width of 1 to 64 bits
abbrev pub IsWidth : ℕ → Type 0
IsWidth w = (0 < w) × (w ≤ 64)

-- a number of at least 1
abbrev pub IsPositive : ℕ → Type 0
IsPositive n = 0 < n

-- an element's bits are 1 to 64, where the type says them
abbrev pub HasWidth : Base → Type 0
HasWidth (Bits w) = IsWidth w
HasWidth Poly = Unit {0}

-- a type with such a width, a count of at least 1 where it has one, and dimensions of at least 1
pub record IsShaped (shape : Shape) : Type 0 where
  pub width : HasWidth shape.base
  pub count : IfSome shape.count IsPositive
  pub dims : AllByRecursion IsPositive shape.dims

-- a declared variable of such a type, which has at least one element
pub record IsDeclared (declaration : Decl) : Type 0 where
  pub shape : IsShaped declaration.shape
  pub elements : 0 < elements declaration

-- a definition that takes and gives at least one element
pub record TakesAndGives (d : Def) : Type 0 where
  pub takes : 0 < (signature d).inputs
  pub gives : 0 < (signature d).outputs

-- a file of such declarations and definitions
pub record IsShapedFile (file : File) : Type 0 where
  pub declarations : AllByRecursion IsDeclared (all_declarations file.defs)
  pub definitions : AllByRecursion TakesAndGives file.defs
