-- The statement of the law that sizes by numbers are those by names.
use Rattle.std.specs.Prelude.{◌≡◌, ℕ, List, [], ◌∷◌, ◌++◌, map, None}
use Rattle.usuba_trees.specs.declared.Def.TheVariants as def
use Rattle.usuba_trees.specs.declared.Node.{Node}
use Rattle.usuba_model.specs.declared.fault.FaultKind.TheVariants.{UnknownName}
use Rattle.usuba_model.specs.Faults.{first_of}
use Rattle.usuba_model.specs.Names.{unknown_in_definition}
use Rattle.usuba_model.specs.Operations.{Sized, size_of_definition}
use Rattle.usuba_model.specs.Walk.{Signature, definition_steps, count_of}
use Rattle.usuba_code.specs.Code.{coded_node}
use Rattle.usuba_types.specs.declared.sizes.CappedSize.{CappedSize}
use Rattle.usuba_types.specs.Sizes.{capped, node_size}

-- the sizes of definitions, which come the latest first, in the order of the file
abbrev pub in_order : List Sized → List CappedSize
in_order [] = []
in_order (sized ∷ earlier) = in_order earlier ++ capped sized.size ∷ []

-- the names of definitions as calls see them
abbrev pub signature_names : List Signature → List (List ℕ)
signature_names signatures = map (λ s. s.name) signatures

-- definitions as calls see them, and definitions with their sizes, have the same names
abbrev pub HaveSameNames : List Signature → List Sized → Type 0
HaveSameNames [] [] = Unit {0}
HaveSameNames [] (sized ∷ known) = ⊥
HaveSameNames (s ∷ signatures) [] = ⊥
HaveSameNames (s ∷ signatures) (sized ∷ known) = (s.name ≡ sized.name) × HaveSameNames signatures known

-- the size of a node in which no name is unknown is the same by the numbers of the definitions that it calls as by their names
abbrev pub NumberedSizes : Type 0
NumberedSizes = (w : ℕ) (signatures : List Signature) (known : List Sized) (node : Node)
    → HaveSameNames signatures known
    → first_of UnknownName (unknown_in_definition (signature_names signatures) (def.Node node)) ≡ None
    → node_size (in_order known) (count_of (definition_steps w signatures (def.Node node))) (coded_node signatures node)
    ≡ capped (size_of_definition w signatures known (def.Node node))
