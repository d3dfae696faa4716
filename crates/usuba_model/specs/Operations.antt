-- The operations of definitions, and the longest chains of calls from them: the tenth phase of judging.
use Rattle.std.specs.Prelude.{ℕ, ◌+◌, ◌*◌, ◌^◌, max, nat_lt, if◌then◌else◌, List, [], ◌∷◌, ◌++◌, flat_map, Option, Some, None, bytes_eq}
use Rattle.tor_edge.specs.declared.place.Place.{Place}
use Rattle.usuba_trees.specs.declared.Def.{Def}
use Rattle.usuba_trees.specs.declared.Def.TheVariants as def
use Rattle.usuba_model.specs.declared.fault.FaultKind.TheVariants.{TooManyOps, CallsTooDeep}
use Rattle.usuba_model.specs.declared.fault.Fault.{Fault}
use Rattle.usuba_model.specs.Names.{name_of}
use Rattle.usuba_model.specs.Shapes.{all_elements}
use Rattle.usuba_model.specs.Unrolled.{Expression, cells, number, nothing, joined, call, complement, operation, shift, refresh, Instance, unrolled}
use Rattle.usuba_model.specs.Walk.{Signature, signature, definition_steps, count_of, most_operations}

-- the longest chain of calls that an entry may begin
abbrev pub longest_chain : ℕ
longest_chain = 128

-- the names that an expression calls, each as often as it is called
abbrev pub calls_of : Expression → List (List ℕ)
calls_of (number value) = []
calls_of (cells read) = []
calls_of nothing = []
calls_of (joined a b) = calls_of a ++ calls_of b
calls_of (call name args) = name ∷ calls_of args
calls_of (complement a) = calls_of a
calls_of (operation op a b) = calls_of a ++ calls_of b
calls_of (shift kind amount a) = calls_of a
calls_of (refresh k a) = calls_of a

-- the names that instances call
abbrev pub all_calls : List Instance → List (List ℕ)
all_calls instances = flat_map (λ instance. calls_of instance.right) instances

-- the operations of a definition, and the calls of the longest chain from it
pub record Size : Type 0 where
  pub operations : ℕ
  pub chain : ℕ

-- a definition with its size
pub record Sized : Type 0 where
  pub name : List ℕ
  pub size : Size

-- the size of the definition of a name among some; none at all where there is none
abbrev pub size_named : List Sized → List ℕ → Size
size_named [] name = record { operations = 0; chain = 0 }
size_named (sized ∷ rest) name = if bytes_eq sized.name name then sized.size else size_named rest name

-- the operations of all that is called
abbrev pub called_operations : List Sized → List (List ℕ) → ℕ
called_operations known [] = 0
called_operations known (name ∷ names) = (size_named known name).operations + called_operations known names

-- the calls of the longest chain that one of these calls begins
abbrev pub called_chain : List Sized → List (List ℕ) → ℕ
called_chain known [] = 0
called_chain known (name ∷ names) = max ((size_named known name).chain + 1) (called_chain known names)

-- the size of a definition at width w, where those of the earlier ones are known: a node's is its count after the walk with the
-- operations of the callee for each call instance; a table of n inputs and m outputs has 2^n * (m + 1) operations, and a
-- permutation as many as it has outputs
abbrev pub size_of_definition : ℕ → List Signature → List Sized → Def → Size
size_of_definition w signatures known (def.Node node) =
    let calls = all_calls (unrolled node) in
    record {
      operations = count_of (definition_steps w signatures (def.Node node)) + called_operations known calls;
      chain = called_chain known calls;
    }
size_of_definition w signatures known (def.Table grid) = record {
  operations = 2 ^ all_elements grid.inputs * (all_elements grid.outputs + 1);
  chain = 0;
}
size_of_definition w signatures known (def.Perm grid) = record { operations = all_elements grid.outputs; chain = 0 }

-- the definitions with their sizes, after some that are known
abbrev pub sizes_from : ℕ → List Signature → List Sized → List Def → List Sized
sizes_from w signatures known [] = known
sizes_from w signatures known (d ∷ rest) =
    sizes_from w
    (signature d ∷ signatures)
    (record { name = (name_of d).text; size = size_of_definition w signatures known d } ∷ known)
    rest

-- the size of the definition of a name in a file at width w
abbrev pub definition_size : ℕ → List Def → List ℕ → Size
definition_size w defs name = size_named (sizes_from w [] [] defs) name

-- what is too large about an entry of this size, whose name stands at this place
abbrev pub size_fault : Place → Size → Option Fault
size_fault place size =
    if nat_lt most_operations size.operations then Some (record { kind = TooManyOps; place = place })
    else if nat_lt longest_chain size.chain then Some (record { kind = CallsTooDeep; place = place })
    else None
