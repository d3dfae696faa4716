-- The names in scope as the code keeps them.
use Rattle.std.specs.Prelude.{List, map}
use Rattle.c_machine.specs.Scope.{Binding, Meaning, row, word, counter}
use Rattle.c_machine.specs.declared.scope.Meant.{Meant}
use Rattle.c_machine.specs.declared.scope.Meant.TheVariants as meant
use Rattle.c_machine.specs.declared.scope.Named.{Named}

-- what the code says of a name, as the machine means it
abbrev pub meaning_of : Meant → Meaning
meaning_of (meant.Row r) = row r
meaning_of (meant.Word w) = word w
meaning_of (meant.Counter i) = counter i

-- a name of the code in the machine's scope
abbrev pub binding_of : Named → Binding
binding_of named = record { name = named.name.now; meaning = meaning_of named.meant }

-- all of them, in their order
abbrev pub scope_of : List Named → List Binding
scope_of names = map binding_of names
