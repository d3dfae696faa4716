-- The names in scope.
use Rattle.std.specs.Prelude.{ℕ, Bool, true, false, if◌then◌else◌, List, [], ◌∷◌, Option, None, Some, bytes_eq}
use Rattle.c_names.specs.declared.scope.Role.{Role}
use Rattle.c_names.specs.declared.scope.Role.TheVariants.{Array, Word, Counter}

-- a name in scope, with what it is there
pub record InScope : Type 0 where
  pub name : List ℕ
  pub role : Role

-- what a name is, where it is in scope
abbrev pub role_of : List InScope → List ℕ → Option Role
role_of [] name = None
role_of (known ∷ scope) name = if bytes_eq known.name name then Some known.role else role_of scope name

-- the name is an array in scope
abbrev pub is_array : Option Role → Bool
is_array (Some Array) = true
is_array _ = false

-- the name is a word in scope: a parameter or a declared `uint64_t`
abbrev pub is_word : Option Role → Bool
is_word (Some Word) = true
is_word _ = false

-- the name is a counter in scope
abbrev pub is_counter : Option Role → Bool
is_counter (Some Counter) = true
is_counter _ = false

-- the name is not in scope, so that it may be declared
abbrev pub is_new : Option Role → Bool
is_new None = true
is_new (Some role) = false
