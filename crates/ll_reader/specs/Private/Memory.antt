-- The error that is no fault of the classes.
use Rattle.ll_reader.specs.declared.reader.ReadError.{ReadError}
use Rattle.ll_reader.specs.declared.reader.ReadError.TheVariants.{Syntax, TooDeep, Memory}

-- the error is the want of memory
abbrev pub IsMemory : ReadError → Type 0
IsMemory (Syntax at) = ⊥
IsMemory (TooDeep at) = ⊥
IsMemory (Memory error) = Unit {0}
