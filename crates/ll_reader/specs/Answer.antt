-- What a reader answers to classes that are no text, or one that is nested too deep.
use Rattle.std.specs.Prelude.{◌<◌, ◌⊎◌, ℕ, ◌+◌, List, ◌++◌, length, take}
use Rattle.ll_reader.specs.declared.grammar.Frame.{Frame}
use Rattle.ll_reader.specs.declared.grammar.Production.{Production}
use Rattle.ll_reader.specs.declared.grammar.Step.{Step}
use Rattle.ll_reader.specs.declared.reader.ReadError.{ReadError}
use Rattle.ll_reader.specs.declared.reader.ReadError.TheVariants.{Syntax, TooDeep, Memory}
use Rattle.ll_reader.specs.Derivation.{IsText, BeginsText}
use Rattle.ll_reader.specs.Depth.{KeepsDepth, PassesDepth}

-- The classes before `at` begin a text, and with the one at `at` they begin none. However the text goes on, none of
-- those before `at` stands too deep.
pub record IsSyntaxFault (table : List Production) (frame : Frame) (classes : List ℕ) (at : ℕ) : Type 0 where
  pub inside : at < length classes
  pub before : BeginsText table frame (take at classes)
  pub here : ¬ BeginsText table frame (take (at + 1) classes)
  pub shallow : (rest : List ℕ) (steps : List Step) → IsText table frame (take at classes ++ rest) steps → KeepsDepth table frame at steps

-- The classes up to and with the one at `at` begin a text. However it goes on, the one at `at` is the first that stands
-- too deep.
pub record IsTooDeepFault (table : List Production) (frame : Frame) (classes : List ℕ) (at : ℕ) : Type 0 where
  pub inside : at < length classes
  pub begins : BeginsText table frame (take (at + 1) classes)
  pub shallow : (rest : List ℕ) (steps : List Step) → IsText table frame (take (at + 1) classes ++ rest) steps → KeepsDepth table frame at steps
  pub deep : (rest : List ℕ) (steps : List Step) → IsText table frame (take (at + 1) classes ++ rest) steps → PassesDepth table frame at steps

-- the fault of the classes is the one that the error tells; want of memory tells none
abbrev pub IsFault : List Production → Frame → List ℕ → ReadError → Type 0
IsFault table frame classes (Syntax at) = IsSyntaxFault table frame classes at
IsFault table frame classes (TooDeep at) = IsTooDeepFault table frame classes at
IsFault table frame classes (Memory error) = Unit {0}

-- the classes are a text that keeps the depth, or have a fault
abbrev pub HasAnswer : List Production → Frame → List ℕ → Type 0
HasAnswer table frame classes =
    ((steps : List Step) × IsText table frame classes steps × KeepsDepth table frame (length classes) steps)
    ⊎ ((at : ℕ) × (IsSyntaxFault table frame classes at ⊎ IsTooDeepFault table frame classes at))
