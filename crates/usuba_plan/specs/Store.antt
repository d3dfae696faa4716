-- A store of elements: what is held, each element behind a handle, and what is made of it.
use Rattle.std.specs.Prelude.{◌≡◌, ℕ, ◌+◌, ◌≤◌, List, map, Option, Some}
use Rattle.usuba_code.specs.CodeLaw.{Each}
use Rattle.usuba_model.specs.Rounds.{Operators}

-- the width of the program, how many inputs it has, what operators make of elements, which handles are held, what
-- element each of these stands for, and how many more elements may be made
pub record Store (H V : Type 0) : Type 1 where
  pub width : ℕ
  pub inputs : ℕ
  pub operators : Operators V
  pub holds : H → Type 0
  pub meaning : H → V
  pub room : ℕ

-- the handle is held, and stands for this element
pub record Made {H V : Type 0} (store : Store H V) (handle : H) (element : V) : Type 0 where
  pub held : store.holds handle
  pub means : store.meaning handle ≡ element

-- what some handles stand for
abbrev pub meanings : {H V : Type 0} → Store H V → List H → List V
meanings store handles = map store.meaning handles

-- the handles are held, and stand for these elements, which are there
pub record Gives {H V : Type 0} (store : Store H V) (handles : List H) (elements : Option (List V)) : Type 0 where
  pub held : Each store.holds handles
  pub means : elements ≡ Some (meanings store handles)

-- width, inputs and operators are as before, the handles that were held still are and stand for the same, and at most
-- so many elements were made
pub record Keeps {H V : Type 0} (most : ℕ) (old new : Store H V) : Type 0 where
  pub width : new.width ≡ old.width
  pub inputs : new.inputs ≡ old.inputs
  pub operators : new.operators ≡ old.operators
  pub held : (handle : H) → old.holds handle → new.holds handle
  pub means : (handle : H) → old.holds handle → new.meaning handle ≡ old.meaning handle
  pub room : old.room ≤ new.room + most
