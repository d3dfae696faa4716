-- The gadgets of a file as the code finds them.
use Rattle.std.specs.Prelude.{◌≡◌, ℕ, List, Option, option_copied, bytes_eq}
use Rattle.std.specs.HashMap.{HashMap, get_by}
use denote.Ref.{Bor}
use Rattle.c_tree.specs.declared.CFun.{CFun}
use Rattle.c_machine.specs.Run.{gadget_named}

-- the gadget that a map has at a name
abbrev pub gadget_at : {S : Type 0} → HashMap (Bor (List ℕ)) (Bor CFun) S → List ℕ → Option CFun
gadget_at found name = option_copied (get_by (λ key. bytes_eq name key.now) found)

-- a map has the first of these gadgets at each name
abbrev pub Finds : {S : Type 0} → HashMap (Bor (List ℕ)) (Bor CFun) S → List CFun → Type 0
Finds found gadgets = (name : List ℕ) → gadget_at found name ≡ gadget_named gadgets name
