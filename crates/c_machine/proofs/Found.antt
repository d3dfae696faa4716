-- The gadgets that are found by their names.
use Rattle.std.proofs.Common.{◌≡◌, ℕ, ◌+◌, ◌<◌, Bool, true, false, List, ◌∷◌, drop, get_or, length, Option, Some}
use Rattle.std.proofs.Common.{refl, sym, ap, ◌∙◌}
use Rattle.std.specs.Prelude.{if◌then◌else◌, bytes_eq, option_copied}
use Rattle.std.proofs.lemmas.List.{drop_more}
use denote.Ref.{Bor}
use Rattle.c_tree.specs.declared.CFun.{CFun}
use Rattle.c_machine.specs.Run.{gadget_named}

-- what is behind a reference that a choice gives
pub copied-if : (b : Bool) (gadget : Bor CFun) (other : Option (Bor CFun))
    → option_copied (if b then Some gadget else other) ≡ (if b then Some gadget.now else option_copied other)
copied-if true gadget other = refl
copied-if false gadget other = refl

-- the first of a gadget and of those behind it are found
pub found-more : (gadgets : List CFun) (k : ℕ) (gadget : CFun) (before after : List ℕ → Option CFun)
    → k < length gadgets → gadget ≡ get_or gadgets k gadget
    → ((name : List ℕ) → before name ≡ gadget_named (drop (k + 1) gadgets) name)
    → ((name : List ℕ) → after name ≡ (if bytes_eq gadget.name name then Some gadget else before name))
    → (name : List ℕ) → after name ≡ gadget_named (drop k gadgets) name
found-more gadgets k gadget before after within is held kept name =
    kept name
    ∙ ap (λ (found : Option CFun). if bytes_eq gadget.name name then Some gadget else found) (held name)
    ∙ ap (λ (first : CFun). gadget_named (first ∷ drop (k + 1) gadgets) name) is
    ∙ ap (λ (left : List CFun). gadget_named left name) (sym (drop_more gadgets k gadget within))
