-- Parameters that came into scope, before those that are still to come.
use Rattle.std.proofs.Common.{◌≡◌, ℕ, ◌≤◌, ◌<◌, ◌+◌, min, List, [], ◌∷◌, ◌++◌, drop, length, Option, None, Some, refl, ap, ◌∙◌, arith, get_or}
use Rattle.std.proofs.lemmas.List.{length-drop, drop_more}
use Rattle.c_tree.specs.declared.CArg.{CArg}
use Rattle.c_tree.specs.declared.CFile.{CFile}
use Rattle.c_tree.specs.declared.CParam.{CParam}
use Rattle.c_machine.specs.Scope.{Binding}
use Rattle.c_machine.specs.Run.{bound, bound_first, parameter_name, argument_meaning}

-- the parameters that are in scope, then the further ones
abbrev pub bound_before : List Binding → Option (List Binding) → Option (List Binding)
bound_before scope None = None
bound_before scope (Some further) = Some (scope ++ further)

-- where no parameters or no arguments are left, all are bound
pub bound-end : (file : CFile) (parameters : List CParam) (arguments : List CArg) → min (length parameters) (length arguments) ≤ 0
    → bound file parameters arguments ≡ Some []
bound-end file [] arguments over = refl
bound-end file (p ∷ parameters) [] over = refl
bound-end file (p ∷ parameters) (a ∷ arguments) over = absurd (omega (arith, over))

-- past the last parameter or the last argument all are bound
pub bound-over : (file : CFile) (parameters : List CParam) (arguments : List CArg) (k : ℕ)
    → min (length parameters) (length arguments) ≤ k → bound file (drop k parameters) (drop k arguments) ≡ Some []
bound-over file parameters arguments k over =
    bound-end file (drop k parameters) (drop k arguments) (omega (arith, length-drop k parameters, length-drop k arguments, over))

bound-none : (file : CFile) (parameters : List CParam) (a : CArg) (arguments : List CArg)
    → 0 < length parameters → argument_meaning file a ≡ None → bound file parameters (a ∷ arguments) ≡ None
bound-none file [] a arguments some none = absurd (omega (arith, some))
bound-none file (p ∷ parameters) a arguments some none =
    ap (λ m. bound_first (parameter_name p) m (bound file parameters arguments)) none

-- an argument that is no row of its array binds nothing
pub bound-stop : (file : CFile) (parameters : List CParam) (arguments : List CArg) (k : ℕ) (a : CArg)
    → k < min (length parameters) (length arguments) → argument_meaning file (get_or arguments k a) ≡ None
    → bound file (drop k parameters) (drop k arguments) ≡ None
bound-stop file parameters arguments k a within none =
    ap (bound file (drop k parameters)) (drop_more arguments k a (omega (arith, within)))
    ∙ bound-none file (drop k parameters) (get_or arguments k a) (drop (k + 1) arguments)
    (omega (arith, length-drop k parameters, within)) none
