-- The counters of the loops around a place.
use Rattle.std.specs.Prelude.{ℕ, List, [], ◌∷◌}
use Rattle.usuba_phases.specs.declared.scope.Scope.{Scope, Outermost, Inside'}

-- the names of the counters, the innermost first
abbrev pub counters_of : Scope → List (List ℕ)
counters_of Outermost = []
counters_of (Inside' counter p around) = counter.now ∷ counters_of around
