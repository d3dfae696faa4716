-- The first of some faults of a source.
use Rattle.std.specs.Prelude.{Bool, List, [], ◌∷◌, Option, Some, None, if◌then◌else◌}
use Rattle.tor_edge.specs.declared.place.Place.{Place}
use Rattle.usuba_model.specs.declared.fault.Fault.{Fault}
use Rattle.usuba_model.specs.declared.fault.FaultKind.{FaultKind}

-- a condition that stands at a place of the text, where it holds
pub record Finding : Type 0 where
  pub place : Place
  pub holds : Bool

-- the first finding that holds, as a fault of this kind
abbrev pub first_of : FaultKind → List Finding → Option Fault
first_of kind [] = None
first_of kind (finding ∷ findings) =
    if finding.holds then Some (record { kind = kind; place = finding.place }) else first_of kind findings

-- the first of two faults
abbrev pub either : Option Fault → Option Fault → Option Fault
either (Some fault) later = Some fault
either None later = later

-- the first of some kinds of fault each of which may be there
abbrev pub first_kind : Option FaultKind → Option FaultKind → Option FaultKind
first_kind (Some kind) later = Some kind
first_kind None later = later

-- a kind of fault where its condition holds
abbrev pub when : Bool → FaultKind → Option FaultKind
when holds kind = if holds then Some kind else None
