-- What the search for an order answers.
use Rattle.std.specs.Prelude.{◌≡◌, ℕ, List, Some, None}
use Rattle.usuba_model.specs.declared.fault.FaultKind.TheVariants.{Cyclic}
use Rattle.usuba_model.specs.Faults.{first_of}
use Rattle.usuba_code.specs.Code.{Coded}
use Rattle.ready_order.specs.declared.ordering.Order.{Order}
use Rattle.ready_order.specs.declared.ordering.Order.TheVariants.{Ready, Stuck}
use Rattle.ready_order.specs.Numbered.{cyclic_numbered}
use Rattle.ready_order.specs.Order.{IsReadyOrder}

-- an order where each instance becomes ready, else the fault of the first instance that never does
abbrev pub IsOrderOf : ℕ → List Coded → Order → Type 0
IsOrderOf inputs instances (Ready order) =
    IsReadyOrder inputs instances order.items × (first_of Cyclic (cyclic_numbered inputs instances) ≡ None)
IsOrderOf inputs instances (Stuck fault) = first_of Cyclic (cyclic_numbered inputs instances) ≡ Some fault
