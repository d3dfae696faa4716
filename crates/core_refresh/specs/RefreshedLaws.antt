-- The laws of refreshed cores.
use Rattle.std.specs.Prelude.{◌≡◌, ℕ, ◌+◌, ◌<◌, ◌≤◌, Bool, List, length}
use Rattle.usuba0.specs.Circuit.{Circuit, IsCore, products_of, refreshes_of}
use Rattle.usuba0.specs.PlainRun.{plain_run}
use Rattle.core_refresh.specs.RefreshedCore.{refreshed_core}

-- the plain run of a refreshed core is that of the core, over words of any number of bits
abbrev pub RunsTheSame : Type 0
RunsTheSame =
    (core : Circuit) (set : ℕ → Bool) (bits : ℕ) (inputs : List ℕ) → IsCore core → length inputs ≡ core.inputs
    → plain_run bits (refreshed_core core set) inputs ≡ plain_run bits core inputs

-- a refreshed core is a core, with as many products, and with at most one refresh more for each of them
pub record RefreshedCoreSize : Type 0 where
  pub core : (core : Circuit) (set : ℕ → Bool) → IsCore core → IsCore (refreshed_core core set)
  pub products : (core : Circuit) (set : ℕ → Bool)
      → products_of (refreshed_core core set).equations ≡ products_of core.equations
  pub refreshes : (core : Circuit) (set : ℕ → Bool)
      → refreshes_of (refreshed_core core set).equations ≤ refreshes_of core.equations + products_of core.equations
  pub equations : (core : Circuit) (set : ℕ → Bool)
      → length (refreshed_core core set).equations ≤ length core.equations + products_of core.equations

-- the set is read off a core and its refreshed core: two sets give the same refreshed core only where they hold the same
-- products of the core
abbrev pub SetIsReadOff : Type 0
SetIsReadOff =
    (core : Circuit) (set other : ℕ → Bool) → refreshed_core core set ≡ refreshed_core core other
    → (k : ℕ) → k < products_of core.equations → set k ≡ other k
