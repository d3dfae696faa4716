-- What files tell of the fetches that a run makes.
use Rattle.std.specs.Prelude.{◌≡◌, ℕ, List, [], ◌∷◌, ◌++◌, Option, Some}
use Rattle.tor_edge.specs.Count.{Rose}
use Rattle.tor_edge.specs.declared.files.Reason.{Reason}
use Rattle.tor_edge.specs.declared.files.Reason.TheVariants as reason
use Rattle.tor_edge.specs.declared.files.Refusal.{Refusal as Refused}

-- the count that belongs to a reason: that of faults, or that of files found too long
abbrev pub count_for : Reason → (faults too_long : ℕ) → ℕ
count_for reason.Failed faults too_long = faults
count_for reason.TooLong faults too_long = too_long

-- the last fetch was of this name, and was refused for this reason, whose count rose
pub record RefusedFetch {F : Type 0} (faults too_long : F → ℕ) (last_refused : F → Option Refused)
    (fetched : F → List (List ℕ))
    (old new : F) (name : List ℕ) (why : Reason) : Type 0 where
  pub rose : Rose (count_for why (faults old) (too_long old)) (count_for why (faults new) (too_long new))
  pub is_last : last_refused new ≡ Some (record { name = name; reason = why })
  pub earlier : List (List ℕ)
  pub last_fetched : fetched new ≡ earlier ++ name ∷ []

-- no fetch was refused: both counts and the last refusal are as before
pub record NoneRefused {F : Type 0} (faults too_long : F → ℕ) (last_refused : F → Option Refused) (old new : F)
    : Type 0 where
  pub faults_stay : faults new ≡ faults old
  pub too_long_stays : too_long new ≡ too_long old
  pub refused_stays : last_refused new ≡ last_refused old

-- some of these names were fetched, from the first on and in their order, each once
pub record FetchedInOrder (names before now : List (List ℕ)) : Type 0 where
  pub taken : List (List ℕ)
  pub left : List (List ℕ)
  pub in_order : taken ++ left ≡ names
  pub fetched : now ≡ before ++ taken
