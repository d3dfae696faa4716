-- The laws of attacks on products whose columns are renamed, set to zero, or added by a refresh.
use Rattle.std.specs.Prelude.{◌≡◌, ◌≢◌, ◌<◌, ◌↔◌, ℕ, Bool, true, false, List, map, length, Option}
use Rattle.span_model.specs.Columns.{Columns, empty}
use Rattle.span_model.specs.Attack.{Product, Probe, IsAttack, IsLeak, HasAttack}
use Rattle.span_model.specs.Renaming.{named_in, renamed, AreRenamed, renumbered, IsCovered}
use Rattle.span_model.specs.Refresh.{RefreshedColumn, added, refreshed, IsWithin, without, left_out, IsRepairSet, IsOnLeftAlone, IsLeftFresh}

-- probes that attack products attack products that cover them, with the numbers of the covering ones, and with the
-- leak as it is read by the names, where this is not empty
abbrev pub AttackCarriesOver : (C D : Type 0) → Type 0
AttackCarriesOver C D =
    (name : D → Option C) (number : ℕ → ℕ) (products : List (Product C)) (others : List (Product D))
    → IsCovered name number products others
    → (t : ℕ) (leak : Columns C) (probes : List Probe) → IsAttack products t leak probes → named_in name leak ≢ empty
    → IsAttack others t (named_in name leak) (map (renumbered number) probes)

-- products whose columns only have other names have the same attacks
abbrev pub RenamingKeepsAttacks : (C D : Type 0) → Type 0
RenamingKeepsAttacks C D =
    (name : D → Option C) (back : C → Option D) (products : List (Product C)) (others : List (Product D))
    → renamed name products ≡ others → renamed back others ≡ products
    → (t : ℕ) (leak : Columns C) (probes : List Probe) → IsAttack products t leak probes → IsAttack others t (named_in name leak) probes

-- products whose columns only have other names than those of refreshed products have an attack exactly where these
-- have one, with the same probes
pub record RefreshedUnderNames (C D : Type 0) : Type 0 where
  pub attack : (products : List (Product C)) (set : ℕ → Bool) (others : List (Product D))
      → AreRenamed (refreshed set products) others → HasAttack (refreshed set products) ↔ HasAttack others
  pub probes : (products : List (Product C)) (set : ℕ → Bool) (others : List (Product D))
      (names : AreRenamed (refreshed set products) others) (t : ℕ) (leak : Columns (RefreshedColumn C))
      (probes : List Probe) → IsAttack (refreshed set products) t leak probes
      → IsAttack others t (named_in names.name leak) probes
  pub again : (products : List (Product C)) (set : ℕ → Bool) (others : List (Product D))
      (names : AreRenamed (refreshed set products) others) (t : ℕ) (leak : Columns D)
      (probes : List Probe) → IsAttack others t leak probes
      → IsAttack (refreshed set products) t (named_in names.back leak) probes

-- no leak holds a column that is on left operands alone
abbrev pub LeftColumnsDoNotLeak : Type 0 → Type 0
LeftColumnsDoNotLeak C =
    (products : List (Product C)) (column : C) → IsOnLeftAlone products column → (leak : Columns C) → IsLeak products leak → leak column ≡ false

-- products whose left operands hold columns that are on left operands alone have no attack
abbrev pub FreshLeftsAreSecure : Type 0 → Type 0
FreshLeftsAreSecure C =
    (products : List (Product C)) → ((k : ℕ) → k < length products → IsLeftFresh products k) → ¬ HasAttack products

-- no leak of refreshed products holds a column that a refresh added
abbrev pub AddedColumnsDoNotLeak : Type 0 → Type 0
AddedColumnsDoNotLeak C =
    (products : List (Product C)) (set : ℕ → Bool) (leak : Columns (RefreshedColumn C)) → IsLeak (refreshed set products) leak
    → (k row : ℕ) → leak (added k row) ≡ false

-- with the left operand of each product refreshed there is no attack
abbrev pub AllRefreshedIsSecure : Type 0 → Type 0
AllRefreshedIsSecure C =
    (products : List (Product C)) (set : ℕ → Bool) → ((k : ℕ) → k < length products → set k ≡ true) → ¬ HasAttack (refreshed set products)

-- with none refreshed there is an attack exactly where the products have one
abbrev pub NoneRefreshedIsSame : Type 0 → Type 0
NoneRefreshedIsSame C = (products : List (Product C)) → HasAttack (refreshed (λ _. false) products) ↔ HasAttack products

-- with a set refreshed there is an attack exactly where there is one without the products of the set
abbrev pub RefreshedIsLeftOut : Type 0 → Type 0
RefreshedIsLeftOut C =
    (products : List (Product C)) (set : ℕ → Bool) → HasAttack (refreshed set products) ↔ HasAttack (left_out set products)

-- a leak and probes that attack the products with a set refreshed attack them with each smaller set refreshed
abbrev pub AttackStaysWithFewer : Type 0 → Type 0
AttackStaysWithFewer C =
    (products : List (Product C)) (less set : ℕ → Bool) → IsWithin less set
    → (t : ℕ) (leak : Columns (RefreshedColumn C)) (probes : List Probe) → IsAttack (refreshed set products) t leak probes
    → IsAttack (refreshed less products) t leak probes

-- a product that can't be left out of a set can't be left out of a smaller one
abbrev pub NeededStaysNeeded : Type 0 → Type 0
NeededStaysNeeded C =
    (products : List (Product C)) (less set : ℕ → Bool) → IsWithin less set
    → (k : ℕ) → HasAttack (refreshed (without k set) products) → HasAttack (refreshed (without k less) products)

-- no proper subset of a repair set is enough
abbrev pub RepairSetIsLeast : Type 0 → Type 0
RepairSetIsLeast C =
    (products : List (Product C)) (less set : ℕ → Bool) → IsRepairSet products set → IsWithin less set
    → (k : ℕ) → k < length products → set k ≡ true → less k ≡ false → HasAttack (refreshed less products)
