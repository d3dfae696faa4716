-- The scan that looks for a ready order: it takes instances that are ready, one after another.
use Rattle.std.specs.Prelude.{◌≡◌, ℕ, suc, ◌<◌, Bool, true, false, not, ◌&&◌, if◌then◌else◌, List, [], ◌∷◌, ◌++◌, length, map, slice_index_or, slice_set}
use Rattle.usuba_code.specs.Code.{Coded, coded_at}
use Rattle.ready_order.specs.declared.scan.Scan.{Scan}
use Rattle.ready_order.specs.Numbered.{is_one_of, input_numbers, left_numbers}
use Rattle.ready_order.specs.Order.{AreReady, AreDistinct}
use Rattle.ready_order.specs.State.Marks.{is_marked, all_marked, reads_marked}

-- marks of the cells that are known and of the instances that are taken, and these in the order in which they were
-- taken
pub record Progress : Type 0 where
  pub known : List Bool
  pub taken : List Bool
  pub order : List ℕ

-- how far a scan is
abbrev pub progress : Scan → Progress
progress scan = record { known = scan.known.items; taken = scan.taken.items; order = scan.order.items }

-- whether an instance is not taken yet and is ready
abbrev pub is_open : List Coded → ℕ → Progress → Bool
is_open instances k scan = not (slice_index_or scan.taken k true) && reads_marked scan.known (coded_at instances k).code

-- an instance is taken where it is open
abbrev pub considered : List Coded → ℕ → Progress → Progress
considered instances k scan =
    if is_open instances k scan
    then record {
      known = all_marked scan.known (left_numbers (coded_at instances k));
      taken = slice_set scan.taken k true;
      order = scan.order ++ k ∷ [];
    }
    else scan

-- some instances are considered one after another
abbrev pub all_considered : List Coded → List ℕ → Progress → Progress
all_considered instances [] scan = scan
all_considered instances (k ∷ ks) scan = all_considered instances ks (considered instances k scan)

-- a scan comes of another by considering some instances
abbrev pub Leads : List Coded → Progress → Progress → Type 0
Leads instances before after = (ks : List ℕ) × (all_considered instances ks before ≡ after)

-- how many marks are set
abbrev pub set_count : List Bool → ℕ
set_count [] = 0
set_count (mark ∷ marks) = if mark then suc (set_count marks) else set_count marks

-- the cells that are known once these instances were taken in this order
abbrev pub known_along : List ℕ → List Coded → List ℕ
known_along known [] = known
known_along known (instance ∷ rest) = known_along (left_numbers instance ++ known) rest

-- what holds of a scan at any time
pub record IsScan (inputs cells : ℕ) (instances : List Coded) (scan : Progress) : Type 0 where
  pub wide : length scan.known ≡ cells
  pub as_many : length scan.taken ≡ length instances
  pub known : (c : ℕ)
      → is_marked scan.known c ≡ is_one_of (known_along (input_numbers inputs) (map (coded_at instances) scan.order)) c
  pub taken : (k : ℕ) → is_marked scan.taken k ≡ is_one_of scan.order k
  pub count : set_count scan.taken ≡ length scan.order
  pub distinct : AreDistinct scan.order
  pub ready : AreReady (input_numbers inputs) (map (coded_at instances) scan.order)

-- no instance is open any more
abbrev pub IsSettled : List Coded → Progress → Type 0
IsSettled instances scan = (k : ℕ) → k < length instances → is_open instances k scan ≡ false

-- this is the first instance that is not taken
pub record IsFirstLeft (taken : List Bool) (k : ℕ) : Type 0 where
  pub within : k < length taken
  pub left : is_marked taken k ≡ false
  pub before : (j : ℕ) → j < k → is_marked taken j ≡ true
