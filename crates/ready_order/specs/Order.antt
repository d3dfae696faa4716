-- An order in which each instance of a node is ready when its turn comes.
use Rattle.std.specs.Prelude.{◌≡◌, ◌<◌, ℕ, true, false, List, [], ◌∷◌, ◌++◌, length, map}
use Rattle.usuba_code.specs.Code.{Coded, coded_at}
use Rattle.ready_order.specs.Numbered.{is_one_of, input_numbers, left_numbers, is_ready_numbered}

-- each of some instances is ready in its turn: what it reads is known before, or assigned by an earlier one
abbrev pub AreReady : List ℕ → List Coded → Type 0
AreReady known [] = Unit {0}
AreReady known (instance ∷ rest) =
    (is_ready_numbered known instance ≡ true) × AreReady (left_numbers instance ++ known) rest

-- no number stands twice
abbrev pub AreDistinct : List ℕ → Type 0
AreDistinct [] = Unit {0}
AreDistinct (number ∷ rest) = (is_one_of rest number ≡ false) × AreDistinct rest

-- the numbers of all instances, each once, in an order in which each instance is ready in its turn
pub record IsReadyOrder (inputs : ℕ) (instances : List Coded) (order : List ℕ) : Type 0 where
  pub count : length order ≡ length instances
  pub within : (k : ℕ) → is_one_of order k ≡ true → k < length instances
  pub complete : (k : ℕ) → k < length instances → is_one_of order k ≡ true
  pub distinct : AreDistinct order
  pub ready : AreReady (input_numbers inputs) (map (coded_at instances) order)
