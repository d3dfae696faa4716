-- What holds of the values that a text says.
use Rattle.std.specs.Prelude.{◌≡◌, ℕ, ◌*◌, ◌<◌, ◌≤◌, ◌^◌, List, length, All}
use Rattle.data_text.specs.declared.read.RunValues.{RunValues}

-- so many values of so many bits
pub record AreValues (count bits : ℕ) (values : List ℕ) : Type 0 where
  pub as_many : length values ≡ count
  pub each : All (λ value. value < 2 ^ bits) values

-- the data of a run with so many inputs, whose shares have so many bits
pub record IsRun (inputs bits : ℕ) (run : RunValues) : Type 0 where
  pub some_shares : 0 < run.shares
  pub few_shares : run.shares ≤ 64
  pub shares : AreValues (inputs * run.shares) bits run.inputs
  pub words : All (λ word. word < 2 ^ 64) run.words
