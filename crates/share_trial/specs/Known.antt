-- Trials that are known by hand.
use Rattle.std.specs.Prelude.{◌≡◌, [], ◌∷◌}
use Rattle.usuba0.specs.Circuit.{Circuit}
use Rattle.usuba0.specs.declared.circuit.Gate.TheVariants.{And}
use Rattle.share_trial.specs.Trial.{trial_of}

-- `z = x & y` over words of 8 bits
abbrev pub product : Circuit
product = record {
  width = 8;
  inputs = 2;
  equations = And (record { 0 = 0 }) (record { 0 = 1 }) ∷ [];
  outputs = record { 0 = 2 } ∷ [];
}

-- trials of it from the seed 1, which draws 149, 241, 217, 156 and 211
pub record KnownTrials : Type 0 where
  -- 149 & 241 = 145
  pub one_share : trial_of 1 product 1
      ≡ record { shares = 1; words = 0; outputs = record { value = 145; shares = 145 ∷ [] } ∷ [] }
  -- x = 149 ^ 241 = 100 and y = 217 ^ 156 = 69, and 100 & 69 = 68. Share 0 is (149 & 217) ^ 211 = 66, and share 1 is
  -- (241 & 156) ^ (211 ^ (149 & 156)) ^ (241 & 217) = 6
  pub two_shares : trial_of 2 product 1
      ≡ record { shares = 2; words = 1; outputs = record { value = 68; shares = 66 ∷ 6 ∷ [] } ∷ [] }
