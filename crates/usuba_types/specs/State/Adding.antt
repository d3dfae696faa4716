-- Sizes as they grow call by call.
use Rattle.std.specs.Prelude.{ℕ, ◌+◌, min, max, List, [], ◌∷◌}
use Rattle.usuba_types.specs.declared.sizes.CappedSize.{CappedSize}
use Rattle.usuba_types.specs.Sizes.{greatest, capped_at}

-- one more call of a definition of this size
abbrev pub after_call : CappedSize → CappedSize → CappedSize
after_call size callee = record {
  operations = min (size.operations + callee.operations) greatest;
  chain = max size.chain (min (callee.chain + 1) greatest);
}

-- further calls of the definitions of these numbers
abbrev pub after_calls : List CappedSize → CappedSize → List ℕ → CappedSize
after_calls known size [] = size
after_calls known size (number ∷ numbers) = after_calls known (after_call size (capped_at known number)) numbers
