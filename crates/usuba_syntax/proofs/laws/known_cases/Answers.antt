use Rattle.usuba_syntax.specs.KnownFile.{at}
use Rattle.usuba_syntax.proofs.KnownTokens.{known_tokens, known_spelled, are_known_file}
use Rattle.usuba_syntax.proofs.laws.known_cases.Goals as goal

pub returns : goal.returns
returns c = (known_tokens, at 13 1, known_spelled, are_known_file)
