use Rattle.usuba_tokens.proofs.GapLemmas.{found_is_gap, gap_holds_none}
use Rattle.usuba_tokens.proofs.tokens.gaps_hold_no_token.Goals as goal

pub returns-clause-found : goal.returns-clause-found
returns-clause-found c = λ text n is. found_is_gap text n is

pub returns-clause-passed : goal.returns-clause-passed
returns-clause-passed c = λ at gap after found ending is. gap_holds_none at gap after found ending is
