use Rattle.c_name_places.proofs.Counted.{bad_or_right}
use Rattle.c_name_places.proofs.laws.bad_or_right.Goals as goal

pub returns : goal.returns
returns c = bad_or_right
