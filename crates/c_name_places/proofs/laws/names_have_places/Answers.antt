use Rattle.c_name_places.proofs.Counted.{names_have_places}
use Rattle.c_name_places.proofs.laws.names_have_places.Goals as goal

pub returns : goal.returns
returns c = names_have_places
