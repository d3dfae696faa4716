use Rattle.table_anf.proofs.LookUps.{terms_are_look_ups}
use Rattle.table_anf.proofs.laws.terms_are_look_ups.Goals as goal

pub returns : goal.returns
returns c = terms_are_look_ups
