use Rattle.std.proofs.lemmas.Map.Text.{hash_map_updates_str}
use Rattle.usuba_cells.proofs.places.keep.Goals as goal

pub returns-in-Ok : goal.returns-in-Ok
returns-in-Ok c = λ other. hash_map_updates_str c.args.name.now c.args.places.now c.insert.new.self _ c.in-Ok.ensures.updates other
