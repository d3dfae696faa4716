use Rattle.source_shapes.proofs.Files.{spelled_is_shaped}
use Rattle.source_shapes.proofs.laws.spelled_is_shaped.Goals as goal

pub returns : goal.returns
returns c = spelled_is_shaped
