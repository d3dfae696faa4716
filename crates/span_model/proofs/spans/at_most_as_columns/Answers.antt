use Rattle.span_model.proofs.Ranks.{below_columns}
use Rattle.span_model.proofs.spans.at_most_as_columns.Goals as goal

pub returns : goal.returns
returns c = below_columns
