use Rattle.gf2_span.specs.Basis.{row_sets}
use Rattle.span_model.specs.Columns.{set_of}
use Rattle.span_select.proofs.Lasts.{reduced_from}
use Rattle.span_select.proofs.words.reduce_by.Goals as goal

pub returns-clause-reduced : goal.returns-clause-reduced
returns-clause-reduced c = reduced_from c.leads_are_kept.ensures (row_sets c.args.span.now) (set_of c.reduce.new.row) c.rank-rank.ensures.leads c.reduce.ensures.clear
