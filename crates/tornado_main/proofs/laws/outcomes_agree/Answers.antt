use Rattle.tornado_main.proofs.CoverageLemmas.{order_one, order_fits}
use Rattle.tornado_main.proofs.laws.outcomes_agree.Goals as goal

pub returns : goal.returns
returns c = record {
  one_status = order_one c.one_source.ensures.file c.one_source.ensures.apart c.written_is_read.ensures c.one_file.ensures.file c.one_file.ensures.syntax c.one_file.ensures.names;
  statuses = order_fits;
}
