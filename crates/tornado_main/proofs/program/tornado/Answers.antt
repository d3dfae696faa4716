use Rattle.tornado_main.proofs.CompletenessLemmas.{complete}
use Rattle.tornado_main.proofs.HeadlineLemmas.{headline}
use Rattle.tornado_main.proofs.program.tornado.Goals as goal

pub returns-clause-headline : goal.returns-clause-headline
returns-clause-headline g c =
    headline c.one_source.ensures.file c.one_source.ensures.apart c.written_is_read.ensures c.masked_code_computes_the_core.ensures c.masked_code_computes_the_source.ensures
    c.masked_lanes_compute_the_source.ensures c.lanes_are_runs.ensures c.run_words.ensures

pub returns-clause-complete : goal.returns-clause-complete
returns-clause-complete g c =
    complete c.one_source.ensures.file c.one_source.ensures.apart c.written_is_read.ensures c.one_file.ensures.file c.one_file.ensures.syntax
    c.one_file.ensures.names c.run_words.ensures
