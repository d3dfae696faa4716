use Rattle.std.proofs.Common.{sym, ◌∙◌}
use Rattle.source_gen.proofs.Lengths.{bytes_short, drafted}
use Rattle.source_gen.proofs.source.source_of.Goals as goal

pub returns-in-Ok-clause-few : goal.returns-in-Ok-clause-few
returns-in-Ok-clause-few c =
    bytes_short c.args.seed c.args.size c.from_vec.result c.requires
    (c.from_vec.ensures ∙ drafted _ c.into_bytes.result.items _ c.new-draft.ensures
    (sym c.into_bytes.ensures ∙ c.in-Ok.ensures.whole))
