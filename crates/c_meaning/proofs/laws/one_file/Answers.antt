use Rattle.c_meaning.proofs.Reading.{none_bad}
use Rattle.c_meaning.proofs.laws.one_file.Goals as goal

pub returns : goal.returns
returns c = record {
  file = λ bytes first second x y. c.one_source.ensures.file bytes first second x.syntax y.syntax;
  syntax = λ bytes file place x. c.one_source.ensures.apart bytes file place x.syntax;
  names = none_bad c.bad_or_right.ensures c.one_source.ensures.file;
}
