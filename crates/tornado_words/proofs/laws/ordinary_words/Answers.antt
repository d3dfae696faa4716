use Rattle.tornado_words.proofs.LawLemmas as law
use Rattle.tornado_words.proofs.laws.ordinary_words.Goals as goal

pub returns : goal.returns
returns c = record {
  file_alone = law.file_alone;
  option_after = law.option_after;
  option_before = law.option_before;
  core_text = law.core_text;
  core_alone = law.core_alone;
  empty_name = law.empty_name;
  word_of_compile = law.word_of_compile;
  word_of_repair = law.word_of_repair;
  word_left = law.word_left;
  no_help = law.no_help;
}
