use Rattle.text_lines.proofs.SpelledLemmas.{text_back_of}
use Rattle.text_lines.proofs.WrittenLemmas.{lines_of_words}
use Rattle.text_lines.proofs.laws.lines_read_back.Goals as goal

pub returns-clause-read : goal.returns-clause-read
returns-clause-read c = lines_of_words

pub returns-clause-written : goal.returns-clause-written
returns-clause-written c = text_back_of
