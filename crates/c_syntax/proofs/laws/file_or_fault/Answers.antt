use Rattle.c_syntax.proofs.Spelling as spelling
use Rattle.c_syntax.proofs.laws.file_or_fault.Goals as goal

pub returns : goal.returns
returns c = λ bytes.
    spelling.file_or_fault c.every_text_spells.ensures c.derived_or_fault.ensures c.derived_are_files.ensures bytes
