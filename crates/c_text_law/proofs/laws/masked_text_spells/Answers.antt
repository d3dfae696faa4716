use Rattle.c_meaning.specs.CSubset.{Spells}
use Rattle.c_text.specs.CText.{c_text}
use Rattle.c_text_law.proofs.Law.{masked_text-spells}
use Rattle.c_text_law.proofs.Names.{names_right}
use Rattle.c_text_law.proofs.laws.masked_text_spells.Goals as goal

pub returns : goal.returns
returns c core is B bits form made few_out few_in few_slots =
    let one = c.one_file.ensures in
    let spells : Spells (c_text form) form = record {
      syntax = masked_text-spells core is B bits form made few_out few_in few_slots;
      names = names_right core B form made;
    } in
    record {
      spells = spells;
      alone = λ other s. one.file (c_text form) other form s spells;
      syntax = λ place. one.syntax (c_text form) form place spells;
      names = λ place. one.names (c_text form) form place spells;
    }
