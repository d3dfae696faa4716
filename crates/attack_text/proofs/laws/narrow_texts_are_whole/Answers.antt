use Rattle.attack_text.proofs.NarrowLemmas.{narrow_texts_are_whole}
use Rattle.attack_text.proofs.laws.narrow_texts_are_whole.Goals as goal

pub returns : goal.returns
returns c = narrow_texts_are_whole
