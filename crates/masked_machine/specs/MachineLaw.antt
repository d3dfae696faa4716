-- What the machine does with the masked form of a core.
use Rattle.std.specs.Prelude.{◌≡◌, ℕ, ◌<◌, ◌≤◌, List, length, Ok, Err}
use Rattle.c_tree.specs.declared.CFile.{CFile}
use Rattle.c_machine.specs.Run.{machine_run, words_of_rows}
use Rattle.c_machine.specs.declared.stop.RunFault.TheVariants.{WordsShort}
use Rattle.c_form.specs.MaskedForm.{IsMaskedForm}
use Rattle.usuba0.specs.Circuit.{Circuit}
use Rattle.share_gadgets.specs.MaskedRun.{masked_run, words_drawn}
use Rattle.share_gadgets.specs.RunLaw.{IsMaskedInput}

-- for every masked form of a core, every d above 0, sharings of the inputs on d shares and random words that are enough, the
-- machine answers the shares of the masked run: those of output 0, then those of output 1 and so on
abbrev pub MachineGivesMaskedRun : Type 0
MachineGivesMaskedRun = (core : Circuit) (B d : ℕ) (file : CFile) (inputs : List (List ℕ)) (words : List ℕ)
    → IsMaskedForm core B file → IsMaskedInput B d core inputs → words_drawn d core ≤ length words
    → machine_run d file (words_of_rows inputs) words ≡ Ok (words_of_rows (masked_run B d core inputs words))

-- and with fewer random words than the run draws it finds them too few; it never meets another fault
abbrev pub MachineFindsWordsShort : Type 0
MachineFindsWordsShort = (core : Circuit) (B d : ℕ) (file : CFile) (inputs : List (List ℕ)) (words : List ℕ)
    → IsMaskedForm core B file → IsMaskedInput B d core inputs → length words < words_drawn d core
    → machine_run d file (words_of_rows inputs) words ≡ Err WordsShort
