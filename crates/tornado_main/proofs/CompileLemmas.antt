-- The refusal of a core that is to be compiled.
use Rattle.std.proofs.Common.{ℕ, List, Option}
use Rattle.usuba0.specs.Circuit.{Circuit}
use Rattle.tornado_main.specs.Outcome.{Outcome, answers, refused, unread}
use Rattle.tornado_main.specs.Ending.{Stops}
use Rattle.tornado_main.specs.commands.Compile.{IsCompiled, masked, other_width}
use Rattle.tornado_main.specs.declared.refusal.Refusal.{Refusal}
use Rattle.tornado_main.specs.declared.refusal.Refusal.TheVariants as refusal
use Rattle.tornado_main.proofs.EndingLemmas.{IsOfWhatWasRead}

-- no refused fetch
abbrev IsOfContents : Outcome → Type 0
IsOfContents (answers text status) = Unit {0}
IsOfContents (refused status name fault) = Unit {0}
IsOfContents (unread name why) = ⊥

compiled_of_contents : (file : List ℕ) (word : Option ℕ) (core : Circuit) (end : Outcome) → IsCompiled file word core end → IsOfContents end
compiled_of_contents file word core _ (masked c_file is) = tt
compiled_of_contents file word core _ (other_width given other) = tt

-- a core that is not compiled is refused for its width, or memory is wanting
pub compile_refusal : (file : List ℕ) (word : Option ℕ) (core : Circuit) (e : Refusal) → Stops (IsCompiled file word core) e → IsOfWhatWasRead e
compile_refusal file word core (refusal.Faulty status name fault) stops = tt
compile_refusal file word core (refusal.Unread name why) stops = compiled_of_contents file word core (unread name.now why) stops
compile_refusal file word core refusal.Unwritten stops = stops
compile_refusal file word core refusal.Memory stops = tt
