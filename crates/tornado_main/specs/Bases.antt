-- What a file is read as: a source, or core text.
use Rattle.std.specs.Prelude.{ℕ, List}
use Rattle.usuba0.specs.Circuit.{Circuit}
use Rattle.tornado_words.specs.declared.order.Basis.{Basis}
use Rattle.tornado_words.specs.declared.order.Basis.TheVariants as basis
use Rattle.tornado_main.specs.CoreText.{IsCoreText, IsFaultyCoreText}
use Rattle.tornado_main.specs.Source.{IsSource, IsFaultySource}
use Rattle.tornado_main.specs.declared.message.Fault.{Fault}

-- the bytes have this core, and it is within both limits
abbrev pub Holds : Basis → Circuit → List ℕ → Type 0
Holds (basis.Source width entry) core bytes = IsSource width entry core bytes
Holds basis.CoreText core bytes = IsCoreText core bytes

-- the bytes have this fault first
abbrev pub IsFaulty : Basis → Fault → List ℕ → Type 0
IsFaulty (basis.Source width entry) fault bytes = IsFaultySource width entry fault bytes
IsFaulty basis.CoreText fault bytes = IsFaultyCoreText fault bytes
