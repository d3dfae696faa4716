-- The headline. For every accepted file `check` prints an attack exactly where its core has one, and what it prints
-- is one. `compile` prints C that masks, statement by statement, that core with refreshes after which no attack
-- remains, and whose output shares exclusive-or to the source's outputs for every share count, sharing and random
-- words.
use Rattle.std.specs.Prelude.{◌≡◌, ◌≢◌, ℕ, ◌<◌, ◌≤◌, Bool, List, length, map, All, Option, None, Some, codes}
use Rattle.tor_edge.specs.Written.{appended}
use Rattle.tor_edge.specs.declared.files.TheConstants.{MAX_FILE_BYTES}
use Rattle.span_model.specs.Attack.{HasAttack}
use Rattle.attack_model.specs.declared.attack.Attack.{Attack}
use Rattle.attack_text.specs.AttackText.{attack_text}
use Rattle.linear_view.specs.Rows.{core_products, core_view}
use Rattle.c_tree.specs.declared.CFile.{CFile}
use Rattle.c_text.specs.CText.{c_text}
use Rattle.c_print.specs.WordSize.{bits_of_c, FitsWord}
use Rattle.core_refresh.specs.RefreshedCore.{refreshed_core}
use Rattle.masked_meaning.specs.Lanes.{lane}
use Rattle.masked_meaning.specs.MaskedCode.{AnswersSharings}
use Rattle.share_gadgets.specs.MaskedRun.{words_drawn}
use Rattle.share_gadgets.specs.Sharing.{sharing_value, IsSharing}
use Rattle.usuba_model.specs.Meaning.{plain_meaning}
use Rattle.usuba0.specs.Circuit.{Circuit}
use Rattle.usuba0.specs.PlainRun.{plain_run}
use Rattle.usuba0.specs.Term.{bits_of_width}
use Rattle.tornado_words.specs.declared.order.Basis.{Basis}
use Rattle.tornado_words.specs.declared.order.Basis.TheVariants as basis
use Rattle.tornado_words.specs.declared.order.Order.TheVariants as order
use Rattle.tornado_main.specs.Bases.{Holds}
use Rattle.tornado_main.specs.Files.{Contents}
use Rattle.tornado_main.specs.Source.{HasCore}
use Rattle.tornado_main.specs.Words.{order_of}
use Rattle.tornado_main.specs.commands.Check.{IsAttackOfLeak}
use Rattle.tornado_main.specs.commands.Compile.{IsMaskedC}
use Rattle.tornado_main.specs.declared.status.Status.{Status}
use Rattle.tornado_main.specs.declared.status.Status.TheVariants.{Done, Found, Usage, Source, Unread, Unwritten, Memory}
use Rattle.tornado_main.specs.declared.status.Status.TheVariants.{Values}

-- An accepted file: its contents are told, and are not too long; as a source they are spelled without a fault,
-- judged, and have this core inside the limits, and as core text they are this core's, which is inside the limits.
pub record IsAccepted (contents : Contents) (name : List ℕ) (read_as : Basis) (core : Circuit)
    (bytes : List ℕ) : Type 0 where
  pub files : List ℕ → Option (List ℕ)
  pub told : contents ≡ Some files
  pub held : files name ≡ Some bytes
  pub within : length bytes ≤ MAX_FILE_BYTES
  pub holds : Holds read_as core bytes

-- the run ended with an answer, or a file could not be read, the output failed, or memory was wanting
abbrev pub IsNoRefusal : Status → Type 0
IsNoRefusal Done = Unit {0}
IsNoRefusal Found = Unit {0}
IsNoRefusal Usage = ⊥
IsNoRefusal Source = ⊥
IsNoRefusal Unread = Unit {0}
IsNoRefusal Unwritten = Unit {0}
IsNoRefusal Memory = Unit {0}
IsNoRefusal Values = ⊥

-- what `check` prints: with the status 1 an attack, and then the core has one; with 0 that it is secure, and then it
-- has none
pub record ChecksExactly (core : Circuit) (before now : Option (List ℕ)) (status : Status) : Type 0 where
  pub answered : IsNoRefusal status
  pub found : status ≡ Found → HasAttack (core_products core)
      × (attack : Attack) × IsAttackOfLeak core attack × (now ≡ appended before (attack_text (core_view core) attack))
  pub secure : status ≡ Done → (¬ HasAttack (core_products core)) × (now ≡ appended before (codes "secure\n"))

-- sharings of the core's inputs on d shares of B bits, d above 0, and random words that are enough for the refreshed
-- core
pub record IsSharedInput (core : Circuit) (set : ℕ → Bool) (B d : ℕ) (inputs : List (List ℕ))
    (words : List ℕ) : Type 0 where
  pub some : 0 < d
  pub count : length inputs ≡ core.inputs
  pub shared : All (IsSharing B d) inputs
  pub enough : words_drawn d (refreshed_core core set) ≤ length words

-- the values of given outputs at values of the inputs
abbrev pub Gives : Type 1
Gives = (inputs values : List ℕ) → Type 0

-- at each input the C answers sharings, and their values are what is given
abbrev pub AnswersValues : Circuit → (ℕ → Bool) → ℕ → CFile → Gives → Type 0
AnswersValues core set B c_file values_are =
    (d : ℕ) (inputs : List (List ℕ)) (words : List ℕ) → IsSharedInput core set B d inputs words
    → (values : List ℕ) × values_are (map sharing_value inputs) values × AnswersSharings B d c_file inputs words values

-- the outputs of a source: its plain meaning; where words of another size were asked for, lane by lane, each bit of
-- the outputs is bit 0 of the plain meaning at that bit of the inputs
abbrev pub source_gives : {asked_width : Option ℕ} {asked_entry : Option (List ℕ)} {core : Circuit} {bytes : List ℕ}
    → Option ℕ → HasCore asked_width asked_entry core bytes → Gives
source_gives None source inputs values =
    plain_meaning source.width (bits_of_width source.width) source.file source.entry inputs ≡ Some values
source_gives (Some word) source inputs values = (position : ℕ) → position < word → (outputs : List ℕ)
    × (plain_meaning 1 32 source.file source.entry (lane position inputs) ≡ Some outputs)
    × (lane position values ≡ lane 0 outputs)

-- the outputs of a core that was read: its plain run; where words of another size were asked for, lane by lane, each
-- bit of the outputs is bit 0 of the plain run at that bit of the inputs
abbrev pub core_gives : Option ℕ → Circuit → Gives
core_gives None core inputs values = values ≡ plain_run (bits_of_width core.width) core inputs
core_gives (Some word) core inputs values = (position : ℕ) → position < word
    → lane position values ≡ lane 0 (plain_run 32 core (lane position inputs))

-- the C computes what the file means: the source's outputs, or those of the core that was read
abbrev pub Computes : Basis → (bytes : List ℕ) → Option ℕ → Circuit → (ℕ → Bool) → CFile → Type 0
Computes (basis.Source width entry) bytes word core set c_file =
    (source : HasCore width entry core bytes)
    → AnswersValues core set (bits_of_c word core.width) c_file (source_gives word source)
Computes basis.CoreText bytes word core set c_file =
    AnswersValues core set (bits_of_c word core.width) c_file (core_gives word core)

-- what `compile` prints: the text of C that is the masked form of the core with the refreshes of a repair set, and
-- that computes what the file means
pub record CompilesExactly (read_as : Basis) (bytes : List ℕ) (word : Option ℕ) (core : Circuit)
    (before now : Option (List ℕ)) : Type 0 where
  pub c_file : CFile
  pub masks : IsMaskedC core word c_file
  pub printed : now ≡ appended before (c_text c_file)
  pub computes : Computes read_as bytes word core masks.set c_file

-- the headline, of a run on these words, over the files' contents, the bytes written and the status
pub record Headline (contents : Contents) (words : List (List ℕ)) (before now : Option (List ℕ))
    (status : Status) : Type 0 where
  pub check : (name : List ℕ) (read_as : Basis) (core : Circuit) (bytes : List ℕ)
      → order_of words ≡ Some (order.Check name read_as) → IsAccepted contents name read_as core bytes
      → ChecksExactly core before now status
  pub compile : (name : List ℕ) (word : Option ℕ) (read_as : Basis) (core : Circuit) (bytes : List ℕ)
      → order_of words ≡ Some (order.Compile name word read_as) → IsAccepted contents name read_as core bytes
      → status ≡ Done → CompilesExactly read_as bytes word core before now
  -- a word size may be asked for at width 1 alone
  pub compile_answered : (name : List ℕ) (word : Option ℕ) (read_as : Basis) (core : Circuit) (bytes : List ℕ)
      → order_of words ≡ Some (order.Compile name word read_as) → IsAccepted contents name read_as core bytes
      → FitsWord word core → IsNoRefusal status × (status ≢ Found)
