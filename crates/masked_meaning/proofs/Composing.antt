-- The laws of masked code, from the laws below.
use Rattle.std.proofs.Common.{◌≡◌, ℕ, ◌<◌, ◌^◌, List, [], map, get_or, length, All, Option, None, Some, sym, ap, ◌∙◌, arith, subst}
use Rattle.std.specs.Int.{bit_at}
use Rattle.std.specs.Option.{option_map}
use Rattle.std.proofs.lemmas.List.{length-map, get_or-map}
use Rattle.core_refresh.specs.RefreshedCore.{refreshed_core}
use Rattle.core_refresh.specs.RefreshedLaws.{RunsTheSame, RefreshedCoreSize}
use Rattle.masked_machine.specs.MachineLaw.{MachineGivesMaskedRun}
use Rattle.share_gadgets.specs.MaskedRun.{masked_run}
use Rattle.share_gadgets.specs.RunLaw.{IsMaskedInput, ValuesOfMaskedRun, OutputsAreSharings}
use Rattle.share_gadgets.specs.Sharing.{sharing_value, IsSharing}
use Rattle.share_gadgets.proofs.Shared.{value_below}
use Rattle.source_terms.specs.SourceLaws.{IsWord, MeaningsAgree}
use Rattle.source_terms.specs.SourceTerms.{core_of_source, source_terms, inputs_of}
use Rattle.usuba_trees.specs.declared.File.{File}
use Rattle.usuba0.specs.Circuit.{Circuit}
use Rattle.usuba0.specs.CoreOfTerms.{core_of_terms}
use Rattle.usuba0.specs.PlainRun.{plain_run}
use Rattle.usuba0.specs.Term.{Term, bits_of_width}
use Rattle.masked_meaning.specs.MaskedCode.{MaskedCodeComputesTheCore, MaskedCodeComputesTheSource}
use Rattle.masked_meaning.specs.Lanes.{lane, LanesAreRuns, MaskedLanesComputeTheSource}

-- over cores
pub computes_the_core : RunsTheSame → RefreshedCoreSize → MachineGivesMaskedRun → ValuesOfMaskedRun → OutputsAreSharings
    → MaskedCodeComputesTheCore
computes_the_core same_run size machine values_of shared_by core set B d file inputs words it =
    let refreshed = refreshed_core core set in
    let input : IsMaskedInput B d refreshed inputs = record {
      is_core = size.core core set it.is_core;
      bits = it.bits;
      some = it.some;
      count = it.count;
      shared = it.shared;
    } in
    record {
      shares = masked_run B d refreshed inputs words;
      answer = machine refreshed B d file inputs words it.form input it.enough;
      shared = shared_by B d refreshed inputs words input;
      values = values_of B d refreshed inputs words input
          ∙ same_run core set B (map sharing_value inputs) it.is_core (length-map inputs sharing_value ∙ it.count);
    }

-- the core of a source has the source's width and inputs
shape_of : (width : ℕ) (n : ℕ) (terms : Option (List Term)) (core : Circuit)
    → option_map (core_of_terms width n) terms ≡ Some core → (core.width ≡ width) × (core.inputs ≡ n)
shape_of width n None core is = absurd (cc is)
shape_of width n (Some terms) core is =
    let same : core_of_terms width n terms ≡ core = cc is in
    (ap (λ (c : Circuit). c.width) (sym same), ap (λ (c : Circuit). c.inputs) (sym same))

pub source_shape : (width : ℕ) (source : File) (entry : ℕ) (core : Circuit) → core_of_source width source entry ≡ Some core
    → (core.width ≡ width) × (core.inputs ≡ inputs_of source.defs entry)
source_shape width source entry core is = shape_of width (inputs_of source.defs entry) (source_terms width source entry) core is

one_core : (a b : Circuit) (option : Option Circuit) → option ≡ Some a → option ≡ Some b → a ≡ b
one_core a b option p q = cc (p, q)

-- the values of sharings are words
values_below : (B d : ℕ) (inputs : List (List ℕ)) → All (IsSharing B d) inputs → All (IsWord B) (map sharing_value inputs)
values_below B d inputs shared k e h =
    let within : k < length inputs = omega (arith, length-map inputs sharing_value, h) in
    subst (λ x. x < 2 ^ B) (sym (get_or-map sharing_value inputs k [] e within)) (value_below B (get_or inputs k []) (shared k [] within).words)

-- over sources
pub computes_the_source : MaskedCodeComputesTheCore → MeaningsAgree → MaskedCodeComputesTheSource
computes_the_source over_cores agree asked_width asked_entry source width entry judged core is set d file inputs words it =
    let B = bits_of_width width in
    let shape = source_shape width source entry core is in
    let values = map sharing_value inputs in
    let meant = agree asked_width asked_entry source width entry judged (omega (arith, it.is_core.some_width, shape.0)) values
    (record { each = length-map inputs sharing_value ∙ it.count ∙ shape.1; words = values_below B d inputs it.shared }) in
    let same : meant.0 ≡ core = one_core meant.0 core (core_of_source width source entry) meant.1 is in (
      plain_run B core values,
      meant.2 ∙ ap (λ c. Some (plain_run B c values)) same,
      over_cores core set B d file inputs words it,
    )

-- a lane's words are bits
lane_words : (position : ℕ) (words : List ℕ) → All (IsWord 32) (lane position words)
lane_words position words k e h =
    let within : k < length words = omega (arith, length-map words (λ word. bit_at word position), h) in
    subst (λ x. x < 2 ^ 32) (sym (get_or-map (λ word. bit_at word position) words k 0 e within)) (bit_small (get_or words k 0))
  where
    bit_small : (word : ℕ) → bit_at word position < 2 ^ 32
    bit_small word = omega arith

-- over the lanes of sources of width 1
pub lanes_compute_the_source : MaskedCodeComputesTheCore → LanesAreRuns → MeaningsAgree → MaskedLanesComputeTheSource
lanes_compute_the_source over_cores lanes agree asked_width asked_entry source entry judged core is set B d file inputs words it =
    let shape = source_shape 1 source entry core is in
    let values = map sharing_value inputs in (
      plain_run B core values,
      over_cores core set B d file inputs words it,
      λ position within.
          let meant = agree asked_width asked_entry source 1 entry judged (omega arith) (lane position values)
          (record {
            each = length-map values (λ word. bit_at word position) ∙ length-map inputs sharing_value ∙ it.count ∙ shape.1;
            words = lane_words position values;
          }) in
          let same : meant.0 ≡ core = one_core meant.0 core (core_of_source 1 source entry) meant.1 is in (
            plain_run 32 core (lane position values),
            meant.2 ∙ ap (λ c. Some (plain_run 32 c (lane position values))) same,
            lanes core B position values it.is_core shape.0 within (length-map inputs sharing_value ∙ it.count),
          ),
    )
