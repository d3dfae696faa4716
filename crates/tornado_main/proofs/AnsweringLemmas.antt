-- The bytes of a file have a core within both limits, or a fault.
use Rattle.std.proofs.Common.{◌≡◌, ◌⊎◌, inl, inr, ℕ, List, replicate, Option, Result, Ok, Err, IfSome, refl}
use Rattle.std.proofs.lemmas.Bool.Decides.{leb_tells}
use Rattle.std.proofs.lemmas.List.{length-replicate}
use Rattle.std.proofs.lemmas.List.Elements.{All-replicate}
use Rattle.std.proofs.lemmas.Nat.{pow_pos}
use Rattle.usuba_trees.specs.declared.File.{File}
use Rattle.usuba_syntax.specs.Sources.{SpellsFile, HasFault}
use Rattle.usuba_syntax.specs.SourceFaults.{SourceFault}
use Rattle.usuba_syntax.specs.SourceFaults as read
use Rattle.usuba_model.specs.Judging.{IsJudged}
use Rattle.usuba_model.specs.JudgingLaws.{JudgedOrFaulty}
use Rattle.source_shapes.specs.Shaped.{IsWidth}
use Rattle.source_shapes.specs.ShapeLaws.{JudgedTakesAndGives}
use Rattle.usuba0.specs.Circuit.{Circuit, weight, columns}
use Rattle.usuba0.specs.Term.{bits_of_width}
use Rattle.usuba0.specs.declared.limit.TheConstants.{MAX_WEIGHT, MAX_COLUMNS}
use Rattle.source_terms.specs.SourceTerms.{inputs_of}
use Rattle.source_terms.specs.SourceLaws.{MeaningsAgree, IsWord}
use Rattle.core_text.specs.Reading.{core_of, IsCoreOrFault}
use Rattle.core_text.specs.declared.fault.CoreFault.{CoreFault}
use Rattle.core_text.specs.declared.fault.CoreFault.TheVariants as core_fault
use Rattle.tornado_words.specs.declared.order.Basis.TheVariants as basis
use Rattle.tornado_main.specs.CoreText.{IsCoreText, IsFaultyCoreText}
use Rattle.tornado_main.specs.CoreText as text
use Rattle.tornado_main.specs.Coverage.{CoreOrFault}
use Rattle.tornado_main.proofs.CoreTextLemmas.{ReadIsWritten, text_of_read}
use Rattle.tornado_main.specs.Source.{HasCore, IsSource, PassesLimit, IsFaultySource, syntax, too_deep, number_too_big, not_judged, past_limit, too_large, too_many}
use Rattle.tornado_main.specs.declared.message.Complaint.TheVariants as complaint
use Rattle.tornado_main.specs.declared.message.Spot.TheVariants as spot
use Rattle.tornado_main.specs.declared.message.Fault.{Fault}

-- the file that bytes spell, or their fault
abbrev pub FileOrFault : Type 0
FileOrFault = (bytes : List ℕ) → ((file : File) × SpellsFile bytes file) ⊎ ((fault : SourceFault) × HasFault bytes fault)

module _ (asked_width : Option ℕ) (asked_entry : Option (List ℕ)) where
  -- a core within both limits, or a fault
  abbrev pub Answers : List ℕ → Type 0
  Answers bytes = ((core : Circuit) × IsSource asked_width asked_entry core bytes) ⊎ ((fault : Fault) × IsFaultySource asked_width asked_entry fault bytes)

  unread : (bytes : List ℕ) (fault : SourceFault) → HasFault bytes fault → Answers bytes
  unread bytes (read.Syntax at) has = inr (record { at = spot.Place at; what = complaint.Syntax }, syntax bytes at has)
  unread bytes (read.TooDeep at) has = inr (record { at = spot.Place at; what = complaint.TooDeep }, too_deep bytes at has)
  unread bytes (read.NumberTooBig at) has = inr (record { at = spot.Place at; what = complaint.NumberTooBig }, number_too_big bytes at has)

  past : (bytes : List ℕ) (core : Circuit) (fault : Fault) → HasCore asked_width asked_entry core bytes → PassesLimit core fault → Answers bytes
  past bytes core fault has passes = inr (fault, past_limit bytes core fault has passes)

  -- a core is within both limits or passes one
  limited : (bytes : List ℕ) (core : Circuit) → HasCore asked_width asked_entry core bytes → Answers bytes
  limited bytes core has =
      elim (leb_tells (weight core) MAX_WEIGHT) [
        | inl small ↦ (elim (leb_tells (columns core) MAX_COLUMNS) [
          | inl few ↦ inl (core, record { has_core = has; small = small.1; few_columns = few.1 })
          | inr many ↦ past bytes core _ has (too_many small.1 many.1)
        ])
        | inr large ↦ past bytes core _ has (too_large large.1)
      ]

  module _ (takes_and_gives : JudgedTakesAndGives) (meanings_agree : MeaningsAgree) (is_width : IfSome asked_width IsWidth) where
    -- a judged file has a core
    judged_core : (bytes : List ℕ) (file : File) → SpellsFile bytes file → (width entry : ℕ) → IsJudged asked_width asked_entry file width entry
        → (core : Circuit) × HasCore asked_width asked_entry core bytes
    judged_core bytes file spelled width entry judged =
        let has = takes_and_gives bytes asked_width asked_entry file width entry spelled is_width judged in
        let n : ℕ = inputs_of file.defs entry in
        let agreed = meanings_agree asked_width asked_entry file width entry judged has.0.0 (replicate n 0)
        (record { each = length-replicate n 0; words = All-replicate (IsWord (bits_of_width width)) n 0 (pow_pos (bits_of_width width)) }) in (
          agreed.0,
          record {
            file = file;
            width = width;
            entry = entry;
            spelled = spelled;
            judged = judged;
            core_of_file = agreed.1;
          },
        )

    -- the bytes of a source have a core within both limits, or a fault
    pub source_answers : FileOrFault → JudgedOrFaulty → (bytes : List ℕ) → Answers bytes
    source_answers file_or_fault judged_or_faulty bytes =
        elim (file_or_fault bytes) [
          | inl spelled ↦ (elim (judged_or_faulty asked_width asked_entry spelled.0) [
            | inl wrong ↦ inr (
              record { at = spot.Place wrong.0.place; what = complaint.Judged wrong.0.kind },
              not_judged bytes spelled.0 wrong.0.kind wrong.0.place spelled.1 wrong.1,
            )
            | inr passed ↦ (
                let made = judged_core bytes spelled.0 spelled.1 passed.0 passed.1 passed.2 in
                limited bytes made.0 made.1)
          ])
          | inr wrong ↦ unread bytes wrong.0 wrong.1
        ]

module _ (core_or_fault : (bytes : List ℕ) → IsCoreOrFault (core_of bytes)) (read_is_written : ReadIsWritten) where
  -- core text by what its reader is to answer
  read_answers : (bytes : List ℕ) (read : Result Circuit CoreFault) → core_of bytes ≡ read → IsCoreOrFault read
      → ((core : Circuit) × IsCoreText core bytes) ⊎ ((fault : Fault) × IsFaultyCoreText fault bytes)
  read_answers bytes (Ok core) is known = inl (core, text_of_read read_is_written bytes core is)
  read_answers bytes (Err (core_fault.Syntax line)) is known = inr (record { at = spot.Line line; what = complaint.Syntax }, text.syntax bytes line is)
  read_answers bytes (Err (core_fault.OutOfRange line)) is known =
      inr (record { at = spot.Line line; what = complaint.OutOfRange }, text.out_of_range bytes line is)
  read_answers bytes (Err core_fault.Limit) is known = inr (record { at = spot.Whole; what = complaint.LimitPassed }, text.past_limit bytes is)
  read_answers bytes (Err (core_fault.Memory error)) is known = absurd known

  -- the bytes of core text are that of a core within both limits, or have a fault
  pub text_answers : (bytes : List ℕ) → ((core : Circuit) × IsCoreText core bytes) ⊎ ((fault : Fault) × IsFaultyCoreText fault bytes)
  text_answers bytes = read_answers bytes (core_of bytes) refl (core_or_fault bytes)

-- all bytes have a core or a fault, whatever they are read as
pub core_or_fault : FileOrFault → JudgedOrFaulty → JudgedTakesAndGives → MeaningsAgree → ((bytes : List ℕ) → IsCoreOrFault (core_of bytes)) → ReadIsWritten
    → CoreOrFault
core_or_fault file judged takes agree text written (basis.Source width entry) fit = source_answers width entry takes agree fit file judged
core_or_fault file judged takes agree text written basis.CoreText fit = text_answers text written
