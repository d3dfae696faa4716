-- The entry of a program, run over words for its inputs, makes their plain meaning.
use Rattle.std.proofs.Common.{◌≡◌, ◌<◌, ◌≤◌, ◌^◌, ℕ, List, [], ◌∷◌, length, map, map-id, Some, sym, ap, ◌∙◌, subst, arith}
use Rattle.std.specs.Prelude.{All}
use Rattle.std.proofs.lemmas.List.Elements.{All-head, All-tail}
use Rattle.usuba_trees.specs.declared.Def.{Def}
use Rattle.usuba0.specs.Term.{bits_of_width}
use Rattle.usuba_model.specs.Meaning.{word_operators, plain_meaning}
use Rattle.usuba_code.specs.CodeLaw.{Each}
use Rattle.usuba_plan.specs.Made.{plan_outcome}
use Rattle.usuba_plan.specs.Plans.{IsPlanned}
use Rattle.usuba_plan.specs.Running.{CanRun}
use Rattle.usuba_plan.specs.Store.{Gives}
use Rattle.usuba_plan.specs.declared.plans.Plan.{Plan}
use Rattle.plan_bounds.proofs.Entries.{entry_can_run}
use Rattle.usuba_types.specs.Judged.{Program, IsProgram, inputs_at}
use Rattle.usuba_types.proofs.Entry.{entry_stands}
use Rattle.word_store.specs.WordStore.{word_store}
use Rattle.word_store.specs.MeaningLaw.{PlanGivesMeaning}

-- what holds of each of some words, in two ways to say it
each_of_all : (P : ℕ → Type 0) (xs : List ℕ) → All P xs → Each P xs
each_of_all P [] all = tt
each_of_all P (x ∷ xs) all = (All-head P x xs all, each_of_all P xs (All-tail P x xs all))

-- a width, an entry and definitions that were read off a program
pub record AreRead (program : Program) (width entry : ℕ) (defs : List Def) : Type 0 where
  pub width_is : width ≡ program.width
  pub entry_is : entry ≡ program.entry
  pub defs_is : defs ≡ program.file.defs

-- words for the inputs of a program's entry
pub record AreInputs (program : Program) (inputs : List ℕ) : Type 0 where
  pub count : length inputs ≡ inputs_at program.file.defs program.entry
  pub words : All (λ x. x < 2 ^ bits_of_width program.width) inputs

module _ (program : Program) (known : IsProgram program) (inputs : List ℕ) (are : AreInputs program inputs) where
  -- the width of a program is 1 to 64
  pub wide : (width : ℕ) → width ≡ program.width → (0 < width) × (width ≤ 64)
  wide width is = let ends = (entry_stands program known).0 in (omega (arith, is, ends.0), omega (arith, is, ends.1))

  can_run : (plans : List Plan) → IsPlanned program.file.defs plans program.entry
      → CanRun (word_store program.width) program.file.defs plans program.entry inputs
  can_run plans planned =
      let (ends, d, is) = entry_stands program known in
      entry_can_run (word_store program.width) known.asked_width known.asked_entry program.file program.entry known.judged ends.0 plans planned
      d is.stands inputs (each_of_all (λ x. x < 2 ^ bits_of_width program.width) inputs are.words) (are.count ∙ sym is.taken) (omega arith)

  means : PlanGivesMeaning → (plans : List Plan) → IsPlanned program.file.defs plans program.entry
      → plan_outcome (word_operators program.width (bits_of_width program.width)) program.file.defs plans program.entry inputs
      ≡ plain_meaning program.width (bits_of_width program.width) program.file program.entry inputs
  means law plans planned =
      let (ends, d, is) = entry_stands program known in
      law known.asked_width known.asked_entry program.file program.width program.entry known.judged ends.0 plans planned d is.stands
      (bits_of_width program.width) inputs (are.count ∙ sym is.taken)

  module _ (width entry : ℕ) (defs : List Def) (read : AreRead program width entry defs) (plans : List Plan)
      (planned : IsPlanned defs plans entry) where
    planned_as_read : IsPlanned program.file.defs plans program.entry
    planned_as_read =
        subst (λ (ds : List Def). IsPlanned ds plans program.entry) read.defs_is
        (subst (λ (e : ℕ). IsPlanned defs plans e) read.entry_is planned)

    -- the plan of the entry can be run over words
    pub can_run_as_read : CanRun (word_store width) defs plans entry inputs
    can_run_as_read =
        subst (λ (w : ℕ). CanRun (word_store w) defs plans entry inputs) (sym read.width_is)
        (subst (λ (e : ℕ). CanRun (word_store program.width) defs plans e inputs) (sym read.entry_is)
        (subst (λ (ds : List Def). CanRun (word_store program.width) ds plans program.entry inputs) (sym read.defs_is) (can_run plans planned_as_read)))

    -- and what it makes is the plain meaning
    pub meaning_as_read : (w : ℕ) → PlanGivesMeaning → (outputs : List ℕ)
        → Gives (word_store w) outputs (plan_outcome (word_operators width (bits_of_width width)) defs plans entry (map (λ word. word) inputs))
        → plain_meaning program.width (bits_of_width program.width) program.file program.entry inputs ≡ Some outputs
    meaning_as_read w law outputs gives =
        sym
        (ap (λ (v : ℕ). plan_outcome (word_operators v (bits_of_width v)) defs plans entry inputs) read.width_is
        ∙ ap (λ (e : ℕ). plan_outcome (word_operators program.width (bits_of_width program.width)) defs plans e inputs) read.entry_is
        ∙ ap (λ (ds : List Def). plan_outcome (word_operators program.width (bits_of_width program.width)) ds plans program.entry inputs) read.defs_is
        ∙ means law plans planned_as_read)
        ∙ ap (λ (xs : List ℕ). plan_outcome (word_operators width (bits_of_width width)) defs plans entry xs) (sym (map-id inputs))
        ∙ gives.means
        ∙ ap (λ (xs : List ℕ). Some xs) (map-id outputs)
