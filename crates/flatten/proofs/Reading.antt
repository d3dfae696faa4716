-- What holds of the numbers, definitions and plans that are read off a program, as it holds of the program.
use Rattle.std.proofs.Common.{◌≡◌, ◌<◌, ◌≤◌, ℕ, List, sym, ap, ◌∙◌, subst, arith}
use Rattle.usuba_trees.specs.declared.Def.{Def}
use Rattle.usuba_trees.specs.declared.File.{File}
use Rattle.usuba_types.specs.Judged.{Program, IsProgram, inputs_at}
use Rattle.usuba_types.proofs.Entry.{entry_stands}
use Rattle.usuba_plan.specs.Plans.{IsPlanned}
use Rattle.usuba_plan.specs.declared.plans.Plan.{Plan}
use Rattle.plan_bounds.specs.RoomLaw.{PlansHaveRoom}
use Rattle.source_terms.specs.SourceTerms.{core_of_source}
use Rattle.term_store.specs.CoreLaw.{PlanCoreIsTheSources}
use Rattle.term_store.specs.PlanCore.{plan_core, CanMakeCore}
use Rattle.flatten.proofs.Making.{can_make_core}
use Rattle.flatten.proofs.Sources.{core_is_the_sources}

-- they are those of the program, and the plans are planned for it
pub record AreRead (program : Program) (width entry n : ℕ) (defs : List Def) (plans : List Plan) : Type 0 where
  pub known : IsProgram program
  pub width_is : width ≡ program.width
  pub entry_is : entry ≡ program.entry
  pub defs_is : defs ≡ program.file.defs
  pub n_is : n ≡ inputs_at program.file.defs program.entry
  pub planned : IsPlanned program.file.defs plans program.entry

-- as they are read, one after another
pub are_read : {program : Program} {width entry n : ℕ} {file : File} {defs : List Def} {made plans : List Plan}
    → IsProgram program → width ≡ program.width → entry ≡ program.entry → file ≡ program.file → defs ≡ file.defs
    → n ≡ inputs_at program.file.defs program.entry → plans ≡ made → IsPlanned file.defs made entry
    → AreRead program width entry n defs plans
are_read {program = program} {entry = entry} {made = made} known width_is entry_is file_is defs_is n_is plans_is plan =
    let in_file : IsPlanned program.file.defs made entry =
    subst (λ (f : File). IsPlanned f.defs made entry) file_is plan in
    let at_entry : IsPlanned program.file.defs made program.entry =
    subst (λ (e : ℕ). IsPlanned program.file.defs made e) entry_is in_file in record {
      known = known;
      width_is = width_is;
      entry_is = entry_is;
      defs_is = defs_is ∙ ap (λ (f : File). f.defs) file_is;
      n_is = n_is;
      planned = subst (λ (ps : List Plan). IsPlanned program.file.defs ps program.entry) (sym plans_is) at_entry;
    }

module _ {program : Program} {width entry n : ℕ} {defs : List Def} {plans : List Plan}
    (read : AreRead program width entry n defs plans) where
  -- the width is 1 to 64
  pub wide : (0 < width) × (width ≤ 64)
  wide = let known = (entry_stands program read.known).0 in rw read.width_is (known.0, known.1)

  -- there is an input
  pub some_input : 0 < n
  some_input = let (known, d, is) = entry_stands program read.known in omega (arith, read.n_is, is.taken, is.takes)

  -- the core can be made
  pub can_make : PlansHaveRoom → CanMakeCore width defs plans entry n
  can_make have_room =
      rw (read.width_is, read.entry_is, read.defs_is, read.n_is)
      (can_make_core have_room program read.known plans read.planned)

  -- it is that of the source
  pub sources_core : PlanCoreIsTheSources
      → plan_core width defs plans entry n ≡ core_of_source program.width program.file program.entry
  sources_core law =
      rw (read.width_is, read.entry_is, read.defs_is, read.n_is)
      (core_is_the_sources law program read.known plans read.planned)
