-- The entry of a judged file can be run.
use Rattle.std.proofs.Common.{◌≡◌, ◌<◌, ◌≤◌, ℕ, List, length, map, Option, Some, refl, sym, ap, ◌∙◌, subst, arith}
use Rattle.std.specs.Prelude.{IsSome, slice_get}
use Rattle.std.proofs.lemmas.List.{length-map}
use Rattle.usuba_trees.specs.declared.Def.{Def}
use Rattle.usuba_trees.specs.declared.File.{File}
use Rattle.usuba_model.specs.Judging.{IsJudged}
use Rattle.usuba_model.specs.Walk.{signature, most_operations}
use Rattle.usuba_model.proofs.EntryOutcome.{entry_outcome}
use Rattle.usuba_code.specs.CodeLaw.{Each}
use Rattle.usuba_code.proofs.Running.{code_gives_value}
use Rattle.usuba_plan.specs.Fit.{inputs_of}
use Rattle.usuba_plan.specs.Plans.{IsPlanned}
use Rattle.usuba_plan.specs.Running.{CanRun}
use Rattle.usuba_plan.specs.Store.{Store}
use Rattle.usuba_plan.specs.declared.plans.Plan.{Plan}
use Rattle.usuba_plan.proofs.FilePlans.{plan_gives_outcome}
use Rattle.usuba_plan.proofs.Fitting.{plans_fit}
use Rattle.plan_bounds.specs.RunLaw.{EntryMakes}
use Rattle.plan_bounds.proofs.FileRooms.{plans_have_room}

-- the plan of the entry makes something: it gives what the entry makes, and that is there
pub entry_makes : {V : Type 0} → EntryMakes V
entry_makes {V = V} operators asked_width asked_entry file width entry judged some_width plans planned d at elements many =
    let made = entry_outcome operators asked_width asked_entry file width entry judged some_width d at elements many in
    let gives = plan_gives_outcome code_gives_value operators asked_width asked_entry file width entry judged some_width plans planned d at elements many in
    subst (λ (o : Option (List V)). IsSome o) (sym (gives ∙ made.1)) refl

-- the entry can be run in a store of the file's width that has room for as many elements as a program may have operations, on
-- inputs that are held and as many as it has
pub entry_can_run : {H V : Type 0} (store : Store H V) (asked_width : Option ℕ) (asked_entry : Option (List ℕ)) (file : File) (entry : ℕ)
    → IsJudged asked_width asked_entry file store.width entry → 0 < store.width
    → (plans : List Plan) → IsPlanned file.defs plans entry → (d : Def) → slice_get file.defs entry ≡ Some d
    → (inputs : List H) → Each store.holds inputs → length inputs ≡ (signature d).inputs → most_operations ≤ store.room
    → CanRun store file.defs plans entry inputs
entry_can_run store asked_width asked_entry file entry judged some_width plans planned d at inputs held len room =
    let few = plans_have_room asked_width asked_entry file store.width entry judged plans planned in record {
      fits = plans_fit asked_width asked_entry file store.width entry judged some_width plans planned;
      held = held;
      count = len ∙ sym (ap (λ (o : Option Def). inputs_of o) at);
      room = in_turn _ _ _ few room;
      makes = entry_makes store.operators asked_width asked_entry file store.width entry judged some_width plans planned d at
          (map store.meaning inputs) (length-map inputs store.meaning ∙ len);
    }
  where
    in_turn : (a b c : ℕ) → a ≤ b → b ≤ c → a ≤ c
    in_turn a b c p q = omega (arith, p, q)
