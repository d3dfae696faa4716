use Rattle.std.proofs.Common.{◌≡◌, ◌<◌, ◌≤◌, ◌+◌, ◌∷◌, ◌++◌, List, [], ℕ, Bool, Vec, Global, length, get_or, take, Option, Some, None, ◌⊎◌, inl, inr, refl, subst, sym, ap, ◌∙◌}
use Rattle.std.specs.Bool.{MatchBool}
use Rattle.std.proofs.lemmas.List.{take_all, get_or_default}
use Rattle.span_model.specs.Columns.{Columns, set_of, ◌△◌}
use Rattle.span_model.specs.Span.{InSpan}
use Rattle.span_model.specs.Closure.{Step, operand}
use Rattle.span_model.proofs.Sets.{△_cancel, △_cancel_right}
use Rattle.span_model.proofs.Members.{empty_in, in_as, in_sum, in_front}
use Rattle.gf2_span.specs.Basis.{row_sets}
use Rattle.linear_view.specs.View.{products_of}
use Rattle.linear_view.specs.declared.operand.Side.TheVariants.{Left}
use Rattle.linear_view.specs.Sides.{step_of}
use Rattle.attack_cert.specs.Levels.{AreThose, none}
use Rattle.attack_cert.specs.Levelled.{operand_steps, IsSpanned, AreTold}
use Rattle.linear_view.specs.declared.operand.Operand.{Operand}
use Rattle.attack_cert.proofs.Levelling.{those_more, others_more}
use Rattle.attack_cert.proofs.Leads.{none_told}
use Rattle.attack_cert.proofs.Sums.{some_unless}
use Rattle.attack_cert.proofs.levels.next_level.Goals as goal
use Rattle.attack_cert.proofs.levels.next_level.Goals.{then-spans+in_ok-push, else-spans+in_ok-push-2}

leak_of_left : (rows known : List (Columns ℕ)) (leak left : Columns ℕ) → InSpan known (leak △ left) → InSpan (rows ++ known) left → InSpan (rows ++ known) leak
leak_of_left rows known leak left same h =
    in_as (rows ++ known) (△_cancel_right leak left) (in_sum (rows ++ known) (leak △ left) left (in_front rows known (leak △ left) same) h)

left_of_leak : (rows known : List (Columns ℕ)) (leak left : Columns ℕ) → InSpan known (leak △ left) → InSpan (rows ++ known) leak → InSpan (rows ++ known) left
left_of_leak rows known leak left same h =
    in_as (rows ++ known) (△_cancel leak left) (in_sum (rows ++ known) leak (leak △ left) h (in_front rows known (leak △ left) same))

-- what is left of a leak that is no member is none
outside_left : (known : List (Columns ℕ)) (leak left : Columns ℕ) → ¬ InSpan known leak → InSpan known (leak △ left) → ¬ InSpan known left
outside_left known leak left outside same inside = outside (in_as known (△_cancel_right leak left) (in_sum known (leak △ left) left same inside))

none_or_some : (y : Option Bool) → (y ≡ None) ⊎ ((b : Bool) × (y ≡ Some b))
none_or_some None = inl refl
none_or_some (Some b) = inr (b, refl)

pub unwrap-lead-requires : goal.unwrap-lead-requires
unwrap-lead-requires c = some_unless c.last.result _ _ c.last.ensures
    (λ none. outside_left (row_sets c.args.span.now) (set_of c.args.leak.now) (set_of c.in_ok-left.left) c.requires.outside c.in_ok-left.ensures.same
    (in_as (row_sets c.args.span.now) (sym none) (empty_in (row_sets c.args.span.now))))

pub gives_left_alike-requires-clause-outside : goal.gives_left_alike-requires-clause-outside
gives_left_alike-requires-clause-outside c inside =
    outside_left (row_sets c.args.span.now) (set_of c.args.leak.now) (set_of c.in_ok-left.left) c.requires.outside c.in_ok-left.ensures.same
    (in_as (row_sets c.args.span.now) c.loop-operand.invariant.left inside)

pub loop-operand-init : goal.loop-operand-init
loop-operand-init c =
    let P : Step → Type 0 = IsSpanned (products_of c.args.view.now) (set_of c.args.leak.now) (row_sets c.args.span.now) in
    record {
      spanned = subst (λ (r : List Operand). AreThose P [] (operand_steps r)) (sym c.new-level.ensures.items) none;
      others = subst (λ (r : List Operand). AreThose (λ step. ¬ P step) [] (operand_steps r)) (sym c.in_ok-rest.ensures.items) none;
      columns = c.in_ok-left.ensures.columns ∙ c.requires.leak ∙ sym c.requires.span;
      left = refl;
      scratch = ap length c.in_ok-scratch.ensures ∙ c.in_ok-left.ensures.columns ∙ c.requires.leak ∙ sym c.requires.span;
      told =
          none_told (products_of c.args.view.now) (set_of c.in_ok-left.left) (row_sets c.args.span.now) c.in_ok-told.told.items _
          (c.in_ok-told.ensures.items_if_clones_equal (λ y h. elim (none_or_some y) [ inl e ↦ e | inr e ↦ absurd (rw e.1 at h) ]));
    }

pub loop-operand-preserved : goal.loop-operand-preserved
loop-operand-preserved c =
    let P : Step → Type 0 = IsSpanned (products_of c.args.view.now) (set_of c.args.leak.now) (row_sets c.args.span.now) in
    let N : Step → Type 0 = λ step. ¬ P step in
    let blank : Operand = record { product = 0; side = Left } in
    let i = c.loop-operand.operand-index in
    let t : Operand = get_or c.args.pending.now i blank in
    let within : i < length c.args.pending.now = c.loop-operand-test.true in
    let is : t ≡ get_or c.args.pending.now i t = get_or_default c.args.pending.now i blank t within in
    let near = operand (products_of c.args.view.now) (step_of t) in
    let known = row_sets c.args.span.now in
    let A : Type 0 = InSpan (near ++ known) (set_of c.args.leak.now) in
    let B : Type 0 = InSpan (near ++ known) (set_of c.in_ok-left.left) in
    let answer : MatchBool c.in_ok-spans.spans B (¬ B) =
    subst (λ (v : Columns ℕ). MatchBool c.in_ok-spans.spans (InSpan (near ++ known) v) (¬ InSpan (near ++ known) v)) c.loop-operand.invariant.left c.in_ok-spans.ensures.answer in
    let same : InSpan known (set_of c.args.leak.now △ set_of c.in_ok-left.left) = c.in_ok-left.ensures.same in
    let level = c.loop-operand.level.items in
    let rest = c.loop-operand.rest.items in
    let upto : List Operand = take (i + 1) c.args.pending.now in
    let told : AreTold (products_of c.args.view.now) (set_of c.gives_left_alike.new.left) known c.gives_left_alike.new.told.items =
    subst (λ (v : Columns ℕ). AreTold (products_of c.args.view.now) v known c.gives_left_alike.new.told.items)
    (sym c.in_ok-spans.ensures.left) c.in_ok-spans.ensures.told in
    elim c.if-spans.branch [
      | then-spans+in_ok-push w ↦
          let yes : A = leak_of_left near known (set_of c.args.leak.now) (set_of c.in_ok-left.left) same (subst (λ (b : Bool). MatchBool b B (¬ B)) w.if-spans.true answer) in
          let p : P (step_of t) = yes in
          let level_is : c.if-spans.level.items ≡ level ++ t ∷ [] = ap (λ (v : Vec Operand Global). v.items) w.level-is ∙ w.in_ok-push.ensures.items in
          let rest_is : c.if-spans.rest.items ≡ rest = ap (λ (v : Vec Operand Global). v.items) w.rest-is in
          record {
            columns = c.in_ok-spans.ensures.columns ∙ c.loop-operand.invariant.columns;
            left = c.in_ok-spans.ensures.left ∙ c.loop-operand.invariant.left;
            scratch = c.in_ok-spans.ensures.scratch ∙ c.loop-operand.invariant.scratch;
            told = told;
            spanned = subst (λ (r : List Operand). AreThose P (operand_steps upto) (operand_steps r)) (sym level_is)
                (those_more P c.args.pending.now level i t within is c.loop-operand.invariant.spanned p);
            others = subst (λ (r : List Operand). AreThose N (operand_steps upto) (operand_steps r)) (sym rest_is)
                (others_more N c.args.pending.now rest i t within is c.loop-operand.invariant.others (λ n. n p));
          }
      | else-spans+in_ok-push-2 w ↦
          let none_left : ¬ B = subst (λ (b : Bool). MatchBool b B (¬ B)) w.if-spans.false answer in
          let no : ¬ A = λ a. none_left (left_of_leak near known (set_of c.args.leak.now) (set_of c.in_ok-left.left) same a) in
          let n : N (step_of t) = no in
          let level_is : c.if-spans.level.items ≡ level = ap (λ (v : Vec Operand Global). v.items) w.level-is in
          let rest_is : c.if-spans.rest.items ≡ rest ++ t ∷ [] = ap (λ (v : Vec Operand Global). v.items) w.rest-is ∙ w.in_ok-push-2.ensures.items in
          record {
            columns = c.in_ok-spans.ensures.columns ∙ c.loop-operand.invariant.columns;
            left = c.in_ok-spans.ensures.left ∙ c.loop-operand.invariant.left;
            scratch = c.in_ok-spans.ensures.scratch ∙ c.loop-operand.invariant.scratch;
            told = told;
            spanned = subst (λ (r : List Operand). AreThose P (operand_steps upto) (operand_steps r)) (sym level_is)
                (others_more P c.args.pending.now level i t within is c.loop-operand.invariant.spanned n);
            others = subst (λ (r : List Operand). AreThose N (operand_steps upto) (operand_steps r)) (sym rest_is)
                (those_more N c.args.pending.now rest i t within is c.loop-operand.invariant.others n);
          }
    ]

pub returns : goal.returns
returns c =
    let P : Step → Type 0 = IsSpanned (products_of c.args.view.now) (set_of c.args.leak.now) (row_sets c.args.span.now) in
    let past : length c.args.pending.now ≤ c.loop-operand.operand-index = c.loop-operand-test.false in
    let all : take c.loop-operand.operand-index c.args.pending.now ≡ c.args.pending.now = take_all c.loop-operand.operand-index c.args.pending.now past in
    record {
      spanned = subst (λ (r : List Operand). AreThose P (operand_steps r) (operand_steps c.loop-operand.level.items)) all c.loop-operand.invariant.spanned;
      others = subst (λ (r : List Operand). AreThose (λ step. ¬ P step) (operand_steps r) (operand_steps c.loop-operand.rest.items)) all c.loop-operand.invariant.others;
    }
