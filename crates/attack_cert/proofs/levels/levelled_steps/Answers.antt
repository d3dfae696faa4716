use Rattle.std.proofs.Common.{◌≡◌, ◌≢◌, ◌<◌, ◌+◌, ◌∷◌, ◌++◌, ℕ, List, [], false, length, map, subst, sym, ap, ◌∙◌, arith, All, eqb-true, eq-eqb, true≢false}
use Rattle.std.specs.List.{Contains}
use Rattle.std.proofs.lemmas.List.{length-map, length-replicate}
use Rattle.span_model.specs.Columns.{Columns, set_of}
use Rattle.span_model.specs.Span.{SameSpan}
use Rattle.span_model.specs.Closure.{Step, co_operands}
use Rattle.gf2_span.specs.Basis.{Basis, row_sets}
use Rattle.linear_view.specs.View.{products_of, product_of}
use Rattle.linear_view.specs.Sides.{step_of}
use Rattle.attack_cert.specs.Levels.{AreThose, listed, steps_of, HasNextLevel}
use Rattle.attack_cert.specs.Levelled.{operand_steps, IsSpanned, IsSplit}
use Rattle.linear_view.specs.declared.operand.Operand.{Operand}
use Rattle.attack_cert.specs.declared.levels.Levelled.{Levelled}
use Rattle.attack_cert.proofs.Those.{split_length}
use Rattle.attack_cert.proofs.Levelling.{Levelling, levelling_begins, levelling_goes_on, levelling_ends, levelling_is_stuck, operands_below, next_level}
use Rattle.attack_cert.proofs.levels.levelled_steps.Goals as goal

pub levels-init : goal.levels-init
levels-init c =
    let products = products_of c.args.view.now in
    let leak = set_of c.args.leak.now in
    let pending = c.in_ok-pending.pending.items in
    let all : operand_steps pending ≡ steps_of (length products) = c.in_ok-pending.ensures ∙ ap steps_of (sym (length-map c.args.view.now.products product_of)) in
    let rows : row_sets c.in_ok-span.span ≡ [] = ap row_sets c.in_ok-span.ensures in
    record {
      columns = ap (λ (b : Basis). b.columns) c.in_ok-span.ensures ∙ c.columns.ensures.value;
      scratch = ap length c.in_ok-scratch.ensures ∙ length-replicate c.columns-2.result false ∙ c.columns-2.ensures.value;
      levelling = (
        [],
        subst (λ (r : List (Columns ℕ)). Levelling products leak [] c.new-steps.result.items pending r) (sym rows)
            (subst (λ (s : List Levelled). Levelling products leak [] s pending []) (sym c.new-steps.ensures.items) (levelling_begins products leak pending all)),
      );
    }

pub returns-then-contains-clause-few : goal.returns-then-contains-clause-few
returns-then-contains-clause-few c =
    let found = c.levels.invariant.levelling in
    let count = found.1.count in
    let fit = c.columns.ensures.view.products_fit in
    let many = length-map c.args.view.now.products product_of in
    omega arith

pub returns-then-contains-clause-found : goal.returns-then-contains-clause-found
returns-then-contains-clause-found c =
    let found = c.levels.invariant.levelling in
    levelling_ends (products_of c.args.view.now) (set_of c.args.leak.now) found.0 c.levels.steps.items c.levels.pending.items (row_sets c.levels.span)
    found.1 c.requires.nonempty c.if-contains.ensures.answer

-- the operands of steps of products
below : (P : Step → Type 0) (m n : ℕ) (items operands : List Operand) → m ≡ n → operands ≡ items → AreThose P (steps_of m) (operand_steps items) → All (λ t. t.product < n) operands
below P m n items operands e same those =
    subst (λ (k : ℕ). All (λ t. t.product < k) operands) e
    (subst (λ (ts : List Operand). All (λ t. t.product < m) ts) (sym same) (operands_below P m items those))

pub next_level-requires-clause-products : goal.next_level-requires-clause-products
next_level-requires-clause-products c =
    let found = c.levels.invariant.levelling in
    below (λ step. ¬ Contains (listed found.0) step) (length (products_of c.args.view.now)) (length c.args.view.now.products) c.levels.pending.items c.deref-in-levels.result.now
    (length-map c.args.view.now.products product_of) c.deref-in-levels.ensures.value found.1.pend

pub returns-then-is_empty-clause-found : goal.returns-then-is_empty-clause-found
returns-then-is_empty-clause-found c =
    let found = c.levels.invariant.levelling in
    let split : IsSplit (products_of c.args.view.now) (set_of c.args.leak.now) (row_sets c.levels.span) c.levels.pending.items c.in_ok-level.field-0.level.items c.in_ok-level.field-0.rest.items
    = rw c.deref-in-levels.ensures.value at c.in_ok-level.ensures in
    let none = eqb-true c.in_ok-level.field-0.level.len 0 (sym c.if-is_empty.ensures) in
    let kept = c.in_ok-level.field-0.level.ok.0 in
    levelling_is_stuck (products_of c.args.view.now) (set_of c.args.leak.now) found.0 c.levels.steps.items c.levels.pending.items
    c.in_ok-level.field-0.level.items c.in_ok-level.field-0.rest.items (row_sets c.levels.span) found.1 c.if-contains.ensures.answer split (sym kept ∙ none)

pub add_co_operands-requires-clause-products : goal.add_co_operands-requires-clause-products
add_co_operands-requires-clause-products c =
    let found = c.levels.invariant.levelling in
    let split : IsSplit (products_of c.args.view.now) (set_of c.args.leak.now) (row_sets c.levels.span) c.levels.pending.items c.in_ok-level.field-0.level.items c.in_ok-level.field-0.rest.items
    = rw c.deref-in-levels.ensures.value at c.in_ok-level.ensures in
    below (HasNextLevel (products_of c.args.view.now) (set_of c.args.leak.now) found.0) (length (products_of c.args.view.now)) (length c.args.view.now.products)
    c.in_ok-level.field-0.level.items c.deref-in-levels-3.result.now
    (length-map c.args.view.now.products product_of) c.deref-in-levels-3.ensures.value
    (next_level (products_of c.args.view.now) (set_of c.args.leak.now) found.0 c.levels.steps.items c.levels.pending.items c.in_ok-level.field-0.level.items
    c.in_ok-level.field-0.rest.items (row_sets c.levels.span) found.1 split)

pub levels-smaller : goal.levels-smaller
levels-smaller c =
    let split : IsSplit (products_of c.args.view.now) (set_of c.args.leak.now) (row_sets c.levels.span) c.levels.pending.items c.in_ok-level.field-0.level.items c.in_ok-level.field-0.rest.items
    = rw c.deref-in-levels.ensures.value at c.in_ok-level.ensures in
    let level = c.in_ok-level.field-0.level in
    let some : level.len ≢ 0 = λ e. true≢false (sym (eq-eqb level.len 0 e) ∙ sym c.if-is_empty.ensures) in
    let kept = level.ok.0 in
    let parts = split_length (IsSpanned (products_of c.args.view.now) (set_of c.args.leak.now) (row_sets c.levels.span)) split.spanned split.others in
    let P : ℕ → ℕ → ℕ → Type 0 = λ a b n. a + b ≡ n in
    let more : length level.items + length c.in_ok-level.field-0.rest.items ≡ length c.levels.pending.items
    = subst (λ (n : ℕ). P (length level.items) (length c.in_ok-level.field-0.rest.items) n) (length-map c.levels.pending.items step_of)
    (subst (λ (b : ℕ). P (length level.items) b (length (operand_steps c.levels.pending.items))) (length-map c.in_ok-level.field-0.rest.items step_of)
    (subst (λ (a : ℕ). P a (length (operand_steps c.in_ok-level.field-0.rest.items)) (length (operand_steps c.levels.pending.items))) (length-map level.items step_of) parts)) in
    omega arith

pub levels-preserved : goal.levels-preserved
levels-preserved c =
    let found = c.levels.invariant.levelling in
    let products = products_of c.args.view.now in
    let split : IsSplit products (set_of c.args.leak.now) (row_sets c.levels.span) c.levels.pending.items c.in_ok-level.field-0.level.items c.in_ok-level.field-0.rest.items
    = rw c.deref-in-levels.ensures.value at c.in_ok-level.ensures in
    let level = c.in_ok-level.field-0.level.items in
    let behind : c.list.new.steps.items ≡ c.levels.steps.items ++ map (λ (t : Operand). let s : Levelled = record { operand = t; lower = length c.levels.steps.items } in s) level
    = rw c.deref-in-levels-2.ensures.value at c.in_ok-list.ensures in
    let grown : SameSpan (row_sets c.add_co_operands.new.span) (row_sets c.levels.span ++ co_operands products (operand_steps level))
    = rw c.deref-in-levels-3.ensures.value at c.in_ok-add_co_operands.ensures.span in
    record {
      columns = c.in_ok-add_co_operands.ensures.columns ∙ c.levels.invariant.columns;
      scratch = c.contains.ensures.scratch ∙ c.levels.invariant.scratch;
      levelling = (
        operand_steps level ∷ found.0,
        levelling_goes_on products (set_of c.args.leak.now) found.0 c.levels.steps.items c.list.new.steps.items c.levels.pending.items level c.in_ok-level.field-0.rest.items
            (row_sets c.levels.span) (row_sets c.add_co_operands.new.span) found.1 c.if-contains.ensures.answer split behind grown,
      );
    }
