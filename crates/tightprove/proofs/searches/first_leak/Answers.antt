use Rattle.std.proofs.Common.{◌≡◌, ◌<◌, ℕ, List, All, inl, inr, length, get_or, sym, subst, arith}
use Rattle.std.specs.List.{Contains}
use Rattle.std.proofs.lemmas.Bool.{cases_lt}
use Rattle.span_model.specs.Columns.{set_of}
use Rattle.tightprove.specs.Classes.{class_rows, IsClean, IsLeakOf}
use Rattle.tightprove.specs.declared.class.Class.{Class}
use Rattle.tightprove.proofs.Calls.{none_then}
use Rattle.tightprove.proofs.Verdicts.{listed}
use Rattle.tightprove.proofs.searches.first_leak.Goals as goal

pub returns : goal.returns
returns c =
    let classes : List Class = c.args.classes.now.list.items in
    let P : List ℕ → Type 0 = λ xs. (i : ℕ) → i < length c.args.classes.now.list.items → Contains xs i in
    listed (λ i. IsClean classes (class_rows classes i)) c.deref-i-items.result.now (length classes) c.loop-i.i-index
    (subst P (sym c.deref-i-items.ensures.value) c.in_ok-largest_first.ensures.all) c.loop-i-test.false c.loop-i.invariant.clean

pub leak_in-requires-clause-i : goal.leak_in-requires-clause-i
leak_in-requires-clause-i c =
    let P : List ℕ → Type 0 = λ xs. All (λ k. k < length c.args.classes.now.list.items) xs in
    let all : All (λ k. k < length c.args.classes.now.list.items) c.deref-i-items.result.now = subst P (sym c.deref-i-items.ensures.value) c.in_ok-largest_first.ensures.numbers in
    all c.loop-i.i-index 0 c.loop-i-test.true

pub loop-i-preserved : goal.loop-i-preserved
loop-i-preserved c =
    let classes : List Class = c.args.classes.now.list.items in
    let order : List ℕ = c.deref-i-items.result.now in
    let here : IsClean c.args.classes.now.list.items (class_rows c.args.classes.now.list.items (get_or c.deref-i-items.result.now c.loop-i.i-index 0)) =
    none_then c.in_ok-found.found c.is_some.result (IsClean classes (class_rows classes (get_or order c.loop-i.i-index 0)))
    (λ leak. (length leak ≡ c.args.classes.now.columns) × IsLeakOf classes (set_of leak)) c.is_some.ensures c.if-is_some.false c.in_ok-found.ensures.answer in
    record {
      known = c.in_ok-found.ensures.known;
      clean = λ k h. elim (cases_lt k c.loop-i.i-index) [
        | inl old ↦ c.loop-i.invariant.clean k old
        | inr now ↦
            let e : c.loop-i.i-index ≡ k = omega arith in
            let R : ℕ → Type 0 = λ n. IsClean c.args.classes.now.list.items (class_rows c.args.classes.now.list.items (get_or c.deref-i-items.result.now n 0)) in
            subst R e here
      ];
    }
