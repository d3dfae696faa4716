use Rattle.std.proofs.Common.{◌≡◌, ◌<◌, ◌∙◌, ℕ, Bool, List, Option, MatchOption, length, subst}
use Rattle.span_model.specs.Columns.{set_of}
use Rattle.linear_view.specs.View.{products_of}
use Rattle.tightprove.specs.Classes.{class_rows, IsClean, IsLeakOf}
use Rattle.tightprove.proofs.Closures.{all_clean}
use Rattle.tightprove.proofs.searches.search.Goals as goal

pub returns : goal.returns
returns c =
    let Q : Option (List Bool) → Type 0 = λ found. MatchOption found ((i : ℕ) → i < length c.in_ok-classes.classes.list.items → IsClean c.in_ok-classes.classes.list.items (class_rows c.in_ok-classes.classes.list.items i)) (λ leak. (length leak ≡ c.in_ok-classes.classes.columns) × IsLeakOf c.in_ok-classes.classes.list.items (set_of leak)) in
    let clean : (i : ℕ) → i < length c.in_ok-classes.classes.list.items → IsClean c.in_ok-classes.classes.list.items (class_rows c.in_ok-classes.classes.list.items i) =
    subst Q c.in-None.is c.in_ok-leak.ensures in
    all_clean c.leaks_are_closed.ensures c.in_ok-classes.classes.list.items (products_of c.args.view.now) c.in_ok-classes.ensures.products clean

pub returns-in-Some : goal.returns-in-Some
returns-in-Some c =
    let Q : Option (List Bool) → Type 0 = λ found. MatchOption found ((i : ℕ) → i < length c.in_ok-classes.classes.list.items → IsClean c.in_ok-classes.classes.list.items (class_rows c.in_ok-classes.classes.list.items i)) (λ leak. (length leak ≡ c.in_ok-classes.classes.columns) × IsLeakOf c.in_ok-classes.classes.list.items (set_of leak)) in
    let found : (length c.in-Some.leak ≡ c.in_ok-classes.classes.columns) × IsLeakOf c.in_ok-classes.classes.list.items (set_of c.in-Some.leak) = subst Q c.in-Some.is c.in_ok-leak.ensures in (
      found.0 ∙ c.in_ok-classes.ensures.columns,
      (c.leaks_are_closed.ensures (products_of c.args.view.now) (set_of c.in-Some.leak)).1 (found.1 (products_of c.args.view.now) c.in_ok-classes.ensures.products),
    )
