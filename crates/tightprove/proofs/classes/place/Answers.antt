use Rattle.std.proofs.Common.{◌≡◌, ◌<◌, [], ◌∷◌, List, Bool, ℕ, length, IfOk, ap, sym, ◌∙◌, subst, arith}
use Rattle.span_model.specs.Columns.{Columns, sets_of}
use Rattle.span_model.specs.Span.{SameSpan}
use Rattle.tightprove.specs.Classes.{class_rows}
use Rattle.tightprove.proofs.Alone.{single}
use Rattle.tightprove.proofs.classes.place.Goals as goal

pub place_row-requires-clause-alone : goal.place_row-requires-clause-alone
place_row-requires-clause-alone c = sym c.as_slice.ensures ∙ single c.as_slice.result.now c.row-item.result (omega arith) c.row-item.is

pub returns-in-Some-clause-number : goal.returns-in-Some-clause-number
returns-in-Some-clause-number c =
    let alone : c.args.rows.now ≡ c.row-item.result ∷ [] =
    sym c.as_slice.ensures ∙ single c.as_slice.result.now c.row-item.result (omega arith) c.row-item.is in
    let list = c.place_row.new.list.items in
    let P : List (Columns ℕ) → Type 0 = λ r. IfOk c.place_row.result (λ i. (i < length list) × SameSpan (class_rows list i) r) in
    subst P (sym (ap sets_of alone)) c.place_row.ensures.number

pub returns-clause-number : goal.returns-clause-number
returns-clause-number c =
    let list = c.place_span.new.list.items in
    let P : List (List Bool) → Type 0 = λ r. IfOk c.place_span.result (λ i. (i < length list) × SameSpan (class_rows list i) (sets_of r)) in
    subst P c.as_slice-2.ensures c.place_span.ensures.number
