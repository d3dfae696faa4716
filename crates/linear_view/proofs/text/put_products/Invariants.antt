use Rattle.std.proofs.Common.{Ok, take}
use Rattle.tor_edge.specs.Written.{Wrote}
use Rattle.linear_view.specs.RowsText.{texts_from, product_text}
use Rattle.linear_view.proofs.text.put_products.Given as goal

abbrev pub invariant-loop-k : goal.invariant-loop-k
invariant-loop-k g l =
    Wrote {T = Unit {0}} g.S.Sink.faults g.S.Sink.written l.fn.sink l.sink (texts_from (product_text l.columns) 0 (take l.k l.products)) (Ok tt)
