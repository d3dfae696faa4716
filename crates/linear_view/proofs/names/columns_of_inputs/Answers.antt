use Rattle.std.proofs.Common.{ap, ◌∙◌}
use Rattle.std.specs.List.{list_any}
use Rattle.linear_view.specs.declared.column.Column.{Column}
use Rattle.linear_view.specs.declared.column.ColumnKind.TheVariants.{Input}
use Rattle.linear_view.specs.Names.{same_column}
use Rattle.linear_view.proofs.ColumnLemmas.{new_input, input_columns-more}
use Rattle.linear_view.proofs.names.columns_of_inputs.Goals as goal

pub add_columns-requires : goal.add_columns-requires
add_columns-requires c bit =
    let name : Column = record { kind = Input; number = c.loop-number.number; bit = bit } in
    ap (list_any (same_column name)) c.loop-number.invariant ∙ new_input c.args.width c.loop-number.number bit

pub loop-number-preserved : goal.loop-number-preserved
loop-number-preserved c = input_columns-more c.args.width c.loop-number.number _ _ c.loop-number.invariant c.in_ok-add_columns.ensures
