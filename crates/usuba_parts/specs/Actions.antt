-- What each action makes of the parts on top of a stack, and with that, which parts it takes.
use Rattle.std.specs.Prelude.{Bool, List, Option, Some, None, is_some}
use Rattle.usuba_parts.specs.DeclarationActions as declarations
use Rattle.usuba_parts.specs.ExpressionActions as expressions
use Rattle.usuba_parts.specs.IndexActions as indexes
use Rattle.usuba_parts.specs.ItemActions as items
use Rattle.usuba_parts.specs.TokenActions as tokens
use Rattle.usuba_parts.specs.declared.action.Action.{Action}
use Rattle.usuba_parts.specs.declared.action.Action.TheVariants as action
use Rattle.usuba_parts.specs.declared.part.Part.{Part}

-- the parts after an action, where those on top are of the kinds that it takes
abbrev pub made : Action → List Part → Option (List Part)
made action.Keep ps = Some ps
made action.Skip ps = tokens.act_skip ps
made action.Inner ps = tokens.act_inner ps
made action.Finish ps = declarations.act_finish ps
made action.AddDef ps = declarations.act_add_def ps
made action.NoDefs ps = declarations.act_no_defs ps
made action.Node ps = declarations.act_node ps
made action.Table ps = declarations.act_table ps
made action.Perm ps = declarations.act_perm ps
made action.Grid ps = declarations.act_grid ps
made action.AddNumber ps = declarations.act_add_number ps
made action.NoNumbers ps = declarations.act_no_numbers ps
made action.NoDecls ps = declarations.act_no_decls ps
made action.JoinDecls ps = declarations.act_join_decls ps
made action.Declare ps = declarations.act_declare ps
made action.DeclareAlike ps = declarations.act_declare_alike ps
made action.Group ps = declarations.act_group ps
made action.Shape ps = declarations.act_shape ps
made action.AddDim ps = declarations.act_add_dim ps
made action.AddItem ps = items.act_add_item ps
made action.NoItems ps = items.act_no_items ps
made action.Loop ps = items.act_loop ps
made action.Bounds ps = items.act_bounds ps
made action.Equation ps = items.act_equation ps
made action.OneSpot ps = items.act_one_spot ps
made action.AddSpot ps = items.act_add_spot ps
made action.NoSpots ps = items.act_no_spots ps
made action.Spot ps = indexes.act_spot ps
made action.AddPick ps = indexes.act_add_pick ps
made action.NoPicks ps = indexes.act_no_picks ps
made action.Pick ps = indexes.act_pick ps
made action.High ps = indexes.act_high ps
made action.NoHigh ps = indexes.act_no_high ps
made (action.Chain op) ps = expressions.act_chain op ps
made action.AddLink ps = expressions.act_add_link ps
made action.NoLinks ps = expressions.act_no_links ps
made action.Shifts ps = expressions.act_shifts ps
made (action.AddShift kind) ps = expressions.act_add_shift kind ps
made action.NoShifts ps = expressions.act_no_shifts ps
made action.Not ps = expressions.act_not ps
made action.NumberExpr ps = expressions.act_number_expr ps
made action.NameExpr ps = expressions.act_name_expr ps
made action.Refresh ps = expressions.act_refresh ps
made action.Tuple ps = expressions.act_tuple ps
made action.AddExpr ps = expressions.act_add_expr ps
made action.NoExprs ps = expressions.act_no_exprs ps
made action.RefreshArgs ps = expressions.act_refresh_args ps
made action.IndexChain ps = indexes.act_index_chain ps
made (action.AddIndexLink op) ps = indexes.act_add_index_link op ps
made action.NoIndexLinks ps = indexes.act_no_index_links ps
made action.IndexNumber ps = indexes.act_index_number ps
made action.Counter ps = indexes.act_counter ps
made action.NameOfTypeWord ps = tokens.act_name_of_type_word ps

-- whether the parts on top are of the kinds that an action takes
abbrev pub fits : Action → List Part → Bool
fits a ps = is_some (made a ps)

-- what was made, or the same parts
abbrev pub or_same : List Part → Option (List Part) → List Part
or_same ps None = ps
or_same ps (Some made) = made

-- the parts after an action; the same ones where it does not take them
abbrev pub act : Action → List Part → List Part
act a ps = or_same ps (made a ps)
