use Rattle.std.proofs.Common.{◌+◌, ◌-◌, ◌%◌, sym, ap, ◌∙◌}
use Rattle.std.proofs.lemmas.Result.{IfOk-weaker}
use Rattle.span_model.specs.Columns.{empty}
use Rattle.usuba0.specs.declared.circuit.Gate.{Gate}
use Rattle.linear_view.specs.Rows.{gate_row, row_at}
use Rattle.linear_view.specs.Walk.{needs}
use Rattle.linear_view.proofs.RowLemmas.{held_first, held_second, copied_row, empty_row, added_row, alone_row, same_columns, mask_on, mask_off, shifted_in, shifted_on}
use Rattle.linear_view.proofs.rows.gate_row.Goals as goal
use Rattle.linear_view.proofs.rows.gate_row.Goals.{in-Some, in_default}

pub add-requires : goal.add-requires
add-requires c =
    let all = c.requires.held.0 in
    let h = c.requires.held.1 in
    same_columns c.args.columns.now.keys all c.args.registers.now c.in-Xor.a c.in-Xor.b c.args.bit c.len-empty.result c.in_ok-row-in-Xor.row c.in-Some.other.now c.len-empty.ensures.len
    (held_first c.args.columns.now.keys all c.args.registers.now c.args.gate.now c.in-Xor.a _ (ap needs c.in-Xor.is) h)
    (held_second c.args.columns.now.keys all c.args.registers.now c.args.gate.now c.in-Xor.a c.in-Xor.b (ap needs c.in-Xor.is) h)
    c.in_ok-row-in-Xor.ensures c.in-Some.ensures

pub returns-in-Const : goal.returns-in-Const
returns-in-Const c =
    IfOk-weaker c.new.result _ _
    (λ row e all h.
    let moved = ap (λ (g : Gate). gate_row c.args.stage.width c.args.stage.products c.args.stage.refreshes all g c.args.bit) c.in-Const.is in
    empty_row c.args.columns.now.keys _ c.len-empty.result row c.len-empty.ensures.len (sym moved) e)
    c.new.ensures

pub returns-after-row_of : goal.returns-after-row_of
returns-after-row_of c all h =
    let moved = ap (λ (g : Gate). gate_row c.args.stage.width c.args.stage.products c.args.stage.refreshes all g c.args.bit) c.in-Xor.is in
    let left = held_first c.args.columns.now.keys all c.args.registers.now c.args.gate.now c.in-Xor.a _ (ap needs c.in-Xor.is) h in
    let right = held_second c.args.columns.now.keys all c.args.registers.now c.args.gate.now c.in-Xor.a c.in-Xor.b (ap needs c.in-Xor.is) h in
    elim c.match-row_of.branch [
      | in-Some w ↦
          added_row c.args.columns.now.keys all c.args.registers.now _ c.in-Xor.a c.in-Xor.b c.args.bit c.len-empty.result c.in_ok-row-in-Xor.row w.in-Some.other.now c.match-row_of.row
          c.len-empty.ensures.len left right (sym moved) c.in_ok-row-in-Xor.ensures w.in-Some.ensures
          (rw w.row-is w.add.ensures.columns) (rw w.row-is w.add.ensures.sum)
      | in_default w ↦
          w.row-is
          ∙ alone_row c.args.columns.now.keys all c.args.registers.now _ c.in-Xor.a c.in-Xor.b c.args.bit c.len-empty.result c.in_ok-row-in-Xor.row
          c.len-empty.ensures.len left right (sym moved) c.in_ok-row-in-Xor.ensures w.in_default.ensures
    ]

pub returns-in-Not : goal.returns-in-Not
returns-in-Not c =
    IfOk-weaker c.copy_of-in-Not.result _ _
    (λ row e all h.
    let moved = ap (λ (g : Gate). gate_row c.args.stage.width c.args.stage.products c.args.stage.refreshes all g c.args.bit) c.in-Not.is in
    copied_row c.args.columns.now.keys all c.args.registers.now _ c.in-Not.a (c.args.bit) c.len-empty.result row c.len-empty.ensures.len
    (held_first c.args.columns.now.keys all c.args.registers.now c.args.gate.now c.in-Not.a _ (ap needs c.in-Not.is) h)
    (sym moved) e)
    c.copy_of-in-Not.ensures

pub returns-then-c-bit-eq1 : goal.returns-then-c-bit-eq1
returns-then-c-bit-eq1 c =
    IfOk-weaker c.copy_of-then-c-bit-eq1.result _ _
    (λ row e all h.
    let moved = ap (λ (g : Gate). gate_row c.args.stage.width c.args.stage.products c.args.stage.refreshes all g c.args.bit) c.in-Mask.is in
    copied_row c.args.columns.now.keys all c.args.registers.now _ c.in-Mask.a (c.args.bit) c.len-empty.result row c.len-empty.ensures.len
    (held_first c.args.columns.now.keys all c.args.registers.now c.args.gate.now c.in-Mask.a _ (ap needs c.in-Mask.is) h)
    (mask_on c.in-Mask.c c.args.bit (row_at all c.in-Mask.a c.args.bit) empty c.if-c-bit-eq1.true ∙ sym moved) e)
    c.copy_of-then-c-bit-eq1.ensures

pub returns-else-c-bit-eq1 : goal.returns-else-c-bit-eq1
returns-else-c-bit-eq1 c =
    IfOk-weaker c.new-else-c-bit-eq1.result _ _
    (λ row e all h.
    let moved = ap (λ (g : Gate). gate_row c.args.stage.width c.args.stage.products c.args.stage.refreshes all g c.args.bit) c.in-Mask.is in
    empty_row c.args.columns.now.keys _ c.len-empty.result row c.len-empty.ensures.len (mask_off c.in-Mask.c c.args.bit (row_at all c.in-Mask.a c.args.bit) empty c.if-c-bit-eq1.false ∙ sym moved) e)
    c.new-else-c-bit-eq1.ensures

pub returns-then-bit-k : goal.returns-then-bit-k
returns-then-bit-k c =
    IfOk-weaker c.new-then-bit-k.result _ _
    (λ row e all h.
    let moved = ap (λ (g : Gate). gate_row c.args.stage.width c.args.stage.products c.args.stage.refreshes all g c.args.bit) c.in-Shl.is in
    empty_row c.args.columns.now.keys _ c.len-empty.result row c.len-empty.ensures.len (shifted_in c.args.bit c.in-Shl.k empty (row_at all c.in-Shl.a (c.args.bit - c.in-Shl.k)) c.if-bit-k.true ∙ sym moved) e)
    c.new-then-bit-k.ensures

pub returns-else-bit-k : goal.returns-else-bit-k
returns-else-bit-k c =
    IfOk-weaker c.copy_of-else-bit-k.result _ _
    (λ row e all h.
    let moved = ap (λ (g : Gate). gate_row c.args.stage.width c.args.stage.products c.args.stage.refreshes all g c.args.bit) c.in-Shl.is in
    copied_row c.args.columns.now.keys all c.args.registers.now _ c.in-Shl.a (c.args.bit - c.in-Shl.k) c.len-empty.result row c.len-empty.ensures.len
    (held_first c.args.columns.now.keys all c.args.registers.now c.args.gate.now c.in-Shl.a _ (ap needs c.in-Shl.is) h)
    (shifted_on c.args.bit c.in-Shl.k empty (row_at all c.in-Shl.a (c.args.bit - c.in-Shl.k)) c.if-bit-k.false ∙ sym moved) e)
    c.copy_of-else-bit-k.ensures

pub returns-in-Shr : goal.returns-in-Shr
returns-in-Shr c =
    IfOk-weaker c.copy_of-in-Shr.result _ _
    (λ row e all h.
    let moved = ap (λ (g : Gate). gate_row c.args.stage.width c.args.stage.products c.args.stage.refreshes all g c.args.bit) c.in-Shr.is in
    copied_row c.args.columns.now.keys all c.args.registers.now _ c.in-Shr.a (c.args.bit + c.in-Shr.k) c.len-empty.result row c.len-empty.ensures.len
    (held_first c.args.columns.now.keys all c.args.registers.now c.args.gate.now c.in-Shr.a _ (ap needs c.in-Shr.is) h)
    (sym moved) e)
    c.copy_of-in-Shr.ensures

pub returns-in-Rotl : goal.returns-in-Rotl
returns-in-Rotl c =
    IfOk-weaker c.copy_of-in-Rotl.result _ _
    (λ row e all h.
    let moved = ap (λ (g : Gate). gate_row c.args.stage.width c.args.stage.products c.args.stage.refreshes all g c.args.bit) c.in-Rotl.is in
    copied_row c.args.columns.now.keys all c.args.registers.now _ c.in-Rotl.a ((c.args.bit + (c.args.stage.width - c.in-Rotl.k)) % c.args.stage.width) c.len-empty.result row c.len-empty.ensures.len
    (held_first c.args.columns.now.keys all c.args.registers.now c.args.gate.now c.in-Rotl.a _ (ap needs c.in-Rotl.is) h)
    (sym moved) e)
    c.copy_of-in-Rotl.ensures
