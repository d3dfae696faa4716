use Rattle.std.proofs.Common.{sym, ◌∙◌}
use Rattle.data_text.specs.Numbers.{number_of}
use Rattle.data_text.proofs.ReadLemmas.{held_wrong, unheld_wrong}
use Rattle.data_text.proofs.read.number_at.Goals as goal
use Rattle.data_text.proofs.read.number_at.Goals.{in_default-via-in-Some+else-has_bits, in_default-via-in_default}

pub returns-in_default : goal.returns-in_default
returns-in_default c =
    let line = c.args.token.now.line in
    let number = number_of c.args.token.now.word.now in
    elim c.in_default.branch [
      | in_default-via-in-Some+else-has_bits w ↦
          held_wrong c.args.bits line w.in-Some.value number c.in_ok-value.field-0 c.in_ok-value.ensures w.in-Some.is (sym w.has_bits.ensures ∙ w.if-has_bits.false)
      | in_default-via-in_default w ↦ unheld_wrong c.args.bits line number c.in_ok-value.field-0 c.requires c.in_ok-value.ensures w.in_default.is
    ]
