use Rattle.std.proofs.Common.{false, [], get_or, replicate, sym, ◌∙◌}
use Rattle.std.proofs.lemmas.List.{get_or_past}
use Rattle.std.proofs.lemmas.Result.{IfOk-weaker}
use Rattle.linear_view.proofs.WalkLemmas.{past_none}
use Rattle.linear_view.proofs.rows.copy_of.Goals as goal

pub returns-in-None : goal.returns-in-None
returns-in-None c =
    IfOk-weaker c.new.result _ _
    (λ row e. e ∙ sym (get_or_past (get_or c.args.registers.now c.args.register.0 []) c.args.bit (replicate c.args.columns false) (past_none _ _ c.in-None.ensures)))
    c.new.ensures
