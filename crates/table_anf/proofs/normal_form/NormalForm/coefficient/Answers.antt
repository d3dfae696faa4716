use Rattle.table_anf.proofs.Coefficients.{coefficient_tested}
use Rattle.table_anf.proofs.normal_form.NormalForm.coefficient.Goals as goal

pub returns : goal.returns
returns c =
    let h = rw (← c.self.view_is) at c.requires.monomial in
    rw (← c.self.view_is)
    (coefficient_tested c.self.inside.inputs c.self.inside.outputs c.self.inside.words.items c.args.output c.args.monomial c.index.result.now
    h c.self.invariant.all c.index.ensures)
