use Rattle.std.proofs.Common.{◌≡◌, List, Bool, length}
use Rattle.span_model.specs.Columns.{set_of, sets_of}
use Rattle.gf2_span.specs.Basis.{row_sets}
use Rattle.tightprove.specs.Classes.{class_rows, IsClean, IsLeakOf}
use Rattle.tightprove.proofs.Taking.{rows_at}
use Rattle.tightprove.proofs.Verdicts.{class_clean, found_clean}
use Rattle.tightprove.proofs.cosets.leak_in.Goals as goal

pub returns-clause-answer : goal.returns-clause-answer
returns-clause-answer c =
    let classes = c.args.classes.now.list.items in
    found_clean c.in_ok-found.found (IsClean c.args.classes.now.list.items (row_sets c.in_ok-candidates.candidates))
    (IsClean c.args.classes.now.list.items (class_rows c.args.classes.now.list.items c.args.i))
    (λ (leak : List Bool). (length leak ≡ c.args.classes.now.columns) × IsLeakOf c.args.classes.now.list.items (set_of leak))
    (λ clean. class_clean classes c.args.i (row_sets c.in_ok-candidates.candidates) (sets_of c.as_slice-rows.result.now) clean c.in_ok-candidates.ensures.span
    (rows_at classes c.args.i c.index.result.now c.as_slice-rows.result.now c.requires.i c.index.ensures c.as_slice-rows.ensures))
    c.in_ok-found.ensures.answer
