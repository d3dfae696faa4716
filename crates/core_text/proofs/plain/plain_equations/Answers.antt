use Rattle.std.proofs.Common.{◌≡◌, ℕ, ◌+◌, ◌<◌, ◌≤◌, length, ap, sym, ◌∙◌, subst, arith}
use Rattle.core_text.specs.Parts.{TakesEquation, TakesEquations}
use Rattle.core_text.proofs.BodyLemmas.{one_taken}
use Rattle.core_text.proofs.PlainLemmas.{further, lines_at, one_fewer, taken_at}
use Rattle.std.specs.Prelude.{drop}
use Rattle.text_lines.specs.Lines.{LinesLeft, lines_of}
use Rattle.core_text.proofs.plain.plain_equations.Goals as goal

pub loop-at-preserved : goal.loop-at-preserved
loop-at-preserved c =
    let bytes = c.text-bytes.result.now in
    let due = c.loop-at.due in
    let gate = c.in-Some.gate in
    let end = c.in-Some.end in
    let so_far = c.loop-at.invariant in
    let told = c.in-Some.ensures in
    let before : LinesLeft = record { lines = lines_of (drop c.loop-at.at bytes); number = c.loop-at.number } in
    let after : LinesLeft = record { lines = lines_of (drop end bytes); number = c.loop-at.number + 1 } in
    let one : (width : ℕ) → width ≤ 64 → TakesEquation width due gate before after =
    λ width fits. taken_at width due c.loop-at.number c.loop-at.at end gate bytes fits told.small (told.earlier width) told.text in
    let shorter : length before.lines ≡ length after.lines + 1 = one_fewer 64 due gate before after (one 64 (omega arith)) in
    let later : c.loop-at.at < end = further due gate bytes c.loop-at.at end (grind arith) told.within told.text in
    record {
      within = told.within;
      counted = omega (arith, so_far.counted, later);
      later = omega (arith, so_far.later);
      fewer = omega (arith, so_far.fewer, shorter);
      taken =
          λ width fits.
          so_far.taken width fits ∙ one_taken width due gate before after c.loop-at.equations.items c.push.new.self.items (one width fits) c.in_ok-push.ensures.items;
    }

pub returns-clause-taken : goal.returns-clause-taken
returns-clause-taken c =
    λ width fits.
    subst (TakesEquations width c.args.next c.loop-at.due c.args.equations.now.items c.loop-at.equations.items c.args.lines.now)
    (sym (lines_at c.loop-at.number c.loop-at.at c.text-bytes.result.now c.from_line.result c.from_line.ensures))
    (c.loop-at.invariant.taken width fits)

pub returns-clause-fewer : goal.returns-clause-fewer
returns-clause-fewer c =
    let same : length c.from_line.result.lines ≡ length (lines_of (drop c.loop-at.at c.text-bytes.result.now)) =
    ap (λ (left : LinesLeft). length left.lines) (lines_at c.loop-at.number c.loop-at.at c.text-bytes.result.now c.from_line.result c.from_line.ensures) in
    (c.loop-at.invariant.later, omega (arith, same, c.loop-at.invariant.fewer))
