use Rattle.std.proofs.Common.{◌≡◌, ℕ, length, ap, arith}
use Rattle.span_model.specs.Columns.{Columns, set_of}
use Rattle.gf2_span.specs.Basis.{row_sets}
use Rattle.span_select.proofs.TakingIn.{fresh_in, nothing_left}
use Rattle.span_select.proofs.words.take_in.Goals as goal
use Rattle.span_select.proofs.words.take_in.Goals.{in_default-via-in-Some+else-c-columns, in_default-via-in_default}

pub returns-in_ok-push-in-Some-clause-frame : goal.returns-in_ok-push-in-Some-clause-frame
returns-in_ok-push-in-Some-clause-frame c =
    rw c.in_ok-push-in-Some.ensures.items
    (fresh_in (length c.args.row.now) c.args.basis.now.rows c.args.owners.now.items c.args.group c.requires.frame c.requires.last_group
    c.in_ok-word.word c.add.new.self c.in_ok-own-in-Some.own (set_of c.args.row.now) c.in_ok-word.ensures.stands c.in_ok-word.ensures.reduced c.in_ok-word.ensures.columns
    c.in-Some.c c.in-Some.ensures.1 (omega (arith, c.if-c-columns.true, c.columns-columns.ensures)) c.rank-coordinate.ensures.independent
    c.rank-coordinate.result c.rank-coordinate.ensures.value c.in_ok-own-in-Some.ensures.unit c.add.ensures.sum
    c.insert.new.self.rows c.in_ok-_fresh-in-Some.ensures.span (c.insert.new.self ≡ c.args.basis.now) c.in_ok-_fresh-in-Some._fresh c.in_ok-_fresh-in-Some.ensures.answer c.in_ok-_fresh-in-Some.ensures.rank).0

pub returns-in_ok-push-in-Some-clause-takes_in : goal.returns-in_ok-push-in-Some-clause-takes_in
returns-in_ok-push-in-Some-clause-takes_in c =
    rw c.in_ok-push-in-Some.ensures.items
    (fresh_in (length c.args.row.now) c.args.basis.now.rows c.args.owners.now.items c.args.group c.requires.frame c.requires.last_group
    c.in_ok-word.word c.add.new.self c.in_ok-own-in-Some.own (set_of c.args.row.now) c.in_ok-word.ensures.stands c.in_ok-word.ensures.reduced c.in_ok-word.ensures.columns
    c.in-Some.c c.in-Some.ensures.1 (omega (arith, c.if-c-columns.true, c.columns-columns.ensures)) c.rank-coordinate.ensures.independent
    c.rank-coordinate.result c.rank-coordinate.ensures.value c.in_ok-own-in-Some.ensures.unit c.add.ensures.sum
    c.insert.new.self.rows c.in_ok-_fresh-in-Some.ensures.span (c.insert.new.self ≡ c.args.basis.now) c.in_ok-_fresh-in-Some._fresh c.in_ok-_fresh-in-Some.ensures.answer c.in_ok-_fresh-in-Some.ensures.rank).1

pub returns-in_default-clause-takes_in : goal.returns-in_default-clause-takes_in
returns-in_default-clause-takes_in c =
    nothing_left (length c.args.row.now) (row_sets c.args.basis.now) c.args.owners.now.items c.args.group c.requires.frame c.requires.last_group
    (set_of c.in_ok-word.word) (set_of c.args.row.now) c.in_ok-word.ensures.stands
    (λ d le. elim c.in_default.branch [
      | in_default-via-in-Some+else-c-columns w ↦ w.in-Some.ensures.1.none_after d (omega (arith, w.if-c-columns.false, c.columns-columns.ensures))
      | in_default-via-in_default w ↦ ap (λ (x : Columns ℕ). x d) w.in_default.ensures
    ])
