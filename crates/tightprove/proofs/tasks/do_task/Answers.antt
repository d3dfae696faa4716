use Rattle.std.proofs.Common.{◌++◌, ◌∙◌, List, subst, sym, ap}
use Rattle.gf2_span.specs.Basis.{Basis, row_sets}
use Rattle.tightprove.specs.Growth.{AreKnown}
use Rattle.tightprove.specs.Tasks.{IsSplitOf, searches}
use Rattle.tightprove.specs.declared.split.Split.{Split}
use Rattle.tightprove.specs.declared.tasks.Task.{Task}
use Rattle.tightprove.proofs.Pending.{last_columns, last_search_columns, last_is_clean, done_record, done_known, done_pieces, known_more, clean_within}
use Rattle.tightprove.proofs.tasks.do_task.Goals as goal

pub holds-requires-clause-columns : goal.holds-requires-clause-columns
holds-requires-clause-columns c n lt = c.requires.known.columns n lt ∙ sym (last_search_columns c.args.classes.now.columns c.args.tasks.now.items c.args.task c.in-Search.span c.in-Search.is c.requires.columns)

pub holds-requires-clause-scratch : goal.holds-requires-clause-scratch
holds-requires-clause-scratch c = c.requires.scratch ∙ sym (last_search_columns c.args.classes.now.columns c.args.tasks.now.items c.args.task c.in-Search.span c.in-Search.is c.requires.columns)

pub search_span-requires-clause-columns : goal.search_span-requires-clause-columns
search_span-requires-clause-columns c = last_search_columns c.args.classes.now.columns c.args.tasks.now.items c.args.task c.in-Search.span c.in-Search.is c.requires.columns

pub returns-then-holds-clause-answer : goal.returns-then-holds-clause-answer
returns-then-holds-clause-answer c =
    let h = c.if-holds.ensures.answer in
    done_known c.args.classes.now.list.items c.args.classes.now.columns c.args.tasks.now.items c.args.task c.in-Search.span c.in-Search.is
    (clean_within c.args.classes.now.list.items _ (row_sets c.in-Search.span) h.2 (c.requires.known.clean h.0 h.1)) c.requires.columns c.requires.order

pub returns-in_ok-record-in-Record-clause-known : goal.returns-in_ok-record-in-Record-clause-known
returns-in_ok-record-in-Record-clause-known c =
    let P : List Basis → Type 0 = λ spans. AreKnown c.args.classes.now.list.items c.args.classes.now.columns spans in
    subst P (sym c.in_ok-record-in-Record.ensures) (known_more c.args.classes.now.list.items c.args.classes.now.columns c.args.known.now.spans.items c.in-Record.span c.requires.known
    (last_columns c.args.classes.now.columns c.args.tasks.now.items c.args.task c.in-Record.span c.in-Record.is c.requires.columns)
    (last_is_clean c.args.classes.now.list.items c.args.tasks.now.items c.args.task c.in-Record.span c.in-Record.is c.requires.order))

pub returns-in_ok-record-in-Record-clause-answer : goal.returns-in_ok-record-in-Record-clause-answer
returns-in_ok-record-in-Record-clause-answer c =
    done_record c.args.classes.now.list.items c.args.classes.now.columns c.args.tasks.now.items c.args.task c.in-Record.span c.in-Record.is c.requires.columns c.requires.order

pub returns-in-Found-clause-answer : goal.returns-in-Found-clause-answer
returns-in-Found-clause-answer c =
    let P : Split → Type 0 = λ s. IsSplitOf c.args.classes.now.list.items c.in-Search.span s in
    let found = subst P c.in-Found.is c.in_ok-leak-in-Search.ensures in
    (found.0 ∙ last_search_columns c.args.classes.now.columns c.args.tasks.now.items c.args.task c.in-Search.span c.in-Search.is c.requires.columns, found.1)

pub returns-in_ok-push_searches-in-Pieces-clause-answer : goal.returns-in_ok-push_searches-in-Pieces-clause-answer
returns-in_ok-push_searches-in-Pieces-clause-answer c =
    let P : Split → Type 0 = λ s. IsSplitOf c.args.classes.now.list.items c.in-Search.span s in
    done_pieces c.args.classes.now.list.items c.args.classes.now.columns c.args.tasks.now.items c.push_searches.new.tasks.items c.args.task c.in-Search.span c.in-Pieces.pieces.items c.in-Search.is
    (subst P c.in-Pieces.is c.in_ok-leak-in-Search.ensures)
    (c.in_ok-push_searches-in-Pieces.ensures ∙ ap (λ (t : List Task). t ++ searches c.in-Pieces.pieces.items) c.in_ok-push-in-Pieces.ensures.items) c.requires.columns c.requires.order
