use Rattle.std.proofs.Common.{◌≡◌, ◌<◌, ℕ, length, ap, ◌∙◌, subst, false, arith}
use Rattle.std.proofs.lemmas.List.{length-replicate}
use Rattle.tightprove.specs.Classes.{AreListed}
use Rattle.tightprove.proofs.Leading.{near_ends}
use Rattle.tightprove.proofs.classes.touching.Goals as goal

pub list_span-requires-clause-numbers : goal.list_span-requires-clause-numbers
list_span-requires-clause-numbers c n i h =
    let lt : i < length c.args.classes.now.list.items = c.requires.classes.by_lead.numbers n i h in
    omega (arith, lt, ap length c.in_ok-listed.ensures ∙ length-replicate c.count.result false, c.count.ensures)

pub list_span-requires-2-clause-numbers : goal.list_span-requires-2-clause-numbers
list_span-requires-2-clause-numbers c n i h =
    let lt : i < length c.args.classes.now.list.items = c.requires.classes.by_lead.numbers n i h in
    omega (arith, lt, c.in_ok-list_span.ensures.listed.flag_count, ap length c.in_ok-listed.ensures ∙ length-replicate c.count.result false, c.count.ensures)

pub returns : goal.returns
returns c =
    let count : length c.list_span.new.listed ≡ length c.args.classes.now.list.items =
    c.in_ok-list_span.ensures.listed.flag_count ∙ ap length c.in_ok-listed.ensures ∙ length-replicate c.count.result false ∙ c.count.ensures in
    let P : ℕ → Type 0 = λ n. AreListed n c.list_span-2.new.listed c.list_span-2.new.near.items in
    near_ends c.args.classes.now.columns c.args.classes.now.list.items c.args.classes.now.by_lead.items c.args.rest.now c.args.span.now c.least_lead-low.result c.list_span-2.new.listed c.list_span-2.new.near.items
    c.leads_are_kept.ensures c.requires.classes.classes c.requires.classes.by_lead c.list_span.ensures.own c.list_span-2.ensures.own c.requires.apart c.least_lead-low.ensures
    (λ k n i h last high lane. c.in_ok-list_span-2.ensures.kept i (c.in_ok-list_span.ensures.lanes k n i h last high lane)) c.in_ok-list_span-2.ensures.lanes
    (subst P count c.in_ok-list_span-2.ensures.listed)
