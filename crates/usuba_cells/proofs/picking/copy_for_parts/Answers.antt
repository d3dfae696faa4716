use Rattle.std.proofs.Common.{◌≡◌, ◌*◌, ◌≤◌, ◌∙◌, ap, length, rules, arith}
use Rattle.usuba_cells.proofs.Numbered.{raised_to, length-raised_to, written-over, longer}
use Rattle.usuba_cells.proofs.PartLemmas.{copied-all}
use Rattle.usuba_cells.proofs.picking.copy_for_parts.Goals as goal

pub returns : goal.returns
returns c =
    let items = c.append_later.new.numbers.items in
    let by = c.args.parts.first * c.args.stride in
    let same : c.as_mut_slice.result.now ≡ items = search rules in
    let made : c.raise.new.numbers ≡ raised_to by items c.args.start c.len-end.result =
    c.raise.ensures ∙ ap (λ l. raised_to by l c.args.start c.len-end.result) same in
    let last : c.len-end.result ≡ length c.args.numbers.now.items = search rules in
    let more : length c.args.numbers.now.items ≤ length items = longer items c.args.numbers.now.items _ c.in_ok-append_later.ensures in
    let within : c.len-end.result ≤ length items = omega (arith, last, more) in
    let order : c.args.start ≤ c.len-end.result = search rules in
    let whole : length c.raise.new.numbers ≡ length items = ap length made ∙ length-raised_to by items c.args.start c.len-end.result order within in
    copied-all c.args.numbers.now.items items _ c.args.stride c.args.start c.len-end.result c.args.parts.first c.args.parts.last
    order last c.in_ok-append_later.ensures
    (written-over c.append_later.new.numbers.len items c.raise.new.numbers (search rules) whole ∙ made)
