use Rattle.std.proofs.Common.{Some, ap, ◌∙◌}
use Rattle.std.specs.Prelude.{if◌then◌else◌, bytes_eq, option_copied}
use Rattle.std.specs.HashMap.{get_by}
use Rattle.std.proofs.lemmas.Map.Text.{hash_map_updates_str}
use Rattle.c_machine.specs.State.Gadgets.{gadget_at}
use Rattle.c_machine.proofs.Found.{copied-if}
use Rattle.c_machine.proofs.gadgets.keep_gadget.Goals as goal

pub returns-in-Ok : goal.returns-in-Ok
returns-in-Ok c =
    let key = c.as_str.result.now in
    let before = c.args.found.now in
    λ name. ap (λ o. option_copied o) (hash_map_updates_str key before c.insert.new.self _ c.in-Ok.ensures.updates name)
    ∙ copied-if (bytes_eq key name) c.args.gadget (get_by (λ k. bytes_eq name k.now) before)
    ∙ ap (λ own. if bytes_eq own name then Some c.args.gadget.now else gadget_at before name) c.as_str.ensures
