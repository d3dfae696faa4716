use Rattle.std.proofs.Common.{◌≡◌, false, Some, sym, ap, ◌∙◌, rules}
use Rattle.std.specs.Prelude.{if◌then◌else◌, bytes_eq, is_some, option_copied}
use Rattle.std.specs.HashMap.{get_by}
use Rattle.std.proofs.lemmas.Map.Text.{hash_map_updates_str}
use Rattle.c_names.specs.State.Gadgets.{gadget_at}
use Rattle.c_names.proofs.Gadgets.{copied-if, kept-new, none-copied}
use Rattle.c_names.proofs.gadget.keep_gadget.Goals as goal

pub returns-in-Ok : goal.returns-in-Ok
returns-in-Ok c =
    let key = c.as_str-name.result.now in
    let before = c.args.found.now in
    let after = c.insert.new.self in
    let absent : is_some (get_by (λ k. bytes_eq key k.now) before) ≡ false = search rules in
    kept-new c.args.gadget.now (gadget_at before) (gadget_at after)
    (ap (gadget_at before) (sym c.as_str-name.ensures) ∙ none-copied (get_by (λ k. bytes_eq key k.now) before) absent)
    (λ n. ap (λ o. option_copied o) (hash_map_updates_str key before after _ c.in-Ok.ensures.updates n)
    ∙ copied-if (bytes_eq key n) c.args.gadget (get_by (λ k. bytes_eq n k.now) before)
    ∙ ap (λ t. if bytes_eq t n then Some c.args.gadget.now else gadget_at before n) c.as_str-name.ensures)
