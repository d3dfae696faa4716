use Rattle.std.proofs.Common.{◌≡◌, ℕ, [], true, Ok, Err, Result, ap, sym, ◌∙◌, arith}
use Rattle.attack_text.specs.Reading.{nothing, attack_of}
use Rattle.attack_model.specs.declared.attack.Attack.{Attack}
use Rattle.attack_model.specs.declared.attack.Derivation.{Derivation}
use Rattle.attack_text.specs.declared.read.CertFault.{CertFault}
use Rattle.attack_text.specs.declared.read.CertFault.TheVariants as fault
use Rattle.text_lines.specs.Lines.{lines_of}
use Rattle.attack_text.proofs.EndLemmas.{all_read, left_over, joined}
use Rattle.attack_text.proofs.RangeLemmas.{read_in_range}
use Rattle.attack_text.proofs.read.read_attack.Goals as goal

abbrev wrong_at : ℕ → Result Attack CertFault
wrong_at n = Err (fault.Syntax n)

pub returns-then-not-is_over-clause-attack : goal.returns-then-not-is_over-clause-attack
returns-then-not-is_over-clause-attack c =
    let derivation : Derivation = record { leak = c.in_ok-leak.leak; steps = c.in_ok-steps.steps; root = c.in_ok-root.root } in
    let more : c.read_listing.new.lines.lines ≡ [] → ⊥ = λ e. let on : c.is_over.result ≡ true = c.is_over.ensures.1 e in grind arith in
    let wrong : attack_of c.args.view.now c.args.bytes.now ≡ Err (fault.Syntax c.read_listing.new.lines.number) =
    joined c.args.view.now c.args.bytes.now c.new-lines.result c.read_head.new.lines c.read_leak.new.lines c.read_steps.new.lines c.read_root.new.lines c.read_listing.new.lines
    c.in_ok-leak.leak c.in_ok-steps.steps c.len.result c.in_ok-root.root c.in_ok-listing.listing
    c.new-lines.ensures c.in_ok-read_head.ensures c.in_ok-leak.ensures.reads (c.in_ok-steps.ensures.reads c.in_ok-leak.leak) c.len.ensures
    (c.in_ok-root.ensures.reads c.args.view.now c.in_ok-leak.leak c.in_ok-steps.steps (sym c.len.ensures)) (c.in_ok-listing.ensures.reads derivation)
    ∙ left_over c.args.view.now derivation c.in_ok-listing.listing c.read_listing.new.lines more in
    let at : c.number.result ≡ c.read_listing.new.lines.number = c.number.ensures in
    sym (wrong ∙ ap (λ (n : ℕ). wrong_at n) (sym at))

pub returns-clause-in_range : goal.returns-clause-in_range
returns-clause-in_range c =
    let derivation : Derivation = record { leak = c.in_ok-leak.leak; steps = c.in_ok-steps.steps; root = c.in_ok-root.root } in
    let attack : Attack = record { derivation = derivation; listing = c.in_ok-listing.listing } in
    let over : c.read_listing.new.lines.lines ≡ [] = let on : c.is_over.result ≡ true = grind arith in c.is_over.ensures.0 on in
    let right : attack_of c.args.view.now c.args.bytes.now ≡ Ok attack =
    joined c.args.view.now c.args.bytes.now c.new-lines.result c.read_head.new.lines c.read_leak.new.lines c.read_steps.new.lines c.read_root.new.lines c.read_listing.new.lines
    c.in_ok-leak.leak c.in_ok-steps.steps c.len.result c.in_ok-root.root c.in_ok-listing.listing
    c.new-lines.ensures c.in_ok-read_head.ensures c.in_ok-leak.ensures.reads (c.in_ok-steps.ensures.reads c.in_ok-leak.leak) c.len.ensures
    (c.in_ok-root.ensures.reads c.args.view.now c.in_ok-leak.leak c.in_ok-steps.steps (sym c.len.ensures)) (c.in_ok-listing.ensures.reads derivation)
    ∙ all_read c.args.view.now derivation c.in_ok-listing.listing c.read_listing.new.lines over in
    read_in_range c.args.view.now (lines_of c.args.bytes.now) nothing 1 attack tt right
