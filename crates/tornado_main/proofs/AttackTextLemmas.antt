-- All bytes have an attack or a fault.
use Rattle.std.proofs.Common.{◌≡◌, ◌⊎◌, inl, inr, ℕ, ◌+◌, Bool, true, false, List, [], ◌∷◌, ◌++◌, length, Option, Some, None, Result, Ok, Err, refl}
use Rattle.std.specs.Prelude.{if◌then◌else◌, ◌==◌, ◌&&◌, nat_lt, ◌^◌}
use Rattle.linear_view.specs.View.{LinearView}
use Rattle.attack_model.specs.declared.attack.Attack.{Attack}
use Rattle.attack_text.specs.Forms.{Counts, version_form, core_form, leak_form, steps_form, step_form, root_form, listing_form, probe_form}
use Rattle.attack_text.specs.Ranges.{is_steps_count, is_step, is_probe}
use Rattle.attack_text.specs.Reading.{said_in_range, counts_of_view, leak_in_order, leak_at, core_line, leak_line, SoFar, nothing, second, opened, with_leak, with_steps, with_root, with_probes, with_large, added, with_version, with_listing, version_line, steps_line, step_line, root_line, listing_line, probe_line, is_listing, after_line, at_end, unless_fault, attack_from, attack_of}
use Rattle.attack_text.specs.declared.read.CertFault.{CertFault}
use Rattle.attack_text.specs.declared.read.CertFault.TheVariants as fault
use Rattle.attack_model.specs.Derivations.{are_uses}
use Rattle.column_lists.specs.Rows.{named_row}
use Rattle.text_lines.specs.Lines.{lines_of}
use Rattle.tornado_main.specs.commands.Verify.{SpellsAttack, IsFaultyAttack, syntax, out_of_range, other_core}
use Rattle.tornado_main.specs.declared.message.Fault.{Fault}

-- a fault of the text
abbrev IsOfText : CertFault → Type 0
IsOfText (fault.Syntax line) = Unit {0}
IsOfText (fault.OutOfRange line) = Unit {0}
IsOfText (fault.OtherCore line) = Unit {0}
IsOfText (fault.Memory error) = ⊥

-- what is said, or a fault of the text
abbrev IsSaid : {X : Type 0} → Result X CertFault → Type 0
IsSaid (Ok said) = Unit {0}
IsSaid (Err wrong) = IsOfText wrong

either_said : {X : Type 0} (b : Bool) (x y : Result X CertFault) → IsSaid x → IsSaid y → IsSaid (if b then x else y)
either_said true x y hx hy = hx
either_said false x y hx hy = hy

range_said : {X : Type 0} (k : ℕ) (o : Option X) (is_in_range : X → Bool) → IsSaid (said_in_range k o is_in_range)
range_said k None is_in_range = tt
range_said k (Some said) is_in_range = either_said (is_in_range said) (Ok said) (Err (fault.OutOfRange k)) tt tt

counts_said : (view : LinearView) (k : ℕ) (r : Result Counts CertFault) → IsSaid r → IsSaid (counts_of_view view k r)
counts_said view k (Err wrong) said = said
counts_said view k (Ok counts) said =
    either_said ((counts.columns == length view.columns) && (counts.products == length view.products)) (Ok counts) (Err (fault.OtherCore k)) tt tt

order_said : (k : ℕ) (o : Option (List Bool)) → IsSaid (leak_in_order k o)
order_said k None = tt
order_said k (Some leak) = tt

leak_said : (view : LinearView) (k : ℕ) (o : Option (List (List ℕ))) → IsSaid (leak_at view k o)
leak_said view k None = tt
leak_said view k (Some columns) = order_said k (named_row view.columns columns)

added_said : {X : Type 0} (next : X → SoFar) (r : Result X CertFault) → IsSaid r → IsSaid (added next r)
added_said next (Ok x) said = tt
added_said next (Err wrong) said = said

-- each line says something or is at fault
line_said : (view : LinearView) (so_far : SoFar) (k : ℕ) (words : List (List ℕ)) → IsSaid (after_line view so_far k words)
line_said view nothing k words = added_said with_version (version_line k words) (range_said k (version_form words) (λ _. true))
line_said view second k words =
    let in_range : Counts → Bool = λ counts. nat_lt counts.columns (2 ^ 32) && nat_lt counts.products (2 ^ 32) in
    added_said (λ counts. opened) (core_line view k words)
    (counts_said view k (said_in_range k (core_form words) in_range) (range_said k (core_form words) in_range))
line_said view opened k words = added_said with_leak (leak_line view k words) (leak_said view k (leak_form words))
line_said view (with_leak leak) k words =
    added_said (λ n. with_steps leak n []) (steps_line view k words) (range_said k (steps_form words) (is_steps_count view))
line_said view (with_steps leak n steps) k words =
    either_said (nat_lt (length steps) n) (added (λ step. with_steps leak n (steps ++ step ∷ [])) (step_line view (length steps) k words))
    (added (λ root. with_root (record { leak = leak; steps = steps; root = root })) (root_line n k words))
    (added_said (λ step. with_steps leak n (steps ++ step ∷ [])) (step_line view (length steps) k words)
    (range_said k (step_form (length steps) words) (is_step view (length steps))))
    (added_said (λ root. with_root (record { leak = leak; steps = steps; root = root })) (root_line n k words)
    (range_said k (root_form words) (are_uses 0 n)))
line_said view (with_root derivation) k words =
    added_said (with_listing derivation) (listing_line k words) (range_said k (listing_form words) is_listing)
line_said view (with_probes derivation t probes) k words =
    either_said (nat_lt (length probes) t)
    (added (λ probe. with_probes derivation t (probes ++ probe ∷ [])) (probe_line view t k words)) (Err (fault.Syntax k))
    (added_said (λ probe. with_probes derivation t (probes ++ probe ∷ [])) (probe_line view t k words)
    (range_said k (probe_form words) (is_probe view t)))
    tt
line_said view (with_large derivation) k words = tt

end_said : (so_far : SoFar) (k : ℕ) → IsSaid (at_end so_far k)
end_said nothing k = tt
end_said second k = tt
end_said opened k = tt
end_said (with_leak leak) k = tt
end_said (with_steps leak n steps) k = tt
end_said (with_root derivation) k = tt
end_said (with_probes derivation t probes) k =
    either_said (nat_lt (length probes) t) (Err (fault.Syntax k)) _ tt tt
end_said (with_large derivation) k = tt

unless_said : (r : Result SoFar CertFault) (follows : SoFar → Result Attack CertFault) → IsSaid r → ((next : SoFar) → IsSaid (follows next))
    → IsSaid (unless_fault r follows)
unless_said (Ok next) follows said goes_on = goes_on next
unless_said (Err wrong) follows said goes_on = said

text_said : (view : LinearView) (so_far : SoFar) (k : ℕ) (lines : List (Option (List (List ℕ)))) → IsSaid (attack_from view so_far k lines)
text_said view so_far k [] = end_said so_far k
text_said view so_far k (None ∷ lines) = tt
text_said view so_far k (Some words ∷ lines) =
    unless_said (after_line view so_far k words) (λ next. attack_from view next (k + 1) lines) (line_said view so_far k words)
    (λ next. text_said view next (k + 1) lines)

-- all bytes spell an attack on a view, or have a fault as one
pub attack_read : (view : LinearView) (bytes : List ℕ)
    → ((attack : Attack) × SpellsAttack view attack bytes) ⊎ ((wrong : Fault) × IsFaultyAttack view wrong bytes)
attack_read view bytes = by_answer (attack_of view bytes) refl (text_said view nothing 1 (lines_of bytes))
  where
    by_answer : (r : Result Attack CertFault) → attack_of view bytes ≡ r → IsSaid r
        → ((attack : Attack) × SpellsAttack view attack bytes) ⊎ ((wrong : Fault) × IsFaultyAttack view wrong bytes)
    by_answer (Ok attack) is said = inl (attack, is)
    by_answer (Err (fault.Syntax line)) is said = inr (_, syntax bytes line is)
    by_answer (Err (fault.OutOfRange line)) is said = inr (_, out_of_range bytes line is)
    by_answer (Err (fault.OtherCore line)) is said = inr (_, other_core bytes line is)
    by_answer (Err (fault.Memory error)) is said = absurd said
