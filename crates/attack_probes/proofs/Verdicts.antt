-- From spans to attacks and sound derivations.
use Rattle.std.proofs.Common.{◌≡◌, ◌<◌, ◌≤◌, ◌+◌, ◌≢◌, ℕ, List, [], ◌∷◌, ◌++◌, Bool, true, false, true≢false, IsTrue, MatchBool, length, All, get_or, refl, sym, ap, ◌∙◌, subst, inl, inr, arith}
use Rattle.std.specs.Bool.{OnTrue}
use Rattle.std.proofs.lemmas.Bool.{cases_eq}
use Rattle.std.proofs.lemmas.List.{length-map, get_or_read}
use Rattle.std.proofs.lemmas.List.Elements.{All-map}
use Rattle.span_model.specs.Columns.{Columns, empty}
use Rattle.span_model.specs.Span.{InSpan, SameSpan}
use Rattle.span_model.specs.Attack.{Product, IsProbe, IsAttack, IsLeak}
use Rattle.span_model.specs.Closure.{co_operands as plain_co_operands}
use Rattle.span_model.proofs.Members.{spans_both, in_behind, in_front}
use Rattle.attack_model.specs.declared.attack.Derivation.{Derivation}
use Rattle.attack_model.specs.declared.attack.Listing.{Listing}
use Rattle.attack_model.specs.declared.attack.Listing.TheVariants.{Probes, Large}
use Rattle.attack_model.specs.declared.attack.Probe.{Probe}
use Rattle.attack_model.specs.declared.attack.Step.{Step}
use Rattle.linear_view.specs.declared.operand.Operand.{Operand}
use Rattle.attack_probes.specs.Derivations.{used_steps, IsDerived, IsSound}
use Rattle.attack_model.specs.Derivations.{IsInOrder, operand_of}
use Rattle.attack_probes.specs.Unfolding.{unfolding_of}
use Rattle.attack_probes.specs.Listings.{probes_of, HoldsBy}
use Rattle.attack_model.specs.Ranges.{probe_of}
use Rattle.attack_probes.specs.Operands.{rows_of, operand_rows, co_operands_of, operands_at}
use Rattle.attack_probes.proofs.Attacking.{unfolding_attacks}
use Rattle.attack_probes.proofs.Reading.{seen_rows, used_rows, rows_of_push}
use Rattle.attack_probes.proofs.Spanning.{same_in}

module _ {C : Type 0} where
  -- the rows of both lists span the same in either order
  pub swapped : (a b : List (Columns C)) → SameSpan (a ++ b) (b ++ a)
  swapped a b v = (
    λ m. spans_both (b ++ a) a b (in_front b a) (in_behind b a) v m,
    λ m. spans_both (a ++ b) b a (in_front a b) (in_behind a b) v m,
  )

  -- whether a step's own operand, behind the co-operands of its uses, spans the leak
  pub derived_if : (products : List (Product C)) (leak : Columns C) (steps : List Step) (step : Step) (answer : Bool)
      → MatchBool answer (InSpan (rows_of products (co_operands_of steps step.uses ++ operand_of step ∷ [])) leak)
      (¬ InSpan (rows_of products (co_operands_of steps step.uses ++ operand_of step ∷ [])) leak)
      → MatchBool answer (IsDerived products leak steps step) (¬ IsDerived products leak steps step)
  derived_if products leak steps step answer h =
      let own = operand_rows products (operand_of step) in
      let used = plain_co_operands products (used_steps steps step.uses) in
      let rows : rows_of products (co_operands_of steps step.uses ++ operand_of step ∷ []) ≡ used ++ own =
      rows_of_push products (co_operands_of steps step.uses) (operand_of step) ∙ ap (λ (x : List (Columns C)). x ++ own) (used_rows products steps step.uses) in
      same_in (used ++ own) (own ++ used) leak answer (swapped used own)
      (subst (λ (x : List (Columns C)). MatchBool answer (InSpan x leak) (¬ InSpan x leak)) rows h)

  pub probes_attack : (products : List (Product C)) (leak : Columns C) (list : List Probe) → leak ≢ empty
      → (n : ℕ) → length products ≡ n → All (λ listed. IsProbe n (length list) (probe_of listed)) list
      → ((s : ℕ) → s ≤ length list → InSpan (rows_of products (operands_at list s)) leak)
      → IsAttack products (length list) leak (probes_of list)
  probes_attack products leak list nonempty n many among each = record {
    count = length-map list probe_of;
    within = subst (λ (x : ℕ). All (IsProbe x (length list)) (probes_of list)) (sym many) (All-map (IsProbe n (length list)) probe_of list among);
    nonempty = nonempty;
    spanned = λ s le. subst (λ (x : List (Columns C)). InSpan x leak) (seen_rows products list s) (each s le);
  }

  pub attack_spans : (products : List (Product C)) (leak : Columns C) (list : List Probe) → IsAttack products (length list) leak (probes_of list)
      → (s : ℕ) → s ≤ length list → InSpan (rows_of products (operands_at list s)) leak
  attack_spans products leak list attack s le = subst (λ (x : List (Columns C)). InSpan x leak) (sym (seen_rows products list s)) (attack.spanned s le)

  -- what holds has probes that are an attack
  pub holds_leak : (products : List (Product C)) (leak : Columns C) (derivation : Derivation) (listing : Listing)
      → (n : ℕ) → length products ≡ n → All (λ step. step.product < n) derivation.steps → IsInOrder derivation.steps derivation.root
      → HoldsBy products leak derivation listing → IsLeak products leak
  holds_leak products leak derivation (Probes list) n many among order attack = (length list, probes_of list, attack)
  holds_leak products leak derivation Large n many among order sound = (
    length (unfolding_of derivation.steps derivation.root),
    unfolding_of derivation.steps derivation.root,
    unfolding_attacks products leak derivation.steps derivation.root
        (subst (λ (x : ℕ). All (λ (step : Step). step.product < x) derivation.steps) (sym many) among) order sound,
  )

-- what an answer tells
pub told_true : (P : Type 0) (answer : Bool) → answer ≡ true → MatchBool answer P (¬ P) → P
told_true P true e h = h
told_true P false e h = absurd (true≢false (sym e))

pub told_false : (P : Type 0) (answer : Bool) → answer ≡ false → MatchBool answer P (¬ P) → ¬ P
told_false P true e h = absurd (true≢false e)
told_false P false e h = h

pub on_true : (P Q : Type 0) (answer : Bool) → (P → Q) → (IsTrue answer → P) × (P → IsTrue answer) → OnTrue answer Q
on_true P Q true follows h = follows (h.0 refl)
on_true P Q false follows h = tt

module _ {C : Type 0} where
  pub derived_more : (products : List (Product C)) (leak : Columns C) (steps : List Step) (index : ℕ) (step : Step) → index < length steps
      → step ≡ get_or steps index step → ((k : ℕ) (d : Step) → k < index → IsDerived products leak steps (get_or steps k d))
      → IsDerived products leak steps step → (k : ℕ) (d : Step) → k < index + 1 → IsDerived products leak steps (get_or steps k d)
  derived_more products leak steps index step within is before now k d lt = elim (cases_eq k index) [
    | inl same ↦ subst (λ (x : Step). IsDerived products leak steps x) (get_or_read steps index step within is d ∙ ap (λ (x : ℕ). get_or steps x d) (sym same)) now
    | inr other ↦ before k d (omega arith)
  ]

  pub not_sound : (products : List (Product C)) (leak : Columns C) (all steps : List Step) (root : List ℕ) (index : ℕ) (step : Step) → all ≡ steps → index < length all
      → step ≡ get_or all index step → ¬ IsDerived products leak all step → ¬ IsSound products leak steps root
  not_sound products leak all steps root index step same within is not sound =
      let all_sound : IsSound products leak all root = subst (λ (x : List Step). IsSound products leak x root) (sym same) sound in
      not (subst (λ (x : Step). IsDerived products leak all x) (sym is) (all_sound.derived index step within))

  sound_by : (products : List (Product C)) (leak : Columns C) (all : List Step) (root : List ℕ) (answer : Bool) → leak ≢ empty
      → ((k : ℕ) (d : Step) → k < length all → IsDerived products leak all (get_or all k d))
      → MatchBool answer (InSpan (plain_co_operands products (used_steps all root)) leak) (¬ InSpan (plain_co_operands products (used_steps all root)) leak)
      → (IsTrue answer → IsSound products leak all root) × (IsSound products leak all root → IsTrue answer)
  sound_by products leak all root true nonempty derived h = (λ e. record { nonempty = nonempty; derived = derived; shown = h }, λ s. refl)
  sound_by products leak all root false nonempty derived h = (λ e. absurd (true≢false (sym e)), λ s. absurd (h s.shown))

  pub sound_if : (products : List (Product C)) (leak : Columns C) (all steps : List Step) (root : List ℕ) (answer : Bool) → all ≡ steps → leak ≢ empty
      → ((k : ℕ) (d : Step) → k < length all → IsDerived products leak all (get_or all k d))
      → MatchBool answer (InSpan (rows_of products (co_operands_of all root)) leak) (¬ InSpan (rows_of products (co_operands_of all root)) leak)
      → (IsTrue answer → IsSound products leak steps root) × (IsSound products leak steps root → IsTrue answer)
  sound_if products leak all steps root answer same nonempty derived h =
      let whole : MatchBool answer (InSpan (plain_co_operands products (used_steps all root)) leak) (¬ InSpan (plain_co_operands products (used_steps all root)) leak) =
      subst (λ (x : List (Columns C)). MatchBool answer (InSpan x leak) (¬ InSpan x leak)) (used_rows products all root) h in
      subst (λ (x : List Step). (IsTrue answer → IsSound products leak x root) × (IsSound products leak x root → IsTrue answer)) same
      (sound_by products leak all root answer nonempty derived whole)

-- the operands of a share
pub share_operands : (list : List Probe) (items shares : List (List Operand)) → items ≡ shares
    → (length shares ≡ length list + 1) × ((s : ℕ) → s ≤ length list → get_or shares s [] ≡ operands_at list s)
    → (length items ≡ length list + 1) × ((s : ℕ) → s ≤ length list → get_or items s [] ≡ operands_at list s)
share_operands list items shares same h = (ap length same ∙ h.0, λ s le. ap (λ (x : List (List Operand)). get_or x s []) same ∙ h.1 s le)

-- the operands of a step: the co-operands of its uses, with its own operand behind them
pub step_operands : (steps : List Step) (step : Step) (uses : List ℕ) (all pushed items : List Operand) (own : Operand)
    → all ≡ pushed → pushed ≡ items ++ own ∷ [] → items ≡ co_operands_of steps uses → uses ≡ step.uses → own ≡ operand_of step
    → all ≡ co_operands_of steps step.uses ++ operand_of step ∷ []
step_operands steps step uses all pushed items own a b c d e =
    a ∙ b ∙ ap (λ (x : List Operand). x ++ own ∷ []) c
    ∙ ap (λ (x : List ℕ). co_operands_of steps x ++ own ∷ []) d
    ∙ ap (λ (x : Operand). co_operands_of steps step.uses ++ x ∷ []) e
