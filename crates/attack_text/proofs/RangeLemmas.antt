-- An attack that a text spells is in range.
use Rattle.std.proofs.Common.{◌≡◌, ℕ, suc, ◌+◌, ◌<◌, ◌≤◌, Bool, true, false, ltb, leb, if◌then◌else◌, List, [], ◌∷◌, ◌++◌, length, Option, None, Some, Result, Ok, Err, refl, sym, ap, ◌∙◌, subst, inl, inr, arith, length-append}
use Rattle.std.specs.List.{list_all}
use Rattle.std.proofs.lemmas.Bool.{cases_Bool, and_parts, and_from, ltb-true, ltb-false}
use Rattle.linear_view.specs.View.{LinearView}
use Rattle.attack_text.specs.Forms.{leak_form, steps_form, step_form, root_form, listing_form, probe_form}
use Rattle.attack_text.specs.Ranges.{is_steps_count, is_step, is_probe}
use Rattle.attack_text.proofs.TestLemmas.{are_steps, is_listed, PassesTests, tests_in_range}
use Rattle.attack_model.specs.Derivations.{are_uses}
use Rattle.attack_model.specs.Ranges.{InRange}
use Rattle.attack_model.specs.declared.attack.TheConstants.{MAX_PROBES}
use Rattle.column_lists.specs.Rows.{named_row}
use Rattle.column_lists.proofs.RowLemmas.{named_size}
use Rattle.attack_text.specs.Reading.{SoFar, nothing, second, opened, with_leak, with_steps, with_root, with_probes, with_large, said_in_range, leak_in_order, leak_at, added, with_version, with_listing, is_listing, unless_fault, at_end, attack_from, version_line, core_line, leak_line, steps_line, step_line, root_line, listing_line, probe_line}
use Rattle.attack_model.specs.declared.attack.Attack.{Attack}
use Rattle.attack_model.specs.declared.attack.Derivation.{Derivation}
use Rattle.attack_model.specs.declared.attack.Listing.TheVariants.{Probes, Large}
use Rattle.attack_model.specs.declared.attack.Probe.{Probe}
use Rattle.attack_model.specs.declared.attack.Step.{Step}
use Rattle.attack_text.specs.declared.read.CertFault.{CertFault}
use Rattle.attack_text.specs.declared.read.CertFault.TheVariants as fault
use Rattle.text_lines.proofs.WrittenLemmas.{list_all_append}

-- a derivation in range
pub record Derives (view : LinearView) (derivation : Derivation) : Type 0 where
  pub leak : length derivation.leak ≡ length view.columns
  pub count : is_steps_count view (length derivation.steps) ≡ true
  pub steps : are_steps view 0 derivation.steps ≡ true
  pub root : are_uses 0 (length derivation.steps) derivation.root ≡ true

-- steps in range, of n
pub record Stepping (view : LinearView) (leak : List Bool) (n : ℕ) (steps : List Step) : Type 0 where
  pub leak_size : length leak ≡ length view.columns
  pub count : is_steps_count view n ≡ true
  pub in_range : are_steps view 0 steps ≡ true
  pub some_left : length steps ≤ n

-- probes in range, of t
pub record Probing (view : LinearView) (derivation : Derivation) (t : ℕ) (probes : List Probe) : Type 0 where
  pub derives : Derives view derivation
  pub few : leb t MAX_PROBES ≡ true
  pub in_range : list_all (is_probe view t) probes ≡ true
  pub some_left : length probes ≤ t

abbrev pub SoFarInRange : LinearView → SoFar → Type 0
SoFarInRange view nothing = Unit {0}
SoFarInRange view second = Unit {0}
SoFarInRange view opened = Unit {0}
SoFarInRange view (with_leak leak) = length leak ≡ length view.columns
SoFarInRange view (with_steps leak n steps) = Stepping view leak n steps
SoFarInRange view (with_root derivation) = Derives view derivation
SoFarInRange view (with_probes derivation t probes) = Probing view derivation t probes
SoFarInRange view (with_large derivation) = Derives view derivation

pub no_ok : {X : Type 0} (wrong : CertFault) (x : X) → Err wrong ≡ Ok x → ⊥
no_ok wrong x e = cc

pub no_some : (leak : List Bool) → None ≡ Some leak → ⊥
no_some leak e = cc

abbrev pub value_or : {X : Type 0} → X → Result X CertFault → X
value_or d (Ok x) = x
value_or d (Err wrong) = d

-- what a line said, and what follows it
pub then_ok : {X : Type 0} (next : X → SoFar) (said : Result X CertFault) (follows : SoFar → Result Attack CertFault) (attack : Attack)
    → unless_fault (added next said) follows ≡ Ok attack → (x : X) × (said ≡ Ok x) × (follows (next x) ≡ Ok attack)
then_ok next (Ok x) follows attack e = (x, refl, e)
then_ok next (Err wrong) follows attack e = absurd (no_ok wrong attack e)

pub pick_ok : {X : Type 0} (b : Bool) (said x : X) (wrong : CertFault) → (if b then Ok said else Err wrong) ≡ Ok x → (b ≡ true) × (said ≡ x)
pick_ok true said x wrong e = (refl, ap (value_or said) e)
pick_ok false said x wrong e = absurd (no_ok wrong x e)

pub said_ok : {X : Type 0} (k : ℕ) (said : Option X) (test : X → Bool) (x : X) → said_in_range k said test ≡ Ok x → test x ≡ true
said_ok k None test x e = absurd (no_ok (fault.Syntax k) x e)
said_ok k (Some said) test x e = let w = pick_ok (test said) said x (fault.OutOfRange k) e in ap test (sym w.1) ∙ w.0

pub in_order_ok : (k : ℕ) (found : Option (List Bool)) (leak : List Bool) → leak_in_order k found ≡ Ok leak → found ≡ Some leak
in_order_ok k None leak e = absurd (no_ok (fault.OutOfRange k) leak e)
in_order_ok k (Some bits) leak e = ap (λ (b : List Bool). Some b) (ap (value_or bits) e)

leak_ok : (view : LinearView) (k : ℕ) (form : Option (List (List ℕ))) (leak : List Bool) → leak_at view k form ≡ Ok leak → length leak ≡ length view.columns
leak_ok view k None leak e = absurd (no_ok (fault.Syntax k) leak e)
leak_ok view k (Some columns) leak e = named_size view.columns columns leak (in_order_ok k (named_row view.columns columns) leak e)

are_steps_push : (view : LinearView) (i : ℕ) (steps : List Step) (step : Step) → are_steps view i steps ≡ true → is_step view (i + length steps) step ≡ true
    → are_steps view i (steps ++ step ∷ []) ≡ true
are_steps_push view i [] step h k =
    let first : is_step view i step ≡ true = ap (λ (n : ℕ). is_step view n step) (let same : i ≡ i + length {A = Step} [] = omega arith in same) ∙ k in
    and_from (is_step view i step) true first refl
are_steps_push view i (earlier ∷ steps) step h k =
    let w = and_parts (is_step view i earlier) (are_steps view (suc i) steps) h in
    let last : is_step view (suc i + length steps) step ≡ true = ap (λ (n : ℕ). is_step view n step) (let same : suc i + length steps ≡ i + suc (length steps) = omega arith in same) ∙ k in
    and_from (is_step view i earlier) (are_steps view (suc i) (steps ++ step ∷ [])) w.0 (are_steps_push view (suc i) steps step w.1 last)

after_version : (view : LinearView) (two : Bool) → SoFarInRange view (with_version two)
after_version view true = tt
after_version view false = tt

after_listing : (view : LinearView) (derivation : Derivation) (count : Option ℕ) → Derives view derivation → is_listing count ≡ true → SoFarInRange view (with_listing derivation count)
after_listing view derivation None derives few = derives
after_listing view derivation (Some t) derives few = record { derives = derives; few = few; in_range = refl; some_left = omega arith }

ends_ok : (view : LinearView) (so_far : SoFar) (k : ℕ) (attack : Attack) → SoFarInRange view so_far → at_end so_far k ≡ Ok attack → PassesTests view attack
ends_ok view nothing k attack ok e = absurd (no_ok (fault.Syntax k) attack e)
ends_ok view second k attack ok e = absurd (no_ok (fault.Syntax k) attack e)
ends_ok view opened k attack ok e = absurd (no_ok (fault.Syntax k) attack e)
ends_ok view (with_leak leak) k attack ok e = absurd (no_ok (fault.Syntax k) attack e)
ends_ok view (with_steps leak n steps) k attack ok e = absurd (no_ok (fault.Syntax k) attack e)
ends_ok view (with_root derivation) k attack ok e = absurd (no_ok (fault.Syntax k) attack e)
ends_ok view (with_probes derivation t probes) k attack ok e =
    elim (cases_Bool (ltb (length probes) t)) [
      | inl missing ↦
          (let f : Err (fault.Syntax k) ≡ Ok attack = sym (rw missing refl) ∙ e in
          absurd (no_ok (fault.Syntax k) attack f))
      | inr all ↦
          (let whole : Attack = record { derivation = derivation; listing = Probes probes } in
          let f : at_end (with_probes derivation t probes) k ≡ Ok whole = rw all refl in
          let same : whole ≡ attack = ap (value_or whole) (sym f ∙ e) in
          let past : t ≤ length probes = ltb-false _ _ all in
          let within : length probes ≤ t = ok.some_left in
          let count : t ≡ length probes = omega arith in
          let listed : is_listed view (Probes probes) ≡ true =
          and_from (leb (length probes) MAX_PROBES) (list_all (is_probe view (length probes)) probes)
          (subst (λ (n : ℕ). leb n MAX_PROBES ≡ true) count ok.few) (subst (λ (n : ℕ). list_all (is_probe view n) probes ≡ true) count ok.in_range) in
          subst (PassesTests view) same
          (record { leak = ok.derives.leak; steps_count = ok.derives.count; steps = ok.derives.steps; root = ok.derives.root; listing = listed }))
    ]
ends_ok view (with_large derivation) k attack ok e =
    let whole : Attack = record { derivation = derivation; listing = Large } in
    let same : whole ≡ attack = ap (value_or whole) e in
    subst (PassesTests view) same (record { leak = ok.leak; steps_count = ok.count; steps = ok.steps; root = ok.root; listing = refl })

-- what lines say of an attack passes the tests
passes_from : (view : LinearView) (lines : List (Option (List (List ℕ)))) (so_far : SoFar) (k : ℕ) (attack : Attack) → SoFarInRange view so_far
    → attack_from view so_far k lines ≡ Ok attack → PassesTests view attack
passes_from view [] so_far k attack ok e = ends_ok view so_far k attack ok e
passes_from view (None ∷ lines) so_far k attack ok e = absurd (no_ok (fault.Syntax k) attack e)
passes_from view (Some words ∷ lines) nothing k attack ok e =
    let w = then_ok with_version (version_line k words) (λ next. attack_from view next (k + 1) lines) attack e in
    passes_from view lines (with_version w.0) (k + 1) attack (after_version view w.0) w.2
passes_from view (Some words ∷ lines) second k attack ok e =
    let w = then_ok (λ _. opened) (core_line view k words) (λ next. attack_from view next (k + 1) lines) attack e in
    passes_from view lines opened (k + 1) attack tt w.2
passes_from view (Some words ∷ lines) opened k attack ok e =
    let w = then_ok with_leak (leak_line view k words) (λ next. attack_from view next (k + 1) lines) attack e in
    passes_from view lines (with_leak w.0) (k + 1) attack (leak_ok view k (leak_form words) w.0 w.1) w.2
passes_from view (Some words ∷ lines) (with_leak leak) k attack ok e =
    let w = then_ok (λ n. with_steps leak n []) (steps_line view k words) (λ next. attack_from view next (k + 1) lines) attack e in
    passes_from view lines (with_steps leak w.0 []) (k + 1) attack
    (record { leak_size = ok; count = said_ok k (steps_form words) (is_steps_count view) w.0 w.1; in_range = refl; some_left = omega arith }) w.2
passes_from view (Some words ∷ lines) (with_steps leak n steps) k attack ok e =
    elim (cases_Bool (ltb (length steps) n)) [
      | inl missing ↦
          (let f : unless_fault (added (λ step. with_steps leak n (steps ++ step ∷ [])) (step_line view (length steps) k words)) (λ next. attack_from view next (k + 1) lines) ≡ Ok attack =
          sym (rw missing refl) ∙ e in
          let w = then_ok (λ step. with_steps leak n (steps ++ step ∷ [])) (step_line view (length steps) k words) (λ next. attack_from view next (k + 1) lines) attack f in
          let step_ok : is_step view (length steps) w.0 ≡ true = said_ok k (step_form (length steps) words) (is_step view (length steps)) w.0 w.1 in
          let step_ok_at : is_step view (0 + length steps) w.0 ≡ true = ap (λ (m : ℕ). is_step view m w.0) (let same : 0 + length steps ≡ length steps = omega arith in same) ∙ step_ok in
          let below : length steps < n = ltb-true _ _ missing in
          passes_from view lines (with_steps leak n (steps ++ w.0 ∷ [])) (k + 1) attack
          (record {
            leak_size = ok.leak_size;
            count = ok.count;
            in_range = are_steps_push view 0 steps w.0 ok.in_range step_ok_at;
            some_left = omega (arith, length-append steps (w.0 ∷ []));
          })
          w.2)
      | inr all ↦
          (let f : unless_fault (added (λ root. with_root (record { leak = leak; steps = steps; root = root })) (root_line n k words)) (λ next. attack_from view next (k + 1) lines) ≡ Ok attack =
          sym (rw all refl) ∙ e in
          let w = then_ok (λ root. with_root (record { leak = leak; steps = steps; root = root })) (root_line n k words) (λ next. attack_from view next (k + 1) lines) attack f in
          let root_ok : are_uses 0 n w.0 ≡ true = said_ok k (root_form words) (are_uses 0 n) w.0 w.1 in
          let past : n ≤ length steps = ltb-false _ _ all in
          let within : length steps ≤ n = ok.some_left in
          let count : n ≡ length steps = omega arith in
          passes_from view lines (with_root (record { leak = leak; steps = steps; root = w.0 })) (k + 1) attack
          (record {
            leak = ok.leak_size;
            count = subst (λ (m : ℕ). is_steps_count view m ≡ true) count ok.count;
            steps = ok.in_range;
            root = subst (λ (m : ℕ). are_uses 0 m w.0 ≡ true) count root_ok;
          })
          w.2)
    ]
passes_from view (Some words ∷ lines) (with_root derivation) k attack ok e =
    let w = then_ok (with_listing derivation) (listing_line k words) (λ next. attack_from view next (k + 1) lines) attack e in
    passes_from view lines (with_listing derivation w.0) (k + 1) attack
    (after_listing view derivation w.0 ok (said_ok k (listing_form words) is_listing w.0 w.1)) w.2
passes_from view (Some words ∷ lines) (with_probes derivation t probes) k attack ok e =
    elim (cases_Bool (ltb (length probes) t)) [
      | inl missing ↦
          (let f : unless_fault (added (λ probe. with_probes derivation t (probes ++ probe ∷ [])) (probe_line view t k words)) (λ next. attack_from view next (k + 1) lines) ≡ Ok attack =
          sym (rw missing refl) ∙ e in
          let w = then_ok (λ probe. with_probes derivation t (probes ++ probe ∷ [])) (probe_line view t k words) (λ next. attack_from view next (k + 1) lines) attack f in
          let probe_ok : is_probe view t w.0 ≡ true = said_ok k (probe_form words) (is_probe view t) w.0 w.1 in
          let below : length probes < t = ltb-true _ _ missing in
          passes_from view lines (with_probes derivation t (probes ++ w.0 ∷ [])) (k + 1) attack
          (record {
            derives = ok.derives;
            few = ok.few;
            in_range = list_all_append (is_probe view t) probes (w.0 ∷ []) ok.in_range (and_from (is_probe view t w.0) true probe_ok refl);
            some_left = omega (arith, length-append probes (w.0 ∷ []));
          })
          w.2)
      | inr all ↦ (let f : Err (fault.Syntax k) ≡ Ok attack = sym (rw all refl) ∙ e in absurd (no_ok (fault.Syntax k) attack f))
    ]
passes_from view (Some words ∷ lines) (with_large derivation) k attack ok e = absurd (no_ok (fault.Syntax k) attack e)

-- an attack that a text spells is in range
pub read_in_range : (view : LinearView) (lines : List (Option (List (List ℕ)))) (so_far : SoFar) (k : ℕ) (attack : Attack) → SoFarInRange view so_far
    → attack_from view so_far k lines ≡ Ok attack → InRange view attack
read_in_range view lines so_far k attack ok e = tests_in_range view attack (passes_from view lines so_far k attack ok e)
