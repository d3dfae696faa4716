-- What is written of an attack is read as the same attack.
use Rattle.std.proofs.Common.{◌≡◌, ℕ, suc, ◌+◌, ◌*◌, ◌^◌, ◌<◌, ◌≤◌, Bool, true, false, ltb, leb, eqb, ◌&&◌, List, [], ◌∷◌, ◌++◌, length, map, Option, None, Some, Result, Ok, Err, refl, sym, ap, ◌∙◌, subst, inl, inr, arith, append_assoc, append-nil, length-append, codes, decimal}
use Rattle.std.specs.Char.{is_ascii_digit}
use Rattle.std.specs.List.{list_all}
use Rattle.std.specs.Str.{bytes_eq}
use Rattle.std.proofs.lemmas.Bool.{true≢false, cases_Bool, and_parts, and_from, cond-true, cond-false, ltb-true, leb-true, lt-ltb, le-ltb, eq-eqb}
use Rattle.std.proofs.lemmas.Slice.Eq.{bytes_eq-Decides}
use Rattle.linear_view.specs.View.{LinearView, IsView}
use Rattle.attack_text.specs.AttackText.{side_word, core_words, step_words, steps_text, steps_count_text, counted_steps_text, root_text, probe_words, probes_text, listing_text, leak_text, head_text, body_text, attack_text, first_version_text}
use Rattle.attack_text.specs.Forms.{Counts, core_form, side_of, leak_form, steps_form, step_form, root_form, listing_form, probe_form}
use Rattle.attack_text.specs.Ranges.{is_steps_count, is_step, is_probe}
use Rattle.attack_text.proofs.TestLemmas.{are_steps, is_listed, PassesTests, in_range_passes}
use Rattle.attack_model.specs.Derivations.{are_uses}
use Rattle.attack_model.specs.Ranges.{InRange}
use Rattle.attack_model.specs.declared.attack.TheConstants.{MAX_PROBES}
use Rattle.column_lists.specs.Names.{are_columns}
use Rattle.column_lists.specs.Rows.{column_words}
use Rattle.column_lists.proofs.ReadLemmas.{Differ, AreSmall, row_back, row_columns, row_plain}
use Rattle.attack_text.specs.Reading.{SoFar, nothing, second, opened, with_leak, with_steps, with_root, with_probes, with_large, said_in_range, counts_of_view, leak_in_order, leak_at, with_listing, added, unless_fault, attack_from, after_line, is_listing, attack_of}
use Rattle.attack_model.specs.declared.attack.Attack.{Attack}
use Rattle.attack_model.specs.declared.attack.Derivation.{Derivation}
use Rattle.attack_model.specs.declared.attack.Listing.{Listing}
use Rattle.attack_model.specs.declared.attack.Listing.TheVariants.{Probes, Large}
use Rattle.attack_model.specs.declared.attack.Probe.{Probe}
use Rattle.linear_view.specs.declared.operand.Side.{Side}
use Rattle.linear_view.specs.declared.operand.Side.TheVariants.{Left, Right}
use Rattle.attack_model.specs.declared.attack.Step.{Step}
use Rattle.attack_text.specs.declared.read.CertFault.{CertFault}
use Rattle.attack_text.specs.declared.read.CertFault.TheVariants as fault
use Rattle.text_lines.specs.Lines.{lines_of}
use Rattle.text_lines.specs.Numbers.{is_number, value_of}
use Rattle.text_lines.specs.Words.{line_text, is_plain_word, are_plain_words}
use Rattle.text_lines.proofs.WrittenLemmas.{lines_of_line, decimal_digits, value_of_decimal, is_number_decimal, is_plain_decimal}

-- numbers
uses_plain : (least n : ℕ) (uses : List ℕ) → n < 2 ^ 64 → are_uses least n uses ≡ true → are_plain_words (map decimal uses) ≡ true
uses_plain least n [] small h = refl
uses_plain least n (earlier ∷ uses) small h =
    let w = and_parts (leb least earlier && ltb earlier n) (are_uses (suc earlier) n uses) h in
    let v = and_parts (leb least earlier) (ltb earlier n) w.0 in
    let below : earlier < n = ltb-true earlier n v.1 in
    and_from (is_plain_word (decimal earlier)) (are_plain_words (map decimal uses)) (is_plain_decimal earlier (omega arith)) (uses_plain (suc earlier) n uses small w.1)

uses_numbers : (least n : ℕ) (uses : List ℕ) → n < 2 ^ 64 → are_uses least n uses ≡ true → list_all is_number (map decimal uses) ≡ true
uses_numbers least n [] small h = refl
uses_numbers least n (earlier ∷ uses) small h =
    let w = and_parts (leb least earlier && ltb earlier n) (are_uses (suc earlier) n uses) h in
    let v = and_parts (leb least earlier) (ltb earlier n) w.0 in
    let below : earlier < n = ltb-true earlier n v.1 in
    and_from (is_number (decimal earlier)) (list_all is_number (map decimal uses)) (is_number_decimal earlier (omega arith)) (uses_numbers (suc earlier) n uses small w.1)

uses_values : (least n : ℕ) (uses : List ℕ) → n < 2 ^ 64 → are_uses least n uses ≡ true → map value_of (map decimal uses) ≡ uses
uses_values least n [] small h = refl
uses_values least n (earlier ∷ uses) small h =
    let w = and_parts (leb least earlier && ltb earlier n) (are_uses (suc earlier) n uses) h in
    let v = and_parts (leb least earlier) (ltb earlier n) w.0 in
    let below : earlier < n = ltb-true earlier n v.1 in
    ap (λ (m : ℕ). m ∷ map value_of (map decimal uses)) (value_of_decimal earlier (omega arith)) ∙ ap (λ (ms : List ℕ). earlier ∷ ms) (uses_values (suc earlier) n uses small w.1)

-- one line that is written is read
line_back : (view : LinearView) (so_far next : SoFar) (k : ℕ) (word : List ℕ) (words : List (List ℕ)) (rest : List ℕ) → are_plain_words (word ∷ words) ≡ true
    → after_line view so_far k (word ∷ words) ≡ Ok next
    → attack_from view so_far k (lines_of (line_text (word ∷ words) ++ rest)) ≡ attack_from view next (k + 1) (lines_of rest)
line_back view so_far next k word words rest plain says =
    ap (attack_from view so_far k) (lines_of_line word words rest plain)
    ∙ ap (λ (r : Result SoFar CertFault). unless_fault r (λ later. attack_from view later (k + 1) (lines_of rest))) says

said_back : {X : Type 0} (k : ℕ) (said : Option X) (test : X → Bool) (x : X) → said ≡ Some x → test x ≡ true → said_in_range k said test ≡ Ok x
said_back {X} k said test x e t =
    ap (λ (o : Option X). said_in_range k o test) e ∙ cond-true (test x) (Ok x) (Err (fault.OutOfRange k)) t

side_back : (side : Side) → side_of (side_word side) ≡ Some side
side_back Left = refl
side_back Right = refl

side_plain : (side : Side) → is_plain_word (side_word side) ≡ true
side_plain Left = refl
side_plain Right = refl

step_form_back : (i n : ℕ) (step : Step) → i < 2 ^ 64 → step.product < 2 ^ 64 → are_uses 0 i step.uses ≡ true → step_form i (step_words i step) ≡ Some step
step_form_back i n step hi hp hu =
    rw (
      is_number_decimal i hi,
      value_of_decimal i hi,
      eq-eqb i i refl,
      is_number_decimal step.product hp,
      uses_numbers 0 i step.uses hi hu,
      value_of_decimal step.product hp,
      uses_values 0 i step.uses hi hu,
      side_back step.side,
    )
    refl

step_plain : (i : ℕ) (step : Step) → i < 2 ^ 64 → step.product < 2 ^ 64 → are_uses 0 i step.uses ≡ true → are_plain_words (step_words i step) ≡ true
step_plain i step hi hp hu =
    rw (is_plain_decimal i hi, is_plain_decimal step.product hp, side_plain step.side) (uses_plain 0 i step.uses hi hu)

steps_back : (view : LinearView) (leak : List Bool) (n : ℕ) (done steps : List Step) (rest : List ℕ) (k : ℕ) → n < 2 ^ 64 → length view.products < 2 ^ 64
    → length done + length steps ≡ n → are_steps view (length done) steps ≡ true
    → (k' : ℕ) × (attack_from view (with_steps leak n done) k (lines_of (steps_text (length done) steps ++ rest)) ≡ attack_from view (with_steps leak n (done ++ steps)) k' (lines_of rest))
steps_back view leak n done [] rest k small few counted in_range =
    (k, ap (λ (d : List Step). attack_from view (with_steps leak n d) k (lines_of rest)) (sym (append-nil done)))
steps_back view leak n done (step ∷ steps) rest k small few counted in_range =
    let w = and_parts (is_step view (length done) step) (are_steps view (suc (length done)) steps) in_range in
    let v = and_parts (ltb step.product (length view.products)) (are_uses 0 (length done) step.uses) w.0 in
    let product : step.product < length view.products = ltb-true step.product (length view.products) v.0 in
    let below : length done < n = omega arith in
    let done' : List Step = done ++ step ∷ [] in
    let longer : length done' ≡ suc (length done) = omega (arith, length-append done (step ∷ [])) in
    let says : after_line view (with_steps leak n done) k (step_words (length done) step) ≡ Ok (with_steps leak n done') =
    cond-true (ltb (length done) n) (added (λ s. with_steps leak n (done ++ s ∷ [])) (said_in_range k (step_form (length done) (step_words (length done) step)) (is_step view (length done))))
    (added (λ r. with_root (record { leak = leak; steps = done; root = r })) (said_in_range k (root_form (step_words (length done) step)) (are_uses 0 n)))
    (lt-ltb (length done) n below)
    ∙ ap (added (λ s. with_steps leak n (done ++ s ∷ [])))
    (said_back k (step_form (length done) (step_words (length done) step)) (is_step view (length done)) step
    (step_form_back (length done) n step (omega arith) (omega arith) v.1) w.0) in
    let first : attack_from view (with_steps leak n done) k (lines_of (line_text (step_words (length done) step) ++ (steps_text (suc (length done)) steps ++ rest)))
    ≡ attack_from view (with_steps leak n done') (k + 1) (lines_of (steps_text (suc (length done)) steps ++ rest)) =
    line_back view (with_steps leak n done) (with_steps leak n done') k (codes "step")
    (decimal (length done) ∷ codes "product" ∷ decimal step.product ∷ side_word step.side ∷ codes "uses" ∷ map decimal step.uses)
    (steps_text (suc (length done)) steps ++ rest) (step_plain (length done) step (omega arith) (omega arith) v.1) says in
    let others = steps_back view leak n done' steps rest (k + 1) small few (omega arith) (subst (λ (m : ℕ). are_steps view m steps ≡ true) (sym longer) w.1) in (
      others.0,
      ap (λ (t : List ℕ). attack_from view (with_steps leak n done) k (lines_of t)) (append_assoc (line_text (step_words (length done) step)) (steps_text (suc (length done)) steps) rest)
          ∙ first
          ∙ ap (λ (m : ℕ). attack_from view (with_steps leak n done') (k + 1) (lines_of (steps_text m steps ++ rest))) (sym longer)
          ∙ others.1
          ∙ ap (λ (d : List Step). attack_from view (with_steps leak n d) others.0 (lines_of rest)) (append_assoc done (step ∷ []) steps),
    )

probe_form_back : (probe : Probe) → probe.product < 2 ^ 64 → probe.left_share < 2 ^ 64 → probe.right_share < 2 ^ 64 → probe_form (probe_words probe) ≡ Some probe
probe_form_back probe hp hl hr =
    rw (
      is_number_decimal probe.product hp,
      is_number_decimal probe.left_share hl,
      is_number_decimal probe.right_share hr,
      value_of_decimal probe.product hp,
      value_of_decimal probe.left_share hl,
      value_of_decimal probe.right_share hr,
    )
    refl

probe_plain : (probe : Probe) → probe.product < 2 ^ 64 → probe.left_share < 2 ^ 64 → probe.right_share < 2 ^ 64 → are_plain_words (probe_words probe) ≡ true
probe_plain probe hp hl hr = rw (is_plain_decimal probe.product hp, is_plain_decimal probe.left_share hl, is_plain_decimal probe.right_share hr) refl

probes_back : (view : LinearView) (derivation : Derivation) (t : ℕ) (done probes : List Probe) (rest : List ℕ) (k : ℕ) → t < 2 ^ 32 → length view.products < 2 ^ 64
    → length done + length probes ≡ t → list_all (is_probe view t) probes ≡ true
    → (k' : ℕ) × (attack_from view (with_probes derivation t done) k (lines_of (probes_text probes ++ rest)) ≡ attack_from view (with_probes derivation t (done ++ probes)) k' (lines_of rest))
probes_back view derivation t done [] rest k small few counted in_range =
    (k, ap (λ (d : List Probe). attack_from view (with_probes derivation t d) k (lines_of rest)) (sym (append-nil done)))
probes_back view derivation t done (probe ∷ probes) rest k small few counted in_range =
    let w = and_parts (is_probe view t probe) (list_all (is_probe view t) probes) in_range in
    let v = and_parts (ltb probe.product (length view.products) && leb probe.left_share t) (leb probe.right_share t) w.0 in
    let u = and_parts (ltb probe.product (length view.products)) (leb probe.left_share t) v.0 in
    let product : probe.product < length view.products = ltb-true probe.product (length view.products) u.0 in
    let left : probe.left_share ≤ t = leb-true probe.left_share t u.1 in
    let right : probe.right_share ≤ t = leb-true probe.right_share t v.1 in
    let below : length done < t = omega arith in
    let done' : List Probe = done ++ probe ∷ [] in
    let longer : length done' ≡ suc (length done) = omega (arith, length-append done (probe ∷ [])) in
    let says : after_line view (with_probes derivation t done) k (probe_words probe) ≡ Ok (with_probes derivation t done') =
    cond-true (ltb (length done) t) (added (λ p. with_probes derivation t (done ++ p ∷ [])) (said_in_range k (probe_form (probe_words probe)) (is_probe view t))) (Err (fault.Syntax k))
    (lt-ltb (length done) t below)
    ∙ ap (added (λ p. with_probes derivation t (done ++ p ∷ [])))
    (said_back k (probe_form (probe_words probe)) (is_probe view t) probe (probe_form_back probe (omega arith) (omega arith) (omega arith)) w.0) in
    let first : attack_from view (with_probes derivation t done) k (lines_of (line_text (probe_words probe) ++ (probes_text probes ++ rest)))
    ≡ attack_from view (with_probes derivation t done') (k + 1) (lines_of (probes_text probes ++ rest)) =
    line_back view (with_probes derivation t done) (with_probes derivation t done') k (codes "probe")
    (decimal probe.product ∷ decimal probe.left_share ∷ decimal probe.right_share ∷ [])
    (probes_text probes ++ rest) (probe_plain probe (omega arith) (omega arith) (omega arith)) says in
    let others = probes_back view derivation t done' probes rest (k + 1) small few (omega arith) w.1 in (
      others.0,
      ap (λ (x : List ℕ). attack_from view (with_probes derivation t done) k (lines_of x)) (append_assoc (line_text (probe_words probe)) (probes_text probes) rest)
          ∙ first
          ∙ others.1
          ∙ ap (λ (d : List Probe). attack_from view (with_probes derivation t d) others.0 (lines_of rest)) (append_assoc done (probe ∷ []) probes),
    )

-- the first two lines
core_form_back : (c p : ℕ) → c < 2 ^ 64 → p < 2 ^ 64 → core_form (core_words c p) ≡ Some (record { columns = c; products = p })
core_form_back c p hc hp = rw (is_number_decimal c hc, is_number_decimal p hp, value_of_decimal c hc, value_of_decimal p hp) refl

core_plain : (c p : ℕ) → c < 2 ^ 64 → p < 2 ^ 64 → are_plain_words (core_words c p) ≡ true
core_plain c p hc hp = rw (is_plain_decimal c hc, is_plain_decimal p hp) refl

core_back : (view : LinearView) (k : ℕ) → length view.columns < 2 ^ 32 → length view.products < 2 ^ 32
    → after_line view second k (core_words (length view.columns) (length view.products)) ≡ Ok opened
core_back view k hc hp =
    let c : ℕ = length view.columns in
    let p : ℕ = length view.products in
    let counts : Counts = record { columns = c; products = p } in
    let said : said_in_range k (core_form (core_words c p)) (λ n. ltb n.columns (2 ^ 32) && ltb n.products (2 ^ 32)) ≡ Ok counts =
    said_back k (core_form (core_words c p)) (λ n. ltb n.columns (2 ^ 32) && ltb n.products (2 ^ 32)) counts (core_form_back c p (omega arith) (omega arith))
    (and_from (ltb c (2 ^ 32)) (ltb p (2 ^ 32)) (lt-ltb c (2 ^ 32) hc) (lt-ltb p (2 ^ 32) hp)) in
    let same : counts_of_view view k (Ok counts) ≡ Ok counts =
    cond-true (eqb c c && eqb p p) (Ok counts) (Err (fault.OtherCore k)) (and_from (eqb c c) (eqb p p) (eq-eqb c c refl) (eq-eqb p p refl)) in
    ap (added (λ _. opened)) (ap (counts_of_view view k) said ∙ same)

head_back : (view : LinearView) (rest : List ℕ) → length view.columns < 2 ^ 32 → length view.products < 2 ^ 32
    → attack_from view nothing 1 (lines_of (head_text (length view.columns) (length view.products) ++ rest)) ≡ attack_from view opened 3 (lines_of rest)
head_back view rest hc hp =
    let c : ℕ = length view.columns in
    let p : ℕ = length view.products in
    ap (λ (t : List ℕ). attack_from view nothing 1 (lines_of t)) (append_assoc (line_text (codes "attack" ∷ codes "2" ∷ [])) (line_text (core_words c p)) rest)
    ∙ line_back view nothing second 1 (codes "attack") (codes "2" ∷ []) (line_text (core_words c p) ++ rest) refl refl
    ∙ line_back view second opened 2 (codes "core") (codes "columns" ∷ decimal c ∷ codes "products" ∷ decimal p ∷ []) rest (core_plain c p (omega arith) (omega arith)) (core_back view 2 hc hp)

-- the leak
leak_line_back : (view : LinearView) (k : ℕ) (leak : List Bool) → Differ view.columns → AreSmall view.columns → length leak ≡ length view.columns
    → after_line view opened k (codes "leak" ∷ column_words view.columns leak) ≡ Ok (with_leak leak)
leak_line_back view k leak differ small size =
    let words : List (List ℕ) = column_words view.columns leak in
    let form : leak_form (codes "leak" ∷ words) ≡ Some words =
    cond-true (are_columns words) (Some words) None (row_columns view.columns leak small) in
    ap (λ (o : Option (List (List ℕ))). added with_leak (leak_at view k o)) form
    ∙ ap (λ (o : Option (List Bool)). added with_leak (leak_in_order k o)) (row_back view.columns leak differ small size)

-- the count of the steps
steps_form_back : (n : ℕ) → n < 2 ^ 64 → steps_form (codes "steps" ∷ decimal n ∷ []) ≡ Some n
steps_form_back n h = rw (is_number_decimal n h, value_of_decimal n h) refl

-- the root
root_form_back : (n : ℕ) (root : List ℕ) → n < 2 ^ 64 → are_uses 0 n root ≡ true → root_form (codes "root" ∷ codes "uses" ∷ map decimal root) ≡ Some root
root_form_back n root h hu = rw (uses_numbers 0 n root h hu, uses_values 0 n root h hu) refl

root_back : (view : LinearView) (leak : List Bool) (n : ℕ) (steps : List Step) (root : List ℕ) (k : ℕ) → n < 2 ^ 64 → n ≤ length steps → are_uses 0 n root ≡ true
    → after_line view (with_steps leak n steps) k (codes "root" ∷ codes "uses" ∷ map decimal root) ≡ Ok (with_root (record { leak = leak; steps = steps; root = root }))
root_back view leak n steps root k h all hu =
    let next : List ℕ → SoFar = λ r. with_root (record { leak = leak; steps = steps; root = r }) in
    cond-false (ltb (length steps) n)
    (added (λ s. with_steps leak n (steps ++ s ∷ [])) (said_in_range k (step_form (length steps) (codes "root" ∷ codes "uses" ∷ map decimal root)) (is_step view (length steps))))
    (added next (said_in_range k (root_form (codes "root" ∷ codes "uses" ∷ map decimal root)) (are_uses 0 n))) (le-ltb (length steps) n all)
    ∙ ap (added next) (said_back k (root_form (codes "root" ∷ codes "uses" ∷ map decimal root)) (are_uses 0 n) root (root_form_back n root h hu) hu)

-- the probes
not_large : (t : ℕ) → t < 2 ^ 64 → bytes_eq (decimal t) (codes "large") ≡ false
not_large t h =
    elim (cases_Bool (bytes_eq (decimal t) (codes "large"))) [
      | inl same ↦
          (let is : decimal t ≡ codes "large" = (bytes_eq-Decides (decimal t) (codes "large")).0 same in
          let clash : true ≡ false = sym (decimal_digits t h) ∙ ap (list_all is_ascii_digit) is in absurd (true≢false clash))
      | inr differs ↦ differs
    ]

listing_form_back : (t : ℕ) → t < 2 ^ 64 → listing_form (codes "probes" ∷ decimal t ∷ []) ≡ Some (Some t)
listing_form_back t h = rw (not_large t h, is_number_decimal t h, value_of_decimal t h) refl

listing_back : (view : LinearView) (derivation : Derivation) (listing : Listing) (k : ℕ) → length view.products < 2 ^ 32 → is_listed view listing ≡ true
    → attack_from view (with_root derivation) k (lines_of (listing_text listing)) ≡ Ok (record { derivation = derivation; listing = listing })
listing_back view derivation (Probes probes) k few listed =
    let t : ℕ = length probes in
    let w = and_parts (leb t MAX_PROBES) (list_all (is_probe view t) probes) listed in
    let small : t ≤ 100000 = leb-true t MAX_PROBES w.0 in
    let says : after_line view (with_root derivation) k (codes "probes" ∷ decimal t ∷ []) ≡ Ok (with_probes derivation t []) =
    ap (added (with_listing derivation)) (said_back k (listing_form (codes "probes" ∷ decimal t ∷ [])) is_listing (Some t) (listing_form_back t (omega arith)) w.0) in
    let plain : are_plain_words (codes "probes" ∷ decimal t ∷ []) ≡ true = rw (is_plain_decimal t (omega arith)) refl in
    let others = probes_back view derivation t [] probes [] (k + 1) (omega arith) (omega arith) (omega arith) w.1 in
    line_back view (with_root derivation) (with_probes derivation t []) k (codes "probes") (decimal t ∷ []) (probes_text probes) plain says
    ∙ ap (λ (x : List ℕ). attack_from view (with_probes derivation t []) (k + 1) (lines_of x)) (sym (append-nil (probes_text probes)))
    ∙ others.1
    ∙ cond-false (ltb t t) (Err (fault.Syntax others.0)) (Ok (record { derivation = derivation; listing = Probes probes })) (le-ltb t t (omega arith))
listing_back view derivation Large k few listed =
    ap (λ (x : List ℕ). attack_from view (with_root derivation) k (lines_of x)) (sym (append-nil (line_text (codes "probes" ∷ codes "large" ∷ []))))
    ∙ line_back view (with_root derivation) (with_large derivation) k (codes "probes") (codes "large" ∷ []) [] refl refl

-- from the leak on
body_back : (view : LinearView) (attack : Attack) (k : ℕ) → IsView view → PassesTests view attack → attack_from view opened k (lines_of (body_text view attack)) ≡ Ok attack
body_back view attack k is_view in_range =
    let leak : List Bool = attack.derivation.leak in
    let steps : List Step = attack.derivation.steps in
    let root : List ℕ = attack.derivation.root in
    let n : ℕ = length steps in
    let columns_few : length view.columns ≤ 32768 = is_view.columns_fit in
    let products_few : length view.products ≤ 32768 = is_view.products_fit in
    let steps_few : n ≤ 2 * length view.products = leb-true n (2 * length view.products) in_range.steps_count in
    let end : List ℕ = root_text root ++ listing_text attack.listing in
    let after_leak : List ℕ = counted_steps_text steps ++ end in
    let stepped = steps_back view leak n [] steps end (k + 1 + 1) (omega arith) (omega arith) (omega arith) in_range.steps in
    let leaked : attack_from view opened k (lines_of (leak_text view.columns leak ++ after_leak)) ≡ attack_from view (with_leak leak) (k + 1) (lines_of after_leak) =
    line_back view opened (with_leak leak) k (codes "leak") (column_words view.columns leak) after_leak (row_plain view.columns leak is_view.small_names)
    (leak_line_back view k leak is_view.names_differ is_view.small_names in_range.leak) in
    let counted_plain : are_plain_words (codes "steps" ∷ decimal n ∷ []) ≡ true = rw (is_plain_decimal n (omega arith)) refl in
    let counted : attack_from view (with_leak leak) (k + 1) (lines_of after_leak) ≡ attack_from view (with_steps leak n []) (k + 1 + 1) (lines_of (steps_text 0 steps ++ end)) =
    ap (λ (x : List ℕ). attack_from view (with_leak leak) (k + 1) (lines_of x)) (append_assoc (steps_count_text n) (steps_text 0 steps) end)
    ∙ line_back view (with_leak leak) (with_steps leak n []) (k + 1) (codes "steps") (decimal n ∷ []) (steps_text 0 steps ++ end) counted_plain
    (ap (added (λ m. with_steps leak m [])) (said_back (k + 1) (steps_form (codes "steps" ∷ decimal n ∷ [])) (is_steps_count view) n (steps_form_back n (omega arith)) in_range.steps_count)) in
    let rooted : attack_from view (with_steps leak n steps) stepped.0 (lines_of end) ≡ attack_from view (with_root attack.derivation) (stepped.0 + 1) (lines_of (listing_text attack.listing)) =
    line_back view (with_steps leak n steps) (with_root attack.derivation) stepped.0 (codes "root") (codes "uses" ∷ map decimal root) (listing_text attack.listing)
    (uses_plain 0 n root (omega arith) in_range.root) (root_back view leak n steps root stepped.0 (omega arith) (omega arith) in_range.root) in
    leaked ∙ counted ∙ stepped.1 ∙ rooted ∙ listing_back view attack.derivation attack.listing (stepped.0 + 1) (omega arith) in_range.listing

-- the whole text
pub text_back : (view : LinearView) (attack : Attack) → IsView view → InRange view attack → attack_of view (attack_text view attack) ≡ Ok attack
text_back view attack is_view in_range =
    let columns_few : length view.columns ≤ 32768 = is_view.columns_fit in
    let products_few : length view.products ≤ 32768 = is_view.products_fit in
    head_back view (body_text view attack) (omega arith) (omega arith) ∙ body_back view attack 3 is_view (in_range_passes view attack in_range)

pub first_version_back : (view : LinearView) (attack : Attack) → IsView view → InRange view attack → attack_of view (first_version_text view attack) ≡ Ok attack
first_version_back view attack is_view in_range =
    line_back view nothing opened 1 (codes "attack") [] (body_text view attack) refl refl ∙ body_back view attack 2 is_view (in_range_passes view attack in_range)
