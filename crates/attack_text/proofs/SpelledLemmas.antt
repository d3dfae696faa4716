-- Bytes that are read as an attack are its text, in one of its two versions.
use Rattle.std.proofs.Common.{◌≡◌, ℕ, suc, ◌+◌, ◌*◌, ◌^◌, ◌<◌, ◌≤◌, ◌⊎◌, Bool, true, false, eqb, ltb, leb, ◌&&◌, List, [], ◌∷◌, ◌++◌, length, map, Option, None, Some, Result, Ok, Err, refl, sym, ap, ◌∙◌, inl, inr, arith, append_assoc, append-nil, length-append, codes, decimal}
use Rattle.std.specs.List.{list_all}
use Rattle.std.proofs.lemmas.Bool.{cases_Bool, and_parts, ltb-true, ltb-false, leb-true, eqb-true}
use Rattle.linear_view.specs.View.{LinearView, IsView}
use Rattle.attack_text.specs.AttackText.{core_words, step_words, steps_text, steps_count_text, counted_steps_text, root_text, probe_words, probes_text, listing_text, body_text, attack_text, first_version_text}
use Rattle.attack_text.specs.Forms.{Counts, version_form, core_form, leak_form, steps_form, step_form, root_form, listing_form, probe_form}
use Rattle.attack_text.specs.Ranges.{is_steps_count, is_step, is_probe}
use Rattle.attack_text.proofs.TestLemmas.{is_listed, PassesTests, in_range_passes}
use Rattle.attack_model.specs.Derivations.{are_uses}
use Rattle.attack_model.specs.Ranges.{InRange}
use Rattle.attack_model.specs.declared.attack.TheConstants.{MAX_PROBES}
use Rattle.column_lists.specs.Rows.{column_words, named_row}
use Rattle.column_lists.proofs.ReadLemmas.{AreSmall}
use Rattle.column_lists.proofs.WrittenLemmas.{words_are}
use Rattle.attack_text.specs.Reading.{SoFar, nothing, second, opened, with_leak, with_steps, with_root, with_probes, with_large, said_in_range, counts_of_view, leak_at, added, with_version, with_listing, is_listing, unless_fault, at_end, attack_from, attack_of, version_line, core_line, leak_line, steps_line, step_line, root_line, listing_line, probe_line}
use Rattle.attack_model.specs.declared.attack.Attack.{Attack}
use Rattle.attack_model.specs.declared.attack.Derivation.{Derivation}
use Rattle.attack_model.specs.declared.attack.Listing.{Listing}
use Rattle.attack_model.specs.declared.attack.Listing.TheVariants.{Probes, Large}
use Rattle.attack_model.specs.declared.attack.Probe.{Probe}
use Rattle.attack_model.specs.declared.attack.Step.{Step}
use Rattle.attack_text.specs.declared.read.CertFault.{CertFault}
use Rattle.attack_text.specs.declared.read.CertFault.TheVariants as fault
use Rattle.attack_text.proofs.FormBackLemmas.{second_version_words, first_version_words, core_words_are, leak_line_words, steps_words_are, step_words_are, root_words_are, large_words, listed_words, probe_words_are}
use Rattle.attack_text.proofs.RangeLemmas.{no_ok, then_ok, pick_ok, said_ok, in_order_ok, value_or, read_in_range}
use Rattle.text_lines.specs.Lines.{lines_of}
use Rattle.text_lines.specs.Words.{line_text}
use Rattle.text_lines.proofs.LineLemmas.{lines_of_empty}
use Rattle.text_lines.proofs.SpelledLemmas.{text_back_of}

-- the text after the count of the steps
record StepsLeft (attack : Attack) (leak : List Bool) (n : ℕ) (steps : List Step) (bytes : List ℕ) : Type 0 where
  leaks : attack.derivation.leak ≡ leak
  count : length attack.derivation.steps ≡ n
  later : List Step
  in_order : attack.derivation.steps ≡ steps ++ later
  text : bytes ≡ steps_text (length steps) later ++ (root_text attack.derivation.root ++ listing_text attack.listing)

-- the text after the count of the probes
record ProbesLeft (attack : Attack) (derivation : Derivation) (t : ℕ) (probes : List Probe) (bytes : List ℕ) : Type 0 where
  derives : attack.derivation ≡ derivation
  later : List Probe
  in_order : attack.listing ≡ Probes (probes ++ later)
  count : length (probes ++ later) ≡ t
  text : bytes ≡ probes_text later

-- the bytes are those of the attack's text that stand after what was said
abbrev Left : LinearView → Attack → SoFar → List ℕ → Type 0
Left view attack nothing bytes = (bytes ≡ attack_text view attack) ⊎ (bytes ≡ first_version_text view attack)
Left view attack second bytes = bytes ≡ line_text (core_words (length view.columns) (length view.products)) ++ body_text view attack
Left view attack opened bytes = bytes ≡ body_text view attack
Left view attack (with_leak leak) bytes =
    (attack.derivation.leak ≡ leak) × (bytes ≡ counted_steps_text attack.derivation.steps ++ (root_text attack.derivation.root ++ listing_text attack.listing))
Left view attack (with_steps leak n steps) bytes = length steps ≤ n → StepsLeft attack leak n steps bytes
Left view attack (with_root derivation) bytes = (attack.derivation ≡ derivation) × (bytes ≡ listing_text attack.listing)
Left view attack (with_probes derivation t probes) bytes = length probes ≤ t → ProbesLeft attack derivation t probes bytes
Left view attack (with_large derivation) bytes = (attack.derivation ≡ derivation) × (attack.listing ≡ Large) × (bytes ≡ [])

said_is : {X : Type 0} (k : ℕ) (said : Option X) (test : X → Bool) (x : X) → said_in_range k said test ≡ Ok x → said ≡ Some x
said_is k None test x e = absurd (no_ok (fault.Syntax k) x e)
said_is {X} k (Some said) test x e = ap (λ (s : X). Some s) (pick_ok (test said) said x (fault.OutOfRange k) e).1

-- a line whose words are known
line_is : (bytes rest later : List ℕ) (words known : List (List ℕ)) → bytes ≡ line_text words ++ rest → words ≡ known → rest ≡ later → bytes ≡ line_text known ++ later
line_is bytes rest later words known e w r = e ∙ ap (λ (ws : List (List ℕ)). line_text ws ++ rest) w ∙ ap (λ (t : List ℕ). line_text known ++ t) r

after_version : (view : LinearView) (attack : Attack) (k : ℕ) (words : List (List ℕ)) (two : Bool) (bytes rest : List ℕ) → bytes ≡ line_text words ++ rest
    → version_line k words ≡ Ok two → Left view attack (with_version two) rest → Left view attack nothing bytes
after_version view attack k words true bytes rest e said left =
    let core : List ℕ = line_text (core_words (length view.columns) (length view.products)) in
    inl
    (line_is bytes rest (core ++ body_text view attack) words (codes "attack" ∷ codes "2" ∷ []) e
    (second_version_words words (said_is k (version_form words) (λ _. true) true said)) left
    ∙ sym (append_assoc (line_text (codes "attack" ∷ codes "2" ∷ [])) core (body_text view attack)))
after_version view attack k words false bytes rest e said left =
    inr (line_is bytes rest (body_text view attack) words (codes "attack" ∷ []) e (first_version_words words (said_is k (version_form words) (λ _. true) false said)) left)

counts_ok : (view : LinearView) (k : ℕ) (said : Result Counts CertFault) (counts : Counts) → counts_of_view view k said ≡ Ok counts
    → (said ≡ Ok counts) × (counts.columns ≡ length view.columns) × (counts.products ≡ length view.products)
counts_ok view k (Err wrong) counts e = absurd (no_ok wrong counts e)
counts_ok view k (Ok said) counts e =
    let w = pick_ok (eqb said.columns (length view.columns) && eqb said.products (length view.products)) said counts (fault.OtherCore k) e in
    let v = and_parts (eqb said.columns (length view.columns)) (eqb said.products (length view.products)) w.0 in (
      ap (λ (c : Counts). Ok c) w.1,
      ap (λ (c : Counts). c.columns) (sym w.1) ∙ eqb-true said.columns (length view.columns) v.0,
      ap (λ (c : Counts). c.products) (sym w.1) ∙ eqb-true said.products (length view.products) v.1,
    )

after_core : (view : LinearView) (attack : Attack) (k : ℕ) (words : List (List ℕ)) (counts : Counts) (bytes rest : List ℕ)
    → length view.columns ≤ 32768 → length view.products ≤ 32768 → bytes ≡ line_text words ++ rest
    → core_line view k words ≡ Ok counts → Left view attack opened rest → Left view attack second bytes
after_core view attack k words counts bytes rest hc hp e said left =
    let test : Counts → Bool = λ c. ltb c.columns (2 ^ 32) && ltb c.products (2 ^ 32) in
    let w = counts_ok view k (said_in_range k (core_form words) test) counts said in
    let known : words ≡ core_words counts.columns counts.products =
    core_words_are words counts (said_is k (core_form words) test counts w.0) (omega (arith, w.1)) (omega (arith, w.2)) in
    line_is bytes rest (body_text view attack) words (core_words (length view.columns) (length view.products)) e
    (known ∙ ap (λ (c : ℕ). core_words c counts.products) w.1 ∙ ap (core_words (length view.columns)) w.2) left

leak_is : (view : LinearView) (k : ℕ) (form : Option (List (List ℕ))) (leak : List Bool) → leak_at view k form ≡ Ok leak
    → (columns : List (List ℕ)) × (form ≡ Some columns) × (named_row view.columns columns ≡ Some leak)
leak_is view k None leak e = absurd (no_ok (fault.Syntax k) leak e)
leak_is view k (Some columns) leak e = (columns, refl, in_order_ok k (named_row view.columns columns) leak e)

after_leak : (view : LinearView) (attack : Attack) (k : ℕ) (words : List (List ℕ)) (leak : List Bool) (bytes rest : List ℕ) → AreSmall view.columns
    → bytes ≡ line_text words ++ rest → leak_line view k words ≡ Ok leak → Left view attack (with_leak leak) rest → Left view attack opened bytes
after_leak view attack k words leak bytes rest small e said left =
    let w = leak_is view k (leak_form words) leak said in
    let known : words ≡ codes "leak" ∷ column_words view.columns attack.derivation.leak =
    leak_line_words words w.0 w.1
    ∙ ap (λ (ws : List (List ℕ)). codes "leak" ∷ ws) (words_are view.columns w.0 leak small w.2)
    ∙ ap (λ (bits : List Bool). codes "leak" ∷ column_words view.columns bits) (sym left.0) in
    line_is bytes rest (counted_steps_text attack.derivation.steps ++ (root_text attack.derivation.root ++ listing_text attack.listing)) words
    (codes "leak" ∷ column_words view.columns attack.derivation.leak) e known left.1

after_count : (view : LinearView) (attack : Attack) (k : ℕ) (words : List (List ℕ)) (leak : List Bool) (n : ℕ) (bytes rest : List ℕ)
    → length view.products ≤ 32768 → bytes ≡ line_text words ++ rest → steps_line view k words ≡ Ok n
    → Left view attack (with_steps leak n []) rest → Left view attack (with_leak leak) bytes
after_count view attack k words leak n bytes rest hp e said left =
    let steps : List Step = attack.derivation.steps in
    let end : List ℕ = root_text attack.derivation.root ++ listing_text attack.listing in
    let few : n ≤ 2 * length view.products = leb-true n (2 * length view.products) (said_ok k (steps_form words) (is_steps_count view) n said) in
    let steps_left : StepsLeft attack leak n [] rest = left (omega arith) in
    let known : words ≡ codes "steps" ∷ decimal (length steps) ∷ [] =
    steps_words_are words n (said_is k (steps_form words) (is_steps_count view) n said) (omega arith)
    ∙ ap (λ (m : ℕ). codes "steps" ∷ decimal m ∷ []) (sym steps_left.count) in
    let later : rest ≡ steps_text 0 steps ++ end = steps_left.text ∙ ap (λ (s : List Step). steps_text 0 s ++ end) (sym steps_left.in_order) in (
      steps_left.leaks,
      line_is bytes rest (steps_text 0 steps ++ end) words (codes "steps" ∷ decimal (length steps) ∷ []) e known later
          ∙ sym (append_assoc (steps_count_text (length steps)) (steps_text 0 steps) end),
    )

after_step : (view : LinearView) (attack : Attack) (k : ℕ) (words : List (List ℕ)) (leak : List Bool) (n : ℕ) (steps : List Step) (step : Step) (bytes rest : List ℕ)
    → length view.products ≤ 32768 → PassesTests view attack → length steps < n → bytes ≡ line_text words ++ rest → step_line view (length steps) k words ≡ Ok step
    → Left view attack (with_steps leak n (steps ++ step ∷ [])) rest → StepsLeft attack leak n steps bytes
after_step view attack k words leak n steps step bytes rest hp in_range below e said left =
    let end : List ℕ = root_text attack.derivation.root ++ listing_text attack.listing in
    let longer : length (steps ++ step ∷ []) ≡ suc (length steps) = omega (arith, length-append steps (step ∷ [])) in
    let more : StepsLeft attack leak n (steps ++ step ∷ []) rest = left (omega arith) in
    let few : length attack.derivation.steps ≤ 2 * length view.products = leb-true (length attack.derivation.steps) (2 * length view.products) in_range.steps_count in
    let counted : length attack.derivation.steps ≡ n = more.count in
    let w = and_parts (ltb step.product (length view.products)) (are_uses 0 (length steps) step.uses) (said_ok k (step_form (length steps) words) (is_step view (length steps)) step said) in
    let product : step.product < length view.products = ltb-true step.product (length view.products) w.0 in
    let known : words ≡ step_words (length steps) step =
    step_words_are (length steps) words step (said_is k (step_form (length steps) words) (is_step view (length steps)) step said) (omega arith) (omega arith) w.1 in
    let later : rest ≡ steps_text (suc (length steps)) more.later ++ end = more.text ∙ ap (λ (m : ℕ). steps_text m more.later ++ end) longer in
    record {
      leaks = more.leaks;
      count = more.count;
      later = step ∷ more.later;
      in_order = more.in_order ∙ append_assoc steps (step ∷ []) more.later;
      text =
          line_is bytes rest (steps_text (suc (length steps)) more.later ++ end) words (step_words (length steps) step) e known later
          ∙ sym (append_assoc (line_text (step_words (length steps) step)) (steps_text (suc (length steps)) more.later) end);
    }

after_root : (view : LinearView) (attack : Attack) (k : ℕ) (words : List (List ℕ)) (leak : List Bool) (n : ℕ) (steps : List Step) (root : List ℕ) (bytes rest : List ℕ)
    → length view.products ≤ 32768 → PassesTests view attack → length steps ≡ n → bytes ≡ line_text words ++ rest → root_line n k words ≡ Ok root
    → Left view attack (with_root (record { leak = leak; steps = steps; root = root })) rest → StepsLeft attack leak n steps bytes
after_root view attack k words leak n steps root bytes rest hp in_range all e said left =
    let few : length attack.derivation.steps ≤ 2 * length view.products = leb-true (length attack.derivation.steps) (2 * length view.products) in_range.steps_count in
    let same : attack.derivation.steps ≡ steps = ap (λ (d : Derivation). d.steps) left.0 in
    let counted : length attack.derivation.steps ≡ n = ap length same ∙ all in
    let known : words ≡ codes "root" ∷ codes "uses" ∷ map decimal attack.derivation.root =
    root_words_are n words root (said_is k (root_form words) (are_uses 0 n) root said) (omega arith) (said_ok k (root_form words) (are_uses 0 n) root said)
    ∙ ap (λ (r : List ℕ). codes "root" ∷ codes "uses" ∷ map decimal r) (sym (ap (λ (d : Derivation). d.root) left.0)) in
    record {
      leaks = ap (λ (d : Derivation). d.leak) left.0;
      count = counted;
      later = [];
      in_order = same ∙ sym (append-nil steps);
      text = line_is bytes rest (listing_text attack.listing) words (codes "root" ∷ codes "uses" ∷ map decimal attack.derivation.root) e known left.1;
    }

after_listing : (view : LinearView) (attack : Attack) (k : ℕ) (words : List (List ℕ)) (derivation : Derivation) (count : Option ℕ) (bytes rest : List ℕ)
    → bytes ≡ line_text words ++ rest → listing_line k words ≡ Ok count → Left view attack (with_listing derivation count) rest
    → Left view attack (with_root derivation) bytes
after_listing view attack k words derivation None bytes rest e said left = (
  left.0,
  line_is bytes rest [] words (codes "probes" ∷ codes "large" ∷ []) e (large_words words (said_is k (listing_form words) is_listing None said)) left.2
      ∙ append-nil (line_text (codes "probes" ∷ codes "large" ∷ []))
      ∙ ap listing_text (sym left.1),
)
after_listing view attack k words derivation (Some t) bytes rest e said left =
    let few : t ≤ 100000 = leb-true t MAX_PROBES (said_ok k (listing_form words) is_listing (Some t) said) in
    let more : ProbesLeft attack derivation t [] rest = left (omega arith) in
    let known : words ≡ codes "probes" ∷ decimal (length more.later) ∷ [] =
    listed_words words t (said_is k (listing_form words) is_listing (Some t) said) (omega arith)
    ∙ ap (λ (m : ℕ). codes "probes" ∷ decimal m ∷ []) (sym more.count) in (
      more.derives,
      line_is bytes rest (probes_text more.later) words (codes "probes" ∷ decimal (length more.later) ∷ []) e known more.text
          ∙ ap listing_text (sym more.in_order),
    )

listed_few : (view : LinearView) (listing : Listing) (probes : List Probe) → is_listed view listing ≡ true → listing ≡ Probes probes → length probes ≤ 100000
listed_few view listing probes h e =
    let listed : leb (length probes) MAX_PROBES && list_all (is_probe view (length probes)) probes ≡ true = ap (is_listed view) (sym e) ∙ h in
    leb-true (length probes) MAX_PROBES (and_parts (leb (length probes) MAX_PROBES) (list_all (is_probe view (length probes)) probes) listed).0

after_probe : (view : LinearView) (attack : Attack) (k : ℕ) (words : List (List ℕ)) (derivation : Derivation) (t : ℕ) (probes : List Probe) (probe : Probe) (bytes rest : List ℕ)
    → length view.products ≤ 32768 → PassesTests view attack → length probes < t → bytes ≡ line_text words ++ rest → probe_line view t k words ≡ Ok probe
    → Left view attack (with_probes derivation t (probes ++ probe ∷ [])) rest → ProbesLeft attack derivation t probes bytes
after_probe view attack k words derivation t probes probe bytes rest hp in_range below e said left =
    let longer : length (probes ++ probe ∷ []) ≡ suc (length probes) = omega (arith, length-append probes (probe ∷ [])) in
    let more : ProbesLeft attack derivation t (probes ++ probe ∷ []) rest = left (omega arith) in
    let few : length ((probes ++ probe ∷ []) ++ more.later) ≤ 100000 = listed_few view attack.listing ((probes ++ probe ∷ []) ++ more.later) in_range.listing more.in_order in
    let counted : length ((probes ++ probe ∷ []) ++ more.later) ≡ t = more.count in
    let w2 = and_parts (ltb probe.product (length view.products) && leb probe.left_share t) (leb probe.right_share t) (said_ok k (probe_form words) (is_probe view t) probe said) in
    let w1 = and_parts (ltb probe.product (length view.products)) (leb probe.left_share t) w2.0 in
    let product : probe.product < length view.products = ltb-true probe.product (length view.products) w1.0 in
    let on_left : probe.left_share ≤ t = leb-true probe.left_share t w1.1 in
    let on_right : probe.right_share ≤ t = leb-true probe.right_share t w2.1 in
    let known : words ≡ probe_words probe =
    probe_words_are words probe (said_is k (probe_form words) (is_probe view t) probe said) (omega arith) (omega arith) (omega arith) in
    let order : (probes ++ probe ∷ []) ++ more.later ≡ probes ++ probe ∷ more.later = append_assoc probes (probe ∷ []) more.later in
    record {
      derives = more.derives;
      later = probe ∷ more.later;
      in_order = more.in_order ∙ ap (λ (ps : List Probe). Probes ps) order;
      count = ap length (sym order) ∙ more.count;
      text = line_is bytes rest (probes_text more.later) words (probe_words probe) e known more.text;
    }

ends : (view : LinearView) (attack : Attack) (so_far : SoFar) (k : ℕ) (bytes : List ℕ) → bytes ≡ [] → at_end so_far k ≡ Ok attack → Left view attack so_far bytes
ends view attack nothing k bytes none e = absurd (no_ok (fault.Syntax k) attack e)
ends view attack second k bytes none e = absurd (no_ok (fault.Syntax k) attack e)
ends view attack opened k bytes none e = absurd (no_ok (fault.Syntax k) attack e)
ends view attack (with_leak leak) k bytes none e = absurd (no_ok (fault.Syntax k) attack e)
ends view attack (with_steps leak n steps) k bytes none e = absurd (no_ok (fault.Syntax k) attack e)
ends view attack (with_root derivation) k bytes none e = absurd (no_ok (fault.Syntax k) attack e)
ends view attack (with_probes derivation t probes) k bytes none e =
    let whole : Attack = record { derivation = derivation; listing = Probes probes } in
    elim (cases_Bool (ltb (length probes) t)) [
      | inl missing ↦
          (let f : Err (fault.Syntax k) ≡ Ok attack = sym (rw missing refl) ∙ e in
          absurd (no_ok (fault.Syntax k) attack f))
      | inr all ↦
          (λ within.
          let f : at_end (with_probes derivation t probes) k ≡ Ok whole = rw all refl in
          let same : whole ≡ attack = ap (value_or whole) (sym f ∙ e) in
          let past : t ≤ length probes = ltb-false _ _ all in
          let size : length (probes ++ []) ≡ t = ap length (append-nil probes) ∙ omega arith in
          record {
            derives = ap (λ (a : Attack). a.derivation) (sym same);
            later = [];
            in_order = ap (λ (a : Attack). a.listing) (sym same) ∙ ap (λ (ps : List Probe). Probes ps) (sym (append-nil probes));
            count = size;
            text = none;
          })
    ]
ends view attack (with_large derivation) k bytes none e =
    let whole : Attack = record { derivation = derivation; listing = Large } in
    let same : whole ≡ attack = ap (value_or whole) e in
    (ap (λ (a : Attack). a.derivation) (sym same), ap (λ (a : Attack). a.listing) (sym same), none)

left_of : (view : LinearView) (attack : Attack) → IsView view → PassesTests view attack → (lines : List (Option (List (List ℕ)))) (so_far : SoFar) (k : ℕ) (bytes : List ℕ)
    → lines_of bytes ≡ lines → attack_from view so_far k lines ≡ Ok attack → Left view attack so_far bytes
left_of view attack is_view in_range [] so_far k bytes l e = ends view attack so_far k bytes (lines_of_empty bytes l) e
left_of view attack is_view in_range (None ∷ lines) so_far k bytes l e = absurd (no_ok (fault.Syntax k) attack e)
left_of view attack is_view in_range (Some words ∷ lines) nothing k bytes l e =
    let w = then_ok with_version (version_line k words) (λ next. attack_from view next (k + 1) lines) attack e in
    let r = text_back_of bytes words lines l in
    after_version view attack k words w.0 bytes r.0 r.1 w.1 (left_of view attack is_view in_range lines (with_version w.0) (k + 1) r.0 r.2 w.2)
left_of view attack is_view in_range (Some words ∷ lines) second k bytes l e =
    let w = then_ok (λ _. opened) (core_line view k words) (λ next. attack_from view next (k + 1) lines) attack e in
    let r = text_back_of bytes words lines l in
    after_core view attack k words w.0 bytes r.0 is_view.columns_fit is_view.products_fit r.1 w.1 (left_of view attack is_view in_range lines opened (k + 1) r.0 r.2 w.2)
left_of view attack is_view in_range (Some words ∷ lines) opened k bytes l e =
    let w = then_ok with_leak (leak_line view k words) (λ next. attack_from view next (k + 1) lines) attack e in
    let r = text_back_of bytes words lines l in
    after_leak view attack k words w.0 bytes r.0 is_view.small_names r.1 w.1 (left_of view attack is_view in_range lines (with_leak w.0) (k + 1) r.0 r.2 w.2)
left_of view attack is_view in_range (Some words ∷ lines) (with_leak leak) k bytes l e =
    let w = then_ok (λ n. with_steps leak n []) (steps_line view k words) (λ next. attack_from view next (k + 1) lines) attack e in
    let r = text_back_of bytes words lines l in
    after_count view attack k words leak w.0 bytes r.0 is_view.products_fit r.1 w.1 (left_of view attack is_view in_range lines (with_steps leak w.0 []) (k + 1) r.0 r.2 w.2)
left_of view attack is_view in_range (Some words ∷ lines) (with_steps leak n steps) k bytes l e =
    let r = text_back_of bytes words lines l in
    elim (cases_Bool (ltb (length steps) n)) [
      | inl missing ↦
          (let f : unless_fault (added (λ step. with_steps leak n (steps ++ step ∷ [])) (step_line view (length steps) k words)) (λ next. attack_from view next (k + 1) lines) ≡ Ok attack =
          sym (rw missing refl) ∙ e in
          let w = then_ok (λ step. with_steps leak n (steps ++ step ∷ [])) (step_line view (length steps) k words) (λ next. attack_from view next (k + 1) lines) attack f in
          λ within. after_step view attack k words leak n steps w.0 bytes r.0 is_view.products_fit in_range (ltb-true _ _ missing) r.1 w.1
          (left_of view attack is_view in_range lines (with_steps leak n (steps ++ w.0 ∷ [])) (k + 1) r.0 r.2 w.2))
      | inr all ↦
          (let f : unless_fault (added (λ root. with_root (record { leak = leak; steps = steps; root = root })) (root_line n k words)) (λ next. attack_from view next (k + 1) lines) ≡ Ok attack =
          sym (rw all refl) ∙ e in
          let w = then_ok (λ root. with_root (record { leak = leak; steps = steps; root = root })) (root_line n k words) (λ next. attack_from view next (k + 1) lines) attack f in
          let past : n ≤ length steps = ltb-false _ _ all in
          λ within. after_root view attack k words leak n steps w.0 bytes r.0 is_view.products_fit in_range (omega arith) r.1 w.1
          (left_of view attack is_view in_range lines (with_root (record { leak = leak; steps = steps; root = w.0 })) (k + 1) r.0 r.2 w.2))
    ]
left_of view attack is_view in_range (Some words ∷ lines) (with_root derivation) k bytes l e =
    let w = then_ok (with_listing derivation) (listing_line k words) (λ next. attack_from view next (k + 1) lines) attack e in
    let r = text_back_of bytes words lines l in
    after_listing view attack k words derivation w.0 bytes r.0 r.1 w.1 (left_of view attack is_view in_range lines (with_listing derivation w.0) (k + 1) r.0 r.2 w.2)
left_of view attack is_view in_range (Some words ∷ lines) (with_probes derivation t probes) k bytes l e =
    let r = text_back_of bytes words lines l in
    elim (cases_Bool (ltb (length probes) t)) [
      | inl missing ↦
          (let f : unless_fault (added (λ probe. with_probes derivation t (probes ++ probe ∷ [])) (probe_line view t k words)) (λ next. attack_from view next (k + 1) lines) ≡ Ok attack =
          sym (rw missing refl) ∙ e in
          let w = then_ok (λ probe. with_probes derivation t (probes ++ probe ∷ [])) (probe_line view t k words) (λ next. attack_from view next (k + 1) lines) attack f in
          λ within. after_probe view attack k words derivation t probes w.0 bytes r.0 is_view.products_fit in_range (ltb-true _ _ missing) r.1 w.1
          (left_of view attack is_view in_range lines (with_probes derivation t (probes ++ w.0 ∷ [])) (k + 1) r.0 r.2 w.2))
      | inr all ↦
          (let f : Err (fault.Syntax k) ≡ Ok attack = sym (rw all refl) ∙ e in
          absurd (no_ok (fault.Syntax k) attack f))
    ]
left_of view attack is_view in_range (Some words ∷ lines) (with_large derivation) k bytes l e = absurd (no_ok (fault.Syntax k) attack e)

pub only_written : (view : LinearView) (bytes : List ℕ) (attack : Attack) → IsView view → attack_of view bytes ≡ Ok attack
    → InRange view attack × ((bytes ≡ attack_text view attack) ⊎ (bytes ≡ first_version_text view attack))
only_written view bytes attack is_view e =
    let in_range : InRange view attack = read_in_range view (lines_of bytes) nothing 1 attack tt e in
    (in_range, left_of view attack is_view (in_range_passes view attack in_range) (lines_of bytes) nothing 1 bytes refl e)
