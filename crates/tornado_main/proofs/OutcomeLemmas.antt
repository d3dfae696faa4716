-- Orders have outcomes where their files are held.
use Rattle.std.proofs.Common.{◌≡◌, ◌⊎◌, inl, inr, ◌+◌, ◌<◌, ◌≤◌, ◌==◌, ◌&&◌, ℕ, zero, suc, Bool, true, false, not, List, [], ◌∷◌, length, map, replicate, All, Option, Some, None, refl, sym, ap, ◌∙◌, subst, arith, codes, true≢false}
use Rattle.std.specs.Prelude.{IfSome, slice_index_or}
use Rattle.std.proofs.lemmas.Bool.{cases_eq, cases_lt, eqb-false, ne_eqb}
use Rattle.std.proofs.lemmas.List.{get_or_past, length-map, length-replicate}
use Rattle.std.proofs.lemmas.List.Elements.{All-cons}
use mathlib.Core.Path.{fun_ext}
use Rattle.span_model.specs.Columns.{Columns, set_of, sets_of}
use Rattle.span_model.specs.Attack.{Product, Probe, IsLeak, HasAttack, product_at}
use Rattle.span_model.specs.Refresh.{without}
use Rattle.span_model.specs.RefreshLaws.{LeftColumnsDoNotLeak}
use Rattle.usuba0.specs.Circuit.{Circuit, IsCore, products_of}
use Rattle.usuba0.specs.CoreText.{core_text}
use Rattle.linear_view.specs.AttackLaw.{AttacksAreTheViews}
use Rattle.linear_view.specs.Rows.{core_products, core_view}
use Rattle.linear_view.specs.View as view
use Rattle.linear_view.specs.View.{IsView}
use Rattle.attack_model.specs.declared.attack.Attack.{Attack}
use Rattle.attack_model.specs.declared.attack.Derivation.{Derivation}
use Rattle.attack_model.specs.declared.attack.Listing.{Listing}
use Rattle.attack_model.specs.declared.attack.Listing.TheVariants as listing
use Rattle.attack_model.specs.declared.attack.Probe.{Probe as Listed}
use Rattle.attack_model.specs.declared.attack.TheConstants.{MAX_PROBES}
use Rattle.attack_model.specs.Ranges.{InRange}
use Rattle.attack_model.specs.Derivations.{IsInOrder}
use Rattle.attack_probes.specs.Listings.{probes_of, Lists, Holds, HoldsBy}
use Rattle.attack_probes.specs.Unfolding.{unfolding_of}
use Rattle.attack_probes.specs.UnfoldingLaws.{UnfoldingIsAttack}
use Rattle.attack_cert.specs.Derivation.{IsDerivation}
use Rattle.attack_cert.specs.DerivationLaws.{DerivationsHold}
use Rattle.attack_text.specs.AttackText.{attack_text}
use Rattle.core_refresh.specs.RefreshedCore.{marked, refreshed_core}
use Rattle.core_refresh.specs.RefreshedLaws.{RefreshedCoreSize}
use Rattle.refresh_place.specs.RepairSet.{IsAttackedWith, IsRepairSetOf, IsRepairOf}
use Rattle.refresh_place.specs.RefreshedAttacks.{AttacksOnRefreshedCores}
use Rattle.refresh_place.proofs.Repairs.{is_repair}
use Rattle.c_form.specs.MaskedForm.{MaskedFormsExist}
use Rattle.c_print.specs.WordSize.{bits_of_c, FitsWord}
use Rattle.c_text.specs.CText.{c_text}
use Rattle.tornado_main.specs.Coverage.{HasOutcome}
use Rattle.tornado_main.specs.Files.{IsFetched}
use Rattle.tornado_main.specs.Outcome.{Outcome, answers, refused}
use Rattle.tornado_main.specs.Steps.{AfterFile, faulty, goes_on}
use Rattle.tornado_main.specs.commands.Check.{IsVerdict, secure, found}
use Rattle.tornado_main.specs.commands.Verify.{IsConfirmation, fails}
use Rattle.tornado_main.specs.commands.Repair.{IsRepaired}
use Rattle.tornado_main.specs.commands.Compile.{IsCompiled, masked, other_width}
use Rattle.tornado_main.specs.declared.message.Complaint.TheVariants as complaint
use Rattle.tornado_main.specs.declared.message.Spot.TheVariants as spot
use Rattle.tornado_main.specs.declared.message.Fault.{Fault}
use Rattle.tornado_main.specs.declared.status.Status.{Status}
use Rattle.tornado_main.specs.declared.status.Status.TheVariants as status
use Rattle.tornado_words.specs.Ranges.{IsWordSize}
use Rattle.tornado_main.proofs.VerdictLemmas.{attack_of_leak, holds_so}

-- an outcome that can't be missing
abbrev pub CanHaveOutcome : (Outcome → Type 0) → Type 0
CanHaveOutcome May = ¬ ¬ HasOutcome May

-- what bytes hold, or their fault
abbrev pub HoldsOrFaulty : {A : Type 0} → (A → List ℕ → Type 0) → (Fault → List ℕ → Type 0) → Type 0
HoldsOrFaulty {A} Held IsFaulty = (bytes : List ℕ) → ((a : A) × Held a bytes) ⊎ ((fault : Fault) × IsFaulty fault bytes)

module _ {A : Type 0} (file : List ℕ → Option (List ℕ)) (name : List ℕ) (at_fault : Status) (Held : A → List ℕ → Type 0)
    (IsFaulty : Fault → List ℕ → Type 0) (Next : A → Outcome → Type 0) where
  abbrev Ends : Outcome → Type 0
  Ends = AfterFile (Some file) name at_fault Held IsFaulty Next

  -- a file that is held has a fault, or the order goes on
  pub after_held : (bytes : List ℕ) → IsFetched (Some file) name bytes → HoldsOrFaulty Held IsFaulty
      → ((a : A) → Held a bytes → HasOutcome (Next a)) → HasOutcome Ends
  after_held bytes fetched read next = elim (read bytes) [
    | inl has ↦ (let last = next has.0 has.1 in (last.0, goes_on bytes has.0 last.0 fetched has.1 last.1, last.2))
    | inr wrong ↦ (refused at_fault name wrong.0, faulty bytes wrong.0 fetched wrong.1, tt)
  ]

  pub after_held_can : (bytes : List ℕ) → IsFetched (Some file) name bytes → HoldsOrFaulty Held IsFaulty
      → ((a : A) → Held a bytes → CanHaveOutcome (Next a)) → CanHaveOutcome Ends
  after_held_can bytes fetched read next none = elim (read bytes) [
    | inl has ↦ next has.0 has.1 (λ last. none (last.0, goes_on bytes has.0 last.0 fetched has.1 last.1, last.2))
    | inr wrong ↦ none (refused at_fault name wrong.0, faulty bytes wrong.0 fetched wrong.1, tt)
  ]

-- ---- listings

abbrev listed_of : Probe → Listed
listed_of probe = record { product = probe.product; left_share = probe.left_share; right_share = probe.right_share }

listed_again : (probes : List Probe) → probes_of (map listed_of probes) ≡ probes
listed_again [] = refl
listed_again (probe ∷ probes) = ap (λ (l : List Probe). probe ∷ l) (listed_again probes)

-- probes are listed, or are more than are
pub listing_of : (probes : List Probe) → (l : Listing) × Lists l probes
listing_of probes = elim (cases_lt MAX_PROBES (length probes)) [
  | inl many ↦ (listing.Large, many)
  | inr few ↦ (listing.Probes (map listed_of probes), (few, listed_again probes))
]

-- ---- attacks on a core

-- bits of a set of numbers, from a on
abbrev bits_from : Columns ℕ → (a n : ℕ) → List Bool
bits_from set a zero = []
bits_from set a (suc n) = set a ∷ bits_from set (suc a) n

length-bits_from : (set : Columns ℕ) (a n : ℕ) → length (bits_from set a n) ≡ n
length-bits_from set a zero = refl
length-bits_from set a (suc n) = ap suc (length-bits_from set (suc a) n)

bit_in : (set : Columns ℕ) (a n i : ℕ) → i < n → slice_index_or (bits_from set a n) i false ≡ set (a + i)
bit_in set a zero i l = absurd (omega arith)
bit_in set a (suc n) zero l = ap set (let e : a ≡ a + 0 = omega arith in e)
bit_in set a (suc n) (suc i) l =
    bit_in set (suc a) n i (omega (arith, l)) ∙ ap set (let e : suc a + i ≡ a + suc i = omega arith in e)

-- a set of numbers below n is that of its bits
set_of_bits : (set : Columns ℕ) (n : ℕ) → ((c : ℕ) → n ≤ c → set c ≡ false) → set_of (bits_from set 0 n) ≡ set
set_of_bits set n none = fun_ext (λ c. by c (cases_lt c n))
  where
    by : (c : ℕ) → (c < n) ⊎ (n ≤ c) → slice_index_or (bits_from set 0 n) c false ≡ set c
    by c (inl below) = bit_in set 0 n c below ∙ ap set (let e : 0 + c ≡ c = omega arith in e)
    by c (inr past) =
        get_or_past (bits_from set 0 n) c false (let e = length-bits_from set 0 n in omega (arith, e, past)) ∙ sym (none c past)

-- no row of so many bits holds a column past them
past_rows : (n : ℕ) (rows : List (List Bool)) (c : ℕ) → n ≤ c → All (λ row. length row ≡ n) rows
    → All (λ (row : Columns ℕ). row c ≡ false) (sets_of rows)
past_rows n [] c past all = λ i d l. absurd (omega arith)
past_rows n (row ∷ rows) c past all =
    let e : length row ≡ n = all 0 row (omega arith) in
    All-cons (λ (r : Columns ℕ). r c ≡ false) (set_of row) (sets_of rows) (get_or_past row c false (omega (arith, e, past)))
    (past_rows n rows c past (λ i d l. all (suc i) d (omega (arith, l))))

past_products : (n : ℕ) (products : List view.Operands) (k c : ℕ) → n ≤ c → All (view.AreOperands n) products
    → All (λ (row : Columns ℕ). row c ≡ false) (product_at (map view.product_of products) k).right
past_products n [] k c past all = λ i d l. absurd (omega arith)
past_products n (operands ∷ products) zero c past all =
    past_rows n operands.right c past (all 0 operands (omega arith)).right_columns
past_products n (operands ∷ products) (suc k) c past all =
    past_products n products k c past (λ i d l. all (suc i) d (omega (arith, l)))

module _ (law : AttacksAreTheViews) (left_columns : LeftColumnsDoNotLeak ℕ) (derivations : DerivationsHold ℕ)
    (unfolding_is_attack : UnfoldingIsAttack ℕ) (core : Circuit) (is_core : IsCore core) (is_view : IsView (core_view core)) where
  abbrev products : List (Product ℕ)
  products = view.products_of (core_view core)

  abbrev count : ℕ
  count = length (core_view core).columns

  -- the leak of an attack on the view holds no number past its columns
  within_columns : (leak : Columns ℕ) → IsLeak products leak → (c : ℕ) → count ≤ c → leak c ≡ false
  within_columns leak is c past =
      left_columns products c (λ k. past_products count (core_view core).products k c past is_view.operands) leak is

  -- a leak has a derivation and a listing, and so a text
  found_of : (row : List Bool) → length row ≡ count → IsLeak products (set_of row) → CanHaveOutcome (IsVerdict core)
  found_of row len is none =
      derivations.exists products (set_of row) is (λ made.
      let derived : IsDerivation products (set_of row) made.0 made.1 = made.2 in
      let d : Derivation = record { leak = row; steps = made.0; root = made.1 } in
      let listing = listing_of (unfolding_of made.0 made.1) in
      let attack = unfolding_is_attack products (set_of row) made.0 made.1
      (derivations.within products (set_of row) made.0 made.1 derived)
      (derivations.in_order products (set_of row) made.0 made.1 derived)
      (derivations.sound products (set_of row) made.0 made.1 derived) in
      let of_leak = attack_of_leak law core is_core (core_view core) refl row d listing.0 refl len derived attack listing.1 in
      let all : Attack = record { derivation = d; listing = listing.0 } in
      none (answers (attack_text (core_view core) all) status.Found, found all of_leak, tt))

  found_can : HasAttack products → CanHaveOutcome (IsVerdict core)
  found_can has =
      let row = bits_from has.0 0 count in
      let leak : IsLeak products has.0 = has.1 in
      let same : set_of row ≡ has.0 = set_of_bits has.0 count (within_columns has.0 leak) in
      found_of row (length-bits_from has.0 0 count) (subst (λ (l : Columns ℕ). IsLeak products l) (sym same) leak)

  -- a core has a verdict
  pub verdict_can : CanHaveOutcome (IsVerdict core)
  verdict_can none =
      let safe : ¬ HasAttack (core_products core) = λ has. found_can ((law.attack core is_core).0 has) none in
      none (answers (codes "secure\n") status.Done, secure safe, tt)

  -- the leak of an attack that holds is one
  leaks_by : (d : Derivation) (list : Listing) → All (λ step. step.product < length (core_view core).products) d.steps → IsInOrder d.steps d.root
      → HoldsBy products (set_of d.leak) d list → IsLeak products (set_of d.leak)
  leaks_by d (listing.Probes list) within order does = (length list, probes_of list, does)
  leaks_by d listing.Large within order does =
      let many = length-map (core_view core).products view.product_of in
      let inside : All (λ step. step.product < length products) d.steps = λ i step l. let h = within i step l in omega (arith, h, many) in
      (length (unfolding_of d.steps d.root), unfolding_of d.steps d.root, unfolding_is_attack products (set_of d.leak) d.steps d.root inside order does)

  -- an attack on it holds or not
  pub confirmation_can : (attack : Attack) → InRange (core_view core) attack → CanHaveOutcome (IsConfirmation core attack)
  confirmation_can attack range none =
      let not : ¬ Holds (core_view core) attack = λ does.
      none (
        answers (codes "attack holds\n") status.Done,
        holds_so law core is_core (core_view core) refl attack range.leak does
            (leaks_by attack.derivation attack.listing range.products range.order does),
        tt,
      ) in
      none (answers (codes "no attack\n") status.Found, fails not, tt)

-- ---- sets of refreshes

-- the marks without that of product k
abbrev cleared : ℕ → List Bool → List Bool
cleared k [] = []
cleared zero (mark ∷ marks) = false ∷ marks
cleared (suc k) (mark ∷ marks) = mark ∷ cleared k marks

length-cleared : (k : ℕ) (marks : List Bool) → length (cleared k marks) ≡ length marks
length-cleared k [] = refl
length-cleared zero (mark ∷ marks) = refl
length-cleared (suc k) (mark ∷ marks) = ap suc (length-cleared k marks)

cleared_true : (k : ℕ) (marks : List Bool) (j : ℕ) → marked (cleared k marks) j ≡ true → (marked marks j ≡ true) × (j ≡ k → ⊥)
cleared_true k [] j e = absurd (true≢false (sym e))
cleared_true zero (mark ∷ marks) zero e = absurd (true≢false (sym e))
cleared_true zero (mark ∷ marks) (suc j) e = (e, λ same. omega (arith, same))
cleared_true (suc k) (mark ∷ marks) zero e = (e, λ same. omega (arith, same))
cleared_true (suc k) (mark ∷ marks) (suc j) e = let rest = cleared_true k marks j e in (rest.0, λ same. rest.1 (omega (arith, same)))

true_cleared : (k : ℕ) (marks : List Bool) (j : ℕ) → marked marks j ≡ true → (j ≡ k → ⊥) → marked (cleared k marks) j ≡ true
true_cleared k [] j e other = e
true_cleared zero (mark ∷ marks) zero e other = absurd (other refl)
true_cleared zero (mark ∷ marks) (suc j) e other = e
true_cleared (suc k) (mark ∷ marks) zero e other = e
true_cleared (suc k) (mark ∷ marks) (suc j) e other = true_cleared k marks j e (λ same. other (ap suc same))

without_true : (set : ℕ → Bool) (k j : ℕ) → without k set j ≡ true → (set j ≡ true) × (j ≡ k → ⊥)
without_true set k j e = by (set j) (j == k) refl refl e
  where
    by : (a b : Bool) → set j ≡ a → (j == k) ≡ b → (a && not b) ≡ true → (set j ≡ true) × (j ≡ k → ⊥)
    by true false ea eb e = (ea, eqb-false j k eb)
    by true true ea eb e = absurd (true≢false (sym e))
    by false b ea eb e = absurd (true≢false (sym e))

true_without : (set : ℕ → Bool) (k j : ℕ) → set j ≡ true → (j ≡ k → ⊥) → without k set j ≡ true
true_without set k j e other = ap (λ (b : Bool). b && not (j == k)) e ∙ ap not (ne_eqb j k other)

all_marked : (n k : ℕ) → k < n → marked (replicate n true) k ≡ true
all_marked zero k l = absurd (omega arith)
all_marked (suc n) zero l = refl
all_marked (suc n) (suc k) l = all_marked n k (omega (arith, l))

module _ (laws : AttacksOnRefreshedCores) (core : Circuit) (is_core : IsCore core) where
  abbrev many : ℕ
  many = products_of core.equations

  -- a set without an attack, of whose products below k none can be left out
  record IsRepairTo (k : ℕ) (marks : List Bool) : Type 0 where
    count : length marks ≡ many
    secure : ¬ IsAttackedWith core (marked marks)
    needed : (j : ℕ) → j < k → marked marks j ≡ true → IsAttackedWith core (without j (marked marks))

  all_repair : IsRepairTo 0 (replicate many true)
  all_repair = record {
    count = length-replicate many true;
    secure = laws.all_refreshed core (marked (replicate many true)) is_core (all_marked many);
    needed = λ j l. absurd (omega arith);
  }

  -- product k is left out where no attack comes of it
  leave_out : (k : ℕ) (marks : List Bool) → IsRepairTo k marks → ¬ IsAttackedWith core (without k (marked marks)) → IsRepairTo (suc k) (cleared k marks)
  leave_out k marks is safe = record {
    count = length-cleared k marks ∙ is.count;
    secure = λ attacked. safe (laws.fewer core (without k (marked marks)) (marked (cleared k marks)) is_core
        (λ j e. let h = without_true (marked marks) k j e in true_cleared k marks j h.0 h.1) attacked);
    needed = λ j l e.
        let h = cleared_true k marks j e in
        let before : j < k = (let other = h.1 in below j k l other) in
        laws.fewer core (without j (marked (cleared k marks))) (without j (marked marks)) is_core
        (λ i f. let g = without_true (marked (cleared k marks)) j i f in true_without (marked marks) j i (cleared_true k marks i g.0).0 g.1)
        (is.needed j before h.0);
  }
    where
      below : (j k : ℕ) → j < suc k → (j ≡ k → ⊥) → j < k
      below j k l other = elim (cases_lt j k) [ inl h ↦ h | inr h ↦ absurd (other (omega (arith, h, l))) ]

  keep : (k : ℕ) (marks : List Bool) → IsRepairTo k marks → IsAttackedWith core (without k (marked marks)) → IsRepairTo (suc k) marks
  keep k marks is attacked = record {
    count = is.count;
    secure = is.secure;
    needed = λ j l e. elim (cases_eq j k) [
      | inl same ↦ subst (λ (i : ℕ). IsAttackedWith core (without i (marked marks))) (sym same) attacked
      | inr other ↦ is.needed j (before j l other) e
    ];
  }
    where
      before : (j : ℕ) → j < suc k → (j ≡ k → ⊥) → j < k
      before j l other = elim (cases_lt j k) [ inl h ↦ h | inr h ↦ absurd (other (omega (arith, h, l))) ]

  repair_to : (k : ℕ) → ¬ ¬ ((marks : List Bool) × IsRepairTo k marks)
  repair_to zero none = none (replicate many true, all_repair)
  repair_to (suc k) none = repair_to k (λ so_far.
      let marks = so_far.0 in
      let safe : ¬ IsAttackedWith core (without k (marked marks)) = λ attacked. none (marks, keep k marks so_far.1 attacked) in
      none (cleared k marks, leave_out k marks so_far.1 safe))

  repairs : (marks : List Bool) → IsRepairTo many marks → IsRepairSetOf core (marked marks)
  repairs marks is = record { secure = is.secure; needed = λ k below e. is.needed k below e }

  -- a core has a repair
  pub repaired_can : CanHaveOutcome (IsRepaired core)
  repaired_can none = repair_to many (λ made.
      let marks = made.0 in
      let repaired = refreshed_core core (marked marks) in
      let is : IsRepairOf core repaired marks = is_repair laws core repaired marks is_core made.1.count refl (repairs marks made.1) in
      none (answers (core_text repaired) status.Done, (repaired, marks, is, refl), tt))

  -- and it is compiled, for words of a size where its width is 1, else refused
  module _ (size : RefreshedCoreSize) (forms : MaskedFormsExist) (file : List ℕ) where
    masked_can : (word : Option ℕ) → FitsWord word core → CanHaveOutcome (IsCompiled file word core)
    masked_can word fits none = repair_to many (λ made.
        let set = marked made.0 in
        let form = forms (refreshed_core core set) (size.core core set is_core) (bits_of_c word core.width) in
        none (
          answers (c_text form.0) status.Done,
          masked form.0 (record { is_core = is_core; fits = fits; set = set; repairs = repairs made.0 made.1; form = form.1 }),
          tt,
        ))

    pub compiled_can : (word : Option ℕ) → IfSome word IsWordSize → CanHaveOutcome (IsCompiled file word core)
    compiled_can None sized = masked_can None tt
    compiled_can (Some word) sized = elim (cases_eq core.width 1) [
      | inl one ↦ masked_can (Some word) (one, sized)
      | inr other ↦ (λ none. none
          (refused status.Source file (record { at = spot.Whole; what = complaint.WordSize }), other_width refl other, tt))
    ]
