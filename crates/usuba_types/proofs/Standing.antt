-- What is kept in a pass through the definitions is what the phases from the sixth on come to.
use Rattle.std.proofs.Common.{◌≡◌, inl, inr, ℕ, zero, suc, ◌+◌, ◌<◌, ◌≤◌, Bool, true, false, ◌||◌, List, [], ◌∷◌, ◌++◌, length, drop, get_or, Option, Some, None, refl, sym, ap, ◌∙◌, subst, arith}
use Rattle.std.specs.Prelude.{bytes_eq, if◌then◌else◌}
use Rattle.std.proofs.lemmas.Bool.{cases_lt}
use Rattle.std.proofs.lemmas.List.{append-nil, drop_all}
use Rattle.std.proofs.lemmas.Slice.Eq.{bytes_eq-Decides}
use Rattle.usuba_trees.specs.declared.Def.{Def}
use Rattle.usuba_trees.specs.declared.Def.TheVariants as def
use Rattle.usuba_trees.specs.declared.Node.{Node}
use Rattle.usuba_model.specs.declared.fault.Fault.{Fault}
use Rattle.usuba_model.specs.declared.fault.FaultKind.{FaultKind}
use Rattle.usuba_model.specs.declared.fault.FaultKind.TheVariants.{AssignedTwice, Unassigned, Cyclic}
use Rattle.usuba_model.specs.Assignments.{of_nodes, twice_in, unassigned_in, cyclic_in, twice_fault, unassigned_fault, cyclic_fault}
use Rattle.usuba_model.specs.Entries.{name_place}
use Rattle.usuba_model.specs.Faults.{Finding, first_of, either}
use Rattle.usuba_model.specs.Judging.{walks_fault, name_at, later_fault}
use Rattle.usuba_model.specs.Names.{is_name_among, name_of, declared_in, repeated, repeated_declarations, counters_in, repeated_names, unknown_in_definition, unknown_names}
use Rattle.usuba_model.specs.Numbers.{AreDistinct, callee_number}
use Rattle.usuba_model.specs.Operations.{Size, Sized, size_named, size_of_definition, sizes_from, size_fault}
use Rattle.usuba_model.specs.Walk.{Signature, signature, definition_steps, walk_fault, count_of}
use Rattle.usuba_model.proofs.FileOutcomes.{signature_name}
use Rattle.usuba_model.proofs.Knowing.{NoneHold, none_first, none_second}
use Rattle.usuba_code.proofs.Numbering.{distinct_names}
use Rattle.ready_order.proofs.Carrying.{numbered_findings}
use Rattle.usuba_walk.specs.Walking.{coded_definition}
use Rattle.usuba_types.specs.declared.faults.FirstFaults.{FirstFaults}
use Rattle.usuba_types.specs.declared.sizes.CappedSize.{CappedSize}
use Rattle.usuba_types.specs.Sizes.{capped, capped_at}
use Rattle.usuba_types.specs.SizeLaws.{in_order, signature_names, HaveSameNames}
use Rattle.usuba_types.specs.State.Passing.{kept_after_numbered, sized_numbered}
use Rattle.usuba_types.proofs.Adding.{drop-next}
use Rattle.usuba_types.proofs.Naming.{at_number, node_sizes}

either_none : (a : Option Fault) → either a None ≡ a
either_none None = refl
either_none (Some fault) = refl

either_assoc : (a b c : Option Fault) → either (either a b) c ≡ either a (either b c)
either_assoc None b c = refl
either_assoc (Some fault) b c = refl

first_of-append : (kind : FaultKind) (a b : List Finding) → first_of kind (a ++ b) ≡ either (first_of kind a) (first_of kind b)
first_of-append kind [] b = refl
first_of-append kind (finding ∷ a) b = at finding.holds (first_of-append kind a b)
  where
    at : (holds : Bool) → first_of kind (a ++ b) ≡ either (first_of kind a) (first_of kind b)
        → (if holds then Some (record { kind = kind; place = finding.place }) else first_of kind (a ++ b))
        ≡ either (if holds then Some (record { kind = kind; place = finding.place }) else first_of kind a) (first_of kind b)
    at true rest = refl
    at false rest = rest

-- the findings of a definition and of those after it
of_nodes-next : (of : Node → List Finding) (d : Def) (rest : List Def) → of_nodes of (d ∷ rest) ≡ of_nodes of (d ∷ []) ++ of_nodes of rest
of_nodes-next of (def.Node node) rest = ap (λ l. l ++ of_nodes of rest) (sym (append-nil (of node)))
of_nodes-next of (def.Table grid) rest = refl
of_nodes-next of (def.Perm grid) rest = refl

-- one more definition was looked at in a phase
phase-next : (kind : FaultKind) (of : Node → List Finding) (d : Def) (rest here : List Def) (before after whole : Option Fault)
    → here ≡ d ∷ rest → after ≡ either before (first_of kind (of_nodes of (d ∷ [])))
    → either before (first_of kind (of_nodes of here)) ≡ whole → either after (first_of kind (of_nodes of rest)) ≡ whole
phase-next kind of d rest here before after whole opened now so_far =
    let later = first_of kind (of_nodes of rest) in
    let own = first_of kind (of_nodes of (d ∷ [])) in
    ap (λ o. either o later) now ∙ either_assoc before own later
    ∙ ap (either before)
    (sym (ap (first_of kind) (ap (of_nodes of) opened ∙ of_nodes-next of d rest) ∙ first_of-append kind (of_nodes of (d ∷ [])) (of_nodes of rest)))
    ∙ so_far

-- what is kept over numbered instances is the first fault over names
module _ (signatures : List Signature) (kept : FirstFaults) where
  twice-named : (d : Def) → AreDistinct (declared_in d)
      → (kept_after_numbered kept d (coded_definition signatures d)).twice ≡ either kept.twice (first_of AssignedTwice (of_nodes twice_in (d ∷ [])))
  twice-named (def.Node node) distinct =
      ap (λ l. either kept.twice (first_of AssignedTwice l)) (numbered_findings.twice signatures node distinct ∙ sym (append-nil (twice_in node)))
  twice-named (def.Table grid) distinct = sym (either_none kept.twice)
  twice-named (def.Perm grid) distinct = sym (either_none kept.twice)

  unassigned-named : (d : Def) → AreDistinct (declared_in d)
      → (kept_after_numbered kept d (coded_definition signatures d)).unassigned ≡ either kept.unassigned (first_of Unassigned (of_nodes unassigned_in (d ∷ [])))
  unassigned-named (def.Node node) distinct =
      ap (λ l. either kept.unassigned (first_of Unassigned l)) (numbered_findings.unassigned signatures node distinct ∙ sym (append-nil (unassigned_in node)))
  unassigned-named (def.Table grid) distinct = sym (either_none kept.unassigned)
  unassigned-named (def.Perm grid) distinct = sym (either_none kept.unassigned)

  cyclic-named : (d : Def) → AreDistinct (declared_in d)
      → (kept_after_numbered kept d (coded_definition signatures d)).cyclic ≡ either kept.cyclic (first_of Cyclic (of_nodes cyclic_in (d ∷ [])))
  cyclic-named (def.Node node) distinct =
      ap (λ l. either kept.cyclic (first_of Cyclic l)) (numbered_findings.cyclic signatures node distinct ∙ sym (append-nil (cyclic_in node)))
  cyclic-named (def.Table grid) distinct = sym (either_none kept.cyclic)
  cyclic-named (def.Perm grid) distinct = sym (either_none kept.cyclic)

-- the size of a definition by numbers is the size by names
size-named : (w : ℕ) (signatures : List Signature) (known : List Sized) (d : Def) → HaveSameNames signatures known
    → NoneHold (unknown_in_definition (signature_names signatures) d)
    → sized_numbered (in_order known) d (count_of (definition_steps w signatures d)) (coded_definition signatures d)
    ≡ capped (size_of_definition w signatures known d)
size-named w signatures known (def.Node node) same none = node_sizes w signatures known node same none
size-named w signatures known (def.Table grid) same none = refl
size-named w signatures known (def.Perm grid) same none = refl

-- the first so many definitions were looked at: what calls see of them, their sizes, and the first faults
pub record Stands (w : ℕ) (defs : List Def) (i : ℕ) (signatures : List Signature) (sizes : List CappedSize) (kept : FirstFaults) : Type 0 where
  pub known : List Sized
  pub taken : List (List ℕ)
  pub same : HaveSameNames signatures known
  pub in_file : sizes ≡ in_order known
  pub later_sizes : sizes_from w signatures known (drop i defs) ≡ sizes_from w [] [] defs
  pub walks : walks_fault w signatures (drop i defs) ≡ walks_fault w [] defs
  pub twice : either kept.twice (twice_fault (drop i defs)) ≡ twice_fault defs
  pub unassigned : either kept.unassigned (unassigned_fault (drop i defs)) ≡ unassigned_fault defs
  pub cyclic : either kept.cyclic (cyclic_fault (drop i defs)) ≡ cyclic_fault defs
  pub unknown : NoneHold (unknown_names (signature_names signatures) (drop i defs))
  pub repeated : NoneHold (repeated_names taken (drop i defs))
  pub names : (k : ℕ) → k < i → is_name_among (signature_names signatures) (name_at defs k) ≡ true

-- at first nothing was looked at
pub stands-first : (w : ℕ) (defs : List Def) (i : ℕ) (signatures : List Signature) (sizes : List CappedSize) (kept : FirstFaults)
    → i ≡ 0 → signatures ≡ [] → sizes ≡ [] → kept ≡ record { twice = None; unassigned = None; cyclic = None }
    → NoneHold (unknown_names [] defs) → NoneHold (repeated_names [] defs) → Stands w defs i signatures sizes kept
stands-first w defs i signatures sizes kept begins no_signatures no_sizes no_faults unknown repeated =
    subst (λ n. Stands w defs n signatures sizes kept) (sym begins)
    (subst (λ s. Stands w defs 0 s sizes kept) (sym no_signatures)
    (subst (λ z. Stands w defs 0 [] z kept) (sym no_sizes) (subst (λ f. Stands w defs 0 [] [] f) (sym no_faults) (record {
      known = [];
      taken = [];
      same = tt;
      in_file = refl;
      later_sizes = refl;
      walks = refl;
      twice = refl;
      unassigned = refl;
      cyclic = refl;
      unknown = unknown;
      repeated = repeated;
      names = λ k less. absurd (omega (arith, less));
    }))))

or_second : (a b : Bool) → b ≡ true → (a || b) ≡ true
or_second true b e = refl
or_second false b e = e

or_first : (a b : Bool) → a ≡ true → (a || b) ≡ true
or_first a b e = ap (λ c. c || b) e

module _ (w : ℕ) (defs : List Def) (i : ℕ) (signatures : List Signature) (sizes : List CappedSize) (kept : FirstFaults) (d : Def)
    (opened : drop i defs ≡ d ∷ drop (i + 1) defs) (before : Stands w defs i signatures sizes kept) where
  abbrev rest : List Def
  rest = drop (i + 1) defs

  names_opened : NoneHold (repeated_names before.taken (d ∷ rest))
  names_opened = subst (λ l. NoneHold (repeated_names before.taken l)) opened before.repeated

  unknown_opened : NoneHold (unknown_names (signature_names signatures) (d ∷ rest))
  unknown_opened = subst (λ l. NoneHold (unknown_names (signature_names signatures) l)) opened before.unknown

  distinct : AreDistinct (declared_in d)
  distinct =
      (distinct_names [] (declared_in d)
      (none_first (repeated_declarations [] (declared_in d)) (counters_in d)
      (none_first (repeated_declarations [] (declared_in d) ++ counters_in d) (repeated_names ((name_of d).text ∷ before.taken) rest) names_opened.1))).1

  known_here : NoneHold (unknown_in_definition (signature_names signatures) d)
  known_here = none_first (unknown_in_definition (signature_names signatures) d) _ unknown_opened

  -- the fault of a walk is the first of the later phases
  pub stands-stops : (entry : ℕ) (fault : Fault) → walk_fault 0 (definition_steps w signatures d) ≡ Some fault → later_fault w defs entry ≡ Some fault
  stands-stops entry fault found =
      let later = either (twice_fault defs) (either (unassigned_fault defs) (either (cyclic_fault defs)
      (size_fault (name_place defs entry) (size_named (sizes_from w [] [] defs) (name_at defs entry))))) in
      ap (λ o. either o later)
      (sym before.walks ∙ ap (walks_fault w signatures) opened ∙ ap (λ o. either o (walks_fault w (signature d ∷ signatures) rest)) found)

  -- one more definition was looked at
  pub stands-next : (signatures' : List Signature) (sizes' : List CappedSize) (kept' : FirstFaults) → name_at defs i ≡ (name_of d).text
      → walk_fault 0 (definition_steps w signatures d) ≡ None
      → signatures' ≡ signature d ∷ signatures
      → sizes' ≡ sizes ++ sized_numbered sizes d (count_of (definition_steps w signatures d)) (coded_definition signatures d) ∷ []
      → kept' ≡ kept_after_numbered kept d (coded_definition signatures d)
      → Stands w defs (i + 1) signatures' sizes' kept'
  stands-next signatures' sizes' kept' named clean are_signatures are_sizes are_kept =
      let after : FirstFaults = kept_after_numbered kept d (coded_definition signatures d) in
      subst (λ s. Stands w defs (i + 1) s sizes' kept') (sym are_signatures)
      (subst (λ f. Stands w defs (i + 1) (signature d ∷ signatures) sizes' f) (sym are_kept) (record {
        known = record { name = (name_of d).text; size = size_of_definition w signatures before.known d } ∷ before.known;
        taken = (name_of d).text ∷ before.taken;
        same = (signature_name d, before.same);
        in_file =
            are_sizes
            ∙ ap (λ z. z ++ sized_numbered z d (count_of (definition_steps w signatures d)) (coded_definition signatures d) ∷ []) before.in_file
            ∙ ap (λ z. in_order before.known ++ z ∷ []) (size-named w signatures before.known d before.same known_here);
        later_sizes = ap (sizes_from w signatures before.known) (sym opened) ∙ before.later_sizes;
        walks = sym (ap (λ o. either o (walks_fault w (signature d ∷ signatures) rest)) clean) ∙ ap (walks_fault w signatures) (sym opened) ∙ before.walks;
        twice = phase-next AssignedTwice twice_in d rest (drop i defs) kept.twice after.twice _ opened (twice-named signatures kept d distinct) before.twice;
        unassigned = phase-next Unassigned unassigned_in d rest (drop i defs) kept.unassigned after.unassigned _ opened (unassigned-named signatures kept d distinct) before.unassigned;
        cyclic = phase-next Cyclic cyclic_in d rest (drop i defs) kept.cyclic after.cyclic _ opened (cyclic-named signatures kept d distinct) before.cyclic;
        unknown =
            subst (λ n. NoneHold (unknown_names (n ∷ signature_names signatures) rest)) (sym (signature_name d))
            (none_second (unknown_in_definition (signature_names signatures) d) _ unknown_opened);
        repeated =
            none_second (repeated_declarations [] (declared_in d) ++ counters_in d) (repeated_names ((name_of d).text ∷ before.taken) rest) names_opened.1;
        names = λ k less. elim (cases_lt k i) [
          | inl earlier ↦ or_second (bytes_eq (name_at defs k) (signature d).name) _ (before.names k earlier)
          | inr most ↦ (
              let here : k ≡ i = omega (arith, less, most) in
              or_first (bytes_eq (name_at defs k) (signature d).name) _
              ((bytes_eq-Decides (name_at defs k) (signature d).name).1 (ap (name_at defs) here ∙ named ∙ sym (signature_name d)))
              )
        ];
      }))

-- all definitions were looked at
pub stands-ends : (w : ℕ) (defs : List Def) (i : ℕ) (signatures : List Signature) (sizes : List CappedSize) (kept : FirstFaults) (entry : ℕ)
    (found : Option Fault) → length defs ≤ i → entry < length defs → Stands w defs i signatures sizes kept
    → ((whole : Size) → capped_at sizes (callee_number signatures (name_at defs entry)) ≡ capped whole
    → found ≡ either kept.twice (either kept.unassigned (either kept.cyclic (size_fault (name_place defs entry) whole))))
    → found ≡ later_fault w defs entry
stands-ends w defs i signatures sizes kept entry found past within stands gives =
    let none : drop i defs ≡ [] = drop_all i defs past in
    let walks : None ≡ walks_fault w [] defs = ap (walks_fault w signatures) (sym none) ∙ stands.walks in
    let twice : kept.twice ≡ twice_fault defs
    = sym (either_none kept.twice) ∙ ap (λ l. either kept.twice (twice_fault l)) (sym none) ∙ stands.twice in
    let unassigned : kept.unassigned ≡ unassigned_fault defs
    = sym (either_none kept.unassigned) ∙ ap (λ l. either kept.unassigned (unassigned_fault l)) (sym none) ∙ stands.unassigned in
    let cyclic : kept.cyclic ≡ cyclic_fault defs
    = sym (either_none kept.cyclic) ∙ ap (λ l. either kept.cyclic (cyclic_fault l)) (sym none) ∙ stands.cyclic in
    let known : stands.known ≡ sizes_from w [] [] defs
    = ap (sizes_from w signatures stands.known) (sym none) ∙ stands.later_sizes in
    let at : capped_at sizes (callee_number signatures (name_at defs entry)) ≡ capped (size_named stands.known (name_at defs entry))
    = ap (λ z. capped_at z (callee_number signatures (name_at defs entry))) stands.in_file
    ∙ at_number signatures stands.known stands.same (name_at defs entry) (stands.names entry (omega (arith, past, within))) in
    let size = size_fault (name_place defs entry) (size_named (sizes_from w [] [] defs) (name_at defs entry)) in
    gives (size_named stands.known (name_at defs entry)) at
    ∙ ap (λ k. either kept.twice (either kept.unassigned (either kept.cyclic (size_fault (name_place defs entry) (size_named k (name_at defs entry)))))) known
    ∙ ap (λ o. either o (either kept.unassigned (either kept.cyclic size))) twice
    ∙ ap (λ o. either (twice_fault defs) (either o (either kept.cyclic size))) unassigned
    ∙ ap (λ o. either (twice_fault defs) (either (unassigned_fault defs) (either o size))) cyclic
    ∙ ap (λ o. either o (either (twice_fault defs) (either (unassigned_fault defs) (either (cyclic_fault defs) size)))) walks

-- the definition at a number has its name
pub name-text : (defs : List Def) (k : ℕ) (d : Def) → k < length defs → d ≡ get_or defs k d → (name_of d).text ≡ name_at defs k
name-text [] k d within is = absurd (omega (arith, within))
name-text (first ∷ rest) zero d within is = ap (λ e. (name_of e).text) is
name-text (first ∷ rest) (suc k) d within is = name-text rest k d (omega (arith, within)) is

pub name-stands : (defs : List Def) (k : ℕ) (d : Def) → k < length defs → d ≡ get_or defs k d → (name_of d).place ≡ name_place defs k
name-stands [] k d within is = absurd (omega (arith, within))
name-stands (first ∷ rest) zero d within is = ap (λ e. (name_of e).place) is
name-stands (first ∷ rest) (suc k) d within is = name-stands rest k d (omega (arith, within)) is

-- the definition at a number is the first of those from there on
pub opens : (defs : List Def) (i : ℕ) (d : Def) → i < length defs → d ≡ get_or defs i d → drop i defs ≡ d ∷ drop (i + 1) defs
opens defs i d within is = drop-next defs i d within is

-- the same where the definitions are read from a slice
pub in-file : (items defs : List Def) (i : ℕ) (d : Def) → items ≡ defs → i < length items → d ≡ get_or items i d
    → (i < length defs) × (d ≡ get_or defs i d)
in-file items defs i d same within is =
    subst (λ (l : List Def). (i < length l) × (d ≡ get_or l i d)) same (within, is)
