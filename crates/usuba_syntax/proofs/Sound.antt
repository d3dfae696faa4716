-- A text of the table is a text of the grammar, and its steps make the tree.
use Rattle.std.proofs.Common.{◌+◌, ℕ, zero, suc, List, [], ◌∷◌, ◌++◌, ◌≡◌, refl, ap, sym, ◌∙◌, Some, IsTrue, slice_get, arith}
use Rattle.ll_reader.specs.Derivation.{Derives, items}
use Rattle.ll_reader.specs.Derivation as derivation
use Rattle.ll_reader.specs.declared.grammar.Item as Items
use Rattle.ll_reader.specs.declared.grammar.Item.TheVariants as due
use Rattle.ll_reader.specs.declared.grammar.Production.{Production}
use Rattle.ll_reader.specs.declared.grammar.Step.{Step}
use Rattle.ll_reader.specs.declared.grammar.Step.TheVariants.{Choose}
use Rattle.usuba_parts.specs.Actions.{act, fits}
use Rattle.usuba_parts.specs.declared.part.Part.{Part}
use Rattle.usuba_syntax.specs.Classes.{class_of}
use Rattle.usuba_syntax.specs.Values.{values, part_of, action_of}
use Rattle.usuba_syntax.specs.declared.table.TheConstants.{PRODUCTIONS}
use Rattle.usuba_tokens.specs.declared.token.Token.{Token}
use Rattle.usuba_syntax.proofs.Meaning.{token_is, Is, Reads, Makes, nil, token, rule}
use Rattle.std.proofs.Common.{subst, add-zero, zero-add}
use Rattle.usuba_syntax.proofs.Runs.{classes}
use Rattle.usuba_syntax.proofs.DeclarationRows as declaration_row
use Rattle.usuba_syntax.proofs.ExpressionRows as expression_row
use Rattle.usuba_syntax.proofs.IndexRows as index_row
use Rattle.usuba_syntax.proofs.ItemRows as item_row

-- a production's action makes what its rule means
abbrev pub IsGood : ℕ → Production → Type 0
IsGood k p = (a : List Token) (ps : List Part) (b : List Token) → Reads (items p) a ps b → Makes p.rule (action_of k) a ps b

data AllGood : ℕ → List Production → Type 0 where
  none_left : {k : ℕ} → AllGood k []
  and_next : {k : ℕ} {p : Production} {ps : List Production} → IsGood k p → AllGood (suc k) ps → AllGood k (p ∷ ps)

-- each production of the table is good
all_good : AllGood 0 PRODUCTIONS
all_good =
    and_next (λ a ps b r. declaration_row.made_file r) (
    and_next (λ a ps b r. declaration_row.made_defs r) (
    and_next (λ a ps b r. declaration_row.made_more_defs r) (
    and_next (λ a ps b r. declaration_row.made_no_more_defs r) (
    and_next (λ a ps b r. declaration_row.made_plain_def r) (
    and_next (λ a ps b r. declaration_row.made_inline_def r) (
    and_next (λ a ps b r. declaration_row.made_no_inline_def r) (
    and_next (λ a ps b r. declaration_row.made_node_def r) (
    and_next (λ a ps b r. declaration_row.made_table_def r) (
    and_next (λ a ps b r. declaration_row.made_perm_def r) (
    and_next (λ a ps b r. declaration_row.made_grid r) (
    and_next (λ a ps b r. declaration_row.made_numbers_of_grid r) (
    and_next (λ a ps b r. declaration_row.made_more_numbers r) (
    and_next (λ a ps b r. declaration_row.made_no_more_numbers r) (
    and_next (λ a ps b r. declaration_row.made_locals r) (
    and_next (λ a ps b r. declaration_row.made_no_locals r) (
    and_next (λ a ps b r. declaration_row.made_results_in_brackets r) (
    and_next (λ a ps b r. declaration_row.made_bare_results r) (
    and_next (λ a ps b r. declaration_row.made_decls r) (
    and_next (λ a ps b r. declaration_row.made_more_decls r) (
    and_next (λ a ps b r. declaration_row.made_no_more_decls r) (
    and_next (λ a ps b r. declaration_row.made_decl r) (
    and_next (λ a ps b r. declaration_row.made_next_name r) (
    and_next (λ a ps b r. declaration_row.made_type_of_names r) (
    and_next (λ a ps b r. declaration_row.made_shape r) (
    and_next (λ a ps b r. declaration_row.made_next_dim r) (
    and_next (λ a ps b r. declaration_row.made_no_more_dims r) (
    and_next (λ a ps b r. item_row.made_loop_first r) (
    and_next (λ a ps b r. item_row.made_equation_first r) (
    and_next (λ a ps b r. item_row.made_no_items r) (
    and_next (λ a ps b r. item_row.made_semicolon_after_loop r) (
    and_next (λ a ps b r. item_row.made_nothing_after_loop r) (
    and_next (λ a ps b r. item_row.made_semicolon_after_equation r) (
    and_next (λ a ps b r. item_row.made_nothing_after_equation r) (
    and_next (λ a ps b r. item_row.made_loop r) (
    and_next (λ a ps b r. item_row.made_bounds r) (
    and_next (λ a ps b r. item_row.made_body r) (
    and_next (λ a ps b r. item_row.made_equation r) (
    and_next (λ a ps b r. item_row.made_one_spot r) (
    and_next (λ a ps b r. item_row.made_spots_in_brackets r) (
    and_next (λ a ps b r. item_row.made_spot_group r) (
    and_next (λ a ps b r. item_row.made_spots r) (
    and_next (λ a ps b r. item_row.made_more_spots r) (
    and_next (λ a ps b r. item_row.made_no_more_spots r) (
    and_next (λ a ps b r. index_row.made_spot r) (
    and_next (λ a ps b r. index_row.made_next_pick r) (
    and_next (λ a ps b r. index_row.made_no_more_picks r) (
    and_next (λ a ps b r. index_row.made_pick r) (
    and_next (λ a ps b r. index_row.made_high r) (
    and_next (λ a ps b r. index_row.made_no_high r) (
    and_next (λ a ps b r. expression_row.made_expr r) (
    and_next (λ a ps b r. expression_row.made_next_xors r) (
    and_next (λ a ps b r. expression_row.made_no_more_xors r) (
    and_next (λ a ps b r. expression_row.made_xors r) (
    and_next (λ a ps b r. expression_row.made_next_ands r) (
    and_next (λ a ps b r. expression_row.made_no_more_ands r) (
    and_next (λ a ps b r. expression_row.made_ands r) (
    and_next (λ a ps b r. expression_row.made_next_shifts r) (
    and_next (λ a ps b r. expression_row.made_no_more_shifts r) (
    and_next (λ a ps b r. expression_row.made_shifts r) (
    and_next (λ a ps b r. expression_row.made_left_shift r) (
    and_next (λ a ps b r. expression_row.made_right_shift r) (
    and_next (λ a ps b r. expression_row.made_left_rotation r) (
    and_next (λ a ps b r. expression_row.made_right_rotation r) (
    and_next (λ a ps b r. expression_row.made_no_more_amounts r) (
    and_next (λ a ps b r. expression_row.made_complemented r) (
    and_next (λ a ps b r. expression_row.made_not_complemented r) (
    and_next (λ a ps b r. expression_row.made_complement r) (
    and_next (λ a ps b r. expression_row.made_number_expr r) (
    and_next (λ a ps b r. expression_row.made_name_expr r) (
    and_next (λ a ps b r. expression_row.made_refresh_expr r) (
    and_next (λ a ps b r. expression_row.made_tuple r) (
    and_next (λ a ps b r. expression_row.made_arguments r) (
    and_next (λ a ps b r. expression_row.made_picks_of_name r) (
    and_next (λ a ps b r. expression_row.made_expr_group r) (
    and_next (λ a ps b r. expression_row.made_exprs r) (
    and_next (λ a ps b r. expression_row.made_more_exprs r) (
    and_next (λ a ps b r. expression_row.made_no_more_exprs r) (
    and_next (λ a ps b r. expression_row.made_refresh_args r) (
    and_next (λ a ps b r. index_row.made_index r) (
    and_next (λ a ps b r. index_row.made_sum r) (
    and_next (λ a ps b r. index_row.made_difference r) (
    and_next (λ a ps b r. index_row.made_no_more_products r) (
    and_next (λ a ps b r. index_row.made_product r) (
    and_next (λ a ps b r. index_row.made_times r) (
    and_next (λ a ps b r. index_row.made_over r) (
    and_next (λ a ps b r. index_row.made_remainder r) (
    and_next (λ a ps b r. index_row.made_no_more_atoms r) (
    and_next (λ a ps b r. index_row.made_number_atom r) (
    and_next (λ a ps b r. index_row.made_counter_atom r) (
    and_next (λ a ps b r. index_row.made_atom_in_brackets r) (
    and_next (λ a ps b r. index_row.made_index_group r) (
    and_next (λ a ps b r. index_row.made_word_name r) (
    and_next (λ a ps b r. index_row.made_type_word_name r) (
    and_next (λ a ps b r. index_row.made_in_name r) (
    and_next (λ a ps b r. index_row.made_zero_number r) (
    and_next (λ a ps b r. index_row.made_positive_number r) (
    and_next (λ a ps b r. index_row.made_big_number r) (
    and_next (λ a ps b r. index_row.made_positive_dim r) (
    and_next (λ a ps b r. index_row.made_big_dim r) (
    none_left))))))))))))))))))))))))))))))))))))))))))))))))))))))))))))))))))))))))))))))))))))))))))))))))))))

same_good : (n : ℕ) (p q : Production) → p ≡ q → IsGood n p → IsGood n q
same_good n p q e g = subst (λ (r : Production). IsGood n r) e g

good_from : {n : ℕ} {table : List Production} → AllGood n table → (i : ℕ) (p : Production) → slice_get table i ≡ Some p → IsGood (i + n) p
good_from none_left i p e = absurd (cc)
good_from {n = n} (and_next {p = q} g gs) zero p e =
    let same : q ≡ p = cc in
    let P : ℕ → Type 0 = λ m. IsGood m p in subst P (sym (zero-add n)) (same_good n q p same g)
good_from {n = n} (and_next g gs) (suc i) p e =
    let h : IsGood (i + suc n) p = good_from gs i p e in
    let same : i + suc n ≡ suc i + n = omega arith in
    let P : ℕ → Type 0 = λ m. IsGood m p in subst P same h

good : (k : ℕ) (p : Production) → slice_get PRODUCTIONS k ≡ Some p → IsGood k p
good k p e = rw add-zero at (good_from all_good k p e)

-- what is read of items one after another is read of the first ones, and then of the others
record Split (first later : List Items.Item) (a : List Token) (ps : List Part) (b : List Token) : Type 0 where
  middle : List Token
  front : List Part
  back : List Part
  reads_front : Reads first a front middle
  reads_back : Reads later middle back b
  joined : ps ≡ front ++ back

split : (first later : List Items.Item) {a b : List Token} {ps : List Part} → Reads (first ++ later) a ps b → Split first later a ps b
split [] later {a} {b} {ps} r = record { middle = a; front = []; back = ps; reads_front = nil; reads_back = r; joined = refl }
split (due.Token c ∷ first) later (token {t = t} i r) =
    let s = split first later r in
    record { middle = s.middle; front = part_of t ∷ s.front; back = s.back; reads_front = token i s.reads_front; reads_back = s.reads_back; joined = ap (λ xs. part_of t ∷ xs) s.joined }
split (due.Rule c ∷ first) later (rule {p = v} m r) =
    let s = split first later r in
    record { middle = s.middle; front = v ∷ s.front; back = s.back; reads_front = rule m s.reads_front; reads_back = s.reads_back; joined = ap (λ xs. v ∷ xs) s.joined }

-- what the action of a production makes stands for its rule
rule_reads : (k : ℕ) (p : Production) → slice_get PRODUCTIONS k ≡ Some p → (later : List Items.Item) (ts : List Token) (ps : List Part) →
    Reads (items p ++ later) ts ps [] → Reads (due.Rule p.rule ∷ later) ts (act (action_of k) ps) [] × IsTrue (fits (action_of k) ps)
rule_reads k p e later ts ps r =
    let s = split (items p) later r in
    let made = good k p e ts s.front s.middle s.reads_front in
    let P : List Part → Type 0 = λ xs. Reads (due.Rule p.rule ∷ later) ts xs [] in
    let F : List Part → Type 0 = λ xs. IsTrue (fits (action_of k) xs) in
    (subst P (sym (ap (act (action_of k)) s.joined ∙ made.2 s.back)) (rule made.1 s.reads_back), subst F (sym s.joined) (made.3 s.back))

-- The parts that the steps make are what the items read of the tokens.
pub sound : {later : List Items.Item} {cs : List ℕ} {steps : List Step} → Derives PRODUCTIONS later cs steps →
    (ts : List Token) → cs ≡ classes ts → Reads later ts (values steps ts) []
sound derivation.done [] e = nil
sound derivation.done (t ∷ ts) e = absurd (cc)
sound (derivation.token d) [] e = absurd (cc)
sound (derivation.token {c = c} d) (t ∷ ts) e =
    let P : ℕ → Type 0 = λ n. Is n t in
    let same : class_of t ≡ c = cc in
    token (subst P same (token_is t)) (sound d ts (cc))
sound (derivation.rule {k = k} {p = p} {due = later} {steps = steps} at q d) ts e =
    let P : ℕ → Type 0 = λ n. Reads (due.Rule n ∷ later) ts (values (Choose k ∷ steps) ts) [] in
    subst P q (rule_reads k p at later ts _ (sound d ts e)).0

-- an action fits the parts that the steps behind it make
pub fitting : {later : List Items.Item} {cs : List ℕ} {steps : List Step} {k : ℕ} → Derives PRODUCTIONS later cs (Choose k ∷ steps) →
    (ts : List Token) → cs ≡ classes ts → IsTrue (fits (action_of k) (values steps ts))
fitting (derivation.rule {k = k} {p = p} {due = later} at q d) ts e = (rule_reads k p at later ts _ (sound d ts e)).1
