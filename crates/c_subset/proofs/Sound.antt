-- What is derived within 128 brackets is a file.
use Rattle.std.proofs.Common.{◌≡◌, ℕ, zero, suc, ◌+◌, ◌≤◌, Bool, false, List, [], ◌∷◌, ◌++◌, length, map, take, Some, slice_get, refl, sym, ap, ◌∙◌, subst, arith}
use Rattle.std.specs.Prelude.{All, Option, if◌then◌else◌}
use Rattle.std.proofs.lemmas.List.Elements.{All-head, All-tail}
use Rattle.ll_reader.specs.Depth.{items_at, depths}
use Rattle.ll_reader.specs.Derivation.{Derives, IsText, items}
use Rattle.ll_reader.specs.Derivation as derivation
use Rattle.ll_reader.specs.declared.grammar.Item.{Item}
use Rattle.ll_reader.specs.declared.grammar.Item.TheVariants as due
use Rattle.ll_reader.specs.declared.grammar.Production.{Production}
use Rattle.ll_reader.specs.declared.grammar.Step.{Step}
use Rattle.tor_edge.specs.declared.place.Place.{Place}
use Rattle.c_grammar.specs.Classes.{class_of, is_unsigned, counter_after, classes_from, classes_of}
use Rattle.c_grammar.specs.Grammar.{AreDerived}
use Rattle.c_grammar.specs.declared.class.TheConstants as class
use Rattle.c_grammar.specs.declared.rule.TheConstants as rules
use Rattle.c_grammar.specs.declared.table.TheConstants.{PRODUCTIONS}
use Rattle.c_tokens.specs.declared.token.Ending.TheVariants as ending
use Rattle.c_tokens.specs.declared.token.Token.{Token}
use Rattle.c_tree.specs.declared.CFile.{CFile}
use Rattle.c_subset.specs.Files.{IsFile, file}
use Rattle.c_subset.proofs.Meaning.{IsOf, is_of, Made, ended, token, rule, m_file, masked, body}
use Rattle.c_subset.proofs.Rows.{Row, AllRows, all_rows}

-- a row by its number
row_at : (table : List Production) → AllRows table → (k : ℕ) (p : Production) → slice_get table k ≡ Some p → Row p
row_at [] all k p at = absurd (cc)
row_at (q ∷ table) all zero p at = let same : q ≡ p = cc in subst Row same all.0
row_at (q ∷ table) all (suc k) p at = row_at table all.1 k p at

-- items with their depth, without it
abbrev bare : List (Item × ℕ) → List Item
bare = map (λ (i : Item × ℕ). i.0)

bare_items : (δ : ℕ) (xs : List Item) (more : List (Item × ℕ)) → bare (map (λ item. (item, δ)) xs ++ more) ≡ xs ++ bare more
bare_items δ [] more = refl
bare_items δ (x ∷ xs) more = ap (λ l. x ∷ l) (bare_items δ xs more)

no_classes : (xs : List ℕ) → [] ≡ xs ++ class.END ∷ [] → ⊥
no_classes [] e = cc
no_classes (x ∷ xs) e = cc

abbrev Within : ℕ → Type 0
Within depth = depth ≤ 128

first_of : (x : ℕ) (xs : List ℕ) → All Within (x ∷ xs) → Within x
first_of x xs all = All-head Within x xs all

-- what is due is made of the tokens that it derives, in so many brackets
made : {is : List Item} {classes : List ℕ} {steps : List Step} → Derives PRODUCTIONS is classes steps
    → (more : List (Item × ℕ)) → is ≡ bare more → (u : Bool) (c : List ℕ) (tokens : List Token)
    → classes ≡ classes_from u c tokens ++ class.END ∷ [] → (n : ℕ) → length tokens ≤ n
    → All Within (take n (depths PRODUCTIONS more steps)) → Made more u c tokens
made derivation.done more is u c tokens same n few all = absurd (no_classes (classes_from u c tokens) same)
made (derivation.token d) [] is u c tokens same n few all = absurd (cc)
made (derivation.token d) ((due.Rule r, δ) ∷ more) is u c tokens same n few all = absurd (cc)
made (derivation.token {c = k} {due = rest} d) ((due.Token j, δ) ∷ more) is u c [] same n few all =
    let last : class.END ≡ j = cc in subst (λ (i : ℕ). Made ((due.Token i, δ) ∷ more) u c []) last ended
made (derivation.token {c = k} {due = rest} d) ((due.Token j, δ) ∷ more) is u c (t ∷ tokens) same zero few all = absurd (omega (arith, few))
made (derivation.token {c = k} {due = rest} {classes = classes} d) ((due.Token j, δ) ∷ more) is u c (t ∷ tokens) same (suc n) few all =
    let first : class_of c t.kind ≡ j = cc in
    let left : rest ≡ bare more = cc in
    let others : classes ≡ classes_from (is_unsigned t.kind) (counter_after u c t.kind) tokens ++ class.END ∷ [] = cc in
    token (subst (λ (i : ℕ). IsOf c i t.kind) first (is_of c t.kind)) (first_of _ _ all)
    (made d more left (is_unsigned t.kind) (counter_after u c t.kind) tokens others n (omega (arith, few)) (All-tail Within _ _ all))
made (derivation.rule at by d) [] is u c tokens same n few all = absurd (cc)
made (derivation.rule at by d) ((due.Token j, δ) ∷ more) is u c tokens same n few all = absurd (cc)
made (derivation.rule {a = r} {k = k} {p = p} {due = rest} {steps = steps} at by d) ((due.Rule q, δ) ∷ more) is u c tokens same n few all =
    let name : p.rule ≡ q = by ∙ cc in
    let left : rest ≡ bare more = cc in
    let inside : All Within (take n (depths PRODUCTIONS (items_at δ (Some p) ++ more) steps)) =
    subst (λ (o : Option Production). All Within (take n (depths PRODUCTIONS (items_at δ o ++ more) steps))) at all in
    let opened : items p ++ rest ≡ bare (items_at δ (Some p) ++ more) =
    ap (λ l. items p ++ l) left ∙ sym (bare_items (if p.deep then δ + 1 else δ) (items p) more) in
    let below = made d (items_at δ (Some p) ++ more) opened u c tokens same n few inside in
    subst (λ (i : ℕ). Made ((due.Rule i, δ) ∷ more) u c tokens) name (row_at PRODUCTIONS all_rows k p at δ u c tokens more below)

file_of : (bits : ℕ) (tokens : List Token) → Made ((due.Rule rules.FILE, 0) ∷ (due.Token class.END, 0) ∷ []) false [] tokens
    → (f : CFile) × IsFile bits tokens f
file_of bits tokens (rule (m_file gs (masked x y (body s cs))) ended) = (_, file gs x y s cs)
file_of bits tokens (rule (m_file gs (masked x y (body s cs))) (token h few r)) = elim h [ ]

-- tokens that are derived are a file
pub derived_is_file : (bits : ℕ) (tokens : List Token) (at : Place) (steps : List Step)
    → AreDerived tokens (ending.End at) steps → (f : CFile) × IsFile bits tokens f
derived_is_file bits tokens at steps derived =
    file_of bits tokens (made derived.text ((due.Rule rules.FILE, 0) ∷ (due.Token class.END, 0) ∷ []) refl false [] tokens refl
    (length (classes_of tokens (ending.End at))) (long false [] tokens) derived.shallow)
  where
    long : (u : Bool) (c : List ℕ) (ts : List Token) → length ts ≤ length (classes_from u c ts ++ class.END ∷ [])
    long u c [] = omega arith
    long u c (t ∷ ts) = let rest = long (is_unsigned t.kind) (counter_after u c t.kind) ts in omega (arith, rest)
