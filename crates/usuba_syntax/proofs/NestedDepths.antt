-- As many are open at each token of a text of the table as the nest tells.
use Rattle.std.proofs.Common.{◌≡◌, ℕ, zero, suc, ◌+◌, Bool, true, false, not, ◌||◌, List, [], ◌∷◌, ◌++◌, length, map, Option, Some, None, refl, sym, ap, ◌∙◌, subst, arith, length-append, slice_get}
use Rattle.std.specs.Prelude.{if◌then◌else◌}
use Rattle.std.specs.List.{list_all}
use Rattle.std.proofs.lemmas.Bool.{and_parts, eqb-true}
use Rattle.std.proofs.lemmas.Option.{same_Some, none-some}
use Rattle.ll_reader.specs.declared.grammar.Item.{Item}
use Rattle.ll_reader.specs.declared.grammar.Item.TheVariants.{Token, Rule}
use Rattle.ll_reader.specs.declared.grammar.Production.{Production}
use Rattle.ll_reader.specs.declared.grammar.Step.{Step}
use Rattle.ll_reader.specs.Derivation.{items, Derives, done, token, rule, IsText}
use Rattle.ll_reader.specs.Depth.{items_at, depths, token_depths}
use Rattle.usuba_syntax.proofs.Nests.{Opening, Bracket, Complement, behind_operand, Nest}
use Rattle.usuba_syntax.specs.declared.class.TheConstants as class
use Rattle.usuba_syntax.specs.declared.table.TheConstants.{PRODUCTIONS, FRAME}
use Rattle.usuba_syntax.specs.declared.rule.TheConstants as rules
use Rattle.usuba_syntax.proofs.Nested.{role, size, role_count, role_next, class_counts, Ground, nowhere, solid, loose, Holds, over, settle, Within, is_solid, solid_stays, nowhere_empty, told}
use Rattle.usuba_syntax.proofs.NestedTable.{may_stand, begins_behind, ends_behind, base, ground_of, sits, is_base, goes, deeper, goes_on, goes_everywhere, table_goes}

-- Read from this nest, each thing due stands where as many are open as it says.
abbrev pub Tied : Nest → List (Item × ℕ) → Type 0
Tied nest [] = Unit {0}
Tied nest ((Token c, depth) ∷ due) = (role_count (role c) nest ≡ depth) × Tied (role_next (role c) nest) due
Tied nest ((Rule a, depth) ∷ due) =
    (g : Ground) × (tail : List Opening) × Holds g tail × (may_stand g a ≡ true) × (depth ≡ length tail) ×
    Within (begins_behind a) (over (base g) tail) nest ×
    ((after : Nest) → Within (ends_behind a) (over (base g) tail) after → Tied after due)

-- ---- the items of a production

based : (g : Ground) (nest : Nest) → is_base g nest ≡ true → nest ≡ base g
based nowhere None h = refl
based nowhere (Some opened) h = absurd (cc)
based solid None h = absurd (cc)
based solid (Some []) h = refl
based solid (Some (o ∷ opened)) h = absurd (cc)
based loose None h = absurd (cc)
based loose (Some []) h = refl
based loose (Some (o ∷ opened)) h = absurd (cc)

behind_over : (opened tail : List Opening) → behind_operand (opened ++ tail) ≡ behind_operand (behind_operand opened ++ tail)
behind_over [] tail = refl
behind_over (Bracket ∷ opened) tail = refl
behind_over (Complement ∷ opened) tail = behind_over opened tail

settle_over : (given : Nest) (tail : List Opening) → settle (over given tail) ≡ settle (over (settle given) tail)
settle_over None tail = refl
settle_over (Some opened) tail = ap Some (behind_over opened tail)

weaker : (more also : Bool) (given nest : Nest) → (not more || also) ≡ true → Within more given nest → Within also given nest
weaker false false given nest h is = is
weaker false true given nest h is = ap settle is
weaker true true given nest h is = is
weaker true false given nest h is = absurd (cc)

-- at the end of the items
at_end : (g : Ground) (end more : Bool) (given : Nest) (tail : List Opening) (nest : Nest) → is_base g (if more then settle given else given) ≡ true → (not more || end) ≡ true → Within more (over given tail) nest → Within end (over (base g) tail) nest
at_end g end false given tail nest b h is =
    weaker false end (over (base g) tail) nest h (is ∙ ap (λ (n : Nest). over n tail) (based g given b))
at_end g false true given tail nest b h is = absurd (cc)
at_end g true true given tail nest b h is =
    is ∙ settle_over given tail ∙ ap (λ (n : Nest). settle (over n tail)) (based g (settle given) b)

-- a rule among the items stands in a nest of which enough is known
record Stood (g : Ground) (given : Nest) (tail : List Opening) (depth : ℕ) : Type 0 where
  tail_of : List Opening
  holds : Holds (ground_of g given) tail_of
  same : over (base (ground_of g given)) tail_of ≡ over given tail
  deep : depth ≡ length tail_of

stood : (g : Ground) (given : Nest) (tail : List Opening) (k depth : ℕ) → sits g given ≡ true → size given ≡ k → depth ≡ k + length tail → Holds g tail → Stood g given tail depth
stood g None tail k depth h here deep holds =
    let empty = nowhere_empty g tail h holds in
    record {
      tail_of = [];
      holds = refl;
      same = refl;
      deep = deep ∙ ap (λ n. n + length tail) (sym here) ∙ ap (λ (xs : List Opening). 0 + length xs) empty;
    }
stood g (Some opened) tail k depth h here deep holds = known (is_solid g opened) refl where
  long : depth ≡ length (opened ++ tail)
  long = deep ∙ ap (λ n. n + length tail) (sym here) ∙ sym (length-append opened tail)

  known : (b : Bool) → is_solid g opened ≡ b → Stood g (Some opened) tail depth
  known true is = record {
    tail_of = opened ++ tail;
    holds = subst (λ b. Holds (if b then solid else loose) (opened ++ tail)) (sym is) (solid_stays g opened tail is holds);
    same = ap (λ b. over (base (if b then solid else loose)) (opened ++ tail)) is;
    deep = long;
  }
  known false is = record {
    tail_of = opened ++ tail;
    holds = subst (λ b. Holds (if b then solid else loose) (opened ++ tail)) (sym is) tt;
    same = ap (λ b. over (base (if b then solid else loose)) (opened ++ tail)) is;
    deep = long;
  }

module _ (g : Ground) (k : ℕ) (end : Bool) (tail : List Opening) (depth : ℕ) (due : List (Item × ℕ)) (holds : Holds g tail) (deep : depth ≡ k + length tail) (later : (after : Nest) → Within end (over (base g) tail) after → Tied after due) where
  items_tied : (is : List Item) (given : Nest) (more : Bool) (nest : Nest) → goes g k end given more is ≡ true → Within more (over given tail) nest → Tied nest (map (λ (item : Item). (item, depth)) is ++ due)
  items_tied [] given more nest h is =
      let a = and_parts _ _ h in later nest (at_end g end more given tail nest a.0 a.1 is)
  items_tied (Token c ∷ xs) given more nest h is =
      let a = and_parts _ _ h in
      let b = and_parts _ _ a.0 in
      let t = told g more given (role c) tail nest b.0 holds is in (
        t.count ∙ ap (λ n. n + length tail) (eqb-true (role_count (role c) given) k b.1) ∙ sym deep,
        items_tied xs (role_next (role c) given) false (role_next (role c) nest) a.1 t.next,
      )
  items_tied (Rule r ∷ xs) given more nest h is =
      let a = and_parts _ _ h in
      let b = and_parts _ _ a.0 in
      let c = and_parts _ _ b.0 in
      let d = and_parts _ _ c.0 in
      let s = stood g given tail k depth d.0 (eqb-true (size given) k d.1) deep holds in (
        ground_of g given,
        s.tail_of,
        s.holds,
        c.1,
        s.deep,
        subst (λ (n : Nest). Within (begins_behind r) n nest) (sym s.same) (weaker more (begins_behind r) (over given tail) nest b.1 is),
        λ after left. items_tied xs given (ends_behind r) after a.1 (subst (λ (n : Nest). Within (ends_behind r) n after) s.same left),
      )

pub all_get : {X : Type 0} (test : X → Bool) (xs : List X) (k : ℕ) (x : X) → list_all test xs ≡ true → slice_get xs k ≡ Some x → test x ≡ true
all_get test [] k x all at = absurd (none-some x at)
all_get test (y ∷ ys) zero x all at = ap test (sym (same_Some y x at)) ∙ (and_parts (test y) (list_all test ys) all).0
all_get test (y ∷ ys) (suc k) x all at = all_get test ys k x (and_parts (test y) (list_all test ys) all).1 at

on_each : (g : Ground) (p : Production) → goes_everywhere p ≡ true → goes_on g p ≡ true
on_each nowhere p h = (and_parts _ _ (and_parts _ _ h).0).0
on_each solid p h = (and_parts _ _ (and_parts _ _ h).0).1
on_each loose p h = (and_parts _ _ h).1

where_it_stands : (b c : Bool) → b ≡ true → (not b || c) ≡ true → c ≡ true
where_it_stands true c is h = h
where_it_stands false c is h = absurd (cc)

deeper_by : (deep : Bool) (depth : ℕ) (tail : List Opening) → depth ≡ length tail → (if deep then depth + 1 else depth) ≡ deeper deep + length tail
deeper_by true depth tail h = omega arith
deeper_by false depth tail h = omega arith

production_tied : (k a depth : ℕ) (p : Production) (due : List (Item × ℕ)) (nest : Nest) → slice_get PRODUCTIONS k ≡ Some p → p.rule ≡ a → Tied nest ((Rule a, depth) ∷ due) → Tied nest (items_at depth (Some p) ++ due)
production_tied k a depth p due nest at of tied =
    let (g, tail, holds, stands, deep, begin, later) = subst (λ r. Tied nest ((Rule r, depth) ∷ due)) (sym of) tied in
    let each = on_each g p (all_get goes_everywhere PRODUCTIONS k p table_goes at) in
    items_tied g (deeper p.deep) (ends_behind p.rule) tail (if p.deep then depth + 1 else depth) due holds (deeper_by p.deep depth tail deep) later (items p) (base g) (begins_behind p.rule) nest (where_it_stands (may_stand g p.rule) _ stands each) begin

-- ---- a derivation

plain : List (Item × ℕ) → List Item
plain due = map (λ (x : Item × ℕ). x.0) due

plain_items : (xs : List Item) (depth : ℕ) (due : List (Item × ℕ)) → plain (map (λ (item : Item). (item, depth)) xs ++ due) ≡ xs ++ plain due
unfolding plain
plain_items [] depth due = refl
plain_items (x ∷ xs) depth due = ap (λ (ys : List Item). x ∷ ys) (plain_items xs depth due)

derived : {xs : List Item} {cs : List ℕ} {steps : List Step} → Derives PRODUCTIONS xs cs steps → (due : List (Item × ℕ)) (nest : Nest) → plain due ≡ xs → Tied nest due → depths PRODUCTIONS due steps ≡ class_counts nest cs
unfolding plain
derived done [] nest e tied = refl
derived done (x ∷ due) nest e tied = absurd (cc)
derived (token d) [] nest e tied = absurd (cc)
derived (token {c = c} {due = xs} {classes = cs} {steps = steps} d) ((Token b, depth) ∷ due) nest e tied =
    let same : b ≡ c = cc in
    let left : plain due ≡ xs = cc in
    ap (λ n. n ∷ depths PRODUCTIONS due steps) (sym tied.0) ∙ ap (λ ns. role_count (role b) nest ∷ ns) (derived d due (role_next (role b) nest) left tied.1) ∙
    ap (λ n. class_counts nest (n ∷ cs)) same
derived (token d) ((Rule a, depth) ∷ due) nest e tied = absurd (cc)
derived (rule at of d) [] nest e tied = absurd (cc)
derived (rule at of d) ((Token b, depth) ∷ due) nest e tied = absurd (cc)
derived (rule {a = a} {k = k} {p = p} {due = xs} {classes = cs} {steps = steps} at of d) ((Rule b, depth) ∷ due) nest e tied =
    let same : b ≡ a = cc in
    let left : plain due ≡ xs = cc in
    ap (λ (o : Option Production). depths PRODUCTIONS (items_at depth o ++ due) steps) at ∙
    derived d (items_at depth (Some p) ++ due) nest
    (plain_items (items p) (if p.deep then depth + 1 else depth) due ∙ ap (λ (ys : List Item). items p ++ ys) left)
    (production_tied k b depth p due nest at (of ∙ sym same) tied)

end_free : (nest : Nest) → role_count (role class.END) nest ≡ 0
end_free None = refl
end_free (Some opened) = refl

-- at each token of a text as many are open as its classes tell
pub text_counts : (cs : List ℕ) (steps : List Step) → IsText PRODUCTIONS FRAME cs steps → token_depths PRODUCTIONS FRAME steps ≡ class_counts None cs
unfolding plain
text_counts cs steps d =
    derived d ((Rule rules.FILE, 0) ∷ (Token class.END, 0) ∷ []) None refl
    (nowhere, [], refl, refl, refl, refl, λ after left. (end_free after, tt))
