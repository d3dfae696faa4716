-- The reader's state: the classes that are taken, the steps so far, and what is due, each item with its depth.
use Rattle.std.proofs.Common.{◌≡◌, ℕ, ◌+◌, ◌<◌, ◌≤◌, List, [], ◌∷◌, ◌++◌, length, map, take, get_or, Some, sym, refl, ap, ◌∙◌, subst, Bool, true, false, cond, arith, slice_get, append_assoc}
use Rattle.std.specs.Prelude.{All}
use Rattle.std.proofs.lemmas.List.{append-nil, take_at, get_or_at, length_push, same_from_push}
use Rattle.std.proofs.lemmas.List.Elements.{All-nil, All-push}
use Rattle.std.proofs.lemmas.Option.{same_Some}
use Rattle.ll_reader.specs.declared.grammar.Frame.{Frame}
use Rattle.ll_reader.specs.declared.grammar.Item.{Item}
use Rattle.ll_reader.specs.declared.grammar.Item.TheVariants.{Token, Rule}
use Rattle.ll_reader.specs.declared.grammar.Production.{Production}
use Rattle.ll_reader.specs.declared.grammar.Step.{Step}
use Rattle.ll_reader.specs.declared.grammar.Step.TheVariants.{Take, Choose}
use Rattle.ll_reader.specs.Derivation.{items, Derives, done, token, rule, IsText, BeginsText}
use Rattle.ll_reader.specs.Depth.{items_at, depths, token_depths, KeepsDepth}
use Rattle.ll_reader.specs.Private.Choice.{GoesOn}
use Rattle.ll_reader.specs.Answer.{IsSyntaxFault, IsTooDeepFault}
use Rattle.ll_reader.specs.Predictive.{In, Facts, facts_of, Meet}
use Rattle.ll_reader.proofs.Lookahead.{Linked, linked_known, linked_choice, chosen_at}
use Rattle.ll_reader.proofs.Endings.{has_text}

-- what is due without its depths
abbrev pub plain : List (Item × ℕ) → List Item
plain due = map (λ (x : Item × ℕ). x.0) due

plain_items : (xs : List Item) (depth : ℕ) (due : List (Item × ℕ)) → plain (map (λ (item : Item). (item, depth)) xs ++ due) ≡ xs ++ plain due
plain_items [] depth due = refl
plain_items (x ∷ xs) depth due = ap (λ (ys : List Item). x ∷ ys) (plain_items xs depth due)

pub plain_opened : (p : Production) (depth : ℕ) (due : List (Item × ℕ)) → plain (items_at depth (Some p) ++ due) ≡ items p ++ plain due
plain_opened p depth due = plain_items (items p) (cond p.deep (depth + 1) depth) due

plain_none : (due : List (Item × ℕ)) → plain due ≡ [] → due ≡ []
plain_none [] h = refl
plain_none (x ∷ due) h = cc

-- no depth is above the number
abbrev pub Bounded : ℕ → List (Item × ℕ) → Type 0
Bounded n [] = Unit {0}
Bounded n (x ∷ due) = (x.1 ≤ n) × Bounded n due

bounded_more : (n m : ℕ) (due : List (Item × ℕ)) → n ≤ m → Bounded n due → Bounded m due
bounded_more n m [] less h = tt
bounded_more n m (x ∷ due) less h = ((let low : x.1 ≤ n = h.0 in omega arith), bounded_more n m due less h.1)

bounded_items : (n depth : ℕ) (xs : List Item) (due : List (Item × ℕ)) → depth ≤ n → Bounded n due → Bounded n (map (λ (item : Item). (item, depth)) xs ++ due)
bounded_items n depth [] due low h = h
bounded_items n depth (x ∷ xs) due low h = (low, bounded_items n depth xs due low h)

deeper_low : (deep : ℕ) (n : ℕ) → deep ≤ n → (b : Bool) → cond b (deep + 1) deep ≤ n + 1
deeper_low deep n low true = omega arith
deeper_low deep n low false = omega arith

nil_not_push : (front : List ℕ) (e : ℕ) → [] ≡ front ++ e ∷ [] → ⊥
nil_not_push [] e h = cc
nil_not_push (x ∷ front) e h = cc

one_on : {X : Type 0} (xs : List X) (x : X) (ys : List X) → (xs ++ x ∷ []) ++ ys ≡ xs ++ x ∷ ys
one_on xs x ys = append_assoc xs (x ∷ []) ys

-- ---- a derivation's first step

nothing_due : {table : List Production} {c : ℕ} {rest : List ℕ} {s : List Step} → Derives table [] (c ∷ rest) s → ⊥
nothing_due d = elim d [ ]

-- what is left after a step of a derivation
record After (table : List Production) (due : List Item) (ts : List ℕ) (step : Step) (s : List Step) : Type 0 where
  steps : List Step
  is : s ≡ step ∷ steps
  left : Derives table due ts steps

token_step : {table : List Production} {w c : ℕ} {due : List Item} {rest : List ℕ} {s : List Step} → Derives table (Token w ∷ due) (c ∷ rest) s → (w ≡ c) × After table due rest Take s
token_step (token {steps = steps} d) = (refl, record { steps = steps; is = refl; left = d })

rule_step : (table : List Production) (facts : List Facts) (start end : ℕ) → Meet facts start end table → (a k c : ℕ) (p : Production) (due : List Item) (rest : List ℕ) (s : List Step) → slice_get table k ≡ Some p → p.rule ≡ a → In c p.first → Linked facts end (Rule a ∷ due) → Derives table (Rule a ∷ due) (c ∷ rest) s → After table (items p ++ due) (c ∷ rest) (Choose k) s
rule_step table facts start end passed a k c p due rest _ at of first linked (rule {k = j} {p = q} {steps = steps} also is d) =
    let other : In c q.first = chosen_at table facts start end passed j a q due c rest steps also is linked d in
    let number : j ≡ k = passed.choice j k q p c also at (is ∙ sym of) other first in
    let chosen : q ≡ p = same_Some q p (sym also ∙ ap (slice_get table) number ∙ at) in
    record {
      steps = steps;
      is = ap (λ i. Choose i ∷ steps) number;
      left = subst (λ (r : Production). Derives table (items r ++ due) (c ∷ rest) steps) chosen d;
    }

no_rule_step : (table : List Production) (facts : List Facts) (start end : ℕ) → Meet facts start end table → (a c : ℕ) (due : List Item) (rest : List ℕ) (s : List Step) → ((k : ℕ) → GoesOn table a c k → ⊥) → Linked facts end (Rule a ∷ due) → Derives table (Rule a ∷ due) (c ∷ rest) s → ⊥
no_rule_step table facts start end passed a c due rest _ none linked (rule {k = j} {p = q} {steps = steps} also is d) =
    none j (q, also, is, chosen_at table facts start end passed j a q due c rest steps also is linked d)

-- ---- between tokens

pub record Stands (table : List Production) (frame : Frame) (facts : List Facts) (taken : List ℕ) (steps : List Step) (due : List (Item × ℕ)) : Type 0 where
  pub so_far : List ℕ
  pub sound : (rest : List ℕ) (s : List Step) → Derives table (plain due) rest s → IsText table frame (taken ++ rest) (steps ++ s)
  pub complete : (rest : List ℕ) (t : List Step) → IsText table frame (taken ++ rest) t → (s : List Step) × (t ≡ steps ++ s) × Derives table (plain due) rest s
  pub deep : (s : List Step) → token_depths table frame (steps ++ s) ≡ so_far ++ depths table due s
  pub linked : Linked facts frame.end (plain due)
  pub closing : (front : List ℕ) → taken ≡ front ++ frame.end ∷ [] → due ≡ []
  pub shallow : All (λ depth. depth ≤ frame.deepest) so_far
  pub counted : length so_far ≡ length taken
  pub bounded : Bounded (length steps) due

-- ---- before a token of the class c

pub record Expands (table : List Production) (frame : Frame) (facts : List Facts) (c : ℕ) (taken : List ℕ) (steps : List Step) (due : List (Item × ℕ)) : Type 0 where
  pub before : BeginsText table frame taken
  pub kept : (rest : List ℕ) (t : List Step) → IsText table frame (taken ++ rest) t → KeepsDepth table frame (length taken) t
  pub so_far : List ℕ
  pub sound : (rest : List ℕ) (s : List Step) → Derives table (plain due) rest s → IsText table frame (taken ++ rest) (steps ++ s)
  pub complete : (rest : List ℕ) (t : List Step) → IsText table frame (taken ++ c ∷ rest) t → (s : List Step) × (t ≡ steps ++ s) × Derives table (plain due) (c ∷ rest) s
  pub deep : (s : List Step) → token_depths table frame (steps ++ s) ≡ so_far ++ depths table due s
  pub linked : Linked facts frame.end (plain due)
  pub shallow : All (λ depth. depth ≤ frame.deepest) so_far
  pub counted : length so_far ≡ length taken
  pub bounded : Bounded (length steps) due

module _ (table : List Production) (frame : Frame) (facts : List Facts) where
  pub begins : Meet facts frame.start frame.end table → Stands table frame facts [] [] ((Rule frame.start, 0) ∷ (Token frame.end, 0) ∷ [])
  begins passed =
      record {
        so_far = [];
        sound = λ rest s d. d;
        complete = λ rest t h. (t, refl, h);
        deep = λ s. refl;
        linked = (passed.start_known, (λ c lead. subst (λ n. In n (facts_of facts frame.start).follow) (sym lead) passed.end_follows), ((λ _. refl), tt));
        closing = λ front h. absurd (nil_not_push front frame.end h);
        shallow = All-nil (λ depth. depth ≤ frame.deepest);
        counted = refl;
        bounded = (zero_low, (zero_low, tt));
      } where
        zero_low : 0 ≤ 0
        zero_low = omega arith

  kept_first : (taken : List ℕ) (steps : List Step) (due : List (Item × ℕ)) → (so_far : List ℕ) → length so_far ≡ length taken → All (λ depth. depth ≤ frame.deepest) so_far → (t : List Step) (rest : List ℕ) → token_depths table frame t ≡ so_far ++ rest → KeepsDepth table frame (length taken) t
  kept_first taken steps due so_far counted shallow t rest is =
      let front : take (length taken) (token_depths table frame t) ≡ so_far = ap (take (length taken)) is ∙ take_at so_far rest (length taken) counted in
      subst (λ (ds : List ℕ). All (λ depth. depth ≤ frame.deepest) ds) (sym front) shallow

  stands_kept : (taken : List ℕ) (steps : List Step) (due : List (Item × ℕ)) → Stands table frame facts taken steps due → (rest : List ℕ) (t : List Step) → IsText table frame (taken ++ rest) t → KeepsDepth table frame (length taken) t
  stands_kept taken steps due stands rest t h =
      let found = stands.complete rest t h in
      kept_first taken steps due stands.so_far stands.counted stands.shallow t (depths table due found.0) (ap (token_depths table frame) found.1 ∙ stands.deep found.0)

  pub enters : Meet facts frame.start frame.end table → (c : ℕ) (taken : List ℕ) (steps : List Step) (due : List (Item × ℕ)) → Stands table frame facts taken steps due → Expands table frame facts c taken steps due
  enters passed c taken steps due stands =
      let text = has_text table facts frame.start frame.end passed (plain due) (linked_known facts frame.end (plain due) stands.linked) in
      record {
        before = (text.0, steps ++ text.1, stands.sound text.0 text.1 text.2);
        kept = stands_kept taken steps due stands;
        so_far = stands.so_far;
        sound = stands.sound;
        complete = λ rest t h. stands.complete (c ∷ rest) t h;
        deep = stands.deep;
        linked = stands.linked;
        shallow = stands.shallow;
        counted = stands.counted;
        bounded = stands.bounded;
      }

  pub chooses : Meet facts frame.start frame.end table → (c : ℕ) (taken : List ℕ) (steps : List Step) (a depth k : ℕ) (p : Production) (due : List (Item × ℕ)) → slice_get table k ≡ Some p → p.rule ≡ a → In c p.first → Expands table frame facts c taken steps ((Rule a, depth) ∷ due) → Expands table frame facts c taken (steps ++ Choose k ∷ []) (items_at depth (Some p) ++ due)
  chooses passed c taken steps a depth k p due at of first state =
      let opened = plain_opened p depth due in
      record {
        before = state.before;
        kept = state.kept;
        so_far = state.so_far;
        sound = λ rest s d. subst (IsText table frame (taken ++ rest)) (sym (one_on steps (Choose k) s)) (state.sound rest (Choose k ∷ s) (rule at of (subst (λ (xs : List Item). Derives table xs rest s) opened d)));
        complete = λ rest t h.
            let found = state.complete rest t h in
            let after = rule_step table facts frame.start frame.end passed a k c p (plain due) rest found.0 at of first state.linked found.2 in
            (after.steps, found.1 ∙ ap (λ (xs : List Step). steps ++ xs) after.is ∙ sym (one_on steps (Choose k) after.steps), subst (λ (xs : List Item). Derives table xs (c ∷ rest) after.steps) (sym opened) after.left);
        deep = λ s. ap (token_depths table frame) (one_on steps (Choose k) s) ∙ state.deep (Choose k ∷ s) ∙ ap (λ o. state.so_far ++ depths table (items_at depth o ++ due) s) at;
        linked = subst (Linked facts frame.end) (sym opened) (linked_choice table facts frame.start frame.end passed k a p (plain due) at of state.linked);
        shallow = state.shallow;
        counted = state.counted;
        bounded = subst (λ n. Bounded n (items_at depth (Some p) ++ due)) (sym (length_push steps (Choose k)))
            (bounded_items (length steps + 1) (cond p.deep (depth + 1) depth) (items p) due (deeper_low depth (length steps) state.bounded.0 p.deep) (bounded_more (length steps) (length steps + 1) due le_one state.bounded.1));
      } where
        le_one : length steps ≤ length steps + 1
        le_one = omega arith

  pub takes : (c : ℕ) (taken : List ℕ) (steps : List Step) (depth : ℕ) (due : List (Item × ℕ)) → depth ≤ frame.deepest → Expands table frame facts c taken steps ((Token c, depth) ∷ due) → Stands table frame facts (taken ++ c ∷ []) (steps ++ Take ∷ []) due
  takes c taken steps depth due low state = record {
    so_far = state.so_far ++ depth ∷ [];
    sound = λ rest s d. subst (λ (ts : List ℕ). IsText table frame ts ((steps ++ Take ∷ []) ++ s)) (sym (one_on taken c rest))
        (subst (IsText table frame (taken ++ c ∷ rest)) (sym (one_on steps Take s)) (state.sound (c ∷ rest) (Take ∷ s) (token d)));
    complete = λ rest t h.
        let found = state.complete rest t (subst (λ (ts : List ℕ). IsText table frame ts t) (one_on taken c rest) h) in
        let after = (token_step found.2).1 in
        (after.steps, found.1 ∙ ap (λ (xs : List Step). steps ++ xs) after.is ∙ sym (one_on steps Take after.steps), after.left);
    deep = λ s. ap (token_depths table frame) (one_on steps Take s) ∙ state.deep (Take ∷ s) ∙ sym (one_on state.so_far depth (depths table due s));
    linked = state.linked.1;
    closing = λ front h. plain_none due (state.linked.0 (same_from_push taken front c frame.end h).1);
    shallow = All-push (λ d. d ≤ frame.deepest) state.so_far depth state.shallow low;
    counted = length_push state.so_far depth ∙ ap (λ n. n + 1) state.counted ∙ sym (length_push taken c);
    bounded = subst (λ n. Bounded n due) (sym (length_push steps Take)) (bounded_more (length steps) (length steps + 1) due le_one state.bounded.1);
  } where
    le_one : length steps ≤ length steps + 1
    le_one = omega arith

  -- ---- the answers

  module _ (classes : List ℕ) (at : ℕ) (c : ℕ) (inside : at < length classes) (more : take (at + 1) classes ≡ take at classes ++ c ∷ []) (counts : length (take at classes) ≡ at) where
    stuck : (steps : List Step) (due : List (Item × ℕ)) → Expands table frame facts c (take at classes) steps due → ((rest : List ℕ) (s : List Step) → Derives table (plain due) (c ∷ rest) s → ⊥) → IsSyntaxFault table frame classes at
    stuck steps due state none = record {
      inside = inside;
      before = state.before;
      here = λ text.
          let found = state.complete text.0 text.1 (subst (λ (ts : List ℕ). IsText table frame ts text.1) (ap (λ (ts : List ℕ). ts ++ text.0) more ∙ one_on (take at classes) c text.0) text.2) in
          none text.0 found.0 found.2;
      shallow = λ rest t h. subst (λ n. KeepsDepth table frame n t) counts (state.kept rest t h);
    }

    pub stuck_at_end : (steps : List Step) → Expands table frame facts c (take at classes) steps [] → IsSyntaxFault table frame classes at
    stuck_at_end steps state = stuck steps [] state (λ rest s d. nothing_due d)

    pub stuck_at_token : (steps : List Step) (w depth : ℕ) (due : List (Item × ℕ)) → (w ≡ c → ⊥) → Expands table frame facts c (take at classes) steps ((Token w, depth) ∷ due) → IsSyntaxFault table frame classes at
    stuck_at_token steps w depth due other state =
        stuck steps ((Token w, depth) ∷ due) state (λ rest s d. other (token_step d).0)

    pub stuck_at_rule : Meet facts frame.start frame.end table → (steps : List Step) (a depth : ℕ) (due : List (Item × ℕ)) → ((k : ℕ) → GoesOn table a c k → ⊥) → Expands table frame facts c (take at classes) steps ((Rule a, depth) ∷ due) → IsSyntaxFault table frame classes at
    stuck_at_rule passed steps a depth due none state =
        stuck steps ((Rule a, depth) ∷ due) state (λ rest s d. no_rule_step table facts frame.start frame.end passed a c (plain due) rest s none state.linked d)

    pub too_deep : Meet facts frame.start frame.end table → (steps : List Step) (depth : ℕ) (due : List (Item × ℕ)) → frame.deepest < depth → Expands table frame facts c (take at classes) steps ((Token c, depth) ∷ due) → IsTooDeepFault table frame classes at
    too_deep passed steps depth due high state =
        let text = has_text table facts frame.start frame.end passed (plain due) (linked_known facts frame.end (plain due) state.linked.1) in
        let front : (rest : List ℕ) → take (at + 1) classes ++ rest ≡ take at classes ++ c ∷ rest = λ rest. ap (λ (ts : List ℕ). ts ++ rest) more ∙ one_on (take at classes) c rest in
        record {
          inside = inside;
          begins = (text.0, steps ++ (Take ∷ text.1), subst (λ (ts : List ℕ). IsText table frame ts (steps ++ (Take ∷ text.1))) (sym (front text.0)) (state.sound (c ∷ text.0) (Take ∷ text.1) (token text.2)));
          shallow = λ rest t h. subst (λ n. KeepsDepth table frame n t) counts (state.kept (c ∷ rest) t (subst (λ (ts : List ℕ). IsText table frame ts t) (front rest) h));
          deep = λ rest t h.
              let found = state.complete rest t (subst (λ (ts : List ℕ). IsText table frame ts t) (front rest) h) in
              let after = (token_step found.2).1 in
              let is : token_depths table frame t ≡ state.so_far ++ depth ∷ depths table due after.steps = ap (token_depths table frame) (found.1 ∙ ap (λ (xs : List Step). steps ++ xs) after.is) ∙ state.deep (Take ∷ after.steps) in
              let here : get_or (token_depths table frame t) at 0 ≡ depth = ap (λ (ds : List ℕ). get_or ds at 0) is ∙ get_or_at state.so_far depth (depths table due after.steps) 0 at (state.counted ∙ counts) in
              subst (λ n. frame.deepest < n) (sym here) high;
        }

  -- what stands once the end class is taken
  pub record Ends (classes : List ℕ) (steps : List Step) : Type 0 where
    pub text : IsText table frame classes steps
    pub shallow : KeepsDepth table frame (length classes) steps

  pub finishes : (classes front : List ℕ) (steps : List Step) (due : List (Item × ℕ)) → classes ≡ front ++ frame.end ∷ [] → Stands table frame facts classes steps due → Ends classes steps
  finishes classes front steps due is stands =
      let none : due ≡ [] = stands.closing front is in
      let left : Derives table (plain due) [] [] = subst (λ (xs : List (Item × ℕ)). Derives table (plain xs) [] []) (sym none) done in
      let text : IsText table frame (classes ++ []) (steps ++ []) = stands.sound [] [] left in
      record {
        text = subst (IsText table frame classes) (append-nil steps) (subst (λ (ts : List ℕ). IsText table frame ts (steps ++ [])) (append-nil classes) text);
        shallow = subst (KeepsDepth table frame (length classes)) (append-nil steps) (stands_kept classes steps due stands [] (steps ++ []) text);
      }
