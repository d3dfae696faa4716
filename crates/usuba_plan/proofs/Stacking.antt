-- What is pushed on a stack, one handle after another.
use Rattle.std.proofs.Common.{◌≡◌, ℕ, ◌+◌, ◌*◌, ◌<◌, ◌≤◌, List, [], ◌∷◌, ◌++◌, length, map, drop, get_or, Some, refl, sym, ap, ◌∙◌, subst, arith, append_assoc}
use Rattle.std.proofs.lemmas.List.{append-nil, map-append, at_drop_more, at_drop_all}
use Rattle.usuba_code.specs.CodeLaw.{Each}
use Rattle.usuba_model.specs.Rounds.{Operators, element_by_element}
use Rattle.usuba_model.specs.Walk.{weight}
use Rattle.usuba_trees.specs.declared.BitOp.{BitOp}
use Rattle.usuba_plan.specs.Store.{Store, Made, Gives, Keeps, meanings}
use Rattle.usuba_plan.specs.State.Handles.{unary_of}
use Rattle.usuba_plan.specs.declared.stack.Unary.{Unary}
use Rattle.usuba_plan.proofs.Eaches.{each_push, each_at}
use Rattle.usuba_plan.proofs.Stores.{kept_itself, kept_on, held_on, same_meanings}

-- the stack and what is still to be pushed are the whole
pub record Pushing {H V : Type 0} (most : ℕ) (old now : Store H V) (stack : List H) (rest whole : List V) : Type 0 where
  pub kept : Keeps most old now
  pub held : Each now.holds stack
  pub left : meanings now stack ++ rest ≡ whole

module _ {H V : Type 0} where
  pub push_one : (m n : ℕ) (old now next : Store H V) (stack : List H) (h : H) (v : V) (rest whole : List V)
      → Pushing m old now stack (v ∷ rest) whole → Keeps n now next → Made next h v
      → Pushing (m + n) old next (stack ++ h ∷ []) rest whole
  push_one m n old now next stack h v rest whole p k made = record {
    kept = kept_on m n old now next p.kept k;
    held = each_push next.holds stack h (held_on n now next k stack p.held) made.held;
    left =
        ap (λ (vs : List V). vs ++ rest) (map-append next.meaning stack (h ∷ []))
        ∙ append_assoc (meanings next stack) (next.meaning h ∷ []) rest
        ∙ ap (λ (v' : V). meanings next stack ++ v' ∷ rest) made.means
        ∙ ap (λ (vs : List V). vs ++ v ∷ rest) (same_meanings n now next k stack p.held)
        ∙ p.left;
  }

  pub push_done : (m : ℕ) (old now : Store H V) (stack : List H) (rest whole : List V) → Pushing m old now stack rest whole → rest ≡ []
      → Gives now stack (Some whole)
  push_done m old now stack rest whole p none = record {
    held = p.held;
    means = ap (λ (vs : List V). Some vs) (sym p.left ∙ ap (λ (r : List V). meanings now stack ++ r) none ∙ append-nil (meanings now stack));
  }

  pub push_begin : (s : Store H V) (stack : List H) (rest : List V) → Each s.holds stack
      → Pushing 0 s s stack rest (meanings s stack ++ rest)
  push_begin s stack rest d = record { kept = kept_itself s; held = d; left = refl }

  -- the handle at a place, read from a list of held ones, is held
  pub read_held : (s : Store H V) (hs : List H) (i : ℕ) (h : H) → i < length hs → h ≡ get_or hs i h → Each s.holds hs → s.holds h
  read_held s hs i h less is d = subst s.holds (sym is) (each_at s.holds hs i h less d)

  -- what an operator makes of the operands from a place on
  abbrev pub each_rest : Store H V → Unary → List H → ℕ → List V
  each_rest s unary operands i = map (unary_of s.operators unary) (meanings s (drop i operands))

  pub each_more : (s : Store H V) (unary : Unary) (operands : List H) (i : ℕ) (a : H) → i < length operands → a ≡ get_or operands i a
      → each_rest s unary operands i ≡ unary_of s.operators unary (s.meaning a) ∷ each_rest s unary operands (i + 1)
  each_more s unary operands i a less is =
      at_drop_more (λ rest. map (unary_of s.operators unary) (meanings s rest)) operands i a less
      ∙ ap (λ (h : H). unary_of s.operators unary (s.meaning h) ∷ each_rest s unary operands (i + 1)) (sym is)

  pub each_end : (s : Store H V) (unary : Unary) (operands : List H) (i : ℕ) → length operands ≤ i → each_rest s unary operands i ≡ []
  each_end s unary operands i past = at_drop_all (λ rest. map (unary_of s.operators unary) (meanings s rest)) operands i past

  pub each_step : (i : ℕ) (old now next : Store H V) (unary : Unary) (operands stack : List H) (a h : H) (whole : List V)
      → i < length operands → a ≡ get_or operands i a → Each old.holds operands
      → Pushing i old now stack (each_rest old unary operands i) whole
      → Made next h (unary_of now.operators unary (now.meaning a)) → Keeps 1 now next
      → Pushing (i + 1) old next (stack ++ h ∷ []) (each_rest old unary operands (i + 1)) whole
  each_step i old now next unary operands stack a h whole less is held p made kept =
      push_one i 1 old now next stack h (unary_of old.operators unary (old.meaning a)) (each_rest old unary operands (i + 1)) whole
      (record { kept = p.kept; held = p.held; left = ap (λ (rest : List V). meanings now stack ++ rest) (sym (each_more old unary operands i a less is)) ∙ p.left })
      kept
      (record {
        held = made.held;
        means = made.means ∙ ap (λ (o : Operators V). unary_of o unary (now.meaning a)) p.kept.operators
            ∙ ap (unary_of old.operators unary) (p.kept.means a (read_held old operands i a less is held));
      })

  -- what an operator makes of each two operands from a place on
  abbrev pub pairs_rest : Store H V → BitOp → List H → List H → ℕ → List V
  pairs_rest s op left right i =
      element_by_element (s.operators.operation_of op) (meanings s (drop i left)) (meanings s (drop i right))

  pub pairs_more : (s : Store H V) (op : BitOp) (left right : List H) (i : ℕ) (a b : H) → i < length left → i < length right
      → a ≡ get_or left i a → b ≡ get_or right i b
      → pairs_rest s op left right i ≡ s.operators.operation_of op (s.meaning a) (s.meaning b) ∷ pairs_rest s op left right (i + 1)
  pairs_more s op left right i a b less less' is is' =
      at_drop_more (λ rest. element_by_element (s.operators.operation_of op) (meanings s rest) (meanings s (drop i right))) left i a less
      ∙ at_drop_more (λ rest. element_by_element (s.operators.operation_of op) (s.meaning (get_or left i a) ∷ meanings s (drop (i + 1) left)) (meanings s rest)) right i b less'
      ∙ ap (λ (h : H). s.operators.operation_of op (s.meaning h) (s.meaning (get_or right i b)) ∷ pairs_rest s op left right (i + 1)) (sym is)
      ∙ ap (λ (h : H). s.operators.operation_of op (s.meaning a) (s.meaning h) ∷ pairs_rest s op left right (i + 1)) (sym is')

  pub pairs_end : (s : Store H V) (op : BitOp) (left right : List H) (i : ℕ) → length left ≤ i → pairs_rest s op left right i ≡ []
  pairs_end s op left right i past =
      at_drop_all (λ rest. element_by_element (s.operators.operation_of op) (meanings s rest) (meanings s (drop i right))) left i past

  pub pairs_step : (i : ℕ) (old now next : Store H V) (op : BitOp) (left right stack : List H) (a b h : H) (whole : List V)
      → i < length left → i < length right → a ≡ get_or left i a → b ≡ get_or right i b
      → Each old.holds left → Each old.holds right
      → Pushing (weight op * i) old now stack (pairs_rest old op left right i) whole
      → Made next h (now.operators.operation_of op (now.meaning a) (now.meaning b)) → Keeps (weight op) now next
      → Pushing (weight op * i + weight op) old next (stack ++ h ∷ []) (pairs_rest old op left right (i + 1)) whole
  pairs_step i old now next op left right stack a b h whole less less' is is' held held' p made kept =
      push_one (weight op * i) (weight op) old now next stack h (old.operators.operation_of op (old.meaning a) (old.meaning b))
      (pairs_rest old op left right (i + 1)) whole
      (record { kept = p.kept; held = p.held; left = ap (λ (rest : List V). meanings now stack ++ rest) (sym (pairs_more old op left right i a b less less' is is')) ∙ p.left })
      kept
      (record {
        held = made.held;
        means = made.means ∙ ap (λ (o : Operators V). o.operation_of op (now.meaning a) (now.meaning b)) p.kept.operators
            ∙ ap (λ (v : V). old.operators.operation_of op v (now.meaning b)) (p.kept.means a (read_held old left i a less is held))
            ∙ ap (λ (v : V). old.operators.operation_of op (old.meaning a) v) (p.kept.means b (read_held old right i b less' is' held'));
      })

  -- one handle is pushed
  pub one_pushed : (old new : Store H V) (stack : List H) (h : H) (v : V) → Each old.holds stack → Keeps 1 old new → Made new h v
      → Gives new (stack ++ h ∷ []) (Some (meanings old stack ++ v ∷ []))
  one_pushed old new stack h v held kept made =
      push_done (0 + 1) old new (stack ++ h ∷ []) [] (meanings old stack ++ v ∷ [])
      (push_one 0 1 old old new stack h v [] (meanings old stack ++ v ∷ []) (push_begin old stack (v ∷ []) held) kept made) refl

pub next_product : (w i : ℕ) → w * i + w ≡ w * (i + 1)
next_product w i = omega arith
