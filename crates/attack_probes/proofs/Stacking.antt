-- A stack of uses, and what it unfolds to.
use Rattle.std.proofs.Common.{◌≡◌, ◌<◌, ◌+◌, ℕ, suc, List, [], ◌∷◌, ◌++◌, length, get_or, map, reverse, All, refl, sym, ap, ◌∙◌, subst, arith, append_assoc, length-append}
use Rattle.std.proofs.lemmas.List.{reverse-append, map-append, append-nil, length_push, get_or_append_left, get_or_read, length-map}
use Rattle.std.proofs.lemmas.List.Elements.{All-map, All-append, All-push, All-head, All-tail}
use Rattle.span_model.specs.Attack.{Probe}
use Rattle.attack_model.specs.declared.attack.Probe.{Probe as Listed}
use Rattle.linear_view.specs.declared.operand.Side.TheVariants.{Left}
use Rattle.attack_model.specs.declared.attack.Step.{Step}
use Rattle.attack_model.proofs.UseLemmas.{uses_below}
use Rattle.attack_probes.specs.declared.listing.Use.{Use}
use Rattle.attack_model.specs.Derivations.{step_at, IsInOrder}
use Rattle.attack_probes.specs.Unfolding.{probe_on, in_turn, unfolded, unfolding_of}
use Rattle.attack_probes.specs.Listings.{probes_of}
use Rattle.attack_model.specs.Ranges.{probe_of}
use Rattle.attack_probes.proofs.Levels.{unfolded_step}

map-reverse : {X Y : Type 0} (f : X → Y) (xs : List X) → map f (reverse xs) ≡ reverse (map f xs)
map-reverse f [] = refl
map-reverse f (x ∷ xs) =
    ap (map f) (reverse-append (x ∷ []) xs) ∙ map-append f (reverse xs) (x ∷ []) ∙ ap (λ ys. ys ++ f x ∷ []) (map-reverse f xs)
    ∙ sym (reverse-append (f x ∷ []) (map f xs))

reverse-reverse : {X : Type 0} (xs : List X) → reverse (reverse xs) ≡ xs
reverse-reverse [] = refl
reverse-reverse (x ∷ xs) =
    ap reverse (reverse-append (x ∷ []) xs) ∙ reverse-append (reverse xs) (x ∷ []) ∙ ap (λ ys. x ∷ ys) (reverse-reverse xs)

All-reverse : {X : Type 0} (P : X → Type 0) (xs : List X) → All P xs → All P (reverse xs)
All-reverse P [] h = h
All-reverse {X} P (x ∷ xs) h =
    subst (λ (ys : List X). All P ys) (sym (reverse-append (x ∷ []) xs))
    (All-push P (reverse xs) x (All-reverse P xs (All-tail P x xs h)) (All-head P x xs h))

-- the probes of the uses of a stack, from its top, where the shares from `new` on are free
abbrev pub stacked : List Step → List Use → (new : ℕ) → List Probe
stacked steps [] new = []
stacked steps (next ∷ stack) new =
    unfolded (length steps) steps next.step next.user new ++ stacked steps stack (new + length (unfolded (length steps) steps next.step next.user new))

-- a use under the share `user`
abbrev pub use_under : (user k : ℕ) → Use
use_under user k = record { step = k; user = user }

stacked_uses : (steps : List Step) (uses : List ℕ) (user : ℕ) (stack : List Use) (new : ℕ)
    → stacked steps (map (use_under user) uses ++ stack) new
    ≡ in_turn (unfolded (length steps) steps) uses user new ++ stacked steps stack (new + length (in_turn (unfolded (length steps) steps) uses user new))
stacked_uses steps [] user stack new = ap (stacked steps stack) (omega arith)
stacked_uses steps (k ∷ uses) user stack new =
    let of_use = unfolded (length steps) steps in
    let first = of_use k user new in
    let later = new + length first in
    let rest = in_turn of_use uses user later in
    let long : new + length (first ++ rest) ≡ later + length rest = omega (arith, length-append first rest) in
    ap (λ x. first ++ x) (stacked_uses steps uses user stack later)
    ∙ sym (append_assoc first rest (stacked steps stack (later + length rest)))
    ∙ ap (λ x. (first ++ rest) ++ stacked steps stack x) (sym long)

-- uses that were put on a stack are on its top, the first one first
on_top : (uses : List ℕ) (user : ℕ) (stack : List Use) → reverse (stack ++ map (use_under user) (reverse uses)) ≡ map (use_under user) uses ++ reverse stack
on_top uses user stack =
    reverse-append stack (map (use_under user) (reverse uses))
    ∙ ap (λ x. x ++ reverse stack) (ap reverse (map-reverse (use_under user) uses) ∙ reverse-reverse (map (use_under user) uses))

put_among : (bound user : ℕ) (uses : List ℕ) (stack : List Use) → All (λ next. next.step < bound) stack → All (λ k. k < bound) uses
    → All (λ next. next.step < bound) (stack ++ map (use_under user) (reverse uses))
put_among bound user uses stack before below =
    All-append (λ next. next.step < bound) stack (map (use_under user) (reverse uses)) before
    (All-map (λ next. next.step < bound) (use_under user) (reverse uses) (All-reverse (λ k. k < bound) uses below))

-- the probes so far and those of the stack are the unfolding, and the stack has uses of steps alone
pub record IsUnfoldedSoFar (steps : List Step) (root : List ℕ) (probes : List Probe) (stack : List Use) : Type 0 where
  pub whole : probes ++ stacked steps (reverse stack) (1 + length probes) ≡ unfolding_of steps root
  pub among : All (λ next. next.step < length steps) stack

pub unfolds_first : (steps : List Step) (root : List ℕ) → IsInOrder steps root → IsUnfoldedSoFar steps root [] (map (use_under 0) (reverse root))
unfolds_first steps root order = record {
  whole = ap (λ x. stacked steps x 1) (on_top root 0 []) ∙ stacked_uses steps root 0 [] 1 ∙ append-nil (unfolding_of steps root);
  among = put_among (length steps) 0 root [] (λ k d lt. absurd (omega arith)) (uses_below (length steps) root order.within);
}

module _ (steps : List Step) (root : List ℕ) (probes : List Probe) (stack : List Use) (next : Use) (order : IsInOrder steps root)
    (before : IsUnfoldedSoFar steps root probes (stack ++ next ∷ [])) where
  pub next_among : next.step < length steps
  next_among = All-head (λ next. next.step < length steps) next (reverse stack)
      (subst (λ (x : List Use). All (λ next. next.step < length steps) x) (reverse-append stack (next ∷ []))
      (All-reverse (λ next. next.step < length steps) (stack ++ next ∷ []) before.among))

  rest_among : All (λ next. next.step < length steps) stack
  rest_among = λ k d lt. subst (λ (x : Use). x.step < length steps) (get_or_append_left stack (next ∷ []) d k lt)
      (before.among k d (omega (arith, length-append stack (next ∷ []))))

  -- the probe of the next use
  abbrev probe : Probe
  probe = probe_on (step_at steps next.step).side (step_at steps next.step).product (1 + length probes) next.user

  -- the probes of the uses that it makes, and those of the rest of the stack
  abbrev below : List Probe
  below = in_turn (unfolded (length steps) steps) (step_at steps next.step).uses (1 + length probes) (suc (1 + length probes))

  abbrev rest : List Probe
  rest = stacked steps (reverse stack) (suc (1 + length probes) + length below)

  -- the unfolding goes on with them
  parts : probes ++ (probe ∷ (below ++ rest)) ≡ unfolding_of steps root
  parts =
      let own = 1 + length probes in
      let all = unfolded (length steps) steps next.step next.user own in
      let first : all ≡ probe ∷ below = unfolded_step steps order.earlier next.step next.user own next_among in
      let long : own + length (probe ∷ below) ≡ suc own + length below = omega arith in
      ap (λ x. probes ++ ((probe ∷ below) ++ stacked steps (reverse stack) x)) (sym long)
      ∙ ap (λ x. probes ++ (x ++ stacked steps (reverse stack) (own + length x))) (sym first)
      ∙ ap (λ x. probes ++ stacked steps x own) (sym (reverse-append stack (next ∷ [])))
      ∙ before.whole

  pub fewer : length probes < length (unfolding_of steps root)
  fewer = omega (arith, ap length parts, length-append probes (probe ∷ (below ++ rest)))

  pub unfolds_next : IsUnfoldedSoFar steps root (probes ++ probe ∷ []) (stack ++ map (use_under (1 + length probes)) (reverse (step_at steps next.step).uses))
  unfolds_next =
      let own = 1 + length probes in
      let uses = (step_at steps next.step).uses in
      let long : 1 + length (probes ++ probe ∷ []) ≡ suc own = omega (arith, length_push probes probe) in
      record {
        whole = ap (λ x. (probes ++ probe ∷ []) ++ stacked steps x (1 + length (probes ++ probe ∷ []))) (on_top uses own stack)
            ∙ ap (λ x. (probes ++ probe ∷ []) ++ stacked steps (map (use_under own) uses ++ reverse stack) x) long
            ∙ ap (λ x. (probes ++ probe ∷ []) ++ x) (stacked_uses steps uses own (reverse stack) (suc own))
            ∙ append_assoc probes (probe ∷ []) (below ++ rest)
            ∙ parts;
        among = put_among (length steps) own uses stack rest_among
            (λ k d lt. let below = uses_below next.step (step_at steps next.step).uses (order.earlier next.step next_among) k d lt in let among = next_among in omega arith);
      }

-- the same of a list of listed probes, to which the probe of the next use is added
module _ (steps : List Step) (root : List ℕ) (list : List Listed) (all stack : List Use) (next : Use) (order : IsInOrder steps root)
    (before : IsUnfoldedSoFar steps root (probes_of list) all) (popped : all ≡ stack ++ next ∷ []) where
  popped_before : IsUnfoldedSoFar steps root (probes_of list) (stack ++ next ∷ [])
  popped_before = subst (λ (x : List Use). IsUnfoldedSoFar steps root (probes_of list) x) popped before

  pub listed_fewer : length list < length (unfolding_of steps root)
  listed_fewer = omega (arith, fewer steps root (probes_of list) stack next order popped_before, length-map list probe_of)

  pub popped_among : next.step < length steps
  popped_among = next_among steps root (probes_of list) stack next order popped_before

  pub listed_next : (step : Step) (len : ℕ) (listed : Listed) → step ≡ get_or steps next.step step → len ≡ length list
      → probe_of listed ≡ probe_on step.side step.product (len + 1) next.user
      → IsUnfoldedSoFar steps root (probes_of (list ++ listed ∷ [])) (stack ++ map (use_under (len + 1)) (reverse step.uses))
  listed_next step len listed is long made =
      let at : step ≡ step_at steps next.step = get_or_read steps next.step step popped_among is (record { product = 0; side = Left; uses = [] }) in
      let own : 1 + length (probes_of list) ≡ len + 1 = omega (arith, length-map list probe_of) in
      let made_at : probe_of listed ≡ probe_on (step_at steps next.step).side (step_at steps next.step).product (1 + length (probes_of list)) next.user =
      made ∙ ap (λ (x : Step). probe_on x.side x.product (len + 1) next.user) at
      ∙ ap (λ (x : ℕ). probe_on (step_at steps next.step).side (step_at steps next.step).product x next.user) (sym own) in
      let added : probes_of list ++ probe_on (step_at steps next.step).side (step_at steps next.step).product (1 + length (probes_of list)) next.user ∷ []
      ≡ probes_of (list ++ listed ∷ []) =
      ap (λ (x : Probe). probes_of list ++ x ∷ []) (sym made_at) ∙ sym (map-append probe_of list (listed ∷ [])) in
      subst (λ (x : List Probe). IsUnfoldedSoFar steps root x (stack ++ map (use_under (len + 1)) (reverse step.uses))) added
      (subst (λ (x : ℕ). IsUnfoldedSoFar steps root (probes_of list ++ probe_on (step_at steps next.step).side (step_at steps next.step).product (1 + length (probes_of list)) next.user ∷ []) (stack ++ map (use_under x) (reverse step.uses))) own
      (subst (λ (x : Step). IsUnfoldedSoFar steps root (probes_of list ++ probe_on (step_at steps next.step).side (step_at steps next.step).product (1 + length (probes_of list)) next.user ∷ []) (stack ++ map (use_under (1 + length (probes_of list))) (reverse x.uses))) (sym at)
      (unfolds_next steps root (probes_of list) stack next order popped_before)))
