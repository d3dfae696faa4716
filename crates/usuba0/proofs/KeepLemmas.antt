-- What a builder holds after an operation was kept.
use Rattle.std.proofs.Common.{◌≡◌, ℕ, ◌+◌, ◌-◌, ◌*◌, inl, inr, append_assoc, bit_xor, ◌<◌, ◌≤◌, ◌^◌, Bool, true, false, Some, None, IfSome, get_or, List, [], ◌∷◌, ◌++◌, length, All, refl, sym, ap, subst, ◌∙◌, arith, length-append, if◌then◌else◌, true≢false}
use Rattle.std.proofs.lemmas.List.{append-nil, get_or_append_left}
use Rattle.std.proofs.lemmas.Nat.{pow_pos, xor_lt, or_lt, shr_le, mod_below}
use Rattle.std.specs.List.{Contains}
use Rattle.std.proofs.lemmas.List.Elements.{All-append, All-contains_itself, Contains-append_left, Contains-append_right}
use Rattle.std.proofs.lemmas.Map.Keys.{any_passes_from_place}
use Rattle.std.proofs.lemmas.Option.{slice_get-get_or, get_or_from_slice_get, slice_get_cases, slice_get_within}
use Rattle.std.specs.List.{slice_get, list_any}
use Rattle.usuba0.specs.declared.limit.TheConstants.{MAX_TERMS}
use Rattle.usuba0.specs.declared.builder.Head.{Head}
use Rattle.usuba0.specs.contracts.builder.HeadPartialEq.TheImpl as impl
use Rattle.usuba0.specs.declared.builder.Head.TheVariants as head
use Rattle.usuba0.specs.Term.{Term, Input, constant, ones, shifted_left, shifted_right, rotated_left, not_term, and_term, or_term, or_makes}
use Rattle.usuba0.specs.declared.circuit.Reg.{Reg}
use Rattle.usuba0.specs.Builder.{Held, Holds, Names, Grows, term_of, input_terms, IsOnceEach}
use Rattle.usuba0.specs.State.Heads.{term_of_head, terms_of_heads, IsHead, AreHeads, IsBuilder}
use Rattle.usuba0.proofs.HeadLemmas.{slice_get-inputs, get_or-terms, length-inputs, length-terms, terms-push, term_of_head-append, AreHeads-push, term_at_head, new_term, once-push, head_eq-same, head_eq-itself}

-- the terms of a builder with n inputs
abbrev pub terms : ℕ → List Head → List Term
terms n hs = terms_of_heads (input_terms n) hs

-- there are as many terms as inputs and operations
pub length_of_terms : (n : ℕ) (hs : List Head) → length (terms n hs) ≡ n + length hs
length_of_terms n hs = length-terms (input_terms n) hs ∙ ap (λ m. m + length hs) (length-inputs n)

-- the operations after one was inserted
pub record Inserts (w n : ℕ) (old new : List Head) (h : Head) : Type 0 where
  pub builder : IsBuilder w n new
  pub added : List Term
  pub grown : terms n new ≡ terms n old ++ added
  pub made : All (Contains (term_of_head (terms n old) h ∷ [])) added
  pub few : length added ≤ 1

inserts_old : (w n : ℕ) (old new : List Head) (h : Head) → new ≡ old → IsBuilder w n old → Inserts w n old new h
inserts_old w n old new h e b =
    record {
      builder = subst (λ (hs : List Head). IsBuilder w n hs) (sym e) b;
      added = [];
      grown = ap (terms n) e ∙ sym (append-nil (terms n old));
      made = λ k d l. absurd (omega arith);
      few = omega arith;
    }

inserts_new : (w n : ℕ) (old new : List Head) (h : Head) → new ≡ old ++ h ∷ [] → IsBuilder w n old → IsHead w (n + length old) h → n + length old < MAX_TERMS
    → ((j : ℕ) → slice_get old j ≡ Some h → ⊥) → Inserts w n old new h
inserts_new w n old new h e b is room absent =
    let t = term_of_head (terms n old) h in
    let push : terms n new ≡ terms n old ++ t ∷ [] = ap (terms n) e ∙ terms-push (input_terms n) old h in
    let l : length new ≡ length old + 1 = ap length e ∙ length-append old (h ∷ []) in
    record {
      builder = record {
        some_width = b.some_width;
        width_fits = b.width_fits;
        some_input = b.some_input;
        few = omega arith;
        earlier = subst (λ (hs : List Head). AreHeads w n hs) (sym e) (AreHeads-push w n old h b.earlier is);
        once = subst (λ (ts : List Term). IsOnceEach ts) (sym push) (once-push (terms n old) t b.once (new_term w n old h b.earlier is b.once absent));
      };
      added = t ∷ [];
      grown = push;
      made = All-contains_itself (t ∷ []);
      few = omega arith;
    }

-- a set with an operation inserted is a builder again
pub inserts : (w n : ℕ) (old new : List Head) (h : Head) → new ≡ (if list_any (impl.eq-value.it h) old then old else old ++ h ∷ [])
    → IsBuilder w n old → IsHead w (n + length old) h → n + length old < MAX_TERMS → Inserts w n old new h
inserts w n old new h e b is room = by (list_any (impl.eq-value.it h) old) refl
  where
    by : (r : Bool) → list_any (impl.eq-value.it h) old ≡ r → Inserts w n old new h
    by true p = inserts_old w n old new h (e ∙ ap (λ (r : Bool). if r then old else old ++ h ∷ []) p) b
    by false p =
        inserts_new w n old new h (e ∙ ap (λ (r : Bool). if r then old else old ++ h ∷ []) p) b is room
        (λ j q. true≢false (sym (any_passes_from_place (impl.eq-value.it h) old j h q (head_eq-itself h)) ∙ p))

-- the term of the operation stands at its place
pub named : (w n : ℕ) (old new : List Head) (h : Head) (at : ℕ) → Inserts w n old new h → IsHead w (n + length old) h
    → ((k : Head) × (slice_get new at ≡ Some k) × (impl.eq-value.it h k ≡ true)) → slice_get (terms n new) (n + at) ≡ Some (term_of_head (terms n old) h)
named w n old new h at i is stored =
    let s : h ≡ stored.0 = head_eq-same h stored.0 stored.2 in
    let there : slice_get new at ≡ Some h = stored.1 ∙ ap Some (sym s) in
    let li = length-inputs n in
    let are : AreHeads w (length (input_terms n)) new = subst (λ (m : ℕ). AreHeads w m new) (sym li) i.builder.earlier in
    let found = term_at_head w (input_terms n) new at h are there in
    let place : length (input_terms n) + at ≡ n + at = omega arith in
    let is' : IsHead w (length (terms n old)) h = subst (λ (m : ℕ). IsHead w m h) (sym (length_of_terms n old)) is in
    let same : term_of_head (terms n new) h ≡ term_of_head (terms n old) h =
    ap (λ (l : List Term). term_of_head l h) i.grown ∙ term_of_head-append w h (terms n old) i.added is' in
    sym (ap (slice_get (terms n new)) place) ∙ found ∙ ap Some same

-- ---- what stands at a number

-- the number of an input names it
pub input_named : (n : ℕ) (hs : List Head) (k : ℕ) → k < n → slice_get (terms n hs) k ≡ Some (Input k)
input_named n hs k h =
    let li = length-inputs n in
    let l = length_of_terms n hs in
    let a : get_or (terms n hs) k (Input 0) ≡ Input k =
    get_or-terms (input_terms n) hs k (Input 0) (omega arith) ∙ get_or_from_slice_get (input_terms n) k (Input k) (Input 0) (slice_get-inputs n k h) in
    slice_get-get_or (terms n hs) k (Input 0) (omega arith) ∙ ap Some a

-- an input is no constant
pub input_constant : (n : ℕ) (hs : List Head) (k : ℕ) → k < n → None ≡ constant (get_or (terms n hs) k (Input 0))
input_constant n hs k h = sym (ap constant (get_or_from_slice_get (terms n hs) k (Input k) (Input 0) (input_named n hs k h)))

-- the term at the number of an operation is that of the operation
pub head_term : (w n : ℕ) (hs : List Head) (r : ℕ) (h : Head) → AreHeads w n hs → n ≤ r → slice_get hs (r - n) ≡ Some h
    → get_or (terms n hs) r (Input 0) ≡ term_of_head (terms n hs) h
head_term w n hs r h are le there =
    let li = length-inputs n in
    let are' : AreHeads w (length (input_terms n)) hs = subst (λ (m : ℕ). AreHeads w m hs) (sym li) are in
    let place : length (input_terms n) + (r - n) ≡ r = omega arith in
    let t = term_of_head (terms n hs) h in
    get_or_from_slice_get (terms n hs) r t (Input 0)
    (subst (λ (m : ℕ). slice_get (terms n hs) m ≡ Some t) place (term_at_head w (input_terms n) hs (r - n) h are' there))

-- a constant fits the width
pub constant_fits : (w m : ℕ) (ts : List Term) (h : Head) → IsHead w m h → IfSome (constant (term_of_head ts h)) (λ c. c < 2 ^ w)
constant_fits w m ts (head.Const c) p = p
constant_fits w m ts (head.Xor a b) p = tt
constant_fits w m ts (head.Not a) p = tt
constant_fits w m ts (head.Mask c a) p = tt
constant_fits w m ts (head.And a b) p = tt
constant_fits w m ts (head.Shl k a) p = tt
constant_fits w m ts (head.Shr k a) p = tt
constant_fits w m ts (head.Rotl k a) p = tt
constant_fits w m ts (head.Refresh k a) p = tt

-- there is something at each place of a list
pub none_within : {X : Type 0} (xs : List X) (j : ℕ) → j < length xs → slice_get xs j ≡ None → ⊥
none_within xs j h e = elim (slice_get_cases xs j).1 as (λ _. ⊥) [ inl p ↦ some_none (sym p.2 ∙ e) | inr p ↦ omega arith ]
  where
    some_none : {X : Type 0} {x : X} → Some x ≡ None → ⊥
    some_none e = cc

-- ---- constants below 2 ^ w

-- the complement of a word fits its width
pub xor_ones_lt : (w c x : ℕ) → c < 2 ^ w → x ≡ ones w → bit_xor c x < 2 ^ w
xor_ones_lt w c x h e = let p = pow_pos w in xor_lt w c x h (omega arith)

-- a rotated word fits its width
pub rotated_lt : (w k c r : ℕ) → c < 2 ^ w → r ≡ rotated_left w k c → r < 2 ^ w
rotated_lt w k c r h e =
    let p = pow_pos w in
    let a : shifted_left w k c < 2 ^ w = mod_below (c * 2 ^ k) (2 ^ w) p in
    let b = shr_le c (w - k) in
    let o = or_lt w (shifted_left w k c) (shifted_right (w - k) c) a (omega arith) in
    omega arith

-- a word shifted to the left fits its width
pub shifted_left_lt : (w k c r : ℕ) → r ≡ shifted_left w k c → r < 2 ^ w
shifted_left_lt w k c r e = let p = pow_pos w in let a : shifted_left w k c < 2 ^ w = mod_below (c * 2 ^ k) (2 ^ w) p in omega arith

-- ---- growing

-- what is held before is held after
pub Holds-more : (makes : List Term) (old new : Held) (r : Reg) → Grows makes old new → Holds old r → Holds new r
Holds-more makes old new r g h =
    let l : length new.terms ≡ length old.terms + length g.added = ap length g.terms ∙ length-append old.terms g.added in omega arith

-- a register keeps its term
pub term_of-more : (makes : List Term) (old new : Held) (r : Reg) → Grows makes old new → Holds old r → term_of new r ≡ term_of old r
term_of-more makes old new r g h =
    ap (λ (ts : List Term). get_or ts r.0 (Input 0)) g.terms ∙ get_or_append_left old.terms g.added (Input 0) r.0 h

-- a register that names a term is held
pub Holds-named : (held : Held) (r : Reg) (t : Term) → Names held r t → Holds held r
Holds-named held r t e = slice_get_within held.terms r.0 t e

-- a register that names a term stands for it
pub term_of-named : (held : Held) (r : Reg) (t : Term) → Names held r t → term_of held r ≡ t
term_of-named held r t e = get_or_from_slice_get held.terms r.0 t (Input 0) e

-- two steps together make what each of them makes
pub Grows-both : (ms ns : List Term) (a b c : Held) → Grows ms a b → Grows ns b c → Grows (ms ++ ns) a c
Grows-both ms ns a b c g h =
    let l = length-append g.added h.added in
    let m = length-append ms ns in
    let p = g.few in
    let q = h.few in
    record {
      width = h.width ∙ g.width;
      inputs = h.inputs ∙ g.inputs;
      added = g.added ++ h.added;
      terms = h.terms ∙ ap (λ (ts : List Term). ts ++ h.added) g.terms ∙ append_assoc a.terms g.added h.added;
      made = All-append (Contains (ms ++ ns)) g.added h.added
          (λ k d l. Contains-append_left ms ns (get_or g.added k d) (g.made k d l))
          (λ k d l. Contains-append_right ms ns (get_or h.added k d) (h.made k d l));
      few = omega arith;
      once = h.once;
    }

-- where nothing was added
pub Grows-none : (makes : List Term) (a b : Held) → IsOnceEach a.terms → b ≡ a → Grows makes a b
Grows-none makes a b once e =
    subst (λ (x : Held). Grows makes a x) (sym e)
    (record {
      width = refl;
      inputs = refl;
      added = [];
      terms = sym (append-nil a.terms);
      made = λ k d l. absurd (omega arith);
      few = omega arith;
      once = once;
    })

-- what was added is among more terms too
Grows-more : (ms ns : List Term) (a b : Held) → Grows ms a b → Grows (ms ++ ns) a b
Grows-more ms ns a b g =
    let m = length-append ms ns in
    let p = g.few in
    record {
      width = g.width;
      inputs = g.inputs;
      added = g.added;
      terms = g.terms;
      made = λ k d l. Contains-append_left ms ns (get_or g.added k d) (g.made k d l);
      few = omega arith;
      once = g.once;
    }

-- ---- the steps of `or`: from a by ~x to b, by ~y to c, by their product to d, and by its complement to e

or_right : (a b : Held) (x y : Reg) → Holds a y → Grows (not_term a.width (term_of a x) ∷ []) a b
    → not_term b.width (term_of b y) ≡ not_term a.width (term_of a y)
or_right a b x y held g = ap (λ (v : ℕ). not_term v (term_of b y)) g.width ∙ ap (not_term a.width) (term_of-more _ a b y g held)

or_product : (a b c : Held) (x y p q : Reg) → Holds a y
    → Grows (not_term a.width (term_of a x) ∷ []) a b → Grows (not_term b.width (term_of b y) ∷ []) b c
    → Names b p (not_term a.width (term_of a x)) → Names c q (not_term b.width (term_of b y))
    → and_term (term_of c p) (term_of c q) ≡ and_term (not_term a.width (term_of a x)) (not_term a.width (term_of a y))
or_product a b c x y p q held gb gc np nq =
    let left : term_of c p ≡ not_term a.width (term_of a x) =
    term_of-more _ b c p gc (Holds-named b p _ np) ∙ term_of-named b p _ np in
    let right : term_of c q ≡ not_term a.width (term_of a y) = term_of-named c q _ nq ∙ or_right a b x y held gb in
    ap (λ (t : Term). and_term t (term_of c q)) left ∙ ap (and_term (not_term a.width (term_of a x))) right

or_last : (a b c d : Held) (x y p q r : Reg) → Holds a y
    → Grows (not_term a.width (term_of a x) ∷ []) a b → Grows (not_term b.width (term_of b y) ∷ []) b c
    → Grows (and_term (term_of c p) (term_of c q) ∷ []) c d
    → Names b p (not_term a.width (term_of a x)) → Names c q (not_term b.width (term_of b y))
    → Names d r (and_term (term_of c p) (term_of c q))
    → not_term d.width (term_of d r) ≡ or_term a.width (term_of a x) (term_of a y)
or_last a b c d x y p q r held gb gc gd np nq nr =
    ap (λ (v : ℕ). not_term v (term_of d r)) (gd.width ∙ gc.width ∙ gb.width)
    ∙ ap (not_term a.width) (term_of-named d r _ nr ∙ or_product a b c x y p q held gb gc np nq)

-- after the first step
pub or_one : (a b : Held) (x y : Reg) → Grows (not_term a.width (term_of a x) ∷ []) a b
    → Grows (or_makes a.width (term_of a x) (term_of a y)) a b
or_one a b x y g =
    let t = not_term a.width (term_of a x) in
    let u = not_term a.width (term_of a y) in
    Grows-more (t ∷ []) (u ∷ and_term t u ∷ not_term a.width (and_term t u) ∷ []) a b g

or_pair : (a b c : Held) (x y : Reg) → Holds a y
    → Grows (not_term a.width (term_of a x) ∷ []) a b → Grows (not_term b.width (term_of b y) ∷ []) b c
    → Grows (not_term a.width (term_of a x) ∷ not_term a.width (term_of a y) ∷ []) a c
or_pair a b c x y held gb gc =
    Grows-both (not_term a.width (term_of a x) ∷ []) (not_term a.width (term_of a y) ∷ []) a b c gb
    (subst (λ (t : Term). Grows (t ∷ []) b c) (or_right a b x y held gb) gc)

-- after the second
pub or_two : (a b c : Held) (x y : Reg) → Holds a y
    → Grows (not_term a.width (term_of a x) ∷ []) a b → Grows (not_term b.width (term_of b y) ∷ []) b c
    → Grows (or_makes a.width (term_of a x) (term_of a y)) a c
or_two a b c x y held gb gc =
    let t = not_term a.width (term_of a x) in
    let u = not_term a.width (term_of a y) in
    Grows-more (t ∷ u ∷ []) (and_term t u ∷ not_term a.width (and_term t u) ∷ []) a c (or_pair a b c x y held gb gc)

or_triple : (a b c d : Held) (x y p q : Reg) → Holds a y
    → Grows (not_term a.width (term_of a x) ∷ []) a b → Grows (not_term b.width (term_of b y) ∷ []) b c
    → Grows (and_term (term_of c p) (term_of c q) ∷ []) c d
    → Names b p (not_term a.width (term_of a x)) → Names c q (not_term b.width (term_of b y))
    → let t = not_term a.width (term_of a x) in
    let u = not_term a.width (term_of a y) in
    Grows (t ∷ u ∷ and_term t u ∷ []) a d
or_triple a b c d x y p q held gb gc gd np nq =
    let t = not_term a.width (term_of a x) in
    let u = not_term a.width (term_of a y) in
    Grows-both (t ∷ u ∷ []) (and_term t u ∷ []) a c d (or_pair a b c x y held gb gc)
    (subst (λ (v : Term). Grows (v ∷ []) c d) (or_product a b c x y p q held gb gc np nq) gd)

-- after the third
pub or_three : (a b c d : Held) (x y p q : Reg) → Holds a y
    → Grows (not_term a.width (term_of a x) ∷ []) a b → Grows (not_term b.width (term_of b y) ∷ []) b c
    → Grows (and_term (term_of c p) (term_of c q) ∷ []) c d
    → Names b p (not_term a.width (term_of a x)) → Names c q (not_term b.width (term_of b y))
    → Grows (or_makes a.width (term_of a x) (term_of a y)) a d
or_three a b c d x y p q held gb gc gd np nq =
    let t = not_term a.width (term_of a x) in
    let u = not_term a.width (term_of a y) in
    Grows-more (t ∷ u ∷ and_term t u ∷ []) (not_term a.width (and_term t u) ∷ []) a d (or_triple a b c d x y p q held gb gc gd np nq)

-- after the last
pub or_four : (a b c d e : Held) (x y p q r : Reg) → Holds a y
    → Grows (not_term a.width (term_of a x) ∷ []) a b → Grows (not_term b.width (term_of b y) ∷ []) b c
    → Grows (and_term (term_of c p) (term_of c q) ∷ []) c d → Grows (not_term d.width (term_of d r) ∷ []) d e
    → Names b p (not_term a.width (term_of a x)) → Names c q (not_term b.width (term_of b y))
    → Names d r (and_term (term_of c p) (term_of c q))
    → Grows (or_makes a.width (term_of a x) (term_of a y)) a e
or_four a b c d e x y p q r held gb gc gd ge np nq nr =
    let t = not_term a.width (term_of a x) in
    let u = not_term a.width (term_of a y) in
    Grows-both (t ∷ u ∷ and_term t u ∷ []) (not_term a.width (and_term t u) ∷ []) a d e
    (or_triple a b c d x y p q held gb gc gd np nq)
    (subst (λ (v : Term). Grows (v ∷ []) d e) (or_last a b c d x y p q r held gb gc gd np nq nr) ge)

-- what the last step names
pub or_named : (a b c d e : Held) (x y p q r s : Reg) → Holds a y
    → Grows (not_term a.width (term_of a x) ∷ []) a b → Grows (not_term b.width (term_of b y) ∷ []) b c
    → Grows (and_term (term_of c p) (term_of c q) ∷ []) c d
    → Names b p (not_term a.width (term_of a x)) → Names c q (not_term b.width (term_of b y))
    → Names d r (and_term (term_of c p) (term_of c q))
    → Names e s (not_term d.width (term_of d r))
    → Names e s (or_term a.width (term_of a x) (term_of a y))
or_named a b c d e x y p q r s held gb gc gd np nq nr ns = ns ∙ ap Some (or_last a b c d x y p q r held gb gc gd np nq nr)
