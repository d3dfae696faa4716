-- How the puts of one function join: what was written so far, and what is still to come.
use Rattle.std.proofs.Common.{◌≡◌, ℕ, ◌+◌, ◌<◌, List, [], ◌∷◌, ◌++◌, Option, None, Some, Result, Ok, Err, IsErr, refl, ap, sym, ◌∙◌, subst, append_assoc, append-nil, arith, length, get_or, take, drop, flat_map, add-one, drop-cons}
use Rattle.std.proofs.lemmas.List.{flat_map_more, take_more, take-append-drop}
use Rattle.std.proofs.lemmas.Grind.{flat_map-append}
use Rattle.std.proofs.lemmas.Result.{on_ok_weaker, on_err_weaker}
use Rattle.tor_edge.specs.Written.{appended, AppendsPrefix, Wrote}
use Rattle.tor_edge.specs.declared.sink.PutFault.{PutFault}

appended-nil : (told : Option (List ℕ)) → told ≡ appended told []
appended-nil None = refl
appended-nil (Some bytes) = ap (λ (b : List ℕ). Some b) (sym (append-nil bytes))

appended-append : (told : Option (List ℕ)) (a b : List ℕ) → appended (appended told a) b ≡ appended told (a ++ b)
appended-append None a b = refl
appended-append (Some bytes) a b = ap (λ (c : List ℕ). Some c) (append_assoc bytes a b)

-- after the text a, a prefix of b is one of a and b
after_text : (first second now : Option (List ℕ)) (a b : List ℕ) → second ≡ appended first a → AppendsPrefix second now b → AppendsPrefix first now (a ++ b)
after_text first second now a b e p =
    (a ++ p.0, (p.1.0, append_assoc a p.0 p.1.0 ∙ ap (λ (c : List ℕ). a ++ c) p.1.1), p.2 ∙ ap (λ (o : Option (List ℕ)). appended o p.0) e ∙ appended-append first a p.0)

-- a prefix of a text is one of a longer text
in_longer : (first now : Option (List ℕ)) (a b : List ℕ) → AppendsPrefix first now a → AppendsPrefix first now (a ++ b)
in_longer first now a b p = (p.0, (p.1.0 ++ b, sym (append_assoc p.0 p.1.0 b) ∙ ap (λ (c : List ℕ). c ++ b) p.1.1), p.2)

module _ {S : Type 0} {faults : S → ℕ} {written : S → Option (List ℕ)} where
  -- nothing was written yet
  pub Wrote-nothing : {T : Type 0} (sink : S) (x : T) → Wrote faults written sink sink [] (Ok x)
  Wrote-nothing sink x = record {
    never_falls = omega arith;
    whole = appended-nil (written sink);
    ok_keeps_count = refl;
    failed = tt;
    prefix = tt;
  }

  -- whatever the Ok holds
  pub Wrote-ok : {T U : Type 0} {old new : S} {text : List ℕ} (x : T) (y : U) → Wrote faults written old new text (Ok x) → Wrote faults written old new text (Ok y)
  Wrote-ok x y wrote = record {
    never_falls = wrote.never_falls;
    whole = wrote.whole;
    ok_keeps_count = wrote.ok_keeps_count;
    failed = tt;
    prefix = tt;
  }

  -- the first text was written whole, and the rest was written after it
  pub Wrote-then : {T U : Type 0} {old mid new : S} {a rest : List ℕ} {x : T} {q : Result U PutFault}
      → Wrote faults written old mid a (Ok x) → Wrote faults written mid new rest q → Wrote faults written old new (a ++ rest) q
  Wrote-then {T} {U} {old} {mid} {new} {a} {rest} {x} {q} first more = record {
    never_falls = omega (arith, first.never_falls, more.never_falls);
    whole = on_ok_weaker q (λ e. e ∙ ap (λ (o : Option (List ℕ)). appended o rest) first.whole ∙ appended-append (written old) a rest) more.whole;
    ok_keeps_count = on_ok_weaker q (λ e. e ∙ first.ok_keeps_count) more.ok_keeps_count;
    failed = on_err_weaker q (λ rose. (omega (arith, rose.0, first.ok_keeps_count), rose.1)) more.failed;
    prefix = on_err_weaker q (λ p. after_text (written old) (written mid) (written new) a rest first.whole p) more.prefix;
  }

  -- a fault came in the first text, and nothing was written after it
  pub Wrote-stops : {T U : Type 0} {old new : S} {a : List ℕ} {fault : PutFault} {q : Result U PutFault} (rest : List ℕ)
      → Wrote {T = T} faults written old new a (Err fault) → IsErr q → Wrote faults written old new (a ++ rest) q
  Wrote-stops {q = Ok x} rest first fails = absurd (cc)
  Wrote-stops {old = old} {new = new} {a = a} {q = Err e} rest first fails = record {
    never_falls = first.never_falls;
    whole = tt;
    ok_keeps_count = tt;
    failed = first.failed;
    prefix = in_longer (written old) (written new) a rest first.prefix;
  }

  -- the same text in other words
  pub Wrote-is : {T : Type 0} {old new : S} {a b : List ℕ} {q : Result T PutFault} → a ≡ b → Wrote faults written old new a q → Wrote faults written old new b q
  Wrote-is {T} {old} {new} {a} {b} {q} same = subst (λ (text : List ℕ). Wrote {T = T} faults written old new text q) same

-- the texts of the items before i and of that at i are those of the items up to i
pub texts_to : {X : Type 0} (f : X → List ℕ) (items : List X) (i : ℕ) (d : X) → i < length items
    → flat_map f (take i items) ++ f (get_or items i d) ≡ flat_map f (take (i + 1) items)
texts_to f items i d within = flat_map_more f [] (take i items) (get_or items i d) ∙ ap (flat_map f) (sym (take_more items i d within))

-- the texts of the items before i, of that at i, and of those after it are the texts of them all
pub texts_around : {X : Type 0} (f : X → List ℕ) (items : List X) (i : ℕ) (d : X) → i < length items
    → flat_map f (take i items) ++ (f (get_or items i d) ++ flat_map f (drop (i + 1) items)) ≡ flat_map f items
texts_around f items i d within =
    sym (flat_map-append f (take i items) (get_or items i d ∷ drop (i + 1) items))
    ∙ ap (flat_map f) (rw (add-one) (ap (λ (rest : List _). take i items ++ rest) (sym (drop-cons items i d within))) ∙ take-append-drop i items)

module _ {S : Type 0} {faults : S → ℕ} {written : S → Option (List ℕ)} where
  -- in a loop that writes the text of each item: the next item was written too
  pub Wrote-next : {T U V X : Type 0} {old mid new : S} {x : T} {y : U} (f : X → List ℕ) (items : List X) (i : ℕ) (d : X) (z : V) → i < length items
      → Wrote faults written old mid (flat_map f (take i items)) (Ok x) → Wrote faults written mid new (f (get_or items i d)) (Ok y)
      → Wrote faults written old new (flat_map f (take (i + 1) items)) (Ok z)
  Wrote-next {y = y} f items i d z within before item = Wrote-is (texts_to f items i d within) (Wrote-then before (Wrote-ok y z item))

  -- in such a loop: a fault came in the next item
  pub Wrote-next_stops : {T U V X : Type 0} {old mid new : S} {x : T} {fault : PutFault} {q : Result U PutFault} (f : X → List ℕ) (items : List X) (i : ℕ) (d : X) → i < length items
      → Wrote faults written old mid (flat_map f (take i items)) (Ok x) → Wrote {T = V} faults written mid new (f (get_or items i d)) (Err fault)
      → IsErr q → Wrote faults written old new (flat_map f items) q
  Wrote-next_stops f items i d within before item fails = Wrote-is (texts_around f items i d within) (Wrote-then before (Wrote-stops _ item fails))
