-- What makes tokens out of what is due, with the name behind the last `unsigned` before and after, in the brackets that leave
-- so much room.
use Rattle.std.proofs.Common.{◌≡◌, ℕ, suc, ◌+◌, ◌-◌, ◌≤◌, Bool, true, false, List, [], ◌∷◌, ◌++◌, map, Some, slice_get, refl, sym, ap, ◌∙◌, subst, arith}
use Rattle.std.specs.Prelude.{All, if◌then◌else◌}
use Rattle.std.proofs.lemmas.List.Elements.{All-cons}
use Rattle.ll_reader.specs.Depth.{items_at, depths}
use Rattle.ll_reader.specs.Derivation.{Derives, items}
use Rattle.ll_reader.specs.Derivation as derivation
use Rattle.ll_reader.specs.declared.grammar.Item.{Item}
use Rattle.ll_reader.specs.declared.grammar.Item.TheVariants as due
use Rattle.ll_reader.specs.declared.grammar.Production.{Production}
use Rattle.ll_reader.specs.declared.grammar.Step.{Step}
use Rattle.ll_reader.specs.declared.grammar.Step.TheVariants.{Take, Choose}
use Rattle.tor_edge.specs.declared.place.Place.{Place}
use Rattle.c_grammar.specs.Classes.{class_of_keyword, class_of_sign, is_unsigned_word, classes_from}
use Rattle.c_grammar.specs.declared.table.TheConstants.{PRODUCTIONS}
use Rattle.c_tokens.specs.declared.token.Keyword.{Keyword}
use Rattle.c_tokens.specs.declared.token.Sign.{Sign}
use Rattle.c_tokens.specs.declared.token.Token.{Token}
use Rattle.c_subset.specs.Terminals.{sign, keyword}

-- items that stand in so many brackets, and items without them
abbrev pub deep : ℕ → List Item → List (Item × ℕ)
deep δ xs = map (λ item. (item, δ)) xs

abbrev pub bare : List (Item × ℕ) → List Item
bare = map (λ (i : Item × ℕ). i.0)

pub bare_items : (δ : ℕ) (xs : List Item) (more : List (Item × ℕ)) → bare (deep δ xs ++ more) ≡ xs ++ bare more
bare_items δ [] more = refl
bare_items δ (x ∷ xs) more = ap (λ l. x ∷ l) (bare_items δ xs more)

-- at most 128 brackets are open at each token
abbrev pub Within : ℕ → Type 0
Within depth = depth ≤ 128

abbrev pub AllWithin : List (Item × ℕ) → List Step → Type 0
AllWithin more steps = All Within (depths PRODUCTIONS more steps)

-- one token more, with so much room
pub taken : (room : ℕ) (others : List ℕ) → All Within others → All Within ((128 - room) ∷ others)
taken room others all = All-cons Within (128 - room) others (omega arith) all

-- What makes the tokens `after` out of what is due goes on with more steps to make the tokens `before` out of the items, which
-- leave so much room, and what is due.
pub record Runs (room : ℕ) (is : List Item) (counter : List ℕ) (before : List Token) (later : List ℕ) (after : List Token)
    : Type 0 where
  pub run : (rest : List (Item × ℕ)) (steps : List Step) (end : List ℕ)
      → Derives PRODUCTIONS (bare rest) (classes_from false later after ++ end) steps → AllWithin rest steps
      → (more : List Step) × Derives PRODUCTIONS (is ++ bare rest) (classes_from false counter before ++ end) more
      × AllWithin (deep (128 - room) is ++ rest) more

-- no items are made of no tokens
pub run_nil : {room : ℕ} {c : List ℕ} {a : List Token} → Runs room [] c a c a
run_nil = record { run = λ rest steps end d all. (steps, d, all) }

-- a sign before what the other items are made of
pub run_sign : {room : ℕ} {is : List Item} {c d : List ℕ} {a b : List Token} (s : Sign) (at : Place) → Runs room is c a d b
    → Runs room (due.Token (class_of_sign s) ∷ is) c (sign s at ∷ a) d b
run_sign {room = room} s at r = record {
  run = λ rest steps end e all.
      let (more, x, within) = r.run rest steps end e all in (Take ∷ more, derivation.token x, taken room _ within);
}

-- a reserved word other than `unsigned`
pub run_word : {room : ℕ} {is : List Item} {c d : List ℕ} {a b : List Token} (k : Keyword) (at : Place)
    → is_unsigned_word k ≡ false → Runs room is c a d b
    → Runs room (due.Token (class_of_keyword k) ∷ is) c (keyword k at ∷ a) d b
run_word {room = room} {is = is} {c = c} {a = a} k at other r = record {
  run = λ rest steps end e all.
      let (more, x, within) = r.run rest steps end e all in (
        Take ∷ more,
        subst (λ (u : Bool). Derives PRODUCTIONS (due.Token (class_of_keyword k) ∷ is ++ bare rest)
            (class_of_keyword k ∷ classes_from u c a ++ end) (Take ∷ more)) (sym other) (derivation.token x),
        taken room _ within,
      );
}

-- a text of a rule before what the other items are made of
pub run_rule : {room r : ℕ} {is : List Item} {c d e : List ℕ} {x y z : List Token}
    → Runs room (due.Rule r ∷ []) c x d y → Runs room is d y e z → Runs room (due.Rule r ∷ is) c x e z
run_rule {room = room} {r = r} {is = is} {c = c} {d = d} {x = x} {y = y} f g = record {
  run = λ rest steps end h all.
      let (more, k, within) = g.run rest steps end h all in
      let same = bare_items (128 - room) is rest in
      let below : Derives PRODUCTIONS (bare (deep (128 - room) is ++ rest)) (classes_from false d y ++ end) more =
      subst (λ (l : List Item). Derives PRODUCTIONS l (classes_from false d y ++ end) more) (sym same) k in
      let (most, m, shallow) = f.run (deep (128 - room) is ++ rest) more end below within in
      (most, subst (λ (l : List Item). Derives PRODUCTIONS (due.Rule r ∷ l) (classes_from false c x ++ end) most) same m, shallow);
}

-- a row by its number in the table
pub run_by : {room : ℕ} {c d : List ℕ} {a b : List Token} (k : ℕ) (p : Production) → slice_get PRODUCTIONS k ≡ Some p
    → p.deep ≡ false → Runs room (items p) c a d b → Runs room (due.Rule p.rule ∷ []) c a d b
run_by {room = room} k p at flat r = record {
  run = λ rest steps end e all.
      let (more, x, within) = r.run rest steps end e all in
      let opened : items_at (128 - room) (slice_get PRODUCTIONS k) ≡ deep (128 - room) (items p) =
      ap (items_at (128 - room)) at
      ∙ ap (λ (b : Bool). map (λ item. (item, if b then 128 - room + 1 else 128 - room)) (items p)) flat in
      (Choose k ∷ more, derivation.rule at refl x, subst (λ (l : List (Item × ℕ)). AllWithin (l ++ rest) more) (sym opened) within);
}

-- a row that takes a bracket of the room
pub run_deep : {room : ℕ} {c d : List ℕ} {a b : List Token} (k : ℕ) (p : Production) → slice_get PRODUCTIONS k ≡ Some p
    → p.deep ≡ true → suc room ≤ 128 → Runs room (items p) c a d b → Runs (suc room) (due.Rule p.rule ∷ []) c a d b
run_deep {room = room} k p at is_deep few r = record {
  run = λ rest steps end e all.
      let (more, x, within) = r.run rest steps end e all in
      let one : 128 - suc room + 1 ≡ 128 - room = omega (arith, few) in
      let opened : items_at (128 - suc room) (slice_get PRODUCTIONS k) ≡ deep (128 - room) (items p) =
      ap (items_at (128 - suc room)) at
      ∙ ap (λ (b : Bool). map (λ item. (item, if b then 128 - suc room + 1 else 128 - suc room)) (items p)) is_deep
      ∙ ap (λ (n : ℕ). deep n (items p)) one in
      (Choose k ∷ more, derivation.rule at refl x, subst (λ (l : List (Item × ℕ)). AllWithin (l ++ rest) more) (sym opened) within);
}
