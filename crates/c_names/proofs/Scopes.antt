-- The names in scope as they are found.
use Rattle.std.proofs.Common.{◌≡◌, ℕ, suc, ◌+◌, ◌<◌, Bool, true, false, List, [], ◌∷◌, ◌++◌, length, Option, Some, None, refl, sym, ap, ◌∙◌, arith}
use Rattle.std.specs.Prelude.{if◌then◌else◌, bytes_eq, nat_eq, is_some}
use Rattle.std.specs.Option.{option_or, option_map}
use Rattle.std.proofs.lemmas.Option.{none-some, same_Some}
use Rattle.std.proofs.lemmas.Slice.Eq.{bytes_eq-Decides}
use Rattle.c_names.specs.Scope.{InScope, role_of}
use Rattle.c_names.specs.State.Scopes.{found_from, stands_at}
use Rattle.c_names.specs.declared.scope.First.{First}

-- a name, if it has this spelling, behind so many others
abbrev pub first_at : InScope → ℕ → List ℕ → Option First
first_at known place name = if bytes_eq known.name name then Some (record { place = place; role = known.role }) else None

or-none : {A : Type 0} (a : Option A) → option_or a None ≡ a
or-none None = refl
or-none (Some x) = refl

-- a further name is found where no earlier one is
found-append : (place : ℕ) (scope : List InScope) (next : InScope) (name : List ℕ)
    → found_from place (scope ++ next ∷ []) name ≡ option_or (found_from place scope name) (first_at next (place + length scope) name)
found-append place [] next name = ap (λ (n : ℕ). first_at next n name) (omega arith)
found-append place (known ∷ scope) next name =
    by (bytes_eq known.name name) (found-append (suc place) scope next name)
  where
    by : (b : Bool) → found_from (suc place) (scope ++ next ∷ []) name ≡ option_or (found_from (suc place) scope name) (first_at next (suc place + length scope) name)
        → (if b then Some (record { place = place; role = known.role }) else found_from (suc place) (scope ++ next ∷ []) name)
        ≡ option_or (if b then Some (record { place = place; role = known.role }) else found_from (suc place) scope name) (first_at next (place + suc (length scope)) name)
    by true others = refl
    by false others = others ∙ ap (λ (n : ℕ). option_or (found_from (suc place) scope name) (first_at next n name)) (omega arith)

-- what a name is, is that of the first of its spelling
pub role-found : (place : ℕ) (scope : List InScope) (name : List ℕ) → role_of scope name ≡ option_map (λ found. found.role) (found_from place scope name)
role-found place [] name = refl
role-found place (known ∷ scope) name = by (bytes_eq known.name name) (role-found (suc place) scope name)
  where
    by : (b : Bool) → role_of scope name ≡ option_map (λ found. found.role) (found_from (suc place) scope name)
        → (if b then Some known.role else role_of scope name)
        ≡ option_map (λ found. found.role) (if b then Some (record { place = place; role = known.role }) else found_from (suc place) scope name)
    by true others = refl
    by false others = others

-- what is found stands among the names
found-within : (place : ℕ) (scope : List InScope) (name : List ℕ) (found : First) → found_from place scope name ≡ Some found → found.place < place + length scope
found-within place [] name found is = absurd (none-some found is)
found-within place (known ∷ scope) name found is = by (bytes_eq known.name name) (found-within (suc place) scope name found) is
  where
    by : (b : Bool) → (found_from (suc place) scope name ≡ Some found → found.place < suc place + length scope)
        → (if b then Some (record { place = place; role = known.role }) else found_from (suc place) scope name) ≡ Some found → found.place < place + suc (length scope)
    by true others at = let here = ap (λ (f : First). f.place) (same_Some (record { place = place; role = known.role }) found at) in omega (arith, here)
    by false others at = let rest = others at in omega (arith, rest)

not-some : {A : Type 0} (o : Option A) → is_some o ≡ false → o ≡ None
not-some None e = refl
not-some (Some x) e = absurd (cc e)

eq_self : (n : ℕ) → nat_eq n n ≡ true
eq_self n = grind arith

not_below : (n m : ℕ) → n < m → nat_eq n m ≡ true → ⊥
not_below n m h e = grind (arith, h, e)

-- what is found once a name is added to these names or taken away
module _ (scope : List InScope) (next : InScope) (before after : List ℕ → Option First) where
  abbrev Holds : (List ℕ → Option First) → List InScope → Type 0
  Holds found names = (name : List ℕ) → found name ≡ found_from 0 names name

  append-first : (name : List ℕ) → found_from 0 (scope ++ next ∷ []) name ≡ option_or (found_from 0 scope name) (first_at next (length scope) name)
  append-first name = found-append 0 scope next name ∙ ap (λ (n : ℕ). option_or (found_from 0 scope name) (first_at next n name)) (omega arith)

  -- names of another spelling are found as before
  others-found : (name : List ℕ) → bytes_eq next.name name ≡ false → found_from 0 (scope ++ next ∷ []) name ≡ found_from 0 scope name
  others-found name is =
      append-first name
      ∙ ap (λ (b : Bool). option_or (found_from 0 scope name) (if b then Some (record { place = length scope; role = next.role }) else None)) is
      ∙ or-none (found_from 0 scope name)

  same-name : (name : List ℕ) → bytes_eq next.name name ≡ true → next.name ≡ name
  same-name name is = (bytes_eq-Decides next.name name).0 is

  own-found : (found : Option First) → found_from 0 scope next.name ≡ found
      → found_from 0 (scope ++ next ∷ []) next.name ≡ option_or found (first_at next (length scope) next.name)
  own-found found is = append-first next.name ∙ ap (λ o. option_or o (first_at next (length scope) next.name)) is

  own-first : first_at next (length scope) next.name ≡ Some (record { place = length scope; role = next.role })
  own-first = ap (λ (b : Bool). if b then Some (record { place = length scope; role = next.role }) else None) ((bytes_eq-Decides next.name next.name).1 refl)

  -- a name of a new spelling is added
  pub found-added : Holds before scope → is_some (before next.name) ≡ false
      → ((name : List ℕ) → after name ≡ (if bytes_eq next.name name then Some (record { place = length scope; role = next.role }) else before name))
      → Holds after (scope ++ next ∷ [])
  found-added held new updated name = updated name ∙ by (bytes_eq next.name name) refl
    where
      by : (b : Bool) → bytes_eq next.name name ≡ b
          → (if b then Some (record { place = length scope; role = next.role }) else before name) ≡ found_from 0 (scope ++ next ∷ []) name
      by true is =
          sym own-first
          ∙ sym (own-found None (sym (held next.name) ∙ not-some (before next.name) new))
          ∙ ap (found_from 0 (scope ++ next ∷ [])) (same-name name is)
      by false is = held name ∙ sym (others-found name is)

  -- a name of a known spelling is added
  pub found-known : Holds before scope → is_some (before next.name) ≡ true → Holds before (scope ++ next ∷ [])
  found-known held known name = by (bytes_eq next.name name) refl
    where
      same : (found : Option First) → before next.name ≡ found → is_some found ≡ true
          → found_from 0 (scope ++ next ∷ []) next.name ≡ before next.name
      same None is some = absurd (cc some)
      same (Some first) is some = own-found (Some first) (sym (held next.name) ∙ is) ∙ sym is

      by : (b : Bool) → bytes_eq next.name name ≡ b → before name ≡ found_from 0 (scope ++ next ∷ []) name
      by true is =
          sym (same (before next.name) refl known ∙ ap before (same-name name is))
          ∙ ap (found_from 0 (scope ++ next ∷ [])) (same-name name is)
      by false is = held name ∙ sym (others-found name is)

  -- the first name of its spelling is taken away
  pub found-forgotten : Holds before (scope ++ next ∷ []) → stands_at (length scope) (before next.name) ≡ true
      → ((name : List ℕ) → after name ≡ (if bytes_eq next.name name then None else before name)) → Holds after scope
  found-forgotten held first updated name = updated name ∙ by (bytes_eq next.name name) refl
    where
      none : (found : Option First) → found_from 0 scope next.name ≡ found → found ≡ None
      none None is = refl
      none (Some found) is =
          let at : before next.name ≡ Some found = held next.name ∙ own-found (Some found) is in
          let within = found-within 0 scope next.name found is in
          absurd (not_below found.place (length scope) (omega (arith, within))
          (ap (stands_at (length scope)) (sym at) ∙ first))

      by : (b : Bool) → bytes_eq next.name name ≡ b → (if b then None else before name) ≡ found_from 0 scope name
      by true is = sym (none (found_from 0 scope next.name) refl) ∙ ap (found_from 0 scope) (same-name name is)
      by false is = held name ∙ others-found name is

  -- a name whose spelling an earlier one has is taken away
  pub found-kept : Holds before (scope ++ next ∷ []) → stands_at (length scope) (before next.name) ≡ false → Holds before scope
  found-kept held later name = by (bytes_eq next.name name) refl
    where
      some : (found : Option First) → found_from 0 scope next.name ≡ found → before next.name ≡ found
      some None is =
          let at : before next.name ≡ Some (record { place = length scope; role = next.role }) = held next.name ∙ own-found None is ∙ own-first in
          let wrong : true ≡ false = sym (eq_self (length scope)) ∙ ap (stands_at (length scope)) (sym at) ∙ later in
          cc
      some (Some found) is = held next.name ∙ own-found (Some found) is

      by : (b : Bool) → bytes_eq next.name name ≡ b → before name ≡ found_from 0 scope name
      by true is =
          ap before (sym (same-name name is)) ∙ some (found_from 0 scope next.name) refl ∙ ap (found_from 0 scope) (same-name name is)
      by false is = held name ∙ others-found name is
