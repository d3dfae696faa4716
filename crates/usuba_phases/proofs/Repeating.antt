-- Declared names, noted one after another.
use Rattle.std.proofs.Common.{◌≡◌, ℕ, ◌+◌, ◌<◌, ◌≤◌, Bool, true, false, ◌||◌, List, [], ◌∷◌, ◌++◌, length, drop, get_or}
use Rattle.std.proofs.Common.{Option, None, refl, sym, ap, ◌∙◌}
use Rattle.std.specs.Prelude.{bytes_eq}
use Rattle.std.specs.Option.{option_or}
use Rattle.std.proofs.lemmas.List.{map-append, drop_all}
use Rattle.usuba_trees.specs.declared.Decl.{Decl}
use Rattle.usuba_model.specs.declared.fault.Fault.{Fault}
use Rattle.usuba_model.specs.declared.fault.FaultKind.TheVariants.{DuplicateName}
use Rattle.usuba_model.specs.Faults.{first_of}
use Rattle.usuba_model.specs.Names.{is_name_among, names_of, repeated, repeated_declarations}
use Rattle.usuba_phases.specs.State.Names.{AreSame}
use Rattle.usuba_phases.proofs.FirstSome.{or-assoc, or-none, drop-next}
use Rattle.usuba_phases.proofs.Firsts.{first_of-cons}
use Rattle.usuba_phases.proofs.SameNames.{is_name_among-append, repeated_declarations-same}

-- the first fault of declared names after these
abbrev pub declared_fault : List (List ℕ) → List Decl → Option Fault
declared_fault taken declared = first_of DuplicateName (repeated_declarations taken declared)

or-swap : (a b c : Bool) → (a || (b || c)) ≡ (b || (a || c))
or-swap true true c = refl
or-swap true false c = refl
or-swap false true c = refl
or-swap false false c = refl

or-assoc-bool : (a b c : Bool) → (a || (b || c)) ≡ ((a || b) || c)
or-assoc-bool true b c = refl
or-assoc-bool false b c = refl

-- a name in front of others, or between them
pub same-swap : (name : List ℕ) (a b : List (List ℕ)) → AreSame (a ++ name ∷ b) (name ∷ a ++ b)
same-swap name a b = λ other.
    is_name_among-append a (name ∷ b) other
    ∙ or-swap (is_name_among a other) (bytes_eq other name) (is_name_among b other)
    ∙ ap (λ among. bytes_eq other name || among) (sym (is_name_among-append a b other))

same-prepend : (more a b : List (List ℕ)) → AreSame a b → AreSame (more ++ a) (more ++ b)
same-prepend more a b same = λ name.
    is_name_among-append more a name ∙ ap (λ among. is_name_among more name || among) (same name)
    ∙ sym (is_name_among-append more b name)

-- names are noted one by one: what was found so far or is found in the rest, and the names that will be noted
pub record Noting (start now : List (List ℕ)) (declared rest : List Decl) (fault : Option Fault) : Type 0 where
  pub found : option_or fault (declared_fault now rest) ≡ declared_fault start declared
  pub noted : AreSame (names_of rest ++ now) (names_of declared ++ start)

-- nothing was noted yet
pub noting-starts : (start : List (List ℕ)) (declared : List Decl) (fault : Option Fault) → fault ≡ None
    → Noting start start declared declared fault
noting-starts start declared fault none =
    record { found = ap (λ o. option_or o (declared_fault start declared)) none; noted = λ name. refl }

-- one more name is noted
pub noting-goes_on : (start before after : List (List ℕ)) (declared items : List Decl) (i : ℕ) (d : Decl)
    (fault found now : Option Fault)
    → i < length items → d ≡ get_or items i d → found ≡ first_of DuplicateName (repeated before d.name ∷ [])
    → now ≡ option_or fault found
    → AreSame after (d.name.text ∷ before)
    → Noting start before declared (drop i items) fault → Noting start after declared (drop (i + 1) items) now
noting-goes_on start before after declared items i d fault found now within is gives joins added noting =
    let rest : List Decl = drop (i + 1) items in
    let opened : drop i items ≡ d ∷ rest = drop-next items i d within is in
    record {
      found =
          ap (λ o. option_or o (declared_fault after rest)) joins ∙ or-assoc fault found (declared_fault after rest)
          ∙ ap (option_or fault)
          (ap (λ o. option_or o (declared_fault after rest)) gives
          ∙ ap (λ findings. option_or (first_of DuplicateName (repeated before d.name ∷ []))
          (first_of DuplicateName findings))
          (repeated_declarations-same after (d.name.text ∷ before) rest added)
          ∙ sym (first_of-cons DuplicateName (repeated before d.name)
          (repeated_declarations (d.name.text ∷ before) rest))
          ∙ ap (declared_fault before) (sym opened))
          ∙ noting.found;
      noted = λ name.
          same-prepend (names_of rest) after (d.name.text ∷ before) added name
          ∙ same-swap d.name.text (names_of rest) before name
          ∙ ap (λ ds. is_name_among (names_of ds ++ before) name) (sym opened)
          ∙ noting.noted name;
    }

-- all names are noted
pub noting-ends : (start now : List (List ℕ)) (declared items : List Decl) (i : ℕ) (fault : Option Fault)
    → length items ≤ i
    → Noting start now declared (drop i items) fault
    → (fault ≡ declared_fault start declared) × AreSame now (names_of declared ++ start)
noting-ends start now declared items i fault past noting =
    let all : drop i items ≡ [] = drop_all i items past in (
      sym (or-none fault) ∙ ap (λ ds. option_or fault (declared_fault now ds)) (sym all) ∙ noting.found,
      λ name. ap (λ ds. is_name_among (names_of ds ++ now) name) (sym all) ∙ noting.noted name,
    )

-- declared names one list after another
pub declared_fault-append : (taken : List (List ℕ)) (a b : List Decl)
    → declared_fault taken (a ++ b) ≡ option_or (declared_fault taken a) (declared_fault (names_of a ++ taken) b)
declared_fault-append taken [] b = refl
declared_fault-append taken (d ∷ a) b =
    first_of-cons DuplicateName (repeated taken d.name) (repeated_declarations (d.name.text ∷ taken) (a ++ b))
    ∙ ap (option_or (first_of DuplicateName (repeated taken d.name ∷ [])))
    (declared_fault-append (d.name.text ∷ taken) a b
    ∙ ap (λ findings. option_or (declared_fault (d.name.text ∷ taken) a) (first_of DuplicateName findings))
    (repeated_declarations-same (names_of a ++ d.name.text ∷ taken) (d.name.text ∷ names_of a ++ taken) b
    (same-swap d.name.text (names_of a) taken)))
    ∙ sym (or-assoc (first_of DuplicateName (repeated taken d.name ∷ [])) (declared_fault (d.name.text ∷ taken) a)
    (declared_fault (names_of (d ∷ a) ++ taken) b))
    ∙ ap (λ o. option_or o (declared_fault (names_of (d ∷ a) ++ taken) b))
    (sym (first_of-cons DuplicateName (repeated taken d.name) (repeated_declarations (d.name.text ∷ taken) a)))

-- three lists of declared names, noted one after another
pub of-three : (taken first second third : List (List ℕ)) (whole a b c : List Decl) (x y z : Option Fault)
    → whole ≡ a ++ b ++ c
    → x ≡ declared_fault taken a → AreSame first (names_of a ++ taken)
    → y ≡ declared_fault first b → AreSame second (names_of b ++ first)
    → z ≡ declared_fault second c → AreSame third (names_of c ++ second)
    → (option_or (option_or x y) z ≡ declared_fault taken whole) × AreSame third (names_of whole ++ taken)
of-three taken first second third whole a b c x y z is fx first_is fy second_is fz third_is =
    let two : AreSame second (names_of (a ++ b) ++ taken) = joined taken first second a b first_is second_is in
    let three : AreSame third (names_of (a ++ b ++ c) ++ taken) = joined taken second third (a ++ b) c two third_is in
    let y_is : y ≡ declared_fault (names_of a ++ taken) b =
    fy ∙ ap (first_of DuplicateName) (repeated_declarations-same first (names_of a ++ taken) b first_is) in
    let z_is : z ≡ declared_fault (names_of (a ++ b) ++ taken) c =
    fz ∙ ap (first_of DuplicateName) (repeated_declarations-same second (names_of (a ++ b) ++ taken) c two) in (
      ap (λ o. option_or (option_or o y) z) fx ∙ ap (λ o. option_or (option_or (declared_fault taken a) o) z) y_is
          ∙ ap (λ o. option_or o z) (sym (declared_fault-append taken a b))
          ∙ ap (option_or (declared_fault taken (a ++ b))) z_is
          ∙ sym (declared_fault-append taken (a ++ b) c) ∙ ap (declared_fault taken) (sym is),
      λ name. three name ∙ ap (λ ds. is_name_among (names_of ds ++ taken) name) (sym is),
    )
  where
    joined : (taken first second : List (List ℕ)) (a b : List Decl) → AreSame first (names_of a ++ taken)
        → AreSame second (names_of b ++ first)
        → AreSame second (names_of (a ++ b) ++ taken)
    joined taken first second a b first_is second_is = λ name.
        second_is name ∙ is_name_among-append (names_of b) first name
        ∙ ap (λ among. is_name_among (names_of b) name || among)
        (first_is name ∙ is_name_among-append (names_of a) taken name)
        ∙ or-swap (is_name_among (names_of b) name) (is_name_among (names_of a) name) (is_name_among taken name)
        ∙ or-assoc-bool (is_name_among (names_of a) name) (is_name_among (names_of b) name) (is_name_among taken name)
        ∙ ap (λ among. among || is_name_among taken name) (sym (is_name_among-append (names_of a) (names_of b) name))
        ∙ ap (λ names. is_name_among names name || is_name_among taken name)
        (sym (map-append (λ (d : Decl). d.name.text) a b))
        ∙ sym (is_name_among-append (names_of (a ++ b)) taken name)
