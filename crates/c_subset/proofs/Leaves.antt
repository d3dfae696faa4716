-- Names and numbers are derived by their rules.
use Rattle.std.proofs.Common.{◌≡◌, ℕ, ◌-◌, ◌≤◌, Bool, true, false, List, [], ◌∷◌, refl, arith, eqb}
use Rattle.std.specs.Prelude.{nat_le, if◌then◌else◌}
use Rattle.std.specs.Str.{bytes_eq}
use Rattle.std.proofs.lemmas.Bool.Decides.{nat_tests}
use Rattle.ll_reader.specs.Derivation.{Derives}
use Rattle.ll_reader.specs.Derivation as derivation
use Rattle.ll_reader.specs.declared.grammar.Item.{Item}
use Rattle.ll_reader.specs.declared.grammar.Item.TheVariants as due
use Rattle.ll_reader.specs.declared.grammar.Step.{Step}
use Rattle.ll_reader.specs.declared.grammar.Step.TheVariants.{Take, Choose}
use Rattle.tor_edge.specs.declared.place.Place.{Place}
use Rattle.c_grammar.specs.declared.class.TheConstants as class
use Rattle.c_grammar.specs.declared.rule.TheConstants as rules
use Rattle.c_grammar.specs.declared.table.TheConstants.{PRODUCTIONS}
use Rattle.c_tokens.specs.declared.token.Token.{Token}
use Rattle.c_subset.specs.Terminals.{name, number}
use Rattle.c_subset.proofs.Runs.{bare, AllWithin, taken, Runs}

-- more steps make a token of this class by the rule, and then what the steps make
abbrev pub ByRule : ℕ → ℕ → List (Item × ℕ) → ℕ → List ℕ → Type 0
ByRule room r rest found classes =
    (more : List Step) × Derives PRODUCTIONS (due.Rule r ∷ bare rest) (found ∷ classes) more
    × AllWithin ((due.Rule r, 128 - room) ∷ rest) more

pub named : (room : ℕ) (rest : List (Item × ℕ)) (steps : List Step) (classes : List ℕ) (b : Bool) → Derives PRODUCTIONS (bare rest) classes steps → AllWithin rest steps
    → ByRule room rules.NAME rest (if b then class.COUNTER else class.NAME) classes
named room rest steps classes true d all = (Choose 57 ∷ Take ∷ steps, derivation.rule refl refl (derivation.token d), taken room _ all)
named room rest steps classes false d all = (Choose 56 ∷ Take ∷ steps, derivation.rule refl refl (derivation.token d), taken room _ all)

-- a name, whichever it is
pub run_name : {room : ℕ} {c : List ℕ} {a : List Token} (text : List ℕ) (at : Place) → Runs room (due.Rule rules.NAME ∷ []) c (name text at ∷ a) c a
run_name {room = room} {c = c} text at = record { run = λ rest steps end d all. named room rest steps _ (bytes_eq c text) d all }

-- the class of a number by its tests
abbrev class_by : Bool → Bool → Bool → Bool → ℕ
class_by zero one few many =
    if zero then class.ZERO
    else (if one then class.ONE
    else (if few then class.FEW_ROWS
    else (if many then class.MANY_ROWS
    else class.PAST_ROWS)))

numbered : (room : ℕ) (rest : List (Item × ℕ)) (steps : List Step) (classes : List ℕ) (zero one few many : Bool)
    → Derives PRODUCTIONS (bare rest) classes steps → AllWithin rest steps
    → ByRule room rules.NUMBER rest (class_by zero one few many) classes
numbered room rest steps classes true one few many d all = (Choose 58 ∷ Take ∷ steps, derivation.rule refl refl (derivation.token d), taken room _ all)
numbered room rest steps classes false true few many d all = (Choose 59 ∷ Take ∷ steps, derivation.rule refl refl (derivation.token d), taken room _ all)
numbered room rest steps classes false false true many d all = (Choose 60 ∷ Take ∷ steps, derivation.rule refl refl (derivation.token d), taken room _ all)
numbered room rest steps classes false false false true d all = (Choose 61 ∷ Take ∷ steps, derivation.rule refl refl (derivation.token d), taken room _ all)
numbered room rest steps classes false false false false d all = (Choose 62 ∷ Take ∷ steps, derivation.rule refl refl (derivation.token d), taken room _ all)

-- a number, whichever it is
pub run_number : {room : ℕ} {c : List ℕ} {a : List Token} (n : ℕ) (at : Place) → Runs room (due.Rule rules.NUMBER ∷ []) c (number n at ∷ a) c a
run_number {room = room} n at = record {
  run = λ rest steps end d all. numbered room rest steps _ (eqb n 0) (eqb n 1) (nat_le n 32768) (nat_le n 131072) d all;
}

few_rows : (room : ℕ) (rest : List (Item × ℕ)) (steps : List Step) (classes : List ℕ) (zero one few many : Bool) → zero ≡ false → few ≡ true
    → Derives PRODUCTIONS (bare rest) classes steps → AllWithin rest steps
    → ByRule room rules.FEW_ROWS rest (class_by zero one few many) classes
few_rows room rest steps classes true one few many some most d all = absurd (cc)
few_rows room rest steps classes false true few many some most d all = (Choose 63 ∷ Take ∷ steps, derivation.rule refl refl (derivation.token d), taken room _ all)
few_rows room rest steps classes false false true many some most d all = (Choose 64 ∷ Take ∷ steps, derivation.rule refl refl (derivation.token d), taken room _ all)
few_rows room rest steps classes false false false many some most d all = absurd (cc)

many_rows : (room : ℕ) (rest : List (Item × ℕ)) (steps : List Step) (classes : List ℕ) (zero one few many : Bool) → zero ≡ false → many ≡ true
    → Derives PRODUCTIONS (bare rest) classes steps → AllWithin rest steps
    → ByRule room rules.MANY_ROWS rest (class_by zero one few many) classes
many_rows room rest steps classes true one few more some most d all = absurd (cc)
many_rows room rest steps classes false true few more some most d all = (Choose 65 ∷ Take ∷ steps, derivation.rule refl refl (derivation.token d), taken room _ all)
many_rows room rest steps classes false false true more some most d all = (Choose 66 ∷ Take ∷ steps, derivation.rule refl refl (derivation.token d), taken room _ all)
many_rows room rest steps classes false false false true some most d all = (Choose 67 ∷ Take ∷ steps, derivation.rule refl refl (derivation.token d), taken room _ all)
many_rows room rest steps classes false false false false some most d all = absurd (cc)

not_zero : (n : ℕ) → 1 ≤ n → eqb n 0 ≡ false
not_zero n some = grind (arith, nat_tests)

at_most : (n most : ℕ) → n ≤ most → nat_le n most ≡ true
at_most n most within = grind (arith, nat_tests)

-- a number of rows of `out` or `in`
pub run_few : {room : ℕ} {c : List ℕ} {a : List Token} (n : ℕ) (at : Place) → 1 ≤ n → n ≤ 32768
    → Runs room (due.Rule rules.FEW_ROWS ∷ []) c (number n at ∷ a) c a
run_few {room = room} n at some most = record {
  run = λ rest steps end d all.
      few_rows room rest steps _ (eqb n 0) (eqb n 1) (nat_le n 32768) (nat_le n 131072) (not_zero n some) (at_most n 32768 most) d all;
}

-- a number of rows of `v`
pub run_many : {room : ℕ} {c : List ℕ} {a : List Token} (n : ℕ) (at : Place) → 1 ≤ n → n ≤ 131072
    → Runs room (due.Rule rules.MANY_ROWS ∷ []) c (number n at ∷ a) c a
run_many {room = room} n at some most = record {
  run = λ rest steps end d all.
      many_rows room rest steps _ (eqb n 0) (eqb n 1) (nat_le n 32768) (nat_le n 131072) (not_zero n some) (at_most n 131072 most) d all;
}
