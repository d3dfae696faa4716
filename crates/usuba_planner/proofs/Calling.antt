-- What the code of a node calls: only earlier definitions, where each name is known.
use Rattle.std.proofs.Common.{◌≡◌, inl, inr, ℕ, suc, ◌+◌, ◌<◌, Bool, true, false, ◌||◌, ◌==◌, List, [], ◌∷◌, ◌++◌, length, map, drop, get_or, Option, Some, None, option_to_list, refl, sym, ap, ◌∙◌, subst, arith, append_assoc}
use Rattle.std.specs.Prelude.{bytes_eq, if◌then◌else◌}
use Rattle.std.proofs.lemmas.Bool.{eqb-true}
use Rattle.std.proofs.lemmas.List.{drop_more}
use Rattle.std.proofs.lemmas.Slice.Eq.{bytes_eq-Decides}
use Rattle.usuba_trees.specs.declared.Decl.{Decl}
use Rattle.usuba_trees.specs.declared.Def.{Def}
use Rattle.usuba_model.specs.Cells.{Cell}
use Rattle.usuba_model.specs.Names.{is_name_among, name_of}
use Rattle.usuba_model.specs.Numbers.{callee_number}
use Rattle.usuba_model.specs.Operations.{calls_of}
use Rattle.usuba_model.specs.Unrolled.{Expression, cells, number, nothing, joined, call, complement, operation, shift, refresh, Instance}
use Rattle.usuba_model.specs.Walk.{signature}
use Rattle.usuba_model.proofs.CellLemmas.{false_true}
use Rattle.usuba_model.proofs.FileOutcomes.{names, signature_name}
use Rattle.usuba_model.proofs.Knowing.{AllKnow}
use Rattle.usuba_model.proofs.Valuing.{AreKnown}
use Rattle.usuba_code.specs.Code.{Coded, coded, coded_at, code_of, read_cell}
use Rattle.usuba_code.specs.declared.operation.Operation.{Operation}
use Rattle.ready_order.specs.Numbered.{is_one_of}
use Rattle.ready_order.specs.State.Marks.{all_marked}
use Rattle.ready_order.proofs.Among.{AllBelow, one_of_cases}
use Rattle.ready_order.proofs.MarkLemmas.{all_marked-append}
use Rattle.usuba_walk.specs.Signatures.{place_of}
use Rattle.usuba_planner.specs.State.Calls.{called, called_in, all_called}

-- a name that is among those of a definition and earlier ones, and is not its own, is among the earlier ones
later_known : (earlier : List Def) (d : Def) (name : List ℕ) → bytes_eq (signature d).name name ≡ false
    → is_name_among (names (d ∷ earlier)) name ≡ true → is_name_among (names earlier) name ≡ true
later_known earlier d name out m = by (bytes_eq name (name_of d).text) refl m
  where
    by : (b : Bool) → bytes_eq name (name_of d).text ≡ b → (b || is_name_among (names earlier) name) ≡ true → is_name_among (names earlier) name ≡ true
    by false is m = m
    by true is m =
        let equal : name ≡ (name_of d).text = (bytes_eq-Decides name (name_of d).text).0 is in
        false_true (sym out ∙ (bytes_eq-Decides (signature d).name name).1 (signature_name d ∙ sym equal))

-- the number of a known definition is below their count
pub known_below : (earlier : List Def) (name : List ℕ) → is_name_among (names earlier) name ≡ true
    → callee_number (map signature earlier) name < length (map signature earlier)
known_below [] name m = false_true m
known_below (d ∷ earlier) name m = by (bytes_eq (signature d).name name) refl (known_below earlier name)
  where
    by : (b : Bool) → bytes_eq (signature d).name name ≡ b
        → (is_name_among (names earlier) name ≡ true → callee_number (map signature earlier) name < length (map signature earlier))
        → (if b then length (map signature earlier) else callee_number (map signature earlier) name) < suc (length (map signature earlier))
    by true is before = omega arith
    by false is before = let below = before (later_known earlier d name is m) in omega (arith, below)

-- a new name has no place
pub new_place : (earlier : List Def) (name : List ℕ) → is_name_among (names earlier) name ≡ false → place_of (map signature earlier) name ≡ None
new_place [] name new = refl
new_place (d ∷ earlier) name new = by (bytes_eq (signature d).name name) refl (new_place earlier name)
  where
    second : (a b : Bool) → (a || b) ≡ false → b ≡ false
    second true b e = false_true (sym e)
    second false b e = e

    first : (a b : Bool) → (a || b) ≡ false → a ≡ false
    first true b e = e
    first false b e = refl

    by : (b : Bool) → bytes_eq (signature d).name name ≡ b
        → (is_name_among (names earlier) name ≡ false → place_of (map signature earlier) name ≡ None)
        → (if b then Some (length (map signature earlier)) else place_of (map signature earlier) name) ≡ None
    by true is before =
        let equal : (signature d).name ≡ name = (bytes_eq-Decides (signature d).name name).0 is in
        let same : bytes_eq name (name_of d).text ≡ true = (bytes_eq-Decides name (name_of d).text).1 (sym equal ∙ signature_name d) in
        false_true (sym (first (bytes_eq name (name_of d).text) (is_name_among (names earlier) name) new) ∙ same)
    by false is before = before (second (bytes_eq name (name_of d).text) (is_name_among (names earlier) name) new)

pub called_in-append : (a b : List Operation) → called_in (a ++ b) ≡ called_in a ++ called_in b
called_in-append [] b = refl
called_in-append (o ∷ a) b = ap (λ ns. called o ++ ns) (called_in-append a b) ∙ sym (append_assoc (called o) (called_in a) (called_in b))

known_left : (known a b : List (List ℕ)) → AreKnown known (a ++ b) → AreKnown known a
known_left known [] b k = tt
known_left known (name ∷ a) b k = (k.0, known_left known a b k.1)

known_right : (known a b : List (List ℕ)) → AreKnown known (a ++ b) → AreKnown known b
known_right known [] b k = k
known_right known (name ∷ a) b k = known_right known a b k.1

one_below : (n k : ℕ) → k < n → AllBelow n (k ∷ [])
one_below n k less c m = by (c == k) refl m
  where
    by : (b : Bool) → (c == k) ≡ b → (b || false) ≡ true → c < n
    by true is m = let same = eqb-true c k is in omega (arith, less, same)
    by false is m = false_true m

joined_below : (n : ℕ) (a b : List Operation) → AllBelow n (called_in a) → AllBelow n (called_in b) → AllBelow n (called_in (a ++ b))
joined_below n a b first second c m =
    elim (one_of_cases (called_in a) (called_in b) c (subst (λ ns. is_one_of ns c ≡ true) (called_in-append a b) m)) [
      | inl l ↦ first c l
      | inr r ↦ second c r
    ]

module _ (earlier : List Def) (declared : List Decl) where
  abbrev count : ℕ
  count = length (map signature earlier)

  abbrev code : Expression → List Operation
  code e = code_of (map signature earlier) declared e

  reads_below : (read : List Cell) → AllBelow count (called_in (map (read_cell declared) read))
  reads_below [] c m = false_true m
  reads_below (cell ∷ read) c m = reads_below read c m

  -- the code of an expression calls only earlier definitions, where the names that it calls are known
  code_below : (e : Expression) → AreKnown (names earlier) (calls_of e) → AllBelow count (called_in (code e))
  code_below (number value) known = λ c m. false_true m
  code_below (cells read) known = reads_below read
  code_below nothing known = λ c m. false_true m
  code_below (joined a b) known =
      joined_below count (code a) (code b) (code_below a (known_left (names earlier) (calls_of a) (calls_of b) known))
      (code_below b (known_right (names earlier) (calls_of a) (calls_of b) known))
  code_below (call name args) known =
      joined_below count (code args) _ (code_below args known.1)
      (one_below count (callee_number (map signature earlier) name) (known_below earlier name known.0))
  code_below (complement a) known = joined_below count (code a) _ (code_below a known) (λ c m. false_true m)
  code_below (operation op a b) known =
      joined_below count (code a ++ code b) _
      (joined_below count (code a) (code b) (code_below a (known_left (names earlier) (calls_of a) (calls_of b) known))
      (code_below b (known_right (names earlier) (calls_of a) (calls_of b) known)))
      (λ c m. false_true m)
  code_below (shift kind k a) known = joined_below count (code a) _ (code_below a known) (λ c m. false_true m)
  code_below (refresh k a) known = joined_below count (code a) _ (code_below a known) (λ c m. false_true m)

  -- the same of instances
  pub instances_below : (around : List (List ℕ)) (instances : List Instance) → AllKnow (names earlier) around declared instances
      → AllBelow count (all_called (map (coded (map signature earlier) declared) instances))
  instances_below around [] knows c m = false_true m
  instances_below around (i ∷ instances) knows c m =
      elim (one_of_cases (called_in (code i.right)) (all_called (map (coded (map signature earlier) declared) instances)) c m) [
        | inl l ↦ code_below i.right knows.0 c l
        | inr r ↦ instances_below around instances knows.1 c r
      ]

-- MARKS

called_step : (code : List Operation) (i : ℕ) (o : Operation) → i < length code → o ≡ get_or code i o
    → called_in (drop i code) ≡ called o ++ called_in (drop (i + 1) code)
called_step code i o h e =
    ap called_in (drop_more code i o h) ∙ ap (λ (p : Operation). called p ++ called_in (drop (i + 1) code)) (sym e)

-- one more operation was looked at
pub code_marked : (marks : List Bool) (code : List Operation) (i : ℕ) (o : Operation) (found : Option ℕ) → i < length code → o ≡ get_or code i o
    → option_to_list found ≡ called o
    → all_marked (all_marked marks (option_to_list found)) (called_in (drop (i + 1) code)) ≡ all_marked marks (called_in (drop i code))
code_marked marks code i o found h e is =
    sym (all_marked-append (option_to_list found) (called_in (drop (i + 1) code)) marks)
    ∙ ap (λ (ns : List ℕ). all_marked marks (ns ++ called_in (drop (i + 1) code))) is
    ∙ ap (all_marked marks) (sym (called_step code i o h e))

called_at : (marks : List Bool) (instances : List Coded) (k : ℕ) → k < length instances
    → all_marked (all_marked marks (called_in (coded_at instances k).code)) (all_called (drop (k + 1) instances))
    ≡ all_marked marks (all_called (drop k instances))
called_at marks instances k h =
    sym (all_marked-append (called_in (coded_at instances k).code) (all_called (drop (k + 1) instances)) marks)
    ∙ ap (λ (is : List Coded). all_marked marks (all_called is)) (sym (drop_more instances k _ h))

-- one more instance was looked at
pub table_marked : (before after start : List Bool) (instances : List Coded) (k : ℕ) (code : List Operation) → k < length instances
    → code ≡ (coded_at instances k).code → after ≡ all_marked before (called_in code)
    → all_marked before (all_called (drop k instances)) ≡ all_marked start (all_called instances)
    → all_marked after (all_called (drop (k + 1) instances)) ≡ all_marked start (all_called instances)
table_marked before after start instances k code h same e done =
    ap (λ (ms : List Bool). all_marked ms (all_called (drop (k + 1) instances))) (e ∙ ap (λ (os : List Operation). all_marked before (called_in os)) same)
    ∙ called_at before instances k h ∙ done
