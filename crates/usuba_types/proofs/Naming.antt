-- Sizes by numbers are those by names.
use Rattle.std.proofs.Common.{◌≡◌, ℕ, suc, ◌+◌, ◌<◌, min, max, Bool, true, false, ◌||◌, List, [], ◌∷◌, ◌++◌, map, length, refl, sym, ap, ◌∙◌, arith, subst}
use Rattle.std.specs.Prelude.{bytes_eq, if◌then◌else◌}
use Rattle.std.proofs.Math.ListN.{get_or-append}
use Rattle.std.proofs.Math.Seq.{get_or-append_seam}
use Rattle.std.proofs.lemmas.List.{length-append}
use Rattle.std.proofs.lemmas.Slice.Eq.{bytes_eq-Decides}
use Rattle.usuba_trees.specs.declared.Decl.{Decl}
use Rattle.usuba_trees.specs.declared.Def.TheVariants as def
use Rattle.usuba_trees.specs.declared.Node.{Node}
use Rattle.usuba_model.specs.Cells.{Cell}
use Rattle.usuba_model.specs.Names.{is_name_among, names_of, unknown_in_definition}
use Rattle.usuba_model.specs.Numbers.{callee_number}
use Rattle.usuba_model.specs.Operations.{Size, Sized, size_of_definition, size_named, called_operations, called_chain, calls_of, all_calls}
use Rattle.usuba_model.specs.Unrolled.{Expression, cells, number, nothing, joined, call, complement, operation, shift, refresh, Instance, declarations, unrolled}
use Rattle.usuba_model.specs.Walk.{Signature, size_of, definition_steps, count_of}
use Rattle.usuba_model.proofs.CellLemmas.{false_true}
use Rattle.usuba_model.proofs.Knowing.{AllKnow, NoneHold, none_hold, node_knows}
use Rattle.usuba_model.proofs.Valuing.{AreKnown}
use Rattle.usuba_code.specs.declared.operation.Operation.{Operation}
use Rattle.usuba_code.specs.declared.operation.Operation.TheVariants as make
use Rattle.usuba_code.specs.Code.{code_of, read_cell, coded, coded_node}
use Rattle.usuba_types.specs.declared.sizes.CappedSize.{CappedSize}
use Rattle.usuba_types.specs.Sizes.{greatest, capped, capped_at, callees_in, all_callees, operations_called, chain_called, node_size}
use Rattle.usuba_types.specs.SizeLaws.{in_order, signature_names, HaveSameNames, NumberedSizes}

in_order-length : (signatures : List Signature) (known : List Sized) → HaveSameNames signatures known → length (in_order known) ≡ length signatures
in_order-length [] [] same = refl
in_order-length [] (sized ∷ known) same = absurd same
in_order-length (s ∷ signatures) [] same = absurd same
in_order-length (s ∷ signatures) (sized ∷ known) same =
    length-append (in_order known) (capped sized.size ∷ []) ∙ omega (arith, in_order-length signatures known same.1)

-- a name among these, which is not the first, is among the rest
among_rest : (first name : List ℕ) (names : List (List ℕ)) → bytes_eq first name ≡ false → is_name_among (first ∷ names) name ≡ true
    → is_name_among names name ≡ true
among_rest first name names is among = later (bytes_eq name first) refl among
  where
    later : (b : Bool) → bytes_eq name first ≡ b → (b || is_name_among names name) ≡ true → is_name_among names name ≡ true
    later true equal m = false_true (sym is ∙ (bytes_eq-Decides first name).1 (sym ((bytes_eq-Decides name first).0 equal)))
    later false equal m = m

-- the number of a name among these is that of one of them
number_within : (signatures : List Signature) (name : List ℕ) → is_name_among (signature_names signatures) name ≡ true
    → callee_number signatures name < length signatures
number_within [] name among = false_true among
number_within (s ∷ signatures) name among =
    at_test (bytes_eq s.name name)
    (λ is. number_within signatures name (among_rest s.name name (signature_names signatures) is among))
  where
    at_test : (b : Bool) → (b ≡ false → callee_number signatures name < length signatures)
        → (if b then length signatures else callee_number signatures name) < suc (length signatures)
    at_test true rest = omega arith
    at_test false rest = omega (arith, rest refl)

-- what is at a number of a list to which one more size is added
at_either : (b c : Bool) → b ≡ c → (xs : List CappedSize) (size other : Size) (len n : ℕ) → length xs ≡ len
    → (b ≡ false → (n < length xs) × (capped_at xs n ≡ capped other))
    → capped_at (xs ++ capped size ∷ []) (if b then len else n) ≡ capped (if c then size else other)
at_either true true e xs size other len n long rest =
    ap (λ k. capped_at (xs ++ capped size ∷ []) k) (sym long)
    ∙ get_or-append_seam xs (capped size) [] (record { operations = 0; chain = 0 })
at_either true false e xs size other len n long rest = false_true (sym e)
at_either false true e xs size other len n long rest = false_true e
at_either false false e xs size other len n long rest =
    get_or-append xs (capped size ∷ []) (record { operations = 0; chain = 0 }) n (rest refl).0 ∙ (rest refl).1

-- the size at the number of a name is the size of the definition of this name
pub at_number : (signatures : List Signature) (known : List Sized) → HaveSameNames signatures known → (name : List ℕ)
    → is_name_among (signature_names signatures) name ≡ true
    → capped_at (in_order known) (callee_number signatures name) ≡ capped (size_named known name)
at_number [] known same name among = false_true among
at_number (s ∷ signatures) [] same name among = absurd same
at_number (s ∷ signatures) (sized ∷ known) same name among =
    let rest : bytes_eq s.name name ≡ false → is_name_among (signature_names signatures) name ≡ true =
    λ is. among_rest s.name name (signature_names signatures) is among in
    at_either (bytes_eq s.name name) (bytes_eq sized.name name) (ap (λ (n : List ℕ). bytes_eq n name) same.0)
    (in_order known) sized.size (size_named known name) (length signatures) (callee_number signatures name)
    (in_order-length signatures known same.1)
    (λ is. (
      omega (arith, number_within signatures name (rest is), in_order-length signatures known same.1),
      at_number signatures known same.1 name (rest is),
    ))

-- what numbers come to is what names come to, as far as counts go
record Agree (sizes : List CappedSize) (known : List Sized) (numbers : List ℕ) (names : List (List ℕ)) : Type 0 where
  operations : min (operations_called sizes numbers) greatest ≡ min (called_operations known names) greatest
  chain : min (chain_called sizes numbers) greatest ≡ min (called_chain known names) greatest

known_first : (known a b : List (List ℕ)) → AreKnown known (a ++ b) → AreKnown known a
known_first known [] b k = tt
known_first known (name ∷ a) b k = (k.0, known_first known a b k.1)

known_second : (known a b : List (List ℕ)) → AreKnown known (a ++ b) → AreKnown known b
known_second known [] b k = k
known_second known (name ∷ a) b k = known_second known a b k.1

module _ (signatures : List Signature) (known : List Sized) (same : HaveSameNames signatures known) where
  abbrev sizes : List CappedSize
  sizes = in_order known

  operations-append : (a b : List ℕ) → operations_called sizes (a ++ b) ≡ operations_called sizes a + operations_called sizes b
  operations-append [] b = omega arith
  operations-append (n ∷ a) b = omega (arith, operations-append a b)

  chain-append : (a b : List ℕ) → chain_called sizes (a ++ b) ≡ max (chain_called sizes a) (chain_called sizes b)
  chain-append [] b = omega arith
  chain-append (n ∷ a) b = omega (arith, chain-append a b)

  names-append : (a b : List (List ℕ)) → called_operations known (a ++ b) ≡ called_operations known a + called_operations known b
  names-append [] b = omega arith
  names-append (n ∷ a) b = omega (arith, names-append a b)

  names-chain : (a b : List (List ℕ)) → called_chain known (a ++ b) ≡ max (called_chain known a) (called_chain known b)
  names-chain [] b = omega arith
  names-chain (n ∷ a) b = omega (arith, names-chain a b)

  agree-append : (a b : List ℕ) (x y : List (List ℕ)) → Agree sizes known a x → Agree sizes known b y → Agree sizes known (a ++ b) (x ++ y)
  agree-append a b x y first second = record {
    operations = omega (arith, operations-append a b, names-append x y, first.operations, second.operations);
    chain = omega (arith, chain-append a b, names-chain x y, first.chain, second.chain);
  }

  -- a call, whose number comes after those of its arguments
  agree-call : (a : List ℕ) (x : List (List ℕ)) (name : List ℕ) → is_name_among (signature_names signatures) name ≡ true
      → Agree sizes known a x → Agree sizes known (a ++ callee_number signatures name ∷ []) (name ∷ x)
  agree-call a x name among rest =
      let at = at_number signatures known same name among in
      let ops : (capped_at sizes (callee_number signatures name)).operations ≡ min (size_named known name).operations greatest = ap (λ s. s.operations) at in
      let deep : (capped_at sizes (callee_number signatures name)).chain ≡ min (size_named known name).chain greatest = ap (λ s. s.chain) at in
      record {
        operations = omega (arith, operations-append a (callee_number signatures name ∷ []), ops, rest.operations);
        chain = omega (arith, chain-append a (callee_number signatures name ∷ []), deep, rest.chain);
      }

  agree-none : Agree sizes known [] []
  agree-none = record { operations = refl; chain = refl }

  callees-append : (a b : List Operation) → callees_in (a ++ b) ≡ callees_in a ++ callees_in b
  callees-append [] b = refl
  callees-append (make.Number v ∷ a) b = callees-append a b
  callees-append (make.Cell c ∷ a) b = callees-append a b
  callees-append (make.Call n i ∷ a) b = ap (λ l. n ∷ l) (callees-append a b)
  callees-append (make.Complement n ∷ a) b = callees-append a b
  callees-append (make.Combine op n ∷ a) b = callees-append a b
  callees-append (make.Shift k n ∷ a) b = callees-append a b
  callees-append (make.Refresh k n ∷ a) b = callees-append a b

  callees-nothing : (l : List ℕ) → l ++ [] ≡ l
  callees-nothing [] = refl
  callees-nothing (n ∷ l) = ap (λ m. n ∷ m) (callees-nothing l)

  module _ (declared : List Decl) where
    no_calls : (read : List Cell) → callees_in (map (read_cell declared) read) ≡ []
    no_calls [] = refl
    no_calls (c ∷ read) = no_calls read

    -- code that ends in no call calls what the code before calls
    ends : (a : List Operation) (o : Operation) → callees_in (o ∷ []) ≡ [] → callees_in (a ++ o ∷ []) ≡ callees_in a
    ends a o none = callees-append a (o ∷ []) ∙ ap (λ l. callees_in a ++ l) none ∙ callees-nothing (callees_in a)

    abbrev Agrees : Expression → Type 0
    Agrees e = Agree sizes known (callees_in (code_of signatures declared e)) (calls_of e)

    same_callees : (a b : List ℕ) (x : List (List ℕ)) → a ≡ b → Agree sizes known b x → Agree sizes known a x
    same_callees a b x is agree = subst (λ l. Agree sizes known l x) (sym is) agree

    agree-code : (e : Expression) → AreKnown (signature_names signatures) (calls_of e) → Agrees e
    agree-code (number v) k = agree-none
    agree-code (cells read) k = same_callees _ [] [] (no_calls read) agree-none
    agree-code nothing k = agree-none
    agree-code (joined a b) k =
        same_callees _ _ (calls_of a ++ calls_of b) (callees-append (code_of signatures declared a) (code_of signatures declared b))
        (agree-append _ _ (calls_of a) (calls_of b) (agree-code a (known_first (signature_names signatures) (calls_of a) (calls_of b) k))
        (agree-code b (known_second (signature_names signatures) (calls_of a) (calls_of b) k)))
    agree-code (call name args) k =
        same_callees _ _ (name ∷ calls_of args)
        (callees-append (code_of signatures declared args) (make.Call (callee_number signatures name) (size_of signatures args) ∷ []))
        (agree-call (callees_in (code_of signatures declared args)) (calls_of args) name k.0 (agree-code args k.1))
    agree-code (complement a) k =
        same_callees _ _ (calls_of a) (ends (code_of signatures declared a) (make.Complement (size_of signatures a)) refl) (agree-code a k)
    agree-code (operation op a b) k =
        same_callees _ _ (calls_of a ++ calls_of b)
        (ends (code_of signatures declared a ++ code_of signatures declared b) (make.Combine op (size_of signatures a)) refl
        ∙ callees-append (code_of signatures declared a) (code_of signatures declared b))
        (agree-append _ _ (calls_of a) (calls_of b) (agree-code a (known_first (signature_names signatures) (calls_of a) (calls_of b) k))
        (agree-code b (known_second (signature_names signatures) (calls_of a) (calls_of b) k)))
    agree-code (shift kind amount a) k =
        same_callees _ _ (calls_of a) (ends (code_of signatures declared a) (make.Shift kind amount) refl) (agree-code a k)
    agree-code (refresh n a) k =
        same_callees _ _ (calls_of a) (ends (code_of signatures declared a) (make.Refresh n (size_of signatures a)) refl) (agree-code a k)

    agree-instances : (names : List (List ℕ)) (instances : List Instance) → AllKnow (signature_names signatures) names declared instances
        → Agree sizes known (all_callees (map (coded signatures declared) instances)) (all_calls instances)
    agree-instances names [] k = agree-none
    agree-instances names (i ∷ instances) k =
        agree-append (callees_in (code_of signatures declared i.right)) (all_callees (map (coded signatures declared) instances)) (calls_of i.right)
        (all_calls instances) (agree-code i.right k.0) (agree-instances names instances k.1)

-- sizes by numbers are those by names, where no name is found to be unknown
pub node_sizes : (w : ℕ) (signatures : List Signature) (known : List Sized) (node : Node) → HaveSameNames signatures known
    → NoneHold (unknown_in_definition (signature_names signatures) (def.Node node))
    → node_size (in_order known) (count_of (definition_steps w signatures (def.Node node))) (coded_node signatures node)
    ≡ capped (size_of_definition w signatures known (def.Node node))
node_sizes w signatures known node same none =
    let count : ℕ = count_of (definition_steps w signatures (def.Node node)) in
    let numbers : List ℕ = all_callees (coded_node signatures node) in
    let calls : List (List ℕ) = all_calls (unrolled node) in
    let knows = node_knows (signature_names signatures) node none in
    let agree : Agree (in_order known) known numbers calls
    = agree-instances signatures known same (declarations node) (names_of (declarations node)) (unrolled node) knows in
    let first : min (count + operations_called (in_order known) numbers) greatest ≡ min (count + called_operations known calls) greatest
    = omega (arith, agree.operations) in
    ap (λ n. record { operations = n; chain = min (chain_called (in_order known) numbers) greatest }) first
    ∙ ap (λ n. record { operations = min (count + called_operations known calls) greatest; chain = n }) agree.chain

pub numbered_sizes : NumberedSizes
numbered_sizes w signatures known node same none = node_sizes w signatures known node same (none_hold _ _ none)
