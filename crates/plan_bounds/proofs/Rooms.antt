-- What the code of a node makes is within what its operators make and what it calls.
use Rattle.std.proofs.Common.{◌≡◌, ◌+◌, ◌*◌, ◌≤◌, ℕ, zero, suc, true, List, [], ◌∷◌, ◌++◌, get_or, map, refl, arith}
use Rattle.usuba_trees.specs.declared.Decl.{Decl}
use Rattle.usuba_trees.specs.declared.Def.{Def}
use Rattle.usuba_model.specs.Cells.{Cell}
use Rattle.usuba_model.specs.Names.{is_name_among, names_of}
use Rattle.usuba_model.specs.Numbers.{callee_number}
use Rattle.usuba_model.specs.Operations.{Sized, size_named, called_operations, calls_of, all_calls}
use Rattle.usuba_model.specs.Unrolled.{Expression, cells, number, nothing, joined, call, complement, operation, shift, refresh, Instance}
use Rattle.usuba_model.specs.Walk.{signature, size_of, weight}
use Rattle.usuba_model.proofs.FileOutcomes.{names}
use Rattle.usuba_model.proofs.Knowing.{AllKnow}
use Rattle.usuba_model.proofs.Valuing.{AreKnown}
use Rattle.usuba_code.specs.Code.{Coded, coded, coded_at, code_of, read_cell}
use Rattle.usuba_code.specs.declared.operation.Operation.{Operation}
use Rattle.usuba_code.specs.declared.operation.Operation.TheVariants as make
use Rattle.ready_order.specs.Order.{AreDistinct}
use Rattle.usuba_plan.specs.Room.{code_room, order_room}
use Rattle.plan_bounds.proofs.Counting.{own_room, own_rooms}
use Rattle.plan_bounds.proofs.Sums.{total, picked, picked_within}

-- each earlier definition makes at most its operations
abbrev pub AreBounded : List Def → List Sized → (ℕ → ℕ) → Type 0
AreBounded earlier known callees = (name : List ℕ) → is_name_among (names earlier) name ≡ true
    → callees (callee_number (map signature earlier) name) ≤ (size_named known name).operations

room_append : (callees : ℕ → ℕ) (a b : List Operation) → code_room callees (a ++ b) ≡ code_room callees a + code_room callees b
room_append callees [] b = omega arith
room_append callees (step ∷ a) b = let later = room_append callees a b in omega (arith, later)

called_append : (known : List Sized) (a b : List (List ℕ)) → called_operations known (a ++ b) ≡ called_operations known a + called_operations known b
called_append known [] b = omega arith
called_append known (name ∷ a) b = let later = called_append known a b in omega (arith, later)

known_left : (known a b : List (List ℕ)) → AreKnown known (a ++ b) → AreKnown known a
known_left known [] b k = tt
known_left known (name ∷ a) b k = (k.0, known_left known a b k.1)

known_right : (known a b : List (List ℕ)) → AreKnown known (a ++ b) → AreKnown known b
known_right known [] b k = k
known_right known (name ∷ a) b k = known_right known a b k.1

-- what an instance makes
abbrev cost : (ℕ → ℕ) → Coded → ℕ
cost callees instance = code_room callees instance.code

get_or-map : {A B : Type 0} (f : A → B) (xs : List A) (k : ℕ) (d : A) → get_or (map f xs) k (f d) ≡ f (get_or xs k d)
get_or-map f [] k d = refl
get_or-map f (x ∷ xs) zero d = refl
get_or-map f (x ∷ xs) (suc k) d = get_or-map f xs k d

-- the room of an order is the sum of the costs at its numbers
order_picked : (callees : ℕ → ℕ) (instances : List Coded) (order : List ℕ)
    → order_room callees instances order ≡ picked (map (cost callees) instances) order
order_picked callees instances [] = refl
order_picked callees instances (k ∷ order) =
    let here : get_or (map (cost callees) instances) k 0 ≡ code_room callees (coded_at instances k).code
    = get_or-map (cost callees) instances k (record { targets = []; code = [] }) in
    let later = order_picked callees instances order in omega (arith, here, later)

two_called : (all a b own own' called called' calls : ℕ) → all ≡ a + b → calls ≡ called + called' → a ≤ own + called → b ≤ own' + called'
    → all ≤ own + own' + calls
two_called all a b own own' called called' calls e f p q = omega (arith, e, f, p, q)

with_sign : (all a own x called : ℕ) → all ≡ a + (x + 0) → a ≤ own + called → all ≤ own + x + called
with_sign all a own x called e p = omega (arith, e, p)

two_with_sign : (all inner a b own own' x called called' calls : ℕ) → all ≡ inner + (x + 0) → inner ≡ a + b → calls ≡ called + called'
    → a ≤ own + called → b ≤ own' + called' → all ≤ own + own' + x + calls
two_with_sign all inner a b own own' x called called' calls e f g p q = omega (arith, e, f, g, p, q)

with_call : (all a own x y called : ℕ) → all ≡ a + (x + 0) → a ≤ own + called → x ≤ y → all ≤ own + (y + called)
with_call all a own x y called e p q = omega (arith, e, p, q)

module _ (earlier : List Def) (known : List Sized) (callees : ℕ → ℕ) (bounded : AreBounded earlier known callees) (declared : List Decl) where
  abbrev code : Expression → List Operation
  code e = code_of (map signature earlier) declared e

  abbrev own : Expression → ℕ
  own e = own_room (map signature earlier) e

  abbrev called : Expression → ℕ
  called e = called_operations known (calls_of e)

  reads_free : (read : List Cell) → code_room callees (map (read_cell declared) read) ≡ 0
  reads_free [] = refl
  reads_free (c ∷ read) = let later = reads_free read in omega (arith, later)

  -- the code of an expression makes at most what its operators make and what it calls
  code_within : (e : Expression) → AreKnown (names earlier) (calls_of e) → code_room callees (code e) ≤ own e + called e
  code_within (number value) all = omega arith
  code_within (cells read) all = let free = reads_free read in omega (arith, free)
  code_within nothing all = omega arith
  code_within (joined a b) all =
      two_called _ (code_room callees (code a)) (code_room callees (code b)) (own a) (own b) (called a) (called b) _
      (room_append callees (code a) (code b)) (called_append known (calls_of a) (calls_of b))
      (code_within a (known_left (names earlier) (calls_of a) (calls_of b) all))
      (code_within b (known_right (names earlier) (calls_of a) (calls_of b) all))
  code_within (call name args) all =
      with_call _ (code_room callees (code args)) (own args) (callees (callee_number (map signature earlier) name))
      (size_named known name).operations (called args)
      (room_append callees (code args) (make.Call (callee_number (map signature earlier) name) (size_of (map signature earlier) args) ∷ []))
      (code_within args all.1) (bounded name all.0)
  code_within (complement a) all =
      with_sign _ (code_room callees (code a)) (own a) (size_of (map signature earlier) a) (called a)
      (room_append callees (code a) (make.Complement (size_of (map signature earlier) a) ∷ [])) (code_within a all)
  code_within (operation op a b) all =
      two_with_sign _ (code_room callees (code a ++ code b)) (code_room callees (code a)) (code_room callees (code b)) (own a) (own b)
      (weight op * size_of (map signature earlier) a) (called a) (called b) _
      (room_append callees (code a ++ code b) (make.Combine op (size_of (map signature earlier) a) ∷ []))
      (room_append callees (code a) (code b)) (called_append known (calls_of a) (calls_of b))
      (code_within a (known_left (names earlier) (calls_of a) (calls_of b) all))
      (code_within b (known_right (names earlier) (calls_of a) (calls_of b) all))
  code_within (shift kind k a) all =
      with_sign _ (code_room callees (code a)) (own a) 1 (called a) (room_append callees (code a) (make.Shift kind k ∷ [])) (code_within a all)
  code_within (refresh k a) all =
      with_sign _ (code_room callees (code a)) (own a) (size_of (map signature earlier) a) (called a)
      (room_append callees (code a) (make.Refresh k (size_of (map signature earlier) a) ∷ [])) (code_within a all)

  -- so does the code of instances
  all_within : (instances : List Instance) → AllKnow (names earlier) (names_of declared) declared instances
      → total (map (cost callees) (map (coded (map signature earlier) declared) instances))
      ≤ own_rooms (map signature earlier) instances + called_operations known (all_calls instances)
  all_within [] knows = omega arith
  all_within (i ∷ instances) knows =
      two_called _ (code_room callees (code i.right)) _ (own i.right) (own_rooms (map signature earlier) instances) (called i.right) _ _
      refl (called_append known (calls_of i.right) (all_calls instances)) (code_within i.right knows.0) (all_within instances knows.1)

  -- and in an order where none stands twice
  pub order_within : (instances : List Instance) → AllKnow (names earlier) (names_of declared) declared instances
      → (order : List ℕ) → AreDistinct order
      → order_room callees (map (coded (map signature earlier) declared) instances) order
      ≤ own_rooms (map signature earlier) instances + called_operations known (all_calls instances)
  order_within instances knows order distinct =
      let done : List Coded = map (coded (map signature earlier) declared) instances in
      let same = order_picked callees done order in
      let once = picked_within (map (cost callees) done) order distinct in
      let sum = all_within instances knows in omega (arith, same, once, sum)
