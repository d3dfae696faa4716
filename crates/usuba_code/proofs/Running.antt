-- The code of an expression gives the value of the expression.
use Rattle.std.proofs.Common.{◌≡◌, ◌-◌, ℕ, Bool, true, List, [], ◌∷◌, ◌++◌, length, map, take, drop, Option, Some, None, refl, sym, ap, ap₂, ◌∙◌, append_assoc, append-nil, length-append, take_at, drop_at, le-leb, nat_le, if◌then◌else◌, arith}
use Rattle.std.specs.Prelude.{option_map, option_and_then}
use Rattle.std.proofs.lemmas.List.{length-map}
use Rattle.std.proofs.lemmas.Option.{none-some, same_Some}
use Rattle.usuba_trees.specs.declared.Decl.{Decl}
use Rattle.usuba_model.specs.Assignments.{cells_read}
use Rattle.usuba_model.specs.Cells.{Cell}
use Rattle.usuba_model.specs.Operations.{calls_of}
use Rattle.usuba_model.specs.Rounds.{Operators, Environment, Callees, both, whole, element_by_element, value_of}
use Rattle.usuba_model.specs.Unrolled.{Expression, cells, number, nothing, joined, call, complement, operation, shift, refresh}
use Rattle.usuba_model.specs.Walk.{Signature, signature_of, size_of}
use Rattle.usuba_model.proofs.Valuing.{length_two}
use Rattle.usuba_code.specs.declared.operation.Operation.{Operation}
use Rattle.usuba_code.specs.declared.operation.Operation.TheVariants as make
use Rattle.usuba_model.specs.Numbers.{callee_number}
use Rattle.usuba_code.specs.Code.{code_of, read_cell}
use Rattle.usuba_code.specs.Machine.{NumberedCallees, NumberedEnvironment, Split, split_last, with_last, with_last_two, with_answer, run_operation, run_code}
use Rattle.usuba_code.specs.CodeLaw.{Each, HasSizes, HoldsSame, AnswersSame, AnswersAll, CodeGivesValue}

pub each_first : {A : Type 0} (P : A → Type 0) (xs ys : List A) → Each P (xs ++ ys) → Each P xs
each_first P [] ys h = tt
each_first P (x ∷ xs) ys h = (h.0, each_first P xs ys h.1)

pub each_second : {A : Type 0} (P : A → Type 0) (xs ys : List A) → Each P (xs ++ ys) → Each P ys
each_second P [] ys h = h
each_second P (x ∷ xs) ys h = each_second P xs ys h.1

module _ {V : Type 0} where
  -- what lies on top of a stack is split off
  pub split_append : (below last : List V) (n : ℕ) → length last ≡ n
      → split_last n (below ++ last) ≡ Some (record { below = below; last = last })
  split_append below last n e =
      let stack : List V = below ++ last in
      let len = length-append below last in
      let rest : length below ≡ length stack - n = omega (arith, len, e) in
      let enough : nat_le n (length stack) ≡ true = le-leb n (length stack) (omega (arith, len, e)) in
      let split : List V → List V → Option (Split V) = λ xs ys. Some (record { below = xs; last = ys }) in
      ap (λ (b : Bool). if b then split (take (length stack - n) stack) (drop (length stack - n) stack) else None) enough
      ∙ ap₂ split (take_at below last (length stack - n) rest) (drop_at below last (length stack - n) rest)

  pub with_last_append : (below last : List V) (n : ℕ) (f : List V → List V) → length last ≡ n
      → with_last n f (below ++ last) ≡ Some (below ++ f last)
  with_last_append below last n f e = ap (option_map (λ split. split.below ++ f split.last)) (split_append below last n e)

  pub with_last_two_append : (below a b : List V) (n : ℕ) (f : List V → List V → List V) → length a ≡ n → length b ≡ n
      → with_last_two n f (below ++ a ++ b) ≡ Some (below ++ f a b)
  with_last_two_append below a b n f ea eb =
      ap (option_and_then (λ split. with_last n (λ earlier. f earlier split.last) split.below)) (split_append (below ++ a) b n eb)
      ∙ with_last_append below a n (λ earlier. f earlier b) ea

  pub with_answer_append : (below last : List V) (n : ℕ) (f : List V → Option (List V)) → length last ≡ n
      → with_answer n f (below ++ last) ≡ option_map (λ made. below ++ made) (f last)
  with_answer_append below last n f e =
      ap (option_and_then (λ split. option_map (λ made. split.below ++ made) (f split.last))) (split_append below last n e)

  module _ (operators : Operators V) (numbered_callees : NumberedCallees V) (numbered : NumberedEnvironment V) where
    abbrev run : List Operation → List V → Option (List V)
    run code stack = run_code operators numbered_callees numbered code stack

    abbrev run_one : Operation → List V → Option (List V)
    run_one op stack = run_operation operators numbered_callees numbered op stack

    -- code after code
    pub run_append : (a b : List Operation) (stack : List V) → run (a ++ b) stack ≡ option_and_then (run b) (run a stack)
    run_append [] b stack = refl
    run_append (op ∷ a) b stack = then_append (run_append a b) (run_one op stack)
      where
        then_append : ((s : List V) → run (a ++ b) s ≡ option_and_then (run b) (run a s)) → (o : Option (List V))
            → option_and_then (run (a ++ b)) o ≡ option_and_then (run b) (option_and_then (run a) o)
        then_append more None = refl
        then_append more (Some s) = more s

    -- a stack with a value on it, where there is one
    abbrev put_on : List V → Option (List V) → Option (List V)
    put_on stack value = option_map (λ v. stack ++ v) value

    -- code adds a value to each stack
    abbrev Adds : List Operation → Option (List V) → Type 0
    Adds code value = (stack : List V) → run code stack ≡ put_on stack value

    -- an operation that changes each element of the value on top
    changes_top : (code : List Operation) (op : Operation) (value : Option (List V)) (f : List V → List V) → Adds code value
        → ((stack vs : List V) → value ≡ Some vs → run_one op (stack ++ vs) ≡ Some (stack ++ f vs))
        → Adds (code ++ op ∷ []) (option_map f value)
    changes_top code op value f adds does stack =
        run_append code (op ∷ []) stack ∙ ap (option_and_then (run (op ∷ []))) (adds stack) ∙ of_value value (does stack)
      where
        of_value : (o : Option (List V)) → ((vs : List V) → o ≡ Some vs → run_one op (stack ++ vs) ≡ Some (stack ++ f vs))
            → option_and_then (run (op ∷ [])) (put_on stack o) ≡ put_on stack (option_map f o)
        of_value None does = refl
        of_value (Some vs) does = ap (option_and_then (run [])) (does vs refl)

    -- an operation that replaces the value on top by an answer
    answers_top : (code : List Operation) (op : Operation) (value : Option (List V)) (f : List V → Option (List V)) → Adds code value
        → ((stack vs : List V) → value ≡ Some vs → run_one op (stack ++ vs) ≡ put_on stack (f vs))
        → Adds (code ++ op ∷ []) (option_and_then f value)
    answers_top code op value f adds does stack =
        run_append code (op ∷ []) stack ∙ ap (option_and_then (run (op ∷ []))) (adds stack) ∙ of_value value (does stack)
      where
        kept : (o : Option (List V)) → option_and_then (run []) o ≡ o
        kept None = refl
        kept (Some s) = refl

        of_value : (o : Option (List V)) → ((vs : List V) → o ≡ Some vs → run_one op (stack ++ vs) ≡ put_on stack (f vs))
            → option_and_then (run (op ∷ [])) (put_on stack o) ≡ put_on stack (option_and_then f o)
        of_value None does = refl
        of_value (Some vs) does = kept (run_one op (stack ++ vs)) ∙ does vs refl

    -- one value after another
    adds_both : (a b : List Operation) (value value' : Option (List V)) → Adds a value → Adds b value'
        → Adds (a ++ b) (both (λ xs ys. xs ++ ys) value value')
    adds_both a b value value' adds adds' stack =
        run_append a b stack ∙ ap (option_and_then (run b)) (adds stack) ∙ of_first value
      where
        of_second : (xs : List V) (o : Option (List V))
            → put_on (stack ++ xs) o ≡ put_on stack (both (λ xs ys. xs ++ ys) (Some xs) o)
        of_second xs None = refl
        of_second xs (Some ys) = ap Some (append_assoc stack xs ys)

        of_first : (o : Option (List V))
            → option_and_then (run b) (put_on stack o) ≡ put_on stack (both (λ xs ys. xs ++ ys) o value')
        of_first None = refl
        of_first (Some xs) = adds' (stack ++ xs) ∙ of_second xs value'

    -- an operation that joins two values, which are one after another on top
    joins_top : (a b : List Operation) (op : Operation) (value value' : Option (List V)) (f : List V → List V → List V)
        → Adds a value → Adds b value'
        → ((stack xs ys : List V) → value ≡ Some xs → value' ≡ Some ys → run_one op (stack ++ xs ++ ys) ≡ Some (stack ++ f xs ys))
        → Adds (a ++ b ++ op ∷ []) (both f value value')
    joins_top a b op value value' f adds adds' does stack =
        run_append (a ++ b) (op ∷ []) stack
        ∙ ap (option_and_then (run (op ∷ []))) (run_append a b stack ∙ ap (option_and_then (run b)) (adds stack))
        ∙ of_first value (does stack)
      where
        of_second : (xs : List V) (o : Option (List V))
            → ((ys : List V) → o ≡ Some ys → run_one op (stack ++ xs ++ ys) ≡ Some (stack ++ f xs ys))
            → option_and_then (run (op ∷ [])) (put_on (stack ++ xs) o) ≡ put_on stack (both f (Some xs) o)
        of_second xs None does = refl
        of_second xs (Some ys) does = ap (option_and_then (run [])) (does ys refl)

        of_first : (o : Option (List V))
            → ((xs ys : List V) → o ≡ Some xs → value' ≡ Some ys → run_one op (stack ++ xs ++ ys) ≡ Some (stack ++ f xs ys))
            → option_and_then (run (op ∷ [])) (option_and_then (run b) (put_on stack o)) ≡ put_on stack (both f o value')
        of_first None does = refl
        of_first (Some xs) does =
            ap (option_and_then (run (op ∷ []))) (adds' (stack ++ xs)) ∙ of_second xs value' (λ ys is. does xs ys refl is)

    module _ (callees : Callees V) (environment : Environment V) (signatures : List Signature) (declared : List Decl) where
      abbrev value : Expression → Option (List V)
      value e = value_of operators callees environment e

      -- the cells that are read
      adds_cells : (read : List Cell) → Each (HoldsSame declared numbered environment) read
          → Adds (map (read_cell declared) read) (whole (map environment read))
      adds_cells [] same stack = ap Some (sym (append-nil stack))
      adds_cells (c ∷ cs) same stack =
          ap (λ o. option_and_then (run (map (read_cell declared) cs)) (option_map (λ v. stack ++ v ∷ []) o)) same.0
          ∙ of_first (environment c) (adds_cells cs same.1)
        where
          of_rest : (v : V) (o : Option (List V)) → put_on (stack ++ v ∷ []) o ≡ put_on stack (both (λ v vs. v ∷ vs) (Some v) o)
          of_rest v None = refl
          of_rest v (Some vs) = ap Some (append_assoc stack (v ∷ []) vs)

          of_first : (o : Option V) → Adds (map (read_cell declared) cs) (whole (map environment cs))
              → option_and_then (run (map (read_cell declared) cs)) (option_map (λ v. stack ++ v ∷ []) o)
              ≡ put_on stack (both (λ v vs. v ∷ vs) o (whole (map environment cs)))
          of_first None rest = refl
          of_first (Some v) rest = rest (stack ++ v ∷ []) ∙ of_rest v (whole (map environment cs))

      length_whole : (os : List (Option V)) (vs : List V) → whole os ≡ Some vs → length vs ≡ length os
      length_whole [] vs is = ap length (sym (same_Some [] vs is))
      length_whole (None ∷ os) vs is = absurd (none-some vs is)
      length_whole (Some v ∷ os) vs is = of_rest (whole os) (length_whole os) is
        where
          of_rest : (o : Option (List V)) → ((ws : List V) → o ≡ Some ws → length ws ≡ length os)
              → both (λ v vs. v ∷ vs) (Some v) o ≡ Some vs → length vs ≡ length (Some v ∷ os)
          of_rest None rest is = absurd (none-some vs is)
          of_rest (Some ws) rest is =
              let len = rest ws refl in
              let same : length (v ∷ ws) ≡ length vs = ap length (same_Some (v ∷ ws) vs is) in
              omega (arith, len, same)

      -- where an optional value is there and is mapped, so long is what comes of it
      length_mapped : (f : V → V) (o : Option (List V)) (n : ℕ) → ((vs : List V) → o ≡ Some vs → length vs ≡ n)
          → (vs : List V) → option_map (map f) o ≡ Some vs → length vs ≡ n
      length_mapped f None n len vs is = absurd (none-some vs is)
      length_mapped f (Some ws) n len vs is = ap length (sym (same_Some (map f ws) vs is)) ∙ length-map ws f ∙ len ws refl

      -- likewise where two are joined
      length_both : (f : List V → List V → List V) (o p : Option (List V)) (n : ℕ)
          → ((xs ys : List V) → o ≡ Some xs → p ≡ Some ys → length (f xs ys) ≡ n)
          → (vs : List V) → both f o p ≡ Some vs → length vs ≡ n
      length_both f None p n len vs is = absurd (none-some vs is)
      length_both f (Some xs) None n len vs is = absurd (none-some vs is)
      length_both f (Some xs) (Some ys) n len vs is = ap length (sym (same_Some (f xs ys) vs is)) ∙ len xs ys refl refl

      -- a value has as many elements as its size says
      length_value : (e : Expression) → HasSizes signatures e → Each (AnswersAll signatures callees) (calls_of e)
          → (vs : List V) → value e ≡ Some vs → length vs ≡ size_of signatures e
      length_value (number n) sizes answers vs is = ap length (sym (same_Some (operators.number_of n ∷ []) vs is))
      length_value (cells read) sizes answers vs is = length_whole (map environment read) vs is ∙ length-map read environment
      length_value nothing sizes answers vs is = ap length (sym (same_Some [] vs is))
      length_value (joined a b) sizes answers vs is =
          length_both (λ xs ys. xs ++ ys) (value a) (value b) (size_of signatures (joined a b))
          (λ xs ys p q.
          let la = length_value a sizes.0 (each_first (AnswersAll signatures callees) (calls_of a) (calls_of b) answers) xs p in
          let lb = length_value b sizes.1 (each_second (AnswersAll signatures callees) (calls_of a) (calls_of b) answers) ys q in
          length-append xs ys ∙ omega (arith, la, lb))
          vs is
      length_value (call name args) sizes answers vs is = of_args (value args) (length_value args sizes.0 answers.1) is
        where
          of_args : (o : Option (List V)) → ((xs : List V) → o ≡ Some xs → length xs ≡ size_of signatures args)
              → option_and_then (callees name) o ≡ Some vs → length vs ≡ (signature_of signatures name).outputs
          of_args None len is = absurd (none-some vs is)
          of_args (Some xs) len is = answers.0 xs vs (len xs refl ∙ sym sizes.1) is
      length_value (complement a) sizes answers vs is =
          length_mapped operators.complement_of (value a) (size_of signatures a) (length_value a sizes answers) vs is
      length_value (operation op a b) sizes answers vs is =
          length_both (element_by_element (operators.operation_of op)) (value a) (value b) (size_of signatures a)
          (λ xs ys p q.
          let la = length_value a sizes.0 (each_first (AnswersAll signatures callees) (calls_of a) (calls_of b) answers) xs p in
          let lb = length_value b sizes.1 (each_second (AnswersAll signatures callees) (calls_of a) (calls_of b) answers) ys q in
          length_two (operators.operation_of op) xs ys (la ∙ sizes.2 ∙ sym lb) ∙ la)
          vs is
      length_value (shift kind k a) sizes answers vs is =
          length_mapped (operators.shift_of kind k) (value a) 1 (λ ws p. length_value a sizes.0 answers ws p ∙ sizes.1) vs is
      length_value (refresh k a) sizes answers vs is =
          length_mapped (operators.refresh_of k) (value a) (size_of signatures a) (length_value a sizes answers) vs is

      -- the code of an expression adds its value
      pub adds_value : (e : Expression) → HasSizes signatures e → Each (HoldsSame declared numbered environment) (cells_read e)
          → Each (AnswersSame signatures numbered_callees callees) (calls_of e) → Each (AnswersAll signatures callees) (calls_of e)
          → Adds (code_of signatures declared e) (value e)
      adds_value (number n) sizes held same answers stack = refl
      adds_value (cells read) sizes held same answers stack = adds_cells read held stack
      adds_value nothing sizes held same answers stack = ap Some (sym (append-nil stack))
      adds_value (joined a b) sizes held same answers stack =
          adds_both (code_of signatures declared a) (code_of signatures declared b) (value a) (value b)
          (adds_value a sizes.0 (each_first (HoldsSame declared numbered environment) (cells_read a) (cells_read b) held)
          (each_first (AnswersSame signatures numbered_callees callees) (calls_of a) (calls_of b) same)
          (each_first (AnswersAll signatures callees) (calls_of a) (calls_of b) answers))
          (adds_value b sizes.1 (each_second (HoldsSame declared numbered environment) (cells_read a) (cells_read b) held)
          (each_second (AnswersSame signatures numbered_callees callees) (calls_of a) (calls_of b) same)
          (each_second (AnswersAll signatures callees) (calls_of a) (calls_of b) answers))
          stack
      adds_value (call name args) sizes held same answers stack =
          answers_top (code_of signatures declared args) (make.Call (callee_number signatures name) (size_of signatures args)) (value args) (callees name)
          (adds_value args sizes.0 held same.1 answers.1)
          (λ s vs is.
          with_answer_append s vs (size_of signatures args) (numbered_callees (callee_number signatures name))
          (length_value args sizes.0 answers.1 vs is)
          ∙ ap (put_on s) (same.0 vs (length_value args sizes.0 answers.1 vs is ∙ sym sizes.1)))
          stack
      adds_value (complement a) sizes held same answers stack =
          changes_top (code_of signatures declared a) (make.Complement (size_of signatures a)) (value a) (map operators.complement_of)
          (adds_value a sizes held same answers)
          (λ s vs is. with_last_append s vs (size_of signatures a) (map operators.complement_of) (length_value a sizes answers vs is))
          stack
      adds_value (operation op a b) sizes held same answers stack =
          let answers_a = each_first (AnswersAll signatures callees) (calls_of a) (calls_of b) answers in
          let answers_b = each_second (AnswersAll signatures callees) (calls_of a) (calls_of b) answers in
          joins_top (code_of signatures declared a) (code_of signatures declared b) (make.Combine op (size_of signatures a)) (value a) (value b)
          (element_by_element (operators.operation_of op))
          (adds_value a sizes.0 (each_first (HoldsSame declared numbered environment) (cells_read a) (cells_read b) held)
          (each_first (AnswersSame signatures numbered_callees callees) (calls_of a) (calls_of b) same) answers_a)
          (adds_value b sizes.1 (each_second (HoldsSame declared numbered environment) (cells_read a) (cells_read b) held)
          (each_second (AnswersSame signatures numbered_callees callees) (calls_of a) (calls_of b) same) answers_b)
          (λ s xs ys p q.
          with_last_two_append s xs ys (size_of signatures a) (element_by_element (operators.operation_of op))
          (length_value a sizes.0 answers_a xs p) (length_value b sizes.1 answers_b ys q ∙ sym sizes.2))
          stack
      adds_value (shift kind k a) sizes held same answers stack =
          changes_top (code_of signatures declared a) (make.Shift kind k) (value a) (map (operators.shift_of kind k))
          (adds_value a sizes.0 held same answers)
          (λ s vs is. with_last_append s vs 1 (map (operators.shift_of kind k)) (length_value a sizes.0 answers vs is ∙ sizes.1))
          stack
      adds_value (refresh k a) sizes held same answers stack =
          changes_top (code_of signatures declared a) (make.Refresh k (size_of signatures a)) (value a) (map (operators.refresh_of k))
          (adds_value a sizes held same answers)
          (λ s vs is. with_last_append s vs (size_of signatures a) (map (operators.refresh_of k)) (length_value a sizes answers vs is))
          stack

  -- code gives the value of its expression
  pub code_gives_value : CodeGivesValue V
  code_gives_value operators callees environment numbered_callees numbered signatures declared e =
      adds_value operators numbered_callees numbered callees environment signatures declared e
