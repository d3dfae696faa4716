-- The steps, the code and the size of values joined, of a chain and of shifts, part by part.
use Rattle.std.proofs.Common.{◌≡◌, ℕ, ◌+◌, List, [], ◌∷◌, ◌++◌, refl, sym, ap, ◌∙◌, arith, append_assoc}
use Rattle.std.proofs.lemmas.List.{append-nil}
use Rattle.usuba_trees.specs.declared.BitOp.{BitOp}
use Rattle.usuba_trees.specs.declared.Decl.{Decl}
use Rattle.usuba_trees.specs.declared.Link.{Link}
use Rattle.usuba_trees.specs.declared.ShiftLink.{ShiftLink}
use Rattle.usuba_model.specs.Indexes.{Counter, computed}
use Rattle.usuba_model.specs.Unrolled.{Expression, joined_all, natural}
use Rattle.usuba_model.specs.Walk.{Step, Signature, size_of, operator_step, shift_step, Walked, walked_operation, walked_chain, walked_shift, walked_shifts, walk_of}
use Rattle.usuba_code.specs.declared.operation.Operation.{Operation}
use Rattle.usuba_code.specs.declared.operation.Operation.TheVariants as make
use Rattle.usuba_code.specs.Code.{code_of}
use Rattle.usuba_walk.specs.State.Progress.{links_steps, links_code, moves_steps, moves_code, moved_size}
use Rattle.usuba_walk.proofs.Trees.{links_of}

module _ (signatures : List Signature) (declared : List Decl) where
  -- the code of values one after another begins with that of the first
  pub code-joined_all : (first : Expression) (rest : List Expression)
      → code_of signatures declared (joined_all (first ∷ rest)) ≡ code_of signatures declared first ++ code_of signatures declared (joined_all rest)
  code-joined_all first [] = sym (append-nil (code_of signatures declared first))
  code-joined_all first (second ∷ rest) = refl

  -- values one after another have the elements of the first and of the others
  pub size-joined_all : (first : Expression) (rest : List Expression)
      → size_of signatures (joined_all (first ∷ rest)) ≡ size_of signatures first + size_of signatures (joined_all rest)
  size-joined_all first [] = omega arith
  size-joined_all first (second ∷ rest) = refl

module _ (w : ℕ) (signatures : List Signature) (declared : List Decl) (counters : List Counter) where
  abbrev operand_of : Link → Walked
  operand_of link = walk_of w signatures declared link.operand counters

  -- the steps of a chain are those of its first operand, then those of the others
  pub steps-walked_chain : (op : BitOp) (first : Walked) (links : List Link)
      → (walked_chain signatures counters op first (links_of w signatures declared links)).steps
      ≡ first.steps ++ links_steps w signatures declared counters op (size_of signatures first.is) links
  steps-walked_chain op first [] = sym (append-nil first.steps)
  steps-walked_chain op first (link ∷ links) =
      let operand = operand_of link in
      let sign : List Step = operator_step op link.place (size_of signatures first.is) (size_of signatures operand.is) ∷ [] in
      let rest = links_steps w signatures declared counters op (size_of signatures first.is) links in
      steps-walked_chain op (walked_operation signatures op first link.place operand) links
      ∙ ap (λ steps. steps ++ rest) (append_assoc first.steps operand.steps sign)
      ∙ append_assoc first.steps (operand.steps ++ sign) rest

  -- the code of a chain is that of its first operand, then that of the others
  pub code-walked_chain : (op : BitOp) (first : Walked) (links : List Link)
      → code_of signatures declared (walked_chain signatures counters op first (links_of w signatures declared links)).is
      ≡ code_of signatures declared first.is ++ links_code w signatures declared counters op (size_of signatures first.is) links
  code-walked_chain op first [] = sym (append-nil (code_of signatures declared first.is))
  code-walked_chain op first (link ∷ links) =
      let operand = operand_of link in
      let left = code_of signatures declared first.is in
      let right = code_of signatures declared operand.is in
      let sign : List Operation = make.Combine op (size_of signatures first.is) ∷ [] in
      let rest = links_code w signatures declared counters op (size_of signatures first.is) links in
      code-walked_chain op (walked_operation signatures op first link.place operand) links
      ∙ ap (λ code. code ++ rest) (append_assoc left right sign)
      ∙ append_assoc left (right ++ sign) rest

  -- a chain has as many elements as its first operand
  pub size-walked_chain : (op : BitOp) (first : Walked) (links : List Link)
      → size_of signatures (walked_chain signatures counters op first (links_of w signatures declared links)).is ≡ size_of signatures first.is
  size-walked_chain op first [] = refl
  size-walked_chain op first (link ∷ links) =
      size-walked_chain op (walked_operation signatures op first link.place (operand_of link)) links

  -- the steps of shifts are those of the operand, then those of the signs
  pub steps-walked_shifts : (first : Walked) (moves : List ShiftLink)
      → (walked_shifts w signatures counters first moves).steps ≡ first.steps ++ moves_steps w counters (size_of signatures first.is) moves
  steps-walked_shifts first [] = sym (append-nil first.steps)
  steps-walked_shifts first (move ∷ moves) =
      let sign : List Step = shift_step w move.place (size_of signatures first.is) (computed move.amount counters) ∷ [] in
      steps-walked_shifts (walked_shift w signatures counters first move) moves
      ∙ append_assoc first.steps sign (moves_steps w counters 1 moves)

  -- the code of shifts is that of the operand, then a shift each
  pub code-walked_shifts : (first : Walked) (moves : List ShiftLink)
      → code_of signatures declared (walked_shifts w signatures counters first moves).is ≡ code_of signatures declared first.is ++ moves_code counters moves
  code-walked_shifts first [] = sym (append-nil (code_of signatures declared first.is))
  code-walked_shifts first (move ∷ moves) =
      let sign : List Operation = make.Shift move.kind (natural (computed move.amount counters).value) ∷ [] in
      code-walked_shifts (walked_shift w signatures counters first move) moves
      ∙ append_assoc (code_of signatures declared first.is) sign (moves_code counters moves)

  -- how many elements something has after shifts
  pub size-walked_shifts : (first : Walked) (moves : List ShiftLink)
      → size_of signatures (walked_shifts w signatures counters first moves).is ≡ moved_size (size_of signatures first.is) moves
  size-walked_shifts first [] = refl
  size-walked_shifts first (move ∷ []) = refl
  size-walked_shifts first (move ∷ second ∷ moves) = size-walked_shifts (walked_shift w signatures counters first move) (second ∷ moves)
