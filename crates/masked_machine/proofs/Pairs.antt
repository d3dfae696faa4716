-- What the pair loops of products and refreshes do with one pair.
use Rattle.std.proofs.Common.{◌≡◌, ℕ, ◌+◌, ◌%◌, ◌^◌, ◌<◌, List, [], ◌∷◌, ◌++◌, drop, set, get_or, slice_get, length, Some, Ok, refl, ap, ◌∙◌, arith, bit_xor}
use Rattle.std.specs.Prelude.{codes, slice_index}
use Rattle.std.proofs.lemmas.Bool.{cond-true, lt-ltb}
use Rattle.std.proofs.lemmas.List.{get_or-set_same, set-set, drop_more}
use Rattle.std.proofs.lemmas.Nat.{and_mask}
use Rattle.std.proofs.lemmas.Option.{slice_get-get_or}
use Rattle.std.proofs.Math.Nat.{mod-eq_of_lt}
use Rattle.c_tree.specs.declared.CExpr.TheVariants as e
use Rattle.c_tree.specs.declared.CIndex.TheVariants as index
use Rattle.c_tree.specs.declared.COp.TheVariants as op
use Rattle.c_machine.specs.Scope.{Binding, word, meant_by, row_of, word_of, index_value}
use Rattle.c_machine.specs.Machine.{State, evaluated, executed, assigned, stored, declared, drawn, with_word}
use Rattle.c_form.specs.Template.{cell, masked, draw, add_to}
use Rattle.usuba0.specs.Term.{ones}
use Rattle.masked_machine.proofs.Reading.{computed-cell, computed-two, evaluated-word, evaluated-number, evaluated-random, executed-assign, executed-let}

-- a state in which `c` holds a row
abbrev pub holding : List Binding → List (List ℕ) → ℕ → List ℕ → List ℕ → State
holding scope memory c row stream = record { scope = scope; memory = set memory c row; stream = stream }

-- a name with its word, after the others
abbrev pub and_word : List Binding → List ℕ → ℕ → List Binding
and_word scope name u = scope ++ record { name = name; meaning = word u } ∷ []

module _ (B bits d : ℕ) (memory : List (List ℕ)) (c : ℕ) (within : c < length memory) where
  -- a word is drawn, and cut to B bits
  pub draw_done : (scope : List Binding) (row words : List ℕ) (n : ℕ) → n < length words
      → executed d bits (draw (ones B) (codes "r")) (holding scope memory c row (drop n words))
      ≡ Ok (holding (and_word scope (codes "r") (slice_index words n % 2 ^ B)) memory c row (drop (n + 1) words))
  draw_done scope row words n below =
      let state = holding scope memory c row (drop n words) in
      let one : evaluated e.Random scope (set memory c row) (drop n words) ≡ Ok (get_or words n 0, drop (n + 1) words) =
      evaluated-random scope (set memory c row) (drop n words) ∙ ap drawn (drop_more words n 0 below) in
      let cut : evaluated (masked (ones B) e.Random) scope (set memory c row) (drop n words) ≡ Ok (slice_index words n % 2 ^ B, drop (n + 1) words) =
      computed-two scope (set memory c row) op.And e.Random (e.Number (ones B)) (get_or words n 0) (ones B) (slice_index words n % 2 ^ B)
      (drop n words) (drop (n + 1) words) (drop (n + 1) words) one
      (evaluated-number scope (set memory c row) (ones B) (drop (n + 1) words)) (ap Some (and_mask (get_or words n 0) B)) in
      executed-let d bits state (codes "r") (masked (ones B) e.Random) ∙ ap (declared state (codes "r")) cut

  -- a word is added to a share of `c`
  pub add_done : (scope : List Binding) (row stream : List ℕ) (share : List ℕ) (name : List ℕ) (i u : ℕ)
      → row_of (meant_by scope (codes "c")) ≡ Some c → index_value scope (index.Counter share) ≡ i → word_of (meant_by scope name) ≡ u
      → i < length row → bit_xor (get_or row i 0) u < 2 ^ bits
      → executed d bits (add_to share name) (holding scope memory c row stream)
      ≡ Ok (holding scope memory c (set row i (bit_xor (get_or row i 0) u)) stream)
  add_done scope row stream share name i u array place named below small =
      let state = holding scope memory c row stream in
      let held : get_or (set memory c row) c [] ≡ row = get_or-set_same memory c row [] within in
      let sum = bit_xor (get_or row i 0) u in
      let fits : sum % 2 ^ bits ≡ sum = mod-eq_of_lt small in
      let value : evaluated (e.Two op.Xor (cell (codes "c") share) (e.Word name)) scope (set memory c row) stream ≡ Ok (sum, stream) =
      computed-two scope (set memory c row) op.Xor (cell (codes "c") share) (e.Word name) (get_or row i 0) u sum stream stream stream
      (computed-cell scope (set memory c row) (codes "c") (index.Counter share) c i (get_or row i 0) stream array place
      (ap (λ r. slice_get r i) held ∙ slice_get-get_or row i 0 below))
      (evaluated-word scope (set memory c row) name stream ∙ ap (λ w. Ok (w, stream)) named)
      refl in
      executed-assign d bits state (codes "c") (index.Counter share) (e.Two op.Xor (cell (codes "c") share) (e.Word name))
      ∙ ap (assigned bits state (codes "c") (index.Counter share)) value
      ∙ ap (stored state stream)
      ((λ k. with_word (set memory c row) (array k) (place k) (fits k))
      ∙ cond-true _ _ _ (lt-ltb i (length (get_or (set memory c row) c [])) (omega (arith, ap length held, below)))
      ∙ ap Some (ap (λ r. set (set memory c row) c (set r i sum)) held ∙ set-set memory c row (set row i sum)))
