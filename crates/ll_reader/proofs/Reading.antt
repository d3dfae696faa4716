-- The reader's steps, as its loops see them: the stack's last element is due first.
use Rattle.std.proofs.Common.{◌≡◌, ℕ, ◌+◌, ◌<◌, ◌≤◌, List, [], ◌∷◌, ◌++◌, length, reverse, take, get_or, Some, Result, Ok, Err, sym, ap, ◌∙◌, subst, arith}
use Rattle.std.specs.Prelude.{IfErr, IsErrAnd}
use Rattle.std.proofs.lemmas.List.{take_more, take_all, length-take-le}
use Rattle.std.proofs.lemmas.Option.{get_or_from_slice_get, slice_get_within}
use Rattle.ll_reader.specs.declared.grammar.Frame.{Frame}
use Rattle.ll_reader.specs.declared.grammar.Item.{Item}
use Rattle.ll_reader.specs.declared.grammar.Item.TheVariants.{Token, Rule}
use Rattle.ll_reader.specs.declared.grammar.Production.{Production}
use Rattle.ll_reader.specs.declared.grammar.Step.{Step}
use Rattle.ll_reader.specs.declared.grammar.Step.TheVariants.{Take, Choose}
use Rattle.ll_reader.specs.declared.reader.ReadError.{ReadError}
use Rattle.ll_reader.specs.declared.reader.ReadError.TheVariants.{Syntax, TooDeep, Memory}
use Rattle.ll_reader.specs.Derivation.{items}
use Rattle.ll_reader.specs.Depth.{items_at}
use Rattle.ll_reader.specs.Private.Choice.{GoesOn}
use Rattle.ll_reader.specs.Answer.{IsSyntaxFault, IsTooDeepFault, IsFault}
use Rattle.ll_reader.specs.Private.Memory.{IsMemory}
use Rattle.ll_reader.specs.Predictive.{Facts, weight_of, Meet}
use Rattle.ll_reader.proofs.Weights.{lighter}
use Rattle.ll_reader.proofs.Opened.{pushed}
use Rattle.ll_reader.proofs.Machine.{plain, plain_opened, Stands, Expands, Ends, begins, enters, chooses, takes, stuck_at_end, stuck_at_token, stuck_at_rule, too_deep, finishes}

-- want of memory tells no fault
pub no_memory : {T : Type 0} (table : List Production) (frame : Frame) (classes : List ℕ) (r : Result T ReadError) → IsErrAnd r IsMemory → IfErr r (IsFault table frame classes)
no_memory table frame classes (Ok x) h = tt
no_memory table frame classes (Err (Syntax at)) h = absurd h
no_memory table frame classes (Err (TooDeep at)) h = absurd h
no_memory table frame classes (Err (Memory error)) h = tt

module _ (table : List Production) (frame : Frame) (facts : List Facts) (passed : Meet facts frame.start frame.end table) where
  pub few : length table < 65536
  few = passed.few

  pub number_inside : (a c k : ℕ) → GoesOn table a c k → k < length table
  number_inside a c k on = slice_get_within table k on.0 on.1

  pub short : (a c k : ℕ) (d : Production) → GoesOn table a c k → (get_or table k d).length ≤ 12
  short a c k d on =
      subst (λ (p : Production). p.length ≤ 12) (sym (get_or_from_slice_get table k on.0 d on.1)) (passed.each k on.0 on.1).room

  pub starts : (steps : List Step) (due one two : List (Item × ℕ)) → steps ≡ [] → due ≡ [] → one ≡ due ++ (Token frame.end, 0) ∷ [] → two ≡ one ++ (Rule frame.start, 0) ∷ [] → Stands table frame facts [] steps (reverse two)
  starts steps due one two no_steps none first second =
      let top : reverse one ≡ (Token frame.end, 0) ∷ [] = pushed due one (Token frame.end, 0) first ∙ ap (λ (xs : List (Item × ℕ)). (Token frame.end, 0) ∷ reverse xs) none in
      let both : reverse two ≡ (Rule frame.start, 0) ∷ (Token frame.end, 0) ∷ [] = pushed one two (Rule frame.start, 0) second ∙ ap (λ (xs : List (Item × ℕ)). (Rule frame.start, 0) ∷ xs) top in
      subst (λ (xs : List Step). Stands table frame facts [] xs (reverse two)) (sym no_steps) (subst (Stands table frame facts [] []) (sym both) (begins table frame facts passed))

  -- the last element is taken off the stack
  pub popped : (c : ℕ) (taken : List ℕ) (steps : List Step) (old new : List (Item × ℕ)) (item x : Item) (depth : ℕ) → old ≡ new ++ (item, depth) ∷ [] → item ≡ x → Expands table frame facts c taken steps (reverse old) → Expands table frame facts c taken steps ((x, depth) ∷ reverse new)
  popped c taken steps old new item x depth is same state =
      subst (Expands table frame facts c taken steps) (pushed new old (item, depth) is ∙ ap (λ (y : Item). (y, depth) ∷ reverse new) same) state

  -- nothing is left on it
  pub popped_none : (c : ℕ) (taken : List ℕ) (steps : List Step) (old : List (Item × ℕ)) → old ≡ [] → Expands table frame facts c taken steps (reverse old) → Expands table frame facts c taken steps []
  popped_none c taken steps old none state = subst (λ (xs : List (Item × ℕ)). Expands table frame facts c taken steps (reverse xs)) none state

  -- a production is put on it
  pub opened : (c : ℕ) (taken : List ℕ) (steps more : List Step) (a depth k : ℕ) (d : Production) (due new : List (Item × ℕ)) → GoesOn table a c k → more ≡ steps ++ Choose k ∷ [] → reverse new ≡ items_at depth (Some (get_or table k d)) ++ due → Expands table frame facts c taken steps ((Rule a, depth) ∷ due) → Expands table frame facts c taken more (reverse new)
  opened c taken steps more a depth k d due new on step is state =
      let read : get_or table k d ≡ on.0 = get_or_from_slice_get table k on.0 d on.1 in
      let top : reverse new ≡ items_at depth (Some on.0) ++ due = is ∙ ap (λ (p : Production). items_at depth (Some p) ++ due) read in
      subst (Expands table frame facts c taken more) (sym top) (subst (λ (xs : List Step). Expands table frame facts c taken xs (items_at depth (Some on.0) ++ due)) (sym step) (chooses table frame facts passed c taken steps a depth k on.0 due on.1 on.2 on.3 state))

  pub less : (c : ℕ) (a depth k : ℕ) (d : Production) (old new after : List (Item × ℕ)) (item : Item) → GoesOn table a c k → old ≡ new ++ (item, depth) ∷ [] → item ≡ Rule a → reverse after ≡ items_at depth (Some (get_or table k d)) ++ reverse new → weight_of facts (plain (reverse after)) < weight_of facts (plain (reverse old))
  less c a depth k d old new after item on was same is =
      let read : get_or table k d ≡ on.0 = get_or_from_slice_get table k on.0 d on.1 in
      let top : plain (reverse after) ≡ items on.0 ++ plain (reverse new) = ap plain is ∙ ap (λ (p : Production). plain (items_at depth (Some p) ++ reverse new)) read ∙ plain_opened on.0 depth (reverse new) in
      let before : plain (reverse old) ≡ Rule a ∷ plain (reverse new) = ap plain (pushed new old (item, depth) was) ∙ ap (λ (x : Item). x ∷ plain (reverse new)) same in
      let lower = lighter table facts frame.start frame.end passed k a on.0 (plain (reverse new)) on.1 on.2 in
      subst (λ (xs : List Item). weight_of facts xs < weight_of facts (plain (reverse old))) (sym top) (subst (λ (xs : List Item). weight_of facts (items on.0 ++ plain (reverse new)) < weight_of facts xs) (sym before) lower)

  module _ (classes : List ℕ) (at : ℕ) (inside : at < length classes) where
    more_taken : take (at + 1) classes ≡ take at classes ++ get_or classes at 0 ∷ []
    more_taken = take_more classes at 0 inside

    counts : length (take at classes) ≡ at
    counts = let low : at ≤ length classes = omega arith in length-take-le at classes low

    pub fault_at_end : (steps : List Step) → Expands table frame facts (get_or classes at 0) (take at classes) steps [] → IsSyntaxFault table frame classes at
    fault_at_end steps state = stuck_at_end table frame facts classes at (get_or classes at 0) inside more_taken counts steps state

    pub fault_at_token : (steps : List Step) (w depth : ℕ) (due : List (Item × ℕ)) → (w ≡ get_or classes at 0 → ⊥) → Expands table frame facts (get_or classes at 0) (take at classes) steps ((Token w, depth) ∷ due) → IsSyntaxFault table frame classes at
    fault_at_token steps w depth due other state = stuck_at_token table frame facts classes at (get_or classes at 0) inside more_taken counts steps w depth due other state

    pub fault_at_rule : (steps : List Step) (a depth : ℕ) (due : List (Item × ℕ)) → ((k : ℕ) → GoesOn table a (get_or classes at 0) k → ⊥) → Expands table frame facts (get_or classes at 0) (take at classes) steps ((Rule a, depth) ∷ due) → IsSyntaxFault table frame classes at
    fault_at_rule steps a depth due none state = stuck_at_rule table frame facts classes at (get_or classes at 0) inside more_taken counts passed steps a depth due none state

    matched : (steps : List Step) (w depth : ℕ) (due : List (Item × ℕ)) → w ≡ get_or classes at 0 → Expands table frame facts (get_or classes at 0) (take at classes) steps ((Token w, depth) ∷ due) → Expands table frame facts (get_or classes at 0) (take at classes) steps ((Token (get_or classes at 0), depth) ∷ due)
    matched steps w depth due same state = subst (λ c. Expands table frame facts (get_or classes at 0) (take at classes) steps ((Token c, depth) ∷ due)) same state

    pub fault_of_depth : (steps : List Step) (w depth : ℕ) (due : List (Item × ℕ)) → w ≡ get_or classes at 0 → frame.deepest < depth → Expands table frame facts (get_or classes at 0) (take at classes) steps ((Token w, depth) ∷ due) → IsTooDeepFault table frame classes at
    fault_of_depth steps w depth due same high state =
        too_deep table frame facts classes at (get_or classes at 0) inside more_taken counts passed steps depth due high (matched steps w depth due same state)

    pub taken : (steps more : List Step) (w depth : ℕ) (due : List (Item × ℕ)) → w ≡ get_or classes at 0 → depth ≤ frame.deepest → more ≡ steps ++ Take ∷ [] → Expands table frame facts (get_or classes at 0) (take at classes) steps ((Token w, depth) ∷ due) → Stands table frame facts (take (at + 1) classes) more due
    taken steps more w depth due same low step state =
        subst (λ (ts : List ℕ). Stands table frame facts ts more due) (sym more_taken) (subst (λ (xs : List Step). Stands table frame facts (take at classes ++ get_or classes at 0 ∷ []) xs due) (sym step) (takes table frame facts (get_or classes at 0) (take at classes) steps depth due low (matched steps w depth due same state)))

    pub entered : (steps : List Step) (due : List (Item × ℕ)) → Stands table frame facts (take at classes) steps due → Expands table frame facts (get_or classes at 0) (take at classes) steps due
    entered steps due stands = enters table frame facts passed (get_or classes at 0) (take at classes) steps due stands

  pub finished : (classes front : List ℕ) (at : ℕ) (steps : List Step) (due : List (Item × ℕ)) → classes ≡ front ++ frame.end ∷ [] → length classes ≤ at → Stands table frame facts (take at classes) steps due → Ends table frame facts classes steps
  finished classes front at steps due is past stands =
      finishes table frame facts classes front steps due is (subst (λ (ts : List ℕ). Stands table frame facts ts steps due) (take_all at classes past) stands)
