-- What the reader answers to the classes of tokens, as faults of the tokens.
use Rattle.std.proofs.Common.{◌≡◌, ◌<◌, ◌≤◌, ◌+◌, ◌-◌, ℕ, zero, suc, List, [], ◌∷◌, ◌++◌, length, take, drop, refl, sym, ap, ◌∙◌, subst, arith, ◌⊎◌, inl, inr, length-append}
use Rattle.std.specs.Prelude.{IfSome}
use Rattle.std.proofs.Math.Seq.{take-add}
use Rattle.std.proofs.lemmas.Bool.{cases_lt}
use Rattle.std.proofs.lemmas.List.{append-nil, length-map, take-append-le, take-append-drop, take-map, take_all}
use Rattle.ll_reader.specs.Answer as answer
use Rattle.ll_reader.specs.Depth.{KeepsDepth}
use Rattle.ll_reader.specs.Derivation.{IsText, BeginsText}
use Rattle.ll_reader.specs.declared.grammar.Step.{Step}
use Rattle.ll_reader.specs.declared.reader.ReadError.{ReadError}
use Rattle.ll_reader.specs.declared.reader.ReadError.TheVariants as read
use Rattle.tor_edge.specs.declared.place.Place.{Place}
use Rattle.usuba_syntax.specs.Classes.{class_of, behind}
use Rattle.usuba_syntax.specs.Files.{IsFile, BeginsFile}
use Rattle.usuba_syntax.specs.Sources.{place_at, IsWrongAtEnd, IsSyntaxFault, at_token, at_end, IsNumberTooBig, IsTooDeep, IsFaultless, IsFirstFault, fault_of}
use Rattle.usuba_syntax.specs.declared.class.TheConstants as class
use Rattle.usuba_syntax.specs.SourceFaults as fault
use Rattle.usuba_syntax.specs.declared.read.ReadFault.{ReadFault}
use Rattle.usuba_syntax.specs.declared.table.TheConstants.{PRODUCTIONS, FRAME}
use Rattle.usuba_syntax.proofs.Begun.{begins_file, begins_text, begins_shorter, file_text, broken_begins_none, same_text, same_begun}
use Rattle.usuba_syntax.proofs.NestedFaults.{AreEnds, shallow_text, shallow_before_syntax, shallow_before_deep, too_deep, deep_inside}
use Rattle.usuba_syntax.proofs.OpenCounts.{listed_deep, is_too_deep}
use Rattle.usuba_syntax.proofs.Runs.{classes}
use Rattle.usuba_tokens.specs.declared.token.Ending.{Ending}
use Rattle.usuba_tokens.specs.declared.token.Ending.TheVariants as ending
use Rattle.usuba_tokens.specs.declared.token.Token.{Token}
use Rattle.usuba_trees.specs.declared.File.{File}

-- ---- the first classes

length_classes : (tokens : List Token) → length (classes tokens) ≡ length tokens
length_classes tokens = length-map tokens class_of

take_classes : (tokens : List Token) (ns : List ℕ) (n : ℕ) → n ≤ length tokens → take n (classes tokens ++ ns) ≡ classes (take n tokens)
take_classes tokens ns n h =
    let l = length_classes tokens in
    take-append-le n (classes tokens) ns (omega arith) ∙ take-map class_of n tokens

-- the first classes reach behind the tokens
record Past (tokens : List Token) (c : ℕ) (ns : List ℕ) (n : ℕ) : Type 0 where
  left : List ℕ
  is : take n (classes tokens ++ c ∷ ns) ≡ classes tokens ++ c ∷ left

take_past : (tokens : List Token) (c : ℕ) (ns : List ℕ) (n : ℕ) → length tokens < n → Past tokens c ns n
take_past [] c ns zero h = absurd (omega arith)
take_past [] c ns (suc n) h = record { left = take n ns; is = refl }
take_past (t ∷ tokens) c ns zero h = absurd (omega arith)
take_past (t ∷ tokens) c ns (suc n) h =
    let r = take_past tokens c ns n (omega arith) in
    record { left = r.left; is = ap (λ xs. class_of t ∷ xs) r.is }

past_broken : (tokens : List Token) (ns : List ℕ) (n : ℕ) → length tokens < n → BeginsText PRODUCTIONS FRAME (take n (classes tokens ++ class.BROKEN ∷ ns)) → ⊥
past_broken tokens ns n h b =
    let r = take_past tokens class.BROKEN ns n h in
    broken_begins_none tokens r.left (same_begun r.is b)

-- ---- what begins a file has no syntax fault

-- each way to a syntax fault
fault_cases : (tokens : List Token) (end : Ending) {k : ℕ} → IsSyntaxFault tokens end k → ((k < length tokens) × (¬ BeginsFile (take (k + 1) tokens))) ⊎ ((k ≡ length tokens) × IsWrongAtEnd tokens end)
fault_cases tokens end (at_token h none) = inl (h, none)
fault_cases tokens end (at_end wrong) = inr (refl, wrong)

front_begins : (tokens : List Token) (n m : ℕ) → BeginsFile (take (n + m) tokens) → BeginsFile (take n tokens)
front_begins tokens n m b =
    let P : List Token → Type 0 = BeginsFile in
    begins_shorter (take n tokens) (take m (drop n tokens)) (subst P (take-add n m tokens) b)

fewer_begin : (tokens : List Token) (j n : ℕ) → j ≤ n → BeginsFile (take n tokens) → BeginsFile (take j tokens)
fewer_begin tokens j n h b =
    let e : n ≡ j + (n - j) = omega arith in
    let P : ℕ → Type 0 = λ k. BeginsFile (take k tokens) in
    front_begins tokens j (n - j) (subst P e b)

begun_faultless : (tokens : List Token) (end : Ending) (n j : ℕ) → BeginsFile (take n tokens) → n ≤ length tokens → j < n → ¬ IsSyntaxFault tokens end j
begun_faultless tokens end n j b le lt f =
    elim (fault_cases tokens end f) [ inl (h, none) ↦ none (fewer_begin tokens (j + 1) n (omega arith) b) | inr (h, wrong) ↦ absurd (omega arith) ]

-- ---- the three answers

-- at a token stand neither wrong syntax nor nesting too deep
pub record IsSound (tokens : List Token) (end : Ending) (k : ℕ) : Type 0 where
  pub syntax : ¬ IsSyntaxFault tokens end k
  pub deep : ¬ IsTooDeep tokens k

-- what the reader takes for a text ends well
pub text_ends : (tokens : List Token) (end : Ending) (steps : List Step) → IsText PRODUCTIONS FRAME (classes tokens ++ behind end) steps → (at : Place) × (end ≡ ending.End at)
text_ends tokens (ending.End at) steps d = (at, refl)
text_ends tokens (ending.Broken at) steps d =
    absurd (broken_begins_none tokens (class.END ∷ []) ([], steps, same_text (sym (append-nil _)) d))

behind_ends : (end : Ending) → AreEnds (behind end)
behind_ends (ending.End at) = (refl, tt)
behind_ends (ending.Broken at) = (refl, (refl, tt))

-- in a text nothing is at fault
pub text_sound : (tokens : List Token) (at : Place) (steps : List Step) (file : File) → IsText PRODUCTIONS FRAME (classes tokens ++ class.END ∷ []) steps →
    KeepsDepth PRODUCTIONS FRAME (length (classes tokens ++ class.END ∷ [])) steps → IsFile tokens file → (k : ℕ) → IsSound tokens (ending.End at) k
text_sound tokens at steps f d keeps x k = record {
  syntax = λ wrong. elim (fault_cases tokens (ending.End at) wrong) [ inl (h, none) ↦ none begins | inr (h, none) ↦ none f x ];
  deep = λ deep. shallow_text tokens (class.END ∷ []) steps (refl, tt) d keeps k (listed_deep tokens k deep);
} where
  begins : BeginsFile (take (k + 1) tokens)
  begins =
      let P : List Token → Type 0 = BeginsFile in
      let Q : List Token → Type 0 = λ ts. IsFile ts f in
      begins_shorter (take (k + 1) tokens) (drop (k + 1) tokens)
      (subst P (sym (take-append-drop (k + 1) tokens)) ([], f, subst Q (sym (append-nil tokens)) x))

-- the reader's places are those of tokens, or of what stands behind them
length_behind : (tokens : List Token) (end : Ending) → length (classes tokens ++ behind end) ≡ length tokens + length (behind end)
length_behind tokens end = length-append (classes tokens) (behind end) ∙ ap (λ n. n + length (behind end)) (length_classes tokens)

at_most : (tokens : List Token) (end : Ending) (n : ℕ) → n < length (classes tokens ++ behind end) → BeginsText PRODUCTIONS FRAME (take n (classes tokens ++ behind end)) → n ≤ length tokens
at_most tokens (ending.End place) n inside b = let l = length_behind tokens (ending.End place) in omega arith
at_most tokens (ending.Broken place) n inside b =
    elim (cases_lt (length tokens) n) [ inl h ↦ absurd (past_broken tokens (class.END ∷ []) n h b) | inr h ↦ h ]

-- the reader's wrong syntax is that of the tokens
here_wrong : (tokens : List Token) (end : Ending) (at : ℕ) → at < length tokens → (¬ BeginsText PRODUCTIONS FRAME (take (at + 1) (classes tokens ++ behind end))) → IsSyntaxFault tokens end at
here_wrong tokens end at h none =
    at_token h (λ b. none (same_begun (sym (take_classes tokens (behind end) (at + 1) (omega arith))) (begins_text (take (at + 1) tokens) b)))

end_wrong : (tokens : List Token) (end : Ending) → (¬ BeginsText PRODUCTIONS FRAME (take (length tokens + 1) (classes tokens ++ behind end))) → IsSyntaxFault tokens end (length tokens)
end_wrong tokens (ending.Broken place) none = at_end tt
end_wrong tokens (ending.End place) none = at_end (λ f x.
    let l = length_behind tokens (ending.End place) in
    let whole = take_all (length tokens + 1) (classes tokens ++ class.END ∷ []) (omega arith) in
    let r = file_text tokens f x in
    none (same_begun (sym whole) ([], r.0, same_text (sym (append-nil _)) r.1)))

syntax_here : (tokens : List Token) (end : Ending) (at : ℕ) → at ≤ length tokens → (¬ BeginsText PRODUCTIONS FRAME (take (at + 1) (classes tokens ++ behind end))) → IsSyntaxFault tokens end at
syntax_here tokens end at le none = elim (cases_lt at (length tokens)) [
  | inl h ↦ here_wrong tokens end at h none
  | inr h ↦
      (let e : length tokens ≡ at = omega arith in
      let P : ℕ → Type 0 = IsSyntaxFault tokens end in
      let Q : ℕ → Type 0 = λ n. ¬ BeginsText PRODUCTIONS FRAME (take (n + 1) (classes tokens ++ behind end)) in
      subst P e (end_wrong tokens end (subst Q (sym e) none)))
]

-- what is told of wrong syntax
pub record SyntaxAt (tokens : List Token) (end : Ending) (at : ℕ) : Type 0 where
  pub wrong : IsSyntaxFault tokens end at
  pub sound : (j : ℕ) → j < at → IsSound tokens end j

pub syntax_at : (tokens : List Token) (end : Ending) (at : ℕ) → answer.IsSyntaxFault PRODUCTIONS FRAME (classes tokens ++ behind end) at → SyntaxAt tokens end at
syntax_at tokens end at s =
    let le = at_most tokens end at s.inside s.before in
    let begins = begins_file (take at tokens) (same_begun (take_classes tokens (behind end) at le) s.before) in
    record {
      wrong = syntax_here tokens end at le s.here;
      sound = λ j h. record {
        syntax = begun_faultless tokens end at j begins le h;
        deep = λ deep. shallow_before_syntax tokens (behind end) at (behind_ends end) s j h (listed_deep tokens j deep);
      };
    }

-- what is told of nesting too deep
pub record DeepAt (tokens : List Token) (end : Ending) (at : ℕ) : Type 0 where
  pub right : ¬ IsSyntaxFault tokens end at
  pub deep : IsTooDeep tokens at
  pub sound : (j : ℕ) → j < at → IsSound tokens end j

pub deep_at : (tokens : List Token) (end : Ending) (at : ℕ) → answer.IsTooDeepFault PRODUCTIONS FRAME (classes tokens ++ behind end) at → DeepAt tokens end at
deep_at tokens end at s =
    let deep = too_deep tokens (behind end) at (behind_ends end) s in
    let inside : at < length tokens = deep_inside tokens at deep in
    let le : at + 1 ≤ length tokens = omega arith in
    let begins = begins_file (take (at + 1) tokens) (same_begun (take_classes tokens (behind end) (at + 1) le) s.begins) in
    record {
      right = begun_faultless tokens end (at + 1) at begins le (omega arith);
      deep = is_too_deep tokens at inside deep;
      sound = λ j h. record {
        syntax = begun_faultless tokens end (at + 1) j begins le (omega arith);
        deep = λ low. shallow_before_deep tokens (behind end) at (behind_ends end) s j h (listed_deep tokens j low);
      };
    }

-- ---- the first fault

faultless : (tokens : List Token) (end : Ending) (k : ℕ) → ((j : ℕ) → j < k → IsSound tokens end j) → ((j : ℕ) → j < k → ¬ IsNumberTooBig tokens j) →
    (j : ℕ) → j < k → IsFaultless tokens end j
faultless tokens end k sound small j h = record { syntax = (sound j h).syntax; big = small j h; deep = (sound j h).deep }

pub first_big : (tokens : List Token) (end : Ending) (k : ℕ) → ((j : ℕ) → j < k → IsSound tokens end j) → ((j : ℕ) → j < k → ¬ IsNumberTooBig tokens j) →
    IsNumberTooBig tokens k → IsFirstFault tokens end (fault.NumberTooBig (place_at tokens end k))
first_big tokens end k sound small big = (k, faultless tokens end k sound small, (refl, big))

pub first_syntax : (tokens : List Token) (end : Ending) (at : ℕ) → SyntaxAt tokens end at → ((j : ℕ) → j ≤ at → ¬ IsNumberTooBig tokens j) →
    IsFirstFault tokens end (fault.Syntax (place_at tokens end at))
first_syntax tokens end at s small =
    (at, faultless tokens end at s.sound (λ j h. small j (omega arith)), (refl, small at (omega arith), s.wrong))

pub first_deep : (tokens : List Token) (end : Ending) (at : ℕ) → DeepAt tokens end at → ((j : ℕ) → j ≤ at → ¬ IsNumberTooBig tokens j) →
    IsFirstFault tokens end (fault.TooDeep (place_at tokens end at))
first_deep tokens end at s small =
    (at, faultless tokens end at s.sound (λ j h. small j (omega arith)), (refl, small at (omega arith), s.right, s.deep))

-- ---- from the reader's answer

pub syntax_told : (tokens : List Token) (end : Ending) (error : ReadError) (at : ℕ) → answer.IsFault PRODUCTIONS FRAME (classes tokens ++ behind end) error →
    error ≡ read.Syntax at → SyntaxAt tokens end at
syntax_told tokens end error at h e =
    let P : ReadError → Type 0 = answer.IsFault PRODUCTIONS FRAME (classes tokens ++ behind end) in
    syntax_at tokens end at (subst P e h)

pub deep_told : (tokens : List Token) (end : Ending) (error : ReadError) (at : ℕ) → answer.IsFault PRODUCTIONS FRAME (classes tokens ++ behind end) error →
    error ≡ read.TooDeep at → DeepAt tokens end at
deep_told tokens end error at h e =
    let P : ReadError → Type 0 = answer.IsFault PRODUCTIONS FRAME (classes tokens ++ behind end) in
    deep_at tokens end at (subst P e h)

-- an error that tells the first fault
pub same_first_fault : (tokens : List Token) (end : Ending) {f g : ReadFault} → f ≡ g → IfSome (fault_of g) (IsFirstFault tokens end) → IfSome (fault_of f) (IsFirstFault tokens end)
same_first_fault tokens end e h = let P : ReadFault → Type 0 = λ r. IfSome (fault_of r) (IsFirstFault tokens end) in subst P (sym e) h
