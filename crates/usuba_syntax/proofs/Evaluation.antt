-- The steps of a derivation, done from the last one on.
use Rattle.std.proofs.Common.{◌+◌, ℕ, zero, suc, ◌<◌, List, [], ◌∷◌, ◌++◌, ◌≡◌, refl, ap, sym, ◌∙◌, Option, Some, None, IsTrue, slice_get, arith}
use Rattle.ll_reader.specs.Derivation.{Derives, items}
use Rattle.ll_reader.specs.Derivation as derivation
use Rattle.ll_reader.specs.declared.grammar.Item as Items
use Rattle.ll_reader.specs.declared.grammar.Item.TheVariants as due
use Rattle.ll_reader.specs.declared.grammar.Production.{Production}
use Rattle.ll_reader.specs.declared.grammar.Step.{Step}
use Rattle.ll_reader.specs.declared.grammar.Step.TheVariants.{Take, Choose}
use Rattle.usuba_parts.specs.Actions.{act, fits, or_same}
use Rattle.usuba_parts.specs.declared.part.Part.{Part}
use Rattle.usuba_parts.specs.declared.part.Part.TheVariants as part
use Rattle.usuba_syntax.specs.Values.{values, part_of, action_of, HasValue, IsReady, IsDone}
use Rattle.usuba_syntax.specs.declared.table.TheConstants.{PRODUCTIONS}
use Rattle.usuba_syntax.specs.declared.rule.TheConstants as rules
use Rattle.usuba_tokens.specs.declared.token.Token.{Token}
use Rattle.std.proofs.Common.{subst, length, add-zero, zero-add}
use Rattle.usuba_syntax.proofs.Runs.{classes}
use Rattle.ll_reader.specs.Derivation.{IsText}
use Rattle.usuba_syntax.specs.Files.{IsFile}
use Rattle.usuba_syntax.proofs.Sound.{fitting}
use Rattle.usuba_syntax.proofs.Texts.{file_of_steps}
use Rattle.usuba_trees.specs.declared.File.{File}
use Rattle.std.proofs.lemmas.List.{append_assoc}
use mathlib.Core.List.{append-nil}
use Rattle.std.proofs.Common.{length-append, option_to_list, MatchOption}
use Rattle.usuba_parts.specs.Parts.{is_file}

-- how many of the steps take a token
abbrev pub takes : List Step → ℕ
takes [] = 0
takes (Take ∷ steps) = suc (takes steps)
takes (Choose k ∷ steps) = takes steps

takes-append : (a b : List Step) → takes (a ++ b) ≡ takes a + takes b
takes-append [] b = sym (zero-add (takes b))
takes-append (Take ∷ a) b = let h = takes-append a b in omega arith
takes-append (Choose k ∷ a) b = takes-append a b

-- a text has as many classes as steps that take one
takes_all : {table : List Production} {later : List Items.Item} {cs : List ℕ} {steps : List Step} → Derives table later cs steps → takes steps ≡ length cs
takes_all derivation.done = refl
takes_all (derivation.token d) = ap suc (takes_all d)
takes_all (derivation.rule at q d) = takes_all d

length-classes : (ts : List Token) → length (classes ts) ≡ length ts
length-classes [] = refl
length-classes (t ∷ ts) = ap suc (length-classes ts)

-- the last steps of a derivation derive the last tokens
rest_derives : (l : List Step) {table : List Production} {later : List Items.Item} {cs : List ℕ} {s : List Step} → Derives table later cs (l ++ s) →
    (front ts : List Token) → cs ≡ classes (front ++ ts) → takes l ≡ length front → (others : List Items.Item) × Derives table others (classes ts) s
rest_derives [] {table = table} {later = later} {s = s} d [] ts e n = let P : List ℕ → Type 0 = λ xs. Derives table later xs s in (later, subst P e d)
rest_derives [] d (t ∷ front) ts e n = absurd (omega arith)
rest_derives (Take ∷ l) (derivation.token d) [] ts e n = absurd (omega arith)
rest_derives (Take ∷ l) (derivation.token d) (t ∷ front) ts e n = rest_derives l d front ts (cc) (omega arith)
rest_derives (Choose k ∷ l) (derivation.rule at q d) front ts e n = rest_derives l d front ts e n

-- a list that is not empty has a last element
last_of : {A : Type 0} (x : A) (xs : List A) → (front : List A) × (last : A) × (x ∷ xs ≡ front ++ last ∷ [])
last_of x [] = ([], x, refl)
last_of x (y ∷ xs) = let (front, last, e) = last_of y xs in (x ∷ front, last, ap (λ zs. x ∷ zs) e)

-- Some last steps are done: the parts are what they make of the last tokens.
pub record IsMidway (steps : List Step) (tokens : List Token) (left : List Step) (before : List Token) (parts : List Part) : Type 0 where
  pub done : List Step
  pub behind : List Token
  pub all_steps : steps ≡ left ++ done
  pub all_tokens : tokens ≡ before ++ behind
  pub counted : takes left ≡ length before
  pub made : parts ≡ values done behind

within_get : (table : List Production) (k : ℕ) (p : Production) → slice_get table k ≡ Some p → k < length table
within_get [] k p e = absurd (cc)
within_get (q ∷ table) zero p e = omega arith
within_get (q ∷ table) (suc k) p e = let h = within_get table k p e in omega arith

module _ (steps : List Step) (tokens : List Token) (d : Derives PRODUCTIONS (due.Rule rules.FILE ∷ []) (classes tokens) steps) where
  -- before the first of these steps no part is made
  pub midway_at_first : IsMidway steps tokens steps tokens []
  midway_at_first = record {
    done = [];
    behind = [];
    all_steps = sym (append-nil steps);
    all_tokens = sym (append-nil tokens);
    counted = takes_all d ∙ length-classes tokens;
    made = refl;
  }

  fits_next : (left : List Step) (k : ℕ) (before : List Token) (parts : List Part) → IsMidway steps tokens (left ++ Choose k ∷ []) before parts → IsTrue (fits (action_of k) parts)
  fits_next left k before parts m =
      let P : List Step → Type 0 = λ xs. Derives PRODUCTIONS (due.Rule rules.FILE ∷ []) (classes tokens) xs in
      let whole = subst P (m.all_steps ∙ append_assoc left (Choose k ∷ []) m.done) d in
      let counted : takes left ≡ length before = sym (add-zero (takes left)) ∙ sym (takes-append left (Choose k ∷ [])) ∙ m.counted in
      let r = rest_derives left whole before m.behind (ap classes m.all_tokens) counted in
      let F : List Part → Type 0 = λ xs. IsTrue (fits (action_of k) xs) in
      subst F (sym m.made) (fitting r.1 m.behind refl)

  in_table : {later : List Items.Item} {cs : List ℕ} {s : List Step} (k : ℕ) → Derives PRODUCTIONS later cs (Choose k ∷ s) → (p : Production) × (slice_get PRODUCTIONS k ≡ Some p)
  in_table k (derivation.rule {p = p} at q e) = (p, at)

  chosen_next : (left : List Step) (k : ℕ) (before : List Token) (parts : List Part) → IsMidway steps tokens (left ++ Choose k ∷ []) before parts → (p : Production) × (slice_get PRODUCTIONS k ≡ Some p)
  chosen_next left k before parts m =
      let P : List Step → Type 0 = λ xs. Derives PRODUCTIONS (due.Rule rules.FILE ∷ []) (classes tokens) xs in
      let whole = subst P (m.all_steps ∙ append_assoc left (Choose k ∷ []) m.done) d in
      let counted : takes left ≡ length before = sym (add-zero (takes left)) ∙ sym (takes-append left (Choose k ∷ [])) ∙ m.counted in
      let r = rest_derives left whole before m.behind (ap classes m.all_tokens) counted in
      in_table k r.1

  -- what the next step needs is there
  pub ready_next : (left : List Step) (step : Step) (before : List Token) (parts : List Part) →
      ((front behind : List Token) (t : Token) → tokens ≡ front ++ t ∷ behind → HasValue t) →
      IsMidway steps tokens (left ++ step ∷ []) before parts → IsReady step before parts
  ready_next left (Choose k) before parts valued m =
      let (p, at) = chosen_next left k before parts m in
      (within_get PRODUCTIONS k p at, fits_next left k before parts m)
  ready_next left Take [] parts valued m = let n = takes-append left (Take ∷ []) in let h = m.counted in absurd (omega arith)
  ready_next left Take (x ∷ before) parts valued m =
      let (front, last, e) = last_of x before in
      (front, last, e, valued front m.behind last (m.all_tokens ∙ ap (λ xs. xs ++ m.behind) e ∙ append_assoc front (last ∷ []) m.behind))

  -- after the next step one step more is done
  pub done_next : (left : List Step) (step : Step) (before after : List Token) (parts made : List Part) →
      IsMidway steps tokens (left ++ step ∷ []) before parts → IsDone step before parts after made → IsMidway steps tokens left after made
  done_next left (Choose k) before after parts made m w = record {
    done = Choose k ∷ m.done;
    behind = m.behind;
    all_steps = m.all_steps ∙ append_assoc left (Choose k ∷ []) m.done;
    all_tokens = m.all_tokens ∙ ap (λ xs. xs ++ m.behind) (sym w.0);
    counted = sym (add-zero (takes left)) ∙ sym (takes-append left (Choose k ∷ [])) ∙ m.counted ∙ ap length (sym w.0);
    made = sym (ap (or_same parts) w.1) ∙ ap (act (action_of k)) m.made;
  }
  done_next left Take before after parts made m w =
      let counted : takes left ≡ length after =
      (let n = takes-append left (Take ∷ []) in let l = length-append after (w.0 ∷ []) in let h = m.counted in let e = ap length w.1 in omega arith) in
      record {
        done = Take ∷ m.done;
        behind = w.0 ∷ m.behind;
        all_steps = m.all_steps ∙ append_assoc left (Take ∷ []) m.done;
        all_tokens = m.all_tokens ∙ ap (λ xs. xs ++ m.behind) w.1 ∙ append_assoc after (w.0 ∷ []) m.behind;
        counted = counted;
        made = w.2 ∙ ap (λ xs. part_of w.0 ∷ xs) m.made;
      }

  -- when all steps are done, the one part is the file
  pub file_at_last : (before : List Token) (parts : List Part) → IsMidway steps tokens [] before parts → (f : File) × IsFile tokens f × (parts ≡ part.File f ∷ [])
  file_at_last [] parts m =
      let (f, r) = file_of_steps tokens steps d in
      (f, r.is_file, m.made ∙ ap (λ xs. values xs m.behind) (sym m.all_steps) ∙ ap (values steps) (sym m.all_tokens) ∙ r.made)
  file_at_last (t ∷ before) parts m = let h = m.counted in absurd (omega arith)

-- a list of no elements
pub empty_by : {A : Type 0} (xs : List A) → 0 ≡ length xs → xs ≡ []
empty_by [] e = refl
empty_by (x ∷ xs) e = absurd (omega arith)

same_but_last : {A : Type 0} (xs ys : List A) (x y : A) → xs ++ x ∷ [] ≡ ys ++ y ∷ [] → xs ≡ ys
same_but_last [] [] x y e = refl
same_but_last [] (b ∷ []) x y e = absurd (cc)
same_but_last [] (b ∷ c ∷ ys) x y e = absurd (cc)
same_but_last (a ∷ []) [] x y e = absurd (cc)
same_but_last (a ∷ b ∷ xs) [] x y e = absurd (cc)
same_but_last (a ∷ xs) (b ∷ ys) x y e = let tail : xs ≡ ys = same_but_last xs ys x y (cc) in cc

-- what is left of a list after its last element was popped
pub popped : {A : Type 0} (all rest before : List A) (r : Option A) (x : A) (n m : ℕ) → n ≡ length all → all ≡ rest ++ option_to_list r →
    MatchOption r ((n ≡ 0) × (m ≡ 0)) (λ y. m + 1 ≡ n) → all ≡ before ++ x ∷ [] → rest ≡ before
popped all rest before None x n m l e cases w = let a = ap length w in let b = length-append before (x ∷ []) in let c = cases.0 in absurd (omega arith)
popped all rest before (Some y) x n m l e cases w = same_but_last rest before y x (sym e ∙ w)

-- the one part that is left is the file
pub is_file_on_top : (parts : List Part) (f : File) → parts ≡ part.File f ∷ [] → IsTrue (is_file parts)
is_file_on_top parts f e = rw e refl

-- the file that is taken off is the one that the tokens are
pub file_on_top : (tokens : List Token) (parts rest : List Part) (f g : File) → IsFile tokens f → parts ≡ part.File f ∷ [] → parts ≡ part.File g ∷ rest → IsFile tokens g
file_on_top tokens parts rest f g x e h = let same : f ≡ g = cc in subst (IsFile tokens) same x
