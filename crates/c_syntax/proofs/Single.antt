-- Bytes spell one file at most, and then their syntax is not at fault; else it is at fault at one place.
use Rattle.std.proofs.Common.{◌≡◌, ◌<◌, ◌≤◌, ◌+◌, inl, inr, ℕ, zero, suc, List, [], ◌∷◌, ◌++◌, length, take, drop, get_or, refl, sym, ap, ◌∙◌, subst, arith, append_assoc, take-append-drop}
use Rattle.std.specs.Prelude.{All}
use Rattle.std.proofs.lemmas.Bool.{cases_lt}
use Rattle.std.proofs.lemmas.List.{get_or-take, get_or_past}
use Rattle.std.proofs.lemmas.List.Elements.{All-get_or}
use Rattle.ll_reader.specs.Depth.{token_depths}
use Rattle.ll_reader.specs.Derivation.{IsText, BeginsText}
use Rattle.ll_reader.specs.declared.grammar.Step.{Step}
use Rattle.tor_edge.specs.declared.place.Place.{Place}
use Rattle.usuba_tokens.specs.Tokens.{start, place_after}
use Rattle.c_grammar.specs.Classes.{classes_of}
use Rattle.c_grammar.specs.Grammar.{AreDerived, IsStop, place_at}
use Rattle.c_grammar.specs.declared.table.TheConstants.{PRODUCTIONS, FRAME}
use Rattle.c_subset.specs.Files.{IsFile}
use Rattle.c_syntax.specs.Syntax as syntax
use Rattle.c_syntax.specs.Syntax.{behind_lines, AreSpelled, SpellsFile, IsWrongLine, IsWrongToken}
use Rattle.c_tokens.specs.Tokens.{Spells}
use Rattle.c_tokens.specs.declared.opening.Opening.TheVariants.{Lines, Wrong}
use Rattle.c_tokens.specs.declared.token.Ending.{Ending}
use Rattle.c_tokens.specs.declared.token.Ending.TheVariants as ending
use Rattle.c_tokens.specs.declared.token.Token.{Token}
use Rattle.c_tree.specs.declared.CFile.{CFile}

abbrev OneSpelling : Type 0
OneSpelling = (at : Place) (text : List ℕ) (first second : List Token) (one other : Ending)
    → Spells at text first one → Spells at text second other → (first ≡ second) × (one ≡ other)

abbrev OneFile : Type 0
OneFile = (bits : ℕ) (tokens : List Token) (first second : CFile) → IsFile bits tokens first → IsFile bits tokens second → first ≡ second

abbrev FilesDerived : Type 0
FilesDerived = (bits : ℕ) (tokens : List Token) (file : CFile) (at : Place) → IsFile bits tokens file
    → (steps : List Step) × AreDerived tokens (ending.End at) steps

-- bytes have one type, one list of tokens and one end
same_spelled : OneSpelling → (bytes : List ℕ) (bits other : ℕ) (first second : List Token) (end stop : Ending)
    → AreSpelled bytes bits first end → AreSpelled bytes other second stop
    → (bits ≡ other) × (first ≡ second) × (end ≡ stop)
same_spelled once bytes bits other first second end stop x y =
    let lines : Lines bits x.n ≡ Lines other y.n = sym x.lines ∙ y.lines in
    let count : y.n ≡ x.n = cc in
    let same = once behind_lines (drop x.n bytes) first second end stop x.behind
    (subst (λ (n : ℕ). Spells behind_lines (drop n bytes) second stop) count y.behind) in
    let types : bits ≡ other = cc in
    (types, same.0, same.1)

-- bytes spell one file at most
pub one_source : OneSpelling → OneFile → (bytes : List ℕ) (first second : CFile) → SpellsFile bytes first → SpellsFile bytes second
    → first ≡ second
one_source once one bytes first second x y =
    let same = same_spelled once bytes x.bits y.bits x.found y.found (ending.End x.end) (ending.End y.end) x.spelled y.spelled in
    one x.bits x.found first second x.is
    (subst (λ (bits : ℕ). IsFile bits x.found second) (sym same.0) (subst (λ (ts : List Token). IsFile y.bits ts second) (sym same.1) y.is))

within_at : (depths : List ℕ) (count k : ℕ) → k < count → All (λ depth. depth ≤ 128) (take count depths) → get_or depths k 0 ≤ 128
within_at depths count k below all =
    let same = get_or-take count depths k 0 below in
    elim (cases_lt k (length (take count depths))) [
      | inl inside ↦ (let held = All-get_or (λ depth. depth ≤ 128) (take count depths) k 0 inside all in omega (arith, same, held))
      | inr past ↦ (let none = get_or_past (take count depths) k 0 past in omega (arith, same, none))
    ]

-- what is derived does not stop
not_stopped : (tokens : List Token) (end : Ending) (steps : List Step) (k : ℕ) → AreDerived tokens end steps → IsStop tokens end k → ⊥
not_stopped tokens end steps k derived (inl fault) =
    let whole = take-append-drop (k + 1) (classes_of tokens end) in
    fault.here (drop (k + 1) (classes_of tokens end), steps, subst (λ (cs : List ℕ). IsText PRODUCTIONS FRAME cs steps) (sym whole) derived.text)
not_stopped tokens end steps k derived (inr fault) =
    let whole = take-append-drop (k + 1) (classes_of tokens end) in
    let deep = fault.deep (drop (k + 1) (classes_of tokens end)) steps
    (subst (λ (cs : List ℕ). IsText PRODUCTIONS FRAME cs steps) (sym whole) derived.text) in
    let within = within_at (token_depths PRODUCTIONS FRAME steps) (length (classes_of tokens end)) k fault.inside derived.shallow in
    absurd (omega (arith, deep, within))

-- the syntax of bytes that spell a file is not at fault
pub never_both : OneSpelling → FilesDerived → (bytes : List ℕ) (f : CFile) (place : Place) → SpellsFile bytes f
    → syntax.IsSyntaxFault bytes place → ⊥
never_both once derived bytes f place x (inl line) =
    let lines : Lines x.bits x.spelled.n ≡ Wrong line.n = sym x.spelled.lines ∙ line.wrong in absurd (cc)
never_both once derived bytes f place x (inr token) =
    let same = same_spelled once bytes x.bits token.bits x.found token.found (ending.End x.end) token.end x.spelled token.spelled in
    let made = derived x.bits x.found f x.end x.is in
    not_stopped x.found (ending.End x.end) made.0 token.k made.1
    (subst (λ (e : Ending). IsStop x.found e token.k) (sym same.2) (subst (λ (ts : List Token). IsStop ts token.end token.k) (sym same.1) token.stop))

-- ---- one place at most

-- the first classes are part of more of them
longer : (i j : ℕ) (classes : List ℕ) → i ≤ j → (more : List ℕ) × (take i classes ++ more ≡ take j classes)
longer zero j classes l = (take j classes, refl)
longer (suc i) zero classes l = absurd (omega arith)
longer (suc i) (suc j) [] l = ([], refl)
longer (suc i) (suc j) (c ∷ classes) l =
    let rest = longer i j classes (omega (arith, l)) in (rest.0, ap (λ (cs : List ℕ). c ∷ cs) rest.1)

-- a text that goes on from more classes goes on from fewer
text_from : (i j : ℕ) (classes rest : List ℕ) (steps : List Step) → i ≤ j → IsText PRODUCTIONS FRAME (take j classes ++ rest) steps
    → (more : List ℕ) × IsText PRODUCTIONS FRAME (take i classes ++ more) steps
text_from i j classes rest steps l text =
    let part = longer i j classes l in
    let whole : take j classes ++ rest ≡ take i classes ++ (part.0 ++ rest) =
    ap (λ (cs : List ℕ). cs ++ rest) (sym part.1) ∙ append_assoc (take i classes) part.0 rest in
    (part.0 ++ rest, subst (λ (cs : List ℕ). IsText PRODUCTIONS FRAME cs steps) whole text)

-- classes that begin a text begin one with fewer of them
begins_less : (i j : ℕ) (classes : List ℕ) → i ≤ j → BeginsText PRODUCTIONS FRAME (take j classes) → BeginsText PRODUCTIONS FRAME (take i classes)
begins_less i j classes l begins =
    let text = text_from i j classes begins.0 begins.1 l begins.2 in (text.0, begins.1, text.1)

-- tokens do not stop at two places
no_later : (tokens : List Token) (end : Ending) (i j : ℕ) → i < j → IsStop tokens end i → IsStop tokens end j → ⊥
no_later tokens end i j below (inl x) (inl y) = x.here (begins_less (i + 1) j (classes_of tokens end) (omega (arith, below)) y.before)
no_later tokens end i j below (inl x) (inr y) =
    x.here (begins_less (i + 1) (j + 1) (classes_of tokens end) (omega (arith, below)) y.begins)
no_later tokens end i j below (inr x) (inl y) =
    let begins = y.before in
    let text = text_from (i + 1) j (classes_of tokens end) begins.0 begins.1 (omega (arith, below)) begins.2 in
    let deep = x.deep text.0 begins.1 text.1 in
    let shallow = within_at (token_depths PRODUCTIONS FRAME begins.1) j i below (y.shallow begins.0 begins.1 begins.2) in
    absurd (omega (arith, deep, shallow))
no_later tokens end i j below (inr x) (inr y) =
    let begins = y.begins in
    let text = text_from (i + 1) (j + 1) (classes_of tokens end) begins.0 begins.1 (omega (arith, below)) begins.2 in
    let deep = x.deep text.0 begins.1 text.1 in
    let shallow = within_at (token_depths PRODUCTIONS FRAME begins.1) j i below (y.shallow begins.0 begins.1 begins.2) in
    absurd (omega (arith, deep, shallow))

one_stop : (tokens : List Token) (end : Ending) (i j : ℕ) → IsStop tokens end i → IsStop tokens end j → i ≡ j
one_stop tokens end i j x y = elim (cases_lt i j) [
  | inl below ↦ absurd (no_later tokens end i j below x y)
  | inr least ↦ (elim (cases_lt j i) [
    | inl below ↦ absurd (no_later tokens end j i below y x)
    | inr most ↦ omega (arith, least, most)
  ])
]

-- the syntax of bytes is at fault at one place at most
pub one_place : OneSpelling → (bytes : List ℕ) (first second : Place) → syntax.IsSyntaxFault bytes first → syntax.IsSyntaxFault bytes second → first ≡ second
one_place once bytes first second (inl x) (inl y) =
    let wrong : Wrong x.n ≡ Wrong y.n = sym x.wrong ∙ y.wrong in
    let count : x.n ≡ y.n = cc in
    x.at ∙ ap (λ (n : ℕ). place_after start (take n bytes)) count ∙ sym y.at
one_place once bytes first second (inl x) (inr y) =
    let lines : Wrong x.n ≡ Lines y.bits y.spelled.n = sym x.wrong ∙ y.spelled.lines in absurd (cc)
one_place once bytes first second (inr x) (inl y) =
    let lines : Lines x.bits x.spelled.n ≡ Wrong y.n = sym x.spelled.lines ∙ y.wrong in absurd (cc)
one_place once bytes first second (inr x) (inr y) =
    let same = same_spelled once bytes x.bits y.bits x.found y.found x.end y.end x.spelled y.spelled in
    let stop : IsStop x.found x.end y.k =
    subst (λ (e : Ending). IsStop x.found e y.k) (sym same.2) (subst (λ (ts : List Token). IsStop ts y.end y.k) (sym same.1) y.stop) in
    let k : x.k ≡ y.k = one_stop x.found x.end x.k y.k x.stop stop in
    x.at
    ∙ ap (place_at x.found x.end) k
    ∙ ap (λ (e : Ending). place_at x.found e y.k) same.2
    ∙ ap (λ (ts : List Token). place_at ts y.end y.k) same.1
    ∙ sym y.at
