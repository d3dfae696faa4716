-- What is read of bytes, from what the reader answers to the classes of their tokens.
use Rattle.std.proofs.Common.{◌≡◌, ◌<◌, ℕ, List, [], ◌∷◌, ◌++◌, length, slice_get, Option, Some, None, Result, Ok, Err, refl, sym, ap, ◌∙◌, subst, append_assoc}
use Rattle.std.specs.Prelude.{IfSome}
use Rattle.std.specs.Result.{IsErrAnd, IfErr}
use Rattle.std.specs.declared.alloc.AllocError.{AllocError}
use Rattle.ll_reader.specs.Answer.{IsFault}
use Rattle.ll_reader.specs.Depth.{KeepsDepth}
use Rattle.ll_reader.specs.Derivation.{IsText}
use Rattle.ll_reader.specs.Predictive.{Meet}
use Rattle.ll_reader.proofs.Search.{finds}
use Rattle.ll_reader.proofs.Passing.{found, found_meet}
use Rattle.ll_reader.specs.declared.grammar.Step.{Step}
use Rattle.ll_reader.specs.declared.reader.ReadError.{ReadError}
use Rattle.usuba_syntax.specs.Classes.{behind}
use Rattle.usuba_syntax.specs.Files.{IsFile}
use Rattle.usuba_syntax.specs.Sources.{place_at, IsNumberTooBig, IsFirstFault, SpellsFile, HasFault, fault_of, IsOrMemory}
use Rattle.usuba_syntax.specs.Values.{HasValue}
use Rattle.usuba_syntax.specs.declared.class.TheConstants as class
use Rattle.usuba_syntax.specs.declared.read.ReadFault.{ReadFault}
use Rattle.usuba_syntax.specs.SourceFaults.{SourceFault}
use Rattle.usuba_syntax.specs.SourceFaults as fault
use Rattle.usuba_syntax.specs.declared.read.ReadFault.TheVariants as error
use Rattle.usuba_syntax.specs.declared.table.TheConstants.{PRODUCTIONS, FRAME}
use Rattle.usuba_syntax.proofs.Begun.{same_text}
use Rattle.usuba_syntax.proofs.Faults.{text_ends, text_sound, first_big, IsSound}
use Rattle.usuba_syntax.proofs.Runs.{classes}
use Rattle.usuba_syntax.proofs.Texts.{file_of_text}
use Rattle.usuba_tokens.specs.Tokens.{Spells, start}
use Rattle.usuba_tokens.specs.declared.token.Ending.{Ending}
use Rattle.usuba_tokens.specs.declared.token.Ending.TheVariants as ending
use Rattle.usuba_tokens.specs.declared.token.Token.{Token}
use Rattle.usuba_trees.specs.declared.File.{File}

pub predictive : Meet (found PRODUCTIONS FRAME) FRAME.start FRAME.end PRODUCTIONS
unfolding finds
predictive = found_meet PRODUCTIONS FRAME refl

-- the end stands last
pub ends_last : (tokens : List Token) (end : Ending) → (front : List ℕ) × (classes tokens ++ behind end ≡ front ++ class.END ∷ [])
ends_last tokens (ending.End at) = (classes tokens, refl)
ends_last tokens (ending.Broken at) = (classes tokens ++ class.BROKEN ∷ [], sym (append_assoc (classes tokens) (class.BROKEN ∷ []) (class.END ∷ [])))

-- what the reader takes has the end right behind the tokens
pub text_ended : (tokens : List Token) (end : Ending) (steps : List Step) → IsText PRODUCTIONS FRAME (classes tokens ++ behind end) steps →
    IsText PRODUCTIONS FRAME (classes tokens ++ class.END ∷ []) steps
text_ended tokens end steps d =
    let (at, e) = text_ends tokens end steps d in
    same_text (ap (λ last. classes tokens ++ behind last) e) d

get_seam : (front after : List Token) (t : Token) → slice_get (front ++ t ∷ after) (length front) ≡ Some t
get_seam [] after t = refl
get_seam (s ∷ front) after t = get_seam front after t

-- with no number too big each token has its value
pub all_valued : (tokens : List Token) → ((k : ℕ) → ¬ IsNumberTooBig tokens k) → (front after : List Token) (t : Token) → tokens ≡ front ++ t ∷ after → HasValue t
all_valued tokens small front after t e big =
    small (length front) (t, ap (λ ts. slice_get ts (length front)) e ∙ get_seam front after t, big)

-- what the reader takes is sound
taken_sound : (tokens : List Token) (end : Ending) (steps : List Step) → IsText PRODUCTIONS FRAME (classes tokens ++ behind end) steps →
    KeepsDepth PRODUCTIONS FRAME (length (classes tokens ++ behind end)) steps → (k : ℕ) → IsSound tokens end k
taken_sound tokens (ending.End at) steps d keeps =
    let r = (file_of_text tokens steps d).2 in
    text_sound tokens at steps r.0 d keeps r.1.is_file
taken_sound tokens (ending.Broken at) steps d keeps =
    let (place, e) = text_ends tokens (ending.Broken at) steps d in absurd (cc)

pub spells_file : (bytes : List ℕ) (tokens : List Token) (end : Ending) (steps : List Step) (file : File) → Spells start bytes tokens end →
    IsText PRODUCTIONS FRAME (classes tokens ++ behind end) steps → KeepsDepth PRODUCTIONS FRAME (length (classes tokens ++ behind end)) steps →
    ((k : ℕ) → ¬ IsNumberTooBig tokens k) → IsFile tokens file → SpellsFile bytes file
spells_file bytes tokens (ending.End at) steps file s d keeps small x =
    let sound = taken_sound tokens (ending.End at) steps d keeps in
    (tokens, at, s, x, λ k. record { syntax = (sound k).syntax; big = small k; deep = (sound k).deep })
spells_file bytes tokens (ending.Broken at) steps file s d keeps small x =
    let (place, e) = text_ends tokens (ending.Broken at) steps d in absurd (cc)

-- in what the reader takes, the first number too big is the first fault
pub taken_too_big : (tokens : List Token) (end : Ending) (steps : List Step) (k : ℕ) →
    IsText PRODUCTIONS FRAME (classes tokens ++ behind end) steps → KeepsDepth PRODUCTIONS FRAME (length (classes tokens ++ behind end)) steps →
    ((j : ℕ) → j < k → ¬ IsNumberTooBig tokens j) → IsNumberTooBig tokens k → IsFirstFault tokens end (fault.NumberTooBig (place_at tokens end k))
taken_too_big tokens end steps k d keeps small big =
    first_big tokens end k (λ j h. taken_sound tokens end steps d keeps j) small big

-- ---- what the calls of `read_file` tell

-- the classes that the reader takes are those of the tokens and what stands behind them
pub classes_are : (tokens shown : List Token) (end : Ending) (made given : List ℕ) → shown ≡ tokens → made ≡ classes shown ++ behind end → given ≡ made → given ≡ classes tokens ++ behind end
classes_are tokens shown end made given e m g = g ∙ m ∙ ap (λ ts. classes ts ++ behind end) e

pub same_keeps : (steps : List Step) {cs ds : List ℕ} → cs ≡ ds → KeepsDepth PRODUCTIONS FRAME (length cs) steps → KeepsDepth PRODUCTIONS FRAME (length ds) steps
same_keeps steps e h = let P : List ℕ → Type 0 = λ ns. KeepsDepth PRODUCTIONS FRAME (length ns) steps in subst P e h

pub none_of : {ts us : List Token} → ts ≡ us → ((k : ℕ) → ¬ IsNumberTooBig ts k) → (k : ℕ) → ¬ IsNumberTooBig us k
none_of e h = let P : List Token → Type 0 = λ tokens. (k : ℕ) → ¬ IsNumberTooBig tokens k in subst P e h

pub same_told : (tokens shown : List Token) (end : Ending) (given : List ℕ) (error : ReadError) → given ≡ classes tokens ++ behind end → shown ≡ tokens →
    IsFault PRODUCTIONS FRAME given error → IsFault PRODUCTIONS FRAME (classes shown ++ behind end) error
same_told tokens shown end given error g e h =
    let P : List ℕ → Type 0 = λ ns. IsFault PRODUCTIONS FRAME ns error in
    let both : given ≡ classes shown ++ behind end = g ∙ ap (λ ts. classes ts ++ behind end) (sym e) in
    subst P both h

-- an error that tells a fault of the bytes
abbrev pub Tells : List ℕ → ReadFault → Type 0
Tells bytes error = IfSome (fault_of error) (HasFault bytes)

pub too_big_told : (bytes : List ℕ) (tokens shown also : List Token) (end : Ending) (steps : List Step) (at : ℕ) (result : ReadFault) → Spells start bytes tokens end →
    IsText PRODUCTIONS FRAME (classes tokens ++ behind end) steps → KeepsDepth PRODUCTIONS FRAME (length (classes tokens ++ behind end)) steps →
    shown ≡ tokens → also ≡ tokens → IsNumberTooBig shown at → ((j : ℕ) → j < at → ¬ IsNumberTooBig shown j) →
    result ≡ error.NumberTooBig (place_at also end at) → Tells bytes result
too_big_told bytes tokens shown also end steps at result s d keeps e e' big small r =
    let P : List Token → Type 0 = λ ts. IsNumberTooBig ts at in
    let Q : List Token → Type 0 = λ ts. (j : ℕ) → j < at → ¬ IsNumberTooBig ts j in
    let named : result ≡ error.NumberTooBig (place_at tokens end at) = r ∙ ap (λ ts. error.NumberTooBig (place_at ts end at)) e' in
    subst (Tells bytes) (sym named) (tokens, end, s, taken_too_big tokens end steps at d keeps (subst Q e small) (subst P e big))

-- the fault of the tokens is that of the bytes
told_of : (bytes : List ℕ) (tokens : List Token) (end : Ending) (result : ReadFault) → Spells start bytes tokens end →
    IfSome (fault_of result) (IsFirstFault tokens end) → Tells bytes result
told_of bytes tokens end (error.Syntax at) s h = (tokens, end, s, h)
told_of bytes tokens end (error.TooDeep at) s h = (tokens, end, s, h)
told_of bytes tokens end (error.NumberTooBig at) s h = (tokens, end, s, h)
told_of bytes tokens end (error.Memory e) s h = tt

pub fault_told : (bytes : List ℕ) (tokens shown : List Token) (end : Ending) (result : ReadFault) → Spells start bytes tokens end → shown ≡ tokens →
    IfSome (fault_of result) (IsFirstFault shown end) → Tells bytes result
fault_told bytes tokens shown end result s e h =
    let P : List Token → Type 0 = λ ts. IfSome (fault_of result) (IsFirstFault ts end) in
    told_of bytes tokens end result s (subst P e h)

-- want of memory tells nothing of the bytes
pub memory_told : (bytes : List ℕ) (r : Result File ReadFault) (e : AllocError) → IsErrAnd r (λ f. f ≡ error.Memory e) → IfErr r (Tells bytes)
memory_told bytes (Ok file) e h = absurd h
memory_told bytes (Err f) e same = subst (Tells bytes) (sym same) tt

-- an answer that is a file, or the fault, of these bytes is the only one
pub only_file_if_file : (bytes : List ℕ) (file : File) → ((first second : File) → SpellsFile bytes first → SpellsFile bytes second → first ≡ second) →
    SpellsFile bytes file → (other : File) → SpellsFile bytes other → IsOrMemory (Ok file) (Ok other)
only_file_if_file bytes file one h other also = ap Ok (one file other h also)

pub only_fault_if_file : (bytes : List ℕ) (file : File) → ((first : File) (f : SourceFault) → SpellsFile bytes first → ¬ HasFault bytes f) →
    SpellsFile bytes file → (f : SourceFault) → HasFault bytes f → IsOrMemory (Ok file) (Err f)
only_fault_if_file bytes file apart h f has = absurd (apart file f h has)

if_some : {X : Type 0} {P Q : X → Type 0} (o : Option X) → ((x : X) → P x → Q x) → IfSome o P → IfSome o Q
if_some None f h = tt
if_some (Some x) f h = f x h

pub only_file_if_fault : (bytes : List ℕ) (e : ReadFault) → ((first : File) (f : SourceFault) → SpellsFile bytes first → ¬ HasFault bytes f) →
    Tells bytes e → (file : File) → SpellsFile bytes file → IsOrMemory (Err e) (Ok file)
only_file_if_fault bytes e apart tells file h = if_some (fault_of e) (λ f has. absurd (apart file f h has)) tells

pub only_fault_if_fault : (bytes : List ℕ) (e : ReadFault) → ((first second : SourceFault) → HasFault bytes first → HasFault bytes second → first ≡ second) →
    Tells bytes e → (other : SourceFault) → HasFault bytes other → IsOrMemory (Err e) (Err other)
only_fault_if_fault bytes e one tells other also = if_some (fault_of e) (λ f has. ap Err (one f other has also)) tells
