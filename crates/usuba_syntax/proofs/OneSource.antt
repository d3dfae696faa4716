-- Bytes spell one file or have one first fault.
use Rattle.std.proofs.Common.{◌≡◌, ◌<◌, ◌≤◌, ℕ, List, sym, ap, ◌∙◌, subst, arith, inl, inr}
use Rattle.std.proofs.lemmas.Bool.{cases_lt}
use Rattle.tor_edge.specs.declared.place.Place.{Place}
use Rattle.usuba_syntax.specs.Files.{IsFile}
use Rattle.usuba_syntax.specs.Sources.{IsFaultless, IsFaultAt, IsFirstFault, SpellsFile, HasFault}
use Rattle.usuba_syntax.specs.SourceFaults.{SourceFault}
use Rattle.usuba_syntax.specs.SourceFaults as fault
use Rattle.usuba_tokens.specs.Tokens.{Spells, start}
use Rattle.usuba_tokens.specs.declared.token.Ending.{Ending}
use Rattle.usuba_tokens.specs.declared.token.Ending.TheVariants as ending
use Rattle.usuba_tokens.specs.declared.token.Token.{Token}
use Rattle.usuba_trees.specs.declared.File.{File}

-- bytes spell one list of tokens
abbrev pub OneSpelling : Type 0
OneSpelling = (at : Place) (text : List ℕ) (first second : List Token) (one other : Ending) → Spells at text first one → Spells at text second other →
    (first ≡ second) × (one ≡ other)

-- tokens are one file
abbrev pub OneFile : Type 0
OneFile = (tokens : List Token) (first second : File) → IsFile tokens first → IsFile tokens second → first ≡ second

pub same_file : OneSpelling → OneFile → (bytes : List ℕ) (first second : File) → SpellsFile bytes first → SpellsFile bytes second → first ≡ second
same_file spelled unique bytes f g (ts, at, s, x, l) (us, there, s', y, l') =
    let e = (spelled start bytes ts us (ending.End at) (ending.End there) s s').0 in
    let P : List Token → Type 0 = λ tokens. IsFile tokens f in
    unique us f g (subst P e x) y

-- a fault is a fault
faulty : (tokens : List Token) (end : Ending) (f : SourceFault) (k : ℕ) → IsFaultAt tokens end f k → IsFaultless tokens end k → ⊥
faulty tokens end (fault.NumberTooBig at) k (e, big) r = r.big big
faulty tokens end (fault.Syntax at) k (e, small, wrong) r = r.syntax wrong
faulty tokens end (fault.TooDeep at) k (e, small, right, deep) r = r.deep deep

-- at one token stands one fault
same_at : (tokens : List Token) (end : Ending) (f g : SourceFault) (k : ℕ) → IsFaultAt tokens end f k → IsFaultAt tokens end g k → f ≡ g
same_at tokens end (fault.NumberTooBig at) (fault.NumberTooBig there) k (e, big) (e', big') = ap fault.NumberTooBig (e ∙ sym e')
same_at tokens end (fault.NumberTooBig at) (fault.Syntax there) k (e, big) (e', small, wrong) = absurd (small big)
same_at tokens end (fault.NumberTooBig at) (fault.TooDeep there) k (e, big) (e', small, right, deep) = absurd (small big)
same_at tokens end (fault.Syntax at) (fault.NumberTooBig there) k (e, small, wrong) (e', big) = absurd (small big)
same_at tokens end (fault.Syntax at) (fault.Syntax there) k (e, small, wrong) (e', small', wrong') = ap fault.Syntax (e ∙ sym e')
same_at tokens end (fault.Syntax at) (fault.TooDeep there) k (e, small, wrong) (e', small', right, deep) = absurd (right wrong)
same_at tokens end (fault.TooDeep at) (fault.NumberTooBig there) k (e, small, right, deep) (e', big) = absurd (small big)
same_at tokens end (fault.TooDeep at) (fault.Syntax there) k (e, small, right, deep) (e', small', wrong) = absurd (right wrong)
same_at tokens end (fault.TooDeep at) (fault.TooDeep there) k (e, small, right, deep) (e', small', right', deep') = ap fault.TooDeep (e ∙ sym e')

not_before : (tokens : List Token) (end : Ending) (f : SourceFault) (k j : ℕ) → IsFaultAt tokens end f k → ((i : ℕ) → i < j → IsFaultless tokens end i) → j ≤ k
not_before tokens end f k j here before =
    elim (cases_lt k j) [ inl h ↦ absurd (faulty tokens end f k here (before k h)) | inr h ↦ h ]

same_first : (tokens : List Token) (end : Ending) (f g : SourceFault) → IsFirstFault tokens end f → IsFirstFault tokens end g → f ≡ g
same_first tokens end f g (k, before, here) (j, before', here') =
    let a = not_before tokens end f k j here before' in
    let b = not_before tokens end g j k here' before in
    let e : k ≡ j = omega arith in
    let P : ℕ → Type 0 = IsFaultAt tokens end f in
    same_at tokens end f g j (subst P e here) here'

moved : {ts us : List Token} {end ends : Ending} (f : SourceFault) → ts ≡ us → end ≡ ends → IsFirstFault ts end f → IsFirstFault us ends f
moved {ts = ts} {us = us} {end = end} {ends = ends} f e e' h =
    let P : List Token → Type 0 = λ tokens. IsFirstFault tokens end f in
    let Q : Ending → Type 0 = λ left. IsFirstFault us left f in
    subst Q e' (subst P e h)

pub same_fault : OneSpelling → (bytes : List ℕ) (first second : SourceFault) → HasFault bytes first → HasFault bytes second → first ≡ second
same_fault spelled bytes f g (ts, end, s, first) (us, ends, s', second) =
    let (e, e') = spelled start bytes ts us end ends s s' in
    same_first us ends f g (moved f e e' first) second

pub never_both : OneSpelling → (bytes : List ℕ) (file : File) (f : SourceFault) → SpellsFile bytes file → HasFault bytes f → ⊥
never_both spelled bytes file f (ts, at, s, x, less) (us, ends, s', first) =
    let (e, e') = spelled start bytes us ts ends (ending.End at) s' s in
    let (k, before, here) = moved f e e' first in
    faulty ts (ending.End at) f k here (less k)
