-- What is found among held files is one of them.
use Rattle.std.proofs.Common.{subst, ◌≡◌, ℕ, ◌≤◌, List, [], ◌∷◌, All, Bool, true, false, cond, Option, Some, None, IfSome, length, find}
use Rattle.std.proofs.lemmas.List.Elements.{All-head, All-tail}
use Rattle.std.specs.Option.{option_map}
use Rattle.std.specs.Str.{bytes_eq}
use Rattle.tor_edge.specs.Held.{file_of}
use Rattle.tor_edge.specs.declared.mem_files.Held.{Held}

-- what holds of each element holds of the one that is found
pub IfSome-find : {X : Type 0} (P : X → Type 0) (p : X → Bool) (xs : List X) → All P xs → IfSome (find p xs) P
IfSome-find P p [] all = tt
IfSome-find P p (x ∷ xs) all = by (p x) (IfSome-find P p xs (All-tail P x xs all))
  where
    by : (b : Bool) → IfSome (find p xs) P → IfSome (cond b (Some x) (find p xs)) P
    by true rest = All-head P x xs all
    by false rest = rest

from_found : (limit : ℕ) (found : Option Held) (bytes : List ℕ) → IfSome found (λ file. length file.bytes ≤ limit)
    → option_map (λ file. file.bytes) found ≡ Some bytes → length bytes ≤ limit
from_found limit None bytes short e = absurd (let no : None ≡ Some bytes = e in cc)
from_found limit (Some file) bytes short e = let same : file.bytes ≡ bytes = cc in subst (λ b. length b ≤ limit) same short

-- where all held files are short, so is the one that is found
pub length-file_of : (limit : ℕ) (held : List Held) (name bytes : List ℕ) → All (λ file. length file.bytes ≤ limit) held
    → file_of held name ≡ Some bytes → length bytes ≤ limit
length-file_of limit held name bytes all e =
    from_found limit (find (λ file. bytes_eq file.name name) held) bytes
    (IfSome-find (λ file. length file.bytes ≤ limit) (λ file. bytes_eq file.name name) held all) e
