-- Texts of the table and files: each is the other, with the end behind it.
use Rattle.std.proofs.Common.{ℕ, List, [], ◌∷◌, ◌++◌, ◌≡◌, refl, ap, sym, ◌∙◌}
use Rattle.ll_reader.specs.Derivation.{Derives, items}
use Rattle.ll_reader.specs.Derivation as derivation
use Rattle.ll_reader.specs.declared.grammar.Item as Items
use Rattle.ll_reader.specs.declared.grammar.Item.TheVariants as due
use Rattle.ll_reader.specs.declared.grammar.Production.{Production}
use Rattle.ll_reader.specs.declared.grammar.Step.{Step}
use Rattle.ll_reader.specs.declared.grammar.Step.TheVariants.{Take, Choose}
use Rattle.usuba_parts.specs.declared.part.Part.{Part}
use Rattle.usuba_parts.specs.declared.part.Part.TheVariants as part
use Rattle.usuba_syntax.specs.Files as files
use Rattle.usuba_syntax.specs.Values.{values}
use Rattle.usuba_syntax.specs.declared.class.TheConstants as class
use Rattle.usuba_syntax.specs.declared.table.TheConstants.{PRODUCTIONS}
use Rattle.usuba_syntax.specs.declared.rule.TheConstants as rules
use Rattle.usuba_tokens.specs.declared.token.Token.{Token}
use Rattle.usuba_syntax.proofs.Meaning.{Reads, nil, rule, m_file}
use Rattle.std.proofs.Common.{subst}
use Rattle.usuba_syntax.proofs.Runs.{classes}
use Rattle.ll_reader.specs.Derivation.{IsText}
use Rattle.usuba_syntax.specs.Files.{IsFile}
use Rattle.usuba_syntax.specs.declared.table.TheConstants.{FRAME}
use Rattle.usuba_syntax.proofs.Complete.{c_file}
use Rattle.usuba_syntax.proofs.Sound.{sound}
use Rattle.usuba_trees.specs.declared.File.{File}
use Rattle.std.proofs.lemmas.List.{append_assoc}

-- nothing due makes nothing
pub nothing : {table : List Production} {later : List Items.Item} {cs : List ℕ} {steps : List Step} → Derives table later cs steps → later ≡ [] → (cs ≡ []) × (steps ≡ [])
nothing derivation.done e = (refl, refl)
nothing (derivation.token d) e = absurd (cc)
nothing (derivation.rule at q d) e = absurd (cc)

-- no class is not enough for a token
starved : {table : List Production} {whole : List Items.Item} {cs : List ℕ} {steps : List Step} → Derives table whole cs steps →
    (c : ℕ) (later : List Items.Item) → whole ≡ later ++ due.Token c ∷ [] → cs ≡ [] → ⊥
starved derivation.done c [] e f = cc
starved derivation.done c (i ∷ later) e f = cc
starved (derivation.token d) c later e f = cc
starved (derivation.rule at q d) c [] e f = cc
starved (derivation.rule {p = p} {due = rest} at q d) c (i ∷ later) e f =
    let tail : rest ≡ later ++ due.Token c ∷ [] = cc in
    starved d c (items p ++ later) (ap (λ xs. items p ++ xs) tail ∙ sym (append_assoc (items p) later (due.Token c ∷ []))) f

-- a text with the class of one token behind it, and the steps before that token
record Front (table : List Production) (later : List Items.Item) (cs : List ℕ) (steps : List Step) : Type 0 where
  pub before : List Step
  pub whole : steps ≡ before ++ Take ∷ []
  pub derives : Derives table later cs before

abbrev same_front : {table : List Production} {a b : List Items.Item} {cs ds : List ℕ} {steps : List Step} → a ≡ b → cs ≡ ds → Derives table a cs steps → Derives table b ds steps
same_front {table = table} {a = a} {b = b} {cs = cs} {ds = ds} {steps = steps} e f d =
    let P : List Items.Item → Type 0 = λ xs. Derives table xs ds steps in
    let Q : List ℕ → Type 0 = λ xs. Derives table a xs steps in
    subst P e (subst Q f d)

front : {table : List Production} {whole : List Items.Item} {all : List ℕ} {steps : List Step} → Derives table whole all steps →
    (c : ℕ) (later : List Items.Item) (cs : List ℕ) → whole ≡ later ++ due.Token c ∷ [] → all ≡ cs ++ c ∷ [] → Front table later cs steps
front derivation.done c later [] e f = absurd (cc)
front derivation.done c later (x ∷ cs) e f = absurd (cc)
front (derivation.token {steps = steps} d) c [] [] e f =
    let none = nothing d (cc) in
    record { before = []; whole = ap (λ xs. Take ∷ xs) none.1; derives = derivation.done }
front (derivation.token d) c [] (x ∷ []) e f = let none = (nothing d (cc)).0 in absurd (cc)
front (derivation.token d) c [] (x ∷ y ∷ cs) e f = let none = (nothing d (cc)).0 in absurd (cc)
front (derivation.token d) c (i ∷ later) [] e f = absurd (starved d c later (cc) (cc))
front (derivation.token {c = n} d) c (i ∷ later) (x ∷ cs) e f =
    let r = front d c later cs (cc) (cc) in
    let item : due.Token n ∷ later ≡ i ∷ later = cc in
    let class : n ∷ cs ≡ x ∷ cs = cc in
    record { before = Take ∷ r.before; whole = ap (λ xs. Take ∷ xs) r.whole; derives = same_front item class (derivation.token r.derives) }
front (derivation.rule at q d) c [] cs e f = absurd (cc)
front (derivation.rule {a = a} {k = k} {p = p} {due = rest} at q d) c (i ∷ later) cs e f =
    let tail : rest ≡ later ++ due.Token c ∷ [] = cc in
    let r = front d c (items p ++ later) cs (ap (λ xs. items p ++ xs) tail ∙ sym (append_assoc (items p) later (due.Token c ∷ []))) f in
    let item : due.Rule a ∷ later ≡ i ∷ later = cc in
    record { before = Choose k ∷ r.before; whole = ap (λ xs. Choose k ∷ xs) r.whole; derives = same_front item refl (derivation.rule at q r.derives) }

-- one text after another
pub joined : {table : List Production} {later : List Items.Item} {cs : List ℕ} {steps : List Step} → Derives table later cs steps →
    {others : List Items.Item} {ds : List ℕ} {more : List Step} → Derives table others ds more → Derives table (later ++ others) (cs ++ ds) (steps ++ more)
joined derivation.done f = f
joined (derivation.token d) f = derivation.token (joined d f)
joined (derivation.rule {p = p} {due = rest} at q d) {others = others} f =
    derivation.rule at q (same_front (append_assoc (items p) rest others) refl (joined d f))

-- a file of these tokens with its steps, which make it
pub record Derived (ts : List Token) (steps : List Step) (f : File) : Type 0 where
  pub derives : Derives PRODUCTIONS (due.Rule rules.FILE ∷ []) (classes ts) steps
  pub is_file : IsFile ts f
  pub made : values steps ts ≡ part.File f ∷ []

file_read : {ts : List Token} {ps : List Part} → Reads (due.Rule rules.FILE ∷ []) ts ps [] → (f : File) × IsFile ts f × (ps ≡ part.File f ∷ [])
file_read (rule (m_file x) nil) = (_, files.file x, refl)

-- what the table derives is a file
pub file_of_steps : (ts : List Token) (steps : List Step) → Derives PRODUCTIONS (due.Rule rules.FILE ∷ []) (classes ts) steps → (f : File) × Derived ts steps f
file_of_steps ts steps d =
    let r = file_read (sound d ts refl) in
    (r.0, record { derives = d; is_file = r.1; made = r.2 })

-- a text of the table is a file
pub file_of_text : (ts : List Token) (steps : List Step) → IsText PRODUCTIONS FRAME (classes ts ++ class.END ∷ []) steps →
    (before : List Step) × (steps ≡ before ++ Take ∷ []) × ((f : File) × Derived ts before f)
file_of_text ts steps d =
    let r = front d class.END (due.Rule rules.FILE ∷ []) (classes ts) refl refl in
    (r.before, r.whole, file_of_steps ts r.before r.derives)

-- a file is what the table derives
pub steps_of_file : {ts : List Token} {f : File} → IsFile ts f → (steps : List Step) × Derived ts steps f
steps_of_file x =
    let (steps, d, q) = (c_file x).run [] [] derivation.done in
    (steps, record { derives = d; is_file = x; made = q })

-- a file is a text of the table
pub text_of_file : {ts : List Token} {f : File} → IsFile ts f → (steps : List Step) × IsText PRODUCTIONS FRAME (classes ts ++ class.END ∷ []) (steps ++ Take ∷ []) × (values steps ts ≡ part.File f ∷ [])
text_of_file x =
    let (steps, r) = steps_of_file x in
    (steps, joined r.derives (derivation.token derivation.done), r.made)

list_end : {before others : List Step} → before ++ Take ∷ [] ≡ others ++ Take ∷ [] → before ≡ others
list_end {before = []} {others = []} e = refl
list_end {before = []} {others = x ∷ []} e = absurd (cc)
list_end {before = []} {others = x ∷ y ∷ others} e = absurd (cc)
list_end {before = x ∷ []} {others = []} e = absurd (cc)
list_end {before = x ∷ y ∷ before} {others = []} e = absurd (cc)
list_end {before = x ∷ before} {others = y ∷ others} e =
    let tail : before ≡ others = list_end (cc) in cc

-- Tokens are one file, where the steps of a text are determined.
pub one_file_by : ((cs : List ℕ) (steps also : List Step) → IsText PRODUCTIONS FRAME cs steps → IsText PRODUCTIONS FRAME cs also → steps ≡ also) →
    {ts : List Token} {f g : File} → IsFile ts f → IsFile ts g → f ≡ g
one_file_by unique {ts = ts} {f = f} {g = g} x y =
    let (before, d, made) = text_of_file x in
    let (others, e, also) = text_of_file y in
    let same : before ≡ others = list_end (unique _ _ _ d e) in
    let equal : part.File f ∷ [] ≡ part.File g ∷ [] = sym made ∙ ap (λ xs. values xs ts) same ∙ also in
    cc
