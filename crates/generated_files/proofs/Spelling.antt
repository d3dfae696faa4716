-- The file that a generated source spells.
use Rattle.std.proofs.Common.{◌≡◌, ℕ, zero, suc, ◌+◌, ◌<◌, ◌≤◌, ◌^◌, ◌⊎◌, inl, inr, ◌∙◌, true, false, List, [], ◌∷◌, ◌++◌, length, take, drop, decimal, codes, Some, refl, sym, ap, subst, arith, append_assoc, take-append-drop}
use Rattle.std.specs.Prelude.{flat_map}
use Rattle.std.specs.List.{range_with_len}
use Rattle.tor_edge.specs.declared.place.Place.{Place}
use Rattle.source_gen.specs.Source.{line_text, head_text}
use Rattle.source_gen.specs.declared.operands.Operands.{Operands}
use Rattle.usuba_tokens.specs.Tokens.{Spells, start, next_place, place_after, ended, gap, token}
use Rattle.usuba_tokens.specs.declared.head.Form.TheVariants as form
use Rattle.usuba_tokens.specs.declared.token.Base.TheVariants as base
use Rattle.usuba_tokens.specs.declared.token.Ending.TheVariants as ending
use Rattle.usuba_tokens.specs.declared.token.Keyword.TheVariants as keywords
use Rattle.usuba_tokens.specs.declared.token.Sign.TheVariants as signs
use Rattle.usuba_tokens.specs.declared.token.Token.{Token}
use Rattle.usuba_tokens.specs.declared.token.TokenKind.TheVariants as kind
use Rattle.usuba_trees.specs.Made.{name}
use Rattle.usuba_trees.specs.declared.Base.TheVariants as tree
use Rattle.usuba_trees.specs.declared.Decl.{Decl}
use Rattle.usuba_trees.specs.declared.Def.TheVariants as def
use Rattle.usuba_trees.specs.declared.File.{File}
use Rattle.usuba_trees.specs.declared.Node.{Node}
use Rattle.usuba_syntax.specs.Declarations.{shape, no_more_dims, last_name, decl, last_decl, results_in_brackets, no_locals}
use Rattle.usuba_syntax.specs.Files.{IsFile, node, node_def, plain, last_def, file}
use Rattle.usuba_syntax.specs.Items.{IsItems, no_item}
use Rattle.usuba_syntax.specs.Nesting.{open_among, open_count}
use Rattle.usuba_syntax.specs.Sources.{SpellsFile, IsSyntaxFault, at_token, at_end, IsFaultless}
use Rattle.usuba_syntax.specs.Terminals.{sign, keyword, type_word, word}
use Rattle.generated_files.proofs.Depths.{openings, open_within, take-beyond, up_to_or_beyond, AreShallow, line_shallow, AreSmall, line_small, none_too_big}
use Rattle.generated_files.proofs.Lines.{AreBelow, LinePlaces, items_of, line_is, line_before, line_text_is, line_spelled}
use Rattle.generated_files.proofs.Numerals.{EndsNumber, sign_spelled, bits_word, bits_spelled}

-- a place
abbrev at : ℕ → ℕ → Place
at line column = record { line = line; column = column }

-- a variable of so many bits
abbrev pub bits : ℕ → Place → ℕ → Place → Decl
bits letter name_at n type_at = record {
  name = name (letter ∷ []) name_at;
  shape = record { base = tree.Bits 1; count = Some n; dims = []; place = type_at };
}

-- the variables of the node
abbrev pub input_of : Decl
input_of = bits 120 (at 1 9) 8 (at 1 11)

abbrev pub output_of : ℕ → Decl
output_of size = bits 122 (at 1 24) size (at 1 26)

-- the node of so many lines
abbrev pub node_of : (ℕ → Operands) → ℕ → List LinePlaces → Node
node_of operands size places = record {
  name = name (103 ∷ []) (at 1 6);
  inputs = input_of ∷ [];
  outputs = output_of size ∷ [];
  locals = [];
  items = items_of operands 0 places;
}

abbrev pub file_of : (ℕ → Operands) → ℕ → List LinePlaces → File
file_of operands size places = record { defs = def.Node (node_of operands size places) ∷ [] }

-- the operands of each line are below what stands before it
abbrev pub AllBelow : (ℕ → Operands) → Type 0
AllBelow operands = (k : ℕ) → AreBelow (8 + k) (operands k)

-- the lines from k on with the word that ends them
abbrev lines_text : (ℕ → Operands) → ℕ → ℕ → List ℕ
lines_text operands k n = flat_map (λ k. line_text k (operands k)) (range_with_len k n) ++ codes "tel\n"

-- tokens are these lines, of which they leave the word that ends them
abbrev AreLines : (ℕ → Operands) → ℕ → ℕ → List Token → Type 0
AreLines operands k n tokens =
    (places : List LinePlaces) × (tel : Place) × IsItems tokens (items_of operands k places)
    (keyword keywords.Tel tel ∷ [])
    × (length places ≡ n) × AreShallow tokens × AreSmall tokens

-- the tokens of these lines, and what they spell
pub record SpelledLines (operands : ℕ → Operands) (k n : ℕ) (from : Place) : Type 0 where
  pub tokens : List Token
  pub last : Place
  pub places : List LinePlaces
  pub tel : Place
  pub spelled : Spells from (lines_text operands k n) tokens (ending.End last)
  pub items : IsItems tokens (items_of operands k places) (keyword keywords.Tel tel ∷ [])
  pub count : length places ≡ n
  pub shallow : AreShallow tokens
  pub small : AreSmall tokens

tel_shallow : (from : Place) → AreShallow (keyword keywords.Tel from ∷ [])
tel_shallow from zero = omega arith
tel_shallow from (suc zero) = omega arith
tel_shallow from (suc (suc j)) = omega arith

below_wide : (k : ℕ) (operands : Operands) → k < 2 ^ 32 → AreBelow (8 + k) operands → AreBelow (2 ^ 64) operands
below_wide k operands few below = record {
  first = omega (arith, few, below.first);
  second = omega (arith, few, below.second);
  third = omega (arith, few, below.third);
}

lines_spelled : (operands : ℕ → Operands) → AllBelow operands → (n k : ℕ) → k + n ≤ 4096 → (from : Place)
    → SpelledLines operands k n from
lines_spelled operands below zero k few from =
    let end = place_after from (codes "tel") in record {
      tokens = keyword keywords.Tel from ∷ [];
      last = next_place end 10;
      places = [];
      tel = from;
      spelled = token from (codes "tel\n") 3 form.Word [] _ refl
          (gap end (codes "\n") 1 [] _ refl (ended (next_place end 10) [] refl));
      items = no_item;
      count = refl;
      shallow = tel_shallow from;
      small = refl;
    }
lines_spelled operands below (suc n) k few from =
    let rest = lines_text operands (k + 1) n in
    let later : (at : Place) → (last : Place) × (tokens : List Token) × Spells at rest tokens (ending.End last)
    × AreLines operands (k + 1) n tokens
    = λ at. let more = lines_spelled operands below n (k + 1) (omega arith) at in
    (more.last, more.tokens, more.spelled, (more.places, more.tel, more.items, more.count, more.shallow, more.small)) in
    let made = line_spelled k (operands k) (omega arith) (below_wide k (operands k) (omega arith) (below k)) from rest
    (AreLines operands (k + 1) n) later in
    let lines = made.6 in
    let text_is : lines_text operands k (suc n) ≡ line_before k (operands k) rest
    = append_assoc (line_text k (operands k)) (flat_map (λ k. line_text k (operands k)) (range_with_len (k + 1) n))
    (codes "tel\n")
    ∙ line_text_is k (operands k) rest in
    record {
      tokens = made.1;
      last = made.0;
      places = made.2 ∷ lines.0;
      tel = lines.1;
      spelled = subst (λ (text : List ℕ). Spells from text made.1 (ending.End made.0)) (sym text_is) made.4;
      items = line_is k (operands k) made.2 made.1 made.3 _ _ made.5 lines.2;
      count = ap suc lines.3;
      shallow = line_shallow k (operands k) made.2 made.1 made.3 made.5 lines.4;
      small = line_small k (operands k) made.2 made.1 made.3 made.5 lines.5;
    }

-- what stands before the lines, and the tokens there
abbrev head_before : ℕ → List ℕ → List ℕ
head_before size rest = codes "node g (x:b8) returns (z:"
    ++ (98 ∷ decimal size ++ 41 ∷ 10 ∷ 108 ∷ 101 ∷ 116 ∷ 10 ∷ rest)

head_is : (size : ℕ) (lines rest : List ℕ) → (head_text size ++ lines) ++ rest ≡ head_before size (lines ++ rest)
head_is size lines rest = simp append_assoc

abbrev head_tokens : ℕ → Place → Place → List Token → List Token
head_tokens size close begin rest =
    keyword keywords.Node (at 1 1) ∷ record { kind = kind.Word (103 ∷ []); place = at 1 6 }
    ∷ sign signs.OpenRound (at 1 8)
    ∷ record { kind = kind.Word (120 ∷ []); place = at 1 9 } ∷ sign signs.Colon (at 1 10)
    ∷ type_word (record { text = 98 ∷ 56 ∷ []; base = base.Bits 1; count = Some 8 }) (at 1 11)
    ∷ sign signs.CloseRound (at 1 13)
    ∷ keyword keywords.Returns (at 1 15) ∷ sign signs.OpenRound (at 1 23)
    ∷ record { kind = kind.Word (122 ∷ []); place = at 1 24 }
    ∷ sign signs.Colon (at 1 25) ∷ type_word (bits_word size) (at 1 26) ∷ sign signs.CloseRound close
    ∷ keyword keywords.Let begin ∷ rest

round_ends : EndsNumber 41
round_ends = (refl, refl, refl, refl)

-- where the bracket behind the type word of the output stands, where the word `let`, and where the lines begin
abbrev close_at : ℕ → Place
close_at size = place_after (at 1 26) (98 ∷ decimal size)

abbrev let_at : ℕ → Place
let_at size = next_place (next_place (close_at size) 41) 10

abbrev lines_at : ℕ → Place
lines_at size = next_place (place_after (let_at size) (codes "let")) 10

-- the tokens from the type word of the output on
output_spelled : (size : ℕ) → 0 < size → size < 2 ^ 32 → (rest : List ℕ) (tokens : List Token) (last : Place)
    → Spells (lines_at size) rest tokens (ending.End last)
    → Spells (at 1 26) (98 ∷ decimal size ++ 41 ∷ 10 ∷ 108 ∷ 101 ∷ 116 ∷ 10 ∷ rest)
    (type_word (bits_word size) (at 1 26) ∷ sign signs.CloseRound (close_at size) ∷ keyword keywords.Let (let_at size)
    ∷ tokens) (ending.End last)
output_spelled size some few rest tokens last more =
    let end = ending.End last in
    let newline = gap (place_after (let_at size) (codes "let")) (10 ∷ rest) 1 tokens end refl more in
    let word : Spells (let_at size) (108 ∷ 101 ∷ 116 ∷ 10 ∷ rest) (keyword keywords.Let (let_at size) ∷ tokens) end
    = token (let_at size) (108 ∷ 101 ∷ 116 ∷ 10 ∷ rest) 3 form.Word tokens end refl newline in
    let before = gap (next_place (close_at size) 41) (10 ∷ 108 ∷ 101 ∷ 116 ∷ 10 ∷ rest) 1 _ end refl word in
    let close = sign_spelled (close_at size) signs.CloseRound 41 (10 ∷ 108 ∷ 101 ∷ 116 ∷ 10 ∷ rest) _ end refl before in
    bits_spelled (at 1 26) size 41 (10 ∷ 108 ∷ 101 ∷ 116 ∷ 10 ∷ rest) _ end some few round_ends close

-- all tokens of a generated source
head_spelled : (size : ℕ) → 0 < size → size < 2 ^ 32 → (rest : List ℕ) (tokens : List Token) (last : Place)
    → Spells (lines_at size) rest tokens (ending.End last)
    → Spells start (head_before size rest) (head_tokens size (close_at size) (let_at size) tokens) (ending.End last)
head_spelled size some few rest tokens last more =
    let end = ending.End last in
    let output = output_spelled size some few rest tokens last more in
    token _ _ 4 form.Word _ end refl (gap _ _ 1 _ end refl (token _ _ 1 form.Word _ end refl (gap _ _ 1 _ end refl
    (token _ _ 1 (form.Sign signs.OpenRound) _ end refl
    (token _ _ 1 form.Word _ end refl (token _ _ 1 (form.Sign signs.Colon) _ end refl
    (token _ _ 2 form.Word _ end refl (token _ _ 1 (form.Sign signs.CloseRound) _ end refl (gap _ _ 1 _ end refl
    (token _ _ 7 form.Word _ end refl (gap _ _ 1 _ end refl (token _ _ 1 (form.Sign signs.OpenRound) _ end refl
    (token _ _ 1 form.Word _ end refl (token _ _ 1 (form.Sign signs.Colon) _ end refl output))))))))))))))

-- they are the file
head_is_file : (operands : ℕ → Operands) (size : ℕ) (places : List LinePlaces) (close begin tel : Place)
    (tokens : List Token)
    → IsItems tokens (items_of operands 0 places) (keyword keywords.Tel tel ∷ [])
    → IsFile (head_tokens size close begin tokens) (file_of operands size places)
head_is_file operands size places close begin tel tokens items =
    let inputs = last_decl (decl (last_name word) (shape no_more_dims)) in
    let outputs = results_in_brackets (last_decl (decl (last_name word) (shape no_more_dims))) in
    file (last_def (plain (node_def (node word inputs outputs no_locals items))))

-- they nest at most five deep
head_closes : (size : ℕ) (close begin : Place) (tokens : List Token)
    → (openings (take 14 (head_tokens size close begin tokens)) ≡ 2)
    × (drop 14 (head_tokens size close begin tokens) ≡ tokens)
    × ((rest : List Token) → open_among false (take 14 (head_tokens size close begin tokens) ++ rest) ≡ open_among
    true rest)
head_closes size close begin tokens = (refl, refl, λ rest. omega arith)

head_shallow : (size : ℕ) (close begin : Place) (tokens : List Token) → AreShallow tokens
    → (j : ℕ) → open_count (take j (head_tokens size close begin tokens)) ≤ 5
head_shallow size close begin tokens shallow j = of_case (up_to_or_beyond j 14)
  where
    of_case : (j ≤ 14) ⊎ ((i : ℕ) × (j ≡ 14 + i)) → open_count (take j (head_tokens size close begin tokens)) ≤ 5
    of_case (inl within) =
        let few = open_within false j 14 2 (head_tokens size close begin tokens)
        within (head_closes size close begin tokens).0 in
        omega (arith, few)
    of_case (inr beyond) =
        let closes = head_closes size close begin tokens in
        let cut : take j (head_tokens size close begin tokens) ≡ take 14 (head_tokens size close begin tokens)
        ++ take beyond.0 tokens
        = ap (λ n. take n (head_tokens size close begin tokens)) beyond.1
        ∙ take-beyond 14 beyond.0 (head_tokens size close begin tokens)
        ∙ ap (λ ts. take 14 (head_tokens size close begin tokens) ++ take beyond.0 ts) closes.1 in
        let same : open_among false (take j (head_tokens size close begin tokens)) ≡ open_among true
        (take beyond.0 tokens)
        = ap (open_among false) cut ∙ closes.2 (take beyond.0 tokens) in
        let rest = shallow beyond.0 in
        omega (arith, same, rest)

-- tokens that are a file, nest little and hold small numbers only have no fault
no_syntax_fault : (tokens : List Token) (tree : File) (last : Place) (k : ℕ) → IsFile tokens tree
    → IsSyntaxFault tokens (ending.End last) k → ⊥
no_syntax_fault tokens tree last k is (at_token less none) =
    none (
      drop (k + 1) tokens,
      tree,
      subst (λ (ts : List Token). IsFile ts tree)
          (sym (take-append-drop (k + 1) tokens)) is,
    )
no_syntax_fault tokens tree last k is (at_end wrong) = wrong tree is

pub faultless : (tokens : List Token) (tree : File) (last : Place) → IsFile tokens tree → AreSmall tokens
    → ((j : ℕ) → open_count (take j tokens) ≤ 5) → (k : ℕ) → IsFaultless tokens (ending.End last) k
faultless tokens tree last is small shallow k = record {
  syntax = no_syntax_fault tokens tree last k is;
  big = λ found. none_too_big tokens k found.0 small found.1 found.2;
  deep = λ deep. let few = shallow (k + 1) in let many = deep.1 in absurd (omega (arith, few, many));
}

-- a generated source spells its file
pub source_spelled : (operands : ℕ → Operands) → AllBelow operands → (size : ℕ) → 0 < size → size ≤ 4096
    → (places : List LinePlaces) × (length places ≡ size)
    × SpellsFile (head_text size ++ flat_map (λ k. line_text k (operands k)) (range_with_len 0 size) ++ codes "tel\n")
    (file_of operands size places)
source_spelled operands below size some few =
    let lines = lines_spelled operands below size 0 (omega arith) (lines_at size) in
    let all : List Token = head_tokens size (close_at size) (let_at size) lines.tokens in
    let spelled = head_spelled size some (omega arith) (lines_text operands 0 size) lines.tokens lines.last
    lines.spelled in
    let text_is = head_is size (flat_map (λ k. line_text k (operands k)) (range_with_len 0 size)) (codes "tel\n") in
    let is : IsFile all (file_of operands size lines.places)
    = head_is_file operands size lines.places (close_at size) (let_at size) lines.tel lines.tokens lines.items in (
      lines.places,
      lines.count,
      (
        all,
        lines.last,
        subst (λ (text : List ℕ). Spells start text all (ending.End lines.last)) (sym text_is) spelled,
        is,
        faultless all (file_of operands size lines.places) lines.last is lines.small
            (head_shallow size (close_at size) (let_at size) lines.tokens lines.shallow),
      ),
    )
