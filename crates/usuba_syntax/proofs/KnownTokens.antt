-- The text spells its tokens, and these are the file.
use Rattle.std.proofs.Common.{List, [], ◌∷◌, Some, None, codes, lit<, refl}
use Rattle.usuba_syntax.specs.Declarations.{shape, next_dim, no_more_dims, last_name, next_name, decl, last_decl, next_decl, results_in_brackets, bare_results, no_locals, locals}
use Rattle.usuba_syntax.specs.Exprs as exprs
use Rattle.usuba_syntax.specs.Exprs.{one_part, range, no_more_picks, next_pick, spot, left, right, rotate_left, rotate_right, no_more_shifts, next_shift, one_xors, ors, no_more_xors, next_xors, one_ands, xors, no_more_ands, next_ands, one_shifts, ands, no_more_operands, next_operand, one_unary, shifts, complement, one_primary, call, refresh, tuple, one_expr, next_expr}
use Rattle.usuba_syntax.specs.Files.{IsFile, node, last_number, next_number, grid, node_def, table_def, perm_def, plain, inline, no_inline, last_def, next_def, file}
use Rattle.usuba_syntax.specs.Indexes.{plus, minus, times, over, remainder, one_product, sum, no_more_products, next_product, one_atom, product, no_more_atoms, next_atom, index_number, counter, index_in_brackets, amount_number, amount_counter, amount_in_brackets}
use Rattle.usuba_syntax.specs.Items as items
use Rattle.usuba_syntax.specs.Items.{last_spot, next_spot, spots_in_brackets, equation, no_item, loop_then, loop_semicolon_then, last_equation, equation_then, forall_in}
use Rattle.usuba_syntax.specs.KnownFile.{known_text, known_file, at, named, shape_of, declared}
use Rattle.usuba_syntax.specs.Terminals as terminals
use Rattle.usuba_syntax.specs.Terminals.{sign, keyword, in_word, type_word, word, in_as_name, type_word_as_name}
use Rattle.usuba_syntax.proofs.WorkedTokens.{tokens_in, spells_in}
use Rattle.usuba_tokens.specs.Tokens.{Spells, start}
use Rattle.usuba_tokens.specs.declared.token.Base.TheVariants as base
use Rattle.usuba_tokens.specs.declared.token.Ending.TheVariants as ending
use Rattle.usuba_tokens.specs.declared.token.Keyword.TheVariants as reserved
use Rattle.usuba_tokens.specs.declared.token.Sign.TheVariants as signs
use Rattle.usuba_tokens.specs.declared.token.Token.{Token}
use Rattle.usuba_tokens.specs.declared.token.TokenKind.TheVariants as kind
use Rattle.usuba_trees.specs.declared.Base.TheVariants as tree

pub known_tokens : List Token
known_tokens =
    keyword reserved.Inline (at 1 1) ∷ keyword reserved.Table (at 1 9) ∷ record {
      kind = kind.Word (codes "T");
      place = (at 1 15);
    } ∷ sign signs.OpenRound (at 1 16) ∷ record {
      kind = kind.Word (codes "a");
      place = (at 1
          17);
    } ∷ sign signs.Comma (at 1 18) ∷ record { kind = kind.Word (codes "b"); place = (at 1 20) } ∷ sign
    signs.Colon (at 1 21) ∷ type_word (record { text = codes "v2"; base = base.Poly; count = (Some 2) }) (at 1
    22) ∷ sign signs.OpenSquare (at 1 24) ∷ record { kind = kind.Number (Some 3); place = (at 1 25) } ∷ sign
    signs.CloseSquare (at 1 26) ∷ sign signs.CloseRound (at 1 27) ∷ keyword reserved.Returns (at 1 29) ∷ record
    { kind = kind.Word (codes "c"); place = (at 1 37) } ∷ sign signs.Colon (at 1 38) ∷ type_word (record {
      text
          = codes "u1x2";
      base = (base.Bits 1);
      count = (Some 2);
    }) (at 1 39) ∷ sign signs.Comma (at 1 43) ∷ record {
      kind = kind.Word (codes "d");
      place = (at 1 45);
    } ∷ sign signs.Colon (at 1 46) ∷ type_word (record {
      text =
          codes "b4";
      base = (base.Bits 1);
      count = (Some 4);
    }) (at 1 47) ∷ sign signs.OpenCurly (at 1 50) ∷ record {
      kind = kind.Number (Some 0);
      place = (at 1 51);
    } ∷ sign signs.Comma (at 1 52) ∷ record {
      kind = kind.Number
          (Some 31);
      place = (at 1 54);
    } ∷ sign signs.CloseCurly (at 1 58) ∷
    keyword reserved.Perm (at 2 1) ∷ record { kind = kind.Word (codes "P"); place = (at 2 6) } ∷ sign
    signs.OpenRound (at 2 7) ∷ record { kind = kind.Word (codes "x"); place = (at 2 8) } ∷ sign signs.Colon (at
    2 9) ∷ type_word (record { text = codes "u8"; base = (base.Bits 8); count = None }) (at 2 10) ∷ sign
    signs.CloseRound (at 2 12) ∷ keyword reserved.Returns (at 2 14) ∷ sign signs.OpenRound (at 2 22) ∷ record {
      kind = kind.Word (codes "y");
      place = (at 2 23);
    } ∷ sign signs.Colon (at 2 24) ∷ type_word (record {
      text =
          codes "b3";
      base = (base.Bits 1);
      count = (Some 3);
    }) (at 2 25) ∷ sign signs.CloseRound (at 2 27) ∷ sign
    signs.OpenCurly (at 2 29) ∷ record { kind = kind.Number (Some 1); place = (at 2 30) } ∷ sign
    signs.CloseCurly (at 2 31) ∷
    keyword reserved.Node (at 3 1) ∷ record { kind = kind.Word (codes "G"); place = (at 3 6) } ∷ sign
    signs.OpenRound (at 3 7) ∷ record { kind = kind.Word (codes "x"); place = (at 3 8) } ∷ sign signs.Colon (at
    3 9) ∷ type_word (record { text = codes "u8"; base = (base.Bits 8); count = None }) (at 3 10) ∷ sign
    signs.CloseRound (at 3 12) ∷ keyword reserved.Returns (at 3 14) ∷ record {
      kind = kind.Word (codes "y");
      place = (at 3 22);
    } ∷ sign signs.Colon (at 3 23) ∷ type_word (record {
      text = codes "u8";
      base = (base.Bits
          8);
      count = None;
    }) (at 3 24) ∷ keyword reserved.Let (at 3 27) ∷ keyword reserved.Tel (at 3 31) ∷
    keyword reserved.NoInline (at 4 1) ∷ keyword reserved.Node (at 4 12) ∷ record {
      kind = kind.Word (codes "F");
      place = (at 4 17);
    } ∷ sign signs.OpenRound (at 4 18) ∷ in_word (codes "in") (at 4 19) ∷ sign signs.Colon
    (at 4 21) ∷ type_word (record { text = codes "u8"; base = (base.Bits 8); count = None }) (at 4 22) ∷ sign
    signs.OpenSquare (at 4 24) ∷ record { kind = kind.Number (Some 2); place = (at 4 25) } ∷ sign
    signs.CloseSquare (at 4 26) ∷ sign signs.OpenSquare (at 4 27) ∷ record {
      kind = kind.Number (Some 3);
      place
          = (at 4 28);
    } ∷ sign signs.CloseSquare (at 4 29) ∷ sign signs.Comma (at 4 30) ∷ record {
      kind = kind.Word
          (codes "k");
      place = (at 4 32);
    } ∷ sign signs.Colon (at 4 33) ∷ type_word (record {
      text = codes "v4";
      base
          = base.Poly;
      count = (Some 4);
    }) (at 4 34) ∷ sign signs.CloseRound (at 4 36) ∷ keyword reserved.Returns (at
    4 38) ∷ sign signs.OpenRound (at 4 46) ∷ record { kind = kind.Word (codes "o"); place = (at 4 47) } ∷ sign
    signs.Colon (at 4 48) ∷ type_word (record { text = codes "u16"; base = (base.Bits 16); count = None }) (at
    4 49) ∷ sign signs.CloseRound (at 4 52) ∷
    keyword reserved.Vars (at 5 1) ∷ record { kind = kind.Word (codes "t"); place = (at 5 6) } ∷ sign signs.Comma
    (at 5 7) ∷ record { kind = kind.Word (codes "s"); place = (at 5 9) } ∷ sign signs.Colon (at 5 10) ∷
    type_word (record { text = codes "u1"; base = (base.Bits 1); count = None }) (at 5 11) ∷
    keyword reserved.Let (at 6 1) ∷
    keyword reserved.Forall (at 7 3) ∷ record { kind = kind.Word (codes "i"); place = (at 7 10) } ∷ in_word (codes
    "in") (at 7 12) ∷ sign signs.OpenSquare (at 7 15) ∷ record {
      kind = kind.Number (Some 0);
      place = (at 7 16);
    } ∷ sign signs.Comma (at 7 17) ∷ record { kind = kind.Number (Some 2); place = (at 7 19) } ∷ sign
    signs.Star (at 7 21) ∷ record { kind = kind.Word (codes "k"); place = (at 7 23) } ∷ sign signs.Plus (at 7
    25) ∷ record { kind = kind.Number (Some 3); place = (at 7 27) } ∷ sign signs.Minus (at 7 29) ∷ record {
      kind = kind.Number (Some 4);
      place = (at 7 31);
    } ∷ sign signs.Slash (at 7 33) ∷ record {
      kind = kind.Word
          (codes "i");
      place = (at 7 35);
    } ∷ sign signs.Percent (at 7 37) ∷ sign signs.OpenRound (at 7 39) ∷ record {
      kind = kind.Number (Some 1);
      place = (at 7 40);
    } ∷ sign signs.CloseRound (at 7 41) ∷ sign signs.CloseSquare
    (at 7 42) ∷ sign signs.OpenCurly (at 7 44) ∷ sign signs.CloseCurly (at 7 46) ∷ sign signs.Semicolon (at 7
    47) ∷
    keyword reserved.Forall (at 8 3) ∷ type_word (record { text = codes "u8"; base = (base.Bits 8); count = None })
    (at 8 10) ∷ in_word (codes "in") (at 8 13) ∷ sign signs.OpenSquare (at 8 16) ∷ record {
      kind = kind.Word
          (codes "i");
      place = (at 8 17);
    } ∷ sign signs.Comma (at 8 18) ∷ record {
      kind = kind.Number (Some 1);
      place
          = (at 8 20);
    } ∷ sign signs.CloseSquare (at 8 21) ∷ sign signs.OpenCurly (at 8 23) ∷ record {
      kind =
          kind.Word (codes "t");
      place = (at 8 25);
    } ∷ sign signs.OpenSquare (at 8 26) ∷ record {
      kind = kind.Word
          (codes "i");
      place = (at 8 27);
    } ∷ sign signs.CloseSquare (at 8 28) ∷ sign signs.Equals (at 8 30) ∷ sign
    signs.Tilde (at 8 32) ∷ record { kind = kind.Word (codes "x"); place = (at 8 33) } ∷ sign signs.Semicolon
    (at 8 34) ∷ sign signs.CloseCurly (at 8 36) ∷
    sign signs.OpenRound (at 9 3) ∷ record { kind = kind.Word (codes "o"); place = (at 9 4) } ∷ sign
    signs.OpenSquare (at 9 5) ∷ record { kind = kind.Number (Some 1); place = (at 9 6) } ∷ sign
    signs.CloseSquare (at 9 7) ∷ sign signs.OpenSquare (at 9 8) ∷ record {
      kind = kind.Number (Some 0);
      place =
          (at 9 9);
    } ∷ sign signs.Dots (at 9 10) ∷ record { kind = kind.Word (codes "i"); place = (at 9 12) } ∷ sign
    signs.CloseSquare (at 9 13) ∷ sign signs.Comma (at 9 14) ∷ record {
      kind = kind.Word (codes "t");
      place =
          (at 9 16);
    } ∷ sign signs.CloseRound (at 9 17) ∷ sign signs.Equals (at 9 19) ∷ record {
      kind = kind.Word
          (codes "T");
      place = (at 9 21);
    } ∷ sign signs.OpenRound (at 9 22) ∷ record {
      kind = kind.Word (codes "x");
      place = (at 9 23);
    } ∷ sign signs.Comma (at 9 24) ∷ record {
      kind = kind.Number (Some 1);
      place = (at 9 26);
    } ∷ sign signs.CloseRound (at 9 27) ∷ sign signs.Bar (at 9 29) ∷ record {
      kind = kind.Word (codes "x");
      place = (at 9 31);
    } ∷ sign signs.Caret (at 9 33) ∷ record {
      kind = kind.Word (codes "y");
      place = (at 9 35);
    } ∷ sign signs.Ampersand (at 9 37) ∷ record { kind = kind.Word (codes "z"); place = (at 9 39) } ∷ sign
    signs.ShiftLeft (at 9 41) ∷ record { kind = kind.Number (Some 1); place = (at 9 44) } ∷ sign
    signs.ShiftRight (at 9 46) ∷ record { kind = kind.Word (codes "i"); place = (at 9 49) } ∷ sign
    signs.RotateLeft (at 9 51) ∷ sign signs.OpenRound (at 9 55) ∷ record {
      kind = kind.Word (codes "k");
      place
          = (at 9 56);
    } ∷ sign signs.CloseRound (at 9 57) ∷ sign signs.RotateRight (at 9 59) ∷ record {
      kind =
          kind.Number (Some 2);
      place = (at 9 63);
    } ∷ sign signs.Semicolon (at 9 64) ∷
    record { kind = kind.Word (codes "s"); place = (at 10 3) } ∷ sign signs.Equals (at 10 5) ∷ keyword
    reserved.Refresh (at 10 7) ∷ sign signs.OpenRound (at 10 14) ∷ record {
      kind = kind.Word (codes "x");
      place
          = (at 10 15);
    } ∷ sign signs.Comma (at 10 16) ∷ record { kind = kind.Number (Some 1); place = (at 10 18) } ∷
    sign signs.CloseRound (at 10 19) ∷ sign signs.Ampersand (at 10 21) ∷ sign signs.OpenRound (at 10 23) ∷
    record { kind = kind.Word (codes "x"); place = (at 10 24) } ∷ sign signs.Comma (at 10 25) ∷ sign
    signs.OpenRound (at 10 27) ∷ record { kind = kind.Word (codes "y"); place = (at 10 28) } ∷ sign
    signs.CloseRound (at 10 29) ∷ sign signs.CloseRound (at 10 30) ∷ sign signs.Semicolon (at 10 31) ∷
    record { kind = kind.Word (codes "o"); place = (at 11 3) } ∷ sign signs.Equals (at 11 5) ∷ record {
      kind =
          kind.Number (Some 7);
      place = (at 11 7);
    } ∷
    keyword reserved.Tel (at 12 1) ∷
    []

pub are_known_file : IsFile known_tokens known_file
unfolding known_tokens
are_known_file =
    file
    (next_def (inline (table_def (grid word (last_decl (decl {ws = ((named (codes "a") 1 17) ∷ (named (codes "b") 1
    20) ∷ [])} {s = (shape_of tree.Poly (Some 2) (3 ∷ []) (at 1 22))} (next_name word (last_name word)) (shape
    {word = (record { text = codes "v2"; base = base.Poly; count = (Some 2) })} (next_dim terminals.number
    (lit< tt) no_more_dims)))) (bare_results (next_decl {ds = (declared (named (codes "c") 1 37) (shape_of
    (tree.Bits 1) (Some 2) [] (at 1 39)) ∷ [])} {es = (declared (named (codes "d") 1 45) (shape_of (tree.Bits
    1) (Some 4) [] (at 1 47)) ∷ [])} (decl {ws = ((named (codes "c") 1 37) ∷ [])} {s = (shape_of (tree.Bits 1)
    (Some 2) [] (at 1 39))} (last_name word) (shape {word = (record {
      text = codes "u1x2";
      base = (base.Bits
          1);
      count = (Some 2);
    })} no_more_dims)) (last_decl (decl {ws = ((named (codes "d") 1 45) ∷ [])} {s =
    (shape_of (tree.Bits 1) (Some 4) [] (at 1 47))} (last_name word) (shape {word = (record {
      text = codes
          "b4";
      base = (base.Bits 1);
      count = (Some 4);
    })} no_more_dims))))) (next_number terminals.number
    (last_number terminals.number))))) (next_def (plain (perm_def (grid word (last_decl (decl {ws = ((named
    (codes "x") 2 8) ∷ [])} {s = (shape_of (tree.Bits 8) None [] (at 2 10))} (last_name word) (shape {word =
    (record { text = codes "u8"; base = (base.Bits 8); count = None })} no_more_dims))) (results_in_brackets
    (last_decl (decl {ws = ((named (codes "y") 2 23) ∷ [])} {s = (shape_of (tree.Bits 1) (Some 3) [] (at 2
    25))} (last_name word) (shape {word = (record {
      text = codes "b3";
      base = (base.Bits 1);
      count = (Some 3);
    })} no_more_dims)))) (last_number terminals.number)))) (next_def (plain (node_def (node word (last_decl
    (decl {ws = ((named (codes "x") 3 8) ∷ [])} {s = (shape_of (tree.Bits 8) None [] (at 3 10))} (last_name
    word) (shape {word = (record { text = codes "u8"; base = (base.Bits 8); count = None })} no_more_dims)))
    (bare_results (last_decl (decl {ws = ((named (codes "y") 3 22) ∷ [])} {s = (shape_of (tree.Bits 8) None []
    (at 3 24))} (last_name word) (shape {word = (record {
      text = codes "u8";
      base = (base.Bits 8);
      count = None;
    })} no_more_dims)))) no_locals no_item))) (last_def (no_inline (node_def (node word (next_decl {ds =
    (declared (named (codes "in") 4 19) (shape_of (tree.Bits 8) None (2 ∷ 3 ∷ []) (at 4 22)) ∷ [])} {es =
    (declared (named (codes "k") 4 32) (shape_of tree.Poly (Some 4) [] (at 4 34)) ∷ [])} (decl {ws = ((named
    (codes "in") 4 19) ∷ [])} {s = (shape_of (tree.Bits 8) None (2 ∷ 3 ∷ []) (at 4 22))} (last_name in_as_name)
    (shape {word = (record { text = codes "u8"; base = (base.Bits 8); count = None })} (next_dim
    terminals.number (lit< tt) (next_dim terminals.number (lit< tt) no_more_dims)))) (last_decl (decl {ws =
    ((named (codes "k") 4 32) ∷ [])} {s = (shape_of tree.Poly (Some 4) [] (at 4 34))} (last_name word) (shape
    {word = (record { text = codes "v4"; base = base.Poly; count = (Some 4) })} no_more_dims))))
    (results_in_brackets (last_decl (decl {ws = ((named (codes "o") 4 47) ∷ [])} {s = (shape_of (tree.Bits 16)
    None [] (at 4 49))} (last_name word) (shape {word = (record {
      text = codes "u16";
      base = (base.Bits 16);
      count = None;
    })} no_more_dims)))) (locals (last_decl (decl {ws = ((named (codes "t") 5 6) ∷ (named (codes
    "s") 5 9) ∷ [])} {s = (shape_of (tree.Bits 1) None [] (at 5 11))} (next_name word (last_name word)) (shape
    {word = (record { text = codes "u1"; base = (base.Bits 1); count = None })} no_more_dims))))
    (loop_semicolon_then (forall_in word (one_product (one_atom (index_number terminals.number))) (sum (product
    (index_number terminals.number) (next_atom times (counter word) no_more_atoms)) (next_product plus
    (one_atom (index_number terminals.number)) (next_product minus (product (index_number terminals.number)
    (next_atom over (counter word) (next_atom remainder (index_in_brackets (one_product (one_atom (index_number
    terminals.number)))) no_more_atoms))) no_more_products))) no_item) (loop_then (forall_in type_word_as_name
    (one_product (one_atom (counter word))) (one_product (one_atom (index_number terminals.number)))
    (equation_then (equation (items.one_spot (spot word (next_pick (one_part (one_product (one_atom (counter
    word)))) no_more_picks))) (one_xors (one_ands (one_shifts (one_unary (complement (one_primary
    (exprs.one_spot (spot word no_more_picks))))))))) no_item)) (equation_then (equation (spots_in_brackets
    (next_spot (spot word (next_pick (one_part (one_product (one_atom (index_number terminals.number))))
    (next_pick (range (one_product (one_atom (index_number terminals.number))) (one_product (one_atom (counter
    word)))) no_more_picks))) (last_spot (spot word no_more_picks)))) (ors (one_ands (one_shifts (one_unary
    (one_primary (call word (next_expr (one_xors (one_ands (one_shifts (one_unary (one_primary (exprs.one_spot
    (spot word no_more_picks))))))) (one_expr (one_xors (one_ands (one_shifts (one_unary (one_primary
    (exprs.number terminals.number))))))))))))) (next_xors (xors (one_shifts (one_unary (one_primary
    (exprs.one_spot (spot word no_more_picks))))) (next_ands (ands (one_unary (one_primary (exprs.one_spot
    (spot word no_more_picks)))) (next_operand (shifts (one_primary (exprs.one_spot (spot word no_more_picks)))
    (next_shift left (amount_number terminals.number) (next_shift right (amount_counter word) (next_shift
    rotate_left (amount_in_brackets (one_product (one_atom (counter word)))) (next_shift rotate_right
    (amount_number terminals.number) no_more_shifts))))) no_more_operands)) no_more_ands)) no_more_xors)))
    (equation_then (equation (items.one_spot (spot word no_more_picks)) (one_xors (one_ands (ands (one_unary
    (one_primary (refresh (one_xors (one_ands (one_shifts (one_unary (one_primary (exprs.one_spot (spot word
    no_more_picks))))))) (one_product (one_atom (index_number terminals.number)))))) (next_operand (one_unary
    (one_primary (tuple (next_expr (one_xors (one_ands (one_shifts (one_unary (one_primary (exprs.one_spot
    (spot word no_more_picks))))))) (one_expr (one_xors (one_ands (one_shifts (one_unary (one_primary (tuple
    (one_expr (one_xors (one_ands (one_shifts (one_unary (one_primary (exprs.one_spot (spot word
    no_more_picks))))))))))))))))))) no_more_operands))))) (last_equation (equation (items.one_spot (spot word
    no_more_picks)) (one_xors (one_ands (one_shifts (one_unary (one_primary (exprs.number
    terminals.number)))))))))))))))))))

-- the text spells the tokens
pub known_spelled : Spells start known_text known_tokens (ending.End (at 13 1))
unfolding known_tokens tokens_in
known_spelled = spells_in 500 start known_text known_tokens (ending.End (at 13 1)) refl
