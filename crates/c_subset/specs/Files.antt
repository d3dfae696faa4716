-- The rules of gadgets, calls and files. `IsX before tree after` says that the tokens `before` are a text of the rule X
-- that spells this tree, and then the tokens `after`.
use Rattle.std.specs.Prelude.{ℕ, ◌≤◌, List, [], ◌∷◌}
use Rattle.tor_edge.specs.declared.place.Place.{Place}
use Rattle.c_tokens.specs.declared.token.Keyword.TheVariants as keyword
use Rattle.c_tokens.specs.declared.token.Sign.TheVariants as sign
use Rattle.c_tokens.specs.declared.token.Token.{Token}
use Rattle.c_tree.specs.declared.CArg.{CArg}
use Rattle.c_tree.specs.declared.CArg.TheVariants as arg
use Rattle.c_tree.specs.declared.CCall.{CCall}
use Rattle.c_tree.specs.declared.CFile.{CFile}
use Rattle.c_tree.specs.declared.CFun.{CFun}
use Rattle.c_tree.specs.declared.CParam.{CParam}
use Rattle.c_tree.specs.declared.CParam.TheVariants as param
use Rattle.c_tree.specs.declared.CStmt.{CStmt}
use Rattle.c_subset.specs.Statements.{IsStmts}
use Rattle.c_subset.specs.Terminals.{sign, keyword, name, number}

-- param: `reg` NAME `[` `D` `]`, or `uint64_t` NAME
pub data IsParam : List Token → CParam → List Token → Type 0 where
  array_param : {text : List ℕ} {at of square shares end : Place} {a : List Token}
      → IsParam (keyword keyword.Reg at ∷ name text of ∷ sign sign.OpenSquare square ∷ keyword keyword.Shares shares
      ∷ sign sign.CloseSquare end ∷ a) (param.Array text) a
  word_param : {text : List ℕ} {at of : Place} {a : List Token}
      → IsParam (keyword keyword.Word at ∷ name text of ∷ a) (param.Word text) a

-- param (`,` param)*
pub data IsParams : List Token → List CParam → List Token → Type 0 where
  last_param : {p : CParam} {a b : List Token} → IsParam a p b → IsParams a (p ∷ []) b
  next_param : {p : CParam} {ps : List CParam} {comma : Place} {a b c : List Token}
      → IsParam a p (sign sign.Comma comma ∷ b) → IsParams b ps c → IsParams a (p ∷ ps) c

-- gadget: `static void` NAME `(` param (`,` param)* `)` `{` stmt* `}`
pub data IsGadget : List Token → CFun → List Token → Type 0 where
  gadget : {text : List ℕ} {ps : List CParam} {ss : List CStmt} {at void of round end curly close : Place}
      {a b c : List Token}
      → IsParams a ps (sign sign.CloseRound end ∷ sign sign.OpenCurly curly ∷ b)
      → IsStmts 2 b ss (sign sign.CloseCurly close ∷ c)
      → IsGadget (keyword keyword.Static at ∷ keyword keyword.Void void ∷ name text of ∷ sign sign.OpenRound round ∷ a)
      (record { name = text; params = ps; body = ss }) c

-- gadget*
pub data IsGadgets : List Token → List CFun → List Token → Type 0 where
  no_gadget : {a : List Token} → IsGadgets a [] a
  next_gadget : {g : CFun} {gs : List CFun} {a b c : List Token}
      → IsGadget a g b → IsGadgets b gs c → IsGadgets a (g ∷ gs) c

-- `[` NUMBER `]` `[` `D` `]`, of at least one row and at most so many
pub data IsRows : ℕ → List Token → ℕ → List Token → Type 0 where
  rows : {most n : ℕ} {at of end square shares close : Place} {a : List Token} → 1 ≤ n → n ≤ most
      → IsRows most (sign sign.OpenSquare at ∷ number n of ∷ sign sign.CloseSquare end ∷ sign sign.OpenSquare square
      ∷ keyword keyword.Shares shares ∷ sign sign.CloseSquare close ∷ a) n a

-- (`reg` `v` `[` NUMBER `]` `[` `D` `]` `;`)?; no slots where it is not there
pub data IsSlots : List Token → ℕ → List Token → Type 0 where
  no_slots : {a : List Token} → IsSlots a 0 a
  slots : {n : ℕ} {at of semicolon : Place} {a b : List Token}
      → IsRows 131072 a n (sign sign.Semicolon semicolon ∷ b)
      → IsSlots (keyword keyword.Reg at ∷ keyword keyword.Slots of ∷ a) n b

-- arg: `out` `[` NUMBER `]`, `in` `[` NUMBER `]`, `v` `[` NUMBER `]`, `UINT64_C` `(` NUMBER `)`
pub data IsArg : List Token → CArg → List Token → Type 0 where
  out_arg : {n : ℕ} {at square of end : Place} {a : List Token}
      → IsArg (keyword keyword.Out at ∷ sign sign.OpenSquare square ∷ number n of ∷ sign sign.CloseSquare end ∷ a)
      (arg.Out n) a
  in_arg : {n : ℕ} {at square of end : Place} {a : List Token}
      → IsArg (keyword keyword.In at ∷ sign sign.OpenSquare square ∷ number n of ∷ sign sign.CloseSquare end ∷ a)
      (arg.Input n) a
  slot_arg : {n : ℕ} {at square of end : Place} {a : List Token}
      → IsArg (keyword keyword.Slots at ∷ sign sign.OpenSquare square ∷ number n of ∷ sign sign.CloseSquare end ∷ a)
      (arg.Slot n) a
  number_arg : {n : ℕ} {at round of end : Place} {a : List Token}
      → IsArg (keyword keyword.Constant at ∷ sign sign.OpenRound round ∷ number n of ∷ sign sign.CloseRound end ∷ a)
      (arg.Number n) a

-- arg (`,` arg)*
pub data IsArgs : List Token → List CArg → List Token → Type 0 where
  last_arg : {x : CArg} {a b : List Token} → IsArg a x b → IsArgs a (x ∷ []) b
  next_arg : {x : CArg} {xs : List CArg} {comma : Place} {a b c : List Token}
      → IsArg a x (sign sign.Comma comma ∷ b) → IsArgs b xs c → IsArgs a (x ∷ xs) c

-- call*; call: NAME `(` arg (`,` arg)* `)` `;`
pub data IsCalls : List Token → List CCall → List Token → Type 0 where
  no_call : {a : List Token} → IsCalls a [] a
  next_call : {text : List ℕ} {xs : List CArg} {cs : List CCall} {at round end semicolon : Place} {a b c : List Token}
      → IsArgs a xs (sign sign.CloseRound end ∷ sign sign.Semicolon semicolon ∷ b) → IsCalls b cs c
      → IsCalls (name text at ∷ sign sign.OpenRound round ∷ a) (record { gadget = text; args = xs } ∷ cs) c

-- The tokens behind the first six lines, whose type has so many bits, are this file: gadget* and then
-- `void masked` `(` `reg` `out` rows `,` `reg` `in` rows `)` `{` slots call* `}`
pub data IsFile : ℕ → List Token → CFile → Type 0 where
  file : {bits outputs inputs slots : ℕ} {gs : List CFun} {cs : List CCall}
      {void at round reg out comma again in_at end curly close : Place} {a b c d e : List Token}
      → IsGadgets a gs (keyword keyword.Void void ∷ keyword keyword.Masked at ∷ sign sign.OpenRound round
      ∷ keyword keyword.Reg reg ∷ keyword keyword.Out out ∷ b)
      → IsRows 32768 b outputs (sign sign.Comma comma ∷ keyword keyword.Reg again ∷ keyword keyword.In in_at ∷ c)
      → IsRows 32768 c inputs (sign sign.CloseRound end ∷ sign sign.OpenCurly curly ∷ d)
      → IsSlots d slots e → IsCalls e cs (sign sign.CloseCurly close ∷ [])
      → IsFile bits a (record {
        reg_bits = bits;
        gadgets = gs;
        outputs = outputs;
        inputs = inputs;
        slots = slots;
        calls = cs;
      })
