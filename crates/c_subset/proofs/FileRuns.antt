-- Gadgets, calls and files of the subset are derived by the table.
use Rattle.std.proofs.Common.{false, ℕ, List, [], ◌∷◌, ◌++◌, refl, sym, subst, arith}
use Rattle.ll_reader.specs.Derivation.{Derives}
use Rattle.ll_reader.specs.Derivation as derivation
use Rattle.ll_reader.specs.declared.grammar.Item.{Item}
use Rattle.ll_reader.specs.declared.grammar.Item.TheVariants as due
use Rattle.ll_reader.specs.declared.grammar.Step.{Step}
use Rattle.ll_reader.specs.declared.grammar.Step.TheVariants.{Take}
use Rattle.std.proofs.lemmas.List.Elements.{All-nil, All-take}
use Rattle.tor_edge.specs.declared.place.Place.{Place}
use Rattle.c_grammar.specs.Classes.{classes_from}
use Rattle.c_grammar.specs.Grammar.{AreDerived}
use Rattle.c_grammar.specs.declared.class.TheConstants as class
use Rattle.c_grammar.specs.declared.rule.TheConstants as rules
use Rattle.c_grammar.specs.declared.table.TheConstants.{PRODUCTIONS}
use Rattle.c_grammar.specs.declared.table.files.TheConstants as file_row
use Rattle.c_tokens.specs.declared.token.Ending.TheVariants as ending
use Rattle.c_tokens.specs.declared.token.Keyword.TheVariants as keyword
use Rattle.c_tokens.specs.declared.token.Sign.TheVariants as sign
use Rattle.c_tokens.specs.declared.token.Token.{Token}
use Rattle.c_tree.specs.declared.CArg.{CArg}
use Rattle.c_tree.specs.declared.CCall.{CCall}
use Rattle.c_tree.specs.declared.CFile.{CFile}
use Rattle.c_tree.specs.declared.CFun.{CFun}
use Rattle.c_tree.specs.declared.CParam.{CParam}
use Rattle.c_subset.specs.Files.{IsParam, array_param, word_param, IsParams, last_param, next_param, IsGadget, gadget, IsGadgets, no_gadget, next_gadget, IsRows, rows, IsSlots, no_slots, slots, IsArg, out_arg, in_arg, slot_arg, number_arg, IsArgs, last_arg, next_arg, IsCalls, no_call, next_call, IsFile, file}
use Rattle.c_subset.specs.Terminals as terminal
use Rattle.c_subset.proofs.Runs.{deep, bare, bare_items, Within, taken, Runs, run_nil, run_sign, run_word, run_rule, run_by}
use Rattle.c_subset.proofs.Leaves.{run_name, run_number, run_few, run_many}
use Rattle.c_subset.proofs.StatementRuns.{Goes, run_stmts}

run_param : {c : List ℕ} (a : List Token) (p : CParam) (b : List Token) → IsParam a p b → Runs 128 (due.Rule rules.PARAM ∷ []) c a c b
run_param a p b (array_param {text = text} {at = at} {of = of} {square = square} {shares = shares} {end = end}) =
    run_by 6 file_row.ARRAY_PARAM refl refl (run_word keyword.Reg at refl (run_rule (run_name text of) (run_sign sign.OpenSquare square
    (run_word keyword.Shares shares refl (run_sign sign.CloseSquare end run_nil)))))
run_param a p b (word_param {text = text} {at = at} {of = of}) =
    run_by 7 file_row.WORD_PARAM refl refl (run_word keyword.Word at refl (run_rule (run_name text of) run_nil))

-- the first parameter, and those behind it up to the bracket
run_params : {c : List ℕ} (a : List Token) (ps : List CParam) (end : Place) (b : List Token)
    → IsParams a ps (terminal.sign sign.CloseRound end ∷ b)
    → Runs 128 (due.Rule rules.PARAM ∷ due.Rule rules.PARAMS ∷ []) c a c (terminal.sign sign.CloseRound end ∷ b)
run_params a ps end b (last_param {p = p} x) = run_rule (run_param a p _ x) (run_rule (run_by 5 file_row.NO_MORE_PARAMS refl refl run_nil) run_nil)
run_params a ps end b (next_param {p = p} {ps = more} {comma = comma} {b = m} x y) =
    run_rule (run_param a p _ x)
    (run_rule (run_by 4 file_row.NEXT_PARAM refl refl (run_sign sign.Comma comma (run_params m more end b y))) run_nil)

-- a text of some items before what the other items are made of
run_two : {r s : ℕ} {is : List Item} {c d e : List ℕ} {x y z : List Token}
    → Runs 128 (due.Rule r ∷ due.Rule s ∷ []) c x d y → Runs 128 is d y e z → Runs 128 (due.Rule r ∷ due.Rule s ∷ is) c x e z
run_two {r = r} {s = s} {is = is} {c = c} {d = d} {x = x} {y = y} f g = record {
  run = λ rest steps end h all.
      let (more, k, within) = g.run rest steps end h all in
      let same = bare_items 0 is rest in
      let below : Derives PRODUCTIONS (bare (deep 0 is ++ rest)) (classes_from false d y ++ end) more =
      subst (λ (l : List Item). Derives PRODUCTIONS l (classes_from false d y ++ end) more) (sym same) k in
      let (most, m, shallow) = f.run (deep 0 is ++ rest) more end below within in
      (most, subst (λ (l : List Item). Derives PRODUCTIONS (due.Rule r ∷ due.Rule s ∷ l) (classes_from false c x ++ end) most) same m, shallow);
}

run_gadget : (c : List ℕ) (a : List Token) (g : CFun) (b : List Token) → IsGadget a g b → Goes rules.GADGET c a b
run_gadget c before g after (gadget {text = text} {ps = ps} {ss = ss} {at = at} {void = void} {of = of} {round = round} {end = end} {curly = curly} {close = close} {a = a} {b = b} x y) =
    let (d, f) = run_stmts 2 (omega arith) c b ss (terminal.sign sign.CloseCurly close ∷ after) y in (
      d,
      run_by 3 file_row.GADGET refl refl (run_word keyword.Static at refl (run_word keyword.Void void refl (run_rule (run_name text of)
          (run_sign sign.OpenRound round (run_two (run_params a ps end (terminal.sign sign.OpenCurly curly ∷ b) x)
          (run_sign sign.CloseRound end (run_sign sign.OpenCurly curly (run_rule f (run_sign sign.CloseCurly close run_nil))))))))),
    )

run_gadgets : (c : List ℕ) (a : List Token) (gs : List CFun) (void : Place) (b : List Token)
    → IsGadgets a gs (terminal.keyword keyword.Void void ∷ b)
    → Goes rules.GADGETS c a (terminal.keyword keyword.Void void ∷ b)
run_gadgets c a gs void b no_gadget = (c, run_by 2 file_row.NO_MORE_GADGETS refl refl run_nil)
run_gadgets c a gs void b (next_gadget {g = g} {gs = more} {b = m} x y) =
    let (d, f) = run_gadget c a g m x in
    let (e, h) = run_gadgets d m more void b y in
    (e, run_by 1 file_row.NEXT_GADGET refl refl (run_rule f (run_rule h run_nil)))

run_rows : {c : List ℕ} (a : List Token) (n : ℕ) (b : List Token) → IsRows 32768 a n b → Runs 128 (due.Rule rules.ROWS ∷ []) c a c b
run_rows a n b (rows {at = at} {of = of} {end = end} {square = square} {shares = shares} {close = close} some most) =
    run_by 29 file_row.ROWS refl refl (run_sign sign.OpenSquare at (run_rule (run_few n of some most) (run_sign sign.CloseSquare end
    (run_sign sign.OpenSquare square (run_word keyword.Shares shares refl (run_sign sign.CloseSquare close run_nil))))))

run_slots : {c : List ℕ} (a : List Token) (n : ℕ) (b : List Token) → IsSlots a n b → Runs 128 (due.Rule rules.SLOTS ∷ []) c a c b
run_slots a n b no_slots = run_by 32 file_row.NO_SLOTS refl refl run_nil
run_slots a n b (slots {at = at} {of = of} {semicolon = semicolon} (rows {at = first} {of = number} {end = end} {square = square} {shares = shares} {close = close} some most)) =
    run_by 31 file_row.SLOTS refl refl (run_word keyword.Reg at refl (run_word keyword.Slots of refl (run_sign sign.OpenSquare first
    (run_rule (run_many n number some most) (run_sign sign.CloseSquare end (run_sign sign.OpenSquare square
    (run_word keyword.Shares shares refl (run_sign sign.CloseSquare close (run_sign sign.Semicolon semicolon run_nil)))))))))

run_arg : {c : List ℕ} (a : List Token) (x : CArg) (b : List Token) → IsArg a x b → Runs 128 (due.Rule rules.ARG ∷ []) c a c b
run_arg a x b (out_arg {n = n} {at = at} {square = square} {of = of} {end = end}) =
    run_by 38 file_row.OUT_ARG refl refl (run_word keyword.Out at refl (run_sign sign.OpenSquare square (run_rule (run_number n of) (run_sign sign.CloseSquare end run_nil))))
run_arg a x b (in_arg {n = n} {at = at} {square = square} {of = of} {end = end}) =
    run_by 39 file_row.IN_ARG refl refl (run_word keyword.In at refl (run_sign sign.OpenSquare square (run_rule (run_number n of) (run_sign sign.CloseSquare end run_nil))))
run_arg a x b (slot_arg {n = n} {at = at} {square = square} {of = of} {end = end}) =
    run_by 40 file_row.SLOT_ARG refl refl (run_word keyword.Slots at refl (run_sign sign.OpenSquare square (run_rule (run_number n of) (run_sign sign.CloseSquare end run_nil))))
run_arg a x b (number_arg {n = n} {at = at} {round = round} {of = of} {end = end}) =
    run_by 41 file_row.NUMBER_ARG refl refl (run_word keyword.Constant at refl (run_sign sign.OpenRound round (run_rule (run_number n of) (run_sign sign.CloseRound end run_nil))))

run_args : {c : List ℕ} (a : List Token) (xs : List CArg) (end : Place) (b : List Token)
    → IsArgs a xs (terminal.sign sign.CloseRound end ∷ b)
    → Runs 128 (due.Rule rules.ARG ∷ due.Rule rules.ARGS ∷ []) c a c (terminal.sign sign.CloseRound end ∷ b)
run_args a xs end b (last_arg {x = x} h) = run_rule (run_arg a x _ h) (run_rule (run_by 37 file_row.NO_MORE_ARGS refl refl run_nil) run_nil)
run_args a xs end b (next_arg {x = x} {xs = more} {comma = comma} {b = m} h k) =
    run_rule (run_arg a x _ h) (run_rule (run_by 36 file_row.NEXT_ARG refl refl (run_sign sign.Comma comma (run_args m more end b k))) run_nil)

run_calls : {c : List ℕ} (a : List Token) (cs : List CCall) (b : List Token) → IsCalls a cs b → Runs 128 (due.Rule rules.CALLS ∷ []) c a c b
run_calls a cs b no_call = run_by 34 file_row.NO_MORE_CALLS refl refl run_nil
run_calls a cs b (next_call {text = text} {xs = xs} {cs = more} {at = at} {round = round} {end = end} {semicolon = semicolon} {a = inside} {b = m} x y) =
    run_by 33 file_row.NEXT_CALL refl refl (run_rule (run_by 35 file_row.CALL refl refl (run_rule (run_name text at) (run_sign sign.OpenRound round
    (run_two (run_args inside xs end (terminal.sign sign.Semicolon semicolon ∷ m) x)
    (run_sign sign.CloseRound end (run_sign sign.Semicolon semicolon run_nil))))))
    (run_rule (run_calls m more b y) run_nil))

-- a file
pub run_file : (bits : ℕ) (tokens : List Token) (f : CFile) (at : Place) → IsFile bits tokens f
    → (steps : List Step) × AreDerived tokens (ending.End at) steps
run_file bits tokens f end_at (file {outputs = outputs} {inputs = inputs} {slots = n} {gs = gs} {cs = cs} {void = void} {at = at} {round = round} {reg = reg} {out = out} {comma = comma} {again = again} {in_at = in_at} {end = end} {curly = curly} {close = close} {b = b} {c = c} {d = d} {e = e} gadgets first second third calls) =
    let (counter, all) = run_gadgets [] tokens gs void _ gadgets in
    let whole : Runs 128 (due.Rule rules.FILE ∷ []) [] tokens counter [] =
    run_by 0 file_row.FILE refl refl (run_rule all (run_rule (run_by 28 file_row.MASKED refl refl (run_word keyword.Void void refl (run_word keyword.Masked at refl
    (run_sign sign.OpenRound round (run_word keyword.Reg reg refl (run_word keyword.Out out refl
    (run_rule (run_rows b outputs _ first) (run_sign sign.Comma comma (run_word keyword.Reg again refl
    (run_word keyword.In in_at refl (run_rule (run_rows c inputs _ second) (run_sign sign.CloseRound end
    (run_rule (run_by 30 file_row.BODY refl refl (run_sign sign.OpenCurly curly (run_rule (run_slots d n e third)
    (run_rule (run_calls e cs _ calls) (run_sign sign.CloseCurly close run_nil))))) run_nil))))))))))))) run_nil)) in
    let (more, text, within) = whole.run ((due.Token class.END, 0) ∷ []) (Take ∷ []) (class.END ∷ [])
    (derivation.token derivation.done) (taken 128 [] (All-nil Within)) in
    (more, record { text = text; shallow = All-take Within _ _ within })
