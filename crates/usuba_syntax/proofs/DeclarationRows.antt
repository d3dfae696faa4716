-- The rows of definitions and declarations, each above two lemmas. `by_row` derives a text of its rule.
-- `made_row`: its action makes what its rule means.
use Rattle.std.proofs.Common.{ℕ, List, ◌∷◌, ◌≡◌, refl, ap, sym, reverse}
use Rattle.usuba_parts.specs.declared.part.Part.{Part}
use Rattle.usuba_parts.specs.declared.part.Part.TheVariants as part
use Rattle.usuba_syntax.specs.Declarations as declarations
use Rattle.usuba_syntax.specs.Files as files
use Rattle.usuba_tokens.specs.declared.token.Token.{Token}
use Rattle.usuba_trees.specs.declared.Decl.{Decl}
use Rattle.usuba_trees.specs.declared.Item.{Item}
use Rattle.usuba_trees.specs.declared.Word.{Word}
use Rattle.usuba_parts.specs.Bases.{base_of}
use Rattle.usuba_trees.specs.declared.Def.TheVariants as def
use Rattle.usuba_syntax.proofs.Backwards.{backwards, reverse-backwards, backwards-append}
use Rattle.usuba_syntax.proofs.Meaning.{Reads, Makes, nil, token, rule, is_node, is_table, is_perm, is_returns}
use Rattle.usuba_syntax.proofs.Meaning.{is_vars, is_let, is_tel, is_inline, is_no_inline, is_open_round}
use Rattle.usuba_syntax.proofs.Meaning.{is_close_round, is_open_square, is_close_square, is_open_curly}
use Rattle.usuba_syntax.proofs.Meaning.{is_close_curly, is_comma, is_colon, is_type_word, m_file, m_defs}
use Rattle.usuba_syntax.proofs.Meaning.{m_more_defs, m_no_defs, m_def, m_plain_def, m_grid, m_numbers}
use Rattle.usuba_syntax.proofs.Meaning.{m_more_numbers, m_no_numbers, m_locals, m_results, m_decls, m_more_decls}
use Rattle.usuba_syntax.proofs.Meaning.{m_no_decls, m_decl, m_alike, m_group, m_shape, m_dims, m_items, m_name}
use Rattle.usuba_syntax.proofs.Meaning.{m_number, m_positive_number}
use Rattle.ll_reader.specs.Derivation.{items}
use Rattle.usuba_syntax.specs.declared.table.declarations.TheConstants as row
use Rattle.usuba_syntax.proofs.Runs.{Derived, run_by}

-- a node from lists that were built backwards
pub node_made : (w : Word) (ins outs vars : List Decl) (is : List Item) (rest : List Part) →
    ◌≡◌ {A = List Part} (part.Def (def.Node (record {
      name = w;
      inputs = reverse (backwards ins);
      outputs = reverse (backwards outs);
      locals = reverse (backwards vars);
      items = reverse (backwards is);
    })) ∷ rest)
    (part.Def (def.Node (record { name = w; inputs = ins; outputs = outs; locals = vars; items = is })) ∷ rest)
node_made w ins outs vars is rest =
    rw (reverse-backwards ins, reverse-backwards outs, reverse-backwards vars, reverse-backwards is) refl

-- a grid from lists that were built backwards
pub grid_made : (w : Word) (ins outs : List Decl) (ns : List ℕ) (rest : List Part) →
    ◌≡◌ {A = List Part} (part.Grid (record {
      name = w;
      inputs = reverse (backwards ins);
      outputs = reverse (backwards outs);
      entries = reverse (backwards ns);
    }) ∷ rest)
    (part.Grid (record { name = w; inputs = ins; outputs = outs; entries = ns }) ∷ rest)
grid_made w ins outs ns rest = rw (reverse-backwards ins, reverse-backwards outs, reverse-backwards ns) refl

-- file: defs
pub by_file : {a b : List Token} {ps : List Part} {v : Part} → Derived row.FILE row.FILE_ACTION a ps v b
by_file = run_by 0 row.FILE refl

-- the action makes what the rule means
pub made_file : {a b : List Token} {ps : List Part}
    → Reads (items row.FILE) a ps b → Makes row.FILE.rule row.FILE_ACTION a ps b
made_file (rule (m_defs {ds = ds} x) nil) =
    (_, m_file x, λ rest. ap (λ xs. part.File (record { defs = xs }) ∷ rest) (reverse-backwards ds), λ rest. refl)

-- defs: def more_defs
pub by_defs : {a b : List Token} {ps : List Part} {v : Part} → Derived row.DEFS row.DEFS_ACTION a ps v b
by_defs = run_by 1 row.DEFS refl

-- the action makes what the rule means
pub made_defs : {a b : List Token} {ps : List Part}
    → Reads (items row.DEFS) a ps b → Makes row.DEFS.rule row.DEFS_ACTION a ps b
made_defs (rule (m_def x) (rule m_no_defs nil)) = (_, m_defs (files.last_def x), λ rest. refl, λ rest. refl)
made_defs (rule (m_def x) (rule (m_more_defs y) nil)) = (_, m_defs (files.next_def x y), λ rest. refl, λ rest. refl)

-- more_defs: defs
pub by_more_defs : {a b : List Token} {ps : List Part} {v : Part}
    → Derived row.MORE_DEFS row.MORE_DEFS_ACTION a ps v b
by_more_defs = run_by 2 row.MORE_DEFS refl

-- the action makes what the rule means
pub made_more_defs : {a b : List Token} {ps : List Part}
    → Reads (items row.MORE_DEFS) a ps b → Makes row.MORE_DEFS.rule row.MORE_DEFS_ACTION a ps b
made_more_defs (rule (m_defs x) nil) = (_, m_more_defs x, λ rest. refl, λ rest. refl)

-- more_defs: nothing
pub by_no_more_defs : {a b : List Token} {ps : List Part} {v : Part}
    → Derived row.NO_MORE_DEFS row.NO_MORE_DEFS_ACTION a ps v b
by_no_more_defs = run_by 3 row.NO_MORE_DEFS refl

-- the action makes what the rule means
pub made_no_more_defs : {a b : List Token} {ps : List Part}
    → Reads (items row.NO_MORE_DEFS) a ps b → Makes row.NO_MORE_DEFS.rule row.NO_MORE_DEFS_ACTION a ps b
made_no_more_defs nil = (_, m_no_defs, λ rest. refl, λ rest. refl)

-- def: plain_def
pub by_plain_def : {a b : List Token} {ps : List Part} {v : Part}
    → Derived row.PLAIN_DEF row.PLAIN_DEF_ACTION a ps v b
by_plain_def = run_by 4 row.PLAIN_DEF refl

-- the action makes what the rule means
pub made_plain_def : {a b : List Token} {ps : List Part}
    → Reads (items row.PLAIN_DEF) a ps b → Makes row.PLAIN_DEF.rule row.PLAIN_DEF_ACTION a ps b
made_plain_def (rule (m_plain_def x) nil) = (_, m_def (files.plain x), λ rest. refl, λ rest. refl)

-- def: `_inline` plain_def
pub by_inline_def : {a b : List Token} {ps : List Part} {v : Part}
    → Derived row.INLINE_DEF row.INLINE_DEF_ACTION a ps v b
by_inline_def = run_by 5 row.INLINE_DEF refl

-- the action makes what the rule means
pub made_inline_def : {a b : List Token} {ps : List Part}
    → Reads (items row.INLINE_DEF) a ps b → Makes row.INLINE_DEF.rule row.INLINE_DEF_ACTION a ps b
made_inline_def (token is_inline (rule (m_plain_def x) nil)) = (_, m_def (files.inline x), λ rest. refl, λ rest. refl)

-- def: `_no_inline` plain_def
pub by_no_inline_def : {a b : List Token} {ps : List Part} {v : Part}
    → Derived row.NO_INLINE_DEF row.NO_INLINE_DEF_ACTION a ps v b
by_no_inline_def = run_by 6 row.NO_INLINE_DEF refl

-- the action makes what the rule means
pub made_no_inline_def : {a b : List Token} {ps : List Part}
    → Reads (items row.NO_INLINE_DEF) a ps b → Makes row.NO_INLINE_DEF.rule row.NO_INLINE_DEF_ACTION a ps b
made_no_inline_def (token is_no_inline (rule (m_plain_def x) nil)) =
    (_, m_def (files.no_inline x), λ rest. refl, λ rest. refl)

-- plain_def: `node` name `(` decls `)` `returns` results locals `let` items `tel`
pub by_node_def : {a b : List Token} {ps : List Part} {v : Part} → Derived row.NODE_DEF row.NODE_DEF_ACTION a ps v b
by_node_def = run_by 7 row.NODE_DEF refl

-- the action makes what the rule means
pub made_node_def : {a b : List Token} {ps : List Part}
    → Reads (items row.NODE_DEF) a ps b → Makes row.NODE_DEF.rule row.NODE_DEF_ACTION a ps b
made_node_def (token is_node (rule (m_name n) (token is_open_round (rule (m_decls {ds = ins} x)
    (token is_close_round (token is_returns (rule (m_results {ds = outs} y) (rule (m_locals {ds = vars} z)
    (token is_let (rule (m_items {is = is} i) (token is_tel nil))))))))))) = (
      _,
      m_plain_def (files.node_def (files.node n x y z i)),
      λ rest. node_made _ ins outs vars is rest,
      λ rest. refl,
    )

-- plain_def: `table` grid
pub by_table_def : {a b : List Token} {ps : List Part} {v : Part}
    → Derived row.TABLE_DEF row.TABLE_DEF_ACTION a ps v b
by_table_def = run_by 8 row.TABLE_DEF refl

-- the action makes what the rule means
pub made_table_def : {a b : List Token} {ps : List Part}
    → Reads (items row.TABLE_DEF) a ps b → Makes row.TABLE_DEF.rule row.TABLE_DEF_ACTION a ps b
made_table_def (token is_table (rule (m_grid x) nil)) =
    (_, m_plain_def (files.table_def x), λ rest. refl, λ rest. refl)

-- plain_def: `perm` grid
pub by_perm_def : {a b : List Token} {ps : List Part} {v : Part} → Derived row.PERM_DEF row.PERM_DEF_ACTION a ps v b
by_perm_def = run_by 9 row.PERM_DEF refl

-- the action makes what the rule means
pub made_perm_def : {a b : List Token} {ps : List Part}
    → Reads (items row.PERM_DEF) a ps b → Makes row.PERM_DEF.rule row.PERM_DEF_ACTION a ps b
made_perm_def (token is_perm (rule (m_grid x) nil)) = (_, m_plain_def (files.perm_def x), λ rest. refl, λ rest. refl)

-- grid: name `(` decls `)` `returns` results `{` numbers `}`
pub by_grid : {a b : List Token} {ps : List Part} {v : Part} → Derived row.GRID row.GRID_ACTION a ps v b
by_grid = run_by 10 row.GRID refl

-- the action makes what the rule means
pub made_grid : {a b : List Token} {ps : List Part}
    → Reads (items row.GRID) a ps b → Makes row.GRID.rule row.GRID_ACTION a ps b
made_grid (rule (m_name n) (token is_open_round (rule (m_decls {ds = ins} x) (token is_close_round
    (token is_returns (rule (m_results {ds = outs} y) (token is_open_curly (rule (m_numbers {ns = ns} z)
    (token is_close_curly nil))))))))) =
    (_, m_grid (files.grid n x y z), λ rest. grid_made _ ins outs ns rest, λ rest. refl)

-- numbers: number more_numbers
pub by_numbers_of_grid : {a b : List Token} {ps : List Part} {v : Part}
    → Derived row.NUMBERS_OF_GRID row.NUMBERS_OF_GRID_ACTION a ps v b
by_numbers_of_grid = run_by 11 row.NUMBERS_OF_GRID refl

-- the action makes what the rule means
pub made_numbers_of_grid : {a b : List Token} {ps : List Part}
    → Reads (items row.NUMBERS_OF_GRID) a ps b → Makes row.NUMBERS_OF_GRID.rule row.NUMBERS_OF_GRID_ACTION a ps b
made_numbers_of_grid (rule (m_number n) (rule m_no_numbers nil)) =
    (_, m_numbers (files.last_number n), λ rest. refl, λ rest. refl)
made_numbers_of_grid (rule (m_number n) (rule (m_more_numbers x) nil)) =
    (_, m_numbers (files.next_number n x), λ rest. refl, λ rest. refl)

-- more_numbers: `,` numbers
pub by_more_numbers : {a b : List Token} {ps : List Part} {v : Part}
    → Derived row.MORE_NUMBERS row.MORE_NUMBERS_ACTION a ps v b
by_more_numbers = run_by 12 row.MORE_NUMBERS refl

-- the action makes what the rule means
pub made_more_numbers : {a b : List Token} {ps : List Part}
    → Reads (items row.MORE_NUMBERS) a ps b → Makes row.MORE_NUMBERS.rule row.MORE_NUMBERS_ACTION a ps b
made_more_numbers (token is_comma (rule (m_numbers x) nil)) = (_, m_more_numbers x, λ rest. refl, λ rest. refl)

-- more_numbers: nothing
pub by_no_more_numbers : {a b : List Token} {ps : List Part} {v : Part}
    → Derived row.NO_MORE_NUMBERS row.NO_MORE_NUMBERS_ACTION a ps v b
by_no_more_numbers = run_by 13 row.NO_MORE_NUMBERS refl

-- the action makes what the rule means
pub made_no_more_numbers : {a b : List Token} {ps : List Part}
    → Reads (items row.NO_MORE_NUMBERS) a ps b → Makes row.NO_MORE_NUMBERS.rule row.NO_MORE_NUMBERS_ACTION a ps b
made_no_more_numbers nil = (_, m_no_numbers, λ rest. refl, λ rest. refl)

-- locals: `vars` decls
pub by_locals : {a b : List Token} {ps : List Part} {v : Part} → Derived row.LOCALS row.LOCALS_ACTION a ps v b
by_locals = run_by 14 row.LOCALS refl

-- the action makes what the rule means
pub made_locals : {a b : List Token} {ps : List Part}
    → Reads (items row.LOCALS) a ps b → Makes row.LOCALS.rule row.LOCALS_ACTION a ps b
made_locals (token is_vars (rule (m_decls x) nil)) = (_, m_locals (declarations.locals x), λ rest. refl, λ rest. refl)

-- locals: nothing
pub by_no_locals : {a b : List Token} {ps : List Part} {v : Part}
    → Derived row.NO_LOCALS row.NO_LOCALS_ACTION a ps v b
by_no_locals = run_by 15 row.NO_LOCALS refl

-- the action makes what the rule means
pub made_no_locals : {a b : List Token} {ps : List Part}
    → Reads (items row.NO_LOCALS) a ps b → Makes row.NO_LOCALS.rule row.NO_LOCALS_ACTION a ps b
made_no_locals nil = (_, m_locals declarations.no_locals, λ rest. refl, λ rest. refl)

-- results: `(` decls `)`
pub by_results_in_brackets : {a b : List Token} {ps : List Part} {v : Part}
    → Derived row.RESULTS_IN_BRACKETS row.RESULTS_IN_BRACKETS_ACTION a ps v b
by_results_in_brackets = run_by 16 row.RESULTS_IN_BRACKETS refl

-- the action makes what the rule means
pub made_results_in_brackets : {a b : List Token} {ps : List Part}
    → Reads (items row.RESULTS_IN_BRACKETS) a ps b
    → Makes row.RESULTS_IN_BRACKETS.rule row.RESULTS_IN_BRACKETS_ACTION a ps b
made_results_in_brackets (token is_open_round (rule (m_decls x) (token is_close_round nil))) =
    (_, m_results (declarations.results_in_brackets x), λ rest. refl, λ rest. refl)

-- results: decls
pub by_bare_results : {a b : List Token} {ps : List Part} {v : Part}
    → Derived row.BARE_RESULTS row.BARE_RESULTS_ACTION a ps v b
by_bare_results = run_by 17 row.BARE_RESULTS refl

-- the action makes what the rule means
pub made_bare_results : {a b : List Token} {ps : List Part}
    → Reads (items row.BARE_RESULTS) a ps b → Makes row.BARE_RESULTS.rule row.BARE_RESULTS_ACTION a ps b
made_bare_results (rule (m_decls x) nil) = (_, m_results (declarations.bare_results x), λ rest. refl, λ rest. refl)

-- decls: decl more_decls
pub by_decls : {a b : List Token} {ps : List Part} {v : Part} → Derived row.DECLS row.DECLS_ACTION a ps v b
by_decls = run_by 18 row.DECLS refl

-- the action makes what the rule means
pub made_decls : {a b : List Token} {ps : List Part}
    → Reads (items row.DECLS) a ps b → Makes row.DECLS.rule row.DECLS_ACTION a ps b
made_decls (rule (m_decl x) (rule m_no_decls nil)) =
    (_, m_decls (declarations.last_decl x), λ rest. refl, λ rest. refl)
made_decls (rule (m_decl {ds = ds} x) (rule (m_more_decls {ds = es} y) nil)) = (
  _,
  m_decls (declarations.next_decl x y),
  λ rest. ap (λ xs. part.Decls xs ∷ rest) (sym (backwards-append ds es)),
  λ rest. refl,
)

-- more_decls: `,` decls
pub by_more_decls : {a b : List Token} {ps : List Part} {v : Part}
    → Derived row.MORE_DECLS row.MORE_DECLS_ACTION a ps v b
by_more_decls = run_by 19 row.MORE_DECLS refl

-- the action makes what the rule means
pub made_more_decls : {a b : List Token} {ps : List Part}
    → Reads (items row.MORE_DECLS) a ps b → Makes row.MORE_DECLS.rule row.MORE_DECLS_ACTION a ps b
made_more_decls (token is_comma (rule (m_decls x) nil)) = (_, m_more_decls x, λ rest. refl, λ rest. refl)

-- more_decls: nothing
pub by_no_more_decls : {a b : List Token} {ps : List Part} {v : Part}
    → Derived row.NO_MORE_DECLS row.NO_MORE_DECLS_ACTION a ps v b
by_no_more_decls = run_by 20 row.NO_MORE_DECLS refl

-- the action makes what the rule means
pub made_no_more_decls : {a b : List Token} {ps : List Part}
    → Reads (items row.NO_MORE_DECLS) a ps b → Makes row.NO_MORE_DECLS.rule row.NO_MORE_DECLS_ACTION a ps b
made_no_more_decls nil = (_, m_no_decls, λ rest. refl, λ rest. refl)

-- decl: name more_names
pub by_decl : {a b : List Token} {ps : List Part} {v : Part} → Derived row.DECL row.DECL_ACTION a ps v b
by_decl = run_by 21 row.DECL refl

-- the action makes what the rule means
pub made_decl : {a b : List Token} {ps : List Part}
    → Reads (items row.DECL) a ps b → Makes row.DECL.rule row.DECL_ACTION a ps b
made_decl (rule (m_name n) (rule (m_group s) nil)) =
    (_, m_decl (declarations.decl (declarations.last_name n) s), λ rest. refl, λ rest. refl)
made_decl (rule (m_name n) (rule (m_alike ns s) nil)) =
    (_, m_decl (declarations.decl (declarations.next_name n ns) s), λ rest. refl, λ rest. refl)

-- more_names: `,` name more_names
pub by_next_name : {a b : List Token} {ps : List Part} {v : Part}
    → Derived row.NEXT_NAME row.NEXT_NAME_ACTION a ps v b
by_next_name = run_by 22 row.NEXT_NAME refl

-- the action makes what the rule means
pub made_next_name : {a b : List Token} {ps : List Part}
    → Reads (items row.NEXT_NAME) a ps b → Makes row.NEXT_NAME.rule row.NEXT_NAME_ACTION a ps b
made_next_name (token is_comma (rule (m_name n) (rule (m_group s) nil))) =
    (_, m_alike (declarations.last_name n) s, λ rest. refl, λ rest. refl)
made_next_name (token is_comma (rule (m_name n) (rule (m_alike ns s) nil))) =
    (_, m_alike (declarations.next_name n ns) s, λ rest. refl, λ rest. refl)

-- more_names: `:` shape
pub by_type_of_names : {a b : List Token} {ps : List Part} {v : Part}
    → Derived row.TYPE_OF_NAMES row.TYPE_OF_NAMES_ACTION a ps v b
by_type_of_names = run_by 23 row.TYPE_OF_NAMES refl

-- the action makes what the rule means
pub made_type_of_names : {a b : List Token} {ps : List Part}
    → Reads (items row.TYPE_OF_NAMES) a ps b → Makes row.TYPE_OF_NAMES.rule row.TYPE_OF_NAMES_ACTION a ps b
made_type_of_names (token is_colon (rule (m_shape s) nil)) = (_, m_group s, λ rest. refl, λ rest. refl)

-- shape: TYPEWORD dims
pub by_shape : {a b : List Token} {ps : List Part} {v : Part} → Derived row.SHAPE row.SHAPE_ACTION a ps v b
by_shape = run_by 24 row.SHAPE refl

-- the action makes what the rule means
pub made_shape : {a b : List Token} {ps : List Part}
    → Reads (items row.SHAPE) a ps b → Makes row.SHAPE.rule row.SHAPE_ACTION a ps b
made_shape (token (is_type_word {word = word} {at = at}) (rule (m_dims {ns = ns} x) nil)) = (
  _,
  m_shape (declarations.shape x),
  λ rest. ap (λ xs. part.Shape (record { base = base_of word.base; count = word.count; dims = xs; place = at }) ∷ rest)
      (reverse-backwards ns),
  λ rest. refl,
)

-- dims: `[` positive_number `]` dims
pub by_next_dim : {a b : List Token} {ps : List Part} {v : Part} → Derived row.NEXT_DIM row.NEXT_DIM_ACTION a ps v b
by_next_dim = run_by 25 row.NEXT_DIM refl

-- the action makes what the rule means
pub made_next_dim : {a b : List Token} {ps : List Part}
    → Reads (items row.NEXT_DIM) a ps b → Makes row.NEXT_DIM.rule row.NEXT_DIM_ACTION a ps b
made_next_dim (token is_open_square (rule (m_positive_number n h) (token is_close_square (rule (m_dims x) nil)))) =
    (_, m_dims (declarations.next_dim n h x), λ rest. refl, λ rest. refl)

-- dims: nothing
pub by_no_more_dims : {a b : List Token} {ps : List Part} {v : Part}
    → Derived row.NO_MORE_DIMS row.NO_MORE_DIMS_ACTION a ps v b
by_no_more_dims = run_by 26 row.NO_MORE_DIMS refl

-- the action makes what the rule means
pub made_no_more_dims : {a b : List Token} {ps : List Part}
    → Reads (items row.NO_MORE_DIMS) a ps b → Makes row.NO_MORE_DIMS.rule row.NO_MORE_DIMS_ACTION a ps b
made_no_more_dims nil = (_, m_dims declarations.no_more_dims, λ rest. refl, λ rest. refl)
