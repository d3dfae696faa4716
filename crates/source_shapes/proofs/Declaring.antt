-- Declarations that shaped tokens spell have shaped types and at least one element, and there is at least one in a group.
use Rattle.std.proofs.Common.{ℕ, ◌<◌, ◌≤◌, List, [], ◌∷◌, ◌++◌, Option, Some, None, arith}
use Rattle.std.specs.Prelude.{IfSome}
use Rattle.std.specs.List.{AllByRecursion}
use Rattle.std.proofs.Math.Nat.{mul-pos}
use Rattle.usuba_syntax.specs.Declarations as declarations
use Rattle.usuba_syntax.specs.Declarations.{IsDims, IsShape, IsNames, IsDecl, IsDecls, IsResults, IsLocals, decls_of}
use Rattle.usuba_tokens.specs.declared.token.Token.{Token}
use Rattle.usuba_trees.specs.declared.Decl.{Decl}
use Rattle.usuba_trees.specs.declared.Shape.{Shape}
use Rattle.usuba_trees.specs.declared.Word.{Word}
use Rattle.usuba_model.specs.Shapes.{count_size, sizes, product, all_elements}
use Rattle.source_shapes.specs.Shaped.{IsPositive, IsShaped, IsDeclared}
use Rattle.source_shapes.proofs.Tokens.{AreShaped}

-- what holds of each of two lists holds of each of both
pub each_of_both : {X : Type 0} (P : X → Type 0) (xs ys : List X) → AllByRecursion P xs → AllByRecursion P ys → AllByRecursion P (xs ++ ys)
each_of_both P [] ys first second = second
each_of_both P (x ∷ xs) ys first second = (first.0, each_of_both P xs ys first.1 second)

-- ---- elements

product_is_positive : (ns : List ℕ) → AllByRecursion IsPositive ns → 0 < product ns
product_is_positive [] some = omega arith
product_is_positive (n ∷ ns) some = mul-pos some.0 (product_is_positive ns some.1)

count_is_positive : (count : Option ℕ) → IfSome count IsPositive → AllByRecursion IsPositive (count_size count)
count_is_positive None some = tt
count_is_positive (Some n) some = (some, tt)

declared : (w : Word) (s : Shape) → IsShaped s → IsDeclared (record { name = w; shape = s })
declared w s shaped = record {
  shape = shaped;
  elements = product_is_positive (sizes s)
      (each_of_both IsPositive s.dims (count_size s.count) shaped.dims (count_is_positive s.count shaped.count));
}

-- declarations of shaped types with at least one element
pub record AreDeclared (ds : List Decl) : Type 0 where
  pub each : AllByRecursion IsDeclared ds
  pub some : 0 < all_elements ds

-- more declarations have no fewer elements
grows : (ds es : List Decl) → all_elements ds ≤ all_elements (ds ++ es)
grows [] es = omega arith
grows (d ∷ ds) es = omega (arith, grows ds es)

both_declared : (ds es : List Decl) → AreDeclared ds → AreDeclared es → AreDeclared (ds ++ es)
both_declared ds es first second =
    let some = first.some in record {
      each = each_of_both IsDeclared ds es first.each second.each;
      some = omega (arith, some, grows ds es);
    }

-- ---- the rules

past_dims : {a b : List Token} {ns : List ℕ} → IsDims a ns b → AreShaped a → AllByRecursion IsPositive ns × AreShaped b
past_dims declarations.no_more_dims h = (tt, h)
past_dims (declarations.next_dim n some x) h = let later = past_dims x h.1.1.1 in ((some, later.0), later.1)

past_shape : {a b : List Token} {s : Shape} → IsShape a s b → AreShaped a → IsShaped s × AreShaped b
past_shape (declarations.shape x) h =
    let dims = past_dims x h.1 in
    (record { width = h.0.0; count = h.0.1; dims = dims.0 }, dims.1)

past_names : {a b : List Token} {ws : List Word} → IsNames a ws b → AreShaped a → AreShaped b
past_names (declarations.last_name n) h = h.1
past_names (declarations.next_name n x) h = past_names x h.1.1

each_named : (ws : List Word) (s : Shape) → IsShaped s → AllByRecursion IsDeclared (decls_of s ws)
each_named [] s shaped = tt
each_named (w ∷ ws) s shaped = (declared w s shaped, each_named ws s shaped)

first_named : (w : Word) (ws : List Word) (s : Shape) → IsShaped s → AreDeclared (decls_of s (w ∷ ws))
first_named w ws s shaped =
    let first = (declared w s shaped).elements in
    record { each = each_named (w ∷ ws) s shaped; some = omega (arith, first) }

named : {a b : List Token} {ws : List Word} (s : Shape) → IsNames a ws b → IsShaped s → AreDeclared (decls_of s ws)
named s (declarations.last_name {w = w} n) shaped = first_named w [] s shaped
named s (declarations.next_name {w = w} {ws = ws} n x) shaped = first_named w ws s shaped

past_decl : {a b : List Token} {ds : List Decl} → IsDecl a ds b → AreShaped a → AreDeclared ds × AreShaped b
past_decl (declarations.decl {s = s} x y) h =
    let shape = past_shape y (past_names x h).1 in
    (named s x shape.0, shape.1)

-- past the declarations of one group after another
pub past_decls : {a b : List Token} {ds : List Decl} → IsDecls a ds b → AreShaped a → AreDeclared ds × AreShaped b
past_decls (declarations.last_decl x) h = past_decl x h
past_decls (declarations.next_decl {ds = ds} {es = es} x y) h =
    let first = past_decl x h in
    let later = past_decls y first.1.1 in
    (both_declared ds es first.0 later.0, later.1)

-- past the outputs of a definition
pub past_results : {a b : List Token} {ds : List Decl} → IsResults a ds b → AreShaped a → AreDeclared ds × AreShaped b
past_results (declarations.results_in_brackets x) h = let inner = past_decls x h.1 in (inner.0, inner.1.1)
past_results (declarations.bare_results x) h = past_decls x h

-- past the local variables of a node; there may be none
pub past_locals : {a b : List Token} {ds : List Decl} → IsLocals a ds b → AreShaped a → AllByRecursion IsDeclared ds × AreShaped b
past_locals declarations.no_locals h = (tt, h)
past_locals (declarations.locals x) h = let inner = past_decls x h.1 in (inner.0.each, inner.1)
