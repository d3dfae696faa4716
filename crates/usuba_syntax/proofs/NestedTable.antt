-- The test of the table: how many are open at each of its tokens, as the nest tells it.
use Rattle.std.proofs.Common.{◌≡◌, ℕ, Bool, true, false, not, ◌&&◌, ◌||◌, List, [], ◌∷◌, Some, None, refl}
use Rattle.std.specs.Prelude.{◌==◌, if◌then◌else◌}
use Rattle.std.specs.List.{list_all}
use Rattle.ll_reader.specs.declared.grammar.Item.{Item}
use Rattle.ll_reader.specs.declared.grammar.Item.TheVariants.{Token, Rule}
use Rattle.ll_reader.specs.declared.grammar.Production.{Production}
use Rattle.ll_reader.specs.Derivation.{items}
use Rattle.usuba_syntax.proofs.Nests.{Nest}
use Rattle.usuba_syntax.specs.declared.table.TheConstants.{PRODUCTIONS}
use Rattle.usuba_syntax.specs.declared.rule.TheConstants as rules
use Rattle.usuba_syntax.proofs.Nested.{role, is_among, size, role_count, role_next, Ground, nowhere, solid, loose, settle, is_solid, is_nowhere, is_fine}

-- the rules of names and numbers, which stand in items and outside
abbrev pub is_anywhere : ℕ → Bool
is_anywhere a = is_among a (rules.NAME ∷ rules.NUMBER ∷ rules.POSITIVE_NUMBER ∷ [])

-- the other rules that stand outside of items
abbrev pub is_outside : ℕ → Bool
is_outside a = is_among a (rules.FILE ∷ rules.DEFS ∷ rules.MORE_DEFS ∷ rules.DEF ∷ rules.PLAIN_DEF ∷ rules.GRID ∷ rules.NUMBERS ∷ rules.MORE_NUMBERS ∷ rules.LOCALS ∷ rules.RESULTS ∷ rules.DECLS ∷ rules.MORE_DECLS ∷ rules.DECL ∷ rules.MORE_NAMES ∷ rules.SHAPE ∷ rules.DIMS ∷ [])

-- the rules that stand behind `~` too
abbrev pub is_operand : ℕ → Bool
is_operand a = is_among a (rules.UNARY ∷ rules.COMPLEMENT ∷ rules.PRIMARY ∷ rules.AFTER_NAME ∷ rules.PICKS ∷ rules.PICK ∷ rules.EXPR_GROUP ∷ rules.REFRESH_ARGS ∷ [])

-- whether a text of the rule can stand in a nest of which this is known
abbrev pub may_stand : Ground → ℕ → Bool
may_stand nowhere a = is_anywhere a || is_outside a
may_stand solid a = not (is_outside a)
may_stand loose a = is_anywhere a || is_operand a

-- whether a text of the rule can begin behind an operand
abbrev pub begins_behind : ℕ → Bool
begins_behind a = is_among a (rules.AFTER_EQUATION ∷ rules.OR_LINKS ∷ rules.XOR_LINKS ∷ rules.AND_LINKS ∷ rules.SHIFT_LINKS ∷ rules.MORE_EXPRS ∷ [])

-- whether a text of the rule can end with an operand of `~`
abbrev pub ends_behind : ℕ → Bool
ends_behind a = is_among a (rules.ITEMS ∷ rules.AFTER_LOOP ∷ rules.AFTER_EQUATION ∷ rules.EQUATION ∷ rules.EXPR ∷ rules.OR_LINKS ∷ rules.XORS ∷ rules.XOR_LINKS ∷ rules.ANDS ∷ rules.AND_LINKS ∷ rules.SHIFTS ∷ rules.SHIFT_LINKS ∷ rules.UNARY ∷ rules.COMPLEMENT ∷ rules.EXPRS ∷ rules.MORE_EXPRS ∷ [])

-- the part of a nest that is given at the first item of a production
abbrev pub base : Ground → Nest
base nowhere = None
base _ = Some []

-- what is known of a nest
abbrev pub ground_of : Ground → Nest → Ground
ground_of g None = nowhere
ground_of g (Some opened) = if is_solid g opened then solid else loose

abbrev pub sits : Ground → Nest → Bool
sits g None = is_nowhere g
sits g (Some opened) = true

abbrev pub is_base : Ground → Nest → Bool
is_base nowhere None = true
is_base solid (Some []) = true
is_base loose (Some []) = true
is_base _ _ = false

-- at every item as many are open as the production says, where `k` more are open in it than outside
abbrev pub goes : Ground → ℕ → Bool → Nest → Bool → List Item → Bool
goes g k end given more [] = is_base g (if more then settle given else given) && (not more || end)
goes g k end given more (Token c ∷ is) =
    is_fine g more given (role c) && (role_count (role c) given == k) && goes g k end (role_next (role c) given) false is
goes g k end given more (Rule a ∷ is) =
    sits g given && (size given == k) && may_stand (ground_of g given) a && (not more || begins_behind a) && goes g k end given (ends_behind a) is

abbrev pub deeper : Bool → ℕ
deeper deep = if deep then 1 else 0

abbrev pub goes_on : Ground → Production → Bool
goes_on g p = not (may_stand g p.rule) || goes g (deeper p.deep) (ends_behind p.rule) (base g) (begins_behind p.rule) (items p)

abbrev pub goes_everywhere : Production → Bool
goes_everywhere p = goes_on nowhere p && goes_on solid p && goes_on loose p

pub table_goes : list_all goes_everywhere PRODUCTIONS ≡ true
table_goes = refl
