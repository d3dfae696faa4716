-- Flat lists cut at running ends: what stays and what comes when a list grows or an end is set; the piece at a number.
use Rattle.std.proofs.Common.{◌≡◌, ◌≤◌, ◌<◌, ◌+◌, ◌-◌, ℕ, zero, suc, List, [], ◌∷◌, ◌++◌, length, take, drop, get_or, slice_range, refl, sym, ap, ap₂, ◌∙◌, subst, length-drop, length-take-le, le_trans, le_refl, IsTrue, ◌↔◌, ◌==◌, eqb-true, eq-eqb, get_or-drop, get_or-take, arith}
use Rattle.std.proofs.lemmas.List.{drop-append-le, take-append-le, drop_all, length_push, nil_from_length, get_or_default}
use Rattle.std.proofs.lemmas.Slice.{between_to_end}
use Rattle.tor_edge.specs.declared.place.Place.{Place}
use Rattle.usuba_code.specs.declared.operation.Operation.{Operation}
use Rattle.usuba_code.specs.declared.table.Ends.{Ends}
use Rattle.usuba_code.specs.declared.table.Left.{Left}
use Rattle.usuba_code.specs.Code.{Assigned, Coded, Built, coded_at, assigned_at}
use Rattle.usuba_code.specs.State.Flat.{last_cell, last_ends, no_ends, cut_lefts, cut_instances, built, LeftsRise, EndsRise, IsFlat}

-- a piece within a list stays where the list grows
piece_same : {X : Type 0} (xs more : List X) (i j : ℕ) → i ≤ j → j ≤ length xs → slice_range (xs ++ more) i j ≡ slice_range xs i j
piece_same xs more i j low high =
    let start : i ≤ length xs = le_trans low high in
    let enough : j - i ≤ length (drop i xs) = omega (arith, length-drop i xs) in
    ap (take (j - i)) (drop-append-le i xs more start) ∙ take-append-le (j - i) (drop i xs) more enough

length_piece : {X : Type 0} (xs : List X) (i j : ℕ) → j ≤ length xs → length (slice_range xs i j) ≡ j - i
length_piece xs i j high = length-take-le (j - i) (drop i xs) (omega (arith, length-drop i xs))

-- an element of a piece
piece_at : {X : Type 0} (xs : List X) (i j k : ℕ) (d : X) → k < j - i → get_or (slice_range xs i j) k d ≡ get_or xs (i + k) d
piece_at xs i j k d within = get_or-take (j - i) (drop i xs) k d within ∙ get_or-drop i xs k d

-- LEFT SIDES

lefts_within : (from : ℕ) (lefts : List Left) (bound : ℕ) → LeftsRise from lefts bound → from ≤ bound
lefts_within from [] bound rise = rise
lefts_within from (left ∷ rest) bound rise = le_trans rise.0 (lefts_within left.end rest bound rise.1)

last_cell_within : (from : ℕ) (lefts : List Left) (bound : ℕ) → LeftsRise from lefts bound → last_cell from lefts ≤ bound
last_cell_within from [] bound rise = rise
last_cell_within from (left ∷ rest) bound rise = last_cell_within left.end rest bound rise.1

lefts_more : (from : ℕ) (lefts : List Left) (bound more : ℕ) → LeftsRise from lefts bound → bound ≤ more → LeftsRise from lefts more
lefts_more from [] bound more rise le = le_trans rise le
lefts_more from (left ∷ rest) bound more rise le = (rise.0, lefts_more left.end rest bound more rise.1 le)

lefts_push : (from : ℕ) (lefts : List Left) (left : Left) → LeftsRise from lefts left.end → LeftsRise from (lefts ++ left ∷ []) left.end
lefts_push from [] left rise = (rise, le_refl left.end)
lefts_push from (l ∷ rest) left rise = (rise.0, lefts_push l.end rest left rise.1)

last_cell-push : (from : ℕ) (lefts : List Left) (left : Left) → last_cell from (lefts ++ left ∷ []) ≡ left.end
last_cell-push from [] left = refl
last_cell-push from (l ∷ rest) left = last_cell-push l.end rest left

-- where the cells of the left sides up to a number end
pub last_cell_at : (from : ℕ) (lefts : List Left) (j : ℕ) (d : Left) → j < length lefts → last_cell from (take (suc j) lefts) ≡ (get_or lefts j d).end
last_cell_at from [] j d within = absurd (omega (arith, within))
last_cell_at from (left ∷ rest) zero d within = refl
last_cell_at from (left ∷ rest) (suc j) d within = last_cell_at left.end rest j d (omega (arith, within))

cut_lefts_same : (from : ℕ) (lefts : List Left) (cells more : List ℕ) → LeftsRise from lefts (length cells)
    → cut_lefts from lefts (cells ++ more) ≡ cut_lefts from lefts cells
cut_lefts_same from [] cells more rise = refl
cut_lefts_same from (left ∷ rest) cells more rise =
    let one : List ℕ → List Assigned → List Assigned = λ piece others. record { place = left.place; cells = piece } ∷ others in
    ap₂ one (piece_same cells more from left.end rise.0 (lefts_within left.end rest (length cells) rise.1))
    (cut_lefts_same left.end rest cells more rise.1)

cut_lefts-push : (from : ℕ) (lefts : List Left) (left : Left) (cells : List ℕ)
    → cut_lefts from (lefts ++ left ∷ []) cells
    ≡ cut_lefts from lefts cells ++ record { place = left.place; cells = slice_range cells (last_cell from lefts) left.end } ∷ []
cut_lefts-push from [] left cells = refl
cut_lefts-push from (l ∷ rest) left cells =
    let first : List Assigned → List Assigned = λ others. record { place = l.place; cells = slice_range cells from l.end } ∷ others in
    ap first (cut_lefts-push l.end rest left cells)

pub length-cut_lefts : (from : ℕ) (lefts : List Left) (cells : List ℕ) → length (cut_lefts from lefts cells) ≡ length lefts
length-cut_lefts from [] cells = refl
length-cut_lefts from (left ∷ rest) cells = ap suc (length-cut_lefts left.end rest cells)

-- the left side at a number
left_at : (from : ℕ) (lefts : List Left) (cells : List ℕ) (j : ℕ) (d : Left) → j < length lefts
    → assigned_at (cut_lefts from lefts cells) j
    ≡ record { place = (get_or lefts j d).place; cells = slice_range cells (last_cell from (take j lefts)) (get_or lefts j d).end }
left_at from [] cells j d within = absurd (omega (arith, within))
left_at from (left ∷ rest) cells zero d within = refl
left_at from (left ∷ rest) cells (suc j) d within = left_at left.end rest cells j d (omega (arith, within))

left_ends : (from : ℕ) (lefts : List Left) (bound j : ℕ) (d : Left) → LeftsRise from lefts bound → j < length lefts
    → (last_cell from (take j lefts) ≤ (get_or lefts j d).end) × ((get_or lefts j d).end ≤ bound)
left_ends from [] bound j d rise within = absurd (omega (arith, within))
left_ends from (left ∷ rest) bound zero d rise within = (rise.0, lefts_within left.end rest bound rise.1)
left_ends from (left ∷ rest) bound (suc j) d rise within = left_ends left.end rest bound j d rise.1 (omega (arith, within))

-- INSTANCES

ends_within : (from : Ends) (instances : List Ends) (bound : Ends) → EndsRise from instances bound
    → (from.lefts ≤ bound.lefts) × (from.code ≤ bound.code)
ends_within from [] bound rise = rise
ends_within from (ends ∷ rest) bound rise =
    let later = ends_within ends rest bound rise.2 in
    (le_trans rise.0 later.0, le_trans rise.1 later.1)

last_ends_within : (from : Ends) (instances : List Ends) (bound : Ends) → EndsRise from instances bound
    → ((last_ends from instances).lefts ≤ bound.lefts) × ((last_ends from instances).code ≤ bound.code)
last_ends_within from [] bound rise = rise
last_ends_within from (ends ∷ rest) bound rise = last_ends_within ends rest bound rise.2

ends_more : (from : Ends) (instances : List Ends) (bound more : Ends) → EndsRise from instances bound → bound.lefts ≤ more.lefts
    → bound.code ≤ more.code → EndsRise from instances more
ends_more from [] bound more rise le le' = (le_trans rise.0 le, le_trans rise.1 le')
ends_more from (ends ∷ rest) bound more rise le le' = (rise.0, rise.1, ends_more ends rest bound more rise.2 le le')

ends_push : (from : Ends) (instances : List Ends) (ends : Ends) → EndsRise from instances ends
    → EndsRise from (instances ++ ends ∷ []) ends
ends_push from [] ends rise = (rise.0, rise.1, (le_refl ends.lefts, le_refl ends.code))
ends_push from (e ∷ rest) ends rise = (rise.0, rise.1, ends_push e rest ends rise.2)

last_ends-push : (from : Ends) (instances : List Ends) (ends : Ends) → last_ends from (instances ++ ends ∷ []) ≡ ends
last_ends-push from [] ends = refl
last_ends-push from (e ∷ rest) ends = last_ends-push e rest ends

-- where the instances up to a number end
pub last_ends_at : (from : Ends) (instances : List Ends) (k : ℕ) (d : Ends) → k < length instances → last_ends from (take (suc k) instances) ≡ get_or instances k d
last_ends_at from [] k d within = absurd (omega (arith, within))
last_ends_at from (ends ∷ rest) zero d within = refl
last_ends_at from (ends ∷ rest) (suc k) d within = last_ends_at ends rest k d (omega (arith, within))

-- pieces up to a bound are the same in two lists
abbrev SamePieces : {X : Type 0} → ℕ → List X → List X → Type 0
SamePieces bound xs ys = (i j : ℕ) → i ≤ j → j ≤ bound → slice_range xs i j ≡ slice_range ys i j

cut_instances_same : (from : Ends) (instances : List Ends) (bound : Ends) (ts ts' : List Assigned) (ops ops' : List Operation)
    → EndsRise from instances bound → SamePieces bound.lefts ts ts' → SamePieces bound.code ops ops'
    → cut_instances from instances ts ops ≡ cut_instances from instances ts' ops'
cut_instances_same from [] bound ts ts' ops ops' rise same same' = refl
cut_instances_same from (ends ∷ rest) bound ts ts' ops ops' rise same same' =
    let within = ends_within ends rest bound rise.2 in
    let one : List Assigned → List Operation → Coded = λ piece piece'. record { targets = piece; code = piece' } in
    let first = ap₂ one (same from.lefts ends.lefts rise.0 within.0) (same' from.code ends.code rise.1 within.1) in
    ap₂ (λ (x : Coded) (xs : List Coded). x ∷ xs) first (cut_instances_same ends rest bound ts ts' ops ops' rise.2 same same')

cut_instances-push : (from : Ends) (instances : List Ends) (ends : Ends) (ts : List Assigned) (ops : List Operation)
    → cut_instances from (instances ++ ends ∷ []) ts ops
    ≡ cut_instances from instances ts ops
    ++ record {
      targets = slice_range ts (last_ends from instances).lefts ends.lefts;
      code = slice_range ops (last_ends from instances).code ends.code;
    } ∷ []
cut_instances-push from [] ends ts ops = refl
cut_instances-push from (e ∷ rest) ends ts ops =
    let first : List Coded → List Coded
    = λ others. record { targets = slice_range ts from.lefts e.lefts; code = slice_range ops from.code e.code } ∷ others in
    ap first (cut_instances-push e rest ends ts ops)

pub length-cut_instances : (from : Ends) (instances : List Ends) (ts : List Assigned) (ops : List Operation)
    → length (cut_instances from instances ts ops) ≡ length instances
length-cut_instances from [] ts ops = refl
length-cut_instances from (ends ∷ rest) ts ops = ap suc (length-cut_instances ends rest ts ops)

-- the instance at a number
instance_at : (from : Ends) (instances : List Ends) (ts : List Assigned) (ops : List Operation) (k : ℕ) (d : Ends) → k < length instances
    → coded_at (cut_instances from instances ts ops) k
    ≡ record {
      targets = slice_range ts (last_ends from (take k instances)).lefts (get_or instances k d).lefts;
      code = slice_range ops (last_ends from (take k instances)).code (get_or instances k d).code;
    }
instance_at from [] ts ops k d within = absurd (omega (arith, within))
instance_at from (ends ∷ rest) ts ops zero d within = refl
instance_at from (ends ∷ rest) ts ops (suc k) d within = instance_at ends rest ts ops k d (omega (arith, within))

-- the ends of an instance, and those before it
pub record Between (before after bound : Ends) : Type 0 where
  pub lefts : before.lefts ≤ after.lefts
  pub lefts_within : after.lefts ≤ bound.lefts
  pub code : before.code ≤ after.code
  pub code_within : after.code ≤ bound.code

instance_ends : (from : Ends) (instances : List Ends) (bound : Ends) (k : ℕ) (d : Ends) → EndsRise from instances bound
    → k < length instances → Between (last_ends from (take k instances)) (get_or instances k d) bound
instance_ends from [] bound k d rise within = absurd (omega (arith, within))
instance_ends from (ends ∷ rest) bound zero d rise within =
    let later = ends_within ends rest bound rise.2 in
    record { lefts = rise.0; lefts_within = later.0; code = rise.1; code_within = later.1 }
instance_ends from (ends ∷ rest) bound (suc k) d rise within = instance_ends ends rest bound k d rise.2 (omega (arith, within))

-- WHAT THE LISTS STAND FOR

module _ (lefts : List Left) (cells : List ℕ) (code : List Operation) (instances : List Ends) where
  abbrev targets : List Assigned
  targets = cut_lefts 0 lefts cells

  abbrev now : Built
  now = built lefts cells code instances

  abbrev bound : Ends
  bound = record { lefts = length lefts; code = length code }

  module _ (flat : IsFlat lefts cells code instances) where
    -- one more cell
    pub cell_pushed : (c : ℕ) → built lefts (cells ++ c ∷ []) code instances ≡ record now { cells = now.cells ++ c ∷ [] }
    cell_pushed c =
        let make : List Assigned → List ℕ → Built = λ ts cs. record {
          done = cut_instances no_ends instances ts code;
          targets = drop (last_ends no_ends instances).lefts ts;
          cells = cs;
          code = drop (last_ends no_ends instances).code code;
        } in
        ap₂ make (cut_lefts_same 0 lefts cells (c ∷ []) flat.lefts_rise)
        (drop-append-le (last_cell 0 lefts) cells (c ∷ []) (last_cell_within 0 lefts (length cells) flat.lefts_rise))

    pub flat_cell : (c : ℕ) → IsFlat lefts (cells ++ c ∷ []) code instances
    flat_cell c = record {
      lefts_rise = lefts_more 0 lefts (length cells) (length (cells ++ c ∷ [])) flat.lefts_rise (omega (arith, length_push cells c));
      ends_rise = flat.ends_rise;
    }

    -- one more operation
    pub operation_pushed : (op : Operation) → built lefts cells (code ++ op ∷ []) instances ≡ record now { code = now.code ++ op ∷ [] }
    operation_pushed op =
        let make : List Coded → List Operation → Built = λ done ops. record {
          done = done;
          targets = drop (last_ends no_ends instances).lefts targets;
          cells = drop (last_cell 0 lefts) cells;
          code = ops;
        } in
        ap₂ make
        (cut_instances_same no_ends instances bound targets targets (code ++ op ∷ []) code flat.ends_rise
        (λ i j low high. refl) (piece_same code (op ∷ [])))
        (drop-append-le (last_ends no_ends instances).code code (op ∷ []) (last_ends_within no_ends instances bound flat.ends_rise).1)

    pub flat_operation : (op : Operation) → IsFlat lefts cells (code ++ op ∷ []) instances
    flat_operation op = record {
      lefts_rise = flat.lefts_rise;
      ends_rise = ends_more no_ends instances bound (record { lefts = length lefts; code = length (code ++ op ∷ []) }) flat.ends_rise
          (le_refl (length lefts)) (omega (arith, length_push code op));
    }

    -- one more left side, with the cells that stand past the last one
    pub left_pushed : (place : Place)
        → built (lefts ++ record { place = place; end = length cells } ∷ []) cells code instances
        ≡ record now { targets = now.targets ++ record { place = place; cells = now.cells } ∷ []; cells = [] }
    left_pushed place =
        let left : Left = record { place = place; end = length cells } in
        let last : Assigned = record { place = place; cells = drop (last_cell 0 lefts) cells } in
        let some : List ℕ → List Assigned = λ piece. targets ++ record { place = place; cells = piece } ∷ [] in
        let more : cut_lefts 0 (lefts ++ left ∷ []) cells ≡ targets ++ last ∷ []
        = cut_lefts-push 0 lefts left cells ∙ ap some (between_to_end cells (last_cell 0 lefts) (length cells) (le_refl (length cells))) in
        let count = length-cut_lefts 0 lefts cells in
        let ends = last_ends_within no_ends instances bound flat.ends_rise in
        let same : SamePieces bound.lefts (targets ++ last ∷ []) targets
        = λ i j low high. piece_same targets (last ∷ []) i j low (omega (arith, high, count)) in
        let none : drop (last_cell 0 (lefts ++ left ∷ [])) cells ≡ []
        = ap (λ n. drop n cells) (last_cell-push 0 lefts left) ∙ drop_all (length cells) cells (le_refl (length cells)) in
        let of_targets : List Assigned → List ℕ → Built = λ ts cs. record {
          done = cut_instances no_ends instances ts code;
          targets = drop (last_ends no_ends instances).lefts ts;
          cells = cs;
          code = drop (last_ends no_ends instances).code code;
        } in
        let of_parts : List Coded → List Assigned → Built = λ done ts. record {
          done = done;
          targets = ts;
          cells = [];
          code = drop (last_ends no_ends instances).code code;
        } in
        ap₂ of_targets more none
        ∙ ap₂ of_parts
        (cut_instances_same no_ends instances bound (targets ++ last ∷ []) targets code code flat.ends_rise same (λ i j low high. refl))
        (drop-append-le (last_ends no_ends instances).lefts targets (last ∷ []) (omega (arith, ends.0, count)))

    pub flat_left : (place : Place) → IsFlat (lefts ++ record { place = place; end = length cells } ∷ []) cells code instances
    flat_left place =
        let left : Left = record { place = place; end = length cells } in
        record {
          lefts_rise = lefts_push 0 lefts left flat.lefts_rise;
          ends_rise = ends_more no_ends instances bound (record { lefts = length (lefts ++ left ∷ []); code = length code }) flat.ends_rise
              (omega (arith, length_push lefts left)) (le_refl (length code));
        }

    -- one more instance, of what stands past the last one
    pub instance_pushed : built lefts cells code (instances ++ bound ∷ [])
        ≡ record now { done = now.done ++ record { targets = now.targets; code = now.code } ∷ []; targets = []; code = [] }
    instance_pushed =
        let count = length-cut_lefts 0 lefts cells in
        let make : List Assigned → List Operation → List Coded
        = λ ts ops. cut_instances no_ends instances targets code ++ record { targets = ts; code = ops } ∷ [] in
        let done : cut_instances no_ends (instances ++ bound ∷ []) targets code ≡ now.done ++ record { targets = now.targets; code = now.code } ∷ []
        = cut_instances-push no_ends instances bound targets code
        ∙ ap₂ make (between_to_end targets (last_ends no_ends instances).lefts (length lefts) (omega (arith, count)))
        (between_to_end code (last_ends no_ends instances).code (length code) (le_refl (length code))) in
        let parts : List Coded → Ends → Built = λ whole ends. record {
          done = whole;
          targets = drop ends.lefts targets;
          cells = drop (last_cell 0 lefts) cells;
          code = drop ends.code code;
        } in
        let rest : List Assigned → List Operation → Built = λ ts ops. record {
          done = now.done ++ record { targets = now.targets; code = now.code } ∷ [];
          targets = ts;
          cells = drop (last_cell 0 lefts) cells;
          code = ops;
        } in
        ap₂ parts done (last_ends-push no_ends instances bound)
        ∙ ap₂ rest (drop_all (length lefts) targets (omega (arith, count))) (drop_all (length code) code (le_refl (length code)))

    pub flat_instance : IsFlat lefts cells code (instances ++ bound ∷ [])
    flat_instance = record { lefts_rise = flat.lefts_rise; ends_rise = ends_push no_ends instances bound flat.ends_rise }

    pub length_done : length now.done ≡ length instances
    length_done = length-cut_instances no_ends instances targets code

    -- an instance of the table as it is seen is one of the list
    pub instance_within : (seen : Built) → now ≡ seen → (k : ℕ) → k < length seen.done → k < length instances
    instance_within seen is k within =
        let same : length now.done ≡ length seen.done = ap (λ (b : Built). length b.done) is in
        omega (arith, within, same, length_done)

    -- likewise a left side
    pub target_within : (seen : Built) → now ≡ seen → (k j : ℕ) → j < length (coded_at seen.done k).targets
        → j < length (coded_at now.done k).targets
    target_within seen is k j within =
        let same : length (coded_at now.done k).targets ≡ length (coded_at seen.done k).targets
        = ap (λ (b : Built). length (coded_at b.done k).targets) is in
        omega (arith, within, same)

    -- and there are none in the one where there are none in the other
    pub none_done : (seen : Built) → now ≡ seen → (len : ℕ) → len ≡ length instances → IsTrue (len == 0) ↔ (seen.done ≡ [])
    none_done seen is len count =
        let same : length now.done ≡ length seen.done = ap (λ (b : Built). length b.done) is in (
          λ e. let none : len ≡ 0 = eqb-true len 0 e in nil_from_length seen.done (omega (arith, none, count, same, length_done)),
          λ e. let none : length seen.done ≡ 0 = ap length e in eq-eqb len 0 (omega (arith, none, count, same, length_done)),
        )

    module _ (k : ℕ) (within : k < length instances) (ends : Ends) (is : ends ≡ get_or instances k ends) where
      abbrev before : Ends
      before = last_ends no_ends (take k instances)

      -- where an instance begins and ends
      pub ends_rise : Between before ends bound
      ends_rise =
          let P : Ends → Type 0 = λ e. Between before e bound in
          subst P (sym is) (instance_ends no_ends instances bound k ends flat.ends_rise within)

      coded_is : coded_at now.done k
          ≡ record { targets = slice_range targets before.lefts ends.lefts; code = slice_range code before.code ends.code }
      coded_is =
          let cut : Ends → Coded
          = λ e. record { targets = slice_range targets before.lefts e.lefts; code = slice_range code before.code e.code } in
          instance_at no_ends instances targets code k ends within ∙ ap cut (sym is)

      -- the operations of an instance
      pub operations_at : slice_range code before.code ends.code ≡ (coded_at now.done k).code
      operations_at = ap (λ (x : Coded). x.code) (sym coded_is)

      -- how many left sides an instance has
      pub targets_at : ends.lefts - before.lefts ≡ length (coded_at now.done k).targets
      targets_at =
          let high : ends.lefts ≤ length targets = omega (arith, ends_rise.lefts_within, length-cut_lefts 0 lefts cells) in
          sym (length_piece targets before.lefts ends.lefts high) ∙ ap (λ (x : Coded). length x.targets) (sym coded_is)

      module _ (j : ℕ) (there : j < length (coded_at now.done k).targets) where
        abbrev at : ℕ
        at = before.lefts + j

        -- a left side of an instance is a left side
        pub left_within : at < length lefts
        left_within = omega (arith, there, targets_at, ends_rise.lefts_within)

        module _ (left : Left) (left_is : left ≡ get_or lefts at left) where
          assigned_is : assigned_at (coded_at now.done k).targets j
              ≡ record { place = left.place; cells = slice_range cells (last_cell 0 (take at lefts)) left.end }
          assigned_is =
              let one : Left → Assigned
              = λ l. record { place = l.place; cells = slice_range cells (last_cell 0 (take at lefts)) l.end } in
              let inside : j < ends.lefts - before.lefts = omega (arith, there, targets_at) in
              ap (λ (x : Coded). assigned_at x.targets j) coded_is
              ∙ piece_at targets before.lefts ends.lefts j (record { place = record { line = 0; column = 0 }; cells = [] }) inside
              ∙ left_at 0 lefts cells at left left_within ∙ ap one (sym left_is)

          pub place_at : left.place ≡ (assigned_at (coded_at now.done k).targets j).place
          place_at = ap (λ (x : Assigned). x.place) (sym assigned_is)

          pub cells_at : slice_range cells (last_cell 0 (take at lefts)) left.end ≡ (assigned_at (coded_at now.done k).targets j).cells
          cells_at = ap (λ (x : Assigned). x.cells) (sym assigned_is)

          -- where the cells of a left side begin and end
          pub cells_rise : (last_cell 0 (take at lefts) ≤ left.end) × (left.end ≤ length cells)
          cells_rise =
              let P : Left → Type 0 = λ l. (last_cell 0 (take at lefts) ≤ l.end) × (l.end ≤ length cells) in
              subst P (sym left_is) (left_ends 0 lefts (length cells) at left flat.lefts_rise left_within)

    module _ (k : ℕ) (within : k < length instances) where
      abbrev here : Ends
      here = get_or instances k no_ends

      here_is : here ≡ get_or instances k here
      here_is = get_or_default instances k no_ends here within

      module _ (j : ℕ) (there : j < length (coded_at now.done k).targets) where
        abbrev number : ℕ
        number = (last_ends no_ends (take k instances)).lefts + j

        -- the same where the ends of the instance are not read
        pub left_in : number < length lefts
        left_in = left_within k within here here_is j there

        module _ (left : Left) (left_is : left ≡ get_or lefts number left) where
          pub place_in : left.place ≡ (assigned_at (coded_at now.done k).targets j).place
          place_in = place_at k within here here_is j there left left_is

          pub cells_in : slice_range cells (last_cell 0 (take number lefts)) left.end ≡ (assigned_at (coded_at now.done k).targets j).cells
          cells_in = cells_at k within here here_is j there left left_is

          pub rise_in : (last_cell 0 (take number lefts) ≤ left.end) × (left.end ≤ length cells)
          rise_in = cells_rise k within here here_is j there left left_is
