use Rattle.std.proofs.Common.{◌≡◌, ℕ, ◌+◌, ◌<◌, ◌≤◌, [], ◌∷◌, ◌++◌, length, get_or, drop, map, All, sym, ap, ◌∙◌, subst, inl, refl, arith, lit<}
use Rattle.std.specs.Option.{option_copied}
use Rattle.std.proofs.lemmas.List.{map_push, length-map}
use Rattle.std.proofs.lemmas.Option.{get_or_from_slice_get, gets}
use Rattle.std.proofs.lemmas.Grind.{common_steps}
use Rattle.usuba0.specs.Circuit.{IsEquation, products_of, refreshes_of}
use Rattle.usuba0.specs.Term.{bits_of_width}
use Rattle.usuba0.proofs.CircuitLemmas.{gate_fits, counts_le}
use Rattle.share_gadgets.specs.Sharing.{IsSharing}
use Rattle.share_gadgets.specs.MaskedRun.{draws, drawn_word, sharing_of_equation, run_shared}
use Rattle.share_gadgets.proofs.RunSteps.{bits_are, due_step, enough_here, run_on, shared_on, inputs_shared}
use Rattle.share_gadgets.proofs.run.run_equations.Goals as goal

pub loop-k-init : goal.loop-k-init
loop-k-init g c =
    let width = c.width-width.result in
    let bits = c.word_bits-bits.result in
    let core = c.args.core.now in
    let e : bits ≡ bits_of_width core.width = c.word_bits-bits.ensures ∙ ap bits_of_width c.width-width.ensures.value in
    record {
      same = ap (λ xs. run_shared width bits g.row.D c.args.words.now 0 (map (map g.R.Register.word) xs) core.equations) c.in_ok-sharings.ensures.items;
      many = omega (arith, c.in_ok-sharings.ensures.len, c.requires.count);
      due = omega arith;
      shared = subst (λ (B : ℕ). All (IsSharing B g.row.D) (map (map g.R.Register.word) c.in_ok-sharings.sharings.items)) (sym e)
          (subst (λ xs. All (IsSharing (bits_of_width core.width) g.row.D) (map (map g.R.Register.word) xs)) (sym c.in_ok-sharings.ensures.items)
          (inputs_shared g.R.Register.word (bits_of_width core.width) g.row.D c.args.inputs.now c.in_ok-sharings.ensures.counts c.requires.words));
    }

pub unwrap-gate-requires : goal.unwrap-gate-requires
unwrap-gate-requires g c = grind (arith, common_steps, gets)

pub next_sharing-requires : goal.next_sharing-requires
next_sharing-requires g c =
    let width = c.width-width.result in
    let bits = c.word_bits-bits.result in
    let core = c.args.core.now in
    let k = c.loop-k.k in
    let now = c.unwrap-gate.result.now in
    let e : bits ≡ bits_of_width core.width = c.word_bits-bits.ensures ∙ ap bits_of_width c.width-width.ensures.value in
    let b = bits_are width bits c.word_bits-bits.ensures (omega (arith, c.width-width.ensures.value, c.width-width.ensures.core.some_width)) (omega (arith, c.width-width.ensures.value, c.width-width.ensures.core.width_fits)) in
    let within : k < length core.equations = omega (arith, c.loop-k-test.true, c.equations-k-end.ensures) in
    let is : get_or core.equations k now ≡ now = get_or_from_slice_get core.equations k now now (sym c.equation.ensures ∙ ap option_copied c.unwrap-gate.ensures) in
    let here : length c.as_slice.result.now ≡ core.inputs + k = omega (arith, c.as_slice.ensures.len, c.loop-k.invariant.many) in
    let fits : IsEquation width (length c.as_slice.result.now) (get_or core.equations k now) =
    gate_fits core width core.equations (length c.as_slice.result.now) k now c.width-width.ensures.core refl c.width-width.ensures.value here within in
    let due : c.loop-k.drawing + (draws now + (products_of (drop (k + 1) core.equations) + refreshes_of (drop (k + 1) core.equations))) ≡ products_of core.equations + refreshes_of core.equations =
    ap (λ (n : ℕ). c.loop-k.drawing + n) (sym (due_step core.equations k now within (sym is))) ∙ c.loop-k.invariant.due in (
      lit< tt,
      (
        c.requires.some,
        (
          c.requires.few,
          (
            b.0,
            (
              b.1,
              (
                b.2,
                (
                  subst (λ (n : ℕ). n ≤ g.R.Register.bits) (sym e) c.requires.room,
                  (
                    subst (IsEquation width (length c.as_slice.result.now)) is fits,
                    (
                      subst (λ xs. All (IsSharing bits g.row.D) (map (map g.R.Register.word) xs)) (sym c.as_slice.ensures.value) c.loop-k.invariant.shared,
                      enough_here g.row.D c.loop-k.drawing (draws now) _ _ (length c.args.words.now) due c.requires.enough,
                    ),
                  ),
                ),
              ),
            ),
          ),
        ),
      ),
    )

pub overflow_add-drawing : goal.overflow_add-drawing
overflow_add-drawing g c =
    let core = c.args.core.now in
    let k = c.loop-k.k in
    let now = c.unwrap-gate.result.now in
    let within : k < length core.equations = omega (arith, c.loop-k-test.true, c.equations-k-end.ensures) in
    let is : get_or core.equations k now ≡ now = get_or_from_slice_get core.equations k now now (sym c.equation.ensures ∙ ap option_copied c.unwrap-gate.ensures) in
    let step = due_step core.equations k now within (sym is) in
    let few = counts_le core.equations in
    omega (arith, step, few, c.loop-k.invariant.due, c.draw_count-drawing.ensures, c.equations-k-end.ensures, c.equations-k-end.type_inv)

pub loop-k-preserved : goal.loop-k-preserved
loop-k-preserved g c =
    let width = c.width-width.result in
    let bits = c.word_bits-bits.result in
    let core = c.args.core.now in
    let k = c.loop-k.k in
    let now = c.unwrap-gate.result.now in
    let rows = map (map g.R.Register.word) c.loop-k.sharings.items in
    let next = map (map g.R.Register.word) c.push.new.self.items in
    let row = map g.R.Register.word c.in_ok-sharing.sharing in
    let b = bits_are width bits c.word_bits-bits.ensures (omega (arith, c.width-width.ensures.value, c.width-width.ensures.core.some_width)) (omega (arith, c.width-width.ensures.value, c.width-width.ensures.core.width_fits)) in
    let within : k < length core.equations = omega (arith, c.loop-k-test.true, c.equations-k-end.ensures) in
    let is : get_or core.equations k now ≡ now = get_or_from_slice_get core.equations k now now (sym c.equation.ensures ∙ ap option_copied c.unwrap-gate.ensures) in
    let here : length rows ≡ core.inputs + k = omega (arith, length-map c.loop-k.sharings.items (map g.R.Register.word), c.loop-k.sharings.ok.0, c.loop-k.invariant.many) in
    let fits : IsEquation width (length rows) (get_or core.equations k now) =
    gate_fits core width core.equations (length rows) k now c.width-width.ensures.core refl c.width-width.ensures.value here within in
    let step = due_step core.equations k now within (sym is) in
    let p : next ≡ rows ++ row ∷ [] = ap (map (map g.R.Register.word)) c.in_ok-push.ensures.items ∙ map_push (map g.R.Register.word) c.loop-k.sharings.items c.in_ok-sharing.sharing in
    let r : row ≡ sharing_of_equation width bits g.row.D (drawn_word bits g.row.D c.args.words.now c.loop-k.drawing) rows now =
    c.in_ok-sharing.ensures ∙ ap (λ xs. sharing_of_equation width bits g.row.D (drawn_word bits g.row.D c.args.words.now c.loop-k.drawing) (map (map g.R.Register.word) xs) now) c.as_slice.ensures.value in
    record {
      same = ap (λ (n : ℕ). run_shared width bits g.row.D c.args.words.now (c.loop-k.drawing + n) next (drop (k + 1) core.equations)) c.draw_count-drawing.ensures
          ∙ run_on width bits g.row.D c.args.words.now c.loop-k.drawing rows next core.equations k now row within (sym is) p r ∙ c.loop-k.invariant.same;
      many = omega (arith, c.in_ok-push.ensures.len, c.loop-k.invariant.many);
      due = omega (arith, step, c.loop-k.invariant.due, c.draw_count-drawing.ensures);
      shared = shared_on width bits g.row.D c.args.words.now c.loop-k.drawing rows next now row b.2 c.requires.some c.loop-k.invariant.shared
          (subst (IsEquation width (length rows)) is fits) p r;
    }

pub returns-clause-given : goal.returns-clause-given
returns-clause-given g c = record {
  is_core = c.width-width.ensures.core;
  bits = inl refl;
  some = c.requires.some;
  count = length-map c.args.inputs.now (map g.R.Register.word) ∙ c.requires.count;
  shared = inputs_shared g.R.Register.word (bits_of_width c.args.core.now.width) g.row.D c.args.inputs.now c.in_ok-sharings.ensures.counts c.requires.words;
}
