use Rattle.std.proofs.Common.{◌≡◌, ℕ, ◌+◌, ◌-◌, ◌<◌, ◌++◌, List, length, get_or, nat_lt, ap, sym, ◌∙◌, subst, arith}
use Rattle.std.proofs.lemmas.List.{get_or_default}
use Rattle.std.proofs.lemmas.Option.{slice_get_within, IfSome_then}
use Rattle.std.specs.List.{AllByRecursion}
use Rattle.std.specs.Option.{option_to_list}
use Rattle.usuba0.specs.declared.circuit.Gate.TheVariants as gate
use Rattle.usuba0.specs.declared.circuit.Reg.{Reg}
use Rattle.usuba0.proofs.CircuitLemmas.{equation_at}
use Rattle.linear_view.specs.Walk.{takes}
use Rattle.linear_view.proofs.WalkLemmas.{takes_earlier, all_weaker, first_of_all, second_of_all, late_more}
use Rattle.linear_view.proofs.walk.needed_reads.Goals as goal

pub loop-k-init : goal.loop-k-init
loop-k-init c = record {
  count = omega (arith, c.mark_read.ensures.count, c.in_ok-last.ensures.len);
  late = λ j g from there. absurd (omega (arith, from, slice_get_within c.args.gates.now j g there));
  wanted = c.mark_read.ensures.late;
}

pub mark_read-requires-in-loop-k : goal.mark_read-requires-in-loop-k
mark_read-requires-in-loop-k c =
    let gs = c.args.gates.now in
    let k = c.loop-k.k - 1 in
    let n = c.args.inputs in
    let g = get_or gs k (gate.Const 0) in
    let is_read = nat_lt k c.index.result.now in
    let inside : k < length gs = omega (arith, c.loop-k-test.true, c.loop-k.auto.k) in
    let earlier = takes_earlier c.args.width (n + k) is_read g (equation_at c.args.width n gs k (gate.Const 0) c.requires.earlier inside) in
    record {
      within =
          first_of_all (λ (a : Reg). a.0 < c.loop-k.last.len) c.takes-one.result.0 c.takes-one.result.1
          (subst (λ (rs : List Reg). AllByRecursion (λ (a : Reg). a.0 < c.loop-k.last.len) rs) (sym c.takes-one.ensures)
          (all_weaker (λ (a : Reg). a.0 < n + k) (λ (a : Reg). a.0 < c.loop-k.last.len) (takes is_read g)
          (λ a h. omega (arith, h, inside, c.loop-k.invariant.count)) earlier));
    }

pub mark_read-requires-in-loop-k-2 : goal.mark_read-requires-in-loop-k-2
mark_read-requires-in-loop-k-2 c =
    let gs = c.args.gates.now in
    let k = c.loop-k.k - 1 in
    let n = c.args.inputs in
    let g = get_or gs k (gate.Const 0) in
    let is_read = nat_lt k c.index.result.now in
    let inside : k < length gs = omega (arith, c.loop-k-test.true, c.loop-k.auto.k) in
    let many = c.mark_read-in-loop-k.new.last.len in
    let earlier = takes_earlier c.args.width (n + k) is_read g (equation_at c.args.width n gs k (gate.Const 0) c.requires.earlier inside) in
    record {
      within =
          second_of_all (λ (a : Reg). a.0 < many) c.takes-one.result.0 c.takes-one.result.1
          (subst (λ (rs : List Reg). AllByRecursion (λ (a : Reg). a.0 < many) rs) (sym c.takes-one.ensures)
          (all_weaker (λ (a : Reg). a.0 < n + k) (λ (a : Reg). a.0 < many) (takes is_read g)
          (λ a h. omega (arith, h, inside, c.loop-k.invariant.count, c.mark_read-in-loop-k.ensures.count)) earlier));
    }

pub loop-k-preserved : goal.loop-k-preserved
loop-k-preserved c =
    let gs = c.args.gates.now in
    let k = c.loop-k.k - 1 in
    let n = c.args.inputs in
    let g = get_or gs k (gate.Const 0) in
    let old = c.loop-k.last.items in
    let mid = c.mark_read-in-loop-k.new.last.items in
    let new = c.mark_read-in-loop-k-2.new.last.items in
    let inside : k < length gs = omega (arith, c.loop-k-test.true, c.loop-k.auto.k) in
    let next : c.loop-k.k ≡ k + 1 = omega (arith, c.loop-k-test.true) in
    let long : length old ≡ n + length gs = omega (arith, c.loop-k.last.ok.0, c.loop-k.invariant.count) in
    let at : c.index.result.now ≡ get_or old (n + k) 0 =
    c.index.ensures ∙ get_or_default old (n + k) c.index.result.now 0 (omega (arith, long, inside)) in
    let is_read = nat_lt k c.index.result.now in
    let earlier = takes_earlier c.args.width (n + k) is_read g (equation_at c.args.width n gs k (gate.Const 0) c.requires.earlier inside) in
    let both : option_to_list c.takes-one.result.0 ++ option_to_list c.takes-one.result.1 ≡ takes (nat_lt k (get_or old (n + k) 0)) g =
    c.takes-one.ensures ∙ ap (λ (m : ℕ). takes (nat_lt k m) g) at in
    record {
      count = c.mark_read-in-loop-k-2.ensures.count ∙ c.mark_read-in-loop-k.ensures.count ∙ c.loop-k.invariant.count;
      late =
          late_more gs n k (gate.Const 0) old mid new c.takes-one.result.0 c.takes-one.result.1
          (λ j g from there. c.loop-k.invariant.late j g (omega (arith, next, from)) there)
          c.mark_read-in-loop-k.ensures.rises c.mark_read-in-loop-k-2.ensures.rises
          c.mark_read-in-loop-k.ensures.others c.mark_read-in-loop-k-2.ensures.others
          (subst (λ (rs : List Reg). AllByRecursion (λ (a : Reg). a.0 < n + k) rs) (sym c.takes-one.ensures) earlier)
          both c.mark_read-in-loop-k.ensures.late c.mark_read-in-loop-k-2.ensures.late;
      wanted =
          IfSome_then c.args.wanted c.loop-k.invariant.wanted
          (λ a h. omega (arith, h, c.mark_read-in-loop-k.ensures.rises a.0, c.mark_read-in-loop-k-2.ensures.rises a.0));
    }
