use Rattle.std.proofs.Common.{◌≡◌, ◌+◌, ℕ, Bool, false, List, length, not, get_or, set, ap, sym, subst, ◌∙◌, arith}
use Rattle.std.proofs.lemmas.List.{length-set}
use Rattle.span_model.specs.Columns.{set_of}
use Rattle.span_select.proofs.Growing.{IsRaising, raised_one, raising_ends}
use Rattle.span_select.proofs.words.raise.Goals as goal

pub loop-c-preserved : goal.loop-c-preserved
loop-c-preserved c =
    let n = length c.args.row.now in
    let word = c.loop-c.word in
    let found = c.in-Some.ensures in
    let wide : c.columns-columns.result ≡ n = c.columns-columns.ensures in
    let b : ℕ → Bool = λ m. not (get_or word (m + c.in-Some.c) false) in
    let e : c.flip.new.self ≡ set word (n + c.in-Some.c) (b n) =
    c.flip.ensures ∙ ap (λ (m : ℕ). set word (m + c.in-Some.c) (b m)) wide in
    record {
      columns = ap length e ∙ length-set word (n + c.in-Some.c) (b n) ∙ c.loop-c.invariant.columns;
      within = omega (arith, found.0);
      raising = subst (λ (w : List Bool). IsRaising n (set_of c.args.row.now) (c.in-Some.c + 1) (set_of w)) (sym e)
          (raised_one n c.loop-c.start c.in-Some.c (set_of c.args.row.now) word c.loop-c.invariant.raising found.1.from found.0 c.loop-c.invariant.columns
          found.1.there found.1.none_before);
    }

pub returns : goal.returns
returns c = record {
  columns = c.loop-c.invariant.columns;
  raised = raising_ends (length c.args.row.now) c.loop-c.start (set_of c.args.row.now) (set_of c.loop-c.word) c.loop-c.invariant.raising c.in_default.ensures;
}
