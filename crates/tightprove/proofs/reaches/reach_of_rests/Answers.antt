use Rattle.std.proofs.Common.{◌≡◌, ◌<◌, ℕ, Bool, length, get_or, sym, subst, ◌∙◌, arith}
use Rattle.std.proofs.lemmas.List.{get_or_default}
use Rattle.tightprove.specs.declared.gathered.Place.{Place}
use Rattle.tightprove.specs.Private.Gathered.{marks_of, beyond, place_at, rows_in, HasNoLeak}
use Rattle.tightprove.proofs.Clearing.{rests_mapped, rests_length}
use Rattle.tightprove.proofs.Opening.{closed_clean, of_greater}
use Rattle.tightprove.proofs.reaches.reach_of_rests.Goals as goal

pub returns-then-k-set-clause-clean : goal.returns-then-k-set-clause-clean
returns-then-k-set-clause-clean c products is clean =
    let set : ℕ → Bool = marks_of c.args.set.now in
    let some : 0 < get_or c.rounds.rests c.args.i 0 = omega arith in
    subst (λ (b : ℕ). HasNoLeak products (beyond set b) (rows_in c.args.gathered.now c.args.i)) (sym c.max-told.ensures)
    (of_greater (λ (b : ℕ). HasNoLeak products (beyond set b) (rows_in c.args.gathered.now c.args.i)) c.rounds.told c.min.result
    (c.rounds.invariant.clean products is clean)
    (closed_clean c.leaks_are_closed.ensures products set c.args.gathered.now c.args.i c.min.result c.rounds.rests is c.rounds.invariant.rests c.requires.i some
    (λ j h off. c.first_open-k.ensures.closed j (omega (arith, c.min.ensures)) off)))

pub open_rest-rest-requires-clause-left : goal.open_rest-rest-requires-clause-left
open_rest-rest-requires-clause-left c =
    let k : ℕ = c.first_open-k.result in
    let lt : c.first_open-k.result < length c.args.gathered.now.places.items = omega (arith, c.if-k-set.false, c.requires.marks) in
    let is : c.index.result.now ≡ place_at c.args.gathered.now.places.items k =
    c.index.ensures ∙ get_or_default c.args.gathered.now.places.items k c.index.result.now (record { left = 0; right = 0 }) lt in
    subst (λ (p : Place). p.left < length c.rounds.rests) (sym is)
    (let below = c.requires.ready.left k lt in omega (arith, below, rests_length c.args.gathered.now.classes.list.items c.rounds.rests c.rounds.invariant.rests))

pub open_rest-rest-requires-clause-right : goal.open_rest-rest-requires-clause-right
open_rest-rest-requires-clause-right c =
    let k : ℕ = c.first_open-k.result in
    let lt : c.first_open-k.result < length c.args.gathered.now.places.items = omega (arith, c.if-k-set.false, c.requires.marks) in
    let is : c.index.result.now ≡ place_at c.args.gathered.now.places.items k =
    c.index.ensures ∙ get_or_default c.args.gathered.now.places.items k c.index.result.now (record { left = 0; right = 0 }) lt in
    subst (λ (p : Place). p.right < length c.rounds.rests) (sym is)
    (let below = c.requires.ready.right k lt in omega (arith, below, rests_length c.args.gathered.now.classes.list.items c.rounds.rests c.rounds.invariant.rests))

pub rounds-preserved : goal.rounds-preserved
rounds-preserved c =
    let set : ℕ → Bool = marks_of c.args.set.now in
    let some : 0 < get_or c.rounds.rests c.args.i 0 = omega arith in
    record {
      rests = rests_mapped c.args.gathered.now.classes.list.items c.rounds.rests c.take_rest.new.rests c.rounds.invariant.rests c.take_rest.ensures;
      low = omega (arith, c.max-told.ensures, c.rounds.invariant.low);
      high = omega (arith, c.max-told.ensures, c.min.ensures, c.rounds.invariant.high, c.requires.some);
      clean = λ products is clean.
          subst (λ (b : ℕ). HasNoLeak products (beyond set b) (rows_in c.args.gathered.now c.args.i)) (sym c.max-told.ensures)
          (of_greater (λ (b : ℕ). HasNoLeak products (beyond set b) (rows_in c.args.gathered.now c.args.i)) c.rounds.told c.min.result
          (c.rounds.invariant.clean products is clean)
          (closed_clean c.leaks_are_closed.ensures products set c.args.gathered.now c.args.i c.min.result c.rounds.rests is c.rounds.invariant.rests c.requires.i some
          (λ j h off. c.first_open-k.ensures.closed j (omega (arith, c.min.ensures)) off)));
    }
