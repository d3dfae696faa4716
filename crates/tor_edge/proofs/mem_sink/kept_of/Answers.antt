use Rattle.std.proofs.Common.{rules, arith, ◌≡◌, Some, None}
use Rattle.std.proofs.lemmas.Bool.Decides.{nat_tests}
use Rattle.tor_edge.specs.Trips.{trip_of}
use Rattle.tor_edge.proofs.mem_sink.kept_of.Goals as goal

pub returns-in-Some-clause-kept : goal.returns-in-Some-clause-kept
returns-in-Some-clause-kept c =
    let here : trip_of c.args.trips.now c.args.call ≡ Some c.in-Some.trip.now = search rules in
    rw here (cc)

pub returns-in-Some-clause-succeeds : goal.returns-in-Some-clause-succeeds
returns-in-Some-clause-succeeds c =
    let here : trip_of c.args.trips.now c.args.call ≡ Some c.in-Some.trip.now = search rules in
    rw here ((λ e. cc), (λ b. absurd b))

pub returns-in-None-clause-kept : goal.returns-in-None-clause-kept
returns-in-None-clause-kept c =
    let here : trip_of c.args.trips.now c.args.call ≡ None = search rules in
    rw here c.min-in-None.ensures

pub returns-in-None-clause-succeeds : goal.returns-in-None-clause-succeeds
returns-in-None-clause-succeeds c =
    let here : trip_of c.args.trips.now c.args.call ≡ None = search rules in
    rw here (grind (arith, nat_tests))
