use Rattle.std.proofs.Common.{◌≡◌, ◌∙◌, ◌<◌, cond, ℕ, Bool, List, Option, length, add-one, sym, ap, subst, arith}
use Rattle.std.specs.Option.{IfSome}
use Rattle.span_model.specs.Columns.{sets_of}
use Rattle.span_model.specs.Refresh.{left_out}
use Rattle.tightprove.specs.Classes.{AreByLead, AreStepsOf}
use Rattle.tightprove.specs.declared.gathered.Place.{Place}
use Rattle.tightprove.specs.Private.Gathered.{marks_of, beyond, place_at}
use Rattle.tightprove.specs.Private.Images.{AreImages}
use Rattle.tightprove.specs.declared.images.Images.{Images}
use Rattle.tightprove.proofs.Gathering.{lanes_paired}
use Rattle.tightprove.proofs.Leaving.{place_spans, length-left_out, images_same}
use Rattle.tightprove.proofs.gathered.Gathered.leave_out.Goals as goal

pub loop-k-preserved : goal.loop-k-preserved
loop-k-preserved c =
    let before = c.loop-k.invariant in
    let k = c.loop-k.k in
    let out : ℕ → Bool = beyond (marks_of c.args.set.now) c.args.bound in
    let own : c.place_of-place.result ≡ cond (out k) (record { left = c.args.self.now.bare; right = c.args.self.now.bare }) (place_at c.args.self.now.places.items k) =
    c.place_of-place.ensures
    ∙ ap (λ (b : Bool). cond b (record { left = c.loop-k.self.bare; right = c.loop-k.self.bare }) (place_at c.loop-k.self.places.items k)) c.is_left_out.ensures
    ∙ ap (λ (n : ℕ). cond (out k) (record { left = n; right = n }) (place_at c.loop-k.self.places.items k)) before.rows.bare
    ∙ ap (λ (p : List Place). cond (out k) (record { left = c.args.self.now.bare; right = c.args.self.now.bare }) (place_at p k)) (ap (λ v. v.items) before.rows.places) in
    let within : k < length c.args.self.now.places.items = omega (arith, c.loop-k-test.true, c.requires.marks) in
    record {
      rows = record {
        count = c.in_ok-pair.ensures.length ∙ before.rows.count;
        rows = λ i. ap sets_of (c.in_ok-pair.ensures.rows i) ∙ before.rows.rows i;
        columns = before.rows.columns;
        places = before.rows.places;
        bare = before.rows.bare;
        images = before.rows.images;
      };
      lists = λ i. c.in_ok-pair.ensures.rows i ∙ before.lists i;
      by_lead = before.by_lead;
      classes = c.in_ok-pair.ensures.classes c.loop-k.self.classes.columns before.classes;
      steps = λ products is.
          let spans = place_spans products c.args.self.now c.loop-k.self.classes.list.items out k c.place_of-place.result is before.rows.rows within own in
          subst (λ (n : ℕ). AreStepsOf n (left_out out products) c.pair.new.list.items) (sym (add-one k))
          (c.in_ok-pair.ensures.steps k (left_out out products) spans.0 spans.1 (before.steps products is));
    }

pub returns-clause-ready : goal.returns-clause-ready
returns-clause-ready c =
    let before = c.loop-k.invariant in
    let places : c.args.self.now.places.items ≡ c.loop-k.self.places.items = sym (ap (λ v. v.items) before.rows.places) in
    record {
      classes = record {
        few = omega (arith, before.rows.count, c.requires.ready.classes.few);
        classes = before.classes;
        by_lead = subst (λ (t : List (List ℕ)). AreByLead c.loop-k.self.classes.list.items t) (sym (ap (λ v. v.items) before.by_lead))
            (lanes_paired c.args.self.now.classes.list.items c.loop-k.self.classes.list.items c.args.self.now.classes.by_lead.items c.requires.ready.classes.by_lead
            before.rows.count before.lists);
      };
      bare = omega (arith, before.rows.count, before.rows.bare, c.requires.ready.bare);
      left = λ k h.
          subst (λ (p : List Place). (place_at p k).left < length c.loop-k.self.classes.list.items) places
          (let old = c.requires.ready.left k (subst (λ (p : List Place). k < length p) (sym places) h) in omega (arith, before.rows.count, old));
      right = λ k h.
          subst (λ (p : List Place). (place_at p k).right < length c.loop-k.self.classes.list.items) places
          (let old = c.requires.ready.right k (subst (λ (p : List Place). k < length p) (sym places) h) in omega (arith, before.rows.count, old));
      images = subst (λ (own : Option Images). IfSome own (λ x. AreImages c.loop-k.self.classes.list.items x)) (sym before.rows.images)
          (images_same c.args.self.now.classes.list.items c.loop-k.self.classes.list.items before.rows.count before.rows.rows c.args.self.now.images c.requires.ready.images);
    }

pub returns-clause-products : goal.returns-clause-products
returns-clause-products c products is =
    let out : ℕ → Bool = beyond (marks_of c.args.set.now) c.args.bound in
    let all : c.loop-k.k ≡ length (left_out out products) =
    omega (arith, c.loop-k-test.false, c.loop-k.auto.k-end, c.requires.marks, is.count, length-left_out out products) in
    subst (λ (n : ℕ). AreStepsOf n (left_out out products) c.loop-k.self.classes.list.items) all (c.loop-k.invariant.steps products is)
