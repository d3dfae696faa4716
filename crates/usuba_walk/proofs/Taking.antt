-- Steps that are taken one part after another, and what they leave of a whole.
use Rattle.std.proofs.Common.{◌≡◌, ◌+◌, List, [], ◌∷◌, ◌++◌, Some, refl, sym, ap, ◌∙◌, subst, arith}
use Rattle.std.proofs.lemmas.List.{append-nil, append_assoc}
use Rattle.std.specs.Prelude.{Result, Ok, Err}
use Rattle.std.specs.Result.{IfOk, IsErrAnd}
use Rattle.usuba_model.specs.declared.fault.Fault.{Fault}
use Rattle.usuba_model.specs.Walk.{Step, walk_fault, count_of}
use Rattle.usuba_code.specs.declared.operation.Operation.{Operation}
use Rattle.usuba_code.specs.Code.{Built, Coded}
use Rattle.usuba_walk.specs.declared.stop.Stop.{Stop}
use Rattle.usuba_walk.specs.declared.stop.Stop.TheVariants as stop
use Rattle.usuba_walk.specs.declared.progress.Progress.{Progress}
use Rattle.usuba_walk.specs.State.Progress.{IfFault, with_code, with_targets, with_end, with_instances, Takes}
use Rattle.usuba_walk.proofs.Faulting.{count_of-append, fault-first, fault-second}

-- what follows from what holds of an answer's value holds of it
pub if_ok : {T : Type 0} {P Q : T → Type 0} (r : Result T Stop) → ((x : T) → P x → Q x) → IfOk r P → IfOk r Q
if_ok (Ok x) f p = f x p
if_ok (Err e) f p = p

-- the same of two things that hold of it
pub if_both : {T : Type 0} {P P' Q : T → Type 0} (r : Result T Stop) → ((x : T) → P x → P' x → Q x) → IfOk r P → IfOk r P' → IfOk r Q
if_both (Ok x) f p p' = f x p p'
if_both (Err e) f p p' = p

-- what follows from what holds of an answer's fault holds of it
pub if_fault : {T : Type 0} {P Q : Fault → Type 0} (r : Result T Stop) → ((fault : Fault) → P fault → Q fault) → IfFault r P → IfFault r Q
if_fault (Ok x) f p = tt
if_fault (Err (stop.Fault fault)) f p = f fault p
if_fault (Err (stop.Memory error)) f p = tt

-- a fault that a `?` passes on
pub passed_on : {T U : Type 0} {P Q : Fault → Type 0} (r : Result T Stop) (called : Result U Stop) (e : Stop)
    → IsErrAnd r (λ x. x ≡ e) → called ≡ Err e → ((fault : Fault) → P fault → Q fault) → IfFault called P → IfFault r Q
passed_on (Ok x) called e is was f p = absurd is
passed_on {T = T} {U = U} {P = P} {Q = Q} (Err x) called e is was f p =
    subst (λ (s : Stop). IfFault {T = T} (Err s) Q) (sym is) (at e (subst (λ (c : Result U Stop). IfFault {T = U} c P) was p))
  where
    at : (s : Stop) → IfFault {T = U} (Err s) P → IfFault {T = T} (Err s) Q
    at (stop.Fault fault) p = f fault p
    at (stop.Memory error) p = tt

-- a table with no more code is the table
pub with_code-nil : (table : Built) → with_code table [] ≡ table
with_code-nil table = ap (λ code. record table { code = code }) (append-nil table.code)

-- code is added part by part
pub with_code-append : (table : Built) (a b : List Operation) → with_code table (a ++ b) ≡ with_code (with_code table a) b
with_code-append table a b = ap (λ code. record table { code = code }) (sym (append_assoc table.code a b))

-- what is left to take of some steps, and of what a table is to become
pub record Leads (first now : Progress) (all rest : List Step) (end left : Built) : Type 0 where
  pub fault : walk_fault first.count all ≡ walk_fault now.count rest
  pub count : first.count + count_of all ≡ now.count + count_of rest
  pub table : end ≡ left

-- at first all is left
pub leads-start : (first : Progress) (all : List Step) (end : Built) → Leads first first all all end end
leads-start first all end = record { fault = refl; count = refl; table = refl }

-- once a part is taken the rest is left
pub leads-step : (first now next : Progress) (all part rest : List Step) (end left taken after : Built)
    → Leads first now all (part ++ rest) end left → Takes now next part taken → left ≡ after → Leads first next all rest end after
leads-step first now next all part rest end left taken after leads takes is =
    let both = count_of-append part rest in
    record {
      fault = leads.fault ∙ fault-second now.count part rest takes.clean ∙ ap (λ n. walk_fault n rest) (sym takes.count);
      count = omega (arith, leads.count, takes.count, both);
      table = leads.table ∙ is;
    }

-- where nothing is left all is taken
pub leads-end : (first now : Progress) (all : List Step) (end left : Built) → Leads first now all [] end left → left ≡ now.table
    → Takes first now all end
leads-end first now all end left leads is = record {
  clean = leads.fault;
  count = omega (arith, leads.count);
  table = sym (leads.table ∙ is);
}

-- a fault of the next part is the fault of the whole
pub leads-fault : (first now : Progress) (all part rest : List Step) (end left : Built) (fault : Fault)
    → Leads first now all (part ++ rest) end left → walk_fault now.count part ≡ Some fault → walk_fault first.count all ≡ Some fault
leads-fault first now all part rest end left fault leads is = leads.fault ∙ fault-first now.count part rest fault is

-- the same where what is to be added to the table is code
pub leads-code : (first now next : Progress) (all part rest : List Step) (end : Built) (code more : List Operation)
    → Leads first now all (part ++ rest) end (with_code now.table (code ++ more)) → Takes now next part (with_code now.table code)
    → Leads first next all rest end (with_code next.table more)
leads-code first now next all part rest end code more leads takes =
    leads-step first now next all part rest end (with_code now.table (code ++ more)) (with_code now.table code) (with_code next.table more)
    leads takes (with_code-append now.table code more ∙ ap (λ table. with_code table more) (sym takes.table))

-- two parts are taken one after the other
pub takes-code : (first middle last : Progress) (a b : List Step) (code more : List Operation)
    → Takes first middle a (with_code first.table code) → Takes middle last b (with_code middle.table more)
    → Takes first last (a ++ b) (with_code first.table (code ++ more))
takes-code first middle last a b code more one two =
    let both = count_of-append a b in
    record {
      clean = fault-second first.count a b one.clean ∙ ap (λ n. walk_fault n b) (sym one.count) ∙ two.clean;
      count = omega (arith, one.count, two.count, both);
      table = two.table ∙ ap (λ table. with_code table more) one.table ∙ sym (with_code-append first.table code more);
    }

-- two parts are taken one after the other, whatever the second leaves of the table
pub takes-then : (first middle last : Progress) (a b : List Step) (one two : Built)
    → Takes first middle a one → Takes middle last b two → Takes first last (a ++ b) two
takes-then first middle last a b one two before after =
    let both = count_of-append a b in
    record {
      clean = fault-second first.count a b before.clean ∙ ap (λ n. walk_fault n b) (sym before.count) ∙ after.clean;
      count = omega (arith, before.count, after.count, both);
      table = after.table;
    }

-- a fault after a part that was taken is the fault of both
pub takes-fault : (first middle : Progress) (a b : List Step) (table : Built) (fault : Fault)
    → Takes first middle a table → walk_fault middle.count b ≡ Some fault → walk_fault first.count (a ++ b) ≡ Some fault
takes-fault first middle a b table fault takes is =
    fault-second first.count a b takes.clean ∙ ap (λ n. walk_fault n b) (sym takes.count) ∙ is

-- instances are added part by part
pub with_instances-append : (table : Built) (a b : List Coded) → with_instances table (a ++ b) ≡ with_instances (with_instances table a) b
with_instances-append table [] b = refl
with_instances-append table (instance ∷ a) b =
    with_instances-append (with_end (with_code (with_targets table instance.targets) instance.code)) a b

-- once a part is taken the rest is left, where what is to be added to the table are instances
pub leads-instances : (first now next : Progress) (all part rest : List Step) (end : Built) (here more : List Coded)
    → Leads first now all (part ++ rest) end (with_instances now.table (here ++ more)) → Takes now next part (with_instances now.table here)
    → Leads first next all rest end (with_instances next.table more)
leads-instances first now next all part rest end here more leads takes =
    leads-step first now next all part rest end (with_instances now.table (here ++ more)) (with_instances now.table here) (with_instances next.table more)
    leads takes (with_instances-append now.table here more ∙ ap (λ table. with_instances table more) (sym takes.table))

-- instances after steps that leave the table
pub takes-instances : (first begun last : Progress) (a b : List Step) (instances : List Coded) → Takes first begun a first.table
    → Takes begun last b (with_instances begun.table instances) → Takes first last (a ++ b) (with_instances first.table instances)
takes-instances first begun last a b instances one two =
    subst (Takes first last (a ++ b)) (ap (λ t. with_instances t instances) one.table)
    (takes-then first begun last a b first.table (with_instances begun.table instances) one two)
