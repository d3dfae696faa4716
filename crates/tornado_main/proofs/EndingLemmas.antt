-- How an order ends, from how its steps do.
use Rattle.std.proofs.Common.{◌≡◌, List, [], ◌++◌, ℕ, Option, Result, Ok, Err, IsErrAnd, refl, sym, ◌∙◌, ap, subst, append-nil, append_assoc}
use Rattle.tor_edge.specs.Count.{Rose}
use Rattle.tor_edge.specs.declared.files.Reason.{Reason}
use Rattle.tor_edge.specs.declared.files.Reason.TheVariants as reason
use Rattle.tor_edge.specs.declared.files.Refusal.{Refusal as Refused}
use Rattle.tornado_main.specs.Fetching.{NoneRefused, FetchedInOrder, count_for}
use Rattle.tornado_main.specs.Files.{Contents}
use Rattle.tornado_main.specs.Outcome.{Outcome, answers, unread}
use Rattle.tornado_main.specs.Ending.{Refuses, Takes, Fetched, Ends, Shown, Stops, SentAnswer}
use Rattle.tornado_main.specs.declared.refusal.Refusal.{Refusal}
use Rattle.tornado_main.specs.declared.refusal.Refusal.TheVariants as refusal
use Rattle.tornado_main.specs.declared.status.Status.{Status}

-- the count for a reason stays where both counts do
same_count : (why : Reason) (faults too_long others longer : ℕ) → faults ≡ others → too_long ≡ longer
    → count_for why faults too_long ≡ count_for why others longer
same_count reason.Failed faults too_long others longer a b = a
same_count reason.TooLong faults too_long others longer a b = b

all_later : (xs ys before mid now : List (List ℕ)) → mid ≡ before ++ xs → now ≡ mid ++ ys → now ≡ before ++ (xs ++ ys)
all_later xs ys before mid now first second = second ∙ ap (λ (l : List (List ℕ)). l ++ ys) first ∙ append_assoc before xs ys

-- some of the first names are some of all
in_longer : (taken left names before now : List (List ℕ)) → taken ++ left ≡ names → FetchedInOrder taken before now → FetchedInOrder names before now
in_longer taken left names before now same some = record {
  taken = some.taken;
  left = some.left ++ left;
  in_order = sym (append_assoc some.taken some.left left) ∙ ap (λ (l : List (List ℕ)). l ++ left) some.in_order ∙ same;
  fetched = some.fetched;
}

-- what holds of a refusal holds of an answer that is it
pub so_refused : {T : Type 0} (P : Result T Refusal → Type 0) (e : Refusal) (r : Result T Refusal) → IsErrAnd r (λ k. k ≡ e) → P (Err e) → P r
so_refused P e (Ok x) same h = absurd same
so_refused P e (Err k) same h = subst (λ (x : Refusal). P (Err x)) (sym same) h

-- a refusal for what was read, or for want of memory
abbrev pub IsOfWhatWasRead : Refusal → Type 0
IsOfWhatWasRead (refusal.Faulty status name fault) = Unit {0}
IsOfWhatWasRead (refusal.Unread name why) = ⊥
IsOfWhatWasRead refusal.Unwritten = ⊥
IsOfWhatWasRead refusal.Memory = Unit {0}

-- the names of two steps, one after the other
takes_later : {T : Type 0} (xs ys before mid now : List (List ℕ)) → mid ≡ before ++ xs → (r : Result T Refusal)
    → Takes ys mid now r → Takes (xs ++ ys) before now r
takes_later xs ys before mid now first (Ok made) second = all_later xs ys before mid now first second
takes_later xs ys before mid now first (Err (refusal.Faulty status name fault)) second = all_later xs ys before mid now first second
takes_later xs ys before mid now first (Err (refusal.Unread name why)) second = all_later xs ys before mid now first second
takes_later xs ys before mid now first (Err refusal.Unwritten) second = all_later xs ys before mid now first second
takes_later xs ys before mid now first (Err refusal.Memory) second = record {
  taken = xs ++ second.taken;
  left = second.left;
  in_order = append_assoc xs second.taken second.left ∙ ap (λ (l : List (List ℕ)). xs ++ l) second.in_order;
  fetched = all_later xs second.taken before mid now first second.fetched;
}

module _ {F : Type 0} (faults too_long : F → ℕ) (last_refused : F → Option Refused) where
  -- no fetch was refused in two steps, one after the other
  none_refused_twice : (old mid new : F) → NoneRefused faults too_long last_refused old mid → NoneRefused faults too_long last_refused mid new
      → NoneRefused faults too_long last_refused old new
  none_refused_twice old mid new first second = record {
    faults_stay = second.faults_stay ∙ first.faults_stay;
    too_long_stays = second.too_long_stays ∙ first.too_long_stays;
    refused_stays = second.refused_stays ∙ first.refused_stays;
  }

  -- what files tell of a step that began where none was refused
  refuses_later : {T : Type 0} (fetched : F → List (List ℕ)) (old mid new : F) → NoneRefused faults too_long last_refused old mid → (r : Result T Refusal)
      → Refuses faults too_long last_refused fetched mid new r → Refuses faults too_long last_refused fetched old new r
  refuses_later fetched old mid new first (Ok made) second = none_refused_twice old mid new first second
  refuses_later fetched old mid new first (Err (refusal.Faulty status name fault)) second = none_refused_twice old mid new first second
  refuses_later fetched old mid new first (Err (refusal.Unread name why)) second = record {
    rose = subst (λ (n : ℕ). Rose n (count_for why (faults new) (too_long new))) (same_count why _ _ _ _ first.faults_stay first.too_long_stays) second.rose;
    is_last = second.is_last;
    earlier = second.earlier;
    last_fetched = second.last_fetched;
  }
  refuses_later fetched old mid new first (Err refusal.Unwritten) second = none_refused_twice old mid new first second
  refuses_later fetched old mid new first (Err refusal.Memory) second = none_refused_twice old mid new first second

-- two steps, one after the other
pub then_fetched : {F T U : Type 0} {faults too_long : F → ℕ} {last_refused : F → Option Refused} {fetched : F → List (List ℕ)} {contents : F → Contents}
    {xs ys : List (List ℕ)} {old mid new : F} {x : T} {r : Result U Refusal}
    → Fetched faults too_long last_refused fetched contents xs old mid (Ok x) → Fetched faults too_long last_refused fetched contents ys mid new r
    → Fetched faults too_long last_refused fetched contents (xs ++ ys) old new r
then_fetched {faults = faults} {too_long = too_long} {last_refused = last_refused} {fetched = fetched} {xs = xs} {ys = ys} {old = old} {mid = mid} {new = new} {r = r} first second = record {
  contents_stay = second.contents_stay ∙ first.contents_stay;
  takes = takes_later xs ys (fetched old) (fetched mid) (fetched new) first.takes r second.takes;
  refuses = refuses_later faults too_long last_refused fetched old mid new first.refuses r second.refuses;
}

module _ {F O : Type 0} {faults too_long : F → ℕ} {last_refused : F → Option Refused} {fetched : F → List (List ℕ)} {contents : F → Contents}
    {out_faults : O → ℕ} {out_written : O → Option (List ℕ)} {names : List (List ℕ)} {May : Outcome → Type 0} {old new : F} where
  stopped_at : {T : Type 0} {out : O} (taken left : List (List ℕ)) (e : Refusal) → taken ++ left ≡ names
      → Fetched faults too_long last_refused fetched {T = T} contents taken old new (Err e) → Stops May e
      → Ends faults too_long last_refused fetched contents out_faults out_written names May old new out out (Err e)
  stopped_at taken left (refusal.Faulty status name fault) same step stops = record {
    contents_stay = step.contents_stay;
    fetches = record { taken = taken; left = left; in_order = same; fetched = step.takes };
    refuses = step.refuses;
    shown = (stops, refl);
  }
  stopped_at taken left (refusal.Unread name why) same step stops = record {
    contents_stay = step.contents_stay;
    fetches = record { taken = taken; left = left; in_order = same; fetched = step.takes };
    refuses = step.refuses;
    shown = (stops, refl);
  }
  stopped_at taken left refusal.Unwritten same step stops = absurd stops
  stopped_at taken left refusal.Memory same step stops = record {
    contents_stay = step.contents_stay;
    fetches = in_longer taken left names _ _ same step.takes;
    refuses = step.refuses;
    shown = refl;
  }

  -- a step is refused, and the order with it
  pub stopped : {T : Type 0} {out : O} {taken : List (List ℕ)} (left : List (List ℕ)) (e : Refusal) {r : Result Status Refusal} → IsErrAnd r (λ k. k ≡ e)
      → taken ++ left ≡ names → Fetched faults too_long last_refused fetched {T = T} contents taken old new (Err e) → Stops May e
      → Ends faults too_long last_refused fetched contents out_faults out_written names May old new out out r
  stopped {out = out} {taken = taken} left e {r = r} is same step stops =
      so_refused (λ r. Ends faults too_long last_refused fetched contents out_faults out_written names May old new out out r) e r is
      (stopped_at taken left e same step stops)

  refused_at : {T : Type 0} {out : O} {x : T} (e : Refusal) → IsOfWhatWasRead e
      → Fetched faults too_long last_refused fetched contents names old new (Ok x) → Stops May e
      → Ends faults too_long last_refused fetched contents out_faults out_written names May old new out out (Err e)
  refused_at (refusal.Faulty status name fault) kind step stops = record {
    contents_stay = step.contents_stay;
    fetches = record { taken = names; left = []; in_order = append-nil names; fetched = step.takes };
    refuses = step.refuses;
    shown = (stops, refl);
  }
  refused_at (refusal.Unread name why) kind step stops = absurd kind
  refused_at refusal.Unwritten kind step stops = absurd kind
  refused_at refusal.Memory kind step stops = record {
    contents_stay = step.contents_stay;
    fetches = record { taken = names; left = []; in_order = append-nil names; fetched = step.takes };
    refuses = step.refuses;
    shown = refl;
  }

  -- the order is refused for what was read, or memory is wanting
  pub refused_after : {T : Type 0} {out : O} {x : T} (e : Refusal) {r : Result Status Refusal} → IsErrAnd r (λ k. k ≡ e) → IsOfWhatWasRead e
      → Fetched faults too_long last_refused fetched contents names old new (Ok x) → Stops May e
      → Ends faults too_long last_refused fetched contents out_faults out_written names May old new out out r
  refused_after {out = out} e {r = r} is kind step stops =
      so_refused (λ r. Ends faults too_long last_refused fetched contents out_faults out_written names May old new out out r) e r is
      (refused_at e kind step stops)

  -- memory is wanting after these steps
  pub no_memory : {T : Type 0} {out : O} {taken : List (List ℕ)} (left : List (List ℕ)) {x : T} {r : Result Status Refusal}
      → IsErrAnd r (λ k. k ≡ refusal.Memory)
      → taken ++ left ≡ names → Fetched faults too_long last_refused fetched contents taken old new (Ok x)
      → Ends faults too_long last_refused fetched contents out_faults out_written names May old new out out r
  no_memory {out = out} {taken = taken} left {r = r} is same step =
      so_refused (λ r. Ends faults too_long last_refused fetched contents out_faults out_written names May old new out out r) refusal.Memory r is (record {
        contents_stay = step.contents_stay;
        fetches = record { taken = taken; left = left; in_order = same; fetched = step.takes };
        refuses = step.refuses;
        shown = refl;
      })

  -- the answer was sent
  pub answered : {T : Type 0} {out_old out_new : O} (text : List ℕ) (s : Status) {x : T} {done : Unit {0}}
      → Fetched faults too_long last_refused fetched contents names old new (Ok x) → May (answers text s)
      → SentAnswer out_faults out_written text out_old out_new (Ok done)
      → Ends faults too_long last_refused fetched contents out_faults out_written names May old new out_old out_new (Ok s)
  answered text s step may sent = record {
    contents_stay = step.contents_stay;
    fetches = record { taken = names; left = []; in_order = append-nil names; fetched = step.takes };
    refuses = step.refuses;
    shown = record { text = text; allowed = may; written = sent };
  }

  unsent_for : {T : Type 0} {out_old out_new : O} (text : List ℕ) (s : Status) {x : T} (e : Refusal)
      → Fetched faults too_long last_refused fetched contents names old new (Ok x) → May (answers text s)
      → SentAnswer out_faults out_written text out_old out_new (Err e)
      → Ends faults too_long last_refused fetched contents out_faults out_written names May old new out_old out_new (Err e)
  unsent_for text s (refusal.Faulty status name fault) step may sent = absurd sent
  unsent_for text s (refusal.Unread name why) step may sent = absurd sent
  unsent_for text s refusal.Unwritten step may sent = record {
    contents_stay = step.contents_stay;
    fetches = record { taken = names; left = []; in_order = append-nil names; fetched = step.takes };
    refuses = step.refuses;
    shown = record { text = text; status = s; allowed = may; rose = sent.0; prefix = sent.1 };
  }
  unsent_for text s refusal.Memory step may sent = record {
    contents_stay = step.contents_stay;
    fetches = record { taken = names; left = []; in_order = append-nil names; fetched = step.takes };
    refuses = step.refuses;
    shown = sent;
  }

  -- the answer could not be sent
  pub unsent : {T : Type 0} {out_old out_new : O} (text : List ℕ) (s : Status) {x : T} (e : Refusal) {r : Result Status Refusal} → IsErrAnd r (λ k. k ≡ e)
      → Fetched faults too_long last_refused fetched contents names old new (Ok x) → May (answers text s)
      → SentAnswer out_faults out_written text out_old out_new (Err e)
      → Ends faults too_long last_refused fetched contents out_faults out_written names May old new out_old out_new r
  unsent {out_old = out_old} {out_new = out_new} text s e {r = r} is step may sent =
      so_refused (λ r. Ends faults too_long last_refused fetched contents out_faults out_written names May old new out_old out_new r) e r is (unsent_for text s e step may sent)

-- an order without files ends as its output shows, where it ends in no refusal of a file
pub ends_without_files : {F O : Type 0} {faults too_long : F → ℕ} {last_refused : F → Option Refused} {fetched : F → List (List ℕ)}
    {contents : F → Contents} {out_faults : O → ℕ} {out_written : O → Option (List ℕ)} (May : Outcome → Type 0) {files : F} {out_old out_new : O}
    → ((name : List ℕ) (why : Reason) → ¬ May (unread name why)) → (r : Result Status Refusal)
    → Shown out_faults out_written May out_old out_new r
    → Ends faults too_long last_refused fetched contents out_faults out_written [] May files files out_old out_new r
ends_without_files {fetched = fetched} May {files = files} none (Ok s) shown = record {
  contents_stay = refl;
  fetches = record { taken = []; left = []; in_order = refl; fetched = sym (append-nil (fetched files)) };
  refuses = record { faults_stay = refl; too_long_stays = refl; refused_stays = refl };
  shown = shown;
}
ends_without_files {fetched = fetched} May {files = files} none (Err (refusal.Faulty status name fault)) shown = record {
  contents_stay = refl;
  fetches = record { taken = []; left = []; in_order = refl; fetched = sym (append-nil (fetched files)) };
  refuses = record { faults_stay = refl; too_long_stays = refl; refused_stays = refl };
  shown = shown;
}
ends_without_files May none (Err (refusal.Unread name why)) shown = absurd (none name.now why shown.0)
ends_without_files {fetched = fetched} May {files = files} none (Err refusal.Unwritten) shown = record {
  contents_stay = refl;
  fetches = record { taken = []; left = []; in_order = refl; fetched = sym (append-nil (fetched files)) };
  refuses = record { faults_stay = refl; too_long_stays = refl; refused_stays = refl };
  shown = shown;
}
ends_without_files {fetched = fetched} May {files = files} none (Err refusal.Memory) shown = record {
  contents_stay = refl;
  fetches = record { taken = []; left = []; in_order = refl; fetched = sym (append-nil (fetched files)) };
  refuses = record { faults_stay = refl; too_long_stays = refl; refused_stays = refl };
  shown = shown;
}

-- an answer that could not be sent
pub unsent_shows : {O : Type 0} (out_faults : O → ℕ) (out_written : O → Option (List ℕ)) (May : Outcome → Type 0) (out_old out_new : O)
    (text : List ℕ) (s : Status) (e : Refusal) → May (answers text s) → SentAnswer out_faults out_written text out_old out_new (Err e)
    → Shown out_faults out_written May out_old out_new (Err e)
unsent_shows out_faults out_written May out_old out_new text s (refusal.Faulty status name fault) may sent = absurd sent
unsent_shows out_faults out_written May out_old out_new text s (refusal.Unread name why) may sent = absurd sent
unsent_shows out_faults out_written May out_old out_new text s refusal.Unwritten may sent = record { text = text; status = s; allowed = may; rose = sent.0; prefix = sent.1 }
unsent_shows out_faults out_written May out_old out_new text s refusal.Memory may sent = sent

ended_inside : {F O T : Type 0} {faults too_long : F → ℕ} {last_refused : F → Option Refused} {fetched : F → List (List ℕ)} {contents : F → Contents}
    {out_faults : O → ℕ} {out_written : O → Option (List ℕ)} {names : List (List ℕ)} {May : Outcome → Type 0} {old new : F} {out : O} {x : T}
    (Inside : Outcome → Type 0) → ((name : List ℕ) (why : Reason) → ¬ Inside (unread name why)) → (e : Refusal)
    → Fetched faults too_long last_refused fetched contents names old new (Ok x) → Stops Inside e → Stops May e
    → Ends faults too_long last_refused fetched contents out_faults out_written names May old new out out (Err e)
ended_inside {names = names} Inside none (refusal.Faulty status name fault) step inside stops = record {
  contents_stay = step.contents_stay;
  fetches = record { taken = names; left = []; in_order = append-nil names; fetched = step.takes };
  refuses = step.refuses;
  shown = (stops, refl);
}
ended_inside Inside none (refusal.Unread name why) step inside stops = absurd (none name.now why inside)
ended_inside Inside none refusal.Unwritten step inside stops = absurd inside
ended_inside {names = names} Inside none refusal.Memory step inside stops = record {
  contents_stay = step.contents_stay;
  fetches = record { taken = names; left = []; in_order = append-nil names; fetched = step.takes };
  refuses = step.refuses;
  shown = refl;
}

-- an order is refused after its fetches, by a step that fetches nothing
pub stopped_inside : {F O T : Type 0} {faults too_long : F → ℕ} {last_refused : F → Option Refused} {fetched : F → List (List ℕ)} {contents : F → Contents}
    {out_faults : O → ℕ} {out_written : O → Option (List ℕ)} {names : List (List ℕ)} {May : Outcome → Type 0} {old new : F} {out : O} {x : T}
    (Inside : Outcome → Type 0) → ((name : List ℕ) (why : Reason) → ¬ Inside (unread name why)) → (e : Refusal) {r : Result Status Refusal}
    → IsErrAnd r (λ k. k ≡ e) → Fetched faults too_long last_refused fetched contents names old new (Ok x) → Stops Inside e → Stops May e
    → Ends faults too_long last_refused fetched contents out_faults out_written names May old new out out r
stopped_inside {faults = faults} {too_long = too_long} {last_refused = last_refused} {fetched = fetched} {contents = contents} {out_faults = out_faults} {out_written = out_written} {names = names} {May = May} {old = old} {new = new} {out = out} Inside none e {r = r} is step inside stops =
    so_refused (λ r. Ends faults too_long last_refused fetched contents out_faults out_written names May old new out out r) e r is
    (ended_inside Inside none e step inside stops)
