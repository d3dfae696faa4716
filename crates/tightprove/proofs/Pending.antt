-- Tasks on a stack: what is still to be searched, and how much work is left.
use Rattle.std.proofs.Common.{◌≡◌, ◌⊎◌, inl, inr, ℕ, ◌+◌, ◌-◌, ◌*◌, ◌^◌, ◌<◌, ◌≤◌, suc, zero, List, [], ◌∷◌, ◌++◌, length, get_or, refl, sym, ap, ◌∙◌, subst, arith, suc-le-suc, add-one}
use native.Mathlib.Nat.{le_of_suc-le-suc}
use Rattle.std.proofs.Math.Nat.{one-le-pow, pow-le-pow_right, pow-suc, mul_comm}
use Rattle.std.proofs.lemmas.List.{append_assoc, append-nil, get_or_append_left, get_or-append_right, length-append}
use Rattle.std.proofs.lemmas.Bool.{cases_lt}
use Rattle.span_model.specs.Columns.{Columns}
use Rattle.span_model.specs.Span.{InSpan, Spans}
use Rattle.span_model.specs.Attack.{Product}
use Rattle.gf2_span.specs.Basis.{Basis, row_sets}
use Rattle.tightprove.specs.Classes.{AreClassesOf, Leaks, IsClean}
use Rattle.tightprove.specs.Growth.{span_at, AreKnown}
use Rattle.tightprove.specs.Tasks.{searches, IsPending, LeaksArePending, AreInOrder, HaveColumns, work, HoldLeaks, IsDone}
use Rattle.tightprove.specs.declared.class.Class.{Class}
use Rattle.tightprove.specs.declared.tasks.Task.{Task}
use Rattle.tightprove.specs.declared.tasks.Task.TheVariants.{Search, Record}

-- ---- what is pending

pending_left : (tasks more : List Task) (v : Columns ℕ) → IsPending tasks v → IsPending (tasks ++ more) v
pending_left [] more v h = absurd h
pending_left (Search span ∷ tasks) more v h = elim h [ inl x ↦ inl x | inr x ↦ inr (pending_left tasks more v x) ]
pending_left (Record span ∷ tasks) more v h = pending_left tasks more v h

pending_right : (tasks more : List Task) (v : Columns ℕ) → IsPending more v → IsPending (tasks ++ more) v
pending_right [] more v h = h
pending_right (Search span ∷ tasks) more v h = inr (pending_right tasks more v h)
pending_right (Record span ∷ tasks) more v h = pending_right tasks more v h

pending_cases : (tasks more : List Task) (v : Columns ℕ) → IsPending (tasks ++ more) v → IsPending tasks v ⊎ IsPending more v
pending_cases [] more v h = inr h
pending_cases (Search span ∷ tasks) more v h = elim h [
  | inl x ↦ inl (inl x)
  | inr x ↦ elim (pending_cases tasks more v x) [ inl y ↦ inl (inr y) | inr y ↦ inr y ]
]
pending_cases (Record span ∷ tasks) more v h = pending_cases tasks more v h

-- other last tasks, in which the same leaks are pending
pub pending_instead : (classes : List Class) (rows : List (Columns ℕ)) (tasks last others : List Task)
    → ((products : List (Product ℕ)) → AreClassesOf products classes → (v : Columns ℕ) → Leaks products v → IsPending last v → IsPending others v)
    → LeaksArePending classes rows (tasks ++ last) → LeaksArePending classes rows (tasks ++ others)
pending_instead classes rows tasks last others instead pending products are v m leak = elim (pending_cases tasks last v (pending products are v m leak)) [
  | inl x ↦ pending_left tasks others v x
  | inr x ↦ pending_right tasks others v (instead products are v leak x)
]

pub order_instead : (classes : List Class) (tasks last others : List Task)
    → ((products : List (Product ℕ)) → AreClassesOf products classes → (v : Columns ℕ) → Leaks products v → IsPending last v → IsPending others v)
    → AreInOrder classes others → AreInOrder classes (tasks ++ last) → AreInOrder classes (tasks ++ others)
order_instead classes [] last others instead order was = order
order_instead classes (Search span ∷ tasks) last others instead order was = order_instead classes tasks last others instead order was
order_instead classes (Record span ∷ tasks) last others instead order was =
    (pending_instead classes (row_sets span) tasks last others instead was.0, order_instead classes tasks last others instead order was.1)

-- a span that is recorded now has no leak
pub last_clean : (classes : List Class) (tasks : List Task) (span : Basis) → AreInOrder classes (tasks ++ Record span ∷ []) → IsClean classes (row_sets span)
last_clean classes [] span order = λ products are v m leak. order.0 products are v m leak
last_clean classes (Search other ∷ tasks) span order = last_clean classes tasks span order
last_clean classes (Record other ∷ tasks) span order = last_clean classes tasks span order.1

pending_piece : (pieces : List Basis) (n : ℕ) (v : Columns ℕ) → n < length pieces → InSpan (row_sets (span_at pieces n)) v → IsPending (searches pieces) v
pending_piece [] n v lt m = absurd (omega arith)
pending_piece (piece ∷ pieces) zero v lt m = inl m
pending_piece (piece ∷ pieces) (suc n) v lt m = inr (pending_piece pieces n v (le_of_suc-le-suc lt) m)

pub searches_order : (classes : List Class) (pieces : List Basis) → AreInOrder classes (searches pieces)
searches_order classes [] = tt
searches_order classes (piece ∷ pieces) = searches_order classes pieces

-- the pieces of a span, with the note to record it, in place of its search
pub pieces_instead : (classes : List Class) (span : Basis) (pieces : List Basis) → HoldLeaks classes span pieces
    → (products : List (Product ℕ)) → AreClassesOf products classes → (v : Columns ℕ) → Leaks products v → IsPending (Search span ∷ []) v
    → IsPending (Record span ∷ searches pieces) v
pieces_instead classes span pieces hold products are v leak h = elim h [
  | inl m ↦ (let p = hold.leaks products are v m leak in pending_piece pieces p.0 v p.1 p.2)
  | inr x ↦ absurd x
]

pub pieces_order : (classes : List Class) (span : Basis) (pieces : List Basis) → HoldLeaks classes span pieces → AreInOrder classes (Record span ∷ searches pieces)
pieces_order classes span pieces hold =
    ((λ products are v m leak. (let p = hold.leaks products are v m leak in pending_piece pieces p.0 v p.1 p.2)), searches_order classes pieces)

-- a span within a clean one need not be searched
pub clean_instead : (classes : List Class) (span : Basis) → IsClean classes (row_sets span)
    → (products : List (Product ℕ)) → AreClassesOf products classes → (v : Columns ℕ) → Leaks products v → IsPending (Search span ∷ []) v → IsPending [] v
clean_instead classes span clean products are v leak h = elim h [ inl m ↦ clean products are v m leak | inr x ↦ x ]

pub record_instead : (classes : List Class) (span : Basis)
    → (products : List (Product ℕ)) → AreClassesOf products classes → (v : Columns ℕ) → Leaks products v → IsPending (Record span ∷ []) v → IsPending [] v
record_instead classes span products are v leak h = h

pub clean_within : (classes : List Class) (rows less : List (Columns ℕ)) → Spans rows less → IsClean classes rows → IsClean classes less
clean_within classes rows less h clean products are v m leak = clean products are v (h v m) leak

-- ---- columns

pub columns_both : (columns : ℕ) (tasks more : List Task) → HaveColumns columns tasks → HaveColumns columns more → HaveColumns columns (tasks ++ more)
columns_both columns [] more h k = k
columns_both columns (Search span ∷ tasks) more h k = (h.0, columns_both columns tasks more h.1 k)
columns_both columns (Record span ∷ tasks) more h k = (h.0, columns_both columns tasks more h.1 k)

pub columns_first : (columns : ℕ) (tasks more : List Task) → HaveColumns columns (tasks ++ more) → HaveColumns columns tasks
columns_first columns [] more h = tt
columns_first columns (Search span ∷ tasks) more h = (h.0, columns_first columns tasks more h.1)
columns_first columns (Record span ∷ tasks) more h = (h.0, columns_first columns tasks more h.1)

pub columns_last : (columns : ℕ) (tasks more : List Task) → HaveColumns columns (tasks ++ more) → HaveColumns columns more
columns_last columns [] more h = h
columns_last columns (Search span ∷ tasks) more h = columns_last columns tasks more h.1
columns_last columns (Record span ∷ tasks) more h = columns_last columns tasks more h.1

pub searches_columns : (columns : ℕ) (pieces : List Basis) → ((n : ℕ) → n < length pieces → (span_at pieces n).columns ≡ columns) → HaveColumns columns (searches pieces)
searches_columns columns [] h = tt
searches_columns columns (piece ∷ pieces) h = (h 0 (omega arith), searches_columns columns pieces (λ n lt. h (suc n) (suc-le-suc lt)))

-- ---- work

pub work_both : (k : ℕ) (tasks more : List Task) → work k (tasks ++ more) ≡ work k tasks + work k more
work_both k [] more = omega arith
work_both k (Search span ∷ tasks) more = let e : work k (tasks ++ more) ≡ work k tasks + work k more = work_both k tasks more in omega (arith, e)
work_both k (Record span ∷ tasks) more = let e : work k (tasks ++ more) ≡ work k tasks + work k more = work_both k tasks more in omega (arith, e)

pieces_work : (k rank : ℕ) (pieces : List Basis) → ((n : ℕ) → n < length pieces → length (span_at pieces n).rows < rank)
    → work k (searches pieces) ≤ length pieces * (k + 2) ^ rank
pieces_work k rank [] less = omega arith
pieces_work k rank (piece ∷ pieces) less =
    let first : (k + 2) ^ (length piece.rows + 1) ≤ (k + 2) ^ rank = pow-le-pow_right (omega arith) (let h : length piece.rows < rank = less 0 (omega arith) in omega (arith, h)) in
    let rest : work k (searches pieces) ≤ length pieces * (k + 2) ^ rank = pieces_work k rank pieces (λ n lt. less (suc n) (suc-le-suc lt)) in
    omega (arith, first, rest)

-- one unit of work of this rank is more than the note and all the pieces
less_work : (k count w : ℕ) → count ≤ k → 0 < w → 1 + count * w < (k + 2) * w
less_work k count w few some = grind arith

pub pieces_less : (k : ℕ) (tasks : List Task) (span : Basis) (pieces : List Basis) → length pieces ≤ k
    → ((n : ℕ) → n < length pieces → length (span_at pieces n).rows < length span.rows)
    → work k (tasks ++ Record span ∷ searches pieces) < work k (tasks ++ Search span ∷ [])
pieces_less k tasks span pieces few proper =
    let w : ℕ = (k + 2) ^ length span.rows in
    let some : 0 < w = one-le-pow (length span.rows) (k + 2) (omega arith) in
    let next : (k + 2) ^ (length span.rows + 1) ≡ (k + 2) * w = pow_next (k + 2) (length span.rows) in
    let most : work k (searches pieces) ≤ length pieces * w = pieces_work k (length span.rows) pieces proper in
    let less : 1 + length pieces * w < (k + 2) * w = less_work k (length pieces) w few some in
    let a : work k (tasks ++ Record span ∷ searches pieces) ≡ work k tasks + (1 + work k (searches pieces)) = work_both k tasks (Record span ∷ searches pieces) in
    let b : work k (tasks ++ Search span ∷ []) ≡ work k tasks + ((k + 2) ^ (length span.rows + 1) + 0) = work_both k tasks (Search span ∷ []) in
    omega (arith, a, b, most, less, next)
  where
    pow_next : (b n : ℕ) → b ^ (n + 1) ≡ b * b ^ n
    pow_next b n = ap (λ k. b ^ k) (add-one n) ∙ pow-suc b n ∙ mul_comm (b ^ n) b

pub done_less : (k : ℕ) (tasks : List Task) (task : Task) → work k tasks < work k (tasks ++ task ∷ [])
done_less k tasks (Search span) =
    let some : 0 < (k + 2) ^ (length span.rows + 1) = one-le-pow (length span.rows + 1) (k + 2) (omega arith) in
    let b : work k (tasks ++ Search span ∷ []) ≡ work k tasks + ((k + 2) ^ (length span.rows + 1) + 0) = work_both k tasks (Search span ∷ []) in
    omega (arith, b, some)
done_less k tasks (Record span) =
    let b : work k (tasks ++ Record span ∷ []) ≡ work k tasks + (1 + 0) = work_both k tasks (Record span ∷ []) in
    omega (arith, b)

-- ---- what is known

pub known_none : (classes : List Class) (count : ℕ) → AreKnown classes count []
known_none classes count = record { columns = λ n h. absurd (omega arith); clean = λ n h. absurd (omega arith) }

pub known_more : (classes : List Class) (count : ℕ) (spans : List Basis) (span : Basis) → AreKnown classes count spans → span.columns ≡ count
    → IsClean classes (row_sets span) → AreKnown classes count (spans ++ span ∷ [])
known_more classes count spans span known columns clean =
    let none : Basis = record { columns = 0; rows = [] } in
    let P : Basis → Type 0 = λ b. (b.columns ≡ count) × IsClean classes (row_sets b) in
    let at : (n : ℕ) → n < length (spans ++ span ∷ []) → (span_at (spans ++ span ∷ []) n).columns ≡ count × IsClean classes (row_sets (span_at (spans ++ span ∷ []) n)) =
    λ n h. (elim (cases_lt n (length spans)) [
      | inl old ↦ subst P (sym (get_or_append_left spans (span ∷ []) none n old)) (known.columns n old, known.clean n old)
      | inr here ↦
          let e : n ≡ length spans = omega (arith, h, length-append spans (span ∷ [])) in
          subst P (sym (get_or-append_right spans (span ∷ []) (length spans) n none refl here ∙ ap (λ k. get_or (span ∷ []) k none) (off (length spans) n e))) (columns, clean)
    ]) in
    record { columns = λ n h. (at n h).0; clean = λ n h. (at n h).1 }
  where
    off : (m n : ℕ) → n ≡ m → n - m ≡ 0
    off m n e = omega arith

-- ---- a task that is done

as_before : (classes : List Class) (tasks last : List Task) (count : ℕ) → HaveColumns count (tasks ++ last) → AreInOrder classes (tasks ++ last)
    → ((products : List (Product ℕ)) → AreClassesOf products classes → (v : Columns ℕ) → Leaks products v → IsPending last v → IsPending [] v)
    → work (length classes) tasks < work (length classes) (tasks ++ last) → IsDone classes count (tasks ++ last) tasks
as_before classes tasks last count columns order instead less = record {
  columns = columns_first count tasks last columns;
  order = (let P : List Task → Type 0 = λ t. AreInOrder classes t in subst P (append-nil tasks) (order_instead classes tasks last [] instead tt order));
  pending = λ rows pending. (let P : List Task → Type 0 = λ t. LeaksArePending classes rows t in subst P (append-nil tasks) (pending_instead classes rows tasks last [] instead pending));
  less = less;
}

pub done_record : (classes : List Class) (count : ℕ) (tasks : List Task) (task : Task) (span : Basis) → task ≡ Record span → HaveColumns count (tasks ++ task ∷ [])
    → AreInOrder classes (tasks ++ task ∷ []) → IsDone classes count (tasks ++ task ∷ []) tasks
done_record classes count tasks task span is columns order =
    let P : Task → Type 0 = λ t. HaveColumns count (tasks ++ t ∷ []) → AreInOrder classes (tasks ++ t ∷ []) → IsDone classes count (tasks ++ t ∷ []) tasks in
    subst P (sym is) (λ h k. as_before classes tasks (Record span ∷ []) count h k (record_instead classes span) (done_less (length classes) tasks (Record span))) columns order

pub done_known : (classes : List Class) (count : ℕ) (tasks : List Task) (task : Task) (span : Basis) → task ≡ Search span → IsClean classes (row_sets span)
    → HaveColumns count (tasks ++ task ∷ []) → AreInOrder classes (tasks ++ task ∷ []) → IsDone classes count (tasks ++ task ∷ []) tasks
done_known classes count tasks task span is clean columns order =
    let P : Task → Type 0 = λ t. HaveColumns count (tasks ++ t ∷ []) → AreInOrder classes (tasks ++ t ∷ []) → IsDone classes count (tasks ++ t ∷ []) tasks in
    subst P (sym is) (λ h k. as_before classes tasks (Search span ∷ []) count h k (clean_instead classes span clean) (done_less (length classes) tasks (Search span))) columns order

pub done_pieces : (classes : List Class) (count : ℕ) (tasks now : List Task) (task : Task) (span : Basis) (pieces : List Basis) → task ≡ Search span → HoldLeaks classes span pieces
    → now ≡ (tasks ++ Record span ∷ []) ++ searches pieces
    → HaveColumns count (tasks ++ task ∷ []) → AreInOrder classes (tasks ++ task ∷ []) → IsDone classes count (tasks ++ task ∷ []) now
done_pieces classes count tasks now task span pieces is hold now_is columns order =
    let P : Task → Type 0 = λ t. HaveColumns count (tasks ++ t ∷ []) → AreInOrder classes (tasks ++ t ∷ []) → IsDone classes count (tasks ++ t ∷ []) now in
    let Q : List Task → Type 0 = λ t. IsDone classes count (tasks ++ Search span ∷ []) t in
    subst P (sym is) (λ h k. subst Q (sym (now_is ∙ append_assoc tasks (Record span ∷ []) (searches pieces))) (
    let of_span : HaveColumns count (Search span ∷ []) = columns_last count tasks (Search span ∷ []) h in
    record {
      columns = columns_both count tasks (Record span ∷ searches pieces) (columns_first count tasks (Search span ∷ []) h)
          (of_span.0, searches_columns count pieces (λ n lt. hold.columns n lt ∙ of_span.0));
      order = order_instead classes tasks (Search span ∷ []) (Record span ∷ searches pieces) (pieces_instead classes span pieces hold) (pieces_order classes span pieces hold) k;
      pending = λ rows pending. pending_instead classes rows tasks (Search span ∷ []) (Record span ∷ searches pieces) (pieces_instead classes span pieces hold) pending;
      less = pieces_less (length classes) tasks span pieces hold.few hold.proper;
    }
    )) columns order

-- the span of the last task has the columns of all
pub last_columns : (count : ℕ) (tasks : List Task) (task : Task) (span : Basis) → task ≡ Record span → HaveColumns count (tasks ++ task ∷ []) → span.columns ≡ count
last_columns count tasks task span is columns =
    let P : Task → Type 0 = λ t. HaveColumns count (tasks ++ t ∷ []) in
    (columns_last count tasks (Record span ∷ []) (subst P is columns)).0

pub last_search_columns : (count : ℕ) (tasks : List Task) (task : Task) (span : Basis) → task ≡ Search span → HaveColumns count (tasks ++ task ∷ []) → span.columns ≡ count
last_search_columns count tasks task span is columns =
    let P : Task → Type 0 = λ t. HaveColumns count (tasks ++ t ∷ []) in
    (columns_last count tasks (Search span ∷ []) (subst P is columns)).0

pub last_is_clean : (classes : List Class) (tasks : List Task) (task : Task) (span : Basis) → task ≡ Record span → AreInOrder classes (tasks ++ task ∷ []) → IsClean classes (row_sets span)
last_is_clean classes tasks task span is order =
    let P : Task → Type 0 = λ t. AreInOrder classes (tasks ++ t ∷ []) in
    last_clean classes tasks span (subst P is order)
