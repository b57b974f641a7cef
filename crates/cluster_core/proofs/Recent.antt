-- What a resolver keeps is recent: after what waits is put in order, what is old is dropped, and a request is kept.
use Rattle.std.proofs.Common.{◌≡◌, ℕ, ◌+◌, ◌-◌, ◌<◌, ◌≤◌, true, false, cond, nat_eq, nat_le, List, [], ◌∷◌, ◌++◌, ◌⊎◌, Result, Ok, Err, OnErr, inl, inr, subst, arith}
use Rattle.std.proofs.lemmas.Bool.{cases_Bool, eqb-true, false≢true, leb-true, or_cases, or_left, or_right}
use Rattle.std.specs.List.{filter}
use Rattle.kv_core.specs.declared.change.CommitRequest.{CommitRequest}
use Rattle.cluster_core.specs.Kept.{KeepsFrom, KeepsRecent, KeptWrites, PutsEach, WritersState, has_place, no_writers, waits_too, with_waiting}
use Rattle.cluster_core.specs.Segments.{SegmentHolds}
use Rattle.cluster_core.proofs.InOrder.{Key, Run, nothing_is}

-- what stands holds on an error too
pub on_err : {T E P : Type 0} (r : Result T E) → P → OnErr r P
on_err (Ok _) h = tt
on_err (Err _) h = h

-- what is left after a test stood there before
had_filter : (least : ℕ) (ps : List ℕ) (q : ℕ) → has_place (filter (nat_le least) ps) q ≡ true → least ≤ q
had_filter least [] q has = absurd (false≢true has)
had_filter least (p ∷ ps) q has = elim (cases_Bool (nat_le least p)) [
  | inl keeps ↦ elim (or_cases (nat_eq q p) (has_place (filter (nat_le least) ps) q) (subst (λ b. has_place (cond b (p ∷ filter (nat_le least) ps) (filter (nat_le least) ps)) q ≡ true) keeps has)) [
    | inl here ↦
        let same : q ≡ p = eqb-true q p here in
        let low = leb-true least p keeps in
        omega (arith, same, low)
    | inr later ↦ had_filter least ps q later
  ]
  | inr drops ↦ had_filter least ps q (subst (λ b. has_place (cond b (p ∷ filter (nat_le least) ps) (filter (nat_le least) ps)) q ≡ true) drops has)
]

-- a list with a place at its end has nothing else beyond what it had
had_push : (ps : List ℕ) (n q : ℕ) → has_place (ps ++ n ∷ []) q ≡ true → (has_place ps q ≡ true) ⊎ (q ≡ n)
had_push [] n q has = elim (or_cases (nat_eq q n) false has) [ inl here ↦ inr (eqb-true q n here) | inr never ↦ absurd (false≢true never) ]
had_push (p ∷ ps) n q has = elim (or_cases (nat_eq q p) (has_place (ps ++ n ∷ []) q) has) [
  | inl here ↦ inl (or_left (nat_eq q p) (has_place ps q) here)
  | inr later ↦ elim (had_push ps n q later) [ inl before ↦ inl (or_right (nat_eq q p) (has_place ps q) before) | inr now ↦ inr now ]
]

-- what waits was put in order or noted, in part or whole
module _ (dropped ordered : ℕ) (pending : List ℕ) (old : Run) (requests : List CommitRequest) (new : Run) (puts : PutsEach requests pending old new)
    (was : KeepsFrom dropped (record { segments = old; ordered = ordered; pending = pending })) where
  pub from_some : KeepsFrom dropped (record { segments = new; ordered = ordered; pending = pending })
  from_some = record {
    held = λ key place h. elim (puts.holds key place h) [ inl before ↦ was.held key place before | inr wrote ↦ was.waiting place wrote.0 ];
    waiting = was.waiting;
  }

  pub from_whole : (next : ℕ) → KeepsFrom dropped (record { segments = new; ordered = next; pending = [] })
  from_whole next = record { held = from_some.held; waiting = λ place has. absurd (false≢true has) }

-- the same of one side of what is kept
pub recent_ranges : (window upto : ℕ) (writers : WritersState) (ranges : KeptWrites) → KeepsFrom writers.dropped ranges → KeepsRecent window upto writers →
    KeepsRecent window upto (record writers { ranges = ranges })
recent_ranges window upto writers ranges now was = record { ranges = now; points = was.points; passed = was.passed; within = was.within }

pub recent_points : (window upto whole_from : ℕ) (writers : WritersState) (points : KeptWrites) → KeepsFrom writers.dropped points → KeepsRecent window upto writers →
    KeepsRecent window upto (record writers { points = points; whole_from = whole_from })
recent_points window upto whole_from writers points now was = record { ranges = was.ranges; points = now; passed = was.passed; within = was.within }

-- what is old was dropped, up to where the window begins
pub from_dropped : (least ordered : ℕ) (pending : List ℕ) (new : Run) → ((key : Key) (place : ℕ) → SegmentHolds new key place → least ≤ place) →
    KeepsFrom least (record { segments = new; ordered = ordered; pending = filter (nat_le least) pending })
from_dropped least ordered pending new recent = record { held = recent; waiting = λ place has. had_filter least pending place has }

pub recent_dropped : (window upto next least whole_from : ℕ) (ranges points : KeptWrites) → least ≡ upto - window → upto ≤ next → next ≤ upto + 1 →
    KeepsFrom least ranges → KeepsFrom least points → KeepsRecent window next (record { ranges = ranges; points = points; whole_from = whole_from; dropped = least })
recent_dropped window upto next least whole_from ranges points is low high a b =
    record { ranges = a; points = b; passed = omega (arith, is, low); within = omega (arith, is, high) }

-- nothing is dropped before a window has passed
pub recent_later : (window upto next least : ℕ) (writers : WritersState) → least ≡ upto - window → upto ≤ next → next ≤ upto + 1 → least - writers.dropped < window →
    KeepsRecent window upto writers → KeepsRecent window next writers
recent_later window upto next least writers is low high soon was =
    let passed = was.passed in
    record { ranges = was.ranges; points = was.points; passed = omega (arith, passed, low); within = omega (arith, is, high, soon, passed) }

-- one more request, which waits
from_push : (dropped place : ℕ) (writes : KeptWrites) → dropped ≤ place → KeepsFrom dropped writes → KeepsFrom dropped (with_waiting place writes)
from_push dropped place writes from was = record {
  held = was.held;
  waiting = λ at has. elim (had_push writes.pending place at has) [ inl before ↦ was.waiting at before | inr now ↦ omega (arith, now, from) ];
}

pub recent_push : (window place next : ℕ) (writers : WritersState) → writers.dropped ≤ place → KeepsRecent window next writers → KeepsRecent window next (waits_too place writers)
recent_push window place next writers from was = record {
  ranges = from_push writers.dropped place writers.ranges from was.ranges;
  points = from_push writers.dropped place writers.points from was.points;
  passed = was.passed;
  within = was.within;
}

-- where nothing is kept all of it is recent
pub nothing_old : (window : ℕ) → KeepsRecent window 0 no_writers
nothing_old window = record {
  ranges = record { held = λ key place h. absurd (nothing_is h.stands); waiting = λ place has. absurd (false≢true has) };
  points = record { held = λ key place h. absurd (nothing_is h.stands); waiting = λ place has. absurd (false≢true has) };
  passed = omega arith;
  within = omega arith;
}
