-- What a resolver keeps, after what waits is put in order or noted, and after what is old is dropped.
use Rattle.std.proofs.Common.{◌≡◌, ℕ, ◌+◌, ◌-◌, ◌<◌, ◌≤◌, true, false, max, nat_le, is_none, Option, Some, List, [], ◌∷◌, ◌++◌, length, get_or, inl, inr, refl, sym, ap, subst, ◌∙◌, arith}
use Rattle.std.proofs.Math.Logic.{∥∥₁_map}
use Rattle.std.proofs.lemmas.Bool.{cases_order, false≢true, le-leb}
use Rattle.std.proofs.lemmas.Option.{get_or_from_slice_get, slice_get_within}
use Rattle.std.specs.List.{filter, slice_get}
use Rattle.std.specs.Option.{option_map_or}
use Rattle.kv_core.specs.Range.{KeyRange}
use Rattle.kv_core.specs.declared.change.CommitRequest.{CommitRequest}
use Rattle.cluster_core.specs.History.{Entry}
use Rattle.cluster_core.specs.Decision.{Cause, Owned, agrees, cut, newer_agreed, numbered, owns}
use Rattle.cluster_core.specs.Kept.{FindsNewest, KeptWrites, KnowsKeys, KnowsWrites, KnowsWriters, PutsEach, ReadsWithin, WritersState, agreed_at, has_place, least_of, no_writers, no_writes, rise_between, StandsAsBefore, waits_too, with_waiting, writes_key}
use Rattle.cluster_core.specs.Progress.{answer_of}
use Rattle.cluster_core.specs.Segments.{IsCovered, IsNewestOver, SegmentHolds}
use Rattle.cluster_core.proofs.Asked.{least_is_at}
use Rattle.cluster_core.proofs.Bridge.{entry_here, version_at}
use Rattle.cluster_core.proofs.Causes.{agrees-none}
use Rattle.cluster_core.proofs.Rising.{all_filter, all_has, all_push, has_filter, has_more, has_push, rise_all, rise_filter, rise_has, rise_le, rise_push, rise_weaker}
use Rattle.cluster_core.proofs.InOrder.{Key, Run, nothing_is}

module _ (owner : Owned) (start : ℕ) (requests : List CommitRequest) (least upto ordered : ℕ) (pending : List ℕ) (old new : Run)
    (was : KnowsWrites owner start requests least upto (record { segments = old; ordered = ordered; pending = pending })) where
  -- what is put in order is sound, and what was in order is still covered
  put_keys : PutsEach requests pending old new → KnowsKeys owner start requests least ordered upto new
  put_keys puts = record {
    sound = λ key place h. elim (puts.holds key place h) [
      | inl before ↦ was.keys.sound key place before
      | inr wrote ↦ ((rise_has ordered upto pending place was.in_order wrote.0).1, all_has (agreed_at owner start requests) pending place was.agreed wrote.0, wrote.1)
    ];
    settled = λ key place from before agreed own wrote.
        ∥∥₁_map (was.keys.settled key place from before agreed own wrote) (λ h. puts.kept key place (rise_all place ordered upto pending (omega (arith, before)) was.in_order) h);
  }

  -- some of it was put in order, and all of it still waits
  pub put_some : PutsEach requests pending old new → KnowsWrites owner start requests least upto (record { segments = new; ordered = ordered; pending = pending })
  put_some puts = record { keys = put_keys puts; in_order = was.in_order; agreed = was.agreed; waiting = was.waiting }

  -- all of it was put in order
  pub put_whole : PutsEach requests pending old new →
      ((key : Key) (place : ℕ) → least ≤ place → has_place pending place ≡ true → owns owner key ≡ true → writes_key requests place key ≡ true → IsCovered new key place) →
      KnowsKeys owner start requests least upto upto new
  put_whole puts covered =
      let keys = put_keys puts in
      record {
        sound = keys.sound;
        settled = λ key place from before agreed own wrote. elim (cases_order place ordered) [
          | inl same ↦ ∣ covered key place from (was.waiting place from (omega (arith, same)) before agreed) own wrote ∣₁
          | inr (inl earlier) ↦ keys.settled key place from earlier agreed own wrote
          | inr (inr later) ↦ ∣ covered key place from (was.waiting place from (omega (arith, later)) before agreed) own wrote ∣₁
        ];
      }

  -- what is old was dropped
  pub forgotten : (low : ℕ) → low ≤ least → ((key : Key) (place : ℕ) → SegmentHolds new key place → SegmentHolds old key place) →
      ((key : Key) (place : ℕ) → low ≤ place → IsCovered old key place → IsCovered new key place) →
      KnowsWrites owner start requests least upto (record { segments = new; ordered = ordered; pending = filter (nat_le low) pending })
  forgotten low le holds kept = record {
    keys = record {
      sound = λ key place h. was.keys.sound key place (holds key place h);
      settled = λ key place from before agrees own wrote.
          ∥∥₁_map (was.keys.settled key place from before agrees own wrote) (λ h. kept key place (omega (arith, le, from)) h);
    };
    in_order = rise_filter (nat_le low) ordered upto pending was.in_order;
    agreed = all_filter (agreed_at owner start requests) (nat_le low) pending was.agreed;
    waiting = λ place from past before agrees.
        has_filter (nat_le low) pending place (le-leb low place (omega (arith, le, from))) (was.waiting place from past before agrees);
  }

-- once all is put in order nothing waits
pub all_ordered : (owner : Owned) (start : ℕ) (requests : List CommitRequest) (least upto : ℕ) (segments : Run) → KnowsKeys owner start requests least upto upto segments →
    KnowsWrites owner start requests least upto (record { segments = segments; ordered = upto; pending = [] })
all_ordered owner start requests least upto segments keys = record {
  keys = keys;
  in_order = le-leb upto upto (omega arith);
  agreed = refl;
  waiting = λ place from past before agreed. absurd (omega (arith, past, before));
}

-- what is asked for from a later place on is known too
pub writes_later : (owner : Owned) (start : ℕ) (requests : List CommitRequest) (least low upto : ℕ) (writes : KeptWrites) → least ≤ low →
    KnowsWrites owner start requests least upto writes → KnowsWrites owner start requests low upto writes
writes_later owner start requests least low upto writes le was = record {
  keys = record { sound = was.keys.sound; settled = λ key place from before agreed own wrote. was.keys.settled key place (omega (arith, le, from)) before agreed own wrote };
  in_order = was.in_order;
  agreed = was.agreed;
  waiting = λ place from past before agreed. was.waiting place (omega (arith, le, from)) past before agreed;
}

pub known_later : (owner : Owned) (start : ℕ) (requests : List CommitRequest) (least low upto : ℕ) (writers : WritersState) → least ≤ low →
    KnowsWriters owner start requests least upto writers → KnowsWriters owner start requests low upto writers
known_later owner start requests least low upto writers le was = record {
  ranges = writes_later owner start requests least low upto writers.ranges le was.ranges;
  points = writes_later owner start requests (max least writers.whole_from) (max low writers.whole_from) upto writers.points (omega (arith, le)) was.points;
}

module _ (owner : Owned) (start : ℕ) (requests : List CommitRequest) (least place : ℕ) (writes : KeptWrites) (was : KnowsWrites owner start requests least place writes) where
  more_sound : KnowsKeys owner start requests least writes.ordered (place + 1) writes.segments
  more_sound = record {
    sound = λ key at h. let s = was.keys.sound key at h in let before = s.0 in (omega (arith, before), s.1, s.2);
    settled = was.keys.settled;
  }

  -- one more request, to which the owner agreed, and which waits
  writes_agreed : agreed_at owner start requests place ≡ true → KnowsWrites owner start requests least (place + 1) (with_waiting place writes)
  writes_agreed agreed = record {
    keys = more_sound;
    in_order = rise_push writes.ordered place writes.pending was.in_order;
    agreed = all_push (agreed_at owner start requests) writes.pending place was.agreed agreed;
    waiting = λ at from past before agrees. elim (cases_order at place) [
      | inl same ↦ subst (λ p. has_place (writes.pending ++ place ∷ []) p ≡ true) (sym same) (has_push writes.pending place)
      | inr (inl earlier) ↦ has_more writes.pending place at (was.waiting at from past earlier agrees)
      | inr (inr later) ↦ absurd (omega (arith, later, before))
    ];
  }

  -- or to which it didn't
  writes_refused : agreed_at owner start requests place ≡ false → KnowsWrites owner start requests least (place + 1) writes
  writes_refused refused = record {
    keys = more_sound;
    in_order = rise_weaker writes.ordered writes.ordered place (place + 1) writes.pending (omega arith) (omega arith) was.in_order;
    agreed = was.agreed;
    waiting = λ at from past before agrees. elim (cases_order at place) [
      | inl same ↦ absurd (false≢true (sym refused ∙ subst (λ p. agreed_at owner start requests p ≡ true) same agrees))
      | inr (inl earlier) ↦ was.waiting at from past earlier agrees
      | inr (inr later) ↦ absurd (omega (arith, later, before))
    ];
  }

module _ (owner : Owned) (start : ℕ) (requests : List CommitRequest) (least place : ℕ) (writers : WritersState) (was : KnowsWriters owner start requests least place writers) where
  pub known_agreed : agreed_at owner start requests place ≡ true → KnowsWriters owner start requests least (place + 1) (waits_too place writers)
  known_agreed agreed = record {
    ranges = writes_agreed owner start requests least place writers.ranges was.ranges agreed;
    points = writes_agreed owner start requests (max least writers.whole_from) place writers.points was.points agreed;
  }

  pub known_refused : agreed_at owner start requests place ≡ false → KnowsWriters owner start requests least (place + 1) writers
  known_refused refused = record {
    ranges = writes_refused owner start requests least place writers.ranges was.ranges refused;
    points = writes_refused owner start requests (max least writers.whole_from) place writers.points was.points refused;
  }

-- what is put in order up to a place is known up to there
pub keys_upto : (owner : Owned) (start : ℕ) (requests : List CommitRequest) (least upto : ℕ) (writes : KeptWrites) → writes.ordered ≡ upto →
    KnowsWrites owner start requests least upto writes → KnowsKeys owner start requests least upto upto writes.segments
keys_upto owner start requests least upto writes is was = subst (λ n. KnowsKeys owner start requests least n upto writes.segments) is was.keys

-- what stands as before does so after one change more
pub stands_on : (owner : Owned) (requests : List CommitRequest) (floor upto : ℕ) (old now next : WritersState) → StandsAsBefore owner requests floor upto old now →
    StandsAsBefore owner requests floor upto now next → StandsAsBefore owner requests floor upto old next
stands_on owner requests floor upto old now next one two = record {
  knows = λ start from low was. two.knows start from low (one.knows start from low was);
  recent = λ window at was. two.recent window at (one.recent window at was);
}

-- nothing that waits stands in the way of a request that read at or above it all
pub nobody_waits : (owner : Owned) (start : ℕ) (requests : List CommitRequest) (least upto : ℕ) (writes : KeptWrites) → KnowsWrites owner start requests least upto writes →
    rise_between writes.ordered least writes.pending ≡ true → (n : ℕ) → least ≤ n → n < upto → agreed_at owner start requests n ≡ true → ⊥
nobody_waits owner start requests least upto writes was rises n from before agreed =
    let low = rise_le writes.ordered least writes.pending rises in
    let inside = (rise_has writes.ordered least writes.pending n rises (was.waiting n from (omega (arith, low, from)) before agreed)).1 in
    omega (arith, inside, from)

-- a request reads within the window, so what it asks for lies there
pub asks_within : (window start : ℕ) (requests : List CommitRequest) (place : ℕ) → ReadsWithin window (numbered start requests) → place < length requests →
    place - window ≤ least_of start requests place
asks_within window start requests place recent inside =
    let here = entry_here start requests place inside in
    let e = here.0 in
    let version = version_at start requests place e here.1 in
    let same : get_or (numbered start requests) place e ≡ e = get_or_from_slice_get (numbered start requests) place e e here.1 in
    let own : e.version ≤ e.request.read_version + window + 1 =
    subst (λ x. x.version ≤ x.request.read_version + window + 1) same (recent place e (slice_get_within (numbered start requests) place e here.1)) in
    let least = least_is_at start requests place e here.1 in
    omega (arith, version, own, least)

-- the owner agrees to the request at a place where there is no cause
pub agreed_from : (owner : Owned) (start : ℕ) (requests : List CommitRequest) (place : ℕ) (cause : Option Cause) → place < length requests →
    ((entry : Entry) → slice_get (numbered start requests) place ≡ Some entry → cause ≡ answer_of owner (numbered start requests) entry) →
    agreed_at owner start requests place ≡ is_none cause
agreed_from owner start requests place cause inside told =
    let here = entry_here start requests place inside in
    let e = here.0 in
    ap (λ o. option_map_or (agrees owner (numbered start requests)) o false) here.1
    ∙ agrees-none owner (newer_agreed owner (numbered start requests) e) e.request.reads
    ∙ ap is_none (sym (told e here.1))

-- a resolver that has answered for nothing has nothing to know
nothing_written : (owner : Owned) (start least : ℕ) → KnowsWrites owner start [] least 0 no_writes
nothing_written owner start least = record {
  keys = record { sound = λ key place h. absurd (nothing_is h.stands); settled = λ key place from before agreed own wrote. absurd (omega (arith, before)) };
  in_order = le-leb 0 0 (omega arith);
  agreed = refl;
  waiting = λ place from past before agreed. absurd (omega (arith, before));
}

pub nothing_known : (owner : Owned) (start least : ℕ) → KnowsWriters owner start [] least 0 no_writers
nothing_known owner start least = record { ranges = nothing_written owner start least; points = nothing_written owner start (max least 0) }

-- the newest place over a range, by hash and in order
pub finds_point : (owner : Owned) (start : ℕ) (requests : List CommitRequest) (least upto : ℕ) (writers : WritersState) (range : KeyRange) (newest : Option ℕ) →
    writers.whole_from ≤ least → writers.points.ordered ≡ upto → IsNewestOver writers.points.segments (cut owner range) newest →
    KnowsWriters owner start requests least upto writers → FindsNewest owner start requests least upto range newest
finds_point owner start requests least upto writers range newest whole is over was =
    let same : max least writers.whole_from ≡ least = omega (arith, whole) in
    record {
      segments = writers.points.segments;
      knows = subst (λ n. KnowsKeys owner start requests n upto upto writers.points.segments) same (keys_upto owner start requests (max least writers.whole_from) upto writers.points is was.points);
      over = over;
    }

pub finds_segment : (owner : Owned) (start : ℕ) (requests : List CommitRequest) (least upto : ℕ) (writers : WritersState) (range : KeyRange) (newest : Option ℕ) →
    writers.ranges.ordered ≡ upto → IsNewestOver writers.ranges.segments (cut owner range) newest → KnowsWriters owner start requests least upto writers →
    FindsNewest owner start requests least upto range newest
finds_segment owner start requests least upto writers range newest is over was =
    record { segments = writers.ranges.segments; knows = keys_upto owner start requests least upto writers.ranges is was.ranges; over = over }
