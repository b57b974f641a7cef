-- Writes that are noted as points one after another.
use Rattle.std.proofs.Common.{◌≡◌, ℕ, ◌+◌, ◌<◌, ◌≤◌, true, List, [], length, get_or, max, arith}
use Rattle.kv_core.specs.Change.{write_range, write_ranges}
use Rattle.kv_core.specs.Range.{contains, covers}
use Rattle.kv_core.specs.declared.change.CommitRequest.{CommitRequest}
use Rattle.kv_core.specs.declared.change.Mutation.{Mutation}
use Rattle.cluster_core.specs.Decision.{Owned, owns}
use Rattle.cluster_core.specs.Kept.{KnowsKeys, KnowsWrites, PutsEach, has_place, rise_between, writes_key}
use Rattle.cluster_core.specs.Points.{PointsState}
use Rattle.cluster_core.specs.Segments.{IsCovered, Overlays}
use Rattle.cluster_core.proofs.InOrder.{Key}
use Rattle.cluster_core.proofs.Putting.{EachSo, PutSo, each_more, each_over, each_skipped, put_more, put_over}
use Rattle.cluster_core.proofs.Waiting.{all_ordered, put_some, put_whole, writes_later}

-- the mutations so far are noted under a place; all of them where points are whole from there on
pub record NotedSo (owner : Owned) (mutations : List Mutation) (place i : ℕ) (old now : PointsState) : Type 0 where
  pub overlays : Overlays (covers (write_ranges mutations)) place old.segments now.segments
  pub so : now.whole_from ≤ place → PutSo owner mutations place i old.segments now.segments
  pub whole : old.whole_from ≤ now.whole_from

pub noted_more : (owner : Owned) (mutations : List Mutation) (place i : ℕ) (old now next : PointsState) (m : Mutation) → i < length mutations → m ≡ get_or mutations i m →
    Overlays (contains (write_range m)) place now.segments next.segments →
    (next.whole_from ≤ place → (key : Key) → owns owner key ≡ true → contains (write_range m) key ≡ true → IsCovered next.segments key place) →
    now.whole_from ≤ next.whole_from → NotedSo owner mutations place i old now → NotedSo owner mutations place (i + 1) old next
noted_more owner mutations place i old now next m inside is overlays covered grown noted =
    let before = noted.whole in
    record {
      overlays = put_over mutations place i old.segments now.segments next.segments m inside is overlays noted.overlays;
      so = λ low. put_more owner mutations place i old.segments now.segments next.segments m inside is overlays (covered low) (noted.so (omega (arith, low, grown)));
      whole = omega (arith, before, grown);
    }

-- the requests at the places so far are noted under their places, but for those before the least one
pub record EachNoted (owner : Owned) (requests : List CommitRequest) (least : ℕ) (places : List ℕ) (i : ℕ) (old now : PointsState) : Type 0 where
  pub puts : PutsEach requests places old.segments now.segments
  pub so : (from : ℕ) → least ≤ from → now.whole_from ≤ from → EachSo owner requests from places i old.segments now.segments
  pub whole : old.whole_from ≤ now.whole_from

pub noted_skipped : (owner : Owned) (requests : List CommitRequest) (least : ℕ) (places : List ℕ) (i place : ℕ) (old now : PointsState) → i < length places → place ≡ get_or places i 0 →
    place < least → EachNoted owner requests least places i old now → EachNoted owner requests least places (i + 1) old now
noted_skipped owner requests least places i place old now inside here early noted = record {
  puts = noted.puts;
  so = λ from low whole. each_skipped owner requests from places i place old.segments now.segments inside here (omega (arith, early, low)) (noted.so from low whole);
  whole = noted.whole;
}

pub noted_each : (owner : Owned) (requests : List CommitRequest) (least : ℕ) (places : List ℕ) (i place : ℕ) (old now next : PointsState) →
    rise_between 0 (length requests) places ≡ true → i < length places → place ≡ get_or places i 0 → Overlays (writes_key requests place) place now.segments next.segments →
    (next.whole_from ≤ place → (key : Key) → owns owner key ≡ true → writes_key requests place key ≡ true → IsCovered next.segments key place) →
    now.whole_from ≤ next.whole_from → EachNoted owner requests least places i old now → EachNoted owner requests least places (i + 1) old next
noted_each owner requests least places i place old now next rising inside here overlays covered grown noted =
    let before = noted.whole in
    record {
      puts = each_over requests places i place old.segments now.segments next.segments inside here overlays noted.puts;
      so = λ from low whole.
          each_more owner requests from places i place old.segments now.segments next.segments rising inside here overlays
          (λ le. covered (omega (arith, whole, le))) (noted.so from low (omega (arith, whole, grown)));
      whole = omega (arith, before, grown);
    }

-- what waits was noted
module _ (owner : Owned) (start : ℕ) (requests : List CommitRequest) (from upto ordered : ℕ) (pending : List ℕ) (old new : PointsState)
    (was : KnowsWrites owner start requests (max from old.whole_from) upto (record { segments = old.segments; ordered = ordered; pending = pending }))
    (puts : PutsEach requests pending old.segments new.segments) (grown : old.whole_from ≤ new.whole_from) where
  -- some of it
  pub note_some : KnowsWrites owner start requests (max from new.whole_from) upto (record { segments = new.segments; ordered = ordered; pending = pending })
  note_some =
      put_some owner start requests (max from new.whole_from) upto ordered pending old.segments new.segments
      (writes_later owner start requests (max from old.whole_from) (max from new.whole_from) upto _ (omega (arith, grown)) was) puts

  module _ (covered : (key : Key) (place : ℕ) → from ≤ place → new.whole_from ≤ place → has_place pending place ≡ true → owns owner key ≡ true → writes_key requests place key ≡ true →
      IsCovered new.segments key place) where
    -- or all
    note_keys : KnowsKeys owner start requests (max from new.whole_from) upto upto new.segments
    note_keys =
        put_whole owner start requests (max from new.whole_from) upto ordered pending old.segments new.segments
        (writes_later owner start requests (max from old.whole_from) (max from new.whole_from) upto _ (omega (arith, grown)) was) puts
        (λ key place le has own wrote. covered key place (omega (arith, le)) (omega (arith, le)) has own wrote)

    pub note_whole : KnowsWrites owner start requests (max from new.whole_from) upto (record { segments = new.segments; ordered = upto; pending = [] })
    note_whole = all_ordered owner start requests (max from new.whole_from) upto new.segments note_keys
