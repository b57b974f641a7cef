-- A range whose pairs are given one by one, and which is read in batches.
use Rattle.std.specs.Prelude.{◌≡◌, ℕ, suc, ◌+◌, ◌<◌, ◌≤◌, Bool, true, false, cond, nat_lt, List, [], ◌∷◌, ◌++◌, length, map, take, drop, slice_get, Option, Some, None, IfSome, refl}
use Rattle.std.specs.FinMap.{entries}
use Rattle.std.specs.Vec.{vec_len}
use Rattle.std.proofs.Common.{ap, get_or, arith, sym, ◌∙◌, subst, inl, inr}
use Rattle.std.proofs.Math.Seq.{drop-cons}
use Rattle.std.proofs.lemmas.List.{drop_all}
use Rattle.std.proofs.lemmas.Option.{get_or_from_slice_get, slice_get-get_or, slice_get_read, slice_get_within}
use Rattle.kv_core.specs.Map.{Map, pairs_in}
use Rattle.kv_core.specs.Range.{KeyRange, contains}
use Rattle.kv_core.specs.Read.{range_read}
use Rattle.kv_core.specs.declared.change.CommitRequest.{CommitRequest}
use Rattle.kv_core.proofs.Pairs.{directed, entries-kept}
use Rattle.kv_core.specs.declared.snapshot.ReadError.{ReadError}
use Rattle.txn.specs.Cursor.{HasBatch, IsNoBatch, behind_last, pairs_left, rest_behind}
use Rattle.txn.specs.Reads.{seen}
use Rattle.txn.specs.declared.cursor.RangeCursor.{RangeCursor}
use Rattle.txn.specs.declared.cursor.TheConstants.{BATCH}
use Rattle.txn.proofs.Running.{ran_because, ran_still}
use Rattle.metadata.specs.Layout.{Pair}
use Rattle.plan_exec.specs.Course.{batches_course, finds, reads}
use Rattle.plan_exec.specs.Errors.{exec_read}
use Rattle.plan_exec.specs.Reads.{batches, pairs_within}
use Rattle.plan_exec.specs.Streams.{HasGiven, HasNotGiven, HasOnlyRead, left_course, pair_at, pair_course}
use Rattle.plan_exec.specs.declared.streams.PairStream.{PairStream}
use Rattle.plan_exec.proofs.InBatches.{IsFirstOf, batch_ran, batch_read, batches_behind, fewer_left, first_batch, left_count}
use Rattle.plan_exec.proofs.Streaming.{AsksFirst, gone_not, gone_still, gone_then, not_memory, not_read, ran_here, same_seen}

-- the pairs of a range, in one direction
within : (m : Map) (reversed : Bool) (range : KeyRange) → directed reversed (pairs_in m range) ≡ pairs_within range reversed (entries m)
within m reversed range = ap (directed reversed) (entries-kept m (contains range))

rest_course : (m : Map) (reversed : Bool) (range : KeyRange) (xs : List Pair) (few : Bool) → pairs_left m (record { rest = cond few None (Some range); reverse = reversed }) ≡ drop BATCH xs →
    batches_course reversed range (batches_behind few xs) ≡ left_course (record { rest = cond few None (Some range); reverse = reversed }) (entries m)
rest_course m reversed range xs true left = refl
rest_course m reversed range xs false left = ap (λ ps. batches_course reversed range (batches ps)) (sym left ∙ within m reversed range)

module _ (m : Map) (reversed : Bool) (range : KeyRange) where
  whole_course : left_course (record { rest = Some range; reverse = reversed }) (entries m) ≡ batches_course reversed range (batches (directed reversed (pairs_in m range)))
  whole_course = ap (λ ps. batches_course reversed range (batches ps)) (sym (within m reversed range))

  -- NEXT: the first batch is read, its pairs are found, and then what is left behind it
  next_course : (batch : List Pair) → IsFirstOf reversed range batch m →
      left_course (record { rest = Some range; reverse = reversed }) (entries m) ≡ reads (batch_read range reversed batch) ∷ map (λ pair. finds pair) batch ++ left_course (record { rest = rest_behind range BATCH reversed batch; reverse = reversed }) (entries m)
  next_course batch (is, left) =
      whole_course
      ∙ ap (batches_course reversed range) (first_batch (directed reversed (pairs_in m range)))
      ∙ ap (λ b. batches_course reversed range (b ∷ batches_behind (nat_lt (length b) BATCH) (directed reversed (pairs_in m range)))) (sym is)
      ∙ ap (λ rest. reads (batch_read range reversed batch) ∷ map (λ pair. finds pair) batch ++ rest)
      (rest_course m reversed (behind_last range reversed batch) (directed reversed (pairs_in m range)) (nat_lt (length batch) BATCH) left)

  -- what is left of the range is asked for first
  asks_left : AsksFirst range (left_course (record { rest = Some range; reverse = reversed }) (entries m))
  asks_left = (
    batch_read range reversed (take BATCH (directed reversed (pairs_in m range))),
    _,
    whole_course ∙ ap (batches_course reversed range) (first_batch (directed reversed (pairs_in m range))),
    refl,
  )

module _ {maps : ℕ → Map} {mid read : CommitRequest} {cursor next : RangeCursor} {batch : List Pair} (one : HasBatch maps cursor batch next mid read) where
  -- GONE: a batch was read
  pub batch_gone : HasOnlyRead maps (left_course cursor) (λ pairs. map (λ pair. finds pair) batch ++ left_course next pairs) mid read
  batch_gone = record {
    added = range_read one.range BATCH cursor.reverse batch ∷ [];
    ran = ran_because (batch_ran one) (λ m first. (
      batch_read one.range cursor.reverse batch ∷ [],
      refl,
      ap (λ o. left_course (record { rest = o; reverse = cursor.reverse }) (entries m)) one.was
          ∙ next_course m cursor.reverse one.range batch first
          ∙ ap (λ (c : RangeCursor). reads (batch_read one.range cursor.reverse batch) ∷ map (λ pair. finds pair) batch ++ left_course c (entries m)) (sym one.is),
    ));
  }

  -- FEWER pairs are left then
  pub batch_fewer : left_count (seen read (maps read.read_version)) next < left_count (seen mid (maps mid.read_version)) cursor
  batch_fewer =
      let facts = ran_here (batch_ran one) in
      subst (λ (m : Map). left_count m next < left_count (seen mid (maps mid.read_version)) cursor) (sym (same_seen (batch_ran one)))
      (subst (λ (c : RangeCursor). left_count (seen mid (maps mid.read_version)) c < left_count (seen mid (maps mid.read_version)) cursor) (sym one.is)
      (subst (λ o. left_count (seen mid (maps mid.read_version)) (record { rest = rest_behind one.range BATCH cursor.reverse batch; reverse = cursor.reverse }) < left_count (seen mid (maps mid.read_version)) (record { rest = o; reverse = cursor.reverse })) (sym one.was)
      (fewer_left (seen mid (maps mid.read_version)) cursor.reverse one.range batch facts.0 facts.1)))

-- NOT GIVEN: the next batch wasn't read
pub batch_not : {maps : ℕ → Map} {refuses : KeyRange → ℕ → ReadError → Type 0} {mid new : CommitRequest} (cursor : RangeCursor) (error : ReadError) → new ≡ mid → IsNoBatch refuses cursor mid.read_version error →
    HasNotGiven maps refuses (left_course cursor) (exec_read error) mid new
batch_not {maps = maps} {refuses = refuses} {mid = mid} {new = new} cursor error same (range, was, inl memory) = subst (λ e. HasNotGiven maps refuses (left_course cursor) (exec_read e) mid new) (sym memory) (not_memory (left_course cursor) same)
batch_not {maps = maps} {refuses = refuses} {mid = mid} {new = new} cursor error same (range, was, inr met) =
    not_read (left_course cursor) range error
    (λ m. subst (λ o. AsksFirst range (left_course (record { rest = o; reverse = cursor.reverse }) (entries m))) (sym was) (asks_left m cursor.reverse range)) same (inr met)

-- all of a batch was given, by its length
pub used_up : (stream : PairStream) (n : ℕ) → n ≡ vec_len stream.batch → n ≤ stream.place → length stream.batch.items ≤ stream.place
used_up stream n is used = subst (λ k. k ≤ stream.place) (is ∙ stream.batch.ok.0) used

module _ (stream : PairStream) (used : length stream.batch.items ≤ stream.place) where
  -- where all of a batch was given, only what the cursor has is left
  stream_left : (pairs : List Pair) → pair_course stream pairs ≡ left_course stream.cursor pairs
  stream_left pairs = ap (λ batch. map (λ pair. finds pair) batch ++ left_course stream.cursor pairs) (drop_all stream.place stream.batch.items used)

  -- GONE: a batch was read for the stream
  pub stream_gone : {maps : ℕ → Map} {mid read : CommitRequest} (next : PairStream) (batch : List Pair) → HasBatch maps stream.cursor batch next.cursor mid read → drop next.place next.batch.items ≡ batch → HasOnlyRead maps (pair_course stream) (pair_course next) mid read
  stream_gone {maps = maps} {mid = mid} {read = read} next batch one is =
      gone_then (gone_still (pair_course stream) (left_course stream.cursor) (λ m. stream_left (entries m)) refl)
      (subst (λ items. HasOnlyRead maps (left_course stream.cursor) (λ pairs. map (λ pair. finds pair) items ++ left_course next.cursor pairs) mid read) (sym is) (batch_gone one))

  -- NOT GIVEN: it wasn't
  pub stream_not : {maps : ℕ → Map} {refuses : KeyRange → ℕ → ReadError → Type 0} {mid new : CommitRequest} (error : ReadError) → new ≡ mid → IsNoBatch refuses stream.cursor mid.read_version error →
      HasNotGiven maps refuses (pair_course stream) (exec_read error) mid new
  stream_not error same says = gone_not (gone_still (pair_course stream) (left_course stream.cursor) (λ m. stream_left (entries m)) refl) (batch_not stream.cursor error same says)

  -- NONE is left: the cursor has come to its end
  pub stream_ended : {maps : ℕ → Map} {old : CommitRequest} → stream.cursor.rest ≡ None → HasGiven maps (pair_course stream) None (pair_course stream) old old
  stream_ended none = record {
    added = [];
    ran = ran_still refl (λ m.
        let ended : pair_course stream (entries m) ≡ [] = stream_left (entries m) ∙ ap (λ o. left_course (record { rest = o; reverse = stream.cursor.reverse }) (entries m)) none in
        ([], refl, (ended, ended)));
  }

-- the pair at a place stands in front of what is behind it
drop_there : (xs : List Pair) (i : ℕ) (x : Pair) → slice_get xs i ≡ Some x → drop i xs ≡ x ∷ drop (i + 1) xs
drop_there xs i x there = drop-cons xs i x (slice_get_within xs i x there) ∙ ap (λ y. y ∷ drop (suc i) xs) (get_or_from_slice_get xs i x x there) ∙ (let same : suc i ≡ i + 1 = omega (arith) in ap (λ k. x ∷ drop k xs) same)

-- GIVEN: the pair at the place, which is no longer left then
pub stream_given : {maps : ℕ → Map} {old : CommitRequest} (stream : PairStream) (n : ℕ) → n ≡ vec_len stream.batch → stream.place < n →
    HasGiven maps (pair_course stream) (slice_get stream.batch.items stream.place) (pair_course (record { cursor = stream.cursor; batch = stream.batch; place = stream.place + 1 })) old old
stream_given {maps = maps} {old = old} stream n is within = by (slice_get stream.batch.items stream.place) refl
  where
    next : PairStream
    next = record { cursor = stream.cursor; batch = stream.batch; place = stream.place + 1 }

    inside : stream.place < length stream.batch.items
    inside = subst (λ k. stream.place < k) (is ∙ stream.batch.ok.0) within

    by : (o : Option Pair) → slice_get stream.batch.items stream.place ≡ o → HasGiven maps (pair_course stream) o (pair_course next) old old
    by None none = absurd (let some = slice_get-get_or stream.batch.items stream.place ([], []) inside in cc)
    by (Some pair) there = record {
      added = [];
      ran = ran_still refl (λ m. ([], refl, ap (λ items. map (λ pair. finds pair) items ++ left_course stream.cursor (entries m)) (drop_there stream.batch.items stream.place pair there)));
    }

-- what is read at the place that was told is the pair there
pub pair_there : (stream : PairStream) (given : Option ℕ) (place : ℕ) (pair : Pair) → given ≡ Some place → IfSome given (λ there. there < length stream.batch.items) → pair ≡ get_or stream.batch.items place pair → pair_at stream given ≡ Some pair
pair_there stream given place pair is within read =
    ap (pair_at stream) is ∙ slice_get_read stream.batch.items (length stream.batch.items) place pair refl (subst (λ o. IfSome o (λ there. there < length stream.batch.items)) is within) read
