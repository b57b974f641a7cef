-- Streams whose records are given as packs.
use Rattle.std.specs.Prelude.{◌≡◌, ℕ, ◌<◌, Bool, true, false, List, [], ◌∷◌, ◌++◌, map, Option, Some, None, refl}
use Rattle.std.specs.Option.{is_some}
use Rattle.std.specs.FinMap.{entries}
use Rattle.std.proofs.Common.{ap, sym, ◌∙◌, true≢false}
use Rattle.std.proofs.lemmas.List.{map-append}
use Rattle.kv_core.specs.Map.{Map}
use Rattle.kv_core.specs.Range.{KeyRange}
use Rattle.kv_core.specs.declared.change.CommitRequest.{CommitRequest}
use Rattle.kv_core.specs.declared.snapshot.ReadError.{ReadError}
use Rattle.metadata.specs.declared.cells.Cell.{Cell}
use Rattle.metadata.specs.Layout.{Pair}
use Rattle.metadata.specs.Record.{Record}
use Rattle.txn.proofs.Running.{ran_because}
use Rattle.plan_exec.specs.Course.{Course, finds}
use Rattle.plan_exec.specs.Errors.{exec_memory}
use Rattle.plan_exec.specs.Packing.{HasPacked, rows_with}
use Rattle.plan_exec.specs.Streams.{HasGiven, HasNotGiven}
use Rattle.plan_exec.proofs.Streaming.{count_left, each_given, each_of, given_fewer}
use Rattle.plan_exec.proofs.Taken.{HasTaken, taken_more, taken_none}

-- where memory runs out for what a stream gave, it has stopped before that
pub given_memory : {maps : ℕ → Map} {refuses : KeyRange → ℕ → ReadError → Type 0} {old new : CommitRequest} {A : Type 0} {before after : List Pair → Course A} (a : A) →
    HasGiven maps before (Some a) after old new → HasNotGiven maps refuses before exec_memory old new
given_memory {after = after} a one = record {
  added = one.added;
  ran = ran_because one.ran (λ m (done, is, so). (done, finds a ∷ after (entries m), is, so, tt));
}

-- what was given makes a course that packed something, and nothing more
module _ {maps : ℕ → Map} {A : Type 0} (f : List Pair → A → Course Record) {old mid new : CommitRequest} {before after : List Pair → Course A} (a : A) (one : HasGiven maps before (Some a) after old mid)
    {kept given : List (List Cell)} where
  pub packed_after : HasPacked maps (λ pairs. f pairs a) kept true given (λ pairs. []) mid new → HasPacked maps (each_of f before) kept true given (each_of f after) old new
  packed_after told = by told.found told.gave told.tells told.rows
    where
      by : (found : Option Record) → HasGiven maps (λ pairs. f pairs a) found (λ pairs. []) mid new → true ≡ is_some found → given ≡ rows_with kept found →
          HasPacked maps (each_of f before) kept true given (each_of f after) old new
      by None gave tells rows = absurd (true≢false tells)
      by (Some row) gave tells rows = record { found = Some row; gave = each_given f a one row gave; tells = refl; rows = rows }

-- rows have the cells of what a stream gave so far
pub record ArePacked (maps : ℕ → Map) (whole : List Pair → Course Record) (kept : List (List Cell)) (after : List Pair → Course Record) (old new : CommitRequest) : Type 0 where
  pub made : List Record
  pub rows : kept ≡ map (λ r. r.cells) made
  pub taken : HasTaken maps whole made after old new

pub none_packed : {maps : ℕ → Map} {old : CommitRequest} (whole : List Pair → Course Record) (rows : List (List Cell)) → rows ≡ [] → ArePacked maps whole rows whole old old
none_packed whole rows none = record { made = []; rows = none; taken = taken_none whole }

module _ {maps : ℕ → Map} {between after : List Pair → Course Record} {mid new : CommitRequest} {kept given : List (List Cell)} {more : Bool} (one : HasPacked maps between kept more given after mid new) where
  -- it gave one more
  pub packed_more : {whole : List Pair → Course Record} {old : CommitRequest} → more ≡ true → ArePacked maps whole kept between old mid → ArePacked maps whole given after old new
  packed_more {whole} {old} is so_far = by one.found one.gave one.tells one.rows
    where
      by : (found : Option Record) → HasGiven maps between found after mid new → more ≡ is_some found → given ≡ rows_with kept found → ArePacked maps whole given after old new
      by None gave tells rows = absurd (true≢false (sym is ∙ tells))
      by (Some row) gave tells rows = record {
        made = so_far.made ++ row ∷ [];
        rows = rows ∙ ap (λ l. l ++ row.cells ∷ []) so_far.rows ∙ sym (map-append (λ r. r.cells) so_far.made (row ∷ []));
        taken = taken_more so_far.made row so_far.taken gave;
      }

  -- and has fewer left
  pub packed_fewer : more ≡ true → count_left maps after new < count_left maps between mid
  packed_fewer is = by one.found one.gave one.tells
    where
      by : (found : Option Record) → HasGiven maps between found after mid new → more ≡ is_some found → count_left maps after new < count_left maps between mid
      by None gave tells = absurd (true≢false (sym is ∙ tells))
      by (Some row) gave tells = given_fewer row gave

  -- it has ended
  pub packed_end : more ≡ false → HasGiven maps between None after mid new × (given ≡ kept)
  packed_end is = by one.found one.gave one.tells one.rows
    where
      by : (found : Option Record) → HasGiven maps between found after mid new → more ≡ is_some found → given ≡ rows_with kept found → HasGiven maps between None after mid new × (given ≡ kept)
      by None gave tells rows = (gave, rows)
      by (Some row) gave tells rows = absurd (true≢false (sym tells ∙ is))
