-- The first ones of the ranges that a call reads, and where a refused read stands.
use Rattle.std.proofs.Common.{◌≡◌, ◌⊎◌, inl, inr, ℕ, List, [], ◌∷◌, ◌++◌, refl, sym, ap, subst, ◌∙◌, append_assoc, append-nil}
use Rattle.std.specs.Prelude.{drop, length}
use Rattle.kv_core.specs.Range.{KeyRange}
use Rattle.kv_core.specs.Map.{Map}
use Rattle.kv_core.specs.declared.change.CommitRequest.{CommitRequest}
use Rattle.kv_core.specs.declared.snapshot.ReadError.{ReadError}
use Rattle.kv_core.specs.declared.snapshot.ReadError.TheVariants as read
use Rattle.txn.proofs.Running.{ran_because, ran_still}
use Rattle.record_store.specs.declared.error.StoreError.{StoreError}
use Rattle.record_store.specs.declared.error.StoreError.TheVariants.{Memory, Read, Write, Corrupt, Refused, NoStore, AlreadyThere, OtherSchema, NotAggregate, NotReadable, WrongState, NotBuilt}
use Rattle.record_store.specs.Call.{IsUnread, Opened, Reading}
use Rattle.record_store.specs.Reading.{HasNotFound, HasNotRead, IsReadError}
use Rattle.record_store.specs.Steps.{DidRead, IsBeginning, IsNextRefused, no_memory, of_read}

-- a list begins with all of itself, and with nothing
pub all_begin : (ranges : List KeyRange) → IsBeginning ranges ranges
all_begin ranges = record { rest = []; is = sym (append-nil ranges) }

pub none_begin : (ranges : List KeyRange) → IsBeginning [] ranges
none_begin ranges = record { rest = ranges; is = refl }

-- the first ones of a list are those of a longer one, and behind others they are first with these
pub begin_more : {added ranges : List KeyRange} (more : List KeyRange) → IsBeginning added ranges → IsBeginning added (ranges ++ more)
begin_more {added = added} more begin = record { rest = begin.rest ++ more; is = ap (λ rs. rs ++ more) begin.is ∙ append_assoc added begin.rest more }

pub begin_behind : {added ranges : List KeyRange} (before : List KeyRange) → IsBeginning added ranges → IsBeginning (before ++ added) (before ++ ranges)
begin_behind {added = added} before begin = record { rest = begin.rest; is = ap (λ rs. before ++ rs) begin.is ∙ sym (append_assoc before added begin.rest) }

-- what is left of a list behind the first ones
drop_more : (added asked more : List KeyRange) (range : KeyRange) (rest : List KeyRange) → drop (length added) asked ≡ range ∷ rest → drop (length added) (asked ++ more) ≡ range ∷ (rest ++ more)
drop_more [] asked more range rest is = ap (λ rs. rs ++ more) is
drop_more (one ∷ added) [] more range rest is = absurd (cc)
drop_more (one ∷ added) (first ∷ asked) more range rest is = drop_more added asked more range rest is

drop_behind : (before added asked : List KeyRange) → drop (length (before ++ added)) (before ++ asked) ≡ drop (length added) asked
drop_behind [] added asked = refl
drop_behind (one ∷ before) added asked = drop_behind before added asked

-- where the next one asked for is refused, so is it where more are asked for, and behind others
pub next_more : {refuses : KeyRange → ReadError → Type 0} {asked added : List KeyRange} {error : ReadError} (more : List KeyRange) → IsNextRefused refuses asked added error → IsNextRefused refuses (asked ++ more) added error
next_more {asked = asked} {added = added} more next =
    record { range = next.range; rest = next.rest ++ more; next = drop_more added asked more next.range next.rest next.next; refused = next.refused }

pub next_behind : {refuses : KeyRange → ReadError → Type 0} {asked added : List KeyRange} {error : ReadError} (before : List KeyRange) → IsNextRefused refuses asked added error → IsNextRefused refuses (before ++ asked) (before ++ added) error
next_behind {asked = asked} {added = added} before next = record { range = next.range; rest = next.rest; next = drop_behind before added asked ∙ next.next; refused = next.refused }

-- so are errors of reads
pub error_more : (refuses : KeyRange → ReadError → Type 0) (asked added more : List KeyRange) (error : StoreError) → IsReadError refuses asked added error → IsReadError refuses (asked ++ more) added error
error_more refuses asked added more Memory says = begin_more more says
error_more refuses asked added more (Read error) says = (begin_more more says.0, next_more more says.1)
error_more refuses asked added more (Write error) says = absurd says
error_more refuses asked added more (Corrupt key) says = absurd says
error_more refuses asked added more (Refused refusal) says = absurd says
error_more refuses asked added more NoStore says = absurd says
error_more refuses asked added more AlreadyThere says = absurd says
error_more refuses asked added more OtherSchema says = absurd says
error_more refuses asked added more NotAggregate says = absurd says
error_more refuses asked added more NotReadable says = absurd says
error_more refuses asked added more WrongState says = absurd says
error_more refuses asked added more NotBuilt says = absurd says

pub error_behind : (refuses : KeyRange → ReadError → Type 0) (before asked added : List KeyRange) (error : StoreError) → IsReadError refuses asked added error → IsReadError refuses (before ++ asked) (before ++ added) error
error_behind refuses before asked added Memory says = begin_behind before says
error_behind refuses before asked added (Read error) says = (begin_behind before says.0, next_behind before says.1)
error_behind refuses before asked added (Write error) says = absurd says
error_behind refuses before asked added (Corrupt key) says = absurd says
error_behind refuses before asked added (Refused refusal) says = absurd says
error_behind refuses before asked added NoStore says = absurd says
error_behind refuses before asked added AlreadyThere says = absurd says
error_behind refuses before asked added OtherSchema says = absurd says
error_behind refuses before asked added NotAggregate says = absurd says
error_behind refuses before asked added NotReadable says = absurd says
error_behind refuses before asked added WrongState says = absurd says
error_behind refuses before asked added NotBuilt says = absurd says

-- READ: the one read that was asked for first was refused, or memory was wanting
pub read_failed : {maps : ℕ → Map} {refuses : KeyRange → ℕ → ReadError → Type 0} {old new : CommitRequest} (range other : KeyRange) (error : ReadError) → range ≡ other → new ≡ old →
    (error ≡ read.Memory) ⊎ refuses range old.read_version error → HasNotRead maps refuses (other ∷ []) (of_read error) old new
read_failed {refuses = refuses} {old = old} range other error is same says = record { added = []; ran = ran_still same (λ m. by_error error says) }
  where
    refused : (e : ReadError) → refuses range old.read_version e → IsNextRefused (λ r. refuses r old.read_version) (other ∷ []) [] e
    refused e met = record { range = other; rest = []; next = refl; refused = subst (λ r. refuses r old.read_version e) is met }

    by_error : (e : ReadError) → (e ≡ read.Memory) ⊎ refuses range old.read_version e → IsReadError (λ r. refuses r old.read_version) (other ∷ []) [] (of_read e)
    by_error read.Memory met = none_begin (other ∷ [])
    by_error read.TooOld (inl memory) = absurd (cc)
    by_error read.TooOld (inr met) = (none_begin (other ∷ []), refused read.TooOld met)
    by_error read.FutureVersion (inl memory) = absurd (cc)
    by_error read.FutureVersion (inr met) = (none_begin (other ∷ []), refused read.FutureVersion met)

-- so nothing was found in an open store
pub unread_failed : {maps : ℕ → Map} {refuses : KeyRange → ℕ → ReadError → Type 0} {old new : CommitRequest} (opened : Opened) (reading : Reading) (range other : KeyRange) (error : ReadError) → range ≡ other → ((m : Map) → reading.asked m ≡ other ∷ []) → new ≡ old →
    (error ≡ read.Memory) ⊎ refuses range old.read_version error → HasNotFound maps refuses opened reading (of_read error) old new
unread_failed {refuses = refuses} {old = old} opened reading range other error is asks same says = record { added = []; ran = ran_still same (λ m. by_error m error says) }
  where
    refused : (m : Map) (e : ReadError) → refuses range old.read_version e → IsNextRefused (λ r. refuses r old.read_version) (reading.asked m) [] e
    refused m e met = record { range = other; rest = []; next = asks m; refused = subst (λ r. refuses r old.read_version e) is met }

    by_error : (m : Map) (e : ReadError) → (e ≡ read.Memory) ⊎ refuses range old.read_version e → IsUnread (λ r. refuses r old.read_version) opened reading (of_read e) [] m
    by_error m read.Memory met = none_begin (reading.added m)
    by_error m read.TooOld (inl memory) = absurd (cc)
    by_error m read.TooOld (inr met) = (none_begin (reading.added m), refused m read.TooOld met)
    by_error m read.FutureVersion (inl memory) = absurd (cc)
    by_error m read.FutureVersion (inr met) = (none_begin (reading.added m), refused m read.FutureVersion met)

-- MEMORY: it was wanting before anything was read, or behind the reads
pub unread_still : {maps : ℕ → Map} {refuses : KeyRange → ℕ → ReadError → Type 0} {old new : CommitRequest} (opened : Opened) (reading : Reading) → new ≡ old → HasNotFound maps refuses opened reading no_memory old new
unread_still opened reading same = record { added = []; ran = ran_still same (λ m. none_begin (reading.added m)) }

pub unread_behind : {maps : ℕ → Map} {refuses : KeyRange → ℕ → ReadError → Type 0} {added : List KeyRange} {old new : CommitRequest} {F : Map → Type 0} (opened : Opened) (reading : Reading) →
    DidRead maps added old new (λ m. (added ≡ reading.added m) × F m) → HasNotFound maps refuses opened reading no_memory old new
unread_behind {added = added} opened reading ran = record { added = added; ran = ran_because ran (λ m found. subst (IsBeginning added) found.0 (all_begin added)) }
