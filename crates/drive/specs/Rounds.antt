-- Rounds of a call: a host reads of what is wanted and calls again, until nothing is.
use Rattle.std.specs.Prelude.{◌≡◌, ◌≤◌, ◌+◌, ◌*◌, ◌⊎◌, ℕ, Bool, true, false, List, [], ◌∷◌, length, Contains, IsTrue}
use Rattle.std.specs.List.{AllByRecursion}
use Rattle.std.specs.FinMap.{entries, retain_keys}
use Rattle.kv_core.specs.Bytes.{key_le, key_lt}
use Rattle.kv_core.specs.Range.{KeyRange, contains, covers}
use Rattle.kv_core.specs.Map.{Map}
use Rattle.kv_core.specs.declared.change.Mutation.{Mutation}
use Rattle.schedule.specs.declared.step.Command.{Command}
use Rattle.drive.specs.Driving.{IsHostAsked}
use Rattle.drive.specs.Wanted.{AreWithin, IsAllCovered}
use Rattle.drive.specs.declared.wanted.Want.{Want}

-- a round that wants something: what the host has covered, the pairs that it has, what is wanted, and what it has
-- covered once it has read of that
pub record Round : Type 0 where
  pub covered : List KeyRange
  pub pairs : Map
  pub wants : List Want
  pub after : List KeyRange

-- a range is covered from its begin up to a key, and with it; or, from its end back, from the key on
abbrev pub IsReadUpto : List KeyRange → Bool → KeyRange → List ℕ → Type 0
IsReadUpto covered false range key =
    (q : List ℕ) → IsTrue (key_le range.begin q) → IsTrue (key_le q key) → IsTrue (covers covered q)
IsReadUpto covered true range key =
    (q : List ℕ) → IsTrue (key_le key q) → IsTrue (key_lt q range.end) → IsTrue (covers covered q)

-- what is wanted was read of a database as far as one of its pairs at least, or wholly
abbrev pub IsReadInto : Map → List KeyRange → Want → Type 0
IsReadInto m covered want =
    IsAllCovered covered want.range
    ⊎ ((pair : List ℕ × List ℕ) × Contains (entries m) pair × IsTrue (contains want.range pair.0)
    × IsReadUpto covered want.reverse want.range pair.0)

-- in a round something is wanted, where what the commands read over the pairs that the host has is such; the host reads
-- of each range that is wanted, and keeps what it has covered
pub record IsHostRound (m : Map) (version : ℕ) (written : List Mutation) (commands : List Command)
    (IsRead : List KeyRange → Type 0) (round : Round) : Type 0 where
  pub asked : IsHostAsked version round.covered round.pairs written commands round.wants
  pub read : IsRead asked.request.reads
  pub begun : (want : Want) → Contains round.wants want → IsReadInto m round.after want
  pub kept : AreWithin round.after round.covered

-- each of these is such a round, and what is covered after one is so in all later ones
abbrev pub AreRounds :
    Map → ℕ → List Mutation → List Command → (Round → List KeyRange → Type 0) → List Round → Type 0
AreRounds m version written commands IsRead [] = Unit {0}
AreRounds m version written commands IsRead (round ∷ rounds) =
    IsHostRound m version written commands (IsRead round) round
    × AllByRecursion (λ (later : Round). AreWithin later.covered round.after) rounds
    × AreRounds m version written commands IsRead rounds

-- each range that was read is one of these
abbrev pub AreAmong : List KeyRange → List KeyRange → Type 0
AreAmong ranges reads = (read : KeyRange) → Contains reads read → Contains ranges read

-- ROUNDS: there are no more of them than twice the pairs of the database, and one, for each of the ranges that the
-- commands read in all of them
abbrev pub RoundsEnd : Type 0
RoundsEnd =
    (m : Map) (ranges : List KeyRange) (version : ℕ) (written : List Mutation) (commands : List Command)
    (rounds : List Round) → AreRounds m version written commands (λ round. AreAmong ranges) rounds →
    length rounds ≤ (1 + 2 * length (entries m)) * length ranges

-- the pairs of a database in what is covered
abbrev pub covered_pairs : Map → List KeyRange → Map
covered_pairs m covered = retain_keys m (covers covered)

-- the host has just the pairs of the database in what is covered, and the pairs determine what was read
abbrev pub AreReadOver : Map → (Map → List KeyRange) → Round → List KeyRange → Type 0
AreReadOver m reads_of round reads = (round.pairs ≡ covered_pairs m round.covered) × (reads ≡ reads_of round.pairs)

-- so there are no more of them, where pairs determine what the commands read, which is at most so many ranges over any,
-- than those for each of these ranges and for each number of pairs, from none to all
abbrev pub RoundsEndOver : Type 0
RoundsEndOver =
    (m : Map) (reads_of : Map → List KeyRange) (most version : ℕ) (written : List Mutation) (commands : List Command)
    (rounds : List Round) → ((pairs : Map) → length (reads_of pairs) ≤ most) →
    AreRounds m version written commands (AreReadOver m reads_of) rounds →
    length rounds ≤ (1 + 2 * length (entries m)) * (most * (1 + length (entries m)))
