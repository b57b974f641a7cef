-- What the calls of a device do to its file, and what a crash may do between two syncs.
use Rattle.std.specs.Prelude.{◌<◌, ◌≡◌, ◌⊎◌, ℕ, ◌+◌, ◌-◌, ◌≤◌, min, max, List, [], ◌∷◌, ◌++◌, length, take, drop}
use Rattle.std.specs.Prelude.{replicate, Result, IsErrOf, ⊤}
use Rattle.journal.specs.declared.device.DeviceError.{DeviceError}
use Rattle.journal.specs.declared.device.DeviceError.TheVariants.{Failed}

-- new is old with these bytes at this offset
abbrev pub HasWritten : List ℕ → ℕ → List ℕ → List ℕ → Type 0
HasWritten old at bytes new = new ≡ take at old ++ bytes ++ drop (at + length bytes) old

-- where bytes were written over old ones, each is the old byte or the written one; past the old ones it is any
abbrev pub IsMixed : List ℕ → List ℕ → List ℕ → Type 0
IsMixed [] written new = ⊤
IsMixed (byte ∷ old) [] new = ⊤
IsMixed (byte ∷ old) (other ∷ written) [] = ⊥
IsMixed (byte ∷ old) (other ∷ written) (here ∷ new) = ((here ≡ byte) ⊎ (here ≡ other)) × IsMixed old written new

-- After a write that a crash cuts short: in its range a mixture of what was there and what is written, any bytes
-- past the old end, and the same elsewhere.
pub record Torn (at : ℕ) (bytes old new : List ℕ) : Type 0 where
  pub before : take (min at (length old)) new ≡ take at old
  pub range : IsMixed (drop at old) bytes (drop at new)
  pub after : drop (at + length bytes) new ≡ drop (at + length bytes) old
  pub no_shorter : length old ≤ length new
  pub no_longer : length new ≤ max (length old) (at + length bytes)

-- After a cut to n that a crash cuts short: some length between, the same bytes below both, and behind n the same
-- bytes, of which the first may be zeros, as a system fills what is left of a page.
pub record Cut (n : ℕ) (old new : List ℕ) : Type 0 where
  pub no_shorter : min n (length old) ≤ length new
  pub no_longer : length new ≤ max n (length old)
  pub front : take (min n (length old)) new ≡ take n old
  pub zeros : ℕ
  pub behind : drop n new ≡ take (length new - n) (replicate zeros 0 ++ drop (n + zeros) old)

-- each new outcome of a crash is an old outcome after a step
abbrev pub LeftBy : (List ℕ → List ℕ → Type 0) → (List ℕ → Type 0) → (List ℕ → Type 0) → Type 0
LeftBy step old new = (c : List ℕ) → new c → (d : List ℕ) × old d × step d c

-- a crash leaves this and nothing else
abbrev pub Only : List ℕ → (List ℕ → Type 0) → Type 0
Only file outcomes = (c : List ℕ) → outcomes c → c ≡ file

-- Time goes on: a crash since t might have left what it might have left before, or what it may leave now.
pub record Elapses (before now : ℕ) (past since : ℕ → List ℕ → Type 0) (may_leave : List ℕ → Type 0) : Type 0 where
  pub later : before ≤ now
  pub nothing_else : (t : ℕ) (c : List ℕ) → t ≤ before → since t c → past t c ⊎ may_leave c
  pub keeps : (t : ℕ) (c : List ℕ) → t ≤ before → past t c → since t c

-- A crash at any moment since old leaves a file that has P.
pub record LeavesOnly {D : Type 0} (moment : D → ℕ) (left_since : D → ℕ → List ℕ → Type 0)
    (old new : D) (P : List ℕ → Type 0) : Type 0 where
  pub later : moment old ≤ moment new
  pub each : (c : List ℕ) → left_since new (moment old) c → P c
  -- for a run that began earlier
  pub before : (t : ℕ) (c : List ℕ) → t ≤ moment old → left_since new t c → left_since old t c ⊎ P c

-- `Failed` is told only where the device has failed since
pub record HasCause {T : Type 0} (before now : ℕ) (result : Result T DeviceError) : Type 0 where
  pub later : before ≤ now
  pub failed : IsErrOf result Failed → before < now

-- Nothing but reads from old to new: the bytes are the same, and a crash leaves nothing that it might not have
-- left before.
pub record Reads {D : Type 0} (seen : D → List ℕ) (may_leave : D → List ℕ → Type 0)
    (moment : D → ℕ) (left_since : D → ℕ → List ℕ → Type 0) (old new : D) : Type 0 where
  pub same : seen new ≡ seen old
  pub crash : (c : List ℕ) → may_leave new c → may_leave old c
  pub later : moment old ≤ moment new
  pub nothing_else : (t : ℕ) (c : List ℕ) → t ≤ moment old → left_since new t c → left_since old t c ⊎ may_leave old c
