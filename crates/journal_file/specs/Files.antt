-- What a file has after calls, and what a crash may leave, where each call that is done does what it says. The
-- newest call stands first.
use Rattle.std.specs.Prelude.{◌≡◌, ◌⊎◌, ◌≤◌, ℕ, ◌+◌, Bool, true, false, if◌then◌else◌}
use Rattle.std.specs.Prelude.{List, [], ◌∷◌, ◌++◌, length, take, drop, ⊤}
use mathlib.Core.Logic.{inl, inr}
use native.Mathlib.Omega.{arith}
use Rattle.journal.specs.Device.{Torn, Cut}
use Rattle.journal_file.specs.declared.history.Kind.{Kind}
use Rattle.journal_file.specs.declared.history.Kind.TheVariants.{Write, Shorten, Sync, Nothing}

-- what was asked, and whether it was done
pub record NotedCall : Type 0 where
  pub kind : Kind
  pub at : ℕ
  pub bytes : List ℕ
  pub is_done : Bool

-- Private: a call that isn't made
abbrev pub unmade : NotedCall
unmade = record { kind = Nothing; at = 0; bytes = []; is_done = false }

-- this file after such a call
abbrev pub changed_by : Kind → ℕ → List ℕ → List ℕ → List ℕ
changed_by Write at bytes file = take at file ++ bytes ++ drop (at + length bytes) file
changed_by Shorten at bytes file = take at file
changed_by Sync at bytes file = file
changed_by Nothing at bytes file = file

-- the bytes that a read returns, of a file that had these at first
abbrev pub seen_after : List ℕ → List NotedCall → List ℕ
seen_after first [] = first
seen_after first (e ∷ es) =
    if e.is_done then changed_by e.kind e.at e.bytes (seen_after first es) else seen_after first es

-- after a sync that is done a crash leaves what is seen
abbrev pub left_by_sync : Bool → List ℕ → (List ℕ → Type 0) → List ℕ → Type 0
left_by_sync true seen old c = c ≡ seen
left_by_sync false seen old c = old c

-- what a crash may leave after a call, done or not, where it might have left what is old
abbrev pub left_after : Kind → ℕ → List ℕ → Bool → List ℕ → (List ℕ → Type 0) → List ℕ → Type 0
left_after Write at bytes is_done seen old c = (d : List ℕ) × old d × Torn at bytes d c
left_after Shorten at bytes is_done seen old c = (d : List ℕ) × old d × Cut at d c
left_after Sync at bytes is_done seen old c = left_by_sync is_done seen old c
left_after Nothing at bytes is_done seen old c = old c

-- What a crash may leave at this moment. Of a file that was only opened nothing is known.
abbrev pub may_leave : List ℕ → List NotedCall → List ℕ → Type 0
may_leave first [] c = ⊤
may_leave first (e ∷ es) c =
    left_after e.kind e.at e.bytes e.is_done (seen_after first es) (may_leave first es) c

-- what a crash might have left since there were t calls
abbrev pub left_since : List ℕ → List NotedCall → ℕ → List ℕ → Type 0
left_since first [] t c = ⊤
left_since first (e ∷ es) t c = may_leave first (e ∷ es) c ⊎ ((t ≤ length es) × left_since first es t c)

-- how many calls weren't done
abbrev pub faults_in : List NotedCall → ℕ
faults_in [] = 0
faults_in (e ∷ es) = (if e.is_done then 0 else 1) + faults_in es

pub counts_now : (first : List ℕ) (es : List NotedCall) (t : ℕ) (c : List ℕ) → t ≤ length es → may_leave first es c
    → left_since first es t c
counts_now first [] t c le now = now
counts_now first (e ∷ es) t c le now = inl now

pub only_now : (first : List ℕ) (es : List NotedCall) (c : List ℕ) → left_since first es (length es) c
    → may_leave first es c
only_now first [] c left = left
only_now first (e ∷ es) c (inl now) = now
only_now first (e ∷ es) c (inr (le, was)) = absurd (omega arith)
