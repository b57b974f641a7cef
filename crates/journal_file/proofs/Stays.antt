-- What is seen is one of the contents that a crash may leave.
use Rattle.std.proofs.Common.{ℕ, Bool, true, false, List, [], ◌∷◌, refl, sym, subst}
use Rattle.std.specs.Prelude.{if◌then◌else◌}
use Rattle.journal.specs.Device.{Torn, Cut}
use Rattle.journal.proofs.Parts.{cut_all, cut_none, torn_all, torn_none}
use Rattle.journal_file.specs.Files.{NotedCall, changed_by, seen_after, may_leave, left_after}
use Rattle.journal_file.specs.Histories.{HasGone}
use Rattle.journal_file.specs.declared.history.History.{History}
use Rattle.journal_file.specs.declared.history.Kind.{Kind}
use Rattle.journal_file.specs.declared.history.Kind.TheVariants.{Write, Shorten, Sync, Nothing}
use Rattle.journal_file.proofs.Steps.{on}

-- a call more
stays_by : (kind : Kind) (at : ℕ) (bytes : List ℕ) (is_done : Bool) (seen : List ℕ) (old : List ℕ → Type 0) → old seen
    → left_after kind at bytes is_done seen old (if is_done then changed_by kind at bytes seen else seen)
stays_by Write at bytes true seen old was = (seen, was, torn_all at bytes seen)
stays_by Write at bytes false seen old was = (seen, was, torn_none at bytes seen)
stays_by Shorten at bytes true seen old was = (seen, was, cut_all at seen)
stays_by Shorten at bytes false seen old was = (seen, was, cut_none at seen)
stays_by Sync at bytes true seen old was = refl
stays_by Sync at bytes false seen old was = was
stays_by Nothing at bytes true seen old was = was
stays_by Nothing at bytes false seen old was = was

stays : (first : List ℕ) (es : List NotedCall) → may_leave first es (seen_after first es)
stays first [] = tt
stays first (e ∷ es) = stays_by e.kind e.at e.bytes e.is_done (seen_after first es) (may_leave first es) (stays first es)

-- a sync leaves nothing that might not have been left before
sync_keeps : (at : ℕ) (bytes : List ℕ) (is_done : Bool) (first : List ℕ) (es : List NotedCall) (c : List ℕ)
    → may_leave first (record { kind = Sync; at = at; bytes = bytes; is_done = is_done } ∷ es) c → may_leave first es c
sync_keeps at bytes true first es c is = subst (may_leave first es) (sym is) (stays first es)
sync_keeps at bytes false first es c left = left

pub crash_sync : (at : ℕ) (bytes : List ℕ) (is_done : Bool) (old new : History) → HasGone old new (record { kind = Sync; at = at; bytes = bytes; is_done = is_done })
    → (c : List ℕ) → may_leave new.first new.calls c → may_leave old.first old.calls c
crash_sync at bytes is_done old new gone =
    on (λ first es. (c : List ℕ) → may_leave first es c → may_leave old.first old.calls c) old new (record { kind = Sync; at = at; bytes = bytes; is_done = is_done }) gone
    (sync_keeps at bytes is_done old.first old.calls)

-- a cut that isn't made
pub crash_uncut : (n : ℕ) (old : List ℕ → Type 0) (c : List ℕ) → old c → (d : List ℕ) × old d × Cut n d c
crash_uncut n old c left = (c, left, cut_none n c)

-- a write that isn't made
pub crash_unwritten : (at : ℕ) (bytes : List ℕ) (old : List ℕ → Type 0) (c : List ℕ) → old c → (d : List ℕ) × old d × Torn at bytes d c
crash_unwritten at bytes old c left = (c, left, torn_none at bytes c)
