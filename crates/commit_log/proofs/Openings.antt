-- The entries of a file that is opened.
use Rattle.std.proofs.Common.{◌≡◌, ◌∙◌, ℕ, ◌+◌, ◌<◌, List, [], ◌∷◌, ◌++◌, Vec, Global, get_or, length, take, sym, ap, subst}
use Rattle.std.proofs.lemmas.List.{map-append, take_more}
use Rattle.command_log.specs.Answers.{IsWrittenAs}
use Rattle.command_log.specs.declared.entry.Entry.{Entry}
use Rattle.durable.specs.Keeping.{HasLogOf, HasOnDisk, no_base}
use Rattle.durable.proofs.Openings.{not_replayed}
use Rattle.journal.specs.Block.{StandsFor}
use Rattle.journal.specs.Device.{Only}
use Rattle.journal.specs.Journal.{entries_read}
use Rattle.journal.specs.Words.{bytes_of_each}
use Rattle.replay.specs.Replaying.{AreWrittenAs}
use Rattle.commit_log.proofs.Batches.{written_append}

-- one entry more
pub read_turn : (log : List (Vec ℕ Global)) (i : ℕ) (v : Vec ℕ Global) (made : List Entry) (entry : Entry) → i < length log → v ≡ get_or log i v → AreWrittenAs (bytes_of_each (take i log)) made → IsWrittenAs v.items entry →
    AreWrittenAs (bytes_of_each (take (i + 1) log)) (made ++ entry ∷ [])
read_turn log i v made entry inside at so_far is =
    let all : AreWrittenAs (bytes_of_each (take i log) ++ v.items ∷ []) (made ++ entry ∷ []) = written_append (bytes_of_each (take i log)) (v.items ∷ []) made (entry ∷ []) so_far (is, tt) in
    let split : bytes_of_each (take (i + 1) log) ≡ bytes_of_each (take i log) ++ v.items ∷ [] =
    ap bytes_of_each (take_more log i v inside ∙ ap (λ w. take i log ++ w ∷ []) (sym at)) ∙ map-append (λ (w : Vec ℕ Global). w.items) (take i log) (v ∷ []) in
    subst (λ l. AreWrittenAs l (made ++ entry ∷ [])) (sym split) all

-- the entries of a file that is recovered
pub had : (file : List ℕ) (log : List (List ℕ)) (entries : List Entry) → StandsFor file (entries_read file) → log ≡ entries_read file → AreWrittenAs log entries → HasLogOf no_base file entries
had file log entries whole same are = (entries_read file, subst (λ l. AreWrittenAs l entries) same are, whole)

-- and of what its device has then
pub has_now : {D : Type 0} (seen : D → List ℕ) (may_leave : D → List ℕ → Type 0) (file : List ℕ) (log : List (List ℕ)) (entries : List Entry) (device : D) →
    log ≡ entries_read file → StandsFor (seen device) (entries_read file) → Only (seen device) (may_leave device) → AreWrittenAs log entries → HasOnDisk seen may_leave no_base entries device
has_now seen may_leave file log entries device same stands durable are = record { file = (entries_read file, subst (λ l. AreWrittenAs l entries) same are, stands); durable = durable }

pub ruleset openings = (had, has_now, not_replayed)
