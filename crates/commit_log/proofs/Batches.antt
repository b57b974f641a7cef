-- A batch of entries after a log.
use Rattle.std.proofs.Common.{◌≡◌, ◌∙◌, ℕ, ◌+◌, ◌<◌, List, [], ◌∷◌, ◌++◌, Vec, Global, get_or, length, take, inl, inr, ap, sym, subst, subst₂}
use Rattle.std.proofs.lemmas.List.{map-append, take_more}
use Rattle.journal.specs.Words.{bytes_of_each}
use Rattle.command_log.specs.Answers.{IsWrittenAs}
use Rattle.command_log.specs.declared.entry.Entry.{Entry}
use Rattle.durable.specs.Keeping.{HasLogOf, HasOnDisk, no_base}
use Rattle.journal.proofs.Moments.{started, weaker}
use Rattle.journal.specs.Block.{Contents, StandsFor}
use Rattle.journal.specs.Device.{LeavesOnly, Only}
use Rattle.journal.specs.Journal.{IsBeforeOrAfter, entries_read}
use Rattle.replay.specs.Replaying.{AreWrittenAs}
use Rattle.runtime.specs.Keeping.{IsBatchOrNone}

pub written_append : (log more : List (List ℕ)) (entries others : List Entry) → AreWrittenAs log entries → AreWrittenAs more others → AreWrittenAs (log ++ more) (entries ++ others)
written_append [] more [] others none are = are
written_append [] more (entry ∷ entries) others none are = absurd none
written_append (bytes ∷ log) more [] others none are = absurd none
written_append (bytes ∷ log) more (entry ∷ entries) others (is, rest) are = (is, written_append log more entries others rest are)

-- one entry more
pub written_turn : (made : List (Vec ℕ Global)) (v : Vec ℕ Global) (entries : List Entry) (i : ℕ) (entry : Entry) → i < length entries → entry ≡ get_or entries i entry → AreWrittenAs (bytes_of_each made) (take i entries) → IsWrittenAs v.items entry →
    AreWrittenAs (bytes_of_each (made ++ v ∷ [])) (take (i + 1) entries)
written_turn made v entries i entry inside at so_far is =
    let all : AreWrittenAs (bytes_of_each made ++ v.items ∷ []) (take i entries ++ entry ∷ []) = written_append (bytes_of_each made) (v.items ∷ []) (take i entries) (entry ∷ []) so_far (is, tt) in
    subst₂ AreWrittenAs (sym (map-append (λ (v : Vec ℕ Global). v.items) made (v ∷ []))) (ap (λ e. take i entries ++ e ∷ []) at ∙ sym (take_more entries i entry inside)) all

-- a file that has a batch more
batch_more : (file longer : List ℕ) (entries others : List Entry) (batch : List (List ℕ)) → HasLogOf no_base file entries → AreWrittenAs batch others → StandsFor longer (entries_read file ++ batch) → HasLogOf no_base longer (entries ++ others)
batch_more file longer entries others batch (log, written, stands) are after =
    (log ++ batch, written_append log batch entries others written are, subst (λ l. StandsFor longer (l ++ batch)) (ap (λ (c : Contents). c.entries) stands) after)

batch_or_none : (file : List ℕ) (entries others : List Entry) (batch : List (List ℕ)) → HasLogOf no_base file entries → AreWrittenAs batch others → (c : List ℕ) → IsBeforeOrAfter (entries_read file) batch c → IsBatchOrNone (HasLogOf no_base) entries others c
batch_or_none file entries others batch (log, written, stands) are c (inl before) = inl (log, written, subst (StandsFor c) (ap (λ (r : Contents). r.entries) stands) before)
batch_or_none file entries others batch has are c (inr after) = inr (batch_more file c entries others batch has are after)

module _ {D : Type 0} (seen : D → List ℕ) (may_leave : D → List ℕ → Type 0) (moment : D → ℕ) (left_since : D → ℕ → List ℕ → Type 0) where
  -- an append that is done
  pub appended : (entries others : List Entry) (batch : List (List ℕ)) (old new : D) → HasOnDisk seen may_leave no_base entries old → AreWrittenAs batch others → StandsFor (seen new) (entries_read (seen old) ++ batch) → Only (seen new) (may_leave new) →
      HasOnDisk seen may_leave no_base (entries ++ others) new
  appended entries others batch old new has are stands durable = record { file = batch_more (seen old) (seen new) entries others batch has.file are stands; durable = durable }

  -- what a crash leaves of an append
  pub leaves_batch : (entries others : List Entry) (batch : List (List ℕ)) (old new : D) → HasOnDisk seen may_leave no_base entries old → AreWrittenAs batch others → LeavesOnly moment left_since old new (IsBeforeOrAfter (entries_read (seen old)) batch) →
      LeavesOnly moment left_since old new (IsBatchOrNone (HasLogOf no_base) entries others)
  leaves_batch entries others batch old new has are run =
      weaker moment left_since old new (IsBeforeOrAfter (entries_read (seen old)) batch) (IsBatchOrNone (HasLogOf no_base) entries others) (batch_or_none (seen old) entries others batch has.file are) run

  -- what a crash leaves where the device isn't called
  pub leaves_same : (only_now : (file : D) (c : List ℕ) → left_since file (moment file) c → may_leave file c) (entries others : List Entry) (device : D) → HasOnDisk seen may_leave no_base entries device →
      LeavesOnly moment left_since device device (IsBatchOrNone (HasLogOf no_base) entries others)
  leaves_same only_now entries others device has =
      started moment left_since device (IsBatchOrNone (HasLogOf no_base) entries others) (λ c left. inl (subst (λ f. HasLogOf no_base f entries) (sym (has.durable c (only_now device c left))) has.file))

  -- a file that is read to have no entry
  pub none_yet : (device : D) (file : List ℕ) → entries_read file ≡ [] → StandsFor (seen device) (entries_read file) → Only (seen device) (may_leave device) → HasOnDisk seen may_leave no_base [] device
  none_yet device file none stands durable = record { file = ([], tt, subst (StandsFor (seen device)) none stands); durable = durable }

pub ruleset batches = (appended, leaves_batch, leaves_same)
