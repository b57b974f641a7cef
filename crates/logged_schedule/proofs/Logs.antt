-- What a batch makes of a log, what a crash leaves of it, and what entries say, over plain values.
use Rattle.std.proofs.Common.{◌≡◌, ◌∙◌, ℕ, ◌+◌, ◌<◌, List, [], ◌∷◌, ◌++◌, length, get_or, take, ap, refl, sym, subst, subst₂, inl, inr, append_assoc}
use Rattle.std.specs.Prelude.{map, Vec}
use Rattle.std.specs.declared.alloc.Global.{Global}
use Rattle.std.proofs.lemmas.List.{map-append, take_more}
use Rattle.std.proofs.lemmas.List.Sums.{fold-append}
use Rattle.command_log.specs.Answers.{IsWrittenAs}
use Rattle.command_log.specs.Form.{bytes_of_entry}
use Rattle.command_log.specs.declared.entry.Entry.{Entry}
use Rattle.journal.specs.Block.{Contents, StandsFor}
use Rattle.journal.specs.Device.{LeavesOnly, Only}
use Rattle.journal.specs.Journal.{IsBeforeOrAfter, entries_read}
use Rattle.journal.proofs.Moments.{weaker}
use Rattle.replay.specs.Logged.{last_version}
use Rattle.replay.specs.Replaying.{AreWrittenAs, log_bytes}
use Rattle.replay.proofs.Replays.{written_append}
use Rattle.durable.specs.Keeping.{Base, HasLogOf, HasOnDisk, no_base}
use Rattle.logged_schedule.specs.Keeping.{HasAllOrNone}

-- ---- logs

pub written_both : (log more : List (List ℕ)) (entries others : List Entry) → AreWrittenAs log entries → AreWrittenAs more others → AreWrittenAs (log ++ more) (entries ++ others)
written_both [] more [] others first last = last
written_both [] more (entry ∷ entries) others first last = absurd first
written_both (bytes ∷ log) more [] others first last = absurd first
written_both (bytes ∷ log) more (entry ∷ entries) others first last = (first.0, written_both log more entries others first.1 last)

pub written_bytes : (log : List (List ℕ)) (entries : List Entry) → AreWrittenAs log entries → log ≡ map bytes_of_entry entries
written_bytes [] [] written = refl
written_bytes [] (entry ∷ entries) written = absurd written
written_bytes (bytes ∷ log) [] written = absurd written
written_bytes (bytes ∷ log) (entry ∷ entries) written = λ i. written.0.has_bytes i ∷ written_bytes log entries written.1 i

-- the bytes of the first entries, and of one more
pub written_more : (entries : List Entry) (i : ℕ) (out longer : List (Vec ℕ Global)) (bytes : Vec ℕ Global) (entry : Entry) → i < length entries → entry ≡ get_or entries i entry → longer ≡ out ++ bytes ∷ [] → IsWrittenAs bytes.items entry →
    AreWrittenAs (log_bytes out) (take i entries) → AreWrittenAs (log_bytes longer) (take (i + 1) entries)
written_more entries i out longer bytes entry within is now written so_far =
    subst₂ AreWrittenAs (sym (ap log_bytes now ∙ map-append (λ (v : Vec ℕ Global). v.items) out (bytes ∷ []))) (sym (take_more entries i entry within ∙ ap (λ e. take i entries ++ e ∷ []) (sym is)))
    (written_append (log_bytes out) (take i entries) bytes.items entry so_far written)

-- the version of the first entries' last one, where one more is there
pub last_more : (entries : List Entry) (i : ℕ) (entry : Entry) (version : ℕ) → i < length entries → entry ≡ get_or entries i entry → last_version version (take (i + 1) entries) ≡ entry.version
last_more entries i entry version within is =
    ap (last_version version) (take_more entries i entry within ∙ ap (λ e. take i entries ++ e ∷ []) (sym is)) ∙ fold-append (λ (last : ℕ) (e : Entry). e.version) version (take i entries) (entry ∷ [])

-- a file that stands for a batch more
pub log_more : (base : Base) (file longer : List ℕ) (entries others : List Entry) (batch : List (List ℕ)) → HasLogOf base file entries → AreWrittenAs batch others → StandsFor longer (entries_read file ++ batch) → HasLogOf base longer (entries ++ others)
log_more base file longer entries others batch (log, written, stands) is after =
    let all : entries_read file ++ batch ≡ base.front ++ (log ++ batch) = ap (λ (c : Contents). c.entries ++ batch) stands ∙ append_assoc base.front log batch in
    (log ++ batch, written_both log batch entries others written is, subst (StandsFor longer) all after)

-- one that stands for what it stood for
pub log_same : (base : Base) (file c : List ℕ) (entries : List Entry) → HasLogOf base file entries → StandsFor c (entries_read file) → HasLogOf base c entries
log_same base file c entries (log, written, stands) same = (log, written, subst (StandsFor c) (ap (λ (k : Contents). k.entries) stands) same)

-- what a crash leaves of an append
all_or_none : (file : List ℕ) (entries others : List Entry) (batch : List (List ℕ)) → HasLogOf no_base file entries → AreWrittenAs batch others → (c : List ℕ) → IsBeforeOrAfter (entries_read file) batch c → HasAllOrNone entries others c
all_or_none file entries others batch has is c (inl before) = inl (log_same no_base file c entries has before)
all_or_none file entries others batch has is c (inr after) = inr (log_more no_base file c entries others batch has is after)

module _ {D : Type 0} (seen : D → List ℕ) (may_leave : D → List ℕ → Type 0) (moment : D → ℕ) (left_since : D → ℕ → List ℕ → Type 0) where
  pub leaves_batch : (entries others : List Entry) (batch : List (List ℕ)) (old new : D) → HasOnDisk seen may_leave no_base entries old → AreWrittenAs batch others →
      LeavesOnly moment left_since old new (IsBeforeOrAfter (entries_read (seen old)) batch) → LeavesOnly moment left_since old new (HasAllOrNone entries others)
  leaves_batch entries others batch old new disk is run =
      weaker moment left_since old new (IsBeforeOrAfter (entries_read (seen old)) batch) (HasAllOrNone entries others) (all_or_none (seen old) entries others batch disk.file is) run

  pub appended_batch : (entries others : List Entry) (batch : List (List ℕ)) (old new : D) → HasOnDisk seen may_leave no_base entries old → AreWrittenAs batch others →
      StandsFor (seen new) (entries_read (seen old) ++ batch) → Only (seen new) (may_leave new) → HasOnDisk seen may_leave no_base (entries ++ others) new
  appended_batch entries others batch old new disk is stands durable = record { file = log_more no_base (seen old) (seen new) entries others batch disk.file is stands; durable = durable }
