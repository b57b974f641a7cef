-- What a crash leaves during a recovery.
use Rattle.std.proofs.Common.{◌<◌, ◌^◌, inl, inr, ℕ, List, length, sym, ◌∙◌, subst}
use Rattle.journal.specs.Device.{LeavesOnly, Reads}
use Rattle.journal.specs.Block.{StandsFor}
use Rattle.journal.specs.Journal.{entries_read}
use Rattle.journal.specs.Recovery.{IsAsBefore, EntriesEndAt}
use Rattle.journal.proofs.Moments.{begins, reads_run, joined, weaker}
use Rattle.journal.proofs.Repairs.{whole}

module _ {D : Type 0} (seen : D → List ℕ) (may_leave : D → List ℕ → Type 0) (moment : D → ℕ) (left_since : D → ℕ → List ℕ → Type 0) (only_now : (file : D) (c : List ℕ) → left_since file (moment file) c → may_leave file c) where
  -- where nothing but reads happens
  pub as_before : (old new : D) → Reads seen may_leave moment left_since old new → LeavesOnly moment left_since old new (IsAsBefore (may_leave old) (seen old))
  as_before old new reads =
      let P = IsAsBefore (may_leave old) (seen old) in
      let run = reads_run seen may_leave moment left_since P old old new (begins may_leave moment left_since P old only_now (λ c left. inl left)) reads in
      run.leaves

  -- and then the file's end is repaired
  pub as_repaired : (old two mid new : D) (end : ℕ) → Reads seen may_leave moment left_since old two → Reads seen may_leave moment left_since old mid → EntriesEndAt (seen two) end → length (seen two) < 2 ^ 63
      → LeavesOnly moment left_since mid new (λ c. StandsFor c (entries_read (seen mid))) → LeavesOnly moment left_since old new (IsAsBefore (may_leave old) (seen old))
  as_repaired old two mid new end before reads ends small closed =
      let P = IsAsBefore (may_leave old) (seen old) in
      let stands : StandsFor (seen old) (entries_read (seen old)) = subst (λ f. StandsFor f (entries_read f)) before.same (whole (seen two) end ends small) in
      let alike : (c : List ℕ) → StandsFor c (entries_read (seen mid)) → P c = λ c is. inr (subst (λ f. StandsFor c (entries_read f)) reads.same is ∙ sym stands) in
      joined moment left_since old mid new P (as_before old mid reads) (weaker moment left_since mid new (λ c. StandsFor c (entries_read (seen mid))) P alike closed)
