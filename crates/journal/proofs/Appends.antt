-- What an append comes to: zeros at the file's end where it wants room, and then a block.
use Rattle.std.proofs.Common.{◌≡◌, inl, ℕ, List, ◌++◌, length, sym, subst, append-nil}
use Rattle.std.proofs.lemmas.List.{nil_from_length}
use Rattle.journal.specs.Device.{LeavesOnly}
use Rattle.journal.specs.Block.{StandsFor}
use Rattle.journal.specs.Journal.{entries_read, IsKeptAtRest, IsBeforeOrAfter}
use Rattle.journal.proofs.Moments.{started, weaker, joined}
use Rattle.journal.proofs.Settled.{sound, left_now}

module _ {D : Type 0} (seen : D → List ℕ) (may_leave : D → List ℕ → Type 0) (moment : D → ℕ) (left_since : D → ℕ → List ℕ → Type 0) (only_now : (file : D) (c : List ℕ) → left_since file (moment file) c → may_leave file c) (old : D) (end len : ℕ) (s : IsKeptAtRest seen may_leave old end len) (batch : List (List ℕ)) where
  abbrev IsLeft : List ℕ → Type 0
  IsLeft = IsBeforeOrAfter (entries_read (seen old)) batch

  -- nothing is written
  pub idle : LeavesOnly moment left_since old old IsLeft
  idle = started moment left_since old IsLeft (λ f left. left_now seen may_leave old end len s IsLeft (λ c stands. inl stands) f (only_now old f left))

  pub sound_with_none : length batch ≡ 0 → StandsFor (seen old) (entries_read (seen old) ++ batch)
  sound_with_none none =
      let entries = entries_read (seen old) in
      subst (λ b. StandsFor (seen old) (entries ++ b)) (sym (nil_from_length batch none)) (subst (λ b. StandsFor (seen old) b) (sym (append-nil entries)) (sound seen may_leave old end len s))

  -- zeros are written
  pub after_growth : (mid : D) → LeavesOnly moment left_since old mid (λ c. StandsFor c (entries_read (seen old))) → LeavesOnly moment left_since old mid IsLeft
  after_growth mid grown = weaker moment left_since old mid (λ c. StandsFor c (entries_read (seen old))) IsLeft (λ c stands. inl stands) grown

  -- and then the block
  pub after_both : (mid new : D) → entries_read (seen mid) ≡ entries_read (seen old) → LeavesOnly moment left_since old mid (λ c. StandsFor c (entries_read (seen old)))
      → LeavesOnly moment left_since mid new (IsBeforeOrAfter (entries_read (seen mid)) batch) → LeavesOnly moment left_since old new IsLeft
  after_both mid new same grown added =
      joined moment left_since old mid new IsLeft (after_growth mid grown) (subst (λ e. LeavesOnly moment left_since mid new (IsBeforeOrAfter e batch)) same added)
