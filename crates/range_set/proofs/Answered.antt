-- What the one read of a call establishes, whether the call is answered or not.
use Rattle.std.proofs.Common.{◌≡◌, ◌⊎◌, inl, inr, ℕ, List, [], ◌∷◌, refl, ap, subst}
use Rattle.kv_core.specs.Map.{Agree, Map}
use Rattle.kv_core.specs.Range.{KeyRange}
use Rattle.kv_core.specs.declared.change.CommitRequest.{CommitRequest}
use Rattle.kv_core.specs.declared.snapshot.ReadError.{ReadError}
use Rattle.kv_core.specs.declared.snapshot.ReadError.TheVariants as read
use Rattle.txn.specs.Reads.{has_read, seen}
use Rattle.txn.proofs.Running.{ran_because, ran_read, ran_still}
use Rattle.range_set.specs.declared.error.RangeSetError.{RangeSetError}
use Rattle.range_set.specs.declared.error.RangeSetError.TheVariants.{Memory, Read, Corrupt}
use Rattle.range_set.specs.Calls.{IsSetAnswered, IsSetRefused, IsSetUnread, SetReading}
use Rattle.range_set.specs.Steps.{HaveNoRanges, set_memory, set_read}
use Rattle.range_set.specs.Stored.{ArePairsOf, AreWritten, HasSet, IsFirstDamaged}
use Rattle.range_set.proofs.RangeRows.{not_damaged}

abbrev Pair : Type 0
Pair = List ℕ × List ℕ

-- the range that was added and the pairs are those of the reading, over each map that agrees
abbrev pub IsReading : (ℕ → Map) → SetReading → KeyRange → List Pair → CommitRequest → CommitRequest → Type 0
IsReading maps reading range pairs old new =
    (m : Map) → Agree new.reads (maps old.read_version) m → (range ≡ reading.added (seen old m)) × (pairs ≡ reading.pairs (seen old m))

module _ (maps : ℕ → Map) (refuses : KeyRange → ℕ → ReadError → Type 0) (place : List ℕ) (reading : SetReading) (old new : CommitRequest) where
  -- ANSWERED: the pairs read stand for ranges, and these tell the answer
  pub answered : (range : KeyRange) (pairs : List Pair) (ranges : List KeyRange) (Answer : List KeyRange → Type 0) → new ≡ has_read range old → IsReading maps reading range pairs old new → ArePairsOf place pairs ranges →
      ((m : Map) (set : List KeyRange) → ArePairsOf place (reading.pairs m) ranges → HasSet place set m → Answer set) → IsSetAnswered maps place reading old new Answer
  answered range pairs ranges Answer made says are tells = record {
    added = range;
    ran = ran_read range made (λ m agree.
        let there : ArePairsOf place (reading.pairs (seen old m)) ranges = subst (λ ps. ArePairsOf place ps ranges) (says m agree).1 are in
        ((says m agree).0, (ranges, there), λ set has. tells (seen old m) set there has));
  }

  -- STILL: memory was wanting before anything was read
  pub still : new ≡ old → IsSetRefused maps refuses place reading set_memory old new
  still same = record { added = []; ran = ran_still same (λ m. inl refl) }

  -- REFUSED: the read was refused, or memory was wanting then
  pub read_refused : (range : KeyRange) (error : ReadError) → range ≡ reading.asked → new ≡ old → (error ≡ read.Memory) ⊎ refuses range old.read_version error → IsSetRefused maps refuses place reading (set_read error) old new
  read_refused range error is same says = record { added = []; ran = ran_still same (λ m. by_error m error says) }
    where
      by_error : (m : Map) (e : ReadError) → (e ≡ read.Memory) ⊎ refuses range old.read_version e → IsSetUnread (λ r. refuses r old.read_version) place reading (set_read e) [] m
      by_error m read.Memory met = inl refl
      by_error m read.TooOld (inl memory) = absurd (cc)
      by_error m read.TooOld (inr met) = (refl, subst (λ r. refuses r old.read_version read.TooOld) is met)
      by_error m read.FutureVersion (inl memory) = absurd (cc)
      by_error m read.FutureVersion (inr met) = (refl, subst (λ r. refuses r old.read_version read.FutureVersion) is met)

  -- DAMAGED: the pairs read don't stand for ranges, or memory was wanting behind the read
  pub damaged : (range : KeyRange) (pairs : List Pair) (error : RangeSetError) → new ≡ has_read range old → IsReading maps reading range pairs old new → HaveNoRanges place pairs error →
      ((m : Map) (set : List KeyRange) → HasSet place set m → AreWritten place (reading.pairs m)) → IsSetRefused maps refuses place reading error old new
  damaged range pairs error made says none written = record { added = range ∷ []; ran = ran_read range made (λ m agree. by_error (seen old m) error none (says m agree)) }
    where
      by_error : (m : Map) (e : RangeSetError) → HaveNoRanges place pairs e → (range ≡ reading.added m) × (pairs ≡ reading.pairs m) → IsSetUnread (λ r. refuses r old.read_version) place reading e (range ∷ []) m
      by_error m Memory is here = inr (ap (λ r. r ∷ []) here.0)
      by_error m (Read e) is here = absurd is
      by_error m (Corrupt key) is here =
          let bad : IsFirstDamaged place (reading.pairs m) key = subst (λ ps. IsFirstDamaged place ps key) here.1 is in
          (ap (λ r. r ∷ []) here.0, bad, λ set has. not_damaged place (reading.pairs m) key (written m set has) bad)

  -- WANTING: behind an answer memory may still be wanting
  pub wanting : (A : List KeyRange → Type 0) → IsSetAnswered maps place reading old new A → IsSetRefused maps refuses place reading set_memory old new
  wanting A is = record { added = is.added ∷ []; ran = ran_because is.ran (λ m found. inr (ap (λ r. r ∷ []) found.0)) }

  -- SO: what an answer tells
  pub answered_so : (A B : List KeyRange → Type 0) → IsSetAnswered maps place reading old new A → ((set : List KeyRange) → A set → B set) → IsSetAnswered maps place reading old new B
  answered_so A B is so = record { added = is.added; ran = ran_because is.ran (λ m found. (found.0, found.1, λ set has. so set (found.2 set has))) }
