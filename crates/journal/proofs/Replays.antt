-- What a recovery knows of a file while it reads it.
use Rattle.std.proofs.Common.{◌≡◌, ℕ, ◌+◌, ◌<◌, ◌≤◌, ◌^◌, Bool, List, [], ◌∷◌, ◌++◌, length, take, drop, Option, Some, None, Result, Err, refl, sym, ◌∙◌, ap, arith, append_assoc, append-nil, length-append}
use Rattle.std.proofs.Math.Seq.{take-append-add}
use Rattle.std.proofs.lemmas.Grind.{flat_map-append}
use Rattle.std.proofs.lemmas.List.{take_at, take-append-le, drop-drop}
use Rattle.journal.specs.Device.{HasCause}
use Rattle.journal.specs.Form.{blocks, file_blocks, batch_entries}
use Rattle.journal.specs.Block.{Contents, contents, read_from, reading, what_begins, StandsFor}
use Rattle.journal.specs.Journal.{entries_read, batches_read, damage_read}
use Rattle.journal.specs.Told.{recover_error}
use Rattle.journal.specs.Recovery.{TookFirst, HasReason, EntriesEndAt}
use Rattle.journal.specs.declared.block.First.TheVariants.{End, Whole, Damaged}
use Rattle.journal.specs.declared.device.DeviceError.{DeviceError}
use Rattle.journal.specs.declared.device.DeviceError.TheVariants as device
use Rattle.journal.specs.declared.error.RecoverError.{RecoverError}
use Rattle.journal.specs.declared.error.RecoverError.TheVariants as recover
use Rattle.journal.proofs.Firsts.{whole_is}
use Rattle.journal.proofs.Readings.{found_blocks, reads_as, batches_end, stands_end, is_damaged}
use Rattle.journal.proofs.Settled.{written_push, joined_push}

-- the sink has the entries of the whole blocks before this place
pub record SoFar (file : List ℕ) (at : ℕ) (old new : List (List ℕ)) : Type 0 where
  pub batches : List (List (List ℕ))
  pub split : file ≡ file_blocks batches ++ drop at file
  pub place : length (file_blocks batches) ≡ at
  pub took : new ≡ old ++ batch_entries batches

pub none_yet : (file : List ℕ) (old : List (List ℕ)) → SoFar file 0 old old
none_yet file old = record { batches = []; split = refl; place = refl; took = sym (append-nil old) }

pub within : (file : List ℕ) (at : ℕ) (old new : List (List ℕ)) → SoFar file at old new → at ≤ length file
within file at old new s = omega (arith, ap length s.split, length-append (file_blocks s.batches) (drop at file), s.place)

pub one_more : (file : List ℕ) (at then : ℕ) (old mid new batch : List (List ℕ)) → SoFar file at old mid → what_begins (drop at file) ≡ Whole batch → new ≡ mid ++ batch → then ≡ at + length (blocks batch) → SoFar file then old new
one_more file at then old mid new batch s is_whole took next = record {
  batches = s.batches ++ batch ∷ [];
  split =
      s.split
      ∙ ap (λ (l : List ℕ). file_blocks s.batches ++ l) (whole_is (drop at file) batch is_whole ∙ ap (λ (l : List ℕ). blocks batch ++ l) (drop-drop (length (blocks batch)) at file ∙ ap (λ (k : ℕ). drop k file) (sym next)))
      ∙ sym (append_assoc (file_blocks s.batches) (blocks batch) (drop then file))
      ∙ ap (λ (l : List ℕ). l ++ drop then file) (sym (written_push s.batches batch));
  place = omega (arith, ap length (written_push s.batches batch), length-append (file_blocks s.batches) (blocks batch), s.place, next);
  took = took ∙ ap (λ (l : List (List ℕ)). l ++ batch) s.took ∙ append_assoc old (batch_entries s.batches) batch ∙ ap (λ (l : List (List ℕ)). old ++ l) (sym (joined_push s.batches batch));
}

pub room : (file : List ℕ) (at : ℕ) (old mid batch : List (List ℕ)) → SoFar file at old mid → what_begins (drop at file) ≡ Whole batch → at + length (blocks batch) ≤ length file
room file at old mid batch s is_whole = within file (at + length (blocks batch)) old (mid ++ batch) (one_more file at (at + length (blocks batch)) old mid (mid ++ batch) batch s is_whole refl refl)

pub took_none : (old entries : List (List ℕ)) → TookFirst old old entries
took_none old entries = record { count = 0; within = omega arith; took = sym (append-nil old) }

module _ (file : List ℕ) (at : ℕ) (old new : List (List ℕ)) (s : SoFar file at old new) (small : length file < 2 ^ 63) where
  size : length (file_blocks s.batches) < 2 ^ 64
  size = omega (arith, s.place, within file at old new s, small)

  stands : what_begins (drop at file) ≡ End → StandsFor file (batch_entries s.batches)
  stands ends = ap reading s.split ∙ stands_end s.batches (drop at file) size ends

  are : what_begins (drop at file) ≡ End → batches_read file ≡ s.batches
  are ends = ap batches_read s.split ∙ batches_end s.batches (drop at file) size ends

  pub ends_there : what_begins (drop at file) ≡ End → EntriesEndAt file at
  ends_there ends = record {
    split = s.split ∙ ap (λ (l : List (List (List ℕ))). file_blocks l ++ drop at file) (sym (are ends));
    place = ap (λ (l : List (List (List ℕ))). length (file_blocks l)) (are ends) ∙ s.place;
    nothing = ends;
  }

  pub undamaged : what_begins (drop at file) ≡ End → damage_read file ≡ None
  undamaged ends = ap (λ (r : Contents). r.damage) (stands ends)

  pub took_all : what_begins (drop at file) ≡ End → new ≡ old ++ entries_read file
  took_all ends = s.took ∙ ap (λ (l : List (List ℕ)). old ++ l) (sym (ap (λ (r : Contents). r.entries) (stands ends)))

  pub damaged_there : what_begins (drop at file) ≡ Damaged → damage_read file ≡ Some at
  damaged_there damaged =
      ap (λ (r : Contents). r.damage) (ap reading s.split ∙ is_damaged s.batches (drop at file) size damaged) ∙ ap (λ (n : ℕ). Some n) s.place

  -- these entries, and those that are read behind them
  abbrev more : List (List (List ℕ))
  more = let r = read_from (length (file_blocks s.batches)) 0 (drop at file) in r.batches

  all_read : entries_read file ≡ batch_entries s.batches ++ batch_entries more
  all_read =
      ap (λ (r : Contents). r.entries) (ap reading s.split ∙ reads_as (file_blocks s.batches ++ drop at file) ∙ ap contents (found_blocks s.batches (drop at file) size))
      ∙ flat_map-append (λ (b : List (List ℕ)). b) s.batches more

  pub took_first : TookFirst old new (entries_read file)
  took_first = record {
    count = length (batch_entries s.batches);
    within = omega (arith, ap length all_read, length-append (batch_entries s.batches) (batch_entries more));
    took = s.took ∙ ap (λ (l : List (List ℕ)). old ++ l) (sym (ap (λ (l : List (List ℕ)). take (length (batch_entries s.batches)) l) all_read ∙ take_at (batch_entries s.batches) (batch_entries more) (length (batch_entries s.batches)) refl));
  }

-- of the next batch the sink took only the first entries
module _ (file : List ℕ) (at : ℕ) (old mid new batch : List (List ℕ)) (s : SoFar file at old mid) (small : length file < 2 ^ 63) (is_whole : what_begins (drop at file) ≡ Whole batch) (t : TookFirst mid new batch) where
  abbrev with_it : SoFar file (at + length (blocks batch)) old (mid ++ batch)
  with_it = one_more file at (at + length (blocks batch)) old mid (mid ++ batch) batch s is_whole refl refl

  abbrev before : List (List ℕ)
  before = batch_entries s.batches

  abbrev behind_it : List (List ℕ)
  behind_it = batch_entries (more file (at + length (blocks batch)) old (mid ++ batch) with_it small)

  all_are : entries_read file ≡ before ++ (batch ++ behind_it)
  unfolding one_more
  all_are =
      all_read file (at + length (blocks batch)) old (mid ++ batch) with_it small
      ∙ ap (λ (l : List (List ℕ)). l ++ behind_it) (joined_push s.batches batch)
      ∙ append_assoc before batch behind_it

  firsts : take (length before + t.count) (entries_read file) ≡ before ++ take t.count batch
  firsts =
      ap (λ (l : List (List ℕ)). take (length before + t.count) l) all_are
      ∙ take-append-add before (batch ++ behind_it) t.count
      ∙ ap (λ (l : List (List ℕ)). before ++ l) (take-append-le t.count batch behind_it t.within)

  pub took_part : TookFirst old new (entries_read file)
  took_part = record {
    count = length before + t.count;
    within = omega (arith, t.within, ap length all_are, length-append before (batch ++ behind_it), length-append batch behind_it);
    took =
        t.took
        ∙ ap (λ (l : List (List ℕ)). l ++ take t.count batch) s.took
        ∙ append_assoc old before (take t.count batch)
        ∙ ap (λ (l : List (List ℕ)). old ++ l) (sym firsts);
  }

-- ---- reasons

pub told_truly : (R : Type 0) {T : Type 0} (f g h : ℕ) (refused : Bool) (damage : Option ℕ) (result : Result T DeviceError) (error : DeviceError) → result ≡ Err error → f ≤ g → HasCause g h result → HasReason f h refused damage (recover_error {R = R} error)
told_truly R f g h refused damage result device.Memory is later cause = tt
told_truly R f g h refused damage result device.Failed is later cause = omega (arith, cause.failed is, later)

pub reason_later : {R : Type 0} (f g h : ℕ) (refused : Bool) (damage : Option ℕ) (error : RecoverError R) → f ≤ g → HasReason g h refused damage error → HasReason f h refused damage error
reason_later f g h refused damage recover.Memory later reason = tt
reason_later f g h refused damage recover.Failed later reason = omega (arith, later, reason)
reason_later f g h refused damage (recover.Damage at) later reason = reason
reason_later f g h refused damage (recover.Refused refusal) later reason = reason
