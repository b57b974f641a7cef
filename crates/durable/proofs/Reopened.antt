-- What an opening of two devices comes to.
use Rattle.std.proofs.Common.{◌≡◌, ℕ, ◌≤◌, ◌==◌, inl, inr, ◌⊎◌, true, false, List, length, sym, subst, subst₂, ◌∙◌, arith}
use Rattle.std.specs.Prelude.{nat_lt, Result, Ok, Err, IfOk, IfErr}
use Rattle.std.proofs.lemmas.Bool.{ltb-false, or_parts}
use Rattle.journal.specs.Block.{StandsFor}
use Rattle.journal.specs.Device.{Only}
use Rattle.journal.specs.Journal.{entries_read}
use Rattle.journal.specs.declared.device.Device.{Ghosts}
use Rattle.command_log.specs.declared.entry.Entry.{Entry}
use Rattle.durable.specs.declared.checkpointing.Checkpointed.{Checkpointed}
use Rattle.durable.specs.declared.error.ReopenError.{ReopenError}
use Rattle.durable.specs.declared.error.UnopenedTwo.{UnopenedTwo}
use Rattle.durable.specs.declared.error.ReopenError.TheVariants.{Memory, First, Second, NotACheckpoint, Unreplayed, SameGeneration}
use Rattle.durable.specs.Checkpoints.{HaveHistory, IsCurrent}
use Rattle.durable.specs.Heads.{generation_of as file_generation}
use Rattle.durable.specs.Choosing.{IsChosen, IsChosenOne, IsNotChosen}
use Rattle.durable.specs.Reopening.{AreRun, HaveNone, IsNotLoaded, IsNotReopened, is_current}
use Rattle.durable.specs.Twofold.{KeepsHistory, generation_of, image_of, log_device, spare_device}
use Rattle.durable.proofs.Choices.{first_current, keeps_current, moved, not_current, second_current, some_current}
use Rattle.durable.proofs.Histories.{older_alike, read_is}

-- files that are read alike have the same history
have_moved : (entries : List Entry) (first second new_first new_second : List ℕ) → StandsFor new_first (entries_read first) → StandsFor new_second (entries_read second) → HaveHistory entries first second → HaveHistory entries new_first new_second
have_moved entries first second new_first new_second one two (inl is) =
    inl (record { generation = is.generation; has = moved first new_first is.generation entries is.has one; older = older_alike second new_second is.generation is.older two })
have_moved entries first second new_first new_second one two (inr is) =
    inr (record { generation = is.generation; has = moved second new_second is.generation entries is.has two; older = older_alike first new_first is.generation is.older one })

module _ {D : Type 0} {G : Ghosts D} (seen : D → List ℕ) (may_leave : D → List ℕ → Type 0) (db : Checkpointed D G) where
  chosen_keeps : (entries : List Entry) (current other : D) → IsChosenOne current (entries_read (seen current)) other (entries_read (seen other)) db → IsCurrent entries (seen current) (seen other) → Only (seen current) (may_leave current) → Only (seen other) (may_leave other) →
      KeepsHistory seen may_leave entries (generation_of db) (log_device db) (spare_device db) (image_of db)
  chosen_keeps entries current other chosen is durable other_durable =
      subst₂ (λ d s. KeepsHistory seen may_leave entries (generation_of db) d s (image_of db)) (sym chosen.devices.0) (sym chosen.devices.1)
      (keeps_current seen may_leave entries current other (generation_of db) (image_of db) is chosen.generation chosen.loaded durable other_durable)

  by_choice : (entries : List Entry) (first second : D) → IsChosen first (entries_read (seen first)) second (entries_read (seen second)) db → Only (seen first) (may_leave first) → Only (seen second) (may_leave second) → HaveHistory entries (seen first) (seen second) →
      KeepsHistory seen may_leave entries (generation_of db) (log_device db) (spare_device db) (image_of db)
  by_choice entries first second (inl one) durable durable_two have = chosen_keeps entries first second one (first_current entries (seen first) (seen second) one.newer have) durable durable_two
  by_choice entries first second (inr (older, two)) durable durable_two have = chosen_keeps entries second first two (second_current entries (seen first) (seen second) older have) durable_two durable

  -- recovered files, of which one is chosen
  pub opened_keeps : (old_first old_second : List ℕ) (one two : List (List ℕ)) (first second : D) → one ≡ entries_read old_first → two ≡ entries_read old_second → StandsFor (seen first) (entries_read old_first) → StandsFor (seen second) (entries_read old_second) →
      Only (seen first) (may_leave first) → Only (seen second) (may_leave second) → IsChosen first one second two db → (entries : List Entry) → HaveHistory entries old_first old_second →
      KeepsHistory seen may_leave entries (generation_of db) (log_device db) (spare_device db) (image_of db)
  opened_keeps old_first old_second one two first second is_one is_two stands stands_two durable durable_two chosen entries have =
      by_choice entries first second
      (subst₂ (λ a b. IsChosen first a second b db) (is_one ∙ sym (read_is (seen first) (entries_read old_first) stands)) (is_two ∙ sym (read_is (seen second) (entries_read old_second) stands_two)) chosen)
      durable durable_two (have_moved entries old_first old_second (seen first) (seen second) stands stands_two have)

-- ---- refusals

none_chosen : (error : ReopenError) (first second : List ℕ) → ((log : List (List ℕ)) → IsNotLoaded log error → IsNotLoaded log NotACheckpoint) →
    ((is_current (entries_read first) (entries_read second) ≡ true) × IsNotLoaded (entries_read first) error)
    ⊎ ((is_current (entries_read first) (entries_read second) ≡ false) × (is_current (entries_read second) (entries_read first) ≡ true) × IsNotLoaded (entries_read second) error) →
    HaveNone first second
none_chosen error first second never (inl (newer, unloaded)) entries have = not_current entries first second (first_current entries first second newer have) (never (entries_read first) unloaded)
none_chosen error first second never (inr (older, newer, unloaded)) entries have = not_current entries second first (second_current entries first second older have) (never (entries_read second) unloaded)

pub not_chosen : (faults now faults_two now_two : ℕ) (first second : List ℕ) (one two : List (List ℕ)) (error : ReopenError) → one ≡ entries_read first → two ≡ entries_read second → IsNotChosen one two error → IsNotReopened faults now first faults_two now_two second error
not_chosen faults now faults_two now_two first second one two error is_one is_two unchosen = by_error error (subst₂ (λ a b. IsNotChosen a b error) is_one is_two unchosen)
  where
    by_error : (error : ReopenError) → IsNotChosen (entries_read first) (entries_read second) error → IsNotReopened faults now first faults_two now_two second error
    by_error Memory is = tt
    by_error (First why) (inl (newer, never)) = absurd never
    by_error (First why) (inr (older, newer, never)) = absurd never
    by_error (Second why) (inl (newer, never)) = absurd never
    by_error (Second why) (inr (older, newer, never)) = absurd never
    by_error NotACheckpoint is = none_chosen NotACheckpoint first second (λ log never. never) is
    by_error (Unreplayed why) is = none_chosen (Unreplayed why) first second (λ log never. never) is
    by_error (SameGeneration generation) (older, newer, told) =
        let g = file_generation (entries_read first) in
        let h = file_generation (entries_read second) in
        let at_least : g ≤ h = ltb-false h g (or_parts (length (entries_read second) == 0) (nat_lt h g) older).1 in
        let at_most : h ≤ g = ltb-false g h (or_parts (length (entries_read first) == 0) (nat_lt g h) newer).1 in
        (told, omega (arith, told, at_least, at_most), λ entries have lawful. some_current entries first second older newer have)

-- ---- what the choice answers

module _ {D : Type 0} {G : Ghosts D} (first second : D) (one two : List (List ℕ)) where
  pub all_opened : (seen : D → List ℕ) (may_leave : D → List ℕ → Type 0) (old_first old_second : List ℕ) (result : Result (Checkpointed D G) (UnopenedTwo D)) → one ≡ entries_read old_first → two ≡ entries_read old_second → StandsFor (seen first) (entries_read old_first) → StandsFor (seen second) (entries_read old_second) →
      Only (seen first) (may_leave first) → Only (seen second) (may_leave second) → IfOk result (IsChosen first one second two) →
      IfOk result (λ db. (entries : List Entry) → HaveHistory entries old_first old_second → KeepsHistory seen may_leave entries (generation_of db) (log_device db) (spare_device db) (image_of db))
  all_opened seen may_leave old_first old_second (Ok db) is_one is_two stands stands_two durable durable_two chosen =
      opened_keeps seen may_leave db old_first old_second one two first second is_one is_two stands stands_two durable durable_two chosen
  all_opened seen may_leave old_first old_second (Err refused) is_one is_two stands stands_two durable durable_two chosen = chosen

  pub all_refused : (faults : D → ℕ) (before before_two : ℕ) (old_first old_second : List ℕ) (result : Result (Checkpointed D G) (UnopenedTwo D)) → one ≡ entries_read old_first → two ≡ entries_read old_second → IfErr result (λ refused. IsNotChosen one two refused.error) →
      IfErr result (λ refused. IsNotReopened before (faults refused.first) old_first before_two (faults refused.second) old_second refused.error)
  all_refused faults before before_two old_first old_second (Ok db) is_one is_two unchosen = unchosen
  all_refused faults before before_two old_first old_second (Err refused) is_one is_two unchosen = not_chosen before (faults refused.first) before_two (faults refused.second) old_first old_second one two refused.error is_one is_two unchosen

  are_run : (One Other : D → Type 0) (db : Checkpointed D G) → One first → Other second → IsChosen first one second two db → AreRun One Other db
  are_run One Other db run run_two (inl chosen) = inl (subst One (sym chosen.devices.0) run, subst Other (sym chosen.devices.1) run_two)
  are_run One Other db run run_two (inr (older, chosen)) = inr (subst One (sym chosen.devices.1) run, subst Other (sym chosen.devices.0) run_two)

  pub all_run : (One Other : D → Type 0) (result : Result (Checkpointed D G) (UnopenedTwo D)) → One first → Other second → IfOk result (IsChosen first one second two) → IfOk result (AreRun One Other)
  all_run One Other (Ok db) run run_two chosen = are_run One Other db run run_two chosen
  all_run One Other (Err refused) run run_two chosen = chosen
