-- A checkpoint in the place of what a file had.
use Rattle.std.proofs.Common.{◌≡◌, ◌<◌, ℕ, Bool, true, inl, inr, List, [], ◌++◌, refl, sym, subst}
use Rattle.std.specs.Prelude.{Result, Ok, Err, IfErr, IsErrOf}
use Rattle.journal.specs.Block.{StandsFor}
use Rattle.journal.specs.Journal.{IsBeforeOrAfter}
use Rattle.journal.specs.Standing.{device_of}
use Rattle.journal.specs.Told.{IsOfClear}
use Rattle.journal.specs.declared.device.Device.{Ghosts}
use Rattle.journal.specs.declared.device.DeviceError.TheVariants as devices
use Rattle.journal.specs.declared.error.AppendError.{AppendError}
use Rattle.journal.specs.declared.error.AppendError.TheVariants.{Memory, Full, Broken, Device}
use Rattle.journal.specs.declared.journal.Journal.{Journal}
use Rattle.durable.specs.Exchanging.{HasNoRoomFor, IsEmptied, IsRewritten, IsNotRewritten}

-- an append to a file that has nothing
pub after_clear : (before batch cleared : List (List ℕ)) → cleared ≡ [] → (c : List ℕ) → IsBeforeOrAfter cleared batch c → IsRewritten before batch c
after_clear before batch cleared none c (inl is) = inl (inr (subst (StandsFor c) none is))
after_clear before batch cleared none c (inr is) = inr (subst (λ l. StandsFor c (l ++ batch)) none is)

module _ {D : Type 0} {G : Ghosts D} (seen : D → List ℕ) (may_leave : D → List ℕ → Type 0) (faults : D → ℕ) (wants_memory : Bool) (batch : List (List ℕ)) where
  -- the file isn't cleared
  pub uncleared : (error : AppendError) (old : D) (new : Journal D G) → IsOfClear error → (error ≡ Broken → ⊥) → (error ≡ Device devices.Failed → faults old < faults (device_of new)) → (error ≡ Device devices.Memory → wants_memory ≡ true) →
      IsNotRewritten seen may_leave faults wants_memory batch error old new
  uncleared Memory old new of broken failed fed = absurd of
  uncleared Full old new of broken failed fed = absurd of
  uncleared Broken old new of broken failed fed = broken refl
  uncleared (Device devices.Failed) old new of broken failed fed = failed refl
  uncleared (Device devices.Memory) old new of broken failed fed = fed refl

  -- it is cleared, and the checkpoint isn't appended
  pub unappended : (result : Result (Unit {0}) AppendError) (old : D) (mid new : Journal D G) → IsEmptied seen may_leave mid → (IsErrOf result Memory → new ≡ mid) → (IsErrOf result Full → new ≡ mid) → (IsErrOf result Full → HasNoRoomFor (seen (device_of mid)) batch) → (IsErrOf result Broken → ⊥) →
      (IsErrOf result (Device devices.Failed) → faults old < faults (device_of new)) → (IsErrOf result (Device devices.Memory) → wants_memory ≡ true) → IfErr result (λ error. IsNotRewritten seen may_leave faults wants_memory batch error old new)
  unappended (Ok done) old mid new emptied memory full room broken failed fed = tt
  unappended (Err Memory) old mid new emptied memory full room broken failed fed = subst (IsEmptied seen may_leave) (sym (memory refl)) emptied
  unappended (Err Full) old mid new emptied memory full room broken failed fed =
      subst (λ (j : Journal D G). IsEmptied seen may_leave j × HasNoRoomFor (seen (device_of j)) batch) (sym (full refl)) (emptied, room refl)
  unappended (Err Broken) old mid new emptied memory full room broken failed fed = broken refl
  unappended (Err (Device devices.Failed)) old mid new emptied memory full room broken failed fed = failed refl
  unappended (Err (Device devices.Memory)) old mid new emptied memory full room broken failed fed = fed refl
