-- What a crash leaves while zeros are written at the end of a file at rest.
use Rattle.std.proofs.Common.{◌≡◌, ℕ, ◌+◌, ◌-◌, ◌<◌, ◌≤◌, ◌^◌, List, ◌∷◌, ◌++◌, length, take, drop, sym, ◌∙◌, ap, ap₂, subst, refl, arith, append_assoc, append-nil}
use Rattle.std.proofs.lemmas.List.{take_all, drop_all, take-append-drop, replicate-append-replicate}
use Rattle.journal.specs.Device.{HasWritten, Torn, LeftBy, Only, Elapses}
use Rattle.journal.specs.Form.{zeros, file_blocks}
use Rattle.journal.specs.Block.{StandsFor}
use Rattle.journal.specs.Journal.{entries_read, IsKeptAtRest}
use Rattle.journal.proofs.Moments.{Run, begins, calls}
use Rattle.journal.proofs.Parts.{before_at}
use Rattle.journal.proofs.Settled.{entries_are, one_zero, stands_zeros, kept_zeros, batches, entries, size, some_room, joined_is, length-seen, shut_stands, left_now}

module _ {D : Type 0} (seen : D → List ℕ) (may_leave : D → List ℕ → Type 0) (old : D) (end len : ℕ) (s : IsKeptAtRest seen may_leave old end len) (more : List ℕ) (are : more ≡ zeros (length more)) where
  abbrev bs : List (List (List ℕ))
  bs = batches seen may_leave old end len s

  abbrev es : List (List ℕ)
  es = entries seen may_leave old end len s

  file : List ℕ
  file = seen old

  torn_zeros : (c : List ℕ) → Torn len more (seen old) c → StandsFor c es
  torn_zeros c torn =
      let long = length-seen seen may_leave old end len s in
      let front : take len c ≡ seen old = before_at len more (seen old) c torn (omega (arith, long)) ∙ take_all len (seen old) (omega (arith, long)) in
      let gate = one_zero (len - end) (some_room seen may_leave old end len s) in
      let is : c ≡ file_blocks bs ++ 0 ∷ (zeros (len - end - 1) ++ drop len c) =
      sym (take-append-drop len c)
      ∙ ap (λ (l : List ℕ). l ++ drop len c) (front ∙ s.file ∙ ap (λ (l : List ℕ). file_blocks bs ++ l) gate)
      ∙ append_assoc (file_blocks bs) (0 ∷ zeros (len - end - 1)) (drop len c) in
      shut_stands seen may_leave old end len s c (zeros (len - end - 1) ++ drop len c) is

  pub left_by_zeros : (one : D) → LeftBy (Torn len more) (may_leave old) (may_leave one) → (c : List ℕ) → may_leave one c → StandsFor c es
  left_by_zeros one crash c left =
      let from = crash c left in
      torn_zeros c (subst (λ f. Torn len more f c) (s.durable from.0 from.1) from.2)

  grown_is : (new : List ℕ) → HasWritten (seen old) len more new → new ≡ file_blocks bs ++ zeros (len - end + length more)
  grown_is new holds =
      let long = length-seen seen may_leave old end len s in
      holds
      ∙ ap₂ (λ (l r : List ℕ). l ++ more ++ r) (take_all len (seen old) (omega (arith, long))) (drop_all (len + length more) (seen old) (omega (arith, long)))
      ∙ append-nil (seen old ++ more)
      ∙ ap₂ (λ (l r : List ℕ). l ++ r) s.file are
      ∙ append_assoc (file_blocks bs) (zeros (len - end)) (zeros (length more))
      ∙ ap (λ (l : List ℕ). file_blocks bs ++ l) (replicate-append-replicate (len - end) (length more) 0)

  some : 0 < len - end + length more
  some = omega (arith, some_room seen may_leave old end len s)

  pub grown_kept : (new : D) → len + length more ≤ 2 ^ 63 → HasWritten (seen old) len more (seen new) → Only (seen new) (may_leave new) → IsKeptAtRest seen may_leave new end (len + length more)
  grown_kept new small holds only =
      kept_zeros bs (len - end + length more) (seen new) (grown_is (seen new) holds) some (size seen may_leave old end len s) seen may_leave new end (len + length more) refl (omega (arith, s.room)) s.place small only

  pub grown_same : (new : List ℕ) → HasWritten (seen old) len more new → entries_read new ≡ entries_read (seen old)
  grown_same new holds =
      entries_are new _ (stands_zeros bs (len - end + length more) new (grown_is new holds) some (size seen may_leave old end len s)) ∙ joined_is seen may_leave old end len s

  module _ (moment : D → ℕ) (left_since : D → ℕ → List ℕ → Type 0) (only_now : (file : D) (c : List ℕ) → left_since file (moment file) c → may_leave file c) where
    pub run_still : Run may_leave moment left_since (λ c. StandsFor c es) old old
    run_still = begins may_leave moment left_since (λ c. StandsFor c es) old only_now (left_now seen may_leave old end len s (λ c. StandsFor c es) (λ c stands. stands))

    pub run_zeros : (one : D) → LeftBy (Torn len more) (may_leave old) (may_leave one) → Elapses (moment old) (moment one) (left_since old) (left_since one) (may_leave one)
        → Run may_leave moment left_since (λ c. StandsFor c es) old one
    run_zeros one crash time = calls may_leave moment left_since (λ c. StandsFor c es) old old one run_still time (left_by_zeros one crash)
