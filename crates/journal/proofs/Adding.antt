-- What a crash leaves while the block of a batch is written over zeros.
use Rattle.std.proofs.Common.{◌≡◌, inl, inr, ⊎_elim, ℕ, ◌+◌, ◌-◌, ◌<◌, ◌^◌, List, [], ◌∷◌, ◌++◌, length, take, drop, refl, sym, ◌∙◌, ap, ap₂, subst, arith, append_assoc, length-append}
use Rattle.std.proofs.lemmas.List.{drop-drop, drop-replicate, take-append-drop}
use Rattle.journal.specs.Device.{HasWritten, IsMixed, Torn, LeftBy, Only, Elapses}
use Rattle.journal.specs.Form.{nonzeros, zeros, blocks, file_blocks, batch_entries}
use Rattle.journal.specs.Block.{StandsFor}
use Rattle.journal.specs.Journal.{entries_read, IsKeptAtRest, IsBeforeOrAfter}
use Rattle.journal.proofs.Bounds.{nonzeros_zeros}
use Rattle.journal.proofs.Mixtures.{IsPartOf, from_mixed, torn_block}
use Rattle.journal.proofs.Moments.{Run, begins, calls}
use Rattle.journal.proofs.Parts.{before_at}
use Rattle.journal.proofs.Readings.{stands_end}
use Rattle.journal.proofs.Settled.{written_push, joined_push, stands_zeros, kept_zeros, batches, entries, size, joined_is, length-seen, front_is, zeros_are, left_now}

module _ {D : Type 0} (seen : D → List ℕ) (may_leave : D → List ℕ → Type 0) (old : D) (end len : ℕ) (s : IsKeptAtRest seen may_leave old end len) (batch : List (List ℕ)) (block : List ℕ) (is_block : block ≡ blocks batch)
    (room : end + length block < len) where
  abbrev bs : List (List (List ℕ))
  bs = batches seen may_leave old end len s

  abbrev es : List (List ℕ)
  es = entries seen may_leave old end len s

  abbrev IsLeft : List ℕ → Type 0
  IsLeft = IsBeforeOrAfter (entries_read (seen old)) batch

  abbrev n : ℕ
  n = length block

  both_size : length (file_blocks (bs ++ batch ∷ [])) ≡ end + n
  both_size = omega (arith, ap length (written_push bs batch), length-append (file_blocks bs) (blocks batch), s.place, ap length is_block)

  both_small : length (file_blocks (bs ++ batch ∷ [])) < 2 ^ 64
  both_small = omega (arith, both_size, room, s.small)

  both_joined : batch_entries (bs ++ batch ∷ []) ≡ entries_read (seen old) ++ batch
  both_joined = joined_push bs batch ∙ ap (λ (l : List (List ℕ)). l ++ batch) (joined_is seen may_leave old end len s)

  -- a file with the whole block, and zeros behind it
  added_is : (front rest c : List ℕ) → front ≡ file_blocks bs → rest ≡ zeros (len - (end + n)) → c ≡ front ++ block ++ rest → c ≡ file_blocks (bs ++ batch ∷ []) ++ zeros (len - (end + n))
  added_is front rest c front_same rest_same is =
      is ∙ ap₂ (λ (l r : List ℕ). l ++ block ++ r) front_same rest_same ∙ ap (λ (l : List ℕ). l ++ zeros (len - (end + n))) (ap (λ (l : List ℕ). file_blocks bs ++ l) is_block ∙ sym (written_push bs batch))

  some : 0 < len - (end + n)
  some = omega (arith, room)

  stands_added : (c : List ℕ) → c ≡ file_blocks (bs ++ batch ∷ []) ++ zeros (len - (end + n)) → StandsFor c (entries_read (seen old) ++ batch)
  stands_added c is = subst (λ e. StandsFor c e) both_joined (stands_zeros (bs ++ batch ∷ []) (len - (end + n)) c is some both_small)

  behind_is : drop (end + n) (seen old) ≡ zeros (len - (end + n))
  behind_is =
      let less : len - end - n ≡ len - (end + n) = omega arith in
      sym (drop-drop n end (seen old)) ∙ ap (λ (l : List ℕ). drop n l) (zeros_are seen may_leave old end len s) ∙ drop-replicate {X = ℕ} n (len - end) 0 ∙ ap (λ (k : ℕ). zeros k) less

  torn_added : (c : List ℕ) → Torn end block (seen old) c → IsLeft c
  torn_added c torn =
      let long = length-seen seen may_leave old end len s in
      let front : take end c ≡ file_blocks bs = before_at end block (seen old) c torn (omega (arith, long, s.room)) ∙ front_is seen may_leave old end len s in
      let rest : drop (end + n) c ≡ zeros (len - (end + n)) = torn.after ∙ behind_is in
      let mixed : IsMixed (zeros (len - end)) block (drop end c) = subst (λ (l : List ℕ). IsMixed l block (drop end c)) (zeros_are seen may_leave old end len s) torn.range in
      let part = from_mixed (len - end) block (drop end c) (omega (arith, room)) mixed in
      let parts : drop end c ≡ take n (drop end c) ++ drop (end + n) c = sym (take-append-drop n (drop end c)) ∙ ap (λ (l : List ℕ). take n (drop end c) ++ l) (drop-drop n end c) in
      let here : c ≡ file_blocks bs ++ (take n (drop end c) ++ drop (end + n) c) = sym (take-append-drop end c) ∙ ap₂ (λ (l r : List ℕ). l ++ r) front parts in
      let small : length (blocks batch) < 2 ^ 64 = omega (arith, ap length is_block, room, s.small) in
      ⊎_elim
      (λ whole. inr (stands_added c (added_is (take end c) (drop (end + n) c) c front rest
      (sym (take-append-drop end c)
      ∙ ap (λ (r : List ℕ). take end c ++ r) (parts ∙ ap (λ (l : List ℕ). l ++ drop (end + n) c) (whole ∙ sym is_block))
      ∙ sym (append_assoc (take end c) block (drop (end + n) c))))))
      (λ ends. inl (subst (λ f. StandsFor f es) (sym here) (subst (λ e. StandsFor (file_blocks bs ++ (take n (drop end c) ++ drop (end + n) c)) e) (joined_is seen may_leave old end len s) (stands_end bs (take n (drop end c) ++ drop (end + n) c) (size seen may_leave old end len s) ends))))
      (torn_block batch (take n (drop end c)) (drop (end + n) c) small (ap nonzeros rest ∙ nonzeros_zeros (len - (end + n))) (subst (λ (b : List ℕ). IsPartOf b (take n (drop end c))) is_block part))

  left_by_block : (one : D) → LeftBy (Torn end block) (may_leave old) (may_leave one) → (c : List ℕ) → may_leave one c → IsLeft c
  left_by_block one crash c left =
      let from = crash c left in
      torn_added c (subst (λ f. Torn end block f c) (s.durable from.0 from.1) from.2)

  block_is : (new : List ℕ) → HasWritten (seen old) end block new → new ≡ file_blocks (bs ++ batch ∷ []) ++ zeros (len - (end + n))
  block_is new holds = added_is (take end (seen old)) (drop (end + n) (seen old)) new (front_is seen may_leave old end len s) behind_is holds

  pub added_stands : (new : List ℕ) → HasWritten (seen old) end block new → StandsFor new (entries_read (seen old) ++ batch)
  added_stands new holds = stands_added new (block_is new holds)

  pub added_kept : (new : D) → HasWritten (seen old) end block (seen new) → Only (seen new) (may_leave new) → IsKeptAtRest seen may_leave new (end + n) len
  added_kept new holds only =
      kept_zeros (bs ++ batch ∷ []) (len - (end + n)) (seen new) (block_is (seen new) holds) some both_small seen may_leave new (end + n) len refl (omega (arith, room)) both_size s.small only

  module _ (moment : D → ℕ) (left_since : D → ℕ → List ℕ → Type 0) (only_now : (file : D) (c : List ℕ) → left_since file (moment file) c → may_leave file c) where
    pub run_added : (one : D) → LeftBy (Torn end block) (may_leave old) (may_leave one) → Elapses (moment old) (moment one) (left_since old) (left_since one) (may_leave one)
        → Run may_leave moment left_since IsLeft old one
    run_added one crash time =
        calls may_leave moment left_since IsLeft old old one (begins may_leave moment left_since IsLeft old only_now (left_now seen may_leave old end len s IsLeft (λ c stands. inl stands))) time (left_by_block one crash)
