-- What a file at rest stands for, and what it is with more zeros or one batch more.
use Rattle.std.proofs.Common.{◌≡◌, ℕ, zero, suc, ◌+◌, ◌-◌, ◌<◌, ◌≤◌, ◌^◌, List, [], ◌∷◌, ◌++◌, length, take, drop, sym, ◌∙◌, ap, ap₂, subst, arith, append-nil, length-append}
use Rattle.std.proofs.lemmas.List.{take_at, drop_at, length-replicate}
use Rattle.std.proofs.lemmas.Grind.{flat_map-append}
use Rattle.journal.specs.Device.{Only}
use Rattle.journal.specs.Form.{zeros, blocks, file_blocks, batch_entries}
use Rattle.journal.specs.Block.{StandsFor, Contents}
use Rattle.journal.specs.Journal.{entries_read, batches_read, IsKeptAtRest}
use Rattle.journal.proofs.Readings.{joined_read, stands_closed, batches_closed}

pub entries_are : (file : List ℕ) (entries : List (List ℕ)) → StandsFor file entries → entries_read file ≡ entries
entries_are file entries stands = ap (λ (r : Contents). r.entries) stands

-- a first zero, and the others
pub one_zero : (n : ℕ) → 0 < n → zeros n ≡ 0 ∷ zeros (n - 1)
one_zero zero some = absurd (omega arith)
one_zero (suc n) some = let same : n ≡ suc n - 1 = omega arith in ap (λ (k : ℕ). 0 ∷ zeros k) same

pub written_push : (batches : List (List (List ℕ))) (batch : List (List ℕ)) → file_blocks (batches ++ batch ∷ []) ≡ file_blocks batches ++ blocks batch
written_push batches batch = flat_map-append blocks batches (batch ∷ []) ∙ ap (λ (l : List ℕ). file_blocks batches ++ l) (append-nil (blocks batch))

pub joined_push : (batches : List (List (List ℕ))) (batch : List (List ℕ)) → batch_entries (batches ++ batch ∷ []) ≡ batch_entries batches ++ batch
joined_push batches batch = flat_map-append (λ (b : List (List ℕ)). b) batches (batch ∷ []) ∙ ap (λ (l : List (List ℕ)). batch_entries batches ++ l) (append-nil batch)

-- blocks, and zeros behind them
module _ (batches : List (List (List ℕ))) (room : ℕ) (file : List ℕ) (is : file ≡ file_blocks batches ++ zeros room) (some : 0 < room) (size : length (file_blocks batches) < 2 ^ 64) where
  closed_is : file ≡ file_blocks batches ++ 0 ∷ zeros (room - 1)
  closed_is = is ∙ ap (λ (l : List ℕ). file_blocks batches ++ l) (one_zero room some)

  pub stands_zeros : StandsFor file (batch_entries batches)
  stands_zeros = subst (λ f. StandsFor f (batch_entries batches)) (sym closed_is) (stands_closed batches (zeros (room - 1)) size)

  pub batches_zeros : batches_read file ≡ batches
  batches_zeros = ap batches_read closed_is ∙ batches_closed batches (zeros (room - 1)) size

  -- such a file on the disk is at rest
  pub kept_zeros : {D : Type 0} (seen : D → List ℕ) (may_leave : D → List ℕ → Type 0) (device : D) (end len : ℕ) → seen device ≡ file → end + room ≡ len → length (file_blocks batches) ≡ end → len ≤ 2 ^ 63 → Only (seen device) (may_leave device) → IsKeptAtRest seen may_leave device end len
  kept_zeros seen may_leave device end len same long place small only =
      let are : batches_read (seen device) ≡ batches = ap batches_read same ∙ batches_zeros in
      let more : room ≡ len - end = omega (arith, long) in
      record {
        file = same ∙ is ∙ ap₂ (λ (b : List (List (List ℕ))) (n : ℕ). file_blocks b ++ zeros n) (sym are) more;
        place = ap (λ (b : List (List (List ℕ))). length (file_blocks b)) are ∙ place;
        room = omega (arith, long, some);
        small = small;
        durable = only;
      }

module _ {D : Type 0} (seen : D → List ℕ) (may_leave : D → List ℕ → Type 0) (device : D) (end len : ℕ) (s : IsKeptAtRest seen may_leave device end len) where
  abbrev pub batches : List (List (List ℕ))
  batches = batches_read (seen device)

  abbrev pub entries : List (List ℕ)
  entries = entries_read (seen device)

  pub size : length (file_blocks batches) < 2 ^ 64
  size = omega (arith, s.place, s.small, s.room)

  pub some_room : 0 < len - end
  some_room = omega (arith, s.room)

  pub joined_is : batch_entries batches ≡ entries
  joined_is = sym (joined_read (seen device))

  pub sound : StandsFor (seen device) entries
  sound = subst (λ e. StandsFor (seen device) e) joined_is (stands_zeros batches (len - end) (seen device) s.file some_room size)

  pub length-seen : length (seen device) ≡ len
  length-seen = omega (arith, ap length s.file, length-append (file_blocks batches) (zeros (len - end)), length-replicate {A = ℕ} (len - end) 0, s.place, s.room)

  pub front_is : take end (seen device) ≡ file_blocks batches
  front_is = ap (λ (f : List ℕ). take end f) s.file ∙ take_at (file_blocks batches) (zeros (len - end)) end s.place

  pub zeros_are : drop end (seen device) ≡ zeros (len - end)
  zeros_are = ap (λ (f : List ℕ). drop end f) s.file ∙ drop_at (file_blocks batches) (zeros (len - end)) end s.place

  -- a closed gate behind the blocks
  pub shut_stands : (c rest : List ℕ) → c ≡ file_blocks batches ++ 0 ∷ rest → StandsFor c entries
  shut_stands c rest is = subst (λ f. StandsFor f entries) (sym is) (subst (λ e. StandsFor (file_blocks batches ++ 0 ∷ rest) e) joined_is (stands_closed batches rest size))

  pub left_now : (P : List ℕ → Type 0) → ((c : List ℕ) → StandsFor c entries → P c) → (c : List ℕ) → may_leave device c → P c
  left_now P so c left = so c (subst (λ f. StandsFor f entries) (sym (s.durable c left)) sound)
