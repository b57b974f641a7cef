-- What a crash leaves while the end of a file is repaired.
use Rattle.std.proofs.Common.{◌≡◌, ⊎_elim, ℕ, zero, suc, ◌+◌, ◌-◌, ◌<◌, ◌≤◌, ◌^◌, List, [], ◌∷◌, ◌++◌, length, take, drop, max, min, replicate, refl, sym, ◌∙◌, ap, ap₂, subst, arith, length-append, length-take, length-drop}
use Rattle.std.proofs.lemmas.List.{take_at, drop-drop, take-append-drop}
use Rattle.journal.specs.Device.{IsMixed, Torn, Cut, LeftBy, Only, Elapses}
use Rattle.journal.specs.Form.{file_blocks}
use Rattle.journal.specs.Block.{StandsFor}
use Rattle.journal.specs.Journal.{entries_read, batches_read, IsKeptAtRest, IsBlocksAndZeros}
use Rattle.journal.specs.Recovery.{EntriesEndAt}
use Rattle.journal.proofs.Bounds.{end_front}
use Rattle.journal.proofs.Firsts.{IsEnd, none, closed, last, end_is, end_from}
use Rattle.journal.proofs.Moments.{Run, begins, calls}
use Rattle.journal.proofs.Parts.{before_at}
use Rattle.journal.proofs.Readings.{joined_read, stands_end}
use Rattle.journal.proofs.Settled.{stands_zeros, batches_zeros, kept_zeros}

short_is_end : (bytes : List ℕ) → length bytes ≤ 1 → IsEnd bytes
short_is_end [] few = none
short_is_end (gate ∷ []) few = last gate
short_is_end (gate ∷ byte ∷ bytes) few = absurd (omega arith)

-- an end with a zero over its first byte, or behind it where it has none
zero_end : (old new : List ℕ) → IsEnd old → IsMixed old (0 ∷ []) new → drop 1 new ≡ drop 1 old → length new ≤ max (length old) 1 → IsEnd new
zero_end [] new ends mixed same few = short_is_end new (omega (arith, few))
zero_end (gate ∷ old) [] ends mixed same few = absurd mixed
zero_end (gate ∷ old) (here ∷ new) ends mixed same few =
    ⊎_elim
    (λ still. subst IsEnd (sym (ap₂ (λ (b : ℕ) (l : List ℕ). b ∷ l) still same)) ends)
    (λ shut. subst (λ (b : ℕ). IsEnd (b ∷ new)) (sym shut) (closed new))
    mixed.0

module _ (file : List ℕ) (end : ℕ) (e : EntriesEndAt file end) (small : length file < 2 ^ 63) where
  abbrev pub batches : List (List (List ℕ))
  batches = batches_read file

  abbrev pub entries : List (List ℕ)
  entries = entries_read file

  abbrev tail : List ℕ
  tail = drop end file

  long : length file ≡ end + length tail
  long = omega (arith, ap length e.split, length-append (file_blocks batches) tail, e.place)

  pub within : end ≤ length file
  within = omega (arith, long)

  size : length (file_blocks batches) < 2 ^ 64
  size = omega (arith, long, e.place, small)

  kept_stands : (d : List ℕ) → take end d ≡ file_blocks batches → IsEnd (drop end d) → StandsFor d entries
  kept_stands d front ends =
      let is : d ≡ file_blocks batches ++ drop end d = sym (take-append-drop end d) ∙ ap (λ (l : List ℕ). l ++ drop end d) front in
      subst (λ f. StandsFor f entries) (sym is) (subst (λ es. StandsFor (file_blocks batches ++ drop end d) es) (sym (joined_read file)) (stands_end batches (drop end d) size (end_is _ ends)))

  pub cut_done : take end file ≡ file_blocks batches
  cut_done = ap (λ (l : List ℕ). take end l) e.split ∙ take_at (file_blocks batches) tail end e.place

  pub whole : StandsFor file entries
  whole = kept_stands file cut_done (end_from tail e.nothing)

  -- zeros before the tail are an end, as the tail is
  zeros_end : (zeros : ℕ) → IsEnd (replicate zeros 0 ++ drop (end + zeros) file)
  zeros_end zero = let none : end ≡ end + 0 = omega arith in subst (λ (k : ℕ). IsEnd (drop k file)) none (end_from tail e.nothing)
  zeros_end (suc zeros) = closed (replicate zeros 0 ++ drop (end + suc zeros) file)

  -- any cut keeps the entries
  cut_front : (c : List ℕ) → Cut end file c → take end c ≡ file_blocks batches
  cut_front c cut = let all : min end (length file) ≡ end = omega (arith, within) in ap (λ (k : ℕ). take k c) (sym all) ∙ cut.front ∙ cut_done

  cut_end : (c : List ℕ) → Cut end file c → IsEnd (drop end c)
  cut_end c cut = subst IsEnd (sym cut.behind) (end_front (length c - end) (replicate cut.zeros 0 ++ drop (end + cut.zeros) file) (zeros_end cut.zeros))

  -- and so does a zero behind them
  zero_keeps : (d c : List ℕ) → take end d ≡ file_blocks batches → IsEnd (drop end d) → Torn end (0 ∷ []) d c → StandsFor c entries
  zero_keeps d c front ends torn =
      let far : end ≤ length d = omega (arith, ap length front, length-take end d, e.place) in
      let same : drop 1 (drop end c) ≡ drop 1 (drop end d) = drop-drop 1 end c ∙ torn.after ∙ sym (drop-drop 1 end d) in
      kept_stands c (before_at end (0 ∷ []) d c torn far ∙ front)
      (zero_end (drop end d) (drop end c) ends torn.range same (omega (arith, length-drop end c, length-drop end d, torn.no_longer, far)))

  pub left_by_none : (may_leave : List ℕ → Type 0) → Only file may_leave → (c : List ℕ) → may_leave c → StandsFor c entries
  left_by_none may_leave only c left = subst (λ f. StandsFor f entries) (sym (only c left)) whole

  left_by_cut : (old new : List ℕ → Type 0) → Only file old → LeftBy (Cut end) old new → (c : List ℕ) → new c → StandsFor c entries
  left_by_cut old new only follows c left =
      let from = follows c left in
      let cut : Cut end file c = subst (λ f. Cut end f c) (only from.0 from.1) from.2 in
      kept_stands c (cut_front c cut) (cut_end c cut)

  left_by_zero : (old cut new : List ℕ → Type 0) → Only file old → LeftBy (Cut end) old cut → LeftBy (Torn end (0 ∷ [])) cut new → (c : List ℕ) → new c → StandsFor c entries
  left_by_zero old cut new only cuts follows c left =
      let from = follows c left in
      let before = cuts from.0 from.1 in
      let is_cut : Cut end file from.0 = subst (λ f. Cut end f from.0) (only before.0 before.1) before.2 in
      zero_keeps from.0 c (cut_front from.0 is_cut) (cut_end from.0 is_cut) from.2

  -- what is left of it, and a zero
  pub closed_again : (mid new : List ℕ) → mid ≡ file → new ≡ take end mid ++ 0 ∷ [] → new ≡ file_blocks batches ++ 0 ∷ []
  closed_again mid new same is = is ∙ ap (λ (f : List ℕ). take end f ++ 0 ∷ []) same ∙ ap (λ (l : List ℕ). l ++ 0 ∷ []) cut_done

  module _ (new : List ℕ) (is : new ≡ file_blocks batches ++ 0 ∷ []) where
    pub stands_again : StandsFor new entries
    stands_again = subst (λ es. StandsFor new es) (sym (joined_read file)) (stands_zeros batches 1 new is (omega arith) size)

    pub rests : IsBlocksAndZeros new
    rests = record { room = 0; file_is = is ∙ ap (λ (b : List (List (List ℕ))). file_blocks b ++ 0 ∷ []) (sym (batches_zeros batches 1 new is (omega arith) size)) }

  pub settled_again : {D : Type 0} (seen : D → List ℕ) (may_leave : D → List ℕ → Type 0) (new : D) → seen new ≡ file_blocks batches ++ 0 ∷ [] → Only (seen new) (may_leave new) → IsKeptAtRest seen may_leave new end (end + 1)
  settled_again seen may_leave new is only = kept_zeros batches 1 (seen new) is (omega arith) size seen may_leave new end (end + 1) refl refl e.place (omega (arith, within, small)) only

-- the two steps, over what is seen before them
module _ {D : Type 0} (seen : D → List ℕ) (may_leave : D → List ℕ → Type 0) (old : D) (end : ℕ) (e : EntriesEndAt (seen old) end) (small : length (seen old) < 2 ^ 63) (only : Only (seen old) (may_leave old))
    (moment : D → ℕ) (left_since : D → ℕ → List ℕ → Type 0) (only_now : (file : D) (c : List ℕ) → left_since file (moment file) c → may_leave file c) where
  abbrev Stands : List ℕ → Type 0
  Stands c = StandsFor c (entries_read (seen old))

  pub run_cut : (one : D) → LeftBy (Cut end) (may_leave old) (may_leave one) → Elapses (moment old) (moment one) (left_since old) (left_since one) (may_leave one) → Run may_leave moment left_since Stands old one
  run_cut one crash time =
      calls may_leave moment left_since Stands old old one (begins may_leave moment left_since Stands old only_now (left_by_none (seen old) end e small (may_leave old) only)) time
      (left_by_cut (seen old) end e small (may_leave old) (may_leave one) only crash)

  pub run_zero : (one two : D) → Run may_leave moment left_since Stands old one → LeftBy (Cut end) (may_leave old) (may_leave one) → LeftBy (Torn end (0 ∷ [])) (may_leave one) (may_leave two)
      → Elapses (moment one) (moment two) (left_since one) (left_since two) (may_leave two) → Run may_leave moment left_since Stands old two
  run_zero one two run cuts crash time =
      calls may_leave moment left_since Stands old one two run time (left_by_zero (seen old) end e small (may_leave old) (may_leave one) (may_leave two) only cuts crash)
