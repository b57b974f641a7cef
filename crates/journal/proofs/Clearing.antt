-- What a crash leaves while all entries of a file are dropped.
use Rattle.std.proofs.Common.{◌≡◌, ◌⊎◌, inl, inr, ⊎_elim, ℕ, ◌<◌, ◌≤◌, List, [], ◌∷◌, length, take, drop, min, refl, sym, ◌∙◌, ap, subst, arith}
use Rattle.journal.specs.Device.{HasWritten, IsMixed, Torn, Cut, LeftBy, Only, Elapses}
use Rattle.journal.specs.Block.{StandsFor}
use Rattle.journal.specs.Journal.{entries_read, IsBeforeOrNone, IsKeptAtRest}
use Rattle.journal.proofs.Settled.{kept_zeros, sound, length-seen, left_now}
use Rattle.journal.proofs.Moments.{Run, begins, calls}
use Rattle.journal.proofs.Readings.{stands_closed}

-- a file whose first gate is shut has no entry
shut_first : (rest : List ℕ) → StandsFor (0 ∷ rest) []
shut_first rest = stands_closed [] rest (omega arith)

-- the first byte stays as it is, or is shut
torn_first : (file c : List ℕ) → 0 < length file → IsMixed file (0 ∷ []) c → drop 1 c ≡ drop 1 file → (c ≡ file) ⊎ ((rest : List ℕ) × (c ≡ 0 ∷ rest))
torn_first [] c some mixed same = absurd (omega arith)
torn_first (gate ∷ file) [] some mixed same = absurd mixed
torn_first (gate ∷ file) (here ∷ c) some mixed same =
    ⊎_elim
    (λ still. inl (ap (λ (b : ℕ). b ∷ c) still ∙ ap (λ (l : List ℕ). gate ∷ l) same))
    (λ shut. inr (c, ap (λ (b : ℕ). b ∷ c) shut))
    mixed.0

-- what is behind a shut gate is cut
cut_behind : (rest c : List ℕ) → Cut 1 (0 ∷ rest) c → StandsFor c []
cut_behind rest [] cut = absurd (omega (arith, cut.no_shorter))
cut_behind rest (gate ∷ more) cut =
    let one : min 1 (length (0 ∷ rest)) ≡ 1 = omega arith in
    let front : gate ∷ [] ≡ 0 ∷ [] = ap (λ (k : ℕ). take k (gate ∷ more)) (sym one) ∙ cut.front in
    let is : gate ≡ 0 = cc front in
    subst (λ (g : ℕ). StandsFor (g ∷ more) []) (sym is) (shut_first more)

pub none_stands : StandsFor (0 ∷ []) []
none_stands = shut_first []

-- the calls, over what is seen before them
module _ {D : Type 0} (seen : D → List ℕ) (may_leave : D → List ℕ → Type 0) (old : D) (end len : ℕ) (s : IsKeptAtRest seen may_leave old end len) where
  abbrev IsLeft : List ℕ → Type 0
  IsLeft = IsBeforeOrNone (entries_read (seen old))

  pub is_there : 1 ≤ length (seen old)
  is_there = omega (arith, length-seen seen may_leave old end len s, s.room)

  left_at_first : (c : List ℕ) → may_leave old c → IsLeft c
  left_at_first = left_now seen may_leave old end len s IsLeft (λ c stands. inl stands)

  torn_gate : (c : List ℕ) → Torn 0 (0 ∷ []) (seen old) c → IsLeft c
  torn_gate c torn =
      ⊎_elim
      (λ same. inl (subst (λ f. StandsFor f (entries_read (seen old))) (sym same) (sound seen may_leave old end len s)))
      (λ shut. inr (subst (λ f. StandsFor f []) (sym shut.1) (shut_first shut.0)))
      (torn_first (seen old) c is_there torn.range torn.after)

  left_by_gate : (one : D) → LeftBy (Torn 0 (0 ∷ [])) (may_leave old) (may_leave one) → (c : List ℕ) → may_leave one c → IsLeft c
  left_by_gate one crash c left =
      let from = crash c left in
      torn_gate c (subst (λ f. Torn 0 (0 ∷ []) f c) (s.durable from.0 from.1) from.2)

  -- the gate is shut
  pub shut_is : (one : D) → HasWritten (seen old) 0 (0 ∷ []) (seen one) → seen one ≡ 0 ∷ drop 1 (seen old)
  shut_is one holds = holds

  left_by_cut : (one two three : D) → HasWritten (seen old) 0 (0 ∷ []) (seen one) → Only (seen one) (may_leave two) → LeftBy (Cut 1) (may_leave two) (may_leave three) → (c : List ℕ) → may_leave three c → IsLeft c
  left_by_cut one two three holds only crash c left =
      let from = crash c left in
      inr (cut_behind (drop 1 (seen old)) c (subst (λ f. Cut 1 f c) (only from.0 from.1 ∙ shut_is one holds) from.2))

  module _ (moment : D → ℕ) (left_since : D → ℕ → List ℕ → Type 0) (only_now : (file : D) (c : List ℕ) → left_since file (moment file) c → may_leave file c) where
    pub run_shut : (one : D) → LeftBy (Torn 0 (0 ∷ [])) (may_leave old) (may_leave one) → Elapses (moment old) (moment one) (left_since old) (left_since one) (may_leave one) → Run may_leave moment left_since IsLeft old one
    run_shut one crash time =
        calls may_leave moment left_since IsLeft old old one (begins may_leave moment left_since IsLeft old only_now left_at_first) time (left_by_gate one crash)

    pub run_cut : (one two three : D) → Run may_leave moment left_since IsLeft old two → HasWritten (seen old) 0 (0 ∷ []) (seen one) → Only (seen one) (may_leave two) → LeftBy (Cut 1) (may_leave two) (may_leave three)
        → Elapses (moment two) (moment three) (left_since two) (left_since three) (may_leave three) → Run may_leave moment left_since IsLeft old three
    run_cut one two three run holds only crash time =
        calls may_leave moment left_since IsLeft old two three run time (left_by_cut one two three holds only crash)

-- the file has no entry then
pub settled_none : {D : Type 0} (seen : D → List ℕ) (may_leave : D → List ℕ → Type 0) (new : D) → seen new ≡ 0 ∷ [] → Only (seen new) (may_leave new) → IsKeptAtRest seen may_leave new 0 1
settled_none seen may_leave new is only = kept_zeros [] 1 (0 ∷ []) refl (omega arith) (omega arith) seen may_leave new 0 1 is refl refl (omega arith) only
