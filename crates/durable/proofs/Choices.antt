-- Which of two files is gone on with: the one that has the history.
use Rattle.std.proofs.Common.{◌≡◌, ℕ, ◌<◌, inl, inr, ◌⊎◌, true, false, List, [], ◌∷◌, ◌++◌, length, refl, sym, ap, ap₂, subst, ◌∙◌, arith, lt-ltb}
use Rattle.std.specs.Prelude.{None}
use Rattle.std.proofs.lemmas.Bool.{eq-eqb, eqb-true, ltb-true, or_cases, or_left, or_right, true≢false}
use Rattle.std.proofs.lemmas.List.{nil_from_length}
use Rattle.journal.specs.Block.{StandsFor}
use Rattle.journal.specs.Device.{Only}
use Rattle.journal.specs.Journal.{entries_read}
use Rattle.command_log.specs.declared.entry.Entry.{Entry}
use Rattle.replay.specs.Logged.{IsLawfulLog}
use Rattle.replay.specs.Replaying.{AreWrittenAs, Image}
use Rattle.durable.specs.Checkpoints.{HasHistory, HaveHistory, IsBaseOf, IsCheckpoint, IsCurrent, IsOlder}
use Rattle.durable.specs.Heads.{generation_of, head_before}
use Rattle.durable.specs.Keeping.{Base, no_base}
use Rattle.durable.specs.Reopening.{IsLoaded, IsLogOn, is_current}
use Rattle.durable.specs.Twofold.{KeepsHistory}
use Rattle.durable.proofs.Histories.{generation_is, log_on, read_is, read_whole}
use Rattle.durable.proofs.Loading.{head_first}

written_none : (log : List (List ℕ)) (entries : List Entry) → AreWrittenAs log entries → log ≡ [] → entries ≡ []
written_none [] [] are none = refl
written_none [] (entry ∷ entries) are none = absurd are
written_none (bytes ∷ log) entries are none = absurd (cc none)

-- the byte strings of a file that has a history
module _ (file : List ℕ) (generation : ℕ) (entries : List Entry) (has : HasHistory file generation entries) where
  abbrev log : List (List ℕ)
  log = has.base.front ++ has.log.0

  pub are_read : entries_read file ≡ log
  are_read = read_is file log has.log.2

  pub on : IsLogOn (entries_read file) has.base has.after
  on = subst (λ l. IsLogOn l has.base has.after) (sym are_read) (log_on file generation has.base has.after has.is_base has.log)

  pub is_generation : generation_of (entries_read file) ≡ generation
  is_generation = ap generation_of are_read ∙ generation_is log has.base has.after (log_on file generation has.base has.after has.is_base has.log)

  -- it isn't the older one
  pub is_newer : (other : List ℕ) → IsOlder other generation → is_current (entries_read file) (entries_read other) ≡ true
  is_newer other is = by_kind is.older
    where
      by_kind : (entries_read other ≡ []) ⊎ (generation_of (entries_read other) < generation) → is_current (entries_read file) (entries_read other) ≡ true
      by_kind (inl none) = or_left _ _ (eq-eqb (length (entries_read other)) 0 (ap length none))
      by_kind (inr less) = or_right _ _ (lt-ltb (generation_of (entries_read other)) (generation_of (entries_read file)) (omega (arith, less, is_generation)))

  -- one that has nothing has the history of no transaction
  pub of_nothing : entries_read file ≡ [] → (generation ≡ 0) × (entries ≡ [])
  of_nothing none = by_kind has.is_base
    where
      by_kind : IsBaseOf generation has.base → (generation ≡ 0) × (entries ≡ [])
      by_kind (inr point) =
          let some = head_first (entries_read file) has.base has.after on (subst (λ g. IsCheckpoint g has.base) (sym same) point) in
          absurd (let no : head_before (entries_read file) ≡ None = ap head_before none in cc (some, no))
        where
          same : on.generation ≡ generation
          same = sym (generation_is (entries_read file) has.base has.after on) ∙ is_generation
      by_kind (inl first) =
          let nothing : log ≡ [] = sym are_read ∙ none in
          let written : has.log.0 ≡ [] = ap (λ (b : Base). b.front ++ has.log.0) (sym first.1) ∙ nothing in
          let after : has.after ≡ [] = written_none has.log.0 has.after has.log.1 written in
          (first.0, sym has.split ∙ ap₂ (λ (b : Base) es. b.before ++ es) first.1 after)

-- the same of a file that is read alike
pub moved : (file other : List ℕ) (generation : ℕ) (entries : List Entry) → HasHistory file generation entries → StandsFor other (entries_read file) → HasHistory other generation entries
moved file other generation entries has stands = record {
  base = has.base;
  after = has.after;
  split = has.split;
  is_base = has.is_base;
  log = (has.log.0, has.log.1, subst (StandsFor other) (are_read file generation entries has) stands);
}

-- ---- the two files

nothing_current : (entries : List Entry) (file other : List ℕ) (generation : ℕ) → HasHistory other generation entries → IsOlder file generation → StandsFor other (entries_read other) → entries_read other ≡ [] → IsCurrent entries file other
nothing_current entries file other generation has older whole none =
    let told = of_nothing other generation entries has none in
    let nothing : entries_read file ≡ [] = no_older older.older told.0 in
    record {
      generation = 0;
      has = record { base = no_base; after = []; split = sym told.1; is_base = inl (refl, refl); log = ([], tt, subst (StandsFor file) nothing older.whole) };
      older = record { whole = whole; older = inl none };
    }
  where
    no_older : (entries_read file ≡ []) ⊎ (generation_of (entries_read file) < generation) → generation ≡ 0 → entries_read file ≡ []
    no_older (inl is) zero = is
    no_older (inr less) zero = absurd (omega (arith, less, zero))

-- the first one is gone on with
pub first_current : (entries : List Entry) (first second : List ℕ) → is_current (entries_read first) (entries_read second) ≡ true → HaveHistory entries first second → IsCurrent entries first second
first_current entries first second newer (inl is) = is
first_current entries first second newer (inr is) = elim (or_cases _ _ newer) [
  | inl none ↦ nothing_current entries first second is.generation is.has is.older (read_whole second _ is.has.log.2) (nil_from_length _ (eqb-true (length (entries_read second)) 0 none))
  | inr less ↦ absurd (not_both is.older.older (ltb-true _ _ less))
]
  where
    not_both : (entries_read first ≡ []) ⊎ (generation_of (entries_read first) < is.generation) → generation_of (entries_read second) < generation_of (entries_read first) → ⊥
    not_both (inl none) less = let zero : generation_of (entries_read first) ≡ 0 = ap generation_of none in omega (arith, zero, less)
    not_both (inr below) less = omega (arith, below, less, is_generation second is.generation entries is.has)

-- or the second one
pub second_current : (entries : List Entry) (first second : List ℕ) → is_current (entries_read first) (entries_read second) ≡ false → HaveHistory entries first second → IsCurrent entries second first
second_current entries first second older (inl is) = absurd (true≢false (sym (is_newer first is.generation entries is.has second is.older) ∙ older))
second_current entries first second older (inr is) = is

-- a file is never the older one of its own history
pub some_current : (entries : List Entry) (first second : List ℕ) → is_current (entries_read first) (entries_read second) ≡ false → is_current (entries_read second) (entries_read first) ≡ false → HaveHistory entries first second → ⊥
some_current entries first second one two have =
    let is = second_current entries first second one have in
    true≢false (sym (is_newer second is.generation entries is.has first is.older) ∙ two)

-- what the database keeps then
pub keeps_current : {D : Type 0} (seen : D → List ℕ) (may_leave : D → List ℕ → Type 0) (entries : List Entry) (device spare : D) (generation : ℕ) (image : Image) → (is : IsCurrent entries (seen device) (seen spare)) →
    generation ≡ generation_of (entries_read (seen device)) → IsLoaded (entries_read (seen device)) image → Only (seen device) (may_leave device) → Only (seen spare) (may_leave spare) → KeepsHistory seen may_leave entries generation device spare image
keeps_current seen may_leave entries device spare generation image is told loaded durable spare_durable =
    let has = is.has in
    let same : is.generation ≡ generation = sym (told ∙ is_generation (seen device) is.generation entries has) in
    record {
      base = has.base;
      after = has.after;
      split = has.split;
      is_base = subst (λ g. IsBaseOf g has.base) same has.is_base;
      keeps = record { file = has.log; durable = durable; logged = loaded has.base has.after (on (seen device) is.generation entries has) };
      older = subst (λ g. IsOlder (seen spare) g) same is.older;
      spare_durable = spare_durable;
    }

-- and what isn't loaded is no lawful history
pub not_current : (entries : List Entry) (file other : List ℕ) → IsCurrent entries file other → ((base : Base) (after : List Entry) → IsLogOn (entries_read file) base after → IsLawfulLog (base.before ++ after) → ⊥) → IsLawfulLog entries → ⊥
not_current entries file other is never lawful =
    let has = is.has in
    never has.base has.after (on file is.generation entries has) (subst IsLawfulLog (sym has.split) lawful)
