-- A VALUE index is written only where it changes.
use Rattle.std.proofs.Common.{◌≡◌, ℕ, Bool, true, false, not, cond, ◌||◌, List, [], ◌∷◌, ◌++◌, Option, Some, None, inl, inr, refl, sym, ap, subst, ◌∙◌}
use Rattle.std.proofs.lemmas.Bool.{and_from, and_parts, or_cases, or_left, true≢false}
use Rattle.std.proofs.lemmas.Cmp.{tied_itself, nat_list_cmp_total}
use Rattle.std.specs.FinMap.{get}
use Rattle.std.specs.List.{list_any}
use Rattle.std.specs.Ordering.{is_eq}
use Rattle.tuple_codec.specs.Item.{Item}
use Rattle.tuple_codec.specs.Spelling.{spelling}
use Rattle.kv_core.specs.Change.{write_ranges}
use Rattle.kv_core.specs.Map.{Map, after_all, value_after, value_after_all}
use Rattle.kv_core.specs.declared.change.Mutation.{Mutation}
use Rattle.kv_core.specs.Range.{contains, covers, point}
use Rattle.kv_core.proofs.Changes.{get-after_all-value}
use Rattle.kv_core.proofs.Order.{tied_keys, tied_swap}
use Rattle.kv_core.proofs.Pairs.{contains-point-is}
use Rattle.metadata.specs.declared.index.IndexDefinition.{IndexDefinition}
use Rattle.metadata.specs.Record.{Record}
use Rattle.metadata.specs.Records.{IsStorable, has_primary_key, without_record}
use Rattle.index_maint.specs.Entries.{IndexEntry, entry_items, entry_of, is_indexed, same_entry}
use Rattle.index_maint.specs.Layout.{entries_prefix, entry_key}
use Rattle.index_maint.specs.Changes.{HasEntries, clear_entry, entry_changes, set_entry, value_changes}
use Rattle.index_maint.specs.Laws.{IsIndexed, IsReplacement, OnlyChanges}
use Rattle.index_maint.proofs.EntryKeys.{same_key}
use Rattle.index_maint.proofs.RecordLists.{all_filter}
use Rattle.index_maint.proofs.Replaced.{HaveNot, found_storable, none_without}
use Rattle.index_maint.proofs.ValueLaw.{alone_there, any_before, changed, entry_alone, has_entry, held_entries, holds_of, is_entry_key, there}

-- the key is that of the entry, if there is one
abbrev pub is_key_of : List ℕ → ℕ → List ℕ → Option IndexEntry → Bool
is_key_of prefix number at None = false
is_key_of prefix number at (Some entry) = is_entry_key prefix number at entry

point_covers : (prefix : List ℕ) (number : ℕ) (at : List ℕ) (entry : IndexEntry) → contains (point (entry_key prefix number entry)) at ≡ is_entry_key prefix number at entry
point_covers prefix number at entry = contains-point-is (entry_key prefix number entry) at ∙ tied_swap (entry_key prefix number entry) at

pub or_false : (b : Bool) → (b || false) ≡ b
or_false true = refl
or_false false = refl

-- COVERED: the changes cover the keys of the old entry and of the new one, where these aren't the same, and nothing else
pub covered : (prefix : List ℕ) (number : ℕ) (at : List ℕ) (old new : Option IndexEntry) → covers (write_ranges (entry_changes prefix number old new)) at ≡ true →
    (is_key_of prefix number at old || is_key_of prefix number at new) ≡ true
covered prefix number at None None h = h
covered prefix number at None (Some new) h = sym (ap (λ b. b || false) (point_covers prefix number at new) ∙ or_false (is_entry_key prefix number at new)) ∙ h
covered prefix number at (Some old) None h = sym (ap (λ b. b || false) (point_covers prefix number at old)) ∙ h
covered prefix number at (Some old) (Some new) h = by_same (same_entry old new) h
  where
    by_same : (t : Bool) → covers (write_ranges (cond t [] (clear_entry prefix number old ∷ set_entry prefix number new ∷ []))) at ≡ true →
        (is_entry_key prefix number at old || is_entry_key prefix number at new) ≡ true
    by_same true h = absurd (true≢false (sym h))
    by_same false h =
        sym ((λ i. point_covers prefix number at old i || (point_covers prefix number at new i || false)) ∙ ap (λ b. is_entry_key prefix number at old || b) (or_false (is_entry_key prefix number at new))) ∙ h

-- the changes cover nothing where the entries are the same
pub covered_other : (prefix : List ℕ) (number : ℕ) (at : List ℕ) (old new : IndexEntry) → covers (write_ranges (entry_changes prefix number (Some old) (Some new))) at ≡ true → same_entry old new ≡ false
covered_other prefix number at old new h = by_same (same_entry old new) h
  where
    by_same : (t : Bool) → covers (write_ranges (cond t [] (clear_entry prefix number old ∷ set_entry prefix number new ∷ []))) at ≡ true → t ≡ false
    by_same true h = absurd (true≢false (sym h))
    by_same false h = refl

there-injective : (a b : Bool) → there a ≡ there b → a ≡ b
there-injective true true same = refl
there-injective true false same = cc
there-injective false true same = cc
there-injective false false same = refl

module _ (prefix : List ℕ) (index : IndexDefinition) (key : List Item) (old new : Option Record) (records : List Record) (m : Map)
    (given : IsReplacement key old new records) (before : IsIndexed index old) (after : IsIndexed index new) (has : HasEntries prefix index records m) where
  abbrev others : List Record
  others = without_record key records

  -- the test of the records that have an entry here
  abbrev here : List ℕ → Record → Bool
  here at = has_entry prefix index at

  -- what is there before and after, at a key under the index's prefix
  before_at : (bytes : List ℕ) → get m (entries_prefix prefix index.number ++ bytes)
      ≡ there (holds_of (here (entries_prefix prefix index.number ++ bytes)) old || list_any (here (entries_prefix prefix index.number ++ bytes)) others)
  before_at bytes = held_entries prefix index records m bytes has ∙ ap there (any_before (here (entries_prefix prefix index.number ++ bytes)) key old new records given)

  after_at : (bytes : List ℕ) → get (after_all (value_changes prefix index old new) m) (entries_prefix prefix index.number ++ bytes)
      ≡ there (holds_of (here (entries_prefix prefix index.number ++ bytes)) new || list_any (here (entries_prefix prefix index.number ++ bytes)) others)
  after_at bytes =
      let at = entries_prefix prefix index.number ++ bytes in
      get-after_all-value (value_changes prefix index old new) m at
      ∙ ap (value_after_all (value_changes prefix index old new) at) (before_at bytes)
      ∙ changed prefix index at old new (list_any (here at) others) before after (alone_there prefix index at key old new records given)

  -- where a key keeps what it has and no other record has an entry there, both records have one there or neither has
  both_or_neither : (bytes : List ℕ) → list_any (here (entries_prefix prefix index.number ++ bytes)) others ≡ false →
      get (after_all (value_changes prefix index old new) m) (entries_prefix prefix index.number ++ bytes) ≡ get m (entries_prefix prefix index.number ++ bytes) →
      holds_of (here (entries_prefix prefix index.number ++ bytes)) new ≡ holds_of (here (entries_prefix prefix index.number ++ bytes)) old
  both_or_neither bytes alone same =
      let p = here (entries_prefix prefix index.number ++ bytes) in
      let rest = list_any p others in
      sym (ap (λ b. holds_of p new || b) alone ∙ or_false (holds_of p new))
      ∙ there-injective (holds_of p new || rest) (holds_of p old || rest) (sym (after_at bytes) ∙ same ∙ before_at bytes)
      ∙ (ap (λ b. holds_of p old || b) alone ∙ or_false (holds_of p old))

-- no other record has the new one's entry
pub new_alone : (prefix : List ℕ) (index : IndexDefinition) (at : List ℕ) (key : List Item) (old : Option Record) (new : Record) (records : List Record) → IsReplacement key old (Some new) records →
    is_entry_key prefix index.number at (entry_of index new) ≡ true → list_any (has_entry prefix index at) (without_record key records) ≡ false
new_alone prefix index at key old new records given is =
    entry_alone prefix index at new (without_record key records) given.newer.0 (all_filter IsStorable (λ r. not (has_primary_key key r)) records given.storable)
    (subst (λ k. HaveNot k (without_record key records)) (sym given.newer.1) (none_without key records)) is

-- the bytes behind the prefix of the key of a record's entry
abbrev pub bytes_of : IndexDefinition → Record → List ℕ
bytes_of index r = spelling (entry_items (entry_of index r))

-- the key is at such bytes
pub at_entry : (prefix : List ℕ) (index : IndexDefinition) (at : List ℕ) (r : Record) → is_entry_key prefix index.number at (entry_of index r) ≡ true → at ≡ entries_prefix prefix index.number ++ bytes_of index r
at_entry prefix index at r is = tied_keys at (entry_key prefix index.number (entry_of index r)) is

-- a key that the writes cover doesn't keep what it has
keeps_none : (prefix : List ℕ) (index : IndexDefinition) (key : List Item) (old new : Option Record) (records : List Record) (m : Map) (at : List ℕ) →
    IsReplacement key old new records → IsIndexed index old → IsIndexed index new → HasEntries prefix index records m →
    covers (write_ranges (value_changes prefix index old new)) at ≡ true → get (after_all (value_changes prefix index old new) m) at ≡ get m at → ⊥
keeps_none prefix index key None None records m at given before after has covers_at same = true≢false (sym covers_at)
keeps_none prefix index key None (Some new) records m at given before after has covers_at same =
    let is = covered prefix index.number at None (Some (entry_of index new)) covers_at in
    let there_at = at_entry prefix index at new is in
    let is_there = subst (λ a. is_entry_key prefix index.number a (entry_of index new) ≡ true) there_at is in
    let alike = both_or_neither prefix index key None (Some new) records m given before after has (bytes_of index new)
    (new_alone prefix index (entries_prefix prefix index.number ++ bytes_of index new) key None new records given is_there)
    (subst (λ a. get (after_all (value_changes prefix index None (Some new)) m) a ≡ get m a) there_at same) in
    true≢false (sym (and_from _ _ after is_there) ∙ alike)
keeps_none prefix index key (Some old) None records m at given before after has covers_at same =
    let is = sym (or_false (is_entry_key prefix index.number at (entry_of index old))) ∙ covered prefix index.number at (Some (entry_of index old)) None covers_at in
    let there_at = at_entry prefix index at old is in
    let is_there = subst (λ a. is_entry_key prefix index.number a (entry_of index old) ≡ true) there_at is in
    let alike = both_or_neither prefix index key (Some old) None records m given before after has (bytes_of index old)
    (alone_there prefix index (entries_prefix prefix index.number ++ bytes_of index old) key (Some old) None records given is_there)
    (subst (λ a. get (after_all (value_changes prefix index (Some old) None) m) a ≡ get m a) there_at same) in
    true≢false (sym (and_from _ _ before is_there) ∙ sym alike)
keeps_none prefix index key (Some old) (Some new) records m at given before after has covers_at same =
    elim (or_cases _ _ (covered prefix index.number at (Some (entry_of index old)) (Some (entry_of index new)) covers_at)) [
      | inl is ↦
          let there_at = at_entry prefix index at old is in
          let place = entries_prefix prefix index.number ++ bytes_of index old in
          let is_there = subst (λ a. is_entry_key prefix index.number a (entry_of index old) ≡ true) there_at is in
          let alike = both_or_neither prefix index key (Some old) (Some new) records m given before after has (bytes_of index old)
          (alone_there prefix index place key (Some old) (Some new) records given is_there)
          (subst (λ a. get (after_all (value_changes prefix index (Some old) (Some new)) m) a ≡ get m a) there_at same) in
          differ place is_there (and_parts (is_indexed index new) (is_entry_key prefix index.number place (entry_of index new)) (alike ∙ and_from _ _ before is_there)).1
      | inr is ↦
          let there_at = at_entry prefix index at new is in
          let place = entries_prefix prefix index.number ++ bytes_of index new in
          let is_there = subst (λ a. is_entry_key prefix index.number a (entry_of index new) ≡ true) there_at is in
          let alike = both_or_neither prefix index key (Some old) (Some new) records m given before after has (bytes_of index new)
          (new_alone prefix index place key (Some old) new records given is_there)
          (subst (λ a. get (after_all (value_changes prefix index (Some old) (Some new)) m) a ≡ get m a) there_at same) in
          differ place (and_parts (is_indexed index old) (is_entry_key prefix index.number place (entry_of index old)) (sym alike ∙ and_from _ _ after is_there)).1 is_there
    ]
  where
    differ : (place : List ℕ) → is_entry_key prefix index.number place (entry_of index old) ≡ true → is_entry_key prefix index.number place (entry_of index new) ≡ true → ⊥
    differ place is_old is_new =
        true≢false
        (sym (same_key prefix index.number index old new (found_storable key old records given.storable (sym given.found)).0 given.newer.0
        (sym (tied_keys place (entry_key prefix index.number (entry_of index old)) is_old) ∙ tied_keys place (entry_key prefix index.number (entry_of index new)) is_new))
        ∙ covered_other prefix index.number at (entry_of index old) (entry_of index new) covers_at)

-- LAW: only what changes is written
pub value_only_changes : OnlyChanges HasEntries value_changes
value_only_changes prefix index key old new records m at given before after has covers_at same =
    absurd (keeps_none prefix index key old new records m at given before after has covers_at same)

-- ---- what the law refuses

-- an entry that stays is taken out and put in again
abbrev rewriting : List ℕ → IndexDefinition → Option Record → Option Record → List Mutation
rewriting prefix index old new = value_changes prefix index old None ++ value_changes prefix index None new

-- that isn't lawful, wherever a record gives way to itself
pub rewriting_refused : (prefix : List ℕ) (index : IndexDefinition) (key : List Item) (r : Record) (records : List Record) (m : Map) →
    IsReplacement key (Some r) (Some r) records → is_indexed index r ≡ true → HasEntries prefix index records m → OnlyChanges HasEntries rewriting → ⊥
rewriting_refused prefix index key r records m given indexed has law =
    let at = entry_key prefix index.number (entry_of index r) in
    let is : is_entry_key prefix index.number at (entry_of index r) ≡ true = ap is_eq (tied_itself nat_list_cmp_total at) in
    let stands : get m at ≡ Some [] =
    before_at prefix index key (Some r) (Some r) records m given indexed indexed has (bytes_of index r)
    ∙ ap (λ b. there (b || list_any (has_entry prefix index at) (without_record key records))) (and_from (is_indexed index r) (is_entry_key prefix index.number at (entry_of index r)) indexed is) in
    let again : get (after_all (rewriting prefix index (Some r) (Some r)) m) at ≡ Some [] =
    get-after_all-value (rewriting prefix index (Some r) (Some r)) m at
    ∙ ap (λ b. cond b (Some []) (value_after (clear_entry prefix index.number (entry_of index r)) at (get m at))) is in
    let none : get m at ≡ None =
    law prefix index key (Some r) (Some r) records m at given indexed indexed has
    (or_left _ _ (point_covers prefix index.number at (entry_of index r) ∙ is)) (again ∙ sym stands) in
    cc
