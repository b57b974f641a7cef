-- A VALUE index follows its records.
use Rattle.std.proofs.Common.{◌≡◌, ℕ, Bool, true, false, not, cond, ◌&&◌, ◌||◌, List, [], ◌∷◌, ◌++◌, map, Option, Some, None, refl, sym, ap, subst, ◌∙◌}
use Rattle.std.proofs.lemmas.Bool.{and_parts, false_from_ne_true, true≢false}
use Rattle.std.proofs.lemmas.List.Sorted.{list_any-IsPermutation}
use Rattle.std.specs.BTreeMap.{is_at}
use Rattle.std.specs.FinMap.{get}
use Rattle.std.specs.List.{AllByRecursion, list_any}
use Rattle.std.specs.Map.{lookup}
use Rattle.std.specs.Option.{option_map}
use Rattle.std.specs.Ordering.{is_eq}
use Rattle.tuple_codec.specs.Item.{Item}
use Rattle.tuple_codec.specs.Order.{tuple_cmp}
use Rattle.tuple_codec.specs.Spelling.{spelling}
use Rattle.tuple_codec.specs.Subspace.{BeginsWith}
use Rattle.kv_core.specs.Bytes.{key_cmp}
use Rattle.kv_core.specs.Map.{Map, after_all, value_after, value_after_all}
use Rattle.kv_core.proofs.Changes.{get-after_all-value}
use Rattle.kv_core.proofs.Order.{tied_keys, tied_swap}
use Rattle.kv_core.proofs.Pairs.{contains-point-is}
use Rattle.kv_core.proofs.Stored.{get-stored, stored}
use Rattle.metadata.specs.declared.index.IndexDefinition.{IndexDefinition}
use Rattle.metadata.specs.Record.{Record, primary_key}
use Rattle.metadata.specs.Records.{IsStorable, has_primary_key, of_type, without_record, with_record}
use Rattle.index_maint.specs.Entries.{IndexEntry, entry_items, entry_of, is_indexed, same_entry}
use Rattle.index_maint.specs.Layout.{entries_prefix, entry_key, entry_pair, entry_pairs}
use Rattle.index_maint.specs.Changes.{HasEntries, clear_entry, entry_changes, set_entry, value_changes}
use Rattle.index_maint.specs.Laws.{IsIndexed, IsOther, IsReplacement, replaced}
use Rattle.index_maint.proofs.EntryKeys.{entries_apart, same_entry-equal}
use Rattle.index_maint.proofs.RecordLists.{all_filter}
use Rattle.index_maint.proofs.Replaced.{HaveNot, found_first, found_none, found_storable, none_without, put_first, skips, tied_tuples, ties}

-- no bytes, where an entry stands
abbrev pub there : Bool → Option (List ℕ)
there b = cond b (Some []) None

-- the key is that of the entry
abbrev pub is_entry_key : List ℕ → ℕ → List ℕ → IndexEntry → Bool
is_entry_key prefix number key entry = is_eq (key_cmp key (entry_key prefix number entry))

-- the key is that of the record's entry
abbrev pub has_entry : List ℕ → IndexDefinition → List ℕ → Record → Bool
has_entry prefix index key r = is_indexed index r && is_entry_key prefix index.number key (entry_of index r)

-- FOUND: among the pairs of entries a key is found where it is that of a record's entry
pub entries_looked_up : (prefix : List ℕ) (index : IndexDefinition) (key : List ℕ) (records : List Record) →
    lookup (is_at (key_cmp key)) (entry_pairs prefix index records) ≡ there (list_any (has_entry prefix index key) records)
entries_looked_up prefix index key [] = refl
entries_looked_up prefix index key (r ∷ records) =
    by_tests (is_indexed index r) (is_entry_key prefix index.number key (entry_of index r)) refl (entries_looked_up prefix index key records)
  where
    by_tests : (b e : Bool) → is_entry_key prefix index.number key (entry_of index r) ≡ e →
        lookup (is_at (key_cmp key)) (entry_pairs prefix index records) ≡ there (list_any (has_entry prefix index key) records) →
        lookup (is_at (key_cmp key)) (map (entry_pair prefix index.number) (map (entry_of index) (cond b (r ∷ of_type index.type_number records) (of_type index.type_number records))))
        ≡ there ((b && e) || list_any (has_entry prefix index key) records)
    by_tests true e is rest = ap (λ t. cond t (Some []) (lookup (is_at (key_cmp key)) (entry_pairs prefix index records))) is ∙ found e rest
      where
        found : (e : Bool) → lookup (is_at (key_cmp key)) (entry_pairs prefix index records) ≡ there (list_any (has_entry prefix index key) records) →
            cond e (Some []) (lookup (is_at (key_cmp key)) (entry_pairs prefix index records)) ≡ there (e || list_any (has_entry prefix index key) records)
        found true rest = refl
        found false rest = rest
    by_tests false e is rest = rest

-- records without the primary key of one don't have its entry
pub entry_alone : (prefix : List ℕ) (index : IndexDefinition) (key : List ℕ) (old : Record) (records : List Record) → IsStorable old → AllByRecursion IsStorable records →
    HaveNot (primary_key old) records → is_entry_key prefix index.number key (entry_of index old) ≡ true → list_any (has_entry prefix index key) records ≡ false
entry_alone prefix index key old [] o storable none is = refl
entry_alone prefix index key old (r ∷ records) o storable none is =
    ap (λ b. b || list_any (has_entry prefix index key) records)
    (false_from_ne_true (has_entry prefix index key r) (λ has. differ (and_parts (is_indexed index r) (is_entry_key prefix index.number key (entry_of index r)) has).1))
    ∙ entry_alone prefix index key old records o storable.1 none.1 is
  where
    differ : is_entry_key prefix index.number key (entry_of index r) ≡ true → ⊥
    differ here =
        let same : primary_key r ≡ primary_key old =
        entries_apart prefix index.number index r old storable.0 o (sym (tied_keys key (entry_key prefix index.number (entry_of index r)) here) ∙ tied_keys key (entry_key prefix index.number (entry_of index old)) is) in
        true≢false (sym (ties r storable.0) ∙ ap (λ k. is_eq (tuple_cmp (primary_key r) k)) same ∙ none.0)

-- ---- what a test finds among records before and after one gives way to another

-- the test holds of the record, if there is one
abbrev pub holds_of : (Record → Bool) → Option Record → Bool
holds_of p None = false
holds_of p (Some r) = p r

pub any_before : (p : Record → Bool) (key : List Item) (old new : Option Record) (records : List Record) → IsReplacement key old new records →
    list_any p records ≡ (holds_of p old || list_any p (without_record key records))
any_before p key None new records given = ap (list_any p) (sym (found_none key records (sym given.found)))
any_before p key (Some old) new records given =
    sym (list_any-IsPermutation p (old ∷ without_record key records) records (found_first key old records given.ordered given.storable (sym given.found)))

pub any_after : (p : Record → Bool) (key : List Item) (old new : Option Record) (records : List Record) → IsReplacement key old new records →
    list_any p (replaced key new records) ≡ (holds_of p new || list_any p (without_record key records))
any_after p key old None records given = refl
any_after p key old (Some new) records given =
    sym (list_any-IsPermutation p (new ∷ without_record (primary_key new) records) (with_record new records) (put_first new records given.newer.0 given.ordered given.storable))
    ∙ ap (λ k. p new || list_any p (without_record k records)) given.newer.1

-- ---- what the writes make of a key

pub cleared : (prefix : List ℕ) (number : ℕ) (key : List ℕ) (entry : IndexEntry) (before : Option (List ℕ)) →
    value_after (clear_entry prefix number entry) key before ≡ cond (is_entry_key prefix number key entry) None before
cleared prefix number key entry before =
    ap (λ b. cond b None before) (contains-point-is (entry_key prefix number entry) key ∙ tied_swap (entry_key prefix number entry) key)

taken : (b e rest : Bool) → b ≡ true → (e ≡ true → rest ≡ false) → cond e None (there ((b && e) || rest)) ≡ there rest
taken true true rest is apart = ap there (sym (apart refl))
taken true false rest is apart = refl
taken false e rest is apart = cc

put : (b e rest : Bool) → b ≡ true → cond e (Some []) (there rest) ≡ there ((b && e) || rest)
put true true rest is = refl
put true false rest is = refl
put false e rest is = cc

-- no other record has the entry of this one, if there is one
abbrev pub IsAlone : List ℕ → IndexDefinition → List ℕ → Option Record → Bool → Type 0
IsAlone prefix index key None rest = Unit {0}
IsAlone prefix index key (Some old) rest = is_entry_key prefix index.number key (entry_of index old) ≡ true → rest ≡ false

pub changed : (prefix : List ℕ) (index : IndexDefinition) (key : List ℕ) (old new : Option Record) (rest : Bool) → IsIndexed index old → IsIndexed index new → IsAlone prefix index key old rest →
    value_after_all (value_changes prefix index old new) key (there (holds_of (has_entry prefix index key) old || rest)) ≡ there (holds_of (has_entry prefix index key) new || rest)
changed prefix index key None None rest a b alone = refl
changed prefix index key None (Some new) rest a b alone = put (is_indexed index new) (is_entry_key prefix index.number key (entry_of index new)) rest b
changed prefix index key (Some old) None rest a b alone =
    cleared prefix index.number key (entry_of index old) (there (has_entry prefix index key old || rest))
    ∙ taken (is_indexed index old) (is_entry_key prefix index.number key (entry_of index old)) rest a alone
changed prefix index key (Some old) (Some new) rest a b alone = by_same (same_entry (entry_of index old) (entry_of index new)) refl
  where
    by_same : (t : Bool) → same_entry (entry_of index old) (entry_of index new) ≡ t →
        value_after_all (cond t [] (clear_entry prefix index.number (entry_of index old) ∷ set_entry prefix index.number (entry_of index new) ∷ [])) key (there (has_entry prefix index key old || rest))
        ≡ there (has_entry prefix index key new || rest)
    by_same true same =
        (λ i. there (((a ∙ sym b) i && is_entry_key prefix index.number key (same_entry-equal (entry_of index old) (entry_of index new) same i)) || rest))
    by_same false other =
        ap (cond (is_entry_key prefix index.number key (entry_of index new)) (Some []))
        (cleared prefix index.number key (entry_of index old) (there (has_entry prefix index key old || rest))
        ∙ taken (is_indexed index old) (is_entry_key prefix index.number key (entry_of index old)) rest a alone)
        ∙ put (is_indexed index new) (is_entry_key prefix index.number key (entry_of index new)) rest b

-- what is found in the map of entries
pub held_entries : (prefix : List ℕ) (index : IndexDefinition) (records : List Record) (m : Map) (bytes : List ℕ) → HasEntries prefix index records m →
    get m (entries_prefix prefix index.number ++ bytes) ≡ there (list_any (has_entry prefix index (entries_prefix prefix index.number ++ bytes)) records)
held_entries prefix index records m bytes has =
    has bytes ∙ get-stored (entry_pairs prefix index records) (entries_prefix prefix index.number ++ bytes) ∙ entries_looked_up prefix index (entries_prefix prefix index.number ++ bytes) records

pub alone_there : (prefix : List ℕ) (index : IndexDefinition) (bytes : List ℕ) (key : List Item) (old new : Option Record) (records : List Record) → IsReplacement key old new records →
    IsAlone prefix index bytes old (list_any (has_entry prefix index bytes) (without_record key records))
alone_there prefix index bytes key None new records given = tt
alone_there prefix index bytes key (Some old) new records given = λ is.
    let stored = found_storable key old records given.storable (sym given.found) in
    entry_alone prefix index bytes old (without_record key records) stored.0 (all_filter IsStorable (λ r. not (has_primary_key key r)) records given.storable)
    (subst (λ k. HaveNot k (without_record key records)) (sym (tied_tuples (primary_key old) key stored.1)) (none_without key records)) is

-- LAW: the entries of records are those of the records after one gave way to another, once the changes are written
pub value_follows : (prefix : List ℕ) (index : IndexDefinition) (key : List Item) (old new : Option Record) (records : List Record) (m : Map) →
    IsReplacement key old new records → IsIndexed index old → IsIndexed index new →
    HasEntries prefix index records m → HasEntries prefix index (replaced key new records) (after_all (value_changes prefix index old new) m)
value_follows prefix index key old new records m given before after has bytes =
    let at = entries_prefix prefix index.number ++ bytes in
    let p = has_entry prefix index at in
    get-after_all-value (value_changes prefix index old new) m at
    ∙ ap (value_after_all (value_changes prefix index old new) at) (held_entries prefix index records m bytes has ∙ ap there (any_before p key old new records given))
    ∙ changed prefix index at old new (list_any p (without_record key records)) before after (alone_there prefix index at key old new records given)
    ∙ ap there (sym (any_after p key old new records given))
    ∙ sym (get-stored (entry_pairs prefix index (replaced key new records)) at ∙ entries_looked_up prefix index at (replaced key new records))

-- OTHER TYPE: the pairs of entries stay where a record of another type gives way to one
pub other_type : (prefix : List ℕ) (index : IndexDefinition) (key : List Item) (old new : Option Record) (records : List Record) →
    IsReplacement key old new records → IsOther index old → IsOther index new → entry_pairs prefix index (replaced key new records) ≡ entry_pairs prefix index records
other_type prefix index key old new records given before after =
    ap (λ rs. map (entry_pair prefix index.number) (map (entry_of index) rs)) (skips index key old new records given before after)

pub value_ignores_others : (prefix : List ℕ) (index : IndexDefinition) (key : List Item) (old new : Option Record) (records : List Record) (m : Map) →
    IsReplacement key old new records → IsOther index old → IsOther index new →
    HasEntries prefix index records m → HasEntries prefix index (replaced key new records) m
value_ignores_others prefix index key old new records m given before after has bytes =
    has bytes ∙ ap (λ ps. get (stored ps) (entries_prefix prefix index.number ++ bytes)) (sym (other_type prefix index key old new records given before after))

-- ---- keys elsewhere

abbrev IsElsewhere : List ℕ → IndexDefinition → List ℕ → Type 0
IsElsewhere prefix index key = BeginsWith (entries_prefix prefix index.number) key → ⊥

not_entry : (prefix : List ℕ) (index : IndexDefinition) (key : List ℕ) (entry : IndexEntry) → IsElsewhere prefix index key → is_entry_key prefix index.number key entry ≡ false
not_entry prefix index key entry apart =
    false_from_ne_true (is_entry_key prefix index.number key entry) (λ same. apart (spelling (entry_items entry), tied_keys key (entry_key prefix index.number entry) same))

not_cleared : (prefix : List ℕ) (index : IndexDefinition) (key : List ℕ) (entry : IndexEntry) (before : Option (List ℕ)) → IsElsewhere prefix index key →
    value_after (clear_entry prefix index.number entry) key before ≡ before
not_cleared prefix index key entry before apart =
    cleared prefix index.number key entry before ∙ ap (λ b. cond b None before) (not_entry prefix index key entry apart)

not_set : (prefix : List ℕ) (index : IndexDefinition) (key : List ℕ) (entry : IndexEntry) (before : Option (List ℕ)) → IsElsewhere prefix index key →
    value_after (set_entry prefix index.number entry) key before ≡ before
not_set prefix index key entry before apart = ap (λ b. cond b (Some []) before) (not_entry prefix index key entry apart)

unchanged : (prefix : List ℕ) (index : IndexDefinition) (old new : Option IndexEntry) (key : List ℕ) (before : Option (List ℕ)) → IsElsewhere prefix index key →
    value_after_all (entry_changes prefix index.number old new) key before ≡ before
unchanged prefix index None None key before apart = refl
unchanged prefix index None (Some new) key before apart = not_set prefix index key new before apart
unchanged prefix index (Some old) None key before apart = not_cleared prefix index key old before apart
unchanged prefix index (Some old) (Some new) key before apart = by_same (same_entry old new)
  where
    by_same : (t : Bool) → value_after_all (cond t [] (clear_entry prefix index.number old ∷ set_entry prefix index.number new ∷ [])) key before ≡ before
    by_same true = refl
    by_same false = ap (value_after (set_entry prefix index.number new) key) (not_cleared prefix index key old before apart) ∙ not_set prefix index key new before apart

-- ELSEWHERE: the changes leave each key that isn't under the index's prefix
pub value_within : (prefix : List ℕ) (index : IndexDefinition) (old new : Option Record) (m : Map) (key : List ℕ) → (BeginsWith (entries_prefix prefix index.number) key → ⊥) →
    get (after_all (value_changes prefix index old new) m) key ≡ get m key
value_within prefix index old new m key apart =
    get-after_all-value (value_changes prefix index old new) m key ∙ unchanged prefix index (option_map (entry_of index) old) (option_map (entry_of index) new) key (get m key) apart

pub value_has_within : (prefix : List ℕ) (index : IndexDefinition) (records : List Record) (m n : Map) →
    ((bytes : List ℕ) → get m (entries_prefix prefix index.number ++ bytes) ≡ get n (entries_prefix prefix index.number ++ bytes)) →
    HasEntries prefix index records m → HasEntries prefix index records n
value_has_within prefix index records m n same has bytes = sym (same bytes) ∙ has bytes
