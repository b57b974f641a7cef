-- The place of an index's built ranges: what clearing it leaves, and that nothing of the index is elsewhere.
use Rattle.std.proofs.Common.{◌≡◌, ℕ, Bool, true, false, not, cond, List, [], ◌∷◌, ◌++◌, refl, sym, ap, subst, ◌∙◌, None, map}
use Rattle.std.specs.FinMap.{get}
use Rattle.std.specs.List.{AllByRecursion}
use Rattle.std.proofs.lemmas.Bool.{false_from_ne_true, true≢false}
use Rattle.tuple_codec.specs.Subspace.{BeginsWith}
use Rattle.kv_core.specs.Map.{Map, after}
use Rattle.kv_core.specs.Range.{KeyRange, contains}
use Rattle.kv_core.specs.declared.change.Mutation.TheVariants.{ClearRange}
use Rattle.kv_core.proofs.Changes.{get-after, get-kept}
use Rattle.kv_core.proofs.Stored.{get-stored}
use Rattle.range_set.specs.Stored.{range_pair, whole_range}
use Rattle.range_set.proofs.WholeRead.{inside}
use Rattle.index_maint.proofs.Lookups.{lookup-none}
use Rattle.metadata.specs.declared.index.IndexDefinition.{IndexDefinition}
use Rattle.record_store.specs.Store.{Status, Readable, WriteOnly, Disabled}
use Rattle.record_store.specs.Layout.{built_place, built_range}
use Rattle.record_store.specs.Holds.{HasPositions, has_number}
use Rattle.record_store.proofs.Held.{under}
use Rattle.record_store.proofs.Listed.{of_number}

module _ (prefix : List ℕ) (number : ℕ) where
  -- LEAVE: clearing the range leaves each key of another place
  pub ranges_leave : (m : Map) (key : List ℕ) → (BeginsWith (built_place prefix number) key → ⊥) → get (after (ClearRange (built_range prefix number)) m) key ≡ get m key
  ranges_leave m key other =
      get-after (ClearRange (built_range prefix number)) m key
      (false_from_ne_true (contains (built_range prefix number) key) (λ inside. other (under (built_place prefix number) (0 ∷ []) (255 ∷ []) key inside)))

  -- CLEAR: it leaves nothing where nothing was out of the range
  pub ranges_clear : (m : Map) (key : List ℕ) → (contains (built_range prefix number) key ≡ false → get m key ≡ None) → get (after (ClearRange (built_range prefix number)) m) key ≡ None
  ranges_clear m key out = get-kept m (λ k. not (contains (built_range prefix number) k)) key ∙ by_test (contains (built_range prefix number) key) refl
    where
      by_test : (b : Bool) → contains (built_range prefix number) key ≡ b → cond (not b) (get m key) None ≡ None
      by_test true is = refl
      by_test false is = out is

-- a key out of the range of all is that of no range
others_keys : (place key : List ℕ) (ranges : List KeyRange) → contains (whole_range place) key ≡ false → AllByRecursion (λ p. key ≡ p.0 → ⊥) (map (range_pair place) ranges)
others_keys place key [] out = tt
others_keys place key (range ∷ ranges) out = (λ same. true≢false (sym (inside place range.begin) ∙ ap (contains (whole_range place)) (sym same) ∙ out), others_keys place key ranges out)

-- OUT: out of the range an index has nothing
no_range_of : (prefix : List ℕ) (m : Map) (number : ℕ) (status : Status) (bytes : List ℕ) → HasPositions prefix number m status →
    contains (built_range prefix number) (built_place prefix number ++ bytes) ≡ false → get m (built_place prefix number ++ bytes) ≡ None
no_range_of prefix m number Readable bytes has out = has bytes
no_range_of prefix m number Disabled bytes has out = has bytes
no_range_of prefix m number (WriteOnly built) bytes has out =
    has.has bytes ∙ get-stored (map (range_pair (built_place prefix number)) has.ranges) (built_place prefix number ++ bytes)
    ∙ lookup-none (built_place prefix number ++ bytes) (map (range_pair (built_place prefix number)) has.ranges) (others_keys (built_place prefix number) (built_place prefix number ++ bytes) has.ranges out)

pub no_range_out : (prefix : List ℕ) (m : Map) (status : ℕ → Status) (number : ℕ) (indexes : List IndexDefinition) (bytes : List ℕ) → has_number indexes number ≡ true →
    AllByRecursion (λ index. HasPositions prefix index.number m (status index.number)) indexes →
    contains (built_range prefix number) (built_place prefix number ++ bytes) ≡ false → get m (built_place prefix number ++ bytes) ≡ None
no_range_out prefix m status number indexes bytes there all out =
    let (index, same, has) = of_number (λ index. HasPositions prefix index.number m (status index.number)) number indexes there all in
    no_range_of prefix m number (status number) bytes (subst (λ n. HasPositions prefix n m (status n)) same has) out
