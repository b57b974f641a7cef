-- What the tests of a schema's indexes tell, one by one.
use Rattle.std.proofs.Common.{◌≡◌, ℕ, Bool, true, false, not, ◌&&◌, List, length, map, refl, sym}
use Rattle.std.specs.Prelude.{nat_le}
use Rattle.std.specs.List.{list_all}
use Rattle.metadata.specs.declared.definition.TypeDefinition.{TypeDefinition}
use Rattle.metadata.specs.declared.index.IndexDefinition.{IndexDefinition}
use Rattle.metadata.specs.Change.{has_twice}
use Rattle.metadata.specs.Lawful.{has_good_indexes, is_index, is_rising_upto, same_index}
use Rattle.metadata.specs.Schema.{Schema}
use Rattle.metadata.proofs.WrittenItems.{both}

abbrev pub numbers : List IndexDefinition → List ℕ
numbers indexes = map (λ (index : IndexDefinition). index.number) indexes

-- what the tests of indexes tell, one by one
pub record Tested (types : List TypeDefinition) (last : ℕ) (indexes : List IndexDefinition) : Type 0 where
  pub last_is : nat_le last 65535 ≡ true
  pub rising : is_rising_upto 0 last (numbers indexes) ≡ true
  pub few : nat_le (length indexes) 64 ≡ true
  pub named : has_twice same_index indexes ≡ false
  pub each : list_all (is_index types) indexes ≡ true

not_so : (b : Bool) → not b ≡ true → b ≡ false
not_so true is = sym is
not_so false is = refl

pub tested : (schema : Schema) → has_good_indexes schema ≡ true → Tested schema.types schema.last_index schema.indexes
tested schema is =
    let first = both _ (list_all (is_index schema.types) schema.indexes) is in
    let second = both _ (not (has_twice same_index schema.indexes)) first.0 in
    let third = both _ (nat_le (length schema.indexes) 64) second.0 in
    let fourth = both (nat_le schema.last_index 65535) (is_rising_upto 0 schema.last_index (numbers schema.indexes)) third.0 in
    record { last_is = fourth.0; rising = fourth.1; few = third.1; named = not_so _ second.1; each = first.1 }

pub good : (types : List TypeDefinition) (last : ℕ) (indexes : List IndexDefinition) → Tested types last indexes → has_good_indexes (record { types = types; last_index = last; indexes = indexes }) ≡ true
good types last indexes t = λ i. t.last_is i && t.rising i && t.few i && not (t.named i) && t.each i
