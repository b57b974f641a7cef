-- The written form of a lawful schema is a tuple, from which the schema is read again.
use Rattle.std.proofs.Common.{◌≡◌, ◌≤◌, ◌<◌, ◌^◌, ℕ, Bool, true, false, cond, ◌&&◌, List, Some, None, Ok, length, map, refl, sym, ap, subst, ◌∙◌, arith}
use Rattle.std.specs.Prelude.{◌==◌, not, nat_lt}
use Rattle.std.specs.List.{AllByRecursion, list_all, list_any}
use Rattle.std.specs.Option.{option_map, option_and_then, option_map_or}
use Rattle.std.specs.Result.{result_ok}
use Rattle.std.proofs.lemmas.Bool.{leb-true, lt-ltb}
use Rattle.std.proofs.lemmas.List.{length-map}
use Rattle.tuple_codec.specs.Item.{Item, IsTuple, items_from, items_list}
use Rattle.metadata.specs.declared.definition.TypeDefinition.{TypeDefinition}
use Rattle.metadata.specs.declared.definition.TypeRequest.{TypeRequest}
use Rattle.metadata.specs.declared.index.IndexDefinition.{IndexDefinition}
use Rattle.metadata.specs.Change.{schema_of, types_alone}
use Rattle.metadata.specs.Lawful.{IsLawfulSchema, at_once, has_good_indexes, is_grown, is_index}
use Rattle.metadata.specs.Reading.{all_read, asked_in, first_of, firsts_in, grown_in, if_good, index_of, indexes_in, item_number, read_at, request_of, small_of, tuple_schema, types_in, with_firsts}
use Rattle.metadata.specs.Schema.{Schema}
use Rattle.metadata.specs.Written.{form_number, index_item, number_item, type_item, wants_second, written}
use Rattle.metadata.proofs.Grown.{asked_alike, firsts_back, firsts_set, items-at_once, lawful_small, none_appended, types_are}
use Rattle.metadata.proofs.IndexItems.{all_upto, indexes_are, indexes_back}
use Rattle.metadata.proofs.MadeSchemas.{made_few, made_items, made_read}
use Rattle.metadata.proofs.ReadBack.{listed-items_of, neither}
use Rattle.metadata.proofs.TestedIndexes.{numbers, tested}
use Rattle.metadata.proofs.WrittenDepth.{nesting-written}
use Rattle.tuple_codec.specs.Item.{AreItems}

-- what the tests of its indexes tell of their numbers
record GoodIndexes (schema : Schema) : Type 0 where
  last : schema.last_index ≤ 65535
  numbers : AllByRecursion (λ n. n ≤ schema.last_index) (numbers schema.indexes)
  each : list_all (is_index schema.types) schema.indexes ≡ true

good_indexes : (schema : Schema) → has_good_indexes schema ≡ true → GoodIndexes schema
good_indexes schema is =
    let t = tested schema is in
    record { last = leb-true schema.last_index 65535 t.last_is; numbers = all_upto 0 schema.last_index (numbers schema.indexes) t.rising; each = t.each }

-- the types of a lawful schema as if all of their fields had been there at first
abbrev whole : Schema → Schema
whole schema = types_alone (map at_once schema.types)

few_types : (schema : Schema) → IsLawfulSchema schema → length schema.types ≤ 32
few_types schema lawful = let few = made_few (whole schema) lawful.requests lawful.types in omega (arith, few, length-map schema.types at_once)

type_items : (schema : Schema) → IsLawfulSchema schema → AreItems (items_from (map (type_item false) schema.types))
type_items schema lawful = subst (λ items. AreItems (items_from items)) (items-at_once schema.types) (made_items (whole schema) lawful.requests lawful.types)

form_small : (second : Bool) → form_number second < 2 ^ 64
form_small true = omega arith
form_small false = omega arith

-- the written form of a lawful schema is a tuple
pub is_tuple-written : (schema : Schema) → IsLawfulSchema schema → IsTuple (written schema)
is_tuple-written schema lawful =
    let g = good_indexes schema lawful.indexes in
    let few = few_types schema lawful in
    let last = g.last in
    let small = lawful_small schema lawful in
    let second = wants_second schema in
    record {
      items = (
        form_small second,
        (
          omega (arith, few),
          (
            omega (arith, last),
            (
              types_are second schema.types small lawful.grown (type_items schema lawful),
              (indexes_are second schema.types schema.last_index schema.indexes small g.last g.numbers g.each, tt),
            ),
          ),
        ),
      );
      depth = omega (arith, nesting-written schema);
    }

-- its types are read again, as if all of their fields had been there at first
asked_back : (schema : Schema) → IsLawfulSchema schema → asked_in (written schema) ≡ Some (map at_once schema.types)
asked_back schema lawful =
    let second = wants_second schema in
    ap (λ items. option_and_then (λ asked. option_map (λ (s : Schema). s.types) (result_ok (schema_of asked))) (all_read request_of items)) (listed-items_of (map (type_item second) schema.types))
    ∙ ap (option_and_then (λ asked. option_map (λ (s : Schema). s.types) (result_ok (schema_of asked))))
    (asked_alike second schema.types ∙ ap (all_read request_of) (sym (items-at_once schema.types)) ∙ made_read (whole schema) lawful.requests lawful.types)
    ∙ ap (λ made_of. option_map (λ (s : Schema). s.types) (result_ok made_of)) lawful.types

form_back : (second : Bool) → option_map_or (λ form. form == 2) (small_of (number_item (form_number second))) false ≡ second
form_back true = refl
form_back false = refl

-- and as they have grown
grown_back : (schema : Schema) → IsLawfulSchema schema → grown_in (written schema) (map at_once schema.types) ≡ Some schema.types
grown_back schema lawful =
    ap (λ b. cond b (option_map (λ firsts. with_firsts firsts (map at_once schema.types)) (firsts_in (written schema))) (Some (map at_once schema.types))) (form_back (wants_second schema))
    ∙ by_form (wants_second schema) refl
  where
    by_form : (second : Bool) → wants_second schema ≡ second →
        cond second (option_map (λ firsts. with_firsts firsts (map at_once schema.types)) (firsts_in (written schema))) (Some (map at_once schema.types)) ≡ Some schema.types
    by_form true is =
        ap (option_map (λ firsts. with_firsts firsts (map at_once schema.types)))
        (ap (all_read first_of) (listed-items_of (map (type_item (wants_second schema)) schema.types) ∙ ap (λ b. map (type_item b) schema.types) is)
        ∙ firsts_back schema.types (lawful_small schema lawful) lawful.grown)
        ∙ ap Some (firsts_set schema.types)
    by_form false is =
        ap Some (none_appended schema.types
        (neither (list_any (λ (t : TypeDefinition). not (t.first_fields == length t.fields)) schema.types) (list_any (λ (index : IndexDefinition). index.clear_when_zero) schema.indexes) is).0)

types_back : (schema : Schema) → IsLawfulSchema schema → types_in (written schema) ≡ Some schema.types
types_back schema lawful = ap (option_and_then (grown_in (written schema))) (asked_back schema lawful) ∙ grown_back schema lawful

-- it is read again
pub schema_in-written : (schema : Schema) → IsLawfulSchema schema → tuple_schema (written schema) ≡ Some schema
schema_in-written schema lawful =
    let g = good_indexes schema lawful.indexes in
    let last = g.last in
    let second = wants_second schema in
    let low : nat_lt schema.last_index (2 ^ 64) ≡ true = lt-ltb schema.last_index (2 ^ 64) (omega (arith, last)) in
    let back : all_read index_of (items_list (items_from (map (index_item second) schema.indexes))) ≡ Some schema.indexes =
    ap (all_read index_of) (listed-items_of (map (index_item second) schema.indexes))
    ∙ indexes_back second schema.types schema.last_index schema.indexes
    (λ first. (neither (list_any (λ (t : TypeDefinition). not (t.first_fields == length t.fields)) schema.types) (list_any (λ (index : IndexDefinition). index.clear_when_zero) schema.indexes) first).1)
    (lawful_small schema lawful) g.last g.numbers g.each in
    (λ i. option_and_then (λ types. option_and_then (λ last. option_and_then (λ indexes. if_good (record { types = types; last_index = last; indexes = indexes })) (back i)) (cond (low i) (Some schema.last_index) None)) (types_back schema lawful i))
    ∙ ap (λ b. cond (b && has_good_indexes schema) (Some schema) None) lawful.grown
    ∙ ap (λ b. cond b (Some schema) None) lawful.indexes

-- what is read from a tuple, where its types have grown so and its indexes are good, is a lawful schema
pub read_lawful : (types : List TypeDefinition) (last : ℕ) (indexes : List IndexDefinition) → (requests : List TypeRequest) × (schema_of requests ≡ Ok (types_alone (map at_once types))) → list_all is_grown types ≡ true →
    has_good_indexes (record { types = types; last_index = last; indexes = indexes }) ≡ true → IsLawfulSchema (record { types = types; last_index = last; indexes = indexes })
read_lawful types last indexes made grown good = record { requests = made.0; types = made.1; grown = grown; indexes = good }

pub read_told : (tuple : List Item) (types : List TypeDefinition) (last : ℕ) (indexes : List IndexDefinition) → Some types ≡ types_in tuple → Some last ≡ read_at item_number tuple 2 → Some indexes ≡ indexes_in tuple →
    list_all is_grown types ≡ true → has_good_indexes (record { types = types; last_index = last; indexes = indexes }) ≡ true →
    tuple_schema tuple ≡ Some (record { types = types; last_index = last; indexes = indexes })
read_told tuple types last indexes types_is last_is indexes_is grown good =
    (λ i. option_and_then (λ types. option_and_then (λ last. option_and_then (λ indexes. if_good (record { types = types; last_index = last; indexes = indexes })) (sym indexes_is i)) (sym last_is i)) (sym types_is i))
    ∙ ap (λ b. cond (b && has_good_indexes schema) (Some schema) None) grown
    ∙ ap (λ b. cond b (Some schema) None) good
  where
    schema : Schema
    schema = record { types = types; last_index = last; indexes = indexes }
