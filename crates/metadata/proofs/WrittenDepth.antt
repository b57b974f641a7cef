-- How deep tuples nest in the written form of a schema.
use Rattle.std.proofs.Common.{◌≡◌, ℕ, Bool, true, false, ◌≤◌, ◌<◌, Option, Some, None, List, [], ◌∷◌, map, refl, ap, arith}
use Rattle.tuple_codec.specs.Item.{item_depth, nesting}
use Rattle.metadata.specs.declared.definition.Field.{Field}
use Rattle.metadata.specs.declared.definition.TypeDefinition.{TypeDefinition}
use Rattle.metadata.specs.declared.index.IndexDefinition.{IndexDefinition}
use Rattle.tuple_codec.specs.Elements.{items_in}
use Rattle.tuple_codec.specs.declared.Element.{Element}
use Rattle.metadata.specs.Schema.{Schema}
use Rattle.metadata.specs.Written.{field_item, index_item, number_item, summed_item, type_item, wants_second, written, written_in}

pub nesting-fields : (fields : List Field) → nesting (map field_item fields) ≤ 1
nesting-fields [] = omega arith
nesting-fields (field ∷ fields) = omega (arith, nesting-fields fields)

pub nesting-numbers : (numbers : List ℕ) → nesting (map number_item numbers) ≡ 0
nesting-numbers [] = refl
nesting-numbers (n ∷ numbers) = omega (arith, nesting-numbers numbers)

pub depth-type : (second : Bool) (type : TypeDefinition) → item_depth (type_item second type) ≤ 3
depth-type true type = omega (arith, nesting-fields type.fields, nesting-numbers type.key)
depth-type false type = omega (arith, nesting-fields type.fields, nesting-numbers type.key)

pub nesting-types : (second : Bool) (types : List TypeDefinition) → nesting (map (type_item second) types) ≤ 3
nesting-types second [] = omega arith
nesting-types second (type ∷ types) = omega (arith, depth-type second type, nesting-types second types)

pub depth-summed : (summed : Option ℕ) → item_depth (summed_item summed) ≡ 0
depth-summed None = refl
depth-summed (Some place) = refl

pub depth-index : (second : Bool) (index : IndexDefinition) → item_depth (index_item second index) ≤ 2
depth-index true index = omega (arith, nesting-numbers index.columns, depth-summed index.summed)
depth-index false index = omega (arith, nesting-numbers index.columns, depth-summed index.summed)

pub nesting-indexes : (second : Bool) (indexes : List IndexDefinition) → nesting (map (index_item second) indexes) ≤ 2
nesting-indexes second [] = omega arith
nesting-indexes second (index ∷ indexes) = omega (arith, depth-index second index, nesting-indexes second indexes)

pub nesting-written_in : (second : Bool) (schema : Schema) → nesting (written_in second schema) ≤ 4
nesting-written_in second schema = omega (arith, nesting-types second schema.types, nesting-indexes second schema.indexes)

pub nesting-written : (schema : Schema) → nesting (written schema) ≤ 4
nesting-written schema = nesting-written_in (wants_second schema) schema

-- elements that are such items nest fewer than 16 deep
pub shallow-fields : (elements : List Element) (fields : List Field) → items_in elements ≡ map field_item fields → nesting (items_in elements) < 16
shallow-fields elements fields is = omega (arith, nesting-fields fields, ap nesting is)

pub shallow-numbers : (elements : List Element) (numbers : List ℕ) → items_in elements ≡ map number_item numbers → nesting (items_in elements) < 16
shallow-numbers elements numbers is = omega (arith, nesting-numbers numbers, ap nesting is)

pub shallow-types : (elements : List Element) (second : Bool) (types : List TypeDefinition) → items_in elements ≡ map (type_item second) types → nesting (items_in elements) < 16
shallow-types elements second types is = omega (arith, nesting-types second types, ap nesting is)

pub shallow-indexes : (elements : List Element) (second : Bool) (indexes : List IndexDefinition) → items_in elements ≡ map (index_item second) indexes → nesting (items_in elements) < 16
shallow-indexes elements second indexes is = omega (arith, nesting-indexes second indexes, ap nesting is)
