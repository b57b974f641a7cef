-- Where each index that is asked for is a VALUE, so is each index of the schema.
use Rattle.std.proofs.Common.{◌≡◌, List, [], ◌∷◌, ◌++◌, Option, Some, None, Result, Ok, Err, refl, sym, ap, subst, ◌∙◌}
use Rattle.std.specs.List.{AllByRecursion}
use Rattle.std.specs.Result.{is_ok}
use Rattle.std.proofs.lemmas.Bool.{true≢false}
use Rattle.metadata.specs.declared.definition.TypeDefinition.{TypeDefinition}
use Rattle.metadata.specs.declared.index.IndexDefinition.{IndexDefinition}
use Rattle.metadata.specs.declared.index.IndexKind.TheVariants.{Value}
use Rattle.metadata.specs.declared.index.IndexRequest.{IndexRequest}
use Rattle.metadata.specs.declared.refusal.Refusal.{Refusal}
use Rattle.metadata.specs.Asked.{SchemaRequest, add_indexes, schema_asked}
use Rattle.metadata.specs.Change.{schema_of}
use Rattle.metadata.specs.IndexChange.{add_index, index_asked, index_over, name_refusal, new_index, over_refusal, with_index}
use Rattle.metadata.specs.Schema.{Schema, find_type}
use Rattle.metadata.proofs.MadeSchemas.{err_other, made_alone, ok_same}

-- an index is a VALUE, and so is one that is asked for
abbrev IsValue : IndexDefinition → Type 0
IsValue index = index.kind ≡ Value

abbrev AsksForValue : IndexRequest → Type 0
AsksForValue request = request.kind ≡ Value

no_index : (refusal : Refusal) (index : IndexDefinition) → ◌≡◌ {A = Result IndexDefinition Refusal} (Err refusal) (Ok index) → ⊥
no_index refusal index is = true≢false (sym (ap is_ok is))

index_or : IndexDefinition → Result IndexDefinition Refusal → IndexDefinition
index_or default (Ok index) = index
index_or default (Err refusal) = default

same_index : (a b : IndexDefinition) → ◌≡◌ {A = Result IndexDefinition Refusal} (Ok a) (Ok b) → a ≡ b
unfolding index_or
same_index a b is = ap (index_or a) is

-- the index that is made is of the kind that is asked for
pub added_kinds : (schema : Schema) (request : IndexRequest) (index : IndexDefinition) → request.kind ≡ Value → new_index schema request ≡ Ok index → index.kind ≡ Value
added_kinds schema request index kind made = by_name (name_refusal schema request) made
  where
    by_over : (type : TypeDefinition) (why : Option Refusal) → ◌≡◌ {A = Result IndexDefinition Refusal} (elim why [ None ↦ Ok (index_asked schema type request) | Some refusal ↦ Err refusal ]) (Ok index) → index.kind ≡ Value
    by_over type None is = ap (λ (i : IndexDefinition). i.kind) (sym (same_index (index_asked schema type request) index is)) ∙ kind
    by_over type (Some refusal) is = absurd (no_index refusal index is)

    by_type : (found : Option TypeDefinition) → index_over schema request found ≡ Ok index → index.kind ≡ Value
    by_type None is = absurd (no_index _ index is)
    by_type (Some type) is = by_over type (over_refusal schema type request) is

    by_name : (why : Option Refusal) → ◌≡◌ {A = Result IndexDefinition Refusal} (elim why [ None ↦ index_over schema request (find_type schema request.type_name) | Some refusal ↦ Err refusal ]) (Ok index) → index.kind ≡ Value
    by_name None is = by_type (find_type schema request.type_name) is
    by_name (Some refusal) is = absurd (no_index refusal index is)

one_more : (indexes : List IndexDefinition) (index : IndexDefinition) → AllByRecursion IsValue indexes → index.kind ≡ Value → AllByRecursion IsValue (indexes ++ index ∷ [])
one_more [] index all is = (is, tt)
one_more (first ∷ indexes) index all is = (all.0, one_more indexes index all.1 is)

-- an index more
one_kinds : (schema next : Schema) (request : IndexRequest) → AllByRecursion IsValue schema.indexes → request.kind ≡ Value → add_index schema request ≡ Ok next → AllByRecursion IsValue next.indexes
one_kinds schema next request all kind added = by_index (new_index schema request) refl added
  where
    by_index : (outcome : Result IndexDefinition Refusal) → new_index schema request ≡ outcome → ◌≡◌ {A = Result Schema Refusal} (elim outcome [ Ok index ↦ Ok (with_index schema index) | Err refusal ↦ Err refusal ]) (Ok next) → AllByRecursion IsValue next.indexes
    by_index (Ok index) made is = subst (λ (s : Schema). AllByRecursion IsValue s.indexes) (ok_same (with_index schema index) next is) (one_more schema.indexes index all (added_kinds schema request index kind made))
    by_index (Err refusal) made is = absurd (err_other refusal next is)

-- indexes more
all_kinds : (schema next : Schema) (requests : List IndexRequest) → AllByRecursion IsValue schema.indexes → AllByRecursion AsksForValue requests → add_indexes schema requests ≡ Ok next → AllByRecursion IsValue next.indexes
all_kinds schema next [] all kinds added = subst (λ (s : Schema). AllByRecursion IsValue s.indexes) (ok_same schema next added) all
all_kinds schema next (request ∷ requests) all kinds added = by_first (add_index schema request) refl added (λ mid mid_all rest. all_kinds mid next requests mid_all kinds.1 rest)
  where
    by_first : (outcome : Result Schema Refusal) → add_index schema request ≡ outcome → ◌≡◌ {A = Result Schema Refusal} (elim outcome [ Err refusal ↦ Err refusal | Ok mid ↦ add_indexes mid requests ]) (Ok next) →
        ((mid : Schema) → AllByRecursion IsValue mid.indexes → add_indexes mid requests ≡ Ok next → AllByRecursion IsValue next.indexes) → AllByRecursion IsValue next.indexes
    by_first (Err refusal) is made go = absurd (err_other refusal next made)
    by_first (Ok mid) is made go = go mid (one_kinds schema mid request all kinds.0 is) made

-- the indexes of a schema asked for are of the kinds asked for
pub asked_kinds : (request : SchemaRequest) (schema : Schema) → AllByRecursion (λ one. one.kind ≡ Value) request.indexes → schema_asked request ≡ Ok schema → AllByRecursion (λ index. index.kind ≡ Value) schema.indexes
asked_kinds request schema kinds made = by_types (schema_of request.types) refl made
  where
    by_types : (outcome : Result Schema Refusal) → schema_of request.types ≡ outcome → ◌≡◌ {A = Result Schema Refusal} (elim outcome [ Err refusal ↦ Err refusal | Ok typed ↦ add_indexes typed request.indexes ]) (Ok schema) → AllByRecursion IsValue schema.indexes
    by_types (Err refusal) is made_now = absurd (err_other refusal schema made_now)
    by_types (Ok typed) is made_now = all_kinds typed schema request.indexes (subst (λ (s : Schema). AllByRecursion IsValue s.indexes) (sym (made_alone typed request.types is)) tt) kinds made_now
