-- What a change of a schema's parts leaves is lawful.
use Rattle.std.proofs.Common.{◌≡◌, ℕ, ◌+◌, ◌==◌, not, List, [], ◌∷◌, ◌++◌, Some, None, Result, Ok, Err, OnOk, OnErr, sym, ap, subst, ◌∙◌, length}
use Rattle.std.specs.List.{filter}
use Rattle.metadata.specs.declared.definition.Field.{Field}
use Rattle.metadata.specs.declared.definition.TypeDefinition.{TypeDefinition}
use Rattle.metadata.specs.declared.definition.TypeRequest.{TypeRequest}
use Rattle.metadata.specs.declared.index.IndexDefinition.{IndexDefinition}
use Rattle.metadata.specs.declared.index.IndexRequest.{IndexRequest}
use Rattle.metadata.specs.declared.refusal.Refusal.{Refusal}
use Rattle.metadata.specs.Change.{appended_at, field_refusal, places_of, type_refusal, with_field, with_type}
use Rattle.metadata.specs.IndexChange.{new_index, with_index}
use Rattle.metadata.specs.Lawful.{IsLawfulSchema}
use Rattle.metadata.specs.Schema.{Schema, find_index}
use Rattle.metadata.proofs.Dropping.{dropped}
use Rattle.metadata.proofs.FieldAdded.{field_lawful}
use Rattle.metadata.proofs.IndexAdded.{index_lawful}
use Rattle.metadata.proofs.StayLawful.{dropped_lawful, type_lawful}

-- what holds of what a call makes and of what it leaves after an error holds anyway
pub either_kept : {T E : Type 0} (P : List TypeDefinition → Type 0) (r : Result T E) (new one other : List TypeDefinition) → OnOk r (new ≡ one) → OnErr r (new ≡ other) → P one → P other → P new
either_kept P (Ok x) new one other is kept here there = subst P (sym is) here
either_kept P (Err e) new one other is kept here there = subst P (sym kept) there

module _ (types : List TypeDefinition) (last : ℕ) (indexes : List IndexDefinition) (schema : Schema) (is : record { types = types; last_index = last; indexes = indexes } ≡ schema) (lawful : IsLawfulSchema (record { types = types; last_index = last; indexes = indexes })) where
  -- a type more
  pub still_typed : (name : List ℕ) (fields : List Field) (key : List (List ℕ)) (places : List ℕ) (number first : ℕ) (pushed : List TypeDefinition) → type_refusal schema (record { name = name; fields = fields; key = key }) ≡ None →
      places ≡ places_of fields key → number ≡ length types + 1 → first ≡ length fields → pushed ≡ types ++ record { number = number; name = name; fields = fields; key = places; first_fields = first } ∷ [] → IsLawfulSchema (record { types = pushed; last_index = last; indexes = indexes })
  still_typed name fields key places number first pushed none at numbered all put =
      subst (λ ts. IsLawfulSchema (record { types = ts; last_index = last; indexes = indexes })) (sym (put ∙ (λ i. types ++ record { number = numbered i; name = name; fields = fields; key = at i; first_fields = all i } ∷ [])))
      (type_lawful own (with_type own request) request lawful (ap (λ o. elim o [ None ↦ Ok (with_type own request) | Some refusal ↦ Err refusal ]) (ap (λ s. type_refusal s request) is ∙ none)))
    where
      own : Schema
      own = record { types = types; last_index = last; indexes = indexes }

      request : TypeRequest
      request = record { name = name; fields = fields; key = key }

  -- a field more
  pub still_appended : (name : List ℕ) (field : Field) (grown : List TypeDefinition) → field_refusal schema name field ≡ None → grown ≡ appended_at name field types →
      IsLawfulSchema (record { types = grown; last_index = last; indexes = indexes })
  still_appended name field grown none put =
      subst (λ ts. IsLawfulSchema (record { types = ts; last_index = last; indexes = indexes })) (sym put)
      (field_lawful own (with_field own name field) name field lawful (ap (λ o. elim o [ None ↦ Ok (with_field own name field) | Some refusal ↦ Err refusal ]) (ap (λ s. field_refusal s name field) is ∙ none)))
    where
      own : Schema
      own = record { types = types; last_index = last; indexes = indexes }

  -- an index more
  pub still_indexed : (request : IndexRequest) (index : IndexDefinition) (pushed : List IndexDefinition) → new_index schema request ≡ Ok index → pushed ≡ indexes ++ index ∷ [] →
      IsLawfulSchema (record { types = types; last_index = index.number; indexes = pushed })
  still_indexed request index pushed made put =
      subst (λ more. IsLawfulSchema (record { types = types; last_index = index.number; indexes = more })) (sym put)
      (index_lawful own (with_index own index) request lawful (ap (λ (o : Result IndexDefinition Refusal). elim o [ Ok one ↦ Ok (with_index own one) | Err refusal ↦ Err refusal ]) (ap (λ s. new_index s request) is ∙ made)))
    where
      own : Schema
      own = record { types = types; last_index = last; indexes = indexes }

  -- an index less
  pub still_dropped : (name : List ℕ) (index : IndexDefinition) (kept : List IndexDefinition) → Some index ≡ find_index schema name → kept ≡ filter (λ (i : IndexDefinition). not (i.number == index.number)) indexes →
      IsLawfulSchema (record { types = types; last_index = last; indexes = kept })
  still_dropped name index kept found left =
      dropped_lawful schema (record { types = types; last_index = last; indexes = kept }) name (subst IsLawfulSchema is lawful) (dropped types last indexes kept schema name index is found left)
