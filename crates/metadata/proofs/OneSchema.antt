-- Bytes are those of one schema at most, and readers refuse none of a schema that types made.
use Rattle.std.proofs.Common.{◌≡◌, ℕ, Bool, true, false, List, Option, Some, None, sym, ap, subst, ◌∙◌}
use Rattle.std.specs.Prelude.{is_some, unwrap_or}
use Rattle.std.specs.Bool.{Decides}
use Rattle.std.proofs.lemmas.Bool.{true≢false}
use Rattle.tuple_codec.specs.Item.{Item}
use Rattle.tuple_codec.specs.Spelling.{Spells, spelling}
use Rattle.tuple_codec.proofs.Spellings.{one_spelling, one_tuple, spelling_spells}
use Rattle.metadata.specs.declared.refusal.MetadataError.{MetadataError}
use Rattle.metadata.specs.declared.refusal.MetadataError.TheVariants.{Memory, Refused}
use Rattle.metadata.specs.Schema.{Schema}
use Rattle.metadata.specs.Written.{IsNoSchema, IsNoTuple, schema_bytes, written}
use Rattle.metadata.specs.Lawful.{IsLawfulSchema}
use Rattle.metadata.specs.Reading.{IsTupleUnread, tuple_schema}
use Rattle.metadata.proofs.WrittenBack.{is_tuple-written, schema_in-written}

-- the bytes of a schema spell its written form
pub bytes_spell : (schema : Schema) → IsLawfulSchema schema → Spells (written schema) (schema_bytes schema)
bytes_spell schema made = let is = is_tuple-written schema made in spelling_spells (written schema) is.items is.depth

-- a tuple that these bytes spell is the written form
pub tuple_is : (schema : Schema) (bytes : List ℕ) (tuple : List Item) → IsLawfulSchema schema → bytes ≡ schema_bytes schema → Spells tuple bytes → tuple ≡ written schema
tuple_is schema bytes tuple made same spelled = one_tuple tuple (written schema) bytes spelled (subst (Spells (written schema)) (sym same) (bytes_spell schema made))

-- the schema is read from it
pub schema_is : (schema : Schema) (bytes : List ℕ) (tuple : List Item) → IsLawfulSchema schema → bytes ≡ schema_bytes schema → Spells tuple bytes → tuple_schema tuple ≡ Some schema
schema_is schema bytes tuple made same spelled = ap tuple_schema (tuple_is schema bytes tuple made same spelled) ∙ schema_in-written schema made

some_same : (a b : Schema) → ◌≡◌ {A = Option Schema} (Some a) (Some b) → a ≡ b
some_same a b is = ap (λ found. unwrap_or found a) is

pub written_once : (a b : Schema) → IsLawfulSchema a → IsLawfulSchema b → schema_bytes a ≡ schema_bytes b → a ≡ b
written_once a b a_made b_made same =
    some_same a b (sym (schema_in-written a a_made) ∙ schema_is b (schema_bytes a) (written a) b_made same (bytes_spell a a_made))

-- no schema has bytes that spell no tuple
pub none_spelled : (bytes : List ℕ) → ((tuple : List Item) → Spells tuple bytes → ⊥) → (schema : Schema) → IsLawfulSchema schema → bytes ≡ schema_bytes schema → ⊥
none_spelled bytes none schema made same = none (written schema) (subst (Spells (written schema)) (sym same) (bytes_spell schema made))

-- no schema has bytes of a tuple from which none is read
pub none_read : (bytes : List ℕ) (tuple : List Item) → Spells tuple bytes → tuple_schema tuple ≡ None → (schema : Schema) → IsLawfulSchema schema → bytes ≡ schema_bytes schema → ⊥
none_read bytes tuple spelled none schema made same = true≢false (ap is_some (sym (schema_is schema bytes tuple made same spelled) ∙ none))

-- no schema has bytes of a tuple from which a schema with another written form is read
pub none_other : (bytes : List ℕ) (tuple : List Item) (read : Schema) → Spells tuple bytes → tuple_schema tuple ≡ Some read → (tuple ≡ written read → ⊥) → (schema : Schema) → IsLawfulSchema schema → bytes ≡ schema_bytes schema → ⊥
none_other bytes tuple read spelled is other schema made same =
    other (tuple_is schema bytes tuple made same spelled ∙ ap written (sym (some_same read schema (sym is ∙ schema_is schema bytes tuple made same spelled))))

-- the bytes of a tuple that is a schema's written form are the schema's
pub told_bytes : (bytes : List ℕ) (tuple : List Item) (schema : Schema) (told : Bool) → Spells tuple bytes → Decides told (tuple ≡ written schema) → told ≡ true → bytes ≡ schema_bytes schema
told_bytes bytes tuple schema told spelled tells is_told = one_spelling tuple bytes spelled ∙ ap spelling (tells.0 is_told)

-- what is refused as the bytes of no tuple, or as a tuple from which no schema is read, is refused as those of no schema
pub refused_bytes : (error : MetadataError) (bytes : List ℕ) → IsNoTuple error bytes → IsNoSchema error bytes
refused_bytes Memory bytes is = tt
refused_bytes (Refused refusal) bytes is = (is.0, none_spelled bytes is.1)

pub refused_tuple : (error : MetadataError) (bytes : List ℕ) (tuple : List Item) → Spells tuple bytes → IsTupleUnread error tuple → IsNoSchema error bytes
refused_tuple Memory bytes tuple spelled is = tt
refused_tuple (Refused refusal) bytes tuple spelled is = (is.0, none_read bytes tuple spelled is.1)

-- another one is told to be another
pub told_other : (tuple form : List Item) (told : Bool) → Decides told (tuple ≡ form) → told ≡ false → tuple ≡ form → ⊥
told_other tuple form told tells differs same = true≢false (sym (tells.1 same) ∙ differs)
