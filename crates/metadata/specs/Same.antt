-- When two definitions of types are the same.
use Rattle.std.specs.Prelude.{Bool, true, false, ◌&&◌, List, [], ◌∷◌, ◌==◌}
use Rattle.std.specs.Str.{bytes_eq}
use Rattle.metadata.specs.declared.cells.Kind.{Kind}
use Rattle.metadata.specs.declared.cells.Kind.TheVariants.{Int, Text, Bytes}
use Rattle.metadata.specs.declared.definition.Field.{Field}
use Rattle.metadata.specs.declared.definition.TypeDefinition.{TypeDefinition}

-- the same kind
abbrev pub same_kind : Kind → Kind → Bool
same_kind Int Int = true
same_kind Text Text = true
same_kind Bytes Bytes = true
same_kind a b = false

-- as many of one list as of the other, each the same as that at its place, by a test
abbrev pub all_same : {X : Type 0} → (X → X → Bool) → List X → List X → Bool
all_same same [] [] = true
all_same same (x ∷ xs) (y ∷ ys) = same x y && all_same same xs ys
all_same same xs ys = false

-- the same name and the same kind
abbrev pub equal_field : Field → Field → Bool
equal_field a b = bytes_eq a.name b.name && same_kind a.kind b.kind

-- the same number, name, fields and key, and as many fields at first
abbrev pub same_type : TypeDefinition → TypeDefinition → Bool
same_type a b =
    a.number == b.number && bytes_eq a.name b.name && all_same equal_field a.fields b.fields && bytes_eq a.key b.key
    && a.first_fields == b.first_fields
