-- What a refused call tells.
use Rattle.std.specs.Prelude.{◌≡◌, Result, Err}
use Rattle.metadata.specs.declared.refusal.MetadataError.{MetadataError}
use Rattle.metadata.specs.declared.refusal.MetadataError.TheVariants.{Memory, Refused}
use Rattle.metadata.specs.declared.refusal.Refusal.{Refusal}

-- memory was wanting, or the refusal is the defined one
abbrev pub IsRefusedAs : {A : Type 0} → MetadataError → Result A Refusal → Type 0
IsRefusedAs Memory outcome = Unit {0}
IsRefusedAs (Refused refusal) outcome = outcome ≡ Err refusal
