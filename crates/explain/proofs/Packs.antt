-- Bytes read as packs of cells, and as edges.
use Rattle.std.proofs.Common.{◌≡◌, ◌∙◌, ℕ, Bool, true, false, cond, List, [], ◌∷◌, ◌++◌, Option, Some, None, Ok, Err, option_map, option_and_then, refl, ap, sym}
use Rattle.metadata.specs.declared.cells.Cell.{Cell}
use Rattle.std.specs.Option.{option_or}
use Rattle.tuple_codec.specs.Refusal.{Refuses}
use Rattle.tuple_codec.specs.declared.UnpackErrorKind.{UnpackErrorKind}
use Rattle.tuple_codec.proofs.Refusals.{tuple_refused}
use Rattle.metadata.specs.Cell.{cells_of}
use Rattle.planner.specs.Pack.{all_bytes, unpack}
use Rattle.explain.specs.Told.{edge, edge_behind, edge_in, parted}
use Rattle.explain.specs.declared.edges.Passed.TheVariants.{Nothing}

-- bytes that spell none are no cells
pub unpack_refused : (bytes : List ℕ) (at : ℕ) (kind : UnpackErrorKind) → Refuses bytes at kind → unpack bytes ≡ None
unpack_refused bytes at kind r = ap (λ o. cond (all_bytes bytes) o None) (ap (λ r. option_and_then cells_of (elim r [ Ok read ↦ Some read.0 | Err fault ↦ None ])) ((tuple_refused bytes at kind r).2)) ∙ either (all_bytes bytes) None
  where
    either : (b : Bool) (o : Option (List Cell)) → cond b o o ≡ o
    either true o = refl
    either false o = refl

-- a list with one item more
pub parted_more : {A : Type 0} (front : List A) (last : A) → parted (front ++ last ∷ []) ≡ Some (front, last)
parted_more [] last = refl
parted_more (x ∷ []) last = refl
parted_more (x ∷ y ∷ xs) last = ap (λ p. option_map (λ q. (x ∷ q.0, q.1)) p) (parted_more (y ∷ xs) last)

-- bytes that are no pack are the edge at all but the last one
pub edge_apart : (bytes front : List ℕ) (last : ℕ) → None ≡ unpack bytes → bytes ≡ front ++ last ∷ [] → edge_in bytes ≡ edge_behind (front, last)
edge_apart bytes front last none e =
    ap (λ o. option_or (option_map (edge Nothing) o) (option_and_then edge_behind (parted bytes))) (sym none) ∙ ap (λ p. option_and_then edge_behind p) (ap parted e ∙ parted_more front last)
