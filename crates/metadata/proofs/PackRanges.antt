-- A range of keys is the range of the cells that begin alike.
use Rattle.std.proofs.Common.{◌≡◌, ℕ, List, [], ◌∷◌, ◌++◌, Some, All, refl, sym, ap, subst, ◌∙◌, append_assoc}
use Rattle.std.specs.Prelude.{◌↔◌}
use Rattle.std.specs.declared.cmp.Ordering.{Ordering}
use Rattle.std.specs.declared.cmp.Ordering.TheVariants.{Less, Equal, Greater}
use Rattle.std.specs.Ordering.{ordering_then}
use Rattle.std.specs.FinMap.{int_cmp-IsAntisymmetric, nat_cmp-IsAntisymmetric, slice_cmp-IsAntisymmetric}
use Rattle.std.proofs.lemmas.Cmp.{tied_itself, nat_list_cmp_total}
use Rattle.std.specs.Cmp.{int_cmp_total}
use Rattle.std.proofs.lemmas.List.{append-nil}
use Rattle.std.proofs.lemmas.List.Elements.{All-tail}
use Rattle.tuple_codec.specs.Order.{bytes_cmp}
use Rattle.tuple_codec.specs.Spelling.{outer, spelling}
use Rattle.tuple_codec.specs.Subspace.{IsWithin, range_end, subspace_key}
use Rattle.tuple_codec.proofs.ByteOrder.{before_escape}
use Rattle.tuple_codec.proofs.Prefixes.{cmp_behind}
use Rattle.tuple_codec.proofs.TupleOrder.{begins}
use Rattle.metadata.specs.declared.cells.Cell.{Cell}
use Rattle.metadata.specs.declared.cells.Cell.TheVariants.{Null, Int, Text, Bytes}
use Rattle.metadata.specs.Cell.{IsCell, item_of, items_of}
use Rattle.metadata.specs.Order.{BeginWith, cell_cmp}
use Rattle.metadata.proofs.PackOrder.{ends_stop, packs_stop, packs_tail, step, tail_escapes}

-- only equal cells tie
pub cell_same : (a b : Cell) → cell_cmp a b ≡ Equal → a ≡ b
cell_same Null Null e = refl
cell_same Null (Bytes b) e = absurd (cc)
cell_same Null (Text b) e = absurd (cc)
cell_same Null (Int b) e = absurd (cc)
cell_same (Bytes a) Null e = absurd (cc)
cell_same (Bytes a) (Bytes b) e = ap Bytes (slice_cmp-IsAntisymmetric nat_cmp-IsAntisymmetric a b e)
cell_same (Bytes a) (Text b) e = absurd (cc)
cell_same (Bytes a) (Int b) e = absurd (cc)
cell_same (Text a) Null e = absurd (cc)
cell_same (Text a) (Bytes b) e = absurd (cc)
cell_same (Text a) (Text b) e = ap Text (slice_cmp-IsAntisymmetric nat_cmp-IsAntisymmetric a b e)
cell_same (Text a) (Int b) e = absurd (cc)
cell_same (Int a) Null e = absurd (cc)
cell_same (Int a) (Bytes b) e = absurd (cc)
cell_same (Int a) (Text b) e = absurd (cc)
cell_same (Int a) (Int b) e = ap Int (int_cmp-IsAntisymmetric a b e)

pub cell_itself : (a : Cell) → cell_cmp a a ≡ Equal
cell_itself Null = refl
cell_itself (Bytes a) = tied_itself nat_list_cmp_total a
cell_itself (Text a) = tied_itself nat_list_cmp_total a
cell_itself (Int a) = tied_itself int_cmp_total a

-- the packs from that of fixed cells up to it followed by FF
abbrev IsBetween : List Cell → List Cell → Type 0
IsBetween fixed cells = (bytes_cmp (spelling (items_of cells)) (spelling (items_of fixed)) ≡ Less → ⊥) × (bytes_cmp (spelling (items_of cells)) (spelling (items_of fixed) ++ 255 ∷ []) ≡ Less)

not_before_nil : (s : List ℕ) → bytes_cmp s [] ≡ Less → ⊥
not_before_nil [] e = cc
not_before_nil (b ∷ s) e = cc

-- the first cells, and what follows them
begin_more : (a : Cell) (fixed cells : List Cell) → BeginWith fixed cells → BeginWith (a ∷ fixed) (a ∷ cells)
begin_more a fixed cells (rest, is) = (rest, ap (λ cs. a ∷ cs) is)

begin_less : (a b : Cell) (fixed cells : List Cell) → BeginWith (b ∷ fixed) (a ∷ cells) → (a ≡ b) × BeginWith fixed cells
begin_less a b fixed cells (rest, is) = (let e : a ≡ b = cc in e, (rest, let e : cells ≡ fixed ++ rest = cc in e))

between : (fixed cells : List Cell) → All IsCell fixed → All IsCell cells → IsBetween fixed cells ↔ BeginWith fixed cells
between [] cells are cells_are = (λ w. (cells, refl), λ b. (not_before_nil (spelling (items_of cells)), before_escape (spelling (items_of cells)) [] (tail_escapes (spelling (items_of cells)) (packs_tail cells cells_are))))
between (b ∷ fixed) [] are cells_are = (
  λ w. absurd (w.0 (ap (λ s. bytes_cmp [] (s ++ spelling (items_of fixed))) (begins outer (item_of b)))),
  λ (rest, is). absurd (cc),
)
between (b ∷ fixed) (a ∷ cells) are cells_are = by_first (cell_cmp a b) refl (between fixed cells (All-tail IsCell b fixed are) (All-tail IsCell a cells cells_are))
  where
    low : bytes_cmp (spelling (items_of (a ∷ cells))) (spelling (items_of (b ∷ fixed))) ≡ ordering_then (cell_cmp a b) (bytes_cmp (spelling (items_of cells)) (spelling (items_of fixed)))
    low =
        ap (bytes_cmp (spelling (items_of (a ∷ cells)))) (sym (append-nil (spelling (items_of (b ∷ fixed)))))
        ∙ step a b cells fixed [] cells_are are (ap Rattle.metadata.specs.Order.is_stop (append-nil (spelling (items_of fixed))) ∙ packs_stop fixed (All-tail IsCell b fixed are))
        ∙ ap (λ s. ordering_then (cell_cmp a b) (bytes_cmp (spelling (items_of cells)) s)) (append-nil (spelling (items_of fixed)))

    high : bytes_cmp (spelling (items_of (a ∷ cells))) (spelling (items_of (b ∷ fixed)) ++ 255 ∷ []) ≡ ordering_then (cell_cmp a b) (bytes_cmp (spelling (items_of cells)) (spelling (items_of fixed) ++ 255 ∷ []))
    high = step a b cells fixed (255 ∷ []) cells_are are (ends_stop fixed (All-tail IsCell b fixed are))

    other : (cell_cmp a b ≡ Equal → ⊥) → BeginWith (b ∷ fixed) (a ∷ cells) → ⊥
    other apart begin = apart (ap (λ c. cell_cmp c b) (begin_less a b fixed cells begin).0 ∙ cell_itself b)

    by_first : (o : Ordering) → cell_cmp a b ≡ o → IsBetween fixed cells ↔ BeginWith fixed cells → IsBetween (b ∷ fixed) (a ∷ cells) ↔ BeginWith (b ∷ fixed) (a ∷ cells)
    by_first Less first same = (
      λ w. absurd (w.0 (low ∙ ap (λ o. ordering_then o (bytes_cmp (spelling (items_of cells)) (spelling (items_of fixed)))) first)),
      λ begin. absurd (other (λ e. cc) begin),
    )
    by_first Greater first same = (
      λ w. let up = ap (λ o. ordering_then o (bytes_cmp (spelling (items_of cells)) (spelling (items_of fixed) ++ 255 ∷ []))) first in let before = w.1 in let is = high in absurd (cc),
      λ begin. absurd (other (λ e. cc) begin),
    )
    by_first Equal first same =
        let at_low = low ∙ ap (λ o. ordering_then o (bytes_cmp (spelling (items_of cells)) (spelling (items_of fixed)))) first in
        let at_high = high ∙ ap (λ o. ordering_then o (bytes_cmp (spelling (items_of cells)) (spelling (items_of fixed) ++ 255 ∷ []))) first in (
          λ w. subst (λ c. BeginWith (b ∷ fixed) (c ∷ cells)) (sym (cell_same a b first)) (begin_more b fixed cells (same.0 (λ before. w.0 (at_low ∙ before), sym at_high ∙ w.1))),
          λ begin. let within = same.1 (begin_less a b fixed cells begin).1 in (λ before. within.0 (sym at_low ∙ before), at_high ∙ within.1),
        )

-- RANGES: the keys in the range of fixed cells are those of the cells that begin with them
pub ranges : (prefix : List ℕ) (fixed cells : List Cell) → All IsCell fixed → All IsCell cells →
    IsWithin (subspace_key prefix (items_of fixed)) (Some (range_end (subspace_key prefix (items_of fixed)))) (subspace_key prefix (items_of cells)) ↔ BeginWith fixed cells
ranges prefix fixed cells are cells_are =
    let same = between fixed cells are cells_are in
    let low = cmp_behind prefix (spelling (items_of cells)) (spelling (items_of fixed)) in
    let high = ap (bytes_cmp (subspace_key prefix (items_of cells))) (append_assoc prefix (spelling (items_of fixed)) (255 ∷ [])) ∙ cmp_behind prefix (spelling (items_of cells)) (spelling (items_of fixed) ++ 255 ∷ []) in
    (λ w. same.0 (λ before. w.0 (low ∙ before), sym high ∙ w.1), λ begin. let within = same.1 begin in (λ before. within.0 (sym low ∙ before), high ∙ within.1))
