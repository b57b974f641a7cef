-- What a loop over cells knows one cell further.
use Rattle.std.proofs.Common.{◌≡◌, ℕ, ◌+◌, ◌<◌, Bool, true, false, ◌&&◌, Option, None, Some, List, [], ◌∷◌, ◌++◌, All, drop, get_or, length, take, add-one, refl, sym, ap, subst, ◌∙◌, append-nil, arith}
use Rattle.std.proofs.Math.Seq.{drop-cons}
use Rattle.std.specs.List.{cons_option, filter_map}
use Rattle.std.proofs.lemmas.List.{append_assoc, map-append, map_more}
use Rattle.std.proofs.lemmas.List.Elements.{All-append, All-cons, All-more, All-nil}
use Rattle.tuple_codec.specs.Item.{Item}
use Rattle.tuple_codec.specs.Elements.{item_in, items_in}
use Rattle.tuple_codec.specs.declared.Element.{Element}
use Rattle.metadata.specs.declared.cells.Cell.{Cell}
use Rattle.tuple_codec.specs.Spelling.{item_spelling, outer, spelling}
use Rattle.metadata.specs.declared.cells.Kind.{Kind}
use Rattle.metadata.specs.declared.definition.Field.{Field}
use Rattle.metadata.specs.Cell.{IsCell, all_fit, cell_at, cells_at, fits, item_of, items_of}
use Rattle.metadata.specs.Schema.{kind_at}

-- the elements pushed so far are the items of the cells so far
pub elements_more : (es fs : List Element) (e : Element) (cells : List Cell) (i : ℕ) (cell : Cell) (before : List Item)
    → i < length cells → cell ≡ get_or cells i cell → fs ≡ es ++ e ∷ [] → item_in e ≡ item_of cell
    → items_in es ≡ before ++ items_of (take i cells) → items_in fs ≡ before ++ items_of (take (i + 1) cells)
elements_more es fs e cells i cell before within is pushed same so_far =
    let more = map_more item_of cells i cell within in
    let spread = map-append item_in es (e ∷ []) in
    let grouped = append_assoc before (items_of (take i cells)) (item_of cell ∷ []) in
    cc

-- the cells so far are cells
pub cells_more : (cells : List Cell) (i : ℕ) (cell : Cell)
    → i < length cells → cell ≡ get_or cells i cell → IsCell cell → All IsCell (take i cells) → All IsCell (take (i + 1) cells)
cells_more cells i cell within is known so_far = All-more IsCell cells i cell within so_far (subst IsCell is known)

-- the spelling of items and one more
pub spelling_more : (items : List Item) (item : Item) → spelling (items ++ item ∷ []) ≡ spelling items ++ item_spelling outer item
spelling_more [] item = append-nil (item_spelling outer item)
spelling_more (one ∷ items) item =
    ap (λ bytes. item_spelling outer one ++ bytes) (spelling_more items item) ∙ sym (append_assoc (item_spelling outer one) (spelling items) (item_spelling outer item))

-- the bytes packed so far are the spelling of the cells so far
pub packed_more : (out more : List ℕ) (cells : List Cell) (i : ℕ) (cell : Cell) (before : List ℕ)
    → i < length cells → cell ≡ get_or cells i cell → more ≡ out ++ item_spelling outer (item_of cell)
    → out ≡ before ++ spelling (items_of (take i cells)) → more ≡ before ++ spelling (items_of (take (i + 1) cells))
packed_more out more cells i cell before within is packed so_far =
    let one = map_more item_of cells i cell within in
    let spelled = spelling_more (items_of (take i cells)) (item_of cell) in
    let grouped = append_assoc before (spelling (items_of (take i cells))) (item_spelling outer (item_of cell)) in
    cc

-- ---- so over places

-- the cells at the places so far
cells_at_more : (cells : List Cell) (places : List ℕ) (i place : ℕ) → i < length places → place ≡ get_or places i 0 →
    cells_at cells (take (i + 1) places) ≡ cells_at cells (take i places) ++ cell_at cells place ∷ []
cells_at_more cells places i place within is =
    map_more (cell_at cells) places i 0 within ∙ ap (λ p. cells_at cells (take i places) ++ cell_at cells p ∷ []) (sym is)

pub known_at_more : (cells : List Cell) (places : List ℕ) (i place : ℕ) → i < length places → place ≡ get_or places i 0 → IsCell (cell_at cells place) →
    All IsCell (cells_at cells (take i places)) → All IsCell (cells_at cells (take (i + 1) places))
known_at_more cells places i place within is known so_far =
    subst (All IsCell) (sym (cells_at_more cells places i place within is))
    (All-append IsCell (cells_at cells (take i places)) (cell_at cells place ∷ []) so_far (All-cons IsCell (cell_at cells place) [] known (All-nil IsCell)))

-- the bytes packed so far
pub packed_at_more : (out more : List ℕ) (cells : List Cell) (places : List ℕ) (i place : ℕ) (before : List ℕ) →
    i < length places → place ≡ get_or places i 0 → more ≡ out ++ item_spelling outer (item_of (cell_at cells place)) →
    out ≡ before ++ spelling (items_of (cells_at cells (take i places))) → more ≡ before ++ spelling (items_of (cells_at cells (take (i + 1) places)))
packed_at_more out more cells places i place before within is packed so_far =
    let at = cells_at cells (take i places) in
    packed ∙ ap (λ b. b ++ item_spelling outer (item_of (cell_at cells place))) so_far
    ∙ append_assoc before (spelling (items_of at)) (item_spelling outer (item_of (cell_at cells place)))
    ∙ ap (λ b. before ++ b)
    (sym (spelling_more (items_of at) (item_of (cell_at cells place))) ∙ ap spelling (sym (map-append item_of at (cell_at cells place ∷ [])))
    ∙ ap (λ cs. spelling (items_of cs)) (sym (cells_at_more cells places i place within is)))

-- ---- and over the kinds of key fields

-- what is left of the kinds begins with that of the field at the next place, where it has one
kinds_next : (fields : List Field) (key : List ℕ) (i place : ℕ) → i < length key → place ≡ get_or key i 0 →
    filter_map (kind_at fields) (drop i key) ≡ cons_option (kind_at fields place) (filter_map (kind_at fields) (drop (i + 1) key))
kinds_next fields key i place within is =
    ap (filter_map (kind_at fields)) (drop-cons key i 0 within)
    ∙ (λ j. cons_option (kind_at fields (sym is j)) (filter_map (kind_at fields) (drop (sym (add-one i) j) key)))

no_cells : (cells : List Cell) → length cells ≡ 0 → cells ≡ []
no_cells [] empty = refl
no_cells (cell ∷ cells) empty = absurd (omega (arith, empty))

module _ (fields : List Field) (key : List ℕ) (i place : ℕ) (within : i < length key) (is : place ≡ get_or key i 0) (rest cells : List Cell) (kinds : List Kind)
    (so_far : all_fit (filter_map (kind_at fields) (drop i key)) rest ≡ all_fit kinds cells) where
  -- no field is there
  pub fits_on : kind_at fields place ≡ None → all_fit (filter_map (kind_at fields) (drop (i + 1) key)) rest ≡ all_fit kinds cells
  fits_on none =
      ap (λ ks. all_fit ks rest)
      (ap (λ o. cons_option o (filter_map (kind_at fields) (drop (i + 1) key))) (sym none) ∙ sym (kinds_next fields key i place within is)) ∙ so_far

  module _ (kind : Kind) (has : kind_at fields place ≡ Some kind) where
    -- the kinds that are left
    left : kind ∷ filter_map (kind_at fields) (drop (i + 1) key) ≡ filter_map (kind_at fields) (drop i key)
    left = ap (λ o. cons_option o (filter_map (kind_at fields) (drop (i + 1) key))) (sym has) ∙ sym (kinds_next fields key i place within is)

    -- a field has no cell
    pub fits_none : length rest ≡ 0 → false ≡ all_fit kinds cells
    fits_none empty = let none = no_cells rest empty in ap (all_fit (kind ∷ filter_map (kind_at fields) (drop (i + 1) key))) (sym none) ∙ ap (λ ks. all_fit ks rest) left ∙ so_far

    module _ (cell : Cell) (others : List Cell) (first : rest ≡ cell ∷ others) where
      split : (fits kind cell && all_fit (filter_map (kind_at fields) (drop (i + 1) key)) others) ≡ all_fit kinds cells
      split = ap (all_fit (kind ∷ filter_map (kind_at fields) (drop (i + 1) key))) (sym first) ∙ ap (λ ks. all_fit ks rest) left ∙ so_far

      -- it has one of another kind
      pub fits_other : fits kind cell ≡ false → false ≡ all_fit kinds cells
      fits_other other = ap (λ b. b && all_fit (filter_map (kind_at fields) (drop (i + 1) key)) others) (sym other) ∙ split

      -- it has one that fits
      pub fits_next : fits kind cell ≡ true → all_fit (filter_map (kind_at fields) (drop (i + 1) key)) others ≡ all_fit kinds cells
      fits_next fit = ap (λ b. b && all_fit (filter_map (kind_at fields) (drop (i + 1) key)) others) (sym fit) ∙ split
