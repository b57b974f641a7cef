-- What bytes are unpacked as: the cells whose pack they are.
use Rattle.std.specs.Prelude.{◌≡◌, ℕ, nat_lt, Bool, true, false, ◌&&◌, cond, List, [], ◌∷◌, ◌++◌, Option, Some, None, Result, Ok, Err, refl, option_and_then}
use Rattle.std.specs.Cmp.{first_so, second_so}
use Rattle.std.proofs.Common.{ap, sym, ◌∙◌, subst, append_assoc}
use Rattle.std.proofs.lemmas.Bool.{lt-ltb, ltb-true}
use Rattle.std.proofs.lemmas.Option.{none-some}
use Rattle.tuple_codec.specs.Item.{Item}
use Rattle.tuple_codec.specs.Reading.{tuple_at}
use Rattle.tuple_codec.specs.Spelling.{Spells, outer}
use Rattle.tuple_codec.proofs.Again.{tuple_again}
use Rattle.tuple_codec.proofs.ClosedStrings.{AreLow}
use Rattle.tuple_codec.proofs.Outcome.{Answers, tuple_answers}
use Rattle.tuple_codec.proofs.Spellings.{one_item}
use Rattle.tuple_codec.proofs.TupleOrder.{begins}
use Rattle.metadata.specs.declared.cells.Cell.{Cell}
use Rattle.metadata.specs.Cell.{IsCell, cells_of, item_of}
use Rattle.metadata.specs.Order.{is_tail}
use Rattle.metadata.specs.Stored.{AreStoredAs}
use Rattle.metadata.proofs.CellItems.{is_item-item_of, items_of-injective}
use Rattle.metadata.proofs.PackBegins.{low}
use Rattle.metadata.proofs.PackOrder.{packs_tail, tail_escapes}
use Rattle.metadata.proofs.StoredCells.{cells_found, one_value}
use Rattle.planner.specs.Pack.{all_bytes, pack, pack_cell, tuple_in, unpack}
use Rattle.planner.proofs.Lists.{all_each, each_all}
use Rattle.planner.proofs.LowBytes.{low_pack_cell}
use Rattle.planner.proofs.Ranges.{Each, low_append}

-- ---- bytes by the test

low_told : (bs : List ℕ) → all_bytes bs ≡ true → AreLow bs
low_told [] told = tt
low_told (b ∷ bs) told = (ltb-true b 256 (first_so _ _ told), low_told bs (second_so (nat_lt b 256) _ told))

low_tells : (bs : List ℕ) → AreLow bs → all_bytes bs ≡ true
low_tells [] is = refl
low_tells (b ∷ bs) is = λ i. lt-ltb b 256 is.0 i && low_tells bs is.1 i

low_pack : (cells : List Cell) → Each IsCell cells → AreLow (pack cells)
low_pack [] e = tt
low_pack (c ∷ cells) e = low_append (pack_cell c) (pack cells) (low_pack_cell c e.0) (low_pack cells e.1)

-- ---- what is unpacked

-- SPELLED: bytes that spell a tuple are unpacked as its cells
pub unpack_spelled : (tuple : List Item) (bytes : List ℕ) → Spells tuple bytes → unpack bytes ≡ cells_of tuple
unpack_spelled tuple bytes spelled = by (cells_of tuple) refl
  where
    reading : option_and_then cells_of (tuple_in bytes) ≡ cells_of tuple
    reading = ap (λ r. option_and_then cells_of (elim r [ Ok read ↦ Some read.0 | Err fault ↦ None ])) (tuple_again tuple bytes spelled)

    either : (b : Bool) (o : Option (List Cell)) → cond b o o ≡ o
    either true o = refl
    either false o = refl

    by : (o : Option (List Cell)) → cells_of tuple ≡ o → unpack bytes ≡ cells_of tuple
    by None is = ap (λ o. cond (all_bytes bytes) o None) (reading ∙ is) ∙ either (all_bytes bytes) None ∙ sym is
    by (Some cells) is =
        let stored : AreStoredAs bytes cells = cells_found bytes tuple (Some cells) spelled (sym is) in
        let told : all_bytes bytes ≡ true = ap all_bytes stored.has_value ∙ low_tells (pack cells) (low_pack cells (all_each IsCell cells stored.cells)) in
        ap (λ b. cond b (option_and_then cells_of (tuple_in bytes)) None) told ∙ reading

-- PACKED: bytes that are unpacked are the pack of what is unpacked
pub packed_so : (bytes : List ℕ) (cells : List Cell) → unpack bytes ≡ Some cells → AreStoredAs bytes cells
packed_so bytes cells is = by (all_bytes bytes) refl is
  where
    by_read : {E : Type 0} (r : Result (List Item × List ℕ) E) → ((read : List Item × List ℕ) → r ≡ Ok read → Spells read.0 bytes) → option_and_then cells_of (elim r [ Ok read ↦ Some read.0 | Err fault ↦ None ]) ≡ Some cells → AreStoredAs bytes cells
    by_read (Ok read) spells of = cells_found bytes read.0 (Some cells) (spells read refl) (sym of)
    by_read (Err fault) spells of = absurd (none-some cells of)

    by : (b : Bool) → all_bytes bytes ≡ b → cond b (option_and_then cells_of (tuple_in bytes)) None ≡ Some cells → AreStoredAs bytes cells
    by true told of = by_read (tuple_at bytes) (λ read ok. subst (Answers bytes) ok (tuple_answers bytes (low_told bytes told))) of
    by false told of = absurd (none-some cells of)

-- ---- packs

-- cells with one pack are the same
pub one_pack : (xs ys : List Cell) → Each IsCell xs → Each IsCell ys → pack xs ≡ pack ys → xs ≡ ys
one_pack xs ys s t e = one_value (pack xs) xs ys (record { cells = each_all IsCell xs s; has_value = refl }) (record { cells = each_all IsCell ys t; has_value = e })

-- further packs may stand in front of what begins below FF
pack_low : (cs : List Cell) (y : List ℕ) → Each IsCell cs → is_tail y ≡ true → is_tail (pack cs ++ y) ≡ true
pack_low [] y h t = t
pack_low (c ∷ cs) y h t = ap is_tail (append_assoc (pack_cell c) (pack cs) y) ∙ low c (pack cs ++ y) h.0

-- cells whose pack begins with that of others, and then below FF, begin with these
pub begins_as : (vs cs : List Cell) (rest : List ℕ) → Each IsCell vs → Each IsCell cs → is_tail rest ≡ true → pack cs ≡ pack vs ++ rest → (more : List Cell) × (cs ≡ vs ++ more)
begins_as [] cs rest s t h e = (cs, refl)
begins_as (v ∷ vs) [] rest s t h e =
    let bad = e ∙ append_assoc (pack_cell v) (pack vs) rest ∙ ap (λ w. w ++ (pack vs ++ rest)) (begins outer (item_of v)) in
    absurd (cc)
begins_as (v ∷ vs) (c ∷ cs) rest s t h e =
    let split = one_item outer (item_of c) (item_of v) (pack cs) (pack vs ++ rest) (is_item-item_of c t.0) (is_item-item_of v s.0)
    (tail_escapes (pack cs) (packs_tail cs (each_all IsCell cs t.1))) (tail_escapes (pack vs ++ rest) (pack_low vs rest s.1 h))
    (e ∙ append_assoc (pack_cell v) (pack vs) rest) in
    let one : c ∷ [] ≡ v ∷ [] = items_of-injective (c ∷ []) (v ∷ []) (ap (λ x. x ∷ []) split.0) in
    let more = begins_as vs cs rest s.1 t.1 h split.1 in
    (more.0, ap (λ w. w ++ cs) one ∙ ap (λ w. v ∷ w) more.1)
