-- What files of blocks stand for.
use Rattle.std.proofs.Common.{◌≡◌, ℕ, zero, suc, ◌+◌, ◌-◌, ◌<◌, ◌^◌, List, [], ◌∷◌, ◌++◌, length, Some, None, refl, ◌∙◌, ap, arith, append_assoc, append-nil, length-append}
use Rattle.journal.specs.Form.{header, packed, blocks, file_blocks, batch_entries}
use Rattle.journal.specs.Block.{what_begins, Found, goes_on, read_from, found_in, Contents, contents, reading, StandsFor}
use Rattle.journal.specs.Journal.{entries_read, batches_read}
use Rattle.journal.specs.declared.block.First.{First}
use Rattle.journal.specs.declared.block.First.TheVariants.{End, Whole, Damaged}
use Rattle.journal.specs.declared.block.Head.TheVariants.{Closed}
use Rattle.journal.proofs.Firsts.{closed, end_is, first_is, first_block}

-- bytes of a block that is read are passed over
passed : (place : ℕ) (xs rest : List ℕ) (n : ℕ) → length xs ≡ n → read_from place n (xs ++ rest) ≡ read_from (place + n) 0 rest
passed place [] rest zero is = ap (λ (p : ℕ). read_from p 0 rest) (omega arith)
passed place [] rest (suc n) is = absurd (omega arith)
passed place (x ∷ xs) rest zero is = absurd (omega arith)
passed place (x ∷ xs) rest (suc n) is = passed (suc place) xs rest n (omega arith) ∙ ap (λ (p : ℕ). read_from p 0 rest) (omega arith)

-- these batches, and then what a reading of the rest has
abbrev pub behind : List (List (List ℕ)) → Found → Found
behind batches r = record { batches = batches ++ r.batches; damage = r.damage }

pub one_block : (place : ℕ) (batch : List (List ℕ)) (rest : List ℕ) → what_begins (blocks batch ++ rest) ≡ Whole batch → read_from place 0 (blocks batch ++ rest) ≡ behind (batch ∷ []) (read_from (place + length (blocks batch)) 0 rest)
one_block place batch rest is_whole =
    let body = header (packed batch) ++ packed batch in
    let on : List (List ℕ) → Found = λ e. read_from (suc place) (length (blocks e) - 1) (body ++ rest) in
    let here : read_from place 0 (blocks batch ++ rest) ≡ behind (batch ∷ []) (on batch) = ap (λ (f : First (List (List ℕ))). goes_on place f on) is_whole in
    let far : on batch ≡ read_from (suc place + (length (blocks batch) - 1)) 0 rest = passed (suc place) body rest (length (blocks batch) - 1) (omega arith) in
    let same : suc place + (length (blocks batch) - 1) ≡ place + length (blocks batch) = omega arith in
    here ∙ ap (λ (r : Found). behind (batch ∷ []) r) (far ∙ ap (λ (p : ℕ). read_from p 0 rest) same)

pub length-written : (batch : List (List ℕ)) (batches : List (List (List ℕ))) → length (file_blocks (batch ∷ batches)) ≡ length (blocks batch) + length (file_blocks batches)
length-written batch batches = length-append (blocks batch) (file_blocks batches)

pub read_blocks : (place : ℕ) (batches : List (List (List ℕ))) (rest : List ℕ) → length (file_blocks batches) < 2 ^ 64 → read_from place 0 (file_blocks batches ++ rest) ≡ behind batches (read_from (place + length (file_blocks batches)) 0 rest)
read_blocks place [] rest small = ap (λ (p : ℕ). read_from p 0 rest) (omega arith)
read_blocks place (batch ∷ batches) rest small =
    let len = length-written batch batches in
    let here = one_block place batch (file_blocks batches ++ rest) (first_block batch (file_blocks batches ++ rest) (omega (arith, len, small))) in
    let on = read_blocks (place + length (blocks batch)) batches rest (omega (arith, len, small)) in
    let same : place + length (blocks batch) + length (file_blocks batches) ≡ place + length (file_blocks (batch ∷ batches)) = omega (arith, len) in
    ap (λ (l : List ℕ). read_from place 0 l) (append_assoc (blocks batch) (file_blocks batches) rest)
    ∙ here
    ∙ ap (λ (r : Found). behind (batch ∷ []) r) (on ∙ ap (λ (p : ℕ). behind batches (read_from p 0 rest)) same)

pub read_end : (place : ℕ) (bytes : List ℕ) → what_begins bytes ≡ End → read_from place 0 bytes ≡ record { batches = []; damage = None }
read_end place [] is = refl
read_end place (byte ∷ bytes) is = ap (λ (f : First (List (List ℕ))). goes_on place f (λ e. read_from (suc place) (length (blocks e) - 1) bytes)) is

pub read_damaged : (place : ℕ) (bytes : List ℕ) → what_begins bytes ≡ Damaged → read_from place 0 bytes ≡ record { batches = []; damage = Some place }
read_damaged place [] is = let end = first_is [] Closed refl in absurd (cc (end, is))
read_damaged place (byte ∷ bytes) is = ap (λ (f : First (List (List ℕ))). goes_on place f (λ e. read_from (suc place) (length (blocks e) - 1) bytes)) is

pub found_blocks : (batches : List (List (List ℕ))) (rest : List ℕ) → length (file_blocks batches) < 2 ^ 64 → found_in (file_blocks batches ++ rest) ≡ behind batches (read_from (length (file_blocks batches)) 0 rest)
unfolding found_in
found_blocks batches rest small = read_blocks 0 batches rest small ∙ ap (λ (p : ℕ). behind batches (read_from p 0 rest)) (omega arith)

pub found_end : (batches : List (List (List ℕ))) (rest : List ℕ) → length (file_blocks batches) < 2 ^ 64 → what_begins rest ≡ End → found_in (file_blocks batches ++ rest) ≡ record { batches = batches; damage = None }
found_end batches rest small is =
    found_blocks batches rest small
    ∙ ap (λ (r : Found). behind batches r) (read_end (length (file_blocks batches)) rest is)
    ∙ ap (λ (l : List (List (List ℕ))). record { batches = l; damage = None }) (append-nil batches)

found_damaged : (batches : List (List (List ℕ))) (rest : List ℕ) → length (file_blocks batches) < 2 ^ 64 → what_begins rest ≡ Damaged → found_in (file_blocks batches ++ rest) ≡ record { batches = batches; damage = Some (length (file_blocks batches)) }
found_damaged batches rest small is =
    found_blocks batches rest small
    ∙ ap (λ (r : Found). behind batches r) (read_damaged (length (file_blocks batches)) rest is)
    ∙ ap (λ (l : List (List (List ℕ))). record { batches = l; damage = Some (length (file_blocks batches)) }) (append-nil batches)

pub reads_as : (file : List ℕ) → reading file ≡ contents (found_in file)
unfolding reading
reads_as file = refl

-- the entries of a file are those of its batches
pub joined_read : (file : List ℕ) → entries_read file ≡ batch_entries (batches_read file)
joined_read file = ap (λ (r : Contents). r.entries) (reads_as file)

pub stands_end : (batches : List (List (List ℕ))) (rest : List ℕ) → length (file_blocks batches) < 2 ^ 64 → what_begins rest ≡ End → StandsFor (file_blocks batches ++ rest) (batch_entries batches)
stands_end batches rest small is = reads_as (file_blocks batches ++ rest) ∙ ap contents (found_end batches rest small is)

pub batches_end : (batches : List (List (List ℕ))) (rest : List ℕ) → length (file_blocks batches) < 2 ^ 64 → what_begins rest ≡ End → batches_read (file_blocks batches ++ rest) ≡ batches
batches_end batches rest small is = ap (λ (f : Found). f.batches) (found_end batches rest small is)

pub is_damaged : (batches : List (List (List ℕ))) (rest : List ℕ) → length (file_blocks batches) < 2 ^ 64 → what_begins rest ≡ Damaged
    → reading (file_blocks batches ++ rest) ≡ record { entries = batch_entries batches; damage = Some (length (file_blocks batches)) }
is_damaged batches rest small is = reads_as (file_blocks batches ++ rest) ∙ ap contents (found_damaged batches rest small is)

-- a closed gate ends them, whatever stands behind it
pub stands_closed : (batches : List (List (List ℕ))) (rest : List ℕ) → length (file_blocks batches) < 2 ^ 64 → StandsFor (file_blocks batches ++ 0 ∷ rest) (batch_entries batches)
stands_closed batches rest small = stands_end batches (0 ∷ rest) small (end_is _ (closed rest))

pub batches_closed : (batches : List (List (List ℕ))) (rest : List ℕ) → length (file_blocks batches) < 2 ^ 64 → batches_read (file_blocks batches ++ 0 ∷ rest) ≡ batches
batches_closed batches rest small = batches_end batches (0 ∷ rest) small (end_is _ (closed rest))
