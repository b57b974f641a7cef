-- The bytes of lists, with one item more.
use Rattle.std.proofs.Common.{◌≡◌, ℕ, ◌+◌, ◌<◌, List, [], ◌∷◌, ◌++◌, length, length-append, take, drop, get_or, sym, ap, ◌∙◌, append_assoc, append-nil}
use Rattle.std.proofs.lemmas.List.{take_more}
use Rattle.std.specs.Int.{w32, w64, to_le_bytes, from_le_bytes}
use Rattle.std.proofs.lemmas.Nat.{le_bytes_4, le_bytes_8}
use Rattle.std.proofs.lemmas.List.{take-append-drop}
use Rattle.drive_form.specs.Form.{counted, each_of}

-- one item at the end
each_push : {X : Type 0} (spell : X → List ℕ) (items : List X) (item : X) → each_of spell (items ++ item ∷ []) ≡ each_of spell items ++ spell item
each_push spell [] item = append-nil (spell item)
each_push spell (first ∷ items) item = ap (λ bs. spell first ++ bs) (each_push spell items item) ∙ sym (append_assoc (spell first) (each_of spell items) (spell item))

-- what is written with one more item at the end
pub list_more : {X : Type 0} (spell : X → List ℕ) (base count : List ℕ) (items after : List X) (item : X) (out more : List ℕ) → after ≡ items ++ item ∷ [] → more ≡ out ++ spell item →
    out ≡ base ++ (count ++ each_of spell items) → more ≡ base ++ (count ++ each_of spell after)
list_more spell base count items after item out more grown pushed kept =
    pushed ∙ ap (λ bs. bs ++ spell item) kept ∙ append_assoc base (count ++ each_of spell items) (spell item)
    ∙ ap (λ bs. base ++ bs) (append_assoc count (each_of spell items) (spell item) ∙ ap (λ bs. count ++ bs) (sym (each_push spell items item) ∙ ap (each_of spell) (sym grown)))

-- so it is with the next item of a list
pub each_more : {X : Type 0} (spell : X → List ℕ) (base count : List ℕ) (items : List X) (i : ℕ) (item : X) (out more : List ℕ) → i < length items → item ≡ get_or items i item → more ≡ out ++ spell item →
    out ≡ base ++ (count ++ each_of spell (take i items)) → more ≡ base ++ (count ++ each_of spell (take (i + 1) items))
each_more spell base count items i item out more within is pushed kept =
    list_more spell base count (take i items) (take (i + 1) items) item out more (take_more items i item within ∙ ap (λ x. take i items ++ x ∷ []) (sym is)) pushed kept

-- what is read with one more item at the end
pub read_more : {X : Type 0} (spell : X → List ℕ) (count whole : List ℕ) (items after : List X) (item : X) (rest rest2 : List ℕ) → after ≡ items ++ item ∷ [] → rest ≡ spell item ++ rest2 →
    whole ≡ count ++ (each_of spell items ++ rest) → whole ≡ count ++ (each_of spell after ++ rest2)
read_more spell count whole items after item rest rest2 grown first kept =
    kept ∙ ap (λ bs. count ++ bs) (ap (λ bs. each_of spell items ++ bs) first ∙ sym (append_assoc (each_of spell items) (spell item) rest2) ∙ ap (λ bs. bs ++ rest2) (sym (each_push spell items item) ∙ ap (each_of spell) (sym grown)))

-- all items of a list are read
pub read_all : {X : Type 0} (spell : X → List ℕ) (whole : List ℕ) (items : List X) (count : ℕ) (rest : List ℕ) → length items ≡ count →
    whole ≡ to_le_bytes w32 count ++ (each_of spell items ++ rest) → whole ≡ counted spell items ++ rest
read_all spell whole items count rest all kept =
    kept ∙ ap (λ n. to_le_bytes w32 n ++ (each_of spell items ++ rest)) (sym all) ∙ sym (append_assoc (to_le_bytes w32 (length items)) (each_of spell items) rest)

-- what stands at the front of bytes is the spelling of the number that is read from it
pub four_read : (whole first rest : List ℕ) (n : ℕ) → first ≡ take 4 whole → rest ≡ drop 4 whole → length first ≡ 4 → ((i : ℕ) → get_or first i 0 < 256) → n ≡ from_le_bytes w32 first →
    whole ≡ to_le_bytes w32 n ++ rest
four_read whole first rest n front back four small is =
    sym (take-append-drop 4 whole) ∙ (λ i. sym front i ++ sym back i) ∙ ap (λ bs. bs ++ rest) (sym (le_bytes_4 first n four small is))

pub eight_read : (whole first rest : List ℕ) (n : ℕ) → first ≡ take 8 whole → rest ≡ drop 8 whole → length first ≡ 8 → ((i : ℕ) → get_or first i 0 < 256) → n ≡ from_le_bytes w64 first →
    whole ≡ to_le_bytes w64 n ++ rest
eight_read whole first rest n front back eight small is =
    sym (take-append-drop 8 whole) ∙ (λ i. sym front i ++ sym back i) ∙ ap (λ bs. bs ++ rest) (sym (le_bytes_8 first n eight small is))

-- one text more for one item more
pub texts_more : {X : Type 0} (texts : List (List ℕ)) (text : List ℕ) (items : List X) (i : ℕ) (item : X) → i < length items → length texts ≡ length (take i items) →
    length (texts ++ text ∷ []) ≡ length (take (i + 1) items)
texts_more texts text items i item within same =
    length-append texts (text ∷ []) ∙ ap (λ n. n + 1) same ∙ sym (ap length (take_more items i item within) ∙ length-append (take i items) (get_or items i item ∷ []))

-- the parts of an answer, written one after another
pub done_in_turn : (start out texts reads written : List ℕ) → start ≡ 1 ∷ [] → out ≡ start ++ (texts ++ (reads ++ written)) → out ≡ 1 ∷ texts ++ reads ++ written
done_in_turn start out texts reads written begun all = all ∙ ap (λ bs. bs ++ (texts ++ (reads ++ written))) begun ∙ ap (λ bs. 1 ∷ bs) (sym (append_assoc texts reads written))
