-- Heads and pairs are read as they are written, and no entry of a transaction is a head.
use Rattle.std.proofs.Common.{◌≡◌, ℕ, ◌+◌, ◌<◌, ◌≤◌, ◌^◌, cond, List, [], ◌∷◌, ◌++◌, length, map, take, drop, refl, sym, ap, ap₂, ◌∙◌, arith, append-nil, append_assoc, length-append, le-ltb, w64, ◌==◌}
use Rattle.std.proofs.lemmas.Bool.{cond-false, cond-true, eq-eqb}
use Rattle.std.proofs.lemmas.List.{drop_at, length-map, take_at}
use Rattle.std.proofs.lemmas.Nat.{from_be_bytes-to_be_bytes_8}
use Rattle.std.specs.Int.{from_be_bytes, to_be_bytes}
use Rattle.std.specs.List.{AllByRecursion}
use Rattle.std.specs.Option.{option_and_then, option_map}
use Rattle.std.specs.Prelude.{Some, None, nat_lt}
use Rattle.tuple_codec.specs.Spelling.{byte_count, int_spelling}
use Rattle.command_log.specs.declared.entry.Entry.{Entry}
use Rattle.command_log.specs.Answers.{IsWrittenAs}
use Rattle.replay.specs.Replaying.{AreWrittenAs}
use Rattle.durable.specs.declared.heads.Head.{Head}
use Rattle.durable.specs.Heads.{each_pair, head_before, head_bytes, head_in, head_numbers, written_pair, pair_in, pairs_after, word_in}

length_word : (n : ℕ) → length (to_be_bytes w64 n) ≡ 8
length_word n = refl

word_again : (n : ℕ) (rest : List ℕ) → n < 2 ^ 64 → word_in (to_be_bytes w64 n ++ rest) ≡ n
unfolding word_in
word_again n rest fits = ap (from_be_bytes w64) (take_at (to_be_bytes w64 n) rest 8 (length_word n)) ∙ from_be_bytes-to_be_bytes_8 n fits

-- three words behind a zero are the numbers of a head
head_of_words : (a b c : List ℕ) (head : Head) → length a ≡ 8 → length b ≡ 8 → length c ≡ 8 → word_in (a ++ (b ++ c)) ≡ head.generation → word_in (b ++ c) ≡ head.version → word_in c ≡ head.count → head_in (0 ∷ ((a ++ b) ++ c)) ≡ Some head
head_of_words a b c head one two three first second third =
    let all = (a ++ b) ++ c in
    let regrouped : all ≡ a ++ (b ++ c) = append_assoc a b c in
    let many : length all ≡ 24 = omega (arith, length-append (a ++ b) c, length-append a b, one, two, three) in
    let behind_one : drop 8 all ≡ b ++ c = ap (drop 8) regrouped ∙ drop_at a (b ++ c) 8 one in
    let behind_two : drop 16 all ≡ c = drop_at (a ++ b) c 16 (omega (arith, length-append a b, one, two)) in
    cond-true (length all == 24) (Some (head_numbers all)) None (eq-eqb (length all) 24 many)
    ∙ λ i. Some (record {
      generation = (ap word_in regrouped ∙ first) i;
      version = (ap word_in behind_one ∙ second) i;
      count = (ap word_in behind_two ∙ third) i;
    })

word_alone : (n : ℕ) → n < 2 ^ 64 → word_in (to_be_bytes w64 n) ≡ n
word_alone n fits = ap word_in (sym (append-nil (to_be_bytes w64 n))) ∙ word_again n [] fits

pub head_again : (head : Head) → head.generation < 2 ^ 64 → head.version < 2 ^ 64 → head.count < 2 ^ 64 → head_in (head_bytes head) ≡ Some head
head_again head first second third =
    let a = to_be_bytes w64 head.generation in
    let b = to_be_bytes w64 head.version in
    let c = to_be_bytes w64 head.count in
    head_of_words a b c head (length_word head.generation) (length_word head.version) (length_word head.count) (word_again head.generation (b ++ c) first) (word_again head.version c second) (word_alone head.count third)

-- a word that says how long the key is, the key and the value are those of a pair
pair_of_words : (len key value : List ℕ) → length len ≡ 8 → word_in (len ++ (key ++ value)) ≡ length key → pair_in ((len ++ key) ++ value) ≡ Some (key, value)
pair_of_words len key value eight said =
    let all = len ++ (key ++ value) in
    let count = length key in
    let enough : 8 + count ≤ length all = omega (arith, length-append len (key ++ value), length-append key value, eight) in
    let back : drop 8 all ≡ key ++ value = drop_at len (key ++ value) 8 eight in
    let far : drop (8 + count) all ≡ value = ap (drop (8 + count)) (sym (append_assoc len key value)) ∙ drop_at (len ++ key) value (8 + count) (omega (arith, length-append len key, eight)) in
    ap pair_in (append_assoc len key value)
    ∙ ap (λ n. cond (nat_lt (length all) (8 + n)) None (Some (take n (drop 8 all), drop (8 + n) all))) said
    ∙ cond-false (nat_lt (length all) (8 + count)) None (Some (take count (drop 8 all), drop (8 + count) all)) (le-ltb (length all) (8 + count) enough)
    ∙ ap₂ (λ k v. Some (k, v)) (ap (take count) back ∙ take_at key value count refl) far

pub pair_again : (pair : List ℕ × List ℕ) → length pair.0 < 2 ^ 64 → pair_in (written_pair pair) ≡ Some pair
pair_again pair small = pair_of_words (to_be_bytes w64 (length pair.0)) pair.0 pair.1 (length_word (length pair.0)) (word_again (length pair.0) (pair.0 ++ pair.1) small)

pub pairs_again : (pairs : List (List ℕ × List ℕ)) → AllByRecursion (λ pair. length pair.0 < 2 ^ 64) pairs → each_pair (map written_pair pairs) ≡ Some pairs
pairs_again [] small = refl
pairs_again (pair ∷ pairs) (own, small) =
    ap₂ (λ one others. option_and_then (λ p. option_map (λ ps. p ∷ ps) others) one) (pair_again pair own) (pairs_again pairs small)

pub behind_again : (pairs : List (List ℕ × List ℕ)) (log : List (List ℕ)) → AllByRecursion (λ pair. length pair.0 < 2 ^ 64) pairs → pairs_after (length pairs) (map written_pair pairs ++ log) ≡ Some pairs
behind_again pairs log small =
    let written = map written_pair pairs in
    let many : length written ≡ length pairs = length-map pairs written_pair in
    let enough : length pairs ≤ length (written ++ log) = omega (arith, many, length-append written log) in
    cond-false (nat_lt (length (written ++ log)) (length pairs)) None (each_pair (take (length pairs) (written ++ log))) (le-ltb (length (written ++ log)) (length pairs) enough) ∙ ap each_pair (take_at written log (length pairs) many) ∙ pairs_again pairs small

-- ---- entries of transactions

pub no_head : (bytes : List ℕ) (entry : Entry) → IsWrittenAs bytes entry → head_in bytes ≡ None
unfolding int_spelling byte_count
no_head bytes entry is = ap head_in is.has_bytes

pub no_head_before : (log : List (List ℕ)) (entries : List Entry) → AreWrittenAs log entries → head_before log ≡ None
no_head_before [] entries are = refl
no_head_before (bytes ∷ log) [] are = absurd are
no_head_before (bytes ∷ log) (entry ∷ entries) (is, are) = no_head bytes entry is
