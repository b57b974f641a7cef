-- Heads, pairs and generations, worked.
use Rattle.std.proofs.Common.{◌≡◌, true, false, [], ◌∷◌, refl}
use Rattle.std.specs.Prelude.{Some, None}
use Rattle.durable.specs.Heads.{checkpoint_bytes, generation_of, head_in, written_pair, pair_in, pairs_after, word_in}
use Rattle.durable.specs.Reopening.{is_current}

-- what a key and a value are written as
a_pair : written_pair (0x15 ∷ 0x01 ∷ [], 0x05 ∷ []) ≡ 0 ∷ 0 ∷ 0 ∷ 0 ∷ 0 ∷ 0 ∷ 0 ∷ 2 ∷ 0x15 ∷ 0x01 ∷ 0x05 ∷ []
a_pair = refl

read_again : pair_in (0 ∷ 0 ∷ 0 ∷ 0 ∷ 0 ∷ 0 ∷ 0 ∷ 2 ∷ 0x15 ∷ 0x01 ∷ 0x05 ∷ []) ≡ Some (0x15 ∷ 0x01 ∷ [], 0x05 ∷ [])
unfolding word_in
read_again = refl

-- a pair that is cut short within its key is none
cut_short : pair_in (0 ∷ 0 ∷ 0 ∷ 0 ∷ 0 ∷ 0 ∷ 0 ∷ 2 ∷ 0x15 ∷ []) ≡ None
unfolding word_in
cut_short = refl

-- the third checkpoint, at version 258, of no pairs
a_head : checkpoint_bytes 3 258 [] ≡ (0 ∷ 0 ∷ 0 ∷ 0 ∷ 0 ∷ 0 ∷ 0 ∷ 0 ∷ 3 ∷ 0 ∷ 0 ∷ 0 ∷ 0 ∷ 0 ∷ 0 ∷ 1 ∷ 2 ∷ 0 ∷ 0 ∷ 0 ∷ 0 ∷ 0 ∷ 0 ∷ 0 ∷ 0 ∷ []) ∷ []
a_head = refl

says_its_generation : generation_of (checkpoint_bytes 3 258 []) ≡ 3
unfolding word_in
says_its_generation = refl

-- a head that is cut short is none, nor is what begins with another byte
no_head_cut : head_in (0 ∷ 1 ∷ 2 ∷ []) ≡ None
no_head_cut = refl

no_head_entry : generation_of ((0x15 ∷ 0x01 ∷ []) ∷ []) ≡ 0
no_head_entry = refl

-- fewer pairs than the head says
too_few : pairs_after 2 ((0 ∷ 0 ∷ 0 ∷ 0 ∷ 0 ∷ 0 ∷ 0 ∷ 0 ∷ []) ∷ []) ≡ None
too_few = refl

-- of two new files the first is gone on with, and else the one of the greater generation
new_files : is_current [] [] ≡ true
new_files = refl

greater_generation : is_current (checkpoint_bytes 2 0 []) (checkpoint_bytes 1 0 []) ≡ true
unfolding word_in
greater_generation = refl

earlier_generation : is_current (checkpoint_bytes 1 0 []) (checkpoint_bytes 2 0 []) ≡ false
unfolding word_in
earlier_generation = refl

-- neither of two files of one generation
same_generation : is_current (checkpoint_bytes 2 0 []) (checkpoint_bytes 2 5 []) ≡ false
unfolding word_in
same_generation = refl

-- a log from the first transaction on is older than a checkpoint
log_is_older : is_current (checkpoint_bytes 1 0 []) ((0x15 ∷ 0x01 ∷ []) ∷ []) ≡ true
unfolding word_in
log_is_older = refl
