-- Worked examples: bytes that a crash may have left of a block of two bytes, of which it counts three, and others.
use Rattle.std.proofs.Common.{◌≡◌, ℕ, List, [], ◌∷◌, ◌++◌, take, refl}
use Rattle.journal.specs.Form.{zeros}
use Rattle.journal.specs.Block.{said_number, counts_fit, counts_torn, may_be_torn, tested, what_begins}
use Rattle.journal.specs.declared.block.First.TheVariants.{End, Damaged}

-- eight bytes of a number below 256, and of its complement
abbrev word : ℕ → List ℕ
word last = zeros 7 ++ last ∷ []

abbrev other_word : ℕ → List ℕ
other_word last = 255 ∷ 255 ∷ 255 ∷ 255 ∷ 255 ∷ 255 ∷ 255 ∷ last ∷ []

-- an open gate, the last byte of each count and of its complement, and no byte of the digest
abbrev head : ℕ → ℕ → ℕ → ℕ → List ℕ
head len count other_len other_count = 1 ∷ word len ++ word count ++ other_word other_len ++ other_word other_count ++ zeros 32

-- a byte of the block is missing, and nothing stands behind it
a_byte_is_missing : what_begins (head 2 3 253 252 ++ 8 ∷ 9 ∷ 0 ∷ []) ≡ End
unfolding what_begins tested may_be_torn counts_fit counts_torn said_number
a_byte_is_missing = refl

-- the same, and another gate behind it
a_block_is_behind : what_begins (head 2 3 253 252 ++ 8 ∷ 9 ∷ 1 ∷ []) ≡ Damaged
unfolding what_begins tested may_be_torn counts_fit counts_torn said_number
a_block_is_behind = refl

-- the file ends within the block's counts, and within its bytes
cut_in_counts : what_begins (take 20 (head 2 3 253 252)) ≡ End
unfolding what_begins tested may_be_torn counts_fit counts_torn said_number
cut_in_counts = refl

cut_in_bytes : what_begins (head 2 3 253 252 ++ 8 ∷ []) ≡ End
unfolding what_begins tested may_be_torn counts_fit counts_torn said_number
cut_in_bytes = refl

-- the length is missing, and its complement tells where the block ended
length_is_missing : what_begins (head 0 3 253 252 ++ 8 ∷ 9 ∷ 0 ∷ []) ≡ End
unfolding what_begins tested may_be_torn counts_fit counts_torn said_number
length_is_missing = refl

length_is_another : what_begins (head 0 3 253 252 ++ 8 ∷ 9 ∷ 1 ∷ []) ≡ Damaged
unfolding what_begins tested may_be_torn counts_fit counts_torn said_number
length_is_another = refl

-- the last byte of its complement is missing: it may have had 255 bytes, but three that aren't zero and no more
complement_is_missing : what_begins (head 2 3 0 252 ++ 8 ∷ 9 ∷ 1 ∷ []) ≡ End
unfolding what_begins tested may_be_torn counts_fit counts_torn said_number
complement_is_missing = refl

more_than_were_counted : what_begins (head 2 3 0 252 ++ 8 ∷ 9 ∷ 1 ∷ 1 ∷ []) ≡ Damaged
unfolding what_begins tested may_be_torn counts_fit counts_torn said_number
more_than_were_counted = refl

-- a count and its complement that don't fit, and none of both is zero
no_crash_left_it : what_begins (head 2 3 252 252 ++ 8 ∷ 9 ∷ 0 ∷ []) ≡ Damaged
unfolding what_begins tested may_be_torn counts_fit counts_torn said_number
no_crash_left_it = refl

-- gates
closed_gate : what_begins (0 ∷ 8 ∷ 9 ∷ []) ≡ End
unfolding what_begins
closed_gate = refl

last_byte : what_begins (7 ∷ []) ≡ End
unfolding what_begins
last_byte = refl

another_gate : what_begins (7 ∷ 0 ∷ []) ≡ Damaged
unfolding what_begins
another_gate = refl
