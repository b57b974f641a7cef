-- The bytes of entries, and what a reader of them answers.
use Rattle.std.proofs.Common.{◌≡◌, ℕ, List, Option, Some, None, Err, refl, sym, ap, subst, ◌∙◌}
use Rattle.tuple_codec.specs.Item.{Item}
use Rattle.tuple_codec.specs.Spelling.{Spells}
use Rattle.tuple_codec.specs.Unpacking.{AnswersTuple}
use Rattle.tuple_codec.specs.declared.UnpackFailure.{UnpackFailure}
use Rattle.tuple_codec.specs.declared.UnpackFailure.TheVariants as unpack
use Rattle.tuple_codec.proofs.Spellings.{one_tuple, spelling_spells}
use Rattle.command_log.specs.declared.entry.Entry.{Entry}
use Rattle.command_log.specs.Form.{IsEntry, bytes_of_entry, tuple_of_entry}
use Rattle.command_log.specs.Reading.{entry_in}
use Rattle.command_log.specs.declared.error.EntryError.TheVariants.{Memory}
use Rattle.command_log.specs.Answers.{IsWrittenAs, told_failure}
use Rattle.command_log.specs.Laws.{BytesSpell, BytesTell}
use Rattle.command_log.proofs.ReadBack.{entry_back}

pub bytes_spell : BytesSpell
bytes_spell entry is = spelling_spells (tuple_of_entry entry) is.tuple.items is.tuple.depth

-- the tuple of the entry whose bytes these are
pub written_spells : (bytes : List ℕ) (entry : Entry) → IsWrittenAs bytes entry → Spells (tuple_of_entry entry) bytes
written_spells bytes entry is = subst (Spells (tuple_of_entry entry)) (sym is.has_bytes) (bytes_spell entry is.is_entry)

some_same : (a b : Entry) → Some a ≡ Some b → a ≡ b
some_same a b is = cc

pub bytes_tell : BytesTell
bytes_tell a b is_a is_b same =
    let items : tuple_of_entry a ≡ tuple_of_entry b = one_tuple (tuple_of_entry a) (tuple_of_entry b) (bytes_of_entry a) (bytes_spell a is_a) (subst (Spells (tuple_of_entry b)) (sym same) (bytes_spell b is_b)) in
    some_same a b (sym (entry_back a is_a) ∙ ap entry_in items ∙ entry_back b is_b)

-- bytes are those of one entry at most
pub one_entry : (bytes : List ℕ) (a b : Entry) → IsWrittenAs bytes a → IsWrittenAs bytes b → a ≡ b
one_entry bytes a b is_a is_b = bytes_tell a b is_a.is_entry is_b.is_entry (sym is_a.has_bytes ∙ is_b.has_bytes)

-- ---- the reader

-- bytes of an entry are refused for want of memory alone
pub unspelled_never : (bytes : List ℕ) (failure : UnpackFailure) (entry : Entry) → ((t : List Item) → Spells t bytes → AnswersTuple t (Err failure)) → IsWrittenAs bytes entry → told_failure failure ≡ Memory
unspelled_never bytes unpack.Memory entry answers is = refl
unspelled_never bytes (unpack.Refused error) entry answers is = absurd (answers (tuple_of_entry entry) (written_spells bytes entry is))

tuple_is : (bytes : List ℕ) (tuple : List Item) (entry : Entry) → Spells tuple bytes → IsWrittenAs bytes entry → tuple ≡ tuple_of_entry entry
tuple_is bytes tuple entry spelled is = one_tuple tuple (tuple_of_entry entry) bytes spelled (written_spells bytes entry is)

-- their tuple is read
pub unread_never : (bytes : List ℕ) (tuple : List Item) → Spells tuple bytes → entry_in tuple ≡ None → (entry : Entry) → IsWrittenAs bytes entry → ⊥
unread_never bytes tuple spelled none entry is =
    let found : Some entry ≡ None = sym (entry_back entry is.is_entry) ∙ ap entry_in (sym (tuple_is bytes tuple entry spelled is)) ∙ none in
    absurd (cc)

-- as that entry
pub read_same : (bytes : List ℕ) (tuple : List Item) (found : Entry) → Spells tuple bytes → entry_in tuple ≡ Some found → (entry : Entry) → IsWrittenAs bytes entry → found ≡ entry
read_same bytes tuple found spelled read entry is =
    some_same found entry (sym read ∙ ap entry_in (tuple_is bytes tuple entry spelled is) ∙ entry_back entry is.is_entry)

-- whose bytes are these
pub same_bytes : (bytes written : List ℕ) (tuple : List Item) (found : Entry) → Spells tuple bytes → entry_in tuple ≡ Some found → IsWrittenAs written found → (entry : Entry) → IsWrittenAs bytes entry → written ≡ bytes
same_bytes bytes written tuple found spelled read own entry is =
    own.has_bytes ∙ ap bytes_of_entry (read_same bytes tuple found spelled read entry is) ∙ sym is.has_bytes
