-- Worked examples: what became of the submissions of a log, and what is kept of them.
use Rattle.std.proofs.Common.{◌≡◌, ℕ, true, List, [], ◌∷◌, refl}
use Rattle.kv_core.specs.Range.{KeyRange, point}
use Rattle.kv_core.specs.declared.change.Mutation.TheVariants.{Set}
use Rattle.runtime.specs.Origins.{Origin, origin_of}
use Rattle.runtime.specs.declared.log_entry.Entry.{Entry}
use Rattle.runtime.specs.declared.submission_status.SubmissionStatus.TheVariants.{Committed, Refused, Pending}
use Rattle.runtime.specs.declared.submission_status.SubmissionStatus.TheVariants.{Forgotten, NotSubmitted}
use Rattle.runtime.specs.Logs.{are_in_turn, count_of}
use Rattle.runtime.specs.Submissions.{outcome_in, outcomes_of, read_status, recent, told_status}

abbrev origin : Origin
origin = origin_of (record { resolver_splits = []; storage_splits = []; logs = 1; window = 1000; start = 0; places = 2 }) []

-- a submission that read this, and wrote a key
abbrev wrote : ℕ → ℕ → ℕ → List KeyRange → Entry
wrote client number read_version reads = record {
  client = client;
  number = number;
  request = record { read_version = read_version; reads = reads; mutations = Set (1 ∷ []) (9 ∷ []) ∷ [] };
  trace = record { store = 1; attempts = record { list = [] } };
}

-- client 0 writes the key; client 1, which had read it before that, is refused; client 0 writes it again
abbrev log : List Entry
log = wrote 0 1 0 [] ∷ wrote 1 1 0 (point (1 ∷ []) ∷ []) ∷ wrote 0 2 1 (point (1 ∷ []) ∷ []) ∷ []

in_turn : are_in_turn [] log ≡ true
in_turn = refl

counted : count_of 0 log ≡ 2
counted = refl

first : outcome_in origin log 0 1 ≡ Committed 1
first = refl

refused : outcome_in origin log 1 1 ≡ Refused
refused = refl

second : outcome_in origin log 0 2 ≡ Committed 3
second = refl

third : outcome_in origin log 0 3 ≡ Pending
third = refl

-- a client that was given two numbers
not_before : told_status origin log 0 2 0 ≡ NotSubmitted
not_before = refl

not_after : told_status origin log 0 2 3 ≡ NotSubmitted
not_after = refl

kept_first : read_status (outcomes_of origin log) 0 1 ≡ Committed 1
kept_first = refl

kept_refused : read_status (outcomes_of origin log) 1 1 ≡ Refused
kept_refused = refl

-- of 200 submissions the last 128 are kept
kept_before : read_status (recent (200 ∷ []) (5 ∷ [])) 0 72 ≡ Forgotten
kept_before = refl

kept_next : read_status (recent (200 ∷ []) (5 ∷ [])) 0 201 ≡ Pending
kept_next = refl

-- a committed one after 128 others is where the first one was
over : read_status (recent (129 ∷ []) (130 ∷ [])) 0 129 ≡ Committed 130
over = refl
