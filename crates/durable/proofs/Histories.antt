-- Which files have the history of a database, while transactions are added and while a checkpoint is made.
use Rattle.std.proofs.Common.{◌≡◌, ℕ, ◌+◌, ◌<◌, ◌^◌, inl, inr, ◌⊎◌, List, [], ◌∷◌, ◌++◌, length, refl, sym, ap, subst, ◌∙◌, arith, append-nil, append_assoc, All}
use Rattle.std.specs.Prelude.{Result, Ok, Err, IfErr, IfOk}
use Rattle.journal.specs.Block.{Contents, StandsFor}
use Rattle.journal.specs.Device.{Only}
use Rattle.journal.specs.Journal.{entries_read}
use Rattle.command_log.specs.declared.entry.Entry.{Entry}
use Rattle.replay.specs.Commands.{commands_of}
use Rattle.replay.specs.Logged.{AreServed, log_database}
use Rattle.replay.specs.Pairs.{all_pairs}
use Rattle.replay.specs.Replaying.{Image, IsLogged}
use Rattle.replay.proofs.Wholes.{pairs_suffice}
use Rattle.durable.specs.declared.error.CommitError.{CommitError}
use Rattle.durable.specs.declared.error.CommitError.TheVariants.{Unseen}
use Rattle.durable.specs.declared.request.Committed.{Committed}
use Rattle.durable.specs.declared.request.Request.{Request}
use Rattle.durable.specs.Checkpoints.{HaveHistory, IsBaseOf, IsCheckpoint, IsOlder, HaveOnDisk}
use Rattle.durable.specs.Exchanging.{IsRewritten}
use Rattle.durable.specs.Heads.{checkpoint_bytes, generation_of, told_generation}
use Rattle.durable.specs.Keeping.{Base, HasLogOf, HasOnDisk, HasOneOrNone, IsCommitted, KeepsLog, entry_at}
use Rattle.durable.specs.Reopening.{IsLogOn}
use Rattle.durable.specs.Twofold.{IsAdded, KeepsHistory}
use Rattle.durable.proofs.Loading.{head_first, headless}

pub read_is : (file : List ℕ) (log : List (List ℕ)) → StandsFor file log → entries_read file ≡ log
read_is file log stands = ap (λ (c : Contents). c.entries) stands

pub read_whole : (file : List ℕ) (log : List (List ℕ)) → StandsFor file log → StandsFor file (entries_read file)
read_whole file log stands = subst (StandsFor file) (sym (read_is file log stands)) stands

-- ---- generations

-- a log says of which generation it is
pub generation_is : (log : List (List ℕ)) (base : Base) (after : List Entry) (on : IsLogOn log base after) → generation_of log ≡ on.generation
generation_is log base after on = by_kind on.is_base
  where
    by_kind : IsBaseOf on.generation base → generation_of log ≡ on.generation
    by_kind (inl none) = ap told_generation (headless log base after on none.1) ∙ sym none.0
    by_kind (inr point) = ap told_generation (head_first log base after on point)

abbrev pub log_on : (file : List ℕ) (generation : ℕ) (base : Base) (after : List Entry) → IsBaseOf generation base → (has : HasLogOf base file after) → IsLogOn (base.front ++ has.0) base after
log_on file generation base after is_base has = record { generation = generation; is_base = is_base; written = has.0; are = has.1; split = refl }

-- a file is older than the generation after its own
pub older_now : (file : List ℕ) (generation : ℕ) (base : Base) (after : List Entry) → IsBaseOf generation base → HasLogOf base file after → IsOlder file (generation + 1)
older_now file generation base after is_base has =
    let log = base.front ++ has.0 in
    let stands : StandsFor file log = has.2 in
    let told : generation_of (entries_read file) ≡ generation = ap generation_of (read_is file log stands) ∙ generation_is log base after (log_on file generation base after is_base has) in
    record { whole = read_whole file log stands; older = inr (omega (arith, told)) }

-- one that has nothing, or what an older one has, is older
pub older_none : (file : List ℕ) (generation : ℕ) → StandsFor file [] → IsOlder file generation
older_none file generation stands = record { whole = read_whole file [] stands; older = inl (read_is file [] stands) }

pub older_alike : (file c : List ℕ) (generation : ℕ) → IsOlder file generation → StandsFor c (entries_read file) → IsOlder c generation
older_alike file c generation is stands =
    let same = read_is c (entries_read file) stands in
    record {
      whole = read_whole c (entries_read file) stands;
      older = subst (λ log. (log ≡ []) ⊎ (generation_of log < generation)) (sym same) is.older;
    }

-- ---- a transaction more

module _ {D : Type 0} (seen : D → List ℕ) (may_leave : D → List ℕ → Type 0) (entries : List Entry) (generation : ℕ) (device spare : D) (image : Image) (k : KeepsHistory seen may_leave entries generation device spare image) where
  abbrev base : Base
  base = k.base

  abbrev after : List Entry
  after = k.after

  pub added : (version : ℕ) (request : Request) (done : Committed) (new : D) (next : Image) → IsCommitted seen may_leave k.base k.after version request done new next → IsAdded seen may_leave entries generation version request done new spare next
  added version request done new next committed =
      let entry = entry_at (version + 1) request in
      record {
        given = committed.given;
        keeps = record {
          base = k.base;
          after = k.after ++ entry ∷ [];
          split = sym (append_assoc k.base.before k.after (entry ∷ [])) ∙ ap (λ es. es ++ entry ∷ []) k.split;
          is_base = k.is_base;
          keeps = committed.keeps;
          older = k.older;
          spare_durable = k.spare_durable;
        };
        served = subst (λ es. let d = log_database es in AreServed request.store d.map [] (d.stores request.store) (commands_of request.changes) done.replies.items) k.split committed.served;
      }

  current : (c : List ℕ) → HasLogOf k.base c k.after → HaveHistory entries c (seen spare)
  current c has = inl (record { generation = generation; has = record { base = k.base; after = k.after; split = k.split; is_base = k.is_base; log = has }; older = k.older })

  current_more : (c : List ℕ) (entry : Entry) → HasLogOf k.base c (k.after ++ entry ∷ []) → HaveHistory (entries ++ entry ∷ []) c (seen spare)
  current_more c entry has = inl (record {
    generation = generation;
    has = record {
      base = k.base;
      after = k.after ++ entry ∷ [];
      split = sym (append_assoc k.base.before k.after (entry ∷ [])) ∙ ap (λ es. es ++ entry ∷ []) k.split;
      is_base = k.is_base;
      log = has;
    };
    older = k.older;
  })

  pub with_or_without : (entry : Entry) (c : List ℕ) → HasOneOrNone k.base k.after entry c → HaveHistory entries c (seen spare) ⊎ HaveHistory (entries ++ entry ∷ []) c (seen spare)
  with_or_without entry c (inl has) = inl (current c has)
  with_or_without entry c (inr has) = inr (current_more c entry has)

  -- one that can't be read is there
  pub still_on_disk : (entry : Entry) (new : D) → HasOnDisk seen may_leave k.base (k.after ++ entry ∷ []) new → HaveOnDisk seen may_leave (entries ++ entry ∷ []) new spare
  still_on_disk entry new has = record { files = current_more (seen new) entry has.file; durable = has.durable; other_durable = k.spare_durable }

  -- ---- a checkpoint

  pub whole_history : IsLogged entries image
  whole_history = subst (λ es. IsLogged es image) k.split k.keeps.logged

  abbrev pairs : List (List ℕ × List ℕ)
  pairs = all_pairs image.map

  abbrev front : List (List ℕ)
  front = checkpoint_bytes (generation + 1) image.version pairs

  abbrev pub next_base : Base
  next_base = record { front = front; before = entries }

  module _ (small : generation + 1 < 2 ^ 64) (version_small : image.version < 2 ^ 64) (few : length pairs < 2 ^ 64) (keys : All (λ pair. length pair.0 < 2 ^ 64) pairs) where
    point : IsCheckpoint (generation + 1) next_base
    point = record {
      version = image.version;
      pairs = pairs;
      front = refl;
      logged = subst (λ m. IsLogged entries (record { map = m; version = image.version })) (sym (pairs_suffice entries image whole_history)) whole_history;
      some = omega arith;
      small = small;
      version_small = version_small;
      few = few;
      keys_small = keys;
    }

    has_next : (c : List ℕ) → StandsFor c front → HasLogOf next_base c []
    has_next c stands = ([], tt, subst (StandsFor c) (sym (append-nil front)) stands)

    older_device : IsOlder (seen device) (generation + 1)
    older_device = older_now (seen device) generation k.base k.after k.is_base k.keeps.file

    -- at each moment the files have the history
    pub any_file : (c : List ℕ) → IsRewritten (entries_read (seen spare)) front c → HaveHistory entries (seen device) c
    any_file c (inl (inl before)) = inl (record { generation = generation; has = record { base = k.base; after = k.after; split = k.split; is_base = k.is_base; log = k.keeps.file }; older = older_alike (seen spare) c generation k.older before })
    any_file c (inl (inr none)) = inl (record { generation = generation; has = record { base = k.base; after = k.after; split = k.split; is_base = k.is_base; log = k.keeps.file }; older = older_none c generation none })
    any_file c (inr made) = inr (record { generation = generation + 1; has = record { base = next_base; after = []; split = append-nil entries; is_base = inr point; log = has_next c made }; older = older_device })

    -- the log goes on behind it
    pub goes_over : (new : D) → StandsFor (seen new) front → Only (seen new) (may_leave new) → KeepsHistory seen may_leave entries (generation + 1) new device image
    goes_over new stands durable = record {
      base = next_base;
      after = [];
      split = append-nil entries;
      is_base = inr point;
      keeps = record { file = has_next (seen new) stands; durable = durable; logged = subst (λ es. IsLogged es image) (sym (append-nil entries)) whole_history };
      older = older_device;
      spare_durable = k.keeps.durable;
    }

  -- it goes on where it is, and the other device has nothing
  pub stays_here : (new : D) → StandsFor (seen new) [] → Only (seen new) (may_leave new) → KeepsHistory seen may_leave entries generation device new image
  stays_here new none durable = record {
    base = k.base;
    after = k.after;
    split = k.split;
    is_base = k.is_base;
    keeps = k.keeps;
    older = older_none (seen new) generation none;
    spare_durable = durable;
  }

-- what a commit answers, of the log and of the history
pub all_added : {D : Type 0} (seen : D → List ℕ) (may_leave : D → List ℕ → Type 0) (generation : ℕ) (device spare : D) (image : Image) (request : Request) (result : Result Committed CommitError) (new : D) (next : Image) →
    IfOk result (λ done. (base : Base) (after : List Entry) → KeepsLog seen may_leave base after device image → IsCommitted seen may_leave base after image.version request done new next) →
    IfOk result (λ done. (entries : List Entry) → KeepsHistory seen may_leave entries generation device spare image → IsAdded seen may_leave entries generation image.version request done new spare next)
all_added seen may_leave generation device spare image request (Ok done) new next committed =
    λ entries keeps. added seen may_leave entries generation device spare image keeps image.version request done new next (committed keeps.base keeps.after keeps.keeps)
all_added seen may_leave generation device spare image request (Err error) new next committed = committed

pub all_unseen : {D : Type 0} (seen : D → List ℕ) (may_leave : D → List ℕ → Type 0) (generation : ℕ) (device spare : D) (image : Image) (request : Request) (result : Result Committed CommitError) (new : D) →
    IfErr result (λ error. error ≡ Unseen → (base : Base) (after : List Entry) → KeepsLog seen may_leave base after device image → HasOnDisk seen may_leave base (after ++ entry_at (image.version + 1) request ∷ []) new) →
    IfErr result (λ error. error ≡ Unseen → (entries : List Entry) → KeepsHistory seen may_leave entries generation device spare image → HaveOnDisk seen may_leave (entries ++ entry_at (image.version + 1) request ∷ []) new spare)
all_unseen seen may_leave generation device spare image request (Ok done) new told = told
all_unseen seen may_leave generation device spare image request (Err error) new told =
    λ is entries keeps. still_on_disk seen may_leave entries generation device spare image keeps (entry_at (image.version + 1) request) new (told is keeps.base keeps.after keeps.keeps)
