-- Levels of streams joined by their keys: what is given, what is left then, and where they stopped.
use Rattle.std.specs.Prelude.{◌≡◌, ℕ, false, ◌+◌, ◌<◌, List, [], ◌∷◌, length, map, Option, Some, None, Result, Ok, Err, IfOk, IfErr, refl}
use Rattle.std.specs.FinMap.{entries}
use Rattle.std.specs.Option.{is_some}
use Rattle.std.specs.Ordering.{match_ordering}
use Rattle.std.specs.declared.cmp.Ordering.{Ordering}
use Rattle.std.specs.declared.cmp.Ordering.TheVariants.{Less, Equal, Greater}
use Rattle.std.proofs.Common.{ap, sym, ◌∙◌, subst, arith}
use Rattle.kv_core.specs.Map.{Map}
use Rattle.kv_core.specs.Range.{KeyRange}
use Rattle.kv_core.specs.declared.change.CommitRequest.{CommitRequest}
use Rattle.kv_core.specs.declared.snapshot.ReadError.{ReadError}
use Rattle.txn.specs.Reads.{seen}
use Rattle.metadata.specs.declared.cells.Cell.{Cell}
use Rattle.metadata.specs.Layout.{Pair}
use Rattle.metadata.specs.Order.{cells_cmp}
use Rattle.plan_exec.specs.Course.{Course, all_joined, fails, finds, joined, joined_head, only_reads, reads}
use Rattle.plan_exec.specs.Levels.{TakesShared, head_then, joined_levels, takes_shared}
use Rattle.plan_exec.specs.Reads.{PlanRead}
use Rattle.plan_exec.specs.Streams.{HasGiven, HasNotGiven}
use Rattle.plan_exec.proofs.Courses.{things}
use Rattle.plan_exec.specs.declared.error.ExecError.{ExecError}
use Rattle.plan_exec.specs.declared.level.Level.{Level}
use Rattle.plan_exec.proofs.Levels.{HasEnded, HasReadOn, ReadsInTurn, both_given, both_read_on, first_stopped, given_none, left_in, left_kept, of_stream, read_on_still, same_stream, second_stopped, seen_kept, stopped_unknown}

-- ---- joined

module _ {A : Type 0} (key : A → List Cell) where
  joined_turns : ReadsInTurn (joined key key)
  joined_turns = record {
    first_reads = λ read course other. refl;
    first_fails = λ k course other. refl;
    second_reads = reads_second;
    second_fails = fails_second;
  }
    where
      reads_second : (head : Option A) (course : Course A) → HasEnded head course → (read : PlanRead) (other : Course A) → joined key key (head_then head course) (reads read ∷ other) ≡ reads read ∷ joined key key (head_then head course) other
      reads_second None course none read other = (λ i. joined key key (none i) (reads read ∷ other)) ∙ (λ i. reads read ∷ joined key key (sym none i) other)
      reads_second (Some a) course none read other = refl

      fails_second : (head : Option A) (course : Course A) → HasEnded head course → (k : List ℕ) (other : Course A) → (more : Course A) × (joined key key (head_then head course) (fails k ∷ other) ≡ fails k ∷ more)
      fails_second None course none k other = ([], λ i. joined key key (none i) (fails k ∷ other))
      fails_second (Some a) course none k other = ([], refl)

  -- where the second course has ended the first one is only read
  only_first : (course : Course A) → joined key key course [] ≡ only_reads course
  only_first [] = refl
  only_first (reads read ∷ course) = ap (λ c. reads read ∷ c) (only_first course)
  only_first (finds a ∷ course) = refl
  only_first (fails k ∷ course) = refl

  -- a course by what was taken of its heads: it is as it was where nothing is given
  abbrev pub Steps : Course A → Option A → Course A → Type 0
  Steps before None after = before ≡ after
  Steps before (Some a) after = before ≡ finds a ∷ after

  module _ (head other given head_left other_left : Option A) (course rest : Course A) where
    settled_shared : (before : Course A) {x y z : Option A} → given ≡ x → head_left ≡ y → other_left ≡ z → Steps before x (joined key key (head_then y course) (head_then z rest)) → Steps before given (joined key key (head_then head_left course) (head_then other_left rest))
    settled_shared before {x = x} {y = y} is left so goes =
        subst (λ g. Steps before g (joined key key (head_then head_left course) (head_then other_left rest))) (sym is)
        (subst (λ h. Steps before x (joined key key (head_then h course) (head_then other_left rest))) (sym left)
        (subst (λ o. Steps before x (joined key key (head_then y course) (head_then o rest))) (sym so) goes))

    -- SHARED: what is taken of two known things is what both courses joined find next, and else they come to the same
    pub shared_steps : HasEnded head course → HasEnded other rest → TakesShared key head other given head_left other_left → Steps (joined key key (head_then head course) (head_then other rest)) given (joined key key (head_then head_left course) (head_then other_left rest))
    shared_steps one two = by head other one two
      where
        by : (h o : Option A) → HasEnded h course → HasEnded o rest → TakesShared key h o given head_left other_left → Steps (joined key key (head_then h course) (head_then o rest)) given (joined key key (head_then head_left course) (head_then other_left rest))
        by None None none ended (is, left, so) = settled_shared (joined key key course rest) is left so refl
        by None (Some b) none ended (is, left, so) =
            settled_shared (joined key key course (finds b ∷ rest)) is left so (subst (λ c. joined key key c (finds b ∷ rest) ≡ joined key key c rest) (sym none) refl)
        by (Some a) None none ended (is, left, so) =
            settled_shared (joined key key (finds a ∷ course) rest) is left so (subst (λ d. joined key key (finds a ∷ course) d ≡ joined key key course d) (sym ended) (sym (only_first course)))
        by (Some a) (Some b) none ended takes = ordered (cells_cmp (key a) (key b)) takes
          where
            ordered : (o : Ordering) → takes_shared key (Some a) (Some b) given head_left other_left o →
                Steps (match_ordering o (joined key key course (finds b ∷ rest)) (finds a ∷ joined key key course rest) (joined_head key key a course (joined key key course) rest)) given
                (joined key key (head_then head_left course) (head_then other_left rest))
            ordered Less (is, left, so) = settled_shared (joined key key course (finds b ∷ rest)) is left so refl
            ordered Equal (is, left, so) = settled_shared (finds a ∷ joined key key course rest) is left so refl
            ordered Greater (is, left, so) = settled_shared (joined_head key key a course (joined key key course) rest) is left so refl

    -- FEWER: where something was dropped fewer things are left
    pub dropped_fewer : TakesShared key head other None head_left other_left → ((head ≡ None) × (other ≡ None) → ⊥) →
        length (things (head_then head_left course)) + length (things (head_then other_left rest)) < length (things (head_then head course)) + length (things (head_then other rest))
    dropped_fewer takes some = by head other takes some
      where
        after : Option A → Option A → ℕ
        after h o = length (things (head_then h course)) + length (things (head_then o rest))

        so : (n : ℕ) {y z : Option A} → head_left ≡ y → other_left ≡ z → after y z < n → after head_left other_left < n
        so n {y = y} left is less = subst (λ h. after h other_left < n) (sym left) (subst (λ o. after y o < n) (sym is) less)

        by : (h o : Option A) → TakesShared key h o None head_left other_left → ((h ≡ None) × (o ≡ None) → ⊥) → after head_left other_left < after h o
        by None None takes some = absurd (some (refl, refl))
        by None (Some b) (is, left, none) some = so (after None (Some b)) left none (omega arith)
        by (Some a) None (is, left, none) some = so (after (Some a) None) left none (omega arith)
        by (Some a) (Some b) takes some = ordered (cells_cmp (key a) (key b)) takes
          where
            ordered : (o : Ordering) → takes_shared key (Some a) (Some b) None head_left other_left o → after head_left other_left < after (Some a) (Some b)
            ordered Less (is, left, none) = so (after (Some a) (Some b)) left none (omega arith)
            ordered Equal (is, left, none) = absurd (let e = is in cc)
            ordered Greater (is, left, none) = so (after (Some a) (Some b)) left none (omega arith)

-- ---- levels

module _ {R A : Type 0} (course : R → List Pair → Course A) where
  module _ (key : A → List Cell) where
    -- two courses of which the second one is that of levels
    abbrev pub both_joined : Level R A → List (Level R A) → List Pair → Course A
    both_joined level rest pairs = joined key key (of_stream course level pairs) (head_then level.other (joined_levels course key rest pairs))

    -- so it is of all levels, where there are more than one
    joined_split : (level : Level R A) (rest : List (Level R A)) → 0 < length rest → joined_levels course key (level ∷ rest) ≡ both_joined level rest
    joined_split level [] more = absurd (omega (arith, more))
    joined_split level (next ∷ rest) more = refl

  module _ (key : A → List Cell) (maps : ℕ → Map) (old new : CommitRequest) where
    -- ALONE: one level gives what its stream does
    pub alone_given : (levels : List (Level R A)) (level : Level R A) (rest : List (Level R A)) → levels ≡ level ∷ rest → length rest ≡ 0 → (two : Level R A) (r : Result (Option A) ExecError) →
        IfOk r (λ given. HasGiven maps (of_stream course level) given (of_stream course two) old new) → IfOk r (λ given. HasGiven maps (joined_levels course key levels) given (joined_levels course key (two ∷ rest)) old new)
    alone_given levels level [] is none two (Err e) given = given
    alone_given levels level [] is none two (Ok given) one = subst (λ ls. HasGiven maps (joined_levels course key ls) given (of_stream course two) old new) (sym is) one
    alone_given levels level (next ∷ rest) is none two r given = absurd (omega (arith, none))

    pub alone_stopped : (refuses : KeyRange → ℕ → ReadError → Type 0) (levels : List (Level R A)) (level : Level R A) (rest : List (Level R A)) → levels ≡ level ∷ rest → length rest ≡ 0 → (r : Result (Option A) ExecError) →
        IfErr r (λ e. HasNotGiven maps refuses (of_stream course level) e old new) → IfErr r (λ e. HasNotGiven maps refuses (joined_levels course key levels) e old new)
    alone_stopped refuses levels level [] is none (Ok given) stop = stop
    alone_stopped refuses levels level [] is none (Err e) stop = subst (λ ls. HasNotGiven maps refuses (joined_levels course key ls) e old new) (sym is) stop
    alone_stopped refuses levels level (next ∷ rest) is none r stop = absurd (omega (arith, none))

  module _ {maps : ℕ → Map} (key : A → List Cell) where
    pub no_level_joined : {old : CommitRequest} (levels : List (Level R A)) → length levels ≡ 0 → HasGiven maps (joined_levels course key levels) None (joined_levels course key levels) old old
    no_level_joined [] none = given_none
    no_level_joined (level ∷ levels) none = absurd (omega (arith, none))

    -- BEGUN: nothing was read yet
    pub joined_begun : {old : CommitRequest} (levels : List (Level R A)) (level : Level R A) (rest : List (Level R A)) → levels ≡ level ∷ rest → 0 < length rest → HasReadOn maps (joined_levels course key levels) (both_joined key level rest) old old
    joined_begun {old = old} levels level rest is more =
        subst (λ (c : List Pair → Course A). HasReadOn maps c (both_joined key level rest) old old) (sym (ap (joined_levels course key) is ∙ joined_split key level rest more)) (read_on_still (both_joined key level rest))

    module _ (levels : List (Level R A)) (level : Level R A) (rest : List (Level R A)) {old mid : CommitRequest} (come : HasReadOn maps (joined_levels course key levels) (both_joined key level rest) old mid) where
      -- what the levels behind the first one have still to give
      abbrev pub of_others : List Pair → Course A
      of_others pairs = head_then level.other (joined_levels course key rest pairs)

      -- STOPPED in the first stream
      pub joined_stopped : {refuses : KeyRange → ℕ → ReadError → Type 0} {e : ExecError} {new : CommitRequest} → HasNotGiven maps refuses (of_stream course level) e mid new → HasNotGiven maps refuses (joined_levels course key levels) e old new
      joined_stopped stop = first_stopped (joined key key) (joined_turns key) (joined_levels course key levels) (of_stream course level) of_others come stop

      module _ (one : Level R A) (kept : one.other ≡ level.other) {read : CommitRequest} (first : HasGiven maps (of_stream course level) one.head (course one.stream) mid read) where
        -- STOPPED in the levels behind it
        pub others_stopped : {refuses : KeyRange → ℕ → ReadError → Type 0} {e : ExecError} {new : CommitRequest} → is_some one.other ≡ false → HasNotGiven maps refuses (joined_levels course key rest) e read new → HasNotGiven maps refuses (joined_levels course key levels) e old new
        others_stopped {refuses = refuses} {e = e} {new = new} unknown stop =
            second_stopped (joined key key) (joined_turns key) (joined_levels course key levels) (of_stream course level) of_others come first
            (subst (λ o. HasNotGiven maps refuses (λ pairs. head_then o (joined_levels course key rest pairs)) e read new) kept (stopped_unknown one.other (joined_levels course key rest) unknown stop))

        module _ {new : CommitRequest} (two : Level R A) (left : List (Level R A)) (same : two.stream ≡ one.stream) (same_head : two.head ≡ one.head)
            (found : HasGiven maps (λ pairs. head_then one.other (joined_levels course key rest pairs)) two.other (joined_levels course key left) read new) where
          head_known : HasGiven maps (of_stream course level) two.head (course two.stream) mid read
          head_known = same_stream course (of_stream course level) one two same same_head first

          other_known : HasGiven maps of_others two.other (joined_levels course key left) read new
          other_known = subst (λ o. HasGiven maps (λ pairs. head_then o (joined_levels course key rest pairs)) two.other (joined_levels course key left) read new) kept found

          -- ENDED: neither has anything left
          pub joined_ended : 0 < length left → is_some two.head ≡ false → is_some two.other ≡ false → HasGiven maps (joined_levels course key levels) None (joined_levels course key (two ∷ left)) old new
          joined_ended more no_head no_other =
              both_given (joined key key) (joined_turns key) (joined_levels course key levels) (of_stream course level) of_others come head_known other_known
              (λ pairs none ended.
              let nothing : both_joined key two left pairs ≡ [] = by two.head two.other no_head no_other (course two.stream pairs) (joined_levels course key left pairs) none ended in
              (nothing, (λ i. joined_split key two left more i pairs) ∙ nothing))
            where
              by : (h o : Option A) → is_some h ≡ false → is_some o ≡ false → (c d : Course A) → HasEnded h c → HasEnded o d → joined key key (head_then h c) (head_then o d) ≡ []
              by None None n m c d none ended = λ i. joined key key (none i) (ended i)
              by None (Some b) n m c d none ended = absurd (cc)
              by (Some a) o n m c d none ended = absurd (cc)

          -- GIVEN: what both have
          pub joined_given : 0 < length left → (a : A) (head other : Option A) → TakesShared key two.head two.other (Some a) head other →
              HasGiven maps (joined_levels course key levels) (Some a) (joined_levels course key (record { stream = two.stream; head = head; other = other } ∷ left)) old new
          joined_given more a head other takes =
              both_given (joined key key) (joined_turns key) (joined_levels course key levels) (of_stream course level) of_others come head_known other_known
              (λ pairs none ended.
              shared_steps key two.head two.other (Some a) head other (course two.stream pairs) (joined_levels course key left pairs) none ended takes
              ∙ (λ i. finds a ∷ sym (joined_split key (record { stream = two.stream; head = head; other = other }) left more) i pairs))

          -- DROPPED: the lower one, and both are read on
          pub joined_read_on : (head other : Option A) → TakesShared key two.head two.other None head other → HasReadOn maps (joined_levels course key levels) (both_joined key (record { stream = two.stream; head = head; other = other }) left) old new
          joined_read_on head other takes =
              both_read_on (joined key key) (joined_turns key) (joined_levels course key levels) (of_stream course level) of_others come head_known other_known
              (λ pairs none ended. shared_steps key two.head two.other None head other (course two.stream pairs) (joined_levels course key left pairs) none ended takes)

          -- FEWER things are left then
          pub joined_fewer : (head other : Option A) → TakesShared key two.head two.other None head other → ((two.head ≡ None) × (two.other ≡ None) → ⊥) →
              left_in maps new (λ pairs. head_then head (course two.stream pairs)) + left_in maps new (λ pairs. head_then other (joined_levels course key left pairs)) < left_in maps mid (of_stream course level) + left_in maps mid of_others
          joined_fewer head other takes some =
              let pairs : List Pair = entries (seen new (maps new.read_version)) in
              let less = dropped_fewer key two.head two.other None head other (course two.stream pairs) (joined_levels course key left pairs) takes some in
              let one : left_in maps new (of_stream course two) ≡ left_in maps mid (of_stream course level) = ap (λ m. length (things (of_stream course two (entries m)))) (seen_kept other_known.ran) ∙ left_kept maps head_known in
              let both : left_in maps new (λ ps. head_then two.other (joined_levels course key left ps)) ≡ left_in maps mid of_others = left_kept maps other_known ∙ ap (λ m. length (things (of_others (entries m)))) (seen_kept head_known.ran) in
              omega (arith, less, one, both)

  -- NEW: levels of which nothing is known yet give what their streams' courses joined find
  pub joined_new : (key : A → List Cell) (streams : List R) (pairs : List Pair) → joined_levels course key (map (λ s. record { stream = s; head = None; other = None }) streams) pairs ≡ all_joined key (map (λ s. course s pairs) streams)
  joined_new key [] pairs = refl
  joined_new key (s ∷ []) pairs = refl
  joined_new key (s ∷ next ∷ streams) pairs = ap (joined key key (course s pairs)) (joined_new key (next ∷ streams) pairs)
