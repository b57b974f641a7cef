-- Parts of which the first one and those behind it went on: what they weigh, what they gave and where they stopped.
use Rattle.std.specs.Prelude.{◌≡◌, ℕ, false, true, ◌==◌, ◌+◌, ◌-◌, List, [], ◌∷◌, ◌++◌, length, map, take, drop, Option, Some, None, Result, Ok, Err, IfErr, IfOk, refl}
use Rattle.std.specs.Option.{is_some}
use Rattle.std.proofs.Common.{ap, sym, ◌∙◌, subst, append-nil, arith, get_or, slice_set}
use Rattle.std.proofs.lemmas.Bool.{eqb-true}
use Rattle.std.proofs.lemmas.List.{drop_all}
use Rattle.std.proofs.Math.Seq.{take-length}
use borrow.Rule.Slice.PartMut.{mid_of, put_mid}
use Rattle.kv_core.specs.Map.{Map}
use Rattle.kv_core.specs.Range.{KeyRange}
use Rattle.kv_core.specs.declared.change.CommitRequest.{CommitRequest}
use Rattle.kv_core.specs.declared.snapshot.ReadError.{ReadError}
use Rattle.metadata.specs.Layout.{Pair}
use Rattle.metadata.specs.Record.{Record}
use Rattle.planner.specs.Layout.{primary_cells}
use Rattle.plan_exec.specs.Course.{Course}
use Rattle.plan_exec.specs.Levels.{TakesNext, head_then, merged_levels}
use Rattle.plan_exec.specs.Rows.{RowsLevel, chained_levels, level_of, weight, weights}
use Rattle.plan_exec.specs.Streams.{HasGiven, HasNotGiven}
use Rattle.plan_exec.specs.declared.error.ExecError.{ExecError}
use Rattle.plan_exec.specs.declared.rows.Rows.{Rows}
use Rattle.plan_exec.specs.declared.rows.Rows.TheViews.{out-Rows, roll-Rows}
use Rattle.plan_exec.proofs.ChainedLevels.{first_part_given, first_part_stopped, other_parts_given, other_parts_stopped}
use Rattle.plan_exec.proofs.Levels.{given_known, given_unknown}
use Rattle.plan_exec.proofs.MergedLevels.{first_level_stopped, levels_given, other_levels_stopped}
use Rattle.plan_exec.proofs.RowLevels.{head_is, level_is, level_rolled, other_is, weight_is, weight_rolled, weights_same}

-- a fact of the result follows from another one
pub if_ok_more : {T E : Type 0} (r : Result T E) (P Q : T → Type 0) → ((x : T) → P x → Q x) → IfOk r P → IfOk r Q
if_ok_more (Ok x) P Q more p = more x p
if_ok_more (Err e) P Q more p = tt

pub if_err_more : {T E : Type 0} (r : Result T E) (P Q : E → Type 0) → ((e : E) → P e → Q e) → IfErr r P → IfErr r Q
if_err_more (Ok x) P Q more p = tt
if_err_more (Err e) P Q more p = more e p

-- no element has no level
pub no_levels : (parts : List Rows) → true ≡ (length parts == 0) → length (map level_of parts) ≡ 0
no_levels [] none = refl
no_levels (part ∷ parts) none = absurd (omega (arith, eqb-true (length (part ∷ parts)) 0 (sym none)))

-- what one element weighs
pub zero_more : (n : ℕ) {m : ℕ} → 0 + n ≡ 0 + m → n ≡ m
zero_more n same = omega (arith, same)

-- ---- lists with a first element

module _ {A : Type 0} where
  -- the list is its first element and the others
  pub first_and : (xs : List A) → false ≡ (length xs == 0) → (d : A) → xs ≡ get_or xs 0 d ∷ drop 1 xs
  first_and [] some d = absurd (cc)
  first_and (x ∷ xs) some d = refl

  -- another one in the first one's place
  pub first_set : (xs : List A) → false ≡ (length xs == 0) → (v : A) → slice_set xs 0 v ≡ v ∷ drop 1 xs
  first_set [] some v = absurd (cc)
  first_set (x ∷ xs) some v = refl

  -- the others
  pub others_are : (xs : List A) → false ≡ (length xs == 0) → (v : A) → mid_of 1 (length (slice_set xs 0 v) - 1) (slice_set xs 0 v) ≡ drop 1 xs
  others_are [] some v = absurd (cc)
  others_are (x ∷ xs) some v = let e : length (v ∷ xs) - 1 ≡ length xs = omega arith in ap (λ (k : ℕ). take k xs) e ∙ take-length xs

  -- others in their place
  pub others_put : (xs : List A) → false ≡ (length xs == 0) → (v : A) (ys : List A) → put_mid 1 (length (slice_set xs 0 v) - 1) (slice_set xs 0 v) ys ≡ v ∷ ys
  others_put [] some v ys = absurd (cc)
  others_put (x ∷ xs) some v ys =
      let e : drop (length (v ∷ xs) - 1) xs ≡ [] = drop_all (length (v ∷ xs) - 1) xs (omega arith) in
      ap (λ zs. v ∷ (ys ++ zs)) e ∙ ap (λ zs. v ∷ zs) (append-nil ys)

-- ---- parts

module _ (parts : List Rows) (some : false ≡ (length parts == 0)) (d : Rows) where
  -- they weigh as much where the first one does
  pub weights_first : (now : Rows) → weight now ≡ weight (get_or parts 0 d) → weights (slice_set parts 0 now) ≡ weights parts
  weights_first now same = ap weights (first_set parts some now) ∙ weights_same now (get_or parts 0 d) (drop 1 parts) (drop 1 parts) same refl ∙ sym (ap weights (first_and parts some d))

  -- and where the others do
  pub weights_put : (now : Rows) (left : List Rows) → weight now ≡ weight (get_or parts 0 d) → weights left ≡ weights (mid_of 1 (length (slice_set parts 0 now) - 1) (slice_set parts 0 now)) →
      weights (put_mid 1 (length (slice_set parts 0 now) - 1) (slice_set parts 0 now) left) ≡ weights parts
  weights_put now left same others =
      ap weights (others_put parts some now left) ∙ weights_same now (get_or parts 0 d) left (drop 1 parts) same (others ∙ ap weights (others_are parts some now)) ∙ sym (ap weights (first_and parts some d))

  -- their levels are that of the first one and those of the others
  levels_are : map level_of parts ≡ level_of (get_or parts 0 d) ∷ map level_of (drop 1 parts)
  levels_are = ap (map level_of) (first_and parts some d)

  module _ {maps : ℕ → Map} where
    -- ---- one behind another

    -- STOPPED in the first part
    pub chained_first_stopped : {refuses : KeyRange → ℕ → ReadError → Type 0} (e : ExecError) {old new : CommitRequest} → HasNotGiven maps refuses (level_of (get_or parts 0 d)).stream e old new → HasNotGiven maps refuses (chained_levels (map level_of parts)) e old new
    chained_first_stopped e stop = first_part_stopped (map level_of parts) (level_of (get_or parts 0 d)) (map level_of (drop 1 parts)) levels_are e stop

    module _ (now : Rows) where
      -- GIVEN by the first part
      pub chained_first_given : {old new : CommitRequest} (row : Record) → HasGiven maps (level_of (get_or parts 0 d)).stream (Some row) (level_of now).stream old new →
          HasGiven maps (chained_levels (map level_of parts)) (Some row) (chained_levels (map level_of (slice_set parts 0 now))) old new
      chained_first_given {old = old} {new = new} row one =
          subst (λ ps. HasGiven maps (chained_levels (map level_of parts)) (Some row) (chained_levels (map level_of ps)) old new) (sym (first_set parts some now))
          (first_part_given (map level_of parts) (level_of (get_or parts 0 d)) (map level_of (drop 1 parts)) levels_are (level_of now) row one)

      -- GIVEN by the others
      pub chained_others_given : {old mid new : CommitRequest} (left : List Rows) (given : Option Record) → HasGiven maps (level_of (get_or parts 0 d)).stream None (level_of now).stream old mid →
          HasGiven maps (chained_levels (map level_of (mid_of 1 (length (slice_set parts 0 now) - 1) (slice_set parts 0 now)))) given (chained_levels (map level_of left)) mid new →
          HasGiven maps (chained_levels (map level_of parts)) given (chained_levels (map level_of (put_mid 1 (length (slice_set parts 0 now) - 1) (slice_set parts 0 now) left))) old new
      chained_others_given {old = old} {mid = mid} {new = new} left given one two =
          subst (λ ps. HasGiven maps (chained_levels (map level_of parts)) given (chained_levels (map level_of ps)) old new) (sym (others_put parts some now left))
          (other_parts_given (map level_of parts) (level_of (get_or parts 0 d)) (map level_of (drop 1 parts)) levels_are (level_of now) (map level_of left) given one
          (subst (λ ps. HasGiven maps (chained_levels (map level_of ps)) given (chained_levels (map level_of left)) mid new) (others_are parts some now) two))

      -- STOPPED in the others
      pub chained_others_stopped : {refuses : KeyRange → ℕ → ReadError → Type 0} (e : ExecError) {old mid new : CommitRequest} → HasGiven maps (level_of (get_or parts 0 d)).stream None (level_of now).stream old mid →
          HasNotGiven maps refuses (chained_levels (map level_of (mid_of 1 (length (slice_set parts 0 now) - 1) (slice_set parts 0 now)))) e mid new → HasNotGiven maps refuses (chained_levels (map level_of parts)) e old new
      chained_others_stopped {refuses = refuses} e {mid = mid} {new = new} one two =
          other_parts_stopped (map level_of parts) (level_of (get_or parts 0 d)) (map level_of (drop 1 parts)) levels_are (level_of now) e one
          (subst (λ ps. HasNotGiven maps refuses (chained_levels (map level_of ps)) e mid new) (others_are parts some now) two)

-- ---- parts that are merged

-- the rows of merged parts
abbrev pub merged_rows : List Rows → List Pair → Course Record
merged_rows parts = merged_levels (λ stream. stream) primary_cells (map level_of parts)

-- the next row of the first part is known, as it is in `found`; that of the parts behind it, too, as it is in these parts now
pub record OtherIsKnown (maps : ℕ → Map) (found : Rows) (rest : List Rows) (now : List Rows) (old new : CommitRequest) : Type 0 where
  pub part : Rows
  pub left : List Rows
  pub are : now ≡ part ∷ left
  pub stream : (level_of part).stream ≡ (level_of found).stream
  pub head : (level_of part).head ≡ (level_of found).head
  pub first_weight : weight part ≡ weight found
  pub other_weights : weights left ≡ weights rest
  pub other : HasGiven maps (λ pairs. head_then (level_of found).other (merged_rows rest pairs)) (level_of part).other (merged_rows left) old new

-- a part with these next rows
abbrev with_heads : Rows → Option Record → Option Record → Rows
with_heads first head other = roll-Rows (record { step = (out-Rows first).step; parts = (out-Rows first).parts; head = head; other = other })

-- its level and its weight
level_with : (first : Rows) (head other : Option Record) → level_of (with_heads first head other) ≡ record { stream = (level_of first).stream; head = head; other = other }
level_with first head other =
    level_rolled (record { step = (out-Rows first).step; parts = (out-Rows first).parts; head = head; other = other })
    ∙ ap (λ (level : RowsLevel). let made : RowsLevel = record { stream = level.stream; head = head; other = other } in made) (sym (level_is first))

weight_with : (first : Rows) (head other : Option Record) → weight (with_heads first head other) ≡ weight first
weight_with first head other = weight_rolled (record { step = (out-Rows first).step; parts = (out-Rows first).parts; head = head; other = other }) ∙ sym (weight_is first)

module _ (parts : List Rows) (some : false ≡ (length parts == 0)) (found d : Rows) where
  -- the one that is seen in the first place
  seen_found : get_or (slice_set parts 0 found) 0 d ≡ found
  seen_found = ap (λ ps. get_or ps 0 d) (first_set parts some found)

  -- and the next row behind it that is seen there
  pub seen_other : (level_of found).other ≡ (out-Rows (get_or (slice_set parts 0 found) 0 d)).other
  seen_other = other_is found ∙ sym (ap (λ p. (out-Rows p).other) seen_found)

  module _ {maps : ℕ → Map} where
    -- KNOWN before
    pub other_known : {old : CommitRequest} (now : List Rows) → now ≡ slice_set parts 0 found → is_some (out-Rows (get_or (slice_set parts 0 found) 0 d)).other ≡ true → OtherIsKnown maps found (drop 1 parts) now old old
    other_known now is known = record {
      part = found;
      left = drop 1 parts;
      are = is ∙ first_set parts some found;
      stream = refl;
      head = refl;
      first_weight = refl;
      other_weights = refl;
      other = given_known (level_of found).other (merged_rows (drop 1 parts)) (ap is_some seen_other ∙ known);
    }

    -- ASKED for now
    pub other_asked : {old new : CommitRequest} (given : Option Record) (left now : List Rows) (dd : Rows) →
        (let put : List Rows = put_mid 1 (length (slice_set parts 0 found) - 1) (slice_set parts 0 found) left in
        let first : Rows = get_or put 0 dd in
        now ≡ slice_set put 0 (with_heads first (out-Rows first).head given)) →
        is_some (out-Rows (get_or (slice_set parts 0 found) 0 d)).other ≡ false → weights left ≡ weights (mid_of 1 (length (slice_set parts 0 found) - 1) (slice_set parts 0 found)) →
        HasGiven maps (merged_rows (mid_of 1 (length (slice_set parts 0 found) - 1) (slice_set parts 0 found))) given (merged_rows left) old new → OtherIsKnown maps found (drop 1 parts) now old new
    other_asked {old = old} {new = new} given left now dd is unknown as_much one = record {
      part = with_heads found (out-Rows found).head given;
      left = left;
      are = is ∙ ap (λ ps. slice_set ps 0 (with_heads (get_or ps 0 dd) (out-Rows (get_or ps 0 dd)).head given)) (others_put parts some found left);
      stream = ap (λ (level : RowsLevel). level.stream) (level_with found (out-Rows found).head given);
      head = ap (λ (level : RowsLevel). level.head) (level_with found (out-Rows found).head given) ∙ sym (head_is found);
      first_weight = weight_with found (out-Rows found).head given;
      other_weights = as_much ∙ ap weights (others_are parts some found);
      other =
          subst (λ o. HasGiven maps (λ pairs. head_then (level_of found).other (merged_rows (drop 1 parts) pairs)) o (merged_rows left) old new) (sym (ap (λ (level : RowsLevel). level.other) (level_with found (out-Rows found).head given)))
          (given_unknown (level_of found).other given (merged_rows (drop 1 parts)) (merged_rows left) (ap is_some seen_other ∙ unknown)
          (subst (λ ps. HasGiven maps (merged_rows ps) given (merged_rows left) old new) (others_are parts some found) one));
    }

    -- STOPPED in the parts behind the first one, which were asked
    pub merged_others_stopped : {refuses : KeyRange → ℕ → ReadError → Type 0} {e : ExecError} {old mid new : CommitRequest} (first : Rows) → (level_of found).other ≡ (level_of (get_or parts 0 first)).other →
        HasGiven maps (λ pairs. head_then (level_of (get_or parts 0 first)).head ((level_of (get_or parts 0 first)).stream pairs)) (level_of found).head (level_of found).stream old mid →
        is_some (out-Rows (get_or (slice_set parts 0 found) 0 d)).other ≡ false → HasNotGiven maps refuses (merged_rows (mid_of 1 (length (slice_set parts 0 found) - 1) (slice_set parts 0 found))) e mid new → HasNotGiven maps refuses (merged_rows parts) e old new
    merged_others_stopped {refuses = refuses} {e = e} {mid = mid} {new = new} first kept one unknown stop =
        other_levels_stopped (λ stream. stream) primary_cells (map level_of parts) (level_of (get_or parts 0 first)) (map level_of (drop 1 parts)) (ap (map level_of) (first_and parts some first)) (level_of found) kept one
        (ap is_some seen_other ∙ unknown) (subst (λ ps. HasNotGiven maps refuses (merged_rows ps) e mid new) (others_are parts some found) stop)

module _ (parts : List Rows) (some : false ≡ (length parts == 0)) (d : Rows) {maps : ℕ → Map} where
  -- STOPPED in the first part
  pub merged_first_stopped : {refuses : KeyRange → ℕ → ReadError → Type 0} {e : ExecError} {old new : CommitRequest} → HasNotGiven maps refuses (λ pairs. head_then (level_of (get_or parts 0 d)).head ((level_of (get_or parts 0 d)).stream pairs)) e old new →
      HasNotGiven maps refuses (merged_rows parts) e old new
  merged_first_stopped stop = first_level_stopped (λ stream. stream) primary_cells (map level_of parts) (level_of (get_or parts 0 d)) (map level_of (drop 1 parts)) (ap (map level_of) (first_and parts some d)) stop

  module _ (found : Rows) {mid new : CommitRequest} (now : List Rows) (known : OtherIsKnown maps found (drop 1 parts) now mid new) (dd : Rows) (head other : Option Record) where
    -- what is taken of the two rows leaves the parts so
    left_so : slice_set now 0 (with_heads (get_or now 0 dd) head other) ≡ with_heads known.part head other ∷ known.left
    left_so = ap (λ ps. slice_set ps 0 (with_heads (get_or ps 0 dd) head other)) known.are

    -- and they weigh as much as before
    pub merged_weights : weight found ≡ weight (get_or parts 0 d) →
        weights (slice_set now 0 (with_heads (get_or now 0 dd) head other)) ≡ weights parts
    merged_weights same =
        ap weights left_so ∙ weights_same (with_heads known.part head other) (get_or parts 0 d) known.left (drop 1 parts)
        (weight_with known.part head other ∙ known.first_weight ∙ same) known.other_weights
        ∙ sym (ap weights (first_and parts some d))

    -- GIVEN: what is taken
    pub merged_given : {old : CommitRequest} → (level_of found).other ≡ (level_of (get_or parts 0 d)).other →
        HasGiven maps (λ pairs. head_then (level_of (get_or parts 0 d)).head ((level_of (get_or parts 0 d)).stream pairs)) (level_of found).head (level_of found).stream old mid → (given : Option Record) →
        TakesNext primary_cells (out-Rows (get_or now 0 dd)).head (out-Rows (get_or now 0 dd)).other given head other →
        HasGiven maps (merged_rows parts) given (merged_rows (slice_set now 0 (with_heads (get_or now 0 dd) head other))) old new
    merged_given {old = old} kept first given takes =
        subst (λ ps. HasGiven maps (merged_rows parts) given (merged_rows ps) old new) (sym left_so)
        (subst (λ (level : RowsLevel). HasGiven maps (merged_rows parts) given (merged_levels (λ stream. stream) primary_cells (level ∷ map level_of known.left)) old new) (sym (level_with known.part head other))
        (levels_given (λ stream. stream) primary_cells (map level_of parts) (level_of (get_or parts 0 d)) (map level_of (drop 1 parts)) (ap (map level_of) (first_and parts some d)) (level_of found) kept first
        (level_of known.part) (map level_of known.left) known.stream known.head known.other given head other takes_known))
      where
        seen_part : get_or now 0 dd ≡ known.part
        seen_part = ap (λ ps. get_or ps 0 dd) known.are

        takes_known : TakesNext primary_cells (level_of known.part).head (level_of known.part).other given head other
        takes_known =
            subst (λ h. TakesNext primary_cells h (level_of known.part).other given head other) (ap (λ p. (out-Rows p).head) seen_part ∙ sym (head_is known.part))
            (subst (λ o. TakesNext primary_cells (out-Rows (get_or now 0 dd)).head o given head other) (ap (λ p. (out-Rows p).other) seen_part ∙ sym (other_is known.part)) takes)
