-- Bytes tell one thing at most, and nothing where a part of it can't be read.
use Rattle.std.proofs.Common.{◌≡◌, ℕ, ◌<◌, ◌^◌, List, [], ◌∷◌, ◌++◌, drop, get_or, Result, Some, ◌⊎◌, inl, inr, refl, sym, ap, subst, ◌∙◌, append_assoc}
use Rattle.std.specs.Prelude.{IfErr, IsErr, IsErrAnd, is_some}
use Rattle.std.specs.Int.{w64, to_le_bytes}
use Rattle.kv_core.specs.Range.{KeyRange}
use Rattle.kv_core.specs.declared.change.Mutation.{Mutation}
use Rattle.drive_form.specs.Form.{FitEach, FitsMutation, FitsPair, FitsRange, IsHostTold, HostTold, counted, mutation_bytes, pair_bytes, range_bytes}
use Rattle.drive_form.specs.declared.error.FormError.{FormError}
use Rattle.drive_form.specs.declared.error.FormError.TheVariants.{BadForm, BadCommand, OutOfMemory}
use Rattle.drive_form.specs.Refused.{BeginWithNone, BeginsForm, ExplainsGiven, ExplainsNone, ExplainsRefusal, ExplainsText, IsNotTold, of_call}
use Rattle.drive_form.specs.Spelled.{IsGiven}
use Rattle.drive.specs.Errors.{IsWriteRefused, error_of}
use Rattle.drive.specs.declared.given.Given.{Given}
use Rattle.drive.specs.declared.error.DriveError.{DriveError}
use Rattle.drive.specs.declared.error.DriveError.TheVariants as calls
use Rattle.kv_core.specs.Limits.{write_all_refusal}
use Rattle.kv_core.specs.declared.change.WriteError.{WriteError}
use Rattle.kv_core.specs.declared.change.WriteError.TheVariants as writes
use Rattle.txn.proofs.Exits.{exit_with}
use Rattle.drive_form.proofs.Unread.{ReadsOnce, counted_once, eight_once, mutation_once, pair_once, range_once}

-- four parts and a rest, one after another
parts_regroup : (a b c d rest : List ℕ) → (((a ++ b) ++ c) ++ d) ++ rest ≡ a ++ (b ++ (c ++ (d ++ rest)))
parts_regroup a b c d rest = append_assoc ((a ++ b) ++ c) d rest ∙ append_assoc (a ++ b) c (d ++ rest) ∙ append_assoc a b (c ++ (d ++ rest))

-- what comes after the number of the form, the version, the ranges, the pairs
abbrev pub after_pairs : HostTold → List ℕ
after_pairs told = counted mutation_bytes told.written ++ told.text

abbrev pub after_ranges : HostTold → List ℕ
after_ranges told = counted pair_bytes told.pairs ++ after_pairs told

abbrev pub after_version : HostTold → List ℕ
after_version told = counted range_bytes told.ranges ++ after_ranges told

abbrev pub after_form : HostTold → List ℕ
after_form told = to_le_bytes w64 told.version ++ after_version told

pub form_first : (bytes : List ℕ) (told : HostTold) → IsHostTold bytes told → bytes ≡ 1 ∷ after_form told
form_first bytes told is =
    is.spelled ∙ ap (λ bs. 1 ∷ bs) (parts_regroup (to_le_bytes w64 told.version) (counted range_bytes told.ranges) (counted pair_bytes told.pairs) (counted mutation_bytes told.written) told.text)

ranges_once : ReadsOnce (counted range_bytes) (FitEach FitsRange)
ranges_once = counted_once range_bytes FitsRange range_once

pairs_once : ReadsOnce (counted pair_bytes) (FitEach FitsPair)
pairs_once = counted_once pair_bytes FitsPair pair_once

written_once : ReadsOnce (counted mutation_bytes) (FitEach FitsMutation)
written_once = counted_once mutation_bytes FitsMutation mutation_once

module _ (bytes : List ℕ) where
  -- nothing is told by no bytes, nor by those that begin otherwise
  pub none_empty : bytes ≡ [] → IsNotTold bytes
  none_empty none told is = let clash = sym none ∙ form_first bytes told is in cc

  pub none_other : (form : ℕ) (left : List ℕ) → bytes ≡ form ∷ left → (form ≡ 1 → ⊥) → IsNotTold bytes
  none_other form left read other told is = other (ap (λ bs. get_or bs 0 0) (sym read ∙ form_first bytes told is))

  module _ (form : ℕ) (left : List ℕ) (read : bytes ≡ form ∷ left) (known : form ≡ 1) where
    left_form : (told : HostTold) → IsHostTold bytes told → left ≡ after_form told
    left_form told is = ap (drop 1) (sym read ∙ form_first bytes told is)

    pub none_version : BeginWithNone (to_le_bytes w64) (λ n. n < 2 ^ 64) left → IsNotTold bytes
    none_version none told is = none told.version (after_version told) is.version (left_form told is)

    module _ (version : ℕ) (left2 : List ℕ) (small : version < 2 ^ 64) (read2 : left ≡ to_le_bytes w64 version ++ left2) where
      left_version : (told : HostTold) → IsHostTold bytes told → (version ≡ told.version) × (left2 ≡ after_version told)
      left_version told is = eight_once version told.version left2 (after_version told) small is.version (sym read2 ∙ left_form told is)

      pub none_ranges : BeginWithNone (counted range_bytes) (FitEach FitsRange) left2 → IsNotTold bytes
      none_ranges none told is = none told.ranges (after_ranges told) is.ranges (left_version told is).1

      module _ (ranges : List KeyRange) (left3 : List ℕ) (fits3 : FitEach FitsRange ranges) (read3 : left2 ≡ counted range_bytes ranges ++ left3) where
        left_ranges : (told : HostTold) → IsHostTold bytes told → (ranges ≡ told.ranges) × (left3 ≡ after_ranges told)
        left_ranges told is = ranges_once ranges told.ranges left3 (after_ranges told) fits3 is.ranges (sym read3 ∙ (left_version told is).1)

        pub none_pairs : BeginWithNone (counted pair_bytes) (FitEach FitsPair) left3 → IsNotTold bytes
        none_pairs none told is = none told.pairs (after_pairs told) is.pairs (left_ranges told is).1

        module _ (pairs : List (List ℕ × List ℕ)) (left4 : List ℕ) (fits4 : FitEach FitsPair pairs) (read4 : left3 ≡ counted pair_bytes pairs ++ left4) where
          left_pairs : (told : HostTold) → IsHostTold bytes told → (pairs ≡ told.pairs) × (left4 ≡ after_pairs told)
          left_pairs told is = pairs_once pairs told.pairs left4 (after_pairs told) fits4 is.pairs (sym read4 ∙ (left_ranges told is).1)

          pub none_written : BeginWithNone (counted mutation_bytes) (FitEach FitsMutation) left4 → IsNotTold bytes
          none_written none told is = none told.written told.text is.written (left_pairs told is).1

          module _ (written : List Mutation) (left5 : List ℕ) (fits5 : FitEach FitsMutation written) (read5 : left4 ≡ counted mutation_bytes written ++ left5) where
            left_written : (told : HostTold) → IsHostTold bytes told → (written ≡ told.written) × (left5 ≡ told.text)
            left_written told is = written_once written told.written left5 told.text fits5 is.written (sym read5 ∙ (left_pairs told is).1)

            -- what was read in turn is what is told
            pub told_read : IsHostTold bytes (record { version = version; ranges = ranges; pairs = pairs; written = written; text = left5 })
            told_read = record {
              spelled =
                  read ∙ ap (λ n. n ∷ left) known
                  ∙ ap (λ bs. 1 ∷ bs)
                  (read2 ∙ ap (λ bs. to_le_bytes w64 version ++ bs) (read3 ∙ ap (λ bs. counted range_bytes ranges ++ bs) (read4 ∙ ap (λ bs. counted pair_bytes pairs ++ bs) read5))
                  ∙ sym (parts_regroup (to_le_bytes w64 version) (counted range_bytes ranges) (counted pair_bytes pairs) (counted mutation_bytes written) left5));
              version = small;
              ranges = fits3;
              pairs = fits4;
              written = fits5;
            }

-- bytes tell one thing
pub told_once : (bytes : List ℕ) (a b : HostTold) → IsHostTold bytes a → IsHostTold bytes b → a ≡ b
told_once bytes a b is also =
    let form : bytes ≡ 1 ∷ after_form a = form_first bytes a is in
    let version = left_version bytes 1 (after_form a) form refl a.version (after_version a) is.version refl b also in
    let ranges = left_ranges bytes 1 (after_form a) form refl a.version (after_version a) is.version refl a.ranges (after_ranges a) is.ranges refl b also in
    let pairs = left_pairs bytes 1 (after_form a) form refl a.version (after_version a) is.version refl a.ranges (after_ranges a) is.ranges refl a.pairs (after_pairs a) is.pairs refl b also in
    let written = left_written bytes 1 (after_form a) form refl a.version (after_version a) is.version refl a.ranges (after_ranges a) is.ranges refl a.pairs (after_pairs a) is.pairs refl a.written a.text is.written refl b also in
    λ i. record { version = version.0 i; ranges = ranges.0 i; pairs = pairs.0 i; written = written.0 i; text = written.1 i }

-- ---- why nothing is told

-- a part after the number of the form that isn't read
explains_part : {A : Type 0} (part : A → List ℕ) (FitsPart : A → Type 0) (bytes left : List ℕ) (error : FormError) → BeginsForm bytes → (BeginWithNone part FitsPart left → IsNotTold bytes) → ExplainsNone part FitsPart left error → ExplainsGiven bytes error
explains_part part FitsPart bytes left OutOfMemory begins so why = begins
explains_part part FitsPart bytes left BadForm begins so why = so why
explains_part part FitsPart bytes left BadCommand begins so why = absurd why

pub part_refused : {T A : Type 0} (part : A → List ℕ) (FitsPart : A → Type 0) (bytes left : List ℕ) (r : Result T FormError) (error : FormError) → IsErr r × IsErrAnd r (λ made. made ≡ error) →
    BeginsForm bytes → (BeginWithNone part FitsPart left → IsNotTold bytes) → ExplainsNone part FitsPart left error → IfErr r (ExplainsGiven bytes)
part_refused part FitsPart bytes left r error says begins so why = exit_with r error (ExplainsGiven bytes) says (explains_part part FitsPart bytes left error begins so why)

-- a text that has no commands
explains_text : (bytes : List ℕ) (told : HostTold) (error : FormError) → BeginsForm bytes → IsHostTold bytes told → ExplainsText told.text error → ExplainsGiven bytes error
explains_text bytes told OutOfMemory begins is why = begins
explains_text bytes told BadForm begins is why = absurd why
explains_text bytes told BadCommand begins is why = (told, is, why)

pub text_refused : {T : Type 0} (bytes : List ℕ) (told : HostTold) (r : Result T FormError) (error : FormError) → IsErr r × IsErrAnd r (λ made. made ≡ error) → BeginsForm bytes → IsHostTold bytes told → ExplainsText told.text error → IfErr r (ExplainsGiven bytes)
text_refused bytes told r error says begins is why = exit_with r error (ExplainsGiven bytes) says (explains_text bytes told error begins is why)

-- a call that isn't answered
pub call_refused : (bytes : List ℕ) (given : Given) (error : DriveError) → IsGiven bytes given → (error ≡ calls.Memory) ⊎ IsWriteRefused given.written.items error → ExplainsRefusal bytes (of_call error)
call_refused bytes given error read (inl memory) = subst (λ e. ExplainsRefusal bytes (of_call e)) (sym memory) (after_form read.told, form_first bytes read.told read.read)
call_refused bytes given error read (inr (why, refusal, is)) = subst (λ e. ExplainsRefusal bytes (of_call e)) (sym is) (by_why why refusal)
  where
    by_why : (why : WriteError) → write_all_refusal [] given.written.items ≡ Some why → ExplainsRefusal bytes (of_call (error_of why))
    by_why writes.Memory refusal = (after_form read.told, form_first bytes read.told read.read)
    by_why writes.KeyOutside refusal = inr (given, read, ap is_some refusal)
    by_why writes.KeyTooLarge refusal = inr (given, read, ap is_some refusal)
    by_why writes.ValueTooLarge refusal = inr (given, read, ap is_some refusal)
    by_why writes.TransactionTooLarge refusal = inr (given, read, ap is_some refusal)
