-- Bytes begin with one item at most: what is read is the only one, and where none is read there is none.
use Rattle.std.proofs.Common.{◌≡◌, ℕ, ◌+◌, ◌<◌, ◌^◌, List, [], ◌∷◌, ◌++◌, length, length-append, take, drop, get_or, true, false, Result, refl, sym, ap, subst, ◌∙◌, append_assoc, arith}
use Rattle.std.proofs.lemmas.List.{take_more}
use Rattle.std.specs.Prelude.{IfErr, IsErr, IsErrAnd}
use Rattle.std.specs.List.{AllByRecursion}
use Rattle.std.specs.Int.{w32, w64, to_le_bytes, from_le_bytes}
use Rattle.std.proofs.lemmas.Nat.{from_le_bytes-to_le_bytes_4, from_le_bytes-to_le_bytes_8}
use Rattle.kv_core.specs.Range.{KeyRange, is_key_range}
use Rattle.kv_core.specs.declared.change.Mutation.TheVariants.{Set, ClearRange, Add, CompareAndClear}
use Rattle.drive_form.specs.declared.error.FormError.{FormError}
use Rattle.drive_form.specs.declared.error.FormError.TheVariants.{BadForm, BadCommand, OutOfMemory}
use Rattle.txn.proofs.Exits.{exit_with}
use Rattle.drive_form.specs.Form.{FitEach, FitsMutation, FitsPair, FitsRange, IsShort, counted, each_of, mutation_bytes, pair_bytes, range_bytes, sized}
use Rattle.drive_form.specs.Refused.{BeginWithNone, ExplainsNone}

-- of two items with one spelling and what follows it, both are the same
abbrev pub ReadsOnce : {X : Type 0} → (X → List ℕ) → (X → Type 0) → Type 0
ReadsOnce {X} spell Fits = (a b : X) (s t : List ℕ) → Fits a → Fits b → spell a ++ s ≡ spell b ++ t → (a ≡ b) × (s ≡ t)

-- ---- numbers

pub four_once : (m n : ℕ) (s t : List ℕ) → m < 2 ^ 32 → n < 2 ^ 32 → to_le_bytes w32 m ++ s ≡ to_le_bytes w32 n ++ t → (m ≡ n) × (s ≡ t)
four_once m n s t small less same =
    let front : to_le_bytes w32 m ≡ to_le_bytes w32 n = ap (take 4) same in
    (sym (from_le_bytes-to_le_bytes_4 m small) ∙ ap (from_le_bytes w32) front ∙ from_le_bytes-to_le_bytes_4 n less, ap (drop 4) same)

pub eight_once : (m n : ℕ) (s t : List ℕ) → m < 2 ^ 64 → n < 2 ^ 64 → to_le_bytes w64 m ++ s ≡ to_le_bytes w64 n ++ t → (m ≡ n) × (s ≡ t)
eight_once m n s t small less same =
    let front : to_le_bytes w64 m ≡ to_le_bytes w64 n = ap (take 8) same in
    (sym (from_le_bytes-to_le_bytes_8 m small) ∙ ap (from_le_bytes w64) front ∙ from_le_bytes-to_le_bytes_8 n less, ap (drop 8) same)

-- fewer bytes than a number has begin with none
pub four_none : (bytes : List ℕ) → length bytes < 4 → BeginWithNone (to_le_bytes w32) (λ n. n < 2 ^ 32) bytes
four_none bytes few n rest fits is = let long : length bytes ≡ length (to_le_bytes w32 n) + length rest = ap length is ∙ length-append (to_le_bytes w32 n) rest in omega arith

pub eight_none : (bytes : List ℕ) → length bytes < 8 → BeginWithNone (to_le_bytes w64) (λ n. n < 2 ^ 64) bytes
eight_none bytes few n rest fits is = let long : length bytes ≡ length (to_le_bytes w64 n) + length rest = ap length is ∙ length-append (to_le_bytes w64 n) rest in omega arith

-- ---- byte strings

-- the bytes at the front that are so many are the same
same_front : (xs ys s t : List ℕ) → length xs ≡ length ys → xs ++ s ≡ ys ++ t → (xs ≡ ys) × (s ≡ t)
same_front [] [] s t long same = (refl, same)
same_front [] (y ∷ ys) s t long same = absurd (omega arith)
same_front (x ∷ xs) [] s t long same = absurd (omega arith)
same_front (x ∷ xs) (y ∷ ys) s t long same =
    let head : x ≡ y = cc in
    let tail : xs ++ s ≡ ys ++ t = cc in
    let rest = same_front xs ys s t (omega arith) tail in
    (cc, rest.1)

pub sized_once : ReadsOnce sized IsShort
sized_once a b s t short less same =
    let parts = four_once (length a) (length b) (a ++ s) (b ++ t) short less (sym (append_assoc (to_le_bytes w32 (length a)) a s) ∙ same ∙ append_assoc (to_le_bytes w32 (length b)) b t) in
    same_front a b s t parts.0 parts.1

pub sized_none_length : (bytes : List ℕ) → BeginWithNone (to_le_bytes w32) (λ n. n < 2 ^ 32) bytes → BeginWithNone sized IsShort bytes
sized_none_length bytes none item rest short is = none (length item) (item ++ rest) short (is ∙ append_assoc (to_le_bytes w32 (length item)) item rest)

pub sized_none_short : (bytes left : List ℕ) (n : ℕ) → n < 2 ^ 32 → bytes ≡ to_le_bytes w32 n ++ left → length left < n → BeginWithNone sized IsShort bytes
sized_none_short bytes left n small read few item rest short is =
    let parts = four_once n (length item) left (item ++ rest) small short (sym read ∙ is ∙ append_assoc (to_le_bytes w32 (length item)) item rest) in
    let long : length left ≡ length item + length rest = ap length parts.1 ∙ length-append item rest in
    omega (arith, parts.0)

-- ---- what begins with one item, and what has another one after it

pub none_first : {X A : Type 0} (spell : X → List ℕ) (Fits : X → Type 0) (first : A → List ℕ) (FitsFirst : A → Type 0) (part : X → A) (more : X → List ℕ) (bytes : List ℕ) →
    ((item : X) → Fits item → spell item ≡ first (part item) ++ more item) → ((item : X) → Fits item → FitsFirst (part item)) → BeginWithNone first FitsFirst bytes → BeginWithNone spell Fits bytes
none_first spell Fits first FitsFirst part more bytes begins fit none item rest fits is =
    none (part item) (more item ++ rest) (fit item fits) (is ∙ ap (λ bs. bs ++ rest) (begins item fits) ∙ append_assoc (first (part item)) (more item) rest)

pub none_second : {X A B : Type 0} (spell : X → List ℕ) (Fits : X → Type 0) (first : A → List ℕ) (FitsFirst : A → Type 0) (second : B → List ℕ) (FitsSecond : B → Type 0) (one : X → A) (two : X → B) (bytes left : List ℕ) (a : A) →
    ReadsOnce first FitsFirst → ((item : X) → Fits item → spell item ≡ first (one item) ++ second (two item)) → ((item : X) → Fits item → FitsFirst (one item)) → ((item : X) → Fits item → FitsSecond (two item)) →
    FitsFirst a → bytes ≡ first a ++ left → BeginWithNone second FitsSecond left → BeginWithNone spell Fits bytes
none_second spell Fits first FitsFirst second FitsSecond one two bytes left a once begins fit1 fit2 fits_a read none item rest fits is =
    let parts = once a (one item) left (second (two item) ++ rest) fits_a (fit1 item fits) (sym read ∙ is ∙ ap (λ bs. bs ++ rest) (begins item fits) ∙ append_assoc (first (one item)) (second (two item)) rest) in
    none (two item) rest (fit2 item fits) parts.1

-- two items that are read one after another
pub two_once : {A B : Type 0} (first : A → List ℕ) (FitsFirst : A → Type 0) (second : B → List ℕ) (FitsSecond : B → Type 0) → ReadsOnce first FitsFirst → ReadsOnce second FitsSecond → (a1 a2 : A) (b1 b2 : B) (s t : List ℕ) →
    FitsFirst a1 → FitsFirst a2 → FitsSecond b1 → FitsSecond b2 → (first a1 ++ second b1) ++ s ≡ (first a2 ++ second b2) ++ t → (a1 ≡ a2) × (b1 ≡ b2) × (s ≡ t)
two_once first FitsFirst second FitsSecond once again a1 a2 b1 b2 s t f1 f2 g1 g2 same =
    let parts = once a1 a2 (second b1 ++ s) (second b2 ++ t) f1 f2 (sym (append_assoc (first a1) (second b1) s) ∙ same ∙ append_assoc (first a2) (second b2) t) in
    let rest = again b1 b2 s t g1 g2 parts.1 in
    (parts.0, rest.0, rest.1)

-- ---- ranges and pairs

pub range_once : ReadsOnce range_bytes FitsRange
range_once a b s t fits less same =
    let parts = two_once sized IsShort sized IsShort sized_once sized_once a.begin b.begin a.end b.end s t fits.0 less.0 fits.1 less.1 same in
    (λ i. record { begin = parts.0 i; end = parts.1 i }, parts.2)

pub pair_once : ReadsOnce pair_bytes FitsPair
pair_once a b s t fits less same =
    let parts = two_once sized IsShort sized IsShort sized_once sized_once a.0 b.0 a.1 b.1 s t fits.0 less.0 fits.1 less.1 same in
    (λ i. (parts.0 i, parts.1 i), parts.2)

pub range_none_begin : (bytes : List ℕ) → BeginWithNone sized IsShort bytes → BeginWithNone range_bytes FitsRange bytes
range_none_begin bytes = none_first range_bytes FitsRange sized IsShort (λ range. range.begin) (λ range. sized range.end) bytes (λ range fits. refl) (λ range fits. fits.0)

pub range_none_end : (bytes left begin : List ℕ) → IsShort begin → bytes ≡ sized begin ++ left → BeginWithNone sized IsShort left → BeginWithNone range_bytes FitsRange bytes
range_none_end bytes left begin = none_second range_bytes FitsRange sized IsShort sized IsShort (λ range. range.begin) (λ range. range.end) bytes left begin sized_once (λ range fits. refl) (λ range fits. fits.0) (λ range fits. fits.1)

pub range_none_turned : (bytes left rest begin end : List ℕ) → IsShort begin → IsShort end → bytes ≡ sized begin ++ left → left ≡ sized end ++ rest → is_key_range (record { begin = begin; end = end }) ≡ false → BeginWithNone range_bytes FitsRange bytes
range_none_turned bytes left rest begin end short less first next turned range after fits is =
    let parts = two_once sized IsShort sized IsShort sized_once sized_once begin range.begin end range.end rest after short fits.0 less fits.1
    (append_assoc (sized begin) (sized end) rest ∙ ap (λ bs. sized begin ++ bs) (sym next) ∙ sym first ∙ is) in
    let made : KeyRange = record { begin = begin; end = end } in
    let same : made ≡ range = λ i. record { begin = parts.0 i; end = parts.1 i } in
    let clash : true ≡ false = sym fits.2 ∙ ap is_key_range (sym same) ∙ turned in
    cc

pub pair_none_key : (bytes : List ℕ) → BeginWithNone sized IsShort bytes → BeginWithNone pair_bytes FitsPair bytes
pair_none_key bytes = none_first pair_bytes FitsPair sized IsShort (λ pair. pair.0) (λ pair. sized pair.1) bytes (λ pair fits. refl) (λ pair fits. fits.0)

pub pair_none_value : (bytes left key : List ℕ) → IsShort key → bytes ≡ sized key ++ left → BeginWithNone sized IsShort left → BeginWithNone pair_bytes FitsPair bytes
pair_none_value bytes left key = none_second pair_bytes FitsPair sized IsShort sized IsShort (λ pair. pair.0) (λ pair. pair.1) bytes left key sized_once (λ pair fits. refl) (λ pair fits. fits.0) (λ pair fits. fits.1)

-- ---- writes

pub mutation_once : ReadsOnce mutation_bytes FitsMutation
mutation_once (Set a x) (Set b y) s t fits less same =
    let parts = two_once sized IsShort sized IsShort sized_once sized_once a b x y s t fits.0 less.0 fits.1 less.1 (ap (drop 1) same) in
    (cc, parts.2)
mutation_once (ClearRange a) (ClearRange b) s t fits less same = let parts = range_once a b s t fits less (ap (drop 1) same) in (ap ClearRange parts.0, parts.1)
mutation_once (Add a x) (Add b y) s t fits less same =
    let parts = two_once sized IsShort sized IsShort sized_once sized_once a b x y s t fits.0 less.0 fits.1 less.1 (ap (drop 1) same) in
    (cc, parts.2)
mutation_once (CompareAndClear a x) (CompareAndClear b y) s t fits less same =
    let parts = two_once sized IsShort sized IsShort sized_once sized_once a b x y s t fits.0 less.0 fits.1 less.1 (ap (drop 1) same) in
    (cc, parts.2)
mutation_once (Set a x) (ClearRange b) s t fits less same = absurd (cc (ap (λ bs. get_or bs 0 9) same))
mutation_once (Set a x) (Add b y) s t fits less same = absurd (cc (ap (λ bs. get_or bs 0 9) same))
mutation_once (Set a x) (CompareAndClear b y) s t fits less same = absurd (cc (ap (λ bs. get_or bs 0 9) same))
mutation_once (ClearRange a) (Set b y) s t fits less same = absurd (cc (ap (λ bs. get_or bs 0 9) same))
mutation_once (ClearRange a) (Add b y) s t fits less same = absurd (cc (ap (λ bs. get_or bs 0 9) same))
mutation_once (ClearRange a) (CompareAndClear b y) s t fits less same = absurd (cc (ap (λ bs. get_or bs 0 9) same))
mutation_once (Add a x) (Set b y) s t fits less same = absurd (cc (ap (λ bs. get_or bs 0 9) same))
mutation_once (Add a x) (ClearRange b) s t fits less same = absurd (cc (ap (λ bs. get_or bs 0 9) same))
mutation_once (Add a x) (CompareAndClear b y) s t fits less same = absurd (cc (ap (λ bs. get_or bs 0 9) same))
mutation_once (CompareAndClear a x) (Set b y) s t fits less same = absurd (cc (ap (λ bs. get_or bs 0 9) same))
mutation_once (CompareAndClear a x) (ClearRange b) s t fits less same = absurd (cc (ap (λ bs. get_or bs 0 9) same))
mutation_once (CompareAndClear a x) (Add b y) s t fits less same = absurd (cc (ap (λ bs. get_or bs 0 9) same))

-- a write begins with its kind
pub mutation_none_empty : (bytes : List ℕ) → bytes ≡ [] → BeginWithNone mutation_bytes FitsMutation bytes
mutation_none_empty bytes none (Set key value) rest fits is = absurd (cc)
mutation_none_empty bytes none (ClearRange range) rest fits is = absurd (cc)
mutation_none_empty bytes none (Add key value) rest fits is = absurd (cc)
mutation_none_empty bytes none (CompareAndClear key value) rest fits is = absurd (cc)

-- the first of bytes, and those after it
heads : (a b : ℕ) (s t : List ℕ) → a ∷ s ≡ b ∷ t → (a ≡ b) × (s ≡ t)
heads a b s t same = (ap (λ bs. get_or bs 0 0) same, ap (drop 1) same)

pub mutation_none_set : (bytes left : List ℕ) (kind : ℕ) → bytes ≡ kind ∷ left → kind ≡ 0 → BeginWithNone pair_bytes FitsPair left → BeginWithNone mutation_bytes FitsMutation bytes
mutation_none_set bytes left kind read zero none (Set key value) rest fits is =
    none (key, value) rest fits (heads kind 0 left ((sized key ++ sized value) ++ rest) (sym read ∙ is)).1
mutation_none_set bytes left kind read zero none (ClearRange range) rest fits is = let same = heads kind 1 left (range_bytes range ++ rest) (sym read ∙ is) in absurd (omega (arith, same.0))
mutation_none_set bytes left kind read zero none (Add key value) rest fits is = let same = heads kind 2 left ((sized key ++ sized value) ++ rest) (sym read ∙ is) in absurd (omega (arith, same.0))
mutation_none_set bytes left kind read zero none (CompareAndClear key value) rest fits is = let same = heads kind 3 left ((sized key ++ sized value) ++ rest) (sym read ∙ is) in absurd (omega (arith, same.0))

pub mutation_none_clear : (bytes left : List ℕ) (kind : ℕ) → bytes ≡ kind ∷ left → kind ≡ 1 → BeginWithNone range_bytes FitsRange left → BeginWithNone mutation_bytes FitsMutation bytes
mutation_none_clear bytes left kind read one none (Set key value) rest fits is = let same = heads kind 0 left ((sized key ++ sized value) ++ rest) (sym read ∙ is) in absurd (omega (arith, same.0))
mutation_none_clear bytes left kind read one none (ClearRange range) rest fits is = none range rest fits (heads kind 1 left (range_bytes range ++ rest) (sym read ∙ is)).1
mutation_none_clear bytes left kind read one none (Add key value) rest fits is = let same = heads kind 2 left ((sized key ++ sized value) ++ rest) (sym read ∙ is) in absurd (omega (arith, same.0))
mutation_none_clear bytes left kind read one none (CompareAndClear key value) rest fits is = let same = heads kind 3 left ((sized key ++ sized value) ++ rest) (sym read ∙ is) in absurd (omega (arith, same.0))

pub mutation_none_add : (bytes left : List ℕ) (kind : ℕ) → bytes ≡ kind ∷ left → kind ≡ 2 → BeginWithNone pair_bytes FitsPair left → BeginWithNone mutation_bytes FitsMutation bytes
mutation_none_add bytes left kind read two none (Set key value) rest fits is = let same = heads kind 0 left ((sized key ++ sized value) ++ rest) (sym read ∙ is) in absurd (omega (arith, same.0))
mutation_none_add bytes left kind read two none (ClearRange range) rest fits is = let same = heads kind 1 left (range_bytes range ++ rest) (sym read ∙ is) in absurd (omega (arith, same.0))
mutation_none_add bytes left kind read two none (Add key value) rest fits is =
    none (key, value) rest fits (heads kind 2 left ((sized key ++ sized value) ++ rest) (sym read ∙ is)).1
mutation_none_add bytes left kind read two none (CompareAndClear key value) rest fits is = let same = heads kind 3 left ((sized key ++ sized value) ++ rest) (sym read ∙ is) in absurd (omega (arith, same.0))

pub mutation_none_compared : (bytes left : List ℕ) (kind : ℕ) → bytes ≡ kind ∷ left → kind ≡ 3 → BeginWithNone pair_bytes FitsPair left → BeginWithNone mutation_bytes FitsMutation bytes
mutation_none_compared bytes left kind read three none (Set key value) rest fits is = let same = heads kind 0 left ((sized key ++ sized value) ++ rest) (sym read ∙ is) in absurd (omega (arith, same.0))
mutation_none_compared bytes left kind read three none (ClearRange range) rest fits is = let same = heads kind 1 left (range_bytes range ++ rest) (sym read ∙ is) in absurd (omega (arith, same.0))
mutation_none_compared bytes left kind read three none (Add key value) rest fits is = let same = heads kind 2 left ((sized key ++ sized value) ++ rest) (sym read ∙ is) in absurd (omega (arith, same.0))
mutation_none_compared bytes left kind read three none (CompareAndClear key value) rest fits is =
    none (key, value) rest fits (heads kind 3 left ((sized key ++ sized value) ++ rest) (sym read ∙ is)).1

pub mutation_none_kind : (bytes left : List ℕ) (kind : ℕ) → bytes ≡ kind ∷ left → (kind ≡ 0 → ⊥) → (kind ≡ 1 → ⊥) → (kind ≡ 2 → ⊥) → (kind ≡ 3 → ⊥) → BeginWithNone mutation_bytes FitsMutation bytes
mutation_none_kind bytes left kind read a b c d (Set key value) rest fits is = a (heads kind 0 left ((sized key ++ sized value) ++ rest) (sym read ∙ is)).0
mutation_none_kind bytes left kind read a b c d (ClearRange range) rest fits is = b (heads kind 1 left (range_bytes range ++ rest) (sym read ∙ is)).0
mutation_none_kind bytes left kind read a b c d (Add key value) rest fits is = c (heads kind 2 left ((sized key ++ sized value) ++ rest) (sym read ∙ is)).0
mutation_none_kind bytes left kind read a b c d (CompareAndClear key value) rest fits is = d (heads kind 3 left ((sized key ++ sized value) ++ rest) (sym read ∙ is)).0

-- ---- lists

module _ {X : Type 0} (spell : X → List ℕ) (Fits : X → Type 0) (once : ReadsOnce spell Fits) where
  -- as many items of one spelling are the same
  each_once : (xs ys : List X) (s t : List ℕ) → length xs ≡ length ys → AllByRecursion Fits xs → AllByRecursion Fits ys → each_of spell xs ++ s ≡ each_of spell ys ++ t → (xs ≡ ys) × (s ≡ t)
  each_once [] [] s t long fits less same = (refl, same)
  each_once [] (y ∷ ys) s t long fits less same = absurd (omega arith)
  each_once (x ∷ xs) [] s t long fits less same = absurd (omega arith)
  each_once (x ∷ xs) (y ∷ ys) s t long fits less same =
      let parts = once x y (each_of spell xs ++ s) (each_of spell ys ++ t) fits.0 less.0 (sym (append_assoc (spell x) (each_of spell xs) s) ∙ same ∙ append_assoc (spell y) (each_of spell ys) t) in
      let rest = each_once xs ys s t (omega arith) fits.1 less.1 parts.1 in
      (cc, rest.1)

  pub counted_once : ReadsOnce (counted spell) (FitEach Fits)
  counted_once xs ys s t fits less same =
      let parts = four_once (length xs) (length ys) (each_of spell xs ++ s) (each_of spell ys ++ t) fits.0 less.0 (sym (append_assoc (to_le_bytes w32 (length xs)) (each_of spell xs) s) ∙ same ∙ append_assoc (to_le_bytes w32 (length ys)) (each_of spell ys) t) in
      each_once xs ys s t parts.0 fits.1 less.1 parts.1

  -- where fewer items were read than there are, the next one is there
  no_more : (xs ys : List X) (s t : List ℕ) → length xs < length ys → AllByRecursion Fits xs → AllByRecursion Fits ys → each_of spell xs ++ s ≡ each_of spell ys ++ t → BeginWithNone spell Fits s → ⊥
  no_more [] [] s t few fits less same none = omega arith
  no_more [] (y ∷ ys) s t few fits less same none = none y (each_of spell ys ++ t) less.0 (same ∙ append_assoc (spell y) (each_of spell ys) t)
  no_more (x ∷ xs) [] s t few fits less same none = omega arith
  no_more (x ∷ xs) (y ∷ ys) s t few fits less same none =
      let parts = once x y (each_of spell xs ++ s) (each_of spell ys ++ t) fits.0 less.0 (sym (append_assoc (spell x) (each_of spell xs) s) ∙ same ∙ append_assoc (spell y) (each_of spell ys) t) in
      no_more xs ys s t (omega arith) fits.1 less.1 parts.1 none

  pub counted_none_item : (bytes left : List ℕ) (n : ℕ) (xs : List X) → n < 2 ^ 32 → bytes ≡ to_le_bytes w32 n ++ (each_of spell xs ++ left) → length xs < n → AllByRecursion Fits xs → BeginWithNone spell Fits left →
      BeginWithNone (counted spell) (FitEach Fits) bytes
  counted_none_item bytes left n xs small read few fits none ys rest less is =
      let parts = four_once n (length ys) (each_of spell xs ++ left) (each_of spell ys ++ rest) small less.0 (sym read ∙ is ∙ append_assoc (to_le_bytes w32 (length ys)) (each_of spell ys) rest) in
      no_more xs ys left rest (omega (arith, parts.0)) fits less.1 parts.1 none

pub counted_none_count : {X : Type 0} (spell : X → List ℕ) (Fits : X → Type 0) (bytes : List ℕ) → BeginWithNone (to_le_bytes w32) (λ n. n < 2 ^ 32) bytes → BeginWithNone (counted spell) (FitEach Fits) bytes
counted_none_count spell Fits bytes none items rest fits is = none (length items) (each_of spell items ++ rest) fits.0 (is ∙ append_assoc (to_le_bytes w32 (length items)) (each_of spell items) rest)

-- one more item that fits
pub fits_more : {X : Type 0} (Fits : X → Type 0) (xs after : List X) (x : X) → after ≡ xs ++ x ∷ [] → AllByRecursion Fits xs → Fits x → AllByRecursion Fits after
fits_more {X} Fits xs after x grown all one = subst (AllByRecursion Fits) (sym grown) (by_turn xs all)
  where
    by_turn : (ys : List X) → AllByRecursion Fits ys → AllByRecursion Fits (ys ++ x ∷ [])
    by_turn [] all = (one, tt)
    by_turn (y ∷ ys) all = (all.0, by_turn ys all.1)

-- so many items and the next one fit where those before it do, and it does
pub fit_turn : {X : Type 0} (Fits : X → Type 0) (items : List X) (i : ℕ) (item : X) → i < length items → item ≡ get_or items i item → AllByRecursion Fits (take i items) → Fits item → AllByRecursion Fits (take (i + 1) items)
fit_turn Fits items i item within is all one = fits_more Fits (take i items) (take (i + 1) items) item (take_more items i item within ∙ ap (λ x. take i items ++ x ∷ []) (sym is)) all one

-- ---- errors

-- want of memory explains all
pub explains_memory : {X : Type 0} (spell : X → List ℕ) (Fits : X → Type 0) (bytes : List ℕ) (error : FormError) → error ≡ OutOfMemory → ExplainsNone spell Fits bytes error
explains_memory spell Fits bytes error is = subst (ExplainsNone spell Fits bytes) (sym is) tt

-- why a part isn't read is why the whole isn't
pub explains_by : {X A : Type 0} (spell : X → List ℕ) (Fits : X → Type 0) (part : A → List ℕ) (FitsPart : A → Type 0) (bytes left : List ℕ) (error : FormError) →
    (BeginWithNone part FitsPart left → BeginWithNone spell Fits bytes) → ExplainsNone part FitsPart left error → ExplainsNone spell Fits bytes error
explains_by spell Fits part FitsPart bytes left OutOfMemory so why = tt
explains_by spell Fits part FitsPart bytes left BadForm so why = so why
explains_by spell Fits part FitsPart bytes left BadCommand so why = why

-- a part that isn't read, at the exit of a `?`
pub part_exit : {T X A : Type 0} (spell : X → List ℕ) (Fits : X → Type 0) (part : A → List ℕ) (FitsPart : A → Type 0) (bytes left : List ℕ) (r : Result T FormError) (error : FormError) → IsErr r × IsErrAnd r (λ made. made ≡ error) →
    (BeginWithNone part FitsPart left → BeginWithNone spell Fits bytes) → ExplainsNone part FitsPart left error → IfErr r (ExplainsNone spell Fits bytes)
part_exit spell Fits part FitsPart bytes left r error says so why =
    exit_with r error (ExplainsNone spell Fits bytes) says (explains_by spell Fits part FitsPart bytes left error so why)
