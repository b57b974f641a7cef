-- The element that bytes begin with.
use Rattle.std.specs.Prelude.{◌≡◌, refl, ℕ, ℤ, suc, ◌≤◌, false, nat_le, List, [], ◌∷◌, ◌++◌, length, drop, Result, Ok, Err}
use Rattle.std.proofs.Common.{arith, sym, ap, subst, ◌∙◌}
use Rattle.std.proofs.lemmas.Bool.{and_from, false≢true, le-leb}
use Rattle.std.specs.Borrow.{Bor}
use Rattle.tuple_codec.specs.Item.{Item, AreBytes, AreItems, int, items_from, max_nesting}
use Rattle.tuple_codec.specs.Elements.{item_in}
use Rattle.tuple_codec.specs.declared.Element.{Element}
use Rattle.tuple_codec.specs.Spelling.{outer, item_spelling, spelling}
use Rattle.tuple_codec.specs.Refusal.{NoEscapeFirst, in_range}
use Rattle.tuple_codec.specs.Reading.{as_item, element_at, int_at, nested_at}
use Rattle.tuple_codec.specs.Unpacking.{StandsFirst}
use Rattle.tuple_codec.specs.declared.UnpackErrorKind.{UnpackErrorKind}
use Rattle.tuple_codec.specs.declared.read.Fault.{Fault}
use Rattle.tuple_codec.proofs.Again.{item_again}
use Rattle.tuple_codec.proofs.Arms.{int_arm}
use Rattle.tuple_codec.proofs.ClosedStrings.{AreLow}
use Rattle.tuple_codec.proofs.Outcome.{ReadsItem, elements_read, low_from_bytes}
use Rattle.tuple_codec.proofs.Spellings.{item_spelled}
use Rattle.tuple_codec.proofs.TupleOrder.{begins, code_low, code_of, int_code, int_code_range}

-- no bytes begin with an element
pub none_first : (bs : List ℕ) (x : Item) (rest : List ℕ) → length bs ≡ 0 → StandsFirst x rest bs → ⊥
none_first bs x rest empty first =
    let k = item_spelled outer x first.front first.spelled in
    let whole : bs ≡ code_of x ∷ (drop 1 (item_spelling outer x) ++ rest) = first.whole ∙ ap (λ s. s ++ rest) (k.1 ∙ begins outer x) in
    absurd (omega (arith, ap length whole))

-- what was read, or this where it was refused
abbrev read_of : Item × List ℕ → Result (Item × List ℕ) Fault → Item × List ℕ
read_of other (Ok x) = x
read_of other (Err f) = other

module _ (bs : List ℕ) (c : ℕ) (behind : List ℕ) (is : bs ≡ c ∷ behind) where
  -- what is read stands first
  pub first_read : (x : Item) (rest : List ℕ) → AreBytes bs → element_at max_nesting c behind ≡ Ok (x, rest) → StandsFirst x rest bs
  first_read x rest are read =
      let low : AreLow (c ∷ behind) = subst AreLow is (low_from_bytes bs are) in
      let k : ReadsItem max_nesting outer c behind (Ok (x, rest)) = subst (ReadsItem max_nesting outer c behind) read (elements_read max_nesting outer c behind low.1 (λ e. refl)) in
      record { front = c ∷ k.0; spelled = k.2; depth = k.3; whole = is ∙ ap (λ s. c ∷ s) k.1; follows = k.4 }

  -- what stands first is read
  pub first_again : (x : Item) (rest : List ℕ) → StandsFirst x rest bs → element_at max_nesting c behind ≡ Ok (x, rest)
  first_again x rest first =
      let k = item_spelled outer x first.front first.spelled in
      let whole : c ∷ behind ≡ code_of x ∷ (drop 1 (item_spelling outer x) ++ rest) = sym is ∙ first.whole ∙ ap (λ s. s ++ rest) (k.1 ∙ begins outer x) in
      let code : c ≡ code_of x = cc in
      let body : behind ≡ drop 1 (item_spelling outer x) ++ rest = cc in
      ap (λ d. element_at max_nesting d behind) code ∙ ap (element_at max_nesting (code_of x)) body
      ∙ item_again max_nesting outer x rest k.0 first.depth first.follows (λ e. refl)

  -- so an element that is read is the one that stands first
  pub first_one : (e : Element) (left : Bor (List ℕ)) (x : Item) (rest : List ℕ) → element_at max_nesting c behind ≡ Ok (item_in e, left.now) → StandsFirst x rest bs → (item_in e ≡ x) × (left.now ≡ rest)
  first_one e left x rest read first = let same = sym read ∙ first_again x rest first in (ap (λ r. (read_of (x, rest) r).0) same, ap (λ r. (read_of (x, rest) r).1) same)

  -- and nothing stands first where what is read is refused
  pub first_refused : (f : Fault) (x : Item) (rest : List ℕ) → element_at max_nesting c behind ≡ Err f → StandsFirst x rest bs → ⊥
  first_refused f x rest read first = let again = first_again x rest first in cc

-- one element at most stands first
pub first_unique : (bs : List ℕ) (x y : Item) (r s : List ℕ) → StandsFirst x r bs → StandsFirst y s bs → (x ≡ y) × (r ≡ s)
first_unique [] x y r s first second = absurd (none_first [] x r refl first)
first_unique (c ∷ behind) x y r s first second =
    let same = sym (first_again (c ∷ behind) c behind refl x r first) ∙ first_again (c ∷ behind) c behind refl y s second in
    (ap (λ o. (read_of (y, s) o).0) same, ap (λ o. (read_of (y, s) o).1) same)

-- the number that an item is, or this where it is none
abbrev int_of : ℤ → Item → ℤ
int_of other (int z) = z
int_of other _ = other

module _ (bs : List ℕ) (c : ℕ) (behind : List ℕ) (is : bs ≡ c ∷ behind) where
  -- behind the code of another element no whole number stands
  pub no_int_code : (z : ℤ) (rest : List ℕ) → in_range 12 28 c ≡ false → StandsFirst (int z) rest bs → ⊥
  no_int_code z rest out first =
      let k = item_spelled outer (int z) first.front first.spelled in
      let whole : c ∷ behind ≡ int_code z ∷ (drop 1 (item_spelling outer (int z)) ++ rest) = sym is ∙ first.whole ∙ ap (λ s. s ++ rest) (k.1 ∙ begins outer (int z)) in
      let code : c ≡ int_code z = cc in
      let low : 12 ≤ c = subst (λ x. 12 ≤ x) (sym code) (int_code_range z k.0).0 in
      let high : c ≤ 28 = subst (λ x. x ≤ 28) (sym code) (int_code_range z k.0).1 in
      false≢true (sym out ∙ and_from (nat_le 12 c) (nat_le c 28) (le-leb 12 c low) (le-leb c 28 high))

  module _ (low : 12 ≤ c) (high : c ≤ 28) where
    -- what is read behind the code of a whole number
    number_arm : element_at max_nesting c behind ≡ as_item int (suc (length behind)) (int_at c behind)
    number_arm = int_arm (nested_at max_nesting) c behind low high

    -- a number that is read stands first
    pub int_read : (z : ℤ) (rest : List ℕ) → AreBytes bs → int_at c behind ≡ Ok (z, rest) → StandsFirst (int z) rest bs
    int_read z rest are read = first_read bs c behind is (int z) rest are (number_arm ∙ ap (as_item int (suc (length behind))) read)

    -- and only that one does
    pub int_one : (w : ℤ) (left : Bor (List ℕ)) (z : ℤ) (rest : List ℕ) → AreBytes bs → int_at c behind ≡ Ok (w, left.now) → StandsFirst (int z) rest bs → (w ≡ z) × (left.now ≡ rest)
    int_one w left z rest are read first = let same = first_unique bs (int w) (int z) left.now rest (int_read w left.now are read) first in (ap (int_of z) same.0, same.1)

    -- none does where none is read
    pub int_refused : (kind : UnpackErrorKind) (z : ℤ) (rest : List ℕ) → int_at c behind ≡ Err kind → StandsFirst (int z) rest bs → ⊥
    int_refused kind z rest read first =
        let again = first_again bs c behind is (int z) rest first in
        let none = number_arm ∙ ap (as_item int (suc (length behind))) read in cc

-- a pack may follow any element
pub pack_follows : (t : List Item) → AreItems (items_from t) → NoEscapeFirst (spelling t)
pack_follows [] are = tt
pack_follows (x ∷ t) are = subst (λ s. NoEscapeFirst (s ++ spelling t)) (sym (begins outer x)) (omega (arith, code_low x are.0))
