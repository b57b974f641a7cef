-- A part of a write is torn as the write may be; what is written, cut or left is an outcome of a crash.
use Rattle.std.proofs.Common.{◌≡◌, inl, inr, ℕ, zero, suc, ◌+◌, ◌-◌, ◌≤◌, ◌<◌, min, List, [], ◌∷◌, ◌++◌, length, take, drop, refl, sym, ◌∙◌, ap, subst, arith, append_assoc, length-append, length-take, length-drop}
use Rattle.std.proofs.Math.Seq.{drop-append_seam}
use Rattle.std.proofs.lemmas.List.{drop-drop, take-append-le, take_all, take_min, drop_all, drop_at}
use Rattle.std.proofs.lemmas.Bool.{cases_lt}
use Rattle.journal.specs.Device.{IsMixed, HasWritten, Torn, Cut, LeftBy}

drop_from : (at k : ℕ) (l : List ℕ) → drop k (drop at l) ≡ drop (at + k) l
drop_from at k l = drop-drop k at l

drop_further : (at k n : ℕ) (l : List ℕ) → k ≤ n → drop (at + n) l ≡ drop (n - k) (drop (at + k) l)
drop_further at k n l le = let same : at + n ≡ at + k + (n - k) = omega arith in ap (λ (m : ℕ). drop m l) same ∙ sym (drop-drop (n - k) (at + k) l)

-- what stays old is a mixture, and so is all that is written
pub mixed_none : (old written : List ℕ) → IsMixed old written old
mixed_none [] written = tt
mixed_none (byte ∷ old) [] = tt
mixed_none (byte ∷ old) (other ∷ written) = (inl refl, mixed_none old written)

pub mixed_all : (old written rest : List ℕ) → IsMixed old written (written ++ rest)
mixed_all [] written rest = tt
mixed_all (byte ∷ old) [] rest = tt
mixed_all (byte ∷ old) (other ∷ written) rest = (inr refl, mixed_all old written rest)

-- of what is written a part stands, and the old bytes behind it
mixed_part : (k : ℕ) (old written new : List ℕ) → IsMixed old (take k written) new → drop k new ≡ drop k old → IsMixed old written new
mixed_part zero old written new mixed same = subst (λ (l : List ℕ). IsMixed old written l) (sym same) (mixed_none old written)
mixed_part (suc k) [] written new mixed same = tt
mixed_part (suc k) (byte ∷ old) [] new mixed same = tt
mixed_part (suc k) (byte ∷ old) (other ∷ written) [] mixed same = mixed
mixed_part (suc k) (byte ∷ old) (other ∷ written) (here ∷ new) mixed same = (mixed.0, mixed_part k old written new mixed.1 same)

torn_part : (at k : ℕ) (bytes part old new : List ℕ) → part ≡ take k bytes → k ≤ length bytes → Torn at part old new → Torn at bytes old new
torn_part at k bytes part old new is le torn =
    let len : length part ≡ k = omega (arith, ap length is, length-take k bytes) in
    let same : drop (at + k) new ≡ drop (at + k) old = subst (λ (n : ℕ). drop (at + n) new ≡ drop (at + n) old) len torn.after in
    record {
      before = torn.before;
      range =
          mixed_part k (drop at old) bytes (drop at new) (subst (λ (l : List ℕ). IsMixed (drop at old) l (drop at new)) is torn.range)
          (drop_from at k new ∙ same ∙ sym (drop_from at k old));
      after = drop_further at k (length bytes) new le ∙ ap (λ (l : List ℕ). drop (length bytes - k) l) same ∙ sym (drop_further at k (length bytes) old le);
      no_shorter = torn.no_shorter;
      no_longer = omega (arith, torn.no_longer, len);
    }

pub follows_part : (at k : ℕ) (bytes part : List ℕ) (old new : List ℕ → Type 0) → part ≡ take k bytes → k ≤ length bytes → LeftBy (Torn at part) old new → LeftBy (Torn at bytes) old new
follows_part at k bytes part old new is le follows c left = let from = follows c left in (from.0, from.1, torn_part at k bytes part from.0 c is le from.2)

-- a write that begins within the file
pub before_at : (at : ℕ) (bytes old new : List ℕ) → Torn at bytes old new → at ≤ length old → take at new ≡ take at old
before_at at bytes old new torn le = let is : at ≡ min at (length old) = omega arith in ap (λ (k : ℕ). take k new) is ∙ torn.before

-- ---- what is written, and what isn't

pub torn_none : (at : ℕ) (bytes file : List ℕ) → Torn at bytes file file
torn_none at bytes file = record { before = take_min at file; range = mixed_none (drop at file) bytes; after = refl; no_shorter = omega arith; no_longer = omega arith }

module _ (at : ℕ) (bytes file : List ℕ) where
  abbrev n : ℕ
  n = length bytes

  abbrev front : List ℕ
  front = take at file

  abbrev back : List ℕ
  back = drop (at + n) file

  front_len : length front ≡ min at (length file)
  front_len = length-take at file

  both_len : length (front ++ bytes) ≡ min at (length file) + n
  both_len = omega (arith, length-append front bytes, front_len)

  len : length (front ++ bytes ++ back) ≡ min at (length file) + n + length back
  len = omega (arith, length-append (front ++ bytes) back, both_len)

  back_len : length back ≡ length file - (at + n)
  back_len = length-drop (at + n) file

  before : take (min at (length file)) (front ++ bytes ++ back) ≡ front
  before =
      take-append-le (min at (length file)) (front ++ bytes) back (omega (arith, both_len))
      ∙ take-append-le (min at (length file)) front bytes (omega (arith, front_len))
      ∙ take_all (min at (length file)) front (omega (arith, front_len))

  behind_within : at ≤ length file → drop (at + n) (front ++ bytes ++ back) ≡ back
  behind_within le =
      let both : at + n ≡ length (front ++ bytes) = omega (arith, both_len) in
      ap (λ (k : ℕ). drop k (front ++ bytes ++ back)) both ∙ drop-append_seam (front ++ bytes) back

  behind_past : length file < at → drop (at + n) (front ++ bytes ++ back) ≡ back
  behind_past lt =
      drop_all (at + n) (front ++ bytes ++ back) (omega (arith, len, back_len)) ∙ sym (drop_all (at + n) file (omega arith))

  behind : drop (at + n) (front ++ bytes ++ back) ≡ back
  behind = elim (cases_lt (length file) at) [
    | inl lt ↦ behind_past lt
    | inr le ↦ behind_within le
  ]

  range_within : at ≤ length file → IsMixed (drop at file) bytes (drop at (front ++ bytes ++ back))
  range_within le =
      let here : drop at (front ++ bytes ++ back) ≡ bytes ++ back =
      ap (λ (l : List ℕ). drop at l) (append_assoc front bytes back) ∙ drop_at front (bytes ++ back) at (omega (arith, front_len)) in
      subst (λ (l : List ℕ). IsMixed (drop at file) bytes l) (sym here) (mixed_all (drop at file) bytes back)

  range_past : length file < at → IsMixed (drop at file) bytes (drop at (front ++ bytes ++ back))
  range_past lt = subst (λ (l : List ℕ). IsMixed l bytes (drop at (front ++ bytes ++ back))) (sym (drop_all at file (omega arith))) tt

  range : IsMixed (drop at file) bytes (drop at (front ++ bytes ++ back))
  range = elim (cases_lt (length file) at) [
    | inl lt ↦ range_past lt
    | inr le ↦ range_within le
  ]

  pub torn_all : Torn at bytes file (front ++ bytes ++ back)
  torn_all = record { before = before; range = range; after = behind; no_shorter = omega (arith, len, back_len); no_longer = omega (arith, len, back_len) }

  -- of a file that a crash leaves as it is
  pub torn_same : (c : List ℕ) → c ≡ file → (d : List ℕ) × (d ≡ file) × Torn at bytes d c
  torn_same c is = (file, refl, subst (λ l. Torn at bytes file l) (sym is) (torn_none at bytes file))

  pub torn_done : (new : List ℕ) → HasWritten file at bytes new → (c : List ℕ) → c ≡ new → (d : List ℕ) × (d ≡ file) × Torn at bytes d c
  torn_done new done c is = (file, refl, subst (λ l. Torn at bytes file l) (sym (is ∙ done)) torn_all)

-- ---- cuts

none_left : (n : ℕ) (l more : List ℕ) → length l ≤ n → drop n l ≡ take (length l - n) more
none_left n l more le =
    let nothing : length l - n ≡ 0 = omega arith in drop_all n l le ∙ sym (ap (λ (k : ℕ). take k more) nothing)

-- what is cut
pub cut_all : (n : ℕ) (old : List ℕ) → Cut n old (take n old)
cut_all n old =
    let len = length-take n old in
    record {
      no_shorter = omega (arith, len);
      no_longer = omega (arith, len);
      front = take_all (min n (length old)) (take n old) (omega (arith, len));
      zeros = 0;
      behind = none_left n (take n old) (drop (n + 0) old) (omega (arith, len));
    }

-- what isn't cut
pub cut_none : (n : ℕ) (old : List ℕ) → Cut n old old
cut_none n old = record {
  no_shorter = omega arith;
  no_longer = omega arith;
  front = take_min n old;
  zeros = 0;
  behind = sym (ap (λ (k : ℕ). take (length old - n) (drop k old)) none ∙ take_all (length old - n) (drop n old) (omega (arith, length-drop n old)));
}
  where
    none : n + 0 ≡ n
    none = omega arith
