-- How the code finds the states that pairs stand for, step by step.
use Rattle.std.proofs.Common.{◌≡◌, inr, ℕ, ◌<◌, ◌≤◌, List, [], ◌∷◌, ◌++◌, Option, Some, None, refl, sym, ap, ◌∙◌, append_assoc, arith, length, take, drop, pos}
use Rattle.std.specs.Prelude.{get_or, zero, suc, MatchOption}
use Rattle.std.specs.Borrow.{Bor}
use Rattle.std.proofs.Math.Seq.{take-suc}
use Rattle.std.proofs.lemmas.List.{append_cancel_left, map-append}
use Rattle.tuple_codec.specs.Item.{int}
use Rattle.tuple_codec.specs.Spelling.{int_spelling, spelling}
use Rattle.tuple_codec.specs.Subspace.{BeginsWith}
use Rattle.metadata.specs.declared.index.IndexDefinition.{IndexDefinition}
use Rattle.metadata.specs.declared.index.State.{State}
use Rattle.record_store.specs.declared.error.StoreError.{StoreError}
use Rattle.record_store.specs.Layout.{place, state_pair}
use Rattle.record_store.specs.Holds.{IsListed}
use Rattle.record_store.specs.Form.{IsStatePair}
use Rattle.record_store.specs.Reading.{AreStates, HaveNoStates, IsNoState, IsNumber, IsPairOfState, number_pack}
use Rattle.record_store.proofs.Kept.{state_in_place, state_key_is}
use Rattle.record_store.proofs.NewIndexes.{all_append}
use Rattle.record_store.proofs.Scanning.{split_at}

abbrev Pair : Type 0
Pair = List ℕ × List ℕ

-- up to the end it is the whole list
pub all_taken : {X : Type 0} (i : ℕ) (xs : List X) → length xs ≤ i → take i xs ≡ xs
all_taken zero [] within = refl
all_taken zero (x ∷ xs) within = absurd (omega (arith, within))
all_taken (suc i) [] within = refl
all_taken (suc i) (x ∷ xs) within = ap (λ ys. x ∷ ys) (all_taken i xs (omega (arith, within)))

module _ (prefix : List ℕ) where
  -- what follows the place of states follows the prefix and the place's number
  pub place_is : (rest : List ℕ) → place prefix 5 ++ rest ≡ prefix ++ (int_spelling (pos 5) ++ rest)
  place_is rest = append_assoc prefix (spelling (int (pos 5) ∷ [])) rest ∙ ap (λ s. prefix ++ s) (append_assoc (int_spelling (pos 5)) [] rest)

  -- a key without the prefix isn't in the place
  pub no_prefix : (key : List ℕ) → (BeginsWith prefix key → ⊥) → BeginsWith (place prefix 5) key → ⊥
  no_prefix key none there = none (int_spelling (pos 5) ++ there.0, there.1 ∙ place_is there.0)

  -- and one with it is where the place's number follows
  pub in_place_or_not : (key rest : List ℕ) → key ≡ prefix ++ rest → (r : Option (Bor (List ℕ))) →
      MatchOption r (BeginsWith (int_spelling (pos 5)) rest → ⊥) (λ x. rest ≡ int_spelling (pos 5) ++ x.now) → MatchOption r (BeginsWith (place prefix 5) key → ⊥) (λ x. key ≡ place prefix 5 ++ x.now)
  in_place_or_not key rest is None none = λ there. none (there.0, append_cancel_left prefix rest (int_spelling (pos 5) ++ there.0) (sym is ∙ there.1 ∙ place_is there.0))
  in_place_or_not key rest is (Some x) found = is ∙ ap (λ s. prefix ++ s) found ∙ sym (place_is x.now)

  -- a pair of another place, or of no index's number, is of no state
  pub no_key : (indexes : List IndexDefinition) (pair : Pair) (key : List ℕ) → key ≡ pair.0 → (BeginsWith (place prefix 5) key → ⊥) → IsStatePair prefix indexes pair → ⊥
  no_key indexes pair key own none is = none (state_in_place prefix is.listed.0 key (own ∙ ap (λ (p : Pair). p.0) is.is))

  pub no_number : (indexes : List IndexDefinition) (pair : Pair) (key bytes : List ℕ) → key ≡ pair.0 → key ≡ place prefix 5 ++ bytes → ((number : ℕ) → IsNumber indexes bytes number → ⊥) → IsStatePair prefix indexes pair → ⊥
  no_number indexes pair key bytes own there none is =
      none is.listed.0 (is.is_listed.there, append_cancel_left (place prefix 5) bytes (number_pack is.listed.0) (sym there ∙ own ∙ ap (λ (p : Pair). p.0) is.is ∙ sym (state_key_is prefix is.listed.0)))

  -- one pair more
  pub states_more : (i : ℕ) (indexes : List IndexDefinition) (pairs : List Pair) (pair : Pair) (states : List (ℕ × State)) (one : ℕ × State) → i < length pairs → pair ≡ get_or pairs i pair →
      AreStates prefix indexes (take i pairs) states → IsPairOfState prefix indexes pair one → AreStates prefix indexes (take (suc i) pairs) (states ++ one ∷ [])
  states_more i indexes pairs pair states one within is good more = record {
    are_listed = all_append (IsListed indexes) states one good.are_listed more.is_listed;
    are =
        take-suc pairs i pair within ∙ ap (λ p. take i pairs ++ p ∷ []) (sym is ∙ more.is) ∙ ap (λ ps. ps ++ state_pair prefix one ∷ []) good.are ∙ sym (map-append (state_pair prefix) states (one ∷ []));
  }

  -- a pair that is of none
  pub bad_state_among : (i : ℕ) (indexes : List IndexDefinition) (pairs : List Pair) (pair : Pair) (states : List (ℕ × State)) (error : StoreError) → i < length pairs → pair ≡ get_or pairs i pair →
      AreStates prefix indexes (take i pairs) states → IsNoState prefix indexes pair error → HaveNoStates prefix indexes pairs error
  bad_state_among i indexes pairs pair states error within is good none = inr (record {
    before = take i pairs;
    bad = pair;
    behind = drop (suc i) pairs;
    states = states;
    split = split_at i pairs pair within is;
    good = good;
    none = none;
  })
