-- Each step keeps the rule of a lock.
use Rattle.std.proofs.Common.{◌≡◌, ◌≢◌, ℕ, zero, suc, ◌+◌, ◌<◌, ◌≤◌, ◌==◌, Bool, true, false, List, [], ◌∷◌, ◌++◌, set, length, Option, Some, None, refl, sym, ap, ◌∙◌, subst, ◌⊎◌, inl, inr, ⊎_elim, arith, length-set, length-append}
use Rattle.std.proofs.Common.{get_or-set_same}
use Rattle.std.specs.Prelude.{slice_index, MatchOption}
use Rattle.std.proofs.lemmas.Bool.Decides.{nat_tests}
use mathlib.Core.Option.{some, none, some-injective, some-ne-none}
use lib.ListN.{get_elem?}
use prog.Atomic.{either}
use Rattle.std.specs.declared.snapshot.Snapshot.{Snapshot}
use Rattle.atomic_table.specs.Table.{State, Me, Act, keeps, takes, gives, step, stepped, Valid, carried_after, Allows, Splits, opening}
use Rattle.atomic_table.proofs.Lists.{at_longer, at_set, set_else, set_here}
use Rattle.runtime.specs.History.{Name}
use Rattle.runtime.specs.declared.commit_lock.KeyHolder.{KeyHolder}
use Rattle.runtime.specs.CommitLocks.{AreHolders, IsHolder, IsLocked, IsOut, Locked, MayReturn, Returned, Taken, client_at, number_for, opener, taken_by, with_client, with_last, with_one_more}

-- ---- places in a list

module _ {A : Type 0} where
  at_below : (l : List A) (j : ℕ) (a : A) → get_elem? l j ≡ some a → j < length l
  at_below [] j a e = absurd (some-ne-none a (sym e))
  at_below (x ∷ xs) zero a e = omega arith
  at_below (x ∷ xs) (suc j) a e = let below : j < length xs = at_below xs j a e in omega (arith, below)

  -- the last one stands after the others
  at_end : (l : List A) (a b : A) (j : ℕ) → get_elem? (l ++ a ∷ []) j ≡ some b → (get_elem? l j ≡ some b) ⊎ ((a ≡ b) × (j ≡ length l))
  at_end [] a b zero e = inr (some-injective a b e, refl)
  at_end [] a b (suc j) e = absurd (some-ne-none b (sym e))
  at_end (x ∷ xs) a b zero e = inl e
  at_end (x ∷ xs) a b (suc j) e = ⊎_elim inl (λ (t : (a ≡ b) × (j ≡ length xs)). inr (t.0, ap suc t.1)) (at_end xs a b j e)

  same_there : (l : List A) (j : ℕ) (a b : A) → get_elem? l j ≡ some a → get_elem? l j ≡ some b → a ≡ b
  same_there l j a b p q = some-injective a b (sym p ∙ q)

  -- a fact of each, where one changes, and where one comes after
  each_set : (P : ℕ → A → Type 0) (l : List A) (id : ℕ) (w : A) → P id w → ((j : ℕ) (u : A) → get_elem? l j ≡ some u → j ≢ id → P j u) → (j : ℕ) (u : A) → get_elem? (set l id w) j ≡ some u → P j u
  each_set P l id w own others j u e = ⊎_elim (λ (t : (j ≡ id) × (w ≡ u)). subst (λ (z : A). P j z) t.1 (subst (λ (i : ℕ). P i w) (sym t.0) own)) (λ (t : (j ≢ id) × (get_elem? l j ≡ some u)). others j u t.1 t.0) (at_set l id j w u e)

  each_snoc : (P : ℕ → A → Type 0) (l : List A) (w : A) → P (length l) w → ((j : ℕ) (u : A) → get_elem? l j ≡ some u → P j u) → (j : ℕ) (u : A) → get_elem? (l ++ w ∷ []) j ≡ some u → P j u
  each_snoc P l w last others j u e = ⊎_elim (λ (t : get_elem? l j ≡ some u). others j u t) (λ (t : (w ≡ u) × (j ≡ length l)). subst (λ (z : A). P j z) t.0 (subst (λ (i : ℕ). P i w) (sym t.1) last)) (at_end l w u j e)

-- ---- numbers

client_back : (place client : ℕ) → client_at place ≡ Some client → place ≡ suc client
client_back zero client e = absurd (cc)
client_back (suc other) client e = ap suc (cc)

client_none : (place : ℕ) → client_at place ≡ None → place ≡ 0
client_none zero e = refl
client_none (suc client) e = absurd (cc)

number_twice : (numbers : List ℕ) (client : Option ℕ) (own : ℕ) → number_for numbers client (number_for numbers client own) ≡ number_for numbers client own
number_twice numbers None own = refl
number_twice numbers (Some client) own = refl

-- numbers that are the same but for one place are the same to each other holder
number_other : (numbers more : List ℕ) (id : ℕ) → ((client : ℕ) → id ≢ suc client → slice_index more client ≡ slice_index numbers client)
    → (place own : ℕ) → place ≢ id → number_for more (client_at place) own ≡ number_for numbers (client_at place) own
number_other numbers more id same zero own apart = refl
number_other numbers more id same (suc client) own apart = same client (λ e. apart (sym e))

module _ {T : Type 0} (name_of : T → Name) where
  -- one holder changes, and with it the numbers at its place
  holders_set : (name : Name) (numbers more : List ℕ) (keys : ℕ) (views : List (KeyHolder T)) (id : ℕ) (v w : KeyHolder T) → AreHolders name_of name numbers keys views → get_elem? views id ≡ some v
      → w.about ≡ v.about → w.client ≡ v.client → w.next ≡ v.next → number_for more w.client w.last ≡ w.last
      → ((place own : ℕ) → place ≢ id → number_for more (client_at place) own ≡ number_for numbers (client_at place) own)
      → AreHolders name_of name more keys (set views id w)
  holders_set name numbers more keys views id v w are at abouts clients nexts own others =
      let h = are id v at in
      each_set (IsHolder name_of name more keys) views id w
      (record { of_it = ap (λ (y : Snapshot T). name_of y.value) abouts ∙ h.of_it; speaks = clients ∙ h.speaks; known = own; counted = λ e. ap suc nexts ∙ h.counted e })
      (λ j u there apart. let o = are j u there in record {
        of_it = o.of_it;
        speaks = o.speaks;
        known = subst (λ (c : Option ℕ). number_for more c u.last ≡ number_for numbers c u.last) (sym o.speaks) (others j u.last apart) ∙ o.known;
        counted = o.counted;
      })

  -- the opener counts one client more, and a holder for that one comes behind the others
  holders_split : (name : Name) (numbers : List ℕ) (views : List (KeyHolder T)) (v : KeyHolder T) → AreHolders name_of name numbers (length views) views → get_elem? views 0 ≡ some v
      → ((client : ℕ) → length views ≤ suc client → slice_index numbers client ≡ 0) → AreHolders name_of name numbers (length views + 1) (set views 0 (with_one_more v) ++ with_client v ∷ [])
  holders_split name numbers views v are at fresh =
      let h = are 0 v at in
      let count : suc v.next ≡ length views = h.counted refl in
      let long : suc v.next ≡ length (set views 0 (with_one_more v)) = count ∙ sym (length-set views 0 (with_one_more v)) in
      each_snoc (IsHolder name_of name numbers (length views + 1)) (set views 0 (with_one_more v)) (with_client v)
      (record {
        of_it = h.of_it;
        speaks = ap client_at long;
        known = fresh v.next (omega (arith, count));
        counted = λ e. absurd (omega (arith, e, long));
      })
      (each_set (IsHolder name_of name numbers (length views + 1)) views 0 (with_one_more v)
      (record { of_it = h.of_it; speaks = h.speaks; known = h.known; counted = λ e. omega (arith, count) })
      (λ j u there apart. let o = are j u there in record { of_it = o.of_it; speaks = o.speaks; known = o.known; counted = λ e. absurd (apart e) }))

module _ {T : Type 0} (last_of : T → List ℕ) where
  -- where a holder changes but for what it has, the one who has the value still has it
  out_set : (numbers : List ℕ) (views : List (KeyHolder T)) (id : ℕ) (v w : KeyHolder T) (out : IsOut last_of numbers views) → get_elem? views id ≡ some v → w.taken ≡ v.taken → (b : Bool) → (out.seat == id) ≡ b → IsOut last_of numbers (set views id w)
  out_set numbers views id v w out at takens true is =
      let same : out.seat ≡ id = grind (arith, nat_tests) in
      let alike : out.holder ≡ v = same_there views id out.holder v (subst (λ (i : ℕ). get_elem? views i ≡ some out.holder) same out.there) at in
      record {
        seat = id;
        holder = w;
        there = set_here views id w (at_below views id v at);
        value = out.value;
        taken = takens ∙ ap (λ (z : KeyHolder T). z.taken) (sym alike) ∙ out.taken;
        has = out.has;
        others = each_set (λ (j : ℕ) (u : KeyHolder T). j ≢ id → u.taken ≡ None) views id w (λ apart. absurd (apart refl)) (λ j u there other apart. out.others j u there (λ (e : j ≡ out.seat). apart (e ∙ same)));
      }
  out_set numbers views id v w out at takens false is =
      let apart : out.seat ≢ id = grind (arith, nat_tests) in
      record {
        seat = out.seat;
        holder = out.holder;
        there = set_else views id out.seat w apart ∙ out.there;
        value = out.value;
        taken = out.taken;
        has = out.has;
        others = each_set (λ (j : ℕ) (u : KeyHolder T). j ≢ out.seat → u.taken ≡ None) views id w (λ other. takens ∙ out.others id v at other) (λ j u there other far. out.others j u there far);
      }

  -- a holder that has the value is the one who has it
  out_own : (numbers : List ℕ) (views : List (KeyHolder T)) (id : ℕ) (v : KeyHolder T) (x : Snapshot T) (out : IsOut last_of numbers views) → get_elem? views id ≡ some v → v.taken ≡ Some x → (b : Bool) → (out.seat == id) ≡ b
      → (last_of x.value ≡ numbers) × ((j : ℕ) (u : KeyHolder T) → get_elem? views j ≡ some u → j ≢ id → u.taken ≡ None)
  out_own numbers views id v x out at has true is =
      let same : out.seat ≡ id = grind (arith, nat_tests) in
      let alike : out.holder ≡ v = same_there views id out.holder v (subst (λ (i : ℕ). get_elem? views i ≡ some out.holder) same out.there) at in
      let both : Some x ≡ Some out.value = sym has ∙ ap (λ (z : KeyHolder T). z.taken) (sym alike) ∙ out.taken in
      let one : x ≡ out.value = cc in (
        ap (λ (y : Snapshot T). last_of y.value) one ∙ out.has,
        λ j u there apart. out.others j u there (λ (e : j ≡ out.seat). apart (e ∙ same)),
      )
  out_own numbers views id v x out at has false is =
      let apart : id ≢ out.seat = grind (arith, nat_tests) in
      let none_here : v.taken ≡ None = out.others id v at apart in
      absurd (cc)

module _ {T : Type 0} (name_of : T → Name) (last_of : T → List ℕ) where
  own : (name : Name) (s : State (Option T) (KeyHolder T)) (h : IsLocked name_of last_of name s) (id : ℕ) (v : KeyHolder T) (x : Snapshot T) → get_elem? s.views id ≡ some v → v.taken ≡ Some x → (b : Bool) → (slice_index s.words 0 == 0) ≡ b
      → (last_of x.value ≡ h.numbers) × ((j : ℕ) (u : KeyHolder T) → get_elem? s.views j ≡ some u → j ≢ id → u.taken ≡ None)
  own name s h id v x at has true is =
      let free : slice_index s.words 0 ≡ 0 = grind (arith, nat_tests) in
      let none_here : v.taken ≡ None = (h.home free).none_out id v at in
      absurd (cc)
  own name s h id v x at has false is =
      let away : slice_index s.words 0 ≢ 0 = grind (arith, nat_tests) in
      let out = h.out away in
      out_own last_of h.numbers s.views id v x out at has (out.seat == id) refl

  takes_by : (key : Snapshot T) (slots id : ℕ) (v : KeyHolder T) (s : State (Option T) (KeyHolder T)) (h : Locked name_of last_of key s) → get_elem? s.views id ≡ some v
      → (b : Bool) → (slice_index s.words 0 == 0) ≡ b
      → (w : KeyHolder T) × (a : Act (Option T)) × Valid s.homes [] a
      × Locked name_of last_of key (stepped s 0 (either (slice_index s.words 0 == 0) 1 (slice_index s.words 0)) id [] w a)
      × Taken name_of last_of (step slots 0 0 1 none) (v, []) (slice_index s.words 0) (w, carried_after [] a)
  takes_by key slots id v s h at true is =
      let free : slice_index s.words 0 ≡ 0 = grind (arith, nat_tests) in
      let home = h.home free in
      let mine = h.holders id v at in
      let w : KeyHolder T = taken_by home.value v in
      let long : length (set s.views id w) ≡ length s.views = length-set s.views id w in
      let one : slice_index (set s.words 0 (either (slice_index s.words 0 == 0) 1 (slice_index s.words 0))) 0 ≡ 1 = rw is (get_or-set_same s.words 0 1 0 (omega (arith, h.one_word))) in (
        w,
        takes 0 (Some home.value),
        home.there,
        record {
          one_word = length-set s.words 0 _ ∙ h.one_word;
          one_slot = length-set s.homes 0 _ ∙ h.one_slot;
          numbers = h.numbers;
          holders = rw long (holders_set name_of (name_of key.value) h.numbers h.numbers (length s.views) s.views id v w h.holders at refl refl refl mine.known (λ j own apart. refl));
          fresh = rw long h.fresh;
          home = λ e. absurd (cc (one, e));
          out = λ e. record {
            seat = id;
            holder = w;
            there = set_here s.views id w (at_below s.views id v at);
            value = record v.about { value = home.value };
            taken = refl;
            has = home.has;
            others = each_set (λ (j : ℕ) (u : KeyHolder T). j ≢ id → u.taken ≡ None) s.views id w (λ apart. absurd (apart refl)) (λ j u there other apart. home.none_out j u there);
          };
        },
        (
          (λ e. (home.value, refl, home.of_it ∙ sym mine.of_it, rw home.has mine.known)),
          (λ n. absurd (n free)),
        ),
      )
  takes_by key slots id v s h at false is =
      let away : slice_index s.words 0 ≢ 0 = grind (arith, nat_tests) in
      let out = h.out away in
      let mine = h.holders id v at in
      let long : length (set s.views id v) ≡ length s.views = length-set s.views id v in
      let same : slice_index (set s.words 0 (either (slice_index s.words 0 == 0) 1 (slice_index s.words 0))) 0 ≡ slice_index s.words 0 = rw is (get_or-set_same s.words 0 _ 0 (omega (arith, h.one_word))) in (
        v,
        keeps,
        tt,
        record {
          one_word = length-set s.words 0 _ ∙ h.one_word;
          one_slot = h.one_slot;
          numbers = h.numbers;
          holders = rw long (holders_set name_of (name_of key.value) h.numbers h.numbers (length s.views) s.views id v v h.holders at refl refl refl mine.known (λ j own apart. refl));
          fresh = rw long h.fresh;
          home = λ e. absurd (away (sym same ∙ e));
          out = λ e. out_set last_of h.numbers s.views id v v out at refl (out.seat == id) refl;
        },
        ((λ e. absurd (away e)), (λ n. refl)),
      )

  pub vault_takes : (key : Snapshot T) (slots id : ℕ) (v : KeyHolder T) → Allows (Locked name_of last_of key) slots id (v, []) 0 (λ n. either (n == 0) 1 n) (Taken name_of last_of (step slots 0 0 1 none) (v, []))
  vault_takes key slots id v s h len at small = takes_by key slots id v s h at (slice_index s.words 0 == 0) refl

  gives_by : (key : Snapshot T) (slots id : ℕ) (v : KeyHolder T) (x : T) → name_of x ≡ name_of v.about.value → (y : Snapshot T) → v.taken ≡ Some y
      → ((client : ℕ) → v.client ≢ Some client → slice_index (last_of x) client ≡ slice_index (last_of y.value) client)
      → Allows (Locked name_of last_of key) slots id (v, (0, Some x) ∷ []) 0 (λ _. 0) (λ _. Returned last_of (step slots 0 0 0 none) (v, (0, Some x) ∷ []) 0)
  gives_by key slots id v x is y took others s h len at small =
      let w : KeyHolder T = with_last (number_for (last_of x) v.client v.last) v in
      let mine = h.holders id v at in
      let had = own (name_of key.value) s h id v y at took (slice_index s.words 0 == 0) refl in
      let long : length (set s.views id w) ≡ length s.views = length-set s.views id w in
      let below : id < length s.views = at_below s.views id v at in
      let same : (client : ℕ) → id ≢ suc client → slice_index (last_of x) client ≡ slice_index h.numbers client = λ client apart. others client (λ (e : v.client ≡ Some client). apart (client_back id client (sym mine.speaks ∙ e))) ∙ ap (λ (l : List ℕ). slice_index l client) had.0 in (
        w,
        gives,
        tt,
        record {
          one_word = length-set s.words 0 0 ∙ h.one_word;
          one_slot = length-set s.homes 0 (some (Some x)) ∙ h.one_slot;
          numbers = last_of x;
          holders = rw long (holders_set name_of (name_of key.value) h.numbers (last_of x) (length s.views) s.views id v w h.holders at refl refl refl (number_twice (last_of x) v.client v.last) (number_other h.numbers (last_of x) id same));
          fresh = rw long (λ client le. same client (λ (e : id ≡ suc client). absurd (omega (arith, le, below, e))) ∙ h.fresh client le);
          home = λ e. record {
            value = x;
            there = set_here s.homes 0 (some (Some x)) (omega (arith, h.one_slot));
            of_it = is ∙ mine.of_it;
            has = refl;
            none_out = each_set (λ (j : ℕ) (u : KeyHolder T). u.taken ≡ None) s.views id w refl (λ j u there apart. had.1 j u there apart);
          };
          out = λ n. absurd (n (get_or-set_same s.words 0 0 0 (omega (arith, h.one_word))));
        },
        refl,
      )

  gives_from : (key : Snapshot T) (slots id : ℕ) (v : KeyHolder T) (x : T) → name_of x ≡ name_of v.about.value → (t : Option (Snapshot T)) → v.taken ≡ t
      → MatchOption t ⊥ (λ y. (client : ℕ) → v.client ≢ Some client → slice_index (last_of x) client ≡ slice_index (last_of y.value) client)
      → Allows (Locked name_of last_of key) slots id (v, (0, Some x) ∷ []) 0 (λ _. 0) (λ _. Returned last_of (step slots 0 0 0 none) (v, (0, Some x) ∷ []) 0)
  gives_from key slots id v x is (Some y) took others = gives_by key slots id v x is y took others
  gives_from key slots id v x is None took others = absurd others

  pub vault_gives : (key : Snapshot T) (slots id : ℕ) (v : KeyHolder T) (x : T) → name_of x ≡ name_of v.about.value → MayReturn last_of v (last_of x)
      → Allows (Locked name_of last_of key) slots id (v, (0, Some x) ∷ []) 0 (λ _. 0) (λ _. Returned last_of (step slots 0 0 0 none) (v, (0, Some x) ∷ []) 0)
  vault_gives key slots id v x is may = gives_from key slots id v x is v.taken refl may

  splits_first : (key : Snapshot T) (v : KeyHolder T) (s : State (Option T) (KeyHolder T)) (h : Locked name_of last_of key s) → get_elem? s.views 0 ≡ some v
      → Locked name_of last_of key (record { words = s.words; homes = s.homes; views = set s.views 0 (with_one_more v) ++ with_client v ∷ [] })
  splits_first key v s h at =
      let first : List (KeyHolder T) = set s.views 0 (with_one_more v) in
      let long : length (first ++ with_client v ∷ []) ≡ length s.views + 1 = length-append first (with_client v ∷ []) ∙ ap (λ (i : ℕ). i + 1) (length-set s.views 0 (with_one_more v)) in
      record {
        one_word = h.one_word;
        one_slot = h.one_slot;
        numbers = h.numbers;
        holders = rw long (holders_split name_of (name_of key.value) h.numbers s.views v h.holders at h.fresh);
        fresh = λ client le. h.fresh client (omega (arith, le, long));
        home = λ e. let home = h.home e in record {
          value = home.value;
          there = home.there;
          of_it = home.of_it;
          has = home.has;
          none_out = each_snoc (λ (j : ℕ) (u : KeyHolder T). u.taken ≡ None) first (with_client v) refl (each_set (λ (j : ℕ) (u : KeyHolder T). u.taken ≡ None) s.views 0 (with_one_more v) (home.none_out 0 v at) (λ j u there apart. home.none_out j u there));
        };
        out = λ n. let out = out_set last_of h.numbers s.views 0 v (with_one_more v) (h.out n) at refl ((h.out n).seat == 0) refl in record {
          seat = out.seat;
          holder = out.holder;
          there = at_longer first (with_client v ∷ []) out.seat out.holder out.there;
          value = out.value;
          taken = out.taken;
          has = out.has;
          others = each_snoc (λ (j : ℕ) (u : KeyHolder T). j ≢ out.seat → u.taken ≡ None) first (with_client v) (λ apart. refl) out.others;
        };
      }

  pub vault_splits : (key : Snapshot T) (id : ℕ) (v : KeyHolder T) → v.client ≡ None → Splits (Locked name_of last_of key) id v (with_one_more v) (with_client v)
  vault_splits key id v none_here s h at =
      let first : id ≡ 0 = client_none id (sym (h.holders id v at).speaks ∙ none_here) in
      subst (λ (i : ℕ). Locked name_of last_of key (record { words = s.words; homes = s.homes; views = set s.views i (with_one_more v) ++ with_client v ∷ [] })) (sym first)
      (splits_first key v s h (subst (λ (i : ℕ). get_elem? s.views i ≡ some v) first at))

  pub vault_opens : (key : Snapshot T) (x : T) → x ≡ key.value → ((client : ℕ) → slice_index (last_of x) client ≡ 0) → Locked name_of last_of key (opening (0 ∷ []) (Some x ∷ []) (opener key))
  vault_opens key x is none_yet = record {
    one_word = refl;
    one_slot = refl;
    numbers = last_of x;
    holders = each_snoc (IsHolder name_of (name_of key.value) (last_of x) 1) [] (opener key) (record { of_it = refl; speaks = refl; known = refl; counted = λ e. refl }) (λ j u t. absurd (some-ne-none u (sym t)));
    fresh = λ client le. none_yet client;
    home = λ e. record { value = x; there = refl; of_it = ap name_of is; has = refl; none_out = each_snoc (λ (j : ℕ) (u : KeyHolder T). u.taken ≡ None) [] (opener key) refl (λ j u t. absurd (some-ne-none u (sym t))) };
    out = λ n. absurd (n refl);
  }

  -- the same at a seat whose slots are known
  pub takes_at : (key : Snapshot T) (slots id : ℕ) (m : Me (Option T) (KeyHolder T)) → m.1 ≡ [] → Allows (Locked name_of last_of key) slots id m 0 (λ n. either (n == 0) 1 n) (Taken name_of last_of (step slots 0 0 1 none) m)
  takes_at key slots id m e = subst (λ (l : List (ℕ × Option T)). Allows (Locked name_of last_of key) slots id (m.0, l) 0 (λ n. either (n == 0) 1 n) (Taken name_of last_of (step slots 0 0 1 none) (m.0, l))) (sym e) (vault_takes key slots id m.0)

  pub gives_at : (key : Snapshot T) (slots id : ℕ) (m : Me (Option T) (KeyHolder T)) (v : KeyHolder T) (x : T) → m ≡ (v, (0, Some x) ∷ []) → name_of x ≡ name_of v.about.value → MayReturn last_of v (last_of x)
      → Allows (Locked name_of last_of key) slots id m 0 (λ _. 0) (λ _. Returned last_of (step slots 0 0 0 none) m 0)
  gives_at key slots id m v x e is may = subst (λ (z : Me (Option T) (KeyHolder T)). Allows (Locked name_of last_of key) slots id z 0 (λ _. 0) (λ _. Returned last_of (step slots 0 0 0 none) z 0)) (sym e) (vault_gives key slots id v x is may)
