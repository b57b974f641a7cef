-- Each step keeps the rule of the published state.
use Rattle.std.proofs.Common.{◌≡◌, ◌≢◌, ℕ, true, false, true≢false, List, [], ◌∷◌, ◌++◌, set, fold, refl, ap, sym, ◌∙◌, subst, ⊎_elim}
use mathlib.Core.Option.{some}
use lib.ListN.{get_elem?}
use Rattle.left_right.specs.Register.{Admits, TurnsAt, Turns, Forks, Merges}
use Rattle.atomic_table.proofs.Lists.{at_set, at_snoc}
use Rattle.cluster_core.specs.Tier.{TierState, absorb_all}
use Rattle.runtime.specs.declared.log_entry.Entry.{Entry}
use Rattle.runtime.specs.declared.published.Published.{Published}
use Rattle.runtime.specs.declared.published.Step.{Step}
use Rattle.runtime.specs.declared.published.View.{View}
use Rattle.runtime.specs.Logs.{log_tier}
use Rattle.runtime.specs.Submissions.{Recent, outcomes_of, with_outcome}
use Rattle.runtime.specs.History.{Name, Prefix, log_prefix, submitted_entry}
use Rattle.std.specs.Prelude.{Result, Ok, Err, MatchResult, ⊤}
use Rattle.runtime.specs.Publication.{publisher_view, newcomer, has_seen, newly_given, IsFold, IsLater, Kept, Sees, Leads, LeadOn, entries_of, applied}
use Rattle.runtime.proofs.Beginnings.{prefix_self, prefix_trans}
use Rattle.runtime.proofs.Entries.{tier_next}
use Rattle.runtime.proofs.Submissions.{recent_next}

off : false ≡ true → ⊥
off e = true≢false (sym e)

pub later_self : (p : Prefix) → IsLater p p
later_self p = (refl, prefix_self p.log)

pub later_trans : (p q r : Prefix) → IsLater p q → IsLater q r → IsLater p r
later_trans p q r one other = (other.0 ∙ one.0, prefix_trans p.log q.log r.log one.1 other.1)

pub later_by : (x y : Published) (more : List Entry) → y.prefix ≡ log_prefix x.prefix.name (x.prefix.log ++ more) → IsLater x.prefix y.prefix
later_by x y more is = (ap (λ (p : Prefix). p.name) is, (more, sym (ap (λ (p : Prefix). p.log) is)))

-- what the rule says of one view
abbrev Fits : Prefix → View → Type 0
Fits b v = v.named ≡ true → IsLater v.prefix b

fits_set : (b : Prefix) (views : List View) (seat : ℕ) (w : View) → ((j : ℕ) (u : View) → get_elem? views j ≡ some u → Fits b u) → Fits b w → (j : ℕ) (u : View) → get_elem? (set views seat w) j ≡ some u → Fits b u
fits_set b views seat w all mine j u e = ⊎_elim (λ (t : (j ≡ seat) × (w ≡ u)). subst (Fits b) t.1 mine) (λ (t : (j ≢ seat) × (get_elem? views j ≡ some u)). all j u t.1) (at_set views seat j w u e)

pub begins : (x : Published) → IsFold x → Kept x (newcomer ∷ [])
begins x f = (f, λ j u e. ⊎_elim (λ (t : get_elem? [] j ≡ some u). λ n. absurd (nothing j u t)) (λ (t : newcomer ≡ u). subst (Fits x.prefix) t (λ n. absurd (off n))) (at_snoc [] newcomer u j e))
  where
    nothing : (j : ℕ) (u : View) → get_elem? [] j ≡ some u → ⊥
    nothing j u t = cc

pub admits : Admits Kept newcomer
admits x views h = (h.0, λ j v at. ⊎_elim (h.1 j v) (λ (e : newcomer ≡ v). subst (Fits x.prefix) e (λ n. absurd (off n))) (at_snoc views newcomer v j at))

pub sees : (seat : ℕ) (v : View) (x y : Published) → IsLater x.prefix y.prefix → IsFold y → TurnsAt Kept seat v x y Sees
sees seat v x y later f views h at =
    let all : (j : ℕ) (u : View) → get_elem? views j ≡ some u → Fits y.prefix u = λ j u e n. later_trans u.prefix x.prefix y.prefix (h.1 j u e n) later in
    (has_seen y.prefix, (f, fits_set y.prefix views seat (has_seen y.prefix) all (λ n. later_self y.prefix)), (refl, f, all seat v at))

pub enters : (seat : ℕ) (v : View) → Turns Kept seat v (λ x. x) Sees
enters seat v x views h at = sees seat v x x (later_self x.prefix) h.0 views h at

-- what a new thread is given fits too
told_fits : (p : Prefix) (v : View) → Fits p v → Fits p (newly_given v)
told_fits p v fits n = ((fits n).0, (p.log, refl))

pub forks : (seat : ℕ) (v : View) → Forks Kept seat v v (newly_given v)
forks seat v x views h at =
    (h.0, λ j u e. ⊎_elim (λ (b : get_elem? (set views seat v) j ≡ some u). fits_set x.prefix views seat v h.1 (h.1 seat v at) j u b) (λ (same : newly_given v ≡ u). subst (Fits x.prefix) same (told_fits x.prefix v (h.1 seat v at))) (at_snoc (set views seat v) (newly_given v) u j e))

pub merges : (seat : ℕ) (v : View) (other : ℕ) (w : View) → Merges Kept seat v other w w newcomer
merges seat v other w x views h at apart there =
    let theirs : Fits x.prefix w = ⊎_elim (λ (t : (other ≡ seat) × (w ≡ w)). absurd (apart t.0)) (λ (t : (other ≢ seat) × (get_elem? views other ≡ some w)). h.1 other w t.1) (at_set views seat other w w there) in
    (h.0, fits_set x.prefix (set views seat w) other newcomer (fits_set x.prefix views seat w h.1 theirs) (λ n. absurd (off n)))

-- what the published state has of a log
abbrev pub state_at : Name → List Entry → TierState × Recent × Prefix
state_at b log = (log_tier b.origin log, outcomes_of b.origin log, log_prefix b log)

abbrev pub state_of : Published → TierState × Recent × Prefix
state_of x = (x.tier, x.recent, x.prefix)

none_more : (l : List Entry) → l ≡ l ++ []
none_more [] = refl
none_more (x ∷ xs) = ap (λ ys. x ∷ ys) (none_more xs)

append_one : (l : List Entry) (e : Entry) (more : List Entry) → (l ++ e ∷ []) ++ more ≡ l ++ e ∷ more
append_one [] e more = refl
append_one (x ∷ xs) e more = ap (λ ys. x ∷ ys) (append_one xs e more)

-- the pending steps lead from the state of a log to that of the longer log
pub folded : (b : Name) (log : List Entry) (ss : List Step) → LeadOn b log ss
    → fold applied (state_at b log) ss ≡ state_at b (log ++ entries_of ss)
folded b log [] f = ap (state_at b) (none_more log)
folded b log (s ∷ ss) f =
    let next : List Entry = log ++ submitted_entry s.submitted ∷ [] in
    let tier : absorb_all s.mutations (log_tier b.origin log) ≡ log_tier b.origin next = ap (λ ms. absorb_all ms (log_tier b.origin log)) f.0.1 ∙ tier_next b.origin log (submitted_entry s.submitted) in
    let kept : with_outcome (outcomes_of b.origin log) s.submitted.client s.version ≡ outcomes_of b.origin next = ap (with_outcome (outcomes_of b.origin log) s.submitted.client) f.0.2 ∙ recent_next b.origin log (submitted_entry s.submitted) in
    let one : applied (state_at b log) s ≡ state_at b next = (λ i. (tier i, kept i, f.0.0 i)) in
    ap (λ (z : TierState × Recent × Prefix). fold applied z ss) one ∙ folded b next ss f.1 ∙ ap (state_at b) (append_one log (submitted_entry s.submitted) (entries_of ss))

-- one step more at the end
pub follow_more : (b : Name) (log : List Entry) (ss : List Step) (s : Step) → LeadOn b log ss → Leads b (log ++ entries_of ss) s → LeadOn b log (ss ++ s ∷ [])
follow_more b log [] s f leads = (subst (λ (l : List Entry). Leads b l s) (sym (none_more log)) leads, tt)
follow_more b log (t ∷ ss) s f leads = (f.0, follow_more b (log ++ submitted_entry t.submitted ∷ []) ss s f.1 (subst (λ (l : List Entry). Leads b l s) (sym (append_one log (submitted_entry t.submitted) (entries_of ss))) leads))

pub entries_more : (ss : List Step) (s : Step) → entries_of (ss ++ s ∷ []) ≡ entries_of ss ++ submitted_entry s.submitted ∷ []
entries_more [] s = refl
entries_more (t ∷ ss) s = ap (λ es. submitted_entry t.submitted ∷ es) (entries_more ss s)

-- a state that has what a log says
pub fold_by : (b : Name) (log : List Entry) (y : Published) → state_of y ≡ state_at b log → IsFold y
fold_by b log y is =
    let prefix : y.prefix ≡ log_prefix b log = ap (λ (z : TierState × Recent × Prefix). z.2) is in (
      ap (λ (z : TierState × Recent × Prefix). z.0) is ∙ sym (ap (λ (r : Prefix). log_tier r.name.origin r.log) prefix),
      ap (λ (z : TierState × Recent × Prefix). z.1) is ∙ sym (ap (λ (r : Prefix). outcomes_of r.name.origin r.log) prefix),
    )

-- a state that the pending steps lead to
pub next_is : (x y : Published) (ss : List Step) → IsFold x → LeadOn x.prefix.name x.prefix.log ss → state_of y ≡ fold applied (state_of x) ss
    → (y.prefix ≡ log_prefix x.prefix.name (x.prefix.log ++ entries_of ss)) × IsFold y
next_is x y ss f follow is =
    let start : state_of x ≡ state_at x.prefix.name x.prefix.log = (λ i. (f.0 i, f.1 i, x.prefix)) in
    let p : state_of y ≡ state_at x.prefix.name (x.prefix.log ++ entries_of ss) = is ∙ ap (λ (z : TierState × Recent × Prefix). fold applied z ss) start ∙ folded x.prefix.name x.prefix.log ss follow in
    let prefix : y.prefix ≡ log_prefix x.prefix.name (x.prefix.log ++ entries_of ss) = ap (λ (z : TierState × Recent × Prefix). z.2) p in
    (prefix, fold_by x.prefix.name (x.prefix.log ++ entries_of ss) y p)

-- what a publish leaves
abbrev pub Rests : Published → List Step → View → Type 0
Rests x ss v = IsFold x × LeadOn x.prefix.name x.prefix.log ss × (v ≡ has_seen x.prefix)

pub rests_after : {E : Type 0} (x y : Published) (ss ss' : List Step) (v w : View) (r : Result ⊤ E) → Rests x ss v
    → MatchResult r (λ _. (state_of y ≡ fold applied (state_of x) ss) × (ss' ≡ [])) (λ _. (y ≡ x) × (ss' ≡ ss))
    → MatchResult r (λ _. Sees v x y w) (λ _. w ≡ v) → Rests y ss' w
rests_after x y ss ss' v w (Ok t) rest values rule = (rule.1, subst (LeadOn y.prefix.name y.prefix.log) (sym values.1) tt, rule.0)
rests_after x y ss ss' v w (Err e) rest values rule =
    (subst IsFold (sym values.0) rest.0, subst (λ (z : Published × List Step). LeadOn z.0.prefix.name z.0.prefix.log z.1) (λ i. (sym values.0 i, sym values.1 i)) rest.1, rule ∙ rest.2 ∙ ap (λ (z : Published). has_seen z.prefix) (sym values.0))

pub shown_after : {E : Type 0} (x y : Published) (ss ss' : List Step) (v : View) (r : Result ⊤ E) → Rests x ss v
    → MatchResult r (λ _. (state_of y ≡ fold applied (state_of x) ss) × (ss' ≡ [])) (λ _. (y ≡ x) × (ss' ≡ ss))
    → MatchResult r (λ _. publisher_view y.prefix.name y.prefix.log (entries_of ss') ≡ publisher_view x.prefix.name (x.prefix.log ++ entries_of ss) []) (λ _. publisher_view y.prefix.name y.prefix.log (entries_of ss') ≡ publisher_view x.prefix.name x.prefix.log (entries_of ss))
shown_after x y ss ss' v (Ok t) rest values =
    let n = next_is x y ss rest.0 rest.1 values.0 in
    ap (λ (r : Prefix). publisher_view r.name r.log (entries_of ss')) n.0 ∙ ap (λ (l : List Step). publisher_view x.prefix.name (x.prefix.log ++ entries_of ss) (entries_of l)) values.1
shown_after x y ss ss' v (Err e) rest values = (λ i. publisher_view (values.0 i).prefix.name (values.0 i).prefix.log (entries_of (values.1 i)))

-- what an append leaves
pub rests_appended : (x : Published) (ss ss' : List Step) (v : View) (s : Step) (r : Result ⊤ Step) → Rests x ss v → Leads x.prefix.name (x.prefix.log ++ entries_of ss) s
    → MatchResult r (λ _. ss' ≡ ss ++ s ∷ []) (λ z. (z ≡ s) × (ss' ≡ ss)) → Rests x ss' v
rests_appended x ss ss' v s (Ok t) rest next more = (rest.0, subst (LeadOn x.prefix.name x.prefix.log) (sym more) (follow_more x.prefix.name x.prefix.log ss s rest.1 next), rest.2)
rests_appended x ss ss' v s (Err z) rest next more = (rest.0, subst (LeadOn x.prefix.name x.prefix.log) (sym more.1) rest.1, rest.2)

pub shown_appended : (x : Published) (ss ss' : List Step) (s : Step) (r : Result ⊤ Step)
    → MatchResult r (λ _. ss' ≡ ss ++ s ∷ []) (λ z. (z ≡ s) × (ss' ≡ ss))
    → MatchResult r (λ _. publisher_view x.prefix.name x.prefix.log (entries_of ss') ≡ publisher_view x.prefix.name x.prefix.log (entries_of ss ++ submitted_entry s.submitted ∷ [])) (λ z. (z ≡ s) × (publisher_view x.prefix.name x.prefix.log (entries_of ss') ≡ publisher_view x.prefix.name x.prefix.log (entries_of ss)))
shown_appended x ss ss' s (Ok t) more = ap (publisher_view x.prefix.name x.prefix.log) (ap entries_of more ∙ entries_more ss s)
shown_appended x ss ss' s (Err z) more = (more.0, ap (λ (l : List Step). publisher_view x.prefix.name x.prefix.log (entries_of l)) more.1)
