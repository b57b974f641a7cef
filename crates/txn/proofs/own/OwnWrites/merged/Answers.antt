use Rattle.std.proofs.Common.{◌≡◌, ◌∙◌, [], ap, cond, sym, vec_len}
use Rattle.std.proofs.lemmas.Bool.{eqb-true}
use Rattle.std.proofs.lemmas.Result.{IfOk-weaker}
use Rattle.std.specs.FinMap.{get}
use Rattle.kv_core.specs.Bytes.{has_key}
use Rattle.kv_core.specs.Read.{read_of}
use Rattle.txn.specs.Own.{own_state, sum_at, under, worth_of}
use Rattle.txn.proofs.Comparing.{known_in, merged_compared, no_elements}
use Rattle.txn.proofs.Merging.{kept_at, merged_is}
use Rattle.txn.proofs.own.OwnWrites.merged.Goals as goal

pub returns : goal.returns
returns c = λ base m under_is tell.
    c.in_ok-pairs.ensures
    ∙ merged_compared (own_state c.args.self.now) base m c.in_ok-left.left c.in_ok-laid.laid c.args.range.now c.in_ok-keys.keys.items c.args.limit c.args.reverse c.in_ok-keys.ensures under_is
    (λ q h. ap (λ x. get x q) c.in_ok-left.ensures ∙ kept_at c.args.self.now.cleared c.args.stored.items q ∙ tell q h)
    (λ q h. c.in_ok-laid.ensures q h
    ∙ ap (λ ks. cond (has_key ks q) (under (own_state c.args.self.now) q (get c.in_ok-left.left q)) (worth_of (get c.args.self.now.written q) (sum_at c.args.self.now.sums.entries q) (get c.in_ok-left.left q))) c.as_slice.ensures.value)

pub returns-then-is_empty : goal.returns-then-is_empty
returns-then-is_empty c =
    let own = c.args.self.now in
    let none : c.in_ok-keys.keys.items ≡ [] = no_elements c.in_ok-keys.keys.items (sym c.in_ok-keys.keys.ok.0 ∙ eqb-true (vec_len c.in_ok-keys.keys) 0 (sym c.is_empty.ensures ∙ c.if-is_empty.true)) in
    IfOk-weaker c.merged_known.result _ _
    (λ pairs is base m under_is tell.
    is
    ∙ merged_is (own_state own) base m c.in_ok-left.left c.args.range.now c.args.limit c.args.reverse c.requires
    (λ q h. under_is q ∙ known_in (own_state own) c.args.range.now c.in_ok-keys.keys.items c.in_ok-keys.ensures none q h (get base q))
    (λ q h. ap (λ x. get x q) c.in_ok-left.ensures ∙ kept_at own.cleared c.args.stored.items q ∙ tell q h)) c.merged_known.ensures
