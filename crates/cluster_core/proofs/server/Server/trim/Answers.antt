use Rattle.std.proofs.Common.{◌≡◌, ◌∙◌, ◌∷◌, ◌++◌, ◌+◌, ◌-◌, ◌≤◌, [], List, ℕ, arith, ap, cond, length, map, refl, sym}
use Rattle.std.proofs.lemmas.List.{length_push, map-append}
use Rattle.kv_core.specs.Bytes.{has_key}
use Rattle.cluster_core.specs.Chains.{links_at, needed}
use Rattle.cluster_core.proofs.ServerSteps.{rest_falling, trimmed_kept, trimmed_state, within_kept, within_state}
use Rattle.cluster_core.proofs.server.Server.trim.Goals as goal

within : (c : goal.Then-len-window) → length c.args.self.now.recent.items ≤ c.args.window
within c =
    let count : c.len.result ≡ length c.args.self.now.recent.items = c.len.ensures ∙ c.args.self.now.recent.ok.0 in
    let upto = c.if-len-window.true in
    omega (arith, count, upto)

pub returns-then-len-window-clause-state : goal.returns-then-len-window-clause-state
returns-then-len-window-clause-state c = λ i. record { version = c.args.self.now.version; maps = sym (within_state c.args.self.now c.args.window (within c)) i }

pub returns-then-len-window-clause-kept : goal.returns-then-len-window-clause-kept
returns-then-len-window-clause-kept c = within_kept c.args.self.now c.args.window c.requires.rest (within c)

pub settle-requires : goal.settle-requires
settle-requires c = rest_falling c.args.self.now c.requires.rest

one_less : (c : goal.After-drop-keys) → length c.pop_back.new.self.items ≡ c.args.window
one_less c =
    let more : length c.args.self.now.recent.items ≡ length c.pop_back.new.self.items + 1 = ap length c.in-Some.ensures.items ∙ length_push c.pop_back.new.self.items c.in-Some.keys in
    let count : c.len.result ≡ length c.args.self.now.recent.items = c.len.ensures ∙ c.args.self.now.recent.ok.0 in
    let past = c.if-len-window.false in
    let upto = c.requires.depth in
    omega (arith, more, count, past, upto)

last_out : (c : goal.After-drop-keys) → map (λ keys. keys.items) c.args.self.now.recent.items ≡ map (λ keys. keys.items) c.pop_back.new.self.items ++ c.in-Some.keys.items ∷ []
last_out c = ap (map (λ keys. keys.items)) c.in-Some.ensures.items ∙ map-append (λ keys. keys.items) c.pop_back.new.self.items (c.in-Some.keys ∷ [])

settled : (c : goal.After-drop-keys) (key : List ℕ) → links_at c.settle.new.self.chains key ≡
    cond (has_key c.in-Some.keys.items key) (needed (c.args.self.now.version - length c.pop_back.new.self.items) (links_at c.args.self.now.chains.chains key)) (links_at c.args.self.now.chains.chains key)
settled c key =
    let floor : c.saturating_sub-floor.result ≡ c.args.self.now.version - length c.pop_back.new.self.items =
    c.saturating_sub-floor.ensures ∙ ap (λ n. c.args.self.now.version - n) (c.len-in-Some.ensures ∙ c.pop_back.new.self.ok.0) in
    c.settle.ensures.chains key
    ∙ (λ i. cond (has_key (c.as_slice.ensures.value i) key) (needed (floor i) (links_at c.args.self.now.chains.chains key)) (links_at c.args.self.now.chains.chains key))

pub returns-in-Some-clause-state : goal.returns-in-Some-clause-state
returns-in-Some-clause-state c =
    trimmed_state c.args.self.now (record c.args.self.now { chains = c.settle.new.self; recent = c.pop_back.new.self }) c.in-Some.keys.items c.args.window refl refl (last_out c) (one_less c) c.requires.rest
    (settled c) (c.settle.ensures.written ∙ c.requires.rest.idle)

pub returns-in-Some-clause-kept : goal.returns-in-Some-clause-kept
returns-in-Some-clause-kept c =
    trimmed_kept c.args.self.now (record c.args.self.now { chains = c.settle.new.self; recent = c.pop_back.new.self }) c.in-Some.keys.items c.args.window refl refl (last_out c) (one_less c) c.requires.rest
    (settled c) (c.settle.ensures.written ∙ c.requires.rest.idle)
