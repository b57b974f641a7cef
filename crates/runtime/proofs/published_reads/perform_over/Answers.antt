use Rattle.std.proofs.Common.{◌≡◌, ℕ, ◌-◌, ◌≤◌, List, sym, ap, ◌∙◌, refl, subst, arith}
use Rattle.runtime.specs.Origins.{Origin}
use Rattle.cluster_core.specs.Tier.{TierState, whole_map}
use Rattle.cluster_core.specs.Refusing.{MayRefuse}
use Rattle.schedule.specs.Known.{IsKnown, StaysKnown}
use Rattle.schedule.specs.Performed.{IsCommandStopped, IsPerformed}
use Rattle.runtime.specs.declared.log_entry.Entry.{Entry}
use Rattle.runtime.specs.declared.performed.Performed.{Performed}
use Rattle.runtime.specs.Traces.{Trace, with_performed}
use Rattle.runtime.specs.History.{Name}
use Rattle.runtime.specs.Logs.{IsOpenOver, version_of, log_tier}
use Rattle.runtime.specs.Serves.{IsAnswer}
use Rattle.runtime.proofs.KnownStores.{known_here, known_there}
use Rattle.runtime.proofs.Serving.{answers_right, stops_right}
use Rattle.runtime.proofs.published_reads.perform_over.Goals as goal

module _ (c : goal.After-add) where
  abbrev origin : Origin
  origin = c.args.prefix.now.name.origin

  abbrev log : List Entry
  log = c.args.prefix.now.log

  abbrev ys : List Entry
  ys = c.args.state.now.prefix.log

  abbrev one : Performed
  one = record { command = c.args.command.now; reply = c.in-Ok.reply }

  from : origin.config.start ≤ c.args.tx.now.read_version
  from = let at : c.args.tx.now.read_version ≡ version_of origin log = c.requires.at in omega (arith, at)

  near : version_of origin ys - c.args.tx.now.read_version ≤ origin.config.window
  near = subst (λ (v : ℕ). version_of origin ys - v ≤ origin.config.window) (sym c.requires.at) (subst (λ (n : Name). version_of n.origin ys - version_of origin log ≤ origin.config.window) c.requires.state.1 (c.if-not-is_near.ensures.0 refl))

  tier : c.args.state.now.tier ≡ log_tier origin ys
  tier = c.requires.state.0.0 ∙ ap (λ (n : Name). log_tier n.origin ys) c.requires.state.1

  performed : IsPerformed c.args.trace.now.store (whole_map (log_tier origin ys)) (λ range. MayRefuse (log_tier origin ys) range c.args.tx.now.read_version) c.args.command.now c.in-Ok.reply c.args.tx.now c.perform_open.new.tx
  performed =
      subst (λ (s : ℕ). IsPerformed s (whole_map (log_tier origin ys)) (λ range. MayRefuse (log_tier origin ys) range c.args.tx.now.read_version) c.args.command.now c.in-Ok.reply c.args.tx.now c.perform_open.new.tx) c.store.ensures
      (subst (λ (t : TierState). IsPerformed c.store.result (whole_map t) (λ range. MayRefuse t range c.args.tx.now.read_version) c.args.command.now c.in-Ok.reply c.args.tx.now c.perform_open.new.tx) tier c.in-Ok.ensures.performed)

  right : IsOpenOver origin log c.perform_open.new.tx (with_performed c.args.trace.now one) × IsAnswer origin log c.args.tx.now c.args.trace.now c.args.command.now c.in-Ok.reply × (c.perform_open.new.tx.read_version ≡ c.args.tx.now.read_version)
  right = answers_right origin log ys c.args.tx.now c.perform_open.new.tx c.args.trace.now c.args.command.now c.in-Ok.reply c.version.ensures.well_formed c.if-not-begins.ensures c.requires.over from near performed

pub returns-in-Ok-clause-answer : goal.returns-in-Ok-clause-answer
returns-in-Ok-clause-answer c = (right c).1

pub returns-in-Ok-clause-over : goal.returns-in-Ok-clause-over
returns-in-Ok-clause-over c = subst (λ (trace : Trace). IsOpenOver (origin c) (log c) c.perform_open.new.tx trace) (sym c.add.ensures) (right c).0

pub returns-in-Err-clause-over : goal.returns-in-Err-clause-over
returns-in-Err-clause-over c =
    let origin : Origin = c.args.prefix.now.name.origin in
    let log : List Entry = c.args.prefix.now.log in
    let ys : List Entry = c.args.state.now.prefix.log in
    let at : c.args.tx.now.read_version ≡ version_of origin log = c.requires.at in
    let near : version_of origin ys - c.args.tx.now.read_version ≤ origin.config.window = subst (λ (v : ℕ). version_of origin ys - v ≤ origin.config.window) (sym at) (subst (λ (n : Name). version_of n.origin ys - version_of origin log ≤ origin.config.window) c.requires.state.1 (c.if-not-is_near.ensures.0 refl)) in
    let tier : c.args.state.now.tier ≡ log_tier origin ys = c.requires.state.0.0 ∙ ap (λ (n : Name). log_tier n.origin ys) c.requires.state.1 in
    let there : IsCommandStopped c.store.result (whole_map (log_tier origin ys)) c.args.command.now c.args.tx.now c.perform_open.new.tx = subst (λ (t : TierState). IsCommandStopped c.store.result (whole_map t) c.args.command.now c.args.tx.now c.perform_open.new.tx) tier c.in-Err.ensures.stopped in
    let is : IsCommandStopped c.args.trace.now.store (whole_map (log_tier origin ys)) c.args.command.now c.args.tx.now c.perform_open.new.tx = subst (λ (s : ℕ). IsCommandStopped s (whole_map (log_tier origin ys)) c.args.command.now c.args.tx.now c.perform_open.new.tx) c.store.ensures there in
    subst (λ (trace : Trace). IsOpenOver origin log c.perform_open.new.tx trace) (sym c.add-in-Err.ensures)
    (stops_right origin log ys c.args.tx.now c.perform_open.new.tx c.args.trace.now c.args.command.now c.if-not-begins.ensures c.requires.over (omega (arith, at)) near is).0

-- ---- what is known

pub perform_open-requires : goal.perform_open-requires
perform_open-requires c = record {
  known = subst (λ (s : ℕ). IsKnown s (whole_map c.args.state.now.tier) c.args.known.now.store c.args.tx.now) (sym c.store.ensures)
      (known_there c.args.prefix.now c.args.state.now.prefix c.args.state.now.tier c.args.trace.now c.args.tx.now c.args.known.now.store
      (record { named = c.requires.state.1; pulled = c.requires.state.0.0; begins = c.if-not-begins.ensures; near = c.if-not-is_near.ensures.0 refl; over = c.requires.over; at = c.requires.at }) c.requires.known);
}

pub returns-in-Ok-clause-known : goal.returns-in-Ok-clause-known
returns-in-Ok-clause-known c =
    known_here c.args.prefix.now c.args.state.now.prefix c.args.state.now.tier c.args.trace.now c.args.tx.now c.perform_open.new.tx c.perform_open.new.known.store
    (record { named = c.requires.state.1; pulled = c.requires.state.0.0; begins = c.if-not-begins.ensures; near = c.if-not-is_near.ensures.0 refl; over = c.requires.over; at = c.requires.at })
    c.version.ensures.well_formed (right c).2
    (subst (λ (s : ℕ). StaysKnown s (whole_map c.args.state.now.tier) c.perform_open.new.known.store c.args.tx.now c.perform_open.new.tx) c.store.ensures c.in-Ok.ensures.known)

pub returns-in-Err-clause-known : goal.returns-in-Err-clause-known
returns-in-Err-clause-known c =
    known_here c.args.prefix.now c.args.state.now.prefix c.args.state.now.tier c.args.trace.now c.args.tx.now c.perform_open.new.tx c.perform_open.new.known.store
    (record { named = c.requires.state.1; pulled = c.requires.state.0.0; begins = c.if-not-begins.ensures; near = c.if-not-is_near.ensures.0 refl; over = c.requires.over; at = c.requires.at })
    c.version.ensures.well_formed c.in-Err.ensures.stopped.ran.version
    (subst (λ (s : ℕ). StaysKnown s (whole_map c.args.state.now.tier) c.perform_open.new.known.store c.args.tx.now c.perform_open.new.tx) c.store.ensures c.in-Err.ensures.known)
