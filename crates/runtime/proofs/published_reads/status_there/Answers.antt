use Rattle.std.proofs.Common.{◌≡◌, ◌∙◌, ℕ, ◌<◌, ap, sym, subst}
use Rattle.std.proofs.Common.{length}
use Rattle.runtime.specs.Submissions.{Recent, read_status}
use Rattle.runtime.proofs.Submissions.{counts_length, read_is}
use Rattle.runtime.proofs.published_reads.status_there.Goals as goal

pub status-requires : goal.status-requires
status-requires c =
    let state = c.args.state.now in
    let counts : length state.recent.counts ≡ state.prefix.name.origin.config.places = ap (λ (r : Recent). length r.counts) c.requires.state.1 ∙ counts_length state.prefix.name.origin state.prefix.log in
    (subst (λ (n : ℕ). c.args.client < n) (sym counts) c.requires.client, c.requires.number)

pub returns-clause-status : goal.returns-clause-status
returns-clause-status c =
    let state = c.args.state.now in
    c.status.ensures
    ∙ ap (λ (r : Recent). read_status r c.args.client c.args.number) c.requires.state.1
    ∙ read_is state.prefix.name.origin c.args.client c.args.number state.prefix.log c.requires.client c.requires.number c.len.ensures.well_formed.in_turn
