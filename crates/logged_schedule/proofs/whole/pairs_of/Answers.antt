use Rattle.std.proofs.Common.{◌≡◌, ◌∙◌, ℕ, List, false, ap₂, arith, subst}
use Rattle.kv_core.specs.Read.{read_of}
use Rattle.cluster_core.specs.Cluster.{database_at}
use Rattle.logged_schedule.proofs.TwoFiles.{whole_read}
use Rattle.logged_schedule.proofs.whole.pairs_of.Goals as goal

pub returns-then-len-lt18446744073709551615-clause-read : goal.returns-then-len-lt18446744073709551615-clause-read
returns-then-len-lt18446744073709551615-clause-read c =
    let cluster = c.args.cluster.now in
    let items = c.in-Ok.pairs.items in
    let range = c.in-Some.range in
    whole_read (database_at cluster cluster.pipeline.reported) range items 18446744073709551615
    (subst (λ v. items ≡ read_of (database_at cluster v) range 18446744073709551615 false) c.read_version.ensures.value c.in-Ok.ensures.pairs)
    (omega (arith, c.len.ensures, c.if-len-lt18446744073709551615.true, c.in-Ok.pairs.ok.0))
    (c.in-Some.ensures.some ∙ ap₂ (λ (b e : List ℕ). record { begin = b; end = e }) (c.new-2.ensures ∙ c.new.ensures.items) c.in_ok-end.ensures)
