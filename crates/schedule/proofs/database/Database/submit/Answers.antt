use Rattle.std.proofs.Common.{◌++◌, ◌∷◌, [], ◌∙◌, ap, refl, sym}
use Rattle.std.proofs.lemmas.Bool.{true≢false}
use Rattle.kv_core.specs.declared.change.CommitRequest.{CommitRequest}
use Rattle.cluster_core.specs.declared.answers.SubmitError.TheVariants.{TooOld, VersionsExhausted}
use Rattle.cluster_core.specs.Cluster.{with_pipeline}
use Rattle.cluster_core.specs.Roles.{submit, submit_refusal}
use Rattle.schedule.proofs.Places.{none_from}
use Rattle.schedule.proofs.Submits.{nothing_submitted, one_submitted, refusal_is, refused_submission}
use Rattle.schedule.proofs.database.Database.submit.Goals as goal

pub returns-then-is_empty : goal.returns-then-is_empty
returns-then-is_empty c opens subs ended s is =
    nothing_submitted opens subs c.args.client ended c.args.ended c.args.self.now s is
    (ap (λ (r : CommitRequest). r.mutations) (sym c.into_request-request.ensures) ∙ c.is_empty.ensures.0 c.if-is_empty.true)

pub returns-in-Ok : goal.returns-in-Ok
returns-in-Ok c opens subs ended s is =
    let old = c.args.self.now.cluster in
    let request = c.into_request-request.ensures in
    one_submitted opens subs c.args.client c.version.result ended c.args.ended c.args.self.now _ s is
    (λ none. true≢false (sym (c.is_empty.ensures.1 (ap (λ (r : CommitRequest). r.mutations) request ∙ none)) ∙ c.if-is_empty.false))
    (ap (λ (r : CommitRequest). submit_refusal old.pipeline r.read_version) (sym request) ∙ none_from (submit_refusal old.pipeline c.into_request-request.result.read_version) c.in-Ok.ensures.allowed)
    (c.in-Ok.ensures.given.0 ∙ ap (λ (r : CommitRequest). with_pipeline (submit r old.pipeline) old) request)
    (c.version.ensures ∙ c.in-Ok.ensures.given.1)
    refl
    (c.in_ok-push_back-in-Ok.ensures.items
    ∙ (λ i. c.args.self.now.unreported.items ++ (record { client = c.args.client; store = c.args.ended.store; read_version = (request i).read_version; commands = c.args.ended.commands }) ∷ []))
    refl

pub returns-in-Err-VersionsExhausted : goal.returns-in-Err-VersionsExhausted
returns-in-Err-VersionsExhausted c opens subs ended s is =
    let old = c.args.self.now.cluster in
    let request = c.into_request-request.ensures in
    let why = c.in-Err-VersionsExhausted in
    refused_submission opens subs c.args.client ended c.args.ended VersionsExhausted c.args.self.now _ s is
    (λ none. true≢false (sym (c.is_empty.ensures.1 (ap (λ (r : CommitRequest). r.mutations) request ∙ none)) ∙ c.if-is_empty.false))
    (ap (λ (r : CommitRequest). submit_refusal old.pipeline r.read_version) (sym request) ∙ refusal_is _ why.field-0 VersionsExhausted (λ e. cc) why.field-0-is why.ensures.refused)
    why.ensures.unchanged refl refl refl

pub returns-in-Err-TooOld : goal.returns-in-Err-TooOld
returns-in-Err-TooOld c opens subs ended s is =
    let old = c.args.self.now.cluster in
    let request = c.into_request-request.ensures in
    let why = c.in-Err-TooOld in
    refused_submission opens subs c.args.client ended c.args.ended TooOld c.args.self.now _ s is
    (λ none. true≢false (sym (c.is_empty.ensures.1 (ap (λ (r : CommitRequest). r.mutations) request ∙ none)) ∙ c.if-is_empty.false))
    (ap (λ (r : CommitRequest). submit_refusal old.pipeline r.read_version) (sym request) ∙ refusal_is _ why.field-0 TooOld (λ e. cc) why.field-0-is why.ensures.refused)
    why.ensures.unchanged refl refl refl
